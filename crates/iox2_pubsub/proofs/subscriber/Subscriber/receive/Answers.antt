use Rattle.std.proofs.Common.{◌≡◌, ℕ, ap, sym, subst, ◌∙◌, Ok, Err, Some, None, refl, Option}
use Rattle.std.proofs.lemmas.Result.{err_from_is_err_and}
use Rattle.iox2_domain.specs.Boxes.{answers_of}
use Rattle.iox2_pubsub.proofs.KeptAnswers.{received}
use Rattle.iox2_machine.specs.machine.Receives.{Got_sample, No_sample, Receive_error}
use Rattle.iox2_domain.specs.Fields.{keeping}
use Rattle.iox2_pubsub.specs.Live.{A_sample, IsNewIn}
use Rattle.iox2_pubsub.specs.ReceivedSamples.{received_result}
use Rattle.iox2_domain.specs.Receipts.{ReceivesAs}
use Rattle.iox2_domain.specs.declared.sample_slots.Receipt.{Receipt}
use Rattle.iox2_pubsub.specs.Sample.{Sample}
use Rattle.iox2_pubsub.proofs.ReceptionShown.{reception-agrees, reception-at, reception-shows, reception-live}
use Rattle.iox2_pubsub.proofs.ReceptionShown.{reception-origin, error-shows}
use Rattle.iox2_pubsub.proofs.PlacedHandles.{subscriber-at-place, subscriber-there}
use Rattle.iox2_pubsub.proofs.CallsStay.{always-shown, received-is-new}
use Rattle.iox2_pubsub.proofs.WaitingShown.{received-fewer, received-none, received-reads, received-oldest}
use Rattle.iox2_pubsub.proofs.UpToDateShown.{received-updated}
use Rattle.iox2_pubsub.proofs.UpdatesLeave.{reception-left}
use Rattle.iox2_pubsub.proofs.PublisherWaits.{one-is-all, receive-takes-first}
use Rattle.iox2_pubsub.proofs.BorrowsLeftShown.{receive-borrows-none, receive-granted, receive-granted-of}
use Rattle.iox2_pubsub.proofs.BorrowsLeftShown.{receive-leaves-of, receive-takes, receive-unlimited}
use Rattle.iox2_pubsub.proofs.KeptReceives.{nothing-moves, nothing-waited, one-fewer-waits, others-wait-still}
use Rattle.iox2_pubsub.proofs.StaysBut.{consistent-shown, same-boxes}
use Rattle.iox2_pubsub.proofs.subscriber.Subscriber.receive.Given.{Over}
use Rattle.iox2_pubsub.proofs.subscriber.Subscriber.receive.Goals as goal

-- the subscriber has received, as its domain's boxes answer
got-one : (g : Over) (c : goal.In-Some g)
    → ReceivesAs (answers_of g.F.BackpressureFn.allows g.G.DegradationFn.allows c.args.domain.now.boxes.subscribers)
    c.domain.inside.state c.args.self.now.id (Ok (Some c.in-Some.receipt)) c.receive_at.new.state
got-one g c =
    reception-at {T = g.row.T.Denot} {U = g.row.U.Denot}
    (answers_of g.F.BackpressureFn.allows g.G.DegradationFn.allows c.args.domain.now.boxes.subscribers)
    c.domain.inside.state c.receive_at.new.state c.args.self.now.place c.args.self.now.id c.receive_at.result
    (Ok (Some c.in-Some.receipt))
    (subscriber-at-place {T = g.row.T.Denot} {U = g.row.U.Denot} c.domain.inside.state c.domain.invariant
    c.args.domain.now c.domain.view_is c.args.self.now c.requires.live)
    (c.in_ok-receipt.was ∙ ap (λ (o : Option Receipt). Ok o) c.in-Some.is)
    (received g.F.BackpressureFn.allows g.G.DegradationFn.allows c.domain.inside.state c.receive_at.new.state
    c.args.domain.now c.domain.view_is c.args.self.now.place c.receive_at.result c.receive_at.ensures)

pub returns-in_err-receipt : goal.returns-in_err-receipt
returns-in_err-receipt g c =
    let refused = err_from_is_err_and c.from_residual.result c.from_residual.ensures.1 in
    let shows =
    error-shows {T = g.row.T.Denot} {U = g.row.U.Denot}
    (answers_of g.F.BackpressureFn.allows g.G.DegradationFn.allows c.args.domain.now.boxes.subscribers)
    c.args.domain.now c.domain.inside.state c.receive_at.new.state c.domain.view_is c.args.self.now.id
    c.in_err-receipt.field-0.0
    (reception-at {T = g.row.T.Denot} {U = g.row.U.Denot}
    (answers_of g.F.BackpressureFn.allows g.G.DegradationFn.allows c.args.domain.now.boxes.subscribers)
    c.domain.inside.state c.receive_at.new.state c.args.self.now.place c.args.self.now.id c.receive_at.result
    (Err c.in_err-receipt.field-0.0)
    (subscriber-at-place {T = g.row.T.Denot} {U = g.row.U.Denot} c.domain.inside.state c.domain.invariant
    c.args.domain.now c.domain.view_is c.args.self.now c.requires.live) c.in_err-receipt.was
    (received g.F.BackpressureFn.allows g.G.DegradationFn.allows c.domain.inside.state c.receive_at.new.state
    c.args.domain.now c.domain.view_is c.args.self.now.place c.receive_at.result c.receive_at.ensures))
    c.from_residual.result c.from_residual.ensures.1 in
    let it = always-shown {T = g.row.T.Denot}
    {U = g.row.U.Denot} c.domain.inside.state c.args.domain.now c.domain.invariant c.domain.view_is in
    let step = shows it.0 it.1 it.2 in
    record {
      consistent = consistent-shown c.args.domain.now it.0 it.1 it.2;
      receives = shows;
      received = rw refused.1 tt;
      none = rw refused.1 tt;
      nothing = λ keeps. rw refused.1 tt;
      updated = rw refused.1 tt;
      undisturbed = λ keeps. nothing-moves {T = g.row.T.Denot} {U = g.row.U.Denot} c.args.domain.now
          (keeping (record {
            publishers = (c.domain.inside.boxes).boxes;
            subscribers = (c.domain.inside.subscriber_boxes).boxes;
          }) c.receive_at.new.state) it.0 it.0 it.1 step.0 it.2 step.1
          (answers_of g.F.BackpressureFn.allows g.G.DegradationFn.allows c.args.domain.now.boxes.subscribers)
          c.args.self.now keeps (λ n entry at. at) c.from_residual.result step.2;
      granted = λ n updated left. receive-granted {T = g.row.T.Denot} {U = g.row.U.Denot} c.args.domain.now
          (keeping (record {
            publishers = (c.domain.inside.boxes).boxes;
            subscribers = (c.domain.inside.subscriber_boxes).boxes;
          }) c.receive_at.new.state) it.0 it.0 it.1 step.0 it.2 step.1
          (answers_of g.F.BackpressureFn.allows g.G.DegradationFn.allows c.args.domain.now.boxes.subscribers)
          c.args.self.now n updated left c.from_residual.result step.2;
      granted_of = λ p n updated left some. receive-granted-of {T = g.row.T.Denot} {U = g.row.U.Denot} c.args.domain.now
          (keeping (record {
            publishers = (c.domain.inside.boxes).boxes;
            subscribers = (c.domain.inside.subscriber_boxes).boxes;
          }) c.receive_at.new.state) it.0 it.0 it.1 step.0 it.2 step.1
          (answers_of g.F.BackpressureFn.allows g.G.DegradationFn.allows c.args.domain.now.boxes.subscribers)
          c.args.self.now p n updated left some c.from_residual.result step.2;
      unlimited = λ n left. receive-unlimited {T = g.row.T.Denot} {U = g.row.U.Denot} c.args.domain.now
          (keeping (record {
            publishers = (c.domain.inside.boxes).boxes;
            subscribers = (c.domain.inside.subscriber_boxes).boxes;
          }) c.receive_at.new.state) it.0 it.0 it.1 step.0 it.2 step.1
          (answers_of g.F.BackpressureFn.allows g.G.DegradationFn.allows c.args.domain.now.boxes.subscribers)
          c.args.self.now n left c.from_residual.result step.2;
      takes = receive-takes {T = g.row.T.Denot} {U = g.row.U.Denot} c.args.domain.now
          (keeping (record {
            publishers = (c.domain.inside.boxes).boxes;
            subscribers = (c.domain.inside.subscriber_boxes).boxes;
          }) c.receive_at.new.state) it.0 it.0 it.1 step.0 it.2 step.1
          (answers_of g.F.BackpressureFn.allows g.G.DegradationFn.allows c.args.domain.now.boxes.subscribers)
          c.args.self.now (received_result c.from_residual.result) step.2;
      borrows_left = receive-borrows-none {T = g.row.T.Denot} {U = g.row.U.Denot} c.args.domain.now
          (keeping (record {
            publishers = (c.domain.inside.boxes).boxes;
            subscribers = (c.domain.inside.subscriber_boxes).boxes;
          }) c.receive_at.new.state) it.0 it.0 it.1 step.0 it.2 step.1
          (answers_of g.F.BackpressureFn.allows g.G.DegradationFn.allows c.args.domain.now.boxes.subscribers)
          c.args.self.now c.from_residual.result step.2;
      leaves = reception-left {T = g.row.T.Denot} {U = g.row.U.Denot} c.domain.inside.state c.args.domain.now
          (keeping _ c.receive_at.new.state) c.domain.invariant c.domain.view_is
          (same-boxes c.domain.inside.state c.receive_at.new.state c.args.domain.now c.domain.view_is c.domain.invariant
          (let at = (subscriber-there {T = g.row.T.Denot} {U = g.row.U.Denot} c.domain.inside.state c.domain.invariant
          c.args.domain.now c.domain.view_is c.args.self.now c.requires.live) in
          (c.receive_at.ensures at.0 at.1).1.places))
          (answers_of g.F.BackpressureFn.allows g.G.DegradationFn.allows c.args.domain.now.boxes.subscribers)
          c.args.self.now c.requires.live (received_result c.from_residual.result) shows;
    }

pub returns-in_default : goal.returns-in_default
returns-in_default g c =
    let shows =
    reception-shows {T = g.row.T.Denot} {U = g.row.U.Denot}
    (answers_of g.F.BackpressureFn.allows g.G.DegradationFn.allows c.args.domain.now.boxes.subscribers)
    c.args.domain.now c.domain.inside.state c.receive_at.new.state c.domain.view_is c.args.self.now.id (Ok None)
    (reception-at {T = g.row.T.Denot} {U = g.row.U.Denot}
    (answers_of g.F.BackpressureFn.allows g.G.DegradationFn.allows c.args.domain.now.boxes.subscribers)
    c.domain.inside.state c.receive_at.new.state c.args.self.now.place c.args.self.now.id c.receive_at.result (Ok None)
    (subscriber-at-place {T = g.row.T.Denot} {U = g.row.U.Denot} c.domain.inside.state c.domain.invariant
    c.args.domain.now c.domain.view_is c.args.self.now c.requires.live)
    (c.in_ok-receipt.was ∙ ap (λ (o : Option Receipt). Ok o) c.in_default.is)
    (received g.F.BackpressureFn.allows g.G.DegradationFn.allows c.domain.inside.state c.receive_at.new.state
    c.args.domain.now c.domain.view_is c.args.self.now.place c.receive_at.result c.receive_at.ensures)) in
    let it = always-shown {T = g.row.T.Denot}
    {U = g.row.U.Denot} c.domain.inside.state c.args.domain.now c.domain.invariant c.domain.view_is in
    let step = shows it.0 it.1 it.2 in
    record {
      consistent = consistent-shown c.args.domain.now it.0 it.1 it.2;
      receives = shows;
      received = tt;
      none = received-none {T = g.row.T.Denot} {U = g.row.U.Denot} c.args.domain.now
          (keeping (record {
            publishers = (c.domain.inside.boxes).boxes;
            subscribers = (c.domain.inside.subscriber_boxes).boxes;
          }) c.receive_at.new.state) it.0 it.0 it.1 step.0 it.2 step.1
          (answers_of g.F.BackpressureFn.allows g.G.DegradationFn.allows c.args.domain.now.boxes.subscribers)
          c.args.self.now step.2;
      nothing = λ keeps. nothing-waited {T = g.row.T.Denot} {U = g.row.U.Denot} c.args.domain.now
          (keeping (record {
            publishers = (c.domain.inside.boxes).boxes;
            subscribers = (c.domain.inside.subscriber_boxes).boxes;
          }) c.receive_at.new.state) it.0 it.0 it.1 step.0 it.2 step.1
          (answers_of g.F.BackpressureFn.allows g.G.DegradationFn.allows c.args.domain.now.boxes.subscribers)
          c.args.self.now keeps step.2;
      updated = received-updated {T = g.row.T.Denot} {U = g.row.U.Denot} c.args.domain.now
          (keeping (record {
            publishers = (c.domain.inside.boxes).boxes;
            subscribers = (c.domain.inside.subscriber_boxes).boxes;
          }) c.receive_at.new.state) it.0 it.0 it.1 step.0 it.2 step.1
          (answers_of g.F.BackpressureFn.allows g.G.DegradationFn.allows c.args.domain.now.boxes.subscribers)
          c.args.self.now c.requires.live No_sample
          (λ e is. let clash : No_sample ≡ Receive_error e = is in absurd cc) step.2;
      undisturbed = λ keeps. nothing-moves {T = g.row.T.Denot} {U = g.row.U.Denot} c.args.domain.now
          (keeping (record {
            publishers = (c.domain.inside.boxes).boxes;
            subscribers = (c.domain.inside.subscriber_boxes).boxes;
          }) c.receive_at.new.state) it.0 it.0 it.1 step.0 it.2 step.1
          (answers_of g.F.BackpressureFn.allows g.G.DegradationFn.allows c.args.domain.now.boxes.subscribers)
          c.args.self.now keeps (λ n entry at. at) (Ok None) step.2;
      granted = λ n updated left. receive-granted {T = g.row.T.Denot} {U = g.row.U.Denot} c.args.domain.now
          (keeping (record {
            publishers = (c.domain.inside.boxes).boxes;
            subscribers = (c.domain.inside.subscriber_boxes).boxes;
          }) c.receive_at.new.state) it.0 it.0 it.1 step.0 it.2 step.1
          (answers_of g.F.BackpressureFn.allows g.G.DegradationFn.allows c.args.domain.now.boxes.subscribers)
          c.args.self.now n updated left (Ok None) step.2;
      granted_of = λ p n updated left some. receive-granted-of {T = g.row.T.Denot} {U = g.row.U.Denot} c.args.domain.now
          (keeping (record {
            publishers = (c.domain.inside.boxes).boxes;
            subscribers = (c.domain.inside.subscriber_boxes).boxes;
          }) c.receive_at.new.state) it.0 it.0 it.1 step.0 it.2 step.1
          (answers_of g.F.BackpressureFn.allows g.G.DegradationFn.allows c.args.domain.now.boxes.subscribers)
          c.args.self.now p n updated left some (Ok None) step.2;
      unlimited = λ n left. receive-unlimited {T = g.row.T.Denot} {U = g.row.U.Denot} c.args.domain.now
          (keeping (record {
            publishers = (c.domain.inside.boxes).boxes;
            subscribers = (c.domain.inside.subscriber_boxes).boxes;
          }) c.receive_at.new.state) it.0 it.0 it.1 step.0 it.2 step.1
          (answers_of g.F.BackpressureFn.allows g.G.DegradationFn.allows c.args.domain.now.boxes.subscribers)
          c.args.self.now n left (Ok None) step.2;
      takes = receive-takes {T = g.row.T.Denot} {U = g.row.U.Denot} c.args.domain.now
          (keeping (record {
            publishers = (c.domain.inside.boxes).boxes;
            subscribers = (c.domain.inside.subscriber_boxes).boxes;
          }) c.receive_at.new.state) it.0 it.0 it.1 step.0 it.2 step.1
          (answers_of g.F.BackpressureFn.allows g.G.DegradationFn.allows c.args.domain.now.boxes.subscribers)
          c.args.self.now (received_result (Ok None)) step.2;
      borrows_left = receive-borrows-none {T = g.row.T.Denot} {U = g.row.U.Denot} c.args.domain.now
          (keeping (record {
            publishers = (c.domain.inside.boxes).boxes;
            subscribers = (c.domain.inside.subscriber_boxes).boxes;
          }) c.receive_at.new.state) it.0 it.0 it.1 step.0 it.2 step.1
          (answers_of g.F.BackpressureFn.allows g.G.DegradationFn.allows c.args.domain.now.boxes.subscribers)
          c.args.self.now (Ok None) step.2;
      leaves = reception-left {T = g.row.T.Denot} {U = g.row.U.Denot} c.domain.inside.state c.args.domain.now
          (keeping _ c.receive_at.new.state) c.domain.invariant c.domain.view_is
          (same-boxes c.domain.inside.state c.receive_at.new.state c.args.domain.now c.domain.view_is c.domain.invariant
          (let at = (subscriber-there {T = g.row.T.Denot} {U = g.row.U.Denot} c.domain.inside.state c.domain.invariant
          c.args.domain.now c.domain.view_is c.args.self.now c.requires.live) in
          (c.receive_at.ensures at.0 at.1).1.places))
          (answers_of g.F.BackpressureFn.allows g.G.DegradationFn.allows c.args.domain.now.boxes.subscribers)
          c.args.self.now c.requires.live No_sample shows;
    }

pub returns : goal.returns
returns g c =
    let got = got-one g c in
    let sample : Sample = record {
      service_id = c.args.self.now.service_id;
      origin = c.in-Some.receipt.publisher;
      sample = c.in-Some.receipt.sample;
    } in
    let number = c.in-Some.receipt.sample.number in
    let shows =
    reception-shows {T = g.row.T.Denot} {U = g.row.U.Denot}
    (answers_of g.F.BackpressureFn.allows g.G.DegradationFn.allows c.args.domain.now.boxes.subscribers)
    c.args.domain.now c.domain.inside.state c.receive_at.new.state c.domain.view_is c.args.self.now.id
    (Ok (Some c.in-Some.receipt)) got in
    let it = always-shown {T = g.row.T.Denot}
    {U = g.row.U.Denot} c.domain.inside.state c.args.domain.now c.domain.invariant c.domain.view_is in
    let step = shows it.0 it.1 it.2 in
    let fewer = received-fewer {T = g.row.T.Denot} {U = g.row.U.Denot} c.args.domain.now
    (keeping (record {
      publishers = (c.domain.inside.boxes).boxes;
      subscribers = (c.domain.inside.subscriber_boxes).boxes;
    }) c.receive_at.new.state) it.0 it.0 it.1 step.0 it.2 step.1
    (answers_of g.F.BackpressureFn.allows g.G.DegradationFn.allows c.args.domain.now.boxes.subscribers) c.args.self.now
    c.requires.live sample.origin number step.2 in
    let reads = received-reads {T = g.row.T.Denot} {U = g.row.U.Denot} c.args.domain.now
    (keeping (record {
      publishers = (c.domain.inside.boxes).boxes;
      subscribers = (c.domain.inside.subscriber_boxes).boxes;
    }) c.receive_at.new.state) it.0 it.0 it.1 step.0 it.2 step.1
    (answers_of g.F.BackpressureFn.allows g.G.DegradationFn.allows c.args.domain.now.boxes.subscribers) c.args.self.now
    (λ n entry at. at) c.requires.live sample.origin sample step.2 in
    let oldest = received-oldest {T = g.row.T.Denot} {U = g.row.U.Denot} c.args.domain.now
    (keeping (record {
      publishers = (c.domain.inside.boxes).boxes;
      subscribers = (c.domain.inside.subscriber_boxes).boxes;
    }) c.receive_at.new.state) it.0 it.0 it.1 step.0 it.2 step.1
    (answers_of g.F.BackpressureFn.allows g.G.DegradationFn.allows c.args.domain.now.boxes.subscribers) c.args.self.now
    (λ n entry at. at) c.requires.live sample step.2 in
    let ordered = receive-takes-first {T = g.row.T.Denot} {U = g.row.U.Denot} c.args.domain.now
    (keeping (record {
      publishers = (c.domain.inside.boxes).boxes;
      subscribers = (c.domain.inside.subscriber_boxes).boxes;
    }) c.receive_at.new.state) it.0 it.0 it.1 step.0 it.2 step.1 c.args.self.now sample oldest fewer in
    record {
      consistent = consistent-shown c.args.domain.now it.0 it.1 it.2;
      receives = shows;
      received = record {
        live = reception-live {T = g.row.T.Denot} {U = g.row.U.Denot}
            (answers_of g.F.BackpressureFn.allows g.G.DegradationFn.allows c.args.domain.now.boxes.subscribers)
            c.args.domain.now c.domain.inside.state c.receive_at.new.state c.domain.view_is c.args.self.now sample
            c.in-Some.receipt got refl refl refl c.requires.live;
        is_new = subst (λ (q : ℕ). IsNewIn c.args.domain.now (A_sample q number)) (sym got.3.its)
            (received-is-new {T = g.row.T.Denot} {U = g.row.U.Denot} c.args.domain.now
            (keeping (record {
              publishers = (c.domain.inside.boxes).boxes;
              subscribers = (c.domain.inside.subscriber_boxes).boxes;
            }) c.receive_at.new.state) it.0 it.1 it.2
            (answers_of g.F.BackpressureFn.allows g.G.DegradationFn.allows c.args.domain.now.boxes.subscribers)
            sample.origin c.args.self.now.id number step.0 step.1 step.2);
        origin = reception-origin {T = g.row.T.Denot} {U = g.row.U.Denot}
            (answers_of g.F.BackpressureFn.allows g.G.DegradationFn.allows c.args.domain.now.boxes.subscribers)
            c.args.domain.now c.domain.inside.state c.receive_at.new.state c.domain.view_is c.args.self.now sample
            c.in-Some.receipt got refl refl;
        subscriber = got.3.its;
        fewer = fewer;
        one_fewer = λ keeps. one-fewer-waits {T = g.row.T.Denot} {U = g.row.U.Denot} c.args.domain.now
            (keeping (record {
              publishers = (c.domain.inside.boxes).boxes;
              subscribers = (c.domain.inside.subscriber_boxes).boxes;
            }) c.receive_at.new.state) it.0 it.0 it.1 step.0 it.2 step.1
            (answers_of g.F.BackpressureFn.allows g.G.DegradationFn.allows c.args.domain.now.boxes.subscribers)
            c.args.self.now keeps c.requires.live sample.origin number step.2;
        reads = reads;
        only = λ values is. reads values (one-is-all _ values is);
        oldest = oldest;
        first = ordered.0;
        later = ordered.1;
        rest = λ keeps other away. others-wait-still {T = g.row.T.Denot} {U = g.row.U.Denot} c.args.domain.now
            (keeping (record {
              publishers = (c.domain.inside.boxes).boxes;
              subscribers = (c.domain.inside.subscriber_boxes).boxes;
            }) c.receive_at.new.state) it.0 it.0 it.1 step.0 it.2 step.1
            (answers_of g.F.BackpressureFn.allows g.G.DegradationFn.allows c.args.domain.now.boxes.subscribers)
            c.args.self.now keeps (λ n entry at. at) sample.origin number step.2 other away;
        borrows = receive-leaves-of {T = g.row.T.Denot} {U = g.row.U.Denot} c.args.domain.now
            (keeping (record {
              publishers = (c.domain.inside.boxes).boxes;
              subscribers = (c.domain.inside.subscriber_boxes).boxes;
            }) c.receive_at.new.state) it.0 it.0 it.1 step.0 it.2 step.1
            (answers_of g.F.BackpressureFn.allows g.G.DegradationFn.allows c.args.domain.now.boxes.subscribers)
            c.args.self.now sample.origin number step.2;
      };
      none = tt;
      nothing = λ keeps. tt;
      updated = received-updated {T = g.row.T.Denot} {U = g.row.U.Denot} c.args.domain.now
          (keeping (record {
            publishers = (c.domain.inside.boxes).boxes;
            subscribers = (c.domain.inside.subscriber_boxes).boxes;
          }) c.receive_at.new.state) it.0 it.0 it.1 step.0 it.2 step.1
          (answers_of g.F.BackpressureFn.allows g.G.DegradationFn.allows c.args.domain.now.boxes.subscribers)
          c.args.self.now c.requires.live (Got_sample sample.origin number)
          (λ e is. let clash : Got_sample sample.origin number ≡ Receive_error e = is in absurd cc) step.2;
      undisturbed = λ keeps. nothing-moves {T = g.row.T.Denot} {U = g.row.U.Denot} c.args.domain.now
          (keeping (record {
            publishers = (c.domain.inside.boxes).boxes;
            subscribers = (c.domain.inside.subscriber_boxes).boxes;
          }) c.receive_at.new.state) it.0 it.0 it.1 step.0 it.2 step.1
          (answers_of g.F.BackpressureFn.allows g.G.DegradationFn.allows c.args.domain.now.boxes.subscribers)
          c.args.self.now keeps (λ n entry at. at) (Ok (Some sample)) step.2;
      granted = λ n updated left. receive-granted {T = g.row.T.Denot} {U = g.row.U.Denot} c.args.domain.now
          (keeping (record {
            publishers = (c.domain.inside.boxes).boxes;
            subscribers = (c.domain.inside.subscriber_boxes).boxes;
          }) c.receive_at.new.state) it.0 it.0 it.1 step.0 it.2 step.1
          (answers_of g.F.BackpressureFn.allows g.G.DegradationFn.allows c.args.domain.now.boxes.subscribers)
          c.args.self.now n updated left (Ok (Some sample)) step.2;
      granted_of = λ p n updated left some. receive-granted-of {T = g.row.T.Denot} {U = g.row.U.Denot} c.args.domain.now
          (keeping (record {
            publishers = (c.domain.inside.boxes).boxes;
            subscribers = (c.domain.inside.subscriber_boxes).boxes;
          }) c.receive_at.new.state) it.0 it.0 it.1 step.0 it.2 step.1
          (answers_of g.F.BackpressureFn.allows g.G.DegradationFn.allows c.args.domain.now.boxes.subscribers)
          c.args.self.now p n updated left some (Ok (Some sample)) step.2;
      unlimited = λ n left. receive-unlimited {T = g.row.T.Denot} {U = g.row.U.Denot} c.args.domain.now
          (keeping (record {
            publishers = (c.domain.inside.boxes).boxes;
            subscribers = (c.domain.inside.subscriber_boxes).boxes;
          }) c.receive_at.new.state) it.0 it.0 it.1 step.0 it.2 step.1
          (answers_of g.F.BackpressureFn.allows g.G.DegradationFn.allows c.args.domain.now.boxes.subscribers)
          c.args.self.now n left (Ok (Some sample)) step.2;
      takes = receive-takes {T = g.row.T.Denot} {U = g.row.U.Denot} c.args.domain.now
          (keeping (record {
            publishers = (c.domain.inside.boxes).boxes;
            subscribers = (c.domain.inside.subscriber_boxes).boxes;
          }) c.receive_at.new.state) it.0 it.0 it.1 step.0 it.2 step.1
          (answers_of g.F.BackpressureFn.allows g.G.DegradationFn.allows c.args.domain.now.boxes.subscribers)
          c.args.self.now (received_result (Ok (Some sample))) step.2;
      borrows_left = receive-borrows-none {T = g.row.T.Denot} {U = g.row.U.Denot} c.args.domain.now
          (keeping (record {
            publishers = (c.domain.inside.boxes).boxes;
            subscribers = (c.domain.inside.subscriber_boxes).boxes;
          }) c.receive_at.new.state) it.0 it.0 it.1 step.0 it.2 step.1
          (answers_of g.F.BackpressureFn.allows g.G.DegradationFn.allows c.args.domain.now.boxes.subscribers)
          c.args.self.now (Ok (Some sample)) step.2;
      leaves = reception-left {T = g.row.T.Denot} {U = g.row.U.Denot} c.domain.inside.state c.args.domain.now
          (keeping _ c.receive_at.new.state) c.domain.invariant c.domain.view_is
          (same-boxes c.domain.inside.state c.receive_at.new.state c.args.domain.now c.domain.view_is c.domain.invariant
          (let at = (subscriber-there {T = g.row.T.Denot} {U = g.row.U.Denot} c.domain.inside.state c.domain.invariant
          c.args.domain.now c.domain.view_is c.args.self.now c.requires.live) in
          (c.receive_at.ensures at.0 at.1).1.places))
          (answers_of g.F.BackpressureFn.allows g.G.DegradationFn.allows c.args.domain.now.boxes.subscribers)
          c.args.self.now c.requires.live (Got_sample sample.origin number) shows;
    }

pub receive_at-requires-clause-stands : goal.receive_at-requires-clause-stands
receive_at-requires-clause-stands g c = subscriber-there {T = g.row.T.Denot}
    {U = g.row.U.Denot} c.domain.inside.state c.domain.invariant c.args.domain.now c.domain.view_is c.args.self.now
    c.requires.live

pub invariant_of-domain : goal.invariant_of-domain
invariant_of-domain g c =
    reception-agrees (answers_of g.F.BackpressureFn.allows g.G.DegradationFn.allows
    (c.domain.inside.subscriber_boxes).boxes) c.domain.inside.state c.receive_at.new.state c.args.self.now.place
    c.receive_at.result c.receive_at.ensures
    (subscriber-there {T = g.row.T.Denot} {U = g.row.U.Denot} c.domain.inside.state c.domain.invariant c.args.domain.now
    c.domain.view_is c.args.self.now c.requires.live)

pub invariant_of-domain-in_default : goal.invariant_of-domain-in_default
invariant_of-domain-in_default g c =
    reception-agrees (answers_of g.F.BackpressureFn.allows g.G.DegradationFn.allows
    (c.domain.inside.subscriber_boxes).boxes) c.domain.inside.state c.receive_at.new.state c.args.self.now.place
    c.receive_at.result c.receive_at.ensures
    (subscriber-there {T = g.row.T.Denot} {U = g.row.U.Denot} c.domain.inside.state c.domain.invariant c.args.domain.now
    c.domain.view_is c.args.self.now c.requires.live)

pub invariant_of-domain-2 : goal.invariant_of-domain-2
invariant_of-domain-2 g c =
    reception-agrees (answers_of g.F.BackpressureFn.allows g.G.DegradationFn.allows
    (c.domain.inside.subscriber_boxes).boxes) c.domain.inside.state c.receive_at.new.state c.args.self.now.place
    c.receive_at.result c.receive_at.ensures
    (subscriber-there {T = g.row.T.Denot} {U = g.row.U.Denot} c.domain.inside.state c.domain.invariant c.args.domain.now
    c.domain.view_is c.args.self.now c.requires.live)
