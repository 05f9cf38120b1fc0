use Rattle.std.proofs.Common.{◌≡◌, ℕ, List, false, ap, sym, subst, ◌∙◌, refl}
use Rattle.iox2_machine.specs.machine.State.{is_blocked}
use Rattle.iox2_machine.specs.machine.SingleCalls.{HoldsBlocked}
use Rattle.iox2_machine.specs.declared.service_config.ServiceConfig.{ServiceConfig}
use Rattle.iox2_laws.proofs.SendsRemain.{send_waits_with}
use Rattle.iox2_domain.specs.Boxes.{answers_of}
use Rattle.iox2_domain.specs.declared.boxes.PortBox.{PortBox}
use Rattle.iox2_machine.specs.machine.Records.{Loan}
use Rattle.iox2_machine.specs.machine.Sends.{Send}
use Rattle.std.proofs.lemmas.Option.{same_Some}
use Rattle.iox2_machine.specs.machine.SingleCalls.{HoldsPublisher}
use Rattle.iox2_machine.specs.machine.State.{State}
use Rattle.iox2_domain.specs.Fields.{kept_of, keeping}
use Rattle.iox2_domain.specs.Kept.{Kept, state_of}
use Rattle.iox2_domain.specs.LoanCalls.{HoldsWritten}
use Rattle.iox2_messages.specs.SendEnds.{end_result}
use Rattle.iox2_domain.specs.Shows.{Shows}
use Rattle.iox2_pubsub.proofs.SendShown.{machine-sends, steady-ok, never-unconnected-here, only-error, handler-error}
use Rattle.iox2_pubsub.proofs.SendShown.{either-error, fails-send, never-waits-send, never-fails-here, is-delivered}
use Rattle.iox2_pubsub.proofs.SendShown.{is-blocked, sent-entry, leaves-sent, leaves-shown}
use Rattle.iox2_pubsub.specs.Live.{IsBlockedKey, blocked_key, lender_key, written_key}
use Rattle.iox2_pubsub.specs.SendCalls.{result_of_send}
use Rattle.iox2_pubsub.proofs.CallsStay.{always-shown, sent-stays, send-spends}
use Rattle.iox2_pubsub.proofs.SendsPend.{send-pends}
use Rattle.iox2_pubsub.proofs.SentLoans.{from-shown}
use Rattle.iox2_pubsub.proofs.CountsShown.{sends-count}
use Rattle.iox2_pubsub.proofs.LiveParts.{publisher-parts, written-parts, unblocked-parts, unblocked-test, blocked-live}
use Rattle.iox2_pubsub.proofs.WaitingShown.{send-adds, send-brings}
use Rattle.iox2_pubsub.proofs.UpToDateShown.{send-leaves}
use Rattle.iox2_pubsub.proofs.ConnectionsShown.{serves}
use Rattle.iox2_pubsub.proofs.BorrowsLeftShown.{send-borrows}
use Rattle.iox2_pubsub.proofs.LoansLeftShown.{send-left, send-gives, sent-free}
use Rattle.iox2_pubsub.proofs.PublisherWaits.{send-arrives, send-joins}
use Rattle.iox2_pubsub.proofs.KeptReceives.{others-send}
use Rattle.iox2_pubsub.proofs.FailedSends.{sends-fail}
use Rattle.iox2_pubsub.proofs.FullReceivers.{sends-full}
use Rattle.iox2_pubsub.proofs.RoomySends.{all-free, alone-free, roomy-free, unhindered-is}
use Rattle.iox2_pubsub.proofs.StaysBut.{consistent-shown, same-boxes}
use Rattle.iox2_pubsub.proofs.PlacedLoans.{written-lies}
use Rattle.iox2_pubsub.proofs.sample_mut.SampleMut.send.Goals as goal

pub send_loan-requires-clause-live : goal.send_loan-requires-clause-live
send_loan-requires-clause-live g c =
    subst (λ (k : Kept g.row.T.Denot g.row.U.Denot g.row.F.Denot g.row.G.Denot).
    HoldsWritten (state_of k) c.args.self.loan.publisher c.args.self.loan.number) (sym c.domain.view_is)
    (written-parts c.args.domain.now c.args.self c.requires.live).1

pub send_loan-requires-clause-lies : goal.send_loan-requires-clause-lies
send_loan-requires-clause-lies g c = written-lies {T = g.row.T.Denot}
    {U = g.row.U.Denot} _ c.domain.invariant c.args.domain.now c.domain.view_is c.args.self c.requires.live

pub returns-clause-sent : goal.returns-clause-sent
returns-clause-sent g c = λ m s l shown out.
    let before = subst (λ (k : Kept g.row.T.Denot g.row.U.Denot g.row.F.Denot g.row.G.Denot). Shows k m s)
    (sym c.domain.view_is) shown in
    let after : State g.row.T.Denot g.row.U.Denot = state_of (kept_of c.send_loan.new.state) in
    let sends : Send (answers_of g.F.BackpressureFn.allows g.G.DegradationFn.allows c.domain.inside.boxes.boxes) s
    c.args.self.loan.number l after (end_result c.send_loan.ensures.ends.0) =
    machine-sends (answers_of g.F.BackpressureFn.allows g.G.DegradationFn.allows c.domain.inside.boxes.boxes)
    c.domain.inside.state c.send_loan.new.state c.args.self.loan.number
    (end_result c.send_loan.ensures.ends.0) c.send_loan.ensures.ends.1 m s l before out in (
      after,
      leaves-shown _ _ _ _
          (leaves-sent (answers_of g.F.BackpressureFn.allows g.G.DegradationFn.allows c.domain.inside.boxes.boxes)
          c.domain.inside.state c.send_loan.new.state c.args.self.loan.number
          (end_result c.send_loan.ensures.ends.0) c.send_loan.ensures.ends.1) m s l before out
          c.send_loan.result (sym c.send_loan.ensures.ends.3),
      subst (Send (answers_of g.F.BackpressureFn.allows g.G.DegradationFn.allows c.args.domain.now.boxes.publishers) s
          c.args.self.loan.number l after) (sym c.send_loan.ensures.ends.3)
          (subst (λ (boxes : List (PortBox g.row.F.Denot g.row.G.Denot)).
          Send (answers_of g.F.BackpressureFn.allows g.G.DegradationFn.allows boxes) s c.args.self.loan.number l after
          (end_result c.send_loan.ensures.ends.0))
          (ap (λ (k : Kept g.row.T.Denot g.row.U.Denot g.row.F.Denot g.row.G.Denot). k.boxes.publishers)
          c.domain.view_is) sends),
    )

pub returns-clause-errors : goal.returns-clause-errors
returns-clause-errors g c =
    let has = (written-parts c.args.domain.now c.args.self c.requires.live).1 in
    let before = subst (λ (k : Kept g.row.T.Denot g.row.U.Denot g.row.F.Denot g.row.G.Denot).
    HoldsWritten (state_of k) c.args.self.loan.publisher c.args.self.loan.number) (sym c.domain.view_is) has in
    let its = ap (λ (l : Loan g.row.T.Denot g.row.U.Denot). l.publisher)
    (same_Some _ before.0 (sym c.send_loan.ensures.ends.1.out ∙ before.1)) ∙ before.2 in
    fails-send c.args.domain.now (written_key c.args.self) c.send_loan.result
    (either-error {T = g.row.T.Denot} {U = g.row.U.Denot}
    (answers_of g.F.BackpressureFn.allows g.G.DegradationFn.allows c.domain.inside.boxes.boxes) c.domain.inside.state
    c.send_loan.new.state c.args.self.loan.number c.args.self.loan.publisher c.send_loan.ensures.ends.0
    c.send_loan.ensures.ends.2 c.send_loan.ensures.ends.1 its c.send_loan.result c.send_loan.ensures.ends.3)
    (λ lent.
    handler-error c.send_loan.ensures.ends.0
    (c.send_loan.ensures.ends.2
    (subst (λ (k : Kept g.row.T.Denot g.row.U.Denot g.row.F.Denot g.row.G.Denot).
    HoldsPublisher (state_of k) c.args.self.loan.publisher) (sym c.domain.view_is)
    (publisher-parts c.args.domain.now (lender_key (written_key c.args.self)) lent).2))
    c.send_loan.result c.send_loan.ensures.ends.3)
    (λ never.
    only-error {T = g.row.T.Denot} {U = g.row.U.Denot}
    (answers_of g.F.BackpressureFn.allows g.G.DegradationFn.allows c.domain.inside.boxes.boxes) c.domain.inside.state
    c.send_loan.new.state c.args.self.loan.number c.args.self.loan.publisher c.send_loan.ensures.ends.0
    c.send_loan.ensures.ends.2 c.send_loan.ensures.ends.1 its
    (never-fails-here {T = g.row.T.Denot} {U = g.row.U.Denot}
    (answers_of g.F.BackpressureFn.allows g.G.DegradationFn.allows c.domain.inside.boxes.boxes) c.args.domain.now
    c.domain.inside.state c.send_loan.new.state c.domain.view_is c.args.self.loan.number c.args.self.loan.publisher
    never
    (end_result c.send_loan.ensures.ends.0) c.send_loan.ensures.ends.1 its)
    (never-unconnected-here {T = g.row.T.Denot} {U = g.row.U.Denot}
    (answers_of g.F.BackpressureFn.allows g.G.DegradationFn.allows c.domain.inside.boxes.boxes) c.args.domain.now
    c.domain.inside.state c.send_loan.new.state c.domain.view_is c.args.self.loan.number c.args.self.loan.publisher
    never
    (end_result c.send_loan.ensures.ends.0) c.send_loan.ensures.ends.1 its)
    c.send_loan.result c.send_loan.ensures.ends.3)

pub send_loan-requires-clause-unblocked : goal.send_loan-requires-clause-unblocked
send_loan-requires-clause-unblocked g c =
    subst (λ (k : Kept g.row.T.Denot g.row.U.Denot g.row.F.Denot g.row.G.Denot).
    is_blocked (state_of k) c.args.self.loan.publisher ≡ false) (sym c.domain.view_is)
    (unblocked-test c.args.domain.now (written_key c.args.self) c.requires.unblocked)

pub returns-clause-adds : goal.returns-clause-adds
returns-clause-adds g c =
    let it = from-shown {T = g.row.T.Denot} {U = g.row.U.Denot} c.domain.inside.state c.domain.invariant
    c.args.domain.now c.domain.view_is c.args.self c.requires.live (returns-clause-sent g c) in
    send-adds {T = g.row.T.Denot} {U = g.row.U.Denot} c.args.domain.now _ it.m _ it.s it.step.0 it.shown it.step.1
    (answers_of g.F.BackpressureFn.allows g.G.DegradationFn.allows c.args.domain.now.boxes.publishers)
    c.args.self.loan.number it.l (result_of_send c.send_loan.result) it.step.2

pub returns-clause-roomy : goal.returns-clause-roomy
returns-clause-roomy g c = λ roomy.
    let it = from-shown {T = g.row.T.Denot} {U = g.row.U.Denot} c.domain.inside.state c.domain.invariant
    c.args.domain.now c.domain.view_is c.args.self c.requires.live (returns-clause-sent g c) in
    unhindered-is c.send_loan.result
    (roomy-free {T = g.row.T.Denot} {U = g.row.U.Denot} c.args.domain.now it.m it.s it.shown
    (answers_of g.F.BackpressureFn.allows g.G.DegradationFn.allows c.args.domain.now.boxes.publishers)
    c.args.self.loan.number it.l c.args.self.loan.publisher it.its
    (unblocked-test c.args.domain.now (written_key c.args.self) c.requires.unblocked) roomy it.step.0
    (result_of_send c.send_loan.result) it.step.2)

pub returns-clause-roomy_alone : goal.returns-clause-roomy_alone
returns-clause-roomy_alone g c = λ subscriber has.
    let it = from-shown {T = g.row.T.Denot} {U = g.row.U.Denot} c.domain.inside.state c.domain.invariant
    c.args.domain.now c.domain.view_is c.args.self c.requires.live (returns-clause-sent g c) in
    unhindered-is c.send_loan.result
    (alone-free {T = g.row.T.Denot} {U = g.row.U.Denot} c.args.domain.now it.m it.s it.shown c.args.self.loan.publisher
    (answers_of g.F.BackpressureFn.allows g.G.DegradationFn.allows c.args.domain.now.boxes.publishers)
    c.args.self.loan.number it.l it.its
    (unblocked-test c.args.domain.now (written_key c.args.self) c.requires.unblocked) subscriber has it.step.0
    (result_of_send c.send_loan.result) it.step.2)

pub returns-clause-roomy_at_all : goal.returns-clause-roomy_at_all
returns-clause-roomy_at_all g c = λ subscribers has.
    let it = from-shown {T = g.row.T.Denot} {U = g.row.U.Denot} c.domain.inside.state c.domain.invariant
    c.args.domain.now c.domain.view_is c.args.self c.requires.live (returns-clause-sent g c) in
    unhindered-is c.send_loan.result
    (all-free {T = g.row.T.Denot} {U = g.row.U.Denot} c.args.domain.now it.m it.s it.shown c.args.self.loan.publisher
    (answers_of g.F.BackpressureFn.allows g.G.DegradationFn.allows c.args.domain.now.boxes.publishers)
    c.args.self.loan.number it.l it.its
    (unblocked-test c.args.domain.now (written_key c.args.self) c.requires.unblocked) subscribers has it.step.0
    (result_of_send c.send_loan.result) it.step.2)

pub returns-clause-brings : goal.returns-clause-brings
returns-clause-brings g c = λ subscriber values no_history none reads.
    let it = from-shown {T = g.row.T.Denot} {U = g.row.U.Denot} c.domain.inside.state c.domain.invariant
    c.args.domain.now c.domain.view_is c.args.self c.requires.live (returns-clause-sent g c) in
    send-brings {T = g.row.T.Denot} {U = g.row.U.Denot} c.args.domain.now _ it.m _ it.s it.step.0 it.shown it.step.1
    (answers_of g.F.BackpressureFn.allows g.G.DegradationFn.allows c.args.domain.now.boxes.publishers)
    c.args.self.loan.number it.l (result_of_send c.send_loan.result)
    (λ entry. sent-entry it.m c.args.self.loan.number it.l c.send_loan.result
    (it.shown.unsent c.args.self.loan.number it.l it.out) entry) it.out it.step.2 subscriber values no_history none
    reads

pub returns-clause-serves : goal.returns-clause-serves
returns-clause-serves g c = λ subscriber values connected reads.
    let it = from-shown {T = g.row.T.Denot} {U = g.row.U.Denot} c.domain.inside.state c.domain.invariant
    c.args.domain.now c.domain.view_is c.args.self c.requires.live (returns-clause-sent g c) in
    serves {T = g.row.T.Denot} {U = g.row.U.Denot} c.args.domain.now _ it.m it.s
    (answers_of g.F.BackpressureFn.allows g.G.DegradationFn.allows c.args.domain.now.boxes.publishers) it.shown
    c.args.self.loan.number it.l c.args.self.loan.publisher c.send_loan.result it.step.0 it.step.1 it.step.2
    (it.shown.unsent c.args.self.loan.number it.l it.out) it.out it.its
    (unblocked-test c.args.domain.now (written_key c.args.self) c.requires.unblocked) subscriber values connected reads

pub returns-clause-arrives : goal.returns-clause-arrives
returns-clause-arrives g c = λ subscriber values none connected reads.
    let it = from-shown {T = g.row.T.Denot} {U = g.row.U.Denot} c.domain.inside.state c.domain.invariant
    c.args.domain.now c.domain.view_is c.args.self c.requires.live (returns-clause-sent g c) in
    send-arrives {T = g.row.T.Denot} {U = g.row.U.Denot} c.args.domain.now _ it.m _ it.s it.step.0 it.shown it.step.1
    subscriber c.args.self.loan.publisher values none c.send_loan.result
    (returns-clause-serves g c subscriber values connected reads)

pub returns-clause-joins : goal.returns-clause-joins
returns-clause-joins g c = λ subscriber values earlier all its room connected reads.
    let it = from-shown {T = g.row.T.Denot} {U = g.row.U.Denot} c.domain.inside.state c.domain.invariant
    c.args.domain.now c.domain.view_is c.args.self c.requires.live (returns-clause-sent g c) in
    send-joins {T = g.row.T.Denot} {U = g.row.U.Denot} c.args.domain.now _ it.m _ it.s it.step.0 it.shown it.step.1
    subscriber c.args.self.loan.publisher values earlier all its room c.send_loan.result
    (returns-clause-serves g c subscriber values connected reads)

pub returns-clause-spends : goal.returns-clause-spends
returns-clause-spends g c =
    let it = from-shown {T = g.row.T.Denot} {U = g.row.U.Denot} c.domain.inside.state c.domain.invariant
    c.args.domain.now c.domain.view_is c.args.self c.requires.live (returns-clause-sent g c) in
    let stays = sent-stays {T = g.row.T.Denot} {U = g.row.U.Denot} c.args.domain.now _ it.m it.s it.shown
    (answers_of g.F.BackpressureFn.allows g.G.DegradationFn.allows c.args.domain.now.boxes.publishers) c.args.self it.l
    it.out it.its
    (λ x at. (unblocked-parts c.args.domain.now (written_key c.args.self) c.requires.unblocked).1 x
    (sym (ap (λ (t : State g.row.T.Denot g.row.U.Denot). t.publishers c.args.self.loan.publisher) it.shown.state)
    ∙ ap it.s.publishers (sym it.its) ∙ at))
    c.send_loan.result it.step.0 it.step.1 it.step.2
    (same-boxes c.domain.inside.state c.send_loan.new.state c.args.domain.now c.domain.view_is c.domain.invariant
    c.send_loan.ensures.ends.1.places) in
    record {
      ok = λ lent never.
          let has = (written-parts c.args.domain.now c.args.self c.requires.live).1 in
          let before = subst (λ (k : Kept g.row.T.Denot g.row.U.Denot g.row.F.Denot g.row.G.Denot).
          HoldsWritten (state_of k) c.args.self.loan.publisher c.args.self.loan.number) (sym c.domain.view_is) has in
          steady-ok c.send_loan.ensures.ends.0
          (c.send_loan.ensures.ends.2
          (subst (λ (k : Kept g.row.T.Denot g.row.U.Denot g.row.F.Denot g.row.G.Denot).
          HoldsPublisher (state_of k) c.args.self.loan.publisher) (sym c.domain.view_is)
          (publisher-parts c.args.domain.now (lender_key (written_key c.args.self)) lent).2))
          (never-fails-here {T = g.row.T.Denot} {U = g.row.U.Denot}
          (answers_of g.F.BackpressureFn.allows g.G.DegradationFn.allows c.domain.inside.boxes.boxes) c.args.domain.now
          c.domain.inside.state c.send_loan.new.state c.domain.view_is c.args.self.loan.number
          c.args.self.loan.publisher never
          (end_result c.send_loan.ensures.ends.0) c.send_loan.ensures.ends.1
          (ap (λ (l : Loan g.row.T.Denot g.row.U.Denot). l.publisher)
          (same_Some _ before.0 (sym c.send_loan.ensures.ends.1.out ∙ before.1)) ∙ before.2))
          (never-unconnected-here {T = g.row.T.Denot} {U = g.row.U.Denot}
          (answers_of g.F.BackpressureFn.allows g.G.DegradationFn.allows c.domain.inside.boxes.boxes) c.args.domain.now
          c.domain.inside.state c.send_loan.new.state c.domain.view_is c.args.self.loan.number
          c.args.self.loan.publisher never
          (end_result c.send_loan.ensures.ends.0) c.send_loan.ensures.ends.1
          (ap (λ (l : Loan g.row.T.Denot g.row.U.Denot). l.publisher)
          (same_Some _ before.0 (sym c.send_loan.ensures.ends.1.out ∙ before.1)) ∙ before.2))
          c.send_loan.result c.send_loan.ensures.ends.3;
      delivered = λ never.
          is-delivered c.send_loan.result (λ blocked.
          never-waits-send {T = g.row.T.Denot} {U = g.row.U.Denot}
          (answers_of g.F.BackpressureFn.allows g.G.DegradationFn.allows c.args.domain.now.boxes.publishers)
          c.args.domain.now (written_key c.args.self) it.m it.s it.shown never c.args.self.loan.number it.l it.out
          (sym it.its) it.step.0
          (subst
          (Send (answers_of g.F.BackpressureFn.allows g.G.DegradationFn.allows c.args.domain.now.boxes.publishers) it.s
          c.args.self.loan.number it.l it.step.0) blocked it.step.2));
      blocked =
          let parts = written-parts c.args.domain.now c.args.self c.requires.live in
          is-blocked {T = g.row.T.Denot} {U = g.row.U.Denot} (keeping _ c.send_loan.new.state)
          (written_key c.args.self) _
          (ap blocked_key c.of-blocked.ensures) c.send_loan.result c.send_loan.ensures.blocked (λ blocked.
          subst (IsBlockedKey (keeping _ c.send_loan.new.state)) (sym (ap blocked_key c.of-blocked.ensures))
          (blocked-live (keeping _ c.send_loan.new.state) (written_key c.args.self) (
            parts.0 ∙ sym (ap (λ (k : ServiceConfig). k.service_id) stays.settings),
            subst (λ (p : ℕ). HoldsBlocked (state_of (kept_of c.send_loan.new.state)) p c.args.self.loan.number) it.its
                (subst (λ (t : State g.row.T.Denot g.row.U.Denot).
                HoldsBlocked t it.l.publisher c.args.self.loan.number) (it.step.1).state
                (send_waits_with
                (answers_of g.F.BackpressureFn.allows g.G.DegradationFn.allows c.args.domain.now.boxes.publishers) it.s
                c.args.self.loan.number it.l it.step.0 _ it.step.2 blocked)),
          )));
      spent = λ live. send-spends {T = g.row.T.Denot} {U = g.row.U.Denot} c.args.domain.now _ it.m it.s it.shown
          (answers_of g.F.BackpressureFn.allows g.G.DegradationFn.allows c.args.domain.now.boxes.publishers)
          (written_key c.args.self) it.l (result_of_send c.send_loan.result) _ it.step.0 it.step.1 it.step.2 live;
      others = others-send {T = g.row.T.Denot} {U = g.row.U.Denot} c.args.domain.now _ it.m it.s it.shown
          (answers_of g.F.BackpressureFn.allows g.G.DegradationFn.allows c.args.domain.now.boxes.publishers)
          c.args.self.loan.number it.l c.args.self.loan.publisher c.send_loan.result it.step.0 it.step.1 it.step.2
          (it.shown.unsent c.args.self.loan.number it.l it.out) it.its;
      up_to_date = send-leaves {T = g.row.T.Denot} {U = g.row.U.Denot} c.args.domain.now _ it.m _ it.s it.step.0
          it.shown it.step.1 (answers_of g.F.BackpressureFn.allows g.G.DegradationFn.allows
          c.args.domain.now.boxes.publishers) c.args.self.loan.number it.l
          (result_of_send c.send_loan.result) it.step.2;
      loans_left = send-left {T = g.row.T.Denot} {U = g.row.U.Denot} c.args.domain.now _ it.m _ it.s it.step.0 it.shown
          it.step.1 (answers_of g.F.BackpressureFn.allows g.G.DegradationFn.allows c.args.domain.now.boxes.publishers)
          c.args.self.loan.number it.l it.out c.args.self.loan.publisher it.its
          (result_of_send c.send_loan.result) it.step.2;
      borrows_left = send-borrows {T = g.row.T.Denot} {U = g.row.U.Denot} c.args.domain.now _ it.m _ it.s it.step.0
          it.shown it.step.1 (answers_of g.F.BackpressureFn.allows g.G.DegradationFn.allows
          c.args.domain.now.boxes.publishers) c.args.self.loan.number it.l
          (result_of_send c.send_loan.result) it.step.2;
      given_back = λ ends. send-gives {T = g.row.T.Denot} {U = g.row.U.Denot} c.args.domain.now _ it.m _ it.s it.step.0
          it.shown it.step.1 (answers_of g.F.BackpressureFn.allows g.G.DegradationFn.allows
          c.args.domain.now.boxes.publishers) c.args.self.loan.number it.l it.out c.args.self.loan.publisher it.its
          (result_of_send c.send_loan.result) (sent-free c.send_loan.result ends) it.step.2;
      stays = stays;
    }

pub returns-clause-pending : goal.returns-clause-pending
returns-clause-pending g c = λ subscriber values connected reads.
    let it = from-shown {T = g.row.T.Denot} {U = g.row.U.Denot} c.domain.inside.state c.domain.invariant
    c.args.domain.now c.domain.view_is c.args.self c.requires.live (returns-clause-sent g c) in
    send-pends {T = g.row.T.Denot} {U = g.row.U.Denot} c.args.domain.now _ it.m it.s
    (answers_of g.F.BackpressureFn.allows g.G.DegradationFn.allows c.args.domain.now.boxes.publishers) it.shown
    c.args.self.loan.number it.l c.args.self.loan.publisher c.send_loan.result it.step.0 it.step.1 it.step.2
    (it.shown.unsent c.args.self.loan.number it.l it.out) it.out it.its
    (unblocked-test c.args.domain.now (written_key c.args.self) c.requires.unblocked)
    (written_key c.args.self) refl refl (returns-clause-spends g c).blocked
    subscriber values connected reads

pub returns-clause-counts : goal.returns-clause-counts
returns-clause-counts g c = λ subscribers values different connected reads.
    let it = from-shown {T = g.row.T.Denot} {U = g.row.U.Denot} c.domain.inside.state c.domain.invariant
    c.args.domain.now c.domain.view_is c.args.self c.requires.live (returns-clause-sent g c) in
    sends-count {T = g.row.T.Denot} {U = g.row.U.Denot} c.args.domain.now _ it.m it.s
    (answers_of g.F.BackpressureFn.allows g.G.DegradationFn.allows c.args.domain.now.boxes.publishers) it.shown
    c.args.self.loan.number it.l c.args.self.loan.publisher it.its
    (unblocked-test c.args.domain.now (written_key c.args.self) c.requires.unblocked) subscribers values different
    connected c.send_loan.result it.step.0 it.step.1 it.step.2
    (λ subscriber at. returns-clause-serves g c subscriber values at reads)

pub returns-clause-consistent : goal.returns-clause-consistent
returns-clause-consistent g c =
    let it = always-shown {T = g.row.T.Denot}
    {U = g.row.U.Denot} c.domain.inside.state c.args.domain.now c.domain.invariant c.domain.view_is in
    consistent-shown c.args.domain.now it.0 it.1 it.2

pub returns-clause-full : goal.returns-clause-full
returns-clause-full g c = λ subscriber connected.
    let it = from-shown {T = g.row.T.Denot} {U = g.row.U.Denot} c.domain.inside.state c.domain.invariant
    c.args.domain.now c.domain.view_is c.args.self c.requires.live (returns-clause-sent g c) in
    sends-full {T = g.row.T.Denot} {U = g.row.U.Denot} c.args.domain.now _ it.m it.s
    (answers_of g.F.BackpressureFn.allows g.G.DegradationFn.allows c.args.domain.now.boxes.publishers) it.shown
    c.args.self.loan.number it.l c.args.self.loan.publisher c.send_loan.result it.step.0 it.step.1 it.step.2 it.its
    (unblocked-test c.args.domain.now (written_key c.args.self) c.requires.unblocked) (written_key c.args.self) refl
    (returns-clause-spends g c).blocked subscriber connected

pub returns-clause-failed : goal.returns-clause-failed
returns-clause-failed g c = λ subscriber values connected reads.
    let it = from-shown {T = g.row.T.Denot} {U = g.row.U.Denot} c.domain.inside.state c.domain.invariant
    c.args.domain.now c.domain.view_is c.args.self c.requires.live (returns-clause-sent g c) in
    sends-fail {T = g.row.T.Denot} {U = g.row.U.Denot} c.args.domain.now _ it.m it.s
    (answers_of g.F.BackpressureFn.allows g.G.DegradationFn.allows c.args.domain.now.boxes.publishers) it.shown
    c.args.self.loan.number it.l c.args.self.loan.publisher c.send_loan.result it.step.0 it.step.1 it.step.2
    (it.shown.unsent c.args.self.loan.number it.l it.out) it.out it.its
    (unblocked-test c.args.domain.now (written_key c.args.self) c.requires.unblocked) subscriber values connected reads
