use Rattle.iox2_machine.specs.declared.errors.ReceiveError.{ReceiveError}
use Rattle.iox2_connections.specs.Takes.{ReceivesSlot}
use Rattle.iox2_connections.specs.declared.receiver.Taken.{Taken}
use denote.Param.{param}
use Rattle.iox2_domain.specs.Fields.{Fields}
use Rattle.iox2_domain.specs.contracts.state.DomainState.{the_view}
use Rattle.std.proofs.Common.{◌≡◌, ◌∙◌, ap, sym, subst, Option, None, Some, Result, Ok, Err, slice_index_or, slice_set}
use Rattle.std.proofs.Common.{rules, vec_len}
use Rattle.iox2_domain.specs.Receipts.{TakesAs}
use Rattle.iox2_domain.proofs.lemmas.receives.ReceiptSteps.{has-keys, put-back, connected-places, connected-expired}
use Rattle.iox2_domain.proofs.lemmas.receives.ReceiptSteps.{taken-within, at-taken, at-nothing, at-error}
use Rattle.iox2_domain.proofs.lemmas.fields.SameEnds.{stands_still}
use Rattle.iox2_messages.proofs.StandingPlaces.{place-within, place-read}
use Rattle.iox2_messages.proofs.receipts.take_at.Goals as goal

pub receive-requires-clause-keys : goal.receive-requires-clause-keys
receive-requires-clause-keys g c =
    connected-places _ c.args.state.now c.args.place c.in-Some.subscriber c.deref.result.now c.deref-2.result.now
    (has-keys _ c.args.state.now c.args.place c.index_mut.result.now c.in-Some.subscriber _ c.deref.result.now
    c.deref-2.result.now c.requires.agrees c.state.view_is c.requires.stands
    c.index_mut.ensures.value c.in-Some.is c.subscriber.view_is c.deref.ensures.value c.deref-2.ensures.value)

pub receive-requires-clause-expired : goal.receive-requires-clause-expired
receive-requires-clause-expired g c =
    connected-expired _ c.args.state.now c.args.place c.in-Some.subscriber c.deref.result.now c.deref-2.result.now
    (has-keys _ c.args.state.now c.args.place c.index_mut.result.now c.in-Some.subscriber _ c.deref.result.now
    c.deref-2.result.now c.requires.agrees c.state.view_is c.requires.stands
    c.index_mut.ensures.value c.in-Some.is c.subscriber.view_is c.deref.ensures.value c.deref-2.ensures.value)

pub returns-in_err-taken : goal.returns-in_err-taken
returns-in_err-taken g c = λ y at.
    let got : ReceivesSlot c.state.inside.connections c.deref.result.now c.deref-2.result.now
    (Err c.in_err-taken.field-0.0) c.receive.new.connections =
    subst (λ (r : Result (Option Taken) ReceiveError).
    ReceivesSlot c.state.inside.connections c.deref.result.now c.deref-2.result.now r c.receive.new.connections)
    (c.in_err-taken.was) c.receive.ensures in
    let kept : slice_set c.state.inside.subscribers.items c.args.place (Some _) ≡ c.state.inside.subscribers.items =
    put-back c.state.inside.subscribers.items c.args.place c.index_mut.result.now c.in-Some.subscriber _
    c.index_mut.ensures.value c.in-Some.is c.subscriber.view_is in
    subst (λ (f : Fields g.row.T.Denot g.row.U.Denot). TakesAs c.args.state.now y.id c.from_residual.result f)
    (λ k. record (the_view (param 0 g.row.T) (param 1 g.row.U) c.state.inside)
    { subscribers = sym kept k; connections = c.receive.new.connections })
    (at-error _ c.args.state.now c.args.place c.in-Some.subscriber c.deref.result.now c.deref-2.result.now
    (has-keys _ c.args.state.now c.args.place c.index_mut.result.now c.in-Some.subscriber _ c.deref.result.now
    c.deref-2.result.now c.requires.agrees c.state.view_is c.requires.stands
    c.index_mut.ensures.value c.in-Some.is c.subscriber.view_is c.deref.ensures.value c.deref-2.ensures.value)
    c.in_err-taken.field-0.0 c.receive.new.connections got c.from_residual.result c.from_residual.ensures.1 y at)

pub returns-in_default-taken : goal.returns-in_default-taken
returns-in_default-taken g c = λ y at.
    let got : ReceivesSlot c.state.inside.connections c.deref.result.now c.deref-2.result.now
    (Ok None) c.receive.new.connections =
    subst (λ (r : Result (Option Taken) ReceiveError).
    ReceivesSlot c.state.inside.connections c.deref.result.now c.deref-2.result.now r c.receive.new.connections)
    (c.in_ok-taken.was ∙ ap (λ (o : Option Taken). Ok o) c.in_default-taken.is) c.receive.ensures in
    let kept : slice_set c.state.inside.subscribers.items c.args.place (Some _) ≡ c.state.inside.subscribers.items =
    put-back c.state.inside.subscribers.items c.args.place c.index_mut.result.now c.in-Some.subscriber _
    c.index_mut.ensures.value c.in-Some.is c.subscriber.view_is in
    subst (λ (f : Fields g.row.T.Denot g.row.U.Denot). TakesAs c.args.state.now y.id (Ok None) f)
    (λ k. record (the_view (param 0 g.row.T) (param 1 g.row.U) c.state.inside)
    { subscribers = sym kept k; connections = c.receive.new.connections })
    (at-nothing _ c.args.state.now c.args.place c.in-Some.subscriber c.deref.result.now c.deref-2.result.now
    (has-keys _ c.args.state.now c.args.place c.index_mut.result.now c.in-Some.subscriber _ c.deref.result.now
    c.deref-2.result.now c.requires.agrees c.state.view_is c.requires.stands
    c.index_mut.ensures.value c.in-Some.is c.subscriber.view_is c.deref.ensures.value c.deref-2.ensures.value)
    c.receive.new.connections got.0 got.1 y at)

pub receipt_of-requires-clause-home : goal.receipt_of-requires-clause-home
receipt_of-requires-clause-home g c =
    let got : ReceivesSlot c.state.inside.connections c.deref.result.now c.deref-2.result.now
    (Ok (Some c.in-Some-taken.taken)) c.receive.new.connections =
    subst (λ (r : Result (Option Taken) ReceiveError).
    ReceivesSlot c.state.inside.connections c.deref.result.now c.deref-2.result.now r c.receive.new.connections)
    (c.in_ok-taken.was ∙ ap (λ (o : Option Taken). Ok o) c.in-Some-taken.is) c.receive.ensures in
    let still = stands_still c.state.inside.connections c.receive.new.connections
    (got.1).homes c.in-Some-taken.taken.connection (got.1).link (got.1).stands in
    rw still.1 (ap (λ t. t.0) still.2 ∙ sym (got.1).home_is)

pub receipt_of-requires-clause-within : goal.receipt_of-requires-clause-within
receipt_of-requires-clause-within g c =
    let got : ReceivesSlot c.state.inside.connections c.deref.result.now c.deref-2.result.now
    (Ok (Some c.in-Some-taken.taken)) c.receive.new.connections =
    subst (λ (r : Result (Option Taken) ReceiveError).
    ReceivesSlot c.state.inside.connections c.deref.result.now c.deref-2.result.now r c.receive.new.connections)
    (c.in_ok-taken.was ∙ ap (λ (o : Option Taken). Ok o) c.in-Some-taken.is) c.receive.ensures in
    taken-within _ c.args.state.now c.state.view_is c.requires.agrees c.in-Some-taken.taken c.receive.new.connections
    got.1

pub returns : goal.returns
returns g c = λ y at.
    let got : ReceivesSlot c.state.inside.connections c.deref.result.now c.deref-2.result.now
    (Ok (Some c.in-Some-taken.taken)) c.receive.new.connections =
    subst (λ (r : Result (Option Taken) ReceiveError).
    ReceivesSlot c.state.inside.connections c.deref.result.now c.deref-2.result.now r c.receive.new.connections)
    (c.in_ok-taken.was ∙ ap (λ (o : Option Taken). Ok o) c.in-Some-taken.is) c.receive.ensures in
    let kept : slice_set c.state.inside.subscribers.items c.args.place (Some _) ≡ c.state.inside.subscribers.items =
    put-back c.state.inside.subscribers.items c.args.place c.index_mut.result.now c.in-Some.subscriber _
    c.index_mut.ensures.value c.in-Some.is c.subscriber.view_is in
    subst (λ (f : Fields g.row.T.Denot g.row.U.Denot). TakesAs c.args.state.now y.id (Ok (Some c.receipt_of.result)) f)
    (λ k. record (the_view (param 0 g.row.T) (param 1 g.row.U) c.state.inside) {
      subscribers = sym kept k;
      connections = sym c.receipt_of.ensures.same_connections k;
      books = sym c.receipt_of.ensures.same_books k;
    })
    (at-taken _ c.args.state.now c.args.place c.in-Some.subscriber c.deref.result.now c.deref-2.result.now
    (has-keys _ c.args.state.now c.args.place c.index_mut.result.now c.in-Some.subscriber _ c.deref.result.now
    c.deref-2.result.now c.requires.agrees c.state.view_is c.requires.stands
    c.index_mut.ensures.value c.in-Some.is c.subscriber.view_is c.deref.ensures.value c.deref-2.ensures.value)
    c.in-Some-taken.taken c.receipt_of.result c.receive.new.connections got.0 got.1 c.receipt_of.ensures.receipt y at)

pub index_mut-requires : goal.index_mut-requires
index_mut-requires g c = place-within c.state.inside.subscribers.items c.args.place c.requires.stands.0
    (ap (λ (f : Fields g.row.T.Denot g.row.U.Denot). slice_index_or f.subscribers c.args.place None) c.state.view_is
    ∙ c.requires.stands.1) (vec_len c.state.inside.subscribers) (search rules)

pub unreachable-requires : goal.unreachable-requires
unreachable-requires g c = c.in_default.not-Some c.requires.stands.0
    (place-read c.state.inside.subscribers.items c.args.place c.requires.stands.0
    (ap (λ (f : Fields g.row.T.Denot g.row.U.Denot). slice_index_or f.subscribers c.args.place None) c.state.view_is
    ∙ c.requires.stands.1) _ c.index_mut.ensures.value)
