use Rattle.std.proofs.Common.{◌≡◌, ◌<◌, ◌^◌, None, Some, slice_index_or, sym, ◌∙◌, ap, subst, arith, length, rules}
use Rattle.iox2_machine.specs.machine.Delivery.{no_time}
use Rattle.iox2_connections.specs.Deliveries.{begun}
use Rattle.iox2_domain.specs.Deliveries.{leaving, sender_after, book_after}
use Rattle.iox2_connections.specs.Handlers.{asked, marks_of}
use Rattle.iox2_domain.specs.Ports.{PublisherFields}
use Rattle.iox2_domain.specs.Fields.{Fields}
use Rattle.iox2_domain.specs.Invariant.{IsDomain}
use Rattle.iox2_domain.proofs.lemmas.slots.PublisherBooks.{read-there, book-covers}
use Rattle.iox2_steps.proofs.sends.DeliverySteps.{ready-to-deliver, delivers-own, sends-slot, sent-once, sent-alone}
use Rattle.iox2_steps.proofs.sends.DeliverySteps.{sent-own, sent-in_use, leaves-in_use, history-holder-used}
use Rattle.iox2_messages.proofs.WaitingChannels.{have-channel-0}
use Rattle.iox2_messages.proofs.deliveries.send_slot.Goals as goal

pub deliver-outcome-requires-clause-ready : goal.deliver-outcome-requires-clause-ready
deliver-outcome-requires-clause-ready g c =
    rw (c.value.ensures, c.deref.ensures.value)
    (ready-to-deliver _ (subst (IsDomain {T = g.row.T.Denot} {U = g.row.U.Denot})
    (sym c.state.view_is) c.requires.agrees).parts c.args.place _
    (read-there _ c.args.place _ _
    (ap (λ (f : Fields g.row.T.Denot g.row.U.Denot). slice_index_or f.publishers c.args.place None) c.state.view_is
    ∙ c.requires.can.1) c.index_mut.ensures.value ∙ c.in-Some.is ∙ ap Some (sym c.publisher.view_is)))

pub deliver-outcome-requires-clause-own : goal.deliver-outcome-requires-clause-own
deliver-outcome-requires-clause-own g c =
    rw c.value.ensures (sent-own _ _ c.state.view_is c.args.place c.args.slot c.requires.can _
    (read-there _ c.args.place _ _
    (ap (λ (f : Fields g.row.T.Denot g.row.U.Denot). slice_index_or f.publishers c.args.place None) c.state.view_is
    ∙ c.requires.can.1) c.index_mut.ensures.value ∙ c.in-Some.is ∙ ap Some (sym c.publisher.view_is))
    _ c.index_mut-book.ensures.value)

pub deliver-outcome-requires-clause-fits : goal.deliver-outcome-requires-clause-fits
deliver-outcome-requires-clause-fits g c =
    let one = sent-alone _ _ c.state.view_is c.args.place c.args.slot c.requires.can _
    (read-there _ c.args.place _ _
    (ap (λ (f : Fields g.row.T.Denot g.row.U.Denot). slice_index_or f.publishers c.args.place None) c.state.view_is
    ∙ c.requires.can.1) c.index_mut.ensures.value ∙ c.in-Some.is ∙ ap Some (sym c.publisher.view_is))
    _ c.index_mut-book.ensures.value in
    let few : length c.deref.result.now < 2 ^ 63 =
    rw c.deref.ensures.value (omega (arith, c.publisher.inside.keys.ok, c.publisher.inside.keys.small)) in
    omega (arith, one, few)

pub deliver-outcome-requires-clause-covered : goal.deliver-outcome-requires-clause-covered
deliver-outcome-requires-clause-covered g c =
    rw c.value.ensures
    (book-covers _ (subst (IsDomain {T = g.row.T.Denot} {U = g.row.U.Denot})
    (sym c.state.view_is) c.requires.agrees).parts c.args.place _
    (read-there _ c.args.place _ _
    (ap (λ (f : Fields g.row.T.Denot g.row.U.Denot). slice_index_or f.publishers c.args.place None) c.state.view_is
    ∙ c.requires.can.1) c.index_mut.ensures.value ∙ c.in-Some.is ∙ ap Some (sym c.publisher.view_is))
    _ c.index_mut-book.ensures.value)

pub conclude-requires-clause-once : goal.conclude-requires-clause-once
conclude-requires-clause-once g c = sent-once _ _ c.state.view_is c.args.place c.args.slot c.requires.can _
    (read-there _ c.args.place _ _
    (ap (λ (f : Fields g.row.T.Denot g.row.U.Denot). slice_index_or f.publishers c.args.place None) c.state.view_is
    ∙ c.requires.can.1) c.index_mut.ensures.value ∙ c.in-Some.is)

pub conclude-requires-clause-in_use : goal.conclude-requires-clause-in_use
conclude-requires-clause-in_use g c =
    let used = sent-in_use _ _ c.state.view_is c.args.place c.args.slot c.requires.can _
    (read-there _ c.args.place _ _
    (ap (λ (f : Fields g.row.T.Denot g.row.U.Denot). slice_index_or f.publishers c.args.place None) c.state.view_is
    ∙ c.requires.can.1) c.index_mut.ensures.value ∙ c.in-Some.is ∙ ap Some (sym c.publisher.view_is))
    _ c.index_mut-book.ensures.value _ _ (rw c.value.ensures at c.deliver-outcome.ensures.recounts) in
    record { in_bounds = used.0; in_use = used.1 }

pub conclude-requires-clause-fits : goal.conclude-requires-clause-fits
conclude-requires-clause-fits g c =
    let one = sent-alone _ _ c.state.view_is c.args.place c.args.slot c.requires.can _
    (read-there _ c.args.place _ _
    (ap (λ (f : Fields g.row.T.Denot g.row.U.Denot). slice_index_or f.publishers c.args.place None) c.state.view_is
    ∙ c.requires.can.1) c.index_mut.ensures.value ∙ c.in-Some.is ∙ ap Some (sym c.publisher.view_is))
    _ c.index_mut-book.ensures.value in
    let few : length c.deref.result.now < 2 ^ 63 =
    rw c.deref.ensures.value (omega (arith, c.publisher.inside.keys.ok, c.publisher.inside.keys.small)) in
    omega (arith, one, few, c.deliver-outcome.ensures.grows)

pub conclude-requires-clause-leaves : goal.conclude-requires-clause-leaves
conclude-requires-clause-leaves g c = λ oldest leaves.
    let slot_used = sent-in_use _ _ c.state.view_is c.args.place c.args.slot c.requires.can _
    (read-there _ c.args.place _ _
    (ap (λ (f : Fields g.row.T.Denot g.row.U.Denot). slice_index_or f.publishers c.args.place None) c.state.view_is
    ∙ c.requires.can.1) c.index_mut.ensures.value ∙ c.in-Some.is ∙ ap Some (sym c.publisher.view_is))
    _ c.index_mut-book.ensures.value _ _ (rw c.value.ensures at c.deliver-outcome.ensures.recounts) in
    let used = leaves-in_use _ _ c.state.view_is c.args.place c.args.slot c.requires.can _
    (read-there _ c.args.place _ _
    (ap (λ (f : Fields g.row.T.Denot g.row.U.Denot). slice_index_or f.publishers c.args.place None) c.state.view_is
    ∙ c.requires.can.1) c.index_mut.ensures.value ∙ c.in-Some.is ∙ ap Some (sym c.publisher.view_is))
    _ c.index_mut-book.ensures.value c.requires.agrees _ _
    (rw c.value.ensures at c.deliver-outcome.ensures.recounts) oldest
    (ap (λ (y : PublisherFields). leaving y.history c.args.slot) c.publisher.view_is ∙ leaves) in
    history-holder-used c.deliver-outcome.result c.args.slot c.deliver-outcome.new.book slot_used.0 oldest used.0 used.1

pub returns-clause-sends : goal.returns-clause-sends
returns-clause-sends g c = (
  c.deliver-outcome.result,
  c.conclude.ensures.same,
  λ x at.
      sends-slot (asked g.X.BackpressureFn.allows c.args.handler.now) _ _ c.state.view_is c.args.place _
      (read-there _ c.args.place _ _
      (ap (λ (f : Fields g.row.T.Denot g.row.U.Denot). slice_index_or f.publishers c.args.place None) c.state.view_is
      ∙ c.requires.can.1) c.index_mut.ensures.value ∙ c.in-Some.is ∙ ap Some (sym c.publisher.view_is)) _ _
      c.index_mut-book.ensures.value _ c.deliver-outcome.ensures.book
      (rw c.value.ensures at c.deliver-outcome.ensures.recounts) c.args.slot c.deliver-outcome.result
      c.deliver-outcome.ensures.alone
      (delivers-own (asked g.X.BackpressureFn.allows c.args.handler.now) _ _ c.state.view_is c.args.place _
      (read-there _ c.args.place _ _
      (ap (λ (f : Fields g.row.T.Denot g.row.U.Denot). slice_index_or f.publishers c.args.place None) c.state.view_is
      ∙ c.requires.can.1) c.index_mut.ensures.value ∙ c.in-Some.is ∙ ap Some (sym c.publisher.view_is))
      0 c.publisher.inside.keys.items c.args.slot begun no_time c.deliver-outcome.result
      c.deliver-outcome.new.connections (marks_of c.args.handler.now)
      (c.requires.handler _
      (sym (ap (λ (f : Fields g.row.T.Denot g.row.U.Denot). slice_index_or f.publishers c.args.place None)
      c.state.view_is)
      ∙ (read-there _ c.args.place _ _
      (ap (λ (f : Fields g.row.T.Denot g.row.U.Denot). slice_index_or f.publishers c.args.place None) c.state.view_is
      ∙ c.requires.can.1) c.index_mut.ensures.value ∙ c.in-Some.is ∙ ap Some (sym c.publisher.view_is))))
      (let start : c.default.result ≡ begun = search rules in
      rw (c.value.ensures, c.deref.ensures.value, start) at c.deliver-outcome.ensures.delivers))
      _ (c.conclude.ensures.publisher
      ∙ ap (sender_after c.deliver-outcome.result c.args.slot) (sym c.publisher.view_is))
      _ (c.conclude.ensures.book ∙ ap (λ (y : PublisherFields).
      book_after c.deliver-outcome.result c.args.slot y c.deliver-outcome.new.book) (sym c.publisher.view_is))
      x at,
)

pub deliver-outcome-requires-clause-known : goal.deliver-outcome-requires-clause-known
deliver-outcome-requires-clause-known g c = have-channel-0 _
