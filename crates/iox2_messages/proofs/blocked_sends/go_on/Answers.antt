use Rattle.std.proofs.Common.{ℕ, ◌≡◌, ◌≤◌, ◌+◌, None, Some, slice_index_or, length, sym, ◌∙◌, ap, subst, arith}
use Rattle.std.proofs.lemmas.Option.{same_Some}
use Rattle.std.specs.declared.time.Duration.{Duration}
use Rattle.iox2_slots.specs.SlotBook.{holders_at}
use Rattle.iox2_machine.specs.machine.Records.{Environment}
use Rattle.iox2_connections.specs.declared.sender.Progress.{Progress}
use Rattle.iox2_connections.specs.declared.sender.DeliveryOutcome.{DeliveryOutcome}
use Rattle.iox2_connections.specs.Receivers.{HasReclaimed}
use Rattle.iox2_domain.specs.declared.publisher_state.BlockedDelivery.{BlockedDelivery}
use Rattle.iox2_domain.specs.BlockedSends.{with_outcome, CanGoOn, GoesOn}
use Rattle.iox2_connections.specs.Handlers.{asked, marks_of}
use Rattle.iox2_domain.specs.Boxes.{answers_of}
use Rattle.iox2_domain.specs.Ports.{PublisherFields}
use Rattle.iox2_connections.proofs.AnyEnvironment.{AllowsAsMuch}
use Rattle.iox2_domain.specs.Fields.{Fields, within_reach}
use Rattle.iox2_domain.specs.Invariant.{IsDomain}
use Rattle.iox2_domain.proofs.lemmas.slots.PublisherBooks.{read-there, book-there, book-covers}
use Rattle.iox2_steps.proofs.sends.DeliverySteps.{Asked, asks-boxes, ready-to-go-on, delivers-own, goes-alike}
use Rattle.iox2_steps.proofs.sends.DeliverySteps.{goes-slot}
use Rattle.iox2_steps.proofs.sends.Reach.{reach-short}
use Rattle.iox2_steps.proofs.sends.BlockedSteps.{waits-within, waits-own, waits-once, waits-few, waits-in_use}
use Rattle.iox2_messages.specs.BlockedPublishers.{CanTakeUp}
use Rattle.iox2_messages.proofs.WaitingChannels.{have-blocked-channel}
use Rattle.iox2_messages.proofs.blocked_sends.go_on.Goals as goal

-- what goes on is this delivery
goes-same : {T U : Type 0} (environment : Environment) (f : Fields T U) (i : ℕ) (x : PublisherFields)
    (v w : BlockedDelivery) (start : Progress) (elapsed : Duration) (outcome : DeliveryOutcome) (h : Fields T U)
    → v ≡ w → GoesOn environment f i x v start elapsed outcome h → GoesOn environment f i x w start elapsed outcome h
goes-same environment f i x v w start elapsed outcome h same goes =
    subst (λ (u : BlockedDelivery). GoesOn environment f i x u start elapsed outcome h) same goes

-- the delivery that may go on is the one that waits there
can-of : {T U : Type 0} (f : Fields T U) (place : ℕ) (start : Progress) (may : CanTakeUp f place start)
    (x : PublisherFields) (b : BlockedDelivery)
    → slice_index_or f.publishers place None ≡ Some x → x.blocked ≡ Some b → CanGoOn x b start
can-of f place start may x b at waits =
    let it : may.publisher ≡ x = same_Some may.publisher x (sym may.stands ∙ at) in
    let its : may.delivery ≡ b =
    same_Some may.delivery b (sym may.waits ∙ ap (λ (y : PublisherFields). y.blocked) it ∙ waits) in
    subst (λ (y : PublisherFields). CanGoOn y b start) it
    (subst (λ (d : BlockedDelivery). CanGoOn may.publisher d start) its may.can)

-- and that publisher has reclaimed what was given back
reclaimed-of : {T U : Type 0} (f : Fields T U) (place : ℕ) (start : Progress) (may : CanTakeUp f place start)
    (x : PublisherFields)
    → slice_index_or f.publishers place None ≡ Some x → HasReclaimed f.connections x.keys
reclaimed-of f place start may x at = subst (λ (y : PublisherFields). HasReclaimed f.connections y.keys)
    (same_Some may.publisher x (sym may.stands ∙ at)) may.reclaimed

pub index_mut-book-requires : goal.index_mut-book-requires
index_mut-book-requires g c =
    book-there _ (subst (IsDomain {T = g.row.T.Denot} {U = g.row.U.Denot})
    (sym c.state.view_is) c.requires.agrees).parts c.args.place _
    (read-there _ c.args.place _ _
    (ap (λ (f : Fields g.row.T.Denot g.row.U.Denot). slice_index_or f.publishers c.args.place None) c.state.view_is
    ∙ c.requires.stands) c.index_mut.ensures.value ∙ c.in-Some.is ∙ ap Some (sym c.publisher.view_is))

pub deliver-outcome-requires-clause-ready : goal.deliver-outcome-requires-clause-ready
deliver-outcome-requires-clause-ready g c =
    rw (c.value.ensures, c.keys_within.ensures, c.deref.ensures.value)
    (ready-to-go-on _ (subst (IsDomain {T = g.row.T.Denot} {U = g.row.U.Denot})
    (sym c.state.view_is) c.requires.agrees).parts c.args.place _
    (read-there _ c.args.place _ _
    (ap (λ (f : Fields g.row.T.Denot g.row.U.Denot). slice_index_or f.publishers c.args.place None) c.state.view_is
    ∙ c.requires.stands) c.index_mut.ensures.value ∙ c.in-Some.is ∙ ap Some (sym c.publisher.view_is))
    c.in-Some-blocked.blocked)

pub keys_within-requires : goal.keys_within-requires
keys_within-requires g c =
    rw c.deref.ensures.value
    (waits-within _ (subst (IsDomain {T = g.row.T.Denot} {U = g.row.U.Denot}) (sym c.state.view_is) c.requires.agrees)
    c.args.place _ (read-there _ c.args.place _ _
    (ap (λ (f : Fields g.row.T.Denot g.row.U.Denot). slice_index_or f.publishers c.args.place None) c.state.view_is
    ∙ c.requires.stands) c.index_mut.ensures.value ∙ c.in-Some.is ∙ ap Some (sym c.publisher.view_is))
    c.in-Some-blocked.blocked c.in-Some-blocked.is).0

pub deliver-outcome-requires-clause-own : goal.deliver-outcome-requires-clause-own
deliver-outcome-requires-clause-own g c =
    rw c.value.ensures
    (waits-own _ (subst (IsDomain {T = g.row.T.Denot} {U = g.row.U.Denot}) (sym c.state.view_is) c.requires.agrees)
    c.args.place _ (read-there _ c.args.place _ _
    (ap (λ (f : Fields g.row.T.Denot g.row.U.Denot). slice_index_or f.publishers c.args.place None) c.state.view_is
    ∙ c.requires.stands) c.index_mut.ensures.value ∙ c.in-Some.is ∙ ap Some (sym c.publisher.view_is))
    c.in-Some-blocked.blocked c.in-Some-blocked.is _ c.index_mut-book.ensures.value)

pub deliver-outcome-requires-clause-start : goal.deliver-outcome-requires-clause-start
deliver-outcome-requires-clause-start g c =
    rw (c.keys_within.ensures, c.deref.ensures.value)
    (can-of _ _ _ c.requires _ c.in-Some-blocked.blocked
    (sym (ap (λ (f : Fields g.row.T.Denot g.row.U.Denot). slice_index_or f.publishers c.args.place None)
    c.state.view_is)
    ∙ (read-there _ c.args.place _ _
    (ap (λ (f : Fields g.row.T.Denot g.row.U.Denot). slice_index_or f.publishers c.args.place None) c.state.view_is
    ∙ c.requires.stands) c.index_mut.ensures.value ∙ c.in-Some.is ∙ ap Some (sym c.publisher.view_is)))
    c.in-Some-blocked.is).within

pub deliver-outcome-requires-clause-known : goal.deliver-outcome-requires-clause-known
deliver-outcome-requires-clause-known g c =
    (have-blocked-channel _ (subst (IsDomain {T = g.row.T.Denot} {U = g.row.U.Denot})
    (sym c.state.view_is) c.requires.agrees) c.args.place _
    (read-there _ c.args.place _ _
    (ap (λ (f : Fields g.row.T.Denot g.row.U.Denot). slice_index_or f.publishers c.args.place None) c.state.view_is
    ∙ c.requires.stands) c.index_mut.ensures.value ∙ c.in-Some.is ∙ ap Some (sym c.publisher.view_is))
    c.in-Some-blocked.blocked c.in-Some-blocked.is)

pub deliver-outcome-requires-clause-counted : goal.deliver-outcome-requires-clause-counted
deliver-outcome-requires-clause-counted g c =
    (can-of _ _ _ c.requires _ c.in-Some-blocked.blocked
    (sym (ap (λ (f : Fields g.row.T.Denot g.row.U.Denot). slice_index_or f.publishers c.args.place None)
    c.state.view_is)
    ∙ (read-there _ c.args.place _ _
    (ap (λ (f : Fields g.row.T.Denot g.row.U.Denot). slice_index_or f.publishers c.args.place None) c.state.view_is
    ∙ c.requires.stands) c.index_mut.ensures.value ∙ c.in-Some.is ∙ ap Some (sym c.publisher.view_is)))
    c.in-Some-blocked.is).counted

pub deliver-outcome-requires-clause-fits : goal.deliver-outcome-requires-clause-fits
deliver-outcome-requires-clause-fits g c =
    let few : holders_at c.index_mut-book.result.now c.in-Some-blocked.blocked.slot ≤ length c.deref.result.now + 2 =
    rw c.deref.ensures.value
    (waits-few _ (subst (IsDomain {T = g.row.T.Denot} {U = g.row.U.Denot}) (sym c.state.view_is) c.requires.agrees)
    c.args.place _ (read-there _ c.args.place _ _
    (ap (λ (f : Fields g.row.T.Denot g.row.U.Denot). slice_index_or f.publishers c.args.place None) c.state.view_is
    ∙ c.requires.stands) c.index_mut.ensures.value ∙ c.in-Some.is ∙ ap Some (sym c.publisher.view_is))
    c.in-Some-blocked.blocked c.in-Some-blocked.is _ c.index_mut-book.ensures.value
    (subst (λ (f : Fields g.row.T.Denot g.row.U.Denot). HasReclaimed f.connections c.publisher.inside.keys.items)
    (sym c.state.view_is) (reclaimed-of _ _ _ c.requires _
    (sym (ap (λ (f : Fields g.row.T.Denot g.row.U.Denot). slice_index_or f.publishers c.args.place None)
    c.state.view_is)
    ∙ (read-there _ c.args.place _ _
    (ap (λ (f : Fields g.row.T.Denot g.row.U.Denot). slice_index_or f.publishers c.args.place None) c.state.view_is
    ∙ c.requires.stands) c.index_mut.ensures.value ∙ c.in-Some.is ∙ ap Some (sym c.publisher.view_is)))))) in
    let short : length c.keys_within.result.now ≤ length c.deref.result.now =
    rw c.keys_within.ensures (reach-short c.in-Some-blocked.blocked c.deref.result.now) in
    omega (arith, few, short, c.deref.type_inv.1)

pub deliver-outcome-requires-clause-covered : goal.deliver-outcome-requires-clause-covered
deliver-outcome-requires-clause-covered g c =
    rw c.value.ensures
    (book-covers _ (subst (IsDomain {T = g.row.T.Denot} {U = g.row.U.Denot})
    (sym c.state.view_is) c.requires.agrees).parts c.args.place _
    (read-there _ c.args.place _ _
    (ap (λ (f : Fields g.row.T.Denot g.row.U.Denot). slice_index_or f.publishers c.args.place None) c.state.view_is
    ∙ c.requires.stands) c.index_mut.ensures.value ∙ c.in-Some.is ∙ ap Some (sym c.publisher.view_is)) _
    c.index_mut-book.ensures.value)

pub conclude_blocked-requires-clause-once : goal.conclude_blocked-requires-clause-once
conclude_blocked-requires-clause-once g c =
    waits-once _ (subst (IsDomain {T = g.row.T.Denot} {U = g.row.U.Denot}) (sym c.state.view_is) c.requires.agrees)
    c.args.place _ (read-there _ c.args.place _ _
    (ap (λ (f : Fields g.row.T.Denot g.row.U.Denot). slice_index_or f.publishers c.args.place None) c.state.view_is
    ∙ c.requires.stands) c.index_mut.ensures.value ∙ c.in-Some.is) c.in-Some-blocked.blocked
    (ap (λ (y : PublisherFields). y.blocked) (sym c.publisher.view_is) ∙ c.in-Some-blocked.is)

pub conclude_blocked-requires-clause-in_use : goal.conclude_blocked-requires-clause-in_use
conclude_blocked-requires-clause-in_use g c =
    let used = waits-in_use _ (subst (IsDomain {T = g.row.T.Denot} {U = g.row.U.Denot})
    (sym c.state.view_is) c.requires.agrees) c.args.place _
    (read-there _ c.args.place _ _
    (ap (λ (f : Fields g.row.T.Denot g.row.U.Denot). slice_index_or f.publishers c.args.place None) c.state.view_is
    ∙ c.requires.stands) c.index_mut.ensures.value ∙ c.in-Some.is ∙ ap Some (sym c.publisher.view_is))
    c.in-Some-blocked.blocked c.in-Some-blocked.is _ c.index_mut-book.ensures.value _ _
    (rw c.value.ensures at c.deliver-outcome.ensures.recounts) in
    record { in_bounds = used.0; in_use = used.1 }

pub returns : goal.returns
returns g c = λ may.
    let x = may.publisher in
    let w = may.delivery in
    let both =
    sym ((read-there _ c.args.place _ _
    (ap (λ (f : Fields g.row.T.Denot g.row.U.Denot). slice_index_or f.publishers c.args.place None) c.state.view_is
    ∙ c.requires.stands) c.index_mut.ensures.value ∙ c.in-Some.is))
    ∙ ap (λ (f : Fields g.row.T.Denot g.row.U.Denot). slice_index_or f.publishers c.args.place None) c.state.view_is
    ∙ may.stands in
    let it : c.in-Some.publisher ≡ x = (let same : Some c.in-Some.publisher ≡ Some x = both in cc) in
    let blocked : Some c.in-Some-blocked.blocked ≡ Some w =
    sym c.in-Some-blocked.is ∙ ap (λ (y : PublisherFields). y.blocked) c.publisher.view_is
    ∙ ap (λ (y : PublisherFields). y.blocked) it ∙ may.waits in
    let is : c.in-Some-blocked.blocked ≡ w = cc in
    let asking : AllowsAsMuch (asked (Asked g.F.BackpressureFn.allows) c.handler-handler.result)
    (answers_of g.F.BackpressureFn.allows g.G.DegradationFn.allows c.args.boxes.now.boxes) x.id x.backpressure_handler =
    subst (λ (y : PublisherFields). AllowsAsMuch (asked (Asked g.F.BackpressureFn.allows) c.handler-handler.result)
    (answers_of g.F.BackpressureFn.allows g.G.DegradationFn.allows c.args.boxes.now.boxes) y.id y.backpressure_handler)
    it
    (subst (λ h. AllowsAsMuch (asked (Asked g.F.BackpressureFn.allows) c.handler-handler.result)
    (answers_of g.F.BackpressureFn.allows g.G.DegradationFn.allows c.args.boxes.now.boxes) (c.in-Some.publisher).id h)
    c.handler-handler.ensures.marks
    (asks-boxes g.F.BackpressureFn.allows g.G.DegradationFn.allows
    (c.in-Some.publisher).id c.args.boxes.now.boxes c.handler-handler.result c.handler-handler.ensures.asks)) in
    goes-alike (asked (Asked g.F.BackpressureFn.allows) c.handler-handler.result)
    (answers_of g.F.BackpressureFn.allows g.G.DegradationFn.allows c.args.boxes.now.boxes) c.args.state.now c.args.place
    x c.deliver-outcome.result _ asking w c.args.from.start c.args.from.elapsed
    (goes-same (asked (Asked g.F.BackpressureFn.allows) c.handler-handler.result) c.args.state.now c.args.place x _ w
    c.args.from.start c.args.from.elapsed c.deliver-outcome.result _ is
    (goes-slot (asked (Asked g.F.BackpressureFn.allows) c.handler-handler.result) _ _ c.state.view_is c.args.place _
    (read-there _ c.args.place _ _
    (ap (λ (f : Fields g.row.T.Denot g.row.U.Denot). slice_index_or f.publishers c.args.place None) c.state.view_is
    ∙ c.requires.stands) c.index_mut.ensures.value ∙ c.in-Some.is ∙ ap Some (sym c.publisher.view_is))
    c.in-Some-blocked.blocked _ _ c.index_mut-book.ensures.value _ c.deliver-outcome.ensures.book
    (rw c.value.ensures at c.deliver-outcome.ensures.recounts) c.args.from.start c.args.from.elapsed
    c.deliver-outcome.result c.deliver-outcome.ensures.alone
    (delivers-own (asked (Asked g.F.BackpressureFn.allows) c.handler-handler.result) _ _ c.state.view_is c.args.place _
    (read-there _ c.args.place _ _
    (ap (λ (f : Fields g.row.T.Denot g.row.U.Denot). slice_index_or f.publishers c.args.place None) c.state.view_is
    ∙ c.requires.stands) c.index_mut.ensures.value ∙ c.in-Some.is ∙ ap Some (sym c.publisher.view_is))
    c.in-Some-blocked.blocked.channel (within_reach c.in-Some-blocked.blocked c.publisher.inside.keys.items)
    c.in-Some-blocked.blocked.slot c.args.from.start c.args.from.elapsed c.deliver-outcome.result
    c.deliver-outcome.new.connections (marks_of c.handler-handler.result)
    (c.handler-handler.ensures.marks ∙ ap (λ (y : PublisherFields). y.backpressure_handler) (sym c.publisher.view_is))
    (rw (c.value.ensures, c.keys_within.ensures, c.deref.ensures.value) at c.deliver-outcome.ensures.delivers))
    _ (c.conclude_blocked.ensures.publisher
    ∙ ap (with_outcome c.deliver-outcome.result c.in-Some-blocked.blocked) (sym c.publisher.view_is))
    _ c.conclude_blocked.ensures.book
    x may.stands))
