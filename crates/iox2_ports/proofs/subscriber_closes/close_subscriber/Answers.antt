use Rattle.std.proofs.Common.{◌≡◌, ◌∙◌, ap, sym, subst, ℕ, map}
use Rattle.std.proofs.lemmas.List.{with_items_is}
use Rattle.std.specs.declared.option.Option.TheVariants.{None, Some}
use Rattle.std.specs.Option.{option_map, option_and_then}
use Rattle.std.specs.Prelude.{slice_index_or}
use Rattle.std.specs.Vec.{with_items}
use Rattle.iox2_machine.specs.machine.WellFormed.{MailboxIsWellFormed}
use Rattle.iox2_domain.specs.Fields.{Fields, kept_of}
use Rattle.iox2_domain.specs.Kept.{state_of}
use Rattle.iox2_domain.specs.Ports.{SubscriberFields}
use Rattle.iox2_domain.specs.Updates.{changed_at}
use Rattle.iox2_domain.specs.Invariant.{HasParts}
use Rattle.iox2_steps.proofs.releases.Leaving.{FreesMidway}
use Rattle.iox2_steps.specs.Closes.{HasNoPublisher, shut_subscriber}
use Rattle.iox2_steps.proofs.subscriber_closes.CloseReads.{some-of, closing-starts, closing-turns, due-read}
use Rattle.iox2_steps.proofs.subscriber_closes.CloseKeys.{KeysLeft, expired-known, closing-expired, key-known}
use Rattle.iox2_steps.proofs.subscriber_closes.CloseKeys.{closing-key, none-left}
use Rattle.iox2_steps.proofs.subscriber_closes.CloseEnds.{closes-parts, closes-stands, closes}
use Rattle.iox2_steps.proofs.creations.PublishersDue.{due}
use Rattle.iox2_ports.proofs.subscriber_closes.close_subscriber.Goals.{After-make_all_due}
use Rattle.iox2_ports.proofs.subscriber_closes.close_subscriber.Goals as goal

pub loop-index-init : goal.loop-index-init
loop-index-init g c = λ sound y at.
    closing-starts _ c.args.state.now c.state.view_is sound c.args.place y at c.requires.unmarked _
    (with_items_is c.state.inside.subscribers c.set_closed.new.subscribers
    (c.set_closed.auto.subscribers ∙ c.deref_mut.ensures.len)
    ∙ c.set_closed.ensures
    ∙ ap (λ xs. changed_at shut_subscriber xs c.args.place)
    (c.deref_mut.ensures.value ∙ ap (λ (f : Fields g.row.T.Denot g.row.U.Denot). f.subscribers) c.state.view_is))
    c.expired_count-index.result (λ z there.
    c.expired_count-index.ensures z (ap (λ xs. slice_index_or xs c.args.place None) c.deref.ensures.value ∙ there))

-- ---- the expired keys

pub drop_waiting_if_left-requires-clause-parts : goal.drop_waiting_if_left-requires-clause-parts
drop_waiting_if_left-requires-clause-parts g c =
    let y = some-of (slice_index_or c.args.state.now.subscribers c.args.place None) c.requires.stands in
    (c.loop-index.invariant c.requires.agrees y.0 y.1).parts

pub drop_waiting_if_left-requires-clause-known : goal.drop_waiting_if_left-requires-clause-known
drop_waiting_if_left-requires-clause-known g c =
    let y = some-of (slice_index_or c.args.state.now.subscribers c.args.place None) c.requires.stands in
    expired-known c.args.state.now c.requires.agrees c.args.place y.0 y.1 c.loop-index.state c.expired_at-key.result
    c.loop-index.index c.loop-index-test.true (c.loop-index.invariant c.requires.agrees y.0 y.1)
    (λ z there. c.expired_at-key.ensures z (ap (λ xs. slice_index_or xs c.args.place None)
    (c.deref-in-loop-index.ensures.value
    ∙ ap (λ (f : Fields g.row.T.Denot g.row.U.Denot). f.subscribers) c.state-in-loop-index.view_is) ∙ there))

pub drop_waiting_if_left-requires-clause-busy : goal.drop_waiting_if_left-requires-clause-busy
drop_waiting_if_left-requires-clause-busy g c = λ k l at departed.
    let y = some-of (slice_index_or c.args.state.now.subscribers c.args.place None) c.requires.stands in
    let so_far = c.loop-index.invariant c.requires.agrees y.0 y.1 in
    so_far.busy k l at (subst (λ ps. HasNoPublisher ps l) so_far.publishers departed)

pub loop-index-preserved : goal.loop-index-preserved
loop-index-preserved g c = λ sound y at.
    closing-expired c.args.state.now sound c.args.place y at c.loop-index.state c.expired_at-key.result
    c.loop-index.index c.loop-index-test.true (c.loop-index.invariant sound y at)
    (λ z there. c.expired_at-key.ensures z (ap (λ xs. slice_index_or xs c.args.place None)
    (c.deref-in-loop-index.ensures.value
    ∙ ap (λ (f : Fields g.row.T.Denot g.row.U.Denot). f.subscribers) c.state-in-loop-index.view_is) ∙ there))
    c.drop_waiting_if_left.new.state c.drop_waiting_if_left.ensures

-- ---- those at places

pub loop-publisher_place-init : goal.loop-publisher_place-init
loop-publisher_place-init g c = λ sound y at.
    closing-turns c.args.state.now sound c.args.place y at c.loop-index.state c.loop-index.index c.loop-index-test.false
    (c.loop-index.invariant sound y at) c.key_count-publisher_place-end.result
    (λ z there. c.key_count-publisher_place-end.ensures z
    (ap (λ xs. slice_index_or xs c.args.place None) (c.deref-2.ensures.value
    ∙ ap (λ (f : Fields g.row.T.Denot g.row.U.Denot). f.subscribers) c.state-2.view_is) ∙ there))

pub drop_waiting_if_left-requires-in-loop-publisher_place-clause-parts : goal.drop_waiting_if_left-requires-in-loop-publisher_place-clause-parts
drop_waiting_if_left-requires-in-loop-publisher_place-clause-parts g c =
    let y = some-of (slice_index_or c.args.state.now.subscribers c.args.place None) c.requires.stands in
    (c.loop-publisher_place.invariant c.requires.agrees y.0 y.1).parts

pub drop_waiting_if_left-requires-in-loop-publisher_place-clause-known : goal.drop_waiting_if_left-requires-in-loop-publisher_place-clause-known
drop_waiting_if_left-requires-in-loop-publisher_place-clause-known g c =
    let y = some-of (slice_index_or c.args.state.now.subscribers c.args.place None) c.requires.stands in
    key-known c.args.state.now c.requires.agrees c.args.place y.0 y.1 c.loop-publisher_place.state c.key_at-key.result
    c.loop-publisher_place.publisher_place c.key_count-publisher_place-end.result
    (c.loop-publisher_place.invariant c.requires.agrees y.0 y.1)
    (λ z there. c.key_at-key.ensures
    ∙ ap (option_and_then (λ (v : SubscriberFields). slice_index_or v.keys c.loop-publisher_place.publisher_place None))
    (ap (λ xs. slice_index_or xs c.args.place None) (c.deref-in-loop-publisher_place.ensures.value
    ∙ ap (λ (f : Fields g.row.T.Denot g.row.U.Denot). f.subscribers) c.state-in-loop-publisher_place.view_is) ∙ there))

pub drop_waiting_if_left-requires-in-loop-publisher_place-clause-busy : goal.drop_waiting_if_left-requires-in-loop-publisher_place-clause-busy
drop_waiting_if_left-requires-in-loop-publisher_place-clause-busy g c = λ k l at departed.
    let y = some-of (slice_index_or c.args.state.now.subscribers c.args.place None) c.requires.stands in
    let so_far = c.loop-publisher_place.invariant c.requires.agrees y.0 y.1 in
    so_far.busy k l at (subst (λ ps. HasNoPublisher ps l) so_far.publishers departed)

pub loop-publisher_place-preserved : goal.loop-publisher_place-preserved
loop-publisher_place-preserved g c = λ sound y at.
    closing-key c.args.state.now sound c.args.place y at c.loop-publisher_place.state c.key_at-key.result
    c.loop-publisher_place.publisher_place c.key_count-publisher_place-end.result
    (c.loop-publisher_place.invariant sound y at)
    (λ z there. c.key_at-key.ensures
    ∙ ap (option_and_then (λ (v : SubscriberFields). slice_index_or v.keys c.loop-publisher_place.publisher_place None))
    (ap (λ xs. slice_index_or xs c.args.place None) (c.deref-in-loop-publisher_place.ensures.value
    ∙ ap (λ (f : Fields g.row.T.Denot g.row.U.Denot). f.subscribers) c.state-in-loop-publisher_place.view_is) ∙ there))
    c.drop_waiting_if_left-in-loop-publisher_place.new.state c.drop_waiting_if_left-in-loop-publisher_place.ensures

-- ---- the publishers are due then

ports_due : (g : _) (c : After-make_all_due g) → (with_items c.state-3.inside.publishers c.make_all_due.new.ports).items
    ≡ map (option_map due) (c.loop-publisher_place.state).publishers
ports_due g c =
    with_items_is c.state-3.inside.publishers c.make_all_due.new.ports
    (c.make_all_due.auto.ports ∙ c.deref_mut-2.ensures.len)
    ∙ c.make_all_due.ensures
    ∙ ap (λ xs. map (option_map due) xs)
    (c.deref_mut-2.ensures.value ∙ ap (λ (f : Fields g.row.T.Denot g.row.U.Denot). f.publishers) c.state-3.view_is)

pub leave_if_unused-requires-clause-consistent : goal.leave_if_unused-requires-clause-consistent
leave_if_unused-requires-clause-consistent g c =
    let y = some-of (slice_index_or c.args.state.now.subscribers c.args.place None) c.requires.stands in
    let so_far = c.loop-publisher_place.invariant c.requires.agrees y.0 y.1 in
    let ports = ports_due g (goal.at.leave_if_unused-requires-clause-consistent g c).After-make_all_due in
    subst (HasParts {T = g.row.T.Denot} {U = g.row.U.Denot})
    (sym (due-read _ c.loop-publisher_place.state c.state-3.view_is _ ports))
    (closes-parts c.args.state.now c.requires.agrees c.args.place y.0 y.1
    (KeysLeft c.loop-publisher_place.publisher_place c.key_count-publisher_place-end.result)
    c.loop-publisher_place.state so_far
    (none-left c.loop-publisher_place.publisher_place c.key_count-publisher_place-end.result
    c.loop-publisher_place-test.false so_far.subscriber.0))

pub leave_if_unused-requires-clause-stands : goal.leave_if_unused-requires-clause-stands
leave_if_unused-requires-clause-stands g c =
    let y = some-of (slice_index_or c.args.state.now.subscribers c.args.place None) c.requires.stands in
    let so_far = c.loop-publisher_place.invariant c.requires.agrees y.0 y.1 in
    let ports = ports_due g (goal.at.leave_if_unused-requires-clause-stands g c).After-make_all_due in
    subst (λ (f : Fields g.row.T.Denot g.row.U.Denot). (z : SubscriberFields)
    × (slice_index_or f.subscribers c.args.place None ≡ Some z)
    × ((p : ℕ) → MailboxIsWellFormed (state_of (kept_of f)) p z.id))
    (sym (due-read _ c.loop-publisher_place.state c.state-3.view_is _ ports))
    (closes-stands c.args.state.now c.requires.agrees c.args.place y.0 y.1
    (KeysLeft c.loop-publisher_place.publisher_place c.key_count-publisher_place-end.result)
    c.loop-publisher_place.state so_far
    (none-left c.loop-publisher_place.publisher_place c.key_count-publisher_place-end.result
    c.loop-publisher_place-test.false so_far.subscriber.0))

pub returns : goal.returns
returns g c = λ y at.
    let so_far = c.loop-publisher_place.invariant c.requires.agrees y at in
    let ports = ports_due g (goal.at.returns g c).After-make_all_due in
    closes c.args.state.now c.requires.agrees c.args.place y at
    (KeysLeft c.loop-publisher_place.publisher_place c.key_count-publisher_place-end.result)
    c.loop-publisher_place.state so_far
    (none-left c.loop-publisher_place.publisher_place c.key_count-publisher_place-end.result
    c.loop-publisher_place-test.false so_far.subscriber.0)
    c.leave_if_unused.new.state
    (subst (λ (f : Fields g.row.T.Denot g.row.U.Denot). FreesMidway f so_far.subscriber.0.id
    c.leave_if_unused.new.state) (due-read _ c.loop-publisher_place.state c.state-3.view_is _ ports)
    (c.leave_if_unused.ensures.freed so_far.subscriber.0
    (ap (λ (f : Fields g.row.T.Denot g.row.U.Denot). slice_index_or f.subscribers c.args.place None) c.state-3.view_is
    ∙ so_far.subscriber.1)))
