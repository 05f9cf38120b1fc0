use Rattle.std.proofs.Common.{rules, ◌≡◌, ◌∙◌, ◌<◌, ◌+◌, ◌^◌, ℕ, length, true, false, refl, ap, sym, subst, arith}
use Rattle.std.proofs.Common.{vec_len, slice_set}
use Rattle.std.proofs.lemmas.List.{with_items_is}
use Rattle.std.specs.declared.option.Option.{Option}
use Rattle.std.specs.declared.option.Option.TheVariants.{None, Some}
use Rattle.std.specs.Option.{option_map}
use Rattle.iox2_machine.specs.machine.Records.{Environment}
use Rattle.iox2_machine.specs.declared.errors.ConnectionFailure.{ConnectionFailure}
use Rattle.iox2_domain.specs.Boxes.{answers_of}
use Rattle.iox2_domain.specs.Fields.{Fields}
use Rattle.iox2_domain.specs.Updates.{changed_at}
use Rattle.iox2_domain.specs.Ports.{PublisherFields}
use Rattle.iox2_steps.proofs.updates.SenderUpdates.{WalksSender, walk-begins, walk-more, walk-updates, walking-stands}
use Rattle.iox2_steps.proofs.updates.SenderUpdates.{walking-subscribers, due-at}
use Rattle.iox2_updates.specs.Ends.{IsSenderDue, IsSettledAt}
use Rattle.iox2_updates.specs.Holders.{HasFewHolders, HasCountRoom}
use Rattle.iox2_updates.proofs.GainedHolders.{few-more, room-few}
use Rattle.iox2_updates.proofs.updates.walk_places.Goals as goal

-- The publisher, due no more.
abbrev updated_publisher : PublisherFields → PublisherFields
updated_publisher x = record x { is_due = false }

-- midway the publisher isn't due any more
abbrev settled : {T U : Type 0} (environment : Environment) (old : Fields T U) (place : ℕ) (due : IsSenderDue old place)
    (other : ℕ) (mid : Fields T U) (first : Option ConnectionFailure)
    → WalksSender environment old place due.publisher other mid first → other < length old.subscribers
    → IsSettledAt mid (record { publisher = place; subscriber = other })
settled environment old place due other mid first walks low = record {
  agrees = walks.agrees;
  publisher = record (due.publisher) { keys = walks.keys; key_room = walks.key_room; is_due = false };
  stands = walking-stands environment old due.agrees place due.publisher due.stands other mid first walks;
  settled = refl;
  unblocked = due.unblocked;
  within = rw (walking-subscribers environment old place due.publisher other mid first walks) low;
}

pub loop-other-init : goal.loop-other-init
loop-other-init g c = λ due.
    let old = c.args.state.now in
    let viewed = c.state.view_is in
    let written : _ ≡ changed_at updated_publisher old.publishers c.args.place =
    with_items_is c.state.inside.publishers c.clear_due.new.ports (c.clear_due.auto.ports ∙ c.deref_mut.ensures.len)
    ∙ c.clear_due.ensures
    ∙ ap (λ xs. changed_at updated_publisher xs c.args.place)
    (c.deref_mut.ensures.value ∙ ap (λ (f : Fields g.row.T.Denot g.row.U.Denot). f.publishers) viewed) in (
      subst (λ (f : Fields g.row.T.Denot g.row.U.Denot).
          WalksSender (answers_of g.F.BackpressureFn.allows g.G.DegradationFn.allows c.args.boxes.now.boxes) old
          c.args.place due.publisher 0 f None)
          (sym ((λ k. record (viewed k) { publishers = written k })
          ∙ ap (λ o. record old { publishers = slice_set old.publishers c.args.place (option_map updated_publisher o) })
          due.stands))
          (walk-begins (answers_of g.F.BackpressureFn.allows g.G.DegradationFn.allows c.args.boxes.now.boxes) old
          due.agrees c.args.place due.publisher due.stands due.unblocked),
      subst (λ (f : Fields g.row.T.Denot g.row.U.Denot). HasFewHolders f.books due.publisher.book (2 ^ 62)) (sym viewed)
          (c.requires.few due),
    )

pub update_sender_place-failure-requires-clause-few : goal.update_sender_place-failure-requires-clause-few
update_sender_place-failure-requires-clause-few g c = λ now.
    let due = c.requires.due in
    let walks = (c.loop-other.invariant due).0 in
    let there = walking-stands (answers_of g.F.BackpressureFn.allows g.G.DegradationFn.allows c.args.boxes.now.boxes)
    c.args.state.now due.agrees c.args.place due.publisher due.stands c.loop-other.other c.loop-other.state
    c.loop-other.first walks in
    let both : Some now.publisher ≡ Some (record (due.publisher)
    { keys = walks.keys; key_room = walks.key_room; is_due = false }) = sym now.stands ∙ there in
    let is : now.publisher ≡ record (due.publisher) { keys = walks.keys; key_room = walks.key_room; is_due = false } =
    cc in
    subst (HasCountRoom c.loop-other.state.books) (sym (ap (λ (x : PublisherFields). x.book) is))
    (room-few c.loop-other.state.books due.publisher.book (2 ^ 62 + c.loop-other.other)
    (omega (arith, c.state.inside.subscribers.ok, c.state.inside.subscribers.small)) (c.loop-other.invariant due).1)

pub update_sender_place-failure-requires-clause-settled : goal.update_sender_place-failure-requires-clause-settled
update_sender_place-failure-requires-clause-settled g c =
    let due = c.requires.due in
    let size : vec_len c.state.inside.subscribers ≡ length c.state.inside.subscribers.items = search rules in
    let same : length c.state.inside.subscribers.items ≡ length c.args.state.now.subscribers =
    ap (λ (f : Fields g.row.T.Denot g.row.U.Denot). length f.subscribers) c.state.view_is in
    settled (answers_of g.F.BackpressureFn.allows g.G.DegradationFn.allows c.args.boxes.now.boxes) c.args.state.now
    c.args.place due c.loop-other.other c.loop-other.state c.loop-other.first (c.loop-other.invariant due).0
    (omega arith)

pub loop-other-preserved : goal.loop-other-preserved
loop-other-preserved g c = λ due.
    let old = c.args.state.now in
    let walks = (c.loop-other.invariant due).0 in
    let size : vec_len c.state.inside.subscribers ≡ length c.state.inside.subscribers.items = search rules in
    let same : length c.state.inside.subscribers.items ≡ length old.subscribers =
    ap (λ (f : Fields g.row.T.Denot g.row.U.Denot). length f.subscribers) c.state.view_is in
    let low : c.loop-other.other < length old.subscribers = omega arith in
    let now = settled (answers_of g.F.BackpressureFn.allows g.G.DegradationFn.allows c.args.boxes.now.boxes) old
    c.args.place due c.loop-other.other c.loop-other.state c.loop-other.first walks low in (
      rw c.first_of-first.ensures
          (walk-more (answers_of g.F.BackpressureFn.allows g.G.DegradationFn.allows c.args.boxes.now.boxes) old
          due.agrees c.args.place due.publisher due.stands c.loop-other.other c.loop-other.state c.loop-other.first
          walks low c.update_sender_place-failure.new.state c.update_sender_place-failure.result
          (c.update_sender_place-failure.ensures.connects now)),
      few-more c.update_sender_place-failure.new.state.books due.publisher.book (2 ^ 62 + c.loop-other.other + 1)
          (2 ^ 62 + (c.loop-other.other + 1)) (omega arith)
          (c.update_sender_place-failure.ensures.gains.at due.publisher.book (2 ^ 62 + c.loop-other.other)
          (c.loop-other.invariant due).1),
    )

pub returns : goal.returns
returns g c = λ due.
    let old = c.args.state.now in
    let was_due : due.publisher.is_due ≡ true =
    sym (due-at old.publishers c.args.place due.publisher due.stands) ∙ due.due in
    let size : vec_len c.state.inside.subscribers ≡ length c.state.inside.subscribers.items = search rules in
    let same : length c.state.inside.subscribers.items ≡ length old.subscribers =
    ap (λ (f : Fields g.row.T.Denot g.row.U.Denot). length f.subscribers) c.state.view_is in
    walk-updates (answers_of g.F.BackpressureFn.allows g.G.DegradationFn.allows c.args.boxes.now.boxes) old due.agrees
    c.args.place due.publisher due.stands c.loop-other.other c.loop-other.state c.loop-other.first
    (c.loop-other.invariant due).0 was_due (omega arith)
