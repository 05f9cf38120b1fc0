use Rattle.std.proofs.Common.{◌≡◌, ℕ, ◌+◌, ◌&&◌, not, Bool, true, false, List, [], ◌∷◌, refl, ap, sym, ◌∙◌, arith, None}
use Rattle.std.proofs.Common.{Some, Option, set}
use Rattle.std.specs.Prelude.{IsSomeAnd}
use Rattle.std.specs.List.{sum_by}
use Rattle.std.specs.Option.{option_and_then}
use Rattle.std.proofs.lemmas.Bool.{eq-eqb}
use Rattle.std.proofs.lemmas.List.Sums.{sum_by-set}
use Rattle.slab.specs.Slab.{Slab, get, Updates, with_value}
use Rattle.iox2_machine.specs.machine.Numbers.{is_nil}
use Rattle.iox2_connections.specs.Link.{Link, other_slots}
use Rattle.iox2_connections.specs.Counters.{times, stands_in, stands, CountersFollow}
use Rattle.iox2_connections.specs.Leaves.{left_link, holds_slots, ReleasesFrom}
use Rattle.iox2_connections.proofs.MailboxChanges.{Updates-with_value, within_if_some}
use Rattle.iox2_connections.proofs.Counts.{CountersFollow-changed, stands-own}
use Rattle.iox2_connections.proofs.ReclaimSteps.{own-at}
use Rattle.iox2_domain.specs.Ports.{SubscriberFields}
use Rattle.iox2_domain.specs.Closes.{is_awaited, after_close, if_holding}
use Rattle.iox2_ports.proofs.publisher_closes.leave_own.Goals.{After-holds_slots, After-leave}
use Rattle.iox2_ports.proofs.publisher_closes.leave_own.Goals as goal

-- no slot stands where none waits, is borrowed or was given back
nothing-stands : (n : ℕ) (others waiting borrowed returned : List ℕ)
    → not (is_nil others && (is_nil waiting && is_nil borrowed)) ≡ false → returned ≡ []
    → times n waiting + times n borrowed + times n returned + times n others ≡ 0
nothing-stands n [] [] [] returned none clear = rw clear refl
nothing-stands n [] [] (x ∷ borrowed) returned none clear = absurd cc
nothing-stands n [] (x ∷ waiting) borrowed returned none clear = absurd cc
nothing-stands n (x ∷ others) waiting borrowed returned none clear = absurd cc

-- the connection c of the publisher p at a key, which is d once p has left it
module _ (p : ℕ) (subscribers : List (Option SubscriberFields)) (slab : Slab Link) (key : ℕ) (c d : Link)
    (own : IsSomeAnd (get slab key) (λ (x : Link). x.home.publisher ≡ p)) (at : get slab key ≡ Some c)
    (left : d ≡ left_link (is_awaited subscribers key c) c) where
  mine : c.home.publisher ≡ p
  mine = own-at p slab key c own at

  updated : Updates slab (with_value slab key d) key (Some d)
  updated = Updates-with_value slab key c d at

  after : option_and_then (after_close p subscribers key) (get slab key) ≡ if_holding d
  after = ap (option_and_then (after_close p subscribers key)) at ∙ rw (eq-eqb c.home.publisher p mine, left) refl

  stays : holds_slots d ≡ true
      → Updates slab (with_value slab key d) key (option_and_then (after_close p subscribers key) (get slab key))
  stays holds = record { changed = updated.changed ∙ sym (after ∙ rw holds refl); others = updated.others }

  goes : holds_slots d ≡ false → (new : Slab Link) → Updates (with_value slab key d) new key None
      → Updates slab new key (option_and_then (after_close p subscribers key) (get slab key))
  goes none new gone = record {
    changed = gone.changed ∙ sym (after ∙ rw none refl);
    others = λ other differs. gone.others other differs ∙ updated.others other differs;
  }

  module _ (hs hs' : List ℕ) (r : ReleasesFrom hs c hs' d) where
    follows : CountersFollow p hs slab.slots hs' (set slab.slots key (Some d))
    follows = CountersFollow-changed p hs hs' slab.slots key c d at mine
        (ap (λ (l : Link). l.home.publisher) left ∙ mine) r.counters

    follows-gone : holds_slots d ≡ false → (slots : List (Option Link))
        → slots ≡ set (set slab.slots key (Some d)) key None → CountersFollow p hs slab.slots hs' slots
    follows-gone none slots is = rw is (record {
      at = λ n.
          let changed : sum_by (stands p n) (set (set slab.slots key (Some d)) key None) + stands p n (Some d) ≡ sum_by
          (stands p n) (set slab.slots key (Some d)) + stands p n None =
          rw updated.changed at (sum_by-set (stands p n) (set slab.slots key (Some d)) key None None
          (within_if_some (set slab.slots key (Some d)) key d updated.changed)) in
          let empty : stands_in n d ≡ 0 = nothing-stands n (other_slots d) d.waiting d.borrowed d.returned none
          (ap (λ (l : Link). l.returned) left) in
          omega
          (arith, changed, follows.at n, stands-own p n d (ap (λ (l : Link). l.home.publisher) left ∙ mine), empty);
    })

-- the connection is left as its publisher leaves it
is_left : (c : After-leave) → c.leave.new.connection ≡ left_link
    (is_awaited c.args.subscribers.now c.args.key c.index_mut.result.now) c.index_mut.result.now
is_left c =
    let same : c.index.result.now ≡ c.index_mut.result.now =
    (let both : Some c.index.result.now ≡ Some c.index_mut.result.now = sym c.index.ensures
    ∙ c.index_mut.ensures.value in cc) in
    c.leave.ensures.connection ∙ ap (λ (awaited : Bool). left_link awaited c.index_mut.result.now)
    (c.is_awaited-awaited.ensures ∙ ap (is_awaited c.args.subscribers.now c.args.key) same)

-- whether it holds slots was asked of it as it is left
holding : (c : After-holds_slots) → holds_slots c.leave.new.connection ≡ c.holds_slots.result
holding c =
    let there = Updates-with_value c.args.connections.now c.args.key c.index_mut.result.now c.leave.new.connection
    c.index_mut.ensures.value in
    let again : c.leave.new.connection ≡ c.index-2.result.now =
    (let both : Some c.leave.new.connection ≡ Some c.index-2.result.now = sym there.changed ∙ c.index-2.ensures in
    cc) in
    ap holds_slots again ∙ sym c.holds_slots.ensures

pub returns-then-not-holds_slots-clause-connections : goal.returns-then-not-holds_slots-clause-connections
returns-then-not-holds_slots-clause-connections c =
    let left = is_left (goal.at.returns-then-not-holds_slots-clause-connections c).After-leave in
    let holds : holds_slots c.leave.new.connection ≡ false =
    holding (goal.at.returns-then-not-holds_slots-clause-connections c).After-holds_slots ∙ c.if-not-holds_slots.true in
    goes c.args.publisher c.args.subscribers.now c.args.connections.now c.args.key c.index_mut.result.now
    c.leave.new.connection c.requires.own c.index_mut.ensures.value left holds c.remove.new.self
    c.remove.ensures.updates

pub returns-then-not-holds_slots-clause-counters : goal.returns-then-not-holds_slots-clause-counters
returns-then-not-holds_slots-clause-counters c =
    let left = is_left (goal.at.returns-then-not-holds_slots-clause-counters c).After-leave in
    let holds : holds_slots c.leave.new.connection ≡ false =
    holding (goal.at.returns-then-not-holds_slots-clause-counters c).After-holds_slots ∙ c.if-not-holds_slots.true in
    follows-gone c.args.publisher c.args.subscribers.now c.args.connections.now c.args.key c.index_mut.result.now
    c.leave.new.connection c.requires.own c.index_mut.ensures.value left c.args.book.now.holders
    c.leave.new.book.holders c.leave.ensures.releases holds c.remove.new.self.slots c.remove.ensures.slots

pub returns-else-not-holds_slots-clause-connections : goal.returns-else-not-holds_slots-clause-connections
returns-else-not-holds_slots-clause-connections c =
    let left = is_left (goal.at.returns-else-not-holds_slots-clause-connections c).After-leave in
    let holds : holds_slots c.leave.new.connection ≡ true =
    holding (goal.at.returns-else-not-holds_slots-clause-connections c).After-holds_slots
    ∙ c.if-not-holds_slots.false in
    stays c.args.publisher c.args.subscribers.now c.args.connections.now c.args.key c.index_mut.result.now
    c.leave.new.connection c.requires.own c.index_mut.ensures.value left holds

pub returns-else-not-holds_slots-clause-counters : goal.returns-else-not-holds_slots-clause-counters
returns-else-not-holds_slots-clause-counters c =
    let left = is_left (goal.at.returns-else-not-holds_slots-clause-counters c).After-leave in
    follows c.args.publisher c.args.subscribers.now c.args.connections.now c.args.key c.index_mut.result.now
    c.leave.new.connection c.requires.own c.index_mut.ensures.value left c.args.book.now.holders
    c.leave.new.book.holders c.leave.ensures.releases
