use Rattle.std.proofs.Common.{◌≡◌, List, true, inl, inr, refl, sym, subst, ◌∙◌, slice_index_or}
use Rattle.std.specs.Prelude.{IsSomeAnd}
use Rattle.std.specs.declared.option.Option.{Option}
use Rattle.std.specs.declared.option.Option.TheVariants.{None, Some}
use Rattle.slab.specs.Slab.{ContainsKey, get}
use Rattle.iox2_connections.specs.Link.{Link}
use Rattle.iox2_domain.specs.Ports.{PublisherFields}
use Rattle.iox2_domain.specs.Fields.{Fields}
use Rattle.iox2_steps.specs.Closes.{IsLeftAt, IsStanding, HasNoPublisher, ConnectionLosesWaiting}
use Rattle.iox2_steps.proofs.subscriber_closes.CloseReads.{home-read, left-there, left-after, left-loses, left-home}
use Rattle.iox2_steps.proofs.subscriber_closes.CloseReads.{left-within, left-only, left-settles, left-settled}
use Rattle.iox2_steps.proofs.subscriber_closes.CloseReads.{others-after}
use Rattle.iox2_ports.proofs.subscriber_closes.drop_waiting_if_left.Goals.{After-drop_waiting, Then-is_left}
use Rattle.iox2_ports.proofs.subscriber_closes.drop_waiting_if_left.Goals as goal

-- a connection whose publisher stands nowhere isn't of the one at its place
departs-from : (publishers : List (Option PublisherFields)) (c : Link) → HasNoPublisher publishers c
    → IsStanding publishers c.home → ⊥
departs-from publishers c nowhere standing = by (slice_index_or publishers c.home.publisher_place None) refl standing
  where
    by : (o : Option PublisherFields) → slice_index_or publishers c.home.publisher_place None ≡ o
        → IsSomeAnd o (λ (x : PublisherFields). x.id ≡ c.home.publisher) → ⊥
    by None at standing = standing
    by (Some x) at mine = nowhere c.home.publisher_place x at mine

-- the connection's publisher is gone
abbrev left_at : (g : _) (c : Then-is_left g) → IsLeftAt c.args.state.now c.args.place c.in-Some.key
left_at g c =
    left-there c.args.state.now c.requires.parts c.args.place c.in-Some.key
    (c.requires.known c.in-Some.key c.in-Some.is) c.args.state.now refl (c.is_left.ensures.0 c.if-is_left.true)

-- also once nothing waits there
abbrev was_left : (g : _) (c : After-drop_waiting g) → IsLeftAt c.args.state.now c.args.place c.in-Some.key
was_left g c =
    left-there c.args.state.now c.requires.parts c.args.place c.in-Some.key
    (c.requires.known c.in-Some.key c.in-Some.is) c.args.state.now refl (c.is_left.ensures.0 c.if-is_left.true)

-- what waited there is lost
abbrev lost : (g : _) (c : After-drop_waiting g)
    → ConnectionLosesWaiting c.args.state.now c.in-Some.key (was_left g c).link c.drop_waiting.new.state
lost g c = c.drop_waiting.ensures (was_left g c).link (was_left g c).link_stands

-- its publisher is still gone then
abbrev after : (g : _) (c : After-drop_waiting g) → IsLeftAt c.drop_waiting.new.state c.args.place c.in-Some.key
after g c = left-after c.args.state.now c.args.place c.in-Some.key (was_left g c) c.drop_waiting.new.state (lost g c)

-- where it stood was read
home : (g : _) (c : After-drop_waiting g) → c.home-home.result ≡ (was_left g c).link.home
home g c = c.home-home.ensures.value ∙ home-read c.args.state.now c.args.place c.in-Some.key
    (was_left g c) _ c.state.view_is c.index.result.now c.index.ensures

pub index-requires : goal.index-requires
index-requires g c =
    let left = left_at g (goal.at.index-requires g c).Then-is_left in
    subst (λ (f : Fields g.row.T.Denot g.row.U.Denot). ContainsKey f.connections c.in-Some.key) (sym c.state.view_is)
    (rw left.link_stands refl)

pub drop_waiting-requires-clause-departed : goal.drop_waiting-requires-clause-departed
drop_waiting-requires-clause-departed g c =
    let left = left_at g (goal.at.drop_waiting-requires-clause-departed g c).Then-is_left in
    rw left.link_stands left.departed

pub returns-else-is_left : goal.returns-else-is_left
returns-else-is_left g c =
    rw c.in-Some.is (inr (
      (λ link there nowhere.
          let gone : IsSomeAnd (get c.args.state.now.connections c.in-Some.key)
          (λ (l : Link). IsStanding c.args.state.now.publishers l.home → ⊥) =
          rw there (departs-from c.args.state.now.publishers link nowhere) in
          let left : c.is_left.result ≡ true = c.is_left.ensures.1 gone in
          cc),
      refl,
    ))

pub forget_if_empty-requires-clause-home : goal.forget_if_empty-requires-clause-home
forget_if_empty-requires-clause-home g c =
    let at = (goal.at.forget_if_empty-requires-clause-home g c).After-drop_waiting in
    left-home c.drop_waiting.new.state (lost g at).passes.parts c.args.place c.in-Some.key
    (after g at) c.home-home.result (home g at)

pub forget_if_empty-requires-clause-stands : goal.forget_if_empty-requires-clause-stands
forget_if_empty-requires-clause-stands g c =
    let at = (goal.at.forget_if_empty-requires-clause-stands g c).After-drop_waiting in
    left-within c.drop_waiting.new.state (lost g at).passes.parts c.args.place c.in-Some.key
    (after g at) c.home-home.result (home g at)

pub forget_if_empty-requires-clause-only : goal.forget_if_empty-requires-clause-only
forget_if_empty-requires-clause-only g c =
    let at = (goal.at.forget_if_empty-requires-clause-only g c).After-drop_waiting in
    left-only c.drop_waiting.new.state (lost g at).passes.parts c.args.place c.in-Some.key
    (after g at) c.home-home.result (home g at)

pub settle_book-requires : goal.settle_book-requires
settle_book-requires g c =
    let at = (goal.at.settle_book-requires g c).After-drop_waiting in
    left-settles c.drop_waiting.new.state (lost g at).passes.parts c.args.place c.in-Some.key
    (after g at) c.home-home.result (home g at)
    c.forget_if_empty.new.state c.forget_if_empty.ensures.empty c.forget_if_empty.ensures.full
    (others-after c.args.state.now c.args.place c.in-Some.key (was_left g at) c.drop_waiting.new.state
    (lost g at) c.requires.busy)

pub returns-then-is_left : goal.returns-then-is_left
returns-then-is_left g c =
    let at = (goal.at.returns-then-is_left g c).After-drop_waiting in
    rw c.in-Some.is
    (inl (left-loses c.args.state.now c.args.place c.in-Some.key (was_left g at) c.drop_waiting.new.state
    (lost g at) c.settle_book.new.self
    (left-settled c.drop_waiting.new.state (lost g at).passes.parts c.args.place c.in-Some.key
    (after g at) c.home-home.result (home g at)
    c.forget_if_empty.new.state c.forget_if_empty.ensures.empty c.forget_if_empty.ensures.full
    (others-after c.args.state.now c.args.place c.in-Some.key (was_left g at) c.drop_waiting.new.state
    (lost g at) c.requires.busy)
    c.settle_book.new.self c.settle_book.ensures)))
