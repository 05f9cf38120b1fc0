use Rattle.std.proofs.Common.{◌≡◌, ◌∙◌, List, Option, None, Some, ap, sym, subst}
use Rattle.std.proofs.lemmas.Bool.{true≢false}
use Rattle.std.proofs.lemmas.List.{with_items_is}
use Rattle.slab.specs.Slab.{Updates, get}
use Rattle.iox2_connections.specs.Link.{load}
use denote.Param.{param}
use Rattle.iox2_domain.specs.contracts.state.DomainState.{the_view}
use Rattle.iox2_domain.specs.Departures.{key_forgotten}
use Rattle.iox2_domain.specs.Fields.{Fields}
use Rattle.iox2_domain.specs.Ports.{SubscriberFields}
use Rattle.iox2_domain.specs.Updates.{changed_at}
use Rattle.iox2_steps.proofs.releases.Forgets.{without_connection}
use Rattle.iox2_updates.proofs.departures.forget_if_empty.Goals as goal

pub returns-then-is_empty-clause-empty : goal.returns-then-is_empty-clause-empty
returns-then-is_empty-clause-empty g c = λ l at none.
    let settled =
    with_items_is c.state.inside.subscribers c.forget_at.new.subscribers
    (c.forget_at.auto.subscribers ∙ c.deref_mut.ensures.len)
    ∙ c.forget_at.ensures
    ∙ ap (λ (xs : List (Option SubscriberFields)).
    changed_at (key_forgotten c.args.key) xs c.args.home.subscriber_place) c.deref_mut.ensures.value in
    record {
      fields = (λ i. record (the_view (param 0 g.row.T) (param 1 g.row.U) c.state.inside)
          { subscribers = settled i; connections = c.remove.new.self })
          ∙ ap (λ (f : Fields g.row.T.Denot g.row.U.Denot).
          without_connection f c.args.home.subscriber_place c.args.key c.remove.new.self) c.state.view_is;
      removed = subst (λ (f : Fields g.row.T.Denot g.row.U.Denot).
          Updates f.connections c.remove.new.self c.args.key None) c.state.view_is c.remove.ensures.updates;
    }

pub returns-then-is_empty-clause-full : goal.returns-then-is_empty-clause-full
returns-then-is_empty-clause-full g c = λ l at some.
    let one : Some c.index.result.now ≡ Some l = sym c.index.ensures
    ∙ ap (λ (f : Fields g.row.T.Denot g.row.U.Denot). get f.connections c.args.key) c.state.view_is ∙ at in
    let is : c.index.result.now ≡ l = cc in
    absurd (some (ap load (sym is) ∙ c.is_empty.ensures.0 c.if-is_empty.true))

pub returns-else-is_empty-clause-empty : goal.returns-else-is_empty-clause-empty
returns-else-is_empty-clause-empty g c = λ l at none.
    let one : Some c.index.result.now ≡ Some l = sym c.index.ensures
    ∙ ap (λ (f : Fields g.row.T.Denot g.row.U.Denot). get f.connections c.args.key) c.state.view_is ∙ at in
    let is : c.index.result.now ≡ l = cc in
    absurd (true≢false (sym (c.is_empty.ensures.1 (ap load is ∙ none)) ∙ c.if-is_empty.false))
