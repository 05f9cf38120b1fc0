use Rattle.std.proofs.Common.{◌≡◌, List, get_or, ap, subst, ◌∙◌, MatchOption}
use Rattle.std.specs.Prelude.{IsSomeAnd}
use Rattle.std.specs.declared.option.Option.{Option}
use Rattle.std.specs.declared.option.Option.TheVariants.{None}
use Rattle.iox2_connections.specs.LookUp.{look_up}
use Rattle.iox2_domain.specs.Ports.{PublisherFields}
use Rattle.iox2_domain.specs.Fields.{Fields}
use Rattle.iox2_domain.specs.Invariant.{is_publisher}
use Rattle.iox2_domain.proofs.lemmas.fields.OpenPorts.{found-at}
use Rattle.iox2_domain.proofs.state.DomainState.find_publisher.Goals as goal

pub returns : goal.returns
returns g c =
    let id = c.value.result in
    let read : c.deref.result.now ≡ c.args.self.now.publishers =
    c.deref.ensures.value ∙ ap (λ (f : Fields g.row.T.Denot g.row.U.Denot). f.publishers) c.self.view_is in
    rw (← c.value.ensures)
    (found-at (look_up (is_publisher id) c.args.self.now.publishers ≡ None)
    (λ (x : PublisherFields). x.id ≡ id) c.args.self.now.publishers c.find_place.result
    (subst (λ (xs : List (Option PublisherFields)). MatchOption c.find_place.result
    (look_up (is_publisher id) xs ≡ None) (λ i. IsSomeAnd (get_or xs i None) (λ x. x.id ≡ id))) read
    c.find_place.ensures))
