use Rattle.std.proofs.Common.{◌≡◌, List, get_or, ap, subst, ◌∙◌, MatchOption}
use Rattle.std.specs.Prelude.{IsSomeAnd}
use Rattle.std.specs.declared.option.Option.{Option}
use Rattle.std.specs.declared.option.Option.TheVariants.{None}
use Rattle.iox2_connections.specs.LookUp.{look_up}
use Rattle.iox2_domain.specs.Ports.{SubscriberFields}
use Rattle.iox2_domain.specs.Fields.{Fields}
use Rattle.iox2_domain.specs.Invariant.{is_subscriber}
use Rattle.iox2_domain.proofs.lemmas.fields.OpenPorts.{found-at}
use Rattle.iox2_domain.proofs.state.DomainState.find_subscriber.Goals as goal

pub returns : goal.returns
returns g c =
    let id = c.value.result in
    let read : c.deref.result.now ≡ c.args.self.now.subscribers =
    c.deref.ensures.value ∙ ap (λ (f : Fields g.row.T.Denot g.row.U.Denot). f.subscribers) c.self.view_is in
    rw (← c.value.ensures)
    (found-at (look_up (is_subscriber id) c.args.self.now.subscribers ≡ None)
    (λ (x : SubscriberFields). x.id ≡ id) c.args.self.now.subscribers c.find_place.result
    (subst (λ (xs : List (Option SubscriberFields)). MatchOption c.find_place.result
    (look_up (is_subscriber id) xs ≡ None) (λ i. IsSomeAnd (get_or xs i None) (λ x. x.id ≡ id))) read
    c.find_place.ensures))
