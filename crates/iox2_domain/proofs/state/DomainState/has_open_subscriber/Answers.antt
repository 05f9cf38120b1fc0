use Rattle.std.proofs.Common.{◌≡◌, ◌∙◌, ap, sym, get_or}
use Rattle.std.specs.declared.option.Option.TheVariants.{None, Some}
use Rattle.iox2_domain.specs.Ports.{SubscriberFields}
use Rattle.iox2_domain.specs.Fields.{Fields}
use Rattle.iox2_domain.proofs.lemmas.fields.OpenPorts.{open-subscriber, subscriber-open, absent-subscriber, read-at}
use Rattle.iox2_domain.proofs.state.DomainState.has_open_subscriber.Goals as goal

pub returns-in-Some-index : goal.returns-in-Some-index
returns-in-Some-index g c =
    let found = c.in-Some.ensures in
    let at : get_or c.self.inside.subscribers.items c.in-Some.place None ≡ Some found.0 =
    ap (λ (f : Fields g.row.T.Denot g.row.U.Denot). get_or f.subscribers c.in-Some.place None) c.self.view_is
    ∙ found.1 in
    let same : c.in-Some-index.subscriber ≡ found.0 =
    read-at c.self.inside.subscribers.items c.in-Some.place c.index.result.now found.0 c.in-Some-index.subscriber at
    c.index.ensures c.in-Some-index.is in
    let is_open : c.subscriber.inside.is_open ≡ found.0.is_open =
    ap (λ (y : SubscriberFields). y.is_open) (c.subscriber.view_is ∙ same) in (
      λ is_true. open-subscriber c.args.self.now c.args.id c.requires c.in-Some.place found.0 found.1 found.2
          (sym is_open ∙ is_true),
      λ live.
          is_open ∙ subscriber-open c.args.self.now c.args.id c.requires c.in-Some.place found.0 found.1 found.2 live,
    )

pub returns-in_default : goal.returns-in_default
returns-in_default g c =
    (λ no. absurd cc, λ held. absurd (absent-subscriber c.args.self.now c.args.id c.in_default.ensures held))
