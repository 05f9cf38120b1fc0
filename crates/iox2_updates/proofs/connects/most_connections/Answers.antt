use Rattle.std.proofs.Common.{◌≡◌, ◌∙◌, ap, sym, length, None, Some, slice_index_or, arith}
use Rattle.iox2_domain.specs.Fields.{Fields}
use Rattle.iox2_domain.specs.Ports.{SubscriberFields}
use Rattle.iox2_domain.specs.Invariant.{connection_count}
use Rattle.iox2_domain.proofs.lemmas.slots.PublisherBooks.{read-there}
use Rattle.iox2_steps.proofs.receivers.ConnectionCounts.{few-connections, few-of-all}
use Rattle.iox2_updates.proofs.connects.most_connections.Goals as goal

pub unreachable-requires : goal.unreachable-requires
unreachable-requires g c =
    let y = c.requires.subscriber in
    let there : slice_index_or c.state.inside.subscribers.items c.args.place None ≡ Some y.0 =
    ap (λ (f : Fields g.row.T.Denot g.row.U.Denot). slice_index_or f.subscribers c.args.place None) c.state.view_is
    ∙ y.1 in
    c.in_default.not-Some y.0 (sym (read-there _ c.args.place _ _ there c.index.ensures) ∙ there)

pub returns : goal.returns
returns g c = λ y at.
    let viewed = c.state.view_is in
    let there : slice_index_or c.state.inside.subscribers.items c.args.place None ≡ Some y =
    ap (λ (f : Fields g.row.T.Denot g.row.U.Denot). slice_index_or f.subscribers c.args.place None) viewed ∙ at in
    let both : Some c.in-Some.subscriber ≡ Some y =
    sym c.in-Some.is ∙ sym (read-there _ c.args.place _ _ there c.index.ensures) ∙ there in
    let is : c.in-Some.subscriber ≡ y = cc in
    let keys : length c.subscriber.inside.keys.items ≡ length y.keys =
    ap (λ (z : SubscriberFields). length z.keys) (c.subscriber.view_is ∙ is) in
    let expired : length c.subscriber.inside.expired.items ≡ length y.expired =
    ap (λ (z : SubscriberFields). length z.expired) (c.subscriber.view_is ∙ is) in
    let publishers : length c.state.inside.publishers.items ≡ length c.args.state.now.publishers =
    ap (λ (f : Fields g.row.T.Denot g.row.U.Denot). length f.publishers) viewed in
    let few = few-connections c.args.state.now c.requires.agrees.parts c.args.place y at in
    let same = ap (λ (f : Fields g.row.T.Denot g.row.U.Denot). connection_count f.connections y.id) viewed in
    let of_all = few-of-all c.state.inside.connections y.id in
    omega (
      arith,
      few,
      of_all,
      same,
      keys,
      expired,
      publishers,
      c.subscriber.inside.keys.ok.0,
      c.subscriber.inside.expired.ok.0,
      c.state.inside.publishers.ok.0,
      c.len.ensures,
      c.len-2.ensures,
      c.len-3.ensures,
      c.len-4.ensures,
      c.len-4.type_inv,
      c.saturating_add.ensures,
      c.min.ensures,
    )
