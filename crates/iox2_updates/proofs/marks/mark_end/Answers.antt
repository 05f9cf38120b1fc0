use Rattle.std.proofs.Common.{◌≡◌, ◌∙◌, true, List, None, slice_index_or, ap, sym, subst}
use Rattle.std.proofs.lemmas.Option.{same_Some}
use Rattle.std.specs.Prelude.{IsSomeAnd}
use Rattle.std.specs.declared.option.Option.{Option}
use Rattle.slab.specs.Slab.{get, with_value}
use Rattle.iox2_connections.specs.Link.{with_mark}
use Rattle.iox2_connections.specs.declared.connection.Home.{Home}
use Rattle.iox2_domain.specs.Fields.{Fields}
use Rattle.iox2_domain.specs.OpenMarks.{ChangesMarks}
use Rattle.iox2_domain.specs.Ports.{SubscriberFields}
use Rattle.iox2_domain.specs.Updates.{is_open_subscriber}
use Rattle.iox2_steps.proofs.updates.MarkedEnds.{end-open, end-marked}
use Rattle.iox2_updates.proofs.EndKeys.{end-read, key-read}
use Rattle.iox2_updates.proofs.marks.mark_end.Goals as goal

pub index-requires : goal.index-requires
index-requires g c = end-read c.args.state.now _ c.state.view_is c.requires _ c.deref.ensures.value
    c.args.publisher_place c.args.subscriber_place _ c.key_at.ensures c.in-Some.key c.in-Some.is

pub returns-then-is_open_at : goal.returns-then-is_open_at
returns-then-is_open_at g c =
    let named = key-read c.args.state.now _ c.state.view_is _ c.deref.ensures.value c.args.publisher_place
    c.args.subscriber_place _ c.key_at.ensures ∙ c.in-Some.is in
    let subscribers = ap (λ (f : Fields g.row.T.Denot g.row.U.Denot). f.subscribers) c.state.view_is in
    let at = ap (λ (f : Fields g.row.T.Denot g.row.U.Denot). get f.connections c.in-Some.key) (sym c.state.view_is)
    ∙ c.index.ensures in
    let same : c.index_mut.result.now ≡ c.index.result.now =
    same_Some c.index_mut.result.now c.index.result.now (sym c.index_mut.ensures.value ∙ c.index.ensures) in
    let stands : IsSomeAnd (slice_index_or c.args.state.now.subscribers c.args.subscriber_place None)
    (λ (y : SubscriberFields). y.id ≡ c.index.result.now.home.subscriber) =
    subst (λ (ys : List (Option SubscriberFields)). IsSomeAnd (slice_index_or ys c.args.subscriber_place None)
    (λ (y : SubscriberFields). y.id ≡ c.index.result.now.home.subscriber)) (c.deref-2.ensures.value ∙ subscribers)
    (subst (λ (h : Home). IsSomeAnd (slice_index_or c.deref-2.result.now c.args.subscriber_place None)
    (λ (y : SubscriberFields). y.id ≡ h.subscriber)) c.home-subscriber.ensures.value
    (c.stands_at.ensures.0 c.if-stands_at.true)) in
    let is_open : is_open_subscriber c.args.state.now.subscribers c.args.subscriber_place ≡ true =
    ap (λ ys. is_open_subscriber ys c.args.subscriber_place) (sym (c.deref-then-stands_at.ensures.value ∙ subscribers))
    ∙ sym c.is_open_at.ensures ∙ c.if-is_open_at.true in
    subst (λ (f : Fields g.row.T.Denot g.row.U.Denot). ChangesMarks c.args.state.now
    (record f { connections = with_value f.connections c.in-Some.key c.set_open.new.self })) (sym c.state.view_is)
    (end-marked c.args.state.now c.requires c.args.publisher_place c.args.subscriber_place c.in-Some.key named
    c.index.result.now at
    (end-open c.args.state.now c.requires c.args.publisher_place c.args.subscriber_place c.in-Some.key named
    c.index.result.now at stands is_open)
    c.set_open.new.self (c.set_open.ensures.marked ∙ ap (with_mark true) same))
