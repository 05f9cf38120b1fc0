use Rattle.std.proofs.Common.{◌≡◌, ◌<◌, ◌∙◌, length, ap, sym, subst, get_or}
use Rattle.std.proofs.lemmas.List.{with_items_is}
use Rattle.std.specs.declared.option.Option.TheVariants.{None, Some}
use Rattle.iox2_domain.specs.Ports.{SubscriberFields}
use Rattle.iox2_domain.specs.Fields.{Fields}
use Rattle.iox2_domain.specs.ReceiverSteps.{with_expired}
use Rattle.iox2_domain.specs.Updates.{changed_at}
use Rattle.iox2_steps.proofs.receivers.ExpiredKeys.{room-to-expire}
use Rattle.iox2_steps.proofs.receivers.RetiredFields.{kept-changes}
use Rattle.iox2_updates.proofs.retirements.keep_expired.Goals as goal

pub expire_at-requires-clause-room : goal.expire_at-requires-clause-room
expire_at-requires-clause-room g c = λ z at.
    let old = c.args.state.now in
    let y = c.requires.departed.subscriber in
    let end = c.requires.departed.end in
    let same : c.deref_mut.result.now ≡ old.subscribers =
    c.deref_mut.ensures.value ∙ ap (λ (f : Fields g.row.T.Denot g.row.U.Denot). f.subscribers) c.state.view_is in
    let both : Some y ≡ Some z = sym end.stands ∙ ap (λ xs. get_or xs c.args.at.subscriber None) (sym same) ∙ at in
    let is : y ≡ z = cc in
    subst (λ (w : SubscriberFields). length w.expired < w.expired_room) is
    (room-to-expire old c.requires.departed.agrees c.args.at.subscriber c.args.at.publisher y c.args.key
    c.requires.departed.link end)

pub returns : goal.returns
returns g c = λ departed.
    let old = c.args.state.now in
    let viewed = c.state.view_is in
    let subscribers : c.state.inside.subscribers.items ≡ old.subscribers =
    ap (λ (f : Fields g.row.T.Denot g.row.U.Denot). f.subscribers) viewed in
    let written : _ ≡ changed_at (with_expired c.args.at.publisher c.args.key) old.subscribers c.args.at.subscriber =
    with_items_is c.state.inside.subscribers c.expire_at.new.subscribers
    (c.expire_at.auto.subscribers ∙ c.deref_mut.ensures.len)
    ∙ c.expire_at.ensures ∙ ap (λ xs. changed_at (with_expired c.args.at.publisher c.args.key) xs c.args.at.subscriber)
    (c.deref_mut.ensures.value ∙ subscribers) in
    kept-changes old c.requires.departed.agrees c.args.at.subscriber c.args.at.publisher departed.subscriber c.args.key
    departed.link departed.end (c.requires.few departed) _ (λ k. record (viewed k) { subscribers = written k })
