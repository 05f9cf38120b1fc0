use Rattle.std.proofs.Common.{◌≡◌, ◌∙◌, List, ℕ, refl, ap, sym, subst, get_or}
use Rattle.std.specs.declared.option.Option.TheVariants.{None, Some}
use Rattle.slab.specs.Slab.{ContainsKey}
use Rattle.iox2_machine.specs.machine.Limits.{expired_limit}
use Rattle.iox2_machine.specs.machine.Numbers.{contains}
use Rattle.iox2_connections.specs.Retires.{chosen}
use Rattle.iox2_domain.specs.Ports.{SubscriberFields}
use Rattle.iox2_domain.specs.Fields.{Fields}
use Rattle.iox2_domain.proofs.lemmas.slots.PublisherBooks.{read-there}
use Rattle.iox2_steps.proofs.receivers.RetiredFields.{expired-there}
use Rattle.iox2_updates.proofs.retirements.choose.Goals as goal

pub choose_retirement-requires-clause-expired : goal.choose_retirement-requires-clause-expired
choose_retirement-requires-clause-expired g c = λ k has.
    let old = c.args.state.now in
    let y = c.requires.subscriber in
    let end = c.requires.end in
    let there : get_or c.state.inside.subscribers.items c.args.at.subscriber None ≡ Some y =
    ap (λ (f : Fields g.row.T.Denot g.row.U.Denot). get_or f.subscribers c.args.at.subscriber None) c.state.view_is
    ∙ end.stands in
    let same : Some y ≡ Some c.in-Some.subscriber =
    sym there ∙ read-there _ c.args.at.subscriber y _ there c.index.ensures ∙ c.in-Some.is in
    let is : y ≡ c.in-Some.subscriber = cc in
    let expired : c.deref.result.now ≡ y.expired =
    c.deref.ensures.value ∙ ap (λ (z : SubscriberFields). z.expired) (c.subscriber.view_is ∙ sym is) in
    subst (λ (f : Fields g.row.T.Denot g.row.U.Denot). ContainsKey f.connections k) (sym c.state.view_is)
    (expired-there old c.requires.agrees c.args.at.subscriber c.args.at.publisher y c.args.key c.requires.link end k
    (ap (λ (xs : List ℕ). contains xs k) (sym expired) ∙ has))

pub unreachable-requires : goal.unreachable-requires
unreachable-requires g c =
    let y = c.requires.subscriber in
    let there : get_or c.state.inside.subscribers.items c.args.at.subscriber None ≡ Some y =
    ap (λ (f : Fields g.row.T.Denot g.row.U.Denot). get_or f.subscribers c.args.at.subscriber None) c.state.view_is
    ∙ c.requires.end.stands in
    let both : Some y ≡ None =
    sym there ∙ read-there _ c.args.at.subscriber y _ there c.index.ensures ∙ c.in_default.is in
    absurd cc

pub choose_retirement-requires-clause-at : goal.choose_retirement-requires-clause-at
choose_retirement-requires-clause-at g c =
    subst (λ (f : Fields g.row.T.Denot g.row.U.Denot). ContainsKey f.connections c.args.key) (sym c.state.view_is)
    (rw c.requires.end.link refl)

pub returns : goal.returns
returns g c = λ departed.
    let y = departed.subscriber in
    let old = c.args.state.now in
    let there : get_or c.state.inside.subscribers.items c.args.at.subscriber None ≡ Some y =
    ap (λ (f : Fields g.row.T.Denot g.row.U.Denot). get_or f.subscribers c.args.at.subscriber None) c.state.view_is
    ∙ departed.end.stands in
    let same : Some y ≡ Some c.in-Some.subscriber =
    sym there ∙ read-there _ c.args.at.subscriber y _ there c.index.ensures ∙ c.in-Some.is in
    let is : y ≡ c.in-Some.subscriber = cc in
    let expired : c.deref.result.now ≡ y.expired =
    c.deref.ensures.value ∙ ap (λ (z : SubscriberFields). z.expired) (c.subscriber.view_is ∙ sym is) in
    let connections : c.state.inside.connections ≡ old.connections =
    ap (λ (f : Fields g.row.T.Denot g.row.U.Denot). f.connections) c.state.view_is in
    let limit : c.expired_limit.result ≡ expired_limit old.config =
    c.expired_limit.ensures ∙ ap (λ (f : Fields g.row.T.Denot g.row.U.Denot). expired_limit f.config) c.state.view_is in
    c.choose_retirement.ensures ∙ (λ t. chosen (connections t) (limit t) (expired t) c.args.key)
