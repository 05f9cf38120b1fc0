use Rattle.iox2_domain.specs.Fields.{Fields}
use Rattle.std.proofs.Common.{◌∙◌, ap, None, slice_index_or, rules, vec_len}
use Rattle.iox2_domain.proofs.lemmas.receives.ReceiptSteps.{has-keys, connected-places, connected-expired}
use Rattle.iox2_domain.proofs.lemmas.receives.Questions.{answers-found}
use Rattle.iox2_messages.proofs.StandingPlaces.{place-within, place-read}
use Rattle.iox2_messages.proofs.questions.has_data_at.Goals as goal

pub has_samples-requires-clause-keys : goal.has_samples-requires-clause-keys
has_samples-requires-clause-keys g c =
    connected-places _ c.args.state.now c.args.place c.in-Some.subscriber c.deref.result.now c.deref-2.result.now
    (has-keys _ c.args.state.now c.args.place c.index.result.now c.in-Some.subscriber _ c.deref.result.now
    c.deref-2.result.now c.requires.agrees c.state.view_is c.requires.stands
    c.index.ensures c.in-Some.is c.subscriber.view_is c.deref.ensures.value c.deref-2.ensures.value)

pub has_samples-requires-clause-expired : goal.has_samples-requires-clause-expired
has_samples-requires-clause-expired g c =
    connected-expired _ c.args.state.now c.args.place c.in-Some.subscriber c.deref.result.now c.deref-2.result.now
    (has-keys _ c.args.state.now c.args.place c.index.result.now c.in-Some.subscriber _ c.deref.result.now
    c.deref-2.result.now c.requires.agrees c.state.view_is c.requires.stands
    c.index.ensures c.in-Some.is c.subscriber.view_is c.deref.ensures.value c.deref-2.ensures.value)

pub returns : goal.returns
returns g c =
    let has =
    has-keys _ c.args.state.now c.args.place c.index.result.now c.in-Some.subscriber _ c.deref.result.now
    c.deref-2.result.now c.requires.agrees c.state.view_is c.requires.stands
    c.index.ensures c.in-Some.is c.subscriber.view_is c.deref.ensures.value c.deref-2.ensures.value in
    answers-found _ c.args.state.now c.args.place c.in-Some.subscriber c.deref.result.now c.deref-2.result.now has
    c.has_samples.ensures.0 c.has_samples.ensures.1 c.has_samples.result c.has_samples.ensures.2

pub index-requires : goal.index-requires
index-requires g c = place-within c.state.inside.subscribers.items c.args.place c.requires.stands.0
    (ap (λ (f : Fields g.row.T.Denot g.row.U.Denot). slice_index_or f.subscribers c.args.place None) c.state.view_is
    ∙ c.requires.stands.1) (vec_len c.state.inside.subscribers) (search rules)

pub unreachable-requires : goal.unreachable-requires
unreachable-requires g c = c.in_default.not-Some c.requires.stands.0
    (place-read c.state.inside.subscribers.items c.args.place c.requires.stands.0
    (ap (λ (f : Fields g.row.T.Denot g.row.U.Denot). slice_index_or f.subscribers c.args.place None) c.state.view_is
    ∙ c.requires.stands.1) _ c.index.ensures)
