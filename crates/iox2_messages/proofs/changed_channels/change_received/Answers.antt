use Rattle.std.proofs.Common.{◌∙◌, ap, refl, None, slice_index_or, rules, vec_len}
use Rattle.iox2_domain.specs.Fields.{Fields}
use Rattle.iox2_domain.proofs.lemmas.receives.ReceiptSteps.{has-keys, connected-places, connected-expired}
use Rattle.iox2_messages.proofs.ReceivedChannels.{reaches-then-marks, received-from}
use Rattle.iox2_messages.proofs.StandingPlaces.{place-within, place-read}
use Rattle.iox2_messages.proofs.changed_channels.change_received.Goals as goal

pub change_known-requires-clause-places : goal.change_known-requires-clause-places
change_known-requires-clause-places g c =
    connected-places _ c.args.state.now c.args.place c.in-Some.subscriber _ _
    (has-keys _ c.args.state.now c.args.place c.index.result.now c.in-Some.subscriber c.in-Some.subscriber _ _
    c.requires.agrees c.state.view_is c.requires.stands
    c.index.ensures c.in-Some.is refl refl refl)

pub change_known-requires-clause-expired : goal.change_known-requires-clause-expired
change_known-requires-clause-expired g c =
    connected-expired _ c.args.state.now c.args.place c.in-Some.subscriber _ _
    (has-keys _ c.args.state.now c.args.place c.index.result.now c.in-Some.subscriber c.in-Some.subscriber _ _
    c.requires.agrees c.state.view_is c.requires.stands
    c.index.ensures c.in-Some.is refl refl refl)

pub mark_received-requires : goal.mark_received-requires
mark_received-requires g c =
    let has =
    has-keys _ c.args.state.now c.args.place c.index.result.now c.in-Some.subscriber c.in-Some.subscriber _ _
    c.requires.agrees c.state.view_is c.requires.stands
    c.index.ensures c.in-Some.is refl refl refl in
    (received-from _ c.args.state.now c.state.view_is c.requires.agrees c.args.place c.in-Some.subscriber has.stands
    c.args.change c.args.channel c.args.expected c.requires.channel c.change_known.new.connections
    c.change_known.ensures
    c.in-Some.subscriber has.stands).agrees

pub returns : goal.returns
returns g c = λ y at.
    let has =
    has-keys _ c.args.state.now c.args.place c.index.result.now c.in-Some.subscriber c.in-Some.subscriber _ _
    c.requires.agrees c.state.view_is c.requires.stands
    c.index.ensures c.in-Some.is refl refl refl in
    reaches-then-marks _ _ c.mark_received.new.state _
    (received-from _ c.args.state.now c.state.view_is c.requires.agrees c.args.place c.in-Some.subscriber has.stands
    c.args.change c.args.channel c.args.expected c.requires.channel c.change_known.new.connections
    c.change_known.ensures y at)
    c.mark_received.ensures

pub index-requires : goal.index-requires
index-requires g c = place-within c.state.inside.subscribers.items c.args.place c.requires.stands.0
    (ap (λ (f : Fields g.row.T.Denot g.row.U.Denot). slice_index_or f.subscribers c.args.place None) c.state.view_is
    ∙ c.requires.stands.1) (vec_len c.state.inside.subscribers) (search rules)

pub unreachable-requires : goal.unreachable-requires
unreachable-requires g c = c.in_default.not-Some c.requires.stands.0
    (place-read c.state.inside.subscribers.items c.args.place c.requires.stands.0
    (ap (λ (f : Fields g.row.T.Denot g.row.U.Denot). slice_index_or f.subscribers c.args.place None) c.state.view_is
    ∙ c.requires.stands.1) _ c.index.ensures)
