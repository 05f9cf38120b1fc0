use Rattle.std.proofs.Common.{List, ap, sym, ◌∙◌, subst, MatchOption}
use Rattle.std.specs.List.{All}
use Rattle.iox2_connections.specs.Link.{has_other_slots}
use Rattle.iox2_connections.specs.FurtherChannels.{rings, IsUnfilled, IsFirstFilled}
use Rattle.iox2_connections.specs.declared.further_channel.FurtherChannel.{FurtherChannel}
use Rattle.iox2_connections.proofs.FurtherLists.{filled-or-not}
use Rattle.iox2_connections.proofs.connection.Connection.has_other_data.Goals as goal

pub returns : goal.returns
returns c =
    let found = subst (λ (channels : List FurtherChannel). MatchOption c.first_filled.result
    (All IsUnfilled (rings channels)) (λ index. IsFirstFilled index (rings channels))) c.deref.ensures.value
    c.first_filled.ensures in
    c.is_some.ensures ∙ sym (filled-or-not (rings c.self.inside.further.items) 1 c.first_filled.result found)
    ∙ ap has_other_slots c.self.view_is
