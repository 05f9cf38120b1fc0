use Rattle.std.proofs.Common.{List, refl, subst}
use Rattle.iox2_connections.specs.FurtherChannels.{rings, IsUnfilled, IsFirstFilled}
use Rattle.std.specs.List.{All}
use Rattle.iox2_connections.specs.declared.further_channel.FurtherChannel.{FurtherChannel}
use Rattle.iox2_connections.proofs.FurtherLists.{unfilled}
use Rattle.iox2_connections.proofs.FurtherFields.{further-is, room-at, ring-popped, popped-room, filled-there}
use Rattle.iox2_connections.proofs.connection.Connection.drop_other.Goals as goal

pub returns-in_err-index-clause-drops : goal.returns-in_err-index-clause-drops
returns-in_err-index-clause-drops c =
    rw (c.from_residual.ensures, ← c.self.view_is)
    (let none = subst (λ (channels : List FurtherChannel). All IsUnfilled (rings channels)) c.deref.ensures.value
    c.in_err-index.ensures in
    ((unfilled (rings c.self.inside.further.items) 1 none, refl), refl))

pub invariant_of-self : goal.invariant_of-self
invariant_of-self c =
    let found : IsFirstFilled c.in_ok-index.index (rings c.self.inside.further.items) =
    subst (λ (channels : List FurtherChannel). IsFirstFilled c.in_ok-index.index (rings channels)) c.deref.ensures.value
    c.in_ok-index.ensures in
    let room = room-at c.self.inside.waiting.capacity c.self.inside.further.items c.in_ok-index.index
    c.index_mut.result.now c.self.invariant.further_room (filled-there _ _ found) c.index_mut.ensures.value in
    further-is c.self.inside _ _ c.self.invariant
    (popped-room _ c.index_mut.result.now c.pop_front.new.self room c.pop_front.ensures.items)

pub returns-clause-bounded : goal.returns-clause-bounded
returns-clause-bounded c =
    let found : IsFirstFilled c.in_ok-index.index (rings c.self.inside.further.items) =
    subst (λ (channels : List FurtherChannel). IsFirstFilled c.in_ok-index.index (rings channels)) c.deref.ensures.value
    c.in_ok-index.ensures in
    let room = room-at c.self.inside.waiting.capacity c.self.inside.further.items c.in_ok-index.index
    c.index_mut.result.now c.self.invariant.further_room (filled-there _ _ found) c.index_mut.ensures.value in
    (further-is c.self.inside _ _ c.self.invariant
    (popped-room _ c.index_mut.result.now c.pop_front.new.self room c.pop_front.ensures.items)).bounded

pub returns-clause-drops : goal.returns-clause-drops
returns-clause-drops c =
    let found : IsFirstFilled c.in_ok-index.index (rings c.self.inside.further.items) =
    subst (λ (channels : List FurtherChannel). IsFirstFilled c.in_ok-index.index (rings channels)) c.deref.ensures.value
    c.in_ok-index.ensures in
    rw (← c.self.view_is)
    (ring-popped c.self.inside c.in_ok-index.index c.index_mut.result.now c.pop_front.new.self c.pop_front.result found
    c.index_mut.ensures.value c.pop_front.ensures.value c.pop_front.ensures.items)
