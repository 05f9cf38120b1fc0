use Rattle.std.proofs.Common.{◌<◌, length, arith}
use Rattle.iox2_contents.specs.SlotRooms.{ShowsAtMost}
use Rattle.iox2_contents.proofs.SlotReads.{all_read, content_read, some_slot_within}
use Rattle.iox2_contents.proofs.SlotLists.{content-at}
use Rattle.iox2_contents.proofs.SlotSums.{replicated}
use Rattle.iox2_contents.proofs.contents.Contents.cell.Goals as goal

pub index-requires : goal.index-requires
index-requires g c = rw c.self.inside.slots.ok.0 (some_slot_within _ c.self.inside.slots.items _ c.args.slot
    (λ content. 0 < length content.cells) c.self.view_is c.requires)

pub cell-requires-clause-first : goal.cell-requires-clause-first
cell-requires-clause-first g c =
    (content_read _ c.self.inside.slots.items _ c.args.slot
    (λ content. 0 < length content.cells) _ c.self.view_is c.requires c.index.ensures).1

pub cell-requires-clause-unwritten : goal.cell-requires-clause-unwritten
cell-requires-clause-unwritten g c = (replicated _ _ _ c.unwritten.ensures).1

pub cell-requires-clause-enough : goal.cell-requires-clause-enough
cell-requires-clause-enough g c =
    let within = some_slot_within _ c.self.inside.slots.items _ c.args.slot
    (λ content. 0 < length content.cells) c.self.view_is c.requires in
    let shows = all_read c.self.inside.slots.items c.args.slot
    (ShowsAtMost c.self.inside.lists.most) _ c.self.invariant.shown within c.index.ensures in
    λ away. omega (arith, shows.1 away, (replicated _ _ _ c.unwritten.ensures).0)

pub returns : goal.returns
returns g c =
    let read = content_read _ c.self.inside.slots.items _ c.args.slot
    (λ content. 0 < length content.cells) _ c.self.view_is c.requires c.index.ensures in
    rw (content-at 0 0 _ c.self.inside.slots.items c.args.slot _ read.0 _ c.self.view_is) c.cell.ensures
