use Rattle.std.proofs.Common.{◌<◌, Some, ap, sym, arith}
use Rattle.iox2_contents.specs.SlotRooms.{ShowsAtMost}
use Rattle.iox2_contents.proofs.OpenSlots.{from-shown}
use Rattle.iox2_contents.proofs.SlotReads.{all_read, content_read, some_slot_within}
use Rattle.iox2_contents.proofs.SlotLists.{content-at}
use Rattle.iox2_contents.proofs.SlotSums.{replicated}
use Rattle.iox2_contents.proofs.contents.Contents.cells.Goals as goal

pub index-requires : goal.index-requires
index-requires g c = rw c.self.inside.slots.ok.0 (some_slot_within _ c.self.inside.slots.items _ c.args.slot
    (λ content. 0 < content.lists) c.self.view_is c.requires)

pub cells-requires-clause-lists : goal.cells-requires-clause-lists
cells-requires-clause-lists g c =
    from-shown _ c.index.result.now (content_read _ c.self.inside.slots.items _ c.args.slot
    (λ content. 0 < content.lists) _ c.self.view_is c.requires c.index.ensures).1

pub cells-requires-clause-unwritten : goal.cells-requires-clause-unwritten
cells-requires-clause-unwritten g c = (replicated _ _ _ c.unwritten.ensures).1

pub cells-requires-clause-enough : goal.cells-requires-clause-enough
cells-requires-clause-enough g c =
    let read = content_read _ c.self.inside.slots.items _ c.args.slot
    (λ content. 0 < content.lists) _ c.self.view_is c.requires c.index.ensures in
    let within = some_slot_within _ c.self.inside.slots.items _ c.args.slot
    (λ content. 0 < content.lists) c.self.view_is c.requires in
    let shows = all_read c.self.inside.slots.items c.args.slot
    (ShowsAtMost c.self.inside.lists.most) _ c.self.invariant.shown within c.index.ensures in
    omega (arith, (shows.0 (from-shown _ c.index.result.now read.1)).0, (replicated _ _ _ c.unwritten.ensures).0)

pub returns : goal.returns
returns g c =
    let read = content_read _ c.self.inside.slots.items _ c.args.slot
    (λ content. 0 < content.lists) _ c.self.view_is c.requires c.index.ensures in
    rw (content-at 0 0 _ c.self.inside.slots.items c.args.slot _ read.0 _ c.self.view_is)
    (ap Some (sym c.cells.ensures))
