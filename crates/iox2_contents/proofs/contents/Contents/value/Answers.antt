use Rattle.std.proofs.Common.{◌<◌, length}
use Rattle.iox2_contents.proofs.SlotReads.{content_read, some_slot_within}
use Rattle.iox2_contents.proofs.SlotLists.{content-at}
use Rattle.iox2_contents.proofs.contents.Contents.value.Goals as goal

pub index-requires : goal.index-requires
index-requires g c = rw c.self.inside.slots.ok.0 (some_slot_within _ c.self.inside.slots.items _ c.args.slot
    (λ content. 0 < length content.values) c.self.view_is c.requires)

pub value-requires : goal.value-requires
value-requires g c = (content_read _ c.self.inside.slots.items _ c.args.slot
    (λ content. 0 < length content.values) _ c.self.view_is c.requires c.index.ensures).1

pub returns : goal.returns
returns g c =
    let read = content_read _ c.self.inside.slots.items _ c.args.slot
    (λ content. 0 < length content.values) _ c.self.view_is c.requires c.index.ensures in
    rw (content-at 0 0 _ c.self.inside.slots.items c.args.slot _ read.0 _ c.self.view_is) c.value.ensures
