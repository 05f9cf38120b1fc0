use Rattle.std.proofs.Common.{◌∙◌, refl}
use Rattle.iox2_contents.specs.SlotContents.{ended_content}
use Rattle.iox2_contents.proofs.SlotReads.{slot_read, slot_within}
use Rattle.iox2_contents.proofs.SlotLists.{changed-contents, ended-lists, ended-has}
use Rattle.iox2_contents.proofs.contents.Contents.end.Goals as goal

pub index-requires : goal.index-requires
index-requires g c =
    rw c.self.inside.slots.ok.0 (slot_within _ c.self.inside.slots.items _ c.args.slot c.self.view_is c.requires)

pub index_mut-requires : goal.index_mut-requires
index_mut-requires g c =
    rw c.self.inside.slots.ok.0 (slot_within _ c.self.inside.slots.items _ c.args.slot c.self.view_is c.requires)

pub invariant_of-self : goal.invariant_of-self
invariant_of-self g c = c.recycle_list.ensures.lists

pub recycle_list-requires-clause-lists : goal.recycle_list-requires-clause-lists
recycle_list-requires-clause-lists g c =
    let read =
    slot_read _ c.self.inside.slots.items _ c.args.slot _ c.self.view_is c.requires c.index_mut.ensures.value in
    ended-lists _ _ _ _ c.args.slot _ read c.self.invariant _ c.end.ensures

pub recycle_list-requires-clause-known : goal.recycle_list-requires-clause-known
recycle_list-requires-clause-known g c =
    let read =
    slot_read _ c.self.inside.slots.items _ c.args.slot _ c.self.view_is c.requires c.index_mut.ensures.value in
    ended-has 0 0 0 c.self.inside.slots.items c.args.slot _ read c.index.result.now c.index.ensures _
    c.has_list-had_list.ensures _ c.end.ensures

pub returns : goal.returns
returns g c =
    let read =
    slot_read _ c.self.inside.slots.items _ c.args.slot _ c.self.view_is c.requires c.index_mut.ensures.value in
    c.recycle_list.ensures.same
    ∙ changed-contents 0 0 _ _ c.args.slot _ read _ ended_content _ c.self.view_is c.end.ensures refl
