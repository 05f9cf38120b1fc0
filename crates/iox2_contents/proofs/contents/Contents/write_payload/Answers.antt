use Rattle.std.proofs.Common.{◌≡◌, ◌∙◌, length, refl, ◌∷◌, []}
use Rattle.iox2_contents.specs.SlotContents.{written_content}
use Rattle.iox2_contents.proofs.SlotReads.{content_read, some_slot_within}
use Rattle.iox2_contents.proofs.SlotLists.{changed-contents, written-lists, written-has}
use Rattle.iox2_contents.proofs.contents.Contents.write_payload.Goals as goal

pub index-requires : goal.index-requires
index-requires g c = rw c.self.inside.slots.ok.0 (some_slot_within _ c.self.inside.slots.items _ c.args.slot
    (λ content. length content.cells ≡ 1) c.self.view_is c.requires)

pub index_mut-requires : goal.index_mut-requires
index_mut-requires g c = rw c.self.inside.slots.ok.0
    (some_slot_within _ c.self.inside.slots.items _ c.args.slot
    (λ content. length content.cells ≡ 1) c.self.view_is c.requires)

pub write_payload-requires : goal.write_payload-requires
write_payload-requires g c =
    (content_read _ c.self.inside.slots.items _ c.args.slot
    (λ content. length content.cells ≡ 1) _ c.self.view_is c.requires c.index_mut.ensures.value).1

pub invariant_of-self : goal.invariant_of-self
invariant_of-self g c = c.recycle_list.ensures.lists

pub recycle_list-requires-clause-lists : goal.recycle_list-requires-clause-lists
recycle_list-requires-clause-lists g c =
    let read = content_read _ c.self.inside.slots.items _ c.args.slot
    (λ content. length content.cells ≡ 1) _ c.self.view_is c.requires c.index_mut.ensures.value in
    written-lists _ _ _ _ c.args.slot _ read.0 c.self.invariant _ _ c.write_payload.ensures

pub recycle_list-requires-clause-known : goal.recycle_list-requires-clause-known
recycle_list-requires-clause-known g c =
    let read = content_read _ c.self.inside.slots.items _ c.args.slot
    (λ content. length content.cells ≡ 1) _ c.self.view_is c.requires c.index_mut.ensures.value in
    written-has 0 0 0 c.self.inside.slots.items c.args.slot _ read.0 c.index.result.now c.index.ensures _
    c.has_list-had_list.ensures _ _ c.write_payload.ensures

pub returns : goal.returns
returns g c =
    let read = content_read _ c.self.inside.slots.items _ c.args.slot
    (λ content. length content.cells ≡ 1) _ c.self.view_is c.requires c.index_mut.ensures.value in
    c.recycle_list.ensures.same ∙ changed-contents 0 0 _ _ c.args.slot _ read.0 _
    (written_content (c.args.value ∷ [])) _ c.self.view_is c.write_payload.ensures refl
