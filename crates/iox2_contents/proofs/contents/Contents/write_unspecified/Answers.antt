use Rattle.std.proofs.Common.{◌≡◌, false}
use Rattle.iox2_contents.proofs.SlotReads.{content_read, some_slot_within}
use Rattle.iox2_contents.proofs.SlotLists.{writes, written-lists, written-has}
use Rattle.iox2_contents.proofs.contents.Contents.write_unspecified.Goals as goal

pub index-requires : goal.index-requires
index-requires g c = rw c.self.inside.slots.ok.0 (some_slot_within _ c.self.inside.slots.items _ c.args.slot
    (λ content. content.is_in_place ≡ false) c.self.view_is c.requires)

pub index_mut-requires : goal.index_mut-requires
index_mut-requires g c = rw c.self.inside.slots.ok.0
    (some_slot_within _ c.self.inside.slots.items _ c.args.slot
    (λ content. content.is_in_place ≡ false) c.self.view_is c.requires)

pub write_unspecified-requires : goal.write_unspecified-requires
write_unspecified-requires g c =
    record {
      in_lists = (content_read _ c.self.inside.slots.items _ c.args.slot
          (λ content. content.is_in_place ≡ false) _ c.self.view_is c.requires c.index_mut.ensures.value).1;
    }

pub invariant_of-self : goal.invariant_of-self
invariant_of-self g c = c.recycle_list.ensures.lists

pub recycle_list-requires-clause-lists : goal.recycle_list-requires-clause-lists
recycle_list-requires-clause-lists g c =
    let read = content_read _ c.self.inside.slots.items _ c.args.slot
    (λ content. content.is_in_place ≡ false) _ c.self.view_is c.requires c.index_mut.ensures.value in
    written-lists _ _ _ _ c.args.slot _ read.0 c.self.invariant _ _ c.write_unspecified.ensures.written

pub recycle_list-requires-clause-known : goal.recycle_list-requires-clause-known
recycle_list-requires-clause-known g c =
    let read = content_read _ c.self.inside.slots.items _ c.args.slot
    (λ content. content.is_in_place ≡ false) _ c.self.view_is c.requires c.index_mut.ensures.value in
    written-has 0 0 0 c.self.inside.slots.items c.args.slot _ read.0 c.index.result.now c.index.ensures _
    c.has_list-had_list.ensures _ _ c.write_unspecified.ensures.written

pub returns : goal.returns
returns g c =
    let read = content_read _ c.self.inside.slots.items _ c.args.slot
    (λ content. content.is_in_place ≡ false) _ c.self.view_is c.requires c.index_mut.ensures.value in (
      c.write_unspecified.new.self.content.values,
      writes 0 0 _ _ c.args.slot _ read.0 _ _ c.write_unspecified.new.self.content.values _ c.self.view_is
          c.write_unspecified.ensures.count c.write_unspecified.ensures.written c.recycle_list.ensures.same,
    )
