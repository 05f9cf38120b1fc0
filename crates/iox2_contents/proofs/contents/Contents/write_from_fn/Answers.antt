use Rattle.std.proofs.Common.{◌≡◌, false, refl}
use Rattle.iox2_contents.proofs.SlotReads.{content_read, some_slot_within}
use Rattle.iox2_contents.proofs.SlotLists.{writes, written-recycled}
use Rattle.iox2_contents.proofs.contents.Contents.write_from_fn.Goals as goal

pub index-requires : goal.index-requires
index-requires g c = rw c.self.inside.slots.ok.0 (some_slot_within _ c.self.inside.slots.items _ c.args.slot
    (λ content. content.is_in_place ≡ false) c.self.view_is c.requires.in_lists)

pub index_mut-requires : goal.index_mut-requires
index_mut-requires g c = rw c.self.inside.slots.ok.0
    (some_slot_within _ c.self.inside.slots.items _ c.args.slot
    (λ content. content.is_in_place ≡ false) c.self.view_is c.requires.in_lists)

pub write_from_fn-requires-clause-callable : goal.write_from_fn-requires-clause-callable
write_from_fn-requires-clause-callable g c = c.requires.callable

pub write_from_fn-requires-clause-in_lists : goal.write_from_fn-requires-clause-in_lists
write_from_fn-requires-clause-in_lists g c =
    (content_read _ c.self.inside.slots.items _ c.args.slot
    (λ content. content.is_in_place ≡ false) _ c.self.view_is c.requires.in_lists c.index_mut.ensures.value).1

pub write_listed_from_fn-requires-clause-callable : goal.write_listed_from_fn-requires-clause-callable
write_listed_from_fn-requires-clause-callable g c = c.requires.callable

pub write_listed_from_fn-requires-clause-in_lists : goal.write_listed_from_fn-requires-clause-in_lists
write_listed_from_fn-requires-clause-in_lists g c = c.requires.in_lists

pub invariant_of-self : goal.invariant_of-self
invariant_of-self g c =
    let read = content_read _ c.self.inside.slots.items _ c.args.slot
    (λ content. content.is_in_place ≡ false) _ c.self.view_is c.requires.in_lists c.index_mut.ensures.value in
    written-recycled _ _ _ c.self.inside.slots.items c.args.slot _ read.0 c.self.invariant c.index.result.now
    c.index.ensures _ c.has_list.ensures c.if-has_list.false _ _ c.write_from_fn.ensures.written

pub returns : goal.returns
returns g c =
    let read = content_read _ c.self.inside.slots.items _ c.args.slot
    (λ content. content.is_in_place ≡ false) _ c.self.view_is c.requires.in_lists c.index_mut.ensures.value in (
      c.write_from_fn.new.self.content.values,
      c.write_from_fn.ensures.answers,
      writes 0 0 _ _ c.args.slot _ read.0 _ _ c.write_from_fn.new.self.content.values _ c.self.view_is
          c.write_from_fn.ensures.count c.write_from_fn.ensures.written refl,
    )
