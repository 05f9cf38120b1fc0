use Rattle.std.proofs.Common.{◌≡◌, ◌<◌, ◌∙◌, false, refl, ap, sym, Some}
use Rattle.std.specs.List.{length_refill}
use Rattle.iox2_contents.specs.SlotContents.{with_cells}
use Rattle.iox2_contents.specs.SlotStates.{slot_waits, with_content}
use Rattle.iox2_contents.proofs.SlotReads.{content_read, some_read, some_slot_within}
use Rattle.iox2_contents.proofs.OpenSlots.{from-shown}
use Rattle.iox2_contents.proofs.SlotLists.{changed-contents, content-at, lent}
use Rattle.iox2_contents.proofs.contents.Contents.cells_mut.Goals as goal

pub ready-requires-clause-lists : goal.ready-requires-clause-lists
ready-requires-clause-lists g c = c.self.invariant

pub ready-requires-clause-within : goal.ready-requires-clause-within
ready-requires-clause-within g c =
    some_slot_within _ c.self.inside.slots.items _ c.args.slot (λ content. 0 < content.lists) c.self.view_is c.requires

pub index_mut-requires : goal.index_mut-requires
index_mut-requires g c = rw c.ready.new.slots.ok.0
    (some_slot_within _ c.ready.new.slots.items _ c.args.slot (λ content. 0 < content.lists)
    (c.ready.ensures.same ∙ c.self.view_is) c.requires)

pub cells_mut-requires-clause-lists : goal.cells_mut-requires-clause-lists
cells_mut-requires-clause-lists g c =
    from-shown _ c.index_mut.result.now (content_read _ c.ready.new.slots.items _ c.args.slot
    (λ content. 0 < content.lists) _ (c.ready.ensures.same ∙ c.self.view_is) c.requires c.index_mut.ensures.value).1

pub cells_mut-requires-clause-ready : goal.cells_mut-requires-clause-ready
cells_mut-requires-clause-ready g c =
    (some_read c.ready.new.slots.items c.args.slot
    (λ s. slot_waits s ≡ false) c.index_mut.result.now c.ready.ensures.ready c.index_mut.ensures.value).1

pub invariant_of-self-lent : goal.invariant_of-self-lent
invariant_of-self-lent g c =
    let read = content_read _ c.ready.new.slots.items _ c.args.slot (λ content. 0 < content.lists) _
    (c.ready.ensures.same ∙ c.self.view_is) c.requires c.index_mut.ensures.value in
    λ w. lent _ _ _ c.ready.new.slots.items c.args.slot _ read.0 (with_content (with_cells w) c.index_mut.result.now)
    c.ready.ensures.lists refl refl refl refl (sym (length_refill _ _ w refl))

pub returns : goal.returns
returns g c =
    let same = c.ready.ensures.same ∙ c.self.view_is in
    let read = content_read _ c.ready.new.slots.items _ c.args.slot
    (λ content. 0 < content.lists) _ same c.requires c.index_mut.ensures.value in (
      (
        refl,
        λ w. changed-contents 0 0 _ c.ready.new.slots.items c.args.slot _ read.0 _ (with_cells w) _ same refl refl,
      ),
      record {
        writes_back = tt;
        value = rw (content-at 0 0 _ c.ready.new.slots.items c.args.slot _ read.0 _ same)
            (ap Some (sym c.cells_mut.ensures.value));
      },
    )
