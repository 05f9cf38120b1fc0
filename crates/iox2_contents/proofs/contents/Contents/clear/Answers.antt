use Rattle.std.proofs.Common.{◌<◌, ◌∙◌, ℕ, ap, cond, length, slice_set}
use Rattle.std.specs.Prelude.{nat_lt}
use Rattle.std.proofs.lemmas.List.{map-set}
use Rattle.iox2_contents.specs.SlotStates.{content_of}
use Rattle.iox2_contents.proofs.SlotReads.{slot_read, slot_within}
use Rattle.iox2_contents.proofs.SlotLists.{cleared-lists, clears, content-at, ended-there}
use Rattle.iox2_contents.proofs.SlotSums.{changed-long}
use Rattle.iox2_contents.proofs.contents.Contents.clear.Goals as goal

pub end-requires : goal.end-requires
end-requires g c = c.requires

pub index_mut-requires : goal.index_mut-requires
index_mut-requires g c =
    let within : c.args.slot < length c.end.new.self = rw (c.end.ensures, changed-long) c.requires in
    rw c.self.inside.slots.ok.0 (slot_within _ c.self.inside.slots.items _ c.args.slot c.self.view_is within)

pub invariant_of-self : goal.invariant_of-self
invariant_of-self g c =
    let within : c.args.slot < length c.end.new.self = rw (c.end.ensures, changed-long) c.requires in
    let read = slot_read _ c.self.inside.slots.items _ c.args.slot _ c.self.view_is within c.index_mut.ensures.value in
    let was = ended-there c.args.self.now c.end.new.self c.args.slot _ c.requires c.end.ensures
    (content-at 0 0 _ _ c.args.slot _ read _ c.self.view_is) in
    cleared-lists _ _ _ _ c.args.slot _ read c.self.invariant c.clear.new.self
    (ap (λ content. content.cells) was) c.clear.ensures.cells c.clear.ensures.lists c.clear.ensures.in_place
    c.clear.ensures.room c.clear.ensures.none

pub returns : goal.returns
returns g c =
    let within : c.args.slot < length c.end.new.self = rw (c.end.ensures, changed-long) c.requires in
    let read = slot_read _ c.self.inside.slots.items _ c.args.slot _ c.self.view_is within c.index_mut.ensures.value in
    clears c.args.self.now c.end.new.self c.args.slot _ c.requires c.end.ensures
    (content-at 0 0 _ _ c.args.slot _ read _ c.self.view_is) _ (content_of c.self.inside.lists.room c.clear.new.self)
    c.clear.ensures.in_place (ap (λ n. cond {A = ℕ} (nat_lt 0 n) c.self.inside.lists.room 0) c.clear.ensures.lists)
    c.clear.ensures.cells c.clear.ensures.freed
    (map-set (content_of c.self.inside.lists.room) c.self.inside.slots.items c.args.slot c.clear.new.self
    ∙ ap (λ contents. slice_set contents c.args.slot (content_of c.self.inside.lists.room c.clear.new.self))
    c.self.view_is)
