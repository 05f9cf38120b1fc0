use Rattle.std.proofs.Common.{◌≡◌, rules, true}
use Rattle.iox2_contents.specs.SlotStates.{slot_has_list}
use Rattle.iox2_contents.proofs.SlotReads.{some_read, some_within}
use Rattle.iox2_contents.proofs.SlotLists.{bare-same, taken-back}
use Rattle.iox2_contents.proofs.lists.take_back.Goals as goal

pub index_mut-requires : goal.index_mut-requires
index_mut-requires g c = let within = some_within c.args.slots.now.items c.args.slot _ c.requires.has in search rules

pub take_list-requires : goal.take_list-requires
take_list-requires g c =
    (some_read c.args.slots.now.items c.args.slot
    (λ s. slot_has_list s ≡ true) c.index_mut.result.now c.requires.has c.index_mut.ensures.value).1

pub returns-clause-same : goal.returns-clause-same
returns-clause-same g c =
    let read = some_read c.args.slots.now.items c.args.slot
    (λ s. slot_has_list s ≡ true) c.index_mut.result.now c.requires.has c.index_mut.ensures.value in
    rw (c.take_list.ensures.taken, c.put.ensures.room)
    (bare-same c.args.lists.now.most 0 _ _ c.args.slot _ read.0 c.requires.lists.ended)

pub returns-clause-lists : goal.returns-clause-lists
returns-clause-lists g c =
    let read = some_read c.args.slots.now.items c.args.slot
    (λ s. slot_has_list s ≡ true) c.index_mut.result.now c.requires.has c.index_mut.ensures.value in
    rw (c.take_list.ensures.taken, c.put.ensures.most, c.put.ensures.room)
    (taken-back c.args.lists.now.most _ _ _ c.args.slot _ read.0 c.requires.lists _ c.put.ensures.kept
    (rw c.take_list.ensures.list at c.put.ensures.back))
