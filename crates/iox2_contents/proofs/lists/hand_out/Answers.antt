use Rattle.std.proofs.Common.{◌≡◌, rules, true}
use Rattle.iox2_contents.specs.SlotStates.{slot_waits}
use Rattle.iox2_contents.proofs.SlotReads.{found, some_read, some_within}
use Rattle.iox2_contents.proofs.SlotLists.{listed-fits, listed-lists, listed-ready, listed-same, spares}
use Rattle.iox2_contents.proofs.lists.hand_out.Goals as goal

pub take-list-requires : goal.take-list-requires
take-list-requires g c =
    let at = found c.args.slots.now.items c.args.slot (λ s. slot_waits s ≡ true) c.requires.waits in
    spares c.args.lists.now.most _ _ _ c.args.slot _ at.1 c.requires.lists at.2

pub index_mut-requires : goal.index_mut-requires
index_mut-requires g c = let within = some_within c.args.slots.now.items c.args.slot _ c.requires.waits in search rules

pub put_list-requires-clause-waits : goal.put_list-requires-clause-waits
put_list-requires-clause-waits g c =
    (some_read c.args.slots.now.items c.args.slot
    (λ s. slot_waits s ≡ true) c.index_mut.result.now c.requires.waits c.index_mut.ensures.value).1

pub put_list-requires-clause-room : goal.put_list-requires-clause-room
put_list-requires-clause-room g c =
    let read = some_read c.args.slots.now.items c.args.slot
    (λ s. slot_waits s ≡ true) c.index_mut.result.now c.requires.waits c.index_mut.ensures.value in
    listed-fits c.args.lists.now.most _ _ _ c.args.slot _ read.0 c.requires.lists read.1 _ c.take-list.ensures.long

pub returns-clause-same : goal.returns-clause-same
returns-clause-same g c =
    let read = some_read c.args.slots.now.items c.args.slot
    (λ s. slot_waits s ≡ true) c.index_mut.result.now c.requires.waits c.index_mut.ensures.value in
    rw (c.put_list.ensures, c.take-list.ensures.room) (listed-same c.args.lists.now.most 0 _ _ c.args.slot _ read.0 _)

pub returns-clause-lists : goal.returns-clause-lists
returns-clause-lists g c =
    let read = some_read c.args.slots.now.items c.args.slot
    (λ s. slot_waits s ≡ true) c.index_mut.result.now c.requires.waits c.index_mut.ensures.value in
    rw (c.put_list.ensures, c.take-list.ensures.most, c.take-list.ensures.room)
    (listed-lists c.args.lists.now.most _ _ _ c.args.slot _ read.0 c.requires.lists read.1 _ _ c.take-list.ensures.less
    c.take-list.ensures.long)

pub returns-clause-ready : goal.returns-clause-ready
returns-clause-ready g c =
    let read = some_read c.args.slots.now.items c.args.slot
    (λ s. slot_waits s ≡ true) c.index_mut.result.now c.requires.waits c.index_mut.ensures.value in
    rw c.put_list.ensures (listed-ready c.args.lists.now.most _ _ _ c.args.slot _ read.0 c.requires.lists read.1 _
    c.take-list.ensures.long)
