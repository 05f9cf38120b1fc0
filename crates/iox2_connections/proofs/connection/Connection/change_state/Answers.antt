use Rattle.std.proofs.Common.{◌-◌, arith}
use Rattle.iox2_machine.specs.machine.Channel.{with_state}
use Rattle.iox2_connections.proofs.FurtherFields.{further-is, room-at, status-changed-at}
use Rattle.iox2_connections.proofs.connection.Connection.change_state.Goals as goal

pub invariant_of-self-then-channel-len : goal.invariant_of-self-then-channel-len
invariant_of-self-then-channel-len c =
    let room = room-at c.self.inside.waiting.capacity c.self.inside.further.items
    (c.args.channel - 1) c.index_mut.result.now c.self.invariant.further_room (omega arith) c.index_mut.ensures.value in
    further-is c.self.inside _ _ c.self.invariant (record { capacity = room.capacity; within = room.within })

pub returns-then-channel-len-clause-bounded : goal.returns-then-channel-len-clause-bounded
returns-then-channel-len-clause-bounded c =
    let room = room-at c.self.inside.waiting.capacity c.self.inside.further.items
    (c.args.channel - 1) c.index_mut.result.now c.self.invariant.further_room (omega arith) c.index_mut.ensures.value in
    (further-is c.self.inside _ _ c.self.invariant (record { capacity = room.capacity; within = room.within })).bounded

pub returns-then-channel-len-clause-changed : goal.returns-then-channel-len-clause-changed
returns-then-channel-len-clause-changed c =
    rw (← c.self.view_is, c.change_state-then-channel-len.ensures)
    (status-changed-at c.self.inside c.args.channel c.index_mut.result.now c.if-channel-eq0.false
    (omega arith) c.index_mut.ensures.value c.args.expected (with_state c.args.state) c.self.invariant.bounded.marked)
