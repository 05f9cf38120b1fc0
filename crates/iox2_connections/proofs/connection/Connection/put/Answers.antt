use Rattle.std.proofs.Common.{◌-◌, ◌<◌, length}
use Rattle.iox2_connections.specs.FurtherChannels.{HasRoom}
use Rattle.iox2_connections.proofs.FurtherFields.{further-is, further-there, room-at, ring-put-at, put-room}
use Rattle.iox2_connections.proofs.connection.Connection.put.Goals as goal

pub invariant_of-self-else-channel-eq0 : goal.invariant_of-self-else-channel-eq0
invariant_of-self-else-channel-eq0 c =
    let low : c.args.channel - 1 < length c.self.inside.further.items =
    further-there c.self.inside c.args.self.now c.args.channel c.self.view_is c.if-channel-eq0.false
    c.requires.channel in
    let room : HasRoom c.self.inside.waiting.capacity c.index_mut.result.now =
    room-at c.self.inside.waiting.capacity c.self.inside.further.items
    (c.args.channel - 1) c.index_mut.result.now c.self.invariant.further_room low c.index_mut.ensures.value in
    further-is c.self.inside _ _ c.self.invariant
    (put-room c.self.inside.waiting.capacity c.index_mut.result.now c.args.slot c.args.overflow
    c.put_into-else-channel-eq0.result c.put_into-else-channel-eq0.new.ring room c.put_into-else-channel-eq0.ensures.put
    c.put_into-else-channel-eq0.ensures.capacity)

pub returns-else-channel-eq0-clause-bounded : goal.returns-else-channel-eq0-clause-bounded
returns-else-channel-eq0-clause-bounded c =
    let low : c.args.channel - 1 < length c.self.inside.further.items =
    further-there c.self.inside c.args.self.now c.args.channel c.self.view_is c.if-channel-eq0.false
    c.requires.channel in
    let room : HasRoom c.self.inside.waiting.capacity c.index_mut.result.now =
    room-at c.self.inside.waiting.capacity c.self.inside.further.items
    (c.args.channel - 1) c.index_mut.result.now c.self.invariant.further_room low c.index_mut.ensures.value in
    (further-is c.self.inside _ _ c.self.invariant
    (put-room c.self.inside.waiting.capacity c.index_mut.result.now c.args.slot c.args.overflow
    c.put_into-else-channel-eq0.result c.put_into-else-channel-eq0.new.ring room c.put_into-else-channel-eq0.ensures.put
    c.put_into-else-channel-eq0.ensures.capacity)).bounded

pub returns-else-channel-eq0-clause-put : goal.returns-else-channel-eq0-clause-put
returns-else-channel-eq0-clause-put c =
    let low : c.args.channel - 1 < length c.self.inside.further.items =
    further-there c.self.inside c.args.self.now c.args.channel c.self.view_is c.if-channel-eq0.false
    c.requires.channel in
    let room : HasRoom c.self.inside.waiting.capacity c.index_mut.result.now =
    room-at c.self.inside.waiting.capacity c.self.inside.further.items
    (c.args.channel - 1) c.index_mut.result.now c.self.invariant.further_room low c.index_mut.ensures.value in
    rw (← c.self.view_is)
    (ring-put-at c.self.inside c.args.channel c.index_mut.result.now c.if-channel-eq0.false low
    c.index_mut.ensures.value
    c.args.slot c.args.overflow c.put_into-else-channel-eq0.result c.put_into-else-channel-eq0.new.ring room.capacity
    c.put_into-else-channel-eq0.ensures.put)
