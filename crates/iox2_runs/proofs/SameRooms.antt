-- Room in a vector that changes more than once.
use Rattle.std.proofs.Common.{◌∙◌}
use Rattle.std.specs.declared.vec.Vec.{Vec}
use Rattle.iox2_runs.specs.Rooms.{SameRoom}

-- two changes keep the room that each keeps
pub same-room-twice : {A Z : Type 0} {old between new : Vec A Z} → SameRoom old between → SameRoom between new
    → SameRoom old new
same-room-twice first second = record { len = second.len ∙ first.len; capacity = second.capacity ∙ first.capacity }
