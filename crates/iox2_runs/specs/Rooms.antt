-- Room in a vector.
use Rattle.std.specs.Prelude.{◌≡◌, vec_len, vec_capacity}
use Rattle.std.specs.declared.vec.Vec.{Vec}

-- The vector has as many elements as before, and room for as many.
pub record SameRoom {A Z : Type 0} (old new : Vec A Z) : Type 0 where
  pub len : vec_len new ≡ vec_len old
  pub capacity : vec_capacity new ≡ vec_capacity old
