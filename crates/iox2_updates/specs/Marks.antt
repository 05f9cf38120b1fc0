-- The marks of a port's connections are cleared.
use Rattle.std.specs.Prelude.{ℕ}
use Rattle.iox2_domain.specs.Fields.{Fields}
use Rattle.iox2_domain.specs.OpenMarks.{ClearsMarks, IsUnmarkedReceiver, IsUnmarkedSender}

module _ {T U : Type 0} where
  -- Nothing changed except marks, none is newly set, and no connection of the publisher at the place i is marked as
  -- open.
  pub record UnmarksSender (f : Fields T U) (i : ℕ) (f' : Fields T U) : Type 0 where
    pub clears : ClearsMarks f f'
    pub unmarked : IsUnmarkedSender f'.connections i

  -- The same of the subscriber at the place j.
  pub record UnmarksReceiver (f : Fields T U) (j : ℕ) (f' : Fields T U) : Type 0 where
    pub clears : ClearsMarks f f'
    pub unmarked : IsUnmarkedReceiver f'.connections j
