-- Types with at most one default value.
use Rattle.std.specs.Prelude.{◌≡◌}
use Rattle.iox2_commands.specs.Runs.{Defaults}

-- Any two default values are the same, and so are any two default headers.
pub record HasOneDefault {T U : Type 0} (defaults : Defaults T U) : Type 0 where
  pub value : (a b : T) → defaults.IsDefaultValue a → defaults.IsDefaultValue b → a ≡ b
  pub header : (a b : U) → defaults.IsDefaultHeader a → defaults.IsDefaultHeader b → a ≡ b
