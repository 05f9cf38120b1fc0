-- Closed publishers that a subscriber still has a connection with.
use Rattle.std.specs.Prelude.{ℕ, Bool, not, length, ◌+◌, ◌≤◌}
use Rattle.std.specs.List.{filter}
use Rattle.std.specs.Option.{option_map_or}
use Rattle.iox2_machine.specs.machine.Limits.{expired_limit}
use Rattle.iox2_machine.specs.machine.Places.{occupants}
use Rattle.iox2_machine.specs.machine.Records.{Subscriber}
use Rattle.iox2_machine.specs.machine.State.{State, is_present}

module _ {T U : Type 0} where
  -- The publisher was closed, or never made.
  abbrev pub is_gone : State T U → (p : ℕ) → Bool
  is_gone s p = not (is_present s p)

  -- How many closed publishers the subscriber has a connection with: those that its updates have made expired, and
  -- those that still stand at an end.
  abbrev pub departed_of : State T U → Subscriber → ℕ
  departed_of s y = length y.expired + length (filter (is_gone s) (occupants y.ends))

  -- How many closed publishers the subscriber q has a connection with, and none if it is gone.
  abbrev pub departed_at : State T U → (q : ℕ) → ℕ
  departed_at s q = option_map_or (departed_of s) (s.subscribers q) 0

  -- The subscriber q can keep what waits from each closed publisher, even if that many more publishers are closed.
  abbrev pub HasDepartedRoom : State T U → (q closes : ℕ) → Type 0
  HasDepartedRoom s q closes = departed_at s q + closes ≤ expired_limit s.config
