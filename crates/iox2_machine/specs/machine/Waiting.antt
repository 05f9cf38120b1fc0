-- What waits for a subscriber.
use Rattle.std.specs.Prelude.{ℕ, Bool, false, if◌then◌else◌, ◌&&◌, ◌||◌, List, []}
use Rattle.std.specs.Option.{option_map_or}
use Rattle.iox2_machine.specs.machine.Numbers.{contains}
use Rattle.iox2_machine.specs.machine.Records.{Subscriber}
use Rattle.iox2_machine.specs.machine.State.{State, connected_publishers}

-- The subscriber is open, and is connected with p or due: its next update connects it with each publisher that has sent
-- it anything.
abbrev pub receives_from : Subscriber → (p : ℕ) → Bool
receives_from y p = y.is_open && (y.is_due || contains (connected_publishers y) p)

module _ {T U : Type 0} where
  -- The messages of p that wait for q, oldest first: none if q doesn't receive from p.
  abbrev pub waiting_from : State T U → (p q : ℕ) → List ℕ
  waiting_from s p q = if option_map_or (λ (y : Subscriber). receives_from y p) (s.subscribers q) false then
      (s.mailboxes p q).waiting else []
