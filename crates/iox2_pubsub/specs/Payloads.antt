-- The payloads of what waits for a subscriber.
use Rattle.std.specs.Prelude.{ℕ, zero, suc, List, [], ◌∷◌, ◌++◌, map}
use Rattle.std.specs.Option.{option_map_or}
use Rattle.iox2_machine.specs.machine.Records.{Entry}
use Rattle.iox2_machine.specs.machine.State.{State, Messages}
use Rattle.iox2_machine.specs.machine.Waiting.{waiting_from}

-- The lists of all numbers below n, one after the other.
abbrev pub all_below : {X : Type 0} → (ℕ → List X) → (n : ℕ) → List X
all_below f zero = []
all_below f (suc n) = all_below f n ++ f n

module _ {T U : Type 0} where
  -- The values of the message n.
  abbrev pub payload_of : Messages T U → (n : ℕ) → List T
  payload_of messages n = option_map_or (λ (entry : Entry T U). entry.values) (messages n) []

  -- The payloads of the messages that wait for q: by publisher, and of each the oldest first.
  abbrev pub payloads_for : State T U → Messages T U → (q : ℕ) → List (List T)
  payloads_for s messages q = all_below (λ p. map (payload_of messages) (waiting_from s p q)) s.next_port

-- Each value as the payload of a message of its own.
abbrev pub singles : {T : Type 0} → List T → List (List T)
singles [] = []
singles (value ∷ values) = (value ∷ []) ∷ singles values
