-- A send field by field, as the lemmas on deliveries speak of it.
use Rattle.std.specs.Prelude.{ℕ, Bool, List}
use Rattle.std.specs.declared.option.Option.{Option}
use Rattle.iox2_machine.specs.machine.Records.{BlockedSend}

-- The send of n into that channel, which goes on at these ends from that place on.
abbrev pub sending : (n channel retries place : ℕ) → List (Option ℕ) → (count : ℕ) → (has_failed : Bool) → BlockedSend
sending n channel retries place ends count has_failed = record {
  message = n;
  channel = channel;
  place = place;
  ends = ends;
  retries = retries;
  count = count;
  has_failed = has_failed;
}
