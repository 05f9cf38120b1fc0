-- What one call has to show of what is kept.
use Rattle.std.specs.Prelude.{ℕ, List, ◌≡◌, ◌⊎◌}
use Rattle.std.specs.declared.option.Option.TheVariants.{Some}
use Rattle.iox2_machine.specs.machine.Records.{Entry, Environment}
use Rattle.iox2_machine.specs.Stored.{Stored, StoredKeepsEntries}
use Rattle.iox2_commands.specs.Outcomes.{Handle, Event, No_event, Message_sent, Message_received, Outcome}
use Rattle.iox2_commands.specs.Step.{Step}
use Rattle.iox2_commands.specs.declared.command.Command.{Command}

-- The entry is that of the message that was sent just now.
abbrev pub IsNewEntry : {T U : Type 0} → Event T U → (n : ℕ) → Entry T U → Type 0
IsNewEntry No_event n entry = ⊥
IsNewEntry (Message_sent p n' entry') n entry = (n' ≡ n) × (entry' ≡ entry)
IsNewEntry (Message_received p q n') n entry = ⊥

-- What a call has to show of what is kept, and of nothing else: its step, and that each entry kept afterwards was sent
-- just now, or was kept before and isn't overwritten.
pub record StoredStep {T U : Type 0} (environment : Environment) (default_value : T) (default_header : U)
    (old : Stored T U) (handles : List Handle) (command : Command T U) (o : Outcome T U)
    (new : Stored T U) : Type 0 where
  pub step : Step environment default_value default_header old.entries old.state handles command o
  pub state : o.state ≡ new.state
  pub entries_kept : (n : ℕ) (entry : Entry T U) → new.entries n ≡ Some entry
      → IsNewEntry o.event n entry
      ⊎ ((old.entries n ≡ Some entry) × ((entry' : Entry T U) → ¬ IsNewEntry o.event n entry'))
  pub complete : StoredKeepsEntries new
