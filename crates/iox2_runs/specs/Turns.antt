-- What a command does with what its handle names.
use Rattle.std.specs.Prelude.{◌≡◌, ℕ, List, slice_index_or, slice_set}
use Rattle.std.specs.declared.vec.Vec.{Vec}
use Rattle.iox2_machine.specs.machine.Records.{Environment}
use Rattle.iox2_machine.specs.machine.State.{State, Messages}
use Rattle.iox2_domain.specs.Kept.{Kept as Domain}
use Rattle.iox2_domain.specs.Shows.{Shows}
use Rattle.iox2_pubsub.specs.declared.publisher.Publisher.{Publisher as PublisherHandle}
use Rattle.iox2_commands.specs.Runs.{Defaults}
use Rattle.iox2_commands.specs.declared.command.Command.{Command}
use Rattle.iox2_commands.specs.declared.reply.Reply.{Reply}
use Rattle.iox2_runs.specs.Carries.{Carries, IsLiveTable}
use Rattle.iox2_runs.specs.Leaves.{LeavesTable}
use Rattle.iox2_runs.specs.Rooms.{SameRoom}
use Rattle.iox2_runs.specs.Tables.{IsUnblockedPort}
use Rattle.iox2_runs.specs.declared.runs.made.Made.{Made}
use Rattle.iox2_runs.specs.declared.runs.made.Made.TheVariants.{Nothing, Publisher}

-- It stands in a table whose entries are live in the domain, or is nothing.
pub record IsLiveEntry {T U F G : Type 0} (domain : Domain T U F G) (held : Made) : Type 0 where
  pub table : List Made
  pub live : IsLiveTable domain table
  pub of : ℕ
  pub stands : slice_index_or table of Nothing ≡ held

-- It is no publisher, or one that waits for a receiver.
abbrev pub IsUnready : {T U F G : Type 0} → Domain T U F G → Made → Type 0
IsUnready {T} {U} domain held =
    (publisher : PublisherHandle) → held ≡ Publisher publisher → (m : Messages T U) (s : State T U) → Shows domain m s
    → IsUnblockedPort s publisher.id → ⊥

-- Wherever a table has what is held, the command is carried out with this reply, leaves this in its place, and makes
-- that; and all else that was live stays so.
pub record Turns {T U F G : Type 0} (environment : Environment) (defaults : Defaults T U) (old new : Domain T U F G)
    (held : Made)
    (command : ℕ → Command T U) (turn : Reply T U × Made × Made) : Type 0 where
  pub carries : (table : List Made) (of : ℕ) → slice_index_or table of Nothing ≡ held
      → Carries environment defaults old new table (command of) turn.0 (slice_set table of turn.1) turn.2
  pub leaves : (table : List Made) (of : ℕ) → slice_index_or table of Nothing ≡ held
      → LeavesTable old new table (slice_set table of turn.1) turn.2

-- Whatever the table has, the command is carried out with this reply, changes nothing there, and makes that; and all
-- else that was live stays so.
pub record Makes {T U F G : Type 0} (environment : Environment) (defaults : Defaults T U) (old new : Domain T U F G)
    (command : Command T U) (reply : Reply T U) (made : Made) : Type 0 where
  pub carries : (table : List Made) → Carries environment defaults old new table command reply table made
  pub leaves : (table : List Made) → LeavesTable old new table table made

-- This was taken out of the table's position.
pub record IsTakenFromTable {A : Type 0} (old new : Vec Made A) (of : ℕ) (taken : Made) : Type 0 where
  pub items : new.items ≡ slice_set old.items of Nothing
  pub room : SameRoom old new
  pub stood : taken ≡ slice_index_or old.items of Nothing

-- What a command left stands at the table's position.
pub record IsPutBack {T U A : Type 0} (old new : Vec Made A) (of : ℕ) (turn : Reply T U × Made × Made)
    (result : Reply T U × Made) : Type 0 where
  pub items : new.items ≡ slice_set old.items of turn.1
  pub room : SameRoom old new
  pub reply : result.0 ≡ turn.0
  pub made : result.1 ≡ turn.2
