-- What a recorded domain has done, and what of it is kept.
use Rattle.std.specs.Prelude.{ℕ, Bool, true, false, List, [], ◌∷◌, ◌++◌, ◌≡◌, ◌≤◌, ◌==◌, ◌&&◌, ◌+◌, ◌-◌, ◌^◌, map, min}
use Rattle.std.specs.Prelude.{nat_lt, vec_capacity, vec_len}
use Rattle.iox2_machine.specs.machine.Environments.{fixed_handlers}
use Rattle.iox2_machine.specs.machine.State.{State, Messages, fresh, no_messages}
use Rattle.iox2_machine.specs.declared.service_config.ServiceConfig.{ServiceConfig}
use Rattle.iox2_domain.specs.Kept.{Kept as Domain}
use Rattle.iox2_domain.specs.Shows.{Shows}
use Rattle.iox2_commands.specs.Outcomes.{Handle, Event}
use Rattle.iox2_commands.specs.Runs.{Defaults, Run, RunTo}
use Rattle.iox2_commands.specs.declared.command.Command.{Command}
use Rattle.iox2_commands.specs.declared.reply.Reply.{Reply}
use Rattle.iox2_runs.specs.Carries.{Carries, entry_for}
use Rattle.iox2_runs.specs.Placed.{ArePlaced}
use Rattle.iox2_runs.specs.Tables.{IsTable}
use Rattle.iox2_runs.specs.declared.runs.made.Made.{Made}
use Rattle.iox2_recorded.specs.declared.recorded.Recorded.{Recorded}

-- On a new domain with these settings, a run of the commands has these replies.
abbrev pub WasRun : {T U : Type 0} → Defaults T U → ServiceConfig → List (Command T U) → List (Reply T U) → Type 0
WasRun {T} {U} defaults c commands replies =
    (events : List (Event T U)) × (m' : Messages T U) × (s' : State T U)
    × Run fixed_handlers defaults no_messages (fresh c) commands replies events m' s'

-- From each state that the domain showed, the commands ran with these replies to one that it shows now, with what the
-- table keeps.
abbrev pub HasRun : {T U F G : Type 0} → Defaults T U → (old new : Domain T U F G) → List (Command T U)
    → List (Reply T U) → List Made → Type 0
HasRun {T} {U} defaults old new commands replies table =
    (m : Messages T U) (s : State T U) → Shows old m s
    → (events : List (Event T U)) × (handles : List Handle) × (m' : Messages T U) × (s' : State T U) × Shows new m' s'
    × RunTo fixed_handlers defaults m s [] commands replies events m' s' handles
    × IsTable s' handles events (map entry_for table)

-- All that was called, what is kept first and what was missed behind it, ran on a new domain to what the domain is now.
-- What is kept is a run by itself, and where nothing was missed it is all.
pub record IsRecorded {T U F G : Type 0} (defaults : Defaults T U) (r : Recorded T U F G) : Type 0 where
  pub start : Domain T U F G
  pub new : Shows start no_messages (fresh r.config)
  pub missed_commands : List (Command T U)
  pub missed_replies : List (Reply T U)
  pub ran : HasRun defaults start r.domain (r.commands.items ++ missed_commands)
      (r.replies.items ++ missed_replies) r.table.items
  pub placed : ArePlaced r.domain r.table.items
  pub kept : WasRun defaults r.config r.commands.items r.replies.items
  pub whole : r.missed ≡ 0 → (missed_commands ≡ []) × (missed_replies ≡ [])

-- No call was missed, and there is room for one more with its reply.
abbrev pub has_room_for_call : {T U F G : Type 0} → Recorded T U F G → Bool
has_room_for_call r = (r.missed == 0) && nat_lt (vec_len r.commands) (vec_capacity r.commands) && nat_lt
    (vec_len r.replies) (vec_capacity r.replies)

-- The command was carried out with this reply: from whatever the domain showed it steps to what it shows now, and what
-- it made is named by its position.
abbrev pub IsCarriedOut : {T U F G : Type 0} → Defaults T U → (old new : Recorded T U F G) → Command T U → Reply T U
    → Type 0
IsCarriedOut defaults old new command reply =
    (table : List Made) × (made : Made) × Carries fixed_handlers defaults old.domain new.domain old.table.items command
    reply table made × (new.table.items ≡ table ++ made ∷ [])

-- In all there is room for that many calls with their replies.
abbrev pub HasCallRoom : {T U F G : Type 0} → Recorded T U F G → (calls : ℕ) → Type 0
HasCallRoom r calls = (vec_capacity r.commands ≡ calls) × (vec_capacity r.replies ≡ calls)

-- There is room for the names of what all calls make that are kept, and while none was missed no other has a name.
pub record HasNames {T U F G : Type 0} (r : Recorded T U F G) : Type 0 where
  pub room : vec_capacity r.commands ≤ vec_capacity r.table
  pub each : r.missed ≡ 0 → vec_len r.table ≡ vec_len r.commands

-- The command and its reply are kept behind the others, if none was missed so far and there is room; else one more is
-- missed, of at most 2^64 - 1 that are counted, and what is kept stays. The room stays as it is.
pub record KeepsCall {T U F G : Type 0} (old new : Recorded T U F G) (command : Command T U)
    (reply : Reply T U) : Type 0 where
  pub kept : has_room_for_call old ≡ true → (new.missed ≡ 0) × (new.commands.items ≡ old.commands.items ++ command ∷ [])
      × (new.replies.items ≡ old.replies.items ++ reply ∷ [])
  pub missed : has_room_for_call old ≡ false → (new.missed ≡ min (old.missed + 1) (2 ^ 64 - 1))
      × (new.commands.items ≡ old.commands.items) × (new.replies.items ≡ old.replies.items)
  pub room : (calls : ℕ) → HasCallRoom old calls → HasCallRoom new calls

-- The domain, what is kept and the room are as they were.
pub record SameRecording {T U F G : Type 0} (old new : Recorded T U F G) : Type 0 where
  pub domain : new.domain ≡ old.domain
  pub commands : new.commands.items ≡ old.commands.items
  pub replies : new.replies.items ≡ old.replies.items
  pub missed : new.missed ≡ old.missed
  pub room : (calls : ℕ) → HasCallRoom old calls → HasCallRoom new calls
