-- The entries of a run's table, and what the function of one command ensures.
use Rattle.std.specs.Prelude.{List, [], ◌∷◌, ◌++◌, map}
use Rattle.iox2_machine.specs.machine.Records.{Environment}
use Rattle.iox2_machine.specs.machine.State.{State, Messages}
use Rattle.iox2_domain.specs.Kept.{Kept as Domain}
use Rattle.iox2_domain.specs.Shows.{Shows}
use Rattle.iox2_commands.specs.Outcomes.{Handle, Event}
use Rattle.iox2_commands.specs.Runs.{Defaults}
use Rattle.iox2_runs.specs.Tables.{TableEntry, No_entry, Publisher_entry, Subscriber_entry, Unwritten_entry}
use Rattle.iox2_runs.specs.Tables.{Written_entry, Blocked_entry, Sample_entry, IsTable}
use Rattle.iox2_runs.specs.Placed.{ArePlaced}
use Rattle.iox2_runs.specs.RunSteps.{Comes}
use Rattle.iox2_commands.specs.declared.command.Command.{Command}
use Rattle.iox2_commands.specs.declared.reply.Reply.{Reply}
use Rattle.iox2_runs.specs.declared.runs.made.Made.{Made}
use Rattle.iox2_runs.specs.declared.runs.made.Made.TheVariants.{Nothing, Publisher, Subscriber, Unwritten, Written}
use Rattle.iox2_runs.specs.declared.runs.made.Made.TheVariants.{Blocked, Sample}

-- The entry for what a command made.
abbrev pub entry_for : Made → TableEntry
entry_for Nothing = No_entry
entry_for (Publisher publisher) = Publisher_entry publisher.service_id publisher.id
entry_for (Subscriber subscriber) = Subscriber_entry subscriber.service_id subscriber.id
entry_for (Unwritten loan) = Unwritten_entry loan.service_id loan.loan.publisher loan.loan.number
entry_for (Written loan) = Written_entry loan.service_id loan.loan.publisher loan.loan.number
entry_for (Blocked blocked) = Blocked_entry blocked.service_id blocked.loan.publisher blocked.loan.number
entry_for (Sample sample) = Sample_entry sample.service_id sample.origin sample.sample.subscriber sample.sample.number

-- The entries of a table, with what one command more made.
abbrev pub entries_with : List Made → Made → List TableEntry
entries_with table made = map entry_for table ++ entry_for made ∷ []

-- The default values of a payload type and a user header type.
abbrev pub defaults_of : {T U : Type 0} → (T → Type 0) → (U → Type 0) → Defaults T U
defaults_of is_default_value is_default_header =
    record { IsDefaultValue = is_default_value; IsDefaultHeader = is_default_header }

-- The domain shows a state in which the table has the entries of handles, and its ports stand where their handles say.
abbrev pub IsLiveTable : {T U F G : Type 0} → Domain T U F G → List Made → Type 0
IsLiveTable {T} {U} domain table =
    (m : Messages T U) × (s : State T U) × (handles : List Handle) × (events : List (Event T U)) × Shows domain m s
    × IsTable s handles events (map entry_for table)
    × ArePlaced domain table

-- Whatever state the domain shows and whatever handles the table has entries of, the command steps to what the domain
-- shows afterwards, with this reply, and the table follows.
abbrev pub Carries : {T U F G : Type 0} → Environment → Defaults T U → (old new : Domain T U F G) → (table : List Made)
    → Command T U → Reply T U → (table' : List Made) → (made : Made) → Type 0
Carries {T} {U} environment defaults old new table command reply table' made =
    (m : Messages T U) (s : State T U) (handles : List Handle) (events : List (Event T U)) → Shows old m s
    → IsTable s handles events (map entry_for table)
    → (default_value : T) (default_header : U) → defaults.IsDefaultValue default_value
    → defaults.IsDefaultHeader default_header
    → Comes environment defaults (Shows new) m s handles events command reply (entries_with table' made)
