-- A run on a domain goes on by one command.
use Rattle.std.proofs.Common.{◌≡◌, ℕ, List, [], ◌∷◌, ◌++◌, map, refl, sym, subst, Some}
use Rattle.std.specs.Prelude.{slice_get}
use Rattle.std.proofs.lemmas.List.{map-append}
use Rattle.std.proofs.lemmas.Option.{none-some}
use Rattle.iox2_machine.specs.machine.Environments.{fixed_handlers}
use Rattle.iox2_machine.specs.machine.Records.{Environment}
use Rattle.iox2_machine.specs.machine.State.{State, Messages}
use Rattle.iox2_domain.specs.Kept.{Kept as Domain}
use Rattle.iox2_domain.specs.Shows.{Shows}
use Rattle.iox2_commands.specs.Outcomes.{Handle, Event, messages_after}
use Rattle.iox2_commands.specs.Points.{GrantsLoans}
use Rattle.iox2_commands.specs.Runs.{Defaults, RunTo, Run, only_defaults}
use Rattle.iox2_commands.specs.RunLaws.{IsFaithful}
use Rattle.iox2_commands.specs.OneDefault.{HasOneDefault}
use Rattle.iox2_runs.specs.Tables.{IsTable}
use Rattle.iox2_runs.specs.Carries.{entry_for, IsLiveTable, Carries}
use Rattle.iox2_runs.specs.Placed.{ArePlaced}
use Rattle.iox2_runs.specs.DomainRuns.{RunsOnDomain}
use Rattle.iox2_commands.specs.declared.command.Command.{Command}
use Rattle.iox2_commands.specs.declared.reply.Reply.{Reply}
use Rattle.iox2_runs.specs.declared.runs.made.Made.{Made}
use Rattle.iox2_commands.proofs.Faithful.{is_faithful}
use Rattle.iox2_commands.proofs.OneDefault.{uses_one_default}
use Rattle.iox2_commands.proofs.Points.{grants_loans}
use Rattle.iox2_runs.proofs.RunsOn.{run_more, received_once}

module _ {T U : Type 0} (environment : Environment) (defaults : Defaults T U) where
  -- From each state that the domain showed, the commands ran to one that it shows now, with what the table keeps.
  abbrev pub HasRun : {F G : Type 0} (old new : Domain T U F G) → List (Command T U) → List (Reply T U) → List Made
      → Type 0
  HasRun old new commands replies table =
      (m : Messages T U) (s : State T U) → Shows old m s
      → (events : List (Event T U)) × (handles : List Handle) × (m' : Messages T U) × (s' : State T U) × Shows new m' s'
      × RunTo environment defaults m s [] commands replies events m' s' handles
      × IsTable s' handles events (map entry_for table)

  -- at the start nothing ran
  pub has_run_none : {F G : Type 0} (domain : Domain T U F G) → HasRun domain domain [] [] []
  has_run_none domain = λ m s shown. (
    [],
    [],
    m,
    s,
    shown,
    (refl, refl, refl),
    record {
      count = refl;
      entries = λ i handle entry at. absurd (no_element i handle at);
      ports_below = λ i p handle at. absurd (no_element i handle at);
      ports_apart = λ i j p handle handle' at. absurd (no_element i handle at);
      loans_below = λ i n at. absurd (no_element i _ at);
      loans_apart = λ i j n at. absurd (no_element i _ at);
      blocked_sent = λ i p n at. absurd (no_element i _ at);
      blocked_apart = λ i j p n at. absurd (no_element i _ at);
      samples_received = λ i p q n at. absurd (no_element i _ at);
      samples_apart = λ i j p q n at. absurd (no_element i _ at);
    },
  ) where
    no_element : (i : ℕ) (handle : Handle) → slice_get [] i ≡ Some handle → ⊥
    no_element i handle at = none-some handle at

  -- one command more
  pub has_run_more : {F G : Type 0} (old mid new : Domain T U F G) (commands : List (Command T U))
      (replies : List (Reply T U)) (table table' : List Made) (command : Command T U) (reply : Reply T U) (made : Made)
      → HasRun old mid commands replies table → Carries environment defaults mid new table command reply table' made
      → (default_value : T) (default_header : U) → defaults.IsDefaultValue default_value
      → defaults.IsDefaultHeader default_header
      → HasRun old new (commands ++ command ∷ []) (replies ++ reply ∷ []) (table' ++ made ∷ [])
  has_run_more old mid new commands replies table table' command reply made ran carries default_value default_header
      is_value is_header = λ m s shown.
      let before = ran m s shown in
      let comes = carries before.2 before.3 before.1 before.0 before.4 before.6 default_value default_header is_value
      is_header in
      let more = run_more environment defaults m before.2 s before.3 [] before.1 commands replies before.0 before.5
      comes.default_value comes.default_header comes.is_default_value comes.is_default_header command reply
      comes.outcome comes.step comes.replied in
      let once = received_once environment defaults m
      (messages_after comes.outcome.event before.2) s comes.outcome.state (before.1 ++ comes.outcome.handle ∷ [])
      (commands ++ command ∷ []) (replies ++ reply ∷ [])
      (before.0 ++ comes.outcome.event ∷ []) shown.well_formed more in (
        before.0 ++ comes.outcome.event ∷ [],
        before.1 ++ comes.outcome.handle ∷ [],
        messages_after comes.outcome.event before.2,
        comes.outcome.state,
        comes.shown,
        more,
        subst (IsTable comes.outcome.state (before.1 ++ comes.outcome.handle ∷ [])
            (before.0 ++ comes.outcome.event ∷ [])) (sym (map-append entry_for table' (made ∷ [])))
            (comes.follows once),
      )

  -- what ran so far is kept, where the domain showed some state at the start, and the ports stand where their handles
  -- say
  pub still_keeps : {F G : Type 0} (old new : Domain T U F G) (commands : List (Command T U))
      (replies : List (Reply T U)) (table : List Made)
      → (m : Messages T U) (s : State T U) → Shows old m s → HasRun old new commands replies table → ArePlaced new table
      → IsLiveTable new table
  still_keeps old new commands replies table m s shown ran placed =
      let now = ran m s shown in (now.2, now.3, now.1, now.0, now.4, now.6, placed)

  -- it is a run, and a faithful one, and it grants the loans that it has to
  pub is_run : {F G : Type 0} (old new : Domain T U F G) (commands : List (Command T U)) (replies : List (Reply T U))
      (table : List Made) → HasRun old new commands replies table
      → (m : Messages T U) (s : State T U) → Shows old m s
      → (events : List (Event T U)) × (m' : Messages T U) × (s' : State T U) × Shows new m' s'
      × Run environment defaults m s commands replies events m' s'
      × IsFaithful commands replies events × GrantsLoans environment defaults m s commands replies events m' s'
  is_run old new commands replies table ran = λ m s shown.
      let now = ran m s shown in
      let run : Run environment defaults m s commands replies now.0 now.2 now.3 = (now.1, now.5) in (
        now.0,
        now.2,
        now.3,
        now.4,
        run,
        is_faithful environment defaults m now.2 s now.3 commands replies now.0 shown.well_formed run,
        grants_loans environment defaults m s commands replies now.0 now.2 now.3 run shown.well_formed,
      )

module _ {T U : Type 0} (defaults : Defaults T U) where
  -- it has one default value and one default header throughout, where there are no others
  pub runs_on_domain : {F G : Type 0} (old new : Domain T U F G) (commands : List (Command T U))
      (replies : List (Reply T U)) (table : List Made) → HasRun fixed_handlers defaults old new commands replies table
      → HasOneDefault defaults → (default_value : T) (default_header : U) → defaults.IsDefaultValue default_value
      → defaults.IsDefaultHeader default_header
      → (m : Messages T U) (s : State T U) → Shows old m s
      → RunsOnDomain (only_defaults default_value default_header) new m s commands replies
  runs_on_domain old new commands replies table ran one default_value default_header is_value is_header m s shown =
      let now = ran m s shown in
      let run : RunTo fixed_handlers
      (only_defaults default_value default_header) m s [] commands replies now.0 now.2 now.3 now.1 =
      uses_one_default fixed_handlers defaults one default_value default_header is_value is_header m now.2 s now.3 []
      now.1 commands replies now.0 now.5 in record {
        events = now.0;
        messages = now.2;
        state = now.3;
        handles = now.1;
        shown = now.4;
        run = run;
        faithful = is_faithful fixed_handlers defaults m now.2 s now.3 commands replies now.0 shown.well_formed
            (now.1, now.5);
        grants = grants_loans fixed_handlers
            (only_defaults default_value default_header) m s commands replies now.0 now.2 now.3
            (now.1, run) shown.well_formed;
      }
