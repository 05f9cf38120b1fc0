-- Every run of a list of commands grants each and comes to some end, or a loan is refused early.
use Rattle.std.proofs.Common.{◌≡◌, ℕ, suc, ◌<◌, Bool, true, false, ◌&&◌, List, [], ◌∷◌, ◌++◌, length, take, drop, refl}
use Rattle.std.proofs.Common.{sym, ap, subst, ◌∙◌, Some, ◌⊎◌, inl, inr, ⊎_elim}
use Rattle.std.specs.Prelude.{slice_get}
use Rattle.std.specs.List.{list_all}
use Rattle.iox2_machine.specs.machine.Numbers.{size}
use Rattle.iox2_machine.specs.machine.Records.{Publisher}
use Rattle.iox2_machine.specs.machine.State.{State, Messages, held}
use Rattle.iox2_machine.specs.machine.WellFormed.{IsWellFormed}
use Rattle.iox2_machine.specs.declared.service_config.ServiceConfig.{ServiceConfig}
use Rattle.iox2_machine.specs.declared.errors.LoanError.TheVariants.{OutOfMemory}
use Rattle.iox2_commands.specs.Outcomes.{Handle, Event, Outcome, messages_after}
use Rattle.iox2_commands.specs.Step.{Step}
use Rattle.iox2_machine.specs.machine.Environments.{ample_memory}
use Rattle.iox2_commands.specs.Runs.{RunFrom, RunTo, Defaults}
use Rattle.iox2_worst_case.specs.Fills.{is_granted}
use Rattle.iox2_worst_case.specs.FillingCommands.{loan_command}
use Rattle.iox2_commands.specs.declared.command.Command.{Command}
use Rattle.iox2_commands.specs.declared.reply.Reply.{Reply}
use Rattle.iox2_commands.specs.declared.reply.Reply.TheVariants.{LoanRefused}
use Rattle.iox2_commands.proofs.StepLaws.{IsSound, step_sound}

-- In this state the publisher 1 has fewer loans out than that and holds as much as it has slots, and so its loan is
-- refused.
pub record IsRefusedLoan {T U : Type 0} (c : ServiceConfig) (most slots : ℕ) (s : State T U) (command : Command T U)
    (reply : Reply T U) : Type 0 where
  pub asks : command ≡ loan_command c.variant
  pub well_formed : IsWellFormed s
  pub config : s.config ≡ c
  pub publisher : Publisher
  pub present : s.publishers 1 ≡ Some publisher
  pub few : length publisher.loans < most
  pub full : size (held s 1 publisher) ≡ slots
  pub refused : reply ≡ LoanRefused OutOfMemory

module _ {T U : Type 0} (c : ServiceConfig) (most slots : ℕ) where
  -- Each run of these commands grants each and ends with `Post`, or a loan is refused so.
  abbrev pub Leads : (Post : State T U → List Handle → Type 0) → State T U → List Handle → List (Command T U) → Type 0
  Leads Post s handles [] = Post s handles
  Leads Post s handles (command ∷ commands) =
      (default_value : T) (default_header : U) (m : Messages T U) (o : Outcome T U)
      → Step ample_memory default_value default_header m s handles command o → IsWellFormed o.state
      → IsRefusedLoan c most slots s command o.reply
      ⊎ ((is_granted o.reply ≡ true) × Leads Post o.state (handles ++ o.handle ∷ []) commands)

  -- one list after another
  pub leads_append : (Post : State T U → List Handle → Type 0) (xs ys : List (Command T U)) (s : State T U)
      (handles : List Handle)
      → Leads (λ s' handles'. Leads Post s' handles' ys) s handles xs → Leads Post s handles (xs ++ ys)
  leads_append Post [] ys s handles h = h
  leads_append Post (x ∷ xs) ys s handles h = λ default_value default_header m o step w.
      ⊎_elim (λ r. inl r) (λ g. inr (g.0, leads_append Post xs ys o.state (handles ++ o.handle ∷ []) g.1))
      (h default_value default_header m o step w)

  -- what follows from the end
  pub leads_further : (Post Post' : State T U → List Handle → Type 0)
      → ((s : State T U) (handles : List Handle) → Post s handles → Post' s handles)
      → (xs : List (Command T U)) (s : State T U) (handles : List Handle) → Leads Post s handles xs
      → Leads Post' s handles xs
  leads_further Post Post' further [] s handles h = further s handles h
  leads_further Post Post' further (x ∷ xs) s handles h = λ default_value default_header m o step w.
      ⊎_elim (λ r. inl r) (λ g. inr (g.0, leads_further Post Post' further xs o.state (handles ++ o.handle ∷ []) g.1))
      (h default_value default_header m o step w)

  -- A loan is refused so at some command of the run.
  abbrev pub RefusesAt : Defaults T U → Messages T U → State T U → List Handle → List (Command T U) → List (Reply T U)
      → List (Event T U) → Messages T U → State T U → Type 0
  RefusesAt defaults m s handles commands replies events last_messages last =
      (i : ℕ) × (command : Command T U) × (reply : Reply T U) × (slice_get commands i ≡ Some command)
      × (slice_get replies i ≡ Some reply)
      × (m' : Messages T U) × (s' : State T U) × (handles' : List Handle)
      × RunTo ample_memory defaults m s handles (take i commands) (take i replies) (take i events) m' s' handles'
      × RunFrom ample_memory defaults m' s' handles' (drop i commands) (drop i replies)
      (drop i events) last_messages last
      × IsRefusedLoan c most slots s' command reply

  -- Every reply is granted, and the run ends so.
  abbrev pub GrantsAll : (Post : State T U → List Handle → Type 0) → List (Reply T U) → State T U → Type 0
  GrantsAll Post replies s' = (list_all is_granted replies ≡ true) × (handles : List Handle) × Post s' handles

  -- a run does one or the other
  pub run_leads : (Post : State T U → List Handle → Type 0) (defaults : Defaults T U) (m m' : Messages T U)
      (s s' : State T U) (handles : List Handle)
      (commands : List (Command T U)) (replies : List (Reply T U)) (events : List (Event T U))
      → IsWellFormed s → Leads Post s handles commands
      → RunFrom ample_memory defaults m s handles commands replies events m' s'
      → RefusesAt defaults m s handles commands replies events m' s' ⊎ GrantsAll Post replies s'
  run_leads Post defaults m m' s s' handles [] [] [] w h run =
      inr (refl, handles, subst (λ (v : State T U). Post v handles) (sym (run.1).1) h)
  run_leads Post defaults m m' s s' handles (command ∷ commands) (reply ∷ replies) (event ∷ events) w h run =
      let o : Outcome T U = (run.1).4 in
      let sound : IsSound s o = step_sound ample_memory (run.1).0 (run.1).1 m s handles w command o (run.1).5 in
      ⊎_elim
      (λ refused. inl (
        0,
        command,
        o.reply,
        refl,
        ap (λ r. Some r) (sym (run.1).6),
        m,
        s,
        handles,
        (refl, refl, refl),
        run,
        refused,
      ))
      (λ granted. ⊎_elim
      (λ later. inl (
        suc later.0,
        later.1,
        later.2,
        later.3,
        later.4,
        later.5,
        later.6,
        later.7,
        ((run.1).0, (run.1).1, (run.1).2, (run.1).3, o, (run.1).5, (run.1).6, (run.1).7, later.8),
        later.9,
        later.10,
      ))
      (λ all. inr (
        both (is_granted reply) (list_all is_granted replies)
            (ap is_granted (sym (run.1).6) ∙ granted.0) all.0,
        all.1,
        all.2,
      ))
      (run_leads Post defaults (messages_after o.event m) m' o.state s'
      (handles ++ o.handle ∷ []) commands replies events sound.well_formed granted.1 (run.0, (run.1).8)))
      (h (run.1).0 (run.1).1 m o (run.1).5 sound.well_formed)
    where
      both : (a b : Bool) → a ≡ true → b ≡ true → (a && b) ≡ true
      both true true e f = refl
      both true false e f = f
      both false b e f = e
  run_leads Post defaults m m' s s' handles _ _ _ w h run = absurd run.1
