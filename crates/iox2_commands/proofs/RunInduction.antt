-- What holds at the start of a run and is kept by each of its steps holds at its end.
use Rattle.std.proofs.Common.{◌≡◌, List, [], ◌∷◌, ◌++◌, sym, ap, subst, ◌∙◌}
use Rattle.std.proofs.lemmas.List.{append_assoc, append-nil}
use Rattle.iox2_machine.specs.machine.Records.{Environment}
use Rattle.iox2_machine.specs.machine.State.{State, Messages}
use Rattle.iox2_commands.specs.Outcomes.{Handle, Event, Outcome, messages_after}
use Rattle.iox2_commands.specs.Step.{Step}
use Rattle.iox2_commands.specs.Runs.{Defaults, RunFrom}
use Rattle.iox2_commands.specs.declared.command.Command.{Command}
use Rattle.iox2_commands.specs.declared.reply.Reply.{Reply}

-- What happened so far: the commands, and what each came to.
pub record PastCommands (T U : Type 0) : Type 0 where
  pub commands : List (Command T U)
  pub replies : List (Reply T U)
  pub handles : List Handle
  pub events : List (Event T U)

-- Nothing happened yet.
abbrev pub no_past : {T U : Type 0} → PastCommands T U
no_past = record { commands = []; replies = []; handles = []; events = [] }

-- One command more, with its outcome.
abbrev pub past_with : {T U : Type 0} → PastCommands T U → Command T U → Outcome T U → PastCommands T U
past_with past command o = record {
  commands = past.commands ++ command ∷ [];
  replies = past.replies ++ o.reply ∷ [];
  handles = past.handles ++ o.handle ∷ [];
  events = past.events ++ o.event ∷ [];
}

module _ {T U : Type 0} (environment : Environment) (defaults : Defaults T U)
    (Inv : PastCommands T U → Messages T U → State T U → Type 0) where
  -- Each step from where it holds leads to where it holds, with what happened in the step.
  abbrev pub StepsKeep : Type 0
  StepsKeep =
      (past : PastCommands T U) (m : Messages T U) (s : State T U) (default_value : T) (default_header : U)
      (command : Command T U) (o : Outcome T U)
      → defaults.IsDefaultValue default_value → defaults.IsDefaultHeader default_header
      → Inv past m s → Step environment default_value default_header m s past.handles command o
      → Inv (past_with past command o) (messages_after o.event m) o.state

  -- A run after what happened so far leads to where it holds, with all that happened.
  pub run_induction : StepsKeep
      → (past : PastCommands T U) (m m' : Messages T U) (s s' : State T U) (commands : List (Command T U))
      (replies : List (Reply T U)) (events : List (Event T U))
      → Inv past m s → RunFrom environment defaults m s past.handles commands replies events m' s'
      → (past' : PastCommands T U) × (past'.commands ≡ past.commands ++ commands)
      × (past'.replies ≡ past.replies ++ replies) × (past'.events ≡ past.events ++ events) × Inv past' m' s'
  run_induction keep past m m' s s' [] [] [] v h = (
    past,
    sym (append-nil past.commands),
    sym (append-nil past.replies),
    sym (append-nil past.events),
    subst (λ (n : Messages T U). Inv past n s') (sym (h.1).0) (subst (Inv past m) (sym (h.1).1) v),
  )
  run_induction keep past m m' s s' (command ∷ commands) (reply ∷ replies) (event ∷ events) v h =
      let o : Outcome T U = (h.1).4 in
      let k : (past' : PastCommands T U) × (past'.commands ≡ (past_with past command o).commands ++ commands)
      × (past'.replies ≡ (past_with past command o).replies ++ replies)
      × (past'.events ≡ (past_with past command o).events ++ events) × Inv past' m' s' =
      run_induction keep (past_with past command o) (messages_after o.event m) m' o.state s' commands replies events
      (keep past m s (h.1).0 (h.1).1 command o (h.1).2 (h.1).3 v (h.1).5) (h.0, (h.1).8) in (
        k.0,
        k.1 ∙ append_assoc past.commands (command ∷ []) commands,
        k.2 ∙ append_assoc past.replies (o.reply ∷ []) replies ∙ ap (λ r. past.replies ++ r ∷ replies) (h.1).6,
        k.3 ∙ append_assoc past.events (o.event ∷ []) events ∙ ap (λ e. past.events ++ e ∷ events) (h.1).7,
        k.4,
      )
  run_induction keep past m m' s s' _ _ _ v h = absurd h.1
