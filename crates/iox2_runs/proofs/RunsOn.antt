-- A run goes on by one command.
use Rattle.std.proofs.Common.{◌≡◌, ℕ, List, [], ◌∷◌, ◌++◌, refl, sym, subst}
use Rattle.iox2_machine.specs.machine.Numbers.{IsOnce}
use Rattle.iox2_machine.specs.machine.Records.{Environment}
use Rattle.iox2_machine.specs.machine.State.{State, Messages}
use Rattle.iox2_machine.specs.machine.WellFormed.{IsWellFormed}
use Rattle.iox2_commands.specs.Outcomes.{Handle, Event, Outcome, messages_after}
use Rattle.iox2_commands.specs.Step.{Step}
use Rattle.iox2_commands.specs.Runs.{Defaults, RunTo, received}
use Rattle.iox2_commands.specs.declared.command.Command.{Command}
use Rattle.iox2_commands.specs.declared.reply.Reply.{Reply}
use Rattle.iox2_commands.proofs.Order.{receives_in_order}

module _ {T U : Type 0} (environment : Environment) (defaults : Defaults T U) where
  -- one command more
  pub run_more : (m m' : Messages T U) (s s' : State T U) (handles handles' : List Handle)
      (commands : List (Command T U)) (replies : List (Reply T U)) (events : List (Event T U))
      → RunTo environment defaults m s handles commands replies events m' s' handles'
      → (default_value : T) (default_header : U) → defaults.IsDefaultValue default_value
      → defaults.IsDefaultHeader default_header
      → (command : Command T U) (reply : Reply T U) (o : Outcome T U)
      → Step environment default_value default_header m' s' handles' command o → o.reply ≡ reply
      → RunTo environment defaults m s handles (commands ++ command ∷ []) (replies ++ reply ∷ [])
      (events ++ o.event ∷ []) (messages_after o.event m') o.state (handles' ++ o.handle ∷ [])
  run_more m m' s s' handles handles' [] [] [] h default_value default_header is_value is_header command reply o step
      same =
      subst (λ (hs : List Handle). RunTo environment defaults m s handles (command ∷ []) (reply ∷ []) (o.event ∷ [])
      (messages_after o.event m') o.state (hs ++ o.handle ∷ [])) (sym h.2)
      (subst (λ (n : Messages T U). RunTo environment defaults m s handles (command ∷ []) (reply ∷ []) (o.event ∷ [])
      (messages_after o.event n) o.state (handles ++ o.handle ∷ [])) (sym h.0) (
        default_value,
        default_header,
        is_value,
        is_header,
        o,
        subst (λ (n : Messages T U). Step environment default_value default_header n s handles command o) h.0
            (subst (λ (t : State T U). Step environment default_value default_header m' t handles command o) h.1
            (subst (λ (hs : List Handle). Step environment default_value default_header m' s' hs command o) h.2 step)),
        same,
        refl,
        (refl, refl, refl),
      ))
  run_more m m' s s' handles handles' (first ∷ commands) (r ∷ replies)
      (e ∷ events) h default_value default_header is_value is_header command reply o step same = (
        h.0,
        h.1,
        h.2,
        h.3,
        h.4,
        h.5,
        h.6,
        h.7,
        run_more (messages_after (h.4).event m) m' (h.4).state s'
            (handles ++ (h.4).handle ∷ []) handles' commands replies events h.8
            default_value default_header is_value is_header command reply o step same,
      )
  run_more m m' s s' handles handles' [] []
      (e ∷ events) h default_value default_header is_value is_header command reply o step same = absurd h
  run_more m m' s s' handles handles' []
      (r ∷ replies) events h default_value default_header is_value is_header command reply o step same = absurd h
  run_more m m' s s' handles handles' (first ∷ commands) [] events h default_value default_header is_value is_header
      command reply o step same = absurd h
  run_more m m' s s' handles handles' (first ∷ commands)
      (r ∷ replies) [] h default_value default_header is_value is_header command reply o step same = absurd h

  -- no subscriber has received a message twice
  pub received_once : (m m' : Messages T U) (s s' : State T U) (handles' : List Handle) (commands : List (Command T U))
      (replies : List (Reply T U)) (events : List (Event T U))
      → IsWellFormed s → RunTo environment defaults m s [] commands replies events m' s' handles' → (p q : ℕ)
      → IsOnce (received p q events)
  received_once m m' s s' handles' commands replies events well h p q =
      (receives_in_order environment defaults m m' s s' commands replies events well (handles', h) p q).2
