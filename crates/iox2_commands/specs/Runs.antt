-- Whole runs: lists of commands with their replies.
use Rattle.std.specs.Prelude.{ℕ, if◌then◌else◌, ◌&&◌, List, [], ◌∷◌, ◌++◌, ◌≡◌, ◌==◌}
use Rattle.iox2_machine.specs.machine.Records.{Environment}
use Rattle.iox2_machine.specs.machine.State.{State, Messages}
use Rattle.iox2_commands.specs.Outcomes.{Handle, Event, No_event, Message_sent, Message_received, Outcome}
use Rattle.iox2_commands.specs.Outcomes.{messages_after}
use Rattle.iox2_commands.specs.Step.{Step}
use Rattle.iox2_commands.specs.declared.command.Command.{Command}
use Rattle.iox2_commands.specs.declared.reply.Reply.{Reply}

-- What a payload type and a user header type take for a default value.
pub record Defaults (T U : Type 0) : Type 1 where
  pub IsDefaultValue : T → Type 0
  pub IsDefaultHeader : U → Type 0

-- Every value counts as a default value.
abbrev pub any_defaults : {T U : Type 0} → Defaults T U
any_defaults = record { IsDefaultValue = λ value. Unit {0}; IsDefaultHeader = λ header. Unit {0} }

-- These alone are the default values.
abbrev pub only_defaults : {T U : Type 0} → (default_value : T) → (default_header : U) → Defaults T U
only_defaults default_value default_header =
    record { IsDefaultValue = λ value. value ≡ default_value; IsDefaultHeader = λ header. header ≡ default_header }

-- These commands get these replies, one step after another, with these events, and the messages, the state and the
-- handles end so. Each step may use any value that counts as a default.
abbrev pub RunTo : {T U : Type 0} → Environment → Defaults T U → Messages T U → State T U → List Handle
    → List (Command T U) → List (Reply T U)
    → List (Event T U) → Messages T U → State T U → List Handle → Type 0
RunTo environment defaults m s handles [] [] [] m' s' handles' = (m' ≡ m) × (s' ≡ s) × (handles' ≡ handles)
RunTo {T} {U} environment defaults m s handles (command ∷ commands) (reply ∷ replies) (event ∷ events) m' s' handles' =
    (default_value : T) × (default_header : U) × defaults.IsDefaultValue default_value
    × defaults.IsDefaultHeader default_header
    × (o : Outcome T U) × Step environment default_value default_header m s handles command o × (o.reply ≡ reply)
    × (o.event ≡ event)
    × RunTo environment defaults (messages_after o.event m) o.state
    (handles ++ o.handle ∷ []) commands replies events m' s' handles'
RunTo environment defaults m s handles _ _ _ m' s' handles' = ⊥

-- A run that ends with some handles.
abbrev pub RunFrom : {T U : Type 0} → Environment → Defaults T U → Messages T U → State T U → List Handle
    → List (Command T U) → List (Reply T U)
    → List (Event T U) → Messages T U → State T U → Type 0
RunFrom environment defaults m s handles commands replies events m' s' =
    (handles' : List Handle) × RunTo environment defaults m s handles commands replies events m' s' handles'

-- A run begins with no handles: its commands name only what it made itself.
abbrev pub Run : {T U : Type 0} → Environment → Defaults T U → Messages T U → State T U → List (Command T U)
    → List (Reply T U) → List (Event T U) → Messages T U → State T U → Type 0
Run environment defaults m s commands replies events m' s' =
    RunFrom environment defaults m s [] commands replies events m' s'

-- The messages that p sent, in the order of sending.
abbrev pub sent : {T U : Type 0} → (p : ℕ) → List (Event T U) → List ℕ
sent p [] = []
sent p (No_event ∷ events) = sent p events
sent p (Message_sent p' n entry ∷ events) = if p' == p then n ∷ sent p events else sent p events
sent p (Message_received p' q n ∷ events) = sent p events

-- The messages that q received from p, in the order of receipt.
abbrev pub received : {T U : Type 0} → (p q : ℕ) → List (Event T U) → List ℕ
received p q [] = []
received p q (No_event ∷ events) = received p q events
received p q (Message_sent p' n entry ∷ events) = received p q events
received p q (Message_received p' q' n ∷ events) =
    if p' == p && q' == q then n ∷ received p q events else received p q events

-- The first list is the second with some elements left out.
pub data IsSubsequence : List ℕ → List ℕ → Type 0 where
  Empty : IsSubsequence [] []
  Left_out : {n : ℕ} {ns ms : List ℕ} → IsSubsequence ns ms → IsSubsequence ns (n ∷ ms)
  Taken : {n : ℕ} {ns ms : List ℕ} → IsSubsequence ns ms → IsSubsequence (n ∷ ns) (n ∷ ms)
