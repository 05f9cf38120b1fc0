-- Each run has a point between each two of its commands, and there it grants the loans that it has to.
use Rattle.std.proofs.Common.{◌≡◌, ℕ, zero, suc, ◌+◌, ◌<◌, List, [], ◌∷◌, ◌++◌, take, drop, refl, sym, ap, subst, ◌∙◌}
use Rattle.std.proofs.Common.{Some, arith}
use Rattle.std.specs.Prelude.{slice_get}
use Rattle.std.proofs.lemmas.Option.{none-some, same_Some}
use Rattle.iox2_machine.specs.machine.Records.{Environment, Publisher}
use Rattle.iox2_machine.specs.machine.State.{State, Messages}
use Rattle.iox2_machine.specs.machine.WellFormed.{IsWellFormed}
use Rattle.iox2_commands.specs.Outcomes.{Handle, Event, Outcome, messages_after}
use Rattle.iox2_commands.specs.Step.{Step, unblocked_at}
use Rattle.iox2_commands.specs.Points.{PointOf, GrantsLoans, HasLoanToGive, AsksPermittedLoan}
use Rattle.iox2_commands.specs.Runs.{Defaults, RunFrom, RunTo}
use Rattle.iox2_commands.specs.declared.command.Command.{Command}
use Rattle.iox2_commands.specs.declared.command.Command.TheVariants.{LoanUninit, LoanSlice}
use Rattle.iox2_commands.specs.declared.reply.Reply.{Reply}
use Rattle.iox2_commands.specs.declared.reply.Reply.TheVariants.{Loaned}
use Rattle.iox2_commands.proofs.EnoughRuns.{run_sound, loans_are_granted}

-- ---- the first elements of a list, and the others

-- past the first n stands what stands there in the whole list
get_dropped : {A : Type 0} (xs : List A) (n : ℕ) → slice_get (drop n xs) 0 ≡ slice_get xs n
get_dropped xs zero = refl
get_dropped [] (suc n) = refl
get_dropped (x ∷ xs) (suc n) = get_dropped xs n

-- and i further on what stands i behind that
pub found_dropped : {A : Type 0} (xs : List A) (n i : ℕ) → slice_get (drop n xs) i ≡ slice_get xs (n + i)
found_dropped xs zero i = let none : 0 + i ≡ i = omega arith in rw none refl
found_dropped [] (suc n) i = refl
found_dropped (x ∷ xs) (suc n) i = let further : suc n + i ≡ suc (n + i) = omega arith in
    rw further (found_dropped xs n i)

-- what is found in the first n stands below n in the whole list
pub found_taken : {A : Type 0} (xs : List A) (n i : ℕ) (a : A) → slice_get (take n xs) i ≡ Some a
    → (i < n) × (slice_get xs i ≡ Some a)
found_taken xs zero i a e = absurd (none-some a e)
found_taken [] (suc n) i a e = absurd (none-some a e)
found_taken (x ∷ xs) (suc n) zero a e = (omega arith, e)
found_taken (x ∷ xs) (suc n) (suc i) a e =
    let later : (i < n) × (slice_get xs i ≡ Some a) = found_taken xs n i a e in
    let low : i < n = later.0 in
    (omega arith, later.1)

-- the first n are the same there
pub get_taken : {A : Type 0} (xs : List A) (n i : ℕ) → i < n → slice_get (take n xs) i ≡ slice_get xs i
get_taken xs zero i h = absurd (omega arith)
get_taken [] (suc n) i h = refl
get_taken (x ∷ xs) (suc n) zero h = refl
get_taken (x ∷ xs) (suc n) (suc i) h = get_taken xs n i (omega arith)

-- ---- points

module _ {T U : Type 0} (environment : Environment) (defaults : Defaults T U) where
  -- what a run has come to after its first n commands
  abbrev pub Midway : (n : ℕ) → Messages T U → State T U → List Handle → List (Command T U) → List (Reply T U)
      → List (Event T U) → Messages T U → State T U → Type 0
  Midway n m s handles commands replies events m' s' =
      (mid : Messages T U) × (at : State T U) × (there : List Handle)
      × RunTo environment defaults m s handles (take n commands) (take n replies) (take n events) mid at there
      × RunFrom environment defaults mid at there (drop n commands) (drop n replies) (drop n events) m' s'

  midway : (n : ℕ) (m : Messages T U) (s : State T U) (handles : List Handle) (commands : List (Command T U))
      (replies : List (Reply T U)) (events : List (Event T U)) (m' : Messages T U) (s' : State T U)
      → RunFrom environment defaults m s handles commands replies events m' s'
      → Midway n m s handles commands replies events m' s'
  midway zero m s handles commands replies events m' s' h = (m, s, handles, (refl, refl, refl), h)
  midway (suc n) m s handles [] [] [] m' s' h = (m, s, handles, (refl, refl, refl), h)
  midway (suc n) m s handles (command ∷ commands) (reply ∷ replies) (event ∷ events) m' s' h =
      let rest : Midway n (messages_after ((h.1).4).event m) ((h.1).4).state
      (handles ++ ((h.1).4).handle ∷ []) commands replies events m' s' =
      midway n (messages_after ((h.1).4).event m) ((h.1).4).state
      (handles ++ ((h.1).4).handle ∷ []) commands replies events m' s' (h.0, (h.1).8) in
      (rest.0, rest.1, rest.2, ((h.1).0, (h.1).1, (h.1).2, (h.1).3, (h.1).4, (h.1).5, (h.1).6, (h.1).7, rest.3), rest.4)
  midway (suc n) m s handles _ _ _ m' s' h = absurd h.1

  -- the reply to the first command
  first_granted : (m : Messages T U) (s : State T U) (handles : List Handle) (commands : List (Command T U))
      (replies : List (Reply T U)) (events : List (Event T U)) (m' : Messages T U) (s' : State T U)
      → RunFrom environment defaults m s handles commands replies events m' s' → (command : Command T U)
      → slice_get commands 0 ≡ Some command
      → ((default_value : T) (default_header : U) (o : Outcome T U)
      → Step environment default_value default_header m s handles command o → o.reply ≡ Loaned)
      → slice_get replies 0 ≡ Some Loaned
  first_granted m s handles [] [] [] m' s' h command e grants = absurd (none-some command e)
  first_granted m s handles (first ∷ commands) (reply ∷ replies) (event ∷ events) m' s' h command e grants =
      ap Some (sym (h.1).6 ∙ grants (h.1).0 (h.1).1 (h.1).4
      (subst (λ (v : Command T U). Step environment (h.1).0 (h.1).1 m s handles v (h.1).4) (same_Some first command e)
      (h.1).5))
  first_granted m s handles _ _ _ m' s' h command e grants = absurd h.1

  module _ (m : Messages T U) (s : State T U) (commands : List (Command T U)) (replies : List (Reply T U))
      (events : List (Event T U)) (m' : Messages T U) (s' : State T U)
      (run : RunFrom environment defaults m s [] commands replies events m' s') where
    -- A run has a point after each number of commands.
    pub point_of : (n : ℕ) → PointOf environment defaults m s commands replies events m' s' n
    point_of n =
        let here : Midway n m s [] commands replies events m' s' = midway n m s [] commands replies events m' s' run in
        record { messages = here.0; state = here.1; handles = here.2; before = here.3; after = here.4 }

    -- each outcome of such a command is that the loan is out
    grants_here : IsWellFormed s
        → (n of p : ℕ) (x : Publisher) (point : PointOf environment defaults m s commands replies events m' s' n)
        → unblocked_at point.state point.handles of ≡ Some (p, x) → HasLoanToGive point.state x
        → (command : Command T U) → AsksPermittedLoan (point.state).config x of command
        → (default_value : T) (default_header : U) (o : Outcome T U)
        → Step environment default_value default_header point.messages point.state point.handles command o
        → o.reply ≡ Loaned
    grants_here w n of p x point named gives command asks default_value default_header o step =
        at command asks step where
          well : IsWellFormed point.state
          well =
              let there : RunFrom environment defaults m s [] (take n commands) (take n replies)
              (take n events) point.messages point.state =
              (point.handles, point.before) in
              (run_sound environment defaults m s [] (take n commands) (take n replies)
              (take n events) point.messages point.state w there).0

          at : (command : Command T U) → AsksPermittedLoan (point.state).config x of command
              → Step environment default_value default_header point.messages point.state point.handles command o
              → o.reply ≡ Loaned
          at (LoanUninit other) asks step =
              ((loans_are_granted environment default_value default_header point.messages point.state point.handles of p
              x
              well named gives.units gives.static gives.slots gives.few gives.more).0 asks.1).1 o
              (subst (λ (i : ℕ). Step environment default_value default_header point.messages point.state point.handles
              (LoanUninit i) o) asks.0 step)
          at (LoanSlice other len) asks step =
              ((loans_are_granted environment default_value default_header point.messages point.state point.handles of p
              x
              well named gives.units gives.static gives.slots gives.few gives.more).2 len asks.1 asks.2).1 o
              (subst (λ (i : ℕ). Step environment default_value default_header point.messages point.state point.handles
              (LoanSlice i len) o) asks.0 step)
          at _ asks step = absurd asks

    -- A run from a well-formed state grants the loans that it has to.
    pub grants_loans : IsWellFormed s → GrantsLoans environment defaults m s commands replies events m' s'
    grants_loans w = record {
      points = point_of;
      granted = λ n of p x command point e named gives asks.
          sym (get_dropped replies n)
          ∙ first_granted point.messages point.state point.handles (drop n commands) (drop n replies)
          (drop n events) m' s' point.after command (get_dropped commands n ∙ e)
          (grants_here w n of p x point named gives command asks);
    }
