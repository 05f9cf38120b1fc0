-- Every state that a run reaches is well-formed, and its publishers have slots enough.
use Rattle.std.proofs.Common.{◌≡◌, ℕ, ◌≤◌, ◌<◌, Bool, true, false, List, [], ◌∷◌, ◌++◌, length, refl, sym, ap, subst}
use Rattle.std.proofs.Common.{◌∙◌, Option, None, Some}
use Rattle.std.specs.Prelude.{MatchOption}
use Rattle.std.proofs.lemmas.Bool.{true≢false}
use Rattle.iox2_machine.specs.machine.Limits.{worst_case, last_number}
use Rattle.iox2_machine.specs.machine.Records.{Loan, Publisher, Environment}
use Rattle.iox2_machine.specs.machine.State.{State, Messages, fresh, no_messages, with_loan}
use Rattle.iox2_machine.specs.machine.Loans.{GrantLoan, loan_granted, is_static, written}
use Rattle.iox2_machine.specs.machine.SingleCalls.{GrantWrittenLoan}
use Rattle.iox2_machine.specs.machine.WellFormed.{IsWellFormed, HoldsAtMostWorstCase}
use Rattle.iox2_machine.specs.declared.service_config.ServiceConfig.{ServiceConfig}
use Rattle.iox2_machine.specs.declared.service_config.TypeVariant.TheVariants.{FixedSize, Dynamic}
use Rattle.iox2_machine.specs.declared.errors.LoanError.{LoanError}
use Rattle.iox2_laws.specs.Laws.{Advances}
use Rattle.iox2_laws.proofs.Puts.{put_at-same}
use Rattle.iox2_laws.proofs.Enough.{fresh_is_well_formed, holds_at_most_worst_case}
use Rattle.iox2_laws.proofs.EnoughSlots.{worst_case_of_slots_grants}
use Rattle.iox2_commands.specs.Outcomes.{Handle, Event, Outcome, messages_after, skipped}
use Rattle.iox2_commands.specs.Step.{Step, unblocked_at, if_single_units, if_fixed_size, if_dynamic, after_loan}
use Rattle.iox2_commands.specs.RunLaws.{IsLoaned}
use Rattle.iox2_commands.specs.Runs.{Run, RunFrom, Defaults}
use Rattle.iox2_commands.specs.declared.command.Command.{Command}
use Rattle.iox2_commands.specs.declared.command.Command.TheVariants.{LoanUninit, Loan as LoanDefault, LoanSlice}
use Rattle.iox2_commands.specs.declared.reply.Reply.{Reply}
use Rattle.iox2_commands.specs.declared.reply.Reply.TheVariants.{Loaned}
use Rattle.iox2_commands.proofs.Named.{unblocked_is}
use Rattle.iox2_commands.proofs.StepLaws.{IsSound, step_sound, stays, advances_trans}

module _ {T U : Type 0} where
  -- A run from a well-formed state ends in one, and no counter falls.
  pub run_sound : (environment : Environment) (defaults : Defaults T U) (m : Messages T U) (s : State T U)
      (handles : List Handle)
      (commands : List (Command T U)) (replies : List (Reply T U)) (events : List (Event T U)) (m' : Messages T U)
      (s' : State T U)
      → IsWellFormed s → RunFrom environment defaults m s handles commands replies events m' s'
      → IsWellFormed s' × Advances s s'
  run_sound environment defaults m s handles [] [] [] m' s' w h =
      (subst IsWellFormed (sym (h.1).1) w, subst (Advances s) (sym (h.1).1) (stays s))
  run_sound environment defaults m s handles (command ∷ commands) (reply ∷ replies) (event ∷ events) m' s' w h =
      let sound : IsSound s (h.1).4 = step_sound environment (h.1).0 (h.1).1 m s handles w command (h.1).4 (h.1).5 in
      let rest : IsWellFormed s' × Advances ((h.1).4).state s' =
      run_sound environment defaults (messages_after ((h.1).4).event m) ((h.1).4).state
      (handles ++ ((h.1).4).handle ∷ []) commands replies events m' s' sound.well_formed (h.0, (h.1).8) in
      (rest.0, advances_trans s ((h.1).4).state s' sound.advances rest.1)
  run_sound environment defaults m s handles _ _ _ m' s' w h = absurd h.1

  -- In every state that is reached from a new domain, no publisher holds more than the worst case.
  pub reached_states_hold_at_most_worst_case : (environment : Environment) (defaults : Defaults T U) (c : ServiceConfig)
      (m' : Messages T U) (s' : State T U) (commands : List (Command T U)) (replies : List (Reply T U))
      (events : List (Event T U))
      → Run environment defaults no_messages (fresh c) commands replies events m' s'
      → (s'.config ≡ c) × IsWellFormed s' × HoldsAtMostWorstCase s'
  reached_states_hold_at_most_worst_case environment defaults c m' s' commands replies events h =
      let sound : IsWellFormed s' × Advances (fresh {T = T} {U = U} c) s' =
      run_sound environment defaults no_messages (fresh c) [] commands replies events m' s'
      (fresh_is_well_formed c) h in
      ((sound.1).config, sound.0, holds_at_most_worst_case s' sound.0)

  -- the loan is there to be written
  writes_granted : (default_value : T) (mid : State T U) (n : ℕ) (l : Loan T U) → mid.loans n ≡ Some l
      → (s' : State T U)
      × MatchOption (mid.loans n) ⊥ (λ (l : Loan T U). s' ≡ with_loan mid n (Some (written l default_value)))
  writes_granted default_value mid n l e = (with_loan mid n (Some (written l default_value)), rw e refl)

  module _ (environment : Environment) (default_value : T) (default_header : U) (m : Messages T U) (s : State T U)
      (handles : List Handle) (of p : ℕ) (x : Publisher)
      (w : IsWellFormed s) (named : unblocked_at s handles of ≡ Some (p, x)) (single : (s.config).units_per_element ≡ 1)
      (static : is_static x.allocation_strategy ≡ true) (slots : worst_case s.config x.max_loaned_samples ≤ x.slots)
      (some : length x.loans < x.max_loaned_samples) (below : s.next_message < last_number) where
    -- what a loan of that length comes to
    abbrev Loans : (checks_length : Bool) → (len : ℕ) → (p : ℕ) → Outcome T U → Type 0
    Loans checks_length len p o =
        (s' : State T U) × (refusal : Option LoanError) × GrantLoan environment default_header checks_length len s p s'
        refusal × (o ≡ after_loan s' s.next_message refusal)

    -- and a loan with one default value
    abbrev LoansDefault : (p : ℕ) → Outcome T U → Type 0
    LoansDefault p o =
        (s' : State T U) × (refusal : Option LoanError)
        × GrantWrittenLoan environment default_value default_header false 1 s p s' refusal
        × (o ≡ after_loan s' s.next_message refusal)

    -- the publisher grants a loan of that length, and refuses none
    grants : (checks_length : Bool) (len : ℕ) → (checks_length ≡ true → len ≤ x.initial_max_slice_len)
        → GrantLoan environment default_header checks_length len s p
        (loan_granted default_header s p x len x.segments) None
        × ((s' : State T U) (refusal : Option LoanError)
        → GrantLoan environment default_header checks_length len s p s' refusal → refusal ≡ None)
    grants checks_length len fits =
        worst_case_of_slots_grants environment default_header s p x checks_length len w
        (unblocked_is s handles of (p, x) named).0 static slots some below fits

    -- an outcome without a refusal replies that the loan is out
    replies_loaned : (s' : State T U) (refusal : Option LoanError) (o : Outcome T U) → refusal ≡ None
        → o ≡ after_loan s' s.next_message refusal → o.reply ≡ Loaned
    replies_loaned s' refusal o none e =
        ap (λ (o : Outcome T U). o.reply) (e ∙ ap (λ (r : Option LoanError). after_loan s' s.next_message r) none)

    loaned : (checks_length : Bool) (len : ℕ) → (checks_length ≡ true → len ≤ x.initial_max_slice_len)
        → IsLoaned (Loans checks_length len p)
    loaned checks_length len fits =
        let granted : State T U = loan_granted default_header s p x len x.segments in (
          (after_loan granted s.next_message None, (granted, None, (grants checks_length len fits).0, refl)),
          λ o h. replies_loaned h.0 h.1 o ((grants checks_length len fits).1 h.0 h.1 h.2) h.3,
        )

    loaned_default : IsLoaned (LoansDefault p)
    loaned_default =
        let unchecked : false ≡ true → 1 ≤ x.initial_max_slice_len = λ e. absurd (true≢false (sym e)) in
        let granted : State T U = loan_granted default_header s p x 1 x.segments in
        let writes : (s' : State T U) × MatchOption (granted.loans s.next_message) ⊥
        (λ (l : Loan T U). s' ≡ with_loan granted s.next_message (Some (written l default_value))) =
        writes_granted default_value granted s.next_message _ (put_at-same s.loans s.next_message _) in (
          (
            after_loan writes.0 s.next_message None,
            (writes.0, None, (granted, (grants false 1 unchecked).0, writes.1), refl),
          ),
          λ o h. replies_loaned h.0 h.1 o ((grants false 1 unchecked).1 (h.2).0 h.1 (h.2).1) h.3,
        )

    -- the publisher is one of a service with elements of one unit
    in_single : (live : Option (ℕ × Publisher)) → live ≡ Some (p, x) → if_single_units s live ≡ Some (p, x)
    in_single live e = rw single e

    uninit_loaned : (s.config).variant ≡ FixedSize
        → IsLoaned (Step environment default_value default_header m s handles (LoanUninit of))
    uninit_loaned variant =
        let live : if_single_units s (if_fixed_size s (unblocked_at s handles of)) ≡ Some (p, x) =
        in_single (if_fixed_size s (unblocked_at s handles of)) (rw variant named) in
        subst (λ (v : Option (ℕ × Publisher)). IsLoaned (λ (o : Outcome T U).
        MatchOption v (o ≡ skipped s) (λ (publisher : ℕ × Publisher). Loans false 1 publisher.0 o)))
        (sym live) (loaned false 1 (λ e. absurd (true≢false (sym e))))

    default_loaned : (s.config).variant ≡ FixedSize
        → IsLoaned (Step environment default_value default_header m s handles (LoanDefault of))
    default_loaned variant =
        let live : if_single_units s (if_fixed_size s (unblocked_at s handles of)) ≡ Some (p, x) =
        in_single (if_fixed_size s (unblocked_at s handles of)) (rw variant named) in
        subst (λ (v : Option (ℕ × Publisher)). IsLoaned (λ (o : Outcome T U).
        MatchOption v (o ≡ skipped s) (λ (publisher : ℕ × Publisher). LoansDefault publisher.0 o)))
        (sym live) loaned_default

    slice_loaned : (len : ℕ) → (s.config).variant ≡ Dynamic → len ≤ x.initial_max_slice_len
        → IsLoaned (Step environment default_value default_header m s handles (LoanSlice of len))
    slice_loaned len variant fits =
        let live : if_single_units s (if_dynamic s (unblocked_at s handles of)) ≡ Some (p, x) =
        in_single (if_dynamic s (unblocked_at s handles of)) (rw variant named) in
        subst (λ (v : Option (ℕ × Publisher)). IsLoaned (λ (o : Outcome T U).
        MatchOption v (o ≡ skipped s) (λ (publisher : ℕ × Publisher). Loans true len publisher.0 o)))
        (sym live) (loaned true len (λ _. fits))

    -- Each loan command of permitted length is granted.
    pub loans_are_granted :
        ((s.config).variant ≡ FixedSize
        → IsLoaned (Step environment default_value default_header m s handles (LoanUninit of)))
        × ((s.config).variant ≡ FixedSize
        → IsLoaned (Step environment default_value default_header m s handles (LoanDefault of)))
        × ((len : ℕ) → (s.config).variant ≡ Dynamic → len ≤ x.initial_max_slice_len
        → IsLoaned (Step environment default_value default_header m s handles (LoanSlice of len)))
    loans_are_granted = (uninit_loaned, default_loaned, slice_loaned)
