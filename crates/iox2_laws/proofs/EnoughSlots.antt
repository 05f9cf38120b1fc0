-- A static publisher with the worst case of slots grants each loan of permitted length.
use Rattle.std.proofs.Common.{◌≡◌, ℕ, ◌≤◌, ◌<◌, ◌+◌, ◌*◌, Bool, true, false, length, refl, sym, ◌∙◌, arith, Option}
use Rattle.std.proofs.Common.{None, Some, ◌⊎◌, inl, inr}
use Rattle.std.specs.Prelude.{nat_lt, nat_le, cond, max, ◌==◌, ◌&&◌, MatchOption}
use Rattle.std.specs.Bool.{MatchBool}
use Rattle.std.proofs.lemmas.Bool.{true≢false, ne_eqb, le-ltb, lt-leb}
use Rattle.std.proofs.lemmas.Option.{none-some}
use Rattle.iox2_machine.specs.machine.Limits.{buffer_limit, channel_count, worst_case, last_number}
use Rattle.iox2_machine.specs.machine.Numbers.{size}
use Rattle.iox2_machine.specs.machine.Records.{Publisher, Environment}
use Rattle.iox2_machine.specs.machine.State.{State, held}
use Rattle.iox2_machine.specs.machine.Loans.{GrantLoan, loan_granted, StaticLoan, DynamicLoan, IsGuaranteed}
use Rattle.iox2_machine.specs.machine.Loans.{NoSegmentFits, limit_error, is_static}
use Rattle.iox2_machine.specs.machine.WellFormed.{IsWellFormed}
use Rattle.iox2_machine.specs.declared.errors.LoanError.{LoanError}
use Rattle.iox2_machine.specs.declared.errors.LoanError.TheVariants.{OutOfMemory, ExceedsMaxLoans, ExceedsMaxLoanSize}
use Rattle.iox2_machine.specs.declared.errors.LoanError.TheVariants.{InternalFailure}
use Rattle.iox2_laws.proofs.Cases.{by_option, by_bool}
use Rattle.iox2_laws.proofs.Enough.{holds_at_most_worst_case}

-- no number is below itself
at_end : (n last : ℕ) → n ≡ last → n < last → ⊥
at_end n last e h = omega arith

-- fewer loans need fewer slots
fewer : (held others loans most slots : ℕ) → held ≤ others + loans → others + most ≤ slots → loans < most → held < slots
fewer held others loans most slots h enough some = omega arith

-- a length that the first segment has is one that the publisher is known to have
known : (initial longest len : ℕ) → len ≤ initial → len ≤ max initial longest
known initial longest len low = omega arith

-- no limit stands in the way of a loan of permitted length while fewer are out than may be
no_limit : (checks_length : Bool) (x : Publisher) (len : ℕ) → length x.loans < x.max_loaned_samples
    → (checks_length ≡ true → len ≤ x.initial_max_slice_len) → limit_error checks_length x len ≡ None
no_limit checks_length x len some fits =
    at checks_length (is_static x.allocation_strategy) (λ c. le-ltb x.initial_max_slice_len len (fits c))
    ∙ rw (lt-leb x.max_loaned_samples (length x.loans) some) refl
  where
    after : Option LoanError
    after = cond (nat_le x.max_loaned_samples (length x.loans)) (Some ExceedsMaxLoans) None

    at : (checks static : Bool) → (checks ≡ true → nat_lt x.initial_max_slice_len len ≡ false)
        → cond (checks && static && nat_lt x.initial_max_slice_len len) (Some ExceedsMaxLoanSize) after ≡ after
    at true true short = rw (short refl) refl
    at true false short = refl
    at false static short = refl

module _ {T U : Type 0} where
  module _ (environment : Environment) (default_header : U) (checks_length : Bool) (len : ℕ) (s : State T U) (p : ℕ)
      (x : Publisher)
      (few : size (held s p x) < x.slots) (present : s.publishers p ≡ Some x)
      (static : is_static x.allocation_strategy ≡ true)
      (some : length x.loans < x.max_loaned_samples) (below : s.next_message < last_number)
      (fits : checks_length ≡ true → len ≤ x.initial_max_slice_len) where
    -- the static publisher has a free slot
    has_space : (size (held s p x) == x.slots) ≡ false
    has_space = ne_eqb (size (held s p x)) x.slots (λ same. absurd (omega arith))

    -- the counter gives out a number
    has_number : (s.next_message == last_number) ≡ false
    has_number = ne_eqb s.next_message last_number (λ same. at_end s.next_message last_number same below)

    -- A static publisher that holds fewer messages and loans than it has slots grants a loan within its limits.
    static_loan_granted : GrantLoan environment default_header checks_length len s p
        (loan_granted default_header s p x len x.segments) None
    static_loan_granted =
        rw present (rw (no_limit checks_length x len some fits) (rw static (rw has_space (rw has_number (refl, refl)))))

    -- It refuses none.
    static_loan_unrefused : (s' : State T U) (refusal : Option LoanError)
        → GrantLoan environment default_header checks_length len s p s' refusal → refusal ≡ None
    static_loan_unrefused s' refusal h =
        let k : MatchOption (limit_error checks_length x len)
        (MatchBool (is_static x.allocation_strategy) (StaticLoan default_header s p x len s' refusal)
        (DynamicLoan environment default_header s p x len s' refusal))
        (λ limit. (s' ≡ s) × (refusal ≡ Some limit)) = rw present at h in
        by_option (refusal ≡ None) (limit_error checks_length x len) _ _ k
        (λ _ j. by_bool (refusal ≡ None) (is_static x.allocation_strategy) _ _ j
        (λ _ i. by_bool (refusal ≡ None) (size (held s p x) == x.slots) _ _ i
        (λ full _. absurd (true≢false (sym full ∙ has_space)))
        (λ _ g. by_bool (refusal ≡ None) (s.next_message == last_number) _ _ g
        (λ last _. absurd (true≢false (sym last ∙ has_number)))
        (λ _ f. f.1)))
        (λ dynamic _. absurd (true≢false (sym static ∙ dynamic))))
        (λ limit e _. absurd (none-some limit (sym (no_limit checks_length x len some fits) ∙ e)))

  module _ (environment : Environment) (default_header : U) (checks_length : Bool) (len : ℕ) (s : State T U) (p : ℕ)
      (x : Publisher)
      (few : size (held s p x) < x.slots) (present : s.publishers p ≡ Some x)
      (some : length x.loans < x.max_loaned_samples) (below : s.next_message < last_number)
      (fits : checks_length ≡ true → len ≤ x.initial_max_slice_len)
      (short : is_static x.allocation_strategy ≡ false → len ≤ x.initial_max_slice_len) where
    -- A publisher that grows refuses none that its first segment is long enough for.
    dynamic_loan_unrefused : len ≤ x.initial_max_slice_len → (s' : State T U) (refusal : Option LoanError)
        → DynamicLoan environment default_header s p x len s' refusal → refusal ≡ None
    dynamic_loan_unrefused low s' None h = refl
    dynamic_loan_unrefused low s' (Some OutOfMemory) h =
        absurd (at_end s.next_message last_number (h.2 guaranteed) below) where
          guaranteed : IsGuaranteed s p x len
          guaranteed = (few, known x.initial_max_slice_len x.longest_granted len low)
    dynamic_loan_unrefused low s' (Some InternalFailure) h = at h.1 where
      guaranteed : IsGuaranteed s p x len
      guaranteed = (few, known x.initial_max_slice_len x.longest_granted len low)

      at : (s.next_message ≡ last_number) ⊎ ((environment.may_refuse_memory ⊎ NoSegmentFits s.config x len)
          × ¬ (IsGuaranteed s p x len)) → Some InternalFailure ≡ None
      at (inl last) = absurd (at_end s.next_message last_number last below)
      at (inr grows) = absurd (grows.1 guaranteed)
    dynamic_loan_unrefused low s' (Some ExceedsMaxLoans) h = absurd h
    dynamic_loan_unrefused low s' (Some ExceedsMaxLoanSize) h = absurd h

    -- So no publisher with a free slot refuses a loan within its limits.
    loan_unrefused : (s' : State T U) (refusal : Option LoanError)
        → GrantLoan environment default_header checks_length len s p s' refusal → refusal ≡ None
    loan_unrefused s' refusal h = kind (is_static x.allocation_strategy) refl where
      kind : (b : Bool) → is_static x.allocation_strategy ≡ b → refusal ≡ None
      kind true static = static_loan_unrefused environment default_header checks_length len s p x few present static
          some below fits s' refusal h
      kind false dynamic =
          let k : MatchOption (limit_error checks_length x len)
          (MatchBool (is_static x.allocation_strategy) (StaticLoan default_header s p x len s' refusal)
          (DynamicLoan environment default_header s p x len s' refusal))
          (λ limit. (s' ≡ s) × (refusal ≡ Some limit)) = rw present at h in
          by_option (refusal ≡ None) (limit_error checks_length x len) _ _ k
          (λ _ j. by_bool (refusal ≡ None) (is_static x.allocation_strategy) _ _ j
          (λ static _. absurd (true≢false (sym static ∙ dynamic)))
          (λ _ i. dynamic_loan_unrefused (short dynamic) s' refusal i))
          (λ limit e _. absurd (none-some limit (sym (no_limit checks_length x len some fits) ∙ e)))

  -- A publisher with the worst case of slots refuses no loan of permitted length while fewer are out than may be. One
  -- that grows refuses none that its first segment is long enough for.
  pub worst_case_of_slots_refuses_none : (environment : Environment) (default_header : U) (s : State T U) (p : ℕ)
      (x : Publisher) (checks_length : Bool) (len : ℕ)
      → IsWellFormed s → s.publishers p ≡ Some x → worst_case s.config x.max_loaned_samples ≤ x.slots
      → length x.loans < x.max_loaned_samples → s.next_message < last_number
      → (checks_length ≡ true → len ≤ x.initial_max_slice_len)
      → (is_static x.allocation_strategy ≡ false → len ≤ x.initial_max_slice_len)
      → (s' : State T U) (refusal : Option LoanError)
      → GrantLoan environment default_header checks_length len s p s' refusal → refusal ≡ None
  worst_case_of_slots_refuses_none environment default_header s p x checks_length len w present slots some below fits
      short =
      let few : size (held s p x) < x.slots =
      fewer (size (held s p x)) ((s.config).max_subscribers * channel_count s.config
      * (buffer_limit s.config + (s.config).subscriber_max_borrowed_samples) + (s.config).history_size)
      (length x.loans) x.max_loaned_samples x.slots (holds_at_most_worst_case s w p x present) slots some in
      loan_unrefused environment default_header checks_length len s p x few present some below fits short

  -- A static publisher with the worst case of slots grants a loan of permitted length while fewer are out than may be.
  pub worst_case_of_slots_grants : (environment : Environment) (default_header : U) (s : State T U) (p : ℕ)
      (x : Publisher) (checks_length : Bool) (len : ℕ)
      → IsWellFormed s → s.publishers p ≡ Some x → is_static x.allocation_strategy ≡ true
      → worst_case s.config x.max_loaned_samples ≤ x.slots
      → length x.loans < x.max_loaned_samples → s.next_message < last_number
      → (checks_length ≡ true → len ≤ x.initial_max_slice_len)
      → GrantLoan environment default_header checks_length len s p
      (loan_granted default_header s p x len x.segments) None
      × ((s' : State T U) (refusal : Option LoanError)
      → GrantLoan environment default_header checks_length len s p s' refusal → refusal ≡ None)
  worst_case_of_slots_grants environment default_header s p x checks_length len w present static slots some below fits =
      let few : size (held s p x) < x.slots =
      fewer (size (held s p x)) ((s.config).max_subscribers * channel_count s.config
      * (buffer_limit s.config + (s.config).subscriber_max_borrowed_samples) + (s.config).history_size)
      (length x.loans) x.max_loaned_samples x.slots (holds_at_most_worst_case s w p x present) slots some in (
        static_loan_granted environment default_header checks_length len s p x few present static some below fits,
        static_loan_unrefused environment default_header checks_length len s p x few present static some below fits,
      )
