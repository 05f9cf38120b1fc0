-- A publisher lends a free slot: the machine's state, and what the machine says of a loan.
use Rattle.std.proofs.Common.{◌≡◌, ℕ, ◌+◌, ◌<◌, ◌≤◌, ◌&&◌, nat_lt, [], ◌∷◌, ◌++◌, map, max, length, Bool, true, false}
use Rattle.std.proofs.Common.{cond, leb, get_or, refl, ap, sym, subst, ◌∙◌, arith}
use Rattle.std.proofs.lemmas.Bool.{eq-eqb, ne_eqb, le-leb}
use Rattle.std.proofs.lemmas.List.{map-append}
use Rattle.std.specs.declared.option.Option.{Option}
use Rattle.std.specs.declared.option.Option.TheVariants.{None, Some}
use Rattle.std.specs.Option.{MatchOption, option_map_or}
use Rattle.std.specs.Bool.{MatchBool}
use Rattle.std.specs.Prelude.{slice_index}
use Rattle.slab.specs.Slab.{Slab}
use Rattle.iox2_connections.specs.LookUp.{look_up}
use Rattle.iox2_machine.specs.machine.Limits.{last_number}
use Rattle.iox2_machine.specs.machine.Numbers.{put_at, size}
use Rattle.iox2_machine.specs.machine.Records.{Loan, Publisher, Environment}
use Rattle.iox2_machine.specs.machine.State.{State, held}
use Rattle.iox2_slots.specs.SlotBook.{Book}
use Rattle.iox2_machine.specs.machine.Loans.{is_static, limit_error, StaticLoan, DynamicLoan, GrantLoan, loan_granted}
use Rattle.iox2_machine.specs.declared.errors.LoanError.{LoanError}
use Rattle.iox2_machine.specs.declared.errors.LoanError.TheVariants.{OutOfMemory, ExceedsMaxLoans, ExceedsMaxLoanSize}
use Rattle.iox2_machine.specs.declared.errors.LoanError.TheVariants.{InternalFailure}
use Rattle.iox2_domain.specs.Ports.{PublisherFields}
use Rattle.iox2_domain.specs.Kept.{state_of}
use Rattle.iox2_domain.specs.Fields.{Fields, kept_of, publisher_of, number_in_slot, is_book_of}
use Rattle.iox2_domain.specs.Invariant.{IsDomain, holders_of}
use Rattle.iox2_domain.proofs.lemmas.slots.SlotsInUse.{loan-in_use, history-in_use, holders-are}
use Rattle.iox2_domain.proofs.lemmas.loans.PublisherChanges.{with_publisher, changed-is}
use Rattle.iox2_domain.proofs.lemmas.slots.Renumbered.{map-numbers, blocked-same, with_books-is}
use Rattle.iox2_domain.proofs.lemmas.loans.Taken.{CanTakeSlot, with_taken, taken_books, taken_book, begun_contents}
use Rattle.iox2_domain.proofs.lemmas.loans.Taken.{lent, taken-keeps, taken-found, taken-loans, taken-number_here}
use mathlib.Core.Path.{fun_ext}

-- ---- the machine's cases of a loan

module _ {T U : Type 0} (environment : Environment) (default_header : U) (s : State T U) (p : ℕ) (x : Publisher)
    (here : s.publishers p ≡ Some x) (checks : Bool) (len : ℕ) where
  -- what a loan comes to for this publisher
  abbrev Lends : State T U → Option LoanError → Publisher → Type 0
  Lends s' refusal y =
      MatchOption (limit_error checks y len)
      (MatchBool (is_static y.allocation_strategy) (StaticLoan default_header s p y len s' refusal)
      (DynamicLoan environment default_header s p y len s' refusal))
      (λ limit. (s' ≡ s) × (refusal ≡ Some limit))

  -- the length is one that the publisher doesn't lend
  abbrev pub is_long : Bool
  is_long = checks && is_static x.allocation_strategy && nat_lt x.initial_max_slice_len len

  of_publisher : (s' : State T U) (refusal : Option LoanError) → Lends s' refusal x
      → GrantLoan environment default_header checks len s p s' refusal
  of_publisher s' refusal h = subst (λ (o : Option Publisher). MatchOption o ⊥ (Lends s' refusal)) (sym here) h

  pub lends-long : is_long ≡ true → GrantLoan environment default_header checks len s p s (Some ExceedsMaxLoanSize)
  lends-long long = of_publisher s (Some ExceedsMaxLoanSize) (by is_long long) where
    by : (b : Bool) → b ≡ true
        → MatchOption (cond b (Some ExceedsMaxLoanSize)
        (cond (leb x.max_loaned_samples (length x.loans)) (Some ExceedsMaxLoans) None))
        (MatchBool (is_static x.allocation_strategy) (StaticLoan default_header s p x len s (Some ExceedsMaxLoanSize))
        (DynamicLoan environment default_header s p x len s (Some ExceedsMaxLoanSize)))
        (λ limit. (s ≡ s) × (Some ExceedsMaxLoanSize ≡ Some limit))
    by true e = (refl, refl)
    by false e = absurd cc

  module _ (short : is_long ≡ false) where
    of_short : (s' : State T U) (refusal : Option LoanError)
        → MatchOption (cond (leb x.max_loaned_samples (length x.loans)) (Some ExceedsMaxLoans) None)
        (MatchBool (is_static x.allocation_strategy) (StaticLoan default_header s p x len s' refusal)
        (DynamicLoan environment default_header s p x len s' refusal))
        (λ limit. (s' ≡ s) × (refusal ≡ Some limit))
        → GrantLoan environment default_header checks len s p s' refusal
    of_short s' refusal h = of_publisher s' refusal
        (subst (λ (b : Bool). MatchOption (cond b (Some ExceedsMaxLoanSize)
        (cond (leb x.max_loaned_samples (length x.loans)) (Some ExceedsMaxLoans) None))
        (MatchBool (is_static x.allocation_strategy) (StaticLoan default_header s p x len s' refusal)
        (DynamicLoan environment default_header s p x len s' refusal))
        (λ limit. (s' ≡ s) × (refusal ≡ Some limit))) (sym short) h)

    -- too many loans are out
    pub lends-limited : x.max_loaned_samples ≤ length x.loans
        → GrantLoan environment default_header checks len s p s (Some ExceedsMaxLoans)
    lends-limited many = of_short s (Some ExceedsMaxLoans)
        (rw (le-leb x.max_loaned_samples (length x.loans) many) (refl, refl))

    module _ (few : length x.loans < x.max_loaned_samples) where
      of_memory : (s' : State T U) (refusal : Option LoanError) → (t : Bool) → is_static x.allocation_strategy ≡ t
          → MatchBool t (StaticLoan default_header s p x len s' refusal)
          (DynamicLoan environment default_header s p x len s' refusal)
          → GrantLoan environment default_header checks len s p s' refusal
      of_memory s' refusal t e h = of_short s' refusal
          (subst (λ (b : Bool). MatchOption (cond b (Some ExceedsMaxLoans) None)
          (MatchBool (is_static x.allocation_strategy) (StaticLoan default_header s p x len s' refusal)
          (DynamicLoan environment default_header s p x len s' refusal)) (λ limit. (s' ≡ s) × (refusal ≡ Some limit)))
          (sym below)
          (subst (λ (b : Bool). MatchBool b (StaticLoan default_header s p x len s' refusal)
          (DynamicLoan environment default_header s p x len s' refusal)) (sym e) h))
        where
          below : leb x.max_loaned_samples (length x.loans) ≡ false
          below = grind arith

      -- a publisher whose memory grows lends, or refuses
      pub lends-dynamic : is_static x.allocation_strategy ≡ false → (s' : State T U) (refusal : Option LoanError)
          → DynamicLoan environment default_header s p x len s' refusal
          → GrantLoan environment default_header checks len s p s' refusal
      lends-dynamic grows s' refusal h = of_memory s' refusal false grows h

    module _ (few : length x.loans < x.max_loaned_samples) (static : is_static x.allocation_strategy ≡ true) where
      of_static : (s' : State T U) (refusal : Option LoanError) → StaticLoan default_header s p x len s' refusal
          → GrantLoan environment default_header checks len s p s' refusal
      of_static s' refusal h = of_memory few s' refusal true static h

      -- each slot has a holder
      pub lends-full : size (held s p x) ≡ x.slots
          → GrantLoan environment default_header checks len s p s (Some OutOfMemory)
      lends-full full = of_static s (Some OutOfMemory) (rw (eq-eqb (size (held s p x)) x.slots full) (refl, refl))

      module _ (free : size (held s p x) < x.slots) where
        -- no number is left
        pub lends-failed : s.next_message ≡ last_number
            → GrantLoan environment default_header checks len s p s (Some InternalFailure)
        lends-failed last = of_static s (Some InternalFailure)
            (rw (ne_eqb (size (held s p x)) x.slots (λ e. absurd (omega arith)), eq-eqb s.next_message last_number last)
            (refl, refl))

        -- a slot is lent
        pub lends-granted : s.next_message < last_number
            → GrantLoan environment default_header checks len s p
            (loan_granted default_header s p x len x.segments) None
        lends-granted more = of_static (loan_granted default_header s p x len x.segments) None
            (rw (
              ne_eqb (size (held s p x)) x.slots (λ e. absurd (omega arith)),
              ne_eqb s.next_message last_number (λ e. absurd (omega arith)),
            ) (refl, refl))

module _ {T U : Type 0} (f : Fields T U) (sound : IsDomain f) (i : ℕ) (x : PublisherFields)
    (at : get_or f.publishers i None ≡ Some x)
    (slot : ℕ) (can : CanTakeSlot f x slot) (user_header : U) (len segments : ℕ) where
  -- the publisher, with the slot among its loans
  abbrev pub lender : PublisherFields
  lender = record x { loans = x.loans ++ slot ∷ []; longest_granted = max x.longest_granted len; segments = segments }

  -- the fields with the loan
  abbrev pub with_granted : Fields T U
  with_granted = with_publisher (with_taken f sound x slot can user_header len) i lender

  abbrev state : State T U
  state = state_of (kept_of f)

  abbrev machine : Publisher
  machine = (publisher_of f.books f.connections x).port

  abbrev books_after : Slab Book
  books_after = taken_books f sound x slot can user_header len

  number-here : number_in_slot books_after x.id slot ≡ f.next_message
  number-here =
      ap number_in (taken-found f sound x slot can user_header len x.id)
      ∙ ap (λ b. number_in (cond b (Some (taken_book f sound x slot can user_header len))
      (look_up (is_book_of x.id) f.books.slots))) (eq-eqb (can.book).publisher x.id can.its)
      ∙ taken-number_here f sound x slot can user_header len
    where
      number_in : Option Book → ℕ
      number_in o = option_map_or (λ (b : Book). slice_index b.numbers slot) o 0

  -- the lender has the number among its loans
  lender-is : (publisher_of books_after f.connections lender).port ≡ record machine {
    loans = machine.loans ++ f.next_message ∷ [];
    longest_granted = max machine.longest_granted len;
    segments = segments;
  }
  lender-is = λ t. record machine {
    loans = loans t;
    longest_granted = max x.longest_granted len;
    segments = segments;
    history = history t;
    blocked = blocked t;
  } where
    keeps : (p slot' : ℕ) → 0 < holders_of f.books p slot'
        → number_in_slot books_after p slot' ≡ number_in_slot f.books p slot'
    keeps = taken-keeps f sound x slot can user_header len

    loans : map (number_in_slot books_after x.id) (x.loans ++ slot ∷ []) ≡ map
        (number_in_slot f.books x.id) x.loans ++ f.next_message ∷ []
    loans =
        map-append (number_in_slot books_after x.id) x.loans (slot ∷ [])
        ∙ ap (λ n. map (number_in_slot books_after x.id) x.loans ++ n ∷ []) number-here
        ∙ ap (λ ns. ns ++ f.next_message ∷ [])
        (map-numbers f sound books_after keeps x.id x.loans
        (λ k e. rw (holders-are f sound i x at k) (loan-in_use f sound i x at k e)))

    history : map (number_in_slot books_after x.id) (x.history).items ≡ map (number_in_slot f.books x.id)
        (x.history).items
    history = map-numbers f sound books_after keeps x.id (x.history).items
        (λ k e. rw (holders-are f sound i x at k) (history-in_use f sound i x at k e))

    blocked : ((publisher_of books_after f.connections lender).port).blocked ≡ machine.blocked
    blocked = blocked-same f sound books_after keeps i x at

  -- the state before the publisher has the loan
  pub taken-is : state_of (kept_of (with_taken f sound x slot can user_header len)) ≡ record state {
    next_message = f.next_message + 1;
    loans = put_at state.loans f.next_message (Some (lent f sound x slot can user_header len));
  }
  taken-is =
      with_books-is f sound books_after (taken-keeps f sound x slot can user_header len)
      (begun_contents f sound x slot can user_header len) (f.next_message + 1)
      ∙ ap (λ (ls : ℕ → Option (Loan T U)). record state { next_message = f.next_message + 1; loans = ls })
      (fun_ext (taken-loans f sound x slot can user_header len))

  -- the machine's step
  pub granted-is : state_of (kept_of with_granted) ≡ loan_granted user_header state x.id machine len segments
  granted-is =
      changed-is (with_taken f sound x slot can user_header len) i x lender at refl sound.parts.publisher_ids
      ∙ ap (λ (s : State T U). record s {
        publishers = put_at s.publishers x.id
            (Some ((publisher_of books_after f.connections lender).port));
      }) taken-is
      ∙ ap (λ (y : Publisher). record state {
        next_message = f.next_message + 1;
        publishers = put_at state.publishers x.id (Some y);
        loans = put_at state.loans f.next_message (Some (lent f sound x slot can user_header len));
      }) lender-is
