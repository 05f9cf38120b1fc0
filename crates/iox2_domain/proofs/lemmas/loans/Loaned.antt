-- A loan is a loan, whether or not slots were reclaimed before it.
use Rattle.std.proofs.Common.{◌≡◌, ◌<◌, ◌≤◌, Bool, ℕ, true, false, length, get_or, ap, sym, subst, ◌∙◌, Ok, Err}
use Rattle.std.specs.declared.option.Option.{Option}
use Rattle.std.specs.declared.option.Option.TheVariants.{None, Some}
use Rattle.std.specs.Prelude.{IsSomeAnd}
use Rattle.iox2_machine.specs.machine.Loans.{is_static, loan_granted, GrantLoan}
use Rattle.iox2_machine.specs.declared.service_config.TypeVariant.TheVariants.{FixedSize}
use Rattle.iox2_machine.specs.machine.Records.{Publisher}
use Rattle.iox2_machine.specs.machine.State.{State}
use Rattle.iox2_machine.specs.declared.errors.LoanError.{LoanError}
use Rattle.iox2_domain.specs.Ports.{PublisherFields}
use Rattle.iox2_domain.specs.Kept.{state_of}
use Rattle.iox2_domain.specs.Fields.{Fields, kept_of, publisher_of}
use Rattle.iox2_domain.specs.Invariant.{IsDomain}
use Rattle.iox2_domain.specs.Lending.{IsNamed, LoanReaches, memory_for}
use Rattle.iox2_domain.specs.LoanSlots.{LiesInSlot}
use Rattle.iox2_domain.specs.Reaches.{Reaches}
use Rattle.iox2_domain.specs.declared.loan_slots.LoanAt.{LoanAt}
use Rattle.iox2_domain.proofs.lemmas.fields.ConnectionEnds.{publisher-stands}
use Rattle.iox2_domain.proofs.lemmas.fields.ReachesShows.{reaches-then}
use Rattle.iox2_domain.proofs.lemmas.loans.Lent.{is_too_long, lent-reaches, lent-grants, lent-in_slot, CanGrant}
use Rattle.iox2_domain.proofs.lemmas.loans.Lent.{LoanDecided}
use Rattle.iox2_domain.proofs.lemmas.loans.LendingSteps.{Lends}

module _ {T U : Type 0} (is_default : U → Type 0) (f mid : Fields T U) (sound : IsDomain f) (i : ℕ)
    (stands : (x : PublisherFields) × (get_or f.publishers i None ≡ Some x))
    (reached : Reaches f mid (state_of (kept_of f))) (same : mid.publishers ≡ f.publishers) (checks : Bool)
    (len : ℕ) where
  abbrev x : PublisherFields
  x = stands.0

  at_mid : get_or mid.publishers i None ≡ Some x
  at_mid = ap (λ xs. get_or xs i None) same ∙ stands.1

  -- the loan is refused
  pub loan-refused : (e : LoanError) → LoanDecided mid checks len i (Some e)
      → IsSomeAnd (get_or f.publishers i None) (λ z. LoanReaches {A = LoanAt} is_default checks len f z (Err e) mid)
  loan-refused e refused =
      subst (λ (o : Option PublisherFields).
      IsSomeAnd o (λ z. LoanReaches {A = LoanAt} is_default checks len f z (Err e) mid)) (sym stands.1) (
        subst (λ (s : State T U). (user_header : U)
            → GrantLoan (memory_for x.allocation) user_header checks len s x.id s (Some e)) reached.state here,
        reached,
      )
    where
      here : (user_header : U) → GrantLoan (memory_for x.allocation) user_header checks len
          (state_of (kept_of mid)) x.id (state_of (kept_of mid)) (Some e)
      here =
          subst (λ (o : Option PublisherFields).
          IsSomeAnd o (λ z. (user_header : U) → GrantLoan (memory_for z.allocation) user_header checks len
          (state_of (kept_of mid)) z.id (state_of (kept_of mid)) (Some e))) at_mid refused

  -- a slot may be lent
  pub may-lend : LoanDecided mid checks len i None → CanGrant mid checks len i
  may-lend free = subst (λ (o : Option PublisherFields). IsSomeAnd o (λ z. CanGrant mid checks len i)) at_mid free

  -- its publisher is the one that asked
  asker : (can : CanGrant mid checks len i) → can.publisher ≡ x
  asker can = let found : Some can.publisher ≡ Some x = sym can.stands ∙ at_mid in cc

  short : LoanDecided mid checks len i None → is_too_long checks len x ≡ false
  short free =
      let can = may-lend free in
      subst (λ (z : PublisherFields). is_too_long checks len z ≡ false) (asker can) can.short

  few : LoanDecided mid checks len i None → length x.loans < x.max_loaned_samples
  few free = let can = may-lend free in
      subst (λ (z : PublisherFields). length z.loans < z.max_loaned_samples) (asker can) can.few

  static : LoanDecided mid checks len i None → is_static x.allocation ≡ true
  static free = let can = may-lend free in
      subst (λ (z : PublisherFields). is_static z.allocation ≡ true) (asker can) can.static

  -- the machine sees the same publisher
  pub machine-same : (publisher_of mid.books mid.connections x).port ≡ (publisher_of f.books f.connections x).port
  machine-same =
      let one : Some ((publisher_of mid.books mid.connections x).port) ≡ Some
      ((publisher_of f.books f.connections x).port) =
      sym (publisher-stands mid reached.agrees.parts i x at_mid)
      ∙ ap (λ (s : State T U). s.publishers x.id) reached.state ∙ publisher-stands f sound.parts i x stands.1 in
      cc

  module _ (one : (mid.config).variant ≡ FixedSize → len ≡ 1) (free : LoanDecided mid checks len i None) (slot : ℕ)
      (new : Fields T U)
      (lends : IsSomeAnd (get_or mid.publishers i None) (λ z. Lends is_default mid i z slot len z.segments new)) where
    its : Lends is_default mid i x slot len x.segments new
    its = subst (λ (o : Option PublisherFields). IsSomeAnd o (λ z. Lends is_default mid i z slot len z.segments new))
        at_mid lends

    fits : is_static x.allocation ≡ false → len ≤ x.segment_length
    fits grows = absurd (let yes = static free in let no : true ≡ false = sym yes ∙ grows in cc)

    grants : GrantLoan (memory_for x.allocation) its.starts.user_header checks len (state_of (kept_of mid)) x.id
        (loan_granted its.starts.user_header (state_of (kept_of mid)) x.id
        ((publisher_of mid.books mid.connections x).port) len x.segments) None
    grants = lent-grants mid reached.agrees i x at_mid checks len (short free) (few free)
        (static free) its.book its.stood slot its.within its.free (may-lend free).more its.starts.user_header

    -- a slot is lent
    pub loan-lent : {A : Type 0} (loan : A)
        → IsSomeAnd (get_or f.publishers i None) (λ z. LoanReaches is_default checks len f z (Ok loan) new)
    loan-lent {A} loan =
        subst (λ (o : Option PublisherFields).
        IsSomeAnd o (λ z. LoanReaches {A = A} is_default checks len f z (Ok loan) new)) (sym stands.1)
        (its.starts.user_header, its.starts.default, x.segments, both.0, reaches-then f mid new _ _ reached both.1)
      where
        -- the machine's step, from a state and the publisher in it
        Step : State T U → Publisher → Type 0
        Step s y = GrantLoan (memory_for x.allocation) its.starts.user_header checks len s x.id
            (loan_granted its.starts.user_header s x.id y len x.segments) None
            × Reaches mid new (loan_granted its.starts.user_header s x.id y len x.segments)

        both : Step (state_of (kept_of f)) ((publisher_of f.books f.connections x).port)
        both = subst (λ (s : State T U). Step s ((publisher_of f.books f.connections x).port)) reached.state
            (subst (Step (state_of (kept_of mid))) machine-same (
              grants,
              lent-reaches mid reached.agrees i x at_mid checks len one fits is_default slot x.segments new its
                  (memory_for x.allocation) grants,
            ))

  -- the loan lies in the slot that is lent
  pub loan-lies : ((mid.config).variant ≡ FixedSize → len ≡ 1) → LoanDecided mid checks len i None
      → (loan : LoanAt) (new : Fields T U)
      → IsSomeAnd (get_or mid.publishers i None) (λ z. IsNamed mid z loan)
      → IsSomeAnd (get_or mid.publishers i None) (λ z. Lends is_default mid i z loan.slot len z.segments new)
      → LiesInSlot new loan.publisher loan.number loan.book loan.slot
  loan-lies one free loan new named lends =
      let names = subst (λ (o : Option PublisherFields). IsSomeAnd o (λ z. IsNamed mid z loan)) at_mid named in
      rw (names.publisher, names.number, names.book)
      (lent-in_slot mid reached.agrees i x at_mid checks len one (fits one free loan.slot new lends) is_default
      loan.slot x.segments new (its one free loan.slot new lends) (memory_for x.allocation)
      (grants one free loan.slot new lends))
