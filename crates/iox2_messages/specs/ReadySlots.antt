-- A slot is readied before a loan.
use Rattle.std.specs.Prelude.{◌≡◌, ◌⊎◌, ℕ, Bool, true, false, ◌<◌, length, slice_index_or, slice_set, Result}
use Rattle.std.specs.Prelude.{MatchResult}
use Rattle.std.specs.declared.option.Option.TheVariants.{None, Some}
use Rattle.iox2_machine.specs.machine.Limits.{last_number}
use Rattle.iox2_machine.specs.machine.Loans.{is_static, GrantLoan, loan_granted}
use Rattle.iox2_machine.specs.declared.errors.LoanError.{LoanError}
use Rattle.iox2_domain.specs.Fields.{Fields, kept_of, publisher_of}
use Rattle.iox2_domain.specs.Growth.{HasFreeSlot}
use Rattle.iox2_domain.specs.Kept.{state_of}
use Rattle.iox2_domain.specs.Lending.{memory_for}
use Rattle.iox2_domain.specs.Ports.{PublisherFields}
use Rattle.iox2_domain.specs.Reaches.{Reaches}

-- The publisher at the place has made that many segments, and nothing else changes.
abbrev pub with_segments : {T U : Type 0} → Fields T U → (place : ℕ) → PublisherFields → (segments : ℕ) → Fields T U
with_segments f place x segments =
    record f { publishers = slice_set f.publishers place (Some (record x { segments = segments })) }

module _ {T U : Type 0} where
  -- The publisher, whose memory grows, has a free slot in its current segment, which is long enough for that many
  -- elements, and the machine grants a loan of them. Only the number of its segments is one that it has after the loan.
  pub record IsReady (f : Fields T U) (place : ℕ) (x : PublisherFields) (len : ℕ) (f' : Fields T U) : Type 0 where
    pub uncounted : Fields T U
    pub reached : Reaches f uncounted (state_of (kept_of f))
    pub lender : PublisherFields
    pub stands : slice_index_or uncounted.publishers place None ≡ Some lender
    pub id : lender.id ≡ x.id
    pub book : lender.book ≡ x.book
    pub grows : is_static lender.allocation ≡ false
    pub few : length lender.loans < lender.max_loaned_samples
    pub more : uncounted.next_message < last_number
    pub slot : HasFreeSlot uncounted lender len
    pub segments : ℕ
    pub grants : (checks : Bool) (user_header : U)
        → GrantLoan (memory_for x.allocation) user_header checks len (state_of (kept_of f)) x.id
        (loan_granted user_header (state_of (kept_of f)) x.id
        ((publisher_of f.books f.connections x).port) len segments) None
    pub counted : f' ≡ with_segments uncounted place lender segments

  -- The machine refuses the loan for this reason, and nothing changes that can be seen.
  abbrev pub RefusesLoan : Fields T U → PublisherFields → (len : ℕ) → LoanError → Fields T U → Type 0
  RefusesLoan f x len e f' =
      ((checks : Bool) (user_header : U) → GrantLoan (memory_for x.allocation) user_header checks len
      (state_of (kept_of f)) x.id (state_of (kept_of f)) (Some e))
      × Reaches f f' (state_of (kept_of f))

  -- The publisher, whose memory grows, has a slot ready, or its loan is refused.
  abbrev pub Prepares : {A : Type 0} → Fields T U → (place : ℕ) → PublisherFields → (len : ℕ) → Result A LoanError
      → Fields T U → Type 0
  Prepares f place x len result f' = MatchResult result (λ _. IsReady f place x len f') (λ e. RefusesLoan f x len e f')

  -- The same of any publisher: of a static one nothing changes.
  abbrev pub MayPrepare : {A : Type 0} → Fields T U → (place : ℕ) → PublisherFields → (len : ℕ) → Result A LoanError
      → Fields T U → Type 0
  MayPrepare f place x len result f' =
      MatchResult result
      (λ _. ((is_static x.allocation ≡ true) × (f' ≡ f)) ⊎ IsReady f place x len f')
      (λ e. RefusesLoan f x len e f')
