-- A loan from fields in which the publisher may have another segment.
use Rattle.std.proofs.Common.{◌≡◌, ◌≤◌, ℕ, Bool, false, None, Some, Ok, get_or, ap, sym, subst, ◌∙◌}
use Rattle.iox2_machine.specs.declared.service_config.TypeVariant.TheVariants.{FixedSize}
use Rattle.iox2_machine.specs.machine.Loans.{is_static, GrantLoan, loan_granted}
use Rattle.iox2_machine.specs.machine.Records.{Publisher}
use Rattle.iox2_machine.specs.machine.State.{State}
use Rattle.iox2_domain.specs.Fields.{Fields, kept_of, publisher_of}
use Rattle.iox2_domain.specs.Invariant.{IsDomain}
use Rattle.iox2_domain.specs.Kept.{state_of}
use Rattle.iox2_domain.specs.Lending.{LoanReaches, memory_for}
use Rattle.iox2_domain.specs.LoanSlots.{LiesInSlot}
use Rattle.iox2_domain.specs.Ports.{PublisherFields}
use Rattle.iox2_domain.specs.Reaches.{Reaches}
use Rattle.iox2_domain.proofs.lemmas.fields.ConnectionEnds.{publisher-stands}
use Rattle.iox2_domain.proofs.lemmas.fields.ReachesShows.{reaches-then}
use Rattle.iox2_domain.proofs.lemmas.loans.Lent.{lent-in_slot, lent-reaches}
use Rattle.iox2_domain.proofs.lemmas.loans.LendingSteps.{Lends}

module _ {T U : Type 0} (f mid : Fields T U) (sound : IsDomain f) (i : ℕ) (x : PublisherFields)
    (at : get_or f.publishers i None ≡ Some x)
    (reached : Reaches f mid (state_of (kept_of f))) (y : PublisherFields)
    (at_mid : get_or mid.publishers i None ≡ Some y) (id : y.id ≡ x.id) where
  abbrev state : State T U
  state = state_of (kept_of f)

  abbrev machine : Publisher
  machine = (publisher_of f.books f.connections x).port

  -- the machine sees the same publisher
  pub machine-kept : (publisher_of mid.books mid.connections y).port ≡ machine
  machine-kept =
      let same : Some ((publisher_of mid.books mid.connections y).port) ≡ Some machine =
      sym (publisher-stands mid reached.agrees.parts i y at_mid) ∙ ap (λ (s : State T U). s.publishers y.id)
      reached.state ∙ ap state.publishers id ∙ publisher-stands f sound.parts i x at in
      cc

  module _ (is_default : U → Type 0) (checks : Bool) (len : ℕ) (one : (f.config).variant ≡ FixedSize → len ≡ 1)
      (segments slot : ℕ) (new : Fields T U)
      (its : Lends is_default mid i y slot len segments new)
      (fits : is_static y.allocation ≡ false → len ≤ y.segment_length)
      (grants : (user_header : U) → GrantLoan (memory_for x.allocation) user_header checks len state x.id
      (loan_granted user_header state x.id machine len segments) None) where
    abbrev user_header : U
    user_header = its.starts.user_header

    one_mid : (mid.config).variant ≡ FixedSize → len ≡ 1
    one_mid fixed = one (sym (ap (λ (s : State T U). (s.config).variant) reached.state) ∙ fixed)

    abbrev mid_state : State T U
    mid_state = state_of (kept_of mid)

    abbrev mid_machine : Publisher
    mid_machine = (publisher_of mid.books mid.connections y).port

    abbrev Grants : State T U → (p : ℕ) → Publisher → Type 0
    Grants s p z = GrantLoan (memory_for x.allocation) user_header checks len s p
        (loan_granted user_header s p z len segments) None

    grants-mid : Grants mid_state y.id mid_machine
    grants-mid =
        subst (λ (s : State T U). Grants s y.id mid_machine) (sym reached.state)
        (subst (λ (p : ℕ). Grants state p mid_machine) (sym id)
        (subst (λ (z : Publisher). Grants state x.id z) (sym machine-kept) (grants user_header)))

    abbrev Lent : State T U → (p : ℕ) → Publisher → Type 0
    Lent s p z = Reaches mid new (loan_granted user_header s p z len segments)

    reaches : Lent state x.id machine
    reaches =
        subst (λ (z : Publisher). Lent state x.id z) machine-kept
        (subst (λ (p : ℕ). Lent state p mid_machine) id
        (subst (λ (s : State T U). Lent s y.id mid_machine) reached.state
        (lent-reaches mid reached.agrees i y at_mid checks len one_mid fits is_default slot segments new its
        (memory_for x.allocation) grants-mid)))

    -- the loan is granted
    pub ready-lent : {A : Type 0} (loan : A) → LoanReaches is_default checks len f x (Ok loan) new
    ready-lent loan =
        (user_header, its.starts.default, segments, grants user_header, reaches-then f mid new _ _ reached reaches)

    -- and lies in its slot
    pub ready-lies : LiesInSlot new y.id mid.next_message y.book slot
    ready-lies = lent-in_slot mid reached.agrees i y at_mid checks len one_mid fits is_default slot segments new its
        (memory_for x.allocation) grants-mid
