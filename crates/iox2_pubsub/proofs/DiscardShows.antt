-- A discard of a loan, seen from outside, and what it leaves.
use Rattle.std.proofs.Common.{◌≡◌, ℕ, ap, sym, subst, ◌∙◌, le_refl}
use Rattle.std.proofs.lemmas.Bool.{ne_eqb}
use Rattle.std.specs.declared.option.Option.TheVariants.{None, Some}
use Rattle.iox2_machine.specs.machine.Loans.{loan_discarded}
use Rattle.iox2_machine.specs.machine.Records.{Loan}
use Rattle.iox2_machine.specs.machine.State.{State, Messages}
use Rattle.iox2_machine.specs.declared.key.Key.{Key}
use Rattle.iox2_laws.proofs.PortsStay.{PortsStay, loan_discarded_stays}
use Rattle.iox2_laws.proofs.Puts.{found_removed, put_at-other, put_at-same}
use Rattle.iox2_laws.proofs.SamplesStay.{same_borrowed}
use Rattle.iox2_laws.proofs.Waits.{loan_discarded_waits}
use Rattle.iox2_domain.specs.Discards.{DiscardsLoan}
use Rattle.iox2_domain.specs.Boxes.{DomainBoxes}
use Rattle.iox2_domain.specs.Fields.{Fields, kept_of, keeping}
use Rattle.iox2_domain.specs.Kept.{Kept, state_of}
use Rattle.iox2_domain.specs.Reaches.{Reaches}
use Rattle.iox2_domain.specs.Shows.{Shows}
use Rattle.iox2_domain.proofs.lemmas.fields.ReachesShows.{reaches-shows}
use Rattle.iox2_pubsub.specs.Live.{IsLoanKey, A_loan, StaysBut}
use Rattle.iox2_pubsub.proofs.LiveParts.{loan-parts}
use Rattle.iox2_pubsub.proofs.StaysBut.{BoxesStayBut, IsSpared, ports-remain, stays-between, none-spared}

-- the domain shows the machine's step
pub discard-shows : {T U F G : Type 0} {boxes : DomainBoxes F G} (f g : Fields T U) (kept : Kept T U F G)
    (view : keeping boxes f ≡ kept) (n : ℕ) (discards : DiscardsLoan f g n)
    → (m : Messages T U) (s : State T U) (l : Loan T U) → Shows kept m s → s.loans n ≡ Some l
    → Shows (kept_of g) m (loan_discarded s n l)
discard-shows {T} {U} {F} {G} f g kept view n discards m s l shown out =
    let here : Shows (kept_of f) m s = subst (λ (k : Kept T U F G). Shows k m s) (sym view) shown in
    let is : state_of (kept_of f) ≡ s = sym here.state in
    let both : Some discards.0 ≡ Some l = sym discards.1 ∙ ap (λ (t : State T U). t.loans n) is ∙ out in
    let same : discards.0 ≡ l = cc in
    reaches-shows f g m s (loan_discarded s n l) here
    (subst (λ (k : Loan T U). Reaches f g (loan_discarded s n k)) same
    (subst (λ (t : State T U). Reaches f g (loan_discarded t n discards.0)) is discards.2))
    (le_refl s.next_message)
    (λ k loan at. found_removed s.loans n k loan (m k ≡ None) at (λ _ old. here.unsent k loan old))

module _ {T U F G : Type 0} (old new : Kept T U F G) (m : Messages T U) (s : State T U) (shown : Shows old m s) (n : ℕ)
    (l : Loan T U)
    (shown' : Shows new m (loan_discarded s n l)) where
  -- all else stays
  pub discard-stays : BoxesStayBut (A_loan n) old new → StaysBut (A_loan n) old new
  discard-stays boxes =
      let s' : State T U = loan_discarded s n l in
      let stay : PortsStay s s' = loan_discarded_stays s n l in
      stays-between (A_loan n) old new m m s s' shown shown' (λ k entry at. at) (ports-remain _ s s' stay.remain)
      (λ k loan at other. put_at-other s.loans n None k (ne_eqb k n other) ∙ at)
      (λ i j k at _. same_borrowed s s' stay i j k ∙ at) (loan_discarded_waits (IsSpared (A_loan n)) s n l)
      (none-spared _ old s s' (λ _. tt)) boxes

  -- it is out no more
  pub discard-spends : (key : Key) → key.message ≡ n → IsLoanKey new key → ⊥
  discard-spends key is live =
      let has = (loan-parts new key live).1 in
      let clash : None ≡ Some has.0 =
      sym (put_at-same s.loans n None) ∙ ap (λ (t : State T U). t.loans n) shown'.state
      ∙ ap (state_of new).loans (sym is) ∙ has.1 in
      absurd cc
