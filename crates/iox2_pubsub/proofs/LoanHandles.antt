-- The handles of loans: what a domain that holds one shows.
use Rattle.std.proofs.Common.{replicate, [], ◌∷◌, true, false, ◌≡◌, ℕ, cond, refl, ap, sym, subst, ◌∙◌, le_refl}
use Rattle.std.proofs.lemmas.Bool.{eq-eqb}
use Rattle.std.proofs.lemmas.Option.{same_Some}
use Rattle.std.specs.declared.option.Option.TheVariants.{None, Some}
use Rattle.iox2_machine.specs.machine.Records.{Loan}
use Rattle.iox2_machine.specs.machine.State.{State, Messages, with_loan}
use Rattle.iox2_machine.specs.machine.Loans.{written}
use Rattle.iox2_machine.specs.machine.SingleCalls.{HoldsLoan}
use Rattle.iox2_laws.proofs.Puts.{found_put}
use Rattle.iox2_domain.specs.Kept.{Kept, state_of}
use Rattle.iox2_domain.specs.Boxes.{DomainBoxes}
use Rattle.iox2_domain.specs.Fields.{Fields, kept_of, keeping}
use Rattle.iox2_machine.specs.declared.key.Key.{Key}
use Rattle.iox2_pubsub.specs.Live.{IsPlaced, IsLoanKey, IsUnwritten, IsWritten, LoanHasHeader, LoanHasUserHeader}
use Rattle.iox2_pubsub.specs.Live.{LoanReads}
use Rattle.iox2_pubsub.specs.declared.sample_mut.SampleMut.{SampleMut}
use Rattle.iox2_pubsub.specs.declared.sample_mut_uninit.SampleMutUninit.{SampleMutUninit}
use Rattle.iox2_pubsub.proofs.LiveParts.{loan-header, loan-header-parts, loan-parts, loan-reads, loan-user-header}
use Rattle.iox2_pubsub.proofs.LiveParts.{loan-user-header-parts, unwritten-parts, unwritten-live, written-parts}
use Rattle.iox2_pubsub.proofs.LiveParts.{written-live}
use Rattle.iox2_pubsub.proofs.PlacedLoans.{placed-after}
use Rattle.iox2_machine.specs.declared.header.Header.{Header}
use Rattle.iox2_domain.specs.Invariant.{IsDomain}
use Rattle.iox2_domain.specs.LoanCalls.{HoldsUnwritten, HoldsWritten, HasLoanHeader, WritesLoan}
use Rattle.iox2_domain.specs.Reaches.{Reaches}
use Rattle.iox2_domain.specs.Shows.{Shows}
use Rattle.iox2_domain.proofs.lemmas.fields.ReachesShows.{reaches-shows}

module _ {T U F G : Type 0} (inside kept : Kept T U F G) (view : inside ≡ kept) where
  -- what holds of the state that is kept holds of each that is shown
  pub of-shown : (P : State T U → Type 0) → P (state_of inside) → (m : Messages T U) (s : State T U) → Shows kept m s
      → P s
  of-shown P holds m s shown = subst P (ap state_of view ∙ sym shown.state) holds

  -- a handle's loan is out
  pub unwritten-out : (loan : SampleMutUninit) → IsUnwritten kept loan
      → HoldsUnwritten (state_of inside) loan.loan.publisher loan.loan.number
  unwritten-out loan live = subst (λ k. HoldsUnwritten (state_of k) loan.loan.publisher loan.loan.number) (sym view)
      (unwritten-parts kept loan live).1

  pub written-out : (loan : SampleMut) → IsWritten kept loan
      → HoldsWritten (state_of inside) loan.loan.publisher loan.loan.number
  written-out loan live = subst (λ k. HoldsWritten (state_of k) loan.loan.publisher loan.loan.number) (sym view)
      (written-parts kept loan live).1

  pub loan-out : (key : Key) → IsLoanKey kept key → HoldsLoan (state_of inside) key.port key.message
  loan-out key live = subst (λ k. HoldsLoan (state_of k) key.port key.message) (sym view) (loan-parts kept key live).1

-- ---- a loan is changed

module _ {T U F G : Type 0} {boxes : DomainBoxes F G} (f g : Fields T U) (kept : Kept T U F G)
    (view : keeping boxes f ≡ kept) (n : ℕ) (l changed : Loan T U) (found : (state_of (kept_of f)).loans n ≡ Some l)
    (reaches : Reaches f g (with_loan (state_of (kept_of f)) n (Some changed))) where
  -- the domain shows the machine's step
  pub change-shown : (m : Messages T U) (s : State T U) → Shows kept m s
      → (s.loans n ≡ Some l) × Shows (kept_of g) m (with_loan s n (Some changed))
  change-shown m s shown =
      let here : Shows (kept_of f) m s = subst (λ k. Shows k m s) (sym view) shown in
      let is : state_of (kept_of f) ≡ s = sym here.state in
      let there : s.loans n ≡ Some l = ap (λ (t : State T U). t.loans n) (sym is) ∙ found in (
        there,
        reaches-shows f g m s (with_loan s n (Some changed)) here
            (subst (λ (t : State T U). Reaches f g (with_loan t n (Some changed))) is reaches)
            (le_refl s.next_message)
            (λ k u at. found_put s.loans n changed (λ i _. m i ≡ None) k u at (λ _. here.unsent n l there)
            (λ _ old. here.unsent k u old)),
      )

  -- the changed loan is out
  pub changed-out : (state_of (kept_of g)).loans n ≡ Some changed
  changed-out =
      ap (λ (t : State T U). t.loans n) reaches.state
      ∙ ap (λ b. cond b (Some changed) ((state_of (kept_of f)).loans n)) (eq-eqb n n refl)

  -- headers that the change keeps
  module _ (key key' : Key) (here : key.message ≡ n) (there : key'.message ≡ n) where
    -- what was out is what is changed
    was : (k : Loan T U) → (state_of kept).loans key.message ≡ Some k → l ≡ k
    was k at = same_Some l k
        (sym found ∙ ap (λ (e : Kept T U F G). (state_of e).loans n) view ∙ ap (state_of kept).loans (sym here) ∙ at)

    pub change-header : changed.header ≡ l.header → (header : Header) → LoanHasHeader kept key header
        → LoanHasHeader (keeping boxes g) key' header
    change-header same header has =
        let old = loan-header-parts kept key header has in
        loan-header (keeping boxes g) key' header (
          changed,
          ap (state_of (kept_of g)).loans there ∙ changed-out,
          same ∙ ap (λ (k : Loan T U). k.header) (was old.0 old.1) ∙ old.2,
        )

    pub change-user-header : changed.user_header ≡ l.user_header → (header : U) → LoanHasUserHeader kept key header
        → LoanHasUserHeader (keeping boxes g) key' header
    change-user-header same header has =
        let old = loan-user-header-parts kept key header has in
        loan-user-header (keeping boxes g) key' header (
          changed,
          ap (state_of (kept_of g)).loans there ∙ changed-out,
          same ∙ ap (λ (k : Loan T U). k.user_header) (was old.0 old.1) ∙ old.2,
        )

  module _ (same : changed.publisher ≡ l.publisher) where
    service-still : (id : ℕ) → id ≡ (kept.config).service_id → id ≡ ((kept_of g).config).service_id
    service-still id ours = ours ∙ sym (ap (λ (k : Kept T U F G). (k.config).service_id) view)
        ∙ sym (ap (λ (t : State T U). (t.config).service_id) reaches.state)

    its-publisher : (p : ℕ) → HoldsLoan (state_of (kept_of f)) p n → l.publisher ≡ p
    its-publisher p live =
        let both : Some l ≡ Some live.0 = sym found ∙ live.1 in
        let is : l ≡ live.0 = cc in
        ap (λ (k : Loan T U). k.publisher) is ∙ live.2

    -- it is live where it was, written or not
    pub change-live : (p service : ℕ) → service ≡ (kept.config).service_id → HoldsLoan (state_of (kept_of f)) p n
        → (service ≡ ((kept_of g).config).service_id) × ((state_of (kept_of g)).loans n ≡ Some changed)
        × (changed.publisher ≡ p)
    change-live p service ours live = (service-still service ours, changed-out, same ∙ its-publisher p live)

    pub change-unwritten : IsDomain f → (loan : SampleMutUninit) → loan.loan.number ≡ n → IsUnwritten kept loan
        → changed.is_written ≡ false → IsUnwritten (keeping boxes g) loan
    change-unwritten sound loan its live mark =
        let parts = unwritten-parts kept loan live in
        let out = subst (λ (k : Kept T U F G). HoldsLoan (state_of k) loan.loan.publisher loan.loan.number) (sym view)
        ((parts.1).0, (parts.1).1, (parts.1).2) in
        let is = change-live loan.loan.publisher loan.service_id parts.0
        (subst (HoldsLoan (state_of (kept_of f)) loan.loan.publisher) its out) in
        unwritten-live (keeping boxes g) loan is.0 (changed, ap (state_of (kept_of g)).loans its ∙ is.1, is.2, mark)
        (placed-after boxes f g kept view sound reaches.places loan.loan.number loan.loan.book loan.loan.slot
        live.placed)

    -- a written loan is live under a handle with the same key and the same place
    pub change-written : (p service : ℕ) → service ≡ (kept.config).service_id → HoldsLoan (state_of (kept_of f)) p n
        → changed.is_written ≡ true
        → (loan : SampleMut) → loan.loan.number ≡ n → loan.service_id ≡ service → loan.loan.publisher ≡ p → IsDomain f
        → IsPlaced kept loan.loan.number loan.loan.book loan.loan.slot
        → IsWritten (keeping boxes g) loan
    change-written p service ours out mark loan number its publisher sound placed =
        let is = change-live p service ours out in
        written-live (keeping boxes g) loan (its ∙ is.0)
        (changed, ap (state_of (kept_of g)).loans number ∙ is.1, is.2 ∙ sym publisher, mark)
        (placed-after boxes f g kept view sound reaches.places loan.loan.number loan.loan.book loan.loan.slot placed)

    -- it has the changed cells
    pub change-cells : (loan : SampleMut) (value : T) → loan.loan.number ≡ n → changed.cells ≡ Some value ∷ []
        → LoanReads (keeping boxes g) loan value
    change-cells loan value number is =
        loan-reads (keeping boxes g) loan value (changed, ap (state_of (kept_of g)).loans number ∙ changed-out, is)

-- ---- a single value is written

module _ {T U F G : Type 0} {boxes : DomainBoxes F G} (f g : Fields T U) (kept : Kept T U F G)
    (view : keeping boxes f ≡ kept) (n : ℕ) (value : T) (writes : WritesLoan f g n (value ∷ [])) where
  write-reaches : Reaches f g (with_loan (state_of (kept_of f)) n (Some (written writes.0 value)))
  write-reaches =
      subst (λ (k : ℕ). Reaches f g (with_loan (state_of (kept_of f)) n
      (Some (record (writes.0) { cells = replicate k (Some value); is_written = true })))) writes.2 writes.3

  -- the domain shows the machine's step
  pub write-shown : (m : Messages T U) (s : State T U) → Shows kept m s
      → (l : Loan T U) × (s.loans n ≡ Some l) × Shows (kept_of g) m (with_loan s n (Some (written l value)))
  write-shown m s shown =
      let both = change-shown f g kept view n writes.0 (written writes.0 value) writes.1 write-reaches m s shown in
      (writes.0, both.0, both.1)

-- ---- the header of a loan

module _ {T U : Type 0} (f : Fields T U) (sound : IsDomain f) (number publisher : ℕ) (header : Header) where
  -- it names the publisher
  pub header-origin : HoldsLoan (state_of (kept_of f)) publisher number
      → HasLoanHeader (state_of (kept_of f)) number header → header.publisher_id ≡ publisher
  header-origin live has =
      let both : Some live.0 ≡ Some has.0 = sym live.1 ∙ has.1 in
      let loan : live.0 ≡ has.0 = cc in
      ap (λ (h : Header). h.publisher_id) (sym has.2)
      ∙ (sound.well_formed.loans number has.0 has.1).origin
      ∙ ap (λ (l : Loan T U). l.publisher) (sym loan) ∙ live.2
