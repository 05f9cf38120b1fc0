-- A loan whose cells were all written at once, with other values.
use Rattle.std.proofs.Common.{◌≡◌, ℕ, List, map, true, refl, ap, sym, subst, ◌∙◌, Some}
use Rattle.iox2_machine.specs.machine.Records.{Loan}
use Rattle.iox2_machine.specs.machine.SingleCalls.{HoldsLoan, WriteAllFrom}
use Rattle.iox2_machine.specs.machine.State.{State, Messages, with_loan}
use Rattle.iox2_machine.specs.declared.header.Header.{Header}
use Rattle.iox2_machine.specs.declared.key.Key.{Key}
use Rattle.iox2_domain.specs.declared.loan_slots.LoanAt.{LoanAt}
use Rattle.iox2_domain.specs.Kept.{Kept, state_of}
use Rattle.iox2_domain.specs.Boxes.{DomainBoxes}
use Rattle.iox2_domain.specs.Fields.{Fields, kept_of, keeping}
use Rattle.iox2_domain.specs.Invariant.{IsDomain}
use Rattle.iox2_domain.specs.LoanCalls.{WritesLoan}
use Rattle.iox2_domain.specs.Shows.{Shows}
use Rattle.iox2_pubsub.specs.BorrowsLeft.{BorrowsLeftStay}
use Rattle.iox2_pubsub.specs.Live.{IsPlaced, IsUnwritten, IsWritten, LoanHasHeader, LoanHasUserHeader, A_loan, StaysBut}
use Rattle.iox2_pubsub.specs.Live.{UpToDateStay, WaitingStays}
use Rattle.iox2_pubsub.specs.LoansLeft.{LoansLeftStay}
use Rattle.iox2_pubsub.specs.Slices.{HasValues}
use Rattle.iox2_pubsub.specs.declared.sample_mut.SampleMut.{SampleMut}
use Rattle.iox2_pubsub.specs.declared.sample_mut_uninit.SampleMutUninit.{SampleMutUninit}
use Rattle.iox2_pubsub.proofs.CallsStay.{always-shown, change-stays}
use Rattle.iox2_pubsub.proofs.LiveParts.{unwritten-parts}
use Rattle.iox2_pubsub.proofs.LoanHandles.{change-header, change-shown, change-user-header, change-written, changed-out}
use Rattle.iox2_pubsub.proofs.BorrowsLeftShown.{set-borrows}
use Rattle.iox2_pubsub.proofs.LoansLeftShown.{set-left}
use Rattle.iox2_pubsub.proofs.SliceParts.{has-values}
use Rattle.iox2_pubsub.proofs.StaysBut.{same-boxes}
use Rattle.iox2_pubsub.proofs.UpToDateShown.{set-leaves}
use Rattle.iox2_pubsub.proofs.WaitingShown.{set-waits}

module _ {T U F G : Type 0} {boxes : DomainBoxes F G} (f g : Fields T U) (sound : IsDomain f) (kept : Kept T U F G)
    (view : keeping boxes f ≡ kept) (n : ℕ) (values : List T) (writes : WritesLoan f g n values) where
  abbrev filled : Loan T U
  filled = record (writes.0) { cells = map Some values; is_written = true }

  -- the domain shows the machine's step
  pub filled-shown : (m : Messages T U) (s : State T U) → Shows kept m s
      → (l : Loan T U) × (s.loans n ≡ Some l) × (s' : State T U) × WriteAllFrom s n l values s' × Shows (kept_of g) m s'
  filled-shown m s shown =
      let both = change-shown f g kept view n writes.0 filled writes.1 writes.3 m s shown in
      (writes.0, both.0, with_loan s n (Some filled), (writes.2, refl), both.1)

  pub filled-values : (m : ℕ) → m ≡ n → HasValues (keeping boxes g) m values
  filled-values m its = has-values (keeping boxes g) m values (
    filled,
    ap (state_of (kept_of g)).loans its ∙ changed-out f g kept view n writes.0 filled writes.1 writes.3,
    λ i. map Some values,
  )

  pub filled-live : (loan : SampleMutUninit) (loan' : SampleMut) → loan.loan.number ≡ n
      → loan'.service_id ≡ loan.service_id → loan'.loan.publisher ≡ loan.loan.publisher
      → loan'.loan.number ≡ n → loan'.loan ≡ loan.loan → IsUnwritten kept loan → IsWritten (keeping boxes g) loan'
  filled-live loan loan' its service publisher number same live =
      let parts = unwritten-parts kept loan live in
      let out : HoldsLoan (state_of (kept_of f)) loan.loan.publisher n =
      subst (λ (k : Kept T U F G). HoldsLoan (state_of k) loan.loan.publisher n) (sym view)
      (subst (HoldsLoan (state_of kept) loan.loan.publisher) its ((parts.1).0, (parts.1).1, (parts.1).2)) in
      change-written f g kept view n writes.0 filled writes.1 writes.3 (λ i. (writes.0).publisher) loan.loan.publisher
      loan.service_id parts.0 out (λ i. true) loan' number service publisher sound
      (subst (λ (at : LoanAt). IsPlaced kept at.number at.book at.slot) (sym same) live.placed)

  pub filled-stays : StaysBut (A_loan n) kept (keeping boxes g)
  filled-stays =
      let it = always-shown f kept sound view in
      let step = change-shown f g kept view n writes.0 filled writes.1 writes.3 it.0 it.1 it.2 in
      change-stays kept (keeping boxes g) it.0 it.1 it.2 n filled step.1
      (same-boxes f g kept view sound writes.3.places)

  pub filled-left : LoansLeftStay kept (keeping boxes g)
  filled-left =
      let it = always-shown f kept sound view in
      let step = change-shown f g kept view n writes.0 filled writes.1 writes.3 it.0 it.1 it.2 in
      set-left kept (keeping boxes g) it.0 it.0 it.1 (with_loan it.1 n (Some filled)) it.2 step.1 n (Some filled) refl

  pub filled-borrows : BorrowsLeftStay kept (keeping boxes g)
  filled-borrows =
      let it = always-shown f kept sound view in
      let step = change-shown f g kept view n writes.0 filled writes.1 writes.3 it.0 it.1 it.2 in
      set-borrows kept (keeping boxes g) it.0 it.0 it.1 (with_loan it.1 n (Some filled)) it.2 step.1 n
      (Some filled) refl

  -- the same messages wait, and who was up to date is
  pub filled-waits : WaitingStays kept (keeping boxes g)
  filled-waits =
      let it = always-shown f kept sound view in
      let step = change-shown f g kept view n writes.0 filled writes.1 writes.3 it.0 it.1 it.2 in
      set-waits kept (keeping boxes g) it.0 it.1 it.2 n (Some filled) step.1

  pub filled-leaves : UpToDateStay kept (keeping boxes g)
  filled-leaves =
      let it = always-shown f kept sound view in
      let step = change-shown f g kept view n writes.0 filled writes.1 writes.3 it.0 it.1 it.2 in
      set-leaves kept (keeping boxes g) it.0 it.1 it.2 n (Some filled) step.1

  -- its headers stay
  module _ (key key' : Key) (here : key.message ≡ n) (there : key'.message ≡ n) where
    pub filled-header : (header : Header) → LoanHasHeader kept key header → LoanHasHeader (keeping boxes g) key' header
    filled-header =
        change-header f g kept view n writes.0 filled writes.1 writes.3 key key' here there (λ i. (writes.0).header)

    pub filled-user-header : (header : U) → LoanHasUserHeader kept key header
        → LoanHasUserHeader (keeping boxes g) key' header
    filled-user-header = change-user-header f g kept view n writes.0 filled writes.1 writes.3 key key' here there
        (λ i. (writes.0).user_header)
