-- A written loan, and what a call does to it, in a state that its domain shows.
use Rattle.std.proofs.Common.{◌≡◌, Some, ap, ◌∙◌}
use Rattle.iox2_machine.specs.machine.Records.{Loan}
use Rattle.iox2_machine.specs.machine.State.{State, Messages}
use Rattle.iox2_domain.specs.Boxes.{DomainBoxes}
use Rattle.iox2_domain.specs.Fields.{Fields, keeping}
use Rattle.iox2_domain.specs.Invariant.{IsDomain}
use Rattle.iox2_domain.specs.Kept.{Kept}
use Rattle.iox2_domain.specs.Shows.{Shows}
use Rattle.iox2_pubsub.specs.Live.{IsWritten}
use Rattle.iox2_pubsub.specs.declared.sample_mut.SampleMut.{SampleMut}
use Rattle.iox2_pubsub.proofs.CallsStay.{always-shown}
use Rattle.iox2_pubsub.proofs.LiveParts.{written-parts}

-- A state that is shown, the loan in it, and the step that a call makes from there.
pub record Sent {T U F G : Type 0} (kept : Kept T U F G) (loan : SampleMut)
    (Step : Messages T U → State T U → Loan T U → Type 0) : Type 0 where
  pub m : Messages T U
  pub s : State T U
  pub shown : Shows kept m s
  pub l : Loan T U
  pub out : s.loans loan.loan.number ≡ Some l
  pub its : l.publisher ≡ loan.loan.publisher
  pub step : Step m s l

module _ {T U F G : Type 0} {boxes : DomainBoxes F G} (f : Fields T U) (sound : IsDomain f) (kept : Kept T U F G)
    (view : keeping boxes f ≡ kept) (loan : SampleMut) (live : IsWritten kept loan) where
  pub from-shown : {Step : Messages T U → State T U → Loan T U → Type 0}
      → ((m : Messages T U) (s : State T U) (l : Loan T U) → Shows kept m s → s.loans loan.loan.number ≡ Some l
      → Step m s l)
      → Sent kept loan Step
  from-shown step =
      let it = always-shown f kept sound view in
      let has = (written-parts kept loan live).1 in
      let out : (it.1).loans loan.loan.number ≡ Some has.0 =
      ap (λ (t : State T U). t.loans loan.loan.number) (it.2).state ∙ has.1 in
      record {
        m = it.0;
        s = it.1;
        shown = it.2;
        l = has.0;
        out = out;
        its = has.2;
        step = step it.0 it.1 has.0 it.2 out;
      }
