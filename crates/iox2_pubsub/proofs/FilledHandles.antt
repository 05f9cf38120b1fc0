-- An unwritten loan that was filled at once, under the handle of the written one that it became.
use Rattle.std.proofs.Common.{ap, ◌≡◌, List, refl, sym, subst}
use Rattle.iox2_machine.specs.declared.key.Key.{Key}
use Rattle.iox2_domain.specs.Boxes.{DomainBoxes}
use Rattle.iox2_domain.specs.Fields.{Fields, keeping}
use Rattle.iox2_domain.specs.Invariant.{IsDomain}
use Rattle.iox2_domain.specs.Kept.{Kept}
use Rattle.iox2_domain.specs.LoanCalls.{WritesLoan}
use Rattle.iox2_domain.specs.declared.loan_slots.LoanAt.{LoanAt}
use Rattle.iox2_pubsub.specs.Leaves.{LeavesBut}
use Rattle.iox2_pubsub.specs.Live.{IsPublisherKey, IsUnblocked, IsUnwritten, IsWritten, NeverWaits, lender_key}
use Rattle.iox2_pubsub.specs.Live.{unwritten_key, unwritten_loan, written_key}
use Rattle.iox2_pubsub.specs.LoanCalls.{BecomesWritten, WritesAll}
use Rattle.iox2_pubsub.specs.Slices.{HasValues}
use Rattle.iox2_pubsub.specs.declared.sample_mut.SampleMut.{SampleMut}
use Rattle.iox2_pubsub.specs.declared.sample_mut_uninit.SampleMutUninit.{SampleMutUninit}
use Rattle.iox2_pubsub.proofs.FilledLengths.{filled-lengths}
use Rattle.iox2_pubsub.proofs.FilledLoans.{filled-header, filled-leaves, filled-left, filled-borrows, filled-live}
use Rattle.iox2_pubsub.proofs.FilledLoans.{filled-shown, filled-stays, filled-user-header, filled-values, filled-waits}

-- What each function says that makes an unwritten loan a written one with these values, in the place of its own.
pub record Filled {T U F G : Type 0} (old new : Kept T U F G) (loan : SampleMutUninit) (filled : SampleMut)
    (values : List T) : Type 0 where
  pub shown : WritesAll loan.loan.number values old new
  pub written : HasValues new filled.loan.number values
  pub becomes : BecomesWritten loan filled old new

module _ {T U F G : Type 0} {boxes : DomainBoxes F G} (f g : Fields T U) (sound : IsDomain f) (kept : Kept T U F G)
    (view : keeping boxes f ≡ kept) (loan : SampleMutUninit) (live : IsUnwritten kept loan)
    (values : List T) (writes : WritesLoan f g loan.loan.number values) where
  all-else : LeavesBut (unwritten_loan loan) kept (keeping boxes g)
  all-else = record {
    stays = filled-stays f g sound kept view loan.loan.number values writes;
    waits = filled-waits f g sound kept view loan.loan.number values writes;
    up_to_date = filled-leaves f g sound kept view loan.loan.number values writes;
    loans_left = filled-left f g sound kept view loan.loan.number values writes;
    borrows_left = filled-borrows f g sound kept view loan.loan.number values writes;
  }

  pub was-filled : (at : LoanAt) → at ≡ loan.loan
      → Filled kept (keeping boxes g) loan (record { service_id = loan.service_id; loan = at }) values
  was-filled at same =
      let publisher : at.publisher ≡ loan.loan.publisher = ap (λ (it : LoanAt). it.publisher) same in
      let number : at.number ≡ loan.loan.number = ap (λ (it : LoanAt). it.number) same in
      let filled : SampleMut = record { service_id = loan.service_id; loan = at } in
      let key : written_key filled ≡ unwritten_key loan =
      λ i. record { service_id = loan.service_id; port = publisher i; message = number i } in
      let out : IsWritten (keeping boxes g) filled =
      filled-live f g sound kept view loan.loan.number values writes loan filled refl refl publisher number same live in
      record {
        shown = filled-shown f g sound kept view loan.loan.number values writes;
        written = filled-values f g sound kept view loan.loan.number values writes at.number number;
        becomes = record {
          out = out;
          live = λ never. record {
            out = out;
            never_waits = subst (NeverWaits (keeping boxes g)) (sym key)
                (all-else.stays.never_wait (unwritten_key loan) never);
          };
          unblocked = λ free.
              subst (IsUnblocked (keeping boxes g)) (sym key) (all-else.stays.unblocked (unwritten_key loan) free tt);
          key = key;
          lent = λ lent. subst (λ (k : Key). IsPublisherKey (keeping boxes g) (lender_key k)) (sym key)
              (all-else.stays.publishers (lender_key (unwritten_key loan)) lent tt);
          lengths = λ cells reads has its.
              filled-lengths f g kept view loan.loan.number values writes cells has at.number number reads its;
          header = filled-header f g sound kept view loan.loan.number values writes (unwritten_key loan)
              (written_key filled) refl number;
          user_header = filled-user-header f g sound kept view loan.loan.number values writes (unwritten_key loan)
              (written_key filled) refl number;
          leaves = all-else;
        };
      }
