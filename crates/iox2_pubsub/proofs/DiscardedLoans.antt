-- What a discard of a loan shows and leaves, written or not.
use Rattle.std.proofs.Common.{◌≡◌, refl}
use Rattle.iox2_machine.specs.declared.key.Key.{Key}
use Rattle.iox2_machine.specs.machine.Loans.{loan_discarded}
use Rattle.iox2_domain.specs.Boxes.{DomainBoxes}
use Rattle.iox2_domain.specs.Discards.{DiscardsLoan}
use Rattle.iox2_domain.specs.Fields.{Fields, keeping}
use Rattle.iox2_domain.specs.Invariant.{IsDomain}
use Rattle.iox2_domain.specs.Kept.{Kept}
use Rattle.iox2_domain.specs.Shows.{Shows}
use Rattle.iox2_pubsub.specs.Live.{IsLoanKey}
use Rattle.iox2_pubsub.specs.LoanCalls.{IsDiscarded}
use Rattle.iox2_pubsub.proofs.CallsStay.{loan-shown}
use Rattle.iox2_pubsub.proofs.DiscardShows.{discard-shows, discard-stays, discard-spends}
use Rattle.iox2_pubsub.proofs.BorrowsLeftShown.{discard-borrows}
use Rattle.iox2_pubsub.proofs.LoansLeftShown.{discard-left, discard-gives}
use Rattle.iox2_pubsub.proofs.StaysBut.{same-boxes}
use Rattle.iox2_pubsub.proofs.UpToDateShown.{discard-leaves}
use Rattle.iox2_pubsub.proofs.WaitingShown.{discard-waits}

module _ {T U F G : Type 0} {boxes : DomainBoxes F G} (f g : Fields T U) (sound : IsDomain f) (kept : Kept T U F G)
    (view : keeping boxes f ≡ kept) (key : Key) (live : IsLoanKey kept key)
    (discards : DiscardsLoan f g key.message) where
  pub discarded : IsDiscarded key kept (keeping boxes g)
  discarded =
      let new : Kept T U F G = keeping boxes g in
      let shown = discard-shows f g kept view key.message discards in
      let it = loan-shown f kept sound view key live in
      let l = (it.3).0 in
      let step : Shows new it.0 (loan_discarded it.1 key.message l) = shown it.0 it.1 l it.2 (it.3).1 in
      record {
        discarded = shown;
        spent = discard-spends kept new it.0 it.1 it.2 key.message l step key refl;
        given_back = discard-gives kept new it.0 it.0 it.1 _ it.2 step key.message l (it.3).1 key.port (it.3).2 refl;
        leaves = record {
          stays = discard-stays kept new it.0 it.1 it.2 key.message l step
              (same-boxes f g kept view sound discards.2.places);
          waits = discard-waits kept new it.0 it.1 it.2 key.message l step;
          up_to_date = discard-leaves kept new it.0 it.1 it.2 key.message l step;
          loans_left = discard-left kept new it.0 it.0 it.1 _ it.2 step key.message l (it.3).1 refl;
          borrows_left = discard-borrows kept new it.0 it.0 it.1 _ it.2 step key.message l refl;
        };
      }
