-- What a call says of a blocked send that it took up again, from what its step did.
use Rattle.std.proofs.Common.{◌≡◌, Result, refl}
use Rattle.std.specs.Prelude.{IfErr, IfOk, IsOk}
use Rattle.iox2_machine.specs.declared.errors.SendError.{SendError}
use Rattle.iox2_machine.specs.declared.errors.SendError.TheVariants.{UnableToDeliver}
use Rattle.iox2_machine.specs.declared.key.Key.{Key}
use Rattle.iox2_domain.specs.Kept.{Kept}
use Rattle.iox2_pubsub.specs.BlockedSends.{BlockedSendGoesOn, StaysSince}
use Rattle.iox2_pubsub.specs.Live.{AddAtMost, IsBlockedSend, IsUnblocked, NeverFails, StaysBut, UpToDateStay}
use Rattle.iox2_pubsub.specs.Live.{blocked_key, blocked_item, lender_key, written_key}
use Rattle.iox2_pubsub.specs.BorrowsLeft.{BorrowsLeftStay}
use Rattle.iox2_pubsub.specs.LoansLeft.{HasOneMoreLeft, LoansLeftStay}
use Rattle.iox2_pubsub.specs.SendCalls.{IfBlocked, IsDelivered}
use Rattle.iox2_pubsub.specs.declared.blocked_send.BlockedSend.{BlockedSend}
use Rattle.iox2_pubsub.specs.declared.send_outcome.SendOutcome.{SendOutcome}
use Rattle.iox2_pubsub.proofs.LiveParts.{unblocked-alike}
use Rattle.iox2_pubsub.proofs.ReceiversAhead.{since-again, where-blocked}
use Rattle.iox2_pubsub.proofs.StaysOn.{stays-since-block}

module _ {T U F G : Type 0} (kept new : Kept T U F G) (waited : BlockedSend)
    (outcome : Result SendOutcome SendError) where
  -- what its step did
  pub record WentOn : Type 0 where
    pub stays : StaysBut (blocked_item waited) kept new
    pub again : IfOk outcome
        (λ came. IfBlocked came (λ it. IsBlockedSend new it × (blocked_key it ≡ blocked_key waited)))
    pub unfailed : NeverFails kept waited.loan.publisher → IsOk outcome
    pub failed : IfErr outcome (λ error. error ≡ UnableToDeliver)
    pub frees : IfOk outcome IsDelivered → (key : Key) → key.port ≡ waited.loan.publisher → IsUnblocked new key
    pub adds : AddAtMost 1 kept new
    pub up_to_date : UpToDateStay kept new
    pub loans_left : LoansLeftStay kept new
    pub borrows_left : BorrowsLeftStay kept new
    pub given_back : IfOk outcome IsDelivered → HasOneMoreLeft waited.loan.publisher kept new

  stays-since : WentOn → IfOk outcome IsDelivered → StaysSince waited kept new
  unfolding StaysSince
  stays-since went ends start free before =
      stays-since-block waited.loan.publisher start kept new (λ key its.
      unblocked-alike start (lender_key (blocked_key waited)) key its free) before went.stays (went.frees ends)

  pub went-on : IfOk outcome (λ came. IfBlocked came (λ it. it ≡ waited)) → WentOn
      → BlockedSendGoesOn waited outcome kept new
  went-on its went = record {
    blocked = went.again;
    ok = went.unfailed;
    failed = went.failed;
    freed = λ ends. went.frees ends (lender_key (blocked_key waited)) refl;
    loans_freed = λ ends loan lent. went.frees ends (written_key loan) lent;
    adds = went.adds;
    up_to_date = went.up_to_date;
    loans_left = went.loans_left;
    borrows_left = went.borrows_left;
    given_back = went.given_back;
    stays = went.stays;
    stays_since = stays-since went;
    since_again = where-blocked (λ (again : BlockedSend). (after : Kept T U F G) → StaysSince again new after
        → StaysSince waited kept after) waited outcome its (λ waits. since-again kept new waited went.stays);
  }
