-- What updates, questions and receives leave of a domain, told from their steps in the states that the domain shows.
use Rattle.std.proofs.Common.{◌≡◌, ℕ, Bool, Option, Result}
use Rattle.std.specs.Prelude.{OnOk}
use Rattle.iox2_machine.specs.machine.PublisherUpdate.{UpdatePublisher}
use Rattle.iox2_machine.specs.machine.Receives.{ReceiveResult, Receive}
use Rattle.iox2_machine.specs.machine.Records.{Environment}
use Rattle.iox2_machine.specs.machine.State.{State, Messages}
use Rattle.iox2_machine.specs.machine.SubscriberUpdate.{UpdateSubscriber}
use Rattle.iox2_machine.specs.declared.errors.ConnectionFailure.{ConnectionFailure}
use Rattle.iox2_laws.proofs.LoanKeeping.{update_publisher_loans, update_subscriber_loans}
use Rattle.iox2_laws.proofs.PortsStay.{update_publisher_stays, update_subscriber_stays}
use Rattle.iox2_laws.proofs.Waits.{update_publisher_waits, update_subscriber_waits}
use Rattle.iox2_domain.specs.Boxes.{DomainBoxes}
use Rattle.iox2_domain.specs.Fields.{Fields, keeping}
use Rattle.iox2_domain.specs.Invariant.{IsDomain}
use Rattle.iox2_domain.specs.Kept.{Kept}
use Rattle.iox2_domain.specs.Questions.{IsAnswer}
use Rattle.iox2_domain.specs.Shows.{Shows}
use Rattle.iox2_pubsub.specs.BorrowsLeft.{BorrowsLeftStay}
use Rattle.iox2_pubsub.specs.Leaves.{LeavesAdding, LeavesButWaiting}
use Rattle.iox2_pubsub.specs.Live.{IsLiveSubscriber, IsUpToDate, No_item}
use Rattle.iox2_pubsub.specs.declared.subscriber.Subscriber.{Subscriber}
use Rattle.iox2_pubsub.proofs.CallsStay.{always-shown, receive-stays}
use Rattle.iox2_pubsub.proofs.BorrowsLeftShown.{update-publisher-borrows, update-subscriber-borrows}
use Rattle.iox2_pubsub.proofs.LoansLeftShown.{receive-left, update-publisher-left, update-subscriber-left}
use Rattle.iox2_pubsub.proofs.QuestionShown.{answered}
use Rattle.iox2_pubsub.proofs.StaysBut.{BoxesStayBut, IsSpared}
use Rattle.iox2_pubsub.proofs.UpdatesStay.{updates-stay}
use Rattle.iox2_pubsub.proofs.UpToDateShown.{answers-updated, publisher-update-leaves, receive-leaves}
use Rattle.iox2_pubsub.proofs.UpToDateShown.{subscriber-update-leaves}
use Rattle.iox2_pubsub.proofs.WaitingShown.{publisher-update-adds, received-no-more, received-others}
use Rattle.iox2_pubsub.proofs.WaitingShown.{subscriber-update-adds, update-no-more, update-others}

module _ {T U F G : Type 0} {boxes : DomainBoxes F G} (f : Fields T U) (old new : Kept T U F G) (sound : IsDomain f)
    (view : keeping boxes f ≡ old) (boxed : BoxesStayBut No_item old new) (environment : Environment) where
  -- a publisher's update
  pub publisher-update-left : (p : ℕ) (failure : Option ConnectionFailure)
      → ((m : Messages T U) (s : State T U) → Shows old m s → (s' : State T U) × Shows new m s'
      × UpdatePublisher environment s p s' failure) → LeavesAdding (old.config).history_size old new
  publisher-update-left p failure updates =
      let it = always-shown f old sound view in
      let step = updates it.0 it.1 it.2 in
      record {
        stays = updates-stay old new it.0 it.1 step.0 it.2 step.1
            (update_publisher_stays environment it.1 p step.0 failure step.2)
            (update_publisher_loans environment it.1 p step.0 failure step.2)
            (update_publisher_waits (IsSpared No_item) environment it.1 p step.0 failure step.2) boxed;
        adds = publisher-update-adds old new it.0 it.0 it.1 step.0 it.2 step.1 environment p failure step.2;
        up_to_date = publisher-update-leaves old new it.0 it.0 it.1 step.0 it.2 step.1 environment p failure step.2;
        loans_left = update-publisher-left old new it.0 it.0 it.1 step.0 it.2 step.1 environment p failure step.2;
        borrows_left = update-publisher-borrows old new it.0 it.0 it.1 step.0 it.2 step.1 environment p failure step.2;
      }

  module _ (subscriber : Subscriber) where
    -- one step of a subscriber's update
    update-step-left : (m : Messages T U) (s s' : State T U) → Shows old m s → Shows new m s'
        → (failure : Option ConnectionFailure) → UpdateSubscriber environment s subscriber.id s' failure
        → LeavesButWaiting subscriber old new
    update-step-left m s s' shown shown' failure h = record {
      stays = updates-stay old new m s s' shown shown'
          (update_subscriber_stays environment s subscriber.id s' failure h)
          (update_subscriber_loans environment s subscriber.id s' failure h)
          (update_subscriber_waits (IsSpared No_item) environment s subscriber.id s' failure h) boxed;
      others = update-others old new m m s s' shown shown' environment subscriber (λ n entry at. at) failure h;
      no_more = update-no-more old new m m s s' shown shown' environment subscriber failure h;
      up_to_date = subscriber-update-leaves old new m m s s' shown shown' environment subscriber.id failure h;
      loans_left = update-subscriber-left old new m m s s' shown shown' environment subscriber.id failure h;
    }

    -- a subscriber's update
    pub subscriber-update-left : (failure : Option ConnectionFailure)
        → ((m : Messages T U) (s : State T U) → Shows old m s → (s' : State T U) × Shows new m s'
        × UpdateSubscriber environment s subscriber.id s' failure) → LeavesAdding 0 old new
    subscriber-update-left failure updates =
        let it = always-shown f old sound view in
        let step = updates it.0 it.1 it.2 in
        let left = update-step-left it.0 it.1 step.0 it.2 step.1 failure step.2 in
        record {
          stays = left.stays;
          adds =
              subscriber-update-adds old new it.0 it.0 it.1 step.0 it.2 step.1 environment subscriber.id failure step.2;
          up_to_date = left.up_to_date;
          loans_left = left.loans_left;
          borrows_left = update-subscriber-borrows old new it.0 it.0 it.1 step.0 it.2 step.1 environment subscriber.id
              failure step.2;
        }

    -- a question
    pub question-left : (result : Result Bool ConnectionFailure)
        → ((m : Messages T U) (s : State T U) → Shows old m s → (s' : State T U) × Shows new m s'
        × IsAnswer environment s subscriber.id result s') → LeavesButWaiting subscriber old new
    question-left result answers =
        let it = always-shown f old sound view in
        let step = answers it.0 it.1 it.2 in
        let has = answered environment it.1 subscriber.id result step.0 step.2 in
        update-step-left it.0 it.1 step.0 it.2 step.1 has.0 (has.2).0

    -- it borrows nothing
    pub question-borrows : (result : Result Bool ConnectionFailure)
        → ((m : Messages T U) (s : State T U) → Shows old m s → (s' : State T U) × Shows new m s'
        × IsAnswer environment s subscriber.id result s') → BorrowsLeftStay old new
    question-borrows result answers =
        let it = always-shown f old sound view in
        let step = answers it.0 it.1 it.2 in
        let has = answered environment it.1 subscriber.id result step.0 step.2 in
        update-subscriber-borrows old new it.0 it.0 it.1 step.0 it.2 step.1 environment subscriber.id has.0 (has.2).0

    -- after an answer the subscriber is up to date
    pub question-updated : IsLiveSubscriber old subscriber → (result : Result Bool ConnectionFailure)
        → ((m : Messages T U) (s : State T U) → Shows old m s → (s' : State T U) × Shows new m s'
        × IsAnswer environment s subscriber.id result s') → OnOk result (IsUpToDate new subscriber)
    question-updated live result answers =
        let it = always-shown f old sound view in
        let step = answers it.0 it.1 it.2 in
        answers-updated old new it.0 it.0 it.1 step.0 it.2 step.1 environment subscriber live result step.2

    -- a receive
    pub reception-left : IsLiveSubscriber old subscriber → (result : ReceiveResult)
        → ((m : Messages T U) (s : State T U) → Shows old m s → (s' : State T U) × Shows new m s'
        × Receive environment s subscriber.id s' result) → LeavesButWaiting subscriber old new
    reception-left live result receives =
        let it = always-shown f old sound view in
        let step = receives it.0 it.1 it.2 in
        record {
          stays = receive-stays old new it.0 it.1 it.2 environment subscriber.id result step.0 step.1 step.2 boxed;
          others = received-others old new it.0 it.0 it.1 step.0 it.2 step.1 environment subscriber
              (λ n entry at. at) result step.2;
          no_more =
              received-no-more old new it.0 it.0 it.1 step.0 it.2 step.1 environment subscriber live result step.2;
          up_to_date = receive-leaves old new it.0 it.0 it.1 step.0 it.2 step.1 environment subscriber result step.2;
          loans_left = receive-left old new it.0 it.0 it.1 step.0 it.2 step.1 environment subscriber.id result step.2;
        }
