-- Which calls leave subscribers up to date, seen from outside.
use Rattle.std.proofs.Common.{◌≡◌, ℕ, refl, sym, ap, subst, Bool, Option, None, Result, Ok, Err}
use Rattle.std.specs.Prelude.{OnOk}
use Rattle.std.specs.declared.time.Duration.{Duration}
use Rattle.iox2_machine.specs.machine.Loans.{loan_discarded}
use Rattle.iox2_machine.specs.machine.Ports.{CreateSubscriber}
use Rattle.iox2_machine.specs.machine.PublisherUpdate.{UpdatePublisher}
use Rattle.iox2_machine.specs.machine.Receives.{ReceiveResult, Receive_error, Receive}
use Rattle.iox2_machine.specs.machine.Records.{Environment, Loan, BlockedSend, SubscriberSettings}
use Rattle.iox2_machine.specs.machine.Releases.{released}
use Rattle.iox2_machine.specs.machine.Sends.{SendResult, Send, Retry, GiveUp}
use Rattle.iox2_machine.specs.machine.State.{State, Messages, with_loan}
use Rattle.iox2_machine.specs.machine.SubscriberUpdate.{UpdateSubscriber}
use Rattle.iox2_machine.specs.declared.errors.ConnectionFailure.{ConnectionFailure}
use Rattle.iox2_machine.specs.declared.errors.LoanError.{LoanError}
use Rattle.iox2_machine.specs.declared.errors.ReceiveError.{ReceiveError}
use Rattle.iox2_machine.specs.declared.errors.SubscriberCreateError.{SubscriberCreateError}
use Rattle.iox2_laws.proofs.UpToDate.{IsUpdated, UpdatedStay, same_subscribers, grant_loan_subscribers}
use Rattle.iox2_laws.proofs.UpToDate.{update_publisher_subscribers, send_subscribers, retry_subscribers}
use Rattle.iox2_laws.proofs.UpToDate.{give_up_subscribers, update_subscriber_updated, update_leaves_updated}
use Rattle.iox2_laws.proofs.UpToDate.{receive_updated, receive_leaves_updated, released_updated}
use Rattle.iox2_laws.proofs.UpToDate.{create_subscriber_updated}
use Rattle.iox2_domain.specs.Kept.{Kept}
use Rattle.iox2_domain.specs.Lending.{LoanCall, loan_memory}
use Rattle.iox2_domain.specs.Questions.{IsAnswer}
use Rattle.iox2_domain.specs.Shows.{Shows}
use Rattle.iox2_pubsub.specs.ConnectedPorts.{Connects}
use Rattle.iox2_pubsub.specs.DepartedPorts.{HasDepartedRoom}
use Rattle.iox2_pubsub.specs.Live.{HasRoomFor, IsConnected, IsLiveSubscriber, IsUpToDate, RoomStays, UpToDateStay}
use Rattle.iox2_pubsub.specs.UpdateCalls.{returned_failure}
use Rattle.iox2_pubsub.specs.declared.subscriber.Subscriber.{Subscriber}
use Rattle.iox2_pubsub.proofs.ConnectedSends.{update-publisher-connected}
use Rattle.iox2_pubsub.proofs.SendsServe.{send-connections}
use Rattle.iox2_pubsub.proofs.ConnectionsStay.{ConnectsStay, stays-itself, grant-connections, set-connections}
use Rattle.iox2_pubsub.proofs.ConnectionsStay.{discard-connections, retry-connections, give-up-connections}
use Rattle.iox2_pubsub.proofs.ConnectionsStay.{update-subscriber-connections, receive-connections, released-connections}
use Rattle.iox2_pubsub.proofs.ConnectionsStay.{create-subscriber-connections}
use Rattle.iox2_pubsub.proofs.DepartedStays.{RoomStays as MachineRoomStays, room-itself, set-room, discard-room}
use Rattle.iox2_pubsub.proofs.DepartedStays.{grant-room, update-publisher-room, send-room, retry-room, give-up-room}
use Rattle.iox2_pubsub.proofs.DepartedStays.{update-subscriber-room, receive-room, released-room}
use Rattle.iox2_pubsub.proofs.DepartedStays.{create-subscriber-room}
use Rattle.iox2_pubsub.proofs.WaitingShown.{live-open}

module _ {T U F G : Type 0} (kept : Kept T U F G) (m : Messages T U) (s : State T U) (shown : Shows kept m s)
    (subscriber : Subscriber) where
  pub up-to-date-in : IsUpToDate kept subscriber → IsUpdated s subscriber.id
  unfolding IsUpToDate
  up-to-date-in is = subst (λ (t : State T U). IsUpdated t subscriber.id) (sym shown.state) is

  pub up-to-date : IsUpdated s subscriber.id → IsUpToDate kept subscriber
  unfolding IsUpToDate
  up-to-date is = subst (λ (t : State T U). IsUpdated t subscriber.id) shown.state is

module _ {T U F G : Type 0} (kept : Kept T U F G) (m : Messages T U) (s : State T U) (shown : Shows kept m s) (p : ℕ)
    (subscriber : Subscriber) where
  pub connected-in : IsConnected kept p subscriber → Connects s p subscriber.id
  unfolding IsConnected
  connected-in is = subst (λ (t : State T U). Connects t p subscriber.id) (sym shown.state) is

  pub connected : Connects s p subscriber.id → IsConnected kept p subscriber
  unfolding IsConnected
  connected is = subst (λ (t : State T U). Connects t p subscriber.id) shown.state is

module _ {T U F G : Type 0} (kept : Kept T U F G) (m : Messages T U) (s : State T U) (shown : Shows kept m s)
    (subscriber : Subscriber) (closes : ℕ) where
  pub room-in : HasRoomFor kept subscriber closes → HasDepartedRoom s subscriber.id closes
  unfolding HasRoomFor
  room-in has = subst (λ (t : State T U). HasDepartedRoom t subscriber.id closes) (sym shown.state) has

  pub room : HasDepartedRoom s subscriber.id closes → HasRoomFor kept subscriber closes
  unfolding HasRoomFor
  room has = subst (λ (t : State T U). HasDepartedRoom t subscriber.id closes) shown.state has

module _ {T U F G : Type 0} (old new : Kept T U F G) (m m' : Messages T U) (s s' : State T U) (shown : Shows old m s)
    (shown' : Shows new m' s') where
  -- where each subscriber has as much room in the machine
  pub rooms-stay : MachineRoomStays s s' → RoomStays old new
  rooms-stay rooms subscriber closes has =
      room new m' s' shown' subscriber closes (rooms subscriber.id closes (room-in old m s shown subscriber closes has))

  pub stay : UpdatedStay s s' → ConnectsStay s s' → MachineRoomStays s s' → UpToDateStay old new
  stay each connects rooms = record {
    room = rooms-stay rooms;
    subscribers = λ subscriber is.
        up-to-date new m' s' shown' subscriber (each subscriber.id (up-to-date-in old m s shown subscriber is));
    connections = λ publisher subscriber is. connected new m' s' shown' publisher subscriber
        (connects publisher subscriber.id (connected-in old m s shown publisher subscriber is));
  }

  pub loan-leaves : {A : Type 0} (is_default : U → Type 0) (checks : Bool) (len p : ℕ) (answer : Result A LoanError)
      → LoanCall is_default checks len s p answer s' → UpToDateStay old new
  loan-leaves is_default checks len p (Ok a) h =
      stay (same_subscribers s s' (grant_loan_subscribers (loan_memory s p) h.0 checks len s p s' None h.2))
      (grant-connections (loan_memory s p) h.0 checks len s p s' None h.2)
      (grant-room (loan_memory s p) h.0 checks len s p s' None h.2)
  loan-leaves is_default checks len p (Err e) h = stay
      (same_subscribers s s' (ap (λ (t : State T U). t.subscribers) h.0)) (stays-itself s s' h.0) (room-itself s s' h.0)

  pub send-leaves : (environment : Environment) (n : ℕ) (l : Loan T U) (result : SendResult)
      → Send environment s n l s' result → UpToDateStay old new
  send-leaves environment n l result h = stay (same_subscribers s s' (send_subscribers environment s n l s' result h))
      (send-connections environment s n l s' result shown.well_formed h) (send-room environment s n l s' result h)

  pub retry-leaves : (environment : Environment) (p : ℕ) (b : BlockedSend) (elapsed : Duration) (result : SendResult)
      → Retry environment s p b elapsed s' result → UpToDateStay old new
  retry-leaves environment p b elapsed result h =
      stay (same_subscribers s s' (retry_subscribers environment s p b elapsed s' result h))
      (retry-connections environment s p b elapsed s' result h) (retry-room environment s p b elapsed s' result h)

  pub give-up-leaves : (environment : Environment) (p : ℕ) (b : BlockedSend) (result : SendResult)
      → GiveUp environment s p b s' result → UpToDateStay old new
  give-up-leaves environment p b result h =
      stay (same_subscribers s s' (give_up_subscribers environment s p b s' result h))
      (give-up-connections environment s p b s' result h) (give-up-room environment s p b s' result h)

  pub publisher-update-leaves : (environment : Environment) (p : ℕ) (failure : Option ConnectionFailure)
      → UpdatePublisher environment s p s' failure → UpToDateStay old new
  publisher-update-leaves environment p failure h =
      stay (same_subscribers s s' (update_publisher_subscribers environment s p s' failure h))
      (λ i q c. (update-publisher-connected environment s shown.well_formed i q c p s' failure h).0)
      (update-publisher-room environment s p s' failure h)

  pub subscriber-update-leaves : (environment : Environment) (q : ℕ) (failure : Option ConnectionFailure)
      → UpdateSubscriber environment s q s' failure → UpToDateStay old new
  subscriber-update-leaves environment q failure h = stay (update_subscriber_updated environment s q s' failure h)
      (update-subscriber-connections environment s q s' failure shown.well_formed h)
      (update-subscriber-room environment s q s' failure shown.well_formed h)

  pub release-leaves : (p q n : ℕ) → s' ≡ released s p q n → UpToDateStay old new
  release-leaves p q n is = stay (subst (UpdatedStay s) (sym is) (released_updated s p q n))
      (subst (ConnectsStay s) (sym is) (released-connections s p q n))
      (subst (MachineRoomStays s) (sym is) (released-room s p q n))

  pub creation-leaves : (environment : Environment) (given : SubscriberSettings)
      (refusal : Option SubscriberCreateError) → CreateSubscriber environment s given s' refusal → UpToDateStay old new
  creation-leaves environment given refusal h =
      stay (create_subscriber_updated environment s shown.well_formed given s' refusal h)
      (create-subscriber-connections environment s shown.well_formed given s' refusal h)
      (create-subscriber-room environment s shown.well_formed given s' refusal h)

  module _ (environment : Environment) (subscriber : Subscriber) where
    pub receive-leaves : (result : ReceiveResult) → Receive environment s subscriber.id s' result → UpToDateStay old new
    receive-leaves result h = stay (receive_updated environment s subscriber.id s' result h)
        (receive-connections environment s subscriber.id s' result shown.well_formed h)
        (receive-room environment s subscriber.id s' result shown.well_formed h)

    pub received-updated : IsLiveSubscriber old subscriber → (result : ReceiveResult)
        → ((e : ReceiveError) → result ≡ Receive_error e → ⊥) → Receive environment s subscriber.id s' result
        → IsUpToDate new subscriber
    received-updated live result fine h =
        let has = live-open old new m m' s s' shown shown' subscriber live.there in
        up-to-date new m' s' shown' subscriber
        (receive_leaves_updated environment s subscriber.id s' result fine has.0 has.1 has.2 h)

    asked-updated : IsLiveSubscriber old subscriber → UpdateSubscriber environment s subscriber.id s' None
        → IsUpToDate new subscriber
    asked-updated live h =
        let has = live-open old new m m' s s' shown shown' subscriber live.there in
        up-to-date new m' s' shown' subscriber
        (update_leaves_updated environment s subscriber.id s' None refl has.0 has.1 has.2 h)

    pub answers-updated : IsLiveSubscriber old subscriber → (result : Result Bool ConnectionFailure)
        → IsAnswer environment s subscriber.id result s' → OnOk result (IsUpToDate new subscriber)
    answers-updated live (Ok waits) h = asked-updated live h.0
    answers-updated live (Err e) h = tt

    -- and so is one whose update by call didn't fail
    pub update-updated : {A : Type 0} → IsLiveSubscriber old subscriber → (result : Result A ConnectionFailure)
        → UpdateSubscriber environment s subscriber.id s' (returned_failure result)
        → OnOk result (IsUpToDate new subscriber)
    update-updated live (Ok answer) h = asked-updated live h
    update-updated live (Err e) h = tt

module _ {T U F G : Type 0} (old new : Kept T U F G) (m : Messages T U) (s : State T U) (shown : Shows old m s)
    (n : ℕ) where
  pub set-leaves : (l : Option (Loan T U)) → Shows new m (with_loan s n l) → UpToDateStay old new
  set-leaves l shown' = stay old new m m s (with_loan s n l) shown shown' (same_subscribers s (with_loan s n l) refl)
      (set-connections s n l) (set-room s n l)

  pub discard-leaves : (l : Loan T U) → Shows new m (loan_discarded s n l) → UpToDateStay old new
  discard-leaves l shown' = stay old new m m s (loan_discarded s n l) shown shown'
      (same_subscribers s (loan_discarded s n l) refl) (discard-connections s n l) (discard-room s n l)
