-- How far a blocked send still has to go, and what there is when it has ended.
use Rattle.std.specs.Prelude.{ℕ, List, [], ◌∷◌, ◌++◌, length, ◌≡◌, ◌<◌, ◌⊎◌, IfErr, IfOk, IsOk}
use Rattle.std.specs.Option.{option_and_then, option_map_or}
use Rattle.std.specs.declared.option.Option.{Option}
use Rattle.std.specs.declared.option.Option.TheVariants.{Some}
use Rattle.std.specs.declared.result.Result.{Result}
use Rattle.iox2_machine.specs.machine.Places.{occupant}
use Rattle.iox2_machine.specs.machine.Records.{Publisher as MachinePublisher, BlockedSend as MachineBlocked}
use Rattle.iox2_machine.specs.machine.State.{State}
use Rattle.iox2_machine.specs.declared.errors.SendError.{SendError}
use Rattle.iox2_machine.specs.declared.errors.SendError.TheVariants.{UnableToDeliver}
use Rattle.iox2_domain.specs.Kept.{Kept, state_of}
use Rattle.iox2_pubsub.specs.Handles.{blocked_sender, buffer_size_of, written_lender}
use Rattle.iox2_pubsub.specs.Live.{AddAtMost, AllFrom, HasItsBuffer, HasPassed, IsBlockedSend, IsConnected, IsPending}
use Rattle.iox2_pubsub.specs.Live.{IsServed, IsServedOrPending, IsUnblocked, NeverFails, OthersSend, Stays, StaysBut}
use Rattle.iox2_pubsub.specs.Live.{UpToDateStay, WaitsAsBefore, blocked_key, blocked_item, lender_key, written_key}
use Rattle.iox2_pubsub.specs.BorrowsLeft.{BorrowsLeftStay}
use Rattle.iox2_pubsub.specs.LoansLeft.{HasOneMoreLeft, LoansLeftStay}
use Rattle.iox2_pubsub.specs.RoomyPublishers.{HasRoomAt}
use Rattle.iox2_pubsub.specs.SendCalls.{IfBlocked, IsDelivered}
use Rattle.iox2_pubsub.specs.declared.blocked_send.BlockedSend.{BlockedSend}
use Rattle.iox2_pubsub.specs.declared.sample_mut.SampleMut.{SampleMut}
use Rattle.iox2_pubsub.specs.declared.send_outcome.SendOutcome.{SendOutcome}
use Rattle.iox2_pubsub.specs.declared.subscriber.Subscriber.{Subscriber}

module _ {T U : Type 0} where
  -- At how many places the publisher p has receivers before it from the one on that it waits for, empty places counted;
  -- at none if no send of it is blocked.
  abbrev pub places_ahead : State T U → (p : ℕ) → ℕ
  places_ahead s p = option_map_or
      (λ (x : MachinePublisher). option_map_or (λ (b : MachineBlocked). length b.ends) x.blocked 0) (s.publishers p) 0

  -- The subscriber that the blocked send of the publisher p waits for; none if no send of it is blocked.
  abbrev pub waits_for : State T U → (p : ℕ) → Option ℕ
  waits_for s p = option_and_then (λ (x : MachinePublisher).
      option_and_then (λ (b : MachineBlocked). occupant x.ends b.place) x.blocked) (s.publishers p)

-- This is so of each of these.
abbrev pub AreEach : (Subscriber → Type 0) → List Subscriber → Type 0
AreEach Is [] = Unit {0}
AreEach Is (subscriber ∷ others) = Is subscriber × AreEach Is others

module _ {T U F G : Type 0} where
  -- At how many places the blocked send may meet a receiver yet, the one that it waits for among them; at none if it
  -- isn't blocked.
  unfoldable pub receivers_ahead : Kept T U F G → BlockedSend → ℕ
  receivers_ahead domain blocked = places_ahead (state_of domain) blocked.loan.publisher

  -- What was live before a send blocked is live and reads as it did then: before means a state in which no send of its
  -- publisher was blocked, and from which all except the blocked send stayed.
  unfoldable pub StaysSince : BlockedSend → (old new : Kept T U F G) → Type 0
  StaysSince blocked old new = (before : Kept T U F G) → IsUnblocked before (lender_key (blocked_key blocked))
      → StaysBut (blocked_item blocked) before old → Stays before new

  -- The blocked send went on, and ended so or is blocked again, under the same key. It fails only if a handler fails
  -- it. When it has ended its publisher is free again and has one loan more left, and what was live before the send
  -- blocked is live.
  pub record BlockedSendGoesOn (waited : BlockedSend) (result : Result SendOutcome SendError)
      (old new : Kept T U F G) : Type 0 where
    pub blocked : IfOk result
        (λ outcome. IfBlocked outcome (λ again. IsBlockedSend new again × (blocked_key again ≡ blocked_key waited)))
    pub ok : NeverFails old (blocked_sender waited) → IsOk result
    pub failed : IfErr result (λ error. error ≡ UnableToDeliver)
    pub freed : IfOk result IsDelivered → IsUnblocked new (lender_key (blocked_key waited))
    pub loans_freed : IfOk result IsDelivered → (loan : SampleMut) → written_lender loan ≡ blocked_sender waited
        → IsUnblocked new (written_key loan)
    pub adds : AddAtMost 1 old new
    pub up_to_date : UpToDateStay old new
    pub loans_left : LoansLeftStay old new
    pub borrows_left : BorrowsLeftStay old new
    pub given_back : IfOk result IsDelivered → HasOneMoreLeft (blocked_sender waited) old new
    pub stays : StaysBut (blocked_item waited) old new
    pub stays_since : IfOk result IsDelivered → StaysSince waited old new
    pub since_again : IfOk result (λ outcome.
        IfBlocked outcome (λ again. (after : Kept T U F G) → StaysSince again new after → StaysSince waited old after))

  -- The send waits for this subscriber.
  unfoldable pub IsNext : Kept T U F G → BlockedSend → Subscriber → Type 0
  IsNext domain blocked subscriber = waits_for (state_of domain) blocked.loan.publisher ≡ Some subscriber.id

  -- The send waits for another than this subscriber.
  abbrev pub IsNotNext : Kept T U F G → BlockedSend → Subscriber → Type 0
  IsNotNext domain blocked subscriber = IsNext domain blocked subscriber → ⊥

  -- The send comes to the subscriber no more, or finds room there.
  abbrev pub IsPastOrRoomy : Kept T U F G → BlockedSend → Subscriber → Type 0
  IsPastOrRoomy domain blocked subscriber =
      HasPassed domain blocked subscriber ⊎ HasRoomAt domain (blocked_sender blocked) subscriber

  -- The subscriber is left as it was, and the send comes to it no more.
  abbrev pub IsLeftBehind : Subscriber → Result SendOutcome SendError → (old new : Kept T U F G) → Type 0
  IsLeftBehind subscriber result old new = WaitsAsBefore old new subscriber
      × IfOk result (λ outcome. IfBlocked outcome (λ again. HasPassed new again subscriber))

  -- The blocked send went on, and was tried at each of these subscribers that it had before it. When it has ended, also
  -- with an error, it has served them, and where it is blocked again it has served each or has it before it still.
  -- Those behind it and what waits of other publishers are left as they were.
  pub record Resumes (IsTried : Subscriber → Type 0) (waited : BlockedSend) (result : Result SendOutcome SendError)
      (old new : Kept T U F G) : Type 0 where
    pub serves : (subscriber : Subscriber) (values : List T) → IsTried subscriber
        → IsPending old waited subscriber values → IsConnected old (blocked_sender waited) subscriber
        → IfOk result (λ outcome. IsDelivered outcome → IsServed old new (blocked_sender waited) subscriber values)
    pub fails : (subscriber : Subscriber) (values : List T) → IsTried subscriber
        → IsPending old waited subscriber values → IsConnected old (blocked_sender waited) subscriber
        → IfErr result (λ error. IsServed old new (blocked_sender waited) subscriber values)
    pub joins : (subscriber : Subscriber) (values : List T) (earlier : List (List T)) → IsTried subscriber
        → IsPending old waited subscriber values → IsConnected old (blocked_sender waited) subscriber
        → AllFrom old (blocked_sender waited) subscriber earlier → HasItsBuffer old subscriber
        → length earlier < buffer_size_of subscriber
        → IfOk result
        (λ outcome. IsDelivered outcome → AllFrom new (blocked_sender waited) subscriber (earlier ++ values ∷ []))
    pub pending : (subscriber : Subscriber) (values : List T) → IsTried subscriber
        → IsPending old waited subscriber values → IsConnected old (blocked_sender waited) subscriber
        → IfOk result (λ outcome. IfBlocked outcome (λ again. IsServedOrPending old new again subscriber values))
    pub passed : (subscriber : Subscriber) → HasPassed old waited subscriber → IsLeftBehind subscriber result old new
    pub others : OthersSend (blocked_sender waited) old new
