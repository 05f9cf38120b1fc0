-- What a call leaves as it was.
use Rattle.iox2_domain.specs.Kept.{Kept}
use Rattle.std.specs.Prelude.{ℕ, ◌≡◌, ◌≢◌, ◌≤◌, true, false}
use Rattle.iox2_machine.specs.machine.Channel.{Channel, is_closed, is_in_state}
use Rattle.iox2_pubsub.specs.Live.{AddAtMost, ConnectionsStay, IsConnected, IsUpToDate, Item, No_item}
use Rattle.iox2_pubsub.specs.Live.{OthersStayUpToDate, OthersWait, RoomStays, Stays, StaysBut, UpToDateStay}
use Rattle.iox2_pubsub.specs.Live.{WaitingStays, subscriber_port, waiting}
use Rattle.iox2_pubsub.specs.BorrowsLeft.{BorrowsLeftStay}
use Rattle.iox2_pubsub.specs.LoansLeft.{LoansLeftStay, TakesOneLeft}
use Rattle.iox2_pubsub.specs.declared.publisher.Publisher.{Publisher}
use Rattle.iox2_pubsub.specs.declared.subscriber.Subscriber.{Subscriber}

-- The call leaves all as it was, except this item. All else that is live stays so, the same messages wait, a port that
-- was up to date and connected still is, and as many loans, numbers and borrows are left.
pub record LeavesBut {T U F G : Type 0} (item : Item) (old new : Kept T U F G) : Type 0 where
  pub stays : StaysBut item old new
  pub waits : WaitingStays old new
  pub up_to_date : UpToDateStay old new
  pub loans_left : LoansLeftStay old new
  pub borrows_left : BorrowsLeftStay old new

-- The call leaves all as it was, and spends nothing.
abbrev pub Leaves : {T U F G : Type 0} → (old new : Kept T U F G) → Type 0
Leaves = LeavesBut No_item

-- The call leaves all as it was, except what waits for this subscriber: no more than before.
pub record LeavesButWaiting {T U F G : Type 0} (subscriber : Subscriber) (old new : Kept T U F G) : Type 0 where
  pub stays : Stays old new
  pub others : OthersWait subscriber old new
  pub no_more : waiting new subscriber ≤ waiting old subscriber
  pub up_to_date : UpToDateStay old new
  pub loans_left : LoansLeftStay old new

-- The call leaves all as it was, except that the publisher has one loan fewer left, and the domain one number fewer.
pub record LeavesLending {T U F G : Type 0} (publisher : Publisher) (old new : Kept T U F G) : Type 0 where
  pub stays : Stays old new
  pub waits : WaitingStays old new
  pub up_to_date : UpToDateStay old new
  pub loans_left : TakesOneLeft publisher old new
  pub borrows_left : BorrowsLeftStay old new

-- The call leaves all as it was, except that it adds at most that many messages to what waits for each subscriber.
pub record LeavesAdding {T U F G : Type 0} (more : ℕ) (old new : Kept T U F G) : Type 0 where
  pub stays : Stays old new
  pub adds : AddAtMost more old new
  pub up_to_date : UpToDateStay old new
  pub loans_left : LoansLeftStay old new
  pub borrows_left : BorrowsLeftStay old new

-- The call leaves all as it was, except that more messages may wait, and a port that was up to date may be due.
pub record LeavesNoFewer {T U F G : Type 0} (old new : Kept T U F G) : Type 0 where
  pub stays : Stays old new
  pub no_fewer : (subscriber : Subscriber) → waiting old subscriber ≤ waiting new subscriber
  pub connections : ConnectionsStay old new
  pub room : RoomStays old new
  pub loans_left : LoansLeftStay old new
  pub borrows_left : BorrowsLeftStay old new

-- The call leaves all as it was, but this subscriber, for which nothing waits afterwards.
pub record LeavesWithout {T U F G : Type 0} (subscriber : Subscriber) (old new : Kept T U F G) : Type 0 where
  pub stays : StaysBut (subscriber_port subscriber) old new
  pub none : waiting new subscriber ≡ 0
  pub others : OthersWait subscriber old new
  pub up_to_date : OthersStayUpToDate subscriber old new
  pub connections : (publisher : ℕ) (other : Subscriber) → other.id ≢ subscriber.id → IsConnected old publisher other
      → IsConnected new publisher other
  pub room : RoomStays old new
  pub loans_left : LoansLeftStay old new
  pub borrows_left : BorrowsLeftStay old new

-- The call leaves all as it was, except channels: a publisher and a subscriber that were connected are, if their
-- channel stays open.
pub record LeavesButChannels {T U F G : Type 0} (StaysOpen : (publisher : ℕ) → Subscriber → Type 0)
    (old new : Kept T U F G) : Type 0 where
  pub stays : Stays old new
  pub waits : WaitingStays old new
  pub up_to_date : (subscriber : Subscriber) → IsUpToDate old subscriber → IsUpToDate new subscriber
  pub connections : (publisher : ℕ) (subscriber : Subscriber) → StaysOpen publisher subscriber
      → IsConnected old publisher subscriber
      → IsConnected new publisher subscriber
  pub room : RoomStays old new
  pub loans_left : LoansLeftStay old new
  pub borrows_left : BorrowsLeftStay old new

-- The change closes no channel that is in the state.
abbrev pub ClosesNone : (expected : ℕ) → (Channel → Channel) → Type 0
ClosesNone expected change = (channel : Channel) → is_in_state expected channel ≡ true → is_closed channel ≡ false
    → is_closed (change channel) ≡ false
