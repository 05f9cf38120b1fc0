-- A queue of numbers over a publisher and a subscriber.
use Rattle.std.specs.Prelude.{ℕ, List, ◌≡◌, ◌≤◌, length}
use Rattle.std.specs.List.{concat}
use Rattle.iox2_pubsub.specs.Domains.{Kept}
use Rattle.iox2_pubsub.specs.Live.{HasItsBuffer, IsConnected, IsLivePublisher, IsLiveSubscriber, IsSingleValued}
use Rattle.iox2_pubsub.specs.Live.{IsUpToDate, payloads}
use Rattle.iox2_pubsub.specs.BorrowsLeft.{HasBorrowsLeft}
use Rattle.iox2_pubsub.specs.LoansLeft.{HasLoansLeft}
use Rattle.iox2_pubsub.specs.declared.publisher.Publisher.{Publisher}
use Rattle.iox2_pubsub.specs.declared.subscriber.Subscriber.{Subscriber}
use Rattle.message_patterns.specs.Values.{Wait}

-- What clauses see of a queue: what is in it, the first first, and how much it takes.
pub record QueueView : Type 0 where
  pub items : List ℕ
  pub capacity : ℕ

module _ {U F G : Type 0} (domain : Kept ℕ U F G) (publisher : Publisher) (subscriber : Subscriber) where
  -- The ports of a queue: they are live and connected, the subscriber is up to date, no send waits, and a slot and a
  -- borrow are left.
  pub record AreQueuePorts : Type 0 where
    pub single_valued : IsSingleValued domain
    pub sender : IsLivePublisher domain publisher
    pub receiver : IsLiveSubscriber domain subscriber
    pub up_to_date : IsUpToDate domain subscriber
    pub connected : IsConnected domain publisher.id subscriber
    pub buffer : HasItsBuffer domain subscriber
    pub loans : HasLoansLeft domain publisher 1
    pub borrows : HasBorrowsLeft domain subscriber 1

  -- So they are, and so many numbers wait, no more than the buffer takes.
  pub record IsQueue (count : ℕ) : Type 0 where
    pub ports : AreQueuePorts
    pub items : List ℕ
    pub wait : Wait domain publisher.id subscriber items
    pub counted : length items ≡ count
    pub bound : count ≤ subscriber.buffer_size

  -- What clauses see of it.
  abbrev pub queue_view : QueueView
  queue_view = record { items = concat (payloads domain subscriber); capacity = subscriber.buffer_size }
