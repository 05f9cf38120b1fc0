-- Ports, loans and messages as the machine knows them. A port is named by its id and a message by its number: both are
-- plain numbers.
use Rattle.std.specs.Prelude.{ℕ, Bool, List}
use Rattle.std.specs.declared.option.Option.{Option}
use Rattle.iox2_machine.specs.declared.header.Header.{Header}
use Rattle.iox2_machine.specs.declared.allocation.AllocationStrategy.{AllocationStrategy}
use Rattle.iox2_machine.specs.declared.backpressure.BackpressureStrategy.{BackpressureStrategy}
use Rattle.iox2_machine.specs.declared.backpressure.BackpressureAction.{BackpressureAction}
use Rattle.iox2_machine.specs.declared.backpressure.BackpressureInfo.{BackpressureInfo}
use Rattle.iox2_machine.specs.declared.degradation.DegradationAction.{DegradationAction}
use Rattle.iox2_machine.specs.declared.degradation.DegradationCause.{DegradationCause}
use Rattle.iox2_machine.specs.declared.degradation.DegradationInfo.{DegradationInfo}

-- A message that was sent. It never changes.
-- (iceoryx2: `sample.rs`, `Sample`.)
pub record Entry (T U : Type 0) : Type 0 where
  pub header : Header
  pub user_header : U
  pub values : List T

-- A message that isn't sent yet, which the user of its publisher has. Each of its cells is written or not.
-- (iceoryx2: `sample_mut_uninit.rs`, `SampleMutUninit`, and `sample_mut.rs`, `SampleMut`.)
pub record Loan (T U : Type 0) : Type 0 where
  pub publisher : ℕ
  pub header : Header
  pub user_header : U
  pub cells : List (Option T)
  pub is_written : Bool  -- false for a `SampleMutUninit`, true for a `SampleMut`

-- What answers for a port when it is asked: always the same action, or a box of the caller's.
pub data Handler (Action : Type 0) : Type 0 where
  Fixed : Action → Handler Action
  Custom : Handler Action

-- What the machine can't decide and doesn't remember: whether memory may be refused, and what the boxed handler of
-- the port with an id may answer. For a port that is being made this is the box that it then has.
pub record Environment : Type 1 where
  pub may_refuse_memory : Type 0
  pub backpressure_answers : (port : ℕ) → BackpressureInfo → BackpressureAction → Type 0
  pub degradation_answers : (port : ℕ) → DegradationCause → DegradationInfo → DegradationAction → Type 0

-- A send that waits for the receiver at a place. Its message was sent: it is in the history, if one is kept, and with
-- the receivers that have taken it.
pub record BlockedSend : Type 0 where
  pub message : ℕ
  pub channel : ℕ  -- into which it is put: 0, but where it was sent to one connection
  pub place : ℕ  -- of the receiver that it waits for
  -- the sender's ends that remain, from that place on; that end alone where it was sent to one connection
  pub ends : List (Option ℕ)
  pub retries : ℕ  -- how often the receiver was asked again
  pub count : ℕ  -- the receivers that have taken the message so far
  pub has_failed : Bool  -- whether an earlier receiver's handler failed the send

-- A publisher that wasn't closed.
-- (iceoryx2: `port/publisher.rs`, `PublisherSharedState`, and `port/details/sender.rs`, `Sender`.)
pub record Publisher : Type 0 where
  pub place : ℕ
  pub slots : ℕ  -- of each of its segments
  pub max_loaned_samples : ℕ
  pub allocation_strategy : AllocationStrategy
  pub initial_max_slice_len : ℕ
  pub longest_granted : ℕ  -- length of the longest loan so far
  pub segments : ℕ  -- made so far
  pub backpressure_strategy : BackpressureStrategy
  pub backpressure_handler : Option (Handler BackpressureAction)
  pub degradation_handler : Handler DegradationAction
  pub loans : List ℕ  -- the messages that are out, by rising number
  pub history : List ℕ  -- the last messages sent, oldest first
  pub ends : List (Option ℕ)  -- at a subscriber's place, the subscriber to whose mailbox its end leads
  pub is_due : Bool  -- whether the subscribers changed since its last update
  pub blocked : Option BlockedSend

-- A subscriber that wasn't closed, or that was closed and has borrowed messages.
-- (iceoryx2: `port/subscriber.rs`, `SubscriberSharedState`, and `port/details/receiver.rs`, `Receiver`.)
pub record Subscriber : Type 0 where
  pub is_open : Bool
  pub place : ℕ
  pub buffer : ℕ
  pub degradation_handler : Handler DegradationAction
  pub ends : List (Option ℕ)  -- at a publisher's place, the publisher from whose mailbox its end leads
  pub expired : List ℕ  -- departed publishers that it still has messages of, in order of entry
  pub is_due : Bool  -- whether the publishers changed since its last update

-- What a publisher's factory was told.
pub record PublisherSettings : Type 0 where
  pub max_loaned_samples : ℕ
  pub backpressure_strategy : BackpressureStrategy
  pub allocation_strategy : AllocationStrategy
  pub initial_max_slice_len : ℕ
  pub asked_slots : Option ℕ  -- what the override of the preallocation answers, where there is one
  pub degradation_handler : Handler DegradationAction
  pub backpressure_handler : Option (Handler BackpressureAction)

-- What a subscriber's factory was told.
pub record SubscriberSettings : Type 0 where
  pub buffer_size : ℕ
  pub degradation_handler : Handler DegradationAction
