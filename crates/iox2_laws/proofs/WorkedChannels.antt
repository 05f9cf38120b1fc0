-- Numbers in channels other than 0, worked out by computing: subscriber 1 and publisher 2, which are connected.
use Rattle.std.proofs.Common.{◌≡◌, ℕ, true, false, [], ◌∷◌, take, drop, refl, None, Some}
use Rattle.iox2_machine.specs.machine.Numbers.{put_at}
use Rattle.iox2_machine.specs.machine.Mailbox.{Mailbox, ChannelNumber, empty_mailbox, with_appended, can_receive}
use Rattle.iox2_machine.specs.machine.Mailbox.{has_numbers, waiting_dropped}
use Rattle.iox2_machine.specs.machine.Delivery.{Complete, Accepted, Skipped, no_time}
use Rattle.iox2_machine.specs.machine.Sends.{DeliverAndConclude, Delivered_to, send_ended, with_mailboxes}
use Rattle.iox2_machine.specs.machine.Environments.{ample_memory}
use Rattle.iox2_machine.specs.machine.Records.{Publisher, Subscriber, Fixed}
use Rattle.iox2_machine.specs.machine.State.{State, fresh}
use Rattle.iox2_machine.specs.Defaults.{default_config}
use Rattle.iox2_machine.specs.declared.allocation.AllocationStrategy.TheVariants.{Static}
use Rattle.iox2_machine.specs.declared.backpressure.BackpressureStrategy.TheVariants.{DiscardData}
use Rattle.iox2_machine.specs.declared.degradation.DegradationAction.TheVariants.{Warn}
use Rattle.iox2_laws.specs.Sendings.{sending}

-- the subscriber, with an end to the publisher
abbrev reader : Subscriber
reader = record {
  is_open = true;
  place = 0;
  buffer = 1;
  degradation_handler = Fixed Warn;
  ends = Some 2 ∷ [];
  expired = [];
  is_due = false;
}

-- the publisher, with an end to the subscriber
abbrev writer : Publisher
writer = record {
  place = 0;
  slots = 6;
  max_loaned_samples = 2;
  allocation_strategy = Static;
  initial_max_slice_len = 1;
  longest_granted = 0;
  segments = 1;
  backpressure_strategy = DiscardData;
  backpressure_handler = None;
  degradation_handler = Fixed Warn;
  loans = [];
  history = [];
  ends = Some 1 ∷ [];
  is_due = false;
  blocked = None;
}

-- both, which are connected
abbrev joined : State ℕ ℕ
joined = record (fresh (default_config 1)) {
  publishers = put_at (λ _. None) 2 (Some writer);
  subscribers = put_at (λ _. None) 1 (Some reader);
}

-- the number waits in that channel
abbrev tagged : (channel number : ℕ) → ChannelNumber
tagged channel number = record { channel = channel; number = number }

-- of two channels a message waits in each
abbrev two : Mailbox
two = with_appended 1 1 8 (with_appended 2 1 9 empty_mailbox)

-- numbers stand by rising channel
rising : two ≡ record { waiting = []; borrowed = []; others = tagged 1 8 ∷ tagged 2 9 ∷ [] }
rising = refl

-- where a channel is full its first leaves, and the other channels stay
overflown : with_appended 1 1 10 two ≡ record { waiting = []; borrowed = []; others = tagged 1 10 ∷ tagged 2 9 ∷ [] }
overflown = refl

-- where it has room nothing leaves
filled : with_appended 1 2 10 two
    ≡ record { waiting = []; borrowed = []; others = tagged 1 8 ∷ tagged 1 10 ∷ tagged 2 9 ∷ [] }
filled = refl

-- what waits there isn't received, but it counts, and it is lost with all that waits
elsewhere : (can_receive 1 two ≡ false) × (has_numbers two ≡ true) × (waiting_dropped two ≡ empty_mailbox)
elsewhere = (refl, refl, refl)

-- the connection's mailbox holds this, and no other mailbox holds anything
abbrev holding : Mailbox → State ℕ ℕ → State ℕ ℕ
holding box s = with_mailboxes s 2 (put_at (s.mailboxes 2) 1 box)

-- the message 8 goes into channel 1 of the connection at place 0
sent : DeliverAndConclude ample_memory joined 2 (sending 8 1 0 0 (take 1 (drop 0 (Some 1 ∷ []))) 0 false) no_time
    (send_ended (holding (with_appended 1 1 8 empty_mailbox) joined) 2 8) (Delivered_to 1)
sent = (
  Complete 1 false,
  put_at (joined.mailboxes 2) 1 (with_appended 1 1 8 empty_mailbox),
  (
    Accepted,
    put_at (joined.mailboxes 2) 1 (with_appended 1 1 8 empty_mailbox),
    (with_appended 1 1 8 empty_mailbox, (refl, refl), refl),
    (refl, refl),
  ),
  (refl, refl),
)

-- behind the last place it goes to nobody
unsent : DeliverAndConclude ample_memory joined 2 (sending 8 1 0 5 (take 1 (drop 5 (Some 1 ∷ []))) 0 false) no_time
    (send_ended (with_mailboxes joined 2 (joined.mailboxes 2)) 2 8) (Delivered_to 0)
unsent = (Complete 0 false, joined.mailboxes 2, (refl, refl), (refl, refl))

-- the same without safe overflow
abbrev strict : State ℕ ℕ
strict = record joined { config = record (default_config 1) { enable_safe_overflow = false } }

-- a channel that has no room takes nothing where the strategy discards, though another has room
discarded : DeliverAndConclude ample_memory (holding two strict) 2
    (sending 11 1 0 0 (take 1 (drop 0 (Some 1 ∷ []))) 0 false) no_time
    (send_ended (holding two (holding two strict)) 2 11) (Delivered_to 0)
    × DeliverAndConclude ample_memory (holding two strict) 2
    (sending 11 3 0 0 (take 1 (drop 0 (Some 1 ∷ []))) 0 false) no_time
    (send_ended (holding (with_appended 3 1 11 two) (holding two strict)) 2 11) (Delivered_to 1)
discarded = (
  (
    Complete 0 false,
    put_at ((holding two strict).mailboxes 2) 1 two,
    (Skipped, put_at ((holding two strict).mailboxes 2) 1 two, (two, (refl, refl), refl), (refl, refl)),
    (refl, refl),
  ),
  (
    Complete 1 false,
    put_at ((holding two strict).mailboxes 2) 1 (with_appended 3 1 11 two),
    (
      Accepted,
      put_at ((holding two strict).mailboxes 2) 1 (with_appended 3 1 11 two),
      (with_appended 3 1 11 two, (refl, refl), refl),
      (refl, refl),
    ),
    (refl, refl),
  ),
)
