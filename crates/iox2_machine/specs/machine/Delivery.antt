-- One message is delivered to the receivers of its publisher, by rising place.
use Rattle.std.specs.Prelude.{ℕ, Bool, true, false, ◌||◌, List, [], ◌∷◌, ◌≡◌, ◌+◌, MatchOption}
use Rattle.std.specs.Bool.{MatchBool}
use Rattle.std.specs.declared.option.Option.{Option}
use Rattle.std.specs.declared.option.Option.TheVariants.{None, Some}
use Rattle.std.specs.declared.time.Duration.{Duration}
use Rattle.iox2_machine.specs.machine.Numbers.{put_at}
use Rattle.iox2_machine.specs.machine.Mailbox.{Mailbox, has_room, with_appended}
use Rattle.iox2_machine.specs.machine.Records.{Handler, Fixed, Custom, Environment, BlockedSend}
use Rattle.iox2_machine.specs.declared.service_config.ServiceConfig.{ServiceConfig}
use Rattle.iox2_machine.specs.declared.backpressure.BackpressureStrategy.{BackpressureStrategy}
use Rattle.iox2_machine.specs.declared.backpressure.BackpressureStrategy.TheVariants.{RetryUntilDelivered, DiscardData}
use Rattle.iox2_machine.specs.declared.backpressure.BackpressureAction.{BackpressureAction}
use Rattle.iox2_machine.specs.declared.backpressure.BackpressureAction.TheVariants.{FollowBackpressureyStrategy, Retry}
use Rattle.iox2_machine.specs.declared.backpressure.BackpressureAction.TheVariants.{DiscardData as Discard}
use Rattle.iox2_machine.specs.declared.backpressure.BackpressureAction.TheVariants.{DiscardDataAndFail}
use Rattle.iox2_machine.specs.declared.backpressure.BackpressureInfo.{BackpressureInfo}

-- What became of a message at one receiver.
pub data PutResult : Type 0 where
  Accepted : PutResult  -- it waits there, and is counted
  Skipped : PutResult  -- it went past this receiver
  Failed : PutResult  -- it went past this receiver, and the send has failed
  Would_block : PutResult  -- the send waits for this receiver

-- A receiver that takes the message counts as one.
abbrev pub accepted_count : PutResult → ℕ
accepted_count Accepted = 1
accepted_count Skipped = 0
accepted_count Failed = 0
accepted_count Would_block = 0

-- The send has failed at this receiver.
abbrev pub is_failed : PutResult → Bool
is_failed Accepted = false
is_failed Skipped = false
is_failed Failed = true
is_failed Would_block = false

-- The send waits for this receiver.
abbrev pub is_blocking : PutResult → Bool
is_blocking Accepted = false
is_blocking Skipped = false
is_blocking Failed = false
is_blocking Would_block = true

-- How a delivery ends: it reached all receivers, or it waits for one.
pub data DeliveryEnd : Type 0 where
  Complete : (count : ℕ) → (has_failed : Bool) → DeliveryEnd
  Suspended : BlockedSend → DeliveryEnd

-- What a strategy does with a full receiver.
abbrev pub by_strategy : BackpressureStrategy → PutResult
by_strategy RetryUntilDelivered = Would_block
by_strategy DiscardData = Skipped

-- What a handler's answer does with a full receiver.
-- (iceoryx2: `port/details/sender.rs`, `deliver_offset_to_connection_impl`.)
abbrev pub by_action : BackpressureStrategy → BackpressureAction → PutResult
by_action strategy FollowBackpressureyStrategy = by_strategy strategy
by_action strategy Retry = Would_block
by_action strategy Discard = Skipped
by_action strategy DiscardDataAndFail = Failed

-- With a full receiver the handler's answer decides, or the strategy if there is no handler.
abbrev pub Decides : Environment → (p : ℕ) → Option (Handler BackpressureAction) → BackpressureStrategy
    → BackpressureInfo → PutResult → Type 0
Decides environment p None strategy info result = result ≡ by_strategy strategy
Decides environment p (Some (Fixed action)) strategy info result = result ≡ by_action strategy action
Decides environment p (Some Custom) strategy info result =
    (action : BackpressureAction) × environment.backpressure_answers p info action
    × (result ≡ by_action strategy action)

-- No time has passed.
abbrev pub no_time : Duration
no_time = record { secs = 0; nanos = 0 }

-- The message n of the publisher p, whose mailboxes stand by the subscriber's id; `buffers` has those of open
-- subscribers whose channel isn't closed.
module _ (environment : Environment) (c : ServiceConfig) (p : ℕ) (strategy : BackpressureStrategy)
    (handler : Option (Handler BackpressureAction)) (buffers : ℕ → Option ℕ) (n : ℕ) where
  -- What the handler is told of the receiver q.
  abbrev pub info_of : (q retries : ℕ) → Duration → BackpressureInfo
  info_of q retries elapsed = record {
    service_id = c.service_id;
    sender_port_id = p;
    receiver_port_id = q;
    retries = retries;
    elapsed_time = elapsed;
  }

  -- A receiver that takes nothing is skipped. Any other takes the message into the channel if it has room, or if safe
  -- overflow is on. Else the handler decides, or the strategy if there is no handler.
  abbrev pub Put : (channel q retries : ℕ) → Duration → (buffer : Option ℕ) → Mailbox → PutResult → Mailbox → Type 0
  Put channel q retries elapsed None box result box' = (result ≡ Skipped) × (box' ≡ box)
  Put channel q retries elapsed (Some buffer) box result box' =
      MatchBool (has_room channel buffer box || c.enable_safe_overflow)
      ((result ≡ Accepted) × (box' ≡ with_appended channel buffer n box))
      (Decides environment p handler strategy (info_of q retries elapsed) result × (box' ≡ box))

  -- The message is put into the channel of the mailbox to which the end leads; if there is none, nothing happens.
  abbrev pub PutAtEnd : (channel retries : ℕ) → Duration → (end : Option ℕ) → (ℕ → Mailbox) → PutResult → (ℕ → Mailbox)
      → Type 0
  PutAtEnd channel retries elapsed end boxes result boxes' =
      MatchOption end
      ((result ≡ Skipped) × (boxes' ≡ boxes))
      (λ q. (box : Mailbox) × Put channel q retries elapsed (buffers q) (boxes q) result box
      × (boxes' ≡ put_at boxes q box))

  -- The message is put into that channel at each of these ends in turn, which stand from that place on, until a
  -- receiver blocks it. The first is asked with these retries and this elapsed time, the others anew.
  -- (iceoryx2: `port/details/sender.rs`, `deliver_offset`.)
  abbrev pub Deliver : (channel retries : ℕ) → Duration → (place : ℕ) → List (Option ℕ) → (count : ℕ)
      → (has_failed : Bool) → (ℕ → Mailbox) → DeliveryEnd → (ℕ → Mailbox) → Type 0
  Deliver channel retries elapsed place [] count has_failed boxes how boxes' =
      (how ≡ Complete count has_failed) × (boxes' ≡ boxes)
  Deliver channel retries elapsed place (end ∷ rest) count has_failed boxes how boxes' =
      (result : PutResult) × (mid : ℕ → Mailbox) × PutAtEnd channel retries elapsed end boxes result mid
      × MatchBool (is_blocking result)
      ((how ≡ Suspended (record {
        message = n;
        channel = channel;
        place = place;
        ends = end ∷ rest;
        retries = retries;
        count = count;
        has_failed = has_failed;
      }))
      × (boxes' ≡ mid))
      (Deliver channel 0 no_time (place + 1) rest (count + accepted_count result)
      (has_failed || is_failed result) mid how boxes')
