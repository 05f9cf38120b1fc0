-- A loan is sent; a send that is blocked is tried again or given up.
use Rattle.std.specs.Prelude.{ℕ, Bool, false, if◌then◌else◌, List, [], ◌∷◌, ◌++◌, take, drop, ◌≡◌, ◌+◌, ◌-◌, ◌^◌}
use Rattle.std.specs.Prelude.{nat_lt, MatchOption}
use Rattle.std.specs.declared.option.Option.{Option}
use Rattle.std.specs.declared.option.Option.TheVariants.{None, Some}
use Rattle.std.specs.declared.time.Duration.{Duration}
use Rattle.iox2_machine.specs.machine.Numbers.{put_at, without, last_n}
use Rattle.iox2_machine.specs.machine.Mailbox.{Mailbox}
use Rattle.iox2_machine.specs.machine.Records.{Loan, Environment, BlockedSend}
use Rattle.iox2_machine.specs.machine.State.{State, channel_buffer, with_loan, publisher_changed}
use Rattle.iox2_machine.specs.machine.Delivery.{Deliver, DeliveryEnd, Complete, Suspended, no_time}
use Rattle.iox2_machine.specs.machine.PublisherUpdate.{UpdatePublisher}
use Rattle.iox2_machine.specs.machine.Loans.{loan_discarded}
use Rattle.iox2_machine.specs.declared.errors.ConnectionFailure.{ConnectionFailure}
use Rattle.iox2_machine.specs.declared.errors.SendError.{SendError}
use Rattle.iox2_machine.specs.declared.errors.SendError.TheVariants.{ConnectionBrokenSinceSenderNoLongerExists}
use Rattle.iox2_machine.specs.declared.errors.SendError.TheVariants.{ConnectionError, UnableToDeliver}

-- What a send returns.
pub data SendResult : Type 0 where
  Delivered_to : (count : ℕ) → SendResult
  Blocked_send : SendResult
  Send_error : SendError → SendResult

-- The receiver was asked once more; the greatest number of retries stays.
abbrev pub more_retries : ℕ → ℕ
more_retries n = if nat_lt n (2 ^ 64 - 1) then n + 1 else n

-- A send of n into a channel, to these ends, which stand from that place on. No receiver was asked yet.
abbrev pub fresh_send : (n channel place : ℕ) → List (Option ℕ) → BlockedSend
fresh_send n channel place ends = record {
  message = n;
  channel = channel;
  place = place;
  ends = ends;
  retries = 0;
  count = 0;
  has_failed = false;
}

module _ {T U : Type 0} where
  -- The message n stands last in the history of p, whose oldest message leaves if it is full.
  -- (iceoryx2: `port/publisher.rs`, `add_sample_to_history`.)
  abbrev pub with_history : State T U → (p n : ℕ) → State T U
  with_history s p n =
      publisher_changed s p (λ x. record x { history = last_n (s.config).history_size (x.history ++ n ∷ []) })

  -- The loan n is a message from now on: it leaves its user's hands, and enters the history of p, if one is kept.
  abbrev pub published : State T U → (p n : ℕ) → State T U
  published s p n = with_history (with_loan s n None) p n

  -- The send of n has ended: its loan is out no more, and p isn't blocked.
  abbrev pub send_ended : State T U → (p n : ℕ) → State T U
  send_ended s p n = publisher_changed s p (λ x. record x { loans = without n x.loans; blocked = None })

  -- The publisher p waits for a receiver.
  abbrev pub send_blocked : State T U → (p : ℕ) → BlockedSend → State T U
  send_blocked s p b = publisher_changed s p (λ x. record x { blocked = Some b })

  -- A send that reached all receivers ends, with an error if one failed; a suspended one is blocked.
  abbrev pub ConcludeSend : State T U → (p n : ℕ) → DeliveryEnd → State T U → SendResult → Type 0
  ConcludeSend s p n (Complete count has_failed) s' result =
      (s' ≡ send_ended s p n) × (result ≡ (if has_failed then Send_error UnableToDeliver else Delivered_to count))
  ConcludeSend s p n (Suspended b) s' result = (s' ≡ send_blocked s p b) × (result ≡ Blocked_send)

  -- The publisher p's mailboxes, and nothing else, are changed so.
  abbrev pub with_mailboxes : State T U → (p : ℕ) → (ℕ → Mailbox) → State T U
  with_mailboxes s p boxes = record s { mailboxes = put_at s.mailboxes p boxes }

module _ {T U : Type 0} (environment : Environment) where
  -- A send of p goes on: its message is put into its channel at the ends that remain, and it ends or is blocked.
  abbrev pub DeliverAndConclude : State T U → (p : ℕ) → BlockedSend → (elapsed : Duration) → State T U → SendResult
      → Type 0
  DeliverAndConclude s p b elapsed s' result =
      MatchOption (s.publishers p) ⊥ (λ x.
      (how : DeliveryEnd) × (boxes : ℕ → Mailbox)
      × Deliver environment s.config p x.backpressure_strategy x.backpressure_handler
      (channel_buffer s p b.channel) b.message
      b.channel b.retries elapsed b.place b.ends b.count b.has_failed (s.mailboxes p) how boxes
      × ConcludeSend (with_mailboxes s p boxes) p b.message how s' result)

  -- The message n of p is published and delivered to all its receivers.
  abbrev pub Publish : State T U → (p n : ℕ) → State T U → SendResult → Type 0
  Publish s p n s' result =
      MatchOption (s.publishers p) ⊥ (λ x.
      DeliverAndConclude (published s p n) p (fresh_send n 0 0 x.ends) no_time s' result)

  -- The loan n is sent. Of a closed publisher it is lost. Else connections are updated first: if that fails the loan is
  -- given back, and no message was sent.
  -- (iceoryx2: `port/publisher.rs`, `send_sample`.)
  abbrev pub Send : State T U → (n : ℕ) → Loan T U → State T U → SendResult → Type 0
  Send s n l s' result =
      MatchOption (s.publishers l.publisher)
      ((s' ≡ with_loan s n None) × (result ≡ Send_error ConnectionBrokenSinceSenderNoLongerExists))
      (λ x. (mid : State T U) × (failure : Option ConnectionFailure)
      × UpdatePublisher environment s l.publisher mid failure
      × MatchOption failure
      (Publish mid l.publisher n s' result)
      (λ e. (s' ≡ loan_discarded mid n l) × (result ≡ Send_error (ConnectionError e))))

  -- The loan n is sent into the channel of the connection at a place of its publisher, and to nobody else. Of a closed
  -- publisher it is lost. Connections aren't updated, and the message enters no history.
  -- (iceoryx2: `port/details/sender.rs`, `deliver_offset_to_connection`.)
  abbrev pub SendToConnection : State T U → (n : ℕ) → Loan T U → (channel place : ℕ) → State T U → SendResult → Type 0
  SendToConnection s n l channel place s' result =
      MatchOption (s.publishers l.publisher)
      ((s' ≡ with_loan s n None) × (result ≡ Send_error ConnectionBrokenSinceSenderNoLongerExists))
      (λ x. DeliverAndConclude (with_loan s n None) l.publisher
      (fresh_send n channel place (take 1 (drop place x.ends))) no_time s' result)

  -- The blocked send of p is tried again from the receiver that it waits for. Connections aren't updated.
  abbrev pub Retry : State T U → (p : ℕ) → BlockedSend → (elapsed : Duration) → State T U → SendResult → Type 0
  Retry s p b elapsed s' result =
      DeliverAndConclude s p (record b { retries = more_retries b.retries }) elapsed s' result

  -- The blocked send of p goes on behind the receiver that it waits for, which is skipped.
  abbrev pub GiveUp : State T U → (p : ℕ) → BlockedSend → State T U → SendResult → Type 0
  GiveUp s p b s' result =
      DeliverAndConclude s p (record b { place = b.place + 1; ends = drop 1 b.ends; retries = 0 }) no_time s' result
