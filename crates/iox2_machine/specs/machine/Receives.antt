-- A subscriber receives.
-- (iceoryx2: `port/details/receiver.rs`, `receive` and `has_samples`.)
use Rattle.std.specs.Prelude.{ℕ, Bool, true, false, List, ◌≡◌, IsTrue, MatchOption}
use Rattle.std.specs.Bool.{MatchBool}
use Rattle.std.specs.List.{list_any}
use Rattle.std.specs.declared.option.Option.{Option}
use Rattle.iox2_machine.specs.machine.Numbers.{contains}
use Rattle.iox2_machine.specs.machine.Places.{occupants}
use Rattle.iox2_machine.specs.machine.Mailbox.{Mailbox, has_data, can_receive, BorrowsFirst}
use Rattle.iox2_machine.specs.machine.Records.{Subscriber, Environment}
use Rattle.iox2_machine.specs.machine.State.{State, connected_publishers, with_mailbox}
use Rattle.iox2_machine.specs.machine.SubscriberUpdate.{UpdateSubscriber}
use Rattle.iox2_machine.specs.declared.errors.ConnectionFailure.{ConnectionFailure}
use Rattle.iox2_machine.specs.declared.errors.ReceiveError.{ReceiveError}
use Rattle.iox2_machine.specs.declared.errors.ReceiveError.TheVariants.{ExceedsMaxBorrows}
use Rattle.iox2_machine.specs.declared.errors.ReceiveError.TheVariants.{ConnectionFailure as CouldNotConnect}

-- The result of a receive.
pub data ReceiveResult : Type 0 where
  Got_sample : (publisher message : ℕ) → ReceiveResult
  No_sample : ReceiveResult
  Receive_error : ReceiveError → ReceiveResult

-- Something waits for the subscriber with that record from some publisher; its mailboxes stand by the publisher's id.
abbrev pub has_any_data : Subscriber → (ℕ → Mailbox) → Bool
has_any_data y boxes = list_any (λ p. has_data (boxes p)) (connected_publishers y)

-- The subscriber with that record and those mailboxes, which may borrow that many messages of each publisher.
module _ (borrow_limit : ℕ) (y : Subscriber) (boxes : ℕ → Mailbox) where
  -- From one of these publishers something may be received.
  abbrev pub can_receive_of : List ℕ → Bool
  can_receive_of ps = list_any (λ p. can_receive borrow_limit (boxes p)) ps

  -- Something may be received from p, which is a departed publisher where there is such a one to receive from, and else
  -- any other. Which of these it is, is open.
  abbrev pub MayReceiveFrom : (p : ℕ) → Type 0
  MayReceiveFrom p =
      IsTrue (can_receive borrow_limit (boxes p))
      × MatchBool (can_receive_of y.expired) (IsTrue (contains y.expired p)) (IsTrue (contains (occupants y.ends) p))

module _ {T U : Type 0} where
  -- A message is received where one waits from a publisher below the limit; else an error is returned where any waits.
  abbrev pub TakeSample : State T U → (q : ℕ) → Subscriber → State T U → ReceiveResult → Type 0
  TakeSample s q y s' (Got_sample p n) =
      MayReceiveFrom (s.config).subscriber_max_borrowed_samples y (λ p. s.mailboxes p q) p
      × (box : Mailbox) × BorrowsFirst (s.mailboxes p q) n box × (s' ≡ with_mailbox s p q box)
  TakeSample s q y s' No_sample =
      (has_any_data y (λ p. s.mailboxes p q) ≡ false) × (s' ≡ s)
  TakeSample s q y s' (Receive_error e) =
      (e ≡ ExceedsMaxBorrows)
      × (has_any_data y (λ p. s.mailboxes p q) ≡ true)
      × (can_receive_of (s.config).subscriber_max_borrowed_samples y (λ p. s.mailboxes p q)
      (connected_publishers y) ≡ false)
      × (s' ≡ s)

module _ {T U : Type 0} (environment : Environment) where
  -- Connections are updated first; a failure there is returned.
  abbrev pub Receive : State T U → (q : ℕ) → State T U → ReceiveResult → Type 0
  Receive s q s' result =
      (mid : State T U) × (failure : Option ConnectionFailure)
      × UpdateSubscriber environment s q mid failure
      × MatchOption failure
      (MatchOption (mid.subscribers q) ⊥ (λ y. TakeSample mid q y s' result))
      (λ e. (s' ≡ mid) × (result ≡ Receive_error (CouldNotConnect e)))

  -- Connections are updated; then it is told whether anything waits.
  abbrev pub HasSamples : State T U → (q : ℕ) → State T U → Option ConnectionFailure → (result : Bool) → Type 0
  HasSamples s q s' failure result =
      UpdateSubscriber environment s q s' failure
      × MatchOption (s'.subscribers q) ⊥ (λ y.
      result ≡ has_any_data y (λ p. s'.mailboxes p q))
