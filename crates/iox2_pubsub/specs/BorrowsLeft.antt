-- How many messages more a subscriber may borrow.
use Rattle.std.specs.Prelude.{ℕ, List, length, ◌≡◌, ◌≢◌, ◌+◌, ◌≤◌}
use Rattle.iox2_machine.specs.machine.State.{State}
use Rattle.iox2_domain.specs.Kept.{Kept, state_of}
use Rattle.iox2_pubsub.specs.Payloads.{all_below}
use Rattle.iox2_pubsub.specs.declared.subscriber.Subscriber.{Subscriber}

module _ {T U : Type 0} where
  -- The messages that q has borrowed, of all publishers.
  abbrev pub borrowed_by : State T U → (q : ℕ) → List ℕ
  borrowed_by s q = all_below (λ p. (s.mailboxes p q).borrowed) s.next_port

  -- With n messages more, q has borrowed no more in all than it may borrow of one publisher.
  abbrev pub CanBorrow : State T U → (q n : ℕ) → Type 0
  CanBorrow s q n = length (borrowed_by s q) + n ≤ (s.config).subscriber_max_borrowed_samples

  -- With n messages more of p, q has borrowed no more of it than it may.
  abbrev pub CanBorrowOf : State T U → (p q n : ℕ) → Type 0
  CanBorrowOf s p q n = length (s.mailboxes p q).borrowed + n ≤ (s.config).subscriber_max_borrowed_samples

module _ {T U F G : Type 0} where
  -- The limit of borrows can't refuse the subscriber n messages more, of whatever publishers: what it has borrowed in
  -- all is that many fewer than it may borrow of one publisher.
  unfoldable pub HasBorrowsLeft : Kept T U F G → Subscriber → (n : ℕ) → Type 0
  HasBorrowsLeft domain subscriber n = CanBorrow (state_of domain) subscriber.id n

  -- The limit of borrows can't refuse the subscriber n messages more of the publisher with this id. Of another one it
  -- may have as many.
  unfoldable pub HasBorrowsLeftOf : Kept T U F G → (publisher : ℕ) → Subscriber → (n : ℕ) → Type 0
  HasBorrowsLeftOf domain publisher subscriber n = CanBorrowOf (state_of domain) publisher subscriber.id n

  -- Each subscriber has as many borrows left as before, in all and of each publisher.
  pub record BorrowsLeftStay (old new : Kept T U F G) : Type 0 where
    pub all : (subscriber : Subscriber) (n : ℕ) → HasBorrowsLeft old subscriber n → HasBorrowsLeft new subscriber n
    pub of_each : (publisher : ℕ) (subscriber : Subscriber) (n : ℕ) → HasBorrowsLeftOf old publisher subscriber n
        → HasBorrowsLeftOf new publisher subscriber n

  -- The subscriber with this id has one borrow more left than before.
  abbrev pub HasOneMoreBorrowLeft : (id : ℕ) → (old new : Kept T U F G) → Type 0
  HasOneMoreBorrowLeft id old new = (subscriber : Subscriber) (n : ℕ) → subscriber.id ≡ id
      → HasBorrowsLeft old subscriber n → HasBorrowsLeft new subscriber (n + 1)

  -- The subscriber with this id has one borrow more left of this publisher than before.
  abbrev pub HasOneMoreBorrowLeftOf : (publisher id : ℕ) → (old new : Kept T U F G) → Type 0
  HasOneMoreBorrowLeftOf publisher id old new = (subscriber : Subscriber) (n : ℕ) → subscriber.id ≡ id
      → HasBorrowsLeftOf old publisher subscriber n → HasBorrowsLeftOf new publisher subscriber (n + 1)

  -- The subscriber has at most one borrow fewer left than before, in all and of each publisher. Other subscribers have
  -- as many.
  pub record TakesOneBorrow (subscriber : Subscriber) (old new : Kept T U F G) : Type 0 where
    pub own : (n : ℕ) → HasBorrowsLeft old subscriber (n + 1) → HasBorrowsLeft new subscriber n
    pub others : (other : Subscriber) (n : ℕ) → other.id ≢ subscriber.id → HasBorrowsLeft old other n
        → HasBorrowsLeft new other n
    pub own_of_each : (publisher n : ℕ) → HasBorrowsLeftOf old publisher subscriber (n + 1)
        → HasBorrowsLeftOf new publisher subscriber n
    pub others_of_each : (publisher : ℕ) (other : Subscriber) (n : ℕ) → other.id ≢ subscriber.id
        → HasBorrowsLeftOf old publisher other n → HasBorrowsLeftOf new publisher other n

  -- The subscriber has as many borrows left as before of each other publisher.
  abbrev pub OthersBorrowsStay : (publisher : ℕ) → Subscriber → (old new : Kept T U F G) → Type 0
  OthersBorrowsStay publisher subscriber old new = (other n : ℕ) → other ≢ publisher
      → HasBorrowsLeftOf old other subscriber n → HasBorrowsLeftOf new other subscriber n
