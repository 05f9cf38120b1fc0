-- Who took a message, and how many of the subscribers its send counts.
use Rattle.std.specs.Prelude.{ℕ, suc, List, [], ◌∷◌, ◌++◌, drop, length, ◌≡◌, ◌≤◌, ◌⊎◌}
use Rattle.iox2_domain.specs.Kept.{Kept}
use Rattle.iox2_pubsub.specs.Live.{IsFull, Overflows, payloads_from, waiting}
use Rattle.iox2_pubsub.specs.declared.subscriber.Subscriber.{Subscriber}

module _ {T U F G : Type 0} (old new : Kept T U F G) (publisher : ℕ) (values : List T) where
  -- The subscriber took the publisher's message with these values, which waits behind all others of that publisher. If
  -- the buffer was full, the service overflows, and the oldest of them went in its place.
  unfoldable pub HasTaken : Subscriber → Type 0
  HasTaken subscriber =
      ((payloads_from new publisher subscriber ≡ payloads_from old publisher subscriber ++ values ∷ [])
      × (waiting new subscriber ≡ suc (waiting old subscriber)))
      ⊎ (Overflows old × IsFull old publisher subscriber
      × (payloads_from new publisher subscriber ≡ drop 1 (payloads_from old publisher subscriber) ++ values ∷ [])
      × (waiting new subscriber ≡ waiting old subscriber))

  -- The message went past the subscriber, whose buffer was full in a service that doesn't overflow.
  unfoldable pub HasMissed : Subscriber → Type 0
  HasMissed subscriber =
      (Overflows old → ⊥) × IsFull old publisher subscriber
      × (payloads_from new publisher subscriber ≡ payloads_from old publisher subscriber)
      × (waiting new subscriber ≡ waiting old subscriber)

  -- So many of these subscribers took the message, and it went past each other one.
  abbrev pub HaveTaken : List Subscriber → (taken : ℕ) → Type 0
  HaveTaken [] taken = taken ≡ 0
  HaveTaken (subscriber ∷ others) taken =
      (HasTaken subscriber × (less : ℕ) × (taken ≡ suc less) × HaveTaken others less)
      ⊎ (HasMissed subscriber × HaveTaken others taken)

  -- A send that reached so many subscribers counts those of these that took the message. If these are as many as the
  -- domain allows, it counts no other.
  pub record Counts (subscribers : List Subscriber) (count : ℕ) : Type 0 where
    pub taken : ℕ
    pub took : HaveTaken subscribers taken
    pub at_least : taken ≤ count
    pub exactly : (old.config).max_subscribers ≤ length subscribers → count ≡ taken
