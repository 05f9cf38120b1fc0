-- That certain subscribers are all that a domain has.
use Rattle.std.specs.Prelude.{ℕ, List, [], ◌∷◌, length, ◌≡◌, ◌≢◌, ◌≤◌, ◌⊎◌}
use Rattle.iox2_domain.specs.Kept.{Kept}
use Rattle.iox2_pubsub.specs.Live.{IsConnected, IsSubscriberKey, subscriber_key}
use Rattle.iox2_pubsub.specs.declared.subscriber.Subscriber.{Subscriber}

-- The subscriber with this id is one of these.
abbrev pub IsAmong : (id : ℕ) → List Subscriber → Type 0
IsAmong id [] = ⊥
IsAmong id (subscriber ∷ others) = (id ≡ subscriber.id) ⊎ IsAmong id others

-- The subscriber with this id is none of these.
abbrev pub IsNotAmong : (id : ℕ) → List Subscriber → Type 0
IsNotAmong id [] = Unit {0}
IsNotAmong id (subscriber ∷ others) = (id ≢ subscriber.id) × IsNotAmong id others

-- No two of these are the same.
abbrev pub AreDifferent : List Subscriber → Type 0
AreDifferent [] = Unit {0}
AreDifferent (subscriber ∷ others) = IsNotAmong subscriber.id others × AreDifferent others

module _ {T U F G : Type 0} (domain : Kept T U F G) where
  -- They are subscribers of the domain, and none was closed.
  abbrev pub AreLiveKeys : List Subscriber → Type 0
  AreLiveKeys [] = Unit {0}
  AreLiveKeys (subscriber ∷ others) = IsSubscriberKey domain (subscriber_key subscriber) × AreLiveKeys others

  -- They are as many as the domain allows, so that it has no other.
  pub record AreAllSubscribers (subscribers : List Subscriber) : Type 0 where
    pub live : AreLiveKeys subscribers
    pub different : AreDifferent subscribers
    pub full : (domain.config).max_subscribers ≤ length subscribers

  -- The publisher with this id is connected with each of these.
  abbrev pub AreConnected : (publisher : ℕ) → List Subscriber → Type 0
  AreConnected publisher [] = Unit {0}
  AreConnected publisher (subscriber ∷ others) = IsConnected domain publisher subscriber × AreConnected publisher others
