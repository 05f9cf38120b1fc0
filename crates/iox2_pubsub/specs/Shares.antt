-- What waits for a subscriber of each publisher, and what waits for it in all.
use Rattle.std.specs.Prelude.{ℕ, List, [], ◌∷◌, length, ◌≡◌, ◌≢◌, ◌⊎◌, ◌+◌}
use Rattle.iox2_domain.specs.Kept.{Kept}
use Rattle.iox2_pubsub.specs.Live.{payloads_from, waiting}
use Rattle.iox2_pubsub.specs.declared.subscriber.Subscriber.{Subscriber}

-- What waits of one publisher: its id, and the payloads, the oldest first.
pub record Share (T : Type 0) : Type 0 where
  pub publisher : ℕ
  pub payloads : List (List T)

module _ {T : Type 0} where
  -- The share of the publisher with this id that has these payloads.
  abbrev pub share_of : (publisher : ℕ) → List (List T) → Share T
  share_of publisher payloads = record { publisher = publisher; payloads = payloads }

  -- The publisher with this id has none of the shares.
  abbrev pub HasNoShare : (publisher : ℕ) → List (Share T) → Type 0
  HasNoShare publisher [] = Unit {0}
  HasNoShare publisher (share ∷ shares) = (share.publisher ≢ publisher) × HasNoShare publisher shares

  -- Each share is of another publisher.
  abbrev pub AreOfDifferent : List (Share T) → Type 0
  AreOfDifferent [] = Unit {0}
  AreOfDifferent (share ∷ shares) = HasNoShare share.publisher shares × AreOfDifferent shares

  -- How many payloads the shares have in all.
  abbrev pub total : List (Share T) → ℕ
  total [] = 0
  total (share ∷ shares) = length share.payloads + total shares

  -- The share with these payloads is in front of the others, if it has any.
  abbrev pub with_share : (publisher : ℕ) → List (List T) → List (Share T) → List (Share T)
  with_share publisher [] shares = shares
  with_share publisher (values ∷ later) shares = share_of publisher (values ∷ later) ∷ shares

  -- The shares that have payloads.
  abbrev pub without_empty : List (Share T) → List (Share T)
  without_empty [] = []
  without_empty (share ∷ shares) = with_share share.publisher share.payloads (without_empty shares)

  -- The first payload of the share of that publisher, with these values, is taken out, and these shares are left.
  abbrev pub TakesFrom : List (Share T) → (publisher : ℕ) → List T → List (Share T) → Type 0
  TakesFrom [] publisher values left = ⊥
  TakesFrom (share ∷ shares) publisher values left =
      ((rest : List (List T)) × (share.publisher ≡ publisher) × (share.payloads ≡ values ∷ rest)
      × (left ≡ share_of publisher rest ∷ shares))
      ⊎ ((others : List (Share T)) × TakesFrom shares publisher values others × (left ≡ share ∷ others))

module _ {T U F G : Type 0} (domain : Kept T U F G) where
  -- Of each of these publishers that share waits for the subscriber.
  abbrev pub AreShares : Subscriber → List (Share T) → Type 0
  AreShares subscriber [] = Unit {0}
  AreShares subscriber (share ∷ shares) =
      (payloads_from domain share.publisher subscriber ≡ share.payloads) × AreShares subscriber shares

  -- All that waits for the subscriber are these shares, each of another publisher.
  pub record AllFromEach (subscriber : Subscriber) (shares : List (Share T)) : Type 0 where
    pub each : AreShares subscriber shares
    pub apart : AreOfDifferent shares
    pub all : waiting domain subscriber ≡ total shares
