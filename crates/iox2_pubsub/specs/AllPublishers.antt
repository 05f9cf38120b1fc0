-- That certain publishers are all that a domain has.
use Rattle.std.specs.Prelude.{ℕ, List, [], ◌∷◌, length, ◌≡◌, ◌≢◌, ◌≤◌, ◌⊎◌}
use Rattle.iox2_domain.specs.Kept.{Kept}
use Rattle.iox2_pubsub.specs.Live.{IsPublisherKey, publisher_key}
use Rattle.iox2_pubsub.specs.declared.publisher.Publisher.{Publisher}

-- The publisher with this id is one of these.
abbrev pub IsOneOf : (id : ℕ) → List Publisher → Type 0
IsOneOf id [] = ⊥
IsOneOf id (publisher ∷ others) = (id ≡ publisher.id) ⊎ IsOneOf id others

-- The publisher with this id is none of these.
abbrev pub IsNoneOf : (id : ℕ) → List Publisher → Type 0
IsNoneOf id [] = Unit {0}
IsNoneOf id (publisher ∷ others) = (id ≢ publisher.id) × IsNoneOf id others

-- No two of these are the same.
abbrev pub AreDistinct : List Publisher → Type 0
AreDistinct [] = Unit {0}
AreDistinct (publisher ∷ others) = IsNoneOf publisher.id others × AreDistinct others

module _ {T U F G : Type 0} (domain : Kept T U F G) where
  -- They are publishers of the domain, and none was closed.
  abbrev pub ArePublisherKeys : List Publisher → Type 0
  ArePublisherKeys [] = Unit {0}
  ArePublisherKeys (publisher ∷ others) = IsPublisherKey domain (publisher_key publisher) × ArePublisherKeys others

  -- They are as many as the domain allows, so that it has no other.
  pub record AreAllPublishers (publishers : List Publisher) : Type 0 where
    pub live : ArePublisherKeys publishers
    pub distinct : AreDistinct publishers
    pub full : (domain.config).max_publishers ≤ length publishers
