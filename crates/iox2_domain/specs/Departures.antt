-- What a subscriber forgets, and where a port that leaves stood.
use Rattle.std.specs.Prelude.{◌≡◌, ◌⊎◌, ℕ, true, List, [], map, slice_index_or}
use Rattle.std.specs.declared.option.Option.{Option}
use Rattle.std.specs.declared.option.Option.TheVariants.{None, Some}
use Rattle.slab.specs.Slab.{Slab, Updates, get}
use Rattle.iox2_connections.specs.Link.{Link, has_borrowed_slots}
use Rattle.iox2_machine.specs.machine.Numbers.{without}
use Rattle.iox2_machine.specs.machine.Places.{vacated}
use Rattle.iox2_domain.specs.Fields.{Fields}
use Rattle.iox2_domain.specs.Invariant.{SenderHas}
use Rattle.iox2_domain.specs.Updates.{changed_at}
use Rattle.iox2_domain.specs.Ports.{PublisherFields, SubscriberFields}

-- The key stands in the list.
abbrev pub HasKey : List (Option ℕ) → (key : ℕ) → Type 0
HasKey keys key = (i : ℕ) × (slice_index_or keys i None ≡ Some key)

-- The subscriber has the key, at a publisher's place or among the expired ones.
abbrev pub KnowsKey : SubscriberFields → (key : ℕ) → Type 0
KnowsKey y key = HasKey y.keys key ⊎ HasKey (map Some y.expired) key

-- The subscriber without the connection at the key.
abbrev pub key_forgotten : (key : ℕ) → SubscriberFields → SubscriberFields
key_forgotten key y = record y { keys = vacated key y.keys; expired = without key y.expired }

-- The connection at the key is the subscriber q's alone: its publisher doesn't have it.
pub record IsUnshared (publishers : List (Option PublisherFields)) (q key : ℕ) (c : Link) : Type 0 where
  pub subscriber_is : c.home.subscriber ≡ q
  pub unshared : SenderHas publishers key c → ⊥

-- Some connections went that were the subscriber q's alone, and no others. At these keys none of these is left.
pub record DropsUnshared (publishers : List (Option PublisherFields)) (q : ℕ) (keys : ℕ → Type 0)
    (old new : Slab Link) : Type 0 where
  pub kept : (key : ℕ) (c : Link) → get new key ≡ Some c → get old key ≡ Some c
  pub others : (key : ℕ) (c : Link) → get old key ≡ Some c → (get new key ≡ Some c) ⊎ IsUnshared publishers q key c
  pub done : (key : ℕ) (c : Link) → keys key → get new key ≡ Some c → c.home.subscriber ≡ q → SenderHas publishers key c

-- The subscriber q has borrowed nothing in the connections at these keys.
abbrev pub BorrowsNothing : Slab Link → (q : ℕ) → (keys : ℕ → Type 0) → Type 0
BorrowsNothing connections q keys =
    (key : ℕ) (c : Link) → keys key → get connections key ≡ Some c → c.home.subscriber ≡ q → c.borrowed ≡ []

-- The subscriber q has borrowed something.
pub record BorrowsSome (connections : Slab Link) (q : ℕ) : Type 0 where
  pub key : ℕ
  pub connection : Link
  pub stands : get connections key ≡ Some connection
  pub its : connection.home.subscriber ≡ q
  pub some : has_borrowed_slots connection ≡ true

-- The connection at the key is gone, and the subscriber at the place has forgotten it.
pub record ForgetsConnection {T U : Type 0} (f : Fields T U) (place key : ℕ) (f' : Fields T U) : Type 0 where
  pub fields : f' ≡ record f
      { subscribers = changed_at (key_forgotten key) f.subscribers place; connections = f'.connections }
  pub removed : Updates f.connections f'.connections key None
