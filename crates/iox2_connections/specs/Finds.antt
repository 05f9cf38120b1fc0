-- A subscriber's search for a message to receive.
use Rattle.std.specs.Prelude.{◌≡◌, ℕ, Bool, true, false, if◌then◌else◌, List, [], ◌∷◌, map, IsSomeAnd, slice_index_or}
use Rattle.std.specs.declared.option.Option.{Option}
use Rattle.std.specs.declared.option.Option.TheVariants.{None, Some}
use Rattle.slab.specs.Slab.{Slab, get, ContainsKey}
use Rattle.iox2_connections.specs.Link.{Link, has_slots, can_borrow}
use Rattle.iox2_machine.specs.machine.Places.{occupants}
use Rattle.iox2_machine.specs.machine.Mailbox.{Mailbox}
use Rattle.iox2_machine.specs.machine.Records.{Subscriber}
use Rattle.iox2_machine.specs.machine.State.{connected_publishers}
use Rattle.iox2_machine.specs.machine.Receives.{has_any_data, can_receive_of, MayReceiveFrom}
use Rattle.iox2_connections.specs.Mailboxes.{mailboxes_of, receiver_ends}
use Rattle.iox2_connections.specs.Homes.{IsApart}
use Rattle.iox2_connections.specs.declared.receiver.Found.{Found}

-- ---- among slots

-- What one connection offers, if there is one.
abbrev pub offer_of : (key : ℕ) → Option Link → Found
offer_of key None = Found.Nothing
offer_of key (Some c) = if can_borrow c then Found.Ready key else if has_slots c then Found.AtLimit else Found.Nothing

-- What the connection at a key offers, if there is a key.
abbrev pub offer_at : Slab Link → Option ℕ → Found
offer_at connections None = Found.Nothing
offer_at connections (Some key) = offer_of key (get connections key)

-- What two searches find, one after the other: the first connection to take from, and else whether a message waits.
abbrev pub first_found : Found → Found → Found
first_found (Found.Ready key) later = Found.Ready key
first_found Found.AtLimit (Found.Ready key) = Found.Ready key
first_found Found.AtLimit Found.AtLimit = Found.AtLimit
first_found Found.AtLimit Found.Nothing = Found.AtLimit
first_found Found.Nothing later = later

-- Whether this says that messages wait.
abbrev pub is_something : Found → Bool
is_something (Found.Ready key) = true
is_something Found.AtLimit = true
is_something Found.Nothing = false

-- What a search through the connections at these keys finds.
abbrev pub search : Slab Link → List (Option ℕ) → Found
search connections [] = Found.Nothing
search connections (key ∷ keys) = first_found (offer_at connections key) (search connections keys)

-- Each of these keys has a connection.
pub record HasConnections (connections : Slab Link) (keys : List (Option ℕ)) : Type 0 where
  pub at : (i key : ℕ) → slice_index_or keys i None ≡ Some key → ContainsKey connections key

-- ---- in the machine's words

-- The connection is the subscriber q's, which may borrow that many of its messages.
pub record IsReceivers (q most : ℕ) (c : Link) : Type 0 where
  pub subscriber : c.home.subscriber ≡ q
  pub limit : c.limit ≡ most

-- Each of these keys names a connection of the subscriber q, with that limit.
pub record IsReceiverLinked (q most : ℕ) (connections : Slab Link) (keys : List (Option ℕ)) : Type 0 where
  pub at : (i key : ℕ) → slice_index_or keys i None ≡ Some key → IsSomeAnd (get connections key) (IsReceivers q most)

-- The subscriber q is y to the machine: these are the keys of its expired connections and those at its places.
pub record IsReceiver (q most : ℕ) (connections : Slab Link) (expired_keys : List ℕ) (keys : List (Option ℕ))
    (y : Subscriber) : Type 0 where
  pub apart : IsApart connections
  pub kept : IsReceiverLinked q most connections (map Some expired_keys)
  pub linked : IsReceiverLinked q most connections keys
  pub expired : y.expired ≡ occupants (receiver_ends connections (map Some expired_keys))
  pub ends : y.ends ≡ receiver_ends connections keys

module _ (q limit : ℕ) (connections : Slab Link) (y : Subscriber) (boxes : ℕ → Mailbox) where
  -- The connection is the subscriber q's, and a message may be received from its publisher; or some wait and all are at
  -- the limit; or none waits.
  abbrev pub FindsFor : Found → Type 0
  FindsFor (Found.Ready key) = IsSomeAnd (get connections key)
      (λ (c : Link). (c.home.subscriber ≡ q) × MayReceiveFrom limit y boxes c.home.publisher)
  FindsFor Found.AtLimit =
      (has_any_data y boxes ≡ true) × (can_receive_of limit y boxes (connected_publishers y) ≡ false)
  FindsFor Found.Nothing = has_any_data y boxes ≡ false

-- Whatever numbers the slots have, this is what the subscriber with these keys finds: a connection to receive from,
-- where there is one.
pub record Finds (connections : Slab Link) (expired : List ℕ) (keys : List (Option ℕ)) (found : Found) : Type 0 where
  pub finds : (q limit : ℕ) (y : Subscriber) → IsReceiver q limit connections expired keys y → (number : ℕ → ℕ → ℕ)
      → FindsFor q limit connections y (λ p. mailboxes_of number connections p q) found
