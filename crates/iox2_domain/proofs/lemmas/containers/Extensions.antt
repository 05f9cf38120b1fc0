-- Connections among which there may be a new one.
use Rattle.std.proofs.Common.{◌≡◌, ℕ, List, refl, ap}
use Rattle.std.specs.List.{sum_by}
use Rattle.std.specs.declared.option.Option.{Option}
use Rattle.std.specs.declared.option.Option.TheVariants.{None, Some}
use Rattle.std.specs.Option.{option_map, IsSomeAnd}
use Rattle.slab.specs.Slab.{Slab, get}
use Rattle.iox2_connections.specs.Link.{Link}
use Rattle.iox2_connections.specs.Homes.{IsApart, IsSenderLinked, IsSenders}
use Rattle.iox2_connections.specs.Finds.{IsReceiverLinked, IsReceivers}
use Rattle.iox2_connections.specs.Counters.{stands}
use Rattle.iox2_connections.specs.Mailboxes.{mailboxes_of, channels_in, subscriber_of_key, publisher_of_key}
use Rattle.iox2_connections.specs.Mailboxes.{sender_ends, receiver_ends}
use Rattle.iox2_domain.proofs.lemmas.containers.ChangedRecords.{ends-agree}

-- Each connection is there as it was. Slots stand where they stood, and no mailbox and no channel changes.
pub record Extends (old new : Slab Link) : Type 0 where
  pub apart : IsApart new
  pub sums : (p slot : ℕ) → sum_by (stands p slot) new.slots ≡ sum_by (stands p slot) old.slots
  pub boxes : (number : ℕ → ℕ → ℕ) (p q : ℕ) → mailboxes_of number new p q ≡ mailboxes_of number old p q
  pub channels : (p q : ℕ) → channels_in new p q ≡ channels_in old p q
  pub grows : (key : ℕ) (c : Link) → get old key ≡ Some c → get new key ≡ Some c

module _ (old new : Slab Link) (e : Extends old new) where
  -- what holds of a connection holds of it among more
  pub still_some : (P : Link → Type 0) (key : ℕ) → IsSomeAnd (get old key) P → IsSomeAnd (get new key) P
  still_some P key h = by (get old key) refl h where
    by : (o : Option Link) → get old key ≡ o → IsSomeAnd o P → IsSomeAnd (get new key) P
    by None at h = absurd h
    by (Some c) at h = rw (e.grows key c at) h

  pub sender_linked : (p : ℕ) (places : List (Option ℕ)) → IsSenderLinked p old places → IsSenderLinked p new places
  sender_linked p places l = record { at = λ i key at. still_some (IsSenders p i) key (l.at i key at) }

  pub receiver_linked : (q most : ℕ) (places : List (Option ℕ)) → IsReceiverLinked q most old places
      → IsReceiverLinked q most new places
  receiver_linked q most places l = record { at = λ i key at. still_some (IsReceivers q most) key (l.at i key at) }

  -- a key that had a connection leads where it led
  same_lead : (P : Link → Type 0) (f : Link → ℕ) (key : ℕ) → IsSomeAnd (get old key) P
      → option_map f (get new key) ≡ option_map f (get old key)
  same_lead P f key h = by (get old key) refl h where
    by : (o : Option Link) → get old key ≡ o → IsSomeAnd o P → option_map f (get new key) ≡ option_map f o
    by None at h = absurd h
    by (Some c) at h = ap (option_map f) (e.grows key c at)

  -- ends lead where they led
  pub sender_ends-same : (p : ℕ) (places : List (Option ℕ)) → IsSenderLinked p old places
      → sender_ends new places ≡ sender_ends old places
  sender_ends-same p places l =
      ends-agree (subscriber_of_key new) (subscriber_of_key old) refl places
      (λ i key at. same_lead (IsSenders p i) (λ (c : Link). c.home.subscriber) key (l.at i key at))

  pub receiver_ends-same : (q most : ℕ) (places : List (Option ℕ)) → IsReceiverLinked q most old places
      → receiver_ends new places ≡ receiver_ends old places
  receiver_ends-same q most places l =
      ends-agree (publisher_of_key new) (publisher_of_key old) refl places
      (λ i key at. same_lead (IsReceivers q most) (λ (c : Link). c.home.publisher) key (l.at i key at))
