-- The subscriber that a blocked send waits for.
use Rattle.std.proofs.Common.{◌≡◌, ◌∙◌, ℕ, List, Option, None, Some, get_or, ap, sym}
use Rattle.std.specs.Option.{option_and_then, option_map}
use Rattle.iox2_machine.specs.machine.ChannelCalls.{receiver_at}
use Rattle.iox2_machine.specs.machine.Places.{occupant}
use Rattle.iox2_machine.specs.machine.Records.{Publisher}
use Rattle.iox2_machine.specs.machine.WellFormed.{BlockedIsWellFormed}
use Rattle.iox2_connections.specs.Mailboxes.{sender_ends, subscriber_of_key}
use Rattle.iox2_domain.specs.BlockedSends.{waiting_send}
use Rattle.iox2_domain.specs.Fields.{Fields, kept_of, publisher_of, number_in_slot, blocked_send}
use Rattle.iox2_domain.specs.Invariant.{IsDomain}
use Rattle.iox2_domain.specs.Kept.{state_of}
use Rattle.iox2_domain.specs.Ports.{PublisherFields}
use Rattle.iox2_domain.specs.Updates.{sender_key}
use Rattle.iox2_domain.specs.declared.publisher_state.BlockedDelivery.{BlockedDelivery}
use Rattle.iox2_domain.proofs.lemmas.fields.ConnectionEnds.{occupant-sender_ends, publisher-stands}

module _ {T U : Type 0} (f : Fields T U) (sound : IsDomain f) (i : ℕ) (x : PublisherFields)
    (at : get_or f.publishers i None ≡ Some x) where
  -- the key at a publisher's place leads to the machine's receiver there
  leads : (other : ℕ) → subscriber_of_key f.connections (sender_key f.publishers i other) ≡ receiver_at
      (state_of (kept_of f)) x.id other
  leads other =
      ap (λ (o : Option PublisherFields).
      subscriber_of_key f.connections (option_and_then (λ (z : PublisherFields). get_or z.keys other None) o)) at
      ∙ sym (occupant-sender_ends f.connections x.keys other)
      ∙ sym (ap (option_and_then (λ (z : Publisher). occupant z.ends other)) (publisher-stands f sound.parts i x at))

  -- where a send of it waits there is one
  pub waits-for-some : (b : BlockedDelivery) → x.blocked ≡ Some b
      → (q : ℕ) × (receiver_at (state_of (kept_of f)) x.id (b.progress).place ≡ Some q)
  waits-for-some b waits =
      let stands = publisher-stands f sound.parts i x at in
      let well : BlockedIsWellFormed (state_of (kept_of f)) x.id (publisher_of f.books f.connections x).port
      (waiting_send f x b) =
      (sound.well_formed.publishers x.id (publisher_of f.books f.connections x).port stands).blocked
      (waiting_send f x b)
      (ap (option_map (blocked_send (number_in_slot f.books x.id) (sender_ends f.connections x.keys))) waits) in
      (well.waits.0, ap (option_and_then (λ (z : Publisher). occupant z.ends (b.progress).place)) stands ∙ well.waits.1)

module _ {T U : Type 0} (f now : Fields T U) (same : f ≡ now) (sound : IsDomain now) (i : ℕ) where
  -- the same of a key that was read
  pub asked-receiver : (other : ℕ) (publishers : List (Option PublisherFields)) (key : Option ℕ)
      → publishers ≡ f.publishers → key ≡ sender_key publishers i other
      → (x : PublisherFields) → get_or now.publishers i None ≡ Some x
      → subscriber_of_key f.connections key ≡ receiver_at (state_of (kept_of now)) x.id other
  asked-receiver other publishers key read is x at =
      ap (subscriber_of_key f.connections)
      (is ∙ ap (λ (xs : List (Option PublisherFields)). sender_key xs i other) read)
      ∙ ap (λ (h : Fields T U). subscriber_of_key h.connections (sender_key h.publishers i other)) same
      ∙ leads now sound i x at other
