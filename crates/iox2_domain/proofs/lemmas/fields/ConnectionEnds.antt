-- Ports that stand somewhere are in the state, and the ports at the ends of a domain's connections were made before.
use Rattle.std.proofs.Common.{◌≡◌, ℕ, ◌<◌, List, get_or, refl, ap, subst, ◌∙◌, inl, inr, ◌⊎◌, sym, false, is_some}
use Rattle.std.specs.declared.option.Option.{Option}
use Rattle.std.specs.declared.option.Option.TheVariants.{None, Some}
use Rattle.std.specs.Option.{option_map, option_map_or}
use Rattle.slab.specs.Slab.{Slab, get}
use Rattle.iox2_connections.specs.Link.{Link}
use Rattle.iox2_machine.specs.machine.Places.{occupant}
use Rattle.iox2_machine.specs.machine.Records.{Publisher}
use Rattle.iox2_connections.specs.Mailboxes.{subscriber_of_key, sender_ends}
use Rattle.iox2_domain.specs.Ports.{PublisherFields, SubscriberFields}
use Rattle.iox2_domain.specs.Kept.{state_of}
use Rattle.iox2_domain.specs.Fields.{Fields, kept_of, publisher_of, subscriber_of, number_in_slot, blocked_send}
use Rattle.iox2_domain.specs.Invariant.{IsDomain, HasParts, SenderHas, ReceiverHas}
use Rattle.iox2_machine.specs.machine.State.{is_blocked}
use Rattle.iox2_domain.specs.declared.publisher_state.BlockedDelivery.{BlockedDelivery}
use Rattle.iox2_domain.proofs.lemmas.fields.NamedPorts.{named-stands, occupant-led}

-- what a publisher's end leads to, by its key
pub occupant-sender_ends : (connections : Slab Link) (keys : List (Option ℕ)) (i : ℕ)
    → occupant (sender_ends connections keys) i ≡ subscriber_of_key connections (get_or keys i None)
occupant-sender_ends = occupant-led (λ (c : Link). c.home.subscriber)

module _ {T U : Type 0} (f : Fields T U) (parts : HasParts f) where
  -- a publisher that stands somewhere is in the state
  pub publisher-stands : (i : ℕ) (x : PublisherFields) → get_or f.publishers i None ≡ Some x
      → (state_of (kept_of f)).publishers x.id ≡ Some ((publisher_of f.books f.connections x).port)
  publisher-stands i x at =
      named-stands (publisher_of f.books f.connections) x.id f.publishers (parts.publisher_ids x.id) i x at refl

  -- no delivery of a publisher is blocked that isn't so in the state
  pub free-of : (p i : ℕ) (x : PublisherFields) → get_or f.publishers i None ≡ Some x → x.id ≡ p
      → is_blocked (state_of (kept_of f)) p ≡ false → x.blocked ≡ None
  free-of p i x at is nothing = by x.blocked
      (sym (ap (λ o. option_map_or (λ (v : Publisher). is_some v.blocked) o false)
      (ap (state_of (kept_of f)).publishers (sym is) ∙ publisher-stands i x at)) ∙ nothing)
    where
      by : (o : Option BlockedDelivery)
          → is_some (option_map (blocked_send (number_in_slot f.books x.id) (sender_ends f.connections x.keys)) o)
          ≡ false → o ≡ None
      by None e = refl
      by (Some b) e = absurd cc

  -- a subscriber that stands somewhere is in the state
  pub subscriber-stands : (i : ℕ) (y : SubscriberFields) → get_or f.subscribers i None ≡ Some y
      → (state_of (kept_of f)).subscribers y.id ≡ Some ((subscriber_of f.books f.connections y).port)
  subscriber-stands i y at =
      named-stands (subscriber_of f.books f.connections) y.id f.subscribers (parts.subscriber_ids y.id) i y at refl

module _ {T U : Type 0} (f : Fields T U) (sound : IsDomain f) where
  -- the subscriber of a connection was made before
  pub subscriber-known : (key : ℕ) (c : Link) → get f.connections key ≡ Some c → c.home.subscriber < f.next_port
  subscriber-known key c at = by (sound.parts.linked.ends key c at) where
    by : SenderHas f.publishers key c ⊎ ReceiverHas f.subscribers key c → c.home.subscriber < f.next_port
    by (inl has) =
        let x = has.publisher in
        let leads : occupant (sender_ends f.connections x.keys) c.home.subscriber_place ≡ Some c.home.subscriber =
        occupant-sender_ends f.connections x.keys c.home.subscriber_place
        ∙ ap (subscriber_of_key f.connections) has.has
        ∙ ap (option_map (λ (d : Link). d.home.subscriber)) at in
        (sound.well_formed.publishers x.id _
        (publisher-stands f sound.parts c.home.publisher_place x has.stands)).ends_known c.home.subscriber
        (c.home.subscriber_place, leads)
    by (inr has) =
        let y = has.subscriber in
        let low : y.id < f.next_port =
        (sound.well_formed.subscribers y.id _
        (subscriber-stands f sound.parts c.home.subscriber_place y has.stands)).is_known in
        subst (λ (q : ℕ). q < f.next_port) has.is_its low
