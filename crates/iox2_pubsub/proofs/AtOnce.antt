-- Ports that nothing keeps from a call, seen from outside.
use Rattle.std.proofs.Common.{◌≡◌, ℕ, ◌+◌, ◌≤◌, ◌<◌, false, is_some, get_or, Option, None, Some, refl, ap, sym, subst}
use Rattle.std.proofs.Common.{◌∙◌, arith}
use Rattle.std.proofs.lemmas.Option.{same_Some}
use Rattle.std.specs.Option.{option_map}
use Rattle.iox2_machine.specs.machine.Limits.{last_number}
use Rattle.iox2_machine.specs.machine.Records.{BlockedSend, Publisher}
use Rattle.iox2_machine.specs.declared.allocation.AllocationStrategy.TheVariants.{Static}
use Rattle.iox2_machine.specs.declared.key.Key.{Key}
use Rattle.iox2_connections.specs.Mailboxes.{sender_ends}
use Rattle.iox2_domain.specs.Boxes.{DomainBoxes}
use Rattle.iox2_domain.specs.Fields.{Fields, blocked_send, keeping, kept_of, number_in_slot, publisher_of}
use Rattle.iox2_domain.specs.Fields.{subscriber_of}
use Rattle.iox2_domain.specs.Invariant.{IsDomain}
use Rattle.iox2_domain.specs.Kept.{Kept, state_of}
use Rattle.iox2_domain.specs.Ports.{PublisherFields, SubscriberFields}
use Rattle.iox2_domain.specs.declared.publisher_state.BlockedDelivery.{BlockedDelivery}
use Rattle.iox2_domain.proofs.lemmas.fields.ConnectionEnds.{publisher-stands, subscriber-stands}
use Rattle.iox2_domain.proofs.lemmas.fields.OpenPorts.{subscriber-open}
use Rattle.iox2_pubsub.specs.Live.{IsLiveSubscriber, IsSubscriberKey, IsUnblocked, IsUpToDate, subscriber_key}
use Rattle.iox2_pubsub.specs.LoansLeft.{GrowsBy, HasNumbersLeft}
use Rattle.iox2_pubsub.specs.declared.publisher.Publisher.{Publisher as PublisherHandle}
use Rattle.iox2_pubsub.specs.declared.subscriber.Subscriber.{Subscriber as SubscriberHandle}
use Rattle.iox2_pubsub.proofs.LiveParts.{subscriber-parts, unblocked-free}
use Rattle.iox2_pubsub.proofs.LoansLeftShown.{numbers-out}
use Rattle.iox2_pubsub.proofs.PlacedHandles.{subscriber-at-place}

none-waits : (send : BlockedDelivery → BlockedSend) (o : Option BlockedDelivery) → is_some o ≡ false
    → option_map send o ≡ None
none-waits send None e = refl
none-waits send (Some d) e = absurd cc

one-number : (now last : ℕ) → now < last → now + 1 ≤ last
one-number now last h = omega arith

module _ {T U F G : Type 0} {boxes : DomainBoxes F G} (f : Fields T U) (sound : IsDomain f) (kept : Kept T U F G)
    (view : keeping boxes f ≡ kept) where
  -- the record of the publisher that stands at a place
  module _ (p place : ℕ) (x : PublisherFields) (at : get_or f.publishers place None ≡ Some x) (its : x.id ≡ p) where
    port : (state_of (kept_of f)).publishers p ≡ Some ((publisher_of f.books f.connections x).port)
    port = ap (state_of (kept_of f)).publishers (sym its) ∙ publisher-stands f sound.parts place x at

    pub unblocked-there : is_some x.blocked ≡ false → (key : Key) → key.port ≡ p → IsUnblocked kept key
    unblocked-there free key same =
        let there : (state_of (kept_of f)).publishers key.port ≡ Some ((publisher_of f.books f.connections x).port) =
        ap (state_of (kept_of f)).publishers same ∙ port in
        subst (λ (k : Kept T U F G). IsUnblocked k key) view (unblocked-free (keeping boxes f) key (
          ((sound.well_formed).publishers key.port _ there).is_known,
          λ z here. ap (λ (y : Publisher). y.blocked)
              (same_Some z ((publisher_of f.books f.connections x).port) (sym here ∙ there))
              ∙ none-waits
              (blocked_send (number_in_slot f.books x.id) (sender_ends f.connections x.keys)) x.blocked free,
        ))

    pub static-there : x.allocation ≡ Static → (publisher : PublisherHandle) → publisher.id ≡ p
        → GrowsBy kept publisher Static
    unfolding GrowsBy
    static-there static publisher same =
        subst (λ (k : Kept T U F G). GrowsBy k publisher Static) view
        ((publisher_of f.books f.connections x).port, ap (state_of (kept_of f)).publishers same ∙ port, static)

  pub number-there : f.next_message < last_number → HasNumbersLeft kept 1
  number-there low = numbers-out kept 1 (subst (λ (n : ℕ). n + 1 ≤ last_number)
      (ap (λ (k : Kept T U F G). k.next_message) view) (one-number f.next_message last_number low))

  -- and that of a live subscriber
  pub updated-there : (subscriber : SubscriberHandle) → IsLiveSubscriber kept subscriber
      → ((y : SubscriberFields) → get_or f.subscribers subscriber.place None ≡ Some y → y.is_due ≡ false)
      → IsUpToDate kept subscriber
  unfolding IsUpToDate
  updated-there subscriber live due =
      let found = subscriber-at-place f sound kept view subscriber live in
      let has = (subscriber-parts (keeping boxes f) (subscriber_key subscriber)
      (subst (λ (k : Kept T U F G). IsSubscriberKey k (subscriber_key subscriber)) (sym view) live.there)).2 in
      subst (λ (k : Kept T U F G). IsUpToDate k subscriber) view (
        (subscriber_of f.books f.connections found.0).port,
        ap (state_of (kept_of f)).subscribers (sym found.2)
            ∙ subscriber-stands f sound.parts subscriber.place found.0 found.1,
        subscriber-open f subscriber.id sound subscriber.place found.0 found.1 found.2 has,
        due found.0 found.1,
      )
