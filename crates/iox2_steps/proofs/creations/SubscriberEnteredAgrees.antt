-- A domain's fields agree with a new subscriber among them.
use Rattle.std.proofs.Common.{◌≡◌, ℕ, zero, suc, ◌<◌, [], get_or, refl, ap, sym, subst, ◌∙◌, inl, inr, ◌⊎◌, arith, ◌≤◌}
use Rattle.std.proofs.Common.{length, ◌+◌}
use Rattle.std.specs.declared.option.Option.{Option}
use Rattle.std.specs.declared.option.Option.TheVariants.{None, Some}
use Rattle.std.specs.Option.{option_map}
use Rattle.slab.specs.Slab.{get}
use Rattle.iox2_machine.specs.machine.Records.{SubscriberSettings}
use Rattle.iox2_machine.specs.machine.Limits.{warning_limit}
use Rattle.iox2_connections.specs.Link.{Link}
use Rattle.iox2_machine.specs.machine.WellFormed.{IsWellFormed}
use Rattle.iox2_connections.specs.Finds.{IsReceiverLinked}
use Rattle.iox2_connections.specs.declared.sender.ReceiverDetails.{ReceiverDetails}
use Rattle.iox2_domain.specs.WarningRing.{WarningRing}
use Rattle.iox2_domain.specs.Ports.{SubscriberFields}
use Rattle.iox2_domain.specs.Kept.{state_of}
use Rattle.iox2_domain.specs.Fields.{Fields, kept_of}
use Rattle.iox2_domain.specs.Invariant.{IsDomain, IsLinked, HasExpiredRoom, SenderHas, ReceiverHas, details_of}
use Rattle.iox2_domain.proofs.lemmas.containers.LookUps.{map-at, viewed}
use Rattle.iox2_domain.specs.Placed.{placed}
use Rattle.iox2_domain.proofs.lemmas.fields.Views.{held-before}
use Rattle.iox2_domain.proofs.lemmas.fields.KeptBooks.{kept-publishers}
use Rattle.iox2_domain.proofs.lemmas.fields.ConnectionEnds.{subscriber-known}
use Rattle.iox2_domain.proofs.lemmas.fields.ExpiredRoom.{count-none}
use Rattle.iox2_steps.proofs.creations.SubscriberEntered.{with_entered_subscriber, newcomer, ids_apart, stood, still}
use Rattle.iox2_domain.proofs.lemmas.fields.OpenReceivers.{open-still}
use Rattle.iox2_domain.proofs.lemmas.fields.Parts.{other_parts}

pub nothing_at : {A : Type 0} (i : ℕ) (x : A) → get_or {A = Option A} [] i None ≡ Some x → ⊥
nothing_at {A} zero x e = cc
nothing_at {A} (suc i) x e = cc

module _ {T U : Type 0} (f : Fields T U) (sound : IsDomain f) (warnings : WarningRing) (place : ℕ)
    (given : SubscriberSettings) (key_room expired_room : ℕ) (free : get_or f.subscribers place None ≡ None) where
  abbrev new : SubscriberFields
  new = newcomer f sound warnings place given key_room expired_room free

  abbrev after : Fields T U
  after = with_entered_subscriber f sound warnings place given key_room expired_room free

  was : (i : ℕ) (y : SubscriberFields) → get_or (placed f.subscribers place new) i None ≡ Some y
      → (y ≡ new) ⊎ (get_or f.subscribers i None ≡ Some y)
  was i y at = stood f sound warnings place given key_room expired_room free i y at

  -- a new subscriber has no connection
  unlinked : (q most : ℕ) → IsReceiverLinked q most f.connections []
  unlinked q most = record { at = λ i key at. absurd (nothing_at i key at) }

  linked : IsLinked after
  linked = record {
    senders = sound.parts.linked.senders;
    receivers = λ i y at. elim (was i y at) [
      | inl e ↦ rw e (unlinked f.next_port (f.config).subscriber_max_borrowed_samples)
      | inr old ↦
          sound.parts.linked.receivers i y old
    ];
    expired = λ i y at. elim (was i y at) [
      | inl e ↦ rw e (unlinked f.next_port (f.config).subscriber_max_borrowed_samples)
      | inr old ↦
          sound.parts.linked.expired i y old
    ];
    ends = λ key c at. by key c (sound.parts.linked.ends key c at);
    receiver_places = λ i at key y c at_y at_key at_c. places i at key y c (was i y at_y) at_key at_c;
    knows_publishers = sound.parts.linked.knows_publishers;
    sender_rooms = sound.parts.linked.sender_rooms;
    receiver_rooms = λ key i c y at_c at_y same. elim (was i y at_y) [
      | inl e ↦
          let next : y.id ≡ f.next_port = ap (λ (z : SubscriberFields). z.id) e in
          let low : c.home.subscriber < f.next_port = subscriber-known f sound key c at_c in
          absurd (omega arith)
      | inr old ↦ sound.parts.linked.receiver_rooms key i c y at_c old same
    ];
    limits = sound.parts.linked.limits;
    channel_counts = sound.parts.linked.channel_counts;
    returned = sound.parts.linked.returned;
    marked = λ key c at is. let both = sound.parts.linked.marked key c at is in record {
      sender = both.sender;
      receiver = open-still f.subscribers (placed f.subscribers place new) c
          (λ z at_z. (
            z,
            still f sound warnings place given key_room expired_room free c.home.subscriber_place z at_z,
            refl,
            refl,
          )) both.receiver;
    };
    knows = record {
      at = λ key i c d at_c at_d same.
          knows key i c d at_c (viewed details_of (placed f.subscribers place new) i d at_d) same;
    };
  } where
    by : (key : ℕ) (c : Link) → SenderHas f.publishers key c ⊎ ReceiverHas f.subscribers key c
        → SenderHas f.publishers key c ⊎ ReceiverHas (placed f.subscribers place new) key c
    by key c (inl has) = inl has
    by key c (inr has) = inr (record {
      subscriber = has.subscriber;
      stands = still f sound warnings place given key_room expired_room free c.home.subscriber_place has.subscriber
          has.stands;
      is_its = has.is_its;
      has = has.has;
    })

    places : (i at key : ℕ) (y : SubscriberFields) (c : Link) → (y ≡ new) ⊎ (get_or f.subscribers i None ≡ Some y)
        → get_or y.keys at None ≡ Some key → get f.connections key ≡ Some c → c.home.publisher_place ≡ at
    places i at key y c (inl e) at_key at_c =
        let none : get_or {A = Option ℕ} [] at None ≡ Some key =
        subst (λ (z : SubscriberFields). get_or z.keys at None ≡ Some key) e at_key in
        absurd (nothing_at at key none)
    places i at key y c (inr old) at_key at_c = sound.parts.linked.receiver_places i at key y c old at_key at_c

    knows : (key i : ℕ) (c : Link) (d : ReceiverDetails) → get f.connections key ≡ Some c
        → (y : SubscriberFields) × (get_or (placed f.subscribers place new) i None ≡ Some y) × (d ≡ details_of y)
        → d.port_id ≡ c.home.subscriber → (i ≡ c.home.subscriber_place) × (c.buffer ≡ d.buffer_size)
    knows key i c d at_c there same = elim (was i there.0 there.1) [
      | inl e ↦
          let next : d.port_id ≡ f.next_port =
          ap (λ (z : ReceiverDetails). z.port_id) there.2 ∙ ap (λ (z : SubscriberFields). z.id) e in
          let low : c.home.subscriber < f.next_port = subscriber-known f sound key c at_c in
          absurd (omega arith)
      | inr old ↦ sound.parts.linked.knows.at key i c d at_c
          (map-at details_of f.subscribers i ∙ ap (option_map details_of) old ∙ ap Some (sym there.2)) same
    ]

  expired_room-entered : HasExpiredRoom (placed f.subscribers place new) f.connections
  expired_room-entered = record {
    at = λ i y at. elim (was i y at) [
      | inl e ↦ rw e (let none = count-none f.connections f.next_port (λ key c at_c same.
          let low : c.home.subscriber < f.next_port = subscriber-known f sound key c at_c in
          absurd (omega arith)) in omega arith)
      | inr old ↦ sound.parts.expired_room.at i y old
    ];
  }

  -- the invariant is kept
  pub entered-agrees : warnings.capacity ≡ warning_limit → place ≤ length f.subscribers
      → IsWellFormed (state_of (kept_of after)) → IsDomain after
  entered-agrees room low well = record {
    parts = other_parts f sound.parts after (ids_apart f sound warnings place given key_room expired_room free)
        sound.parts.apart linked expired_room-entered sound.parts.names
        (record { at = sound.parts.counted.at }) room;
    kept_books = kept-publishers f.next_port (f.next_port + 1) f.publishers f.publishers (omega arith)
        (λ i x at. (x, at, refl, refl)) (λ i y at. inl (y, at, refl)) f.books sound.kept_books;
    lone = sound.lone;
    well_formed = well;
    entries = λ p n held. sound.entries p n (held-before (state_of (kept_of f)) (state_of (kept_of after)) p n
        (λ q. refl) (λ y at. (y, at, record { history = refl; blocked = refl })) held);
  }
