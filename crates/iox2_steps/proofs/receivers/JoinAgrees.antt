-- A domain's fields agree with the new keys of a subscriber, whichever publishers were closed.
use Rattle.std.proofs.Common.{◌≡◌, ◌<◌, ℕ, ◌+◌, arith, List, Bool, get_or, slice_set, refl, ap, sym, ◌∙◌, inl, inr, ◌⊎◌}
use Rattle.std.specs.declared.option.Option.{Option}
use Rattle.std.specs.declared.option.Option.TheVariants.{None, Some}
use Rattle.std.specs.Option.{option_map}
use Rattle.slab.specs.Slab.{Slab, get}
use Rattle.iox2_machine.specs.machine.Limits.{warning_limit}
use Rattle.iox2_connections.specs.Link.{Link}
use Rattle.iox2_machine.specs.machine.Mailbox.{Mailbox}
use Rattle.iox2_machine.specs.machine.State.{State}
use Rattle.iox2_machine.specs.machine.WellFormed.{IsWellFormed}
use Rattle.iox2_connections.specs.Finds.{IsReceivers}
use Rattle.iox2_connections.specs.declared.sender.ReceiverDetails.{ReceiverDetails}
use Rattle.iox2_domain.specs.WarningRing.{WarningRing}
use Rattle.iox2_domain.specs.Ports.{SubscriberFields}
use Rattle.iox2_domain.specs.Kept.{state_of}
use Rattle.iox2_domain.specs.Fields.{Fields, kept_of}
use Rattle.iox2_domain.specs.Invariant.{IsDomain, IsLinked, IsCounted, ReceiverHas, is_subscriber, own_holders}
use Rattle.iox2_domain.specs.Invariant.{details_of}
use Rattle.iox2_domain.proofs.lemmas.containers.LookUps.{map-at, viewed}
use Rattle.iox2_domain.proofs.lemmas.fields.Views.{held-before}
use Rattle.iox2_domain.proofs.lemmas.containers.ChangedRecords.{changed-here, changed-stood, changed-only}
use Rattle.iox2_domain.proofs.lemmas.containers.Extensions.{sender_linked, receiver_linked}
use Rattle.iox2_steps.proofs.receivers.MoreConnections.{mailboxes-same}
use Rattle.iox2_steps.proofs.updates.ReceiverChanges.{FitsReceiver, IsNewOfReceiver, with_keys, with_receiver}
use Rattle.iox2_steps.proofs.receivers.JoinChanges.{receiver-is}
use Rattle.std.proofs.lemmas.Bool.{true≢false}
use Rattle.iox2_domain.proofs.lemmas.fields.OpenReceivers.{open-changed}
use Rattle.iox2_domain.proofs.lemmas.fields.Standing.{one-publisher, one-subscriber}
use Rattle.iox2_domain.proofs.lemmas.fields.Parts.{other_parts}
use Rattle.iox2_steps.proofs.updates.ChangedPorts.{stood-before, stands-after, one-record, known-before}

module _ {T U : Type 0} (f : Fields T U) (sound : IsDomain f) (j : ℕ) (y : SubscriberFields)
    (at : get_or f.subscribers j None ≡ Some y)
    (keys : List (Option ℕ)) (key_room expired_room : ℕ) (is_due : Bool) (connections : Slab Link)
    (warnings : WarningRing) (fits : FitsReceiver f j y keys key_room expired_room connections) where
  abbrev changed : SubscriberFields
  changed = with_keys y keys key_room expired_room is_due

  abbrev subscribers : List (Option SubscriberFields)
  subscribers = slice_set f.subscribers j (Some changed)

  abbrev after : Fields T U
  after = with_receiver f j y keys key_room expired_room is_due connections warnings

  abbrev New : (key : ℕ) → Link → Type 0
  New key c = IsNewOfReceiver f j y keys key_room key c

  stood : (k : ℕ) (z : SubscriberFields) → get_or subscribers k None ≡ Some z
      → ((k ≡ j) × (z ≡ changed)) ⊎ (get_or f.subscribers k None ≡ Some z)
  stood = changed-stood f.subscribers j y changed at

  -- who stands somewhere stood there before, with the same details
  was : (k : ℕ) (z : SubscriberFields) → get_or subscribers k None ≡ Some z
      → (w : SubscriberFields) × (get_or f.subscribers k None ≡ Some w) × (details_of w ≡ details_of z)
  was = stood-before f.subscribers j y changed at (λ w z. details_of w ≡ details_of z) (λ z. refl) refl

  -- who stood somewhere stands there, but for its keys, of which it has what it had
  abbrev Keeps : (z w : SubscriberFields) → Type 0
  Keeps z w = (w.id ≡ z.id) × (w.expired ≡ z.expired)
      × ((place key : ℕ) → get_or z.keys place None ≡ Some key → get_or w.keys place None ≡ Some key)

  still : (k : ℕ) (z : SubscriberFields) → get_or f.subscribers k None ≡ Some z
      → (w : SubscriberFields) × (get_or subscribers k None ≡ Some w) × Keeps z w
  still =
      stands-after f.subscribers j y changed at Keeps (λ z. (refl, refl, λ place key has. has)) (refl, refl, fits.keeps)

  -- a subscriber that had a connection has it
  has-still : (key : ℕ) (c : Link) → ReceiverHas f.subscribers key c → ReceiverHas subscribers key c
  has-still key c has =
      let w = still c.home.subscriber_place has.subscriber has.stands in
      record {
        subscriber = w.0;
        stands = w.1;
        is_its = (w.2).0 ∙ has.is_its;
        has = elim has.has [
          | inl here ↦ inl ((w.2).2 c.home.publisher_place key here)
          | inr among ↦ inr (rw (w.2).1 among)
        ];
      }

  -- the subscriber has its new connection
  has-new : (key : ℕ) (c : Link) → New key c → ReceiverHas subscribers key c
  has-new key c new = record {
    subscriber = changed;
    stands = ap (λ (n : ℕ). get_or subscribers n None) new.subscriber_place ∙ changed-here f.subscribers j y changed at;
    is_its = sym new.subscriber;
    has = inl new.has;
  }

  places : (k place key : ℕ) (z : SubscriberFields) (c : Link)
      → ((k ≡ j) × (z ≡ changed)) ⊎ (get_or f.subscribers k None ≡ Some z) → get_or z.keys place None ≡ Some key
      → get connections key ≡ Some c → c.home.publisher_place ≡ place
  places k place key z c (inl here) at_key at_c =
      fits.places place key c (sym (ap (λ (w : SubscriberFields). get_or w.keys place None) here.1) ∙ at_key) at_c
  places k place key z c (inr old) at_key at_c =
      sound.parts.linked.receiver_places k place key z c old at_key
      (known-before f.connections connections fits.extends (IsReceivers z.id (f.config).subscriber_max_borrowed_samples)
      key c at_c ((sound.parts.linked.receivers k z old).at place key at_key))

  knows : (key k : ℕ) (c : Link) (d : ReceiverDetails) → get connections key ≡ Some c
      → (z : SubscriberFields) × (get_or subscribers k None ≡ Some z) × (d ≡ details_of z)
      → d.port_id ≡ c.home.subscriber → (k ≡ c.home.subscriber_place) × (c.buffer ≡ d.buffer_size)
  knows key k c d at_c there same =
      let w = was k there.0 there.1 in
      let details : details_of w.0 ≡ d = w.2 ∙ sym there.2 in
      elim (fits.news key c at_c) [
        | inl old ↦ sound.parts.linked.knows.at key k c d old
            (map-at details_of f.subscribers k ∙ ap (option_map details_of) w.1 ∙ ap Some details) same
        | inr new ↦
            let id : w.0.id ≡ y.id = ap (λ (r : ReceiverDetails). r.port_id) details ∙ same ∙ new.subscriber in
            let place : k ≡ j = one-subscriber f sound.parts k j w.0 y w.1 at id in
            let is : w.0 ≡ y = one-record f.subscribers k j w.0 y w.1 at place in (
              place ∙ sym new.subscriber_place,
              new.buffer ∙ sym (ap (λ (z : SubscriberFields). z.buffer) is)
                  ∙ ap (λ (r : ReceiverDetails). r.buffer_size) details,
            )
      ]

  receiver_room : (key k : ℕ) (c : Link) (z : SubscriberFields) → get_or subscribers k None ≡ Some z
      → z.id ≡ c.home.subscriber
      → (get f.connections key ≡ Some c) ⊎ New key c
      → ((k ≡ j) × (z ≡ changed)) ⊎ (get_or f.subscribers k None ≡ Some z) → c.home.publisher_place < z.key_room
  receiver_room key k c z at_z same (inl old) (inl here) =
      let low : c.home.publisher_place < y.key_room = sound.parts.linked.receiver_rooms key j c y old at
      (sym (ap (λ (w : SubscriberFields). w.id) here.1) ∙ same) in
      let grows = fits.grows in
      let enough : c.home.publisher_place < key_room = omega arith in
      rw here.1 enough
  receiver_room key k c z at_z same (inl old) (inr was_there) =
      sound.parts.linked.receiver_rooms key k c z old was_there same
  receiver_room key k c z at_z same (inr new) _ =
      let w = was k z at_z in
      let id : w.0.id ≡ y.id = ap (λ (r : ReceiverDetails). r.port_id) w.2 ∙ same ∙ new.subscriber in
      let place : k ≡ j = one-subscriber f sound.parts k j w.0 y w.1 at id in
      rw (one-record subscribers k j z changed at_z (changed-here f.subscribers j y changed at) place) new.room

  linked : IsLinked after
  linked = record {
    senders = λ k z at_z.
        sender_linked f.connections connections fits.extends z.id z.keys (sound.parts.linked.senders k z at_z);
    receivers = λ k z at_z. elim (stood k z at_z) [
      | inl here ↦ rw here.1 fits.linked
      | inr old ↦
          receiver_linked f.connections connections fits.extends z.id _ z.keys (sound.parts.linked.receivers k z old)
    ];
    expired = λ k z at_z. elim (stood k z at_z) [
      | inl here ↦ rw here.1
          (receiver_linked f.connections connections fits.extends y.id _ _ (sound.parts.linked.expired j y at))
      | inr old ↦ receiver_linked f.connections connections fits.extends z.id _ _ (sound.parts.linked.expired k z old)
    ];
    ends = λ key c at_c. elim (fits.news key c at_c) [
      | inl old ↦ elim (sound.parts.linked.ends key c old) [ inl has ↦ inl has | inr has ↦ inr (has-still key c has) ]
      | inr new ↦ inr (has-new key c new)
    ];
    receiver_places = λ k place key z c at_z at_key at_c. places k place key z c (stood k z at_z) at_key at_c;
    knows =
        record { at = λ key k c d at_c at_d same. knows key k c d at_c (viewed details_of subscribers k d at_d) same };
    knows_publishers = λ key k c z at_c at_z same. elim (fits.news key c at_c) [
      | inl old ↦ sound.parts.linked.knows_publishers key k c z old at_z same
      | inr new ↦
          one-publisher f sound.parts k c.home.publisher_place z new.publisher at_z new.stands (same ∙ sym new.is_its)
    ];
    sender_rooms = λ key k c z at_c at_z same. elim (fits.news key c at_c) [
      | inl old ↦ sound.parts.linked.sender_rooms key k c z old at_z same
      | inr new ↦
          let place : k ≡ c.home.publisher_place =
          one-publisher f sound.parts k c.home.publisher_place z new.publisher at_z new.stands
          (same ∙ sym new.is_its) in
          rw (one-record f.publishers k c.home.publisher_place z new.publisher at_z new.stands place) new.publisher_room
    ];
    receiver_rooms =
        λ key k c z at_c at_z same. receiver_room key k c z at_z same (fits.news key c at_c) (stood k z at_z);
    limits = λ key c at_c.
        elim (fits.news key c at_c) [ inl old ↦ sound.parts.linked.limits key c old | inr new ↦ new.limit ];
    channel_counts = λ key c at_c.
        elim (fits.news key c at_c) [ inl old ↦ sound.parts.linked.channel_counts key c old | inr new ↦ new.channels ];
    returned = λ key c at_c.
        elim (fits.news key c at_c) [ inl old ↦ sound.parts.linked.returned key c old | inr new ↦ inr new.returned ];
    marked = λ key c at_c is. elim (fits.news key c at_c) [
      | inl old ↦ let both = sound.parts.linked.marked key c old is in
          record {
            sender = both.sender;
            receiver = open-changed f.subscribers j y changed at refl refl c both.receiver;
          }
      | inr new ↦ absurd (true≢false (sym is ∙ new.unmarked))
    ];
  }

  counted : IsCounted after
  counted = record {
    at = λ p slot.
        sound.parts.counted.at p slot ∙ ap (λ n. own_holders f p slot + n) (sym (fits.extends.sums p slot));
  }

  -- the invariant is kept
  pub receiver-agrees : warnings.capacity ≡ warning_limit → IsWellFormed (state_of (kept_of after)) → IsDomain after
  receiver-agrees room well = record {
    parts = other_parts f sound.parts after (λ q. changed-only f.subscribers j y changed at (is_subscriber q) refl
        (sound.parts.subscriber_ids q)) fits.extends.apart linked
        (record {
          at = λ k z at_z. elim (stood k z at_z) [
            | inl here ↦
                rw here.1 (let was_enough = fits.rooms.at j y at in let grows = fits.expired_grows in omega arith)
            | inr old ↦ fits.rooms.at k z old
          ];
        })
        (record {
          at = λ key c at_c. elim (fits.news key c at_c) [
            | inl old ↦ sound.parts.names.at key c old
            | inr new ↦ let has = sound.parts.books.publishers c.home.publisher_place new.publisher new.stands in
                rw new.book (record { book = has.book; stands = has.stands; is_its = has.is_its ∙ new.is_its })
          ];
        })
        counted room;
    lone = sound.lone;
    kept_books = record { at = sound.kept_books.at };
    well_formed = well;
    entries = λ p n held. sound.entries p n (held-before (state_of (kept_of f)) (state_of (kept_of after)) p n
        (λ q. ap (λ (boxes : ℕ → ℕ → Mailbox). boxes p q) (mailboxes-same f sound.parts connections fits.extends))
        (λ w at_w. (
          w,
          ap (λ (s : State T U). s.publishers p)
              (sym (receiver-is f sound.parts j y at keys key_room expired_room is_due connections warnings fits))
              ∙ at_w,
          record { history = refl; blocked = refl },
        )) held);
  }
