-- A domain's fields agree with the new keys of a publisher.
use Rattle.std.proofs.Common.{◌≡◌, ◌<◌, ℕ, ◌+◌, arith, true, false, List, Bool, get_or, slice_set, refl, ap, sym, ◌∙◌}
use Rattle.std.proofs.Common.{inl, inr, ◌⊎◌, cond, eqb}
use Rattle.std.specs.declared.option.Option.{Option}
use Rattle.std.specs.declared.option.Option.TheVariants.{None, Some}
use Rattle.std.specs.Option.{option_map_or}
use Rattle.slab.specs.Slab.{Slab, get}
use Rattle.iox2_machine.specs.machine.Limits.{warning_limit}
use Rattle.iox2_connections.specs.Link.{Link}
use Rattle.iox2_machine.specs.machine.Mailbox.{Mailbox}
use Rattle.iox2_machine.specs.machine.Records.{Publisher}
use Rattle.iox2_machine.specs.machine.State.{State}
use Rattle.iox2_machine.specs.machine.WellFormed.{IsWellFormed}
use Rattle.iox2_connections.specs.LookUp.{look_up}
use Rattle.iox2_connections.specs.Counters.{times}
use Rattle.iox2_connections.specs.Finds.{IsReceivers}
use Rattle.iox2_connections.specs.declared.sender.ReceiverDetails.{ReceiverDetails}
use Rattle.iox2_connections.proofs.LookUps.{look_up-changed, look_up-found}
use Rattle.iox2_laws.proofs.Puts.{found_put}
use Rattle.iox2_domain.specs.WarningRing.{WarningRing}
use Rattle.iox2_domain.specs.Ports.{PublisherFields, SubscriberFields}
use Rattle.iox2_domain.specs.Kept.{state_of}
use Rattle.iox2_domain.specs.Fields.{Fields, kept_of, publisher_of, is_book_of}
use Rattle.iox2_domain.specs.Invariant.{IsDomain, IsLinked, HasBooks, HasBook, IsCounted, SenderHas, is_publisher}
use Rattle.iox2_domain.specs.Invariant.{own_holders, is_loan_in, details_of}
use Rattle.iox2_domain.proofs.lemmas.containers.LookUps.{viewed}
use Rattle.iox2_domain.proofs.lemmas.fields.Views.{KeepsHeld, held-before}
use Rattle.iox2_domain.proofs.lemmas.fields.ConnectionEnds.{publisher-stands}
use Rattle.iox2_domain.proofs.lemmas.containers.ChangedRecords.{changed-here, changed-others, changed-stood}
use Rattle.iox2_domain.proofs.lemmas.containers.ChangedRecords.{changed-only}
use Rattle.iox2_domain.proofs.lemmas.containers.Extensions.{sender_linked, receiver_linked}
use Rattle.iox2_domain.proofs.lemmas.fields.Standing.{one-publisher, one-subscriber}
use Rattle.iox2_domain.proofs.lemmas.loans.PublisherChanges.{changed-kept_books}
use Rattle.iox2_domain.proofs.lemmas.slots.OpenLoans.{open-published}
use Rattle.iox2_steps.proofs.updates.SenderChanges.{FitsSender, IsNewOfSender, with_keys, with_sender, port_after}
use Rattle.iox2_steps.proofs.updates.SenderChanges.{sender-is}
use Rattle.std.proofs.lemmas.Bool.{true≢false}
use Rattle.iox2_steps.proofs.receivers.MoreConnections.{mailboxes-same}
use Rattle.iox2_steps.proofs.updates.ChangedPorts.{stood-before, stands-after, one-record, known-before}

module _ {T U : Type 0} (f : Fields T U) (sound : IsDomain f) (i : ℕ) (x : PublisherFields)
    (at : get_or f.publishers i None ≡ Some x)
    (keys : List (Option ℕ)) (key_room : ℕ) (is_due : Bool) (connections : Slab Link) (warnings : WarningRing)
    (fits : FitsSender f i x keys key_room connections) where
  abbrev changed : PublisherFields
  changed = with_keys x keys key_room is_due

  abbrev publishers : List (Option PublisherFields)
  publishers = slice_set f.publishers i (Some changed)

  abbrev after : Fields T U
  after = with_sender f i x keys key_room is_due connections warnings

  abbrev New : (key : ℕ) → Link → Type 0
  New key c = IsNewOfSender f i x keys key_room key c

  stood : (k : ℕ) (z : PublisherFields) → get_or publishers k None ≡ Some z
      → ((k ≡ i) × (z ≡ changed)) ⊎ (get_or f.publishers k None ≡ Some z)
  stood = changed-stood f.publishers i x changed at

  -- who stands somewhere stood there before, but for its keys
  was : (k : ℕ) (z : PublisherFields) → get_or publishers k None ≡ Some z
      → (y : PublisherFields) × (get_or f.publishers k None ≡ Some y) × (y.id ≡ z.id)
  was = stood-before f.publishers i x changed at (λ y z. y.id ≡ z.id) (λ z. refl) refl

  -- who stood somewhere stands there, but for its keys, of which it has what it had
  still : (k : ℕ) (z : PublisherFields) → get_or f.publishers k None ≡ Some z
      → (y : PublisherFields) × (get_or publishers k None ≡ Some y)
      × ((y.id ≡ z.id) × ((place key : ℕ) → get_or z.keys place None ≡ Some key → get_or y.keys place None ≡ Some key))
  still = stands-after f.publishers i x changed at (λ z y. (y.id ≡ z.id)
      × ((place key : ℕ) → get_or z.keys place None ≡ Some key → get_or y.keys place None ≡ Some key))
      (λ z. (refl, λ place key has. has)) (refl, fits.keeps)

  -- a publisher that had a connection has it
  has-still : (key : ℕ) (c : Link) → SenderHas f.publishers key c → SenderHas publishers key c
  has-still key c has =
      let y = still c.home.publisher_place has.publisher has.stands in
      record {
        publisher = y.0;
        stands = y.1;
        is_its = (y.2).0 ∙ has.is_its;
        has = (y.2).1 c.home.subscriber_place key has.has;
      }

  -- the publisher has its new connection
  has-new : (key : ℕ) (c : Link) → New key c → SenderHas publishers key c
  has-new key c new = record {
    publisher = changed;
    stands = ap (λ (n : ℕ). get_or publishers n None) new.publisher_place ∙ changed-here f.publishers i x changed at;
    is_its = sym new.publisher;
    has = new.has;
  }

  linked : IsLinked after
  linked = record {
    senders = λ k z at_z. elim (stood k z at_z) [
      | inl here ↦ rw here.1 fits.linked
      | inr old ↦ sender_linked f.connections connections fits.extends z.id z.keys (sound.parts.linked.senders k z old)
    ];
    receivers = λ k y at_y.
        receiver_linked f.connections connections fits.extends y.id _ y.keys (sound.parts.linked.receivers k y at_y);
    expired = λ k y at_y.
        receiver_linked f.connections connections fits.extends y.id _ _ (sound.parts.linked.expired k y at_y);
    ends = λ key c at_c. elim (fits.news key c at_c) [
      | inl old ↦ elim (sound.parts.linked.ends key c old) [ inl has ↦ inl (has-still key c has) | inr has ↦ inr has ]
      | inr new ↦ inl (has-new key c new)
    ];
    receiver_places = λ k place key y c at_y at_key at_c. sound.parts.linked.receiver_places k place key y c at_y at_key
        (known-before f.connections connections fits.extends
        (IsReceivers y.id (f.config).subscriber_max_borrowed_samples) key c at_c
        ((sound.parts.linked.receivers k y at_y).at place key at_key));
    knows = record {
      at = λ key k c d at_c at_d same. elim (fits.news key c at_c) [
        | inl old ↦ sound.parts.linked.knows.at key k c d old at_d same
        | inr new ↦ knows key k c d new (viewed details_of f.subscribers k d at_d) same
      ];
    };
    knows_publishers = λ key k c z at_c at_z same.
        let old_z = was k z at_z in
        elim (fits.news key c at_c) [
          | inl old ↦ sound.parts.linked.knows_publishers key k c old_z.0 old old_z.1 (old_z.2 ∙ same)
          | inr new ↦ one-publisher f sound.parts k i old_z.0 x old_z.1 at (old_z.2 ∙ same ∙ new.publisher)
              ∙ sym new.publisher_place
        ];
    sender_rooms = λ key k c z at_c at_z same. sender_room key k c z at_z same (fits.news key c at_c) (stood k z at_z);
    receiver_rooms = λ key k c y at_c at_y same. elim (fits.news key c at_c) [
      | inl old ↦ sound.parts.linked.receiver_rooms key k c y old at_y same
      | inr new ↦
          let place : k ≡ c.home.subscriber_place =
          one-subscriber f sound.parts k c.home.subscriber_place y new.subscriber at_y new.stands
          (same ∙ sym new.is_its) in
          rw (one-record f.subscribers k c.home.subscriber_place y new.subscriber at_y new.stands place)
          new.subscriber_room
    ];
    limits = λ key c at_c.
        elim (fits.news key c at_c) [ inl old ↦ sound.parts.linked.limits key c old | inr new ↦ new.limit ];
    channel_counts = λ key c at_c.
        elim (fits.news key c at_c) [ inl old ↦ sound.parts.linked.channel_counts key c old | inr new ↦ new.channels ];
    returned = λ key c at_c. elim (fits.news key c at_c) [
      | inl old ↦
          elim (sound.parts.linked.returned key c old) [ inl has ↦ inl (has-still key c has) | inr none ↦ inr none ]
      | inr new ↦ inl (has-new key c new)
    ];
    marked = λ key c at_c is. elim (fits.news key c at_c) [
      | inl old ↦ let both = sound.parts.linked.marked key c old is in
          record { sender = has-still key c both.sender; receiver = both.receiver }
      | inr new ↦ absurd (true≢false (sym is ∙ new.unmarked))
    ];
  } where
    sender_room : (key k : ℕ) (c : Link) (z : PublisherFields) → get_or publishers k None ≡ Some z
        → z.id ≡ c.home.publisher
        → (get f.connections key ≡ Some c) ⊎ New key c
        → ((k ≡ i) × (z ≡ changed)) ⊎ (get_or f.publishers k None ≡ Some z) → c.home.subscriber_place < z.key_room
    sender_room key k c z at_z same (inl old) (inl here) =
        let low : c.home.subscriber_place < x.key_room =
        sound.parts.linked.sender_rooms key i c x old at (sym (ap (λ (w : PublisherFields). w.id) here.1) ∙ same) in
        let grows = fits.grows in
        let enough : c.home.subscriber_place < key_room = omega arith in
        rw here.1 enough
    sender_room key k c z at_z same (inl old) (inr was_there) =
        sound.parts.linked.sender_rooms key k c z old was_there same
    sender_room key k c z at_z same (inr new) _ =
        let old_z = was k z at_z in
        let place : k ≡ i = one-publisher f sound.parts k i old_z.0 x old_z.1 at (old_z.2 ∙ same ∙ new.publisher) in
        rw (one-record publishers k i z changed at_z (changed-here f.publishers i x changed at) place) new.room

    knows : (key k : ℕ) (c : Link) (d : ReceiverDetails) → New key c
        → (y : SubscriberFields) × (get_or f.subscribers k None ≡ Some y) × (d ≡ details_of y)
        → d.port_id ≡ c.home.subscriber → (k ≡ c.home.subscriber_place) × (c.buffer ≡ d.buffer_size)
    knows key k c d new there same =
        let id : there.0.id ≡ new.subscriber.id =
        sym (ap (λ (r : ReceiverDetails). r.port_id) there.2) ∙ same ∙ sym new.is_its in
        let place : k ≡ c.home.subscriber_place =
        one-subscriber f sound.parts k c.home.subscriber_place there.0 new.subscriber there.1 new.stands id in
        let is : there.0 ≡ new.subscriber =
        one-record f.subscribers k c.home.subscriber_place there.0 new.subscriber there.1 new.stands place in (
          place,
          new.buffer ∙ sym (ap (λ (y : SubscriberFields). y.buffer) is)
              ∙ sym (ap (λ (r : ReceiverDetails). r.buffer_size) there.2),
        )

  books : HasBooks after
  books = record {
    one_each = sound.parts.books.one_each;
    books = sound.parts.books.books;
    publishers = λ k z at_z. elim (stood k z at_z) [
      | inl here ↦
          rw here.1 (let has = sound.parts.books.publishers i x at in rebuilt changed refl refl refl refl refl has)
      | inr old ↦ rebuilt z refl refl refl refl refl (sound.parts.books.publishers k z old)
    ];
    no_others = sound.parts.books.no_others;
  } where
    rebuilt : (z : PublisherFields) {y : PublisherFields} → z.id ≡ y.id → z.book ≡ y.book → z.slots ≡ y.slots
        → z.segment_start ≡ y.segment_start → z.segment_length ≡ y.segment_length
        → HasBook f y → HasBook after z
    rebuilt z {y} id book slots start longest has = record {
      book = has.book;
      stands = ap (get f.books) book ∙ has.stands;
      is_its = has.is_its ∙ sym id;
      node = has.node;
      slots = rw (start, slots) has.slots;
      room = rw (book, start, longest) has.room;
    }

  -- what the publisher itself has of the slot, or what is out of one that is gone
  abbrev own : (p slot : ℕ) → Option PublisherFields → ℕ
  own p slot o =
      option_map_or (λ (z : PublisherFields). times slot z.loans + times slot (z.history).items) o
      (option_map_or (λ b. cond (is_loan_in b slot) 1 0) (look_up (is_book_of p) f.books.slots) 0)

  same-own : (p slot : ℕ) → own_holders after p slot ≡ own_holders f p slot
  same-own p slot =
      ap (own p slot)
      (look_up-changed (is_publisher p) f.publishers publishers i x changed (sound.parts.publisher_ids p)
      (changed-only f.publishers i x changed at (is_publisher p) refl (sound.parts.publisher_ids p)) at
      (changed-here f.publishers i x changed at) (changed-others f.publishers i x changed at) refl)
      ∙ by (eqb x.id p) refl
    where
      by : (b : Bool) → eqb x.id p ≡ b → own p slot (cond b (Some changed) (look_up (is_publisher p) f.publishers))
          ≡ own p slot (look_up (is_publisher p) f.publishers)
      by true e =
          ap (own p slot) (sym (look_up-found (is_publisher p) f.publishers i x (sound.parts.publisher_ids p) at e))
      by false e = refl

  counted : IsCounted after
  counted = record {
    at = λ p slot. sound.parts.counted.at p slot ∙ sym (λ k. same-own p slot k + fits.extends.sums p slot k);
  }

  -- a publisher holds what it held
  held : (p : ℕ) (y : Publisher) → (state_of (kept_of after)).publishers p ≡ Some y
      → (z : Publisher) × ((state_of (kept_of f)).publishers p ≡ Some z) × KeepsHeld z y
  held p y at_y =
      let is = ap (λ (s : State T U). s.publishers p)
      (sender-is f sound i x at keys key_room is_due connections warnings fits) in
      found_put (state_of (kept_of f)).publishers x.id
      (port_after f sound i x at keys key_room is_due connections warnings fits)
      (λ n w. (z : Publisher) × ((state_of (kept_of f)).publishers n ≡ Some z) × KeepsHeld z w) p y (sym is ∙ at_y)
      (λ _. (
        (publisher_of f.books f.connections x).port,
        publisher-stands f sound.parts i x at,
        record { history = refl; blocked = refl },
      ))
      (λ _ old. (y, old, record { history = refl; blocked = refl }))

  -- the invariant is kept
  pub sender-agrees : warnings.capacity ≡ warning_limit → IsWellFormed (state_of (kept_of after)) → IsDomain after
  sender-agrees room well = record {
    parts = record {
      publisher_ids = λ p. changed-only f.publishers i x changed at (is_publisher p) refl (sound.parts.publisher_ids p);
      subscriber_ids = sound.parts.subscriber_ids;
      apart = fits.extends.apart;
      linked = linked;
      expired_room = fits.rooms;
      books = books;
      names = record {
        at = λ key c at_c. elim (fits.news key c at_c) [
          | inl old ↦ sound.parts.names.at key c old
          | inr new ↦ let has = sound.parts.books.publishers i x at in
              rw new.book (record { book = has.book; stands = has.stands; is_its = has.is_its ∙ sym new.publisher })
        ];
      };
      counted = counted;
      numbered = sound.parts.numbered;
      publisher_room = λ k z at_z. elim (stood k z at_z) [
        | inl here ↦ rw here.1 (let has = sound.parts.publisher_room i x at in
            record { loans = has.loans; history = has.history; size = has.size })
        | inr old ↦ sound.parts.publisher_room k z old
      ];
      warning_room = room;
      shapes = record { at = sound.parts.shapes.at };
      forms = sound.parts.forms;
      open_loans = open-published f.publishers publishers f.books f.contents (record {
        at = λ k z at_z. elim (stood k z at_z) [
          | inl here ↦ rw here.1 (i, x, at, refl, λ slot out. out, refl)
          | inr old ↦ (k, z, old, refl, λ slot out. out, refl)
        ];
      }) sound.parts.open_loans;
      plain = λ k z at_z. elim (stood k z at_z) [
        | inl here ↦ rw here.1 (let has = sound.parts.plain i x at in
            record {
              lent = has.lent;
              segment = record {
                static = has.segment.static;
                first = has.segment.first;
                longest = has.segment.longest;
                some = has.segment.some;
              };
            })
        | inr old ↦ sound.parts.plain k z old
      ];
    };
    kept_books = changed-kept_books f i x changed at refl f.books refl sound.kept_books;
    lone = sound.lone;
    well_formed = well;
    entries = λ p n held_now. sound.entries p n (held-before (state_of (kept_of f)) (state_of (kept_of after)) p n
        (λ q. ap (λ (boxes : ℕ → ℕ → Mailbox). boxes p q) (mailboxes-same f sound.parts connections fits.extends))
        (held p) held_now);
  }
