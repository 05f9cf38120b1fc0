-- Channels of connections change, and which connections are marked as open.
use Rattle.std.proofs.Common.{◌≡◌, ℕ, ◌+◌, ◌≤◌, true, false, length, map, refl, ap, sym, subst, ◌∙◌, inl, inr, ◌⊎◌}
use Rattle.std.proofs.Common.{Option, None, Some, []}
use Rattle.std.specs.Option.{option_map}
use Rattle.slab.specs.Slab.{Slab, get}
use Rattle.iox2_connections.specs.Link.{Link}
use Rattle.iox2_machine.specs.machine.Limits.{channel_count}
use Rattle.iox2_machine.specs.machine.State.{State}
use Rattle.iox2_machine.specs.machine.WellFormed.{IsWellFormed}
use Rattle.iox2_connections.specs.Counters.{stands}
use Rattle.iox2_connections.specs.Homes.{IsApart}
use Rattle.iox2_connections.specs.LookUp.{look_up}
use Rattle.iox2_connections.specs.Mailboxes.{is_between, mailbox_if_any, mailboxes_of, channels_in}
use Rattle.iox2_domain.specs.Fields.{Fields, kept_of, number_in_slot}
use Rattle.iox2_domain.specs.Invariant.{IsDomain, HasParts, HasExpiredRoom, IsBetweenOpen, IsBookOf, IsCounted}
use Rattle.iox2_domain.specs.Invariant.{NamesBooks, SenderHas, one_if_receivers, own_holders}
use Rattle.iox2_domain.specs.Kept.{state_of, port_named, ids}
use Rattle.iox2_domain.specs.Reaches.{Reaches}
use Rattle.iox2_domain.specs.Shows.{KeepsEntries}
use Rattle.iox2_laws.proofs.PortChanges.{with_all_channels_keeps}
use Rattle.iox2_domain.proofs.lemmas.fields.KeptChannels.{channels-are, look_up-alike}
use Rattle.iox2_domain.proofs.lemmas.fields.Parts.{whole_of, connected_parts}
use Rattle.iox2_domain.proofs.lemmas.fields.SameSeats.{SameSeats, seat_of, senders-seated, receivers-seated}
use Rattle.iox2_domain.proofs.lemmas.fields.SameSeats.{sender-seated, linked-seated}
use Rattle.iox2_domain.proofs.lemmas.fields.Views.{mailboxes-are, held-before}
use Rattle.iox2_domain.proofs.lemmas.slots.Recounts.{sum-alike}
use Rattle.iox2_domain.proofs.lemmas.fields.PlacesKept.{places-still}
use mathlib.Core.Path.{fun_ext}

-- The connection, whatever channels it has, and whether it is marked as open.
abbrev pub plain_link : Link → Link
plain_link c = record c { is_open = false; channels = [] }

-- Nothing changed of connections but channels and marks, and no channel came or went.
pub record SameButChannels (old new : Slab Link) : Type 0 where
  pub same : (key : ℕ) → option_map plain_link (get new key) ≡ option_map plain_link (get old key)
  pub counts : (key : ℕ) → option_map (λ (c : Link). length c.channels) (get new key) ≡ option_map
      (λ (c : Link). length c.channels) (get old key)

module _ (old new : Slab Link) (same : SameButChannels old new) where
  -- what a connection is to whatever reads neither
  pub plain-alike : {A : Type 0} (g : Option Link → A) → ((c : Link) → g (Some c) ≡ g (Some (plain_link c))) → (k : ℕ)
      → g (get new k) ≡ g (get old k)
  plain-alike {A} g plain k = through (get new k) ∙ ap g (same.same k) ∙ sym (through (get old k)) where
    through : (o : Option Link) → g o ≡ g (option_map plain_link o)
    through None = refl
    through (Some c) = plain c

  -- a connection that stands was there
  pub plain-was : (k : ℕ) (d : Link) → get new k ≡ Some d
      → (c : Link) × (get old k ≡ Some c) × (plain_link c ≡ plain_link d)
  plain-was k d at = by (get old k) refl (sym (same.same k) ∙ ap (option_map plain_link) at) where
    by : (o : Option Link) → get old k ≡ o → option_map plain_link o ≡ Some (plain_link d)
        → (c : Link) × (get old k ≡ Some c) × (plain_link c ≡ plain_link d)
    by None e h = absurd cc
    by (Some c) e h = (c, e, let is : plain_link c ≡ plain_link d = cc in is)

  -- each connection keeps its seat
  pub plain-seats : SameSeats old new
  plain-seats = record { same = plain-alike (option_map seat_of) (λ c. refl) }

  -- and its mailbox
  pub plain-boxes : (number : ℕ → ℕ → ℕ) (p q : ℕ) → mailboxes_of number new p q ≡ mailboxes_of number old p q
  plain-boxes number p q =
      through (look_up (is_between p q) new.slots)
      ∙ ap (mailbox_if_any (number p)) (look_up-alike plain_link (is_between p q) old.slots new.slots same.same)
      ∙ sym (through (look_up (is_between p q) old.slots))
    where
      through : (o : Option Link) → mailbox_if_any (number p) o ≡ mailbox_if_any (number p) (option_map plain_link o)
      through None = refl
      through (Some c) = refl

module _ {T U : Type 0} (f : Fields T U) (sound : IsDomain f) (new : Slab Link)
    (same : SameButChannels f.connections new)
    (marked : (k : ℕ) (d : Link) → get new k ≡ Some d → d.is_open ≡ true
    → IsBetweenOpen f.publishers f.subscribers k d) where
  -- the fields with these connections
  abbrev pub rechanneled : Fields T U
  rechanneled = record f { connections = new }

  seats : SameSeats f.connections new
  seats = plain-seats f.connections new same

  -- ---- what is kept

  boxes : (state_of (kept_of rechanneled)).mailboxes ≡ (state_of (kept_of f)).mailboxes
  boxes = fun_ext (λ p. fun_ext (λ q.
      mailboxes-are rechanneled p q ∙ plain-boxes f.connections new same (number_in_slot f.books) p q
      ∙ sym (mailboxes-are f p q)))

  -- the machine sees the channels alone
  pub rechanneled-is : state_of (kept_of rechanneled) ≡ record (state_of (kept_of f)) { channels = channels_in new }
  rechanneled-is = λ i. record (state_of (kept_of f)) {
    publishers = λ p. port_named p (map (option_map (senders-seated f new seats i)) f.publishers);
    subscribers = λ q. port_named q (map (option_map (receivers-seated f new seats i)) f.subscribers);
    mailboxes = boxes i;
    channels = channels-are rechanneled i;
    publisher_places = ids (map (option_map (senders-seated f new seats i)) f.publishers);
    subscriber_places = ids (map (option_map (receivers-seated f new seats i)) f.subscribers);
  }

  -- ---- the parts

  apart : IsApart new
  apart = record {
    one = λ p q. record {
      one = λ i j x y at_x at_y is_x is_y.
          let a = plain-was f.connections new same i x at_x in
          let b = plain-was f.connections new same j y at_y in
          ((sound.parts.apart).one p q).one i j a.0 b.0 a.1 b.1 (ap (is_between p q) a.2 ∙ is_x)
          (ap (is_between p q) b.2 ∙ is_y);
    };
  }

  counts : (k : ℕ) (d : Link) → get new k ≡ Some d → length d.channels ≡ channel_count f.config
  counts k d at_d =
      let c = plain-was f.connections new same k d at_d in
      let both : Some (length d.channels) ≡ Some (length c.0.channels) =
      sym (ap (option_map (λ (e : Link). length e.channels)) at_d) ∙ same.counts k
      ∙ ap (option_map (λ (e : Link). length e.channels)) c.1 in
      let alike : length d.channels ≡ length c.0.channels = cc in
      alike ∙ sound.parts.linked.channel_counts k c.0 c.1

  room : HasExpiredRoom f.subscribers new
  room = record {
    at = λ i y at_y. subst (λ (n : ℕ). n ≤ y.expired_room)
        (sym (sum-alike (one_if_receivers y.id) refl new.slots f.connections.slots
        (plain-alike f.connections new same (one_if_receivers y.id) (λ c. refl))))
        (sound.parts.expired_room.at i y at_y);
  }

  names : NamesBooks f.books new
  names = record {
    at = λ k d at_d.
        let c = plain-was f.connections new same k d at_d in
        subst (λ (e : Link). IsBookOf f.books e.home.publisher e.home.book) c.2 (sound.parts.names.at k c.0 c.1);
  }

  counted : IsCounted rechanneled
  counted = record {
    at = λ p slot. sound.parts.counted.at p slot
        ∙ ap (λ (n : ℕ). own_holders f p slot + n)
        (sym (sum-alike (stands p slot) refl new.slots f.connections.slots
        (plain-alike f.connections new same (stands p slot) (λ c. refl))));
  }

  consistent : HasParts rechanneled
  consistent = connected_parts f sound.parts new apart
      (linked-seated f new seats sound.parts.linked counts returned marked) room names counted where
        returned : (k : ℕ) (d : Link) → get new k ≡ Some d → SenderHas f.publishers k d ⊎ (d.returned ≡ [])
        returned k d at_d =
            let c = plain-was f.connections new same k d at_d in
            elim (sound.parts.linked.returned k c.0 c.1) [
              | inl has ↦ inl (sender-seated f new seats k c.0 d (ap seat_of c.2) has)
              | inr none ↦ inr (sym (ap (λ (e : Link). e.returned) c.2) ∙ none)
            ]

  entries : KeepsEntries (kept_of rechanneled)
  entries p n held = sound.entries p n (held-before (state_of (kept_of f)) (state_of (kept_of rechanneled)) p n
      (λ q. ap (λ (t : State T U). t.mailboxes p q) rechanneled-is)
      (λ w at_w. (
        w,
        sym (ap (λ (t : State T U). t.publishers p) rechanneled-is) ∙ at_w,
        record { history = refl; blocked = refl },
      )) held)

  -- nothing but channels changed
  pub rechanneled-reaches : Reaches f rechanneled (record (state_of (kept_of f)) { channels = channels_in new })
  rechanneled-reaches = record {
    agrees = whole_of rechanneled consistent sound.lone sound.kept_books
        (subst IsWellFormed (sym rechanneled-is)
        (with_all_channels_keeps (state_of (kept_of f)) sound.well_formed (channels_in new))) entries;
    state = rechanneled-is;
    entries = λ n entry e. e;
    places = places-still;
  }
