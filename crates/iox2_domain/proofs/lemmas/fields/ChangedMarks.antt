-- A connection is marked as open between open ports, or as open no more.
use Rattle.std.proofs.Common.{◌≡◌, ℕ, ◌+◌, ◌≤◌, Bool, true, length, map, slice_set, refl, ap, sym, subst, ◌∙◌, inl, inr}
use Rattle.std.proofs.Common.{◌⊎◌, Option, None, Some}
use Rattle.std.proofs.lemmas.Bool.{cases_eq}
use Rattle.std.proofs.lemmas.List.{map-set, set-get_or}
use Rattle.std.specs.Prelude.{[]}
use Rattle.std.specs.Option.{option_map}
use Rattle.slab.specs.Slab.{Slab, Updates, get, with_value}
use Rattle.iox2_connections.specs.Link.{Link}
use Rattle.iox2_connections.specs.declared.connection.Home.{Home}
use Rattle.iox2_machine.specs.machine.WellFormed.{IsWellFormed}
use Rattle.iox2_machine.specs.machine.Limits.{channel_count}
use Rattle.iox2_connections.specs.Counters.{stands}
use Rattle.iox2_connections.specs.Homes.{IsApart}
use Rattle.iox2_connections.specs.Mailboxes.{is_between}
use Rattle.iox2_connections.proofs.MailboxChanges.{Updates-with_value}
use Rattle.iox2_domain.specs.Fields.{Fields, kept_of, between_of}
use Rattle.iox2_domain.specs.Invariant.{IsDomain, HasParts, HasExpiredRoom, IsBetweenOpen, IsBookOf, IsCounted}
use Rattle.iox2_domain.specs.Invariant.{NamesBooks, SenderHas, one_if_receivers, own_holders}
use Rattle.iox2_domain.specs.Kept.{Kept, state_of}
use Rattle.iox2_domain.specs.OpenMarks.{ChangesMarks}
use Rattle.iox2_domain.specs.Shows.{KeepsEntries}
use Rattle.iox2_domain.proofs.lemmas.fields.Parts.{whole_of, connected_parts}
use Rattle.iox2_domain.proofs.lemmas.fields.SameSeats.{SameSeats, seat_of, senders-seated, receivers-seated}
use Rattle.iox2_domain.proofs.lemmas.fields.SameSeats.{sender-seated, open-seated, linked-seated}
use Rattle.iox2_domain.proofs.lemmas.slots.Recounts.{sum-alike}

module _ {T U : Type 0} (f : Fields T U) (sound : IsDomain f) (key : ℕ) (c : Link) (at : get f.connections key ≡ Some c)
    (is_open : Bool)
    (may : is_open ≡ true → IsBetweenOpen f.publishers f.subscribers key c) where
  -- the connection with the mark
  abbrev pub marked_link : Link
  marked_link = record c { is_open = is_open }

  abbrev new : Slab Link
  new = with_value f.connections key marked_link

  -- the fields with it
  abbrev pub with_mark : Fields T U
  with_mark = record f { connections = new }

  updates : Updates f.connections new key (Some marked_link)
  updates = Updates-with_value f.connections key c marked_link at

  -- what a connection is to whatever doesn't read its mark
  alike : {A : Type 0} (g : Option Link → A) → g (Some marked_link) ≡ g (Some c) → (k : ℕ)
      → g (get new k) ≡ g (get f.connections k)
  alike g same k = elim (cases_eq k key) [
    | inl here ↦ ap (λ (n : ℕ). g (get new n)) here ∙ ap g updates.changed ∙ same ∙ sym (ap g at)
        ∙ sym (ap (λ (n : ℕ). g (get f.connections n)) here)
    | inr away ↦ ap g (updates.others k away)
  ]

  seats : SameSeats f.connections new
  seats = record { same = alike (option_map seat_of) refl }

  -- a connection is the one that was there, or the marked one
  pub mark-was : (k : ℕ) (d : Link) → get new k ≡ Some d
      → ((k ≡ key) × (d ≡ marked_link)) ⊎ (get f.connections k ≡ Some d)
  mark-was k d at_d = elim (cases_eq k key) [
    | inl here ↦
        let both : Some marked_link ≡ Some d = sym updates.changed ∙ sym (ap (get new) here) ∙ at_d in
        let is : d ≡ marked_link = cc in
        inl (here, is)
    | inr away ↦ inr (sym (updates.others k away) ∙ at_d)
  ]

  -- ---- what is kept

  links : map (option_map (between_of f.books new)) new.slots ≡ map
      (option_map (between_of f.books f.connections)) f.connections.slots
  links =
      map-set (option_map (between_of f.books f.connections)) f.connections.slots key (Some marked_link)
      ∙ ap (λ (o : Option Link). slice_set (map (option_map (between_of f.books f.connections)) f.connections.slots) key
      (option_map (between_of f.books f.connections) o)) (sym at)
      ∙ sym (map-set (option_map (between_of f.books f.connections)) f.connections.slots key (get f.connections key))
      ∙ ap (map (option_map (between_of f.books f.connections))) (set-get_or f.connections.slots key None)

  pub mark-kept : kept_of with_mark ≡ kept_of f
  mark-kept = λ i. record (kept_of f) {
    publishers = map (option_map (senders-seated f new seats i)) f.publishers;
    subscribers = map (option_map (receivers-seated f new seats i)) f.subscribers;
    connections = links i;
  }

  -- ---- the parts

  apart : IsApart new
  apart = record {
    one = λ p q. record {
      one = λ i j x y at_x at_y is_x is_y.
          let a = before i x at_x in
          let b = before j y at_y in
          ((sound.parts.apart).one p q).one i j a.0 b.0 a.1 b.1
          (ap (λ (h : Home). is_between p q (record c { home = h })) a.2 ∙ is_x)
          (ap (λ (h : Home). is_between p q (record c { home = h })) b.2 ∙ is_y);
    };
  } where
    before : (k : ℕ) (d : Link) → get new k ≡ Some d → (b : Link) × (get f.connections k ≡ Some b) × (b.home ≡ d.home)
    before k d at_d = elim (mark-was k d at_d) [
      | inl here ↦ (c, ap (get f.connections) here.0 ∙ at, sym (ap (λ (e : Link). e.home) here.1))
      | inr old ↦ (d, old, refl)
    ]

  marked : (k : ℕ) (d : Link) → get new k ≡ Some d → d.is_open ≡ true → IsBetweenOpen f.publishers f.subscribers k d
  marked k d at_d is = elim (mark-was k d at_d) [
    | inl here ↦
        let both = may (sym (ap (λ (e : Link). e.is_open) here.1) ∙ is) in
        let seat : seat_of c ≡ seat_of d = ap seat_of (sym here.1) in
        record {
          sender = sender-seated f new seats k c d seat
              (subst (λ (n : ℕ). SenderHas f.publishers n c) (sym here.0) both.sender);
          receiver = open-seated f new seats c d seat both.receiver;
        }
    | inr old ↦ sound.parts.linked.marked k d old is
  ]

  room : HasExpiredRoom f.subscribers new
  room = record {
    at = λ i y at_y. subst (λ (n : ℕ). n ≤ y.expired_room)
        (sym (sum-alike (one_if_receivers y.id) refl new.slots f.connections.slots
        (alike (one_if_receivers y.id) refl))) (sound.parts.expired_room.at i y at_y);
  }

  names : NamesBooks f.books new
  names = record {
    at = λ k d at_d. elim (mark-was k d at_d) [
      | inl here ↦ subst (λ (e : Link). IsBookOf f.books e.home.publisher e.home.book) (sym here.1)
          (sound.parts.names.at key c at)
      | inr old ↦ sound.parts.names.at k d old
    ];
  }

  counted : IsCounted with_mark
  counted = record {
    at = λ p slot. sound.parts.counted.at p slot
        ∙ ap (λ (n : ℕ). own_holders f p slot + n)
        (sym (sum-alike (stands p slot) refl new.slots f.connections.slots (alike (stands p slot) refl)));
  }

  consistent : HasParts with_mark
  consistent = connected_parts f sound.parts new apart
      (linked-seated f new seats sound.parts.linked counts returned marked) room names counted where
        returned : (k : ℕ) (d : Link) → get new k ≡ Some d → SenderHas f.publishers k d ⊎ (d.returned ≡ [])
        returned k d at_d = elim (mark-was k d at_d) [
          | inl here ↦ elim (sound.parts.linked.returned k c (ap (get f.connections) here.0 ∙ at)) [
            | inl has ↦ inl (sender-seated f new seats k c d (ap seat_of (sym here.1)) has)
            | inr none ↦ inr (ap (λ (e : Link). e.returned) here.1 ∙ none)
          ]
          | inr old ↦ sound.parts.linked.returned k d old
        ]

        counts : (k : ℕ) (d : Link) → get new k ≡ Some d → length d.channels ≡ channel_count f.config
        counts k d at_d = elim (mark-was k d at_d) [
          | inl here ↦ ap (λ (e : Link). length e.channels) here.1
              ∙ sound.parts.linked.channel_counts k c (ap (get f.connections) here.0 ∙ at)
          | inr old ↦ sound.parts.linked.channel_counts k d old
        ]

  -- nothing but the mark changed
  pub changes-mark : ChangesMarks f with_mark
  changes-mark = record {
    agrees = whole_of with_mark consistent sound.lone sound.kept_books
        (subst (λ (k : Kept T U ⊥ ⊥). IsWellFormed (state_of k)) (sym mark-kept) sound.well_formed)
        (subst KeepsEntries (sym mark-kept) sound.entries);
    fields = refl;
    kept = mark-kept;
    same = record { same = alike (option_map (λ (l : Link). (l.home, l.channels))) refl };
  }
