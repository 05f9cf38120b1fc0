-- A publisher that stands somewhere leaves the domain: what its steps ask, and what they come to.
use Rattle.std.proofs.Common.{◌≡◌, ℕ, ◌≤◌, List, length, map, get_or, ap, sym, subst, ◌∙◌, inl, inr, ◌⊎◌, arith}
use Rattle.std.proofs.Common.{Contains}
use Rattle.std.specs.Prelude.{slice_set}
use Rattle.std.specs.declared.option.Option.{Option}
use Rattle.std.specs.declared.option.Option.TheVariants.{None, Some}
use Rattle.std.specs.Option.{option_map, option_and_then}
use Rattle.slab.specs.Slab.{Slab, ContainsKey, get, with_value}
use Rattle.iox2_connections.specs.Link.{Link}
use Rattle.iox2_slots.specs.SlotBook.{Book, holders_at}
use Rattle.iox2_machine.specs.machine.Ports.{publisher_closed}
use Rattle.iox2_machine.specs.machine.State.{State}
use Rattle.iox2_machine.specs.machine.WellFormed.{IsWellFormed}
use Rattle.iox2_connections.specs.Counters.{times, IsCovered, CountersFollow, with_counters}
use Rattle.iox2_connections.specs.Leaves.{Releases}
use Rattle.iox2_domain.specs.Ports.{PublisherFields, SubscriberFields}
use Rattle.iox2_domain.specs.Kept.{state_of}
use Rattle.iox2_domain.specs.Fields.{Fields, kept_of, publisher_of}
use Rattle.iox2_domain.specs.Invariant.{IsDomain, ReceiverHas}
use Rattle.iox2_domain.specs.Midway.{IsMidway}
use Rattle.iox2_domain.specs.Reaches.{Reaches, ReachesBut}
use Rattle.iox2_domain.specs.Closes.{FindsAll, LeavesConnections, SomeHasKey, left_subscriber}
use Rattle.iox2_domain.proofs.lemmas.slots.PublisherBooks.{BookCovers, book-there, book-covers, book-counts}
use Rattle.iox2_domain.proofs.lemmas.fields.KeptChannels.{but-channels}
use Rattle.iox2_domain.proofs.lemmas.fields.OwnKeys.{listed-at}
use Rattle.iox2_steps.proofs.closes.LeftKeys.{expired-gone}
use Rattle.iox2_steps.proofs.closes.LeftState.{left-reaches}
use Rattle.iox2_steps.proofs.closes.LoansLeft.{LeavesSlots}
use Rattle.iox2_steps.proofs.closes.LeftParts.{left_fields}
use Rattle.iox2_domain.specs.OpenMarks.{IsUnmarkedSender}

module _ {T U : Type 0} (key : ℕ) (old new : Fields T U) (s : State T U) (left : ReachesBut key old new s) where
  -- the book may go then
  closes-midway : IsMidway old new s key
  closes-midway = record {
    consistent = left.agrees.parts;
    lone = left.agrees.lone;
    kept_books = record {
      own = λ b at. inr (left.agrees.left_book b at);
      others = λ k b away at. left.agrees.kept_books k b away at;
    };
    state = but-channels new s left.state;
    channels = left.channels;
    entries = left.entries;
    places = left.places;
    complete = left.agrees.entries;
  }

  -- and the state is a well-formed one
  closes-well : IsWellFormed s
  closes-well = subst IsWellFormed left.state left.agrees.well_formed

  -- so it is closed
  pub closes-freed : (k : ℕ) → k ≡ key → (after : Fields T U)
      → ((before : Fields T U) (t : State T U) → IsMidway before new t k → state_of (kept_of new) ≡ t → IsWellFormed t
      → Reaches before after t) → Reaches old after s
  closes-freed k is after kept = kept old s (subst (IsMidway old new s) (sym is) closes-midway) left.state closes-well

module _ {T U : Type 0} (f : Fields T U) (sound : IsDomain f) (i : ℕ) (x : PublisherFields)
    (here : get_or f.publishers i None ≡ Some x) where
  -- its book is there
  pub leaver-book : ContainsKey f.books x.book
  leaver-book = book-there f sound.parts i x here

  -- each of its connections stands at one of its keys, or at one that a subscriber has at its place
  pub leaver-finds : FindsAll x i f.subscribers f.connections
  leaver-finds = record {
    at = λ key c at mine. elim (sound.parts.linked.ends key c at) [
      | inl has ↦
          let place : i ≡ c.home.publisher_place = sound.parts.linked.knows_publishers key i c x at here (sym mine) in
          let one : Some has.publisher ≡ Some x =
          sym has.stands ∙ sym (ap (λ (n : ℕ). get_or f.publishers n None) place) ∙ here in
          let is : has.publisher ≡ x = cc in
          inl (
            c.home.subscriber_place,
            ap (λ (z : PublisherFields). get_or z.keys c.home.subscriber_place None) (sym is) ∙ has.has,
          )
      | inr has ↦
          inr (theirs key c at mine has (sound.parts.linked.knows_publishers key i c x at here (sym mine)) has.has)
    ];
  } where
    theirs : (key : ℕ) (c : Link) → get f.connections key ≡ Some c → c.home.publisher ≡ x.id
        → (has : ReceiverHas f.subscribers key c) → i ≡ c.home.publisher_place
        → (get_or has.subscriber.keys c.home.publisher_place None ≡ Some key) ⊎ Contains has.subscriber.expired key
        → SomeHasKey f.subscribers i key
    theirs key c at mine has place (inl there) = (
      c.home.subscriber_place,
      ap (option_and_then (λ (y : SubscriberFields). get_or y.keys i None)) has.stands
          ∙ ap (λ (n : ℕ). get_or has.subscriber.keys n None) place ∙ there,
    )
    theirs key c at mine has place (inr among) =
        let there = listed-at has.subscriber.expired key among in
        absurd (expired-gone f sound i x here c.home.subscriber_place there.0 key has.subscriber c has.stands there.1 at
        mine)

  module _ (b : Book) (at : get f.books x.book ≡ Some b) where
    -- its book counts each place where a slot of it stands
    pub leaver-covered : IsCovered x.id b.holders f.connections.slots
    leaver-covered = book-covers f sound.parts i x here b at

    module _ (c : Book) (is_c : c ≡ with_counters b c.holders) (new : Slab Link)
        (follow : CountersFollow x.id b.holders f.connections.slots c.holders new.slots) where
      -- the slots of its history still have holders after it left its connections
      pub leaver-history : (slot : ℕ) → times slot (x.history).items ≤ holders_at c slot
      leaver-history slot = omega (arith, book-counts f sound.parts i x here b at slot, follow.at slot)

      -- it is closed, but that nobody may hold a slot of its book
      pub leaver-closed : IsUnmarkedSender f.connections i → x.blocked ≡ None → length c.holders ≡ length b.holders
          → LeavesConnections x.id f.subscribers f.connections new → (d : Book) → d ≡ with_counters c d.holders
          → Releases (x.history).items c.holders d.holders
          → (subscribers : List (Option SubscriberFields)) → subscribers ≡ map
          (option_map (left_subscriber new i)) f.subscribers → (place : Option PublisherFields) → place ≡ None
          → ReachesBut x.book f (record f {
            publishers = slice_set f.publishers i place;
            subscribers = subscribers;
            connections = new;
            books = with_value f.books x.book d;
          })
          (publisher_closed (state_of (kept_of f)) x.id (publisher_of f.books f.connections x).port)
      leaver-closed unmarked free long left d is_d given subscribers forgot place gone =
          subst (λ (g : Fields T U). ReachesBut x.book f g
          (publisher_closed (state_of (kept_of f)) x.id (publisher_of f.books f.connections x).port)) fields
          (left-reaches f sound i x here b at new left d.holders slots free unmarked)
        where
          slots : LeavesSlots x b.holders f.connections.slots d.holders new.slots
          slots = record { slots = given.slots ∙ long; at = λ slot. omega (arith, follow.at slot, given.counters slot) }

          book : with_counters b d.holders ≡ d
          book = sym (is_d ∙ ap (λ (e : Book). with_counters e d.holders) is_c)

          fields : left_fields f i x.book b d.holders new ≡ record f {
            publishers = slice_set f.publishers i place;
            subscribers = subscribers;
            connections = new;
            books = with_value f.books x.book d;
          }
          fields = λ t. record f {
            publishers = slice_set f.publishers i (sym gone t);
            subscribers = sym forgot t;
            connections = new;
            books = with_value f.books x.book (book t);
          }

module _ {T U : Type 0} (before f : Fields T U) (same : f ≡ before) (sound : IsDomain before) (i : ℕ)
    (x : PublisherFields) (here : get_or f.publishers i None ≡ Some x) where
  sound_f : IsDomain f
  sound_f = subst IsDomain (sym same) sound

  -- its connections stand at its keys, and at those that subscribers have at its place
  pub closes-finds : FindsAll x i f.subscribers f.connections
  closes-finds = leaver-finds f sound_f i x here

  -- the key of its book leads to a book
  pub closes-book : ContainsKey f.books x.book
  closes-book = leaver-book f sound_f i x here

  -- which counts each place where a slot of it stands
  pub closes-covered : BookCovers f x
  closes-covered b at = leaver-covered f sound_f i x here b at

  -- and after it left its connections the slots of its history
  pub closes-history : (b : Book) → get f.books x.book ≡ Some b → (c : Book) → c ≡ with_counters b c.holders
      → (new : Slab Link) → CountersFollow x.id b.holders f.connections.slots c.holders new.slots
      → (slot : ℕ) → times slot (x.history).items ≤ holders_at c slot
  closes-history b at c is_c new follow = leaver-history f sound_f i x here b at c is_c new follow

  -- whoever stood at its place, with no delivery blocked, is closed
  pub closes-done : IsUnmarkedSender f.connections i → x.blocked ≡ None → (b : Book) → get f.books x.book ≡ Some b
      → (c : Book) → c ≡ with_counters b c.holders → (new : Slab Link)
      → CountersFollow x.id b.holders f.connections.slots c.holders new.slots
      → length c.holders ≡ length b.holders → LeavesConnections x.id f.subscribers f.connections new → (d : Book)
      → d ≡ with_counters c d.holders → Releases (x.history).items c.holders d.holders
      → (subscribers : List (Option SubscriberFields)) → subscribers ≡ map
      (option_map (left_subscriber new i)) f.subscribers → (place : Option PublisherFields) → place ≡ None
      → (y : PublisherFields) → get_or before.publishers i None ≡ Some y
      → (x.book ≡ y.book) × ReachesBut y.book before
      (record f {
        publishers = slice_set f.publishers i place;
        subscribers = subscribers;
        connections = new;
        books = with_value f.books x.book d;
      })
      (publisher_closed (state_of (kept_of before)) y.id (publisher_of before.books before.connections y).port)
  closes-done unmarked free b at c is_c new follow long left d is_d given subscribers forgot place gone =
      subst (λ (h : Fields T U). (y : PublisherFields) → get_or h.publishers i None ≡ Some y
      → (x.book ≡ y.book) × ReachesBut y.book h
      (record f {
        publishers = slice_set f.publishers i place;
        subscribers = subscribers;
        connections = new;
        books = with_value f.books x.book d;
      })
      (publisher_closed (state_of (kept_of h)) y.id (publisher_of h.books h.connections y).port)) same its
    where
      its : (y : PublisherFields) → get_or f.publishers i None ≡ Some y
          → (x.book ≡ y.book) × ReachesBut y.book f
          (record f {
            publishers = slice_set f.publishers i place;
            subscribers = subscribers;
            connections = new;
            books = with_value f.books x.book d;
          })
          (publisher_closed (state_of (kept_of f)) y.id (publisher_of f.books f.connections y).port)
      its y at_y =
          let is : Some x ≡ Some y = sym here ∙ at_y in
          let one : x ≡ y = cc in (
            ap (λ (z : PublisherFields). z.book) one,
            subst (λ (z : PublisherFields). ReachesBut z.book f
                (record f {
                  publishers = slice_set f.publishers i place;
                  subscribers = subscribers;
                  connections = new;
                  books = with_value f.books x.book d;
                })
                (publisher_closed (state_of (kept_of f)) z.id (publisher_of f.books f.connections z).port)) one
                (leaver-closed f sound_f i x here b at c is_c new follow unmarked free long left d is_d given
                subscribers forgot place gone),
          )
