-- A borrowed slot is handed back, to a publisher that is there or to the book of one that is gone.
use Rattle.std.proofs.Common.{◌≡◌, ℕ, List, Bool, true, false, eqb, get_or, Option, None, Some, Contains, IsSomeAnd}
use Rattle.std.proofs.Common.{refl, ap, sym, subst, ◌∙◌, ◌⊎◌}
use Rattle.std.proofs.lemmas.Bool.{eqb-true}
use Rattle.std.specs.Option.{option_map}
use Rattle.slab.specs.Slab.{Slab, get, with_value, ContainsKey}
use Rattle.iox2_connections.specs.Link.{Link, without_borrowed}
use Rattle.iox2_slots.specs.SlotBook.{Book, IsInUse}
use Rattle.iox2_connections.specs.declared.connection.Home.{Home}
use Rattle.iox2_machine.specs.machine.Mailbox.{Mailbox, is_borrowed}
use Rattle.iox2_machine.specs.machine.Numbers.{contains, IsOnce}
use Rattle.iox2_machine.specs.machine.Records.{Subscriber}
use Rattle.iox2_machine.specs.machine.Releases.{subscriber_pruned, unborrowed}
use Rattle.iox2_machine.specs.machine.WellFormed.{LeadsTo}
use Rattle.iox2_connections.specs.Counters.{one_holder_less, with_counters}
use Rattle.iox2_connections.specs.Homes.{SameHomes}
use Rattle.iox2_connections.specs.LookUp.{look_up}
use Rattle.iox2_connections.specs.Mailboxes.{mailbox_of}
use Rattle.iox2_connections.specs.Recounts.{Recounts}
use Rattle.iox2_connections.specs.Takes.{KeepsOtherKeys, SameStands, ReleasesSlot}
use Rattle.iox2_connections.proofs.Counts.{in_range}
use Rattle.iox2_connections.proofs.LookUps.{look_up-nothing}
use Rattle.iox2_connections.proofs.MailboxChanges.{mailbox-there}
use Rattle.iox2_connections.proofs.Releases.{IsOnce-map}
use Rattle.iox2_laws.proofs.MailboxLemmas.{has_borrows-is_borrowed}
use Rattle.iox2_domain.specs.Fields.{Fields, kept_of, number_in_slot, subscriber_of}
use Rattle.iox2_domain.specs.Invariant.{IsBookOf, IsDomain, KeepsBooks, details_of, is_publisher}
use Rattle.iox2_domain.specs.Kept.{state_of}
use Rattle.iox2_domain.specs.Midway.{IsMidway}
use Rattle.iox2_domain.specs.Ports.{PublisherFields, SubscriberFields}
use Rattle.iox2_domain.proofs.lemmas.containers.LookUps.{map-at}
use Rattle.iox2_domain.proofs.lemmas.fields.SameEnds.{with_connections}
use Rattle.iox2_domain.proofs.lemmas.fields.Standing.{some_is}
use Rattle.iox2_domain.proofs.lemmas.fields.Views.{mailboxes-are}
use Rattle.iox2_steps.proofs.releases.Forgets.{ItsSubscriber}
use Rattle.iox2_steps.proofs.releases.LetGo.{let_go-midway}
use Rattle.iox2_steps.proofs.releases.Released.{once-borrowed, gives-back-midway}
use Rattle.iox2_domain.proofs.lemmas.slots.ConnectionSlots.{borrowed-in_use, contains-one}
use Rattle.iox2_domain.proofs.lemmas.fields.NamedPorts.{named-there}

-- a slot is borrowed in the connection at a key, which stands there
abbrev pub IsBorrowedAt : Slab Link → (key slot : ℕ) → Home → Type 0
IsBorrowedAt connections key slot home =
    IsSomeAnd (get connections key) (λ (c : Link). (c.home ≡ home) × Contains c.borrowed slot)

-- what a step is midway comes to where this slot was handed back
abbrev pub HandsBack : {T U : Type 0} → Fields T U → Home → (slot : ℕ) → Fields T U → Type 0
HandsBack f home slot new =
    IsMidway f new (subscriber_pruned (unborrowed (state_of (kept_of f)) home.publisher home.subscriber
    (number_in_slot f.books home.publisher slot)) home.subscriber) home.book

-- a subscriber that the state has stands somewhere
subscriber-there : {T U : Type 0} (f : Fields T U) (q : ℕ) (y : Subscriber)
    → (state_of (kept_of f)).subscribers q ≡ Some y
    → (i : ℕ) × (z : SubscriberFields) × (get_or f.subscribers i None ≡ Some z) × (z.id ≡ q)
subscriber-there f q y e = let there = named-there (subscriber_of f.books f.connections) q f.subscribers y e in
    (there.0, there.1, there.2, there.3)

module _ {T U : Type 0} (f : Fields T U) (sound : IsDomain f) (key slot : ℕ) (home : Home)
    (there : IsBorrowedAt f.connections key slot home) where
  own : (c : Link) × (get f.connections key ≡ Some c) × ((c.home ≡ home) × Contains c.borrowed slot)
  own = some_is (λ (c : Link). (c.home ≡ home) × Contains c.borrowed slot) (get f.connections key) there

  abbrev c : Link
  c = own.0

  -- ---- what is there

  its-book : IsBookOf f.books c.home.publisher c.home.book
  its-book = sound.parts.names.at key c own.1

  box-is : (state_of (kept_of f)).mailboxes c.home.publisher c.home.subscriber ≡ mailbox_of
      (number_in_slot f.books c.home.publisher) c
  box-is = mailboxes-are f c.home.publisher c.home.subscriber ∙ mailbox-there
      (number_in_slot f.books) f.connections key c.home.publisher c.home.subscriber c sound.parts.apart own.1 refl refl

  held : is_borrowed (number_in_slot f.books c.home.publisher slot)
      ((state_of (kept_of f)).mailboxes c.home.publisher c.home.subscriber) ≡ true
  held = ap (is_borrowed (number_in_slot f.books c.home.publisher slot)) box-is
      ∙ contains-one (number_in_slot f.books c.home.publisher) c.borrowed slot own.2.1

  once : IsOnce c.borrowed
  once =
      IsOnce-map (number_in_slot f.books c.home.publisher) c.borrowed
      (subst (λ (b : Mailbox). IsOnce b.borrowed) box-is
      (once-borrowed ((state_of (kept_of f)).mailboxes c.home.publisher c.home.subscriber)
      (sound.well_formed.mailboxes c.home.publisher c.home.subscriber).within.once))

  -- no slot is borrowed there twice
  pub once-there : IsSomeAnd (get f.connections key) (λ (d : Link). IsOnce d.borrowed)
  once-there = rw own.1 once

  pub borrowed-there : IsSomeAnd (get f.connections key) (λ (d : Link). Contains d.borrowed slot)
  borrowed-there = rw own.1 own.2.1

  -- the book that its home names is there, and the slot is in use
  pub book-there : ContainsKey f.books home.book
  book-there = subst (λ (h : Home). ContainsKey f.books h.book) own.2.0 (rw its-book.stands refl)

  pub slot-in_use : (b : Book) → get f.books home.book ≡ Some b → IsInUse b slot
  slot-in_use b at_b =
      let one : Some its-book.book ≡ Some b =
      sym its-book.stands ∙ ap (λ (h : Home). get f.books h.book) own.2.0 ∙ at_b in
      let is : its-book.book ≡ b = cc in
      let some =
      borrowed-in_use f sound key c.home.book c its-book.book own.1 its-book.stands its-book.is_its slot own.2.1 in
      subst (λ (d : Book). IsInUse d slot) is
      (record { in_bounds = in_range (its-book.book).holders slot some; in_use = some })

  -- its subscriber stands at its place
  pub subscriber-here : ItsSubscriber f home
  subscriber-here =
      subst (ItsSubscriber f) own.2.0 (z, ap (λ (n : ℕ). get_or f.subscribers n None) (sym place) ∙ at_z, is_z) where
        machine : (y : Subscriber) × ((state_of (kept_of f)).subscribers c.home.subscriber ≡ Some y)
            × ((contains y.expired c.home.publisher ≡ true) ⊎ LeadsTo y.ends c.home.publisher)
        machine = (sound.well_formed.mailboxes c.home.publisher c.home.subscriber).receiver_end
            (has_borrows-is_borrowed (number_in_slot f.books c.home.publisher slot)
            ((state_of (kept_of f)).mailboxes c.home.publisher c.home.subscriber) held)

        z : SubscriberFields
        z = (subscriber-there f c.home.subscriber machine.0 machine.1).1

        at_z : get_or f.subscribers (subscriber-there f c.home.subscriber machine.0 machine.1).0 None ≡ Some z
        at_z = (subscriber-there f c.home.subscriber machine.0 machine.1).2

        is_z : z.id ≡ c.home.subscriber
        is_z = (subscriber-there f c.home.subscriber machine.0 machine.1).3

        place : (subscriber-there f c.home.subscriber machine.0 machine.1).0 ≡ c.home.subscriber_place
        place = (sound.parts.linked.knows.at key _ c (details_of z) own.1
            (map-at details_of f.subscribers _ ∙ ap (option_map details_of) at_z) is_z).0

  -- ---- a publisher that is there

  pub hands-back-present : (new : Slab Link) → ReleasesSlot f.connections key slot new
      → (same : SameHomes f.connections new) → KeepsOtherKeys key f.connections new → SameStands f.connections new
      → IsSomeAnd (get_or f.publishers home.publisher_place None) (λ (x : PublisherFields). x.id ≡ home.publisher)
      → KeepsBooks f.next_port f.publishers f.books → HandsBack f home slot (with_connections f new same)
  hands-back-present new releases same others stay stands kept =
      let x = some_is (λ (x : PublisherFields). x.id ≡ home.publisher)
      (get_or f.publishers home.publisher_place None) stands in
      subst (λ (h : Home). HandsBack f h slot (with_connections f new same)) own.2.0
      (gives-back-midway f sound key slot c own.1 new releases held same others stay home.publisher_place x.0 x.1
      (x.2 ∙ sym (ap (λ (h : Home). h.publisher) own.2.0)) kept c.home.book)

  -- ---- one that is gone

  -- whoever doesn't stand at the place that a connection names is gone
  pub is-gone : (IsSomeAnd (get_or f.publishers home.publisher_place None)
      (λ (x : PublisherFields). x.id ≡ home.publisher) → ⊥) → look_up (is_publisher home.publisher) f.publishers ≡ None
  is-gone absent = look_up-nothing (is_publisher home.publisher) f.publishers
      (λ i x at_x. by i x at_x (eqb x.id home.publisher) refl) where
        by : (i : ℕ) (x : PublisherFields) → get_or f.publishers i None ≡ Some x → (b : Bool)
            → eqb x.id home.publisher ≡ b
            → eqb x.id home.publisher ≡ false
        by i x at_x false e = e
        by i x at_x true e =
            let is : x.id ≡ home.publisher = eqb-true x.id home.publisher e in
            let place : i ≡ home.publisher_place = sound.parts.linked.knows_publishers key i c x own.1 at_x
            (is ∙ sym (ap (λ (h : Home). h.publisher) own.2.0)) ∙ ap (λ (h : Home). h.publisher_place) own.2.0 in
            absurd (absent (rw (sym (ap (λ (n : ℕ). get_or f.publishers n None) place) ∙ at_x) is))

  -- the fields in which the slot has one holder less
  abbrev pub less : Book → Slab Link → Fields T U
  less b new = record f
      { connections = new; books = with_value f.books home.book (with_counters b (one_holder_less slot b.holders)) }

  pub lets-go : (b : Book) → get f.books home.book ≡ Some b → (new : Slab Link)
      → ReleasesSlot f.connections key slot new
      → IsSomeAnd (get f.connections key)
      (λ (d : Link). Recounts d.home.publisher b.holders f.connections (one_holder_less slot b.holders) new)
      → look_up (is_publisher home.publisher) f.publishers ≡ None → KeepsBooks f.next_port f.publishers f.books
      → IsMidway f (less b new) (unborrowed (state_of (kept_of f)) home.publisher home.subscriber
      (number_in_slot f.books home.publisher slot)) home.book
  lets-go b at_b new releases recounts gone kept =
      subst (λ (h : Home). get f.books h.book ≡ Some b → look_up (is_publisher h.publisher) f.publishers ≡ None
      → IsMidway f (record f
      { connections = new; books = with_value f.books h.book (with_counters b (one_holder_less slot b.holders)) })
      (unborrowed (state_of (kept_of f)) h.publisher h.subscriber (number_in_slot f.books h.publisher slot)) h.book)
      own.2.0 by at_b gone
    where
      by : get f.books c.home.book ≡ Some b → look_up (is_publisher c.home.publisher) f.publishers ≡ None
          → IsMidway f (record f {
            connections = new;
            books = with_value f.books c.home.book (with_counters b (one_holder_less slot b.holders));
          })
          (unborrowed (state_of (kept_of f)) c.home.publisher c.home.subscriber
          (number_in_slot f.books c.home.publisher slot)) c.home.book
      by at_own gone_own =
          let one : Some its-book.book ≡ Some b = sym its-book.stands ∙ at_own in
          let is : its-book.book ≡ b = cc in
          let_go-midway f sound key slot c own.1 b at_own (ap (λ (d : Book). d.publisher) (sym is) ∙ its-book.is_its)
          gone_own own.2.1 (slot-in_use b at_b).in_use new
          (rw own.1 at recounts) releases held kept

  -- the connection's home is the same afterwards
  pub home-left : (new : Slab Link) → IsSomeAnd (get f.connections key)
      (λ (d : Link). get new key ≡ Some (without_borrowed slot d))
      → IsSomeAnd (get new key) (λ (d : Link). d.home ≡ home)
  home-left new left = let there : get new key ≡ Some (without_borrowed slot c) = rw own.1 at left in rw there own.2.0

-- the slot has one holder less in these fields, and its publisher is gone
pub record IsLetGo {T U : Type 0} (now : Fields T U) (key slot : ℕ) (home : Home) (mid : Fields T U) : Type 0 where
  pub midway : IsMidway now mid (unborrowed (state_of (kept_of now)) home.publisher home.subscriber
      (number_in_slot now.books home.publisher slot)) home.book
  pub home_is : IsSomeAnd (get mid.connections key) (λ (d : Link). d.home ≡ home)
  pub gone : look_up (is_publisher home.publisher) mid.publishers ≡ None
  pub stands : ItsSubscriber mid home

module _ {T U : Type 0} (f now : Fields T U) (same : f ≡ now) (sound : IsDomain now) (key slot : ℕ) (home : Home)
    (there : IsBorrowedAt now.connections key slot home) where
  -- what the code lets go
  pub is-let-go : (b d : Book) → get f.books home.book ≡ Some b → d ≡ with_counters b (one_holder_less slot b.holders)
      → (new : Slab Link) → ReleasesSlot f.connections key slot new
      → IsSomeAnd (get f.connections key)
      (λ (c : Link). Recounts c.home.publisher b.holders f.connections (one_holder_less slot b.holders) new)
      → IsSomeAnd (get f.connections key) (λ (c : Link). get new key ≡ Some (without_borrowed slot c))
      → (publishers : List (Option PublisherFields)) → publishers ≡ f.publishers
      → (IsSomeAnd (get_or publishers home.publisher_place None) (λ (x : PublisherFields). x.id ≡ home.publisher) → ⊥)
      → KeepsBooks now.next_port now.publishers now.books
      → IsLetGo now key slot home (record f { connections = new; books = with_value f.books home.book d })
  is-let-go b d at_b is new releases recounts left publishers read absent kept =
      subst (λ (e : Book).
      IsLetGo now key slot home (record f { connections = new; books = with_value f.books home.book e })) (sym is)
      (subst (λ (h : Fields T U). get h.books home.book ≡ Some b → ReleasesSlot h.connections key slot new
      → IsSomeAnd (get h.connections key)
      (λ (c : Link). Recounts c.home.publisher b.holders h.connections (one_holder_less slot b.holders) new)
      → IsSomeAnd (get h.connections key) (λ (c : Link). get new key ≡ Some (without_borrowed slot c))
      → (IsSomeAnd (get_or h.publishers home.publisher_place None) (λ (x : PublisherFields). x.id ≡ home.publisher) → ⊥)
      → IsLetGo now key slot home (record h {
        connections = new;
        books = with_value h.books home.book (with_counters b (one_holder_less slot b.holders));
      })) (sym same) by
      at_b releases recounts left
      (subst (λ (ps : List (Option PublisherFields)). IsSomeAnd (get_or ps home.publisher_place None)
      (λ (x : PublisherFields). x.id ≡ home.publisher) → ⊥) read absent))
    where
      by : get now.books home.book ≡ Some b → ReleasesSlot now.connections key slot new
          → IsSomeAnd (get now.connections key)
          (λ (c : Link). Recounts c.home.publisher b.holders now.connections (one_holder_less slot b.holders) new)
          → IsSomeAnd (get now.connections key) (λ (c : Link). get new key ≡ Some (without_borrowed slot c))
          → (IsSomeAnd (get_or now.publishers home.publisher_place None)
          (λ (x : PublisherFields). x.id ≡ home.publisher) → ⊥)
          → IsLetGo now key slot home (less now sound key slot home there b new)
      by at_now releases_now recounts_now left_now absent_now = record {
        midway = lets-go now sound key slot home there b at_now new releases_now recounts_now
            (is-gone now sound key slot home there absent_now) kept;
        home_is = home-left now sound key slot home there new left_now;
        gone = is-gone now sound key slot home there absent_now;
        stands = subscriber-here now sound key slot home there;
      }

  -- what the code gives back
  pub is-given-back : (new : Slab Link) → ReleasesSlot f.connections key slot new → SameHomes f.connections new
      → KeepsOtherKeys key f.connections new → SameStands f.connections new
      → (publishers : List (Option PublisherFields)) → publishers ≡ f.publishers
      → IsSomeAnd (get_or publishers home.publisher_place None) (λ (x : PublisherFields). x.id ≡ home.publisher)
      → KeepsBooks now.next_port now.publishers now.books → HandsBack now home slot (record f { connections = new })
  is-given-back new releases homes others stay publishers read stands kept =
      subst (λ (h : Fields T U). ReleasesSlot h.connections key slot new → SameHomes h.connections new
      → KeepsOtherKeys key h.connections new → SameStands h.connections new
      → IsSomeAnd (get_or h.publishers home.publisher_place None) (λ (x : PublisherFields). x.id ≡ home.publisher)
      → HandsBack now home slot (record h { connections = new })) (sym same)
      (λ releases_now homes_now others_now stay_now stands_now.
      hands-back-present now sound key slot home there new releases_now homes_now others_now stay_now stands_now kept)
      releases homes others stay
      (subst (λ (ps : List (Option PublisherFields)).
      IsSomeAnd (get_or ps home.publisher_place None) (λ (x : PublisherFields). x.id ≡ home.publisher)) read stands)
