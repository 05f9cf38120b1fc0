-- The numbers of slots change where a slot isn't in use: publishers and mailboxes stay.
use Rattle.std.proofs.Common.{◌≡◌, ℕ, zero, suc, ◌<◌, List, [], ◌∷◌, map, true, get_or, refl, ap, arith}
use Rattle.std.specs.declared.option.Option.{Option}
use Rattle.std.specs.declared.option.Option.TheVariants.{None, Some}
use Rattle.std.specs.Option.{option_map}
use Rattle.slab.specs.Slab.{Slab, get}
use Rattle.iox2_connections.specs.Link.{Link, other_slots}
use Rattle.iox2_machine.specs.machine.Numbers.{contains}
use Rattle.iox2_machine.specs.machine.Mailbox.{ChannelNumber}
use Rattle.iox2_slots.specs.SlotBook.{Book}
use Rattle.iox2_contents.specs.SlotContents.{ContentState}
use Rattle.iox2_connections.specs.LookUp.{look_up}
use Rattle.iox2_connections.specs.Counters.{times}
use Rattle.iox2_connections.specs.Mailboxes.{sender_ends, numbered}
use Rattle.iox2_laws.proofs.NumberLemmas.{contains_first, contains_later}
use Rattle.iox2_domain.specs.Ports.{PublisherFields}
use Rattle.iox2_domain.specs.declared.publisher_state.BlockedDelivery.{BlockedDelivery}
use Rattle.iox2_domain.specs.Kept.{state_of, port_named, ids, mailbox_if_between, channels_if_between, stands_between}
use Rattle.iox2_domain.specs.Fields.{Fields, kept_of, publisher_of, between_of, number_in_slot, blocked_send}
use Rattle.iox2_domain.specs.Invariant.{IsDomain, holders_of}
use Rattle.iox2_domain.proofs.lemmas.slots.HeldMessages.{own-in_use, standing-in_use}
use Rattle.iox2_domain.proofs.lemmas.slots.SlotsInUse.{loan-in_use, history-in_use, holders-are}
use Rattle.iox2_domain.proofs.lemmas.slots.NumbersInUse.{times-there}

-- two views that agree on each record give the same list
pub map-alike : {A B : Type 0} (g h : A → B) (xs : List (Option A))
    → ((i : ℕ) (x : A) → get_or xs i None ≡ Some x → g x ≡ h x) → map (option_map g) xs ≡ map (option_map h) xs
map-alike g h [] alike = refl
map-alike g h (None ∷ xs) alike = ap (λ ys. None ∷ ys) (map-alike g h xs (λ i x at. alike (suc i) x at))
map-alike g h (Some x ∷ xs) alike = λ t. Some (alike zero x refl t) ∷ map-alike g h xs (λ i y at. alike (suc i) y at) t

module _ {T U : Type 0} (f : Fields T U) (sound : IsDomain f) (new : Slab Book)
    (keeps : (p slot : ℕ) → 0 < holders_of f.books p slot
    → number_in_slot new p slot ≡ number_in_slot f.books p slot) where
  -- slots in use have their numbers
  pub map-numbers : (p : ℕ) (xs : List ℕ) → ((slot : ℕ) → contains xs slot ≡ true → 0 < holders_of f.books p slot)
      → map (number_in_slot new p) xs ≡ map (number_in_slot f.books p) xs
  map-numbers p [] in_use = refl
  map-numbers p (x ∷ xs) in_use = λ t. keeps p x (in_use x (contains_first x xs)) t ∷ map-numbers p xs
      (λ slot e. in_use slot (contains_later x slot xs e)) t

  -- and so have those in other channels
  map-numbered : (p : ℕ) (ms : List ChannelNumber)
      → ((slot : ℕ) → contains (map (λ (m : ChannelNumber). m.number) ms) slot ≡ true → 0 < holders_of f.books p slot)
      → numbered (number_in_slot new p) ms ≡ numbered (number_in_slot f.books p) ms
  map-numbered p [] in_use = refl
  map-numbered p (m ∷ ms) in_use = λ t.
      record m {
        number = keeps p m.number
            (in_use m.number (contains_first m.number (map (λ (k : ChannelNumber). k.number) ms))) t;
      }
      ∷ map-numbered p ms
      (λ slot e. in_use slot (contains_later m.number slot (map (λ (k : ChannelNumber). k.number) ms) e)) t

  -- a blocked delivery has its number, since its slot is a loan that is out
  pub blocked-same : (i : ℕ) (x : PublisherFields) → get_or f.publishers i None ≡ Some x
      → option_map (blocked_send (number_in_slot new x.id) (sender_ends f.connections x.keys)) x.blocked ≡ option_map
      (blocked_send (number_in_slot f.books x.id) (sender_ends f.connections x.keys)) x.blocked
  blocked-same i x at = by x.blocked (sound.parts.plain i x at).lent where
    by : (o : Option BlockedDelivery) → ((b : BlockedDelivery) → o ≡ Some b → 0 < times b.slot x.loans)
        → option_map (blocked_send (number_in_slot new x.id) (sender_ends f.connections x.keys)) o ≡ option_map
        (blocked_send (number_in_slot f.books x.id) (sender_ends f.connections x.keys)) o
    by None lent = refl
    by (Some b) lent =
        let some : 0 < times b.slot x.loans = lent b refl in
        ap (λ (n : ℕ). Some
        (record (blocked_send (number_in_slot f.books x.id) (sender_ends f.connections x.keys) b) { message = n }))
        (keeps x.id b.slot
        (own-in_use f sound.parts.counted sound.parts.publisher_ids i b.slot x at (omega (arith, some))))

  -- a publisher has the loans, the history and the blocked delivery that it had
  publisher-same : (i : ℕ) (x : PublisherFields) → get_or f.publishers i None ≡ Some x
      → publisher_of new f.connections x ≡ publisher_of f.books f.connections x
  publisher-same i x at = λ t. record (publisher_of f.books f.connections x) {
    port = record ((publisher_of f.books f.connections x).port)
        { loans = loans t; history = history t; blocked = blocked t };
  }
    where
      loans : map (number_in_slot new x.id) x.loans ≡ map (number_in_slot f.books x.id) x.loans
      loans =
          map-numbers x.id x.loans (λ slot e. rw (holders-are f sound i x at slot) (loan-in_use f sound i x at slot e))

      history : map (number_in_slot new x.id) (x.history).items ≡ map (number_in_slot f.books x.id) (x.history).items
      history = map-numbers x.id (x.history).items
          (λ slot e. rw (holders-are f sound i x at slot) (history-in_use f sound i x at slot e))

      blocked : ((publisher_of new f.connections x).port).blocked
          ≡ ((publisher_of f.books f.connections x).port).blocked
      blocked = blocked-same i x at

  -- in a connection lies what lay there
  between-same : (key : ℕ) (c : Link) → get f.connections key ≡ Some c
      → between_of new f.connections c ≡ between_of f.books f.connections c
  between-same key c at = λ t. record (between_of f.books f.connections c)
      { mailbox = record { waiting = waiting t; borrowed = borrowed t; others = others t } } where
        waiting : map (number_in_slot new c.home.publisher) c.waiting ≡ map
            (number_in_slot f.books c.home.publisher) c.waiting
        waiting = map-numbers c.home.publisher c.waiting
            (λ slot e. standing-in_use f sound.parts.counted sound.parts.publisher_ids key slot c at
            (omega (arith, times-there slot c.waiting e)))

        borrowed : map (number_in_slot new c.home.publisher) c.borrowed ≡ map
            (number_in_slot f.books c.home.publisher) c.borrowed
        borrowed = map-numbers c.home.publisher c.borrowed
            (λ slot e. standing-in_use f sound.parts.counted sound.parts.publisher_ids key slot c at
            (omega (arith, times-there slot c.borrowed e)))

        others : numbered (number_in_slot new c.home.publisher) c.others ≡ numbered
            (number_in_slot f.books c.home.publisher) c.others
        others = map-numbered c.home.publisher c.others
            (λ slot e. standing-in_use f sound.parts.counted sound.parts.publisher_ids key slot c at
            (omega (arith, times-there slot (other_slots c) e)))

  module _ (contents : List (Option (List (ContentState T U)))) (next : ℕ) where
    -- the fields with these books
    abbrev pub with_books : Fields T U
    with_books = record f { next_message = next; books = new; contents = contents }

    -- only the loans and the counter may be others
    pub with_books-is : state_of (kept_of with_books) ≡ record (state_of (kept_of f)) {
      next_message = next;
      loans = (state_of (kept_of with_books)).loans;
    }
    with_books-is = λ t. record (state_of (kept_of f)) {
      next_message = next;
      loans = (state_of (kept_of with_books)).loans;
      publishers = λ p. port_named p (publishers t);
      mailboxes = λ p q. mailbox_if_between (look_up (stands_between p q) (connections t));
      channels = λ p q. channels_if_between (look_up (stands_between p q) (connections t));
      publisher_places = ids (publishers t);
    }
      where
        publishers : map (option_map (publisher_of new f.connections)) f.publishers ≡ map
            (option_map (publisher_of f.books f.connections)) f.publishers
        publishers =
            map-alike (publisher_of new f.connections) (publisher_of f.books f.connections) f.publishers publisher-same

        connections : map (option_map (between_of new f.connections)) f.connections.slots ≡ map
            (option_map (between_of f.books f.connections)) f.connections.slots
        connections =
            map-alike (between_of new f.connections) (between_of f.books f.connections) f.connections.slots between-same
