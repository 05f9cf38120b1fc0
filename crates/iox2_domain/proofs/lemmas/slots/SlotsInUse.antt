-- The slots of a publisher that have a holder lie in its loans, its history and its mailboxes, and nowhere else.
use Rattle.std.proofs.Common.{◌≡◌, ℕ, zero, suc, ◌+◌, ◌<◌, ◌≤◌, List, [], map, Bool, true, false, ◌&&◌, cond, length}
use Rattle.std.proofs.Common.{get_or, refl, ap, sym, subst, ◌∙◌, inl, inr, arith, eqb, drop}
use Rattle.std.proofs.lemmas.Bool.{eqb-true, eq-eqb, and_from}
use Rattle.std.specs.declared.option.Option.{Option}
use Rattle.std.specs.declared.option.Option.TheVariants.{None, Some}
use Rattle.std.specs.Option.{option_map_or}
use Rattle.std.specs.Prelude.{slice_index}
use Rattle.std.specs.List.{All, sum_by, flat_map}
use Rattle.slab.specs.Slab.{get}
use Rattle.iox2_connections.specs.Link.{Link}
use Rattle.iox2_machine.specs.machine.Mailbox.{numbers_in, Mailbox}
use Rattle.iox2_machine.specs.machine.Numbers.{contains, size}
use Rattle.iox2_machine.specs.machine.Places.{occupants}
use Rattle.iox2_machine.specs.machine.Records.{Publisher}
use Rattle.iox2_machine.specs.machine.State.{State, held}
use Rattle.iox2_slots.specs.SlotBook.{Book, holders_at}
use Rattle.iox2_connections.specs.Counters.{times, stands, stands_in}
use Rattle.iox2_connections.specs.LookUp.{look_up}
use Rattle.iox2_connections.specs.Mailboxes.{is_between, mailbox_of, mailbox_if_any}
use Rattle.iox2_connections.specs.Receivers.{HasReclaimed}
use Rattle.iox2_connections.proofs.LookUps.{look_up-found, look_up-there}
use Rattle.iox2_laws.proofs.Altered.{in_three, in_first, in_second, in_third}
use Rattle.iox2_laws.proofs.MailboxLemmas.{has_numbers-contains}
use Rattle.iox2_laws.proofs.NumberLemmas.{contains_in_flat_map, contains-flat_map}
use Rattle.iox2_laws.proofs.PlaceLemmas.{contains-occupants}
use Rattle.iox2_laws.proofs.Sizes.{size_is, size_le}
use Rattle.iox2_domain.specs.Ports.{PublisherFields}
use Rattle.iox2_domain.specs.Kept.{state_of}
use Rattle.iox2_domain.specs.Fields.{Fields, kept_of, publisher_of, is_book_of, number_in_slot}
use Rattle.iox2_domain.specs.Invariant.{IsDomain, HasBook, is_publisher, holders_of}
use Rattle.iox2_domain.proofs.lemmas.fields.ConnectionEnds.{publisher-stands}
use Rattle.iox2_domain.proofs.lemmas.fields.Views.{mailboxes-are}
use Rattle.iox2_domain.proofs.lemmas.slots.NumbersInUse.{used, used-there, used-has, used-once, HasApart}
use Rattle.iox2_domain.proofs.lemmas.slots.NumbersInUse.{length-used_free, length-used_all, length-used_from}
use Rattle.iox2_domain.proofs.lemmas.slots.NumbersInUse.{times-there, times-stands, contains-map, contains-map_there}
use Rattle.iox2_domain.proofs.lemmas.slots.NumbersInUse.{sum_by-positive}
use Rattle.iox2_domain.proofs.lemmas.slots.BoxNumbers.{slot-of_number, number-of_slot}
use Rattle.iox2_domain.proofs.lemmas.slots.Holders.{book-by_id, book-holders}
use Rattle.iox2_domain.proofs.lemmas.slots.PublisherBooks.{book-counts}
use Rattle.iox2_domain.proofs.lemmas.slots.HeldMessages.{standing-in_use}

module _ {T U : Type 0} (f : Fields T U) (sound : IsDomain f) where
  module _ (i : ℕ) (x : PublisherFields) (at : get_or f.publishers i None ≡ Some x) where
    -- the publisher's book
    pub its_book : HasBook f x
    its_book = sound.parts.books.publishers i x at

    -- it is found by the publisher's id
    found : look_up (is_book_of x.id) f.books.slots ≡ Some its_book.book
    found =
        book-by_id f.books x.book x.id its_book.book (sound.parts.books.one_each x.id) its_book.stands its_book.is_its

    -- the number of a slot is the one in the book
    pub numbers-are : (slot : ℕ) → number_in_slot f.books x.id slot ≡ slice_index (its_book.book).numbers slot
    numbers-are slot = ap (λ o. option_map_or (λ (b : Book). slice_index b.numbers slot) o 0) found

    -- the holders of a slot are those in the book
    pub holders-are : (slot : ℕ) → holders_of f.books x.id slot ≡ holders_at its_book.book slot
    holders-are slot = book-holders f.books x.book x.id its_book.book
        (sound.parts.books.one_each x.id) its_book.stands its_book.is_its slot

    -- each slot has as many holders as there are places where it stands
    pub slot-counted : (slot : ℕ) → holders_at its_book.book slot ≡ times slot x.loans + times slot
        (x.history).items + sum_by (stands x.id slot) f.connections.slots
    slot-counted = book-counts f sound.parts i x at its_book.book its_book.stands

    -- a slot among the loans has a holder
    pub loan-in_use : (slot : ℕ) → contains x.loans slot ≡ true → 0 < holders_at its_book.book slot
    loan-in_use slot e = omega (arith, times-there slot x.loans e, slot-counted slot)

    -- a slot in the history has a holder
    pub history-in_use : (slot : ℕ) → contains (x.history).items slot ≡ true → 0 < holders_at its_book.book slot
    history-in_use slot e = omega (arith, times-there slot (x.history).items e, slot-counted slot)

    -- the publisher, as the machine sees it
    abbrev pub machine : Publisher
    machine = (publisher_of f.books f.connections x).port

    abbrev state : State T U
    state = state_of (kept_of f)

    -- the number of each slot
    abbrev number : ℕ → ℕ
    number slot = number_in_slot f.books x.id slot

    -- it has a slot with that number and a holder
    abbrev HasSlot : ℕ → Type 0
    HasSlot n = (slot : ℕ) × (0 < holders_at its_book.book slot) × (number slot ≡ n)

    -- a number in a mailbox is that of a slot with a holder
    in_mailbox : (q n : ℕ) → contains (numbers_in (state.mailboxes x.id q)) n ≡ true → HasSlot n
    in_mailbox q n e = by (look_up (is_between x.id q) f.connections.slots) refl
        (ap (λ (box : Mailbox). contains (numbers_in box) n) (sym (mailboxes-are f x.id q)) ∙ e) where
          both : (a b : Bool) → (a && b) ≡ true → a ≡ true
          both true b e = refl
          both false b e = absurd cc

          found : (c : Link) (slot : ℕ) → look_up (is_between x.id q) f.connections.slots ≡ Some c
              → 0 < stands_in slot c
              → number slot ≡ n → HasSlot n
          found c slot here some same =
              let there = look_up-there (is_between x.id q) f.connections.slots c here in
              let its : c.home.publisher ≡ x.id =
              eqb-true c.home.publisher x.id (both (eqb c.home.publisher x.id) (eqb c.home.subscriber q) there.2) in
              let held : 0 < holders_of f.books c.home.publisher slot =
              standing-in_use f sound.parts.counted sound.parts.publisher_ids there.0 slot c there.1 some in
              let held_its : 0 < holders_of f.books x.id slot =
              subst (λ (p : ℕ). 0 < holders_of f.books p slot) its held in
              (slot, subst (λ (n : ℕ). 0 < n) (holders-are slot) held_its, same)

          by : (o : Option Link) → look_up (is_between x.id q) f.connections.slots ≡ o
              → contains (numbers_in (mailbox_if_any number o)) n ≡ true → HasSlot n
          by None here e = absurd cc
          by (Some c) here e = let slot = slot-of_number number c n e in found c slot.0 here slot.1 slot.2

    -- what the publisher holds is the number of a slot with a holder
    held-there : (n : ℕ) → contains (held state x.id machine) n ≡ true → HasSlot n
    held-there n e = in_three (map number x.loans) (map number (x.history).items)
        (flat_map (λ q. numbers_in (state.mailboxes x.id q)) (occupants machine.ends)) n (HasSlot n) e
        (λ in_loans. let slot = contains-map_there number x.loans n in_loans in
        (slot.0, loan-in_use slot.0 slot.1, slot.2))
        (λ in_history. let slot = contains-map_there number (x.history).items n in_history in
        (slot.0, history-in_use slot.0 slot.1, slot.2))
        (λ in_boxes.
        let box = contains_in_flat_map (λ q. numbers_in (state.mailboxes x.id q)) (occupants machine.ends) n in_boxes in
        in_mailbox box.0 n box.2)

    -- the slots of the book have different numbers
    numbers-apart : HasApart (its_book.book).holders number
    numbers-apart j k held_j held_k same = (sound.parts.numbered.one x.book x.book j k (number k)
        (record {
          book = its_book.book;
          stands = its_book.stands;
          in_use = held_j;
          number = sym (numbers-are j) ∙ same;
        })
        (record { book = its_book.book; stands = its_book.stands; in_use = held_k; number = sym (numbers-are k) })).1

    -- what it holds is in use
    held-used : (n : ℕ) → contains (held state x.id machine) n ≡ true
        → contains (used (its_book.book).holders number) n ≡ true
    held-used n e =
        let slot = held-there n e in
        ap (contains (used (its_book.book).holders number)) (sym slot.2)
        ∙ used-has (its_book.book).holders number slot.0 slot.1

    -- where some slot of the book is free the publisher holds fewer different messages and loans than the book has
    -- slots
    pub size-free : (slot : ℕ) → slot < length (its_book.book).holders → holders_at its_book.book slot ≡ 0
        → size (held state x.id machine) < length (its_book.book).holders
    size-free slot lt free =
        let few = size_le (held state x.id machine) (used (its_book.book).holders number)
        (used-once (its_book.book).holders number numbers-apart) held-used in
        let fewer = length-used_free (its_book.book).holders number slot lt free in
        omega (arith, few, fewer)

    module _ (reclaimed : HasReclaimed f.connections x.keys) where
      -- no slot of it that was given back isn't reclaimed
      pub none_returned : (key : ℕ) (c : Link) → get f.connections key ≡ Some c → c.home.publisher ≡ x.id
          → c.returned ≡ []
      none_returned key c at_c its = elim (sound.parts.linked.returned key c at_c) [
        | inl has ↦
            let same_id : is_publisher x.id has.publisher ≡ true = eq-eqb (has.publisher).id x.id (has.is_its ∙ its) in
            let here : c.home.publisher_place ≡ i =
            (sound.parts.publisher_ids x.id).one c.home.publisher_place i has.publisher x has.stands at same_id
            (eq-eqb x.id x.id refl) in
            let stood : get_or f.publishers i None ≡ Some has.publisher =
            subst (λ (k : ℕ). get_or f.publishers k None ≡ Some has.publisher) here has.stands in
            let same : Some has.publisher ≡ Some x = sym stood ∙ at in
            let is : has.publisher ≡ x = cc in
            reclaimed.at c.home.subscriber_place key c
            (ap (λ (z : PublisherFields). get_or z.keys c.home.subscriber_place None) (sym is) ∙ has.has) at_c
        | inr none ↦ none
      ]

      -- a slot in one of its connections has its number in the mailbox to which an end of it leads
      connection-in_use : (key slot : ℕ) (c : Link) → get f.connections key ≡ Some c → c.home.publisher ≡ x.id
          → 0 < stands_in slot c
          → contains (flat_map (λ q. numbers_in (state.mailboxes x.id q)) (occupants machine.ends)) (number slot) ≡ true
      connection-in_use key slot c at_c its some =
          let here : look_up (is_between x.id c.home.subscriber) f.connections.slots ≡ Some c =
          look_up-found (is_between x.id c.home.subscriber) f.connections.slots key c
          (sound.parts.apart.one x.id c.home.subscriber) at_c
          (and_from (eqb c.home.publisher x.id) (eqb c.home.subscriber c.home.subscriber)
          (eq-eqb c.home.publisher x.id its) (eq-eqb c.home.subscriber c.home.subscriber refl)) in
          let box_is : state.mailboxes x.id c.home.subscriber ≡ mailbox_of number c =
          mailboxes-are f x.id c.home.subscriber ∙ ap (mailbox_if_any number) here in
          let in_its : contains (numbers_in (state.mailboxes x.id c.home.subscriber)) (number slot) ≡ true =
          ap (λ (box : Mailbox). contains (numbers_in box) (number slot)) box_is
          ∙ number-of_slot number c slot (none_returned key c at_c its) some in
          let leads = (sound.well_formed.mailboxes x.id c.home.subscriber).sender_end machine
          (publisher-stands f sound.parts i x at)
          (has_numbers-contains (state.mailboxes x.id c.home.subscriber) (number slot) in_its) in
          contains-flat_map (λ q. numbers_in (state.mailboxes x.id q)) (occupants machine.ends) c.home.subscriber
          (number slot)
          (contains-occupants machine.ends c.home.subscriber leads) in_its

      -- a slot with a holder has its number in what the publisher holds
      held-has : (slot : ℕ) → 0 < holders_at its_book.book slot
          → contains (held state x.id machine) (number slot) ≡ true
      held-has slot some = by (times slot x.loans) refl (times slot (x.history).items) refl where
        boxes : List ℕ
        boxes = flat_map (λ q. numbers_in (state.mailboxes x.id q)) (occupants machine.ends)

        by : (a : ℕ) → times slot x.loans ≡ a → (b : ℕ) → times slot (x.history).items ≡ b
            → contains (held state x.id machine) (number slot) ≡ true
        by (suc a) is_a b is_b = in_first (map number x.loans) (map number (x.history).items) _ (number slot)
            (contains-map number x.loans slot (times-stands slot x.loans (omega (arith, is_a))))
        by zero is_a (suc b) is_b = in_second (map number x.loans) (map number (x.history).items) _ (number slot)
            (contains-map number (x.history).items slot (times-stands slot (x.history).items (omega (arith, is_b))))
        by zero is_a zero is_b =
            let sum : 0 < sum_by (stands x.id slot) f.connections.slots =
            omega (arith, slot-counted slot, is_a, is_b, some) in
            let found = sum_by-positive (stands x.id slot) f.connections.slots None sum in
            in_third (map number x.loans) (map number (x.history).items) _ (number slot)
            (of_link found.0 (get_or f.connections.slots found.0 None) refl found.2)
          where
            own_link : (key : ℕ) (c : Link) → get f.connections key ≡ Some c → (b : Bool)
                → eqb c.home.publisher x.id ≡ b → 0 < cond b (stands_in slot c) 0
                → contains (flat_map (λ q. numbers_in (state.mailboxes x.id q)) (occupants machine.ends))
                (number slot) ≡ true
            own_link key c at_c true its some_here =
                connection-in_use key slot c at_c (eqb-true c.home.publisher x.id its) some_here
            own_link key c at_c false its some_here = absurd (omega arith)

            of_link : (key : ℕ) (o : Option Link) → get f.connections key ≡ o → 0 < stands x.id slot o
                → contains (flat_map (λ q. numbers_in (state.mailboxes x.id q)) (occupants machine.ends))
                (number slot) ≡ true
            of_link key None at_c some_here = absurd (omega arith)
            of_link key (Some c) at_c some_here = own_link key c at_c (eqb c.home.publisher x.id) refl some_here

      same-numbers : (n : ℕ) → contains (held state x.id machine) n ≡ contains (used (its_book.book).holders number) n
      same-numbers n = both (contains (held state x.id machine) n) (contains (used (its_book.book).holders number) n)
          (held-used n) back where
            both : (a b : Bool) → (a ≡ true → b ≡ true) → (b ≡ true → a ≡ true) → a ≡ b
            both true b forth back = sym (forth refl)
            both false true forth back = back refl
            both false false forth back = refl

            back : contains (used (its_book.book).holders number) n ≡ true → contains (held state x.id machine) n ≡ true
            back e =
                let slot = used-there (its_book.book).holders number n e in
                ap (contains (held state x.id machine)) (sym slot.2) ∙ held-has slot.0 slot.1

      -- the publisher holds as many different messages and loans as slots have a holder
      size-held : size (held state x.id machine) ≡ length (used (its_book.book).holders number)
      size-held = size_is (held state x.id machine) (used (its_book.book).holders number)
          (used-once (its_book.book).holders number numbers-apart) same-numbers

      -- where each slot of the book has a holder it holds as many as the book has slots
      pub size-full : All (λ n. 0 < n) (its_book.book).holders
          → size (held state x.id machine) ≡ length (its_book.book).holders
      size-full all = size-held ∙ length-used_all (its_book.book).holders number all

      -- where each slot from some slot on has a holder it holds at least as many as stand there
      pub size-from : (start : ℕ) → All (λ n. 0 < n) (drop start (its_book.book).holders)
          → length (its_book.book).holders ≤ start + size (held state x.id machine)
      size-from start all = omega (arith, size-held, length-used_from (its_book.book).holders number start all)
