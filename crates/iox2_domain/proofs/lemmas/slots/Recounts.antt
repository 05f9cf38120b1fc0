-- A publisher's connections and the counters of its slots change together: what holds still.
use Rattle.std.proofs.Common.{◌≡◌, ◌≢◌, ℕ, Bool, zero, suc, ◌+◌, ◌<◌, cond, List, [], ◌∷◌, length, get_or, refl, ap}
use Rattle.std.proofs.Common.{sym, subst, ◌∙◌, inl, inr, ◌⊎◌, arith}
use Rattle.std.proofs.lemmas.Bool.{cases_eq, ne_eqb, eq-eqb}
use Rattle.std.proofs.lemmas.List.Sums.{sum_by-cons}
use Rattle.std.specs.declared.option.Option.{Option}
use Rattle.std.specs.declared.option.Option.TheVariants.{None, Some}
use Rattle.std.specs.Option.{option_map, option_map_or}
use Rattle.std.specs.List.{sum_by}
use Rattle.slab.specs.Slab.{Slab, get, with_value}
use Rattle.iox2_connections.specs.Link.{Link}
use Rattle.iox2_machine.specs.machine.Channel.{Channel}
use Rattle.iox2_slots.specs.SlotBook.{Book, IsAligned, holders_at}
use Rattle.iox2_connections.specs.declared.connection.Home.{Home}
use Rattle.iox2_connections.specs.LookUp.{look_up}
use Rattle.iox2_connections.specs.Homes.{fixed_of}
use Rattle.iox2_connections.specs.Counters.{times, stands, stands_in, with_counters}
use Rattle.iox2_connections.specs.Recounts.{Recounts, returned_count}
use Rattle.iox2_connections.proofs.LookUps.{look_up-found}
use Rattle.iox2_connections.proofs.MailboxChanges.{was, IsApart-same}
use Rattle.iox2_domain.specs.Ports.{PublisherFields}
use Rattle.iox2_domain.specs.Kept.{KeptMessage}
use Rattle.iox2_domain.specs.Fields.{Fields, message_in, contents_at, is_book_of}
use Rattle.iox2_domain.specs.Invariant.{IsCounted, IsNumbered, HasNumber, HasBooks, HasShapes, SenderHas, is_publisher}
use Rattle.iox2_domain.specs.Invariant.{own_holders, holders_of, is_loan_in, HasParts}
use Rattle.iox2_domain.proofs.lemmas.fields.ExpiredRoom.{room-still}
use Rattle.iox2_domain.proofs.lemmas.fields.NamedBooks.{names-books, names-still}
use Rattle.iox2_domain.proofs.lemmas.slots.Messages.{message_in-parts, lies_at, message_at-book, message_at-slot}
use Rattle.iox2_domain.proofs.lemmas.slots.Messages.{message_in-counters}
use Rattle.iox2_domain.proofs.lemmas.slots.BookChanges.{book-after, KeepsSlots, book-here, book-others, book-was}
use Rattle.iox2_domain.proofs.lemmas.slots.BookChanges.{holders-here, other-book, books-changed, linked-book}
use Rattle.iox2_domain.proofs.lemmas.slots.OpenLoans.{open-rebooked}
use Rattle.iox2_domain.proofs.lemmas.fields.SameEnds.{with_connections, sender-same, linked-still}

-- two sums are the same where each index counts alike
pub sum-alike : {A : Type 0} (f : Option A → ℕ) → f None ≡ 0 → (xs ys : List (Option A))
    → ((i : ℕ) → f (get_or xs i None) ≡ f (get_or ys i None)) → sum_by f xs ≡ sum_by f ys
sum-alike f none [] [] same = refl
sum-alike f none [] (y ∷ ys) same =
    omega (arith, sum_by-cons f y ys, none, same zero, sum-alike f none [] ys (λ i. past i ∙ same (suc i))) where
      past : (i : ℕ) → f (get_or [] i None) ≡ f None
      past zero = refl
      past (suc i) = refl
sum-alike f none (x ∷ xs) [] same =
    omega (arith, sum_by-cons f x xs, none, same zero, sum-alike f none xs [] (λ i. same (suc i) ∙ sym (past i))) where
      past : (i : ℕ) → f (get_or [] i None) ≡ f None
      past zero = refl
      past (suc i) = refl
sum-alike f none (x ∷ xs) (y ∷ ys) same =
    omega (arith, sum_by-cons f x xs, sum_by-cons f y ys, same zero, sum-alike f none xs ys (λ i. same (suc i)))

module _ {T U : Type 0} (f : Fields T U) (parts : HasParts f) (p key : ℕ) (b : Book) (at : get f.books key ≡ Some b)
    (mine : b.publisher ≡ p)
    (holders : List ℕ) (new : Slab Link) (r : Recounts p b.holders f.connections holders new) where
  -- the fields with these connections and these counters
  abbrev pub with_recounted : Fields T U
  with_recounted = record f { connections = new; books = with_value f.books key (with_counters b holders) }

  abbrev counted_book : Book
  counted_book = with_counters b holders

  abbrev between : Fields T U
  between = with_connections f new r.homes

  keeps : KeepsSlots b counted_book
  keeps = record { publisher = refl; node = refl; numbers = refl; slots = r.slots }

  -- ---- what lies in the slots

  -- what lies in a slot of the book lay there
  pub back-in-book : (slot : ℕ) (m : KeptMessage T U) → message_in counted_book
      (contents_at f.contents key) slot ≡ Some m → message_in b (contents_at f.contents key) slot ≡ Some m
  back-in-book slot m e =
      message_in-counters counted_book b.holders (contents_at f.contents key) slot m
      (r.in_use slot (message_in-parts counted_book (contents_at f.contents key) slot m e).in_use) e

  -- what lay in a slot that is still in use lies there
  pub forth-in-book : (slot : ℕ) (m : KeptMessage T U) → 0 < holders_at counted_book slot
      → message_in b (contents_at f.contents key) slot ≡ Some m
      → message_in counted_book (contents_at f.contents key) slot ≡ Some m
  forth-in-book = message_in-counters b holders (contents_at f.contents key)

  -- what lies in any slot lay there
  pub back : (k slot : ℕ) (m : KeptMessage T U) → lies_at with_recounted k slot ≡ Some m → lies_at f k slot ≡ Some m
  back k slot m e =
      let there = message_at-book f.contents with_recounted.books k slot m e in
      elim (book-was between key b counted_book at keeps k there.0 there.1) [
        | inl is ↦ here k is.0 (ap (λ (c : Book). message_in c (contents_at f.contents k) slot) (sym is.1) ∙ there.2)
        | inr away ↦ message_at-slot f.contents f.books k slot there.0 away.1 ∙ there.2
      ]
    where
      here : (k : ℕ) → k ≡ key → message_in counted_book (contents_at f.contents k) slot ≡ Some m
          → lies_at f k slot ≡ Some m
      here k same lies =
          ap (λ i. lies_at f i slot) same ∙ message_at-slot f.contents f.books key slot b at
          ∙ back-in-book slot m (ap (λ i. message_in counted_book (contents_at f.contents i) slot) (sym same) ∙ lies)

  -- what lay in any slot that is still in use lies there
  pub forth : (k slot n : ℕ) (m : KeptMessage T U) → HasNumber with_recounted.books k slot n → lies_at f k slot ≡ Some m
      → lies_at with_recounted k slot ≡ Some m
  forth k slot n m has e = elim (cases_eq k key) [
    | inl same ↦
        let stands : get with_recounted.books key ≡ Some has.book =
        ap (get with_recounted.books) (sym same) ∙ has.stands in
        let is : Some counted_book ≡ Some has.book = sym (book-here between key b counted_book at keeps) ∙ stands in
        let is_book : counted_book ≡ has.book = cc in
        let in_use : 0 < holders_at counted_book slot =
        subst (λ (c : Book). 0 < holders_at c slot) (sym is_book) has.in_use in
        let lay : message_in b (contents_at f.contents key) slot ≡ Some m =
        sym (message_at-slot f.contents f.books key slot b at) ∙ ap (λ i. lies_at f i slot) (sym same) ∙ e in
        ap (λ i. lies_at with_recounted i slot) same
        ∙ message_at-slot f.contents with_recounted.books key slot counted_book
        (book-here between key b counted_book at keeps)
        ∙ forth-in-book slot m in_use lay
    | inr away ↦
        let there = message_at-book f.contents f.books k slot m e in
        message_at-slot f.contents with_recounted.books k slot there.0
        (book-others between key b counted_book at keeps k away ∙ there.1) ∙ there.2
  ]

  -- a slot in use was so before, with its number
  pub number-back : (k slot n : ℕ) → HasNumber with_recounted.books k slot n → HasNumber f.books k slot n
  number-back k slot n has = elim (book-was between key b counted_book at keeps k has.book has.stands) [
    | inl is ↦ record {
      book = b;
      stands = ap (get f.books) is.0 ∙ at;
      in_use = r.in_use slot (subst (λ (c : Book). 0 < holders_at c slot) is.1 has.in_use);
      number = ap (λ (c : Book). get_or c.numbers slot 0) (sym is.1) ∙ has.number;
    }
    | inr away ↦ record { book = has.book; stands = away.1; in_use = has.in_use; number = has.number }
  ]

  numbered : IsNumbered f.next_message with_recounted.books
  numbered = record {
    one = λ k k' slot slot' n here there.
        parts.numbered.one k k' slot slot' n (number-back k slot n here) (number-back k' slot' n there);
    below = λ k slot n here. parts.numbered.below k slot n (number-back k slot n here);
  }

  shapes : HasShapes with_recounted
  shapes = record {
    at = λ k slot e m stands lies.
        let there = message_at-book f.contents f.books k slot m
        (back k slot m (message_at-slot f.contents with_recounted.books k slot e stands ∙ lies)) in
        parts.shapes.at k slot there.0 m there.1 there.2;
  }

  -- ---- counters

  -- a slot of another publisher stands as often as before
  sum-others : (q slot : ℕ) → q ≢ p → sum_by (stands q slot) new.slots ≡ sum_by (stands q slot) f.connections.slots
  sum-others q slot differs = sum-alike (stands q slot) refl new.slots f.connections.slots
      (λ i. by i (get f.connections i) (get new i) refl refl (r.homes.same i)) where
        other : (c : Link) → c.home.publisher ≡ p → stands q slot (Some c) ≡ 0
        other c its =
            ap (λ t. cond {A = ℕ} t (stands_in slot c) 0) (ne_eqb c.home.publisher q (λ same. differs (sym same ∙ its)))

        by : (i : ℕ) (o n : Option Link) → get f.connections i ≡ o → get new i ≡ n
            → option_map fixed_of (get new i) ≡ option_map fixed_of (get f.connections i)
            → stands q slot (get new i) ≡ stands q slot (get f.connections i)
        by i None None e h same = ap (stands q slot) (h ∙ sym e)
        by i None (Some d) e h same =
            absurd (let no : option_map fixed_of (Some d) ≡ None = sym (ap (option_map fixed_of) h) ∙ same
            ∙ ap (option_map fixed_of) e in cc)
        by i (Some c) None e h same =
            absurd (let no : None ≡ option_map fixed_of (Some c) = sym (ap (option_map fixed_of) h) ∙ same
            ∙ ap (option_map fixed_of) e in cc)
        by i (Some c) (Some d) e h same = elim (cases_eq c.home.publisher p) [
          | inl its ↦
              let fixed : Some (fixed_of d) ≡ Some (fixed_of c) =
              sym (ap (option_map fixed_of) h) ∙ same ∙ ap (option_map fixed_of) e in
              let is : fixed_of d ≡ fixed_of c = cc in
              ap (stands q slot) h ∙ other d (ap (λ (t : Home × ℕ × ℕ × Bool × List Channel). t.0.publisher) is ∙ its)
              ∙ sym (other c its) ∙ ap (stands q slot) (sym e)
          | inr away ↦ ap (stands q slot) (r.others.stay i c e away ∙ sym e)
        ]

  -- what the publisher itself has of the slot, or what is out of one that is gone
  abbrev own : (slot : ℕ) → Option PublisherFields → Option Book → ℕ
  own slot o book =
      option_map_or (λ (x : PublisherFields). times slot x.loans + times slot (x.history).items) o
      (option_map_or (λ c. cond (is_loan_in c slot) 1 0) book 0)

  -- the publisher itself has each slot as often as before
  abbrev pub OwnStays : Type 0
  OwnStays = (slot : ℕ) → own_holders with_recounted p slot ≡ own_holders f p slot

  -- each slot has as many holders as there are places where it stands
  recounted-counted : OwnStays → IsCounted with_recounted
  recounted-counted own_stays = record {
    at = λ q slot.
        elim (cases_eq q p) [ inl here ↦ rw here (its slot) | inr away ↦ others q slot away ];
  } where
    its : (slot : ℕ)
        → holders_of with_recounted.books p slot ≡ own_holders with_recounted p slot + sum_by (stands p slot) new.slots
    its slot =
        let now : holders_of with_recounted.books p slot ≡ get_or holders slot 0 =
        holders-here between key b counted_book at keeps parts.books.one_each p slot mine in
        let then : holders_of f.books p slot ≡ get_or b.holders slot 0 =
        ap (λ o. option_map_or (λ (c : Book). holders_at c slot) o 0)
        (look_up-found (is_book_of p) f.books.slots key b (parts.books.one_each p) at (eq-eqb b.publisher p mine)) in
        omega (arith, now, then, own_stays slot, parts.counted.at p slot, r.counters.at slot)

    others : (q slot : ℕ) → q ≢ p
        → holders_of with_recounted.books q slot ≡ own_holders with_recounted q slot + sum_by (stands q slot) new.slots
    others q slot away =
        let book : look_up (is_book_of q) with_recounted.books.slots ≡ look_up (is_book_of q) f.books.slots =
        other-book between key b counted_book at keeps parts.books.one_each q
        (ne_eqb b.publisher q (λ same. away (sym same ∙ mine))) in
        let now : holders_of with_recounted.books q slot ≡ holders_of f.books q slot =
        ap (λ o. option_map_or (λ (c : Book). holders_at c slot) o 0) book in
        let same : own_holders with_recounted q slot ≡ own_holders f q slot =
        ap (own slot (look_up (is_publisher q) f.publishers)) book in
        omega (arith, now, same, parts.counted.at q slot, sum-others q slot away)

  -- ---- connections

  -- what was given back lies where its publisher reclaims it
  returned-still : (k : ℕ) (d : Link) → get new k ≡ Some d → SenderHas f.publishers k d ⊎ (d.returned ≡ [])
  returned-still k d at_d =
      let c = was f.connections new k d r.homes at_d in
      elim (parts.linked.returned k c.0 c.1) [
        | inl has ↦ inl (sender-same f new r.homes k c.0 d c.2 has)
        | inr none ↦ inr (nothing d.returned (few c.0 c.1 none))
      ]
    where
      nothing : (xs : List ℕ) → length xs ≡ 0 → xs ≡ []
      nothing [] e = refl
      nothing (x ∷ xs) e = absurd (omega arith)

      few : (c : Link) → get f.connections k ≡ Some c → c.returned ≡ [] → length d.returned ≡ 0
      few c at_c none =
          let now : returned_count new k ≡ length d.returned =
          ap (λ o. option_map_or (λ (x : Link). length x.returned) o 0) at_d in
          let then : returned_count f.connections k ≡ length c.returned =
          ap (λ o. option_map_or (λ (x : Link). length x.returned) o 0) at_c in
          omega (arith, now, then, r.fewer k, ap (length {A = ℕ}) none)

  -- ---- the whole

  books-between : HasBooks between
  books-between = record {
    one_each = parts.books.one_each;
    books = parts.books.books;
    publishers = λ i x here. let has = parts.books.publishers i x here in
        record {
          book = has.book;
          stands = has.stands;
          is_its = has.is_its;
          node = has.node;
          slots = has.slots;
          room = has.room;
        };
    no_others = parts.books.no_others;
  }

  aligned : IsAligned counted_book
  aligned =
      let old : IsAligned b = (parts.books.books key b at).aligned in
      record {
        numbers = old.numbers ∙ sym r.slots;
        headers = old.headers ∙ sym r.slots;
        marks = old.marks ∙ sym r.slots;
      }

  -- the fields agree with one another
  pub recounted-consistent : OwnStays → HasParts with_recounted
  recounted-consistent own_stays = record {
    publisher_ids = parts.publisher_ids;
    subscriber_ids = parts.subscriber_ids;
    apart = IsApart-same f.connections new parts.apart r.homes;
    linked = linked-book between key b counted_book at keeps (linked-still f new r.homes parts.linked returned-still);
    expired_room = room-still f.subscribers f.connections new r.homes parts.expired_room;
    books = books-changed between key b counted_book at keeps books-between aligned;
    names = names-books f.books _ new (book-after between key b counted_book at keeps)
        (names-still f.books f.connections new r.homes parts.names);
    counted = recounted-counted own_stays;
    numbered = numbered;
    publisher_room = parts.publisher_room;
    warning_room = parts.warning_room;
    shapes = shapes;
    forms = parts.forms;
    open_loans = open-rebooked f.publishers f.books f.contents key b counted_book at refl parts.open_loans;
    plain = parts.plain;
  }
