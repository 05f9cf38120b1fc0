-- A book enters of which no slot is in use.
use Rattle.std.proofs.Common.{◌≡◌, ◌≢◌, ℕ, zero, suc, ◌<◌, List, [], map, true, cond, eqb, get_or, replicate, refl, ap}
use Rattle.std.proofs.Common.{sym, subst, ◌∙◌, inl, inr, ◌⊎◌, arith, ◌≤◌, length, slice_index_or}
use Rattle.std.proofs.lemmas.Bool.{cases_eq, eqb-true, ne_eqb, ltb-true}
use Rattle.std.specs.declared.option.Option.{Option}
use Rattle.std.specs.declared.option.Option.TheVariants.{None, Some}
use Rattle.std.specs.Option.{option_map, option_map_or}
use Rattle.std.specs.List.{All}
use Rattle.slab.specs.Slab.{Slab, get, Updates}
use Rattle.iox2_connections.specs.Link.{Link}
use Rattle.iox2_slots.specs.SlotBook.{Book, holders_at, IsAligned}
use Rattle.iox2_contents.specs.SlotContents.{ContentState}
use Rattle.iox2_connections.specs.LookUp.{look_up, IsOnly}
use Rattle.iox2_connections.proofs.LookUps.{look_up-nothing}
use Rattle.iox2_connections.specs.Mailboxes.{sender_ends, mailbox_of}
use Rattle.iox2_domain.specs.Ports.{PublisherFields}
use Rattle.iox2_domain.specs.Kept.{message_numbered}
use Rattle.iox2_domain.specs.Fields.{Fields, kept_book, map_from, is_book_of, number_in_slot, message_in, messages_in}
use Rattle.iox2_domain.specs.Fields.{contents_at, publisher_of, between_of, blocked_send}
use Rattle.iox2_domain.specs.Invariant.{IsDomain, HasNumber, IsNumbered, HasLoneLoans}
use Rattle.iox2_domain.proofs.lemmas.containers.LookUps.{look_up-written, IsOnly-inserted}
use Rattle.iox2_domain.proofs.lemmas.fields.ConnectionEnds.{publisher-stands}
use Rattle.iox2_domain.proofs.lemmas.slots.MessageLists.{look_up-nothing_there, found_in, numbered-same}
use Rattle.iox2_domain.proofs.lemmas.slots.Messages.{map_from_zero-at}
use Rattle.iox2_domain.proofs.lemmas.slots.Renumbered.{map-alike}
use Rattle.iox2_connections.proofs.MailboxChanges.{both-true}
use Rattle.iox2_domain.proofs.lemmas.fields.PlacesKept.{places-back}
use Rattle.iox2_domain.specs.KeptPlaces.{StayInSlots}

-- A book of the publisher, none of whose slots is in use, is among the books now, at a key that had none. At that key
-- are contents for its slots, each without cells and with room for so many elements. Nothing else changes.
pub record BookEnters {T U : Type 0} (node publisher slots room key : ℕ) (old_books : Slab Book)
    (old_contents : List (Option (List (ContentState T U))))
    (books : Slab Book) (contents : List (Option (List (ContentState T U)))) : Type 0 where
  pub book : Book
  pub vacant : get old_books key ≡ None
  pub updates : Updates old_books books key (Some book)
  pub is_its : book.publisher ≡ publisher
  pub names_node : book.node ≡ node
  pub unused : book.holders ≡ replicate slots 0
  pub aligned : IsAligned book
  pub slot_contents : List (ContentState T U)
  pub contents_here : slice_index_or contents key None ≡ Some slot_contents
  pub contents_others : (k : ℕ) → k ≢ key → slice_index_or contents k None ≡ slice_index_or old_contents k None
  pub contents_length : length slot_contents ≡ slots
  pub has_room : All (λ content. room ≤ content.room) slot_contents
  pub closed : All (λ content. content.cells ≡ []) slot_contents

none_of : (n i : ℕ) → get_or {A = ℕ} (replicate n 0) i 0 ≡ 0
none_of zero zero = refl
none_of zero (suc i) = refl
none_of (suc n) zero = refl
none_of (suc n) (suc i) = none_of n i

module _ {T U : Type 0} (f : Fields T U) (sound : IsDomain f) (slots room key : ℕ) (books : Slab Book)
    (contents : List (Option (List (ContentState T U))))
    (enters : BookEnters (f.config).node_id f.next_port slots room key f.books f.contents books contents) where
  -- a publisher that stands somewhere was made before
  pub publisher_before : (i : ℕ) (x : PublisherFields) → get_or f.publishers i None ≡ Some x → x.id < f.next_port
  publisher_before i x at = (sound.well_formed.publishers x.id _ (publisher-stands f sound.parts i x at)).is_known

  -- so was the publisher of a book
  owner_before : (k : ℕ) (b : Book) → get f.books k ≡ Some b → b.publisher < f.next_port
  owner_before k b at = elim (sound.kept_books.at k b at) [
    | inl owned ↦
        subst (λ (p : ℕ). p < f.next_port) owned.is_its (publisher_before owned.place owned.publisher owned.stands)
    | inr left ↦ left.0.known
  ]

  -- and that of a connection
  pub sender_before : (k : ℕ) (c : Link) → get f.connections k ≡ Some c → c.home.publisher < f.next_port
  sender_before k c at =
      let has = sound.parts.names.at k c at in
      subst (λ (p : ℕ). p < f.next_port) has.is_its (owner_before c.home.book has.book has.stands)

  -- no book is the new publisher's yet
  pub no_book : look_up (is_book_of f.next_port) f.books.slots ≡ None
  no_book = look_up-nothing (is_book_of f.next_port) f.books.slots
      (λ k b at. let low : b.publisher < f.next_port = owner_before k b at in
      ne_eqb b.publisher f.next_port (λ same. omega arith))

  no_book_of : (p : ℕ) → eqb enters.book.publisher p ≡ true → look_up (is_book_of p) f.books.slots ≡ None
  no_book_of p is =
      let here : f.next_port ≡ p = sym enters.is_its ∙ eqb-true enters.book.publisher p is in
      subst (λ (r : ℕ). look_up (is_book_of r) f.books.slots ≡ None) here no_book

  -- each publisher has one book still
  pub books-apart : (p : ℕ) → IsOnly (is_book_of p) books.slots
  books-apart p =
      IsOnly-inserted (is_book_of p) f.books.slots books.slots key enters.book (sound.parts.books.one_each p)
      (no_book_of p) enters.updates.changed enters.updates.others

  -- the books by publisher
  pub book-found : (p : ℕ) → look_up (is_book_of p) books.slots ≡ cond (eqb f.next_port p) (Some enters.book)
      (look_up (is_book_of p) f.books.slots)
  book-found p =
      look_up-written (is_book_of p) f.books.slots books.slots key enters.book (books-apart p)
      (λ x at. absurd (let no : None ≡ Some x = sym enters.vacant ∙ at in cc)) enters.updates.changed
      enters.updates.others
      ∙ ap (λ (q : ℕ). cond (eqb q p) (Some enters.book) (look_up (is_book_of p) f.books.slots)) enters.is_its

  -- the slots of the other publishers keep their numbers
  pub numbers-same : (p : ℕ) → p < f.next_port → number_in_slot books p ≡ number_in_slot f.books p
  numbers-same p low =
      let other : look_up (is_book_of p) books.slots ≡ look_up (is_book_of p) f.books.slots =
      book-found p ∙ ap (λ b. cond b (Some enters.book) (look_up (is_book_of p) f.books.slots))
      (ne_eqb f.next_port p (λ same. omega arith)) in
      ap {B = ℕ → ℕ} (λ (o : Option Book) (slot : ℕ). option_map_or (λ (b : Book). get_or b.numbers slot 0) o 0) other

  -- nobody holds a slot of the new book
  pub unheld : (slot : ℕ) → holders_at enters.book slot ≡ 0
  unheld slot = ap (λ hs. get_or hs slot 0) enters.unused ∙ none_of slots slot

  -- a book is the new one or was there before
  pub was_book : (k : ℕ) (b : Book) → get books k ≡ Some b
      → ((k ≡ key) × (b ≡ enters.book)) ⊎ ((k ≢ key) × (get f.books k ≡ Some b))
  was_book k b at = elim (cases_eq k key) [
    | inl here ↦
        let at_key : get books key ≡ Some b = subst (λ (j : ℕ). get books j ≡ Some b) here at in
        let same : Some enters.book ≡ Some b = sym enters.updates.changed ∙ at_key in
        inl (here, cc)
    | inr away ↦ inr (away, sym (enters.updates.others k away) ∙ at)
  ]

  -- a book that was there isn't at the new one's key
  pub away_from : (k : ℕ) (b : Book) → get f.books k ≡ Some b → k ≢ key
  away_from k b at here =
      let at_key : get f.books key ≡ Some b = subst (λ (j : ℕ). get f.books j ≡ Some b) here at in
      let no : None ≡ Some b = sym enters.vacant ∙ at_key in cc

  -- and is there still
  pub still_book : (k : ℕ) (b : Book) → get f.books k ≡ Some b → get books k ≡ Some b
  still_book k b at = enters.updates.others k (away_from k b at) ∙ at

  -- ---- what lies in slots

  -- nothing lies in a slot of the new book
  pub nothing_in : (cs : List (ContentState T U)) (slot : ℕ) → message_in enters.book cs slot ≡ None
  nothing_in cs slot = rw (unheld slot) refl

  -- contents at other keys are the same
  pub contents-same : (k : ℕ) → k ≢ key → contents_at contents k ≡ contents_at f.contents k
  contents-same k away =
      ap (λ (o : Option (List (ContentState T U))). elim o [ None ↦ [] | Some cs ↦ cs ]) (enters.contents_others k away)

  -- each number has the message that it had
  pub messages-same : (n : ℕ) → message_numbered n (map_from (kept_book contents) 0 books.slots) ≡ message_numbered n
      (map_from (kept_book f.contents) 0 f.books.slots)
  messages-same n = numbered-same n (map_from (kept_book f.contents) 0 f.books.slots)
      (map_from (kept_book contents) 0 books.slots) at where
        by : (k : ℕ) (o : Option Book) → k ≢ key
            → found_in n (kept_book contents k o) ≡ found_in n (kept_book f.contents k o)
        by k None away = refl
        by k (Some b) away = ap (λ cs. found_in n (Some (record { publisher = b.publisher; slots = messages_in b cs })))
            (contents-same k away)

        here : found_in n (kept_book contents key (Some enters.book)) ≡ None
        here = look_up-nothing_there _ (λ (slot holders : ℕ). message_in enters.book (contents_at contents key) slot)
            (λ slot holders. nothing_in (contents_at contents key) slot) 0 enters.book.holders

        each : (k : ℕ)
            → found_in n (kept_book contents k (get books k)) ≡ found_in n (kept_book f.contents k (get f.books k))
        each k = elim (cases_eq k key) [
          | inl same ↦ subst (λ (j : ℕ). found_in n (kept_book contents j (get books j)) ≡ found_in n
              (kept_book f.contents j (get f.books j))) (sym same)
              (ap (λ o. found_in n (kept_book contents key o)) enters.updates.changed ∙ here
              ∙ sym (ap (λ o. found_in n (kept_book f.contents key o)) enters.vacant))
          | inr away ↦
              ap (λ o. found_in n (kept_book contents k o)) (enters.updates.others k away) ∙ by k (get f.books k) away
        ]

        at : (i : ℕ) → found_in n (get_or (map_from (kept_book contents) 0 books.slots) i None) ≡ found_in n
            (get_or (map_from (kept_book f.contents) 0 f.books.slots) i None)
        at i =
            ap (found_in n) (map_from_zero-at (kept_book contents) None books.slots (λ k le. refl) i)
            ∙ each i
            ∙ sym (ap (found_in n) (map_from_zero-at (kept_book f.contents) None f.books.slots (λ k le. refl) i))

  -- ---- the invariant

  -- no other slot has a number
  had_number : (k slot n : ℕ) → HasNumber books k slot n → HasNumber f.books k slot n
  had_number k slot n has = elim (was_book k has.book has.stands) [
    | inl new ↦
        let none : holders_at has.book slot ≡ 0 = ap (λ (b : Book). holders_at b slot) new.1 ∙ unheld slot in
        let some : 0 < holders_at has.book slot = has.in_use in
        absurd (omega arith)
    | inr old ↦ record { book = has.book; stands = old.1; in_use = has.in_use; number = has.number }
  ]

  pub new-places : StayInSlots f.next_message f.books f.next_message books
  new-places = places-back had_number

  pub numbered-still : IsNumbered f.next_message books
  numbered-still = record {
    one = λ k k' slot slot' n here there.
        sound.parts.numbered.one k k' slot slot' n (had_number k slot n here) (had_number k' slot' n there);
    below = λ k slot n here. sound.parts.numbered.below k slot n (had_number k slot n here);
  }

  pub lone-still : HasLoneLoans books
  lone-still = record {
    at = λ k slot b there loan. elim (was_book k b there) [
      | inl new ↦
          let none : holders_at b slot ≡ 0 = ap (λ (c : Book). holders_at c slot) new.1 ∙ unheld slot in
          let some : 0 < holders_at b slot = ltb-true 0 (holders_at b slot) (both-true _ _ loan).0 in
          absurd (omega arith)
      | inr old ↦ sound.lone.at k slot b old.1 loan
    ];
  }

  -- ---- publishers and connections look as they did

  pub publishers-shown : map (option_map (publisher_of books f.connections)) f.publishers ≡ map
      (option_map (publisher_of f.books f.connections)) f.publishers
  publishers-shown =
      map-alike (publisher_of books f.connections) (publisher_of f.books f.connections) f.publishers (λ i x at.
      ap (λ (number : ℕ → ℕ). record (publisher_of f.books f.connections x) {
        port = record ((publisher_of f.books f.connections x).port) {
          loans = map number x.loans;
          history = map number x.history.items;
          blocked = option_map (blocked_send number (sender_ends f.connections x.keys)) x.blocked;
        };
      })
      (numbers-same x.id (publisher_before i x at)))

  pub connections-shown : map (option_map (between_of books f.connections)) f.connections.slots ≡ map
      (option_map (between_of f.books f.connections)) f.connections.slots
  connections-shown =
      map-alike (between_of books f.connections) (between_of f.books f.connections) f.connections.slots (λ k c at.
      ap (λ (number : ℕ → ℕ). record (between_of f.books f.connections c) { mailbox = mailbox_of number c })
      (numbers-same c.home.publisher (sender_before k c at)))
