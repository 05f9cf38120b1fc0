-- A free slot of a publisher's book is taken for the next message.
use Rattle.std.proofs.Common.{◌≡◌, ◌≢◌, ℕ, ◌+◌, ◌*◌, ◌<◌, ◌≤◌, List, [], length, replicate, Bool, true, false, cond}
use Rattle.std.proofs.Common.{eqb, get_or, slice_set, refl, ap, sym, subst, ◌∙◌, inl, inr, ◌⊎◌, arith}
use Rattle.std.proofs.lemmas.Bool.{cases_eq, eq-eqb, ne_eqb}
use Rattle.std.proofs.lemmas.List.{get_or-set_same, get_or-set_other, length-set}
use Rattle.std.proofs.lemmas.Option.{slice_get_within}
use Rattle.std.specs.Prelude.{nat_lt, slice_get, slice_index}
use Rattle.std.specs.declared.option.Option.{Option}
use Rattle.std.specs.declared.option.Option.TheVariants.{None, Some}
use Rattle.std.specs.Option.{option_map, option_map_or, option_and_then}
use Rattle.circular_buffer.proofs.Places.{slice_get-some, slice_get-set_same, slice_get-set_other}
use Rattle.slab.specs.Slab.{Slab, get, with_value}
use Rattle.iox2_machine.specs.machine.Numbers.{put_at}
use Rattle.iox2_machine.specs.machine.Records.{Loan}
use Rattle.iox2_slots.specs.SlotBook.{Book, IsAligned, holders_at}
use Rattle.iox2_contents.specs.SlotContents.{ContentState, with_changed, unwritten_content}
use Rattle.iox2_machine.specs.declared.header.Header.{Header}
use Rattle.iox2_slots.specs.declared.slots.mark.SlotMark.TheVariants.{Unwritten}
use Rattle.iox2_connections.specs.LookUp.{look_up, IsOnly}
use Rattle.iox2_connections.proofs.LookUps.{look_up-found}
use Rattle.iox2_domain.specs.Ports.{PublisherFields}
use Rattle.iox2_domain.specs.Kept.{KeptMessage, Lent_message, state_of, entries_of, entry_in, loan_in, is_numbered}
use Rattle.iox2_domain.specs.Kept.{message_numbered}
use Rattle.iox2_domain.specs.Fields.{Fields, kept_of, is_book_of, number_in_slot, message_in, message_of, contents_at}
use Rattle.iox2_domain.specs.Invariant.{IsDomain, HasNumber, IsNumbered, HasRoomFrom, holders_of, HasLoneLoans}
use Rattle.iox2_domain.proofs.lemmas.containers.SetRecords.{set-here, set-others, IsOnly-set, look_up-set}
use Rattle.iox2_domain.proofs.lemmas.slots.Messages.{message_in-free, message_in-from, LiesIn, ChangesSlot, lies_at}
use Rattle.iox2_domain.proofs.lemmas.slots.Messages.{message_numbered-others, message_numbered-found}
use Rattle.iox2_domain.proofs.lemmas.slots.Messages.{message_numbered-nothing, has_number}
use Rattle.iox2_domain.proofs.lemmas.slots.LoneLoans.{lone-changed, lone-fewer}

module _ {A : Type 0} (xs : List A) (slot : ℕ) (g : A → A) where
  abbrev changed_if : Option A → List A
  changed_if o = option_map_or (λ x. slice_set xs slot (g x)) o xs

  pub with_changed-here : (x : A) → slice_get xs slot ≡ Some x → slot < length xs
      → slice_get (with_changed xs slot g) slot ≡ Some (g x)
  with_changed-here x at lt = ap (λ o. slice_get (changed_if o) slot) at ∙ slice_get-set_same xs slot (g x) lt

  pub with_changed-others : (k : ℕ) → k ≢ slot → slice_get (with_changed xs slot g) k ≡ slice_get xs k
  with_changed-others k away = by (slice_get xs slot) where
    by : (o : Option A) → slice_get (changed_if o) k ≡ slice_get xs k
    by None = refl
    by (Some x) = slice_get-set_other xs slot k (g x) away

  pub length-with_changed : length (with_changed xs slot g) ≡ length xs
  length-with_changed = by (slice_get xs slot) where
    by : (o : Option A) → length (changed_if o) ≡ length xs
    by None = refl
    by (Some x) = length-set xs slot (g x)

-- a change of a slot that takes no room from it leaves each slot its room
pub room-with_changed : {T U : Type 0} (g : ContentState T U → ContentState T U)
    → ((c : ContentState T U) → (g c).room ≡ c.room)
    → (contents : List (ContentState T U)) (slot start most : ℕ) → HasRoomFrom start most contents
    → HasRoomFrom start most (with_changed contents slot g)
room-with_changed {T} {U} g roomy contents slot start most has = record { at = by (slice_get contents slot) refl } where
  by : (o : Option (ContentState T U)) → slice_get contents slot ≡ o → (k : ℕ) (c : ContentState T U) → start ≤ k
      → slice_get (option_map_or (λ x. slice_set contents slot (g x)) o contents) k ≡ Some c → most ≤ c.room
  by None e k c from there = has.at k c from there
  by (Some x) e k c from there = elim (cases_eq k slot) [
    | inl here ↦
        let low : slot < length contents = slice_get_within contents slot x e in
        let same : Some (g x) ≡ Some c = sym (slice_get-set_same contents slot (g x) low)
        ∙ ap (slice_get (slice_set contents slot (g x))) (sym here) ∙ there in
        let is : g x ≡ c = cc in
        let enough : most ≤ x.room = has.at k x from (ap (slice_get contents) here ∙ e) in
        subst (λ (n : ℕ). most ≤ n) (sym (roomy x) ∙ ap (λ (d : ContentState T U). d.room) is) enough
    | inr away ↦ has.at k c from (sym (slice_get-set_other contents slot k (g x) away) ∙ there)
  ]

-- The slot of the publisher's book is free, and it has contents.
pub record CanTakeSlot {T U : Type 0} (f : Fields T U) (x : PublisherFields) (slot : ℕ) : Type 0 where
  pub book : Book
  pub contents : List (ContentState T U)
  pub stands : get f.books x.book ≡ Some book
  pub its : book.publisher ≡ x.id
  pub has : get_or f.contents x.book None ≡ Some contents
  pub aligned : IsAligned book
  pub shaped : length contents ≡ length book.holders
  pub within : slot < length book.holders
  pub free : holders_at book slot ≡ 0

module _ {T U : Type 0} (f : Fields T U) (sound : IsDomain f) (x : PublisherFields) (slot : ℕ)
    (can : CanTakeSlot f x slot) (user_header : U) (len : ℕ) where
  -- the header of the next message
  abbrev pub next_header : Header
  next_header = record { node_id = (f.config).node_id; publisher_id = x.id; number_of_elements = len }

  -- the book with the slot taken
  abbrev pub taken_book : Book
  taken_book = record (can.book) {
    numbers = slice_set (can.book).numbers slot f.next_message;
    headers = slice_set (can.book).headers slot next_header;
    marks = slice_set (can.book).marks slot Unwritten;
    holders = slice_set (can.book).holders slot 1;
  }

  -- its contents with an unwritten loan in the slot
  abbrev pub begun : List (ContentState T U)
  begun = with_changed can.contents slot (unwritten_content user_header (len * (f.config).units_per_element))

  abbrev pub taken_books : Slab Book
  taken_books = with_value f.books x.book taken_book

  abbrev pub begun_contents : List (Option (List (ContentState T U)))
  begun_contents = slice_set f.contents x.book (Some begun)

  -- the fields with the slot taken
  abbrev pub with_taken : Fields T U
  with_taken = record f { next_message = f.next_message + 1; books = taken_books; contents = begun_contents }

  -- the loan that lies in the slot
  abbrev pub lent : Loan T U
  lent = record {
    publisher = x.id;
    header = next_header;
    user_header = user_header;
    cells = replicate (len * (f.config).units_per_element) None;
    is_written = false;
  }

  -- ---- the book

  -- the book stands where it stood
  pub taken-stands : get taken_books x.book ≡ Some taken_book
  taken-stands = set-here f.books.slots x.book can.book taken_book can.stands

  pub others-stand : (key : ℕ) → key ≢ x.book → get taken_books key ≡ get f.books key
  others-stand key away = set-others f.books.slots x.book can.book taken_book can.stands key away

  pub begun-has : get_or begun_contents x.book None ≡ Some begun
  begun-has = set-here f.contents x.book can.contents begun can.has

  pub others-have : (key : ℕ) → key ≢ x.book → get_or begun_contents key None ≡ get_or f.contents key None
  others-have key away = set-others f.contents x.book can.contents begun can.has key away

  -- each publisher has one book at most
  -- each book is there still, with its publisher
  pub taken-after : (key : ℕ) (b : Book) → get f.books key ≡ Some b
      → (d : Book) × (get taken_books key ≡ Some d) × (d.publisher ≡ b.publisher)
  taken-after key b at_b = elim (cases_eq key x.book) [
    | inl here ↦
        let is : Some can.book ≡ Some b = sym can.stands ∙ sym (ap (get f.books) here) ∙ at_b in (
          taken_book,
          ap (get taken_books) here ∙ taken-stands,
          ap (λ (o : Book). o.publisher) (let same : can.book ≡ b = cc in same),
        )
    | inr away ↦ (b, others-stand key away ∙ at_b, refl)
  ]

  pub taken-one_each : (p : ℕ) → IsOnly (is_book_of p) taken_books.slots
  taken-one_each p =
      IsOnly-set f.books.slots x.book can.book taken_book can.stands (is_book_of p) refl (sound.parts.books.one_each p)

  -- the book of a publisher
  pub taken-found : (p : ℕ) → look_up (is_book_of p) taken_books.slots ≡ cond (eqb (can.book).publisher p)
      (Some taken_book) (look_up (is_book_of p) f.books.slots)
  taken-found p =
      look_up-set f.books.slots x.book can.book taken_book can.stands (is_book_of p) refl (sound.parts.books.one_each p)

  -- the slot has a holder now, and the others have those that they had
  pub taken-holders : (k : ℕ)
      → ((k ≡ slot) × (holders_at taken_book k ≡ 1)) ⊎ ((k ≢ slot) × (holders_at taken_book k ≡ holders_at can.book k))
  taken-holders k = elim (cases_eq k slot) [
    | inl here ↦ inl
        (here, ap (λ (j : ℕ). holders_at taken_book j) here ∙ get_or-set_same (can.book).holders slot 1 0 can.within)
    | inr away ↦ inr (away, get_or-set_other (can.book).holders slot k 1 0 away)
  ]

  pub taken-number_here : slice_index taken_book.numbers slot ≡ f.next_message
  taken-number_here = get_or-set_same (can.book).numbers slot f.next_message 0
      (let e = can.aligned.numbers in let lt = can.within in omega arith)

  taken-number_others : (k : ℕ) → k ≢ slot → slice_index taken_book.numbers k ≡ slice_index (can.book).numbers k
  taken-number_others k away = get_or-set_other (can.book).numbers slot k f.next_message 0 away

  -- the number of each slot that had a holder stays
  pub taken-keeps : (p k : ℕ) → 0 < holders_of f.books p k → number_in_slot taken_books p k ≡ number_in_slot f.books p k
  taken-keeps p k in_use = ap number_in (taken-found p) ∙ by (eqb (can.book).publisher p) refl where
    number_in : Option Book → ℕ
    number_in o = option_map_or (λ (b : Book). slice_index b.numbers k) o 0

    by : (t : Bool) → eqb (can.book).publisher p ≡ t
        → number_in (cond t (Some taken_book) (look_up (is_book_of p) f.books.slots)) ≡ number_in
        (look_up (is_book_of p) f.books.slots)
    by false e = refl
    by true e =
        let found : look_up (is_book_of p) f.books.slots ≡ Some can.book =
        look_up-found (is_book_of p) f.books.slots x.book can.book (sound.parts.books.one_each p) can.stands e in
        let here : 0 < holders_at can.book k = subst (λ o. 0 < option_map_or (λ b. holders_at b k) o 0) found in_use in
        taken-number_others k (λ same. let none : holders_at can.book k ≡ 0 = ap (λ (j : ℕ). holders_at can.book j) same
        ∙ can.free in absurd (omega arith))
        ∙ sym (ap number_in found)

  -- ---- messages

  -- the loan lies in the slot
  pub lent-lies : lies_at with_taken x.book slot ≡ Some (Lent_message f.next_message lent)
  lent-lies =
      ap (λ o. option_and_then (λ b. message_in b (contents_at begun_contents x.book) slot) o) taken-stands
      ∙ ap (λ o. message_in taken_book (contents_of o) slot) begun-has
      ∙ message_in-from taken_book begun slot (Lent_message f.next_message lent) lies
    where
      contents_of : Option (List (ContentState T U)) → List (ContentState T U)
      contents_of o = elim o [ None ↦ [] | Some cs ↦ cs ]

      low : slot < length can.contents
      low = let e = can.shaped in let lt = can.within in omega arith

      there : (content : ContentState T U) × (slice_get can.contents slot ≡ Some content)
      there = slice_get-some can.contents slot low

      lies : LiesIn taken_book begun slot (Lent_message f.next_message lent)
      lies = record {
        header = next_header;
        content = unwritten_content user_header (len * (f.config).units_per_element) there.0;
        mark = Unwritten;
        in_use = let e : holders_at taken_book slot ≡ 1 = get_or-set_same (can.book).holders slot 1 0 can.within in
            omega arith;
        headers = slice_get-set_same (can.book).headers slot next_header
            (let e = can.aligned.headers in let lt = can.within in omega arith);
        contains = with_changed-here can.contents slot
            (unwritten_content user_header (len * (f.config).units_per_element)) there.0 there.1 low;
        marks = slice_get-set_same (can.book).marks slot Unwritten
            (let e = can.aligned.marks in let lt = can.within in omega arith);
        is = λ t. Lent_message (sym taken-number_here t) (record lent { publisher = sym can.its t });
      }

  -- nothing lay there
  none-lay : lies_at f x.book slot ≡ None
  none-lay =
      ap (λ o. option_and_then (λ b. message_in b (contents_at f.contents x.book) slot) o) can.stands
      ∙ message_in-free can.book (contents_at f.contents x.book) slot can.free

  -- in the other slots lies what lay there
  pub others-lie : (key k : ℕ) → ((key ≡ x.book) × (k ≡ slot) → ⊥) → lies_at with_taken key k ≡ lies_at f key k
  others-lie key k away = elim (cases_eq key x.book) [
    | inl here ↦ elim (cases_eq k slot) [
      | inl same ↦ absurd (away (here, same))
      | inr other ↦
          ap (λ (j : ℕ). lies_at with_taken j k) here ∙ in_book k other ∙ sym (ap (λ (j : ℕ). lies_at f j k) here)
    ]
    | inr other ↦
        λ t. option_and_then (λ b. message_in b (contents_of (others-have key other t)) k) (others-stand key other t)
  ]
    where
      contents_of : Option (List (ContentState T U)) → List (ContentState T U)
      contents_of o = elim o [ None ↦ [] | Some cs ↦ cs ]

      in_slot : (k : ℕ) → k ≢ slot → message_in taken_book begun k ≡ message_in can.book can.contents k
      in_slot k other = λ t. cond (nat_lt 0 (holders t)) (option_and_then (λ header. option_and_then (λ content.
          option_map (message_of (can.book).publisher (number t) header content) (mark t)) (content t)) (header t)) None
        where
          holders : holders_at taken_book k ≡ holders_at can.book k
          holders = get_or-set_other (can.book).holders slot k 1 0 other

          number : slice_index taken_book.numbers k ≡ slice_index (can.book).numbers k
          number = taken-number_others k other

          header : slice_get taken_book.headers k ≡ slice_get (can.book).headers k
          header = slice_get-set_other (can.book).headers slot k next_header other

          mark : slice_get taken_book.marks k ≡ slice_get (can.book).marks k
          mark = slice_get-set_other (can.book).marks slot k Unwritten other

          content : slice_get begun k ≡ slice_get can.contents k
          content = with_changed-others can.contents slot
              (unwritten_content user_header (len * (f.config).units_per_element)) k other

      in_book : (k : ℕ) → k ≢ slot → lies_at with_taken x.book k ≡ lies_at f x.book k
      in_book k other =
          ap (λ o. option_and_then (λ b. message_in b (contents_at begun_contents x.book) k) o) taken-stands
          ∙ ap (λ o. message_in taken_book (contents_of o) k) begun-has
          ∙ in_slot k other
          ∙ sym (ap (λ o. message_in can.book (contents_of o) k) can.has)
          ∙ sym (ap (λ o. option_and_then (λ b. message_in b (contents_at f.contents x.book) k) o) can.stands)

  -- only the slot changes, and only the next number lies in it
  changes : ChangesSlot f with_taken x.book slot f.next_message
  changes = record {
    others = others-lie;
    before = λ m e. let none : None ≡ Some m = sym none-lay ∙ e in absurd cc;
    after = λ m e. let same : Some (Lent_message f.next_message lent) ≡ Some m = sym lent-lies ∙ e in
        let is : Lent_message f.next_message lent ≡ m = cc in
        sym (ap (is_numbered f.next_message) is) ∙ eq-eqb f.next_message f.next_message refl;
  }

  -- ---- numbers

  -- a slot in use with a number is the new one, or it was in use before
  pub number-was : (key k n : ℕ) → HasNumber taken_books key k n
      → ((key ≡ x.book) × (k ≡ slot) × (n ≡ f.next_message)) ⊎ HasNumber f.books key k n
  number-was key k n has = elim (cases_eq key x.book) [
    | inr other ↦ inr (record {
      book = has.book;
      stands = sym (others-stand key other) ∙ has.stands;
      in_use = has.in_use;
      number = has.number;
    })
    | inl here ↦
        let found : Some taken_book ≡ Some has.book = sym taken-stands ∙ sym (ap (get taken_books) here) ∙ has.stands in
        let is : taken_book ≡ has.book = cc in
        elim (taken-holders k) [
          | inl new ↦ inl (
            here,
            new.0,
            sym has.number ∙ sym (ap (λ (b : Book). slice_index b.numbers k) is)
                ∙ ap (λ (j : ℕ). slice_index taken_book.numbers j) new.0 ∙ taken-number_here,
          )
          | inr old ↦ inr (record {
            book = can.book;
            stands = ap (get f.books) here ∙ can.stands;
            in_use = subst (λ (n : ℕ). 0 < n) old.1 (subst (λ (b : Book). 0 < holders_at b k) (sym is) has.in_use);
            number = sym (taken-number_others k old.0) ∙ ap (λ (b : Book). slice_index b.numbers k) is ∙ has.number;
          })
        ]
  ]

  -- numbers stay apart and below the counter
  pub taken-numbered : IsNumbered (f.next_message + 1) taken_books
  taken-numbered = record {
    one = λ key key' k k' n here there. elim (number-was key k n here) [
      | inl new ↦ elim (number-was key' k' n there) [
        | inl new' ↦ (new.0 ∙ sym new'.0, new.1 ∙ sym new'.1)
        | inr old' ↦ let low = sound.parts.numbered.below key' k' n old' in let same = new.2 in absurd (omega arith)
      ]
      | inr old ↦ elim (number-was key' k' n there) [
        | inl new' ↦ let low = sound.parts.numbered.below key k n old in let same = new'.2 in absurd (omega arith)
        | inr old' ↦ sound.parts.numbered.one key key' k k' n old old'
      ]
    ];
    below = λ key k n here. elim (number-was key k n here) [
      | inl new ↦ let same = new.2 in omega arith
      | inr old ↦ let low = sound.parts.numbered.below key k n old in omega arith
    ];
  }

  -- each loan has one holder
  pub taken-lone : HasLoneLoans taken_books
  taken-lone =
      lone-changed f.books x.book can.book taken_book can.stands sound.lone (λ k before. elim (cases_eq k slot) [
        | inl same ↦ λ _. subst (λ (j : ℕ). holders_at taken_book j ≡ 1) (sym same)
            (get_or-set_same (can.book).holders slot 1 0 can.within)
        | inr away ↦ lone-fewer can.book taken_book k (slice_get-set_other (can.book).marks slot k Unwritten away)
            (let holders : holders_at taken_book k ≡ holders_at can.book k = get_or-set_other
            (can.book).holders slot k 1 0 away in omega (arith, holders)) before
      ])

  -- ---- what is found

  -- under the next number lies the loan
  next-found : message_numbered f.next_message (kept_of with_taken).books ≡ Some (Lent_message f.next_message lent)
  next-found =
      message_numbered-found begun_contents taken_books (f.next_message + 1) taken-numbered f.next_message x.book slot
      (Lent_message f.next_message lent)
      lent-lies (eq-eqb f.next_message f.next_message refl)

  -- nothing lay under it
  next-none : message_numbered f.next_message (kept_of f).books ≡ None
  next-none = message_numbered-nothing f.contents f.books f.next_message
      (λ key k m at. by key k m at (is_numbered f.next_message m) refl) where
        by : (key k : ℕ) (m : KeptMessage T U) → lies_at f key k ≡ Some m → (b : Bool)
            → is_numbered f.next_message m ≡ b
            → b ≡ false
        by key k m at false e = refl
        by key k m at true e = let low = sound.parts.numbered.below key k f.next_message
            (has_number f.contents f.books key k f.next_message m at e) in absurd (omega arith)

  -- all else is found as before
  others-found : (n : ℕ) → n ≢ f.next_message
      → message_numbered n (kept_of with_taken).books ≡ message_numbered n (kept_of f).books
  others-found n away = message_numbered-others f with_taken x.book slot f.next_message taken-numbered changes n away

  -- the loan is the state's next
  pub taken-loans : (n : ℕ)
      → (state_of (kept_of with_taken)).loans n ≡ put_at (state_of (kept_of f)).loans f.next_message (Some lent) n
  taken-loans n = elim (cases_eq n f.next_message) [
    | inl here ↦
        ap (λ (k : ℕ). option_and_then loan_in (message_numbered k (kept_of with_taken).books)) here
        ∙ ap (option_and_then loan_in) next-found
        ∙ sym (ap (λ b. cond b (Some lent) ((state_of (kept_of f)).loans n)) (eq-eqb n f.next_message here))
    | inr away ↦
        ap (option_and_then loan_in) (others-found n away)
        ∙ sym (ap (λ b. cond b (Some lent) ((state_of (kept_of f)).loans n)) (ne_eqb n f.next_message away))
  ]

  -- the same entries are kept
  pub taken-entries : (n : ℕ) → entries_of (kept_of with_taken) n ≡ entries_of (kept_of f) n
  taken-entries n = elim (cases_eq n f.next_message) [
    | inl here ↦
        ap (λ (k : ℕ). option_and_then entry_in (message_numbered k (kept_of with_taken).books)) here
        ∙ ap (option_and_then entry_in) next-found
        ∙ sym (ap (option_and_then entry_in) next-none)
        ∙ sym (ap (λ (k : ℕ). option_and_then entry_in (message_numbered k (kept_of f).books)) here)
    | inr away ↦ ap (option_and_then entry_in) (others-found n away)
  ]
