-- Where the kept messages lie: each in one slot of one book.
use Rattle.std.proofs.Common.{◌≡◌, ◌≢◌, ℕ, zero, suc, ◌+◌, ◌<◌, ◌≤◌, List, [], ◌∷◌, length, Bool, true, false, cond}
use Rattle.std.proofs.Common.{eqb, get_or, refl, ap, sym, ◌∙◌, arith, inl, inr}
use Rattle.std.proofs.lemmas.Bool.{ltb-true, lt-ltb, eqb-true, eq-eqb, cases_lt, false_from_ne_true}
use Rattle.std.proofs.lemmas.List.{get_or_past}
use Rattle.std.proofs.lemmas.Option.{same_Some}
use Rattle.std.specs.Prelude.{nat_lt, slice_get, slice_index, IsSomeAnd}
use Rattle.std.specs.declared.option.Option.{Option}
use Rattle.std.specs.declared.option.Option.TheVariants.{None, Some}
use Rattle.std.specs.Option.{option_map, option_and_then}
use Rattle.slab.specs.Slab.{Slab, get}
use Rattle.iox2_slots.specs.SlotBook.{Book, IsAligned, holders_at}
use Rattle.iox2_contents.specs.SlotContents.{ContentState}
use Rattle.iox2_machine.specs.machine.Records.{Entry, Loan}
use Rattle.iox2_machine.specs.declared.header.Header.{Header}
use Rattle.iox2_slots.specs.declared.slots.mark.SlotMark.{SlotMark}
use Rattle.iox2_slots.specs.declared.slots.mark.SlotMark.TheVariants.{Unwritten, Written, Sent}
use Rattle.iox2_connections.specs.LookUp.{look_up}
use Rattle.iox2_connections.proofs.LookUps.{look_up-there, look_up-none}
use Rattle.iox2_domain.specs.Kept.{KeptMessage, Lent_message, Sent_message, KeptBook, state_of, entries_of, is_numbered}
use Rattle.iox2_domain.specs.Kept.{loan_in, entry_in, message_numbered, first_of_two}
use Rattle.iox2_domain.specs.Fields.{Fields, kept_of, map_from, message_of, message_in, messages_in, contents_at}
use Rattle.iox2_domain.specs.Fields.{kept_book}
use Rattle.iox2_domain.specs.Invariant.{IsBook, HasNumber, IsNumbered}
use Rattle.iox2_connections.specs.Counters.{with_counters}
use mathlib.Core.Path.{fun_ext}

-- ---- one slot

-- what f makes of the element at an index; past the end it makes nothing
pub map_from-at : {A B : Type 0} (f : ℕ → A → Option B) (past : A) (start : ℕ) (xs : List A)
    → ((i : ℕ) → start + length xs ≤ i → f i past ≡ None)
    → (i : ℕ) → get_or (map_from f start xs) i None ≡ f (start + i) (get_or xs i past)
map_from-at f past start [] none zero = sym (none (start + zero) (omega arith))
map_from-at f past start [] none (suc i) = sym (none (start + suc i) (omega arith))
map_from-at f past start (x ∷ xs) none zero = let e : start ≡ start + zero = omega arith in ap (λ k. f k x) e
map_from-at f past start (x ∷ xs) none (suc i) =
    let e : start + 1 + i ≡ start + suc i = omega arith in
    map_from-at f past (start + 1) xs (λ k le. none k (omega arith)) i ∙ ap (λ k. f k (get_or xs i past)) e

-- the same from index 0 on
pub map_from_zero-at : {A B : Type 0} (f : ℕ → A → Option B) (past : A) (xs : List A)
    → ((i : ℕ) → length xs ≤ i → f i past ≡ None)
    → (i : ℕ) → get_or (map_from f 0 xs) i None ≡ f i (get_or xs i past)
map_from_zero-at f past xs none i =
    let e : 0 + i ≡ i = omega arith in
    map_from-at f past 0 xs (λ k le. none k (omega arith)) i ∙ ap (λ k. f k (get_or xs i past)) e

module _ {T U : Type 0} where
  -- what lies in a slot in use, part by part
  pub record LiesIn (b : Book) (contents : List (ContentState T U)) (slot : ℕ) (m : KeptMessage T U) : Type 0 where
    pub header : Header
    pub content : ContentState T U
    pub mark : SlotMark
    pub in_use : 0 < holders_at b slot
    pub headers : slice_get b.headers slot ≡ Some header
    pub contains : slice_get contents slot ≡ Some content
    pub marks : slice_get b.marks slot ≡ Some mark
    pub is : m ≡ message_of b.publisher (slice_index b.numbers slot) header content mark

  module _ (b : Book) (contents : List (ContentState T U)) (slot : ℕ) where
    abbrev by_mark : Header → ContentState T U → Option SlotMark → Option (KeptMessage T U)
    by_mark header content o = option_map (message_of b.publisher (slice_index b.numbers slot) header content) o

    abbrev by_content : Header → Option (ContentState T U) → Option (KeptMessage T U)
    by_content header o = option_and_then (λ content. by_mark header content (slice_get b.marks slot)) o

    abbrev by_header : Option Header → Option (KeptMessage T U)
    by_header o = option_and_then (λ header. by_content header (slice_get contents slot)) o

    -- a message in a slot has these parts
    pub message_in-parts : (m : KeptMessage T U) → message_in b contents slot ≡ Some m → LiesIn b contents slot m
    message_in-parts m e = by_holders (nat_lt 0 (holders_at b slot)) refl e where
      at_mark : 0 < holders_at b slot → (header : Header) (content : ContentState T U)
          → slice_get b.headers slot ≡ Some header → slice_get contents slot ≡ Some content
          → (o : Option SlotMark) → slice_get b.marks slot ≡ o → by_mark header content o ≡ Some m
          → LiesIn b contents slot m
      at_mark in_use header content h c None is e = absurd cc
      at_mark in_use header content h c (Some mark) is e =
          let same : Some (message_of b.publisher (slice_index b.numbers slot) header content mark) ≡ Some m = e in
          record {
            header = header;
            content = content;
            mark = mark;
            in_use = in_use;
            headers = h;
            contains = c;
            marks = is;
            is = cc;
          }

      at_content : 0 < holders_at b slot → (header : Header) → slice_get b.headers slot ≡ Some header
          → (o : Option (ContentState T U)) → slice_get contents slot ≡ o → by_content header o ≡ Some m
          → LiesIn b contents slot m
      at_content in_use header h None is e = absurd cc
      at_content in_use header h (Some content) is e =
          at_mark in_use header content h is (slice_get b.marks slot) refl e

      at_header : 0 < holders_at b slot → (o : Option Header) → slice_get b.headers slot ≡ o → by_header o ≡ Some m
          → LiesIn b contents slot m
      at_header in_use None is e = absurd cc
      at_header in_use (Some header) is e = at_content in_use header is (slice_get contents slot) refl e

      by_holders : (t : Bool) → nat_lt 0 (holders_at b slot) ≡ t
          → cond t (by_header (slice_get b.headers slot)) None ≡ Some m → LiesIn b contents slot m
      by_holders true in_use e = at_header (ltb-true 0 (holders_at b slot) in_use) (slice_get b.headers slot) refl e
      by_holders false in_use e = absurd cc

    -- and a slot with such parts has that message
    pub message_in-from : (m : KeptMessage T U) → LiesIn b contents slot m → message_in b contents slot ≡ Some m
    message_in-from m lies =
        ap (λ t. cond t (by_header (slice_get b.headers slot)) None) (lt-ltb 0 (holders_at b slot) lies.in_use)
        ∙ ap by_header lies.headers
        ∙ ap (by_content lies.header) lies.contains
        ∙ ap (by_mark lies.header lies.content) lies.marks
        ∙ ap Some (sym lies.is)

    -- nothing lies in a slot that nothing holds
    pub message_in-free : holders_at b slot ≡ 0 → message_in b contents slot ≡ None
    message_in-free e = ap (λ (n : ℕ). cond (nat_lt 0 n) (by_header (slice_get b.headers slot)) None) e

    -- a slot in use is in range
    pub in_use_within : 0 < holders_at b slot → slot < length b.holders
    in_use_within in_use = elim (cases_lt slot (length b.holders)) [
      | inl lt ↦ lt
      | inr le ↦ let none : holders_at b slot ≡ 0 = get_or_past b.holders slot 0 le in absurd (omega arith)
    ]

    -- something lies in each slot in use
    pub message_in-in_use : IsAligned b → length contents ≡ length b.holders → 0 < holders_at b slot
        → (m : KeptMessage T U) × (LiesIn b contents slot m)
    message_in-in_use aligned shaped in_use =
        let lt : slot < length b.holders = in_use_within in_use in
        let h = some_there b.headers slot (omega (arith, aligned.headers)) in
        let c = some_there contents slot (omega (arith, shaped)) in
        let k = some_there b.marks slot (omega (arith, aligned.marks)) in (
          message_of b.publisher (slice_index b.numbers slot) h.0 c.0 k.0,
          record {
            header = h.0;
            content = c.0;
            mark = k.0;
            in_use = in_use;
            headers = h.1;
            contains = c.1;
            marks = k.1;
            is = refl;
          },
        )
      where
        some_there : {A : Type 0} (xs : List A) (i : ℕ) → i < length xs → (x : A) × (slice_get xs i ≡ Some x)
        some_there [] i lt = absurd (omega arith)
        some_there (x ∷ xs) zero lt = (x, refl)
        some_there (x ∷ xs) (suc i) lt = some_there xs i (omega arith)

    -- the number of the message in a slot is the slot's
    pub is_numbered-slot : (m : KeptMessage T U) (n : ℕ) → LiesIn b contents slot m
        → is_numbered n m ≡ eqb (slice_index b.numbers slot) n
    is_numbered-slot m n lies = ap (is_numbered n) lies.is ∙ by lies.mark where
      by : (mark : SlotMark) → is_numbered n (message_of b.publisher
          (slice_index b.numbers slot) lies.header lies.content mark) ≡ eqb (slice_index b.numbers slot) n
      by Unwritten = refl
      by Written = refl
      by Sent = refl

  -- the messages of a book, slot by slot
  pub messages_in-at : (b : Book) (contents : List (ContentState T U)) (slot : ℕ)
      → get_or (messages_in b contents) slot None ≡ message_in b contents slot
  messages_in-at b contents slot =
      map_from_zero-at (λ s holders. message_in b contents s) 0 b.holders
      (λ i le. message_in-free b contents i (get_or_past b.holders i 0 le)) slot

-- ---- all slots

module _ {T U : Type 0} (n : ℕ) where
  -- what is found lies in the slots of some book
  numbered-there : (books : List (Option (KeptBook T U))) (m : KeptMessage T U) → message_numbered n books ≡ Some m
      → (key : ℕ) × (k : KeptBook T U) × (get_or books key None ≡ Some k) × (look_up (is_numbered n) k.slots ≡ Some m)
  numbered-there [] m e = absurd cc
  numbered-there (None ∷ books) m e = let rest = numbered-there books m e in (suc rest.0, rest.1, rest.2, rest.3)
  numbered-there (Some k ∷ books) m e =
      by (look_up (is_numbered n) k.slots) refl e (λ later. numbered-there books m later) where
        by : (o : Option (KeptMessage T U)) → look_up (is_numbered n) k.slots ≡ o
            → first_of_two o (message_numbered n books) ≡ Some m
            → (message_numbered n books ≡ Some m → (key : ℕ) × (k : KeptBook T U) × (get_or books key None ≡ Some k)
            × (look_up (is_numbered n) k.slots ≡ Some m))
            → (key : ℕ) × (j : KeptBook T U) × (get_or (Some k ∷ books) key None ≡ Some j)
            × (look_up (is_numbered n) j.slots ≡ Some m)
        by None none e later = let rest = later e in (suc rest.0, rest.1, rest.2, rest.3)
        by (Some found) is e later = (zero, k, refl, is ∙ e)

  -- where nothing is found it lies in the slots of no book
  numbered-none : (books : List (Option (KeptBook T U))) → message_numbered n books ≡ None
      → (key : ℕ) (k : KeptBook T U) → get_or books key None ≡ Some k → look_up (is_numbered n) k.slots ≡ None
  numbered-none [] e zero k at = absurd cc
  numbered-none [] e (suc key) k at = absurd cc
  numbered-none (None ∷ books) e zero k at = absurd cc
  numbered-none (None ∷ books) e (suc key) k at = numbered-none books e key k at
  numbered-none (Some j ∷ books) e key k at =
      by (look_up (is_numbered n) j.slots) refl e key at (λ later i there. numbered-none books later i k there) where
        by : (o : Option (KeptMessage T U)) → look_up (is_numbered n) j.slots ≡ o
            → first_of_two o (message_numbered n books) ≡ None
            → (key : ℕ) → get_or (Some j ∷ books) key None ≡ Some k
            → (message_numbered n books ≡ None → (i : ℕ) → get_or books i None ≡ Some k
            → look_up (is_numbered n) k.slots ≡ None)
            → look_up (is_numbered n) k.slots ≡ None
        by None none e zero at later = let same : Some j ≡ Some k = at in let is : j ≡ k = cc in
            ap (λ (i : KeptBook T U). look_up (is_numbered n) i.slots) (sym is) ∙ none
        by None none e (suc key) at later = later e key at
        by (Some found) is e key at later = absurd cc

module _ {T U : Type 0} (contents : List (Option (List (ContentState T U)))) (books : Slab Book) where
  -- what lies in a slot of the book at a key
  abbrev pub message_at : (key slot : ℕ) → Option (KeptMessage T U)
  message_at key slot = option_and_then (λ b. message_in b (contents_at contents key) slot) (get books key)

  -- all that is kept of the books
  abbrev pub kept_books : List (Option (KeptBook T U))
  kept_books = map_from (kept_book contents) 0 books.slots

  -- it lies in a slot of some book
  pub message_at-book : (key slot : ℕ) (m : KeptMessage T U) → message_at key slot ≡ Some m
      → (b : Book) × (get books key ≡ Some b) × (message_in b (contents_at contents key) slot ≡ Some m)
  message_at-book key slot m e = by (get books key) refl e where
    by : (o : Option Book) → get books key ≡ o
        → option_and_then (λ b. message_in b (contents_at contents key) slot) o ≡ Some m
        → (b : Book) × (get books key ≡ Some b) × (message_in b (contents_at contents key) slot ≡ Some m)
    by None is e = absurd cc
    by (Some b) is e = (b, is, e)

  -- a slot of a book that stands at a key
  pub message_at-slot : (key slot : ℕ) (b : Book) → get books key ≡ Some b
      → message_at key slot ≡ message_in b (contents_at contents key) slot
  message_at-slot key slot b at = ap (option_and_then (λ b. message_in b (contents_at contents key) slot)) at

  -- its slot is in use and has its number
  pub has_number : (key slot n : ℕ) (m : KeptMessage T U) → message_at key slot ≡ Some m → is_numbered n m ≡ true
      → HasNumber books key slot n
  has_number key slot n m e numbered =
      let there = message_at-book key slot m e in
      let lies = message_in-parts there.0 (contents_at contents key) slot m there.2 in
      record {
        book = there.0;
        stands = there.1;
        in_use = lies.in_use;
        number = eqb-true (slice_index (there.0).numbers slot) n
            (sym (is_numbered-slot there.0 (contents_at contents key) slot m n lies) ∙ numbered);
      }

  -- a message lies in each slot in use
  pub held-message : (key slot n : ℕ) → ((b : Book) → get books key ≡ Some b → IsBook b (get_or contents key None))
      → HasNumber books key slot n
      → (m : KeptMessage T U) × (message_at key slot ≡ Some m) × (is_numbered n m ≡ true)
  held-message key slot n is_book has =
      let lies = message_in-in_use has.book (contents_at contents key) slot (is_book has.book has.stands).aligned
      (shaped (get_or contents key None) (is_book has.book has.stands).shaped) has.in_use in (
        lies.0,
        message_at-slot key slot has.book has.stands
            ∙ message_in-from has.book (contents_at contents key) slot lies.0 lies.1,
        is_numbered-slot has.book (contents_at contents key) slot lies.0 n lies.1
            ∙ eq-eqb (slice_index (has.book).numbers slot) n has.number,
      )
    where
      shaped : (o : Option (List (ContentState T U))) → IsSomeAnd o (λ cs. length cs ≡ length (has.book).holders)
          → length {A = ContentState T U} (elim o [ None ↦ [] | Some cs ↦ cs ]) ≡ length (has.book).holders
      shaped None e = absurd e
      shaped (Some cs) e = e

  -- what is kept of the book at a key
  kept_books-at : (key : ℕ) → get_or kept_books key None ≡ kept_book contents key (get books key)
  kept_books-at key = map_from_zero-at (kept_book contents) None books.slots (λ i le. refl) key

  slot-at : (key : ℕ) (k : KeptBook T U) (slot : ℕ) → get_or kept_books key None ≡ Some k
      → get_or k.slots slot None ≡ message_at key slot
  slot-at key k slot at = by (get books key) (sym (kept_books-at key) ∙ at) where
    by : (o : Option Book) → kept_book contents key o ≡ Some k
        → get_or k.slots slot None ≡ option_and_then (λ b. message_in b (contents_at contents key) slot) o
    by None e = absurd cc
    by (Some b) e =
        let shown : KeptBook T U =
        record { publisher = b.publisher; slots = messages_in b (contents_at contents key) } in
        let same : Some shown ≡ Some k = e in
        let is : shown ≡ k = cc in
        ap (λ (j : KeptBook T U). get_or j.slots slot None) (sym is) ∙ messages_in-at b (contents_at contents key) slot

  book-at : (key slot : ℕ) (m : KeptMessage T U) → message_at key slot ≡ Some m
      → (k : KeptBook T U) × (get_or kept_books key None ≡ Some k)
  book-at key slot m e =
      let there = message_at-book key slot m e in (
        record { publisher = (there.0).publisher; slots = messages_in there.0 (contents_at contents key) },
        kept_books-at key ∙ ap (kept_book contents key) there.1,
      )

  -- what is found lies in some slot
  pub message_numbered-there : (n : ℕ) (m : KeptMessage T U) → message_numbered n kept_books ≡ Some m
      → (key slot : ℕ) × (message_at key slot ≡ Some m) × (is_numbered n m ≡ true)
  message_numbered-there n m e =
      let book = numbered-there n kept_books m e in
      let there = look_up-there (is_numbered n) (book.1).slots m book.3 in
      (book.0, there.0, sym (slot-at book.0 book.1 there.0 book.2) ∙ there.1, there.2)

  -- where nothing is found, no slot has the number
  pub message_numbered-none : (n : ℕ) → message_numbered n kept_books ≡ None
      → (key slot : ℕ) (m : KeptMessage T U) → message_at key slot ≡ Some m → is_numbered n m ≡ false
  message_numbered-none n e key slot m at =
      let book = book-at key slot m at in
      look_up-none (is_numbered n) (book.0).slots (numbered-none n kept_books e key book.0 book.1) slot m
      (slot-at key book.0 slot book.1 ∙ at)

  -- where no slot has the number, nothing is found
  pub message_numbered-nothing : (n : ℕ)
      → ((key slot : ℕ) (m : KeptMessage T U) → message_at key slot ≡ Some m → is_numbered n m ≡ false)
      → message_numbered n kept_books ≡ None
  message_numbered-nothing n none = by (message_numbered n kept_books) refl where
    by : (o : Option (KeptMessage T U)) → message_numbered n kept_books ≡ o → o ≡ None
    by None e = refl
    by (Some m) e =
        let there = message_numbered-there n m e in
        absurd (let no : is_numbered n m ≡ false = none there.0 there.1 m there.2 in
        let yes : is_numbered n m ≡ true = there.3 in cc)

  -- the message in a slot is what is found under its number
  pub message_numbered-found : (next : ℕ) → IsNumbered next books → (n key slot : ℕ) (m : KeptMessage T U)
      → message_at key slot ≡ Some m → is_numbered n m ≡ true
      → message_numbered n kept_books ≡ Some m
  message_numbered-found next numbered n key slot m at is = by (message_numbered n kept_books) refl where
    by : (o : Option (KeptMessage T U)) → message_numbered n kept_books ≡ o → o ≡ Some m
    by None e = absurd (let no : is_numbered n m ≡ false = message_numbered-none n e key slot m at in cc)
    by (Some found) e =
        let there = message_numbered-there n found e in
        let same = numbered.one there.0 key there.1 slot n (has_number there.0 there.1 n found there.2 there.3)
        (has_number key slot n m at is) in
        sym there.2 ∙ ap (λ (k : ℕ). message_at k there.1) same.0 ∙ ap (λ (s : ℕ). message_at key s) same.1 ∙ at

-- what lies in a slot of a book lies there with other counters too, where the slot is in use
pub message_in-counters : {T U : Type 0} (b : Book) (holders : List ℕ) (contents : List (ContentState T U)) (slot : ℕ)
    (m : KeptMessage T U)
    → 0 < holders_at (with_counters b holders) slot → message_in b contents slot ≡ Some m
    → message_in (with_counters b holders) contents slot ≡ Some m
message_in-counters b holders contents slot m in_use e =
    let lies = message_in-parts b contents slot m e in
    message_in-from (with_counters b holders) contents slot m (record {
      header = lies.header;
      content = lies.content;
      mark = lies.mark;
      in_use = in_use;
      headers = lies.headers;
      contains = lies.contains;
      marks = lies.marks;
      is = lies.is;
    })

-- what is found in either of two places, and the same, is in both alike
pub alike-if-found : {A : Type 0} (f g : ℕ → Option A) → ((n : ℕ) (a : A) → f n ≡ Some a → g n ≡ Some a)
    → ((n : ℕ) (a : A) → g n ≡ Some a → f n ≡ Some a) → g ≡ f
alike-if-found {A} f g stays was = fun_ext (λ n. by n (f n) (g n) refl refl) where
  by : (n : ℕ) (o now : Option A) → f n ≡ o → g n ≡ now → g n ≡ f n
  by n None None e h = h ∙ sym e
  by n None (Some a) e h = h ∙ sym (was n a h)
  by n (Some a) now e h = stays n a e ∙ sym e

-- where each slot that has the number has that very message before and after, it is found alike
pub message_numbered-same : {T U : Type 0} (contents contents' : List (Option (List (ContentState T U))))
    (books books' : Slab Book) (next n : ℕ) → IsNumbered next books'
    → ((key slot : ℕ) (m : KeptMessage T U) → message_at contents books key slot ≡ Some m → is_numbered n m ≡ true
    → message_at contents' books' key slot ≡ Some m)
    → ((key slot : ℕ) (m : KeptMessage T U) → message_at contents' books' key slot ≡ Some m → is_numbered n m ≡ true
    → message_at contents books key slot ≡ Some m)
    → message_numbered n (kept_books contents' books') ≡ message_numbered n (kept_books contents books)
message_numbered-same {T} {U} contents contents' books books' next n numbered forth back =
    by (message_numbered n (kept_books contents books)) refl where
      by : (o : Option (KeptMessage T U)) → message_numbered n (kept_books contents books) ≡ o
          → message_numbered n (kept_books contents' books') ≡ o
      by None e =
          message_numbered-nothing contents' books' n (λ key slot m at. false_from_ne_true (is_numbered n m) (λ is.
          let no : is_numbered n m ≡ false =
          message_numbered-none contents books n e key slot m (back key slot m at is) in
          cc))
      by (Some m) e =
          let there = message_numbered-there contents books n m e in
          message_numbered-found contents' books' next numbered n there.0 there.1 m
          (forth there.0 there.1 m there.2 there.3) there.3

-- ---- loans and entries

module _ {T U : Type 0} (f : Fields T U) where
  -- what lies in a slot of the book at a key
  abbrev pub lies_at : (key slot : ℕ) → Option (KeptMessage T U)
  lies_at key slot = message_at f.contents f.books key slot

  -- what is read of the message with a number is read of one that lies in some slot
  message-there : {A : Type 0} (read : KeptMessage T U → Option A) (n : ℕ) (a : A)
      → option_and_then read (message_numbered n (kept_of f).books) ≡ Some a
      → (key slot : ℕ) × (m : KeptMessage T U) × (lies_at key slot ≡ Some m) × (is_numbered n m ≡ true)
      × (read m ≡ Some a)
  message-there {A} read n a e = by (message_numbered n (kept_of f).books) refl e where
    by : (o : Option (KeptMessage T U)) → message_numbered n (kept_of f).books ≡ o → option_and_then read o ≡ Some a
        → (key slot : ℕ) × (m : KeptMessage T U) × (lies_at key slot ≡ Some m) × (is_numbered n m ≡ true)
        × (read m ≡ Some a)
    by None is e = absurd cc
    by (Some m) is e = let there = message_numbered-there f.contents f.books n m is in
        (there.0, there.1, m, there.2, there.3, e)

  -- a loan of the state lies in some slot
  pub loan-there : (n : ℕ) (l : Loan T U) → (state_of (kept_of f)).loans n ≡ Some l
      → (key slot : ℕ) × (lies_at key slot ≡ Some (Lent_message n l))
  loan-there n l e = let at = message-there loan_in n l e in (at.0, at.1, at.3 ∙ ap Some (lent at.2 at.4 at.5)) where
    lent : (m : KeptMessage T U) → is_numbered n m ≡ true → loan_in m ≡ Some l → m ≡ Lent_message n l
    lent (Sent_message number entry) numbered is = absurd cc
    lent (Lent_message number k) numbered is =
        let same : k ≡ l = same_Some k l is in
        ap (λ (i : ℕ). Lent_message i k) (eqb-true number n numbered) ∙ ap (λ (i : Loan T U). Lent_message n i) same

  -- a loan in a slot is that of the state
  pub loan-found : IsNumbered f.next_message f.books → (key slot n : ℕ) (l : Loan T U)
      → lies_at key slot ≡ Some (Lent_message n l) → (state_of (kept_of f)).loans n ≡ Some l
  loan-found numbered key slot n l at =
      ap (option_and_then loan_in) (message_numbered-found f.contents f.books f.next_message numbered n key slot
      (Lent_message n l) at (eq-eqb n n refl))

  -- a kept entry lies in some slot
  pub entry-there : (n : ℕ) (entry : Entry T U) → entries_of (kept_of f) n ≡ Some entry
      → (key slot : ℕ) × (lies_at key slot ≡ Some (Sent_message n entry))
  entry-there n entry e = let at = message-there entry_in n entry e in
      (at.0, at.1, at.3 ∙ ap Some (sent at.2 at.4 at.5)) where
        sent : (m : KeptMessage T U) → is_numbered n m ≡ true → entry_in m ≡ Some entry → m ≡ Sent_message n entry
        sent (Lent_message number l) numbered is = absurd cc
        sent (Sent_message number k) numbered is =
            let same : k ≡ entry = same_Some k entry is in ap (λ (i : ℕ). Sent_message i k) (eqb-true number n numbered)
            ∙ ap (λ (i : Entry T U). Sent_message n i) same

  -- an entry in a slot is the one that is kept
  pub entry-found : IsNumbered f.next_message f.books → (key slot n : ℕ) (entry : Entry T U)
      → lies_at key slot ≡ Some (Sent_message n entry) → entries_of (kept_of f) n ≡ Some entry
  entry-found numbered key slot n entry at =
      ap (option_and_then entry_in) (message_numbered-found f.contents f.books f.next_message numbered n key slot
      (Sent_message n entry) at (eq-eqb n n refl))

module _ {T U : Type 0} (f g : Fields T U) (key slot k : ℕ) where
  -- only the slot changes, and only the number k lies or lay in it
  pub record ChangesSlot : Type 0 where
    pub others : (key' slot' : ℕ) → ((key' ≡ key) × (slot' ≡ slot) → ⊥) → lies_at g key' slot' ≡ lies_at f key' slot'
    pub before : (m : KeptMessage T U) → lies_at f key slot ≡ Some m → is_numbered k m ≡ true
    pub after : (m : KeptMessage T U) → lies_at g key slot ≡ Some m → is_numbered k m ≡ true

  -- then all other numbers are found as before
  pub message_numbered-others : IsNumbered g.next_message g.books → ChangesSlot → (n : ℕ) → n ≢ k
      → message_numbered n (kept_of g).books ≡ message_numbered n (kept_of f).books
  message_numbered-others numbered changes n away =
      message_numbered-same f.contents g.contents f.books g.books g.next_message n numbered
      (λ key' slot' m at is. changes.others key' slot'
      (λ here. clash m is (changes.before m (moved (lies_at f) key' slot' m here.0 here.1 at))) ∙ at)
      (λ key' slot' m at is. sym (changes.others key' slot'
      (λ here. clash m is (changes.after m (moved (lies_at g) key' slot' m here.0 here.1 at)))) ∙ at)
    where
      moved : (lies : (key slot : ℕ) → Option (KeptMessage T U)) (key' slot' : ℕ) (m : KeptMessage T U) → key' ≡ key
          → slot' ≡ slot → lies key' slot' ≡ Some m → lies key slot ≡ Some m
      moved lies key' slot' m e e' at = sym (ap (λ (i : ℕ). lies i slot) e) ∙ sym (ap (λ (j : ℕ). lies key' j) e') ∙ at

      clash : (m : KeptMessage T U) → is_numbered n m ≡ true → is_numbered k m ≡ true → ⊥
      clash (Lent_message number l) is is' = away (sym (eqb-true number n is) ∙ eqb-true number k is')
      clash (Sent_message number entry) is is' = away (sym (eqb-true number n is) ∙ eqb-true number k is')
