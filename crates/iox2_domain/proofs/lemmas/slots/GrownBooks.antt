-- A publisher's book gets more slots behind its own: nothing of what is kept changes.
use Rattle.std.proofs.Common.{◌≡◌, ◌≢◌, ℕ, zero, suc, ◌+◌, ◌<◌, ◌&&◌, List, [], ◌∷◌, ◌++◌, length, replicate, Bool}
use Rattle.std.proofs.Common.{true, false, cond, eqb, get_or, slice_set, refl, ap, sym, subst, ◌∙◌, inl, inr, arith}
use Rattle.std.proofs.lemmas.Bool.{cases_eq, cases_lt}
use Rattle.std.proofs.lemmas.List.{length-append, length-replicate}
use Rattle.std.specs.Prelude.{nat_lt, slice_get, slice_index}
use Rattle.std.specs.declared.option.Option.{Option}
use Rattle.std.specs.declared.option.Option.TheVariants.{None, Some}
use Rattle.std.specs.Option.{option_map_or, option_and_then}
use Rattle.circular_buffer.proofs.Places.{slice_get-append_left}
use Rattle.slab.specs.Slab.{Slab, get, with_value}
use Rattle.iox2_slots.specs.SlotBook.{Book, IsAligned, holders_at, with_more_slots}
use Rattle.iox2_contents.specs.SlotContents.{ContentState}
use Rattle.iox2_connections.specs.LookUp.{look_up, IsOnly}
use Rattle.iox2_connections.proofs.LookUps.{look_up-found}
use Rattle.iox2_domain.specs.Kept.{state_of, entries_of, entry_in, loan_in, message_numbered}
use Rattle.iox2_domain.specs.Fields.{Fields, kept_of, is_book_of, number_in_slot, message_in, message_of}
use Rattle.iox2_domain.specs.Invariant.{IsDomain, HasNumber, IsNumbered, HasLoneLoans, holders_of, is_lent, is_loan_in}
use Rattle.iox2_domain.proofs.lemmas.containers.SetRecords.{set-here, set-others, IsOnly-set, look_up-set}
use Rattle.iox2_domain.proofs.lemmas.slots.LoneLoans.{lone-changed}
use Rattle.iox2_domain.proofs.lemmas.slots.Messages.{lies_at, message_in-free, message_in-from, message_in-in_use}
use Rattle.iox2_domain.proofs.lemmas.slots.Messages.{message_numbered-same, in_use_within}

-- ---- one book

zeros : (n k : ℕ) → get_or {A = ℕ} (replicate n 0) k 0 ≡ 0
zeros zero zero = refl
zeros zero (suc k) = refl
zeros (suc n) zero = refl
zeros (suc n) (suc k) = zeros n k

past : (k : ℕ) → get_or {A = ℕ} [] k 0 ≡ 0
past zero = refl
past (suc k) = refl

-- Zeros behind a list change nothing that is read in it.
pub with_zeros : (xs : List ℕ) (n k : ℕ) → get_or (xs ++ replicate n 0) k 0 ≡ get_or xs k 0
with_zeros [] n k = zeros n k ∙ sym (past k)
with_zeros (x ∷ xs) n zero = refl
with_zeros (x ∷ xs) n (suc k) = with_zeros xs n k

module _ (b : Book) (more : ℕ) where
  abbrev grown : Book
  grown = with_more_slots more b

  pub grown-holders : (slot : ℕ) → holders_at grown slot ≡ holders_at b slot
  grown-holders slot = with_zeros b.holders more slot

  pub grown-numbers : (slot : ℕ) → slice_index grown.numbers slot ≡ slice_index b.numbers slot
  grown-numbers slot = with_zeros b.numbers more slot

  pub grown-length : length grown.holders ≡ length b.holders + more
  grown-length = length-append b.holders (replicate more 0) ∙ ap (λ n. length b.holders + n) (length-replicate more _)

  pub grown-aligned : IsAligned b → IsAligned grown
  grown-aligned aligned = record {
    numbers = length-append b.numbers (replicate more 0) ∙ ap (λ n. length b.numbers + n) (length-replicate more _)
        ∙ ap (λ n. n + more) aligned.numbers ∙ sym grown-length;
    headers = length-append b.headers _ ∙ ap (λ n. length b.headers + n) (length-replicate more _)
        ∙ ap (λ n. n + more) aligned.headers ∙ sym grown-length;
    marks = length-append b.marks _ ∙ ap (λ n. length b.marks + n) (length-replicate more _)
        ∙ ap (λ n. n + more) aligned.marks ∙ sym grown-length;
  }

  module _ (aligned : IsAligned b) (slot : ℕ) (in_use : 0 < holders_at b slot) {T U : Type 0}
      (contents : List (ContentState T U)) where
    low : slot < length b.holders
    low = in_use_within b contents slot in_use

    pub grown-marks : slice_get grown.marks slot ≡ slice_get b.marks slot
    grown-marks = slice_get-append_left b.marks _ slot (omega (arith, low, aligned.marks))

    pub grown-headers : slice_get grown.headers slot ≡ slice_get b.headers slot
    grown-headers = slice_get-append_left b.headers _ slot (omega (arith, low, aligned.headers))

  -- what lies in a slot lies there still
  pub grown-message : IsAligned b → {T U : Type 0} (contents contents' : List (ContentState T U))
      → length contents ≡ length b.holders
      → ((slot : ℕ) → 0 < holders_at b slot → slice_get contents' slot ≡ slice_get contents slot)
      → (slot : ℕ) → message_in grown contents' slot ≡ message_in b contents slot
  grown-message aligned contents contents' shaped kept slot = elim (cases_lt 0 (holders_at b slot)) [
    | inl in_use ↦
        let m = message_in-in_use b contents slot aligned shaped in_use in
        message_in-from grown contents' slot m.0 (record {
          header = m.1.header;
          content = m.1.content;
          mark = m.1.mark;
          in_use = let e = grown-holders slot in omega (arith, e, in_use);
          headers = grown-headers aligned slot in_use contents ∙ m.1.headers;
          contains = kept slot in_use ∙ m.1.contains;
          marks = grown-marks aligned slot in_use contents ∙ m.1.marks;
          is = m.1.is
              ∙ ap (λ (n : ℕ). message_of b.publisher n m.1.header m.1.content m.1.mark) (sym (grown-numbers slot));
        }) ∙ sym (message_in-from b contents slot m.0 m.1)
    | inr none ↦
        let free : holders_at b slot ≡ 0 = omega (arith, none) in
        message_in-free grown contents' slot (grown-holders slot ∙ free) ∙ sym (message_in-free b contents slot free)
  ]

-- ---- the fields

module _ {T U : Type 0} (f : Fields T U) (sound : IsDomain f) (key : ℕ) (b : Book) (at : get f.books key ≡ Some b)
    (more : ℕ)
    (contents grown_contents : List (ContentState T U)) (had : get_or f.contents key None ≡ Some contents)
    (shaped : length contents ≡ length b.holders)
    (kept : (slot : ℕ) → 0 < holders_at b slot → slice_get grown_contents slot ≡ slice_get contents slot) where
  -- the book with more slots
  abbrev pub more_slots : Book
  more_slots = with_more_slots more b

  abbrev pub grown_books : Slab Book
  grown_books = with_value f.books key more_slots

  abbrev pub with_grown_book : Fields T U
  with_grown_book = record f { books = grown_books; contents = slice_set f.contents key (Some grown_contents) }

  aligned : IsAligned b
  aligned = (sound.parts.books.books key b at).aligned

  pub grown-here : get grown_books key ≡ Some more_slots
  grown-here = set-here f.books.slots key b more_slots at

  pub grown-others : (k : ℕ) → k ≢ key → get grown_books k ≡ get f.books k
  grown-others k away = set-others f.books.slots key b more_slots at k away

  pub contents-here : get_or (with_grown_book).contents key None ≡ Some grown_contents
  contents-here = set-here f.contents key contents grown_contents had

  pub contents-others : (k : ℕ) → k ≢ key → get_or (with_grown_book).contents k None ≡ get_or f.contents k None
  contents-others k away = set-others f.contents key contents grown_contents had k away

  pub grown-one_each : (p : ℕ) → IsOnly (is_book_of p) grown_books.slots
  grown-one_each p = IsOnly-set f.books.slots key b more_slots at (is_book_of p) refl (sound.parts.books.one_each p)

  -- each book is there still, with its publisher
  pub grown-after : (k : ℕ) (e : Book) → get f.books k ≡ Some e
      → (d : Book) × (get grown_books k ≡ Some d) × (d.publisher ≡ e.publisher)
  grown-after k e there = elim (cases_eq k key) [
    | inl here ↦
        let is : Some b ≡ Some e = sym at ∙ sym (ap (get f.books) here) ∙ there in (
          more_slots,
          ap (get grown_books) here ∙ grown-here,
          ap (λ (o : Book). o.publisher) (let same : b ≡ e = cc in same),
        )
    | inr away ↦ (e, grown-others k away ∙ there, refl)
  ]

  -- what is read of a publisher's book is read as before, where the book reads so
  read-same : {A : Type 0} (read : Book → A) (none : A) → read more_slots ≡ read b → (p : ℕ)
      → option_map_or read (look_up (is_book_of p) grown_books.slots) none ≡ option_map_or read
      (look_up (is_book_of p) f.books.slots) none
  read-same {A} read none same p = ap (λ o. option_map_or read o none)
      (look_up-set f.books.slots key b more_slots at (is_book_of p) refl (sound.parts.books.one_each p))
      ∙ by (eqb b.publisher p) refl where
        by : (t : Bool) → eqb b.publisher p ≡ t
            → option_map_or read (cond t (Some more_slots) (look_up (is_book_of p) f.books.slots)) none
            ≡ option_map_or read (look_up (is_book_of p) f.books.slots) none
        by false e = refl
        by true e = same ∙ sym (ap (λ o. option_map_or read o none)
            (look_up-found (is_book_of p) f.books.slots key b (sound.parts.books.one_each p) at e))

  pub numbers-same : (p slot : ℕ) → number_in_slot grown_books p slot ≡ number_in_slot f.books p slot
  numbers-same p slot = read-same (λ (c : Book). slice_index c.numbers slot) 0 (grown-numbers b more slot) p

  pub holders-same : (p slot : ℕ) → holders_of grown_books p slot ≡ holders_of f.books p slot
  holders-same p slot = read-same (λ (c : Book). holders_at c slot) 0 (grown-holders b more slot) p

  -- the same slots are loans
  loan-same : (slot : ℕ) → is_loan_in more_slots slot ≡ is_loan_in b slot
  loan-same slot = elim (cases_lt 0 (holders_at b slot)) [
    | inl in_use ↦ λ t. nat_lt 0 (grown-holders b more slot t) && option_map_or is_lent
        (grown-marks b more aligned slot in_use contents t) false
    | inr none ↦
        let free : holders_at b slot ≡ 0 = omega (arith, none) in
        ap (λ (n : ℕ). nat_lt 0 n && option_map_or is_lent (slice_get more_slots.marks slot) false)
        (grown-holders b more slot ∙ free)
        ∙ sym (ap (λ (n : ℕ). nat_lt 0 n && option_map_or is_lent (slice_get b.marks slot) false) free)
  ]

  -- one if the slot of the publisher p is a loan
  abbrev pub one_if_loan : Slab Book → (p slot : ℕ) → ℕ
  one_if_loan w p slot = option_map_or (λ c. cond (is_loan_in c slot) 1 0) (look_up (is_book_of p) w.slots) 0

  pub loans-same : (p slot : ℕ) → one_if_loan grown_books p slot ≡ one_if_loan f.books p slot
  loans-same p slot =
      read-same (λ (c : Book). cond {A = ℕ} (is_loan_in c slot) 1 0) 0 (ap (λ t. cond {A = ℕ} t 1 0) (loan-same slot)) p

  -- each loan has one holder
  pub grown-lone : HasLoneLoans grown_books
  grown-lone = lone-changed f.books key b more_slots at sound.lone
      (λ slot before is. grown-holders b more slot ∙ before (sym (loan-same slot) ∙ is))

  -- ---- messages

  -- in each slot lies what lay there
  pub lies-same : (k slot : ℕ) → lies_at with_grown_book k slot ≡ lies_at f k slot
  lies-same k slot = elim (cases_eq k key) [
    | inl here ↦
        ap (λ (j : ℕ). lies_at with_grown_book j slot) here ∙ in_book ∙ sym (ap (λ (j : ℕ). lies_at f j slot) here)
    | inr away ↦
        λ t. option_and_then (λ c. message_in c (contents_of (contents-others k away t)) slot) (grown-others k away t)
  ]
    where
      contents_of : Option (List (ContentState T U)) → List (ContentState T U)
      contents_of o = elim o [ None ↦ [] | Some cs ↦ cs ]

      in_book : lies_at with_grown_book key slot ≡ lies_at f key slot
      in_book =
          ap (option_and_then (λ c. message_in c (contents_of (get_or (with_grown_book).contents key None)) slot))
          grown-here
          ∙ ap (λ o. message_in more_slots (contents_of o) slot) contents-here
          ∙ grown-message b more aligned contents grown_contents shaped kept slot
          ∙ sym (ap (λ o. message_in b (contents_of o) slot) had)
          ∙ sym (ap (option_and_then (λ c. message_in c (contents_of (get_or f.contents key None)) slot)) at)

  -- a slot in use was so before, with its number
  pub grown-number : (k slot n : ℕ) → HasNumber grown_books k slot n → HasNumber f.books k slot n
  grown-number k slot n has = elim (cases_eq k key) [
    | inl here ↦
        let found : Some more_slots ≡ Some has.book = sym grown-here ∙ sym (ap (get grown_books) here) ∙ has.stands in
        let is : more_slots ≡ has.book = cc in
        record {
          book = b;
          stands = ap (get f.books) here ∙ at;
          in_use = let e = grown-holders b more slot in let some : 0 < holders_at more_slots slot = subst
              (λ (c : Book). 0 < holders_at c slot) (sym is) has.in_use in omega (arith, e, some);
          number = sym (grown-numbers b more slot) ∙ ap (λ (c : Book). slice_index c.numbers slot) is ∙ has.number;
        }
    | inr away ↦ record {
      book = has.book;
      stands = sym (grown-others k away) ∙ has.stands;
      in_use = has.in_use;
      number = has.number;
    }
  ]

  pub grown-numbered : IsNumbered f.next_message grown_books
  grown-numbered = record {
    one = λ k k' slot slot' n here there.
        sound.parts.numbered.one k k' slot slot' n (grown-number k slot n here) (grown-number k' slot' n there);
    below = λ k slot n here. sound.parts.numbered.below k slot n (grown-number k slot n here);
  }

  found-same : (n : ℕ) → message_numbered n (kept_of with_grown_book).books ≡ message_numbered n (kept_of f).books
  found-same n =
      message_numbered-same f.contents (with_grown_book).contents f.books grown_books f.next_message n grown-numbered
      (λ k slot m there _. lies-same k slot ∙ there) (λ k slot m there _. sym (lies-same k slot) ∙ there)

  pub grown-loans : (n : ℕ) → (state_of (kept_of with_grown_book)).loans n ≡ (state_of (kept_of f)).loans n
  grown-loans n = ap (option_and_then loan_in) (found-same n)

  pub grown-entries : (n : ℕ) → entries_of (kept_of with_grown_book) n ≡ entries_of (kept_of f) n
  grown-entries n = ap (option_and_then entry_in) (found-same n)
