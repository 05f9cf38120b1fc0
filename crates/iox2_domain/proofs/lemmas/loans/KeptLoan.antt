-- What is kept where a loan is changed in its slot.
use Rattle.std.proofs.Common.{◌≡◌, ℕ, zero, suc, ◌+◌, List, [], ◌∷◌, map, get_or, slice_set, refl, ap, sym, subst, ◌∙◌}
use Rattle.std.proofs.Common.{arith}
use Rattle.std.proofs.lemmas.List.{set-get_or}
use Rattle.std.proofs.lemmas.Option.{get_or_from_slice_get}
use Rattle.std.specs.Prelude.{slice_get}
use Rattle.std.specs.declared.option.Option.{Option}
use Rattle.std.specs.declared.option.Option.TheVariants.{None, Some}
use Rattle.std.specs.Option.{option_map}
use Rattle.slab.specs.Slab.{Slab, get, with_value}
use Rattle.iox2_machine.specs.machine.Records.{Loan}
use Rattle.iox2_machine.specs.machine.State.{with_loan}
use Rattle.iox2_slots.specs.SlotBook.{Book}
use Rattle.iox2_contents.specs.SlotContents.{ContentState, with_changed}
use Rattle.iox2_slots.specs.declared.slots.mark.SlotMark.{SlotMark}
use Rattle.iox2_contents.proofs.SlotReads.{set_same}
use Rattle.iox2_domain.specs.Kept.{KeptBook, KeptMessage, state_of, loan_changed, with_loan_changed}
use Rattle.iox2_domain.specs.Fields.{Fields, kept_of, map_from, message_in, contents_at, contents_in, kept_book}
use Rattle.iox2_domain.specs.Invariant.{IsDomain}
use Rattle.iox2_domain.specs.LoanCalls.{with_content_in_slot}
use Rattle.iox2_domain.specs.LoanSlots.{LiesInSlot}
use Rattle.iox2_domain.specs.Reaches.{Reaches}
use Rattle.iox2_domain.proofs.lemmas.slots.Messages.{lies_at, message_at-slot}
use Rattle.iox2_domain.proofs.lemmas.loans.ChangedLoan.{ChangesTo, loan-parts, with_change, change-agrees}
use Rattle.iox2_domain.proofs.lemmas.loans.ChangedLoan.{change-reaches, each-slot}

-- what two functions make of a list, where the one makes what k makes of the other's
pub map_from-map : {A B : Type 0} (f' f : ℕ → A → B) (k : B → B) (start : ℕ) (xs : List A)
    → ((i : ℕ) (x : A) → slice_get xs i ≡ Some x → f' (start + i) x ≡ k (f (start + i) x))
    → map_from f' start xs ≡ map k (map_from f start xs)
map_from-map f' f k start [] each = refl
map_from-map f' f k start (x ∷ xs) each =
    let here : start + zero ≡ start = omega arith in
    let head = subst (λ (n : ℕ). f' n x ≡ k (f n x)) here (each zero x refl) in
    let tail = map_from-map f' f k (start + 1) xs (λ i y at.
    let next : start + suc i ≡ start + 1 + i = omega arith in
    subst (λ (n : ℕ). f' n y ≡ k (f n y)) next (each (suc i) y at)) in
    λ t. head t ∷ tail t

-- the same from index 0 on
pub map_from_zero-map : {A B : Type 0} (f' f : ℕ → A → B) (k : B → B) (xs : List A)
    → ((i : ℕ) (x : A) → slice_get xs i ≡ Some x → f' i x ≡ k (f i x))
    → map_from f' 0 xs ≡ map k (map_from f 0 xs)
map_from_zero-map f' f k xs each = map_from-map f' f k 0 xs
    (λ i x at. let e : i ≡ 0 + i = omega arith in subst (λ (n : ℕ). f' n x ≡ k (f n x)) e (each i x at))

-- a slot's mark, written again, stays
same-books : (books : Slab Book) (key slot : ℕ) (b : Book) (mark : SlotMark) → get books key ≡ Some b
    → slice_get b.marks slot ≡ Some mark
    → with_value books key (record b { marks = slice_set b.marks slot mark }) ≡ books
same-books books key slot b mark at marks =
    ap (λ (ms : List SlotMark). with_value books key (record b { marks = ms })) (set_same b.marks slot mark marks)
    ∙ ap (λ (o : Option Book). record books { slots = slice_set books.slots key o }) (sym at)
    ∙ ap (λ (xs : List (Option Book)). record books { slots = xs }) (set-get_or books.slots key None)

module _ {T U : Type 0} (f : Fields T U) (sound : IsDomain f) (p n key slot : ℕ) (at : LiesInSlot f p n key slot)
    (cs : List (ContentState T U)) (at_c : get_or f.contents key None ≡ Some cs) where
  module _ (mark : SlotMark) (marks : slice_get (at.book).marks slot ≡ Some mark)
      (g : ContentState T U → ContentState T U) (changed : Loan T U)
      (change : ChangesTo (at.book).publisher n (loan-parts f sound p n key slot at cs at_c).header
      (loan-parts f sound p n key slot at cs at_c).content
      (loan-parts f sound p n key slot at cs at_c).mark at.loan mark g changed) where
    abbrev after : Fields T U
    after = with_change f sound p n key slot at cs at_c mark g changed change

    -- the content alone changes
    pub content-is : after ≡ with_content_in_slot f key slot g
    content-is = λ t. record f {
      books = same-books f.books key slot at.book mark at.stands marks t;
      contents = slice_set f.contents key (Some (with_changed (contents_in (sym at_c t)) slot g));
    }

    pub content-agrees : IsDomain (with_content_in_slot f key slot g)
    content-agrees = subst IsDomain content-is (change-agrees f sound p n key slot at cs at_c mark g changed change)

    pub content-reaches : Reaches f (with_content_in_slot f key slot g)
        (with_loan (state_of (kept_of f)) n (Some changed))
    content-reaches =
        subst (λ (v : Fields T U). Reaches f v (with_loan (state_of (kept_of f)) n (Some changed))) content-is
        (change-reaches f sound p n key slot at cs at_c mark g changed change)

    module _ (h : Loan T U → Loan T U) (h-is : h at.loan ≡ changed) where
      abbrev change-message : Option (KeptMessage T U) → Option (KeptMessage T U)
      change-message o = option_map (loan_changed n h) o

      abbrev change-book : KeptBook T U → KeptBook T U
      change-book book = record book { slots = map change-message book.slots }

      -- what lies in a slot
      slot-kept : (k s : ℕ) (b : Book) → get f.books k ≡ Some b
          → message_in b (contents_at (with_content_in_slot f key slot g).contents k) s ≡ change-message
          (message_in b (contents_at f.contents k) s)
      slot-kept k s b there =
          sym (message_at-slot (with_content_in_slot f key slot g).contents f.books k s b there)
          ∙ ap (λ (v : Fields T U). lies_at v k s) (sym content-is)
          ∙ each-slot f sound p n key slot at cs at_c mark g changed change h h-is k s
          ∙ ap change-message (message_at-slot f.contents f.books k s b there)

      -- what is kept
      pub content-kept : kept_of (with_content_in_slot f key slot g) ≡ with_loan_changed n h (kept_of f)
      content-kept = λ t. record (kept_of f) { books = books t } where
        book : (k : ℕ) (o : Option Book) → slice_get (f.books).slots k ≡ Some o
            → kept_book (with_content_in_slot f key slot g).contents k o ≡ option_map change-book
            (kept_book f.contents k o)
        book k None there = refl
        book k (Some b) there =
            let stands : get f.books k ≡ Some b = get_or_from_slice_get (f.books).slots k (Some b) None there in
            ap (λ ms. Some (record { publisher = b.publisher; slots = ms }))
            (map_from_zero-map (λ s holders. message_in b (contents_at (with_content_in_slot f key slot g).contents k)
            s) (λ s holders. message_in b (contents_at f.contents k) s) change-message b.holders
            (λ s holders _. slot-kept k s b stands))

        books : map_from (kept_book (with_content_in_slot f key slot g).contents) 0 (f.books).slots ≡ map
            (option_map change-book) (map_from (kept_book f.contents) 0 (f.books).slots)
        books = map_from_zero-map (kept_book (with_content_in_slot f key slot g).contents) (kept_book f.contents)
            (option_map change-book) (f.books).slots book
