-- What lies in a slot that nobody holds is written over: nothing of what is kept changes.
use Rattle.std.proofs.Common.{◌≡◌, ℕ, zero, suc, ◌+◌, List, [], ◌∷◌, get_or, refl, ap, sym, subst, ◌∙◌, inl, inr, arith}
use Rattle.std.proofs.lemmas.Bool.{cases_eq}
use Rattle.std.proofs.lemmas.Option.{get_or_from_slice_get}
use Rattle.std.specs.Prelude.{cond, nat_lt, slice_get, slice_index}
use Rattle.std.specs.declared.option.Option.{Option}
use Rattle.std.specs.declared.option.Option.TheVariants.{None, Some}
use Rattle.std.specs.Option.{option_map, option_and_then}
use Rattle.slab.specs.Slab.{get}
use Rattle.iox2_slots.specs.SlotBook.{Book, holders_at}
use Rattle.iox2_contents.specs.SlotContents.{ContentState, with_changed}
use Rattle.iox2_domain.specs.Kept.{KeptBook, KeptMessage}
use Rattle.iox2_domain.specs.Fields.{Fields, kept_of, kept_book, map_from, message_in, message_of, contents_at}
use Rattle.iox2_domain.specs.Fields.{contents_in}
use Rattle.iox2_domain.proofs.lemmas.loans.Taken.{with_changed-others}
use Rattle.iox2_domain.proofs.lemmas.slots.Messages.{message_in-free}
use Rattle.iox2_domain.proofs.lemmas.slots.RewrittenContents.{rewritten, rewritten-here, rewritten-others}

-- two functions that make the same of each element
map_from-alike : {A B : Type 0} (f' f : ℕ → A → B) (start : ℕ) (xs : List A)
    → ((i : ℕ) (x : A) → slice_get xs i ≡ Some x → f' (start + i) x ≡ f (start + i) x)
    → map_from f' start xs ≡ map_from f start xs
map_from-alike f' f start [] each = refl
map_from-alike f' f start (x ∷ xs) each =
    let here : start + zero ≡ start = omega arith in
    let head = subst (λ (n : ℕ). f' n x ≡ f n x) here (each zero x refl) in
    let tail = map_from-alike f' f (start + 1) xs (λ i y at.
    let next : start + suc i ≡ start + 1 + i = omega arith in
    subst (λ (n : ℕ). f' n y ≡ f n y) next (each (suc i) y at)) in
    λ t. head t ∷ tail t

pub map_from_zero-alike : {A B : Type 0} (f' f : ℕ → A → B) (xs : List A)
    → ((i : ℕ) (x : A) → slice_get xs i ≡ Some x → f' i x ≡ f i x) → map_from f' 0 xs ≡ map_from f 0 xs
map_from_zero-alike f' f xs each = map_from-alike f' f 0 xs
    (λ i x at. let e : i ≡ 0 + i = omega arith in subst (λ (n : ℕ). f' n x ≡ f n x) e (each i x at))

module _ {T U : Type 0} (f : Fields T U) (key : ℕ) (cs : List (ContentState T U))
    (at_c : get_or f.contents key None ≡ Some cs) (slot : ℕ) (g : ContentState T U → ContentState T U)
    (b : Book) (at_b : get f.books key ≡ Some b) (free : holders_at b slot ≡ 0) where
  -- the fields afterwards
  abbrev pub with_rewritten : Fields T U
  with_rewritten = record f { contents = rewritten f key cs at_c slot g }

  abbrev changed : List (ContentState T U)
  changed = with_changed cs slot g

  -- in each slot of the book lies what lay there
  in_book : (s : ℕ) → message_in b changed s ≡ message_in b cs s
  in_book s = elim (cases_eq s slot) [
    | inl here ↦
        let none : holders_at b s ≡ 0 = ap (holders_at b) here ∙ free in
        message_in-free b changed s none ∙ sym (message_in-free b cs s none)
    | inr away ↦ λ t. cond (nat_lt 0 (holders_at b s)) (option_and_then (λ header. option_and_then (λ content.
        option_map (message_of b.publisher (slice_index b.numbers s) header content) (slice_get b.marks s))
        (with_changed-others cs slot g s away t)) (slice_get b.headers s)) None
  ]

  -- and in each of any book
  pub rewritten-lies : (k s : ℕ) (c : Book) → get f.books k ≡ Some c
      → message_in c (contents_at with_rewritten.contents k) s ≡ message_in c (contents_at f.contents k) s
  rewritten-lies k s c there = elim (cases_eq k key) [
    | inl here ↦
        let both : Some b ≡ Some c = sym at_b ∙ sym (ap (get f.books) here) ∙ there in
        let is : b ≡ c = cc in
        ap (λ (j : ℕ). message_in c (contents_at with_rewritten.contents j) s) here
        ∙ ap (λ o. message_in c (contents_in o) s) (rewritten-here f key cs at_c slot g)
        ∙ subst (λ (e : Book). message_in e changed s ≡ message_in e cs s) is (in_book s)
        ∙ sym (ap (λ o. message_in c (contents_in o) s) at_c)
        ∙ sym (ap (λ (j : ℕ). message_in c (contents_at f.contents j) s) here)
    | inr away ↦ ap (λ o. message_in c (contents_in o) s) (rewritten-others f key cs at_c slot g k away)
  ]

  -- so the same is kept
  pub rewritten-kept : kept_of with_rewritten ≡ kept_of f
  rewritten-kept = λ t. record (kept_of f) { books = books t } where
    book : (k : ℕ) (o : Option Book) → slice_get (f.books).slots k ≡ Some o
        → kept_book with_rewritten.contents k o ≡ kept_book f.contents k o
    book k None there = refl
    book k (Some c) there =
        let stands : get f.books k ≡ Some c = get_or_from_slice_get (f.books).slots k (Some c) None there in
        ap (λ (ms : List (Option (KeptMessage T U))).
        let kept : Option (KeptBook T U) = Some (record { publisher = c.publisher; slots = ms }) in kept)
        (map_from_zero-alike (λ s holders. message_in c (contents_at with_rewritten.contents k) s)
        (λ s holders. message_in c (contents_at f.contents k) s) c.holders
        (λ s holders _. rewritten-lies k s c stands))

    books : map_from (kept_book with_rewritten.contents) 0 (f.books).slots ≡ map_from (kept_book f.contents) 0
        (f.books).slots
    books = map_from_zero-alike (kept_book with_rewritten.contents) (kept_book f.contents) (f.books).slots book
