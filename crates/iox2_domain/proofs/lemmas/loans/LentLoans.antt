-- What a domain's fields come to where a reference into a loan is handed out, whatever is left behind it.
use Rattle.std.proofs.Common.{◌≡◌, ℕ, zero, suc, List, [], ◌∷◌, ◌++◌, map, length, take, drop, true, false, get_or}
use Rattle.std.proofs.Common.{slice_set, refl, ap, sym, ◌∙◌}
use Rattle.std.proofs.lemmas.List.{length-set, length-map}
use Rattle.std.specs.List.{refill, length_refill}
use Rattle.std.specs.Prelude.{slice_get}
use Rattle.std.specs.declared.option.Option.{Option}
use Rattle.std.specs.declared.option.Option.TheVariants.{None, Some}
use Rattle.iox2_machine.specs.machine.Records.{Loan}
use Rattle.iox2_machine.specs.machine.State.{with_loan}
use Rattle.iox2_contents.specs.SlotContents.{ContentState, with_first_cell, with_cells, with_first_value, with_values}
use Rattle.iox2_contents.specs.SlotContents.{with_user_header}
use Rattle.iox2_slots.specs.declared.slots.mark.SlotMark.{SlotMark}
use Rattle.iox2_slots.specs.declared.slots.mark.SlotMark.TheVariants.{Unwritten, Written}
use Rattle.iox2_domain.specs.Kept.{Lent_message, state_of, with_loan_changed}
use Rattle.iox2_domain.specs.Fields.{Fields, kept_of}
use Rattle.iox2_domain.specs.Invariant.{IsDomain}
use Rattle.iox2_domain.specs.LoanCalls.{HasContents, HoldsUnwritten, HoldsWritten, with_content_in_slot}
use Rattle.iox2_domain.specs.LoanCalls.{first_cell_changed, cells_changed, user_header_changed}
use Rattle.iox2_domain.specs.LoanSlots.{LiesInSlot}
use Rattle.iox2_domain.specs.Reaches.{Reaches}
use Rattle.iox2_domain.proofs.lemmas.slots.BookContents.{contents-there}
use Rattle.iox2_domain.proofs.lemmas.slots.Messages.{LiesIn}
use Rattle.iox2_domain.proofs.lemmas.loans.ChangedLoan.{ChangesTo, loan-parts, unwritten-mark, written-mark}
use Rattle.iox2_domain.proofs.lemmas.loans.KeptLoan.{content-agrees, content-reaches, content-kept}
use Rattle.iox2_domain.proofs.lemmas.loans.LoanCalls.{is-unwritten, is-written}
use Rattle.iox2_domain.proofs.lemmas.loans.LoanChanges.{cells-changed, values-changed, header-changed}

-- what is known of some values after a write through a list of them
map-first : {A B : Type 0} (f : A → B) (xs : List A) (x : A) → map f (slice_set xs 0 x) ≡ slice_set (map f xs) 0 (f x)
map-first f [] x = refl
map-first f (y ∷ ys) x = refl

map-take : {A B : Type 0} (f : A → B) (n : ℕ) (xs : List A) → map f (take n xs) ≡ take n (map f xs)
map-take f zero xs = refl
map-take f (suc n) [] = refl
map-take f (suc n) (x ∷ xs) = ap (λ ys. f x ∷ ys) (map-take f n xs)

map-drop : {A B : Type 0} (f : A → B) (n : ℕ) (xs : List A) → map f (drop n xs) ≡ drop n (map f xs)
map-drop f zero xs = refl
map-drop f (suc n) [] = refl
map-drop f (suc n) (x ∷ xs) = map-drop f n xs

map-join : {A B : Type 0} (f : A → B) (xs ys : List A) → map f (xs ++ ys) ≡ map f xs ++ map f ys
map-join f [] ys = refl
map-join f (x ∷ xs) ys = ap (λ zs. f x ∷ zs) (map-join f xs ys)

map-refill : {A B : Type 0} (f : A → B) (old new : List A)
    → map f (refill (length old) old new) ≡ refill (length (map f old)) (map f old) (map f new)
map-refill f old new =
    map-take f (length old) (new ++ drop (length new) old)
    ∙ ap (take (length old))
    (map-join f new (drop (length new) old) ∙ ap (λ ys. map f new ++ ys) (map-drop f (length new) old))
    ∙ ap (λ k. take k (map f new ++ drop (length new) (map f old))) (sym (length-map old f))
    ∙ ap (λ k. take (length (map f old)) (map f new ++ drop k (map f old))) (sym (length-map new f))

length-refill : {A : Type 0} (old new : List A) → length (refill (length old) old new) ≡ length old
length-refill old new = sym (length_refill (length old) old new refl)

-- The loan with this number became what h makes of it, and nothing else changed.
pub record IsLent {T U : Type 0} (f new : Fields T U) (n : ℕ) (loan : Loan T U) (h : Loan T U → Loan T U) : Type 0 where
  pub agrees : IsDomain new
  pub reaches : Reaches f new (with_loan (state_of (kept_of f)) n (Some (h loan)))
  pub kept : kept_of new ≡ with_loan_changed n h (kept_of f)

module _ {T U : Type 0} (f : Fields T U) (sound : IsDomain f) (p n key slot : ℕ) (at : LiesInSlot f p n key slot) where
  has : HasContents f key
  has = contents-there f sound.parts key at.book at.stands

  abbrev cs : List (ContentState T U)
  cs = has.0

  at_c : get_or f.contents key None ≡ Some cs
  at_c = has.1

  abbrev parts : LiesIn at.book cs slot (Lent_message n at.loan)
  parts = loan-parts f sound p n key slot at cs at_c

  lent : (mark : SlotMark) → slice_get (at.book).marks slot ≡ Some mark
      → (g : ContentState T U → ContentState T U) (h : Loan T U → Loan T U)
      → ChangesTo (at.book).publisher n parts.header parts.content parts.mark at.loan mark g (h at.loan)
      → IsLent f (with_content_in_slot f key slot g) n at.loan h
  lent mark marks g h change = record {
    agrees = content-agrees f sound p n key slot at cs at_c mark marks g (h at.loan) change;
    reaches = content-reaches f sound p n key slot at cs at_c mark marks g (h at.loan) change;
    kept = content-kept f sound p n key slot at cs at_c mark marks g (h at.loan) change h refl;
  }

  -- the user header was handed out
  pub header-lent : (user_header : U) → IsLent f
      (with_content_in_slot f key slot (with_user_header user_header)) n at.loan (user_header_changed user_header)
  header-lent user_header =
      lent parts.mark parts.marks (with_user_header user_header) (user_header_changed user_header)
      (header-changed at.book cs slot n at.loan parts
      (sound.well_formed.loans n at.loan at.is_out).complete user_header)

  module _ (out : HoldsUnwritten (state_of (kept_of f)) p n) where
    unwritten : (at.loan).is_written ≡ false
    unwritten = is-unwritten f sound p n key slot at out

    marks-unwritten : slice_get (at.book).marks slot ≡ Some Unwritten
    marks-unwritten = parts.marks ∙ ap Some (unwritten-mark at.book cs slot n at.loan parts unwritten)

    -- the first cell was handed out
    pub cell-lent : (cell : Option T)
        → IsLent f (with_content_in_slot f key slot (with_first_cell cell)) n at.loan (first_cell_changed cell)
    cell-lent cell =
        lent Unwritten marks-unwritten (with_first_cell cell) (first_cell_changed cell)
        (cells-changed at.book cs slot n at.loan parts unwritten (λ xs. slice_set xs 0 cell)
        (λ xs. length-set xs 0 cell))

    -- the cells were handed out
    pub cells-lent : (cells : List (Option T))
        → IsLent f (with_content_in_slot f key slot (with_cells cells)) n at.loan (cells_changed cells)
    cells-lent cells =
        lent Unwritten marks-unwritten (with_cells cells) (cells_changed cells)
        (cells-changed at.book cs slot n at.loan parts unwritten (λ xs. refill (length xs) xs cells)
        (λ xs. length-refill xs cells))

  module _ (out : HoldsWritten (state_of (kept_of f)) p n) where
    written : (at.loan).is_written ≡ true
    written = is-written f sound p n key slot at out

    marks-written : slice_get (at.book).marks slot ≡ Some Written
    marks-written = parts.marks ∙ ap Some (written-mark at.book cs slot n at.loan parts written)

    -- the first value was handed out
    pub value-lent : (value : T) → IsLent f (with_content_in_slot f key slot (with_first_value value)) n at.loan
        (first_cell_changed (Some value))
    value-lent value =
        lent Written marks-written (with_first_value value) (first_cell_changed (Some value))
        (values-changed at.book cs slot n at.loan parts written (λ xs. slice_set xs 0 value)
        (λ xs. slice_set xs 0 (Some value)) (λ xs. length-set xs 0 value) (λ xs. map-first Some xs value))

    -- the values were handed out
    pub values-lent : (values : List T)
        → IsLent f (with_content_in_slot f key slot (with_values values)) n at.loan (cells_changed (map Some values))
    values-lent values =
        lent Written marks-written (with_values values) (cells_changed (map Some values))
        (values-changed at.book cs slot n at.loan parts written (λ xs. refill (length xs) xs values)
        (λ xs. refill (length xs) xs (map Some values)) (λ xs. length-refill xs values)
        (λ xs. map-refill Some xs values))
