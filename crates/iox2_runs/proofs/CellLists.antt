-- Lists of cells: which indices are there, and one cell changed.
use Rattle.std.proofs.Common.{◌≡◌, ℕ, zero, suc, true, false, List, [], ◌∷◌, map, length, refl, sym, ap, ◌∙◌, ⊎_elim}
use Rattle.std.proofs.Common.{Option, None, Some, arith}
use Rattle.std.specs.Prelude.{slice_get, slice_set, nat_lt}
use Rattle.std.specs.Borrow.{Bor}
use Rattle.std.specs.List.{refill}
use Rattle.std.specs.Option.{option_copied}
use Rattle.std.specs.Slice.{IsItemAt}
use Rattle.std.proofs.lemmas.Bool.{lt-ltb, le-ltb}
use Rattle.std.proofs.lemmas.Option.{none-some, slice_get_cases, slice_get_past, slice_get_read, slice_get_within}
use Rattle.iox2_runs.proofs.TableCalls.{set_length}

module _ {A : Type 0} where
  -- where there is an element the index is below the length
  pub index_within : (xs : List A) (i : ℕ) (x : A) → slice_get xs i ≡ Some x → nat_lt i (length xs) ≡ true
  index_within xs i x at = lt-ltb i (length xs) (slice_get_within xs i x at)

  -- and where there is none it isn't
  pub index_past : (xs : List A) (i : ℕ) → slice_get xs i ≡ None → nat_lt i (length xs) ≡ false
  index_past xs i none =
      le-ltb i (length xs)
      (⊎_elim (λ there. absurd (none-some there.0 (sym none ∙ there.2))) (λ past. past.0) (slice_get_cases xs i).1)

  -- a list that is filled up with as many elements is those
  refilled : (xs ws : List A) → length ws ≡ length xs → refill (length xs) xs ws ≡ ws
  refilled [] [] e = refl
  refilled [] (w ∷ ws) e = absurd (omega arith)
  refilled (x ∷ xs) [] e = absurd (omega arith)
  refilled (x ∷ xs) (w ∷ ws) e = ap (λ zs. w ∷ zs) (refilled xs ws (omega arith))

  -- so with one of its elements changed
  pub refill_set : (xs : List A) (i : ℕ) (x : A) → refill (length xs) xs (slice_set xs i x) ≡ slice_set xs i x
  refill_set xs i x = refilled xs (slice_set xs i x) (set_length xs i x)

-- the cells of values of which one was changed
pub cells_set : {A : Type 0} (xs : List A) (i : ℕ) (x : A)
    → map Some (slice_set xs i x) ≡ slice_set (map Some xs) i (Some x)
cells_set [] i x = refl
cells_set (y ∷ xs) zero x = refl
cells_set (y ∷ xs) (suc i) x = ap (λ ys. Some y ∷ ys) (cells_set xs i x)

-- what a look at an index finds
pub item-read : {A : Type 0} (xs : List A) (i : ℕ) (found : Option (Bor A)) → IsItemAt xs i found
    → option_copied found ≡ slice_get xs i
item-read xs i None lookup = sym (slice_get_past xs i lookup.3)
item-read xs i (Some item) lookup = sym (slice_get_read xs (length xs) i item.now refl (lookup.3).0 lookup.1)
