-- Loans of contents that have more lists of cells than slots.
use Rattle.std.proofs.Common.{ℕ, ◌≤◌, zero, suc, Bool, true, false, cond, List, [], ◌∷◌, length, arith}
use Rattle.std.proofs.lemmas.List.Sums.{sum_by-cons}
use Rattle.iox2_contents.specs.SlotContents.{ContentState, SomeAt, has_cells_to_hand_out, open_count}

module _ {T U : Type 0} where
  -- no more slots have cells than there are slots
  pub open-within : (contents : List (ContentState T U)) → open_count contents ≤ length contents
  open-within [] = omega arith
  open-within (x ∷ xs) = let one = at-most (has_cells_to_hand_out x) in
      omega (
        arith,
        open-within xs,
        one,
        sum_by-cons (λ (c : ContentState T U). cond {A = ℕ} (has_cells_to_hand_out c) 1 0) x xs,
      )
    where
      at-most : (b : Bool) → cond {A = ℕ} b 1 0 ≤ 1
      at-most true = omega arith
      at-most false = omega arith

-- what is less holds too
pub some-weaker : {A : Type 0} (xs : List A) (slot : ℕ) (P Q : A → Type 0) → SomeAt xs slot P → ((x : A) → P x → Q x)
    → SomeAt xs slot Q
some-weaker [] slot P Q h less = absurd h
some-weaker (x ∷ xs) zero P Q h less = less x h
some-weaker (x ∷ xs) (suc slot) P Q h less = some-weaker xs slot P Q h less
