-- A sum over a list in which each record counts no more than the one that stood there.
use Rattle.std.proofs.Common.{◌≡◌, ℕ, zero, suc, ◌≤◌, List, [], ◌∷◌, get_or, arith}
use Rattle.std.proofs.lemmas.List.Sums.{sum_by-cons}
use Rattle.std.specs.declared.option.Option.{Option}
use Rattle.std.specs.declared.option.Option.TheVariants.{None}
use Rattle.std.specs.List.{sum_by}

-- a list in which each record counts no more than the one that stood there has no larger sum
pub sum-fewer : {A : Type 0} (f : Option A → ℕ) → f None ≡ 0 → (xs ys : List (Option A))
    → ((k : ℕ) → f (get_or ys k None) ≤ f (get_or xs k None)) → sum_by f ys ≤ sum_by f xs
sum-fewer f nothing [] [] fewer = omega arith
sum-fewer f nothing [] (y ∷ ys) fewer = omega
    (arith, sum_by-cons f y ys, nothing, fewer zero, sum-fewer f nothing [] ys (λ k. past k (fewer (suc k)))) where
      past : (k : ℕ) → f (get_or (y ∷ ys) (suc k) None) ≤ f None → f (get_or ys k None) ≤ f (get_or [] k None)
      past zero le = le
      past (suc k) le = le
sum-fewer f nothing (x ∷ xs) [] fewer = omega (arith, nothing, sum_by-cons f x xs)
sum-fewer f nothing (x ∷ xs) (y ∷ ys) fewer =
    omega (arith, sum_by-cons f x xs, sum_by-cons f y ys, fewer zero, sum-fewer f nothing xs ys (λ k. fewer (suc k)))
