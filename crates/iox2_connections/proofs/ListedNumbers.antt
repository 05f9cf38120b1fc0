-- A number in a list.
use Rattle.std.proofs.Common.{◌≡◌, ℕ, zero, suc, ◌<◌, List, [], ◌∷◌, true, length, get_or, arith, eqb, eq-eqb, Contains}
use Rattle.std.proofs.lemmas.Bool.{or_left, or_right}
use Rattle.iox2_machine.specs.machine.Numbers.{contains}

-- an element of a list passes the test for it
pub contains-from : (xs : List ℕ) (n : ℕ) → Contains xs n → contains xs n ≡ true
contains-from [] n h = absurd (let below : h.0 < length {A = ℕ} [] = h.1 in omega arith)
contains-from (x ∷ xs) n h = by h.0 h.1 h.2 (λ k below at. contains-from xs n (k, below, at)) where
  by : (k : ℕ) → k < length (x ∷ xs) → get_or (x ∷ xs) k n ≡ n
      → ((i : ℕ) → i < length xs → get_or xs i n ≡ n → contains xs n ≡ true) → contains (x ∷ xs) n ≡ true
  by zero below at later = or_left (eqb x n) (contains xs n) (eq-eqb x n at)
  by (suc k) below at later = or_right (eqb x n) (contains xs n) (later k (omega arith) at)
