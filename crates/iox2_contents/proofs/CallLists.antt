-- The answers of calls for one index after the other.
use Rattle.std.proofs.Common.{◌≡◌, ℕ, ◌+◌, suc, List, [], ◌∷◌, ◌++◌, length, ap, ◌∙◌, arith}
use Rattle.std.specs.List.{enumerate_from}

pub enumerate_from-push : {X : Type 0} (n : ℕ) (xs : List X) (y : X)
    → enumerate_from n (xs ++ y ∷ []) ≡ enumerate_from n xs ++ (n + length xs, y) ∷ []
enumerate_from-push n [] y = ap (λ k. (k, y) ∷ []) (omega arith)
enumerate_from-push n (x ∷ xs) y =
    let step : (n + 1) + length xs ≡ n + suc (length xs) = omega arith in
    ap (λ t. (n, x) ∷ t) (enumerate_from-push (n + 1) xs y ∙ ap (λ k. enumerate_from (n + 1) xs ++ (k, y) ∷ []) step)
