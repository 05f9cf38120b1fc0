-- Lines that are printed one after the other.
use Rattle.std.proofs.Common.{◌≡◌, ℕ, suc, ◌+◌, ◌<◌, List, [], ◌∷◌, ◌++◌, length, take, get_or, arith, ap, sym, ◌∙◌}
use Rattle.std.specs.List.{flat_map}
use Rattle.std.proofs.Math.Seq.{take-suc}
use Rattle.std.proofs.lemmas.Grind.{flat_map-append}
use Rattle.std.proofs.lemmas.List.{append-nil}

module _ {X A : Type 0} (f : X → List A) where
  -- the pieces up to one, and its own
  pub flat_map-next : (xs : List X) (i : ℕ) (x : X) → i < length xs → x ≡ get_or xs i x
      → flat_map f (take (i + 1) xs) ≡ flat_map f (take i xs) ++ f x
  flat_map-next xs i x lt at =
      let next : i + 1 ≡ suc i = omega arith in
      ap (λ n. flat_map f (take n xs)) next ∙ ap (flat_map f) (take-suc xs i x lt)
      ∙ flat_map-append f (take i xs) (get_or xs i x ∷ [])
      ∙ ap (λ y. flat_map f (take i xs) ++ (f y ++ [])) (sym at)
      ∙ ap (λ ys. flat_map f (take i xs) ++ ys) (append-nil (f x))
