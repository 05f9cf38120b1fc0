-- What is read and written in a list of records, seen as a list of what each of them has.
use Rattle.std.proofs.Common.{◌≡◌, ℕ, ◌<◌, List, [], length, map, slice_index, slice_set, replicate, zero, suc, ◌∷◌}
use Rattle.std.proofs.Common.{Some, get_or, refl, sym, ap, ◌∙◌, arith}
use Rattle.std.proofs.Math.Seq.{map-set_same}
use Rattle.std.proofs.lemmas.List.{get_or-map, length-map}
use Rattle.std.proofs.lemmas.Option.{slice_get-map, slice_get_read}
use Rattle.std.specs.Prelude.{slice_get}

module _ {A : Type 0} where
  pub within_records : {B : Type 0} (f : A → B) (xs : List A) (i : ℕ) → i < length (map f xs) → i < length xs
  within_records f xs i h = rw (length-map xs f) at h

  -- What is read of the record at an index.
  pub field_read : {B : Type 0} (f : A → B) (xs : List A) (i : ℕ) (x : A) → i < length xs → x ≡ get_or xs i x
      → slice_get (map f xs) i ≡ Some (f x)
  field_read f xs i x h read = rw (slice_get-map f xs i, slice_get_read xs _ i x refl h read) refl

  pub field_at : {B : Type 0} (f : A → B) (xs : List A) (i : ℕ) (x : A) → i < length xs → x ≡ get_or xs i x
      → f x ≡ get_or (map f xs) i (f x)
  field_at f xs i x h read = ap f read ∙ sym (get_or-map f xs i x (f x) h)

  -- The same of a count.
  pub count_read : (f : A → ℕ) (xs : List A) (i : ℕ) (x : A) → i < length xs → x ≡ get_or xs i x
      → slice_index (map f xs) i ≡ f x
  count_read f xs i x h read = get_or-map f xs i x 0 h ∙ sym (ap f read)

  -- A record changes and keeps what f reads of it.
  pub field_kept : {B : Type 0} (f : A → B) (xs : List A) (i : ℕ) (x y : A) → x ≡ get_or xs i x → f y ≡ f x
      → map f (slice_set xs i y) ≡ map f xs
  field_kept f xs i x y read same = map-set_same f xs i y x (same ∙ ap f read)

  -- So many equal records.
  pub map-replicate : {B : Type 0} (f : A → B) (n : ℕ) (x : A) → map f (replicate n x) ≡ replicate n (f x)
  map-replicate f zero x = refl
  map-replicate f (suc n) x = ap (λ ys. f x ∷ ys) (map-replicate f n x)

-- A slot that has a holder is within the list of holders.
pub held-within : (holders : List ℕ) (slot : ℕ) → 0 < slice_index holders slot → slot < length holders
held-within [] slot held = absurd (omega arith)
held-within (n ∷ holders) zero held = omega arith
held-within (n ∷ holders) (suc slot) held = let rest = held-within holders slot held in omega (arith, rest)
