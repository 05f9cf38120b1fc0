-- What is read at a slot of the contents.
use Rattle.std.proofs.Common.{◌≡◌, ℕ, zero, suc, ◌<◌, List, [], ◌∷◌, length, Some, arith, get_or, slice_set, refl, ap}
use Rattle.std.proofs.Common.{subst, sym, ◌∙◌}
use Rattle.std.proofs.lemmas.List.{length-map}
use Rattle.std.proofs.lemmas.Option.{slice_get_read}
use Rattle.std.specs.Prelude.{slice_get}
use Rattle.std.specs.List.{All}
use Rattle.std.proofs.lemmas.List.Elements.{All-get_or}
use Rattle.iox2_contents.specs.SlotContents.{ContentState, SomeAt}
use Rattle.iox2_contents.specs.SlotStates.{SlotState, content_of, contents_of}

-- There is a slot of which something holds.
pub some_within : {A : Type 0} (contents : List A) (slot : ℕ) (P : A → Type 0) → SomeAt contents slot P
    → slot < length contents
some_within [] slot P h = absurd h
some_within (x ∷ xs) zero P h = omega arith
some_within (x ∷ xs) (suc slot) P h = let rest = some_within xs slot P h in omega arith

-- What stands there, of which it holds.
pub found : {A : Type 0} (contents : List A) (slot : ℕ) (P : A → Type 0) → SomeAt contents slot P
    → (x : A) × (slice_get contents slot ≡ Some x) × P x
found [] slot P h = absurd h
found (x ∷ xs) zero P h = (x, refl, h)
found (x ∷ xs) (suc slot) P h = found xs slot P h

-- It holds of the content that indexing gives there.
pub some_read : {A : Type 0} (contents : List A) (slot : ℕ) (P : A → Type 0) (x : A) → SomeAt contents slot P
    → x ≡ get_or contents slot x → (slice_get contents slot ≡ Some x) × P x
some_read contents slot P x h e =
    let read = slice_get_read contents _ slot x refl (some_within contents slot P h) e in
    (read, rw read at h)

-- What holds of all contents holds of the one that indexing gives.
pub all_read : {A : Type 0} (contents : List A) (slot : ℕ) (P : A → Type 0) (x : A) → All P contents
    → slot < length contents → x ≡ get_or contents slot x → P x
all_read contents slot P x all within e = subst P (sym e) (All-get_or P contents slot x within all)

-- Writing what is there changes nothing.
pub set_same : {A : Type 0} (contents : List A) (slot : ℕ) (x : A) → slice_get contents slot ≡ Some x
    → slice_set contents slot x ≡ contents
set_same [] slot x at = refl
set_same (y ∷ ys) zero x at = let same : Some y ≡ Some x = at in let is : y ≡ x = cc in ap (λ z. z ∷ ys) (sym is)
set_same (y ∷ ys) (suc slot) x at = ap (λ zs. y ∷ zs) (set_same ys slot x at)

-- It holds of the content in the slot that indexing gives there.
pub content_read : {T U : Type 0} (n : ℕ) (slots : List (SlotState T U)) (contents : List (ContentState T U)) (slot : ℕ)
    (P : ContentState T U → Type 0) (x : SlotState T U) → contents_of n slots ≡ contents → SomeAt contents slot P
    → x ≡ get_or slots slot x → (slice_get slots slot ≡ Some x) × P (content_of n x)
content_read {T = T} {U = U} n slots contents slot P x are h e =
    some_read slots slot (λ s. P (content_of n s)) x
    (of_contents slots slot (subst (λ ys. SomeAt ys slot P) (sym are) h)) e
  where
    of_contents : (ys : List (SlotState T U)) (k : ℕ) → SomeAt (contents_of n ys) k P
        → SomeAt ys k (λ s. P (content_of n s))
    of_contents [] k h = absurd h
    of_contents (y ∷ ys) zero h = h
    of_contents (y ∷ ys) (suc k) h = of_contents ys k h

-- There are as many slots as contents.
pub slot_within : {T U : Type 0} (n : ℕ) (slots : List (SlotState T U)) (contents : List (ContentState T U)) (slot : ℕ)
    → contents_of n slots ≡ contents → slot < length contents → slot < length slots
slot_within n slots contents slot are within =
    let count : length contents ≡ length slots = sym (ap length are) ∙ length-map slots (content_of n) in
    omega (arith, within, count)

-- So a slot is there whose content something holds of.
pub some_slot_within : {T U : Type 0} (n : ℕ) (slots : List (SlotState T U)) (contents : List (ContentState T U))
    (slot : ℕ) (P : ContentState T U → Type 0) → contents_of n slots ≡ contents → SomeAt contents slot P
    → slot < length slots
some_slot_within n slots contents slot P are h = slot_within n slots contents slot are (some_within contents slot P h)

-- What stands in a slot that there is.
pub slot_read : {T U : Type 0} (n : ℕ) (slots : List (SlotState T U)) (contents : List (ContentState T U)) (slot : ℕ)
    (x : SlotState T U) → contents_of n slots ≡ contents → slot < length contents
    → x ≡ get_or slots slot x → slice_get slots slot ≡ Some x
slot_read n slots contents slot x are within e =
    slice_get_read slots _ slot x refl (slot_within n slots contents slot are within) e
