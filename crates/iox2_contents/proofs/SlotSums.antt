-- Lists with one element changed, and sums over them.
use Rattle.std.proofs.Common.{◌≡◌, ◌≢◌, ◌<◌, ◌≤◌, ◌+◌, ◌∙◌, ℕ, zero, suc, Option, None, Some, List, [], ◌∷◌, length}
use Rattle.std.proofs.Common.{map, replicate, get_or, slice_set, refl, ap, sym, subst, arith}
use Rattle.std.proofs.lemmas.List.{length-replicate, length-set}
use Rattle.std.proofs.lemmas.List.Elements.{All-head, All-tail}
use Rattle.std.proofs.lemmas.List.Sums.{sum_by-cons, sum_by-set}
use Rattle.std.proofs.lemmas.Option.{none-some}
use Rattle.std.specs.Prelude.{slice_get, sum_by}
use Rattle.std.specs.List.{All}
use Rattle.std.specs.Option.{option_map_or}
use Rattle.iox2_contents.specs.SlotContents.{with_changed}

-- there is such a place
pub within : {A : Type 0} (xs : List A) (i : ℕ) (x : A) → slice_get xs i ≡ Some x → i < length xs
within [] i x at = absurd (none-some x at)
within (y ∷ ys) zero x at = omega arith
within (y ∷ ys) (suc i) x at = let rest = within ys i x at in omega (arith, rest)

-- what indexing gives there
pub reads : {A : Type 0} (xs : List A) (i : ℕ) (x d : A) → slice_get xs i ≡ Some x → get_or xs i d ≡ x
reads [] i x d at = absurd (none-some x at)
reads (y ∷ ys) zero x d at = let same : Some y ≡ Some x = at in cc
reads (y ∷ ys) (suc i) x d at = reads ys i x d at

-- what stands there
pub there : {A : Type 0} (xs : List A) (i : ℕ) (d : A) → i < length xs → slice_get xs i ≡ Some (get_or xs i d)
there [] i d low = absurd (omega (arith, low))
there (x ∷ xs) zero d low = refl
there (x ∷ xs) (suc i) d low = there xs i d (omega (arith, low))

-- the image of what is there
pub mapped : {A B : Type 0} (f : A → B) (xs : List A) (i : ℕ) (x : A) → slice_get xs i ≡ Some x
    → slice_get (map f xs) i ≡ Some (f x)
mapped f [] i x at = absurd (none-some x at)
mapped f (y ∷ ys) zero x at = let same : Some y ≡ Some x = at in let is : y ≡ x = cc in ap (λ z. Some (f z)) is
mapped f (y ∷ ys) (suc i) x at = mapped f ys i x at

-- a sum with one element changed
pub sum-changed : {A : Type 0} (f : A → ℕ) (xs : List A) (i : ℕ) (x y : A) → slice_get xs i ≡ Some x
    → sum_by f (slice_set xs i y) + f x ≡ sum_by f xs + f y
sum-changed f xs i x y at = subst (λ z. sum_by f (slice_set xs i y) + f z ≡ sum_by f xs + f y) (reads xs i x x at)
    (sum_by-set f xs i y x (within xs i x at))

-- a sum of what is smaller everywhere
pub sum-le : {A : Type 0} (f g : A → ℕ) (xs : List A) → All (λ x. f x ≤ g x) xs → sum_by f xs ≤ sum_by g xs
sum-le f g [] all = omega arith
sum-le f g (x ∷ xs) all =
    let first = All-head (λ x. f x ≤ g x) x xs all in
    let rest = sum-le f g xs (All-tail (λ x. f x ≤ g x) x xs all) in
    omega (arith, first, rest, sum_by-cons f x xs, sum_by-cons g x xs)

-- and smaller by one in some place
pub sum-less : {A : Type 0} (f g : A → ℕ) (xs : List A) (i : ℕ) (x : A) → slice_get xs i ≡ Some x
    → All (λ y. f y ≤ g y) xs → f x + 1 ≤ g x → sum_by f xs + 1 ≤ sum_by g xs
sum-less f g [] i x at all less = absurd (none-some x at)
sum-less f g (y ∷ ys) zero x at all less =
    let same : Some y ≡ Some x = at in
    let is : y ≡ x = cc in
    let here : f y + 1 ≤ g y = subst (λ z. f z + 1 ≤ g z) (sym is) less in
    let rest = sum-le f g ys (All-tail (λ x. f x ≤ g x) y ys all) in
    omega (arith, here, rest, sum_by-cons f y ys, sum_by-cons g y ys)
sum-less f g (y ∷ ys) (suc i) x at all less =
    let first = All-head (λ x. f x ≤ g x) y ys all in
    let rest = sum-less f g ys i x at (All-tail (λ x. f x ≤ g x) y ys all) less in
    omega (arith, first, rest, sum_by-cons f y ys, sum_by-cons g y ys)

-- a sum over images
pub sum-map : {A B : Type 0} (g : B → ℕ) (f : A → B) (xs : List A) → sum_by g (map f xs) ≡ sum_by (λ x. g (f x)) xs
sum-map g f [] = refl
sum-map g f (x ∷ xs) =
    sum_by-cons g (f x) (map f xs) ∙ ap (λ n. g (f x) + n) (sum-map g f xs) ∙ sym (sum_by-cons (λ y. g (f y)) x xs)

-- the list with an element changed has the new one there
pub set-here : {A : Type 0} (xs : List A) (i : ℕ) (x y : A) → slice_get xs i ≡ Some x
    → slice_get (slice_set xs i y) i ≡ Some y
set-here [] i x y at = absurd (none-some x at)
set-here (z ∷ zs) zero x y at = refl
set-here (z ∷ zs) (suc i) x y at = set-here zs i x y at

-- and the old ones elsewhere
pub set-away : {A : Type 0} (xs : List A) (i k : ℕ) (y : A) → k ≢ i → slice_get (slice_set xs i y) k ≡ slice_get xs k
set-away [] i k y away = refl
set-away (z ∷ zs) zero zero y away = absurd (away refl)
set-away (z ∷ zs) zero (suc k) y away = refl
set-away (z ∷ zs) (suc i) zero y away = refl
set-away (z ∷ zs) (suc i) (suc k) y away = set-away zs i k y (λ same. away (ap suc same))

-- as many stay
pub changed-long : {A : Type 0} (xs : List A) (i : ℕ) (f : A → A) → length (with_changed xs i f) ≡ length xs
changed-long {A = A} xs i f = by (slice_get xs i)
  where
    by : (o : Option A) → length (option_map_or (λ x. slice_set xs i (f x)) o xs) ≡ length xs
    by None = refl
    by (Some x) = length-set xs i (f x)

-- the same element leaves the list
pub set-same : {A : Type 0} (xs : List A) (i : ℕ) (x y : A) → slice_get xs i ≡ Some x → y ≡ x → slice_set xs i y ≡ xs
set-same [] i x y at is = refl
set-same (z ∷ zs) zero x y at is = let same : Some z ≡ Some x = at in
    ap (λ w. w ∷ zs) (let e : z ≡ x = cc in is ∙ sym e)
set-same (z ∷ zs) (suc i) x y at is = ap (λ ws. z ∷ ws) (set-same zs i x y at is)

-- a sum of nothing
pub zero-sum : {A : Type 0} (f : A → ℕ) (xs : List A) → All (λ x. f x ≡ 0) xs → sum_by f xs ≡ 0
zero-sum f [] all = refl
zero-sum f (x ∷ xs) all =
    let first = All-head (λ y. f y ≡ 0) x xs all in
    let rest = zero-sum f xs (All-tail (λ y. f y ≡ 0) x xs all) in
    omega (arith, first, rest, sum_by-cons f x xs)

-- so many of one are as many as they are
pub replicated : {A : Type 0} (xs : List A) (n : ℕ) (x : A) → xs ≡ replicate n x
    → (length xs ≡ n) × (xs ≡ replicate (length xs) x)
replicated xs n x are =
    let long : length xs ≡ n = ap length are ∙ length-replicate n x in
    (long, are ∙ ap (λ m. replicate m x) (sym long))
