-- A slab that gets its first connection.
use Rattle.std.proofs.Common.{Bool, List, None, Option, Some, [], ap, arith, cond, eqb, false, get_or, inl, inr, refl}
use Rattle.std.proofs.Common.{replicate, subst, suc, true, zero, ℕ, ◌<◌, ◌∙◌, ◌∷◌, ◌≡◌}
use Rattle.std.proofs.lemmas.Bool.{cases_eq}
use Rattle.std.proofs.lemmas.List.Elements.{All-head}
use Rattle.std.proofs.lemmas.List.Sums.{sum_by-cons}
use Rattle.std.specs.List.{All, sum_by}
use Rattle.std.specs.Prelude.{◌↔◌, IsSome, IsNone, IsSomeAnd}
use Rattle.slab.specs.Slab.{Slab, get, Updates}
use Rattle.iox2_connections.specs.Link.{Link, empty_link}
use Rattle.iox2_connections.specs.declared.connection.Home.{Home}
use Rattle.iox2_connections.specs.Counters.{stands, IsCovered, HoldsItself}
use Rattle.iox2_connections.specs.Homes.{IsSenderLinked, IsSenders}

-- a sum of nothing
sum-zero : {A : Type 0} (f : Option A → ℕ) (xs : List (Option A)) → ((i : ℕ) → f (get_or xs i None) ≡ 0)
    → sum_by f xs ≡ 0
sum-zero f [] zeros = refl
sum-zero f (x ∷ xs) zeros = sum_by-cons f x xs ∙ omega (arith, zeros zero, sum-zero f xs (λ i. zeros (suc i)))

-- no slot stands in a slab that had no connection and then got an empty one
none-stands : (old new : Slab Link) (key p : ℕ) (home : Home) (buffer limit channels : ℕ) → old.slots ≡ []
    → Updates old new key (Some (empty_link home buffer limit channels)) → (n : ℕ) → sum_by (stands p n) new.slots ≡ 0
none-stands old new key p home buffer limit channels empty u n = sum-zero (stands p n) new.slots (λ i. at n i) where
  vacant : (i : ℕ) → get_or {A = Option Link} [] i None ≡ None
  vacant zero = refl
  vacant (suc i) = refl

  same : (b : Bool) → cond {A = ℕ} b 0 0 ≡ 0
  same true = refl
  same false = refl

  at : (n i : ℕ) → stands p n (get new i) ≡ 0
  at n i = elim (cases_eq i key) [
    | inl here ↦ ap (stands p n) (ap (get new) here ∙ u.changed) ∙ same (eqb home.publisher p)
    | inr away ↦ ap (stands p n) (u.others i away ∙ ap (λ (xs : List (Option Link)). get_or xs i None) empty ∙ vacant i)
  ]

-- so its counters cover it
pub covered-first : (old new : Slab Link) (key p : ℕ) (home : Home) (buffer limit channels : ℕ) (holders : List ℕ)
    → old.slots ≡ [] → Updates old new key (Some (empty_link home buffer limit channels))
    → IsCovered p holders new.slots
covered-first old new key p home buffer limit channels holders empty u =
    record { at = λ n. omega (arith, none-stands old new key p home buffer limit channels empty u n) }

-- and its publisher itself holds a slot in use
pub own-first : (old new : Slab Link) (key p n : ℕ) (home : Home) (buffer limit channels : ℕ) (holders : List ℕ)
    → old.slots ≡ [] → Updates old new key (Some (empty_link home buffer limit channels)) → 0 < get_or holders n 0
    → HoldsItself p n holders new.slots
own-first old new key p n home buffer limit channels holders empty u some =
    record { more = omega (arith, some, none-stands old new key p home buffer limit channels empty u n) }

-- a book whose one slot is free gives that slot
pub some-taken : (slot : Option ℕ) (holders : List ℕ) → holders ≡ replicate 1 0
    → (IsNone slot ↔ All (λ n. 0 < n) holders) → IsSome slot
some-taken (Some slot) holders unused none = refl
some-taken None holders unused none =
    absurd (omega (arith, All-head (λ n. 0 < n) 0 [] (subst (All (λ n. 0 < n)) unused (none.0 refl))))

-- a connection that its publisher knows is the publisher's
pub own-linked : (slab : Slab Link) (key p : ℕ) → IsSenderLinked p slab (Some key ∷ [])
    → IsSomeAnd (get slab key) (λ (c : Link). c.home.publisher ≡ p)
own-linked slab key p linked = by (get slab key) (linked.at 0 key refl) where
  by : (o : Option Link) → IsSomeAnd o (IsSenders p 0) → IsSomeAnd o (λ (c : Link). c.home.publisher ≡ p)
  by None none = none
  by (Some c) mine = mine.publisher
