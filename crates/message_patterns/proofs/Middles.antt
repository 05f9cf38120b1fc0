-- The middle one of three.
use Rattle.std.proofs.Common.{◌≡◌, ℕ, ◌+◌, ◌<◌, ◌≤◌, List, [], ◌∷◌, ap, ◌∙◌, subst, arith, ◌⊎◌, inl, inr, ⊎_elim}
use Rattle.std.proofs.lemmas.Bool.Decides.{nat_tests}
use Rattle.message_patterns.specs.Votes.{Vote, Picks, IsMiddle, one_if_within}

pub within : (x y : ℕ) → x ≤ y → one_if_within x y ≡ 1
within x y h = grind (arith, nat_tests)

pub not-within : (x y : ℕ) → y < x → one_if_within x y ≡ 0
not-within x y h = grind (arith, nat_tests)

pub at-most : (x y : ℕ) → one_if_within x y ≤ 1
at-most x y = grind (arith, nat_tests)

pub one-means : (x y : ℕ) → 1 ≤ one_if_within x y → x ≤ y
one-means x y h = grind (arith, nat_tests)

-- where the first two are equal it is that
pub majority : (it a b c : ℕ) → IsMiddle it a b c → a ≡ b → it ≡ a
majority it a b c is same =
    let low : one_if_within a it ≡ one_if_within b it = ap (λ x. one_if_within x it) same in
    let high : one_if_within it a ≡ one_if_within it b = ap (λ x. one_if_within it x) same in
    let c1 : one_if_within c it ≤ 1 = at-most c it in
    let c2 : one_if_within it c ≤ 1 = at-most it c in
    let p : a ≤ it =
    one-means a it (let b1 : 2 ≤ one_if_within a it + one_if_within b it + one_if_within c it = is.below in
    omega (arith, b1, low, c1)) in
    let q : it ≤ a =
    one-means it a (let b1 : 2 ≤ one_if_within it a + one_if_within it b + one_if_within it c = is.above in
    omega (arith, b1, high, c2)) in
    omega (arith, p, q)

-- the order doesn't matter
pub middle-swap : (it a b c : ℕ) → IsMiddle it a b c → IsMiddle it b a c
middle-swap it a b c is = record {
  among = ⊎_elim (λ x. inr (inl x)) (λ y. ⊎_elim (λ x. inl x) (λ x. inr (inr x)) y) is.among;
  below = let b1 : 2 ≤ one_if_within a it + one_if_within b it + one_if_within c it = is.below in omega (arith, b1);
  above = let b1 : 2 ≤ one_if_within it a + one_if_within it b + one_if_within it c = is.above in omega (arith, b1);
}

pub middle-turn : (it a b c : ℕ) → IsMiddle it a b c → IsMiddle it b c a
middle-turn it a b c is = record {
  among = ⊎_elim (λ x. inr (inr x)) (λ y. ⊎_elim (λ x. inl x) (λ x. inr (inl x)) y) is.among;
  below = let b1 : 2 ≤ one_if_within a it + one_if_within b it + one_if_within c it = is.below in omega (arith, b1);
  above = let b1 : 2 ≤ one_if_within it a + one_if_within it b + one_if_within it c = is.above in omega (arith, b1);
}

-- three that were taken out of three votes are these, in some order
pub middle-of-votes : (it x y z : ℕ) (a b c : Vote) (two one none : List Vote) → IsMiddle it x y z
    → Picks (a ∷ b ∷ c ∷ []) x two → Picks two y one → Picks one z none → IsMiddle it a.value b.value c.value
middle-of-votes it x y z a b c two one none is px py pz = first px where
  -- the two that are left are these
  pair : (v w : Vote) → two ≡ v ∷ w ∷ [] → (((y ≡ v.value) × (z ≡ w.value)) ⊎ ((y ≡ w.value) × (z ≡ v.value)))
  pair v w same = ⊎_elim
      (λ here. inl (here.0, last w (subst (λ l. Picks l z none) here.1 pz)))
      (λ there. ⊎_elim
      (λ here. inr (here.0, last v (subst (λ l. Picks l z none) (there.2 ∙ ap (λ l. v ∷ l) here.1) pz)))
      (λ gone. absurd gone.1)
      there.1)
      (subst (λ l. Picks l y one) same py)
    where
      last : (u : Vote) → Picks (u ∷ []) z none → z ≡ u.value
      last u p = ⊎_elim (λ here. here.0) (λ gone. absurd gone.1) p

  put : (u v w : Vote) → x ≡ u.value → (((y ≡ v.value) × (z ≡ w.value)) ⊎ ((y ≡ w.value) × (z ≡ v.value)))
      → IsMiddle it u.value v.value w.value
  put u v w ex rest = ⊎_elim
      (λ e. subst (λ k. IsMiddle it u.value v.value k) e.1
      (subst (λ k. IsMiddle it u.value k z) e.0 (subst (λ k. IsMiddle it k y z) ex is)))
      (λ e. let m : IsMiddle it u.value w.value v.value = subst (λ k. IsMiddle it u.value w.value k) e.1
      (subst (λ k. IsMiddle it u.value k z) e.0 (subst (λ k. IsMiddle it k y z) ex is)) in
      middle-turn it w.value u.value v.value (middle-swap it u.value w.value v.value m))
      rest

  first : Picks (a ∷ b ∷ c ∷ []) x two → IsMiddle it a.value b.value c.value
  first p = ⊎_elim
      (λ here. put a b c here.0 (pair b c here.1))
      (λ later. ⊎_elim
      (λ here. middle-swap it b.value a.value c.value (put b a c here.0 (pair a c (later.2 ∙ ap (λ l. a ∷ l) here.1))))
      (λ last. ⊎_elim
      (λ here. middle-turn it c.value a.value b.value
      (put c a b here.0 (pair a b (later.2 ∙ ap (λ l. a ∷ l) (last.2 ∙ ap (λ l. b ∷ l) here.1)))))
      (λ gone. absurd gone.1)
      last.1)
      later.1)
      p
