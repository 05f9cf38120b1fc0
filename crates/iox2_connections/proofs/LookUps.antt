-- What a look-up finds.
use Rattle.std.proofs.Common.{◌≡◌, ◌≢◌, ℕ, zero, suc, List, [], ◌∷◌, Bool, true, false, cond, Option, None, Some}
use Rattle.std.proofs.Common.{get_or, refl, ap, sym, ◌∙◌, inl, inr}
use Rattle.std.proofs.lemmas.Bool.{cases_eq}
use Rattle.iox2_connections.specs.LookUp.{look_up, IsOnly}

module _ {A : Type 0} (test : A → Bool) where
  -- what is found stands somewhere
  pub look_up-there : (xs : List (Option A)) (x : A) → look_up test xs ≡ Some x
      → (i : ℕ) × (get_or xs i None ≡ Some x) × (test x ≡ true)
  look_up-there [] x e = absurd cc
  look_up-there (None ∷ xs) x e = let rest = look_up-there xs x e in (suc rest.0, rest.1, rest.2)
  look_up-there (Some y ∷ xs) x e = at (test y) refl e (λ f. look_up-there xs x f) where
    at : (b : Bool) → test y ≡ b → cond b (Some y) (look_up test xs) ≡ Some x
        → (look_up test xs ≡ Some x → (i : ℕ) × (get_or xs i None ≡ Some x) × (test x ≡ true))
        → (i : ℕ) × (get_or (Some y ∷ xs) i None ≡ Some x) × (test x ≡ true)
    at true h e later = (zero, e, cc)
    at false h e later = let rest = later e in (suc rest.0, rest.1, rest.2)

  -- what stands somewhere isn't missed
  pub look_up-none : (xs : List (Option A)) → look_up test xs ≡ None → (i : ℕ) (x : A) → get_or xs i None ≡ Some x
      → test x ≡ false
  look_up-none [] e i x at = absurd (let none : get_or {A = Option A} [] i None ≡ None = nothing i in cc) where
    nothing : (i : ℕ) → get_or {A = Option A} [] i None ≡ None
    nothing zero = refl
    nothing (suc i) = refl
  look_up-none (None ∷ xs) e zero x at = absurd cc
  look_up-none (None ∷ xs) e (suc i) x at = look_up-none xs e i x at
  look_up-none (Some y ∷ xs) e i x at = by (test y) refl e i at (λ f k later. look_up-none xs f k x later) where
    by : (b : Bool) → test y ≡ b → cond b (Some y) (look_up test xs) ≡ None → (i : ℕ)
        → get_or (Some y ∷ xs) i None ≡ Some x
        → (look_up test xs ≡ None → (k : ℕ) → get_or xs k None ≡ Some x → test x ≡ false) → test x ≡ false
    by true h e i at later = absurd cc
    by false h e zero at later = cc
    by false h e (suc i) at later = later e i at

  -- the one record that passes the test is found
  pub look_up-found : (xs : List (Option A)) (i : ℕ) (x : A) → IsOnly test xs → get_or xs i None ≡ Some x
      → test x ≡ true → look_up test xs ≡ Some x
  look_up-found xs i x only at h = by (look_up test xs) refl where
    by : (o : Option A) → look_up test xs ≡ o → o ≡ Some x
    by None e = absurd (let no : test x ≡ false = look_up-none xs e i x at in cc)
    by (Some y) e =
        let there = look_up-there xs y e in
        let same : there.0 ≡ i = only.one there.0 i y x there.1 at there.2 h in
        sym there.1 ∙ ap (λ (k : ℕ). get_or xs k None) same ∙ at

  -- where no record passes the test nothing is found
  pub look_up-nothing : (xs : List (Option A)) → ((i : ℕ) (x : A) → get_or xs i None ≡ Some x → test x ≡ false)
      → look_up test xs ≡ None
  look_up-nothing xs none = by (look_up test xs) refl where
    by : (o : Option A) → look_up test xs ≡ o → o ≡ None
    by None e = refl
    by (Some y) e = let there = look_up-there xs y e in absurd (let no : test y ≡ false = none there.0 y there.1 in cc)

  -- the lemma of every container: at one place x became y, with the same answer to the test
  pub look_up-changed : (xs ys : List (Option A)) (key : ℕ) (x y : A) → IsOnly test xs → IsOnly test ys
      → get_or xs key None ≡ Some x → get_or ys key None ≡ Some y
      → ((k : ℕ) → k ≢ key → get_or ys k None ≡ get_or xs k None) → test y ≡ test x
      → look_up test ys ≡ cond (test y) (Some y) (look_up test xs)
  look_up-changed xs ys key x y only_x only_y at_x at_y others same = by (test y) refl where
    old : (o : Option A) → look_up test xs ≡ o → test y ≡ false → look_up test ys ≡ o
    old None e h = look_up-nothing ys (λ i z at. elim (cases_eq i key) [
      | inl here ↦ let at_here : get_or ys key None ≡ Some z = sym (ap (λ (k : ℕ). get_or ys k None) here) ∙ at in
          let same_y : Some y ≡ Some z = sym at_y ∙ at_here in cc
      | inr away ↦ look_up-none xs e i z (sym (others i away) ∙ at)
    ])
    old (Some z) e h =
        let there = look_up-there xs z e in
        elim (cases_eq there.0 key) [
          | inl here ↦ let at_here : get_or xs key None ≡ Some z =
              sym (ap (λ (k : ℕ). get_or xs k None) here) ∙ there.1 in let same_x : Some x ≡ Some z =
              sym at_x ∙ at_here in let h2 : test z ≡ true = there.2 in absurd cc
          | inr away ↦ look_up-found ys there.0 z only_y (others there.0 away ∙ there.1) there.2
        ]

    by : (b : Bool) → test y ≡ b → look_up test ys ≡ cond b (Some y) (look_up test xs)
    by true h = look_up-found ys key y only_y at_y h
    by false h = old (look_up test xs) refl h
