-- What a look-up finds after a record was made, changed or removed.
use Rattle.std.proofs.Common.{◌≡◌, ◌≢◌, ℕ, zero, suc, List, [], ◌∷◌, map, Bool, true, false, cond, Option, None, Some}
use Rattle.std.proofs.Common.{get_or, refl, ap, sym, ◌∙◌, inl, inr}
use Rattle.std.proofs.lemmas.Bool.{cases_eq}
use Rattle.std.specs.Option.{option_map}
use Rattle.iox2_connections.specs.LookUp.{look_up, IsOnly}
use Rattle.iox2_connections.proofs.LookUps.{look_up-there, look_up-none, look_up-found, look_up-nothing}

-- a look-up among views is the view of a look-up
pub look_up-map : {A B : Type 0} (test : B → Bool) (f : A → B) (xs : List (Option A))
    → look_up test (map (option_map f) xs) ≡ option_map f (look_up (λ x. test (f x)) xs)
look_up-map test f [] = refl
look_up-map test f (None ∷ xs) = look_up-map test f xs
look_up-map test f (Some x ∷ xs) = by (test (f x)) (look_up-map test f xs) where
  by : (b : Bool) → look_up test (map (option_map f) xs) ≡ option_map f (look_up (λ x. test (f x)) xs)
      → cond b (Some (f x)) (look_up test (map (option_map f) xs)) ≡ option_map f
      (cond b (Some x) (look_up (λ x. test (f x)) xs))
  by true e = refl
  by false e = e

module _ {A B : Type 0} (f : A → B) where
  -- a view stands where its record stands
  pub map-at : (xs : List (Option A)) (i : ℕ) → get_or (map (option_map f) xs) i None ≡ option_map f (get_or xs i None)
  map-at [] zero = refl
  map-at [] (suc i) = refl
  map-at (x ∷ xs) zero = refl
  map-at (x ∷ xs) (suc i) = map-at xs i

  -- where a view stands its record stands
  pub viewed : (xs : List (Option A)) (i : ℕ) (y : B) → get_or (map (option_map f) xs) i None ≡ Some y
      → (x : A) × (get_or xs i None ≡ Some x) × (y ≡ f x)
  viewed xs i y at = by (get_or xs i None) refl where
    by : (o : Option A) → get_or xs i None ≡ o → (x : A) × (get_or xs i None ≡ Some x) × (y ≡ f x)
    by None e = absurd (let none : None ≡ Some y = sym (ap (option_map f) e) ∙ sym (map-at xs i) ∙ at in cc)
    by (Some x) e = let same : Some (f x) ≡ Some y = sym (ap (option_map f) e) ∙ sym (map-at xs i) ∙ at in (x, e, cc)

  -- a test that holds of one view at most holds of one record at most, and back
  pub IsOnly-map : (test : A → Bool) (test' : B → Bool) → ((x : A) → test' (f x) ≡ test x) → (xs : List (Option A))
      → IsOnly test xs → IsOnly test' (map (option_map f) xs)
  IsOnly-map test test' same xs only = record {
    one = λ i j x y at_i at_j is_x is_y.
        let from_x = viewed xs i x at_i in
        let from_y = viewed xs j y at_j in
        only.one i j from_x.0 from_y.0 from_x.1 from_y.1
        (sym (same from_x.0) ∙ sym (ap test' from_x.2) ∙ is_x) (sym (same from_y.0) ∙ sym (ap test' from_y.2) ∙ is_y);
  }

-- a test that holds of one record at most does so where each record was there before, with the same answer
pub only-before : {A : Type 0} (test : A → Bool) (xs ys : List (Option A)) → IsOnly test xs
    → ((i : ℕ) (y : A) → get_or ys i None ≡ Some y → (x : A) × (get_or xs i None ≡ Some x) × (test x ≡ test y))
    → IsOnly test ys
only-before test xs ys only before = record {
  one = λ i j x y at_i at_j is_x is_y.
      let a = before i x at_i in
      let b = before j y at_j in
      only.one i j a.0 b.0 a.1 b.1 (a.2 ∙ is_x) (b.2 ∙ is_y);
}

module _ {A : Type 0} (test : A → Bool) where
  -- made, or changed with the same answer to the test
  pub look_up-written : (xs ys : List (Option A)) (key : ℕ) (y : A) → IsOnly test ys
      → ((x : A) → get_or xs key None ≡ Some x → test x ≡ test y) → get_or ys key None ≡ Some y
      → ((k : ℕ) → k ≢ key → get_or ys k None ≡ get_or xs k None)
      → look_up test ys ≡ cond (test y) (Some y) (look_up test xs)
  look_up-written xs ys key y only same at_y others = by (test y) refl where
    old : (o : Option A) → look_up test xs ≡ o → test y ≡ false → look_up test ys ≡ o
    old None e h = look_up-nothing test ys (λ i z at. elim (cases_eq i key) [
      | inl here ↦ let at_here : get_or ys key None ≡ Some z = sym (ap (λ (k : ℕ). get_or ys k None) here) ∙ at in
          let same_y : Some y ≡ Some z = sym at_y ∙ at_here in cc
      | inr away ↦ look_up-none test xs e i z (sym (others i away) ∙ at)
    ])
    old (Some z) e h =
        let found = look_up-there test xs z e in
        elim (cases_eq found.0 key) [
          | inl here ↦ let h2 : test z ≡ test y = same z (sym (ap (λ (k : ℕ). get_or xs k None) here) ∙ found.1) in
              let h3 : test z ≡ true = found.2 in absurd cc
          | inr away ↦ look_up-found test ys found.0 z only (others found.0 away ∙ found.1) found.2
        ]

    by : (b : Bool) → test y ≡ b → look_up test ys ≡ cond b (Some y) (look_up test xs)
    by true h = look_up-found test ys key y only at_y h
    by false h = old (look_up test xs) refl h

  pub look_up-removed : (xs ys : List (Option A)) (key : ℕ) (x : A) → IsOnly test xs → IsOnly test ys
      → get_or xs key None ≡ Some x → get_or ys key None ≡ None
      → ((k : ℕ) → k ≢ key → get_or ys k None ≡ get_or xs k None)
      → look_up test ys ≡ cond (test x) None (look_up test xs)
  look_up-removed xs ys key x only only_y at_x at_y others = by (test x) refl where
    old : (o : Option A) → look_up test xs ≡ o → test x ≡ false → look_up test ys ≡ o
    old None e h = look_up-nothing test ys (λ i z at. elim (cases_eq i key) [
      | inl here ↦ let at_here : get_or ys key None ≡ Some z = sym (ap (λ (k : ℕ). get_or ys k None) here) ∙ at in
          let none : None ≡ Some z = sym at_y ∙ at_here in absurd cc
      | inr away ↦ look_up-none test xs e i z (sym (others i away) ∙ at)
    ])
    old (Some z) e h =
        let found = look_up-there test xs z e in
        elim (cases_eq found.0 key) [
          | inl here ↦ let at_here : get_or xs key None ≡ Some z =
              sym (ap (λ (k : ℕ). get_or xs k None) here) ∙ found.1 in let same_x : Some x ≡ Some z =
              sym at_x ∙ at_here in let h2 : test z ≡ true = found.2 in absurd cc
          | inr away ↦ look_up-found test ys found.0 z only_y (others found.0 away ∙ found.1) found.2
        ]

    by : (b : Bool) → test x ≡ b → look_up test ys ≡ cond b None (look_up test xs)
    by true h = look_up-nothing test ys (λ i z at. elim (cases_eq i key) [
      | inl here ↦ let at_here : get_or ys key None ≡ Some z = sym (ap (λ (k : ℕ). get_or ys k None) here) ∙ at in
          let none : None ≡ Some z = sym at_y ∙ at_here in absurd cc
      | inr away ↦ other z (test z) refl i away (sym (others i away) ∙ at)
    ])
      where
        other : (z : A) (b : Bool) → test z ≡ b → (i : ℕ) → i ≢ key → get_or xs i None ≡ Some z → test z ≡ false
        other z true e i away at = absurd (away (only.one i key z x at at_x e h))
        other z false e i away at = e
    by false h = old (look_up test xs) refl h

  -- at most one, still
  pub IsOnly-removed : (xs ys : List (Option A)) (key : ℕ) → IsOnly test xs → get_or ys key None ≡ None
      → ((k : ℕ) → k ≢ key → get_or ys k None ≡ get_or xs k None) → IsOnly test ys
  IsOnly-removed xs ys key only none others =
      record {
        one = λ i j x y at_i at_j is_x is_y. only.one i j x y (sym (others i (away i x at_i)) ∙ at_i)
            (sym (others j (away j y at_j)) ∙ at_j) is_x is_y;
      } where
        away : (i : ℕ) (x : A) → get_or ys i None ≡ Some x → i ≢ key
        away i x at here =
            let at_here : get_or ys key None ≡ Some x = sym (ap (λ (k : ℕ). get_or ys k None) here) ∙ at in
            let e : None ≡ Some x = sym none ∙ at_here in absurd cc

  pub IsOnly-inserted : (xs ys : List (Option A)) (key : ℕ) (y : A) → IsOnly test xs
      → (test y ≡ true → look_up test xs ≡ None) → get_or ys key None ≡ Some y
      → ((k : ℕ) → k ≢ key → get_or ys k None ≡ get_or xs k None) → IsOnly test ys
  IsOnly-inserted xs ys key y only new at_y others = record {
    one = λ i j x z at_i at_j is_x is_z. elim (cases_eq i key) [
      | inl here_i ↦ elim (cases_eq j key) [
        | inl here_j ↦ here_i ∙ sym here_j
        | inr away_j ↦ absurd (clash i x j z here_i at_i is_x away_j at_j is_z)
      ]
      | inr away_i ↦ elim (cases_eq j key) [
        | inl here_j ↦ absurd (clash j z i x here_j at_j is_z away_i at_i is_x)
        | inr away_j ↦ only.one i j x z (sym (others i away_i) ∙ at_i) (sym (others j away_j) ∙ at_j) is_x is_z
      ]
    ];
  } where
    clash : (i : ℕ) (x : A) (j : ℕ) (z : A) → i ≡ key → get_or ys i None ≡ Some x → test x ≡ true → j ≢ key
        → get_or ys j None ≡ Some z → test z ≡ true → ⊥
    clash i x j z here at_i is_x away at_j is_z =
        let at_here : get_or ys key None ≡ Some x = sym (ap (λ (k : ℕ). get_or ys k None) here) ∙ at_i in
        let e : Some y ≡ Some x = sym at_y ∙ at_here in
        let is_y : test y ≡ true = cc in
        let no : test z ≡ false = look_up-none test xs (new is_y) j z (sym (others j away) ∙ at_j) in
        cc
