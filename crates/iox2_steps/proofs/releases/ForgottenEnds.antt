-- What the machine's subscriber forgets where keys go.
use Rattle.std.proofs.Common.{◌≡◌, ◌≢◌, ℕ, zero, suc, Bool, true, false, cond, not, eqb, List, [], ◌∷◌, map, get_or}
use Rattle.std.proofs.Common.{Option, None, Some, refl, ap, sym, ◌∙◌}
use Rattle.std.proofs.lemmas.Bool.{eqb-true, eq-eqb, or_left, or_right}
use Rattle.std.specs.List.{filter}
use Rattle.slab.specs.Slab.{Slab}
use Rattle.iox2_connections.specs.Link.{Link}
use Rattle.iox2_machine.specs.machine.Numbers.{contains, without}
use Rattle.iox2_machine.specs.machine.Places.{vacated, occupants, places_kept}
use Rattle.iox2_connections.specs.Mailboxes.{publisher_of_key, receiver_ends}

-- the publisher of a key among the expired ones is expired
pub expired-contains : (connections : Slab Link) (xs : List ℕ) (i k r : ℕ) → get_or (map Some xs) i None ≡ Some k
    → publisher_of_key connections (Some k) ≡ Some r
    → contains (occupants (receiver_ends connections (map Some xs))) r ≡ true
expired-contains connections [] zero k r at leads = absurd cc
expired-contains connections [] (suc i) k r at leads = absurd cc
expired-contains connections (x ∷ xs) zero k r at leads =
    ap (λ o. contains (occupants (o ∷ receiver_ends connections (map Some xs))) r)
    (ap (publisher_of_key connections) at ∙ leads)
    ∙ or_left (eqb r r) (contains (occupants (receiver_ends connections (map Some xs))) r) (eq-eqb r r refl)
expired-contains connections (x ∷ xs) (suc i) k r at leads =
    by (publisher_of_key connections (Some x)) (expired-contains connections xs i k r at leads) where
      by : (o : Option ℕ) → contains (occupants (receiver_ends connections (map Some xs))) r ≡ true
          → contains (occupants (o ∷ receiver_ends connections (map Some xs))) r ≡ true
      by None later = later
      by (Some n) later = or_right (eqb n r) (contains (occupants (receiver_ends connections (map Some xs))) r) later

module _ (connections : Slab Link) (key p : ℕ) (leads : publisher_of_key connections (Some key) ≡ Some p)
    (test : ℕ → Bool) (gone : test p ≡ false) where
  -- a key leads to a publisher that passes the test
  abbrev pub Passes : (k : ℕ) → Type 0
  Passes k = (r : ℕ) × (publisher_of_key connections (Some k) ≡ Some r) × (test r ≡ true)

  other : (k : ℕ) → eqb k key ≡ false → k ≢ key
  other k apart same = let no : true ≡ false = sym (eq-eqb k key same) ∙ apart in absurd cc

  -- its end goes
  pub ends-forgotten : (keys : List (Option ℕ)) → ((i k : ℕ) → get_or keys i None ≡ Some k → k ≢ key → Passes k)
      → receiver_ends connections (vacated key keys) ≡ places_kept test (receiver_ends connections keys)
  ends-forgotten [] pass = refl
  ends-forgotten (None ∷ keys) pass =
      ap (λ (xs : List (Option ℕ)). None ∷ xs) (ends-forgotten keys (λ i k at away. pass (suc i) k at away))
  ends-forgotten (Some k ∷ keys) pass =
      by (eqb k key) refl (ends-forgotten keys (λ i n at away. pass (suc i) n at away)) where
        by : (b : Bool) → eqb k key ≡ b
            → receiver_ends connections (vacated key keys) ≡ places_kept test (receiver_ends connections keys)
            → publisher_of_key connections (cond b None (Some k)) ∷ receiver_ends connections
            (vacated key keys) ≡ places_kept test
            (publisher_of_key connections (Some k) ∷ receiver_ends connections keys)
        by true same later =
            ap (λ (xs : List (Option ℕ)). None ∷ xs) later
            ∙ ap (λ b. cond b (Some p) None ∷ places_kept test (receiver_ends connections keys)) (sym gone)
            ∙ ap (λ o. places_kept test (o ∷ receiver_ends connections keys))
            (sym (ap (λ (n : ℕ). publisher_of_key connections (Some n)) (eqb-true k key same) ∙ leads))
        by false apart later =
            let to = pass zero k refl (other k apart) in
            ap (λ o. o ∷ receiver_ends connections (vacated key keys)) to.1
            ∙ ap (λ (xs : List (Option ℕ)). Some to.0 ∷ xs) later
            ∙ ap (λ b. cond b (Some to.0) None ∷ places_kept test (receiver_ends connections keys)) (sym to.2)
            ∙ ap (λ o. places_kept test (o ∷ receiver_ends connections keys)) (sym to.1)

  -- and it is expired no more
  pub expired-forgotten : (xs : List ℕ) → ((i k : ℕ) → get_or (map Some xs) i None ≡ Some k → k ≢ key → Passes k)
      → occupants (receiver_ends connections (map Some (without key xs))) ≡ filter test
      (occupants (receiver_ends connections (map Some xs)))
  expired-forgotten [] pass = refl
  expired-forgotten (x ∷ xs) pass =
      by (eqb x key) refl (expired-forgotten xs (λ i n at away. pass (suc i) n at away)) where
        rest : List ℕ
        rest = occupants (receiver_ends connections (map Some xs))

        by : (b : Bool) → eqb x key ≡ b
            → occupants (receiver_ends connections (map Some (without key xs))) ≡ filter test rest
            → occupants (receiver_ends connections (map Some (cond (not b) (x ∷ without key xs) (without key xs))))
            ≡ filter test (occupants (publisher_of_key connections (Some x) ∷ receiver_ends connections (map Some xs)))
        by true same later =
            later
            ∙ ap (λ b. cond b (p ∷ filter test rest) (filter test rest)) (sym gone)
            ∙ ap (λ o. filter test (occupants (o ∷ receiver_ends connections (map Some xs))))
            (sym (ap (λ (n : ℕ). publisher_of_key connections (Some n)) (eqb-true x key same) ∙ leads))
        by false apart later =
            let to = pass zero x refl (other x apart) in
            ap (λ o. occupants (o ∷ receiver_ends connections (map Some (without key xs)))) to.1
            ∙ ap (λ (ns : List ℕ). to.0 ∷ ns) later
            ∙ ap (λ b. cond b (to.0 ∷ filter test rest) (filter test rest)) (sym to.2)
            ∙ ap (λ o. filter test (occupants (o ∷ receiver_ends connections (map Some xs)))) (sym to.1)
