-- Every port of a list changes, and keeps its id.
use Rattle.std.proofs.Common.{◌≡◌, ℕ, List, [], ◌∷◌, map, Bool, true, false, cond, eqb, Option, None, Some, refl, ap}
use Rattle.std.proofs.Common.{◌∙◌}
use Rattle.std.specs.Option.{option_map}
use Rattle.iox2_connections.specs.LookUp.{look_up}
use Rattle.iox2_domain.specs.Kept.{Named, port_named, ids, is_named}

module _ {A B : Type 0} (view : B → Named A) (change : B → B) (changed : A → A)
    (same : (x : B)
    → view (change x) ≡ (let n : Named A = record { id = (view x).id; port = changed (view x).port } in n)) where
  -- the ports by id
  pub mapped-ports : (p : ℕ) (xs : List (Option B)) → port_named p (map (option_map view) (map (option_map change) xs))
      ≡ option_map changed (port_named p (map (option_map view) xs))
  mapped-ports p [] = refl
  mapped-ports p (None ∷ xs) = mapped-ports p xs
  mapped-ports p (Some x ∷ xs) =
      ap (λ (n : Named A). option_map port (cond (eqb n.id p) (Some n)
      (look_up (is_named p) (map (option_map view) (map (option_map change) xs))))) (same x)
      ∙ by (eqb (view x).id p) (mapped-ports p xs)
    where
      port : Named A → A
      port n = n.port

      by : (b : Bool) → port_named p (map (option_map view) (map (option_map change) xs)) ≡ option_map changed
          (port_named p (map (option_map view) xs))
          → option_map port (cond b (Some (record { id = (view x).id; port = changed (view x).port }))
          (look_up (is_named p) (map (option_map view) (map (option_map change) xs))))
          ≡ option_map changed
          (option_map port (cond b (Some (view x)) (look_up (is_named p) (map (option_map view) xs))))
      by true e = refl
      by false e = e

  -- their places
  pub mapped-ids : (xs : List (Option B))
      → ids (map (option_map view) (map (option_map change) xs)) ≡ ids (map (option_map view) xs)
  mapped-ids [] = refl
  mapped-ids (None ∷ xs) = ap (λ ys. None ∷ ys) (mapped-ids xs)
  mapped-ids (Some x ∷ xs) =
      (λ i. Some ((same x i).id) ∷ ids (map (option_map view) (map (option_map change) xs)))
      ∙ ap (λ ys. Some (view x).id ∷ ys) (mapped-ids xs)
