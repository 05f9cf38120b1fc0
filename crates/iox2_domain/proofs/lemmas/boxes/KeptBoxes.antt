-- The boxes of a port after those of another one were added or taken out.
use Rattle.std.proofs.Common.{◌≡◌, ◌≢◌, ℕ, Bool, true, false, not, List, [], ◌∷◌, ◌++◌, refl, Some, None, arith}
use Rattle.std.proofs.lemmas.Grind.{common_steps}
use Rattle.std.specs.List.{filter}
use Rattle.iox2_domain.specs.declared.boxes.PortBox.{PortBox}
use Rattle.iox2_domain.specs.declared.boxes.PortBoxes.{PortBoxes}
use Rattle.iox2_domain.specs.Boxes.{is_of, boxes_of}

module _ {F G : Type 0} where
  -- The boxes aren't those of the port with this id.
  abbrev pub is_other : ℕ → PortBox F G → Bool
  is_other id x = not (is_of id x)

  -- Without its boxes the port has none.
  pub boxes_of-without : (id : ℕ) (xs : List (PortBox F G)) → boxes_of id (filter (is_other id) xs) ≡ None
  boxes_of-without id [] = refl
  boxes_of-without id (x ∷ xs) = at (is_of id x) refl (boxes_of-without id xs) where
    at : (b : Bool) → is_of id x ≡ b → boxes_of id (filter (is_other id) xs) ≡ None
        → boxes_of id (filter (is_other id) (x ∷ xs)) ≡ None
    at true e rest = rw e rest
    at false e rest = rw (e, e) rest

  -- The other ports have the boxes that they had.
  pub boxes_of-others : (id port : ℕ) → port ≢ id → (xs : List (PortBox F G))
      → boxes_of port (filter (is_other id) xs) ≡ boxes_of port xs
  boxes_of-others id port other [] = refl
  boxes_of-others id port other (x ∷ xs) = grind (arith, common_steps, boxes_of-others id port other xs)

  -- The last boxes are those of their port, if no other ones are.
  pub boxes_of-last : (id : ℕ) (b : PortBoxes F G) (xs : List (PortBox F G)) → boxes_of id xs ≡ None
      → boxes_of id (xs ++ record { id = id; boxes = b } ∷ []) ≡ Some b
  boxes_of-last id b [] none = grind (arith, common_steps)
  boxes_of-last id b (x ∷ xs) none = grind (arith, common_steps, boxes_of-last id b xs)

  -- The last boxes change nothing for the other ports.
  pub boxes_of-before : (id port : ℕ) (b : PortBoxes F G) → port ≢ id → (xs : List (PortBox F G))
      → boxes_of port (xs ++ record { id = id; boxes = b } ∷ []) ≡ boxes_of port xs
  boxes_of-before id port b other [] = grind (arith, common_steps)
  boxes_of-before id port b other (x ∷ xs) = grind (arith, common_steps, boxes_of-before id port b other xs)
