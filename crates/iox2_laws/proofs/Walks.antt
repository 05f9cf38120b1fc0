-- A walk over places keeps what each of its steps keeps.
use Rattle.std.proofs.Common.{◌≡◌, ℕ, suc, ◌+◌, ◌<◌, List, [], ◌∷◌, length, sym, subst, arith, Option}
use Rattle.iox2_machine.specs.machine.Places.{occupant}
use Rattle.iox2_machine.specs.machine.Connections.{ForEachPlace}
use Rattle.iox2_machine.specs.declared.errors.ConnectionFailure.{ConnectionFailure}

module _ {Side : Type 0} (AtPlace : ℕ → Option ℕ → Side → Side → Option ConnectionFailure → Type 0)
    (Keeps : Side → Type 0) where
  -- the same for the places from some place on
  keeps_from : (place : ℕ) (rest : List (Option ℕ))
      → ((i j : ℕ) → j ≡ place + i → i < length rest → (side side' : Side) (failure : Option ConnectionFailure)
      → Keeps side → AtPlace j (occupant rest i) side side' failure → Keeps side')
      → (side side' : Side) (failure : Option ConnectionFailure) → Keeps side
      → ForEachPlace AtPlace place rest side side' failure → Keeps side'
  keeps_from place [] each side side' failure w h = subst Keeps (sym h.0) w
  keeps_from place (at ∷ rest) each side side' failure w h =
      keeps_from (place + 1) rest (λ i j e low. each (suc i) j (omega arith) (omega arith)) h.0 side' h.2
      (each 0 place (omega arith) (omega arith) side h.0 h.1 w h.3) h.4

  -- What each step at a place of the list keeps, the whole walk keeps.
  pub for_each_place_keeps : (whole : List (Option ℕ))
      → ((i : ℕ) (side side' : Side) (failure : Option ConnectionFailure) → i < length whole
      → Keeps side → AtPlace i (occupant whole i) side side' failure → Keeps side')
      → (side side' : Side) (failure : Option ConnectionFailure) → Keeps side
      → ForEachPlace AtPlace 0 whole side side' failure → Keeps side'
  for_each_place_keeps whole each =
      keeps_from 0 whole (λ i j e low side side' failure w h.
      let same : j ≡ i = omega arith in
      each i side side' failure low w (subst (λ m. AtPlace m (occupant whole i) side side' failure) same h))
