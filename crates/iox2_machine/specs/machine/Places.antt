-- Places: a list has at each place the id of the port that stands there, or nothing. It is as long as places were ever
-- taken.
use Rattle.std.specs.Prelude.{ℕ, zero, suc, Bool, false, if◌then◌else◌, List, [], ◌∷◌, map, ◌==◌, nat_lt}
use Rattle.std.specs.declared.option.Option.{Option}
use Rattle.std.specs.declared.option.Option.TheVariants.{None, Some}

-- The port that stands at a place; nothing past the end.
abbrev pub occupant : List (Option ℕ) → (place : ℕ) → Option ℕ
occupant [] place = None
occupant (x ∷ xs) zero = x
occupant (x ∷ xs) (suc place) = occupant xs place

-- The ports that stand at some place, by rising place.
abbrev pub occupants : List (Option ℕ) → List ℕ
occupants [] = []
occupants (None ∷ xs) = occupants xs
occupants (Some id ∷ xs) = id ∷ occupants xs

-- This very port stands there.
abbrev pub is_port : Option ℕ → ℕ → Bool
is_port None id = false
is_port (Some other) id = other == id

-- The lowest place at which nothing stands.
abbrev pub lowest_free : List (Option ℕ) → ℕ
lowest_free [] = 0
lowest_free (None ∷ xs) = 0
lowest_free (Some id ∷ xs) = suc (lowest_free xs)

-- The lowest place at which nothing stands, if it is below the limit.
abbrev pub free_place : (limit : ℕ) → List (Option ℕ) → Option ℕ
free_place limit places = if nat_lt (lowest_free places) limit then Some (lowest_free places) else None

-- The list with this at a place; it grows if it is too short.
abbrev pub set_place : List (Option ℕ) → (place : ℕ) → Option ℕ → List (Option ℕ)
set_place [] zero x = x ∷ []
set_place [] (suc place) x = None ∷ set_place [] place x
set_place (y ∷ ys) zero x = x ∷ ys
set_place (y ∷ ys) (suc place) x = y ∷ set_place ys place x

-- The list with the port's place free.
abbrev pub vacated : ℕ → List (Option ℕ) → List (Option ℕ)
vacated id places = map (λ x. if is_port x id then None else x) places

-- The list with each place free whose port fails the test.
abbrev pub places_kept : (ℕ → Bool) → List (Option ℕ) → List (Option ℕ)
places_kept test [] = []
places_kept test (None ∷ xs) = None ∷ places_kept test xs
places_kept test (Some id ∷ xs) = (if test id then Some id else None) ∷ places_kept test xs
