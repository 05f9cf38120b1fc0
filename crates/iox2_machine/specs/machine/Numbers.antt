-- Words on lists of message numbers and port ids, and on functions that are changed at one argument.
use Rattle.std.specs.Prelude.{ℕ, Bool, true, false, if◌then◌else◌, not, List, [], ◌∷◌, length, drop, ◌≡◌, ◌-◌, ◌==◌, ⊤}
use Rattle.std.specs.List.{filter, list_any}

-- The function f with x at k.
abbrev pub put_at : {X : Type 0} → (ℕ → X) → ℕ → X → ℕ → X
put_at f k x = λ i. if i == k then x else f i

-- n stands in the list.
abbrev pub contains : List ℕ → ℕ → Bool
contains ns n = list_any (λ m. m == n) ns

-- The list with n taken out.
abbrev pub without : ℕ → List ℕ → List ℕ
without n ns = filter (λ m. not (m == n)) ns

-- The list has no element.
abbrev pub is_nil : List ℕ → Bool
is_nil [] = true
is_nil (n ∷ ns) = false

-- The last n elements of the list, or all if there are fewer.
abbrev pub last_n : {X : Type 0} → (n : ℕ) → List X → List X
last_n n xs = drop (length xs - n) xs

-- The list with each number once.
abbrev pub distinct : List ℕ → List ℕ
distinct [] = []
distinct (n ∷ ns) = if contains ns n then distinct ns else n ∷ distinct ns

-- How many different numbers the list has.
abbrev pub size : List ℕ → ℕ
size ns = length (distinct ns)

-- No number stands in the list twice.
abbrev pub IsOnce : List ℕ → Type 0
IsOnce [] = ⊤
IsOnce (n ∷ ns) = (contains ns n ≡ false) × IsOnce ns
