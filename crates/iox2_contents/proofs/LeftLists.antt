-- What is left behind a reference to a list with room, of which the last elements may be hidden.
use Rattle.std.proofs.Common.{◌≡◌, ◌≤◌, ◌∙◌, ℕ, Option, None, Some, true, zero, suc, replicate, List, [], ◌∷◌, ◌++◌}
use Rattle.std.proofs.Common.{length, take, drop, refl, ap, sym, arith}
use Rattle.std.proofs.lemmas.List.{length-append, length-drop, length-take-le, take-append-le, take-take}
use Rattle.std.proofs.lemmas.Bool.{true≢false}
use Rattle.std.proofs.lemmas.List.Elements.{All-cons, All-nil}
use Rattle.std.specs.Prelude.{IsSome}
use Rattle.std.specs.List.{All, list_all}
use Rattle.std.specs.Option.{is_some}
use Rattle.iox2_contents.specs.CellLists.{CellList}
use Rattle.iox2_contents.specs.RoomLists.{RoomList, with_each}

-- these items, with that room
abbrev pub room-list : {A : Type 0} → List A → ℕ → RoomList A
room-list items room = record { items = items; room = room }

-- no items
pub no-items : {A : Type 0} (xs : List A) → length xs ≡ 0 → xs ≡ []
no-items [] none = refl
no-items (x ∷ xs) none = absurd (omega (arith, none))

-- these cells, with that room, of so many lists
abbrev pub cell-list : {T : Type 0} → List (Option T) → (room lists : ℕ) → CellList T
cell-list items room lists = record { items = items; room = room; lists = lists }

-- cells that are all written are all listed
pub all-written : {T : Type 0} (xs : List (Option T)) (n : ℕ) → list_all is_some (xs ++ replicate n None) ≡ true
    → All IsSome xs × (n ≡ 0)
all-written [] zero is = (All-nil IsSome, refl)
all-written [] (suc n) is = absurd (true≢false (sym is))
all-written (None ∷ xs) n is = absurd (true≢false (sym is))
all-written (Some x ∷ xs) n is = let rest = all-written xs n is in (All-cons IsSome (Some x) xs refl rest.0, rest.1)

-- all cells of a list with none behind them
pub cells-each : {T : Type 0} (n room lists : ℕ) (xs zs ws : List (Option T)) → n ≡ length xs → zs ≡ xs
    → cell-list (take n (ws ++ drop (length ws) xs)) room lists ≡ cell-list
    (take (length zs) (ws ++ drop (length ws) zs)) room lists
cells-each n room lists xs zs ws long same = rw (same, long) refl

-- taking twice is taking once
take-same : {A : Type 0} (n : ℕ) (xs : List A) → take n xs ≡ take n (take n xs)
take-same zero xs = refl
take-same (suc n) [] = refl
take-same (suc n) (x ∷ xs) = ap (λ ys. x ∷ ys) (take-same n xs)

-- of a list with others written over its first ones, the first are those of its own first ones with these written over
-- them
take-refill : {A : Type 0} (n : ℕ) (ws xs : List A)
    → take n (ws ++ drop (length ws) xs) ≡ take n (ws ++ drop (length ws) (take n xs))
take-refill zero ws xs = refl
take-refill (suc n) [] xs = take-same (suc n) xs
take-refill (suc n) (w ∷ ws) [] = refl
take-refill (suc n) (w ∷ ws) (x ∷ xs) = ap (λ ys. w ∷ ys) (take-refill n ws xs)

long-enough : {A : Type 0} (ws xs : List A) (u : ℕ) → u ≤ length xs → u ≤ length (ws ++ drop (length ws) xs)
long-enough ws xs u within = rw (length-append, length-drop) (omega (arith, within))

-- the shown items of a list, behind which others are
pub shown-each : {A : Type 0} (u n cap : ℕ) (xs ws : List A) (list : RoomList A) → u ≤ n → n ≡ length xs
    → take u xs ≡ list.items → cap ≡ list.room
    → (over : List A) → over ≡ ws ++ drop (length ws) xs
    → room-list (take u (take n (over ++ drop (length over) xs))) cap ≡ with_each ws list
shown-each u n cap xs ws list within long same room over is =
    let fits : u ≤ length xs = omega (arith, within, long) in
    let first : take u (take n (over ++ drop (length over) xs)) ≡ take u over =
    take-take u n (over ++ drop (length over) xs) within
    ∙ take-append-le u over (drop (length over) xs) (rw is (long-enough ws xs u fits)) in
    let items : take u over ≡ take u (ws ++ drop (length ws) list.items) =
    ap (take u) is ∙ take-refill u ws xs ∙ ap (λ ys. take u (ws ++ drop (length ws) ys)) same in
    let count : u ≡ length list.items = sym (length-take-le u xs fits) ∙ ap length same in
    rw (first, items, ← count, room) refl
