-- Lemmas on the lines of a text.
use Rattle.std.proofs.Common.{ℕ, suc, ◌≡◌, ◌≢◌, ◌<◌, ◌≤◌, ◌+◌, ◌==◌, ◌⊎◌, inl, inr, true, false, List, [], ◌∷◌, ◌++◌}
use Rattle.std.proofs.Common.{length, take, drop, refl, sym, ap, ◌∙◌, arith}
use Rattle.std.proofs.Math.Seq.{drop-cons}
use Rattle.std.proofs.lemmas.Bool.Decides.{eqb_tells}
use Rattle.std.proofs.lemmas.List.{get_or-take, length-take-le, take-append-drop}
use Rattle.std.proofs.lemmas.List.Splits.{length-slice_split, slice_split_at, slice_split_none}
use Rattle.std.specs.List.{All, AllWithin, HoldsAt, slice_split}
use Rattle.std.specs.Str.Lines.{lines, lines_of_parts, strip_carriage_return}

-- Another byte is no line feed.
pub no_line_feed : (b : ℕ) → ((b == 10) ≡ true) × (b ≡ 10) ⊎ ((b == 10) ≡ false) × (b ≢ 10) → b ≢ 10 → (b == 10) ≡ false
no_line_feed b (inl (is, same)) other = absurd (other same)
no_line_feed b (inr (is, different)) other = is

-- What stands before the first line feed has none.
pub no_line_feed-before : (text : List ℕ) (end : ℕ) → end ≤ length text → AllWithin (λ b. b ≢ 10) text 0 end
    → All (λ b. (b == 10) ≡ false) (take end text)
no_line_feed-before text end inside before k d small =
    let within : k < end = omega (arith, small, length-take-le end text inside) in
    ap (λ b. b == 10) (get_or-take end text k d within)
    ∙ no_line_feed _ (eqb_tells _ 10) (before k d (omega arith) within)

-- A part before another is a line.
pub lines_of_parts-cons : (part : List ℕ) (parts : List (List ℕ)) → 0 < length parts
    → lines_of_parts (part ∷ parts) ≡ strip_carriage_return part ∷ lines_of_parts parts
lines_of_parts-cons part [] none = absurd (omega (arith, none))
lines_of_parts-cons part (next ∷ parts) some = refl

-- A text without a line feed is one line, where it isn't empty.
pub lines-last : (text : List ℕ) → (length text == 0) ≡ false → AllWithin (λ b. b ≢ 10) text 0 (length text)
    → lines text ≡ text ∷ []
lines-last text some none =
    ap lines_of_parts (slice_split_none (λ b. b == 10) text
    (λ k d below. no_line_feed _ (eqb_tells _ 10) (none k d (omega arith) below))) ∙ rw some refl

-- The first line ends before the first line feed, and the others follow it.
pub lines-cons : (text : List ℕ) (end : ℕ) → end < length text → HoldsAt (λ b. b ≡ 10) text end
    → AllWithin (λ b. b ≢ 10) text 0 end
    → lines text ≡ strip_carriage_return (take end text) ∷ lines (drop (end + 1) text)
lines-cons text end below is before =
    let after : suc end ≡ end + 1 = omega arith in
    let cut : text ≡ take end text ++ 10 ∷ drop (end + 1) text =
    sym (take-append-drop end text) ∙ ap (λ z. take end text ++ z)
    (drop-cons text end 0 below ∙ ap (λ b. b ∷ drop (suc end) text) (is 0) ∙ ap (λ j. 10 ∷ drop j text) after) in
    let split = ap (slice_split (λ b. b == 10)) cut ∙ slice_split_at (λ b. b == 10) (take end text) 10
    (drop (end + 1) text) (no_line_feed-before text end (omega (arith, below)) before) refl in
    ap lines_of_parts split
    ∙ lines_of_parts-cons (take end text) (slice_split (λ b. b == 10) (drop (end + 1) text))
    (omega (arith, length-slice_split (λ b. b == 10) (drop (end + 1) text)))
