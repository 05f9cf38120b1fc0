-- Lemmas on the words of a line.
use Rattle.std.proofs.Common.{rules, ℕ, ◌≡◌, ◌<◌, true, false, List, [], ◌∷◌, ◌++◌, Option, Some, None, length, Bor}
use Rattle.std.proofs.Common.{refl, sym, ap, ◌∙◌, append_assoc, append-nil, length-append, arith}
use Rattle.std.specs.Prelude.{◌==◌}
use Rattle.std.proofs.lemmas.List.{map-append, length-map}
use Rattle.std.specs.Str.Iter.{split_steps}
use Rattle.std.specs.Str.Pattern.{FindsChar}
use Rattle.std.specs.declared.str.Split.{Split}
use Rattle.std.specs.Iterator.{AlwaysYields}
use Rattle.std.specs.List.{filter}
use Rattle.script_text.specs.Words.{is_word, texts}

-- An item that comes is the first of those that are left.
pub yields-some : {S A B : Type 0} (steps : S → Option A → S → Type 0) (v : A → B) (s : S) (left : List B) (x : A)
    (t : S) → AlwaysYields steps v s left
    → steps s (Some x) t → (others : List B) × (left ≡ v x ∷ others) × AlwaysYields steps v t others
yields-some steps v s [] x t yields step = absurd (yields x t step)
yields-some steps v s (y ∷ ys) x t yields step = let (same, others) = yields.1 x t step in
    (ys, ap (λ z. z ∷ ys) (sym same), others)

-- None comes where no item is left.
pub yields-none : {S A B : Type 0} (steps : S → Option A → S → Type 0) (v : A → B) (s : S) (left : List B) (t : S)
    → AlwaysYields steps v s left → steps s None t → left ≡ []
yields-none steps v s [] t yields step = refl
yields-none steps v s (y ∷ ys) t yields step = absurd (yields.0 t step)

-- A piece with a byte is a word.
pub is_word-some : (piece : List ℕ) → false ≡ (length piece == 0) → is_word piece ≡ true
is_word-some [] some = search rules
is_word-some (byte ∷ bytes) some = refl

-- An empty piece is none.
pub is_word-none : (piece : List ℕ) → true ≡ (length piece == 0) → is_word piece ≡ false
is_word-none [] none = refl
is_word-none (byte ∷ bytes) none = search rules

-- A word that is stored is the first of those that were left.
pub texts-stored : (words : List (Bor (List ℕ))) (word : Bor (List ℕ)) (others : List (List ℕ))
    → is_word word.now ≡ true
    → texts words ++ filter is_word (word.now ∷ others) ≡ texts (words ++ word ∷ []) ++ filter is_word others
texts-stored words word others is =
    rw is (sym (ap (λ ws. ws ++ filter is_word others) (map-append (λ (w : Bor (List ℕ)). w.now) words (word ∷ []))
    ∙ append_assoc (texts words) (word.now ∷ []) (filter is_word others)))

-- An empty piece is left out.
pub filter-left_out : (piece : List ℕ) (others : List (List ℕ)) → is_word piece ≡ false
    → filter is_word (piece ∷ others) ≡ filter is_word others
filter-left_out piece others is = rw is refl

-- Between spaces, the pieces that are left.
abbrev pub PiecesLeft : Split ℕ → List (List ℕ) → Type 0
PiecesLeft iterator left =
    AlwaysYields (split_steps FindsChar (λ a b. b ≡ a)) {B = List ℕ} (λ (x : Bor (List ℕ)). x.now) iterator left

-- At a word, which is stored, the words so far and those that are left stay the words of the line.
pub word-stored : (iterator iterator' : Split ℕ) (all left : List (List ℕ)) (words words' : List (Bor (List ℕ)))
    (word : Bor (List ℕ)) → PiecesLeft iterator left
    → all ≡ texts words ++ filter is_word left → split_steps FindsChar (λ a b. b ≡ a) iterator (Some word) iterator'
    → false ≡ (length word.now == 0)
    → words' ≡ words ++ word ∷ []
    → (others : List (List ℕ)) × PiecesLeft iterator' others × (all ≡ texts words' ++ filter is_word others)
word-stored iterator iterator' all left words words' word yields is step some stored =
    let (others, first, rest) = yields-some (split_steps FindsChar (λ a b. b ≡ a))
    (λ (x : Bor (List ℕ)). x.now) iterator left word iterator' yields step in (
      others,
      rest,
      is ∙ ap (λ z. texts words ++ filter is_word z) first ∙ texts-stored words word others (is_word-some word.now some)
          ∙ ap (λ z. texts z ++ filter is_word others) (sym stored),
    )

-- At a word that finds no room, the line has more words than were stored.
pub word-refused : (iterator iterator' : Split ℕ) (all left : List (List ℕ)) (words : List (Bor (List ℕ)))
    (word : Bor (List ℕ)) → PiecesLeft iterator left
    → all ≡ texts words ++ filter is_word left → split_steps FindsChar (λ a b. b ≡ a) iterator (Some word) iterator'
    → false ≡ (length word.now == 0)
    → length words < length all
word-refused iterator iterator' all left words word yields is step some =
    let (others, first, rest) = yields-some (split_steps FindsChar (λ a b. b ≡ a))
    (λ (x : Bor (List ℕ)). x.now) iterator left word iterator' yields step in
    let kept : all ≡ texts (words ++ word ∷ []) ++ filter is_word others =
    is ∙ ap (λ z. texts words ++ filter is_word z) first
    ∙ texts-stored words word others (is_word-some word.now some) in
    rw kept (omega (
      arith,
      length-append (texts (words ++ word ∷ [])) (filter is_word others),
      length-map (words ++ word ∷ []) (λ (x : Bor (List ℕ)). x.now),
      length-append words (word ∷ []),
    ))

-- At an empty piece nothing changes.
pub piece-left_out : (iterator iterator' : Split ℕ) (all left : List (List ℕ)) (words : List (Bor (List ℕ)))
    (word : Bor (List ℕ)) → PiecesLeft iterator left
    → all ≡ texts words ++ filter is_word left → split_steps FindsChar (λ a b. b ≡ a) iterator (Some word) iterator'
    → true ≡ (length word.now == 0)
    → (others : List (List ℕ)) × PiecesLeft iterator' others × (all ≡ texts words ++ filter is_word others)
piece-left_out iterator iterator' all left words word yields is step none =
    let (others, first, rest) = yields-some (split_steps FindsChar (λ a b. b ≡ a))
    (λ (x : Bor (List ℕ)). x.now) iterator left word iterator' yields step in (
      others,
      rest,
      is ∙ ap (λ z. texts words ++ filter is_word z) first
          ∙ ap (λ z. texts words ++ z) (filter-left_out word.now others (is_word-none word.now none)),
    )

-- At the end the words so far are those of the line.
pub all-stored : (iterator iterator' : Split ℕ) (all left : List (List ℕ)) (words : List (Bor (List ℕ)))
    → PiecesLeft iterator left
    → all ≡ texts words ++ filter is_word left → split_steps FindsChar (λ a b. b ≡ a) iterator None iterator'
    → texts words ≡ all
all-stored iterator iterator' all left words yields is step =
    let none = yields-none (split_steps FindsChar (λ a b. b ≡ a))
    (λ (x : Bor (List ℕ)). x.now) iterator left iterator' yields step in
    sym (is ∙ ap (λ z. texts words ++ filter is_word z) none ∙ append-nil (texts words))
