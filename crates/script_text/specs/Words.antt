-- The lines of a script, and the words of a line.
use Rattle.std.specs.Prelude.{ℕ, Bool, true, false, List, [], ◌∷◌, length, map, slice_index_or, ◌==◌}
use Rattle.std.specs.Borrow.{Bor}
use Rattle.std.specs.List.{filter, slice_split}

-- How many words there are, and the word at each position; past the last one it is empty.
pub record Words : Type 0 where
  pub count : ℕ
  pub word : ℕ → List ℕ

-- The words of a list.
abbrev pub words_of : List (List ℕ) → Words
words_of texts = record { count = length texts; word = λ i. slice_index_or texts i [] }

-- The words of a list that code holds.
abbrev pub words_in : List (Bor (List ℕ)) → Words
words_in words =
    record { count = length words; word = λ i. (slice_index_or words i (record { ref_ptr = (0, 0); now = [] })).now }

-- The bytes of the words that code holds.
abbrev pub texts : List (Bor (List ℕ)) → List (List ℕ)
texts words = map (λ w. w.now) words

-- A word has at least one byte.
abbrev pub is_word : List ℕ → Bool
is_word [] = false
is_word (byte ∷ bytes) = true

-- The words of a line are what stands between spaces.
abbrev pub line_words : List ℕ → List (List ℕ)
line_words line = filter is_word (slice_split (λ b. b == 32) line)
