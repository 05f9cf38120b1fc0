-- The words so far, and those of the pieces that are left, are the words of the line.
use Rattle.std.proofs.Common.{◌≡◌, ◌++◌, ℕ, List}
use Rattle.std.specs.List.{filter}
use Rattle.script_text.specs.Words.{is_word, line_words, texts}
use Rattle.script_text.proofs.WordLemmas.{PiecesLeft}
use Rattle.script_text.proofs.parse.split_words.Given as goal

abbrev pub invariant-loop-word : goal.invariant-loop-word
invariant-loop-word l = (left : List (List ℕ)) × PiecesLeft l.word-iterator left
    × (line_words l.line ≡ texts l.words.items ++ filter is_word left)
