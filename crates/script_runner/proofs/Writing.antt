-- Lemmas on writing to a stream that may fail.
use Rattle.std.proofs.Common.{◌≡◌, ℕ, ◌-◌, ◌<◌, List, [], ◌∷◌, ◌++◌, None, Some, Result, Ok, Err, IfErr, length, take}
use Rattle.std.proofs.Common.{drop, sym, ap, ◌∙◌, append_assoc, take-append-drop, arith}
use Rattle.std.proofs.lemmas.List.{take_rest}
use Rattle.std.specs.declared.option.Option.{Option}
use Rattle.std.specs.Io.KnownBytes.{Appends, Keeps}
use Rattle.script_runner.specs.Writing.{AppendsPart}

-- Bytes that grew and then stayed grew.
pub Appends-kept : (a b c : Option (List ℕ)) (bytes : List ℕ) → Appends a b bytes → Keeps b c → Appends a c bytes
Appends-kept None b c bytes grew kept = tt
Appends-kept (Some x) None c bytes grew kept = absurd grew
Appends-kept (Some x) (Some y) None bytes grew kept = absurd kept
Appends-kept (Some x) (Some y) (Some z) bytes grew kept = kept ∙ grew

-- A stream that took some first bytes, and stayed while there was a rest, has a part.
pub AppendsPart-rest : (a b : Option (List ℕ)) (bytes done rest : List ℕ) → bytes ≡ done ++ rest → 0 < length rest
    → Appends a b done → AppendsPart a b bytes
AppendsPart-rest a b bytes done [] split more grew = absurd (omega (arith, more))
AppendsPart-rest a b bytes done (next ∷ others) split more grew = (done, next, others, split, grew)

-- The first ones of the rest go to what is done.
pub moves_front : (all done rest : List ℕ) (count : ℕ) → all ≡ done ++ rest
    → all ≡ (done ++ take count rest) ++ take (length rest - count) (drop count rest)
moves_front all done rest count split =
    split ∙ ap (λ l. done ++ l) (sym (take-append-drop count rest))
    ∙ sym (append_assoc done (take count rest) (drop count rest))
    ∙ ap (λ l. (done ++ take count rest) ++ l) (sym (take_rest rest count))

-- What holds of each error holds where there is one.
pub if_err : {T E : Type 0} {P : E → Type 0} (r : Result T E) → ((e : E) → P e) → IfErr r P
if_err (Ok x) all = tt
if_err (Err e) all = all e
