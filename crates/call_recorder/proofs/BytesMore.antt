-- One byte more of a message.
use Rattle.std.proofs.Common.{ℕ, List, [], ◌∷◌, ◌++◌, ◌+◌, ◌≡◌, ◌≢◌, ◌<◌, ◌∙◌, Some, ap, append_assoc, arith, cond}
use Rattle.std.proofs.Common.{eq-eqb, get_or, length, nat_eq, ne_eqb, refl, subst, sym, take}
use Rattle.std.proofs.lemmas.List.{append-nil, length-take-le, map-append, take_more}
use Rattle.iox2_commands.specs.declared.command.Command.{Command}
use Rattle.iox2_commands.specs.declared.command.Command.TheVariants.{Read, SetPayload, WriteAll}
use Rattle.iox2_commands.specs.declared.reply.Reply.TheVariants.{Cell, Done}
use Rattle.call_recorder.specs.Bytes.{all_done, cells, changes_from, reads_from, writes}
use Rattle.call_recorder.specs.Recorder.{Begins, Calls}

reads-append : (of at n : ℕ) (bytes : List ℕ) (byte : ℕ) → at + length bytes ≡ n
    → reads_from of at (bytes ++ byte ∷ []) ≡ reads_from of at bytes ++ Read of n ∷ []
reads-append of at n [] byte e = ap (λ (k : ℕ). Read of k ∷ []) (omega (arith, e))
reads-append of at n (first ∷ rest) byte e =
    ap (λ (l : List (Command ℕ ℕ)). Read of at ∷ l) (reads-append of (at + 1) n rest byte (omega (arith, e)))

changes-append : (of value at n : ℕ) (bytes : List ℕ) (byte : ℕ) → at + length bytes ≡ n
    → changes_from of value at (bytes ++ byte ∷ []) ≡ changes_from of value at bytes ++ cond (nat_eq byte value) []
    (SetPayload of n byte ∷ [])
changes-append of value at n [] byte e =
    append-nil _ ∙ ap (λ (k : ℕ). cond (nat_eq byte value) [] (SetPayload of k byte ∷ [])) (omega (arith, e))
changes-append of value at n (first ∷ rest) byte e =
    ap (λ (l : List (Command ℕ ℕ)). cond (nat_eq first value) [] (SetPayload of at first ∷ []) ++ l)
    (changes-append of value (at + 1) n rest byte (omega (arith, e)))
    ∙ sym (append_assoc (cond (nat_eq first value) [] (SetPayload of at first ∷ []))
    (changes_from of value (at + 1) rest) _)

-- One read more.
pub reads-more : (of at : ℕ) (bytes : List ℕ) → at < length bytes
    → reads_from of 0 (take (at + 1) bytes) ≡ reads_from of 0 (take at bytes) ++ Read of at ∷ []
reads-more of at bytes low = rw (take_more bytes at 0 low)
    (reads-append of 0 at (take at bytes) (get_or bytes at 0)
    (omega (arith, length-take-le at bytes (omega (arith, low)))))

-- One value more that is read.
pub cells-more : (at : ℕ) (bytes : List ℕ) → at < length bytes
    → cells (take (at + 1) bytes) ≡ cells (take at bytes) ++ Cell (Some (get_or bytes at 0)) ∷ []
cells-more at bytes low = rw (take_more bytes at 0 low) (map-append _ (take at bytes) (get_or bytes at 0 ∷ []))

-- One byte more that is written.
pub writes-more : (of value at : ℕ) (bytes : List ℕ) → at < length bytes
    → writes of value (take (at + 1) bytes) ≡ writes of value (take at bytes) ++ cond
    (nat_eq (get_or bytes at 0) value) [] (SetPayload of at (get_or bytes at 0) ∷ [])
writes-more of value at bytes low = rw (take_more bytes at 0 low)
    (ap (λ (l : List (Command ℕ ℕ)). WriteAll of value ∷ l)
    (changes-append of value 0 at (take at bytes) (get_or bytes at 0)
    (omega (arith, length-take-le at bytes (omega (arith, low))))))

-- A byte that is the value is no change.
pub writes-same : (of value at : ℕ) (bytes : List ℕ) → at < length bytes → get_or bytes at 0 ≡ value
    → writes of value (take (at + 1) bytes) ≡ writes of value (take at bytes)
writes-same of value at bytes low same = writes-more of value at bytes low ∙ rw (eq-eqb _ _ same) (append-nil _)

-- Another byte is a change.
pub writes-changed : (of value at : ℕ) (bytes : List ℕ) → at < length bytes → get_or bytes at 0 ≢ value
    → writes of value (take (at + 1) bytes) ≡ writes of value (take at bytes) ++ SetPayload of at
    (get_or bytes at 0) ∷ []
writes-changed of value at bytes low other = writes-more of value at bytes low ∙ rw (ne_eqb _ _ other) refl

-- One command more that is done.
pub one-done : (commands : List (Command ℕ ℕ)) (command : Command ℕ ℕ)
    → all_done (commands ++ command ∷ []) ≡ all_done commands ++ Done ∷ []
one-done commands command = map-append _ commands (command ∷ [])

-- The reads of a call, of a position and of as many bytes by other names.
pub begins-reads : (a b : Calls) (of at limit most : ℕ) (bytes : List ℕ) → of ≡ at → limit ≡ most
    → Begins a b (reads_from of 0 (take limit bytes)) (cells (take limit bytes))
    → Begins a b (reads_from at 0 (take most bytes)) (cells (take most bytes))
begins-reads a b of at limit most bytes same count begins = rw (same, count) at begins

-- The same commands that are done.
begins-as : (a b : Calls) (xs zs : List (Command ℕ ℕ)) → xs ≡ zs → Begins a b xs (all_done xs)
    → Begins a b zs (all_done zs)
begins-as a b xs zs same begins = subst (λ (l : List (Command ℕ ℕ)). Begins a b l (all_done l)) same begins

-- The writes of a call likewise.
pub begins-writes : (a b : Calls) (of at value limit most : ℕ) (bytes : List ℕ) → of ≡ at → limit ≡ most
    → Begins a b (writes of value (take limit bytes)) (all_done (writes of value (take limit bytes)))
    → Begins a b (writes at value (take most bytes)) (all_done (writes at value (take most bytes)))
begins-writes a b of at value limit most bytes same count begins =
    begins-as a b _ _ (ap (λ (n : ℕ). writes n value (take limit bytes)) same
    ∙ ap (λ (n : ℕ). writes at value (take n bytes)) count) begins

-- A byte more that is the value.
pub begins-same : (a b : Calls) (of value at : ℕ) (bytes : List ℕ) → at < length bytes → get_or bytes at 0 ≡ value
    → Begins a b (writes of value (take at bytes)) (all_done (writes of value (take at bytes)))
    → Begins a b (writes of value (take (at + 1) bytes)) (all_done (writes of value (take (at + 1) bytes)))
begins-same a b of value at bytes low same begins =
    begins-as a b _ _ (sym (writes-same of value at bytes low same)) begins

-- Another byte more.
pub begins-changed : (a b : Calls) (of value at : ℕ) (bytes : List ℕ) → at < length bytes → get_or bytes at 0 ≢ value
    → Begins a b (writes of value (take at bytes) ++ SetPayload of at (get_or bytes at 0) ∷ [])
    (all_done (writes of value (take at bytes)) ++ Done ∷ [])
    → Begins a b (writes of value (take (at + 1) bytes)) (all_done (writes of value (take (at + 1) bytes)))
begins-changed a b of value at bytes low other begins =
    begins-as a b _ _ (sym (writes-changed of value at bytes low other))
    (rw (one-done (writes of value (take at bytes)) (SetPayload of at (get_or bytes at 0))) begins)
