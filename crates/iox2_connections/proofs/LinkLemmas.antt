-- What a connection's calls are to the lists of its slots.
use Rattle.std.proofs.Common.{◌≡◌, ℕ, ◌<◌, List, [], ◌∷◌, ◌++◌, true, false, not, length, map, drop, refl, Option, Some}
use Rattle.std.proofs.Common.{None, arith, ap, sym, ◌∙◌}
use Rattle.std.proofs.lemmas.Bool.{false≢true}
use Rattle.std.specs.Prelude.{slice_get}
use Rattle.iox2_connections.specs.Link.{Link, has_other_slots, IsTaken, IsDropped, IsReclaimed}
use Rattle.iox2_machine.specs.machine.Mailbox.{ChannelNumber}
use Rattle.iox2_machine.specs.machine.Numbers.{is_nil}

-- the first waiting slot of a ring was borrowed
pub taken_first : (c d : Link) (xs : List ℕ) (slot : ℕ) → c.waiting ≡ xs → Some slot ≡ slice_get xs 0
    → d ≡ record c { waiting = drop 1 xs; borrowed = c.borrowed ++ slot ∷ [] } → IsTaken c (Some slot) d
taken_first c d [] slot w e f = absurd (let g : Some slot ≡ None = e in cc)
taken_first c d (x ∷ xs) slot w e f = let g : Some slot ≡ Some x = e in let h : slot ≡ x = cc in
    (xs, w ∙ ap (λ (y : ℕ). y ∷ xs) (sym h), f)

-- the first waiting slot of a ring went
pub dropped_first : (c d : Link) (xs : List ℕ) (o : Option ℕ) → c.waiting ≡ xs → o ≡ slice_get xs 0
    → d ≡ record c { waiting = drop 1 xs } → IsDropped c o d
dropped_first c d [] o r e f = rw e (r, f ∙ ap (λ (ys : List ℕ). let l : Link = record c { waiting = ys } in l) (sym r))
dropped_first c d (x ∷ xs) o r e f = rw e (xs, r, f)

-- the first slot that was given back went
pub reclaimed_first : (c d : Link) (xs : List ℕ) (o : Option ℕ) → c.returned ≡ xs → o ≡ slice_get xs 0
    → d ≡ record c { returned = drop 1 xs } → IsReclaimed c o d
reclaimed_first c d [] o r e f =
    rw e (r, f ∙ ap (λ (ys : List ℕ). let l : Link = record c { returned = ys } in l) (sym r))
reclaimed_first c d (x ∷ xs) o r e f = rw e (xs, r, f)

-- ---- the other channels

-- some slot waits there, or none does
pub some-others : (c : Link) → has_other_slots c ≡ true → 0 < length c.others
some-others c = by c.others where
  by : (ms : List ChannelNumber) → not (is_nil (map (λ (m : ChannelNumber). m.number) ms)) ≡ true → 0 < length ms
  by [] none = absurd (false≢true none)
  by (m ∷ ms) some = omega arith

pub no-others : (c : Link) → has_other_slots c ≡ false → length c.others ≡ 0
no-others c = by c.others where
  by : (ms : List ChannelNumber) → not (is_nil (map (λ (m : ChannelNumber). m.number) ms)) ≡ false → length ms ≡ 0
  by [] none = refl
  by (m ∷ ms) some = absurd (false≢true (sym some))
