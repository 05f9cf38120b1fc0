-- A publisher's history is put into a connection, one slot after the other.
use Rattle.std.proofs.Common.{◌≡◌, ℕ, ◌+◌, ◌-◌, ◌<◌, ◌≤◌, ◌^◌, List, [], ◌∷◌, ◌++◌, length, drop, ap, sym, ◌∙◌, arith}
use Rattle.std.proofs.Common.{append_assoc}
use Rattle.std.proofs.lemmas.List.{length-set}
use Rattle.std.proofs.lemmas.List.Sums.{sum_by-append, sum_by-take-drop}
use Rattle.std.specs.Prelude.{slice_get}
use Rattle.circular_buffer.proofs.Places.{slice_get-some}
use Rattle.std.specs.declared.option.Option.TheVariants.{None, Some}
use Rattle.iox2_connections.specs.Link.{Link}
use Rattle.iox2_slots.specs.SlotBook.{Book, holders_at}
use Rattle.iox2_machine.specs.machine.Numbers.{last_n}
use Rattle.iox2_connections.specs.Counters.{times, with_counters, one_holder_more}
use Rattle.iox2_connections.proofs.Counts.{one_if, one_if_same, in_range, get_or-one_holder_more}
use Rattle.iox2_connections.proofs.SplitLists.{split-at, times-split}

-- The slots of the history below this index were put into the connection, from the first that fits on.
pub record HandsOutFrom (slots : List ℕ) (c : Link) (b : Book) (index : ℕ) (c' : Link) (b' : Book) : Type 0 where
  pub connection : c' ≡ record c { waiting = c'.waiting }
  pub waiting : c'.waiting ++ drop index slots ≡ last_n c.buffer slots
  pub book : b' ≡ with_counters b b'.holders
  pub kept : length b'.holders ≡ length b.holders
  pub counters : (slot : ℕ)
      → holders_at b' slot + times slot (drop index slots) ≡ holders_at b slot + times slot (last_n c.buffer slots)

pub times-append : (s : ℕ) (xs ys : List ℕ) → times s (xs ++ ys) ≡ times s xs + times s ys
times-append s xs ys = sum_by-append (λ y. one_if s y) xs ys

-- a slot stands among the last of a list no more often than in the list
pub times-last : (s n : ℕ) (xs : List ℕ) → times s (last_n n xs) ≤ times s xs
times-last s n xs = omega (arith, sum_by-take-drop (λ y. one_if s y) xs (length xs - n))

module _ (slots : List ℕ) (c : Link) (b : Book) (index slot : ℕ) (c' : Link) (b' : Book)
    (h : HandsOutFrom slots c b index c' b') (at : slice_get slots index ≡ Some slot) where
  grown : (s : ℕ) → holders_at b' s ≡ holders_at b s + times s c'.waiting
  grown s =
      let all : times s (last_n c.buffer slots) ≡ times s c'.waiting + times s (drop index slots) =
      ap (times s) (sym h.waiting) ∙ times-append s c'.waiting (drop index slots) in
      omega (arith, h.counters s, all)

  stands : 0 < times slot slots
  stands = omega
      (arith, sum_by-take-drop (λ y. one_if slot y) slots index, times-split slots index slot at slot, one_if_same slot)

  -- the next slot has a holder
  pub next-in_use : ((s : ℕ) → 0 < times s slots → 0 < holders_at b s) → 0 < holders_at b' slot
  next-in_use in_use = omega (arith, in_use slot stands, grown slot)

  -- and may have one more
  pub next-fits : ((s : ℕ) → holders_at b s + times s slots < 2 ^ 64) → holders_at b' slot + 1 < 2 ^ 64
  next-fits fits = omega (
    arith,
    fits slot,
    h.counters slot,
    times-last slot c.buffer slots,
    times-split slots index slot at slot,
    one_if_same slot,
  )

  -- it is put in
  pub next-put : 0 < holders_at b' slot → HandsOutFrom slots c b (index + 1)
      (record c' { waiting = c'.waiting ++ slot ∷ [] }) (with_counters b' (one_holder_more slot b'.holders))
  next-put in_use = record {
    connection = ap (λ (d : Link). record d { waiting = c'.waiting ++ slot ∷ [] }) h.connection;
    waiting = append_assoc c'.waiting (slot ∷ []) (drop (index + 1) slots)
        ∙ ap (λ xs. c'.waiting ++ xs) (sym (split-at slots index slot at)) ∙ h.waiting;
    book = ap (λ (d : Book). with_counters d (one_holder_more slot b'.holders)) h.book;
    kept = length-set b'.holders slot _ ∙ h.kept;
    counters = λ s. omega (
      arith,
      get_or-one_holder_more b'.holders slot s (in_range b'.holders slot in_use),
      h.counters s,
      times-split slots index slot at s,
    );
  }

-- a slot stands below the end
pub stands-below : (slots : List ℕ) (index : ℕ) → index < length slots → slice_get slots index ≡ None → ⊥
stands-below slots index low none =
    let some = slice_get-some slots index low in
    absurd (let no : None ≡ Some some.0 = sym none ∙ some.1 in cc)
