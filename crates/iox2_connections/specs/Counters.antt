-- The counters of one publisher's slots, and the connections in which its slots stand.
use Rattle.std.specs.Prelude.{◌≡◌, ◌≢◌, ℕ, ◌+◌, ◌-◌, ◌<◌, ◌≤◌, ◌==◌, if◌then◌else◌, List, count_by, sum_by, slice_index}
use Rattle.std.specs.Prelude.{slice_set}
use Rattle.std.specs.declared.option.Option.{Option}
use Rattle.std.specs.declared.option.Option.TheVariants.{None, Some}
use Rattle.iox2_connections.specs.Link.{Link, other_slots}
use Rattle.iox2_slots.specs.SlotBook.{Book}
use Rattle.iox2_connections.specs.declared.connection.PutOutcome.{PutOutcome}
use Rattle.iox2_connections.specs.declared.connection.PutOutcome.TheVariants.{Taken, Overwrote, Full}

-- How often a slot stands in a list.
abbrev pub times : (slot : ℕ) → List ℕ → ℕ
times slot slots = count_by (λ other. other == slot) slots

-- How often a slot stands in a connection.
abbrev pub stands_in : (slot : ℕ) → Link → ℕ
stands_in slot c = times slot c.waiting + times slot c.borrowed + times slot c.returned + times slot (other_slots c)

-- How often a slot of the publisher p stands in a connection.
abbrev pub stands : (p slot : ℕ) → Option Link → ℕ
stands p slot None = 0
stands p slot (Some c) = if c.home.publisher == p then stands_in slot c else 0

-- No slot of the publisher p stands in connections more often than its counter says.
pub record IsCovered (p : ℕ) (holders : List ℕ) (connections : List (Option Link)) : Type 0 where
  pub at : (slot : ℕ) → sum_by (stands p slot) connections ≤ slice_index holders slot

-- The publisher p itself holds the slot: its counter is above the number of times that it stands in connections.
pub record HoldsItself (p slot : ℕ) (holders : List ℕ) (connections : List (Option Link)) : Type 0 where
  pub more : sum_by (stands p slot) connections < slice_index holders slot

-- No slot but this one has more holders than before.
pub record GrowsAlone (slot : ℕ) (holders holders' : List ℕ) : Type 0 where
  pub others : (other : ℕ) → other ≢ slot → slice_index holders' other ≤ slice_index holders other

-- The counters of the publisher p changed as the numbers did of how often its slots stand in connections.
pub record CountersFollow (p : ℕ) (holders : List ℕ) (connections : List (Option Link)) (holders' : List ℕ)
    (connections' : List (Option Link)) : Type 0 where
  pub at : (slot : ℕ) → slice_index holders' slot + sum_by
      (stands p slot) connections ≡ slice_index holders slot + sum_by (stands p slot) connections'

-- The counters with one holder more of the slot.
abbrev pub one_holder_more : (slot : ℕ) → List ℕ → List ℕ
one_holder_more slot holders = slice_set holders slot (slice_index holders slot + 1)

-- The counters with one holder less of the slot.
abbrev pub one_holder_less : (slot : ℕ) → List ℕ → List ℕ
one_holder_less slot holders = slice_set holders slot (slice_index holders slot - 1)

-- The counters after a put of the slot.
abbrev pub recounted : PutOutcome → (slot : ℕ) → List ℕ → List ℕ
recounted Taken slot holders = one_holder_more slot holders
recounted (Overwrote oldest) slot holders = one_holder_less oldest (one_holder_more slot holders)
recounted Full slot holders = holders

-- A slot that was overwritten has a holder.
abbrev pub CanLeave : PutOutcome → List ℕ → Type 0
CanLeave Taken holders = Unit {0}
CanLeave (Overwrote oldest) holders = 0 < slice_index holders oldest
CanLeave Full holders = Unit {0}

-- The book with these counters.
abbrev pub with_counters : Book → List ℕ → Book
with_counters book holders = record book { holders = holders }
