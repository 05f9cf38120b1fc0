-- Which unwritten cells a slot may have to show, and which lists its cells may have to have, which no public contract
-- shows.
use Rattle.std.specs.Prelude.{◌≡◌, ◌≢◌, ◌<◌, ◌≤◌, ◌+◌, ℕ, true, false, ◌&&◌, if◌then◌else◌, List, [], length, nat_le}
use Rattle.std.specs.Prelude.{nat_lt, slice_get, sum_by, IsSomeAnd}
use Rattle.std.specs.List.{All}
use Rattle.std.specs.declared.option.Option.TheVariants.{Some}
use Rattle.iox2_contents.specs.SlotContents.{open_count}
use Rattle.iox2_contents.specs.SlotStates.{SlotState, contents_of, slot_has_list}

module _ {T U : Type 0} where
  -- That many unwritten cells are enough to be shown as those of a slot.
  abbrev pub ShowsAtMost : (most : ℕ) → SlotState T U → Type 0
  ShowsAtMost most slot =
      (0 < slot.content.lists → (slot.content.room ≤ most) × (0 < most)) × (slot.content.is_in_place ≡ false → 0 < most)

  -- Only cells have a list.
  abbrev pub ListsCells : SlotState T U → Type 0
  ListsCells slot = slot_has_list slot ≡ true → 0 < length slot.content.cells

  -- One where the slot has a list that is long enough for each slot.
  abbrev pub one_if_long : (most : ℕ) → SlotState T U → ℕ
  one_if_long most slot = if nat_lt 0 slot.content.lists && nat_le most slot.cell_room then 1 else 0

  -- How many slots have such a list.
  abbrev pub long_count : (most : ℕ) → List (SlotState T U) → ℕ
  long_count most slots = sum_by (one_if_long most) slots

  -- Each slot that has cells finds a list for them that is `most` long. There are `lists` lists in all, and `spare` of
  -- them are to spare.
  pub record HasLists (most spare lists : ℕ) (slots : List (SlotState T U)) : Type 0 where
    pub shown : All (ShowsAtMost most) slots
    pub listed : All ListsCells slots
    pub some : All (λ slot. 0 < slot.content.lists → 0 < lists) slots
    -- No list is lost that is long enough for each slot.
    pub kept : lists ≤ spare + long_count most slots
    -- No more slots have cells than there are lists.
    pub opened : open_count (contents_of lists slots) ≤ lists

  -- The same, except that the slot at `at` has no cells any more, and may have their list still.
  pub record HasListsBut (at most spare lists : ℕ) (slots : List (SlotState T U)) : Type 0 where
    pub shown : All (ShowsAtMost most) slots
    pub listed : (slot : ℕ) (s : SlotState T U) → slice_get slots slot ≡ Some s → slot ≢ at → ListsCells s
    pub ended : IsSomeAnd (slice_get slots at) (λ slot. slot.content.cells ≡ [])
    pub some : All (λ slot. 0 < slot.content.lists → 0 < lists) slots
    pub kept : lists ≤ spare + long_count most slots
    pub opened : open_count (contents_of lists slots) ≤ lists
