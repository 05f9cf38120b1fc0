-- The cells of a loan in their list, which no public contract shows.
use Rattle.std.specs.Prelude.{ℕ, Bool, ◌&&◌, ◌==◌, if◌then◌else◌, List, length, nat_lt, slice_set}
use Rattle.std.specs.List.{refill}
use Rattle.std.specs.declared.option.Option.{Option}

-- 1 if a publisher keeps that many lists, and 0 if it keeps none.
abbrev pub keeps : (lists : ℕ) → ℕ
keeps lists = if nat_lt 0 lists then 1 else 0

-- The cells of an unwritten loan, for how many there is room in a list of theirs, and 1 where the publisher keeps
-- lists, or 0.
pub record CellList (T : Type 0) : Type 0 where
  pub items : List (Option T)
  pub room : ℕ
  pub lists : ℕ

module _ {T : Type 0} where
  -- These cells, in the same list.
  abbrev pub with_cell_items : (items : List (Option T)) → CellList T → CellList T
  with_cell_items items list = record list { items = items }

  -- The first cell changed.
  abbrev pub with_first_cell_in : (cell : Option T) → CellList T → CellList T
  with_first_cell_in cell list = record list { items = slice_set list.items 0 cell }

  -- The cells changed. They stay as many.
  abbrev pub with_each_cell_in : (items : List (Option T)) → CellList T → CellList T
  with_each_cell_in items list = record list { items = refill (length list.items) list.items items }

  -- The cells have one of their publisher's lists.
  abbrev pub has_list : CellList T → Bool
  has_list list = nat_lt 0 list.lists && nat_lt 0 list.room

  -- There are cells that need one of their publisher's lists before they can be written.
  abbrev pub waits : CellList T → Bool
  waits list = nat_lt 0 list.lists && (list.room == 0 && nat_lt 0 (length list.items))
