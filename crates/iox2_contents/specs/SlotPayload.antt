-- What a slot's payload has, which no public contract shows.
use Rattle.std.specs.Prelude.{◌≡◌, ◌<◌, ◌≤◌, ℕ, Bool, true, false, ◌&&◌, ◌==◌, List, [], ◌∷◌, length, not}
use Rattle.std.specs.declared.option.Option.{Option}
use Rattle.iox2_contents.specs.declared.payload.Payload.{Payload}
use Rattle.iox2_contents.specs.declared.payload.Payload.TheVariants.{Empty, Unwritten, Written, Elements}

-- A payload with room for that many elements lies in its slot, and not in lists.
abbrev pub lies_in_place : (room : ℕ) → (in_lists : Bool) → Bool
lies_in_place room in_lists = room == 1 && not in_lists

module _ {T : Type 0} where
  -- The cells of a payload.
  abbrev pub cells_of : Payload T → List (Option T)
  cells_of Empty = []
  cells_of (Unwritten cell) = cell ∷ []
  cells_of (Written value) = []
  cells_of (Elements elements) = elements.value.cells.items

  -- The values of a payload.
  abbrev pub values_of : Payload T → List T
  values_of Empty = []
  values_of (Unwritten cell) = []
  values_of (Written value) = value ∷ []
  values_of (Elements elements) = elements.value.values.items

  -- For how many elements a payload has room.
  abbrev pub room_of : Payload T → ℕ
  room_of Empty = 1
  room_of (Unwritten cell) = 1
  room_of (Written value) = 1
  room_of (Elements elements) = elements.value.values.room

  -- A payload lies in its slot, and not in lists.
  abbrev pub is_in_place : Payload T → Bool
  is_in_place Empty = true
  is_in_place (Unwritten cell) = true
  is_in_place (Written value) = true
  is_in_place (Elements elements) = false

  -- 1 where a payload's publisher keeps lists of cells, and the payload isn't a single value in its slot, or else 0.
  abbrev pub lists_of : Payload T → ℕ
  lists_of Empty = 0
  lists_of (Unwritten cell) = 0
  lists_of (Written value) = 0
  lists_of (Elements elements) = elements.value.cells.lists

  -- For how many cells there is room in a list that a payload has.
  abbrev pub cell_room_of : Payload T → ℕ
  cell_room_of Empty = 0
  cell_room_of (Unwritten cell) = 0
  cell_room_of (Written value) = 0
  cell_room_of (Elements elements) = elements.value.cells.room

  -- There is room in lists for the values of a loan once it is written, and for its first cell where its publisher
  -- keeps no lists.
  abbrev pub HasListRoom : Payload T → Type 0
  HasListRoom Empty = Unit {0}
  HasListRoom (Unwritten cell) = Unit {0}
  HasListRoom (Written value) = Unit {0}
  HasListRoom (Elements elements) =
      (length elements.value.cells.items ≤ elements.value.values.room)
      × (elements.value.cells.lists ≡ 0 → 0 < elements.value.values.room → 0 < elements.value.cells.room)
