-- Lists with room for some elements, which no public contract shows.
use Rattle.std.specs.Prelude.{ℕ, List, length, slice_set}
use Rattle.std.specs.List.{refill}

-- The values of a payload, and for how many there is room.
pub record RoomList (A : Type 0) : Type 0 where
  pub items : List A
  pub room : ℕ

module _ {A : Type 0} where
  -- These items, in the same room.
  abbrev pub with_items : (items : List A) → RoomList A → RoomList A
  with_items items list = record list { items = items }

  -- The first item changed.
  abbrev pub with_first : (item : A) → RoomList A → RoomList A
  with_first item list = record list { items = slice_set list.items 0 item }

  -- The items changed. They stay as many.
  abbrev pub with_each : (items : List A) → RoomList A → RoomList A
  with_each items list = record list { items = refill (length list.items) list.items items }
