-- What a slot has besides its content, which no public contract shows.
use Rattle.std.specs.Prelude.{◌≡◌, ℕ, Bool, false, ◌&&◌, ◌==◌, if◌then◌else◌, List, [], length, map, nat_lt}
use Rattle.iox2_contents.specs.CellLists.{keeps}
use Rattle.iox2_contents.specs.SlotContents.{ContentState}
use Rattle.iox2_contents.specs.SlotPayload.{lies_in_place}

-- The content of a slot, and how many cells have room in the list of its cells, if they have one. The content's `lists`
-- is 1 if the slot's publisher keeps lists.
pub record SlotState (T U : Type 0) : Type 0 where
  pub content : ContentState T U
  pub cell_room : ℕ

module _ {T U : Type 0} where
  -- The content with that many lists, if it has any.
  abbrev pub with_lists : (lists : ℕ) → ContentState T U → ContentState T U
  with_lists lists content = record content { lists = if nat_lt 0 content.lists then lists else 0 }

  -- The content of a slot of a publisher that keeps that many lists, if any.
  abbrev pub content_of : (lists : ℕ) → SlotState T U → ContentState T U
  content_of lists slot = with_lists lists slot.content

  -- The contents of such slots.
  abbrev pub contents_of : (lists : ℕ) → List (SlotState T U) → List (ContentState T U)
  contents_of lists slots = map (content_of lists) slots

  -- The slot with another content.
  abbrev pub with_content : (ContentState T U → ContentState T U) → SlotState T U → SlotState T U
  with_content f slot = record slot { content = f slot.content }

  -- The cells have one of their publisher's lists.
  abbrev pub slot_has_list : SlotState T U → Bool
  slot_has_list slot = nat_lt 0 slot.content.lists && nat_lt 0 slot.cell_room

  -- There are cells that need one of their publisher's lists before they can be written.
  abbrev pub slot_waits : SlotState T U → Bool
  slot_waits slot = nat_lt 0 slot.content.lists && (slot.cell_room == 0 && nat_lt 0 (length slot.content.cells))

  -- The slot has no message yet, room for `room` elements, and a publisher that keeps `lists` lists of cells.
  pub record IsNew (is_default : U → Type 0) (room : ℕ) (in_lists : Bool) (lists : ℕ)
      (slot : SlotState T U) : Type 0 where
    pub default : is_default slot.content.user_header
    pub cells : slot.content.cells ≡ []
    pub values : slot.content.values ≡ []
    pub rooms : slot.content.room ≡ room
    pub in_place : slot.content.is_in_place ≡ lies_in_place room in_lists
    pub lists_are : slot.content.lists ≡ keeps lists
    pub none : slot_has_list slot ≡ false
