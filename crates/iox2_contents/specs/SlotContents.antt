-- What contracts see of the contents of a publisher's slots.
use Rattle.std.specs.Prelude.{◌≡◌, ℕ, Bool, true, false, ◌&&◌, if◌then◌else◌, List, [], ◌++◌, length, map, nat_lt}
use Rattle.std.specs.Prelude.{replicate, slice_get, slice_set, sum_by, is_some, IsSomeAnd}
use Rattle.std.specs.Bool.{MatchBool}
use Rattle.std.specs.List.{All, list_all, refill}
use Rattle.std.specs.declared.option.Option.{Option}
use Rattle.std.specs.declared.option.Option.TheVariants.{None, Some}
use Rattle.std.specs.Option.{option_map, option_map_or, option_and_then}

-- What lies in a slot: a user header, the cells of an unwritten loan, the values of a written loan or a sent message,
-- for how many elements there is room, whether a single element lies in the slot itself, so that it is no list, and for
-- how many loans at a time the slots of the same publisher can hand out cells as a list.
pub record ContentState (T U : Type 0) : Type 0 where
  pub user_header : U
  pub cells : List (Option T)
  pub values : List T
  pub room : ℕ
  pub is_in_place : Bool
  pub lists : ℕ

-- The list with f of the element at index i in its place.
abbrev pub with_changed : {A : Type 0} → List A → (i : ℕ) → (A → A) → List A
with_changed xs i f = option_map_or (λ x. slice_set xs i (f x)) (slice_get xs i) xs

-- There is such a slot, and P holds of its content.
abbrev pub SomeAt : {A : Type 0} → List A → (slot : ℕ) → (A → Type 0) → Type 0
SomeAt contents slot P = IsSomeAnd (slice_get contents slot) P

-- How many lists of cells there are for slots whose elements lie in lists, or don't.
abbrev pub lists_for : (in_lists : Bool) → (lists : ℕ) → ℕ
lists_for in_lists lists = if in_lists then lists else 0

module _ {T U : Type 0} where
  -- The content of a loan that starts: that many unwritten cells, no values, and this user header.
  abbrev pub unwritten_content : (user_header : U) → (len : ℕ) → ContentState T U → ContentState T U
  unwritten_content user_header len content =
      record content { user_header = user_header; cells = replicate len None; values = [] }

  -- The content of a loan that is written: these values, and no cells.
  abbrev pub written_content : (values : List T) → ContentState T U → ContentState T U
  written_content values content = record content { cells = []; values = values }

  -- The content of a loan that is out no more: no cells.
  abbrev pub ended_content : ContentState T U → ContentState T U
  ended_content content = record content { cells = [] }

  -- ---- which slots may need a list of cells

  -- The slot has cells, which can be handed out as a list.
  abbrev pub has_cells_to_hand_out : ContentState T U → Bool
  has_cells_to_hand_out content = nat_lt 0 content.lists && nat_lt 0 (length content.cells)

  -- How many slots have such cells.
  abbrev pub open_count : List (ContentState T U) → ℕ
  open_count contents = sum_by (λ content. if has_cells_to_hand_out content then 1 else 0) contents

  -- ---- what a reference into a content leaves

  -- The content with its first cell changed.
  abbrev pub with_first_cell : (cell : Option T) → ContentState T U → ContentState T U
  with_first_cell cell content = record content { cells = slice_set content.cells 0 cell }

  -- The content with its cells changed. They stay as many.
  abbrev pub with_cells : (cells : List (Option T)) → ContentState T U → ContentState T U
  with_cells cells content = record content { cells = refill (length content.cells) content.cells cells }

  -- The content with its first value changed.
  abbrev pub with_first_value : (value : T) → ContentState T U → ContentState T U
  with_first_value value content = record content { values = slice_set content.values 0 value }

  -- The content with its values changed. They stay as many.
  abbrev pub with_values : (values : List T) → ContentState T U → ContentState T U
  with_values values content = record content { values = refill (length content.values) content.values values }

  -- The content with its user header changed.
  abbrev pub with_user_header : (user_header : U) → ContentState T U → ContentState T U
  with_user_header user_header content = record content { user_header = user_header }

  -- ---- what lies at a slot

  -- The slot's user header.
  abbrev pub user_header_at : List (ContentState T U) → (slot : ℕ) → Option U
  user_header_at contents slot = option_map (λ content. content.user_header) (slice_get contents slot)

  -- The slot's cells.
  abbrev pub cells_at : List (ContentState T U) → (slot : ℕ) → Option (List (Option T))
  cells_at contents slot = option_map (λ content. content.cells) (slice_get contents slot)

  -- The slot's values.
  abbrev pub values_at : List (ContentState T U) → (slot : ℕ) → Option (List T)
  values_at contents slot = option_map (λ content. content.values) (slice_get contents slot)

  -- The first of the slot's cells.
  abbrev pub first_cell_at : List (ContentState T U) → (slot : ℕ) → Option (Option T)
  first_cell_at contents slot = option_and_then (λ content. slice_get content.cells 0) (slice_get contents slot)

  -- The first of the slot's values.
  abbrev pub first_value_at : List (ContentState T U) → (slot : ℕ) → Option T
  first_value_at contents slot = option_and_then (λ content. slice_get content.values 0) (slice_get contents slot)

  -- Behind the old slots stand `more` new ones, each without cells and with room for `room` elements, which lie in
  -- lists if `in_lists` says so. The cells can then be handed out for `lists` loans at a time.
  pub record AddsSlots (old new : List (ContentState T U)) (more room : ℕ) (in_lists : Bool) (lists : ℕ) : Type 0 where
    pub added : List (ContentState T U)
    pub count : length added ≡ more
    pub rooms : All (λ content. content.room ≡ room) added
    pub forms : in_lists ≡ true → All (λ content. content.is_in_place ≡ false) added
    pub lists_are : All (λ content. content.lists ≡ lists_for in_lists lists) added
    pub cells : All (λ content. content.cells ≡ []) added
    pub grown : new ≡ old ++ added

  -- The content of a slot became another one without cells, which lies in place or in lists as it did. In lists it has
  -- no room any more, so they take no memory. Nothing else changes.
  pub record ClearsSlot (old new : List (ContentState T U)) (slot : ℕ) : Type 0 where
    pub content : ContentState T U
    pub had : ContentState T U
    pub there : slice_get old slot ≡ Some had
    pub form : content.is_in_place ≡ had.is_in_place
    pub lists : content.lists ≡ had.lists
    pub cells : content.cells ≡ []
    pub freed : content.is_in_place ≡ false → content.room ≡ 0
    pub cleared : new ≡ slice_set old slot content

  -- In the slot starts a loan of that length, with a default user header. Nothing else changes.
  pub record StartsLoan (is_default : U → Type 0) (old new : List (ContentState T U)) (slot len : ℕ) : Type 0 where
    pub user_header : U
    pub default : is_default user_header
    pub started : new ≡ with_changed old slot (unwritten_content user_header len)

  -- The slot's cells became these values, and it has no cells. Nothing else changes.
  pub record WritesValues (old new : List (ContentState T U)) (slot : ℕ) (values : List T) : Type 0 where
    pub content : ContentState T U
    pub had : slice_get old slot ≡ Some content
    pub count : length values ≡ length content.cells
    pub written : new ≡ with_changed old slot (written_content values)

  -- The cells of a slot were taken as written, or nothing changed since some cell isn't.
  abbrev pub AssumesWritten : (old new : List (ContentState T U)) → (slot : ℕ) → (is_written : Bool) → Type 0
  AssumesWritten old new slot is_written =
      (content : ContentState T U) × (slice_get old slot ≡ Some content) × (is_written ≡ list_all is_some content.cells)
      × MatchBool is_written
      ((values : List T) × (map Some values ≡ content.cells) × (new ≡ with_changed old slot (written_content values)))
      (new ≡ old)
