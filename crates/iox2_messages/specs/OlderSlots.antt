-- A publisher's older slots, which are those before its current segment.
use Rattle.std.specs.Prelude.{◌≡◌, ℕ, false, ◌<◌, List, [], slice_index_or, slice_set}
use Rattle.std.specs.declared.option.Option.TheVariants.{None, Some}
use Rattle.std.specs.List.{All}
use Rattle.slab.specs.Slab.{get}
use Rattle.iox2_contents.specs.SlotContents.{ContentState, SomeAt}
use Rattle.iox2_slots.specs.SlotBook.{Book, holders_at}
use Rattle.iox2_domain.specs.Fields.{Fields}
use Rattle.iox2_domain.specs.Growth.{ClearsUnused}
use Rattle.iox2_domain.specs.Ports.{PublisherFields}

module _ {T U : Type 0} where
  -- There are no cells, and no lists with room for elements.
  abbrev pub IsGivenUp : ContentState T U → Type 0
  IsGivenUp content = (content.cells ≡ []) × (content.is_in_place ≡ false → content.room ≡ 0)

  -- What lay in those of these slots that are before `start` is given up.
  abbrev pub LetsGoOfOlder : (slots : List ℕ) (start : ℕ) → List (ContentState T U) → Type 0
  LetsGoOfOlder slots start contents = All (λ slot. slot < start → SomeAt contents slot IsGivenUp) slots

  -- What lay in some older slots of the publisher that nobody holds is given up. What lies in the others stays, and
  -- nothing else changes.
  pub record ClearsOlder (f : Fields T U) (x : PublisherFields) (f' : Fields T U) : Type 0 where
    pub book : Book
    pub stood : get f.books x.book ≡ Some book
    pub contents : List (ContentState T U)
    pub had : slice_index_or f.contents x.book None ≡ Some contents
    pub slots : List ℕ
    pub unused : All (λ slot. holders_at book slot ≡ 0) slots
    pub left : List (ContentState T U)
    pub clears : ClearsUnused book x.segment_start contents left
    pub given_up : LetsGoOfOlder slots x.segment_start left
    pub is : f' ≡ record f { contents = slice_set f.contents x.book (Some left) }
