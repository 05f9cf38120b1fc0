-- A publisher makes a further segment, which becomes its current one.
use Rattle.std.specs.Prelude.{◌≡◌, ◌⊎◌, ℕ, Bool, true, false, ◌+◌, ◌*◌, ◌<◌, ◌≤◌, List, drop, length, max, slice_get}
use Rattle.std.specs.Prelude.{slice_index_or, slice_set, not, Result, MatchResult}
use Rattle.std.specs.Int.{IsNextPowerOfTwo}
use Rattle.std.specs.declared.option.Option.TheVariants.{None, Some}
use Rattle.std.specs.List.{All}
use Rattle.slab.specs.Slab.{get, with_value}
use Rattle.iox2_machine.specs.SingleValues.{is_single_valued}
use Rattle.iox2_machine.specs.declared.allocation.AllocationStrategy.{AllocationStrategy}
use Rattle.iox2_machine.specs.declared.allocation.AllocationStrategy.TheVariants.{Static, BestFit, PowerOfTwo}
use Rattle.iox2_machine.specs.machine.Limits.{segment_fits, segment_limit}
use Rattle.iox2_machine.specs.declared.errors.LoanError.{LoanError}
use Rattle.iox2_machine.specs.declared.errors.LoanError.TheVariants.{OutOfMemory, InternalFailure}
use Rattle.iox2_slots.specs.SlotBook.{Book, holders_at, with_more_slots}
use Rattle.iox2_contents.specs.SlotContents.{ContentState, lists_for}
use Rattle.iox2_domain.specs.Fields.{Fields}
use Rattle.iox2_domain.specs.Invariant.{HasRoomFrom, lists_wanted}
use Rattle.iox2_domain.specs.Ports.{PublisherFields, slot_length}

-- The publisher with a current segment of that length, from that slot on.
abbrev pub with_segment : (start length : ℕ) → PublisherFields → PublisherFields
with_segment start length x = record x { segment_start = start; segment_length = length }

-- The length of the segment that is made next, where the current one has the length `current` and the loan that needs
-- it has the length `asked`: the greater of the two; by powers of two the least power that isn't less.
abbrev pub IsNextLength : AllocationStrategy → (current asked len : ℕ) → Type 0
IsNextLength Static current asked len = len ≡ max current asked
IsNextLength BestFit current asked len = len ≡ max current asked
IsNextLength PowerOfTwo current asked len = IsNextPowerOfTwo (max current asked) len

-- Each slot with cells is one that had them, with the same content.
pub record KeepsOpen {T U : Type 0} (old new : List (ContentState T U)) : Type 0 where
  pub at : (slot : ℕ) (content : ContentState T U) → slice_get new slot ≡ Some content → 0 < length content.cells
      → slice_get old slot ≡ Some content

module _ {T U : Type 0} where
  -- In the slots before this one that nobody holds lies nothing of use any more, and no cells. What lies elsewhere
  -- stays.
  pub record ClearsUnused (book : Book) (end : ℕ) (old new : List (ContentState T U)) : Type 0 where
    pub count : length new ≡ length old
    pub kept : (slot : ℕ) → (0 < holders_at book slot) ⊎ (end ≤ slot) → slice_get new slot ≡ slice_get old slot
    pub forms : All (λ content. content.is_in_place ≡ false) old → All (λ content. content.is_in_place ≡ false) new
    pub lists : (n : ℕ) → All (λ content. content.lists ≡ n) old → All (λ content. content.lists ≡ n) new
    pub cells : KeepsOpen old new

  -- Behind the slots of this book stand `more` new ones, each with room for `units` units, which lie in lists if
  -- `in_lists` says so. The cells can then be handed out for `lists` loans at a time. What lies in slots in use stays,
  -- and no slot that had no cells has any.
  pub record GrowsContents (book : Book) (more units : ℕ) (in_lists : Bool) (lists : ℕ)
      (old new : List (ContentState T U)) : Type 0 where
    pub count : length new ≡ length old + more
    pub kept : (slot : ℕ) → 0 < holders_at book slot → slice_get new slot ≡ slice_get old slot
    pub room : HasRoomFrom (length old) units new
    pub forms : in_lists ≡ true → All (λ content. content.is_in_place ≡ false) old
        → All (λ content. content.is_in_place ≡ false) new
    pub lists_are : All (λ content. content.lists ≡ lists_for in_lists lists) new
    pub cells : KeepsOpen old new

  -- The publisher at the place has a current segment of that length, which lies behind the slots that it had. It was
  -- made for a loan of `asked` elements. Nothing else changes.
  pub record Grows (f : Fields T U) (place : ℕ) (x : PublisherFields) (asked len : ℕ) (f' : Fields T U) : Type 0 where
    pub book : Book
    pub stood : get f.books x.book ≡ Some book
    pub contents : List (ContentState T U)
    pub had : slice_index_or f.contents x.book None ≡ Some contents
    pub grown : List (ContentState T U)
    pub grows : GrowsContents book x.slots (slot_length len * (f.config).units_per_element)
        (not (is_single_valued f.config)) (lists_wanted f.config x.max_loaned_samples) contents grown
    pub fits : segment_fits f.config x.slots len ≡ true
    pub longer : x.segment_length ≤ len
    pub next : IsNextLength x.allocation x.segment_length asked len
    pub is : f' ≡ record f {
      books = with_value f.books x.book (with_more_slots x.slots book);
      contents = slice_set f.contents x.book (Some grown);
      publishers = slice_set f.publishers place (Some (with_segment (length book.holders) len x));
    }

  -- The publisher at the place has a new current segment, which is long enough for that many elements; or it has made
  -- all segments that it may make, or memory is refused or the size doesn't fit, and then nothing changes.
  abbrev pub MayGrow : {A : Type 0} → Fields T U → (place : ℕ) → PublisherFields → (len : ℕ) → Result A LoanError
      → Fields T U → Type 0
  MayGrow f place x len result f' =
      MatchResult result
      (λ _. (x.segments < segment_limit) × (longest : ℕ) × (len ≤ longest) × Grows f place x len longest f')
      (λ e. (f' ≡ f) × ((e ≡ InternalFailure) ⊎ ((e ≡ OutOfMemory) × (x.segments ≡ segment_limit))))

  -- The current segment of the publisher at the place has a free slot, and is long enough for that many elements.
  pub record HasFreeSlot (f : Fields T U) (x : PublisherFields) (len : ℕ) : Type 0 where
    pub book : Book
    pub stands : get f.books x.book ≡ Some book
    pub some_free : All (λ n. 0 < n) (drop x.segment_start book.holders) → ⊥
    pub long : len ≤ x.segment_length

  -- Each slot of the publisher's current segment has a holder, or the segment is too short for that many elements.
  abbrev pub HasNoSlot : Fields T U → PublisherFields → (len : ℕ) → Type 0
  HasNoSlot f x len = (x.segment_length < len)
      ⊎ ((book : Book) × (get f.books x.book ≡ Some book) × All (λ n. 0 < n) (drop x.segment_start book.holders))
