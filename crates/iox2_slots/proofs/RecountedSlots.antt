-- A book of which one slot has another number of holders.
use Rattle.std.proofs.Common.{◌≡◌, ◌<◌, ℕ, List, length, map, get_or, slice_index, slice_set, refl}
use Rattle.std.proofs.lemmas.List.{map-set}
use Rattle.iox2_slots.specs.SlotBook.{Book, with_holders}
use Rattle.iox2_slots.specs.declared.slots.slot.Slot.{Slot}
use Rattle.iox2_slots.proofs.SlotRecords.{count_read, field_kept, within_records}

-- the book of a publisher with these slots
abbrev pub book_of : (node publisher : ℕ) → List Slot → Book
book_of node publisher slots = record {
  node = node;
  publisher = publisher;
  numbers = map (λ (s : Slot). s.number) slots;
  headers = map (λ (s : Slot). s.header) slots;
  marks = map (λ (s : Slot). s.mark) slots;
  holders = map (λ (s : Slot). s.holders) slots;
}

module _ (slots : List Slot) (slot : ℕ) (old : Slot) (at : old ≡ get_or slots slot old) where
  -- it keeps all else
  pub recounted : (node publisher count : ℕ) → book_of node publisher
      (slice_set slots slot (record old { holders = count })) ≡ with_holders (book_of node publisher slots) slot count
  recounted node publisher count =
      let new : Slot = record old { holders = count } in
      rw (
        field_kept (λ (s : Slot). s.number) slots slot old new at refl,
        field_kept (λ (s : Slot). s.header) slots slot old new at refl,
        field_kept (λ (s : Slot). s.mark) slots slot old new at refl,
        map-set (λ (s : Slot). s.holders) slots slot new,
      ) refl

  -- how many it had
  pub holders-read : slot < length (map (λ (s : Slot). s.holders) slots)
      → slice_index (map (λ (s : Slot). s.holders) slots) slot ≡ old.holders
  holders-read low =
      count_read (λ (s : Slot). s.holders) slots slot old (within_records (λ (s : Slot). s.holders) slots slot low) at
