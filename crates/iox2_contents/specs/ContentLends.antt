-- What a slot ends as, where a reference into it is handed out.
use Rattle.std.specs.Prelude.{List, Option}
use Rattle.std.specs.Borrow.{Lends, MutBor, Fml, RattleType, Array}
use Rattle.std.specs.contracts.option.Option.{the_row as option_row}
use Rattle.iox2_contents.specs.SlotContents.{with_first_cell, with_cells, with_first_value, with_values}
use Rattle.iox2_contents.specs.SlotContents.{with_user_header}
use Rattle.iox2_contents.specs.SlotStates.{SlotState, with_content}
use Rattle.iox2_contents.specs.contracts.content.Content.{the_row}

module _ (T U : RattleType) (slot : MutBor (SlotState T.Denot U.Denot)) where
  -- It ends with the first cell as it was left.
  abbrev pub SlotLendsCell : MutBor (Option T.Denot) → Fml
  SlotLendsCell lent =
      Lends (the_row T U) (option_row T) slot lent (λ cell. with_content (with_first_cell cell) slot.now)

  -- It ends with the cells as they were left.
  abbrev pub SlotLendsCells : MutBor (List (Option T.Denot)) → Fml
  SlotLendsCells lent =
      Lends (the_row T U) (Array (option_row T) 0) slot lent (λ cells. with_content (with_cells cells) slot.now)

  -- It ends with the first value as it was left.
  abbrev pub LendsValue : MutBor T.Denot → Fml
  LendsValue lent = Lends (the_row T U) T slot lent (λ value. with_content (with_first_value value) slot.now)

  -- It ends with the values as they were left.
  abbrev pub LendsValues : MutBor (List T.Denot) → Fml
  LendsValues lent = Lends (the_row T U) (Array T 0) slot lent (λ values. with_content (with_values values) slot.now)

  -- It ends with the user header as it was left.
  abbrev pub SlotLendsUserHeader : MutBor U.Denot → Fml
  SlotLendsUserHeader lent =
      Lends (the_row T U) U slot lent (λ user_header. with_content (with_user_header user_header) slot.now)
