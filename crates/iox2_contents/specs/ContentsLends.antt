-- What the contents of slots end as, where a reference into them is handed out.
use Rattle.std.specs.Prelude.{ℕ, List, Option}
use Rattle.std.specs.Borrow.{Lends, MutBor, Fml, RattleType, Array}
use Rattle.std.specs.contracts.option.Option.{the_row as option_row}
use Rattle.iox2_contents.specs.SlotContents.{ContentState, with_changed, with_first_cell, with_cells, with_first_value}
use Rattle.iox2_contents.specs.SlotContents.{with_values, with_user_header}
use Rattle.iox2_contents.specs.contracts.contents.Contents.{the_row}

module _ (T U : RattleType) (contents : MutBor (List (ContentState T.Denot U.Denot))) (slot : ℕ) where
  -- They end with the first cell of the slot as it was left.
  abbrev pub ContentsLendCell : MutBor (Option T.Denot) → Fml
  ContentsLendCell lent =
      Lends (the_row T U) (option_row T) contents lent (λ cell. with_changed contents.now slot (with_first_cell cell))

  -- They end with the cells of the slot as they were left.
  abbrev pub ContentsLendCells : MutBor (List (Option T.Denot)) → Fml
  ContentsLendCells lent = Lends (the_row T U) (Array (option_row T) 0) contents lent
      (λ cells. with_changed contents.now slot (with_cells cells))

  -- They end with the first value of the slot as it was left.
  abbrev pub ContentsLendValue : MutBor T.Denot → Fml
  ContentsLendValue lent =
      Lends (the_row T U) T contents lent (λ value. with_changed contents.now slot (with_first_value value))

  -- They end with the values of the slot as they were left.
  abbrev pub ContentsLendValues : MutBor (List T.Denot) → Fml
  ContentsLendValues lent =
      Lends (the_row T U) (Array T 0) contents lent (λ values. with_changed contents.now slot (with_values values))

  -- They end with the user header of the slot as it was left.
  abbrev pub ContentsLendUserHeader : MutBor U.Denot → Fml
  ContentsLendUserHeader lent =
      Lends (the_row T U) U contents lent (λ user_header. with_changed contents.now slot (with_user_header user_header))
