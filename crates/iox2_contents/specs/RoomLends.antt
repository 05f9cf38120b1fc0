-- What the cells or the values of a payload end as, where a reference into them is handed out.
use Rattle.std.specs.Prelude.{List, Option}
use Rattle.std.specs.Borrow.{Lends, MutBor, Fml, RattleType, Array}
use Rattle.std.specs.contracts.option.Option.{the_row as option_row}
use Rattle.iox2_contents.specs.CellLists.{CellList, with_first_cell_in as with_first_cell}
use Rattle.iox2_contents.specs.CellLists.{with_each_cell_in as with_each_cell}
use Rattle.iox2_contents.specs.RoomLists.{RoomList, with_first, with_each}
use Rattle.iox2_contents.specs.contracts.cells.Cells.{the_row as cells_row}
use Rattle.iox2_contents.specs.contracts.values.Values.{the_row as values_row}

module _ (T : RattleType) (cells : MutBor (CellList T.Denot)) where
  -- They end with the first cell as it was left.
  abbrev pub ListLendsCell : MutBor (Option T.Denot) → Fml
  ListLendsCell lent = Lends (cells_row T) (option_row T) cells lent (λ cell. with_first_cell cell cells.now)

  -- They end with the cells as they were left.
  abbrev pub ListLendsCells : MutBor (List (Option T.Denot)) → Fml
  ListLendsCells lent = Lends (cells_row T) (Array (option_row T) 0) cells lent (λ left. with_each_cell left cells.now)

module _ (T : RattleType) (values : MutBor (RoomList T.Denot)) where
  -- They end with the first value as it was left.
  abbrev pub ListLendsValue : MutBor T.Denot → Fml
  ListLendsValue lent = Lends (values_row T) T values lent (λ value. with_first value values.now)

  -- They end with the values as they were left.
  abbrev pub ListLendsValues : MutBor (List T.Denot) → Fml
  ListLendsValues lent = Lends (values_row T) (Array T 0) values lent (λ left. with_each left values.now)
