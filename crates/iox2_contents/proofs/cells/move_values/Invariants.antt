use Rattle.std.proofs.Common.{◌≡◌, ℕ, ◌≤◌, take, map, replicate, get_or, Option, Some, None}
use Rattle.iox2_contents.proofs.cells.move_values.Given as goal

abbrev pub invariant-loop-cell : goal.invariant-loop-cell
invariant-loop-cell g l = record {
  values : map Some l.values.items ≡ take l.cell-index l.initial.cells;
  emptied : take l.cell-index l.cells ≡ replicate l.cell-index None;
  rest : (k : ℕ) (d : Option g.row.T.Denot) → l.cell-index ≤ k → get_or l.cells k d ≡ get_or l.initial.cells k d;
  len : l.values.len ≡ l.cell-index;
  capacity : l.values.cap ≡ l.initial.values.cap;
}
