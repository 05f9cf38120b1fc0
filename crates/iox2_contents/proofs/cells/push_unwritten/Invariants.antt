use Rattle.std.proofs.Common.{◌≡◌, ◌+◌, ◌++◌, replicate, None}
use Rattle.iox2_contents.proofs.cells.push_unwritten.Given as goal

abbrev pub invariant-loop : goal.invariant-loop
invariant-loop g l = record {
  items : l.cells.items ≡ l.initial.cells.items ++ replicate l.counter None;
  len : l.cells.len ≡ l.initial.cells.len + l.counter;
  capacity : l.cells.cap ≡ l.initial.cells.cap;
}
