use Rattle.std.proofs.Common.{◌≡◌, length}
use Rattle.iox2_contents.proofs.values.fill_up.Given as goal

abbrev pub invariant-loop : goal.invariant-loop
invariant-loop g l = record {
  count : length l.values.items ≡ l.counter;
  len : l.values.len ≡ l.counter;
  capacity : l.values.cap ≡ l.initial.values.cap;
}
