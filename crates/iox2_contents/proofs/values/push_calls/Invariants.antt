use Rattle.std.proofs.Common.{◌≡◌, length}
use Rattle.std.specs.List.{FoldsTo, enumerate_from}
use Rattle.iox2_contents.proofs.values.push_calls.Given as goal

abbrev pub invariant-loop-index : goal.invariant-loop-index
invariant-loop-index g l = record {
  callable : goal.F-IsAlwaysCallable g l.f;
  called : FoldsTo (λ before call after. goal.F-step g before call.0 call.1 after) l.initial.f
      (enumerate_from 0 l.values.items) l.f;
  len : l.values.len ≡ l.index;
  length : length l.values.items ≡ l.index;
  capacity : l.values.cap ≡ l.initial.values.cap;
}
