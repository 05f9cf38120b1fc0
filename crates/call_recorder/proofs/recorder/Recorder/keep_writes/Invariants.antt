use Rattle.std.proofs.Common.{take}
use Rattle.call_recorder.specs.Bytes.{all_done, writes}
use Rattle.call_recorder.specs.Recorder.{Begins}
use Rattle.call_recorder.proofs.recorder.Recorder.keep_writes.Given as goal

abbrev pub invariant-loop-at : goal.invariant-loop-at
invariant-loop-at l = Begins l.fn.self l.self (writes l.of l.value (take l.at l.first))
    (all_done (writes l.of l.value (take l.at l.first)))
