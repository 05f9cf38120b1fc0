use Rattle.std.proofs.Common.{take}
use Rattle.call_recorder.specs.Bytes.{cells, reads_from}
use Rattle.call_recorder.specs.Recorder.{Begins}
use Rattle.call_recorder.proofs.recorder.Recorder.keep_reads.Given as goal

abbrev pub invariant-loop-at : goal.invariant-loop-at
invariant-loop-at l = Begins l.initial.self l.self (reads_from l.of 0 (take l.at l.read)) (cells (take l.at l.read))
