use Rattle.iox2_runs.specs.Carries.{defaults_of}
use Rattle.iox2_recorded.specs.Recorded.{IsRecorded}
use Rattle.recorded_cost.proofs.calling.call_all.Given as goal

abbrev pub invariant-loop-call : goal.invariant-loop-call
invariant-loop-call g l = IsRecorded (defaults_of g.T.Default.is_default g.U.Default.is_default) l.recorded
