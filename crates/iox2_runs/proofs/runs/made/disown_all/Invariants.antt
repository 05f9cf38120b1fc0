use Rattle.std.proofs.Common.{vec_len}
use Rattle.iox2_runs.proofs.runs.made.disown_all.Given as goal

abbrev pub decreases-loop-made : goal.decreases-loop-made
decreases-loop-made l = vec_len l.table
