use Rattle.iox2_commands.proofs.RefusalRuns.{runs_without_refusals}
use Rattle.iox2_commands.proofs.laws.runs_without_refusals_are_ample.Goals as goal

pub returns : goal.returns
returns g c = runs_without_refusals
