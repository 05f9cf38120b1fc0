use Rattle.iox2_commands.proofs.RefusalRuns.{isolated_without_refusals}
use Rattle.iox2_commands.proofs.laws.subscribers_are_isolated_without_refusals.Goals as goal

pub returns : goal.returns
returns g c = isolated_without_refusals
