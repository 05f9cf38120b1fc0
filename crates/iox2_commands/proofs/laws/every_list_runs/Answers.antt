use Rattle.iox2_commands.proofs.ExistRuns.{every_list_runs as lemma}
use Rattle.iox2_commands.proofs.laws.every_list_runs.Goals as goal

pub returns : goal.returns
returns g c = lemma
