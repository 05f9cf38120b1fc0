use Rattle.iox2_commands.proofs.RefusalRuns.{views_without_refusals as lemma}
use Rattle.iox2_commands.proofs.laws.views_stay_alike_without_refusals.Goals as goal

pub returns : goal.returns
returns g c = lemma
