use Rattle.iox2_commands.proofs.Isolation.{subscribers_are_isolated as lemma}
use Rattle.iox2_commands.proofs.laws.subscribers_are_isolated.Goals as goal

pub returns : goal.returns
returns g c = lemma
