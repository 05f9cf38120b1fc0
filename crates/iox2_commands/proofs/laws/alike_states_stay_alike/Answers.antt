use Rattle.iox2_commands.proofs.Isolation.{alike_states_stay_alike as lemma}
use Rattle.iox2_commands.proofs.laws.alike_states_stay_alike.Goals as goal

pub returns : goal.returns
returns g c = lemma
