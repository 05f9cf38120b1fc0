use Rattle.iox2_commands.proofs.Isolation.{views_stay_alike as lemma}
use Rattle.iox2_commands.proofs.laws.views_stay_alike.Goals as goal

pub returns : goal.returns
returns g c = lemma
