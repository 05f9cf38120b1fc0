use Rattle.iox2_worst_case.proofs.FillingLaws.{worst_case_is_reached as lemma}
use Rattle.iox2_worst_case.proofs.laws.worst_case_is_reached.Goals as goal

pub returns : goal.returns
returns g c = λ config loans value able. lemma config loans value able
