use Rattle.iox2_worst_case.proofs.FillingLaws.{worst_case_is_least as lemma}
use Rattle.iox2_worst_case.proofs.laws.worst_case_is_least.Goals as goal

pub returns : goal.returns
returns g c = λ config loans slots value able below. lemma config loans slots value able below
