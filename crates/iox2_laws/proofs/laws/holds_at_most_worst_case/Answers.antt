use Rattle.iox2_laws.proofs.Enough.{holds_at_most_worst_case as lemma}
use Rattle.iox2_laws.proofs.laws.holds_at_most_worst_case.Goals as goal

pub returns : goal.returns
returns g c = λ s w. lemma s w
