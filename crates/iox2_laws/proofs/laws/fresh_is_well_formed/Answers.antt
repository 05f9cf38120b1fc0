use Rattle.iox2_laws.proofs.Enough.{fresh_is_well_formed as lemma}
use Rattle.iox2_laws.proofs.laws.fresh_is_well_formed.Goals as goal

pub returns : goal.returns
returns g c = λ config. lemma config
