use Rattle.iox2_laws.proofs.Sizes.{size_is}
use Rattle.iox2_laws.proofs.laws.size_is_length.Goals as goal

pub returns : goal.returns
returns c = size_is
