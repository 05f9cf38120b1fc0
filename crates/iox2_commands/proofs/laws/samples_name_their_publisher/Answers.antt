use Rattle.iox2_commands.proofs.ReadLaws.{samples_law}
use Rattle.iox2_commands.proofs.laws.samples_name_their_publisher.Goals as goal

pub returns : goal.returns
returns g c = samples_law g.row.T.Denot g.row.U.Denot
