use Rattle.std.proofs.Common.{refl}
use Rattle.iox2_connections.proofs.sender.ReceiverDetailsReceiver.details.Goals as goal

pub returns : goal.returns
returns c = refl
