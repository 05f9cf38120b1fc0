use Rattle.std.proofs.Common.{ap}
use Rattle.iox2_pubsub.specs.Sample.{Sample}
use Rattle.iox2_pubsub.proofs.sample.Sample.origin.Goals as goal

pub returns : goal.returns
returns g c = ap (λ (it : Sample). it.origin) c.self.view_is
