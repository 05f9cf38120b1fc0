use Rattle.std.proofs.Common.{◌∙◌, ap}
use Rattle.iox2_pubsub.specs.Live.{sample_key}
use Rattle.iox2_pubsub.proofs.sample.Sample.key.Goals as goal

pub returns : goal.returns
returns g c = cc c.value.ensures ∙ ap sample_key c.self.view_is
