use Rattle.std.proofs.Common.{ap, subst}
use Rattle.iox2_pubsub.specs.Handles.{receiver_of, sample_number}
use Rattle.iox2_c.specs.Serving.{KeptBytes, Serving}
use Rattle.iox2_c.specs.Steps.{SubscriberReleases}
use Rattle.iox2_c.proofs.calls.samples.copy_out.Goals as goal

pub returns-then-code-eq-OK-clause-releases : goal.returns-then-code-eq-OK-clause-releases
returns-then-code-eq-OK-clause-releases c = λ ok.
    subst (λ (old : KeptBytes). SubscriberReleases old c.release.new.domain (receiver_of c.args.sample)
    (sample_number c.args.sample)) (ap (λ (s : Serving). s.domain) c.service.view_is) c.release.ensures.released
