use Rattle.std.proofs.Common.{rules, ℕ, ap, inl, refl, subst, arith}
use Rattle.iox2_pubsub.specs.Handles.{receiver_of}
use Rattle.iox2_c.specs.Numbers.{wide}
use Rattle.iox2_c.specs.Serving.{KeptBytes, Serving}
use Rattle.iox2_c.specs.Steps.{SubscriberReleases}
use Rattle.iox2_c.proofs.calls.samples.release_elsewhere.Goals as goal

pub returns : goal.returns
returns c = record {
  zero_or_two = inl refl;
  live = search rules;
  releases = λ ok.
      subst (λ (old : KeptBytes). SubscriberReleases old c.release.new.domain (wide c.args.numbers.now.subscriber)
      (wide c.args.numbers.now.number)) (ap (λ (s : Serving). s.domain) c.service.view_is)
      (subst (λ (q : ℕ). SubscriberReleases c.service.inside.domain c.release.new.domain q
      (wide c.args.numbers.now.number)) c.in-Some.ensures.receiver
      (subst (SubscriberReleases c.service.inside.domain c.release.new.domain (receiver_of c.in-Some.sample))
      c.in-Some.ensures.number c.release.ensures.released));
  spent = search rules;
  refused = λ high. absurd (omega (arith, high));
  stays = search rules;
}
