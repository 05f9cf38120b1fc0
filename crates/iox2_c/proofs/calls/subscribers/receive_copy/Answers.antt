use Rattle.std.proofs.Common.{◌≡◌, ℕ, ap, refl, subst, sym, ◌∙◌}
use Rattle.std.specs.declared.option.Option.{Option}
use Rattle.std.specs.declared.result.Result.TheVariants.{Ok}
use Rattle.iox2_machine.specs.declared.key.Key.{Key}
use Rattle.iox2_machine.specs.machine.Receives.{Got_sample, No_sample, Receive_error}
use Rattle.iox2_pubsub.specs.Handles.{as_subscriber, origin_of, receiver_of, sample_number, subscriber_id}
use Rattle.iox2_pubsub.specs.Live.{sample_key}
use Rattle.iox2_pubsub.specs.ReceivedSamples.{received_result}
use Rattle.iox2_pubsub.specs.Sample.{Sample}
use Rattle.iox2_c.specs.Numbers.{wide}
use Rattle.iox2_c.specs.Serving.{KeptBytes, Serving}
use Rattle.iox2_c.specs.Steps.{SubscriberReceives}
use Rattle.iox2_c.proofs.BecomesSteps.{receives-moved}
use Rattle.iox2_c.proofs.calls.subscribers.receive_copy.Goals as goal

-- the sample's subscriber is the one that received it
receiver : (c : goal.After-slice_known-in-Ok-Some-1)
    → receiver_of c.in-Ok-Some.sample ≡ subscriber_id (as_subscriber c.in-Some.subscriber)
receiver c = let got = rw c.in-Ok-Some.field-0-is at c.in-Ok-Some.ensures.received in got.subscriber

pub returns-in-Ok-Some-clause-copied : goal.returns-in-Ok-Some-clause-copied
returns-in-Ok-Some-clause-copied c = λ ok. (
  sample_key c.in-Ok-Some.sample,
  receiver c ∙ c.in-Some.ensures.id,
  origin_of c.in-Ok-Some.sample,
  record {
    received = c.receive-received.new.domain;
    receives =
        receives-moved c.service.inside.domain c.args.service.now.domain c.receive-received.new.domain _
        (receiver_of c.in-Ok-Some.sample) _ _
        (ap (λ (s : Serving). s.domain) c.service.view_is) (sym (receiver c))
        (ap (λ (o : Option Sample). received_result (Ok o)) c.in-Ok-Some.field-0-is) c.in-Ok-Some.ensures.receives;
    live = let got = rw c.in-Ok-Some.field-0-is at c.in-Ok-Some.ensures.received in got.live.there;
    reads = c.copy_out.ensures.copied ok;
    releases = c.copy_out.ensures.releases ok;
  },
)

pub returns-in-Ok-Some-clause-kept : goal.returns-in-Ok-Some-clause-kept
returns-in-Ok-Some-clause-kept c = λ small.
    subst (λ (k : KeptBytes). SubscriberReceives c.args.service.now.domain k (wide c.args.numbers.now.id)
    (Got_sample (wide c.copy_out.new.out.origin) (wide c.copy_out.new.out.number)))
    (sym (ap (λ (s : Serving). s.domain) (c.copy_out.ensures.kept small)))
    (receives-moved c.service.inside.domain c.args.service.now.domain c.receive-received.new.domain _
    (wide c.args.numbers.now.id) _ _
    (ap (λ (s : Serving). s.domain) c.service.view_is) c.in-Some.ensures.id
    (ap (λ (o : Option Sample). received_result (Ok o)) c.in-Ok-Some.field-0-is
    ∙ ap (λ (o : ℕ). Got_sample o (sample_number c.in-Ok-Some.sample)) (sym (c.copy_out.ensures.origin small))
    ∙ ap (Got_sample (wide c.copy_out.new.out.origin))
    (sym (ap (λ (k : Key). k.message) (c.copy_out.ensures.named small)))) c.in-Ok-Some.ensures.receives)

pub returns-in-Ok-None-clause-nothing : goal.returns-in-Ok-None-clause-nothing
returns-in-Ok-None-clause-nothing c = λ none.
    receives-moved c.service.inside.domain c.args.service.now.domain c.receive-received.new.domain _
    (wide c.args.numbers.now.id) _ No_sample
    (ap (λ (s : Serving). s.domain) c.service.view_is) c.in-Some.ensures.id
    (ap (λ (o : Option Sample). received_result (Ok o)) c.in-Ok-None.field-0-is) c.in-Ok-None.ensures.receives

pub returns-in-Err-clause-errors : goal.returns-in-Err-clause-errors
returns-in-Err-clause-errors c = λ high other. (
  c.in-Err.error,
  c.receive_status-code.ensures,
  receives-moved c.service.inside.domain c.args.service.now.domain c.receive-received.new.domain _
      (wide c.args.numbers.now.id) _ (Receive_error c.in-Err.error)
      (ap (λ (s : Serving). s.domain) c.service.view_is) c.in-Some.ensures.id refl c.in-Err.ensures.receives,
)
