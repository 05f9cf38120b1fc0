-- Laws that callers' proofs may cite: what a receive gives.
use Rattle.std.proofs.Common.{◌≡◌, ℕ, ◌<◌, List, [], ◌∷◌, length, refl, ap, ◌∙◌, arith}
use Rattle.iox2_domain.specs.Kept.{Kept}
use Rattle.iox2_pubsub.specs.Live.{AllFrom, payloads_from, sample_key, waiting}
use Rattle.iox2_pubsub.specs.Payloads.{singles}
use Rattle.iox2_pubsub.specs.ReceivedSamples.{IsReceived}
use Rattle.iox2_pubsub.specs.Sample.{Sample}
use Rattle.iox2_pubsub.specs.Slices.{SampleHasValues}
use Rattle.iox2_pubsub.specs.declared.subscriber.Subscriber.{Subscriber}
use Rattle.iox2_pubsub.proofs.ForCallers.{sample_values_one}

module _ {T U F G : Type 0} (old new : Kept T U F G) (subscriber : Subscriber) (sample : Sample)
    (received : IsReceived subscriber sample old new) where
  -- it is the first of what waited, where all of that is of one publisher, and what was behind it waits still
  pub received_first : (publisher : ℕ) (values : List T) → AllFrom old publisher subscriber (singles values)
      → (value : T) × (later : List T) × (values ≡ value ∷ later) × SampleHasValues new (sample_key sample) (value ∷ [])
      × AllFrom new publisher subscriber (singles later)
  received_first publisher [] wait =
      let none : waiting old subscriber ≡ 0 = ap length wait.all in
      let fewer : waiting new subscriber < waiting old subscriber = received.fewer in
      absurd (omega (arith, none, fewer))
  received_first publisher (value ∷ later) wait = (
    value,
    later,
    refl,
    received.first publisher (value ∷ []) (singles later) wait,
    received.later publisher (value ∷ []) (singles later) wait,
  )

  -- it is the oldest of its publisher, with the values that are read of it
  pub received_oldest : (values : List T) → SampleHasValues new (sample_key sample) values
      → payloads_from old sample.origin subscriber ≡ values ∷ payloads_from new sample.origin subscriber
  received_oldest values reads =
      let oldest = received.oldest in
      oldest.1 ∙ ap (λ (first : List T). first ∷ payloads_from new sample.origin subscriber)
      (sample_values_one new (sample_key sample) oldest.0 values oldest.2 reads)
