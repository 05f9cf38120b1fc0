-- What a port is told of the channels of its connections.
use Rattle.std.proofs.Common.{◌≡◌, ℕ, Bool, ap, arith, inl, inr, sym, subst, ◌∙◌}
use Rattle.std.specs.declared.option.Option.{Option}
use Rattle.std.specs.declared.option.Option.TheVariants.{Some}
use Rattle.iox2_c.specs.Boxed.{Knows}
use Rattle.iox2_machine.specs.declared.key.Key.{Key}
use Rattle.iox2_pubsub.specs.Live.{IsPublisherKey, IsSubscriberKey}
use Rattle.iox2_c.specs.Channels.{AnswersPublisherChannel, AnswersSubscriberChannel, InEachState, as_number}
use Rattle.iox2_c.specs.Serving.{KeptBytes, Serving}
use Rattle.iox2_c.specs.Steps.{BytesState}
use Rattle.iox2_c.proofs.BecomesSteps.{moved}

-- what is so of a domain that was taken out
pub knows : (P : KeptBytes → Type 0) (service : Option Serving) (a : Serving) → service ≡ Some a → P a.domain
    → Knows P service
knows P service a was holds = subst (λ (o : Option Serving). Knows P o) (sym was) holds

-- what the domain that was opened answers by a port's id, the domain answers by its numbers
pub told : {A : Type 0} (answer : BytesState → ℕ → A) (result : A) (inside old : KeptBytes) (q p : ℕ) → inside ≡ old
    → q ≡ p → InEachState inside (λ s. result ≡ answer s q) → InEachState old (λ s. result ≡ answer s p)
told answer result inside old q p same id holds =
    moved (λ k port. InEachState k (λ s. result ≡ answer s port)) inside old q p same id holds

-- and so where it is told by a number
pub told-number : (answer : BytesState → ℕ → Bool) (result : Bool) (out : ℕ) (inside old : KeptBytes) (q p : ℕ)
    → inside ≡ old → q ≡ p → out ≡ as_number result → InEachState inside (λ s. result ≡ answer s q)
    → InEachState old (λ s. out ≡ as_number (answer s p))
told-number answer result out inside old q p same id tells holds m s shows =
    tells ∙ ap as_number (told answer result inside old q p same id holds m s shows)

module _ (domain : KeptBytes) (key : Key) (channel code : ℕ) where
  -- with the code 0 the publisher is there
  pub publisher-there : AnswersPublisherChannel domain key channel code → code ≡ 0 → IsPublisherKey domain key
  publisher-there (inl there) ok = there.1
  publisher-there (inr (inl gone)) ok = absurd (omega (arith, gone.0, ok))
  publisher-there (inr (inr none)) ok = absurd (omega (arith, none.0, ok))

  -- and so the subscriber
  pub subscriber-there : AnswersSubscriberChannel domain key channel code → code ≡ 0 → IsSubscriberKey domain key
  subscriber-there (inl there) ok = there.1
  subscriber-there (inr (inl gone)) ok = absurd (omega (arith, gone.0, ok))
  subscriber-there (inr (inr none)) ok = absurd (omega (arith, none.0, ok))
