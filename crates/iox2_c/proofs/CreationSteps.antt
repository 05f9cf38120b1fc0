-- What comes of a creation, by its code.
use Rattle.std.proofs.Common.{◌≡◌, ◌∙◌, ◌<◌, ℕ, zero, suc, refl, ap, sym, subst, arith}
use Rattle.std.specs.Prelude.{IfOk, MatchResult}
use Rattle.std.specs.declared.option.Option.TheVariants.{None, Some}
use Rattle.std.specs.declared.result.Result.{Result}
use Rattle.std.specs.declared.result.Result.TheVariants.{Err, Ok}
use Rattle.iox2_machine.specs.declared.errors.PublisherCreateError.{PublisherCreateError}
use Rattle.iox2_machine.specs.declared.errors.PublisherCreateError.TheVariants as publisher
use Rattle.iox2_machine.specs.declared.errors.SubscriberCreateError.{SubscriberCreateError}
use Rattle.iox2_machine.specs.declared.errors.SubscriberCreateError.TheVariants as subscriber
use Rattle.iox2_machine.specs.declared.key.Key.{Key}
use Rattle.iox2_machine.specs.machine.Ports.{CreatePublisher, CreateSubscriber, buffer_for}
use Rattle.iox2_machine.specs.machine.Records.{PublisherSettings, SubscriberSettings}
use Rattle.iox2_machine.specs.machine.State.{Messages}
use Rattle.iox2_domain.specs.Shows.{Shows}
use Rattle.iox2_pubsub.specs.Handles.{as_publisher, as_subscriber, buffer_size_of, publisher_id, subscriber_id}
use Rattle.iox2_pubsub.specs.Live.{publisher_key, subscriber_key}
use Rattle.iox2_pubsub.specs.declared.slice.publisher.Publisher.{Publisher}
use Rattle.iox2_pubsub.specs.declared.slice.subscriber.Subscriber.{Subscriber}
use Rattle.iox2_c.specs.Calls.{publisher_made}
use Rattle.iox2_c.specs.Codes.{code_of, publisher_code, slots_numbered, subscriber_code}
use Rattle.iox2_c.specs.Numbers.{named_publisher, named_subscriber, wide}
use Rattle.iox2_c.specs.Serving.{KeptBytes}
use Rattle.iox2_c.specs.Steps.{BytesState, CreatesPublisher, CreatesSubscriber, publishers_answer, subscribers_answer}
use Rattle.iox2_c.specs.declared.numbers.PublisherNumbers.{PublisherNumbers}
use Rattle.iox2_c.specs.declared.numbers.SubscriberNumbers.{SubscriberNumbers}

-- 0 asks for no slots, and each other number for so many
pub slots-left : (n : ℕ) → n ≡ 0 → slots_numbered n ≡ None
slots-left n is = rw is refl

pub slots-asked : (n : ℕ) → (n ≡ 0 → ⊥) → slots_numbered n ≡ Some n
slots-asked zero some = absurd (some refl)
slots-asked (suc n) some = refl

-- codes of refusals aren't 0
publisher-code-high : (error : PublisherCreateError) → 0 < publisher_code error
publisher-code-high publisher.ExceedsMaxSupportedPublishers = omega arith
publisher-code-high publisher.UnableToCreateDataSegment = omega arith
publisher-code-high publisher.FailedToDeployThreadsafetyPolicy = omega arith
publisher-code-high publisher.UnableToCreatePortTag = omega arith

subscriber-code-high : (error : SubscriberCreateError) → 0 < subscriber_code error
subscriber-code-high subscriber.ExceedsMaxSupportedSubscribers = omega arith
subscriber-code-high subscriber.BufferSizeExceedsMaxSupportedBufferSizeOfService = omega arith
subscriber-code-high subscriber.FailedToDeployThreadsafetyPolicy = omega arith
subscriber-code-high subscriber.UnableToCreatePortTag = omega arith

module _ (old new : KeptBytes) (given : PublisherSettings) where
  -- what a factory says of a publisher
  abbrev pub Told : Result Publisher PublisherCreateError → Type 0
  Told made = (m : Messages ℕ (Unit {0})) (s : BytesState) → Shows old m s
      → (s' : BytesState) × Shows new m s' × MatchResult made
      (λ it. (publisher_id (as_publisher it) ≡ s.next_port) × CreatePublisher (publishers_answer new) s given s' None)
      (λ error. CreatePublisher (publishers_answer new) s given s' (Some error))

  -- a publisher is told of by its id
  pub by-id : (made : Result Publisher PublisherCreateError) → Told made
      → CreatesPublisher old new given (publisher_made made)
  by-id (Ok it) told = told
  by-id (Err error) told = told

  -- with the code 0 it is made
  pub publisher-creates : (made : Result Publisher PublisherCreateError) (code : ℕ) (out : PublisherNumbers)
      → CreatesPublisher old new given (publisher_made made)
      → code ≡ code_of publisher_code made → IfOk made (λ it. named_publisher out ≡ publisher_key (as_publisher it))
      → code ≡ 0 → CreatesPublisher old new given (Ok (wide out.id))
  publisher-creates (Ok it) code out step is named none =
      subst (λ (id : ℕ). CreatesPublisher old new given (Ok id)) (sym (ap (λ (k : Key). k.port) named)) step
  publisher-creates (Err error) code out step is named none = let high = publisher-code-high error in
      absurd (omega (arith, high, is, none))

  -- with another it is refused
  pub publisher-refused : (made : Result Publisher PublisherCreateError) (code : ℕ)
      → CreatesPublisher old new given (publisher_made made)
      → code ≡ code_of publisher_code made → 0 < code
      → (error : PublisherCreateError) × (code ≡ publisher_code error) × CreatesPublisher old new given (Err error)
  publisher-refused (Ok it) code step is some = absurd (omega (arith, is, some))
  publisher-refused (Err error) code step is some = (error, is, step)

-- a creation in the domain that was opened is one in the domain
pub moved : (inside old new : KeptBytes) (was given : PublisherSettings) (made : Result ℕ PublisherCreateError)
    → inside ≡ old → was ≡ given
    → CreatesPublisher inside new was made → CreatesPublisher old new given made
moved inside old new was given made same settings step =
    subst (λ (k : KeptBytes). CreatesPublisher k new given made) same
    (subst (λ (g : PublisherSettings). CreatesPublisher inside new g made) settings step)

module _ (old new : KeptBytes) (given : SubscriberSettings) where
  -- what a factory says of a subscriber
  abbrev pub ToldOf : Result Subscriber SubscriberCreateError → Type 0
  ToldOf made = (m : Messages ℕ (Unit {0})) (s : BytesState) → Shows old m s
      → (s' : BytesState) × Shows new m s' × MatchResult made
      (λ it. CreateSubscriber (subscribers_answer new) s given s' None
      × (subscriber_id (as_subscriber it) ≡ s.next_port) × (buffer_size_of (as_subscriber it) ≡ buffer_for given))
      (λ error. CreateSubscriber (subscribers_answer new) s given s' (Some error))

  -- with the code 0 it is made
  pub subscriber-creates : (made : Result Subscriber SubscriberCreateError) (code : ℕ) (out : SubscriberNumbers)
      → ToldOf made → code ≡ code_of subscriber_code made
      → IfOk made (λ it. named_subscriber out ≡ subscriber_key (as_subscriber it))
      → IfOk made (λ it. out.buffer_size ≡ buffer_size_of (as_subscriber it)) → code ≡ 0
      → CreatesSubscriber old new given (Ok out)
  subscriber-creates (Ok it) code out told is named buffer none = λ m s shown.
      let step = told m s shown in
      (step.0, step.1, (ap (λ (k : Key). k.port) named ∙ (step.2).1, buffer ∙ (step.2).2, (step.2).0))
  subscriber-creates (Err error) code out told is named buffer none = let high = subscriber-code-high error in
      absurd (omega (arith, high, is, none))

  -- with another it is refused
  pub subscriber-refused : (made : Result Subscriber SubscriberCreateError) (code : ℕ) → ToldOf made
      → code ≡ code_of subscriber_code made
      → 0 < code → (error : SubscriberCreateError) × (code ≡ subscriber_code error)
      × CreatesSubscriber old new given (Err error)
  subscriber-refused (Ok it) code told is some = absurd (omega (arith, is, some))
  subscriber-refused (Err error) code told is some = (error, is, told)

-- what a factory says of the domain that was opened it says of the domain
pub told-moved : (inside old new : KeptBytes) (was given : SubscriberSettings)
    (made : Result Subscriber SubscriberCreateError) → inside ≡ old → was ≡ given
    → ToldOf inside new was made → ToldOf old new given made
told-moved inside old new was given made same settings told =
    subst (λ (k : KeptBytes). ToldOf k new given made) same
    (subst (λ (g : SubscriberSettings). ToldOf inside new g made) settings told)
