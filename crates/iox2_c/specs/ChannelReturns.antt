-- What a call on a channel by numbers returns, and what it did then.
use Rattle.std.specs.Prelude.{ℕ, ◌≡◌, ◌<◌, ◌⊎◌}
use Rattle.std.specs.declared.option.Option.TheVariants.{None, Some}
use Rattle.iox2_pubsub.specs.Live.{IsPublisherKey, No_item}
use Rattle.iox2_c.specs.Channels.{AnswersPublisherChannel, AnswersSubscriberChannel, ChangesReceived, ClosesSent}
use Rattle.iox2_c.specs.Channels.{SetsState, TellsConnection, TellsHint, TellsSomeState, TellsState}
use Rattle.iox2_c.specs.Numbers.{named_publisher, named_subscriber, wide}
use Rattle.iox2_c.specs.Serving.{Serving, ServesBut}
use Rattle.iox2_c.specs.declared.calls.channel_changes.ReceivedChange.{ReceivedChange}
use Rattle.iox2_c.specs.declared.numbers.PublisherNumbers.{PublisherNumbers}
use Rattle.iox2_c.specs.declared.numbers.SubscriberNumbers.{SubscriberNumbers}
use Rattle.iox2_c.specs.declared.numbers.Wide.{Wide}
use Rattle.iox2_c.specs.declared.status.TheConstants.{NOT_LIVE, NO_CONNECTION, OK}

-- ---- questions: the code, and what was there for the answer before and is after

-- The subscriber with these numbers was asked whether the channel is in the state at some connection of it.
pub record SomeStateReturns (numbers : SubscriberNumbers) (channel state : ℕ) (old new : Serving)
    (before after code : ℕ) : Type 0 where
  pub answered : AnswersSubscriberChannel old.domain (named_subscriber numbers) channel code
  pub tells : code ≡ OK → TellsSomeState old.domain (wide numbers.id) channel state after
  pub same : OK < code → after ≡ before
  pub unchanged : new ≡ old

-- The publisher with these numbers was asked where it has its connection to the subscriber with this id.
pub record ConnectionReturns (numbers : PublisherNumbers) (receiver : Wide) (old new : Serving)
    (before after code : ℕ) : Type 0 where
  pub answered : (code ≡ OK) ⊎ ((code ≡ NOT_LIVE) × (IsPublisherKey old.domain (named_publisher numbers) → ⊥))
      ⊎ (code ≡ NO_CONNECTION)
  pub live : (code ≡ NOT_LIVE → ⊥) → IsPublisherKey old.domain (named_publisher numbers)
  pub tells : code ≡ OK → TellsConnection old.domain (wide numbers.id) (wide receiver) (Some after)
  pub none : code ≡ NO_CONNECTION → TellsConnection old.domain (wide numbers.id) (wide receiver) None
  pub same : OK < code → after ≡ before
  pub unchanged : new ≡ old

-- The publisher with these numbers was asked whether the channel is in the state at that connection.
pub record StateReturns (numbers : PublisherNumbers) (channel connection state : ℕ) (old new : Serving)
    (before after code : ℕ) : Type 0 where
  pub answered : AnswersPublisherChannel old.domain (named_publisher numbers) channel code
  pub tells : code ≡ OK → TellsState old.domain (wide numbers.id) channel connection state after
  pub same : OK < code → after ≡ before
  pub unchanged : new ≡ old

-- It was asked whether it is in the state there, and has a hint.
pub record HintReturns (numbers : PublisherNumbers) (channel connection state : ℕ) (old new : Serving)
    (before after code : ℕ) : Type 0 where
  pub answered : AnswersPublisherChannel old.domain (named_publisher numbers) channel code
  pub tells : code ≡ OK → TellsHint old.domain (wide numbers.id) channel connection state after
  pub same : OK < code → after ≡ before
  pub unchanged : new ≡ old

-- ---- changes

-- The subscriber with these numbers was to bring the channel into the state wherever it is closed: the code, and the
-- answer whether it was at each connection.
pub record SetStateReturns (numbers : SubscriberNumbers) (channel state : ℕ) (old new : Serving)
    (before after code : ℕ) : Type 0 where
  pub answered : AnswersSubscriberChannel old.domain (named_subscriber numbers) channel code
  pub sets : code ≡ OK → SetsState old.domain new.domain (wide numbers.id) channel state after
  pub refused : OK < code → new ≡ old
  pub same : OK < code → after ≡ before
  pub stays : ServesBut No_item old new

-- The subscriber with these numbers was to change the channel so wherever it is in the state `expected`: the code.
pub record ChangeReturns (numbers : SubscriberNumbers) (change : ReceivedChange) (channel expected : ℕ)
    (old new : Serving) (code : ℕ) : Type 0 where
  pub answered : AnswersSubscriberChannel old.domain (named_subscriber numbers) channel code
  pub changes : code ≡ OK → ChangesReceived old.domain new.domain change (wide numbers.id) channel expected
  pub refused : OK < code → new ≡ old
  pub stays : ServesBut No_item old new

-- The publisher with these numbers was to close the channel at that connection, if it is in the state `expected`: the
-- code.
pub record CloseReturns (numbers : PublisherNumbers) (channel connection expected : ℕ) (old new : Serving)
    (code : ℕ) : Type 0 where
  pub answered : AnswersPublisherChannel old.domain (named_publisher numbers) channel code
  pub closes : code ≡ OK → ClosesSent old.domain new.domain (wide numbers.id) channel connection expected
  pub refused : OK < code → new ≡ old
  pub stays : ServesBut No_item old new
