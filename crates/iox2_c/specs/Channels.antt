-- Calls on the channels of connections: why they are refused, what they answer, and which step of the machine they
-- made.
use Rattle.std.specs.Prelude.{ℕ, Bool, if◌then◌else◌, ◌≡◌, ◌≤◌, ◌⊎◌}
use Rattle.std.specs.declared.option.Option.{Option}
use Rattle.std.specs.declared.option.Option.TheVariants.{Some}
use Rattle.iox2_machine.specs.declared.key.Key.{Key}
use Rattle.iox2_machine.specs.machine.ChannelCalls.{SetChannelState, connection_place, has_channel_state}
use Rattle.iox2_machine.specs.machine.ChannelCalls.{has_disconnect_hint, received_closed, received_hinted, sent_closed}
use Rattle.iox2_machine.specs.machine.ChannelCalls.{some_channel_has_state}
use Rattle.iox2_machine.specs.machine.Limits.{channel_count}
use Rattle.iox2_machine.specs.machine.State.{Messages}
use Rattle.iox2_domain.specs.Shows.{Shows}
use Rattle.iox2_pubsub.specs.BlockedSends.{waits_for}
use Rattle.iox2_pubsub.specs.Live.{IsPublisherKey, IsSubscriberKey}
use Rattle.iox2_c.specs.Serving.{KeptBytes}
use Rattle.iox2_c.specs.Steps.{BytesState, StepsTo}
use Rattle.iox2_c.specs.declared.calls.channel_changes.ReceivedChange.{ReceivedChange}
use Rattle.iox2_c.specs.declared.calls.channel_changes.ReceivedChange.TheVariants.{Close, Hint}
use Rattle.iox2_c.specs.declared.status.TheConstants.{NOT_LIVE, NO_SUCH_CHANNEL, OK}

-- ---- refusals, which change nothing

module _ (domain : KeptBytes) (key : Key) (channel : ℕ) where
  -- Why a publisher's call on a channel is refused with this code.
  abbrev pub RefusesPublisherChannel : (code : ℕ) → Type 0
  RefusesPublisherChannel code = ((code ≡ NOT_LIVE) × (IsPublisherKey domain key → ⊥))
      ⊎ ((code ≡ NO_SUCH_CHANNEL) × IsPublisherKey domain key × (channel_count domain.config ≤ channel))

  -- Why a subscriber's is.
  abbrev pub RefusesSubscriberChannel : (code : ℕ) → Type 0
  RefusesSubscriberChannel code = ((code ≡ NOT_LIVE) × (IsSubscriberKey domain key → ⊥))
      ⊎ ((code ≡ NO_SUCH_CHANNEL) × IsSubscriberKey domain key × (channel_count domain.config ≤ channel))

  -- A publisher's call on a channel is answered with this code: OK where it is there, and else why it is refused.
  abbrev pub AnswersPublisherChannel : (code : ℕ) → Type 0
  AnswersPublisherChannel code = ((code ≡ OK) × IsPublisherKey domain key) ⊎ RefusesPublisherChannel code

  -- A subscriber's is.
  abbrev pub AnswersSubscriberChannel : (code : ℕ) → Type 0
  AnswersSubscriberChannel code = ((code ≡ OK) × IsSubscriberKey domain key) ⊎ RefusesSubscriberChannel code

-- ---- answers

-- 1 where it is so, and else 0.
abbrev pub as_number : Bool → ℕ
as_number is_so = if is_so then 1 else 0

module _ (domain : KeptBytes) where
  -- This is so of each state that the domain shows.
  abbrev pub InEachState : (BytesState → Type 0) → Type 0
  InEachState IsSo = (m : Messages ℕ (Unit {0})) (s : BytesState) → Shows domain m s → IsSo s

  -- The answer says whether the channel is in the state at some connection of the subscriber with this id.
  abbrev pub TellsSomeState : (subscriber channel state answer : ℕ) → Type 0
  TellsSomeState subscriber channel state answer =
      InEachState (λ s. answer ≡ as_number (some_channel_has_state s subscriber channel state))

  -- The blocked send of the publisher with this id waits for the subscriber with that one.
  abbrev pub TellsBlocker : (publisher subscriber : ℕ) → Type 0
  TellsBlocker publisher subscriber = InEachState (λ s. waits_for s publisher ≡ Some subscriber)

  -- This is where the publisher with this id has its connection to the receiver, if it has one.
  abbrev pub TellsConnection : (publisher receiver : ℕ) → Option ℕ → Type 0
  TellsConnection publisher receiver place = InEachState (λ s. connection_place s publisher receiver ≡ place)

  -- The answer says whether the channel is in the state at that connection of the publisher with this id.
  abbrev pub TellsState : (publisher channel place state answer : ℕ) → Type 0
  TellsState publisher channel place state answer =
      InEachState (λ s. answer ≡ as_number (has_channel_state s publisher channel place state))

  -- The answer says whether it is in the state there, and has a hint.
  abbrev pub TellsHint : (publisher channel place state answer : ℕ) → Type 0
  TellsHint publisher channel place state answer =
      InEachState (λ s. answer ≡ as_number (has_disconnect_hint s publisher channel place state))

-- ---- changes

module _ (old new : KeptBytes) where
  -- From each state that the domain showed it came to this one.
  abbrev pub ChangesTo : (BytesState → BytesState) → Type 0
  ChangesTo change = (m : Messages ℕ (Unit {0})) (s : BytesState) → Shows old m s → Shows new m (change s)

  -- The subscriber with this id brought the channel into the state wherever it was closed; the answer says whether it
  -- was at each connection.
  abbrev pub SetsState : (subscriber channel state answer : ℕ) → Type 0
  SetsState subscriber channel state answer =
      (were_closed : Bool) × (answer ≡ as_number were_closed)
      × StepsTo old new (λ s s'. SetChannelState s subscriber channel state s' were_closed)

  -- The subscriber with this id closed the channel wherever it was in the state `expected`.
  abbrev pub ClosesReceived : (subscriber channel expected : ℕ) → Type 0
  ClosesReceived subscriber channel expected = ChangesTo (λ s. received_closed s subscriber channel expected)

  -- The subscriber with this id hinted that it disconnects wherever the channel was in the state `expected`.
  abbrev pub HintsReceived : (subscriber channel expected : ℕ) → Type 0
  HintsReceived subscriber channel expected = ChangesTo (λ s. received_hinted s subscriber channel expected)

  -- The subscriber with this id changed the channel so wherever it was in the state `expected`.
  abbrev pub ChangesReceived : ReceivedChange → (subscriber channel expected : ℕ) → Type 0
  ChangesReceived Close = ClosesReceived
  ChangesReceived Hint = HintsReceived

  -- The publisher with this id closed the channel at that connection, if it was in the state `expected`.
  abbrev pub ClosesSent : (publisher channel place expected : ℕ) → Type 0
  ClosesSent publisher channel place expected = ChangesTo (λ s. sent_closed s publisher channel place expected)
