-- A question about channels, or a change of them, changes nothing else.
use Rattle.std.proofs.Common.{◌≡◌, ℕ, Bool, true, false, refl, sym, subst, Option, None, Some, List}
use Rattle.std.specs.Prelude.{MatchOption}
use Rattle.std.specs.Option.{option_map_or}
use Rattle.std.proofs.lemmas.Bool.{true≢false}
use Rattle.iox2_machine.specs.machine.Channel.{Channel, closed_state, with_state, with_hint, changed_if}
use Rattle.iox2_machine.specs.machine.ChannelCalls.{receiver_at, received_changed}
use Rattle.iox2_machine.specs.machine.Records.{Environment}
use Rattle.iox2_machine.specs.machine.State.{State, Messages, with_channels}
use Rattle.iox2_laws.proofs.Cases.{by_option}
use Rattle.iox2_commands.specs.Outcomes.{Handle, Outcome, replied, done, skipped}
use Rattle.iox2_commands.specs.Step.{Step, publisher_at, subscriber_at, if_channel, of_publisher_channel}
use Rattle.iox2_commands.specs.Step.{of_subscriber_channel}
use Rattle.iox2_commands.specs.declared.command.Command.{Command}
use Rattle.iox2_commands.specs.declared.command.Command.TheVariants.{ConnectionPlace, PublisherChannel}
use Rattle.iox2_commands.specs.declared.command.Command.TheVariants.{SubscriberChannel}
use Rattle.iox2_commands.specs.declared.channel_calls.PublisherChannelCall.{PublisherChannelCall}
use Rattle.iox2_commands.specs.declared.channel_calls.PublisherChannelCall.TheVariants.{HasState, HasDisconnectHint}
use Rattle.iox2_commands.specs.declared.channel_calls.PublisherChannelCall.TheVariants.{Close as CloseSent}
use Rattle.iox2_commands.specs.declared.channel_calls.SubscriberChannelCall.{SubscriberChannelCall}
use Rattle.iox2_commands.specs.declared.channel_calls.SubscriberChannelCall.TheVariants.{SetState, SomeHasState}
use Rattle.iox2_commands.specs.declared.channel_calls.SubscriberChannelCall.TheVariants.{Close as CloseReceived}
use Rattle.iox2_commands.specs.declared.channel_calls.SubscriberChannelCall.TheVariants.{SetDisconnectHint}
use Rattle.iox2_commands.specs.declared.reply.Reply.{Reply}
use Rattle.iox2_commands.specs.declared.reply.Reply.TheVariants.{Done, Skipped, Has, WereClosed, Place}

module _ {T U : Type 0} where
  -- The command is a question about channels, or a change of them.
  abbrev pub is_on_channels : Command T U → Bool
  is_on_channels (ConnectionPlace of receiver) = true
  is_on_channels (PublisherChannel of channel place call) = true
  is_on_channels (SubscriberChannel of channel call) = true
  is_on_channels _ = false

  -- The reply is one that these have.
  abbrev pub is_of_channels : Reply T U → Bool
  is_of_channels Done = true
  is_of_channels Skipped = true
  is_of_channels (Has is) = true
  is_of_channels (WereClosed were) = true
  is_of_channels (Place place) = true
  is_of_channels _ = false

  -- The outcome makes nothing, tells of no message, and its state differs in channels alone.
  pub record OnChannels (s : State T U) (o : Outcome T U) : Type 0 where
    pub reply : Reply T U
    pub channels : ℕ → ℕ → ℕ → Channel
    pub is : o ≡ replied reply (record s { channels = channels })
    pub plain : is_of_channels reply ≡ true

  unchanged : (s : State T U) (reply : Reply T U) → is_of_channels reply ≡ true → OnChannels s (replied reply s)
  unchanged s reply plain = record { reply = reply; channels = s.channels; is = refl; plain = plain }

  closed_at : (s : State T U) (p channel expected : ℕ) (at : Option ℕ)
      → OnChannels s
      (done (option_map_or
      (λ q. with_channels s p q (changed_if channel expected (with_state closed_state) (s.channels p q))) at s))
  closed_at s p channel expected None = unchanged s Done refl
  closed_at s p channel expected (Some q) = record {
    reply = Done;
    channels = (with_channels s p q (changed_if channel expected (with_state closed_state) (s.channels p q))).channels;
    is = refl;
    plain = refl;
  }

  -- what a publisher asks or does
  pub publisher_call_on : (s : State T U) (p channel place : ℕ) (call : PublisherChannelCall)
      → OnChannels s (of_publisher_channel s p channel place call)
  publisher_call_on s p channel place (HasState state) = unchanged s _ refl
  publisher_call_on s p channel place (HasDisconnectHint state) = unchanged s _ refl
  publisher_call_on s p channel place (CloseSent expected) = closed_at s p channel expected (receiver_at s p place)

  changed : (s : State T U) (q channel expected : ℕ) (change : Channel → Channel) (reply : Reply T U)
      → is_of_channels reply ≡ true
      → OnChannels s (replied reply (received_changed s q channel expected change))
  changed s q channel expected change reply plain =
      record {
        reply = reply;
        channels = (received_changed s q channel expected change).channels;
        is = refl;
        plain = plain;
      }

  -- what a subscriber asks or does
  pub subscriber_call_on : (s : State T U) (q channel : ℕ) (call : SubscriberChannelCall)
      → OnChannels s (of_subscriber_channel s q channel call)
  subscriber_call_on s q channel (SetState state) = changed s q channel closed_state (with_state state) _ refl
  subscriber_call_on s q channel (SomeHasState state) = unchanged s _ refl
  subscriber_call_on s q channel (CloseReceived expected) =
      changed s q channel expected (with_state closed_state) _ refl
  subscriber_call_on s q channel (SetDisconnectHint expected) = changed s q channel expected with_hint _ refl

  module _ (environment : Environment) (default_value : T) (default_header : U) (m : Messages T U) (s : State T U)
      (handles : List Handle) where
    live : {A : Type 0} (o : Outcome T U) (named : Option A) (Then : A → Type 0)
        → MatchOption named (o ≡ skipped s) Then
        → ((a : A) → Then a → OnChannels s o) → OnChannels s o
    live o named Then h go = by_option (OnChannels s o) named _ _ h
        (λ _ e. subst (OnChannels s) (sym e) (unchanged s Skipped refl)) (λ a _ k. go a k)

    -- Each of these commands.
    pub on_channels : (command : Command T U) (o : Outcome T U) → is_on_channels command ≡ true
        → Step environment default_value default_header m s handles command o → OnChannels s o
    on_channels (ConnectionPlace of receiver) o c h =
        live o (publisher_at s handles of) _ h (λ publisher e. subst (OnChannels s) (sym e) (unchanged s _ refl))
    on_channels (PublisherChannel of channel place call) o c h =
        live o (if_channel s channel (publisher_at s handles of)) _ h (λ publisher e.
        subst (OnChannels s) (sym e) (publisher_call_on s publisher.0 channel place call))
    on_channels (SubscriberChannel of channel call) o c h =
        live o (if_channel s channel (subscriber_at s handles of)) _ h (λ subscriber e.
        subst (OnChannels s) (sym e) (subscriber_call_on s subscriber.0 channel call))
    on_channels _ o c h = absurd (true≢false (sym c))
