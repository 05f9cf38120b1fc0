-- Calls on channels, as a subscriber sees them.
use Rattle.std.proofs.Common.{◌≡◌, ℕ, true, false, cond, [], refl, sym, ap, ◌∙◌, Option, None, Some, eqb}
use Rattle.std.specs.Option.{option_and_then, option_map_or}
use Rattle.std.proofs.lemmas.Bool.{eqb-true}
use Rattle.iox2_machine.specs.machine.Numbers.{contains, put_at}
use Rattle.iox2_machine.specs.machine.Places.{occupant}
use Rattle.iox2_machine.specs.machine.Channel.{Channel, closed_state, with_state, with_hint, changed_if}
use Rattle.iox2_machine.specs.machine.ChannelCalls.{receiver_at, senders_of, sent_closed, received_changed}
use Rattle.iox2_machine.specs.machine.Records.{Publisher, Subscriber}
use Rattle.iox2_machine.specs.machine.State.{State, connected_publishers, with_channels}
use Rattle.iox2_laws.proofs.Puts.{put_at-same, put_at-other}
use Rattle.iox2_commands.specs.Outcomes.{Outcome, done}
use Rattle.iox2_commands.specs.Views.{seen_handle}
use Rattle.iox2_commands.specs.Step.{of_publisher_channel, of_subscriber_channel}
use Rattle.iox2_commands.specs.declared.channel_calls.PublisherChannelCall.{PublisherChannelCall}
use Rattle.iox2_commands.specs.declared.channel_calls.PublisherChannelCall.TheVariants.{HasState, HasDisconnectHint}
use Rattle.iox2_commands.specs.declared.channel_calls.PublisherChannelCall.TheVariants.{Close as CloseSent}
use Rattle.iox2_commands.specs.declared.channel_calls.SubscriberChannelCall.{SubscriberChannelCall}
use Rattle.iox2_commands.specs.declared.channel_calls.SubscriberChannelCall.TheVariants.{SetState, SomeHasState}
use Rattle.iox2_commands.specs.declared.channel_calls.SubscriberChannelCall.TheVariants.{Close as CloseReceived}
use Rattle.iox2_commands.specs.declared.channel_calls.SubscriberChannelCall.TheVariants.{SetDisconnectHint}
use Rattle.iox2_commands.proofs.AlikeViews.{View, view_of, row_put}
use Rattle.iox2_commands.proofs.AlikeReceives.{IsAlike, sent_part}

module _ {T U : Type 0} (q : ℕ) where
  alike : (o o' : Outcome T U) → o.event ≡ o'.event → o.handle ≡ o'.handle → view_of q o.state ≡ view_of q o'.state
      → IsAlike q o o'
  alike o o' event handle state =
      record { state = state; event = ap sent_part event; handle = ap (seen_handle q) handle }

  -- ---- a publisher's calls

  module _ (p channel place expected : ℕ) where
    -- the channels where one is closed towards that subscriber
    abbrev closed_towards : (r : ℕ) → View T U → View T U
    closed_towards r v = record v {
      channels = put_at v.channels p
          (cond (eqb q r) (changed_if channel expected (with_state closed_state) (v.channels p)) (v.channels p));
    }

    closed_at : (s : State T U) (at : Option ℕ)
        → view_of q (option_map_or
        (λ r. with_channels s p r (changed_if channel expected (with_state closed_state) (s.channels p r))) at s)
        ≡ option_map_or (λ r. closed_towards r (view_of q s)) at (view_of q s)
    closed_at s None = refl
    closed_at s (Some r) = λ i. record (view_of q s) { channels = λ k. at k i }
      where
        change : (ℕ → Channel) → ℕ → Channel
        change = changed_if channel expected (with_state closed_state)

        inner : put_at (s.channels p) r (change (s.channels p r)) q ≡ cond (eqb q r) (change (s.channels p q))
            (s.channels p q)
        inner = elim (eqb q r) as (λ b. eqb q r ≡ b
            → cond b (change (s.channels p r)) (s.channels p q) ≡ cond b (change (s.channels p q)) (s.channels p q)) [
              | true ↦ λ same. ap (λ j. change (s.channels p j)) (sym (eqb-true q r same))
              | false ↦ λ _. refl
            ] refl

        at : (k : ℕ) → put_at s.channels p (put_at (s.channels p) r (change (s.channels p r))) k q
            ≡ put_at (λ j. s.channels j q) p (cond (eqb q r) (change (s.channels p q)) (s.channels p q)) k
        at k = row_put q s.channels p (put_at (s.channels p) r (change (s.channels p r))) k
            ∙ ap (λ (v : ℕ → Channel). put_at (λ j. s.channels j q) p v k) inner

    -- the view after it is closed
    abbrev sent_closed_view : View T U → View T U
    sent_closed_view v = option_map_or (λ r. closed_towards r v)
        (option_and_then (λ (x : Publisher). occupant x.ends place) (v.publishers p)) v

    sent_closed_alike : (a b : State T U) → view_of q a ≡ view_of q b
        → view_of q (sent_closed a p channel place expected) ≡ view_of q (sent_closed b p channel place expected)
    sent_closed_alike a b e =
        closed_at a (receiver_at a p place) ∙ ap sent_closed_view e ∙ sym (closed_at b (receiver_at b p place))

  -- A publisher's call in two states that look alike.
  pub publisher_channel_alike : (a b : State T U) (p channel place : ℕ) (call : PublisherChannelCall)
      → view_of q a ≡ view_of q b
      → IsAlike q (of_publisher_channel a p channel place call) (of_publisher_channel b p channel place call)
  publisher_channel_alike a b p channel place (HasState state) e = alike _ _ refl refl e
  publisher_channel_alike a b p channel place (HasDisconnectHint state) e = alike _ _ refl refl e
  publisher_channel_alike a b p channel place (CloseSent expected) e =
      alike _ _ refl refl (sent_closed_alike p channel place expected a b e)

  -- ---- a subscriber's calls

  module _ (channel expected : ℕ) (change : Channel → Channel) where
    -- the view after q's own channels are changed
    abbrev received_changed_view : View T U → View T U
    received_changed_view v = record v {
      channels = λ p. cond (contains (option_map_or (λ (y : Subscriber). connected_publishers y) v.own []) p)
          (changed_if channel expected change (v.channels p)) (v.channels p);
    }

    received_changed_seen : (s : State T U)
        → view_of q (received_changed s q channel expected change) ≡ received_changed_view (view_of q s)
    received_changed_seen s = λ i. record (view_of q s) {
      channels = λ p. put_at-same (s.channels p) q
          (cond (contains (senders_of s q) p) (changed_if channel expected change (s.channels p q)) (s.channels p q)) i;
    }

    received_changed_alike : (a b : State T U) → view_of q a ≡ view_of q b
        → view_of q (received_changed a q channel expected change) ≡ view_of q
        (received_changed b q channel expected change)
    received_changed_alike a b e = received_changed_seen a ∙ ap received_changed_view e ∙ sym (received_changed_seen b)

    received_changed_apart : (s : State T U) (r : ℕ) → eqb q r ≡ false
        → view_of q (received_changed s r channel expected change) ≡ view_of q s
    received_changed_apart s r apart = λ i. record (view_of q s) {
      channels = λ p. put_at-other (s.channels p) r
          (cond (contains (senders_of s r) p) (changed_if channel expected change (s.channels p r)) (s.channels p r)) q
          apart i;
    }

  -- The subscriber's own call in two states that look alike to it.
  pub subscriber_channel_alike : (a b : State T U) (channel : ℕ) (call : SubscriberChannelCall)
      → view_of q a ≡ view_of q b
      → IsAlike q (of_subscriber_channel a q channel call) (of_subscriber_channel b q channel call)
  subscriber_channel_alike a b channel (SetState state) e =
      alike _ _ refl refl (received_changed_alike channel closed_state (with_state state) a b e)
  subscriber_channel_alike a b channel (SomeHasState state) e = alike _ _ refl refl e
  subscriber_channel_alike a b channel (CloseReceived expected) e =
      alike _ _ refl refl (received_changed_alike channel expected (with_state closed_state) a b e)
  subscriber_channel_alike a b channel (SetDisconnectHint expected) e =
      alike _ _ refl refl (received_changed_alike channel expected with_hint a b e)

  -- Another subscriber's call is as if nothing was done.
  pub subscriber_channel_apart : (s : State T U) (r channel : ℕ) (call : SubscriberChannelCall) → eqb q r ≡ false
      → IsAlike q (of_subscriber_channel s r channel call) (done s)
  subscriber_channel_apart s r channel (SetState state) apart =
      alike _ _ refl refl (received_changed_apart channel closed_state (with_state state) s r apart)
  subscriber_channel_apart s r channel (SomeHasState state) apart = alike _ _ refl refl refl
  subscriber_channel_apart s r channel (CloseReceived expected) apart =
      alike _ _ refl refl (received_changed_apart channel expected (with_state closed_state) s r apart)
  subscriber_channel_apart s r channel (SetDisconnectHint expected) apart =
      alike _ _ refl refl (received_changed_apart channel expected with_hint s r apart)
