-- What ports ask of the channels of their connections, and how they change them. No message moves by this.
-- (iceoryx2: `port/details/receiver.rs` and `port/details/sender.rs`, the calls on channels.)
use Rattle.std.specs.Prelude.{ℕ, suc, Bool, false, if◌then◌else◌, List, [], ◌∷◌, ◌≡◌}
use Rattle.std.specs.List.{list_all, list_any}
use Rattle.std.specs.Option.{option_and_then, option_map_or}
use Rattle.std.specs.declared.option.Option.{Option}
use Rattle.std.specs.declared.option.Option.TheVariants.{None, Some}
use Rattle.iox2_machine.specs.machine.Numbers.{contains, put_at}
use Rattle.iox2_machine.specs.machine.Places.{occupant, is_port}
use Rattle.iox2_machine.specs.machine.Channel.{Channel, closed_state, is_in_state, is_closed, is_hinted, with_state}
use Rattle.iox2_machine.specs.machine.Channel.{with_hint, changed_if}
use Rattle.iox2_machine.specs.machine.Records.{Publisher, Subscriber}
use Rattle.iox2_machine.specs.machine.State.{State, connected_publishers, with_channels}

-- The first place, from that one on, at which the port stands.
abbrev pub place_from : (place : ℕ) → List (Option ℕ) → (id : ℕ) → Option ℕ
place_from place [] id = None
place_from place (end ∷ rest) id = if is_port end id then Some place else place_from (suc place) rest id

module _ {T U : Type 0} where
  -- ---- a subscriber's connections: with departed publishers that it keeps, and at its ends

  -- The publishers that the subscriber q has connections with; none of one that is gone.
  abbrev pub senders_of : State T U → (q : ℕ) → List ℕ
  senders_of s q = option_map_or (λ (y : Subscriber). connected_publishers y) (s.subscribers q) []

  -- The channel with that number is changed so at each connection of the subscriber q where it is in the state
  -- `expected`.
  abbrev pub received_changed : State T U → (q number expected : ℕ) → (Channel → Channel) → State T U
  received_changed s q number expected change = record s {
    channels = λ p. put_at (s.channels p) q
        (if contains (senders_of s q) p then changed_if number expected change (s.channels p q) else s.channels p q);
  }

  -- `set_channel_state`: if the channel is closed, it comes into the state. It is told whether it was closed at each
  -- connection.
  abbrev pub SetChannelState : State T U → (q number state : ℕ) → State T U → (result : Bool) → Type 0
  SetChannelState s q number state s' result =
      (s' ≡ received_changed s q number closed_state (with_state state))
      × (result ≡ list_all (λ p. is_closed (s.channels p q number)) (senders_of s q))

  -- `at_least_one_channel_has_state`: at some connection the channel is in the state.
  abbrev pub some_channel_has_state : State T U → (q number state : ℕ) → Bool
  some_channel_has_state s q number state = list_any (λ p. is_in_state state (s.channels p q number)) (senders_of s q)

  -- `close_channel` of a subscriber: if the channel is in the state, it is closed.
  abbrev pub received_closed : State T U → (q number expected : ℕ) → State T U
  received_closed s q number expected = received_changed s q number expected (with_state closed_state)

  -- `set_disconnect_hint`: if the channel is in the state, it has a hint.
  abbrev pub received_hinted : State T U → (q number expected : ℕ) → State T U
  received_hinted s q number expected = received_changed s q number expected with_hint

  -- ---- a publisher's connections, by the subscribers' places

  -- `get_connection_id_of`: the place at which the publisher p has an end to q.
  abbrev pub connection_place : State T U → (p q : ℕ) → Option ℕ
  connection_place s p q = option_and_then (λ (x : Publisher). place_from 0 x.ends q) (s.publishers p)

  -- The subscriber to which the publisher p's end at the place leads.
  abbrev pub receiver_at : State T U → (p place : ℕ) → Option ℕ
  receiver_at s p place = option_and_then (λ (x : Publisher). occupant x.ends place) (s.publishers p)

  -- `has_channel_state`: there is an end at the place, and the channel is in the state there.
  abbrev pub has_channel_state : State T U → (p number place state : ℕ) → Bool
  has_channel_state s p number place state =
      option_map_or (λ q. is_in_state state (s.channels p q number)) (receiver_at s p place) false

  -- `has_disconnect_hint`: there is an end at the place, and the channel is in the state there and has a hint.
  abbrev pub has_disconnect_hint : State T U → (p number place state : ℕ) → Bool
  has_disconnect_hint s p number place state =
      option_map_or (λ q. is_hinted state (s.channels p q number)) (receiver_at s p place) false

  -- `close_channel` of a publisher: if there is an end at the place, and the channel is in the state there, it is
  -- closed.
  abbrev pub sent_closed : State T U → (p number place expected : ℕ) → State T U
  sent_closed s p number place expected =
      option_map_or (λ q. with_channels s p q (changed_if number expected (with_state closed_state) (s.channels p q)))
      (receiver_at s p place) s
