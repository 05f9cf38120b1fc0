-- How a channel of a connection stands. No message changes this.
use Rattle.std.specs.Prelude.{ℕ, Bool, true, false, if◌then◌else◌, ◌&&◌, ◌-◌, ◌^◌, ◌==◌}
use Rattle.iox2_machine.specs.machine.Numbers.{put_at}

-- A channel without its messages.
pub record Channel : Type 0 where
  pub state : ℕ
  pub has_hint : Bool  -- whether it was hinted that its other side disconnects

-- The state of a new channel.
abbrev pub open_state : ℕ
open_state = 0

-- The state of a closed channel, which takes no message.
abbrev pub closed_state : ℕ
closed_state = 2 ^ 64 - 1

-- A new channel: it is open, and has no hint.
abbrev pub new_channel : Channel
new_channel = record { state = open_state; has_hint = false }

-- The channels of a new connection, by number.
abbrev pub new_channels : ℕ → Channel
new_channels = λ _. new_channel

-- The channel is in this state.
abbrev pub is_in_state : (state : ℕ) → Channel → Bool
is_in_state state channel = channel.state == state

-- The channel takes no message, and keeps what waits.
abbrev pub is_closed : Channel → Bool
is_closed channel = is_in_state closed_state channel

-- The channel is in this state, and has a hint.
abbrev pub is_hinted : (state : ℕ) → Channel → Bool
is_hinted state channel = is_in_state state channel && channel.has_hint

-- The channel comes into this state. A change of the state takes the hint away.
abbrev pub with_state : (state : ℕ) → Channel → Channel
with_state state channel = if is_in_state state channel then channel else record { state = state; has_hint = false }

-- The channel has a hint.
abbrev pub with_hint : Channel → Channel
with_hint channel = record channel { has_hint = true }

-- The channel with that number, if it is in the state `expected`, is changed so.
abbrev pub changed_if : (number expected : ℕ) → (Channel → Channel) → (ℕ → Channel) → ℕ → Channel
changed_if number expected change channels =
    if is_in_state expected (channels number) then put_at channels number (change (channels number)) else channels
