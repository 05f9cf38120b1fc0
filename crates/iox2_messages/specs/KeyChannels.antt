-- How a channel of a connection stands to which a key leads.
use Rattle.std.specs.Prelude.{ℕ, Bool, true, false, List}
use Rattle.std.specs.List.{list_all, list_any}
use Rattle.std.specs.Option.{option_and_then, option_map_or}
use Rattle.std.specs.declared.option.Option.{Option}
use Rattle.slab.specs.Slab.{Slab, get}
use Rattle.iox2_connections.specs.Link.{Link, channel_at}
use Rattle.iox2_machine.specs.machine.Channel.{is_in_state, is_hinted}

-- The key leads to a connection, and the channel of that with this number is in this state.
abbrev pub key_in_state : Slab Link → (number state : ℕ) → Option ℕ → Bool
key_in_state connections number state key = option_map_or
    (λ (c : Link). is_in_state state (channel_at c.channels number)) (option_and_then (get connections) key) false

-- The same, and a disconnect was hinted there.
abbrev pub key_hinted : Slab Link → (number state : ℕ) → Option ℕ → Bool
key_hinted connections number state key = option_map_or (λ (c : Link). is_hinted state (channel_at c.channels number))
    (option_and_then (get connections) key) false

-- One of the keys leads to such a connection.
abbrev pub some_in_state : Slab Link → (number state : ℕ) → List (Option ℕ) → Bool
some_in_state connections number state keys = list_any (key_in_state connections number state) keys

-- The key leads to no connection whose channel with this number is in another state.
abbrev pub key_in_no_other : Slab Link → (number state : ℕ) → Option ℕ → Bool
key_in_no_other connections number state key = option_map_or
    (λ (c : Link). is_in_state state (channel_at c.channels number)) (option_and_then (get connections) key) true

-- None of the keys leads to one whose channel with this number is in another state.
abbrev pub all_in_state : Slab Link → (number state : ℕ) → List (Option ℕ) → Bool
all_in_state connections number state keys = list_all (key_in_no_other connections number state) keys
