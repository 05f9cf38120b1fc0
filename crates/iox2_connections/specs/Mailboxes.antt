-- The machine's mailboxes, as the connections of a slab show them. `number` has the message number of each slot, by
-- publisher.
use Rattle.std.specs.Prelude.{ℕ, Bool, ◌&&◌, ◌==◌, List, map}
use Rattle.std.specs.declared.option.Option.{Option}
use Rattle.std.specs.declared.option.Option.TheVariants.{None, Some}
use Rattle.std.specs.Option.{option_map, option_and_then}
use Rattle.slab.specs.Slab.{Slab, get}
use Rattle.iox2_connections.specs.Link.{Link, channel_at}
use Rattle.iox2_machine.specs.machine.Channel.{Channel, new_channels}
use Rattle.iox2_machine.specs.machine.Mailbox.{Mailbox, ChannelNumber, empty_mailbox}
use Rattle.iox2_machine.specs.machine.Numbers.{put_at}
use Rattle.iox2_connections.specs.LookUp.{look_up}

-- The connection stands between these two ports.
abbrev pub is_between : (p q : ℕ) → Link → Bool
is_between p q c = (c.home.publisher == p) && (c.home.subscriber == q)

-- The numbers of slots that wait in channels other than 0, where slots have these numbers.
abbrev pub numbered : (ℕ → ℕ) → List ChannelNumber → List ChannelNumber
numbered number ms = map (λ (m : ChannelNumber). record m { number = number m.number }) ms

-- The mailbox that a connection is, where its slots have these numbers.
abbrev pub mailbox_of : (ℕ → ℕ) → Link → Mailbox
mailbox_of number c =
    record { waiting = map number c.waiting; borrowed = map number c.borrowed; others = numbered number c.others }

-- The mailbox that a connection is, or an empty one.
abbrev pub mailbox_if_any : (ℕ → ℕ) → Option Link → Mailbox
mailbox_if_any number None = empty_mailbox
mailbox_if_any number (Some c) = mailbox_of number c

-- The mailboxes by the publisher's id, then the subscriber's.
abbrev pub mailboxes_of : (number : ℕ → ℕ → ℕ) → Slab Link → ℕ → ℕ → Mailbox
mailboxes_of number connections p q = mailbox_if_any (number p) (look_up (is_between p q) connections.slots)

-- The channels of a connection, or new ones. One that isn't there counts as new.
abbrev pub channels_if_any : Option Link → ℕ → Channel
channels_if_any None = new_channels
channels_if_any (Some c) = channel_at c.channels

-- The channels by the publisher's id, then the subscriber's.
abbrev pub channels_in : Slab Link → ℕ → ℕ → ℕ → Channel
channels_in connections p q = channels_if_any (look_up (is_between p q) connections.slots)

-- The mailboxes with this one between p and q.
abbrev pub with_box : (ℕ → ℕ → Mailbox) → (p q : ℕ) → Mailbox → ℕ → ℕ → Mailbox
with_box boxes p q box = put_at boxes p (put_at (boxes p) q box)

-- ---- ends

-- The subscriber to which a key leads.
abbrev pub subscriber_of_key : Slab Link → Option ℕ → Option ℕ
subscriber_of_key connections key = option_map (λ (c : Link). c.home.subscriber) (option_and_then (get connections) key)

-- The publisher to which a key leads.
abbrev pub publisher_of_key : Slab Link → Option ℕ → Option ℕ
publisher_of_key connections key = option_map (λ (c : Link). c.home.publisher) (option_and_then (get connections) key)

-- The ends of a publisher that has these keys at its places.
abbrev pub sender_ends : Slab Link → List (Option ℕ) → List (Option ℕ)
sender_ends connections keys = map (subscriber_of_key connections) keys

-- The ends of a subscriber that has these keys at its places.
abbrev pub receiver_ends : Slab Link → List (Option ℕ) → List (Option ℕ)
receiver_ends connections keys = map (publisher_of_key connections) keys
