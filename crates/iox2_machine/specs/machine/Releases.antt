-- A sample is released; what is held no more goes.
use Rattle.std.specs.Prelude.{ℕ, Bool, false, if◌then◌else◌, not, ◌&&◌, ◌||◌}
use Rattle.std.specs.List.{filter, list_all}
use Rattle.std.specs.Option.{option_map_or}
use Rattle.std.specs.declared.option.Option.TheVariants.{None}
use Rattle.iox2_machine.specs.machine.Numbers.{put_at}
use Rattle.iox2_machine.specs.machine.Places.{places_kept, vacated}
use Rattle.iox2_machine.specs.machine.Mailbox.{has_numbers, has_borrows, with_released}
use Rattle.iox2_machine.specs.machine.Records.{Subscriber}
use Rattle.iox2_machine.specs.machine.State.{State, is_present, connected_publishers, with_mailbox, subscriber_changed}
use Rattle.iox2_machine.specs.machine.State.{publishers_due, receiver_channels_reset}

module _ {T U : Type 0} where
  -- q still has to do with p: p wasn't closed, or some message of it waits or is borrowed.
  abbrev pub is_connected : State T U → (q p : ℕ) → Bool
  is_connected s q p = is_present s p || has_numbers (s.mailboxes p q)

  -- The subscriber q without the departed publishers that it has no message from any more.
  abbrev pub pruned : State T U → (q : ℕ) → Subscriber → Subscriber
  pruned s q y =
      record y { ends = places_kept (is_connected s q) y.ends; expired = filter (is_connected s q) y.expired }

  -- The subscriber q was closed, and has borrowed nothing.
  abbrev pub is_unused : State T U → (q : ℕ) → Bool
  is_unused s q = option_map_or (λ (y : Subscriber). not y.is_open && list_all
      (λ p. not (has_borrows (s.mailboxes p q))) (connected_publishers y)) (s.subscribers q) false

  -- The subscriber q is gone and its place is free; every publisher is due.
  abbrev pub place_freed : State T U → (q : ℕ) → State T U
  place_freed s q = publishers_due (record s {
    subscribers = put_at s.subscribers q None;
    subscriber_places = vacated q s.subscriber_places;
  })

  -- A closed subscriber that has borrowed nothing is gone.
  abbrev pub freed_if_unused : State T U → (q : ℕ) → State T U
  freed_if_unused s q = if is_unused s q then place_freed s q else s

  -- The message n of p is borrowed by q no more.
  abbrev pub unborrowed : State T U → (p q n : ℕ) → State T U
  unborrowed s p q n = with_mailbox s p q (with_released n (s.mailboxes p q))

  -- The subscriber q forgets the departed publishers that it has no message from any more.
  abbrev pub subscriber_pruned : State T U → (q : ℕ) → State T U
  subscriber_pruned s q = subscriber_changed s q (pruned s q)

  -- q releases the message n of p. A departed publisher that it has no message of is forgotten, and q is gone with its
  -- last borrowed message if it was closed.
  -- (iceoryx2: `sample.rs`, `Sample`'s drop, and `port/details/receiver.rs`, `release_offset`.)
  abbrev pub released : State T U → (p q n : ℕ) → State T U
  released s p q n = receiver_channels_reset (freed_if_unused (subscriber_pruned (unborrowed s p q n) q) q) q
