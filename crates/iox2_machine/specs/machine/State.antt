-- The machine's state, and how it is read and written.
use Rattle.std.specs.Prelude.{ℕ, Bool, true, false, if◌then◌else◌, ◌||◌, List, [], ◌∷◌, ◌++◌, ◌+◌, min, is_some}
use Rattle.std.specs.declared.option.Option.{Option}
use Rattle.std.specs.declared.option.Option.TheVariants.{None, Some}
use Rattle.std.specs.List.{flat_map}
use Rattle.std.specs.Option.{option_and_then, option_map, option_map_or}
use Rattle.iox2_machine.specs.machine.Limits.{warning_limit, refusal_limit}
use Rattle.iox2_machine.specs.machine.Numbers.{put_at, last_n, contains}
use Rattle.iox2_machine.specs.machine.Places.{occupant, occupants, is_port}
use Rattle.iox2_machine.specs.machine.Channel.{Channel, new_channels, is_closed}
use Rattle.iox2_machine.specs.machine.Mailbox.{Mailbox, empty_mailbox, numbers_in}
use Rattle.iox2_machine.specs.machine.Records.{Entry, Loan, Publisher, Subscriber}
use Rattle.iox2_machine.specs.declared.service_config.ServiceConfig.{ServiceConfig}
use Rattle.iox2_machine.specs.declared.warning.Warning.{Warning}

-- What a domain tells without failing a call.
pub record Warnings : Type 0 where
  pub latest : List Warning  -- oldest first
  pub refused_connections : ℕ  -- how many connections couldn't be allocated

-- All except the messages that were sent. A port that is gone has no record: ids are never used again.
pub record State (T U : Type 0) : Type 0 where
  pub config : ServiceConfig
  pub next_port : ℕ  -- the id of the next port
  pub next_message : ℕ  -- the number of the next loan
  pub loans : ℕ → Option (Loan T U)  -- by number: those in a user's hands
  pub publishers : ℕ → Option Publisher  -- by id
  pub subscribers : ℕ → Option Subscriber  -- by id
  pub mailboxes : ℕ → ℕ → Mailbox  -- by the publisher's id, then the subscriber's
  pub channels : ℕ → ℕ → ℕ → Channel  -- by the publisher's id, the subscriber's, and the channel's number
  pub publisher_places : List (Option ℕ)
  pub subscriber_places : List (Option ℕ)
  pub warnings : Warnings

-- The messages that were ever sent, by number. Each of these stays as it was sent.
abbrev pub Messages : Type 0 → Type 0 → Type 0
Messages T U = ℕ → Option (Entry T U)

-- No warning, and no refused connection.
abbrev pub no_warnings : Warnings
no_warnings = record { latest = []; refused_connections = 0 }

-- A new domain: no port, loan, message, mailbox, connection or warning, and both counters are at 1.
abbrev pub fresh : {T U : Type 0} → ServiceConfig → State T U
fresh c = record {
  config = c;
  next_port = 1;
  next_message = 1;
  loans = λ _. None;
  publishers = λ _. None;
  subscribers = λ _. None;
  mailboxes = λ _ _. empty_mailbox;
  channels = λ _ _. new_channels;
  publisher_places = [];
  subscriber_places = [];
  warnings = no_warnings;
}

-- No message was sent yet.
abbrev pub no_messages : {T U : Type 0} → Messages T U
no_messages = λ _. None

-- The warnings with one more, the oldest left out if they are too many.
abbrev pub warned : Warnings → Warning → Warnings
warned ws w = record ws { latest = last_n warning_limit (ws.latest ++ w ∷ []) }

-- One more connection couldn't be allocated. The count stays at its greatest value.
abbrev pub refusal_counted : Warnings → Warnings
refusal_counted ws = record ws { refused_connections = min (ws.refused_connections + 1) refusal_limit }

-- The publishers whose messages a subscriber may receive: departed ones that it keeps, and those at its ends.
abbrev pub connected_publishers : Subscriber → List ℕ
connected_publishers y = y.expired ++ occupants y.ends

module _ {T U : Type 0} where
  -- ---- reading

  -- The publisher wasn't closed.
  abbrev pub is_present : State T U → (p : ℕ) → Bool
  is_present s p = is_some (s.publishers p)

  -- The buffer of a subscriber that takes messages, or none if it is closed: a message put there is skipped.
  abbrev pub receiving_buffer : State T U → (q : ℕ) → Option ℕ
  receiving_buffer s q =
      option_and_then (λ (y : Subscriber). if y.is_open then Some y.buffer else None) (s.subscribers q)

  -- The subscriber wasn't closed.
  abbrev pub is_open : State T U → (q : ℕ) → Bool
  is_open s q = is_some (receiving_buffer s q)

  -- The buffer of a subscriber that takes messages of p in that channel, or none if it is closed or the channel is.
  abbrev pub channel_buffer : State T U → (p channel q : ℕ) → Option ℕ
  channel_buffer s p channel q = if is_closed (s.channels p q channel) then None else receiving_buffer s q

  -- The publisher p has its end of the mailbox with q.
  abbrev pub has_sender_end : State T U → (p q : ℕ) → Bool
  has_sender_end s p q =
      option_map_or (λ (x : Publisher). option_map_or (λ (y : Subscriber). is_port (occupant x.ends y.place) q)
      (s.subscribers q) false) (s.publishers p) false

  -- The subscriber q has its end of the mailbox with p, which wasn't closed.
  abbrev pub has_receiver_end : State T U → (p q : ℕ) → Bool
  has_receiver_end s p q =
      option_map_or (λ (y : Subscriber). option_map_or (λ (x : Publisher). is_port (occupant y.ends x.place) p)
      (s.publishers p) false) (s.subscribers q) false

  -- p and q are connected: p has an end to q, or q has one to p or keeps it among its departed publishers.
  abbrev pub is_linked : State T U → (p q : ℕ) → Bool
  is_linked s p q =
      option_map_or (λ (x : Publisher). contains (occupants x.ends) q) (s.publishers p) false
      || option_map_or (λ (y : Subscriber). contains (connected_publishers y) p) (s.subscribers q) false

  -- All that the publisher p holds: its loans, its history, and what is in the mailboxes to which its ends lead.
  -- A message in three mailboxes stands here three times.
  -- (iceoryx2: `port/details/segment_state.rs`, where each slot counts its holders.)
  abbrev pub held : State T U → (p : ℕ) → Publisher → List ℕ
  held s p x = x.loans ++ x.history ++ flat_map (λ q. numbers_in (s.mailboxes p q)) (occupants x.ends)

  -- The publisher waits for a receiver. One that was closed doesn't.
  abbrev pub is_blocked : State T U → (p : ℕ) → Bool
  is_blocked s p = option_map_or (λ (x : Publisher). is_some x.blocked) (s.publishers p) false

  -- ---- writing

  -- The mailbox between p and q is this one now.
  abbrev pub with_mailbox : State T U → (p q : ℕ) → Mailbox → State T U
  with_mailbox s p q box = record s { mailboxes = put_at s.mailboxes p (put_at (s.mailboxes p) q box) }

  -- The channels of p and q are these now.
  abbrev pub with_channels : State T U → (p q : ℕ) → (ℕ → Channel) → State T U
  with_channels s p q channels = record s { channels = put_at s.channels p (put_at (s.channels p) q channels) }

  -- The channels of p and q if these are connected; else new ones, for what was set while they were is forgotten.
  abbrev pub channels_if_linked : State T U → (p q : ℕ) → ℕ → Channel
  channels_if_linked s p q = if is_linked s p q then s.channels p q else new_channels

  -- The publisher p's channels are new if it isn't connected any more. No two ports are connected twice.
  abbrev pub sender_channels_reset : State T U → (p : ℕ) → State T U
  sender_channels_reset s p = record s { channels = put_at s.channels p (channels_if_linked s p) }

  -- The subscriber q's channels are new if it isn't connected any more.
  abbrev pub receiver_channels_reset : State T U → (q : ℕ) → State T U
  receiver_channels_reset s q = record s { channels = λ p. put_at (s.channels p) q (channels_if_linked s p q) }

  -- The loan n has these contents now, or none.
  abbrev pub with_loan : State T U → (n : ℕ) → Option (Loan T U) → State T U
  with_loan s n loan = record s { loans = put_at s.loans n loan }

  -- The warning is the last one now; past the limit the oldest is forgotten.
  abbrev pub with_warning : State T U → Warning → State T U
  with_warning s w = record s { warnings = warned s.warnings w }

  -- The publisher p, if it is present, is changed so.
  abbrev pub publisher_changed : State T U → (p : ℕ) → (Publisher → Publisher) → State T U
  publisher_changed s p change = record s { publishers = put_at s.publishers p (option_map change (s.publishers p)) }

  -- The subscriber q, if it has a record, is changed so.
  abbrev pub subscriber_changed : State T U → (q : ℕ) → (Subscriber → Subscriber) → State T U
  subscriber_changed s q change =
      record s { subscribers = put_at s.subscribers q (option_map change (s.subscribers q)) }

  -- The list of subscribers has changed: every publisher is due for an update.
  abbrev pub publishers_due : State T U → State T U
  publishers_due s =
      record s { publishers = λ p. option_map {T = Publisher} (λ x. record x { is_due = true }) (s.publishers p) }

  -- The list of publishers has changed: every subscriber is due for an update.
  abbrev pub subscribers_due : State T U → State T U
  subscribers_due s =
      record s { subscribers = λ q. option_map {T = Subscriber} (λ y. record y { is_due = true }) (s.subscribers q) }
