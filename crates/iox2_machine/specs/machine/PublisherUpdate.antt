-- A publisher's update: it goes over the subscribers that are listed now.
-- (iceoryx2: `port/publisher.rs`, `force_update_connections`, and `port/details/sender.rs`.)
use Rattle.std.specs.Prelude.{ℕ, Bool, false, if◌then◌else◌, List, [], ◌≡◌, ◌⊎◌, MatchOption}
use Rattle.std.specs.Bool.{MatchBool}
use Rattle.std.specs.declared.option.Option.{Option}
use Rattle.std.specs.declared.option.Option.TheVariants.{None, Some}
use Rattle.iox2_machine.specs.machine.Numbers.{put_at, last_n}
use Rattle.iox2_machine.specs.machine.Places.{occupant, set_place, is_port}
use Rattle.iox2_machine.specs.machine.Channel.{is_closed}
use Rattle.iox2_machine.specs.machine.Mailbox.{Mailbox, with_waiting, waiting_dropped}
use Rattle.iox2_machine.specs.machine.Records.{Publisher, Handler, Environment}
use Rattle.iox2_machine.specs.machine.State.{State, Warnings, receiving_buffer, has_receiver_end, sender_channels_reset}
use Rattle.iox2_machine.specs.machine.Connections.{ForEachPlace, ConnectionRefused}
use Rattle.iox2_machine.specs.declared.degradation.DegradationAction.{DegradationAction}
use Rattle.iox2_machine.specs.declared.errors.ConnectionFailure.{ConnectionFailure}

-- What a publisher's update changes.
pub record SenderSide : Type 0 where
  pub ends : List (Option ℕ)
  pub mailboxes : ℕ → Mailbox  -- the publisher's, by the subscriber's id
  pub warnings : Warnings

-- What is to be done at a subscriber's place.
pub data SenderAction : Type 0 where
  Keep_end : SenderAction  -- the end stays, and so does its mailbox
  Drop_waiting : (q : ℕ) → SenderAction  -- the end stays, and what waits for the closed subscriber q is lost
  Disconnect : SenderAction  -- the end goes, if there is one
  Connect : (q buffer : ℕ) → SenderAction  -- the end goes, if there is one, and one to q is made

-- An end to the subscriber that stands at the place stays, and what waits for it is lost if it is closed. Any other
-- end goes, and one to an open subscriber is made.
abbrev pub sender_action : (buffers : ℕ → Option ℕ) → (at end : Option ℕ) → SenderAction
sender_action buffers None end = Disconnect
sender_action buffers (Some q) end =
    elim (buffers q) [
      | None ↦ if is_port end q then Drop_waiting q else Disconnect
      | Some buffer ↦ if is_port end q then Keep_end else Connect q buffer
    ]

-- What waits for q is lost.
abbrev pub dropped : SenderSide → (q : ℕ) → SenderSide
dropped side q = record side { mailboxes = put_at side.mailboxes q (waiting_dropped (side.mailboxes q)) }

-- The end at the place goes, if there is one, and what waits in its mailbox with it.
abbrev pub disconnected : SenderSide → (place : ℕ) → (end : Option ℕ) → SenderSide
disconnected side place None = side
disconnected side place (Some q) = record (dropped side q) { ends = set_place side.ends place None }

-- An end to q is made at the place, and the last messages of the history that the buffer holds wait there.
-- (iceoryx2: `port/publisher.rs`, `deliver_sample_history`.)
abbrev pub connected : (history : List ℕ) → SenderSide → (place q buffer : ℕ) → SenderSide
connected history side place q buffer = record side {
  ends = set_place side.ends place (Some q);
  mailboxes = put_at side.mailboxes q (with_waiting (last_n buffer history) (side.mailboxes q));
}

-- The update of the publisher p with that handler; `histories` has what is handed out to a new receiver, `buffers` has
-- those of open subscribers, and `has_receiver_end` says which subscribers have their end of the mailbox already.
module _ (environment : Environment) (service_id p : ℕ) (handler : Handler DegradationAction) (histories : ℕ → List ℕ)
    (buffers : ℕ → Option ℕ) (has_receiver_end : ℕ → Bool) where
  -- The end to q is made. If q has no end either, memory may be refused instead.
  abbrev pub ConnectSender : SenderSide → (place q buffer : ℕ) → SenderSide → Option ConnectionFailure → Type 0
  ConnectSender side place q buffer side' failure =
      ((side' ≡ connected (histories q) side place q buffer) × (failure ≡ None))
      ⊎ ((has_receiver_end q ≡ false) × (warnings : Warnings)
      × ConnectionRefused environment service_id p q p handler side.warnings warnings failure
      × (side' ≡ record side { warnings = warnings }))

  -- The action is done at the place; only making an end can fail.
  abbrev pub Performs : SenderAction → (place : ℕ) → SenderSide → SenderSide → Option ConnectionFailure → Type 0
  Performs Keep_end place side side' failure = (side' ≡ side) × (failure ≡ None)
  Performs (Drop_waiting q) place side side' failure = (side' ≡ dropped side q) × (failure ≡ None)
  Performs Disconnect place side side' failure =
      (side' ≡ disconnected side place (occupant side.ends place)) × (failure ≡ None)
  Performs (Connect q buffer) place side side' failure =
      ConnectSender (disconnected side place (occupant side.ends place)) place q buffer side' failure

  -- What is to be done at the place is done.
  abbrev pub UpdateSenderPlace : (place : ℕ) → (at : Option ℕ) → SenderSide → SenderSide → Option ConnectionFailure
      → Type 0
  UpdateSenderPlace place at side side' failure =
      Performs (sender_action buffers at (occupant side.ends place)) place side side' failure

module _ {T U : Type 0} where
  -- What the publisher p's update starts from.
  abbrev pub sender_side : State T U → (p : ℕ) → Publisher → SenderSide
  sender_side s p x = record { ends = x.ends; mailboxes = s.mailboxes p; warnings = s.warnings }

  -- The publisher, due no more, and its mailboxes after the update.
  abbrev pub with_sender_side : State T U → (p : ℕ) → Publisher → SenderSide → State T U
  with_sender_side s p x side = record s {
    publishers = put_at s.publishers p (Some (record x { ends = side.ends; is_due = false }));
    mailboxes = put_at s.mailboxes p side.mailboxes;
    warnings = side.warnings;
  }

  -- What the publisher p hands out to a new receiver q: its history, or nothing if channel 0 is closed, which q may
  -- have done if it has its end already.
  abbrev pub history_for : State T U → (p : ℕ) → Publisher → (q : ℕ) → List ℕ
  history_for s p x q = if is_closed (s.channels p q 0) then [] else x.history

  -- The publisher p, if it is due, goes over the subscribers' places.
  abbrev pub UpdatePublisher : Environment → State T U → (p : ℕ) → State T U → Option ConnectionFailure → Type 0
  UpdatePublisher environment s p s' failure =
      MatchOption (s.publishers p) ⊥ (λ x.
      MatchBool x.is_due
      ((side : SenderSide)
      × ForEachPlace (UpdateSenderPlace environment (s.config).service_id p x.degradation_handler (history_for s p x)
      (receiving_buffer s) (has_receiver_end s p))
      0 s.subscriber_places (sender_side s p x) side failure
      × (s' ≡ sender_channels_reset (with_sender_side s p x side) p))
      ((s' ≡ s) × (failure ≡ None)))
