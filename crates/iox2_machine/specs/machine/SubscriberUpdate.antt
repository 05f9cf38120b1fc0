-- A subscriber's update: it goes over the publishers that are listed now, then over the places that became empty.
-- (iceoryx2: `port/subscriber.rs`, `force_update_connections`, and `port/details/receiver.rs`.)
use Rattle.std.specs.Prelude.{ℕ, Bool, true, false, if◌then◌else◌, List, [], ◌∷◌, ◌++◌, length, ◌≡◌, ◌⊎◌, ◌==◌, nat_lt}
use Rattle.std.specs.Prelude.{MatchOption}
use Rattle.std.specs.Bool.{MatchBool}
use Rattle.std.specs.declared.option.Option.{Option}
use Rattle.std.specs.declared.option.Option.TheVariants.{None, Some}
use Rattle.iox2_machine.specs.machine.Limits.{expired_limit}
use Rattle.iox2_machine.specs.machine.Numbers.{put_at, without}
use Rattle.iox2_machine.specs.machine.Places.{occupant, set_place}
use Rattle.iox2_machine.specs.machine.Mailbox.{Mailbox, has_borrows, waiting_dropped}
use Rattle.iox2_machine.specs.machine.Records.{Subscriber, Handler, Environment}
use Rattle.iox2_machine.specs.machine.State.{State, Warnings, has_sender_end, warned, receiver_channels_reset}
use Rattle.iox2_machine.specs.machine.Connections.{ForEachPlace, ConnectionRefused, first_failure, expired_buffer_full}
use Rattle.iox2_machine.specs.declared.degradation.DegradationAction.{DegradationAction}
use Rattle.iox2_machine.specs.declared.errors.ConnectionFailure.{ConnectionFailure}
use Rattle.iox2_machine.specs.declared.warning.Warning.TheVariants.{ExpiredDataDiscarded}

-- What a subscriber's update changes.
pub record ReceiverSide : Type 0 where
  pub ends : List (Option ℕ)
  pub expired : List ℕ
  pub is_due : Bool
  pub mailboxes : ℕ → Mailbox  -- the subscriber's, by the publisher's id
  pub warnings : Warnings

-- What becomes of a departed publisher, which still has messages for the subscriber.
pub data Retirement : Type 0 where
  Keep_expired : Retirement  -- it is kept among the expired ones
  Evict : (first : ℕ) → Retirement  -- the same, and that one leaves in its place
  Discard_data : Retirement  -- what waits from it is lost
  Refuse : Retirement  -- it stays where it is, and the update fails

-- The first of these publishers from which nothing is borrowed.
abbrev pub first_without_borrows : (ℕ → Mailbox) → List ℕ → Option ℕ
first_without_borrows boxes [] = None
first_without_borrows boxes (p ∷ ps) = if has_borrows (boxes p) then first_without_borrows boxes ps else Some p

-- The first one is evicted; if there is none, the retirement is refused.
abbrev pub evict_or_refuse : Option ℕ → Retirement
evict_or_refuse None = Refuse
evict_or_refuse (Some first) = Evict first

-- A departed publisher is kept while there is room. Without room, it loses what waits if none of its messages is
-- borrowed. If one is borrowed, it takes the place of the first kept publisher without borrowed messages, and is
-- refused if there is no such publisher.
-- (iceoryx2: `port/details/receiver.rs`, `prepare_connection_removal`.)
abbrev pub retirement_of : (limit : ℕ) → (boxes : ℕ → Mailbox) → (expired : List ℕ) → (p : ℕ) → Retirement
retirement_of limit boxes expired p =
    if nat_lt (length expired) limit then Keep_expired
    else if has_borrows (boxes p) then evict_or_refuse (first_without_borrows boxes expired) else Discard_data

-- What waits from the departed publisher p is lost, with a warning.
abbrev pub data_discarded : (q : ℕ) → ReceiverSide → (p : ℕ) → ReceiverSide
data_discarded q side p = record side {
  mailboxes = put_at side.mailboxes p (waiting_dropped (side.mailboxes p));
  warnings = warned side.warnings (ExpiredDataDiscarded p q);
}

-- What the retirement of p does.
abbrev pub after_retirement : (q : ℕ) → ReceiverSide → (p : ℕ) → Retirement → ReceiverSide
after_retirement q side p Keep_expired = record side { expired = side.expired ++ p ∷ [] }
after_retirement q side p (Evict first) =
    record (data_discarded q side first) { expired = without first side.expired ++ p ∷ [] }
after_retirement q side p Discard_data = data_discarded q side p
after_retirement q side p Refuse = record side { is_due = true }

-- The retirement is refused.
abbrev pub is_refused : Retirement → Bool
is_refused Keep_expired = false
is_refused (Evict first) = false
is_refused Discard_data = false
is_refused Refuse = true

-- The end at the place is this one now, or none.
abbrev pub with_end : ReceiverSide → (place : ℕ) → (end : Option ℕ) → ReceiverSide
with_end side place end = record side { ends = set_place side.ends place end }

-- The update of the subscriber q, which has that handler and keeps at most `limit` expired publishers. `has_sender_end`
-- says which publishers have their end of the mailbox already.
module _ (environment : Environment) (service_id q : ℕ) (handler : Handler DegradationAction) (limit : ℕ)
    (has_sender_end : ℕ → Bool) where
  -- The end to p is made. If p has no end either, memory may be refused instead.
  abbrev pub ConnectReceiver : ReceiverSide → (place p : ℕ) → ReceiverSide → Option ConnectionFailure → Type 0
  ConnectReceiver side place p side' failure =
      ((side' ≡ with_end side place (Some p)) × (failure ≡ None))
      ⊎ ((has_sender_end p ≡ false) × (warnings : Warnings)
      × ConnectionRefused environment service_id p q q handler side.warnings warnings failure
      × (side' ≡ record side { warnings = warnings }))

  -- The departed publisher `old` is retired from the place, and then comes what `Then` says; or the retirement is
  -- refused.
  abbrev pub Retire : ReceiverSide → (place old : ℕ) → ReceiverSide → Option ConnectionFailure
      → (Then : ReceiverSide → Type 0) → Type 0
  Retire side place old side' failure Then =
      let how = retirement_of limit side.mailboxes side.expired old in
      MatchBool (is_refused how)
      ((side' ≡ after_retirement q side old how) × (failure ≡ Some expired_buffer_full))
      (Then (with_end (after_retirement q side old how) place None))

  -- At a place where a publisher stands, an end to it stays or is made, after the one that stood there was retired.
  abbrev pub ConnectAtPlace : (place : ℕ) → (at : Option ℕ) → ReceiverSide → ReceiverSide → Option ConnectionFailure
      → Type 0
  ConnectAtPlace place at side side' failure =
      MatchOption at
      ((side' ≡ side) × (failure ≡ None))
      (λ p. MatchOption (occupant side.ends place)
      (ConnectReceiver side place p side' failure)
      (λ old. MatchBool (old == p)
      ((side' ≡ side) × (failure ≡ None))
      (Retire side place old side' failure (λ mid. ConnectReceiver mid place p side' failure))))

  -- At an empty place, the publisher that stood there is retired.
  abbrev pub DisconnectAtPlace : (place : ℕ) → (at : Option ℕ) → ReceiverSide → ReceiverSide → Option ConnectionFailure
      → Type 0
  DisconnectAtPlace place at side side' failure =
      MatchOption at
      (MatchOption (occupant side.ends place)
      ((side' ≡ side) × (failure ≡ None))
      (λ old. Retire side place old side' failure (λ mid. (side' ≡ mid) × (failure ≡ None))))
      (λ p. (side' ≡ side) × (failure ≡ None))

  -- Both walks over the publishers' places, one after the other.
  abbrev pub UpdateReceiverSide : List (Option ℕ) → ReceiverSide → ReceiverSide → Option ConnectionFailure → Type 0
  UpdateReceiverSide places side side' failure =
      (mid : ReceiverSide) × (first : Option ConnectionFailure) × (later : Option ConnectionFailure)
      × ForEachPlace ConnectAtPlace 0 places side mid first
      × ForEachPlace DisconnectAtPlace 0 places mid side' later
      × (failure ≡ first_failure first later)

module _ {T U : Type 0} where
  -- What the subscriber's update begins with: it isn't due any more.
  abbrev pub receiver_side : State T U → (q : ℕ) → Subscriber → ReceiverSide
  receiver_side s q y = record {
    ends = y.ends;
    expired = y.expired;
    is_due = false;
    mailboxes = λ p. s.mailboxes p q;
    warnings = s.warnings;
  }

  -- The subscriber and its mailboxes after the update.
  abbrev pub with_receiver_side : State T U → (q : ℕ) → Subscriber → ReceiverSide → State T U
  with_receiver_side s q y side = record s {
    subscribers =
        put_at s.subscribers q (Some (record y { ends = side.ends; expired = side.expired; is_due = side.is_due }));
    mailboxes = λ p. put_at (s.mailboxes p) q (side.mailboxes p);
    warnings = side.warnings;
  }

  -- The subscriber q, if it is due, goes over the publishers' places.
  abbrev pub UpdateSubscriber : Environment → State T U → (q : ℕ) → State T U → Option ConnectionFailure → Type 0
  UpdateSubscriber environment s q s' failure =
      MatchOption (s.subscribers q) ⊥ (λ y.
      MatchBool y.is_due
      ((side : ReceiverSide)
      × UpdateReceiverSide environment (s.config).service_id q y.degradation_handler (expired_limit s.config)
      (λ p. has_sender_end s p q)
      s.publisher_places (receiver_side s q y) side failure
      × (s' ≡ receiver_channels_reset (with_receiver_side s q y side) q))
      ((s' ≡ s) × (failure ≡ None)))
