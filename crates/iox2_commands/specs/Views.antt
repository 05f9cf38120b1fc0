-- What one subscriber sees of a state, and lists of commands that differ only in what the other subscribers do.
use Rattle.std.specs.Prelude.{ℕ, Bool, true, false, if◌then◌else◌, not, List, [], ◌∷◌, map, ◌≡◌, ◌⊎◌, ◌==◌, slice_get}
use Rattle.std.specs.declared.option.Option.{Option}
use Rattle.std.specs.declared.option.Option.TheVariants.{Some}
use Rattle.std.specs.Option.{option_map}
use Rattle.iox2_machine.specs.machine.Records.{Subscriber}
use Rattle.iox2_machine.specs.machine.State.{State, Messages}
use Rattle.iox2_commands.specs.Outcomes.{Handle, No_handle, Sample_handle}
use Rattle.iox2_commands.specs.declared.command.Command.{Command}
use Rattle.iox2_commands.specs.declared.command.Command.TheVariants.{Nothing, CreateSubscriber, Receive, HasSamples}
use Rattle.iox2_commands.specs.declared.command.Command.TheVariants.{Update, Release, Read, ReadHeader, ReadUserHeader}
use Rattle.iox2_commands.specs.declared.command.Command.TheVariants.{SubscriberChannel}

-- Of another subscriber: whether it is open, its place and its buffer.
pub record PublicPart : Type 0 where
  pub is_open : Bool
  pub place : ℕ
  pub buffer : ℕ

abbrev pub public_part : Option Subscriber → Option PublicPart
public_part o = option_map {T = Subscriber} {U = PublicPart}
    (λ y. record { is_open = y.is_open; place = y.place; buffer = y.buffer }) o

-- The handle, or none if it is another subscriber's sample.
abbrev pub seen_handle : (q : ℕ) → Handle → Handle
seen_handle q (Sample_handle p q' n) = if q' == q then Sample_handle p q' n else No_handle
seen_handle q handle = handle

-- Both have the same configuration, counters, places, publishers, loans and messages. They have the same record,
-- mailboxes and channels of q, and the same handles except for other subscribers' samples. Only three things are
-- compared of another subscriber: whether it is open, its place and its buffer. Warnings aren't compared.
pub record SameView {T U : Type 0} (q : ℕ) (m : Messages T U) (s : State T U) (named : List Handle) (m' : Messages T U)
    (s' : State T U) (named' : List Handle) : Type 0 where
  pub config : s.config ≡ s'.config
  pub next_port : s.next_port ≡ s'.next_port
  pub next_message : s.next_message ≡ s'.next_message
  pub loans : (n : ℕ) → s.loans n ≡ s'.loans n
  pub publishers : (p : ℕ) → s.publishers p ≡ s'.publishers p
  pub publisher_places : s.publisher_places ≡ s'.publisher_places
  pub subscriber_places : s.subscriber_places ≡ s'.subscriber_places
  pub others : (r : ℕ) → public_part (s.subscribers r) ≡ public_part (s'.subscribers r)
  pub own : s.subscribers q ≡ s'.subscribers q
  pub mailboxes : (p : ℕ) → s.mailboxes p q ≡ s'.mailboxes p q
  pub channels : (p : ℕ) → s.channels p q ≡ s'.channels p q
  pub messages : (n : ℕ) → m n ≡ m' n
  pub handles : map (seen_handle q) named ≡ map (seen_handle q) named'

-- ---- reduced lists

module _ {T U : Type 0} where
  -- The command at `of` makes a subscriber, and `of` isn't `position`.
  abbrev pub makes_other_subscriber : (position : ℕ) → List (Command T U) → (of : ℕ) → Bool
  makes_other_subscriber position commands of = elim (slice_get commands of) [
    | Some (CreateSubscriber buffer degradation) ↦ not (of == position)
    | _ ↦ false
  ]

  -- The command at `of` is a receive of a subscriber that isn't made at `position`.
  abbrev pub receives_for_other : (position : ℕ) → List (Command T U) → (of : ℕ) → Bool
  receives_for_other position commands of = elim (slice_get commands of) [
    | Some (Receive subscriber) ↦ makes_other_subscriber position commands subscriber
    | _ ↦ false
  ]

  -- The command is a receive, `HasSamples`, update or call on channels of a subscriber that isn't made at `position`,
  -- or it releases or reads what a receive of such a subscriber made.
  abbrev pub may_be_omitted : (position : ℕ) → List (Command T U) → Command T U → Bool
  may_be_omitted position commands (Receive of) = makes_other_subscriber position commands of
  may_be_omitted position commands (HasSamples of) = makes_other_subscriber position commands of
  may_be_omitted position commands (Update of) = makes_other_subscriber position commands of
  may_be_omitted position commands (SubscriberChannel of channel call) = makes_other_subscriber position commands of
  may_be_omitted position commands (Release of) = receives_for_other position commands of
  may_be_omitted position commands (Read of at) = receives_for_other position commands of
  may_be_omitted position commands (ReadHeader of) = receives_for_other position commands of
  may_be_omitted position commands (ReadUserHeader of) = receives_for_other position commands of
  may_be_omitted position commands _ = false

  -- The second list is the first with `Nothing` in place of some calls of subscribers other than the one made at
  -- `position`; positions are looked up in `whole`.
  abbrev pub OmitsOthersFrom : (position : ℕ) → (whole : List (Command T U)) → List (Command T U) → List (Command T U)
      → Type 0
  OmitsOthersFrom position whole [] [] = Unit {0}
  OmitsOthersFrom position whole (command ∷ commands) (reduced ∷ others) =
      ((reduced ≡ command) ⊎ ((reduced ≡ Nothing) × (may_be_omitted position whole command ≡ true)))
      × OmitsOthersFrom position whole commands others
  OmitsOthersFrom position whole _ _ = ⊥
