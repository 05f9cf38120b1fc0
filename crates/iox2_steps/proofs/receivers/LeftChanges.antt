-- A subscriber's ends leave, and no connection goes: what its update comes to.
use Rattle.std.proofs.Common.{◌≡◌, ℕ, List, get_or, refl, ap, sym, ◌∙◌}
use Rattle.std.specs.declared.option.Option.{Option}
use Rattle.std.specs.declared.option.Option.TheVariants.{None, Some}
use Rattle.iox2_machine.specs.machine.Limits.{warning_limit}
use Rattle.iox2_machine.specs.machine.Numbers.{put_at}
use Rattle.iox2_machine.specs.machine.State.{State}
use Rattle.iox2_machine.specs.machine.SubscriberUpdate.{ReceiverSide, receiver_side, with_receiver_side}
use Rattle.iox2_laws.proofs.ReceiverSides.{ReceiverSideIsWellFormed, receiver_side_begins, receiver_side_marked}
use Rattle.iox2_laws.proofs.SubscriberUpdates.{with_receiver_side_keeps}
use Rattle.iox2_domain.proofs.lemmas.fields.KeptChannels.{but-channels}
use Rattle.iox2_steps.proofs.updates.FollowedChannels.{follow-same}
use Rattle.iox2_domain.specs.WarningRing.{WarningRing}
use Rattle.iox2_domain.specs.Ports.{SubscriberFields}
use Rattle.iox2_domain.specs.Kept.{state_of}
use Rattle.iox2_domain.specs.Invariant.{HasParts, IsDomain}
use Rattle.iox2_domain.specs.Fields.{Fields, kept_of}
use Rattle.iox2_domain.specs.ReceiverSteps.{current_side, ChangesReceiver}
use Rattle.iox2_domain.proofs.lemmas.fields.Views.{held-before}
use Rattle.iox2_domain.proofs.lemmas.fields.Parts.{whole_of, books_in}
use Rattle.iox2_steps.proofs.receivers.LeftEnds.{LeavesReceiver, left_fields, left-parts}
use Rattle.iox2_steps.proofs.receivers.LeftStates.{left-still, left_port}
use Rattle.iox2_domain.proofs.lemmas.fields.ConnectionEnds.{subscriber-stands}
use Rattle.iox2_domain.proofs.lemmas.fields.SameLinks.{linked-same}
use Rattle.iox2_domain.proofs.lemmas.fields.NamedPorts.{seen, seen_subscriber}
use Rattle.iox2_domain.proofs.lemmas.fields.PlacesKept.{places-still}

-- warnings matter to nothing else
pub parts-warned : {T U : Type 0} (f : Fields T U) (warnings : WarningRing) → HasParts f
    → warnings.capacity ≡ warning_limit → HasParts (record f { warnings = warnings })
parts-warned f warnings parts room = record {
  publisher_ids = parts.publisher_ids;
  subscriber_ids = parts.subscriber_ids;
  apart = parts.apart;
  linked = linked-same f f.next_message warnings f.books f.contents parts.linked;
  expired_room = parts.expired_room;
  books = books_in f (record f { warnings = warnings }) parts.books;
  names = parts.names;
  counted = record { at = parts.counted.at };
  numbered = parts.numbered;
  publisher_room = parts.publisher_room;
  warning_room = room;
  shapes = record { at = parts.shapes.at };
  forms = parts.forms;
  open_loans = parts.open_loans;
  plain = parts.plain;
}

module _ {T U : Type 0} (f : Fields T U) (sound : IsDomain f) (j : ℕ) (y : SubscriberFields)
    (at : get_or f.subscribers j None ≡ Some y) where
  abbrev parts : HasParts f
  parts = sound.parts

  pub present : (seen f).subscribers y.id ≡ Some (seen_subscriber f y)
  present = subscriber-stands f sound.parts j y at

  -- its side is well-formed
  pub side-well_formed : ReceiverSideIsWellFormed (seen f) y.id (current_side (seen f) y.id (seen_subscriber f y))
  side-well_formed = receiver_side_marked (seen f) y.id (receiver_side (seen f) y.id (seen_subscriber f y)) y.is_due
      (seen f).warnings (receiver_side_begins (seen f) sound.well_formed y.id (seen_subscriber f y) present)

  -- its ends change, and no connection goes
  pub left-changes : (keys : List (Option ℕ)) (expired : List ℕ) (fits : LeavesReceiver f y keys expired f.connections)
      (side : ReceiverSide) → ReceiverSideIsWellFormed (seen f) y.id side
      → state_of (kept_of (left_fields f sound.parts j y at keys expired side.is_due f.connections fits))
      ≡ with_receiver_side (seen f) y.id (seen_subscriber f y) side
      → ChangesReceiver f j y side (left_fields f sound.parts j y at keys expired side.is_due f.connections fits)
  left-changes keys expired fits side well state = record {
    agrees = whole_of after (left-parts f parts j y at keys expired side.is_due f.connections fits) sound.lone
        (record { at = sound.kept_books.at })
        (rw state (with_receiver_side_keeps (seen f) sound.well_formed y.id (seen_subscriber f y) side present well))
        (λ p n held. sound.entries p n (held-before (seen f) (state_of (kept_of after)) p n
        (λ q. ap (λ (t : State T U). t.mailboxes p q) is)
        (λ w at_w. (
          w,
          sym (ap (λ (t : State T U). t.publishers p) is) ∙ at_w,
          record { history = refl; blocked = refl },
        )) held));
    keys = keys;
    key_room = y.key_room;
    expired = expired;
    expired_room = y.expired_room;
    fields = refl;
    others = refl;
    state = but-channels after (with_receiver_side (seen f) y.id (seen_subscriber f y) side) state;
    channels = follow-same (λ home. home.subscriber ≡ y.id)
        (λ p q. (seen f).publishers p ≡ None) f.connections f.connections (record { same = λ k. refl });
    entries = λ n entry e. e;
    places = places-still;
  } where
    after : Fields T U
    after = left_fields f parts j y at keys expired side.is_due f.connections fits

    is : state_of (kept_of after) ≡ record (seen f) {
      subscribers = put_at (seen f).subscribers y.id
          (Some (left_port f sound.parts j y at keys expired side.is_due f.connections fits));
    }
    is = left-still f parts j y at keys expired side.is_due fits
