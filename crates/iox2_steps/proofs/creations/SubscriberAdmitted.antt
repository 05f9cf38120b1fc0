-- A subscriber is admitted to a domain, before its first update.
use Rattle.std.proofs.Common.{◌≡◌, ℕ, ◌+◌, ◌<◌, ◌≤◌, List, map, get_or, ap, ◌∙◌, length}
use Rattle.std.specs.declared.option.Option.{Option}
use Rattle.std.specs.declared.option.Option.TheVariants.{None, Some}
use Rattle.std.specs.Option.{option_map}
use Rattle.iox2_machine.specs.machine.Limits.{buffer_limit, warning_limit}
use Rattle.iox2_machine.specs.machine.Numbers.{put_at}
use Rattle.iox2_machine.specs.machine.Places.{occupant, set_place}
use Rattle.iox2_machine.specs.machine.Records.{SubscriberSettings}
use Rattle.iox2_machine.specs.machine.State.{State, Warnings}
use Rattle.iox2_machine.specs.machine.Ports.{new_subscriber, buffer_for, with_buffer_warning, with_new_subscriber}
use Rattle.iox2_laws.proofs.PortLaws.{new_subscriber_keeps}
use Rattle.iox2_domain.specs.WarningRing.{WarningRing}
use Rattle.iox2_domain.specs.Ports.{SubscriberFields}
use Rattle.iox2_domain.specs.Kept.{state_of, ids}
use Rattle.iox2_domain.specs.Fields.{Fields, kept_of, subscriber_of}
use Rattle.iox2_domain.specs.Invariant.{IsDomain}
use Rattle.iox2_steps.proofs.creations.PublishersDue.{with_publishers_due, publishers_due-are, publishers_due-agree}
use Rattle.iox2_steps.proofs.creations.SubscriberEntered.{with_entered_subscriber, entered-is}
use Rattle.iox2_steps.proofs.creations.SubscriberEnteredAgrees.{entered-agrees}
use Rattle.iox2_domain.proofs.lemmas.fields.NamedPorts.{named-at}

module _ {T U : Type 0} (f : Fields T U) where
  -- a place at which nothing stands is free in the state
  pub occupant-free : (xs : List (Option SubscriberFields)) (place : ℕ) → get_or xs place None ≡ None
      → occupant (ids (map (option_map (subscriber_of f.books f.connections)) xs)) place ≡ None
  occupant-free xs place free =
      named-at (subscriber_of f.books f.connections) xs place ∙ ap (option_map (λ (x : SubscriberFields). x.id)) free

module _ {T U : Type 0} (f : Fields T U) (sound : IsDomain f) (warnings : WarningRing) (place : ℕ)
    (given : SubscriberSettings) (key_room expired_room : ℕ) (free : get_or f.subscribers place None ≡ None) where
  -- the fields with every publisher due, and with the new subscriber
  abbrev pub with_admitted : Fields T U
  with_admitted = with_entered_subscriber (with_publishers_due f)
      (publishers_due-agree f sound) warnings place given key_room expired_room free

  -- the machine's step
  pub admitted-is : warnings.items ≡ (with_buffer_warning (state_of (kept_of f)) f.next_port).warnings
      → state_of (kept_of with_admitted) ≡ with_new_subscriber (state_of (kept_of f)) given place
  admitted-is warned =
      entered-is (with_publishers_due f) (publishers_due-agree f sound) warnings place given key_room expired_room free
      ∙ ap (λ (s : State T U). record s {
        next_port = f.next_port + 1;
        warnings = warnings.items;
        subscribers = put_at s.subscribers f.next_port (Some (new_subscriber given place));
        subscriber_places = set_place s.subscriber_places place (Some f.next_port);
      }) (publishers_due-are f)
      ∙ ap (λ (ws : Warnings). record (with_new_subscriber (state_of (kept_of f)) given place) { warnings = ws }) warned

  -- the invariant is kept
  pub admitted-agrees : warnings.items ≡ (with_buffer_warning (state_of (kept_of f)) f.next_port).warnings
      → warnings.capacity ≡ warning_limit
      → buffer_for given ≤ buffer_limit f.config → place < (f.config).max_subscribers → place ≤ length f.subscribers
      → IsDomain with_admitted
  admitted-agrees warned room fits low next =
      entered-agrees (with_publishers_due f)
      (publishers_due-agree f sound) warnings place given key_room expired_room free room next
      (rw (admitted-is warned) (new_subscriber_keeps (state_of (kept_of f)) sound.well_formed given place fits low
      (occupant-free f f.subscribers place free)))
