-- A publisher is admitted to a domain, before its first update.
use Rattle.std.proofs.Common.{◌≡◌, ℕ, ◌+◌, ◌*◌, ◌<◌, ◌≤◌, List, map, get_or, ap, sym, ◌∙◌, length}
use Rattle.std.specs.declared.option.Option.{Option}
use Rattle.std.specs.declared.option.Option.TheVariants.{None, Some}
use Rattle.std.specs.Option.{option_map}
use Rattle.std.specs.List.{All}
use Rattle.slab.specs.Slab.{Slab}
use Rattle.iox2_machine.specs.machine.Numbers.{put_at}
use Rattle.iox2_machine.specs.machine.Records.{PublisherSettings}
use Rattle.iox2_machine.specs.machine.Places.{occupant, set_place}
use Rattle.iox2_machine.specs.machine.State.{State}
use Rattle.iox2_machine.specs.machine.Ports.{new_publisher, slots_for, with_new_publisher}
use Rattle.iox2_slots.specs.SlotBook.{Book}
use Rattle.iox2_contents.specs.SlotContents.{ContentState}
use Rattle.iox2_laws.proofs.PortLaws.{new_publisher_keeps}
use Rattle.iox2_domain.specs.Ports.{PublisherFields, slot_length}
use Rattle.iox2_domain.specs.Kept.{state_of, ids}
use Rattle.iox2_domain.specs.Fields.{Fields, kept_of, publisher_of}
use Rattle.iox2_domain.specs.Invariant.{HasForms, IsDomain, HasPublisherRoom, cell_lists}
use Rattle.iox2_domain.specs.Reaches.{Reaches}
use Rattle.iox2_steps.proofs.creations.SubscribersDue.{with_subscribers_due, subscribers_due-are, subscribers_due-agree}
use Rattle.iox2_steps.proofs.creations.PublisherEntered.{PublisherEnters, with_entered_publisher, newcomer, entered-is}
use Rattle.iox2_steps.proofs.creations.PublisherEnteredAgrees.{entered-agrees, entries_same, entered-places}
use Rattle.iox2_domain.proofs.lemmas.fields.NamedPorts.{named-at}
use Rattle.iox2_domain.proofs.lemmas.slots.NewBook.{BookEnters}

module _ {T U : Type 0} (f : Fields T U) where
  -- a place at which no publisher stands is free in the state
  pub occupant-free : (xs : List (Option PublisherFields)) (place : ℕ) → get_or xs place None ≡ None
      → occupant (ids (map (option_map (publisher_of f.books f.connections)) xs)) place ≡ None
  occupant-free xs place free =
      named-at (publisher_of f.books f.connections) xs place ∙ ap (option_map (λ (x : PublisherFields). x.id)) free

module _ {T U : Type 0} (f : Fields T U) (sound : IsDomain f) (place : ℕ) (given : PublisherSettings)
    (loan_room key_room key : ℕ) (books : Slab Book) (contents : List (Option (List (ContentState T U))))
    (free : get_or f.publishers place None ≡ None)
    (book : BookEnters (f.config).node_id f.next_port (slots_for f.config given)
    (slot_length given.initial_max_slice_len * (f.config).units_per_element) key f.books f.contents books contents)
    (forms : HasForms f.config contents)
    (lists : All (λ content. content.lists ≡ cell_lists f.config given.max_loaned_samples) book.slot_contents) where
  -- the new publisher among the fields whose subscribers are due
  abbrev pub enters : PublisherEnters (with_subscribers_due f) place given loan_room key_room key books contents
  enters = record { sound = subscribers_due-agree f sound; free = free; book = book; forms = forms; lists = lists }

  -- the fields with every subscriber due, and with the new publisher
  abbrev pub with_admitted : Fields T U
  with_admitted =
      with_entered_publisher (with_subscribers_due f) place given loan_room key_room key books contents enters

  -- the machine's step
  pub admitted-is : state_of (kept_of with_admitted) ≡ with_new_publisher (state_of (kept_of f)) given place
  admitted-is =
      entered-is (with_subscribers_due f) place given loan_room key_room key books contents enters
      ∙ ap (λ (s : State T U). record s {
        next_port = f.next_port + 1;
        publishers = put_at s.publishers f.next_port (Some (new_publisher s given place));
        publisher_places = set_place s.publisher_places place (Some f.next_port);
      }) (subscribers_due-are f)

  -- the invariant is kept
  pub admitted-agrees : HasPublisherRoom f.config
      (newcomer (with_subscribers_due f) place given loan_room key_room key books contents enters)
      → place < (f.config).max_publishers → place ≤ length f.publishers → IsDomain with_admitted
  admitted-agrees rooms low next =
      entered-agrees (with_subscribers_due f) place given loan_room key_room key books contents enters rooms next
      (rw admitted-is (new_publisher_keeps (state_of (kept_of f)) sound.well_formed given place low
      (occupant-free f f.publishers place free)))

  -- all that the step comes to
  pub admitted-reaches : HasPublisherRoom f.config
      (newcomer (with_subscribers_due f) place given loan_room key_room key books contents enters)
      → place < (f.config).max_publishers → place ≤ length f.publishers
      → Reaches f with_admitted (with_new_publisher (state_of (kept_of f)) given place)
  admitted-reaches rooms low next = record {
    agrees = admitted-agrees rooms low next;
    state = admitted-is;
    entries = λ n entry at.
        sym (entries_same (with_subscribers_due f) place given loan_room key_room key books contents enters n) ∙ at;
    places = entered-places (with_subscribers_due f) place given loan_room key_room key books contents enters;
  }
