-- A new publisher stands at a free place, with its book.
use Rattle.std.proofs.Common.{◌≡◌, ℕ, ◌+◌, ◌*◌, List, [], map, Bool, true, false, cond, eqb, get_or, refl, ap, sym}
use Rattle.std.proofs.Common.{subst, ◌∙◌, inl, inr, ◌⊎◌, arith}
use Rattle.std.proofs.lemmas.Bool.{cases_eq, eqb-true}
use Rattle.std.specs.declared.option.Option.{Option}
use Rattle.std.specs.declared.option.Option.TheVariants.{None, Some}
use Rattle.std.specs.Option.{option_map, option_and_then}
use Rattle.std.specs.List.{All}
use Rattle.slab.specs.Slab.{Slab}
use Rattle.circular_buffer.specs.Buffer.{buffer}
use Rattle.iox2_machine.specs.machine.Numbers.{put_at}
use Rattle.iox2_machine.specs.machine.Places.{set_place}
use Rattle.iox2_machine.specs.machine.Records.{Publisher, PublisherSettings}
use Rattle.iox2_machine.specs.machine.Ports.{new_publisher, slots_for}
use Rattle.iox2_slots.specs.SlotBook.{Book}
use Rattle.iox2_contents.specs.SlotContents.{ContentState}
use Rattle.iox2_machine.specs.machine.Mailbox.{Mailbox}
use Rattle.iox2_connections.specs.LookUp.{look_up, IsOnly}
use Rattle.iox2_laws.proofs.PortLaws.{no_publisher_yet}
use Rattle.iox2_domain.specs.Ports.{PublisherFields, slot_length}
use Rattle.iox2_domain.specs.Kept.{Named, Between, state_of, port_named, ids, is_named, loan_in, stands_between}
use Rattle.iox2_domain.specs.Kept.{mailbox_if_between, channels_if_between}
use Rattle.iox2_machine.specs.machine.Channel.{Channel}
use Rattle.iox2_domain.specs.Fields.{Fields, kept_of, publisher_of}
use Rattle.iox2_domain.specs.Invariant.{IsDomain, HasForms, cell_lists, is_publisher}
use Rattle.iox2_domain.specs.Placed.{placed}
use Rattle.iox2_domain.specs.NewPublisher.{entering_publisher}
use Rattle.iox2_domain.proofs.lemmas.containers.LookUps.{look_up-map, look_up-written, IsOnly-inserted}
use Rattle.iox2_domain.proofs.lemmas.containers.Placed.{placed-here, placed-others, map-placed, placed-ids}
use Rattle.iox2_domain.proofs.lemmas.slots.NewBook.{messages-same, publishers-shown, connections-shown, BookEnters}
use mathlib.Core.Path.{fun_ext}
use Rattle.iox2_domain.proofs.lemmas.fields.NamedPorts.{named-unseen}

-- A new publisher with these settings enters these fields at the place, with the book at the key.
pub record PublisherEnters {T U : Type 0} (f : Fields T U) (place : ℕ) (given : PublisherSettings)
    (loan_room key_room key : ℕ)
    (books : Slab Book) (contents : List (Option (List (ContentState T U)))) : Type 0 where
  pub sound : IsDomain f
  pub free : get_or f.publishers place None ≡ None
  pub book : BookEnters (f.config).node_id f.next_port (slots_for f.config given)
      (slot_length given.initial_max_slice_len * (f.config).units_per_element) key f.books f.contents books contents
  pub forms : HasForms f.config contents
  pub lists : All (λ content. content.lists ≡ cell_lists f.config given.max_loaned_samples) book.slot_contents

module _ {T U : Type 0} (f : Fields T U) (place : ℕ) (given : PublisherSettings) (loan_room key_room key : ℕ)
    (books : Slab Book) (contents : List (Option (List (ContentState T U))))
    (enters : PublisherEnters f place given loan_room key_room key books contents) where
  -- the publisher that enters
  abbrev pub newcomer : PublisherFields
  newcomer = entering_publisher f.next_port place key given (slots_for f.config given) loan_room
      (buffer [] (f.config).history_size) key_room

  -- the fields with it and its book
  abbrev pub with_entered_publisher : Fields T U
  with_entered_publisher = record f {
    next_port = f.next_port + 1;
    publishers = placed f.publishers place newcomer;
    books = books;
    contents = contents;
  }

  -- no publisher has the next id
  pub no_such : look_up (is_publisher f.next_port) f.publishers ≡ None
  no_such = named-unseen (publisher_of f.books f.connections) f.next_port f.publishers
      (no_publisher_yet (state_of (kept_of f)) enters.sound.well_formed)

  pub ids_apart : (p : ℕ) → IsOnly (is_publisher p) (placed f.publishers place newcomer)
  ids_apart p =
      IsOnly-inserted (is_publisher p) f.publishers (placed f.publishers place newcomer) place newcomer
      (enters.sound.parts.publisher_ids p)
      (λ e. let here : f.next_port ≡ p = eqb-true f.next_port p e in
      subst (λ r. look_up (is_publisher r) f.publishers ≡ None) here no_such)
      (placed-here newcomer f.publishers place) (λ k away. placed-others newcomer f.publishers place k away)

  -- where a publisher stands, it is the new one or stood there before
  pub stood : (i : ℕ) (x : PublisherFields) → get_or (placed f.publishers place newcomer) i None ≡ Some x
      → ((i ≡ place) × (x ≡ newcomer)) ⊎ (get_or f.publishers i None ≡ Some x)
  stood i x at = elim (cases_eq i place) [
    | inl here ↦
        let at_place : get_or (placed f.publishers place newcomer) place None ≡ Some x =
        subst (λ (k : ℕ). get_or (placed f.publishers place newcomer) k None ≡ Some x) here at in
        let same : Some newcomer ≡ Some x = sym (placed-here newcomer f.publishers place) ∙ at_place in
        inl (here, cc)
    | inr away ↦ inr (sym (placed-others newcomer f.publishers place i away) ∙ at)
  ]

  -- who stood somewhere still does
  pub still : (i : ℕ) (x : PublisherFields) → get_or f.publishers i None ≡ Some x
      → get_or (placed f.publishers place newcomer) i None ≡ Some x
  still i x at = placed-others newcomer f.publishers place i (λ here.
      let at_place : get_or f.publishers place None ≡ Some x =
      subst (λ (k : ℕ). get_or f.publishers k None ≡ Some x) here at in
      let no : None ≡ Some x = sym enters.free ∙ at_place in absurd cc) ∙ at

  -- the publishers by id, as records
  pub publisher-found : (p : ℕ) → look_up (is_publisher p) (placed f.publishers place newcomer) ≡ cond
      (eqb f.next_port p) (Some newcomer) (look_up (is_publisher p) f.publishers)
  publisher-found p =
      look_up-written (is_publisher p) f.publishers (placed f.publishers place newcomer) place newcomer (ids_apart p)
      (λ x at. absurd (let no : None ≡ Some x = sym enters.free ∙ at in cc)) (placed-here newcomer f.publishers place)
      (λ k away. placed-others newcomer f.publishers place k away)

  -- the machine's new publisher
  abbrev made : Publisher
  made = new_publisher (state_of (kept_of f)) given place

  -- what publishers look like with the new book
  abbrev shown : PublisherFields → Named Publisher
  shown x = publisher_of books f.connections x

  abbrev port : Option (Named Publisher) → Option Publisher
  port o = option_map (λ (z : Named Publisher). z.port) o

  symmetric : (a b : ℕ) → eqb a b ≡ eqb b a
  symmetric a b = grind arith

  -- the publishers by id
  pub named-entered : (p : ℕ)
      → port_named p (map (option_map (publisher_of books f.connections)) (placed f.publishers place newcomer))
      ≡ put_at (state_of (kept_of f)).publishers f.next_port (Some made) p
  named-entered p =
      ap port (look_up-map (is_named p) shown (placed f.publishers place newcomer))
      ∙ ap (λ o. port (option_map shown o)) (publisher-found p)
      ∙ by (eqb f.next_port p) (eqb p f.next_port) (symmetric f.next_port p) (look_up (is_publisher p) f.publishers)
      ∙ ap (λ o. cond (eqb p f.next_port) (Some made) (port o)) (sym (look_up-map (is_named p) shown f.publishers))
      ∙ ap (λ xs. cond (eqb p f.next_port) (Some made) (port_named p xs))
      (publishers-shown f enters.sound (slots_for f.config given)
      (slot_length given.initial_max_slice_len * (f.config).units_per_element) key books contents enters.book)
    where
      by : (a b : Bool) → a ≡ b → (o : Option PublisherFields)
          → port (option_map shown (cond a (Some newcomer) o)) ≡ cond b (Some made) (port (option_map shown o))
      by true b e o = rw (sym e) refl
      by false b e o = rw (sym e) refl

  -- the machine's state with the new publisher
  pub entered-is : state_of (kept_of with_entered_publisher) ≡ record (state_of (kept_of f)) {
    next_port = f.next_port + 1;
    publishers = put_at (state_of (kept_of f)).publishers f.next_port (Some made);
    publisher_places = set_place (state_of (kept_of f)).publisher_places place (Some f.next_port);
  }
  entered-is = λ i. record (state_of (kept_of f)) {
    next_port = f.next_port + 1;
    loans = loans_same i;
    mailboxes = boxes i;
    channels = channels i;
    publishers = all i;
    publisher_places = places i;
  } where
    all : (state_of (kept_of with_entered_publisher)).publishers ≡ put_at (state_of (kept_of f)).publishers f.next_port
        (Some made)
    all = fun_ext named-entered

    loans_same : (state_of (kept_of with_entered_publisher)).loans ≡ (state_of (kept_of f)).loans
    loans_same = fun_ext (λ n. ap (option_and_then loan_in)
        (messages-same f enters.sound (slots_for f.config given)
        (slot_length given.initial_max_slice_len * (f.config).units_per_element) key books contents enters.book n))

    boxes : (state_of (kept_of with_entered_publisher)).mailboxes ≡ (state_of (kept_of f)).mailboxes
    boxes = ap {B = ℕ → ℕ → Mailbox}
        (λ (cs : List (Option Between)) (p q : ℕ). mailbox_if_between (look_up (stands_between p q) cs))
        (connections-shown f enters.sound (slots_for f.config given)
        (slot_length given.initial_max_slice_len * (f.config).units_per_element) key books contents enters.book)

    channels : (state_of (kept_of with_entered_publisher)).channels ≡ (state_of (kept_of f)).channels
    channels = ap {B = ℕ → ℕ → ℕ → Channel}
        (λ (cs : List (Option Between)) (p q : ℕ). channels_if_between (look_up (stands_between p q) cs))
        (connections-shown f enters.sound (slots_for f.config given)
        (slot_length given.initial_max_slice_len * (f.config).units_per_element) key books contents enters.book)

    places : (state_of (kept_of with_entered_publisher)).publisher_places ≡ set_place
        (state_of (kept_of f)).publisher_places place (Some f.next_port)
    places =
        ap ids (map-placed newcomer shown f.publishers place)
        ∙ map-placed (shown newcomer) (λ (z : Named Publisher). z.id) (map (option_map shown) f.publishers) place
        ∙ placed-ids f.next_port (ids (map (option_map shown) f.publishers)) place
        ∙ ap (λ xs. set_place (ids xs) place (Some f.next_port))
        (publishers-shown f enters.sound (slots_for f.config given)
        (slot_length given.initial_max_slice_len * (f.config).units_per_element) key books contents enters.book)
