-- A publisher enters a domain at the place that it has, or it is refused.
use Rattle.std.proofs.Common.{◌≡◌, ◌≢◌, ℕ, suc, ◌+◌, ◌*◌, ◌<◌, ◌≤◌, ◌==◌, Bool, true, false, cond, nat_lt, List, []}
use Rattle.std.proofs.Common.{length, map, get_or, replicate, refl, ap, sym, subst, ◌∙◌, inl, inr, arith}
use Rattle.std.proofs.lemmas.Bool.{cases_eq, ltb-true, eq-eqb}
use Rattle.std.proofs.lemmas.List.Elements.{All-weaker}
use Rattle.std.specs.List.{All}
use Rattle.std.specs.declared.option.Option.{Option}
use Rattle.std.specs.declared.option.Option.TheVariants.{None, Some}
use Rattle.std.specs.declared.result.Result.TheVariants.{Ok, Err}
use Rattle.std.specs.Option.{option_map}
use Rattle.slab.specs.Slab.{Slab, get, Updates}
use Rattle.circular_buffer.specs.Buffer.{buffer}
use Rattle.iox2_machine.specs.machine.Limits.{last_number}
use Rattle.iox2_machine.specs.machine.Ports.{slots_for, with_new_publisher}
use Rattle.iox2_machine.specs.machine.Records.{PublisherSettings}
use Rattle.iox2_machine.specs.SingleValues.{is_single_valued}
use Rattle.iox2_slots.specs.SlotBook.{Book, IsAligned}
use Rattle.iox2_contents.specs.SlotContents.{ContentState}
use Rattle.iox2_machine.specs.declared.errors.PublisherCreateError.TheVariants.{UnableToCreatePortTag}
use Rattle.iox2_machine.specs.declared.errors.PublisherCreateError.TheVariants.{ExceedsMaxSupportedPublishers}
use Rattle.iox2_domain.specs.Ports.{PublisherFields, slot_length}
use Rattle.iox2_domain.specs.Kept.{state_of}
use Rattle.iox2_domain.specs.Fields.{Fields, kept_of}
use Rattle.iox2_domain.specs.Invariant.{IsDomain, IsLinked, HasBooks, HasNumber, IsNumbered, HasForms, HasPublisherRoom}
use Rattle.iox2_domain.specs.Invariant.{cell_lists}
use Rattle.iox2_domain.specs.NewPublisher.{entering_publisher, place_for_publisher}
use Rattle.iox2_domain.specs.Placed.{placed, lowest_empty}
use Rattle.iox2_domain.specs.Reaches.{Reaches}
use Rattle.iox2_domain.proofs.lemmas.fields.NamedBooks.{names-books}
use Rattle.iox2_domain.proofs.lemmas.containers.FreePlaces.{lowest_empty-low, lowest_empty-free}
use Rattle.iox2_domain.proofs.lemmas.containers.Placed.{placed-here, placed-others}
use Rattle.iox2_domain.proofs.lemmas.slots.OpenLoans.{lists-some, same-lists, open-kept}
use Rattle.iox2_domain.proofs.lemmas.slots.NewBook.{BookEnters}
use Rattle.iox2_steps.proofs.creations.PublisherAdmitted.{with_admitted, admitted-reaches}
use Rattle.iox2_steps.proofs.creations.SubscribersDue.{subscriber_due}
use Rattle.iox2_domain.proofs.lemmas.fields.PlacesKept.{places-back}

-- the tests of a place that a publisher has, in their order
pub record HasPlace {T U : Type 0} (f : Fields T U) (place : ℕ) : Type 0 where
  pub numbered : (f.next_port == last_number) ≡ false
  pub low : nat_lt (lowest_empty f.publishers) (f.config).max_publishers ≡ true
  pub lowest : lowest_empty f.publishers ≡ place

module _ {T U : Type 0} (f : Fields T U) where
  pub has_place : (place : ℕ) → place_for_publisher f ≡ Ok place → HasPlace f place
  has_place place e =
      let parts = by (f.next_port == last_number) (nat_lt (lowest_empty f.publishers) (f.config).max_publishers) e in
      record { numbered = parts.0; low = parts.1; lowest = parts.2 }
    where
      by : (a b : Bool) → cond a (Err UnableToCreatePortTag)
          (cond b (Ok (lowest_empty f.publishers)) (Err ExceedsMaxSupportedPublishers)) ≡ Ok place
          → (a ≡ false) × (b ≡ true) × (lowest_empty f.publishers ≡ place)
      by true b e = absurd cc
      by false false e = absurd cc
      by false true e = (refl, refl, cc)

  -- ---- memory is refused

  -- the fields with room for more books
  abbrev with_room : ℕ → Fields T U
  with_room capacity = record f { books = record (f.books) { capacity = capacity } }

  room-agrees : (capacity : ℕ) → IsDomain f → IsDomain (with_room capacity)
  room-agrees capacity sound = record {
    parts = record {
      publisher_ids = sound.parts.publisher_ids;
      subscriber_ids = sound.parts.subscriber_ids;
      apart = sound.parts.apart;
      linked = linked sound.parts.linked;
      expired_room = sound.parts.expired_room;
      books = books sound.parts.books;
      names = names-books f.books _ f.connections (λ k b at. (b, at, refl)) sound.parts.names;
      counted = record { at = sound.parts.counted.at };
      numbered = numbered sound.parts.numbered;
      publisher_room = sound.parts.publisher_room;
      warning_room = sound.parts.warning_room;
      shapes = record { at = sound.parts.shapes.at };
      forms = sound.parts.forms;
      open_loans = open-kept f.publishers f.books _ f.contents f.contents (λ k slot some. some) (λ k slot some. refl)
          (same-lists f.contents) sound.parts.open_loans;
      plain = sound.parts.plain;
    };
    kept_books = record { at = sound.kept_books.at };
    lone = record { at = sound.lone.at };
    well_formed = sound.well_formed;
    entries = sound.entries;
  } where
    linked : IsLinked f → IsLinked (with_room capacity)
    linked l = record {
      senders = l.senders;
      receivers = l.receivers;
      expired = l.expired;
      ends = l.ends;
      receiver_places = l.receiver_places;
      knows = l.knows;
      knows_publishers = l.knows_publishers;
      sender_rooms = l.sender_rooms;
      receiver_rooms = l.receiver_rooms;
      limits = l.limits;
      channel_counts = l.channel_counts;
      returned = l.returned;
      marked = l.marked;
    }

    books : HasBooks f → HasBooks (with_room capacity)
    books b = record {
      one_each = b.one_each;
      books = b.books;
      publishers = λ i x at. let has = b.publishers i x at in
          record {
            book = has.book;
            stands = has.stands;
            is_its = has.is_its;
            node = has.node;
            slots = has.slots;
            room = has.room;
          };
      no_others = b.no_others;
    }

    had : (k slot n : ℕ) → HasNumber ((with_room capacity).books) k slot n → HasNumber f.books k slot n
    had k slot n has = record { book = has.book; stands = has.stands; in_use = has.in_use; number = has.number }

    numbered : IsNumbered f.next_message f.books → IsNumbered f.next_message ((with_room capacity).books)
    numbered i = record {
      one = λ k k' slot slot' n here there. i.one k k' slot slot' n (had k slot n here) (had k' slot' n there);
      below = λ k slot n here. i.below k slot n (had k slot n here);
    }

  -- the same is kept where there is only more room
  pub room-reaches : (before new : Fields T U) (capacity : ℕ) → before ≡ f → IsDomain f
      → new ≡ record before { books = record (before.books) { capacity = capacity } }
      → Reaches f new (state_of (kept_of f))
  room-reaches before new capacity e sound changed =
      let same : new ≡ with_room capacity =
      changed ∙ ap (λ (g : Fields T U). record g { books = record (g.books) { capacity = capacity } }) e in
      subst (λ (g : Fields T U). Reaches f g (state_of (kept_of f))) (sym same)
      (record {
        agrees = room-agrees capacity sound;
        state = refl;
        entries = λ n entry at. at;
        places = places-back
            (λ k slot n has. record { book = has.book; stands = has.stands; in_use = has.in_use; number = has.number });
      })

  -- ---- it enters

  -- A publisher entered these fields, with its book and its contents.
  pub record HasEntered (given : PublisherSettings) (slots place : ℕ) (x : PublisherFields) (book : Book)
      (slot_contents : List (ContentState T U)) (books : Slab Book) (before new : Fields T U) : Type 0 where
    pub publisher : x ≡ entering_publisher before.next_port place (before.books).vacant_key given slots x.loan_room
        (buffer [] (before.config).history_size) x.key_room
    pub room : HasPublisherRoom before.config x
    pub is_its : book.publisher ≡ before.next_port
    pub names_node : book.node ≡ (before.config).node_id
    pub unused : book.holders ≡ replicate slots 0
    pub aligned : IsAligned book
    pub contents_length : length slot_contents ≡ slots
    pub contents_room : All (λ content.
        slot_length given.initial_max_slice_len * (before.config).units_per_element ≤ content.room) slot_contents
    pub contents_closed : All (λ content. content.cells ≡ []) slot_contents
    pub contents_form : is_single_valued before.config ≡ false
        → All (λ content. content.is_in_place ≡ false) slot_contents
    pub contents_lists : All
        (λ content. content.lists ≡ cell_lists before.config given.max_loaned_samples) slot_contents
    pub vacant : get before.books (before.books).vacant_key ≡ None
    pub updates : Updates before.books books (before.books).vacant_key (Some book)
    pub changed : new ≡ record before {
      next_port = before.next_port + 1;
      publishers = placed before.publishers place x;
      subscribers = map (option_map subscriber_due) before.subscribers;
      books = books;
      contents = placed before.contents (before.books).vacant_key slot_contents;
    }

  entered-reaches : IsDomain f → (new : Fields T U) (given : PublisherSettings) (slots place : ℕ) (x : PublisherFields)
      (book : Book) (slot_contents : List (ContentState T U)) (books : Slab Book)
      → place_for_publisher f ≡ Ok place → slots ≡ slots_for f.config given
      → HasEntered given slots place x book slot_contents books f new
      → Reaches f new (with_new_publisher (state_of (kept_of f)) given place)
  entered-reaches sound new given slots place x book slot_contents books h count e =
      let has = has_place place h in
      let free : get_or f.publishers place None ≡ None =
      subst (λ (p : ℕ). get_or f.publishers p None ≡ None) has.lowest (lowest_empty-free f.publishers) in
      let next : place ≤ length f.publishers =
      subst (λ (p : ℕ). p ≤ length f.publishers) has.lowest (lowest_empty-low f.publishers) in
      let key : ℕ = (f.books).vacant_key in
      let contents : List (Option (List (ContentState T U))) = placed f.contents key slot_contents in
      let enters : BookEnters (f.config).node_id f.next_port (slots_for f.config given)
      (slot_length given.initial_max_slice_len * (f.config).units_per_element) key f.books f.contents books contents =
      record {
        book = book;
        vacant = e.vacant;
        updates = e.updates;
        is_its = e.is_its;
        names_node = e.names_node;
        unused = e.unused ∙ ap (λ n. replicate n 0) count;
        aligned = e.aligned;
        slot_contents = slot_contents;
        contents_here = placed-here slot_contents f.contents key;
        contents_others = λ k away. placed-others slot_contents f.contents key k away;
        contents_length = e.contents_length ∙ count;
        has_room = e.contents_room;
        closed = e.contents_closed;
      } in
      let is : x ≡ entering_publisher f.next_port place key given (slots_for f.config given) x.loan_room
      (buffer [] (f.config).history_size) x.key_room =
      e.publisher ∙ ap (λ n. entering_publisher f.next_port place key given n x.loan_room
      (buffer [] (f.config).history_size) x.key_room) count in
      let forms : HasForms f.config contents = record {
        at = λ several k zs there. elim (cases_eq k key) [
          | inl here ↦
              let found : Some slot_contents ≡ Some zs = sym (placed-here slot_contents f.contents key)
              ∙ sym (ap (λ (j : ℕ). get_or contents j None) here) ∙ there in
              let is : slot_contents ≡ zs = cc in
              subst (All (λ content. content.is_in_place ≡ false)) is (e.contents_form several)
          | inr away ↦
              sound.parts.forms.at several k zs (sym (placed-others slot_contents f.contents key k away) ∙ there)
        ];
        cells = λ several lists k zs there. elim (cases_eq k key) [
          | inl here ↦
              let found : Some slot_contents ≡ Some zs = sym (placed-here slot_contents f.contents key)
              ∙ sym (ap (λ (j : ℕ). get_or contents j None) here) ∙ there in
              let is : slot_contents ≡ zs = cc in
              subst (All (λ content. 0 < content.lists)) is
              (All-weaker (λ (content : ContentState T U). content.lists ≡ cell_lists f.config given.max_loaned_samples)
              (λ (content : ContentState T U). 0 < content.lists)
              (λ content are. let some = lists-some f.config given.max_loaned_samples several lists in
              omega (arith, are, some)) slot_contents e.contents_lists)
          | inr away ↦ sound.parts.forms.cells several lists k zs
              (sym (placed-others slot_contents f.contents key k away) ∙ there)
        ];
      } in
      let after : Fields T U = with_admitted f sound place given x.loan_room x.key_room key books contents free enters
      forms e.contents_lists in
      let same : new ≡ after = e.changed ∙ ap (λ (z : PublisherFields). record f {
        next_port = f.next_port + 1;
        publishers = placed f.publishers place z;
        subscribers = map (option_map subscriber_due) f.subscribers;
        books = books;
        contents = contents;
      }) is in
      subst (λ (g : Fields T U). Reaches f g (with_new_publisher (state_of (kept_of f)) given place)) (sym same)
      (admitted-reaches f sound place given x.loan_room x.key_room key books contents free enters forms e.contents_lists
      (subst (HasPublisherRoom f.config) is e.room)
      (subst (λ (p : ℕ). suc p ≤ (f.config).max_publishers) has.lowest (ltb-true _ _ has.low)) next)

  -- the same, where the fields are known by another name
  pub entered-reaches-as : (before new : Fields T U) → before ≡ f → IsDomain f
      → (given : PublisherSettings) (slots place : ℕ) (x : PublisherFields) (book : Book)
      (slot_contents : List (ContentState T U)) (books : Slab Book)
      → place_for_publisher f ≡ Ok place → slots ≡ slots_for f.config given
      → HasEntered given slots place x book slot_contents books before new
      → Reaches f new (with_new_publisher (state_of (kept_of f)) given place)
  entered-reaches-as before new e sound given slots place x book slot_contents books h count entered =
      entered-reaches sound new given slots place x book slot_contents books h count
      (subst (λ (g : Fields T U). HasEntered given slots place x book slot_contents books g new) e entered)

  -- ---- a number for it

  -- the number past that of a publisher that has a place isn't past the last one
  pub numbered-low : (before : Fields T U) (place : ℕ) → before ≡ f → place_for_publisher f ≡ Ok place
      → before.next_port ≢ last_number
  numbered-low before place e h last =
      let no : (before.next_port == last_number) ≡ false =
      ap (λ (g : Fields T U). g.next_port == last_number) e ∙ (has_place place h).numbered in
      let yes : (before.next_port == last_number) ≡ true = eq-eqb before.next_port last_number last in
      absurd cc

  -- no place before it is free
  pub place-low : (before : Fields T U) (place : ℕ) → before ≡ f → place_for_publisher f ≡ Ok place
      → place ≤ length before.publishers
  place-low before place e h =
      subst (λ (g : Fields T U). place ≤ length g.publishers) (sym e)
      (subst (λ (p : ℕ). p ≤ length f.publishers) (has_place place h).lowest (lowest_empty-low f.publishers))
