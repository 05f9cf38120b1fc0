-- A departed publisher becomes expired in the place of another one.
use Rattle.std.proofs.Common.{◌≡◌, ◌≢◌, ℕ, List, [], ◌∷◌, ◌++◌, map, true, false, get_or, refl, ap, sym, subst, ◌∙◌}
use Rattle.std.proofs.lemmas.List.{set-set}
use Rattle.std.specs.declared.option.Option.{Option}
use Rattle.std.specs.declared.option.Option.TheVariants.{None, Some}
use Rattle.std.specs.Option.{option_map}
use Rattle.slab.specs.Slab.{Slab, get}
use Rattle.iox2_connections.specs.Link.{Link}
use Rattle.iox2_slots.specs.SlotBook.{Book}
use Rattle.iox2_machine.specs.machine.Limits.{warning_limit}
use Rattle.iox2_machine.specs.machine.Mailbox.{has_borrows, waiting_dropped}
use Rattle.iox2_machine.specs.machine.Numbers.{put_at, contains, without}
use Rattle.iox2_machine.specs.machine.Places.{occupants, set_place}
use Rattle.iox2_machine.specs.machine.State.{State, warned}
use Rattle.iox2_machine.specs.machine.SubscriberUpdate.{ReceiverSide, Evict, with_receiver_side}
use Rattle.iox2_machine.specs.declared.warning.Warning.TheVariants.{ExpiredDataDiscarded}
use Rattle.iox2_laws.proofs.ReceiverSides.{evicted_keeps}
use Rattle.iox2_laws.proofs.SubscriberUpdates.{with_receiver_side_keeps}
use Rattle.iox2_connections.specs.Drops.{RemovesDropped, without_waiting}
use Rattle.iox2_connections.specs.Finds.{IsReceivers}
use Rattle.iox2_connections.specs.Mailboxes.{publisher_of_key, receiver_ends, with_box}
use Rattle.iox2_connections.proofs.MailboxChanges.{Updates-with_value}
use Rattle.iox2_domain.specs.Midway.{with_channels_of}
use Rattle.iox2_laws.proofs.PortChanges.{with_all_channels_keeps}
use Rattle.iox2_domain.specs.WarningRing.{WarningRing, warning_ring}
use Rattle.iox2_domain.specs.Ports.{SubscriberFields}
use Rattle.iox2_machine.specs.machine.WellFormed.{IsWellFormed}
use Rattle.iox2_domain.specs.Kept.{state_of}
use Rattle.iox2_domain.specs.Invariant.{HasParts, IsDomain, IsDomainBut}
use Rattle.iox2_domain.specs.Fields.{Fields, kept_of}
use Rattle.iox2_domain.specs.ReceiverSteps.{current_side, HasDepartedEnd, ChangesReceiverTo}
use Rattle.iox2_domain.proofs.lemmas.containers.ChangedRecords.{changed-here}
use Rattle.iox2_domain.proofs.lemmas.containers.ConnectionKeys.{map-set_place}
use Rattle.iox2_domain.proofs.lemmas.fields.Standing.{expired-gone, leads-among, occupant-receiver_ends, some_is}
use Rattle.iox2_domain.proofs.lemmas.fields.Views.{held-before}
use Rattle.iox2_domain.proofs.lemmas.fields.Parts.{but-of}
use Rattle.iox2_laws.proofs.Puts.{put_at-twice}
use Rattle.iox2_steps.proofs.receivers.DepartedEnds.{among}
use Rattle.iox2_steps.proofs.receivers.LeftEnds.{IsDeparted, LeavesReceiver, left_fields, left-parts, end-expires}
use Rattle.iox2_steps.proofs.receivers.LeftStates.{left-is, occupants-pushed, occupants-without, same-lead}
use Rattle.iox2_steps.proofs.receivers.LeftChanges.{parts-warned, present, side-well_formed}
use Rattle.iox2_steps.proofs.receivers.Retirements.{retired_side, here, absent}
use Rattle.iox2_steps.proofs.receivers.DroppedEnds.{dropped-follows, dropped_fields, dropped-is, dropped-box}
use Rattle.iox2_steps.proofs.receivers.DroppedEnds.{dropped-lone, dropped-kept, dropped-gone, dropped-entries}
use Rattle.iox2_steps.proofs.receivers.DroppedEnds.{dropped-places, dropped-keeps, expired-fits, removed_fields}
use Rattle.iox2_steps.proofs.receivers.DroppedEnds.{removed-parts, removed-is, ends-removed, expired-removed}
use Rattle.iox2_domain.proofs.lemmas.samples.HintedSamples.{contained}
use Rattle.iox2_domain.proofs.lemmas.fields.NamedPorts.{seen, seen_subscriber}

-- The subscriber y at the place j has this expired connection, of which nothing is borrowed.
pub record HasExpiredEnd {T U : Type 0} (f : Fields T U) (y : SubscriberFields) (key : ℕ) (c : Link) : Type 0 where
  pub has : contains y.expired key ≡ true
  pub link : get f.connections key ≡ Some c
  pub unborrowed : c.borrowed ≡ []

module _ {T U : Type 0} (f : Fields T U) (sound : IsDomain f) (j i : ℕ) (y : SubscriberFields) (key : ℕ) (c : Link)
    (end : HasDepartedEnd f j i y key c)
    (first : ℕ) (d : Link) (old : HasExpiredEnd f y first d) where
  abbrev p : ℕ
  p = c.home.publisher

  abbrev lost : ℕ
  lost = d.home.publisher

  abbrev side : ReceiverSide
  side = current_side (seen f) y.id (seen_subscriber f y)

  -- ---- the one that goes

  own : (k : ℕ) → contains y.expired k ≡ true
      → (e : Link) × (get f.connections k ≡ Some e) × IsReceivers y.id (f.config).subscriber_max_borrowed_samples e
  own k has =
      let there = among y.expired k has in
      some_is (IsReceivers y.id (f.config).subscriber_max_borrowed_samples) (get f.connections k)
      ((sound.parts.linked.expired j y end.stands).at there.0 k there.1)

  its : d.home.subscriber ≡ y.id
  its =
      let has = own first old.has in
      let same : Some has.0 ≡ Some d = sym has.1 ∙ old.link in
      let is : has.0 ≡ d = cc in
      ap (λ (e : Link). e.home.subscriber) (sym is) ∙ has.2.subscriber

  -- the machine's subscriber has it among the expired ones
  pub expired-lost : contains (seen_subscriber f y).expired lost ≡ true
  expired-lost = leads-among f.connections y.expired first d old.has old.link

  pub lost-departed : IsDeparted f y d
  lost-departed = record {
    subscriber = its;
    publisher = λ k x at_x. expired-gone f sound.parts sound.well_formed j first k y d x end.stands
        (contained y.expired first old.has) old.link at_x;
  }

  -- it is at no place
  elsewhere : (place : ℕ) → get_or y.keys place None ≢ Some first
  elsewhere place has = (sound.well_formed.subscribers y.id (seen_subscriber f y)
      (present f sound j y end.stands)).expired_apart lost expired-lost (
        place,
        occupant-receiver_ends f.connections y.keys place ∙ ap (publisher_of_key f.connections) has
            ∙ ap (option_map (λ (e : Link). e.home.publisher)) old.link,
      )

  apart : key ≢ first
  apart same = elsewhere i (end.has ∙ ap Some same)

  module _ (nothing_borrowed : has_borrows ((seen f).mailboxes lost y.id) ≡ false)
      (b : Book) (at_b : get f.books d.home.book ≡ Some b) (mine : b.publisher ≡ lost)
      (holders : List ℕ) (new : Slab Link) (removes : RemovesDropped b.holders f.connections first d holders new) where
    abbrev pub told : WarningRing
    told = warning_ring (warned f.warnings.items (ExpiredDataDiscarded lost y.id)) warning_limit

    pub fits : LeavesReceiver (dropped_fields f sound j y end.stands first d old.link lost-departed old.unborrowed b
        at_b mine holders new removes) y y.keys (without first y.expired) new
    fits = expired-fits f sound j y end.stands first d old.link lost-departed old.unborrowed b at_b mine holders new
        removes elsewhere

    -- the fields without it
    abbrev pub evicted : Fields T U
    evicted = removed_fields f sound j y end.stands first d old.link lost-departed old.unborrowed b at_b mine holders
        new removes y.keys (without first y.expired) fits

    pub evicted-parts : HasParts evicted
    evicted-parts = removed-parts f sound j y end.stands first d old.link lost-departed old.unborrowed b at_b mine
        holders new removes y.keys (without first y.expired) fits

    -- the subscriber without it
    abbrev pub mid : SubscriberFields
    mid = record y { expired = without first y.expired }

    pub mid-stands : get_or evicted.subscribers j None ≡ Some mid
    mid-stands = changed-here f.subscribers j y mid end.stands

    -- the connection that expires is there still
    stays : get new key ≡ Some c
    stays =
        removes.goes.others key apart
        ∙ (Updates-with_value f.connections first d (without_waiting d) old.link).others key apart
        ∙ end.link

    pub end-fits : LeavesReceiver evicted mid (set_place y.keys i None) (without first y.expired ++ key ∷ []) new
    end-fits = end-expires evicted evicted-parts j mid mid-stands i key end.has

    -- the fields with one in place of the other
    abbrev pub replaced_fields : Fields T U
    replaced_fields = record (left_fields evicted evicted-parts j mid mid-stands (set_place y.keys i None)
        (without first y.expired ++ key ∷ []) y.is_due new end-fits) { warnings = told }

    leads : publisher_of_key new (Some key) ≡ Some p
    leads = ap (option_map (λ (e : Link). e.home.publisher)) stays

    ends-are : receiver_ends new (set_place y.keys i None) ≡ set_place (seen_subscriber f y).ends i None
    ends-are =
        map-set_place (publisher_of_key new) refl y.keys i None
        ∙ ap (λ ends. set_place ends i None)
        (ends-removed f sound j y end.stands first d old.link lost-departed old.unborrowed b at_b mine holders new
        removes y.keys (without first y.expired) fits)

    expired-are : occupants (receiver_ends new (map Some (without first y.expired ++ key ∷ []))) ≡ without lost
        (seen_subscriber f y).expired ++ p ∷ []
    expired-are =
        occupants-pushed (publisher_of_key new) (without first y.expired) key p leads
        ∙ ap (λ ends. occupants ends ++ p ∷ [])
        (expired-removed f sound j y end.stands first d old.link lost-departed old.unborrowed b at_b mine holders new
        removes y.keys (without first y.expired) fits)
        ∙ ap (λ ns. ns ++ p ∷ []) (occupants-without (publisher_of_key f.connections) y.expired first lost (λ k has.
        let e = own k has in (
          e.0.home.publisher,
          ap (option_map (λ (l : Link). l.home.publisher)) e.1,
          same-lead f sound.parts y.id k first e.0 d e.1 old.link e.2.subscriber its,
        )))

    state : state_of (kept_of replaced_fields) ≡ with_channels_of replaced_fields
        (with_receiver_side (seen f) y.id (seen_subscriber f y) (retired_side f sound j i y key c end (Evict lost)))
    state =
        (λ k. record (left-is evicted evicted-parts j mid mid-stands (set_place y.keys i None)
        (without first y.expired ++ key ∷ []) y.is_due new end-fits k) {
          warnings =
              warned f.warnings.items (ExpiredDataDiscarded lost y.id);
        })
        ∙ (λ k. with_channels_of replaced_fields
        (record (removed-is f sound j y end.stands first d old.link lost-departed old.unborrowed b at_b mine holders new
        removes y.keys (without first y.expired) fits k) {
          subscribers =
              put_at
              ((removed-is f sound j y end.stands first d old.link lost-departed old.unborrowed b at_b mine holders new
              removes y.keys (without first y.expired) fits k).subscribers) y.id
              (Some (record (seen_subscriber f y) { ends = ends-are k; expired = expired-are k; is_due = y.is_due }));
          warnings = warned f.warnings.items (ExpiredDataDiscarded lost y.id);
        }))
        ∙ (λ k. with_channels_of replaced_fields
        (record (with_receiver_side (seen f) y.id (seen_subscriber f y)
        (retired_side f sound j i y key c end (Evict lost))) {
          subscribers = put_at-twice (seen f).subscribers y.id
              (Some (record (seen_subscriber f y) {
                ends = receiver_ends f.connections y.keys;
                expired = occupants (receiver_ends f.connections (map Some (without first y.expired)));
                is_due = y.is_due;
              })) (Some (record (seen_subscriber f y) {
                ends = set_place (seen_subscriber f y).ends i None;
                expired = without lost (seen_subscriber f y).expired ++ p ∷ [];
                is_due = y.is_due;
              })) k;
        }))

    pub evicts : ChangesReceiverTo (IsDomainBut d.home.book) f j y
        (retired_side f sound j i y key c end (Evict lost)) replaced_fields
    evicts = record {
      agrees = but-of replaced_fields d.home.book
          (parts-warned _ told (left-parts evicted evicted-parts j mid mid-stands (set_place y.keys i None)
          (without first y.expired ++ key ∷ []) y.is_due new end-fits) refl)
          (dropped-lone f sound j y end.stands first d old.link lost-departed old.unborrowed b at_b mine holders new
          removes)
          (dropped-kept f sound j y end.stands first d old.link lost-departed old.unborrowed b at_b mine holders new
          removes)
          (dropped-gone f sound j y end.stands first d old.link lost-departed old.unborrowed b at_b mine holders new
          removes)
          (subst IsWellFormed (sym state)
          (with_all_channels_keeps (with_receiver_side (seen f) y.id (seen_subscriber f y)
          (retired_side f sound j i y key c end (Evict lost)))
          (with_receiver_side_keeps (seen f) sound.well_formed y.id (seen_subscriber f y)
          (retired_side f sound j i y key c end (Evict lost)) (present f sound j y end.stands)
          (evicted_keeps (seen f) y.id side i p (side-well_formed f sound j y end.stands) (here f sound j i y key c end)
          (absent f sound j i y key c end) lost expired-lost nothing_borrowed))
          (state_of (kept_of replaced_fields)).channels))
          (λ r n held. dropped-keeps f sound j y end.stands first d old.link lost-departed old.unborrowed b at_b mine
          holders new removes r n
          (held-before (state_of (kept_of between)) (state_of (kept_of replaced_fields)) r n
          (λ q. ap (λ (t : State T U). t.mailboxes r q) state
          ∙ sym (ap (λ boxes. boxes r q) (dropped-box (seen f).mailboxes lost y.id
          (waiting_dropped ((seen f).mailboxes lost y.id)))) ∙ sym (ap (λ (t : State T U). t.mailboxes r q) is))
          (λ w at_w. (
            w,
            ap (λ (t : State T U). t.publishers r) is ∙ sym (ap (λ (t : State T U). t.publishers r) state)
                ∙ at_w,
            record { history = refl; blocked = refl },
          )) held));
      keys = set_place y.keys i None;
      key_room = y.key_room;
      expired = without first y.expired ++ key ∷ [];
      expired_room = y.expired_room;
      fields = ap (λ (ys : List (Option SubscriberFields)). record replaced_fields { subscribers = ys })
          (set-set f.subscribers j (Some mid)
          (Some (record y { keys = set_place y.keys i None; expired = without first y.expired ++ key ∷ [] })));
      others = refl;
      state = state;
      channels = dropped-follows f sound j y end.stands first d old.link lost-departed old.unborrowed b at_b mine
          holders new removes;
      entries = dropped-entries f sound j y end.stands first d old.link lost-departed old.unborrowed b at_b mine holders
          new removes;
      places = dropped-places f sound j y end.stands first d old.link lost-departed old.unborrowed b at_b mine holders
          new removes;
    } where
      between : Fields T U
      between = dropped_fields f sound j y end.stands first d old.link lost-departed old.unborrowed b at_b mine holders
          new removes

      is : state_of (kept_of between) ≡ record (seen f)
          { mailboxes = with_box (seen f).mailboxes lost y.id (waiting_dropped ((seen f).mailboxes lost y.id)) }
      is = dropped-is f sound j y end.stands first d old.link lost-departed old.unborrowed b at_b mine holders new
          removes
