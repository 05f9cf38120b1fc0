-- A departed publisher is retired from its place at a subscriber.
use Rattle.std.proofs.Common.{◌≡◌, ℕ, ◌<◌, List, [], ◌∷◌, ◌++◌, length, true, false, refl, ap, sym, subst, ◌∙◌}
use Rattle.std.proofs.lemmas.Bool.{ne_eqb}
use Rattle.std.specs.declared.option.Option.TheVariants.{None, Some}
use Rattle.std.specs.Option.{option_map}
use Rattle.slab.specs.Slab.{Slab, get}
use Rattle.iox2_connections.specs.Link.{Link}
use Rattle.iox2_slots.specs.SlotBook.{Book}
use Rattle.iox2_machine.specs.machine.Limits.{warning_limit, expired_limit}
use Rattle.iox2_machine.specs.machine.Mailbox.{has_borrows, waiting_dropped}
use Rattle.iox2_machine.specs.machine.Numbers.{put_at, contains}
use Rattle.iox2_machine.specs.machine.Places.{occupant, set_place}
use Rattle.iox2_machine.specs.machine.State.{State, warned}
use Rattle.iox2_machine.specs.machine.SubscriberUpdate.{ReceiverSide, Retirement, Keep_expired, Discard_data, Refuse}
use Rattle.iox2_machine.specs.machine.SubscriberUpdate.{after_retirement, with_end, with_receiver_side}
use Rattle.iox2_machine.specs.declared.warning.Warning.TheVariants.{ExpiredDataDiscarded}
use Rattle.iox2_laws.proofs.NumberLemmas.{false_from}
use Rattle.iox2_laws.proofs.ReceiverSides.{receiver_side_marked, kept_expired_keeps, discarded_keeps}
use Rattle.iox2_laws.proofs.SubscriberUpdates.{with_receiver_side_keeps}
use Rattle.iox2_connections.specs.Drops.{RemovesDropped}
use Rattle.iox2_connections.specs.Mailboxes.{publisher_of_key, with_box}
use Rattle.iox2_connections.proofs.LookUps.{look_up-nothing}
use Rattle.iox2_connections.proofs.MailboxChanges.{put_at-own}
use Rattle.iox2_domain.specs.Midway.{with_channels_of}
use Rattle.iox2_laws.proofs.PortChanges.{with_all_channels_keeps}
use Rattle.iox2_domain.specs.WarningRing.{WarningRing, warning_ring}
use Rattle.iox2_domain.specs.Ports.{SubscriberFields}
use Rattle.iox2_machine.specs.machine.WellFormed.{IsWellFormed}
use Rattle.iox2_domain.specs.Kept.{state_of}
use Rattle.iox2_domain.specs.Invariant.{IsDomain, IsDomainBut, StandsNowhere, is_publisher}
use Rattle.iox2_domain.specs.Fields.{Fields, kept_of, publisher_of}
use Rattle.iox2_domain.specs.ReceiverSteps.{current_side, HasDepartedEnd, ChangesReceiverTo, ChangesReceiver}
use Rattle.iox2_domain.proofs.lemmas.containers.ConnectionKeys.{map-set_place}
use Rattle.iox2_domain.proofs.lemmas.fields.Standing.{leads-among, occupant-receiver_ends, receiver-link}
use Rattle.iox2_domain.proofs.lemmas.fields.Views.{held-before}
use Rattle.iox2_domain.proofs.lemmas.fields.Parts.{but-of}
use Rattle.iox2_steps.proofs.receivers.DepartedEnds.{departed-nowhere}
use Rattle.iox2_steps.proofs.receivers.LeftEnds.{IsDeparted, LeavesReceiver, left_fields, end-expires, nothing-leaves}
use Rattle.iox2_steps.proofs.receivers.LeftStates.{left-still, occupants-pushed}
use Rattle.iox2_steps.proofs.receivers.LeftChanges.{parts-warned, present, side-well_formed, left-changes}
use Rattle.iox2_steps.proofs.receivers.DroppedEnds.{dropped-follows, dropped_fields, dropped-is, dropped-box}
use Rattle.iox2_steps.proofs.receivers.DroppedEnds.{dropped-lone, dropped-kept, dropped-gone, dropped-entries}
use Rattle.iox2_steps.proofs.receivers.DroppedEnds.{dropped-places, dropped-keeps, place-fits, removed_fields}
use Rattle.iox2_steps.proofs.receivers.DroppedEnds.{removed-parts, removed-is}
use Rattle.iox2_domain.proofs.lemmas.fields.NamedPorts.{seen, seen_subscriber, named-nowhere}

module _ {T U : Type 0} (f : Fields T U) (sound : IsDomain f) (j i : ℕ) (y : SubscriberFields) (key : ℕ) (c : Link)
    (end : HasDepartedEnd f j i y key c) where
  abbrev p : ℕ
  p = c.home.publisher

  abbrev side : ReceiverSide
  side = current_side (seen f) y.id (seen_subscriber f y)

  -- what the retirement leaves
  abbrev pub retired_side : Retirement → ReceiverSide
  retired_side how = with_end (after_retirement y.id side p how) i None

  -- ---- the end

  pub nowhere : StandsNowhere f.publishers p
  nowhere = departed-nowhere f sound.parts j i key y c end.stands end.has end.link end.gone

  pub departed : IsDeparted f y c
  departed =
      let own = receiver-link f sound.parts j i key y end.stands end.has in
      let same : Some own.0 ≡ Some c = sym own.1 ∙ end.link in
      let is : own.0 ≡ c = cc in
      record { subscriber = ap (λ (d : Link). d.home.subscriber) (sym is) ∙ own.2.subscriber; publisher = nowhere }

  leads : publisher_of_key f.connections (Some key) ≡ Some p
  leads = ap (option_map (λ (d : Link). d.home.publisher)) end.link

  pub here : occupant (seen_subscriber f y).ends i ≡ Some p
  here = occupant-receiver_ends f.connections y.keys i ∙ ap (publisher_of_key f.connections) end.has ∙ leads

  pub absent : (seen f).publishers p ≡ None
  absent = named-nowhere (publisher_of f.books f.connections) p f.publishers
      (look_up-nothing (is_publisher p) f.publishers (λ k x at_x. ne_eqb x.id p (nowhere k x at_x)))

  pub unexpired : contains y.expired key ≡ false
  unexpired = false_from (contains y.expired key) (λ has.
      (sound.well_formed.subscribers y.id (seen_subscriber f y) (present f sound j y end.stands)).expired_apart p
      (leads-among f.connections y.expired key c has end.link) (i, here))

  -- ---- it is kept among the expired ones

  abbrev pub expired_fields : Fields T U
  expired_fields =
      left_fields f sound.parts j y end.stands (set_place y.keys i None) (y.expired ++ key ∷ []) y.is_due f.connections
      (end-expires f sound.parts j y end.stands i key end.has)

  pub expires : length (seen_subscriber f y).expired < expired_limit f.config
      → ChangesReceiver f j y (retired_side Keep_expired) expired_fields
  expires room =
      left-changes f sound j y end.stands (set_place y.keys i None) (y.expired ++ key ∷ [])
      (end-expires f sound.parts j y end.stands i key end.has) (retired_side Keep_expired)
      (kept_expired_keeps (seen f) y.id side i p (side-well_formed f sound j y end.stands) here absent room)
      (left-still f sound.parts j y end.stands (set_place y.keys i None) (y.expired ++ key ∷ []) y.is_due
      (end-expires f sound.parts j y end.stands i key end.has)
      ∙ (λ k. record (seen f) {
        subscribers = put_at (seen f).subscribers y.id (Some (record (seen_subscriber f y) {
          ends = map-set_place (publisher_of_key f.connections) refl y.keys i None k;
          expired = occupants-pushed (publisher_of_key f.connections) y.expired key p leads k;
          is_due = y.is_due;
        }));
        mailboxes = λ r. put_at-own ((seen f).mailboxes r) y.id k;
      }))

  -- ---- it is refused

  abbrev pub refused_fields : Fields T U
  refused_fields = left_fields f sound.parts j y end.stands y.keys y.expired true f.connections
      (nothing-leaves f sound.parts j y end.stands)

  pub refuses : ChangesReceiver f j y (after_retirement y.id side p Refuse) refused_fields
  refuses =
      left-changes f sound j y end.stands y.keys y.expired (nothing-leaves f sound.parts j y end.stands)
      (after_retirement y.id side p Refuse)
      (receiver_side_marked (seen f) y.id side true (seen f).warnings (side-well_formed f sound j y end.stands))
      (left-still f sound.parts j y end.stands y.keys y.expired true (nothing-leaves f sound.parts j y end.stands)
      ∙ (λ k. record (seen f) {
        subscribers = put_at (seen f).subscribers y.id
            (Some (record (seen_subscriber f y) { is_due = true }));
        mailboxes = λ r. put_at-own ((seen f).mailboxes r) y.id k;
      }))

  -- ---- what waits is lost

  module _ (unborrowed : c.borrowed ≡ []) (nothing_borrowed : has_borrows ((seen f).mailboxes p y.id) ≡ false)
      (b : Book) (at_b : get f.books c.home.book ≡ Some b) (mine : b.publisher ≡ p)
      (holders : List ℕ) (new : Slab Link) (removes : RemovesDropped b.holders f.connections key c holders new) where
    pub fits : LeavesReceiver (dropped_fields f sound j y end.stands key c end.link departed unborrowed b at_b mine
        holders new removes) y (set_place y.keys i None) y.expired new
    fits = place-fits f sound j y end.stands key c end.link departed unborrowed b at_b mine holders new removes i
        end.has unexpired

    abbrev pub told : WarningRing
    told = warning_ring (warned f.warnings.items (ExpiredDataDiscarded p y.id)) warning_limit

    -- the fields without the connection
    abbrev pub without_end : Fields T U
    without_end =
        record (removed_fields f sound j y end.stands key c end.link departed unborrowed b at_b mine holders new removes
        (set_place y.keys i None) y.expired fits) { warnings = told }

    state : state_of (kept_of without_end) ≡ with_channels_of without_end
        (with_receiver_side (seen f) y.id (seen_subscriber f y) (retired_side Discard_data))
    state =
        (λ k. record (removed-is f sound j y end.stands key c end.link departed unborrowed b at_b mine holders new
        removes (set_place y.keys i None) y.expired fits k) {
          warnings =
              warned f.warnings.items (ExpiredDataDiscarded p y.id);
        })
        ∙ ap (with_channels_of without_end)
        (λ k. record (with_receiver_side (seen f) y.id (seen_subscriber f y) (retired_side Discard_data)) {
          subscribers = put_at (seen f).subscribers y.id
              (Some (record (seen_subscriber f y)
              { ends = map-set_place (publisher_of_key f.connections) refl y.keys i None k; is_due = y.is_due }));
        })

    pub discards : ChangesReceiverTo (IsDomainBut c.home.book) f j y (retired_side Discard_data) without_end
    discards = record {
      agrees = but-of without_end c.home.book
          (parts-warned _ told (removed-parts f sound j y end.stands key c end.link departed unborrowed b at_b mine
          holders new removes (set_place y.keys i None) y.expired fits) refl)
          (dropped-lone f sound j y end.stands key c end.link departed unborrowed b at_b mine holders new removes)
          (dropped-kept f sound j y end.stands key c end.link departed unborrowed b at_b mine holders new removes)
          (dropped-gone f sound j y end.stands key c end.link departed unborrowed b at_b mine holders new removes)
          (subst IsWellFormed (sym state)
          (with_all_channels_keeps (with_receiver_side (seen f) y.id (seen_subscriber f y) (retired_side Discard_data))
          (with_receiver_side_keeps (seen f) sound.well_formed y.id (seen_subscriber f y) (retired_side Discard_data)
          (present f sound j y end.stands)
          (discarded_keeps (seen f) y.id side i p (side-well_formed f sound j y end.stands) here absent
          nothing_borrowed)) (state_of (kept_of without_end)).channels))
          (λ r n held. dropped-keeps f sound j y end.stands key c end.link departed unborrowed b at_b mine holders new
          removes r n
          (held-before (state_of (kept_of between)) (state_of (kept_of without_end)) r n
          (λ q. ap (λ (t : State T U). t.mailboxes r q) state
          ∙ sym (ap (λ boxes. boxes r q) (dropped-box (seen f).mailboxes p y.id
          (waiting_dropped ((seen f).mailboxes p y.id)))) ∙ sym (ap (λ (t : State T U). t.mailboxes r q) is))
          (λ w at_w. (
            w,
            ap (λ (t : State T U). t.publishers r) is ∙ sym (ap (λ (t : State T U). t.publishers r) state)
                ∙ at_w,
            record { history = refl; blocked = refl },
          )) held));
      keys = set_place y.keys i None;
      key_room = y.key_room;
      expired = y.expired;
      expired_room = y.expired_room;
      fields = refl;
      others = refl;
      state = state;
      channels =
          dropped-follows f sound j y end.stands key c end.link departed unborrowed b at_b mine holders new removes;
      entries =
          dropped-entries f sound j y end.stands key c end.link departed unborrowed b at_b mine holders new removes;
      places = dropped-places f sound j y end.stands key c end.link departed unborrowed b at_b mine holders new removes;
    } where
      between : Fields T U
      between = dropped_fields f sound j y end.stands key c end.link departed unborrowed b at_b mine holders new removes

      is : state_of (kept_of between) ≡ record (seen f)
          { mailboxes = with_box (seen f).mailboxes p y.id (waiting_dropped ((seen f).mailboxes p y.id)) }
      is = dropped-is f sound j y end.stands key c end.link departed unborrowed b at_b mine holders new removes
