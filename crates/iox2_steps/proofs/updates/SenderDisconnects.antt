-- A publisher loses its end of a connection whose subscriber is gone, and what waits there.
use Rattle.std.proofs.Common.{◌≡◌, ◌<◌, ℕ, true, false, not, List, [], ◌∷◌, map, length, get_or, slice_set, refl, ap}
use Rattle.std.proofs.Common.{sym, subst, ◌∙◌, arith}
use Rattle.std.proofs.lemmas.Option.{same_Some}
use Rattle.std.specs.declared.option.Option.{Option}
use Rattle.std.specs.declared.option.Option.TheVariants.{None, Some}
use Rattle.std.specs.Option.{option_map}
use Rattle.slab.specs.Slab.{Slab, get}
use Rattle.iox2_connections.specs.Link.{Link, borrowed_alone}
use Rattle.iox2_slots.specs.SlotBook.{Book}
use Rattle.iox2_machine.specs.machine.Mailbox.{has_borrows}
use Rattle.iox2_machine.specs.machine.Numbers.{put_at, is_nil}
use Rattle.iox2_machine.specs.machine.Places.{occupant, set_place}
use Rattle.iox2_machine.specs.machine.Records.{Publisher, Subscriber}
use Rattle.iox2_machine.specs.machine.State.{State}
use Rattle.iox2_machine.specs.machine.PublisherUpdate.{SenderSide, dropped, disconnected, sender_side, with_sender_side}
use Rattle.iox2_machine.specs.machine.WellFormed.{IsWellFormed}
use Rattle.iox2_connections.specs.Drops.{RemovesConnection}
use Rattle.iox2_connections.specs.Mailboxes.{mailbox_of}
use Rattle.iox2_connections.proofs.MailboxChanges.{mailbox-there}
use Rattle.iox2_laws.proofs.PublisherUpdates.{with_sender_side_keeps}
use Rattle.iox2_laws.proofs.Puts.{put_at-same, put_at-twice}
use Rattle.iox2_laws.proofs.SenderSides.{SenderSideIsWellFormed, sender_side_begins, unused_keeps}
use Rattle.iox2_domain.specs.Ports.{PublisherFields, SubscriberFields}
use Rattle.iox2_domain.specs.Kept.{state_of}
use Rattle.iox2_domain.specs.Fields.{Fields, kept_of, publisher_of, subscriber_of, number_in_slot}
use Rattle.iox2_domain.specs.Invariant.{IsDomain, ReceiverHas, details_of}
use Rattle.iox2_domain.specs.Reaches.{Reaches}
use Rattle.iox2_domain.specs.Drops.{with_waiting_dropped, LosesSenderEnd, StandsElsewhere}
use Rattle.iox2_domain.specs.KeptLinks.{ChannelsFollow}
use Rattle.iox2_domain.specs.Midway.{with_channels_of}
use Rattle.iox2_laws.proofs.PortChanges.{with_all_channels_keeps}
use Rattle.iox2_steps.proofs.updates.FollowedChannels.{follow-both, follow-same}
use Rattle.iox2_domain.proofs.lemmas.containers.LookUps.{map-at}
use Rattle.iox2_domain.proofs.lemmas.fields.ConnectionEnds.{publisher-stands}
use Rattle.iox2_domain.proofs.lemmas.fields.Standing.{place-within}
use Rattle.iox2_domain.proofs.lemmas.fields.Views.{mailboxes-are, unblocked}
use Rattle.iox2_steps.proofs.updates.SenderLeft.{LeavesEmpty, left-is, left-agrees, left-follows}
use Rattle.iox2_steps.proofs.updates.WaitingDropped.{dropped_fields, dropped-reaches, dropped-side, dropped-well}
use Rattle.iox2_steps.proofs.updates.WaitingDropped.{end-own, end-leads}
use Rattle.iox2_domain.proofs.lemmas.fields.NamedPorts.{named-there}

-- No subscriber stands that has this id.
pub record IsGone (subscribers : List (Option SubscriberFields)) (q : ℕ) : Type 0 where
  pub nobody : (k : ℕ) (y : SubscriberFields) → get_or subscribers k None ≡ Some y → y.id ≡ q → ⊥

module _ {T U : Type 0} (f : Fields T U) (sound : IsDomain f) where
  -- the machine has no such subscriber either
  pub gone-is : (q : ℕ) → IsGone f.subscribers q → (y : Subscriber) → (state_of (kept_of f)).subscribers q ≡ Some y → ⊥
  gone-is q gone y at = let there = named-there (subscriber_of f.books f.connections) q f.subscribers y at in
      gone.nobody there.0 there.1 there.2 there.3

  -- a subscriber that doesn't stand at its connection's place is gone
  pub gone-from : (key j : ℕ) (c : Link) → get f.connections key ≡ Some c → c.home.subscriber_place ≡ j
      → ((y : SubscriberFields) → get_or f.subscribers j None ≡ Some y → y.id ≡ c.home.subscriber → ⊥)
      → IsGone f.subscribers c.home.subscriber
  gone-from key j c at place other = record {
    nobody = λ k y at_y same.
        let details : get_or (map (option_map details_of) f.subscribers) k None ≡ Some (details_of y) =
        map-at details_of f.subscribers k ∙ ap (option_map details_of) at_y in
        let here : k ≡ j = (sound.parts.linked.knows.at key k c (details_of y) at details same).0 ∙ place in
        other y (ap (λ (n : ℕ). get_or f.subscribers n None) (sym here) ∙ at_y) same;
  }

  -- one that is gone has no connection
  pub gone-alone : (key : ℕ) (c : Link) → IsGone f.subscribers c.home.subscriber → ReceiverHas f.subscribers key c → ⊥
  gone-alone key c gone has = gone.nobody c.home.subscriber_place has.subscriber has.stands has.is_its

  -- one that is gone has borrowed nothing
  pub gone-unused : (key : ℕ) (c : Link) → get f.connections key ≡ Some c → IsGone f.subscribers c.home.subscriber
      → c.borrowed ≡ []
  gone-unused key c at gone = by c.borrowed refl where
    box : (state_of (kept_of f)).mailboxes c.home.publisher c.home.subscriber ≡ mailbox_of
        (number_in_slot f.books c.home.publisher) c
    box = mailboxes-are f c.home.publisher c.home.subscriber ∙ mailbox-there
        (number_in_slot f.books) f.connections key c.home.publisher c.home.subscriber c sound.parts.apart at refl refl

    by : (slots : List ℕ) → c.borrowed ≡ slots → c.borrowed ≡ []
    by [] e = e
    by (slot ∷ slots) e =
        let lent : has_borrows ((state_of (kept_of f)).mailboxes c.home.publisher c.home.subscriber) ≡ true =
        ap has_borrows box
        ∙ ap (λ (ns : List ℕ). has_borrows (record (mailbox_of (number_in_slot f.books c.home.publisher) c)
        { borrowed = map (number_in_slot f.books c.home.publisher) ns })) e in
        let y = (sound.well_formed.mailboxes c.home.publisher c.home.subscriber).receiver_end lent in
        absurd (gone-is c.home.subscriber gone y.0 y.1)

module _ {T U : Type 0} (f : Fields T U) (sound : IsDomain f) (i j : ℕ) (x : PublisherFields)
    (here : get_or f.publishers i None ≡ Some x) (due : x.is_due ≡ false) (free : x.blocked ≡ None)
    (low : j < length f.subscribers) (key : ℕ) (has : get_or x.keys j None ≡ Some key) (b : Book)
    (at : get f.books x.book ≡ Some b)
    (holders : List ℕ) (new : Slab Link) (r : RemovesConnection x.id b.holders f.connections key holders new)
    (alone : ReceiverHas f.subscribers key (r.drops).link → ⊥)
    (elsewhere : StandsElsewhere f.subscribers j (r.drops).link.home.subscriber) where
  abbrev s : State T U
  s = state_of (kept_of f)

  abbrev P : Publisher
  P = (publisher_of f.books f.connections x).port

  abbrev c : Link
  c = (r.drops).link

  abbrev side : SenderSide
  side = sender_side s x.id P

  present : s.publishers x.id ≡ Some P
  present = publisher-stands f sound.parts i x here

  leads : occupant P.ends j ≡ Some c.home.subscriber
  leads = end-leads f sound i j x here due key has c r.drops.stood

  -- ---- what waited there is lost

  abbrev mid : Fields T U
  mid = dropped_fields f sound i x here b at key holders r.mid r.drops

  mid-reached : Reaches f mid (with_waiting_dropped f x c)
  mid-reached = dropped-reaches f sound i x here b at key holders r.mid r.drops
      (dropped-well f sound i j x here due key has c r.drops.stood free)

  mid-agrees : IsDomain mid
  mid-agrees = mid-reached.agrees

  abbrev settled : Publisher
  settled = record (publisher_of f.books f.connections x).port { is_due = false }

  mid-is : state_of (kept_of mid) ≡ with_sender_side s x.id P (dropped side c.home.subscriber)
  mid-is = mid-reached.state ∙ dropped-side f sound i j x here due key has c r.drops.stood

  port-is : (publisher_of mid.books mid.connections x).port ≡ settled
  port-is = same_Some _ _ (sym (publisher-stands mid mid-agrees.parts i x here)
      ∙ ap (λ (t : State T U). t.publishers x.id) mid-is ∙ put_at-same s.publishers x.id (Some settled))

  -- ---- the connection goes

  leaves : LeavesEmpty mid i j x key (borrowed_alone (r.drops).link)
  leaves = record {
    here = here;
    has = has;
    there = r.drops.updates.changed;
    empty = let none : length c.borrowed ≡ 0 = ap (length {A = ℕ}) r.unused in omega (arith, none);
    nobody = λ h. alone (record { subscriber = h.subscriber; stands = h.stands; is_its = h.is_its; has = h.has });
  }

  -- the fields without the connection
  abbrev pub disconnected_fields : Fields T U
  disconnected_fields = record f {
    publishers = slice_set f.publishers i (Some (record x { keys = set_place x.keys j None }));
    connections = new;
    books = mid.books;
  }

  -- the subscriber is gone
  absent : s.subscribers c.home.subscriber ≡ None
  absent = by (s.subscribers c.home.subscriber) refl where
    by : (o : Option Subscriber) → s.subscribers c.home.subscriber ≡ o → s.subscribers c.home.subscriber ≡ None
    by None e = e
    by (Some y) e =
        absurd (gone-is f sound c.home.subscriber
        (gone-from f sound key j c r.drops.stood
        (end-own f sound i j x here due key has c r.drops.stood).place elsewhere) y e)

  follows : ChannelsFollow (λ home. home.publisher ≡ x.id) (λ p q. s.subscribers q ≡ None) f.connections new
  follows = follow-both (λ home. home.publisher ≡ x.id) (λ p q. s.subscribers q ≡ None) f.connections r.mid new
      (follow-same (λ home. home.publisher ≡ x.id)
      (λ p q. s.subscribers q ≡ None) f.connections r.mid r.drops.recounts.homes)
      (subst (λ (subscribers : ℕ → Option Subscriber). ChannelsFollow (λ home. home.publisher ≡ x.id)
      (λ p q. subscribers q ≡ None) r.mid new) (ap (λ (t : State T U). t.subscribers) mid-is)
      (left-follows mid mid-agrees i j x free key (borrowed_alone (r.drops).link) leaves new r.gone
      (ap (λ (t : State T U). t.subscribers c.home.subscriber) mid-is ∙ absent)))

  after-is : state_of (kept_of disconnected_fields) ≡ with_channels_of disconnected_fields
      (with_sender_side s x.id P (disconnected side j (occupant P.ends j)))
  after-is =
      left-is mid mid-agrees i j x free key (borrowed_alone (r.drops).link) leaves new r.gone
      ∙ ap (with_channels_of disconnected_fields)
      ((λ t. record (mid-is t) {
        publishers = put_at (mid-is t).publishers x.id
            (Some (record (port-is t) { ends = set_place (port-is t).ends j None }));
      })
      ∙ ap (λ (publishers : ℕ → Option Publisher).
      record (with_sender_side s x.id P (dropped side c.home.subscriber)) { publishers = publishers })
      (put_at-twice s.publishers x.id (Some settled) (Some (record settled { ends = set_place P.ends j None })))
      ∙ ap (λ (end : Option ℕ). with_sender_side s x.id P (disconnected side j end)) (sym leads))

  -- nothing is borrowed through the end
  unused : has_borrows (s.mailboxes x.id c.home.subscriber) ≡ true → ⊥
  unused lent =
      let own = end-own f sound i j x here due key has c r.drops.stood in
      let box : s.mailboxes x.id c.home.subscriber ≡ mailbox_of (number_in_slot f.books x.id) c =
      mailboxes-are f x.id c.home.subscriber ∙ mailbox-there (number_in_slot f.books) f.connections key x.id
      c.home.subscriber c sound.parts.apart r.drops.stood own.publisher refl in
      let none : false ≡ true = sym (ap (λ (ns : List ℕ). not (is_nil (map (number_in_slot f.books x.id) ns))) r.unused)
      ∙ sym (ap has_borrows box) ∙ lent in
      absurd cc

  keeps : SenderSideIsWellFormed s x.id P (disconnected side j (Some c.home.subscriber)).ends
      (disconnected side j (Some c.home.subscriber)).mailboxes
  keeps = unused_keeps s sound.well_formed x.id P present side j c.home.subscriber (place-within f j low) leads unused
      (sender_side_begins s sound.well_formed x.id P present)

  well : IsWellFormed (with_sender_side s x.id P (disconnected side j (occupant P.ends j)))
  well = subst (λ (end : Option ℕ). IsWellFormed (with_sender_side s x.id P (disconnected side j end))) (sym leads)
      (with_sender_side_keeps s sound.well_formed x.id P present (unblocked f.books f.connections x free)
      (disconnected side j (Some c.home.subscriber)) keeps)

  -- the machine's step is done
  pub loses-end : LosesSenderEnd f i j x disconnected_fields
  loses-end = record {
    agrees = left-agrees mid mid-agrees i j x free key (borrowed_alone (r.drops).link) leaves new r.gone
        (subst IsWellFormed (sym after-is)
        (with_all_channels_keeps (with_sender_side s x.id P (disconnected side j (occupant P.ends j))) well
        (state_of (kept_of disconnected_fields)).channels));
    fields = refl;
    channels = follows;
    state = after-is;
    entries = λ n entry e. mid-reached.entries n entry e;
    places = mid-reached.places;
  }
