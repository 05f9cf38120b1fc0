-- The ports of a domain after a publisher left its connections: which keys they still have.
use Rattle.std.proofs.Common.{◌≡◌, ◌≢◌, ℕ, Bool, true, false, not, ◌&&◌, eqb, List, [], ◌∷◌, map, get_or, length, refl}
use Rattle.std.proofs.Common.{ap, sym, ◌∙◌, inl, inr, ◌⊎◌, arith}
use Rattle.std.proofs.lemmas.Bool.{cases_eq, cases_lt, eqb-true}
use Rattle.std.proofs.lemmas.List.{get_or-set_same, get_or-set_other, get_or_past, length-set}
use Rattle.std.specs.Prelude.{slice_set}
use Rattle.std.specs.declared.option.Option.{Option}
use Rattle.std.specs.declared.option.Option.TheVariants.{None, Some}
use Rattle.std.specs.Option.{option_map, option_map_or, option_and_then}
use Rattle.slab.specs.Slab.{Slab, get}
use Rattle.iox2_connections.specs.Link.{Link}
use Rattle.iox2_machine.specs.machine.Mailbox.{has_borrows}
use Rattle.iox2_machine.specs.machine.Numbers.{contains, is_nil}
use Rattle.iox2_machine.specs.machine.Places.{occupant, is_port}
use Rattle.iox2_machine.specs.machine.Records.{Subscriber}
use Rattle.iox2_machine.specs.machine.WellFormed.{LeadsTo}
use Rattle.iox2_connections.specs.Finds.{IsReceivers}
use Rattle.iox2_connections.specs.Mailboxes.{mailbox_of, publisher_of_key, receiver_ends}
use Rattle.iox2_connections.proofs.MailboxChanges.{both-true, is_between-own, mailbox-there}
use Rattle.iox2_laws.proofs.PlaceLemmas.{contains-occupants, is_port-true}
use Rattle.iox2_connections.specs.Leaves.{left_link, holds_slots}
use Rattle.iox2_domain.specs.Ports.{PublisherFields, SubscriberFields}
use Rattle.iox2_domain.specs.Kept.{state_of}
use Rattle.iox2_domain.specs.Fields.{Fields, kept_of, publisher_of, subscriber_of, number_in_slot}
use Rattle.iox2_domain.specs.Invariant.{details_of, IsDomain}
use Rattle.iox2_domain.proofs.lemmas.containers.LookUps.{map-at}
use Rattle.iox2_domain.proofs.lemmas.fields.Standing.{occupant-receiver_ends, some_is}
use Rattle.iox2_domain.proofs.lemmas.fields.Views.{mailboxes-are}
use Rattle.iox2_domain.specs.Closes.{joins, is_awaited, LeavesConnections, keys_left}
use Rattle.iox2_steps.proofs.closes.LeftConnections.{left-others}
use Rattle.iox2_domain.proofs.lemmas.fields.ConnectionEnds.{publisher-stands, subscriber-stands}
use Rattle.iox2_steps.proofs.closes.ClosingPorts.{subscriber-there}

-- ---- lists

-- nothing stands where a record was taken out
pub set-none : {A : Type 0} (xs : List (Option A)) (i : ℕ) → get_or (slice_set xs i None) i None ≡ None
set-none xs i = elim (cases_lt i (length xs)) [
  | inl lt ↦ get_or-set_same xs i None None lt
  | inr le ↦ get_or_past (slice_set xs i None) i None (omega (arith, le, length-set xs i None))
]

module _ (connections : Slab Link) (i : ℕ) (keys : List (Option ℕ)) where
  -- a key that is kept was there
  pub keys_left-was : (place key : ℕ) → get_or (keys_left connections i keys) place None ≡ Some key
      → get_or keys place None ≡ Some key
  keys_left-was place key at = by (option_and_then (get connections) (get_or keys i None)) at where
    by : (o : Option Link) → get_or (elim o [ None ↦ slice_set keys i None | Some c ↦ keys ]) place None ≡ Some key
        → get_or keys place None ≡ Some key
    by None at = elim (cases_eq place i) [
      | inl same ↦ absurd (let no : None ≡ Some key = sym (set-none keys i)
          ∙ ap (λ (k : ℕ). get_or (slice_set keys i None) k None) (sym same) ∙ at in cc)
      | inr away ↦ sym (get_or-set_other keys i place None None away) ∙ at
    ]
    by (Some c) at = at

  -- at the publisher's place it leads to a connection
  pub keys_left-here : (key : ℕ) → get_or (keys_left connections i keys) i None ≡ Some key
      → (d : Link) × (get connections key ≡ Some d)
  keys_left-here key at = by (option_and_then (get connections) (get_or keys i None)) refl at where
    by : (o : Option Link) → option_and_then (get connections) (get_or keys i None) ≡ o
        → get_or (elim o [ None ↦ slice_set keys i None | Some c ↦ keys ]) i None ≡ Some key
        → (d : Link) × (get connections key ≡ Some d)
    by None e at = absurd (let no : None ≡ Some key = sym (set-none keys i) ∙ at in cc)
    by (Some c) e at = (c, ap (option_and_then (get connections)) (sym at) ∙ e)

  -- a key that leads to a connection is kept
  pub keys_left-still : (place key : ℕ) (d : Link) → get_or keys place None ≡ Some key → get connections key ≡ Some d
      → get_or (keys_left connections i keys) place None ≡ Some key
  keys_left-still place key d at at_d = by (option_and_then (get connections) (get_or keys i None)) refl where
    by : (o : Option Link) → option_and_then (get connections) (get_or keys i None) ≡ o
        → get_or (elim o [ None ↦ slice_set keys i None | Some c ↦ keys ]) place None ≡ Some key
    by None e = elim (cases_eq place i) [
      | inl same ↦ absurd (let no : None ≡ Some d = sym e
          ∙ ap (option_and_then (get connections)) (ap (λ (k : ℕ). get_or keys k None) (sym same) ∙ at) ∙ at_d in cc)
      | inr away ↦ get_or-set_other keys i place None None away ∙ at
    ]
    by (Some c) e = at

-- ---- the ports of a connection of the publisher that leaves

module _ {T U : Type 0} (f : Fields T U) (sound : IsDomain f) (i : ℕ) (x : PublisherFields)
    (here : get_or f.publishers i None ≡ Some x) where
  -- an expired key doesn't lead to a publisher that is there
  pub expired-gone : (j idx key : ℕ) (y : SubscriberFields) (c : Link) → get_or f.subscribers j None ≡ Some y
      → get_or (map Some y.expired) idx None ≡ Some key → get f.connections key ≡ Some c
      → c.home.publisher ≢ x.id
  expired-gone j idx key y c at_y at_key at_c mine =
      let leads : LeadsTo (receiver_ends f.connections (map Some y.expired)) x.id = (
        idx,
        occupant-receiver_ends f.connections (map Some y.expired) idx ∙ ap (publisher_of_key f.connections) at_key
            ∙ ap (option_map (λ (d : Link). d.home.publisher)) at_c ∙ ap Some mine,
      ) in
      let gone : (state_of (kept_of f)).publishers x.id ≡ None =
      (sound.well_formed.subscribers y.id _ (subscriber-stands f sound.parts j y at_y)).expired_gone x.id
      (contains-occupants _ x.id leads) in
      let no : None ≡ Some ((publisher_of f.books f.connections x).port) =
      sym gone ∙ publisher-stands f sound.parts i x here in
      absurd cc

  -- the subscriber of a connection has it at the publisher's place
  abbrev pub IsJoined : (key : ℕ) → Link → Type 0
  IsJoined key c =
      (y : SubscriberFields) × (get_or f.subscribers c.home.subscriber_place None ≡ Some y) × (y.id ≡ c.home.subscriber)
      × (get_or y.keys c.home.publisher_place None ≡ Some key)

  awaited-joined : (key : ℕ) (c : Link) → is_awaited f.subscribers key c ≡ true → IsJoined key c
  awaited-joined key c e = by (get_or f.subscribers c.home.subscriber_place None) refl e where
    by : (o : Option SubscriberFields) → get_or f.subscribers c.home.subscriber_place None ≡ o
        → option_map_or (joins key c) o false ≡ true → IsJoined key c
    by None is h = absurd cc
    by (Some y) is h =
        let parts = both-true (eqb y.id c.home.subscriber)
        (y.is_open && is_port (get_or y.keys c.home.publisher_place None) key) h in
        let more = both-true y.is_open (is_port (get_or y.keys c.home.publisher_place None) key) parts.1 in (
          y,
          is,
          eqb-true y.id c.home.subscriber parts.0,
          is_port-true (get_or y.keys c.home.publisher_place None) key more.1,
        )

  borrowed-joined : (key : ℕ) (c : Link) → get f.connections key ≡ Some c → c.home.publisher ≡ x.id
      → is_nil c.borrowed ≡ false → IsJoined key c
  borrowed-joined key c at mine some =
      let s = state_of (kept_of f) in
      let box : s.mailboxes x.id c.home.subscriber ≡ mailbox_of (number_in_slot f.books x.id) c =
      mailboxes-are f x.id c.home.subscriber ∙ mailbox-there
      (number_in_slot f.books) f.connections key x.id c.home.subscriber c sound.parts.apart at mine refl in
      let borrows : has_borrows (s.mailboxes x.id c.home.subscriber) ≡ true =
      ap has_borrows box ∙ has c.borrowed some in
      let known = (sound.well_formed.mailboxes x.id c.home.subscriber).receiver_end borrows in
      let there = subscriber-there f sound c.home.subscriber known.0 known.1 in
      at_place known.0 known.1 there.0 there.1 there.2 there.3 there.4 known.2
    where
      has : (slots : List ℕ) → is_nil slots ≡ false → not (is_nil (map (number_in_slot f.books x.id) slots)) ≡ true
      has [] e = absurd cc
      has (slot ∷ slots) e = refl

      at_end : (j : ℕ) (y : SubscriberFields) → get_or f.subscribers j None ≡ Some y → y.id ≡ c.home.subscriber
          → (place : ℕ)
          → (o : Option ℕ) → get_or y.keys place None ≡ o → publisher_of_key f.connections o ≡ Some x.id
          → get_or y.keys c.home.publisher_place None ≡ Some key
      at_end j y at_y its place None e leads = absurd cc
      at_end j y at_y its place (Some k) e leads =
          let own = some_is (IsReceivers y.id (f.config).subscriber_max_borrowed_samples) (get f.connections k)
          ((sound.parts.linked.receivers j y at_y).at place k e) in
          let to : Some (own.0).home.publisher ≡ Some x.id =
          sym (ap (option_map (λ (d : Link). d.home.publisher)) own.1) ∙ leads in
          let same : k ≡ key = (sound.parts.apart.one x.id c.home.subscriber).one k key own.0 c own.1 at
          (is_between-own x.id c.home.subscriber own.0 (let is : (own.0).home.publisher ≡ x.id = cc in is)
          (own.2.subscriber ∙ its)) (is_between-own x.id c.home.subscriber c mine refl) in
          let placed : c.home.publisher_place ≡ place =
          sound.parts.linked.receiver_places j place key y c at_y (e ∙ ap Some same) at in
          ap (λ (n : ℕ). get_or y.keys n None) placed ∙ e ∙ ap Some same

      at_place : (z : Subscriber) → (state_of (kept_of f)).subscribers c.home.subscriber ≡ Some z
          → (j : ℕ) (y : SubscriberFields) → get_or f.subscribers j None ≡ Some y → y.id ≡ c.home.subscriber
          → z ≡ (subscriber_of f.books f.connections y).port → (contains z.expired x.id ≡ true) ⊎ LeadsTo z.ends x.id
          → IsJoined key c
      at_place z found j y at_y its is (inl among) =
          absurd (let gone : (state_of (kept_of f)).publishers x.id
          ≡ None = (sound.well_formed.subscribers c.home.subscriber z found).expired_gone x.id among in
          let no : None ≡ Some ((publisher_of f.books f.connections x).port) =
          sym gone ∙ publisher-stands f sound.parts i x here in cc)
      at_place z found j y at_y its is (inr leads) =
          let place : j ≡ c.home.subscriber_place =
          (sound.parts.linked.knows.at key j c (details_of y) at
          (map-at details_of f.subscribers j ∙ ap (option_map details_of) at_y) its).0 in
          let end : publisher_of_key f.connections (get_or y.keys leads.0 None) ≡ Some x.id =
          sym (occupant-receiver_ends f.connections y.keys leads.0)
          ∙ ap (λ (w : Subscriber). occupant w.ends leads.0) (sym is) ∙ leads.1 in (
            y,
            ap (λ (n : ℕ). get_or f.subscribers n None) (sym place) ∙ at_y,
            its,
            at_end j y at_y its leads.0 (get_or y.keys leads.0 None) refl end,
          )

  -- where something waits for it or is borrowed, its subscriber has it at the publisher's place
  pub held-joined : (key : ℕ) (c : Link) → get f.connections key ≡ Some c → c.home.publisher ≡ x.id
      → holds_slots (left_link (is_awaited f.subscribers key c) c) ≡ true → IsJoined key c
  held-joined key c at mine held = by (is_awaited f.subscribers key c) refl held where
    nothing_waits : (b : Bool) → (not (true && b)) ≡ true → b ≡ false
    nothing_waits true e = absurd cc
    nothing_waits false e = refl

    by : (t : Bool) → is_awaited f.subscribers key c ≡ t → holds_slots (left_link t c) ≡ true → IsJoined key c
    by true e h = awaited-joined key c e
    by false e h = borrowed-joined key c at mine (nothing_waits (is_nil c.borrowed) h)

  -- ---- after it left

  module _ (new : Slab Link) (left : LeavesConnections x.id f.subscribers f.connections new) where
    -- at another place a subscriber has connections of other publishers
    other-place : (j place key : ℕ) (y : SubscriberFields) (c : Link) → get_or f.subscribers j None ≡ Some y
        → get_or y.keys place None ≡ Some key → get f.connections key ≡ Some c → place ≢ i
        → c.home.publisher ≢ x.id
    other-place j place key y c at_y at_key at_c away mine =
        away (sym (sound.parts.linked.receiver_places j place key y c at_y at_key at_c)
        ∙ sym (sound.parts.linked.knows_publishers key i c x at_c here (sym mine)))

    -- each key that a subscriber keeps leads to a connection
    pub key-leads : (j place key : ℕ) (y : SubscriberFields) → get_or f.subscribers j None ≡ Some y
        → get_or (keys_left new i y.keys) place None ≡ Some key → (d : Link) × (get new key ≡ Some d)
    key-leads j place key y at_y at_key = elim (cases_eq place i) [
      | inl same ↦
          keys_left-here new i y.keys key (ap (λ (k : ℕ). get_or (keys_left new i y.keys) k None) (sym same) ∙ at_key)
      | inr away ↦
          let was = keys_left-was new i y.keys place key at_key in
          let own = some_is (IsReceivers y.id (f.config).subscriber_max_borrowed_samples) (get f.connections key)
          ((sound.parts.linked.receivers j y at_y).at place key was) in (
            own.0,
            left-others x.id f.subscribers f.connections new left key own.0 own.1
                (other-place j place key y own.0 at_y was own.1 away),
          )
    ]

    -- each expired key still leads to its connection
    pub expired-still : (j idx key : ℕ) (y : SubscriberFields) (c : Link) → get_or f.subscribers j None ≡ Some y
        → get_or (map Some y.expired) idx None ≡ Some key → get f.connections key ≡ Some c
        → get new key ≡ Some c
    expired-still j idx key y c at_y at_key at_c =
        left-others x.id f.subscribers f.connections new left key c at_c (expired-gone j idx key y c at_y at_key at_c)
