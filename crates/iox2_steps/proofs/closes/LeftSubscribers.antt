-- The subscribers after a publisher left, as the machine has them.
use Rattle.std.proofs.Common.{◌≡◌, ◌≢◌, ℕ, zero, suc, Bool, true, false, cond, ◌||◌, List, [], ◌∷◌, length, map, get_or}
use Rattle.std.proofs.Common.{is_some, refl, ap, sym, subst, ◌∙◌, inl, inr, ◌⊎◌, arith}
use Rattle.std.proofs.lemmas.Bool.{cases_eq, eqb-true, eq-eqb, ne_eqb, or_right}
use Rattle.std.proofs.lemmas.List.{length-set}
use Rattle.std.specs.Prelude.{slice_set, MatchOption}
use Rattle.std.specs.List.{filter}
use Rattle.std.specs.declared.option.Option.{Option}
use Rattle.std.specs.declared.option.Option.TheVariants.{None, Some}
use Rattle.std.specs.Option.{option_map, option_and_then}
use Rattle.slab.specs.Slab.{Slab, get}
use Rattle.iox2_connections.specs.Link.{Link}
use Rattle.iox2_machine.specs.machine.Mailbox.{has_numbers}
use Rattle.iox2_machine.specs.machine.Numbers.{contains}
use Rattle.iox2_machine.specs.machine.Places.{occupant, occupants, places_kept}
use Rattle.iox2_machine.specs.machine.Ports.{publisher_gone, publisher_closed}
use Rattle.iox2_machine.specs.machine.Records.{Publisher, Subscriber}
use Rattle.iox2_machine.specs.machine.Releases.{is_connected, pruned}
use Rattle.iox2_machine.specs.machine.State.{State}
use Rattle.iox2_machine.specs.machine.WellFormed.{SubscriberIsWellFormed}
use Rattle.iox2_connections.specs.LookUp.{look_up}
use Rattle.iox2_connections.specs.Finds.{IsReceivers}
use Rattle.iox2_connections.specs.Mailboxes.{publisher_of_key, receiver_ends}
use Rattle.iox2_connections.proofs.LookUps.{look_up-there}
use Rattle.iox2_laws.proofs.NumberLemmas.{contains_first, contains_later}
use Rattle.iox2_connections.specs.Leaves.{left_link, holds_slots}
use Rattle.iox2_domain.specs.Ports.{PublisherFields, SubscriberFields}
use Rattle.iox2_domain.specs.Kept.{Named, state_of, port_named, ids, is_named}
use Rattle.iox2_domain.specs.Fields.{Fields, kept_of, publisher_of, subscriber_of, number_in_slot}
use Rattle.iox2_domain.specs.Invariant.{is_subscriber, IsDomain}
use Rattle.iox2_domain.proofs.lemmas.containers.ChangedRecords.{ends-agree}
use Rattle.iox2_domain.proofs.lemmas.containers.LookUps.{look_up-map}
use Rattle.iox2_domain.proofs.lemmas.fields.Standing.{occupant-receiver_ends, some_is}
use Rattle.iox2_domain.specs.Closes.{is_awaited, LeavesConnections, keys_left, left_subscriber}
use Rattle.iox2_steps.proofs.closes.LeftConnections.{numbers-held, left-others, left-held, left-was}
use Rattle.iox2_steps.proofs.closes.LeftKeys.{keys_left-was, keys_left-still, key-leads, expired-still}
use Rattle.iox2_steps.proofs.closes.LeftMailboxes.{leaver, mailbox-left}
use Rattle.iox2_domain.proofs.lemmas.fields.ConnectionEnds.{publisher-stands, subscriber-stands}
use mathlib.Core.Path.{fun_ext}

-- ---- lists

-- the end, if its port passes
abbrev kept_end : (ℕ → Bool) → Option ℕ → Option ℕ
kept_end test None = None
kept_end test (Some id) = cond (test id) (Some id) None

-- places are kept one by one
places_kept-by : (test : ℕ → Bool) (g h : Option ℕ → Option ℕ) (keys keys' : List (Option ℕ))
    → length keys' ≡ length keys
    → ((k : ℕ) → h (get_or keys' k None) ≡ kept_end test (g (get_or keys k None)))
    → map h keys' ≡ places_kept test (map g keys)
places_kept-by test g h [] [] long same = refl
places_kept-by test g h [] (k ∷ ks) long same = absurd (omega arith)
places_kept-by test g h (k ∷ ks) [] long same = absurd (omega arith)
places_kept-by test g h (k ∷ ks) (k' ∷ ks') long same =
    (λ i. same zero i ∷ places_kept-by test g h ks ks' (omega arith) (λ n. same (suc n)) i) ∙ by (g k)
  where
    by : (o : Option ℕ) → (kept_end test o ∷ places_kept test (map g ks)) ≡ places_kept test (o ∷ map g ks)
    by None = refl
    by (Some id) = refl

-- a filter that all pass takes nothing out
filter-all : (test : ℕ → Bool) (ns : List ℕ) → ((n : ℕ) → contains ns n ≡ true → test n ≡ true) → filter test ns ≡ ns
filter-all test [] all = refl
filter-all test (n ∷ ns) all =
    let first : test n ≡ true = all n (contains_first n ns) in
    let rest = filter-all test ns (λ k h. all k (contains_later n k ns h)) in
    rw (first, rest) refl

length-keys_left : (connections : Slab Link) (i : ℕ) (keys : List (Option ℕ))
    → length (keys_left connections i keys) ≡ length keys
length-keys_left connections i keys = by (option_and_then (get connections) (get_or keys i None)) where
  by : (o : Option Link) → length {A = Option ℕ} (elim o [ None ↦ slice_set keys i None | Some c ↦ keys ]) ≡ length keys
  by None = length-set keys i None
  by (Some c) = refl

-- ---- the machine's subscribers

module _ {T U : Type 0} (f : Fields T U) (sound : IsDomain f) (i : ℕ) (x : PublisherFields)
    (here : get_or f.publishers i None ≡ Some x)
    (new : Slab Link) (left : LeavesConnections x.id f.subscribers f.connections new) where
  abbrev before : State T U
  before = state_of (kept_of f)

  abbrev gone : State T U
  gone = publisher_gone before x.id (leaver f sound i x here)

  -- ---- who is still connected

  -- another publisher is as before
  still-connected : (q p : ℕ) → p ≢ x.id
      → is_connected gone q p ≡ (is_some (before.publishers p) || has_numbers (before.mailboxes p q))
  still-connected q p away = rw (ne_eqb p x.id away) refl

  -- the one that left is, where some slot waits or is borrowed
  leaver-connected : (key : ℕ) (c : Link) → get f.connections key ≡ Some c → c.home.publisher ≡ x.id
      → is_connected gone c.home.subscriber x.id ≡ holds_slots (left_link (is_awaited f.subscribers key c) c)
  leaver-connected key c at_c mine =
      rw (eq-eqb x.id x.id refl) (ap has_numbers (mailbox-left f sound i x here key c at_c mine)
      ∙ numbers-held (number_in_slot f.books x.id) (left_link (is_awaited f.subscribers key c) c))

  module _ (j : ℕ) (y : SubscriberFields) (at_y : get_or f.subscribers j None ≡ Some y) where
    well : SubscriberIsWellFormed before y.id ((subscriber_of f.books f.connections y).port)
    well = sound.well_formed.subscribers y.id _ (subscriber-stands f sound.parts j y at_y)

    -- what the key at a place of it leads to
    connection : (place key : ℕ) → get_or y.keys place None ≡ Some key
        → (c : Link) × (get f.connections key ≡ Some c) × IsReceivers y.id (f.config).subscriber_max_borrowed_samples c
    connection place key at_key = some_is (IsReceivers y.id (f.config).subscriber_max_borrowed_samples)
        (get f.connections key) ((sound.parts.linked.receivers j y at_y).at place key at_key)

    -- another publisher at an end stands, or has numbers left
    other-connected : (place p : ℕ) → occupant (receiver_ends f.connections y.keys) place ≡ Some p → p ≢ x.id
        → is_connected gone y.id p ≡ true
    other-connected place p at_end away =
        still-connected y.id p away ∙ by (before.publishers p) (well.ends_stand place p at_end) where
          by : (o : Option Publisher)
              → MatchOption o (has_numbers (before.mailboxes p y.id) ≡ true) (λ z. z.place ≡ place)
              → (is_some o || has_numbers (before.mailboxes p y.id)) ≡ true
          by None h = h
          by (Some z) h = refl

    end-left : (place : ℕ) → publisher_of_key new (get_or (keys_left new i y.keys) place None) ≡ kept_end
        (is_connected gone y.id) (publisher_of_key f.connections (get_or y.keys place None))
    end-left place = by (get_or y.keys place None) (get_or (keys_left new i y.keys) place None) refl refl where
      -- it is a key still
      at_link : (key : ℕ) (c d : Link) → get f.connections key ≡ Some c
          → IsReceivers y.id (f.config).subscriber_max_borrowed_samples c → get_or y.keys place None ≡ Some key
          → get new key ≡ Some d
          → publisher_of_key new (Some key) ≡ cond (is_connected gone y.id c.home.publisher)
          (Some c.home.publisher) None
      at_link key c d at_c own at_key at_d = elim (cases_eq c.home.publisher x.id) [
        | inl mine ↦
            let was = left-was x.id f.subscribers f.connections new left key d at_d in
            let one : Some was.0 ≡ Some c = sym was.1 ∙ at_c in
            let same : was.0 ≡ c = cc in
            mine-still mine
            (subst (λ (e : Link). ((e.home.publisher ≢ x.id) × (d ≡ e))
            ⊎ ((e.home.publisher ≡ x.id) × (d ≡ left_link (is_awaited f.subscribers key e) e) × (holds_slots d ≡ true)))
            same was.2)
        | inr away ↦
            let leads : occupant (receiver_ends f.connections y.keys) place ≡ Some c.home.publisher =
            occupant-receiver_ends f.connections y.keys place ∙ ap (publisher_of_key f.connections) at_key
            ∙ ap (option_map (λ (e : Link). e.home.publisher)) at_c in
            ap (option_map (λ (e : Link). e.home.publisher))
            (left-others x.id f.subscribers f.connections new left key c at_c away)
            ∙ ap (λ (t : Bool). cond t (Some c.home.publisher) None)
            (sym (other-connected place c.home.publisher leads away))
      ] where
        mine-still : c.home.publisher ≡ x.id → ((c.home.publisher ≢ x.id) × (d ≡ c))
            ⊎ ((c.home.publisher ≡ x.id) × (d ≡ left_link (is_awaited f.subscribers key c) c) × (holds_slots d ≡ true))
            → publisher_of_key new (Some key) ≡ cond (is_connected gone y.id c.home.publisher)
            (Some c.home.publisher) None
        mine-still mine (inl other) = absurd (other.0 mine)
        mine-still mine (inr its) =
            let yes : is_connected gone y.id c.home.publisher ≡ true =
            ap (λ (p : ℕ). is_connected gone y.id p) mine ∙ ap (λ (q : ℕ). is_connected gone q x.id)
            (sym own.subscriber) ∙ leaver-connected key c at_c mine ∙ sym (ap holds_slots its.1) ∙ its.2 in
            ap (option_map (λ (e : Link). e.home.publisher)) at_d ∙ ap (λ (e : Link). Some e.home.publisher) its.1
            ∙ ap (λ (t : Bool). cond t (Some c.home.publisher) None) (sym yes)

      -- it was a key, and the connection went
      at_gone : (key : ℕ) (c : Link) → get f.connections key ≡ Some c
          → IsReceivers y.id (f.config).subscriber_max_borrowed_samples c → get_or y.keys place None ≡ Some key
          → get new key ≡ None
          → None ≡ cond (is_connected gone y.id c.home.publisher) (Some c.home.publisher) None
      at_gone key c at_c own at_key none = elim (cases_eq c.home.publisher x.id) [
        | inl mine ↦ unheld mine (holds_slots (left_link (is_awaited f.subscribers key c) c)) refl
        | inr away ↦ absurd (let clash : None ≡ Some c = sym none
            ∙ left-others x.id f.subscribers f.connections new left key c at_c away in cc)
      ] where
        unheld : c.home.publisher ≡ x.id → (t : Bool) → holds_slots (left_link (is_awaited f.subscribers key c) c) ≡ t
            → None ≡ cond (is_connected gone y.id c.home.publisher) (Some c.home.publisher) None
        unheld mine true e = absurd (let clash : None ≡ Some (left_link (is_awaited f.subscribers key c) c) = sym none
            ∙ left-held x.id f.subscribers f.connections new left key c at_c mine e in cc)
        unheld mine false e =
            let fails : is_connected gone y.id c.home.publisher ≡ false =
            ap (λ (p : ℕ). is_connected gone y.id p) mine ∙ ap (λ (q : ℕ). is_connected gone q x.id)
            (sym own.subscriber) ∙ leaver-connected key c at_c mine ∙ e in
            ap (λ (t : Bool). cond t (Some c.home.publisher) None) (sym fails)

      lost : (key : ℕ) → get_or y.keys place None ≡ Some key → get_or (keys_left new i y.keys) place None ≡ None
          → (o : Option Link) → get new key ≡ o → get new key ≡ None
      lost key was now None e = e
      lost key was now (Some d) e =
          absurd (let clash : None ≡ Some key = sym now ∙ keys_left-still new i y.keys place key d was e in cc)

      by : (o n : Option ℕ) → get_or y.keys place None ≡ o → get_or (keys_left new i y.keys) place None ≡ n
          → publisher_of_key new n ≡ kept_end (is_connected gone y.id) (publisher_of_key f.connections o)
      by None None e h = refl
      by None (Some key) e h =
          absurd (let clash : None ≡ Some key = sym e ∙ keys_left-was new i y.keys place key h in cc)
      by (Some key) None e h =
          let c = connection place key e in
          at_gone key c.0 c.1 c.2 e (lost key e h (get new key) refl)
          ∙ ap (λ (o : Option Link). kept_end (is_connected gone y.id) (option_map (λ (d : Link). d.home.publisher) o))
          (sym c.1)
      by (Some key) (Some k) e h =
          let same : Some key ≡ Some k = sym e ∙ keys_left-was new i y.keys place k h in
          let one : k ≡ key = cc in
          let c = connection place key e in
          let d = key-leads f sound i x here new left j place k y at_y h in
          ap (λ (n : ℕ). publisher_of_key new (Some n)) one
          ∙ at_link key c.0 d.0 c.1 c.2 e (ap (get new) (sym one) ∙ d.1)
          ∙ ap (λ (o : Option Link). kept_end (is_connected gone y.id) (option_map (λ (b : Link). b.home.publisher) o))
          (sym c.1)

    ends-left : receiver_ends new (keys_left new i y.keys) ≡ places_kept (is_connected gone y.id)
        (receiver_ends f.connections y.keys)
    ends-left = places_kept-by (is_connected gone y.id) (publisher_of_key f.connections) (publisher_of_key new) y.keys
        (keys_left new i y.keys) (length-keys_left new i y.keys) end-left

    expired-same : receiver_ends new (map Some y.expired) ≡ receiver_ends f.connections (map Some y.expired)
    expired-same =
        ends-agree (publisher_of_key new) (publisher_of_key f.connections) refl (map Some y.expired) (λ idx key at_key.
        let own = some_is (IsReceivers y.id (f.config).subscriber_max_borrowed_samples) (get f.connections key)
        ((sound.parts.linked.expired j y at_y).at idx key at_key) in
        ap (option_map (λ (c : Link). c.home.publisher))
        (expired-still f sound i x here new left j idx key y own.0 at_y at_key own.1 ∙ sym own.1))

    abbrev expired_ids : List ℕ
    expired_ids = occupants (receiver_ends f.connections (map Some y.expired))

    expired-connected : (p : ℕ) → contains expired_ids p ≡ true → is_connected gone y.id p ≡ true
    expired-connected p among =
        still-connected y.id p (λ same.
        let absent : before.publishers x.id ≡ None = ap before.publishers (sym same) ∙ well.expired_gone p among in
        let clash : None ≡ Some ((publisher_of f.books f.connections x).port) =
        sym absent ∙ publisher-stands f sound.parts i x here in absurd cc)
        ∙ or_right (is_some (before.publishers p)) (has_numbers (before.mailboxes p y.id)) (well.expired_kept p among)

    expired-left : occupants (receiver_ends new (map Some y.expired)) ≡ filter (is_connected gone y.id) expired_ids
    expired-left = ap occupants expired-same ∙ sym (filter-all (is_connected gone y.id) expired_ids expired-connected)

    -- the subscriber is to the machine as it was, pruned and due
    pub subscriber-left : (subscriber_of f.books new (left_subscriber new i y)).port
        ≡ record (pruned gone y.id (subscriber_of f.books f.connections y).port) { is_due = true }
    subscriber-left = λ t. record (subscriber_of f.books f.connections y).port
        { ends = ends-left t; expired = expired-left t; is_due = true }

  -- ---- all of them

  abbrev port : Option (Named Subscriber) → Option Subscriber
  port o = option_map (λ (z : Named Subscriber). z.port) o

  pub subscribers-left : (λ q. port_named q
      (map (option_map (subscriber_of f.books new)) (map (option_map (left_subscriber new i)) f.subscribers)))
      ≡ (publisher_closed before x.id (leaver f sound i x here)).subscribers
  subscribers-left = fun_ext (λ q.
      ap port
      (look_up-map (is_named q) (subscriber_of f.books new) (map (option_map (left_subscriber new i)) f.subscribers)
      ∙ ap (option_map (subscriber_of f.books new))
      (look_up-map (is_subscriber q) (left_subscriber new i) f.subscribers))
      ∙ by q (look_up (is_subscriber q) f.subscribers) refl
      ∙ ap (λ (o : Option (Named Subscriber)). after q (port o))
      (sym (look_up-map (is_named q) (subscriber_of f.books f.connections) f.subscribers)))
    where
      after : ℕ → Option Subscriber → Option Subscriber
      after q o = option_map (λ (z : Subscriber). record z { is_due = true }) (option_map (pruned gone q) o)

      by : (q : ℕ) (o : Option SubscriberFields) → look_up (is_subscriber q) f.subscribers ≡ o
          → port (option_map (subscriber_of f.books new) (option_map (left_subscriber new i) o)) ≡ after q
          (port (option_map (subscriber_of f.books f.connections) o))
      by q None e = refl
      by q (Some y) e =
          let there = look_up-there (is_subscriber q) f.subscribers y e in
          ap Some (subscriber-left there.0 y there.1)
          ∙ ap (λ (n : ℕ). Some (record (pruned gone n (subscriber_of f.books f.connections y).port) { is_due = true }))
          (eqb-true y.id q there.2)

  ids-are : (connections : Slab Link) (g : SubscriberFields → SubscriberFields)
      → ((y : SubscriberFields) → (g y).id ≡ y.id) → (zs : List (Option SubscriberFields))
      → ids (map (option_map (subscriber_of f.books connections)) (map (option_map g) zs)) ≡ map
      (option_map (λ (y : SubscriberFields). y.id)) zs
  ids-are connections g same [] = refl
  ids-are connections g same (None ∷ zs) = ap (λ (ns : List (Option ℕ)). None ∷ ns) (ids-are connections g same zs)
  ids-are connections g same (Some z ∷ zs) = λ t. Some (same z t) ∷ ids-are connections g same zs t

  ids-were : (zs : List (Option SubscriberFields)) → ids
      (map (option_map (subscriber_of f.books f.connections)) zs) ≡ map (option_map (λ (y : SubscriberFields). y.id)) zs
  ids-were [] = refl
  ids-were (None ∷ zs) = ap (λ (ns : List (Option ℕ)). None ∷ ns) (ids-were zs)
  ids-were (Some z ∷ zs) = ap (λ (ns : List (Option ℕ)). Some z.id ∷ ns) (ids-were zs)

  -- each stands where it stood
  pub places-left : ids (map (option_map (subscriber_of f.books new))
      (map (option_map (left_subscriber new i)) f.subscribers)) ≡ before.subscriber_places
  places-left = ids-are new (left_subscriber new i) (λ y. refl) f.subscribers ∙ sym (ids-were f.subscribers)
