-- What a publisher's update comes to at one subscriber's place.
use Rattle.std.proofs.lemmas.Bool.{eq-eqb, and_from}
use Rattle.iox2_domain.proofs.lemmas.containers.LookUps.{map-at}
use Rattle.iox2_domain.proofs.lemmas.fields.Views.{mailboxes-are, nothing-blocked}
use Rattle.std.proofs.Common.{◌≡◌, ◌<◌, ℕ, le_refl, true, false, Bool, cond, List, [], ◌∷◌, length, map, arith, get_or}
use Rattle.std.proofs.Common.{slice_set, refl, ap, sym, subst, ◌∙◌, inl, inr}
use Rattle.std.proofs.lemmas.List.{set-get_or, length-replicate}
use Rattle.std.proofs.lemmas.Option.{none-some}
use Rattle.std.specs.declared.option.Option.{Option}
use Rattle.std.specs.declared.option.Option.TheVariants.{None, Some}
use Rattle.std.specs.Option.{option_map, option_map_or}
use Rattle.slab.specs.Slab.{Slab, get}
use Rattle.iox2_machine.specs.machine.Connections.{DegradationAnswers, failure_of, warnings_after}
use Rattle.iox2_machine.specs.machine.Channel.{new_channel}
use Rattle.iox2_machine.specs.machine.Limits.{channel_count, warning_limit}
use Rattle.iox2_connections.specs.Link.{Link, empty_link, load}
use Rattle.iox2_machine.specs.machine.Mailbox.{Mailbox, ChannelNumber, other_numbers}
use Rattle.iox2_machine.specs.machine.Places.{occupant, set_place, is_port}
use Rattle.iox2_machine.specs.machine.Records.{Publisher, Subscriber, Environment}
use Rattle.iox2_machine.specs.machine.State.{has_receiver_end}
use Rattle.iox2_machine.specs.declared.degradation.DegradationAction.{DegradationAction}
use Rattle.iox2_connections.specs.LookUp.{look_up}
use Rattle.iox2_connections.specs.Homes.{IsSenderLinked}
use Rattle.iox2_connections.proofs.LookUps.{look_up-found}
use Rattle.iox2_connections.specs.Mailboxes.{mailbox_of, mailbox_if_any, is_between, sender_ends, subscriber_of_key}
use Rattle.iox2_connections.specs.Mailboxes.{publisher_of_key, numbered}
use Rattle.iox2_domain.specs.WarningRing.{warning_ring}
use Rattle.iox2_domain.specs.Ports.{PublisherFields, SubscriberFields}
use Rattle.iox2_domain.specs.Fields.{Fields, subscriber_of, number_in_slot}
use Rattle.iox2_domain.specs.Invariant.{IsDomain, SenderHas, details_of, connection_count}
use Rattle.iox2_domain.specs.Updates.{MakesConnection, home_of, key_from}
use Rattle.iox2_domain.specs.Connects.{ConnectsSender, MakesSenderEnd}
use Rattle.iox2_domain.proofs.lemmas.fields.ExpiredRoom.{room-made, room-here}
use Rattle.iox2_domain.proofs.lemmas.fields.ConnectionEnds.{publisher-stands, subscriber-stands, occupant-sender_ends}
use Rattle.iox2_domain.proofs.lemmas.containers.Extensions.{Extends, sender_linked, sender_ends-same}
use Rattle.iox2_domain.proofs.lemmas.containers.ConnectionKeys.{map-set_place, set_place-here, set_place-keeps}
use Rattle.iox2_domain.proofs.lemmas.containers.ConnectionKeys.{set_place-stood}
use Rattle.iox2_domain.proofs.lemmas.containers.MadeConnections.{made-extends, made-news}
use Rattle.iox2_steps.proofs.updates.SenderChanges.{fits-same}
use Rattle.iox2_steps.proofs.updates.SenderSteps.{connected_sender, steps-connect, keeps-end, makes-end, no_end}
use Rattle.iox2_steps.proofs.updates.SenderSteps.{no-numbers, makes-empty}
use Rattle.iox2_domain.proofs.lemmas.fields.Standing.{key-from, no-connection, occupant-receiver_ends, one-publisher}
use Rattle.iox2_domain.proofs.lemmas.fields.Standing.{publisher-place, receiver-joins}
use Rattle.iox2_domain.proofs.lemmas.fields.NamedPorts.{seen, seen_publisher}

module _ {T U : Type 0} (environment : Environment) (f : Fields T U) (sound : IsDomain f) (i j : ℕ)
    (x : PublisherFields) (y : SubscriberFields)
    (at_x : get_or f.publishers i None ≡ Some x) (at_y : get_or f.subscribers j None ≡ Some y) (due : x.is_due ≡ false)
    (free : x.blocked ≡ None) (opened : y.is_open ≡ true) where
  abbrev with_capacity : (n : ℕ) → Slab Link
  with_capacity n = record f.connections { capacity = n }

  -- ---- nothing is connected

  pub same_publishers : slice_set f.publishers i (Some x) ≡ f.publishers
  same_publishers = ap (slice_set f.publishers i) (sym at_x) ∙ set-get_or f.publishers i None

  -- an end that is there stays
  pub keeps-connection : (key : ℕ) (c : Link) → get_or x.keys j None ≡ Some key → get f.connections key ≡ Some c
      → c.home.subscriber ≡ y.id → ConnectsSender environment f i j x f None
  keeps-connection key c has at to =
      let there : occupant (seen_publisher f x).ends j ≡ Some y.id =
      occupant-sender_ends f.connections x.keys j ∙ ap (subscriber_of_key f.connections) has
      ∙ ap (option_map (λ (c : Link). c.home.subscriber)) at ∙ ap Some to in
      subst (λ (h : Fields T U). ConnectsSender environment f i j x h None)
      (λ k. record f { publishers = same_publishers k })
      (steps-connect environment f sound i j x y at_x at_y due free opened x.keys f.connections f.warnings None
      (fits-same f sound i x at_x f.connections.capacity) sound.parts.warning_room
      (keeps-end environment f sound i j x y at_x at_y due free opened there))

  -- ---- the subscriber has its end

  module _ (none : get_or x.keys j None ≡ None) where
    abbrev keys_with : (key : ℕ) → List (Option ℕ)
    keys_with key = set_place x.keys j (Some key)

    -- where the new key leads to the subscriber, the new ends are the machine's
    leads : (connections : Slab Link) (key : ℕ) (c : Link) → sender_ends connections x.keys ≡ (seen_publisher f x).ends
        → get connections key ≡ Some c → c.home.subscriber ≡ y.id
        → sender_ends connections (keys_with key) ≡ set_place (seen_publisher f x).ends j (Some y.id)
    leads connections key c same at to =
        map-set_place (subscriber_of_key connections) refl x.keys j (Some key)
        ∙ (λ k. set_place (same k) j ((ap (option_map (λ (d : Link). d.home.subscriber)) at ∙ ap Some to) k))

    -- a key that leads to the subscriber may be set
    linked-with : (connections : Slab Link) (key : ℕ) (c : Link) → IsSenderLinked x.id connections x.keys
        → get connections key ≡ Some c
        → c.home.publisher ≡ x.id → c.home.subscriber_place ≡ j → IsSenderLinked x.id connections (keys_with key)
    linked-with connections key c old at own place = record {
      at = λ k other there. elim (set_place-stood x.keys j key k other there) [
        | inl here ↦ rw (here.1, at) (record { publisher = own; place = place ∙ sym here.0 })
        | inr before ↦ old.at k other before
      ];
    }

    details-at : (z : SubscriberFields) → get_or f.subscribers j None ≡ Some z
        → get_or (map (option_map details_of) f.subscribers) j None ≡ Some (details_of z)
    details-at z at_z = map-at details_of f.subscribers j ∙ ap (option_map details_of) at_z

    nil-map : (number : ℕ → ℕ) (xs : List ℕ) → map number xs ≡ [] → length xs ≡ 0
    nil-map number [] e = refl
    nil-map number (n ∷ ns) e = absurd cc

    nil-numbered : (number : ℕ → ℕ) (ms : List ChannelNumber)
        → map (λ (m : ChannelNumber). m.number) (numbered number ms) ≡ [] → length ms ≡ 0
    nil-numbered number [] e = refl
    nil-numbered number (m ∷ ms) e = absurd cc

    -- no slot stands in a connection of which the publisher doesn't know
    nobody-in : (key : ℕ) (c : Link) → get f.connections key ≡ Some c → c.home.publisher ≡ x.id
        → c.home.subscriber ≡ y.id → c.home.subscriber_place ≡ j → load c ≡ 0
    nobody-in key c at its to place =
        let box : (seen f).mailboxes x.id y.id ≡ mailbox_of (number_in_slot f.books x.id) c =
        mailboxes-are f x.id y.id ∙ ap (mailbox_if_any (number_in_slot f.books x.id))
        (look_up-found (is_between x.id y.id) f.connections.slots key c (sound.parts.apart.one x.id y.id) at
        (and_from _ _ (eq-eqb c.home.publisher x.id its) (eq-eqb c.home.subscriber y.id to))) in
        let none_in = no-numbers environment f sound i j x y at_x at_y due free opened none in
        let waits : length c.waiting ≡ 0 =
        nil-map (number_in_slot f.books x.id) c.waiting (ap (λ (m : Mailbox). m.waiting) (sym box) ∙ none_in.1) in
        let lent : length c.borrowed ≡ 0 =
        nil-map (number_in_slot f.books x.id) c.borrowed (ap (λ (m : Mailbox). m.borrowed) (sym box) ∙ none_in.2) in
        let elsewhere : length c.others ≡ 0 =
        nil-numbered (number_in_slot f.books x.id) c.others (ap other_numbers (sym box) ∙ none_in.0) in
        let back : length c.returned ≡ 0 = elim (sound.parts.linked.returned key c at) [
          | inl has ↦ absurd (unknown has)
          | inr none ↦ ap (length {A = ℕ}) none
        ] in
        omega (arith, waits, lent, elsewhere, back)
      where
        unknown : SenderHas f.publishers key c → ⊥
        unknown has =
            let here : c.home.publisher_place ≡ i =
            one-publisher f sound.parts c.home.publisher_place i has.publisher x has.stands at_x (has.is_its ∙ its) in
            let same : Some has.publisher ≡ Some x =
            sym has.stands ∙ ap (λ (n : ℕ). get_or f.publishers n None) here ∙ at_x in
            let is : has.publisher ≡ x = cc in
            absurd (let no : None ≡ Some key = sym none ∙ ap (λ (n : ℕ). get_or x.keys n None) (sym place)
            ∙ ap (λ (z : PublisherFields). get_or z.keys c.home.subscriber_place None) (sym is) ∙ has.has in cc)

    -- the publisher joins the subscriber's connection
    pub joins-connection : (key : ℕ) (c : Link) → get_or y.keys i None ≡ Some key → get f.connections key ≡ Some c
        → c.home.publisher ≡ x.id
        → MakesSenderEnd environment f i j x key
        (connected_sender f i x (set_place x.keys j (Some key)) f.connections f.warnings)
    joins-connection key joined has at from =
        let own = receiver-joins f sound.parts i j x y at_x at_y key joined has at from in
        makes-empty environment f sound i j x y at_x at_y due free opened none (keys_with key) f.connections (record {
          extends = (fits-same f sound i x at_x f.connections.capacity).extends;
          grows = le_refl x.key_room;
          rooms = sound.parts.expired_room;
          linked = linked-with f.connections key joined
              (sound.parts.linked.senders i x at_x) own.stands own.publisher own.subscriber_place;
          keeps = set_place-keeps x.keys j key none;
          news = λ k c there. inl there;
          blocked = nothing-blocked _ _ x.blocked free;
        }) (leads f.connections key joined refl own.stands own.subscriber) key joined own.stands own.publisher
        own.subscriber
        (sound.parts.linked.knows.at key j joined (details_of y) own.stands (details-at y at_y) (sym own.subscriber)).1
        (nobody-in key joined own.stands own.publisher own.subscriber own.subscriber_place)

    -- ---- nobody has an end

    module _ (none_y : key_from f.connections x.id (get_or y.keys i None) ≡ None) where
      abbrev most : ℕ
      most = (f.config).subscriber_max_borrowed_samples

      abbrev channels : ℕ
      channels = channel_count f.config

      abbrev link : Link
      link = empty_link (home_of i j x y) y.buffer most channels

      nobody : look_up (is_between x.id y.id) f.connections.slots ≡ None
      nobody = no-connection f sound.parts i j x y at_x at_y sound.well_formed
          (λ key c has at its. none-some key (sym none ∙ has))
          (λ key c has at its. none-some key
          (sym none_y ∙ ap (key_from f.connections x.id) has ∙ key-from f.connections x.id key c at its))

      extends : (key : ℕ) (new : Slab Link)
          → MakesConnection f.connections (home_of i j x y) y.buffer most channels key new → Extends f.connections new
      extends key new made =
          made-extends f.connections new (home_of i j x y) y.buffer most channels key sound.parts.apart nobody made

      -- a connection is made
      pub makes-connection : j < x.key_room → i < y.key_room → connection_count f.connections y.id < y.expired_room
          → (key : ℕ) (new : Slab Link) → MakesConnection f.connections (home_of i j x y) y.buffer
          (f.config).subscriber_max_borrowed_samples (channel_count f.config) key new
          → MakesSenderEnd environment f i j x key
          (connected_sender f i x (set_place x.keys j (Some key)) new f.warnings)
      makes-connection room room_y room_expired key new made =
          makes-empty environment f sound i j x y at_x at_y due free opened none (keys_with key) new (record {
            extends = extends key new made;
            grows = le_refl x.key_room;
            rooms = room-made f.subscribers f.connections new key link made.was_free made.made
                (room-here f sound j y at_y room_expired) sound.parts.expired_room;
            linked = linked-with new key link (sender_linked f.connections new (extends key new made) x.id x.keys
                (sound.parts.linked.senders i x at_x)) made.made.changed refl refl;
            keeps = set_place-keeps x.keys j key none;
            news = λ k c at. elim (made-news f.connections new
                (home_of i j x y) y.buffer most channels key sound.parts.apart nobody made k c at) [
                  | inl old ↦ inl old
                  | inr is ↦ inr (rw (is.0, is.1) (record {
                    publisher = refl;
                    publisher_place = refl;
                    book = refl;
                    has = set_place-here x.keys j (Some key);
                    room = room;
                    limit = refl;
                    channels = length-replicate channels new_channel;
                    unmarked = refl;
                    subscriber = y;
                    stands = at_y;
                    is_its = refl;
                    subscriber_room = room_y;
                    buffer = refl;
                  }))
                ];
            blocked = nothing-blocked _ _ x.blocked free;
          }) (leads new key link (sender_ends-same f.connections new (extends key new made) x.id x.keys
          (sound.parts.linked.senders i x at_x)) made.made.changed refl)
          key link made.made.changed refl refl refl refl

      -- a key that isn't from the publisher leads to another
      other-publisher : (key : Option ℕ) → key_from f.connections x.id key ≡ None
          → is_port (publisher_of_key f.connections key) x.id ≡ false
      other-publisher None e = refl
      other-publisher (Some key) e = by (is_port (publisher_of_key f.connections (Some key)) x.id) e where
        by : (b : Bool) → cond b (Some key) None ≡ None → b ≡ false
        by true e = absurd (none-some key (sym e))
        by false e = refl

      no_receiver : has_receiver_end (seen f) x.id y.id ≡ false
      no_receiver =
          ap (λ o. option_map_or (λ (z : Subscriber).
          option_map_or (λ (w : Publisher). is_port (occupant z.ends w.place) x.id) ((seen f).publishers x.id) false) o
          false) (subscriber-stands f sound.parts j y at_y)
          ∙ ap
          (λ o. option_map_or (λ (w : Publisher).
          is_port (occupant ((subscriber_of f.books f.connections y).port).ends w.place) x.id) o false)
          (publisher-stands f sound.parts i x at_x)
          ∙ ap (λ o. is_port o x.id)
          (ap (occupant ((subscriber_of f.books f.connections y).port).ends)
          (publisher-place f sound.parts sound.well_formed i x at_x)
          ∙ occupant-receiver_ends f.connections y.keys i)
          ∙ other-publisher (get_or y.keys i None) none_y

      -- memory for it is refused, and the publisher's handler says what comes of that
      pub misses-connection : environment.may_refuse_memory → (action : DegradationAction)
          → DegradationAnswers environment x.id x.degradation_handler
          (record { service_id = (f.config).service_id; sender_port_id = x.id; receiver_port_id = y.id }) action
          → (n : ℕ) → ConnectsSender environment f i j x (record f {
            connections = record f.connections { capacity = n };
            warnings = warning_ring (warnings_after x.id y.id action f.warnings.items) warning_limit;
          }) (failure_of action)
      misses-connection may action answers n =
          subst (λ (h : Fields T U). ConnectsSender environment f i j x h (failure_of action)) (λ k. record f {
            publishers = same_publishers k;
            connections = with_capacity n;
            warnings = warning_ring (warnings_after x.id y.id action f.warnings.items) warning_limit;
          })
          (steps-connect environment f sound i j x y at_x at_y due free opened x.keys (with_capacity n)
          (warning_ring (warnings_after x.id y.id action f.warnings.items) warning_limit) (failure_of action)
          (fits-same f sound i x at_x n) refl
          (makes-end environment f sound i j x y at_x at_y due free opened
          (no_end environment f sound i j x y at_x at_y due free opened none) _ (failure_of action)
          (inr (
            no_receiver,
            warnings_after x.id y.id action f.warnings.items,
            (action, may, answers, refl, refl),
            refl,
          ))))
