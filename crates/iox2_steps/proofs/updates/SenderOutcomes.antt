-- What a publisher's connection at a place comes to, by what its update found there.
use Rattle.std.proofs.Common.{◌≡◌, ◌<◌, ℕ, true, false, Bool, cond, eqb, List, get_or, refl, ap, sym, subst, ◌∙◌}
use Rattle.std.proofs.Common.{slice_set}
use Rattle.std.specs.declared.option.Option.{Option}
use Rattle.std.specs.declared.option.Option.TheVariants.{None, Some}
use Rattle.std.specs.Option.{option_map, option_map_or, option_and_then}
use Rattle.slab.specs.Slab.{Slab, get}
use Rattle.std.proofs.lemmas.Bool.{eqb-true}
use Rattle.std.proofs.lemmas.Option.{same_Some}
use Rattle.iox2_connections.specs.Link.{Link}
use Rattle.iox2_machine.specs.machine.Places.{is_port}
use Rattle.iox2_machine.specs.machine.Connections.{DegradationAnswers, failure_of, warnings_after}
use Rattle.iox2_machine.specs.machine.Limits.{channel_count, warning_limit}
use Rattle.iox2_machine.specs.machine.Records.{Environment, Handler}
use Rattle.iox2_connections.specs.declared.connection.Home.{Home}
use Rattle.iox2_machine.specs.declared.degradation.DegradationAction.{DegradationAction}
use Rattle.iox2_domain.specs.WarningRing.{WarningRing, warning_ring}
use Rattle.iox2_domain.specs.Ports.{PublisherFields, SubscriberFields}
use Rattle.iox2_domain.specs.Fields.{Fields}
use Rattle.iox2_domain.specs.Invariant.{IsDomain, connection_count}
use Rattle.iox2_domain.specs.Updates.{changed_at, with_sender_key, with_sender_room, with_receiver_rooms, sender_key}
use Rattle.iox2_domain.specs.Updates.{receiver_key, key_from, is_open_subscriber, home_of, refused_between}
use Rattle.iox2_domain.specs.Updates.{MakesConnection, StandApart}
use Rattle.iox2_domain.specs.Connects.{ConnectsSender, MakesSenderEnd, MakesRoom}
use Rattle.iox2_steps.proofs.updates.Grown.{grown, sender-from, end-from}
use Rattle.iox2_domain.proofs.lemmas.fields.Standing.{receiver-joins, sender-room}
use Rattle.iox2_steps.proofs.updates.SenderCases.{joins-connection, makes-connection, misses-connection}
use Rattle.iox2_steps.proofs.updates.GrownPorts.{HasGrown, has-grown}

-- a key that leads to a connection of the publisher, and that connection
pub some_from : (connections : Slab Link) (p : ℕ) (o : Option ℕ) (key : ℕ) → key_from connections p o ≡ Some key
    → (c : Link) × (o ≡ Some key) × (get connections key ≡ Some c) × (c.home.publisher ≡ p)
some_from connections p None key e = absurd cc
some_from connections p (Some k) key e = by (get connections k) refl where
  by : (o : Option Link) → get connections k ≡ o
      → (c : Link) × (Some k ≡ Some key) × (get connections key ≡ Some c) × (c.home.publisher ≡ p)
  by None at = absurd (let no : None ≡ Some key = sym
      (ap (λ o. cond (is_port (option_map (λ (d : Link). d.home.publisher) o) p) (Some k) None) at) ∙ e in cc)
  by (Some c) at = which (eqb c.home.publisher p) refl
      (sym (ap (λ o. cond (is_port (option_map (λ (d : Link). d.home.publisher) o) p) (Some k) None) at) ∙ e) where
        which : (b : Bool) → eqb c.home.publisher p ≡ b → cond b (Some k) None ≡ Some key
            → (d : Link) × (Some k ≡ Some key) × (get connections key ≡ Some d) × (d.home.publisher ≡ p)
        which true its e = (c, e, ap (get connections) (sym (same_Some k key e)) ∙ at, eqb-true c.home.publisher p its)
        which false its e = absurd cc

-- who stands where an open subscriber does is open
pub open-at : (subscribers : List (Option SubscriberFields)) (j : ℕ) (y : SubscriberFields)
    → get_or subscribers j None ≡ Some y → is_open_subscriber subscribers j ≡ true → y.is_open ≡ true
open-at subscribers j y at opened =
    sym (ap (λ o. option_map_or (λ (z : SubscriberFields). z.is_open) o false) at) ∙ opened

module _ {T U : Type 0} (f : Fields T U) (sound : IsDomain f) (i j : ℕ) (x : PublisherFields)
    (at_x : get_or f.publishers i None ≡ Some x)
    (home : Home) (size : ℕ) (apart : StandApart f.publishers f.subscribers i j home size) where
  home-is : home ≡ home_of i j x apart.subscriber
  home-is = apart.home_is ∙ ap (λ z. home_of i j z apart.subscriber)
      (let e : Some apart.publisher ≡ Some x = sym apart.publisher_stands ∙ at_x in let is : apart.publisher ≡ x = cc in
      is)

  -- the key of the subscriber's end with this publisher, as it was looked for
  from-is : key_from f.connections home.publisher (receiver_key f.subscribers j i) ≡ key_from f.connections x.id
      (get_or (apart.subscriber).keys i None)
  from-is =
      ap (λ (h : Home). key_from f.connections h.publisher (receiver_key f.subscribers j i)) home-is
      ∙ ap (key_from f.connections x.id)
      (ap (option_and_then (λ (z : SubscriberFields). get_or z.keys i None)) apart.subscriber_stands)

  -- there is room for the key of a connection that the subscriber has
  pub joins-room : (key : ℕ) → key_from f.connections home.publisher (receiver_key f.subscribers j i) ≡ Some key
      → j < x.key_room
  joins-room key at =
      let from = some_from f.connections x.id (get_or (apart.subscriber).keys i None) key (sym from-is ∙ at) in
      sender-room f sound.parts i j x apart.subscriber at_x apart.subscriber_stands key from.0
      (receiver-joins f sound.parts i j x apart.subscriber at_x apart.subscriber_stands key from.0 from.1 from.2 from.3)

module _ {T U : Type 0} (environment : Environment) (f : Fields T U) (sound : IsDomain f) (i j : ℕ)
    (x : PublisherFields) (at_x : get_or f.publishers i None ≡ Some x) (due : x.is_due ≡ false)
    (free : x.blocked ≡ None) where
  module _ (home : Home) (size : ℕ) (apart : StandApart f.publishers f.subscribers i j home size) where
    abbrev y : SubscriberFields
    y = apart.subscriber

    module _ (none : sender_key f.publishers i j ≡ None) (opened : is_open_subscriber f.subscribers j ≡ true) where
      no_key : get_or x.keys j None ≡ None
      no_key = sym (ap (option_and_then (λ (z : PublisherFields). get_or z.keys j None)) at_x) ∙ none

      opened_y : y.is_open ≡ true
      opened_y = open-at f.subscribers j y apart.subscriber_stands opened

      -- it joins the subscriber's
      pub joins-as : (key : ℕ) → key_from f.connections home.publisher (receiver_key f.subscribers j i) ≡ Some key
          → (f' : Fields T U) → f' ≡ record f { publishers = changed_at (with_sender_key j key) f.publishers i }
          → MakesSenderEnd environment f i j x key f'
      joins-as key at f' is =
          let from = some_from f.connections x.id (get_or y.keys i None) key
          (sym (from-is f sound i j x at_x home size apart) ∙ at) in
          subst (λ (h : Fields T U). MakesSenderEnd environment f i j x key h)
          (sym (is ∙ ap
          (λ o. record f { publishers = slice_set f.publishers i (option_map (with_sender_key j key) o) }) at_x))
          (joins-connection environment f sound i j x y at_x apart.subscriber_stands due free opened_y no_key key from.0
          from.1 from.2 from.3)

      -- no connection is there, and both ports get room for one
      module _ (nobody : key_from f.connections home.publisher (receiver_key f.subscribers j i) ≡ None)
          (mid : Fields T U) (rooms : MakesRoom f i j mid) where
        r : HasGrown f i j x y mid
        r = has-grown f i j x y mid sound at_x apart.subscriber_stands rooms

        abbrev g : Fields T U
        g = grown f i j x y r.keys r.receiver_keys r.expired

        no_key_y : key_from f.connections x.id (get_or y.keys i None) ≡ None
        no_key_y = sym (from-is f sound i j x at_x home size apart) ∙ nobody

        -- a new one is made
        pub makes-as : ((z : PublisherFields) → get_or mid.publishers i None ≡ Some z → j < z.key_room)
            → ((z : SubscriberFields) → get_or mid.subscribers j None ≡ Some z → i < z.key_room)
            → ((z : SubscriberFields) → get_or mid.subscribers j None ≡ Some z
            → connection_count f.connections home.subscriber < z.expired_room)
            → (key : ℕ) → MakesConnection f.connections home size (f.config).subscriber_max_borrowed_samples
            (channel_count f.config) key mid.connections
            → (f' : Fields T U) → f' ≡ record mid { publishers = changed_at (with_sender_key j key) mid.publishers i }
            → MakesSenderEnd environment f i j x key f'
        makes-as room_x room_y room_expired key made f' is =
            end-from f i j x y r.keys r.receiver_keys r.expired sound at_x apart.subscriber_stands r.more_keys
            r.more_receiver_keys r.more_expired environment key f'
            (subst (λ (h : Fields T U). MakesSenderEnd environment g i j (with_sender_room r.keys x) key h) (sym after)
            (makes-connection environment g r.sound i j (with_sender_room r.keys x)
            (with_receiver_rooms r.receiver_keys r.expired y) r.publisher r.subscriber due free opened_y no_key no_key_y
            (room_x (with_sender_room r.keys x)
            (ap (λ (h : Fields T U). get_or h.publishers i None) r.is ∙ r.publisher))
            (room_y (with_receiver_rooms r.receiver_keys r.expired y)
            (ap (λ (h : Fields T U). get_or h.subscribers j None) r.is ∙ r.subscriber))
            (subst (λ (h : Home). connection_count f.connections h.subscriber < r.expired)
            (home-is f sound i j x at_x home size apart)
            (room_expired (with_receiver_rooms r.receiver_keys r.expired y)
            (ap (λ (h : Fields T U). get_or h.subscribers j None) r.is ∙ r.subscriber)))
            key mid.connections
            (subst (λ (h : Home). MakesConnection f.connections h y.buffer (f.config).subscriber_max_borrowed_samples
            (channel_count f.config) key mid.connections) (home-is f sound i j x at_x home size apart)
            (subst (λ k. MakesConnection f.connections home k (f.config).subscriber_max_borrowed_samples
            (channel_count f.config) key mid.connections) apart.buffer_is made))))
          where
            after : f' ≡ record g {
              publishers = slice_set g.publishers i
                  (Some (with_sender_key j key (with_sender_room r.keys x)));
              connections = mid.connections;
            }
            after = is
                ∙ (λ k. record (r.is k) { publishers = changed_at (with_sender_key j key) ((r.is k).publishers) i })
                ∙ ap (λ o. record g {
                  publishers = slice_set g.publishers i (option_map (with_sender_key j key) o);
                  connections = mid.connections;
                }) r.publisher

        -- memory for a new one is refused, and the publisher's handler says what comes of that
        pub misses-as : environment.may_refuse_memory → (service : ℕ) (handler : Handler DegradationAction)
            → service ≡ (f.config).service_id → x.degradation_handler ≡ handler
            → (action : DegradationAction)
            → DegradationAnswers environment home.publisher handler (refused_between service home) action
            → (warnings : WarningRing) → mid.connections ≡ record f.connections { capacity = mid.connections.capacity }
            → warnings ≡ warning_ring
            (warnings_after home.publisher home.subscriber action f.warnings.items) warning_limit
            → (f' : Fields T U) → f' ≡ record mid { warnings = warnings }
            → ConnectsSender environment f i j x f' (failure_of action)
        misses-as may service handler serviced handled action answers warnings same warned_is f' is =
            sender-from f i j x y r.keys r.receiver_keys r.expired sound at_x apart.subscriber_stands r.more_keys
            r.more_receiver_keys r.more_expired environment f' (failure_of action)
            (subst
            (λ (h : Fields T U). ConnectsSender environment g i j (with_sender_room r.keys x) h (failure_of action))
            (sym (is ∙ (λ k. record (r.is k) { warnings = told k })
            ∙ (λ k. record g {
              connections = same k;
              warnings = warning_ring (warnings_after x.id y.id action f.warnings.items) warning_limit;
            })))
            (misses-connection environment g r.sound i j (with_sender_room r.keys x)
            (with_receiver_rooms r.receiver_keys r.expired y) r.publisher r.subscriber due free opened_y no_key no_key_y
            may action asked mid.connections.capacity))
          where
            asked : DegradationAnswers environment x.id x.degradation_handler
                (refused_between (f.config).service_id (home_of i j x y)) action
            asked = subst (λ h. DegradationAnswers environment x.id h
                (refused_between (f.config).service_id (home_of i j x y)) action) (sym handled)
                (subst (λ (h : Home). DegradationAnswers environment h.publisher handler
                (refused_between (f.config).service_id h) action) (home-is f sound i j x at_x home size apart)
                (subst (λ (k : ℕ). DegradationAnswers environment home.publisher handler
                (refused_between k home) action) serviced answers))

            told : warnings ≡ warning_ring (warnings_after x.id y.id action f.warnings.items) warning_limit
            told =
                warned_is
                ∙ ap (λ (h : Home). warning_ring (warnings_after h.publisher h.subscriber action f.warnings.items)
                warning_limit) (home-is f sound i j x at_x home size apart)
