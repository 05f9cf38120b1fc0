-- What a subscriber's new end comes to, by what was found and made.
use Rattle.std.proofs.Common.{◌≡◌, ◌≢◌, ◌<◌, ℕ, get_or, ap, sym, subst, ◌∙◌, slice_set}
use Rattle.std.specs.declared.option.Option.TheVariants.{None, Some}
use Rattle.std.specs.Option.{option_map}
use Rattle.slab.specs.Slab.{get}
use Rattle.iox2_connections.specs.Link.{Link}
use Rattle.iox2_machine.specs.machine.Connections.{DegradationAnswers, failure_of, warnings_after}
use Rattle.iox2_machine.specs.machine.Limits.{channel_count, warning_limit}
use Rattle.iox2_machine.specs.machine.Records.{Environment, Handler}
use Rattle.iox2_connections.specs.declared.connection.Home.{Home}
use Rattle.iox2_machine.specs.declared.degradation.DegradationAction.{DegradationAction}
use Rattle.iox2_domain.specs.WarningRing.{WarningRing, warning_ring}
use Rattle.iox2_domain.specs.Ports.{PublisherFields, SubscriberFields}
use Rattle.iox2_domain.specs.Fields.{Fields}
use Rattle.iox2_domain.specs.Invariant.{IsDomain, connection_count}
use Rattle.iox2_domain.specs.Updates.{changed_at, with_receiver_key, with_sender_room, with_receiver_rooms, home_of}
use Rattle.iox2_domain.specs.Updates.{refused_between, MakesConnection}
use Rattle.iox2_domain.specs.Connects.{MakesRoom}
use Rattle.iox2_domain.specs.ReceiverSteps.{ConnectsEnd}
use Rattle.iox2_steps.proofs.updates.Grown.{grown}
use Rattle.iox2_steps.proofs.receivers.GrownRoom.{end-from-grown}
use Rattle.iox2_steps.proofs.receivers.Joins.{joins-connection, makes-connection, misses-connection}
use Rattle.iox2_steps.proofs.updates.GrownPorts.{HasGrown, has-grown}

module _ {T U : Type 0} (environment : Environment) (f : Fields T U) (sound : IsDomain f) (i j : ℕ)
    (x : PublisherFields) (y : SubscriberFields)
    (at_x : get_or f.publishers i None ≡ Some x) (at_y : get_or f.subscribers j None ≡ Some y)
    (none : get_or y.keys i None ≡ None) where
  -- it joins the publisher's
  pub joins-as : (key : ℕ) (c : Link) → get_or x.keys j None ≡ Some key → get f.connections key ≡ Some c
      → c.home.subscriber ≡ y.id
      → (f' : Fields T U) → f' ≡ record f { subscribers = changed_at (with_receiver_key i key) f.subscribers j }
      → ConnectsEnd environment f j i y x.id f' None
  joins-as key c has at its f' is =
      subst (λ (h : Fields T U). ConnectsEnd environment f j i y x.id h None)
      (sym (is ∙ ap
      (λ o. record f { subscribers = slice_set f.subscribers j (option_map (with_receiver_key i key) o) }) at_y))
      (joins-connection environment f sound i j x y at_x at_y none key c has at its)

  -- no connection is there, and both ports get room for one
  module _ (none_x : (key : ℕ) (c : Link) → get_or x.keys j None ≡ Some key → get f.connections key ≡ Some c
      → c.home.subscriber ≢ y.id)
      (home : Home) (size : ℕ) (home-is : home ≡ home_of i j x y) (size-is : size ≡ y.buffer) (mid : Fields T U)
      (rooms : MakesRoom f i j mid) where
    r : HasGrown f i j x y mid
    r = has-grown f i j x y mid sound at_x at_y rooms

    abbrev g : Fields T U
    g = grown f i j x y r.keys r.receiver_keys r.expired

    -- a new one is made
    pub makes-as : ((z : PublisherFields) → get_or mid.publishers i None ≡ Some z → j < z.key_room)
        → ((z : SubscriberFields) → get_or mid.subscribers j None ≡ Some z → i < z.key_room)
        → ((z : SubscriberFields) → get_or mid.subscribers j None ≡ Some z
        → connection_count f.connections home.subscriber < z.expired_room)
        → (key : ℕ) → MakesConnection f.connections home size (f.config).subscriber_max_borrowed_samples
        (channel_count f.config) key mid.connections
        → (f' : Fields T U) → f' ≡ record mid { subscribers = changed_at (with_receiver_key i key) mid.subscribers j }
        → ConnectsEnd environment f j i y x.id f' None
    makes-as room_x room_y room_expired key made f' is =
        end-from-grown f sound i j x y r.keys r.receiver_keys r.expired at_x at_y r.more_keys r.more_receiver_keys
        r.more_expired environment f' None
        (subst (λ (h : Fields T U).
        ConnectsEnd environment g j i (with_receiver_rooms r.receiver_keys r.expired y) x.id h None) (sym after)
        (makes-connection environment g r.sound i j (with_sender_room r.keys x)
        (with_receiver_rooms r.receiver_keys r.expired y) r.publisher r.subscriber none none_x
        (room_x (with_sender_room r.keys x) (ap (λ (h : Fields T U). get_or h.publishers i None) r.is ∙ r.publisher))
        (room_y (with_receiver_rooms r.receiver_keys r.expired y)
        (ap (λ (h : Fields T U). get_or h.subscribers j None) r.is ∙ r.subscriber))
        (subst (λ (h : Home). connection_count f.connections h.subscriber < r.expired) home-is
        (room_expired (with_receiver_rooms r.receiver_keys r.expired y)
        (ap (λ (h : Fields T U). get_or h.subscribers j None) r.is ∙ r.subscriber)))
        key mid.connections
        (subst (λ (h : Home). MakesConnection f.connections h y.buffer (f.config).subscriber_max_borrowed_samples
        (channel_count f.config) key mid.connections) home-is
        (subst (λ k. MakesConnection f.connections home k (f.config).subscriber_max_borrowed_samples
        (channel_count f.config) key mid.connections) size-is made))))
      where
        after : f' ≡ record g {
          subscribers = slice_set g.subscribers j
              (Some (with_receiver_key i key (with_receiver_rooms r.receiver_keys r.expired y)));
          connections = mid.connections;
        }
        after = is
            ∙ (λ k. record (r.is k) { subscribers = changed_at (with_receiver_key i key) ((r.is k).subscribers) j })
            ∙ ap (λ o. record g {
              subscribers = slice_set g.subscribers j (option_map (with_receiver_key i key) o);
              connections = mid.connections;
            }) r.subscriber

    -- memory for a new one is refused, and the subscriber's handler says what comes of that
    pub misses-as : environment.may_refuse_memory → (service : ℕ) (handler : Handler DegradationAction)
        → service ≡ (f.config).service_id → y.degradation_handler ≡ handler
        → (action : DegradationAction)
        → DegradationAnswers environment home.subscriber handler (refused_between service home) action
        → (warnings : WarningRing) → mid.connections ≡ record f.connections { capacity = mid.connections.capacity }
        → warnings ≡ warning_ring (warnings_after home.publisher home.subscriber action f.warnings.items) warning_limit
        → (f' : Fields T U) → f' ≡ record mid { warnings = warnings }
        → ConnectsEnd environment f j i y x.id f' (failure_of action)
    misses-as may service handler serviced handled action answers warnings same warned_is f' is =
        end-from-grown f sound i j x y r.keys r.receiver_keys r.expired at_x at_y r.more_keys r.more_receiver_keys
        r.more_expired environment f' (failure_of action)
        (subst (λ (h : Fields T U).
        ConnectsEnd environment g j i (with_receiver_rooms r.receiver_keys r.expired y) x.id h (failure_of action))
        (sym (is ∙ (λ k. record (r.is k) { warnings = told k })
        ∙ (λ k. record g {
          connections = same k;
          warnings = warning_ring (warnings_after x.id y.id action f.warnings.items) warning_limit;
        })))
        (misses-connection environment g r.sound i j (with_sender_room r.keys x)
        (with_receiver_rooms r.receiver_keys r.expired y) r.publisher r.subscriber none none_x may action asked
        mid.connections.capacity))
      where
        asked : DegradationAnswers environment y.id y.degradation_handler
            (refused_between (f.config).service_id (home_of i j x y)) action
        asked = subst (λ h. DegradationAnswers environment y.id h
            (refused_between (f.config).service_id (home_of i j x y)) action) (sym handled)
            (subst (λ (h : Home). DegradationAnswers environment h.subscriber handler
            (refused_between (f.config).service_id h) action) home-is
            (subst (λ (k : ℕ). DegradationAnswers environment home.subscriber handler (refused_between k home) action)
            serviced answers))

        told : warnings ≡ warning_ring (warnings_after x.id y.id action f.warnings.items) warning_limit
        told = warned_is ∙ ap (λ (h : Home).
            warning_ring (warnings_after h.publisher h.subscriber action f.warnings.items) warning_limit) home-is
