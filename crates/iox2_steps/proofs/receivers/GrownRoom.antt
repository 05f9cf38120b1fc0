-- Two ports get more room for keys, whichever publishers were closed.
use Rattle.std.proofs.Common.{◌≡◌, ◌≤◌, ℕ, List, get_or, refl, ap, subst, ◌∙◌}
use Rattle.std.proofs.lemmas.List.{set-set}
use Rattle.std.specs.declared.option.Option.{Option}
use Rattle.std.specs.declared.option.Option.TheVariants.{None, Some}
use Rattle.iox2_machine.specs.machine.Limits.{expired_limit}
use Rattle.iox2_machine.specs.machine.Records.{Subscriber, Environment}
use Rattle.iox2_machine.specs.machine.State.{State, has_sender_end}
use Rattle.iox2_machine.specs.machine.SubscriberUpdate.{ReceiverSide, ConnectReceiver, with_receiver_side}
use Rattle.iox2_machine.specs.declared.errors.ConnectionFailure.{ConnectionFailure}
use Rattle.iox2_domain.specs.KeptLinks.{ChannelsFollow}
use Rattle.iox2_domain.specs.Midway.{with_channels_of}
use Rattle.iox2_domain.specs.Ports.{PublisherFields, SubscriberFields}
use Rattle.iox2_domain.specs.Kept.{state_of}
use Rattle.iox2_domain.specs.Fields.{Fields, kept_of, subscriber_of}
use Rattle.iox2_domain.specs.Invariant.{IsDomain}
use Rattle.iox2_domain.specs.Updates.{with_sender_room, with_receiver_rooms, publisher_but_room}
use Rattle.iox2_domain.specs.ReceiverSteps.{current_side, ChangesReceiver, ConnectsEnd}
use Rattle.iox2_steps.proofs.updates.Grown.{grown, same-shown}
use Rattle.iox2_steps.proofs.updates.Grown as room

module _ {T U : Type 0} (f : Fields T U) (sound : IsDomain f) (i j : ℕ) (x : PublisherFields) (y : SubscriberFields)
    (n m e : ℕ)
    (at_x : get_or f.publishers i None ≡ Some x) (at_y : get_or f.subscribers j None ≡ Some y) (more_x : x.key_room ≤ n)
    (more_y : y.key_room ≤ m) (more_e : y.expired_room ≤ e) where
  abbrev Q : Subscriber
  Q = (subscriber_of f.books f.connections y).port

  -- the machine sees no room
  pub grown-state : state_of (kept_of (grown f i j x y n m e)) ≡ state_of (kept_of f)
  grown-state = room.grown-state f i j x y n m e sound at_x at_y more_x more_y more_e

  -- what a subscriber changes from there it changes from here
  pub from-grown : (side : ReceiverSide) (f' : Fields T U)
      → ChangesReceiver (grown f i j x y n m e) j (with_receiver_rooms m e y) side f' → ChangesReceiver f j y side f'
  from-grown side f' ch = record {
    agrees = ch.agrees;
    keys = ch.keys;
    key_room = ch.key_room;
    expired = ch.expired;
    expired_room = ch.expired_room;
    fields = ch.fields
        ∙ ap (λ (ys : List (Option SubscriberFields)). record f {
          subscribers = ys;
          publishers = f'.publishers;
          connections = f'.connections;
          books = f'.books;
          contents = f'.contents;
          warnings = f'.warnings;
        })
        (set-set f.subscribers j (Some (with_receiver_rooms m e y))
        (Some (record y {
          keys = ch.keys;
          key_room = ch.key_room;
          expired = ch.expired;
          expired_room = ch.expired_room;
          is_due = side.is_due;
        })));
    others = ch.others ∙ same-shown publisher_but_room f.publishers i x (with_sender_room n x) at_x refl;
    state = ch.state ∙ ap (λ (t : State T U). with_channels_of f' (with_receiver_side t y.id Q side)) grown-state;
    channels = subst (λ (t : State T U). ChannelsFollow (λ home. home.subscriber ≡ y.id)
        (λ p q. t.publishers p ≡ None) f.connections f'.connections) grown-state ch.channels;
    entries = ch.entries;
    places = ch.places;
  }

  pub end-from-grown : (environment : Environment) (f' : Fields T U) (failure : Option ConnectionFailure)
      → ConnectsEnd environment (grown f i j x y n m e) j i (with_receiver_rooms m e y) x.id f' failure
      → ConnectsEnd environment f j i y x.id f' failure
  end-from-grown environment f' failure (side, ch, step) = (
    side,
    from-grown side f' ch,
    subst (λ (t : State T U). ConnectReceiver environment (f.config).service_id y.id Q.degradation_handler
        (expired_limit f.config) (λ r. has_sender_end t r y.id) (current_side t y.id Q) i x.id side failure)
        grown-state step,
  )
