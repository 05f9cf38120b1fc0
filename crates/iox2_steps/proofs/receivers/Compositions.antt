-- Changes of a subscriber, one after the other.
use Rattle.std.proofs.Common.{◌≡◌, ℕ, Bool, false, List, get_or, slice_set, refl, ap, sym, subst, ◌∙◌}
use Rattle.std.proofs.lemmas.List.{set-set, set-get_or}
use Rattle.std.proofs.lemmas.Option.{same_Some}
use Rattle.std.specs.declared.option.Option.{Option}
use Rattle.std.specs.declared.option.Option.TheVariants.{None, Some}
use Rattle.std.specs.Option.{option_map_or}
use Rattle.iox2_machine.specs.machine.Numbers.{put_at}
use Rattle.iox2_machine.specs.machine.Places.{occupant, is_port}
use Rattle.iox2_machine.specs.machine.Records.{Publisher, Subscriber}
use Rattle.iox2_machine.specs.machine.State.{State, has_sender_end}
use Rattle.iox2_machine.specs.machine.SubscriberUpdate.{ReceiverSide, with_receiver_side}
use Rattle.iox2_laws.proofs.Puts.{put_at-same, put_at-twice}
use Rattle.iox2_connections.proofs.MailboxChanges.{put_at-own}
use Rattle.iox2_domain.specs.KeptLinks.{ChannelsFollow}
use Rattle.iox2_domain.specs.Midway.{with_channels_of}
use Rattle.iox2_domain.proofs.lemmas.fields.KeptChannels.{but-channels}
use Rattle.iox2_steps.proofs.updates.FollowedChannels.{follow-both, follow-same}
use Rattle.iox2_domain.specs.Ports.{SubscriberFields}
use Rattle.iox2_domain.specs.Kept.{state_of}
use Rattle.iox2_domain.specs.Fields.{Fields, kept_of, subscriber_of}
use Rattle.iox2_domain.specs.Invariant.{IsDomain}
use Rattle.iox2_domain.specs.ReceiverSteps.{current_side, ChangesReceiver}
use Rattle.iox2_domain.proofs.lemmas.containers.ChangedRecords.{changed-here}
use Rattle.iox2_steps.proofs.receivers.LeftChanges.{present}
use Rattle.iox2_domain.proofs.lemmas.fields.ConnectionEnds.{subscriber-stands}
use mathlib.Core.Path.{fun_ext}
use Rattle.iox2_domain.proofs.lemmas.fields.PlacesKept.{places-still, places-then}

module _ {T U : Type 0} (f : Fields T U) (sound : IsDomain f) (j : ℕ) (y : SubscriberFields)
    (at : get_or f.subscribers j None ≡ Some y) where
  abbrev s : State T U
  s = state_of (kept_of f)

  abbrev Q : Subscriber
  Q = (subscriber_of f.books f.connections y).port

  -- nothing changes
  pub unchanged : ChangesReceiver f j y (current_side s y.id Q) f
  unchanged = record {
    agrees = sound;
    keys = y.keys;
    key_room = y.key_room;
    expired = y.expired;
    expired_room = y.expired_room;
    fields = sym (ap (λ (ys : List (Option SubscriberFields)). record f { subscribers = ys })
        (ap (slice_set f.subscribers j) (sym at) ∙ set-get_or f.subscribers j None));
    others = refl;
    state = but-channels f (with_receiver_side s y.id Q (current_side s y.id Q))
        (λ k.
        record s {
          subscribers = (put_at-own s.subscribers y.id ∙ ap (put_at s.subscribers y.id)
              (present f sound j y at)) k;
          mailboxes = λ p. put_at-own (s.mailboxes p) y.id k;
        });
    channels = follow-same (λ home. home.subscriber ≡ y.id) (λ p q. s.publishers p ≡ None) f.connections f.connections
        (record { same = λ k. refl });
    entries = λ n entry e. e;
    places = places-still;
  }

  module _ (side : ReceiverSide) (f' : Fields T U) (ch : ChangesReceiver f j y side f') where
    -- the subscriber afterwards
    abbrev pub changed : SubscriberFields
    changed = record y {
      keys = ch.keys;
      key_room = ch.key_room;
      expired = ch.expired;
      expired_room = ch.expired_room;
      is_due = side.is_due;
    }

    pub changed-stands : get_or f'.subscribers j None ≡ Some changed
    changed-stands =
        ap (λ (g : Fields T U). get_or g.subscribers j None) ch.fields ∙ changed-here f.subscribers j y changed at

    -- as the machine sees it
    abbrev after : Subscriber
    after = record Q { ends = side.ends; expired = side.expired; is_due = side.is_due }

    pub port-is : (subscriber_of f'.books f'.connections changed).port ≡ record Q
        { ends = side.ends; expired = side.expired; is_due = side.is_due }
    port-is = same_Some _ _ (sym (subscriber-stands f' ch.agrees.parts j changed changed-stands)
        ∙ ap (λ (t : State T U). t.subscribers y.id) ch.state
        ∙ put_at-same s.subscribers y.id (Some after))

    -- its side is the one that it got
    pub side-again : current_side (state_of (kept_of f')) y.id
        (subscriber_of f'.books f'.connections changed).port ≡ side
    side-again =
        (λ k. current_side (ch.state k) y.id (port-is k))
        ∙ (λ k. record side { mailboxes = λ p. put_at-same (s.mailboxes p) y.id (side.mailboxes p) k })

    state-again : (side' : ReceiverSide) (f'' : Fields T U)
        → with_channels_of f'' (with_receiver_side (state_of (kept_of f')) y.id
        (subscriber_of f'.books f'.connections changed).port side') ≡ with_channels_of f''
        (with_receiver_side s y.id Q side')
    state-again side' f'' =
        (λ k. with_channels_of f'' (with_receiver_side (ch.state k) y.id (port-is k) side'))
        ∙ ap (with_channels_of f'') (λ k. record s {
          subscribers = put_at-twice s.subscribers y.id (Some after)
              (Some (record Q { ends = side'.ends; expired = side'.expired; is_due = side'.is_due })) k;
          mailboxes = λ p. put_at-twice (s.mailboxes p) y.id (side.mailboxes p) (side'.mailboxes p) k;
          warnings = side'.warnings;
        })

    -- whom it may join, the places and the settings stay
    pub senders-again : ◌≡◌ {A = ℕ → Bool} (λ (p : ℕ). has_sender_end (state_of (kept_of f')) p y.id)
        (λ (p : ℕ). has_sender_end s p y.id)
    senders-again = fun_ext (λ p. ap (λ (t : State T U). has_sender_end t p y.id) ch.state ∙ by p) where
      joined : ℕ → Option Subscriber → Bool
      joined p o = option_map_or (λ (x : Publisher).
          option_map_or (λ (z : Subscriber). is_port (occupant x.ends z.place) y.id) o false) (s.publishers p) false

      by : (p : ℕ) → has_sender_end (with_receiver_side s y.id Q side) p y.id ≡ has_sender_end s p y.id
      by p = ap (joined p) (put_at-same s.subscribers y.id (Some after)) ∙ sym (ap (joined p) (present f sound j y at))

    pub places-again : (state_of (kept_of f')).publisher_places ≡ s.publisher_places
    places-again = ap (λ (t : State T U). t.publisher_places) ch.state

    pub config-again : f'.config ≡ f.config
    config-again = ap (λ (g : Fields T U). g.config) ch.fields

    -- what changes then changes from the start
    pub changes-more : (side' : ReceiverSide) (f'' : Fields T U) → ChangesReceiver f' j changed side' f''
        → ChangesReceiver f j y side' f''
    changes-more side' f'' more = record {
      agrees = more.agrees;
      keys = more.keys;
      key_room = more.key_room;
      expired = more.expired;
      expired_room = more.expired_room;
      fields = more.fields
          ∙ (λ k. record (ch.fields k) {
            subscribers = slice_set ((ch.fields k).subscribers) j
                (Some (record y {
                  keys = more.keys;
                  key_room = more.key_room;
                  expired = more.expired;
                  expired_room = more.expired_room;
                  is_due = side'.is_due;
                }));
            publishers = f''.publishers;
            connections = f''.connections;
            books = f''.books;
            contents = f''.contents;
            warnings = f''.warnings;
          })
          ∙ ap (λ (ys : List (Option SubscriberFields)).
          record f {
            subscribers = ys;
            publishers = f''.publishers;
            connections = f''.connections;
            books = f''.books;
            contents = f''.contents;
            warnings = f''.warnings;
          })
          (set-set f.subscribers j (Some changed)
          (Some (record y {
            keys = more.keys;
            key_room = more.key_room;
            expired = more.expired;
            expired_room = more.expired_room;
            is_due = side'.is_due;
          })));
      others = more.others ∙ ch.others;
      state = more.state ∙ state-again side' f'';
      channels = follow-both (λ home. home.subscriber ≡ y.id)
          (λ p q. s.publishers p ≡ None) f.connections f'.connections f''.connections ch.channels
          (subst (λ (publishers : ℕ → Option Publisher). ChannelsFollow (λ home. home.subscriber ≡ y.id)
          (λ p q. publishers p ≡ None) f'.connections f''.connections)
          (ap (λ (t : State T U). t.publishers) ch.state) more.channels);
      entries = λ n entry e. ch.entries n entry (more.entries n entry e);
      places = places-then ch.places more.places;
    }
