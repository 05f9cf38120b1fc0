-- A subscriber gets keys of its connections, one of which may be new, whichever publishers were closed.
use Rattle.std.proofs.Common.{◌≡◌, ◌≤◌, le_refl, ℕ, Bool, List, map, get_or, slice_set, refl, ap, sym, ◌∙◌, inl, inr}
use Rattle.std.proofs.lemmas.List.{map-set}
use Rattle.std.specs.declared.option.Option.{Option}
use Rattle.std.specs.declared.option.Option.TheVariants.{None, Some}
use Rattle.std.specs.Option.{option_map}
use Rattle.slab.specs.Slab.{Slab}
use Rattle.iox2_connections.specs.Link.{Link}
use Rattle.iox2_machine.specs.machine.Numbers.{put_at}
use Rattle.iox2_machine.specs.machine.Records.{Subscriber}
use Rattle.iox2_connections.specs.Mailboxes.{receiver_ends}
use Rattle.iox2_domain.specs.KeptLinks.{ChannelsFollow}
use Rattle.iox2_domain.proofs.lemmas.fields.ConnectionEnds.{publisher-stands}
use Rattle.iox2_domain.proofs.lemmas.fields.KeptChannels.{channels-are}
use Rattle.iox2_steps.proofs.updates.FollowedChannels.{follow-more}
use Rattle.std.proofs.lemmas.Option.{none-some}
use Rattle.iox2_domain.specs.WarningRing.{WarningRing}
use Rattle.iox2_domain.specs.Ports.{SubscriberFields}
use Rattle.iox2_domain.specs.Kept.{Named, state_of, port_named, ids, is_named}
use Rattle.iox2_domain.specs.Invariant.{HasParts, is_subscriber}
use Rattle.iox2_domain.specs.Fields.{Fields, kept_of, subscriber_of}
use Rattle.iox2_domain.proofs.lemmas.containers.LookUps.{IsOnly-map, map-at}
use Rattle.iox2_domain.proofs.lemmas.containers.ChangedRecords.{changed-ids, changed-ports}
use Rattle.iox2_steps.proofs.receivers.MoreConnections.{publishers-same, subscribers-same, mailboxes-same}
use Rattle.iox2_steps.proofs.receivers.MoreConnections.{subscriber-same}
use Rattle.iox2_steps.proofs.updates.ReceiverChanges.{FitsReceiver, with_keys, with_receiver}
use mathlib.Core.Path.{fun_ext}

module _ {T U : Type 0} (f : Fields T U) (parts : HasParts f) (j : ℕ) (y : SubscriberFields)
    (at : get_or f.subscribers j None ≡ Some y)
    (keys : List (Option ℕ)) (key_room expired_room : ℕ) (is_due : Bool) (connections : Slab Link)
    (warnings : WarningRing) (fits : FitsReceiver f j y keys key_room expired_room connections) where
  abbrev shown : List (Option (Named Subscriber))
  shown = map (option_map (subscriber_of f.books f.connections)) f.subscribers

  -- the machine's subscriber before and after
  abbrev pub port : Subscriber
  port = (subscriber_of f.books f.connections y).port

  abbrev pub port_after : Subscriber
  port_after = record port { ends = receiver_ends connections keys; is_due = is_due }

  -- the subscriber with these keys, as the machine sees it
  abbrev named_after : Named Subscriber
  named_after = record { id = y.id; port = port_after }

  shown_after : subscriber_of f.books connections (with_keys y keys key_room expired_room is_due) ≡ named_after
  shown_after =
      λ k. record {
        id = y.id;
        port = record port {
          ends = receiver_ends connections keys;
          is_due = is_due;
          expired = (subscriber-same f parts connections fits.extends j y at k).port.expired;
        };
      }

  after-shown : map (option_map (subscriber_of f.books connections))
      (slice_set f.subscribers j (Some (with_keys y keys key_room expired_room is_due))) ≡ slice_set shown j
      (Some named_after)
  after-shown =
      map-set (option_map (subscriber_of f.books connections)) f.subscribers j
      (Some (with_keys y keys key_room expired_room is_due))
      ∙ (λ k. slice_set (subscribers-same f parts connections fits.extends k) j (Some (shown_after k)))

  stands-shown : get_or shown j None ≡ Some (subscriber_of f.books f.connections y)
  stands-shown = map-at (subscriber_of f.books f.connections) f.subscribers j
      ∙ ap (option_map (subscriber_of f.books f.connections)) at

  -- the machine's state
  pub receiver-is : state_of (kept_of (with_receiver f j y keys key_room expired_room is_due connections warnings))
      ≡ record (state_of (kept_of f)) {
        subscribers = put_at (state_of (kept_of f)).subscribers y.id (Some port_after);
        warnings = warnings.items;
      }
  receiver-is = λ k. record (state_of (kept_of f)) {
    subscribers = all k;
    publishers = λ p. port_named p (publishers-same f parts connections fits.extends k);
    publisher_places = ids (publishers-same f parts connections fits.extends k);
    mailboxes = mailboxes-same f parts connections fits.extends k;
    channels = (channels-are (with_receiver f j y keys key_room expired_room is_due connections warnings)
        ∙ fun_ext (λ p. fun_ext (λ q. fits.extends.channels p q)) ∙ sym (channels-are f)) k;
    subscriber_places = places k;
    warnings = warnings.items;
  } where
    all : (state_of (kept_of (with_receiver f j y keys key_room expired_room is_due connections warnings))).subscribers
        ≡ put_at (state_of (kept_of f)).subscribers y.id (Some port_after)
    all = fun_ext (λ q. ap (port_named q) after-shown
        ∙ changed-ports shown j (subscriber_of f.books f.connections y) named_after stands-shown refl
        (λ id. IsOnly-map (subscriber_of f.books f.connections) (is_subscriber id) (is_named id)
        (λ z. refl) f.subscribers (parts.subscriber_ids id)) q)

    places : (state_of
        (kept_of (with_receiver f j y keys key_room expired_room is_due connections warnings))).subscriber_places
        ≡ (state_of (kept_of f)).subscriber_places
    places =
        ap ids after-shown ∙ changed-ids shown j (subscriber_of f.books f.connections y) named_after stands-shown refl

  -- channels stay, and new ones are new
  pub joins-follow : ChannelsFollow (λ home. home.subscriber ≡ y.id)
      (λ p q. (state_of (kept_of f)).publishers p ≡ None) f.connections connections
  joins-follow = follow-more (λ home. home.subscriber ≡ y.id) (λ p q. (state_of (kept_of f)).publishers p ≡ None)
      f.connections connections fits.extends (λ key d at_d. elim (fits.news key d at_d) [
        | inl old ↦ inl old
        | inr n ↦
            inr (
              n.subscriber,
              λ gone. none-some _ (sym (ap (state_of (kept_of f)).publishers n.is_its ∙ gone)
                  ∙ publisher-stands f parts d.home.publisher_place n.publisher n.stands),
            )
      ])

module _ {T U : Type 0} (f : Fields T U) (parts : HasParts f) (j : ℕ) (y : SubscriberFields)
    (at : get_or f.subscribers j None ≡ Some y) where
  -- its own keys fit, whatever room there is for connections, and for more keys
  pub receiver_fits-grown : (n key_room expired_room : ℕ) → y.key_room ≤ key_room → y.expired_room ≤ expired_room
      → FitsReceiver f j y y.keys key_room expired_room (record f.connections { capacity = n })
  receiver_fits-grown n key_room expired_room grows expired_grows = record {
    grows = grows;
    expired_grows = expired_grows;
    rooms = record { at = parts.expired_room.at };
    extends = record {
      apart = record { one = parts.apart.one };
      sums = λ p slot. refl;
      boxes = λ number p q. refl;
      channels = λ p q. refl;
      grows = λ key c at. at;
    };
    linked = record { at = (parts.linked.receivers j y at).at };
    places = λ place key c at_key at_c. parts.linked.receiver_places j place key y c at at_key at_c;
    keeps = λ place key at. at;
    news = λ key c at. inl at;
  }

  -- with the room that it has
  pub receiver_fits-same : (n : ℕ)
      → FitsReceiver f j y y.keys y.key_room y.expired_room (record f.connections { capacity = n })
  receiver_fits-same n = receiver_fits-grown n y.key_room y.expired_room (le_refl y.key_room) (le_refl y.expired_room)
