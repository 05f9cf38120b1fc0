-- A subscriber's record is written over by another of the same id, or goes.
use Rattle.std.proofs.Common.{◌≡◌, ℕ, List, map, get_or, slice_set, refl, ap, ◌∙◌}
use Rattle.std.proofs.lemmas.List.{get_or-set_same, get_or-set_other, map-set}
use Rattle.std.specs.declared.option.Option.{Option}
use Rattle.std.specs.declared.option.Option.TheVariants.{None, Some}
use Rattle.std.specs.Option.{option_map}
use Rattle.iox2_machine.specs.machine.Numbers.{put_at}
use Rattle.iox2_machine.specs.machine.Places.{vacated}
use Rattle.iox2_machine.specs.machine.Records.{Subscriber}
use Rattle.iox2_connections.specs.LookUp.{IsOnly}
use Rattle.iox2_connections.proofs.MailboxChanges.{within_if_some}
use Rattle.iox2_domain.specs.Ports.{SubscriberFields}
use Rattle.iox2_domain.specs.Kept.{Named, state_of, port_named, ids, is_named}
use Rattle.iox2_domain.specs.Fields.{Fields, kept_of, subscriber_of}
use Rattle.iox2_domain.specs.Invariant.{is_subscriber}
use Rattle.iox2_domain.proofs.lemmas.containers.ChangedRecords.{changed-ids, changed-ports}
use Rattle.iox2_domain.proofs.lemmas.containers.LookUps.{IsOnly-map, map-at}
use Rattle.iox2_domain.proofs.lemmas.containers.RemovedPorts.{removed-ids, removed-ports}
use mathlib.Core.Path.{fun_ext}

module _ {T U : Type 0} (f : Fields T U) (j : ℕ) (y z : SubscriberFields) (at : get_or f.subscribers j None ≡ Some y)
    (same : z.id ≡ y.id)
    (only : (q : ℕ) → IsOnly (is_subscriber q) f.subscribers) where
  -- the fields with it
  abbrev pub with_subscriber : Fields T U
  with_subscriber = record f { subscribers = slice_set f.subscribers j (Some z) }

  abbrev view : SubscriberFields → Named Subscriber
  view w = subscriber_of f.books f.connections w

  abbrev shown : List (Option (Named Subscriber))
  shown = map (option_map view) f.subscribers

  shown-set : map (option_map view) (slice_set f.subscribers j (Some z)) ≡ slice_set shown j (Some (view z))
  shown-set = map-set (option_map view) f.subscribers j (Some z)

  stands-shown : get_or shown j None ≡ Some (view y)
  stands-shown = map-at view f.subscribers j ∙ ap (option_map view) at

  -- the machine's subscriber is written over
  pub subscriber_set-is : state_of (kept_of with_subscriber) ≡ record (state_of (kept_of f)) {
    subscribers = put_at (state_of (kept_of f)).subscribers y.id (Some ((subscriber_of f.books f.connections z).port));
  }
  subscriber_set-is = λ k. record (state_of (kept_of f)) { subscribers = all k; subscriber_places = places k } where
    all : (state_of (kept_of with_subscriber)).subscribers ≡ put_at (state_of (kept_of f)).subscribers y.id
        (Some ((subscriber_of f.books f.connections z).port))
    all = fun_ext (λ q. ap (port_named q) shown-set
        ∙ changed-ports shown j (view y) (view z) stands-shown same
        (λ id. IsOnly-map view (is_subscriber id) (is_named id) (λ w. refl) f.subscribers (only id)) q)

    places : (state_of (kept_of with_subscriber)).subscriber_places ≡ (state_of (kept_of f)).subscriber_places
    places = ap ids shown-set ∙ changed-ids shown j (view y) (view z) stands-shown same

-- a subscriber goes: the machine's goes, and its place is free
pub subscriber_gone-is : {T U : Type 0} (f : Fields T U) (j : ℕ) (y : SubscriberFields)
    → get_or f.subscribers j None ≡ Some y → ((q : ℕ) → IsOnly (is_subscriber q) f.subscribers)
    → state_of (kept_of (record f { subscribers = slice_set f.subscribers j None }))
    ≡ record (state_of (kept_of f)) {
      subscribers = put_at (state_of (kept_of f)).subscribers y.id None;
      subscriber_places = vacated y.id (state_of (kept_of f)).subscriber_places;
    }
subscriber_gone-is f j y at only =
    λ k. record (state_of (kept_of f)) {
      subscribers = all k;
      subscriber_places = (ap ids shown-set ∙ removed-ids shown j (view y) stands (only-shown y.id)) k;
    } where
      view : SubscriberFields → Named Subscriber
      view w = subscriber_of f.books f.connections w

      shown : List (Option (Named Subscriber))
      shown = map (option_map view) f.subscribers

      shown-set : map (option_map view) (slice_set f.subscribers j None) ≡ slice_set shown j None
      shown-set = map-set (option_map view) f.subscribers j None

      stands : get_or shown j None ≡ Some (view y)
      stands = map-at view f.subscribers j ∙ ap (option_map view) at

      only-shown : (q : ℕ) → IsOnly (is_named q) shown
      only-shown q = IsOnly-map view (is_subscriber q) (is_named q) (λ w. refl) f.subscribers (only q)

      all : (λ q. port_named q (map (option_map view) (slice_set f.subscribers j None))) ≡ put_at
          (state_of (kept_of f)).subscribers y.id None
      all = fun_ext (λ q. ap (port_named q) shown-set
          ∙ removed-ports shown j (view y) stands only-shown
          (get_or-set_same shown j None None (within_if_some shown j (view y) stands))
          (λ k away. get_or-set_other shown j k None None away) q)
