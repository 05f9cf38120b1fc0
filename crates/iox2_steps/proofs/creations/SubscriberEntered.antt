-- A new subscriber stands at a free place.
use Rattle.std.proofs.Common.{◌≡◌, ℕ, ◌+◌, map, Bool, true, false, cond, eqb, get_or, refl, ap, sym, subst, ◌∙◌, inl}
use Rattle.std.proofs.Common.{inr, ◌⊎◌, arith}
use Rattle.std.proofs.lemmas.Bool.{cases_eq, eqb-true}
use Rattle.std.specs.declared.option.Option.{Option}
use Rattle.std.specs.declared.option.Option.TheVariants.{None, Some}
use Rattle.std.specs.Option.{option_map}
use Rattle.iox2_machine.specs.machine.Numbers.{put_at}
use Rattle.iox2_machine.specs.machine.Places.{set_place}
use Rattle.iox2_machine.specs.machine.Records.{Subscriber, SubscriberSettings}
use Rattle.iox2_machine.specs.machine.Ports.{new_subscriber, buffer_for}
use Rattle.iox2_connections.specs.LookUp.{look_up, IsOnly}
use Rattle.iox2_laws.proofs.PortLaws.{no_subscriber_yet}
use Rattle.iox2_domain.specs.WarningRing.{WarningRing}
use Rattle.iox2_domain.specs.Ports.{SubscriberFields, entering}
use Rattle.iox2_domain.specs.Kept.{Named, state_of, port_named, ids, is_named}
use Rattle.iox2_domain.specs.Fields.{Fields, kept_of, subscriber_of}
use Rattle.iox2_domain.specs.Invariant.{IsDomain, is_subscriber}
use Rattle.iox2_domain.proofs.lemmas.containers.LookUps.{look_up-map, look_up-written, IsOnly-inserted}
use Rattle.iox2_domain.specs.Placed.{placed}
use Rattle.iox2_domain.proofs.lemmas.containers.Placed.{placed-here, placed-others, map-placed, placed-ids}
use mathlib.Core.Path.{fun_ext}
use Rattle.iox2_domain.proofs.lemmas.fields.NamedPorts.{named-unseen}

module _ {T U : Type 0} (f : Fields T U) (sound : IsDomain f) (warnings : WarningRing) (place : ℕ)
    (given : SubscriberSettings) (key_room expired_room : ℕ) (free : get_or f.subscribers place None ≡ None) where
  -- the subscriber that enters
  abbrev pub newcomer : SubscriberFields
  newcomer = entering f.next_port place (buffer_for given) given.degradation_handler key_room expired_room

  -- the fields with it
  abbrev pub with_entered_subscriber : Fields T U
  with_entered_subscriber =
      record f { next_port = f.next_port + 1; warnings = warnings; subscribers = placed f.subscribers place newcomer }

  -- no subscriber has the next id
  pub no_such : look_up (is_subscriber f.next_port) f.subscribers ≡ None
  no_such = named-unseen (subscriber_of f.books f.connections) f.next_port f.subscribers
      (no_subscriber_yet (state_of (kept_of f)) sound.well_formed)

  pub ids_apart : (q : ℕ) → IsOnly (is_subscriber q) (placed f.subscribers place newcomer)
  ids_apart q =
      IsOnly-inserted (is_subscriber q) f.subscribers (placed f.subscribers place newcomer) place newcomer
      (sound.parts.subscriber_ids q)
      (λ e. let here : f.next_port ≡ q = eqb-true f.next_port q e in
      subst (λ r. look_up (is_subscriber r) f.subscribers ≡ None) here no_such)
      (placed-here newcomer f.subscribers place) (λ k away. placed-others newcomer f.subscribers place k away)

  -- where a subscriber stands, it is the new one or stood there before
  pub stood : (i : ℕ) (y : SubscriberFields) → get_or (placed f.subscribers place newcomer) i None ≡ Some y
      → (y ≡ newcomer) ⊎ (get_or f.subscribers i None ≡ Some y)
  stood i y at = elim (cases_eq i place) [
    | inl here ↦
        let at_place : get_or (placed f.subscribers place newcomer) place None ≡ Some y =
        subst (λ (k : ℕ). get_or (placed f.subscribers place newcomer) k None ≡ Some y) here at in
        let same : Some newcomer ≡ Some y = sym (placed-here newcomer f.subscribers place) ∙ at_place in
        inl cc
    | inr away ↦ inr (sym (placed-others newcomer f.subscribers place i away) ∙ at)
  ]

  -- who stood somewhere still does
  pub still : (i : ℕ) (y : SubscriberFields) → get_or f.subscribers i None ≡ Some y
      → get_or (placed f.subscribers place newcomer) i None ≡ Some y
  still i y at = placed-others newcomer f.subscribers place i (λ here.
      let at_place : get_or f.subscribers place None ≡ Some y =
      subst (λ (k : ℕ). get_or f.subscribers k None ≡ Some y) here at in
      let no : None ≡ Some y = sym free ∙ at_place in absurd cc) ∙ at

  -- the subscribers by id
  named-entered : (q : ℕ)
      → port_named q (map (option_map (subscriber_of f.books f.connections)) (placed f.subscribers place newcomer))
      ≡ put_at (state_of (kept_of f)).subscribers f.next_port (Some (new_subscriber given place)) q
  named-entered q =
      ap port (look_up-map (is_named q) shown (placed f.subscribers place newcomer))
      ∙ ap (λ o. port (option_map shown o)) (look_up-written (is_subscriber q) f.subscribers
      (placed f.subscribers place newcomer) place newcomer (ids_apart q)
      (λ x at. absurd (let no : None ≡ Some x = sym free ∙ at in cc)) (placed-here newcomer f.subscribers place)
      (λ k away. placed-others newcomer f.subscribers place k away))
      ∙ by (eqb f.next_port q) (eqb q f.next_port) (symmetric f.next_port q) (look_up (is_subscriber q) f.subscribers)
      ∙ ap (λ o. cond (eqb q f.next_port) (Some (new_subscriber given place)) (port o))
      (sym (look_up-map (is_named q) shown f.subscribers))
    where
      shown : SubscriberFields → Named Subscriber
      shown y = subscriber_of f.books f.connections y

      port : Option (Named Subscriber) → Option Subscriber
      port o = option_map (λ (z : Named Subscriber). z.port) o

      symmetric : (a b : ℕ) → eqb a b ≡ eqb b a
      symmetric a b = grind arith

      by : (a b : Bool) → a ≡ b → (o : Option SubscriberFields)
          → port (option_map shown (cond a (Some newcomer) o)) ≡ cond b (Some (new_subscriber given place))
          (port (option_map shown o))
      by true b e o = rw (sym e) refl
      by false b e o = rw (sym e) refl

  -- the machine's state with the new subscriber
  pub entered-is : state_of (kept_of with_entered_subscriber) ≡ record (state_of (kept_of f)) {
    next_port = f.next_port + 1;
    warnings = warnings.items;
    subscribers = put_at (state_of (kept_of f)).subscribers f.next_port (Some (new_subscriber given place));
    subscriber_places = set_place (state_of (kept_of f)).subscriber_places place (Some f.next_port);
  }
  entered-is = λ i. record (state_of (kept_of f)) {
    next_port = f.next_port + 1;
    warnings = warnings.items;
    subscribers = all i;
    subscriber_places = places i;
  } where
    all : (state_of (kept_of with_entered_subscriber)).subscribers ≡ put_at
        (state_of (kept_of f)).subscribers f.next_port (Some (new_subscriber given place))
    all = fun_ext named-entered

    places : (state_of (kept_of with_entered_subscriber)).subscriber_places ≡ set_place
        (state_of (kept_of f)).subscriber_places place (Some f.next_port)
    places =
        ap ids (map-placed newcomer (subscriber_of f.books f.connections) f.subscribers place)
        ∙ map-placed (subscriber_of f.books f.connections newcomer) (λ (z : Named Subscriber). z.id)
        (map (option_map (subscriber_of f.books f.connections)) f.subscribers) place
        ∙ placed-ids f.next_port (ids (map (option_map (subscriber_of f.books f.connections)) f.subscribers)) place
