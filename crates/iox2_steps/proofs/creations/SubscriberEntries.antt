-- A subscriber enters a domain at the place that it has, or it is refused.
use Rattle.std.proofs.Common.{◌≡◌, ℕ, suc, ◌+◌, ◌≤◌, ◌==◌, Bool, true, false, cond, nat_lt, List, length, map, get_or}
use Rattle.std.proofs.Common.{refl, ap, sym, subst, ◌∙◌, MatchOption}
use Rattle.std.proofs.lemmas.Bool.{ltb-true, ltb-false}
use Rattle.std.specs.Bool.{MatchBool}
use Rattle.std.specs.declared.option.Option.{Option}
use Rattle.std.specs.declared.option.Option.TheVariants.{None, Some}
use Rattle.std.specs.declared.result.Result.{Result}
use Rattle.std.specs.declared.result.Result.TheVariants.{Ok, Err}
use Rattle.std.specs.Option.{option_map}
use Rattle.iox2_machine.specs.machine.Limits.{buffer_limit, warning_limit, last_number}
use Rattle.iox2_machine.specs.machine.Places.{lowest_free}
use Rattle.iox2_machine.specs.machine.Ports.{buffer_for, with_buffer_warning, with_new_subscriber, CreateSubscriber}
use Rattle.iox2_machine.specs.machine.Ports.{FirstSubscriberUpdate, MakeSubscriber}
use Rattle.iox2_machine.specs.machine.Records.{Subscriber, SubscriberSettings, Environment}
use Rattle.iox2_machine.specs.machine.State.{State}
use Rattle.iox2_machine.specs.declared.errors.SubscriberCreateError.{SubscriberCreateError}
use Rattle.iox2_machine.specs.declared.errors.SubscriberCreateError.TheVariants.{UnableToCreatePortTag}
use Rattle.iox2_machine.specs.declared.errors.SubscriberCreateError.TheVariants.{BufferSizeExceedsMaxSupportedBufferSizeOfService}
use Rattle.iox2_machine.specs.declared.errors.SubscriberCreateError.TheVariants.{ExceedsMaxSupportedSubscribers}
use Rattle.iox2_domain.specs.WarningRing.{WarningRing, warning_ring}
use Rattle.iox2_domain.specs.Ports.{PublisherFields, SubscriberFields, entering}
use Rattle.iox2_domain.specs.Kept.{Named, state_of}
use Rattle.iox2_domain.specs.Fields.{Fields, kept_of, subscriber_of}
use Rattle.iox2_domain.specs.Invariant.{IsDomain}
use Rattle.iox2_domain.specs.Placed.{placed, lowest_empty}
use Rattle.iox2_domain.specs.Reaches.{Reaches}
use Rattle.iox2_domain.specs.FirstUpdates.{SubscriberFirstUpdates}
use Rattle.iox2_domain.specs.SubscriberEntry.{place_for_subscriber}
use Rattle.iox2_steps.proofs.creations.SubscriberAdmitted.{with_admitted, admitted-is, admitted-agrees}
use Rattle.iox2_steps.proofs.creations.PublishersDue.{due}
use Rattle.iox2_domain.proofs.lemmas.containers.Placed.{placed-here}
use Rattle.iox2_domain.proofs.lemmas.fields.ReachesShows.{reaches-then}
use Rattle.iox2_domain.proofs.lemmas.containers.FreePlaces.{lowest_empty-low, lowest_empty-free, lowest_free-ids}
use Rattle.iox2_domain.proofs.lemmas.containers.FreePlaces.{lowest_empty-map}
use Rattle.iox2_domain.proofs.lemmas.fields.PlacesKept.{places-still}

-- the tests of a place that a subscriber has, in their order
record HasPlace {T U : Type 0} (f : Fields T U) (given : SubscriberSettings) (place : ℕ) : Type 0 where
  pub numbered : (f.next_port == last_number) ≡ false
  pub fits : nat_lt (buffer_limit f.config) (buffer_for given) ≡ false
  pub low : nat_lt (lowest_empty f.subscribers) (f.config).max_subscribers ≡ true
  pub lowest : lowest_empty f.subscribers ≡ place

-- the answers to three tests
abbrev answered : (a b c : Bool) (p : ℕ) → Result ℕ SubscriberCreateError
answered a b c p = cond a (Err UnableToCreatePortTag)
    (cond b (Err BufferSizeExceedsMaxSupportedBufferSizeOfService) (cond c (Ok p) (Err ExceedsMaxSupportedSubscribers)))

module _ {T U : Type 0} (f : Fields T U) (given : SubscriberSettings) where
  has_place : (place : ℕ) → place_for_subscriber f given ≡ Ok place → HasPlace f given place
  has_place place e =
      let parts = by (f.next_port == last_number) (nat_lt (buffer_limit f.config) (buffer_for given))
      (nat_lt (lowest_empty f.subscribers) (f.config).max_subscribers) e in
      record { numbered = parts.0; fits = parts.1; low = parts.2; lowest = parts.3 }
    where
      by : (a b c : Bool) → answered a b c (lowest_empty f.subscribers) ≡ Ok place
          → (a ≡ false) × (b ≡ false) × (c ≡ true) × (lowest_empty f.subscribers ≡ place)
      by true b c e = absurd cc
      by false true c e = absurd cc
      by false false false e = absurd cc
      by false false true e = (refl, refl, refl, cc)

  abbrev shown : State T U
  shown = state_of (kept_of f)

  -- the machine's lowest free place
  lowest-is : lowest_free shown.subscriber_places ≡ lowest_empty f.subscribers
  lowest-is =
      lowest_free-ids (λ (z : Named Subscriber). z.id)
      (map (option_map (subscriber_of f.books f.connections)) f.subscribers)
      ∙ lowest_empty-map (subscriber_of f.books f.connections) f.subscribers

  module _ (environment : Environment) where
    -- what follows in the machine where the three tests have these answers, with this lowest free place
    abbrev Created : (a b c : Bool) (p : ℕ) → State T U → Option SubscriberCreateError → Type 0
    Created a b c p s' refusal =
        MatchBool a ((s' ≡ shown) × (refusal ≡ Some UnableToCreatePortTag))
        (MatchBool b ((s' ≡ shown) × (refusal ≡ Some BufferSizeExceedsMaxSupportedBufferSizeOfService))
        (MatchOption (cond c (Some p) None) ((s' ≡ shown) × (refusal ≡ Some ExceedsMaxSupportedSubscribers)) (λ place.
        MakeSubscriber environment shown given place s' refusal)))

    created : (s' : State T U) (refusal : Option SubscriberCreateError)
        → Created (f.next_port == last_number) (nat_lt (buffer_limit f.config) (buffer_for given))
        (nat_lt (lowest_empty f.subscribers) (f.config).max_subscribers) (lowest_empty f.subscribers) s' refusal
        → CreateSubscriber environment shown given s' refusal
    created s' refusal h = subst
        (λ (p : ℕ). Created (f.next_port == last_number) (nat_lt (buffer_limit f.config) (buffer_for given))
        (nat_lt p (f.config).max_subscribers) p s' refusal)
        (sym lowest-is) h

    -- one that has no place is refused, and the state stays
    pub created-refused : (e : SubscriberCreateError) → place_for_subscriber f given ≡ Err e
        → CreateSubscriber environment shown given shown (Some e)
    created-refused e h = created shown (Some e) (by _ _ _ h) where
      by : (a b c : Bool) → answered a b c (lowest_empty f.subscribers) ≡ Err e
          → Created a b c (lowest_empty f.subscribers) shown (Some e)
      by true b c h = (refl, cc)
      by false true c h = (refl, cc)
      by false false false h = (refl, cc)
      by false false true h = absurd cc

    -- one that has a place is made there, or memory is refused
    pub created-made : (place : ℕ) (s' : State T U) (refusal : Option SubscriberCreateError)
        → place_for_subscriber f given ≡ Ok place
        → MakeSubscriber environment shown given place s' refusal → CreateSubscriber environment shown given s' refusal
    created-made place s' refusal h made =
        let has = has_place place h in
        created s' refusal (by _ _ _ has.numbered has.fits has.low (rw has.lowest made))
      where
        by : (a b c : Bool) → a ≡ false → b ≡ false → c ≡ true
            → MakeSubscriber environment shown given (lowest_empty f.subscribers) s' refusal
            → Created a b c (lowest_empty f.subscribers) s' refusal
        by a b c ea eb ec made = rw (ea, eb, ec) made

  -- a subscriber that has entered at its place
  pub entered-reaches : IsDomain f → (new : Fields T U) (place : ℕ) (y : SubscriberFields) (warnings : WarningRing)
      → place_for_subscriber f given ≡ Ok place
      → y ≡ entering f.next_port place (buffer_for given) given.degradation_handler y.key_room y.expired_room
      → warnings.items ≡ (with_buffer_warning shown f.next_port).warnings → warnings.capacity ≡ warning_limit
      → new ≡ record f {
        next_port = f.next_port + 1;
        warnings = warnings;
        publishers = map (option_map due) f.publishers;
        subscribers = placed f.subscribers place y;
      }
      → Reaches f new (with_new_subscriber shown given place)
  entered-reaches sound new place y warnings h is warned limit changed =
      let has = has_place place h in
      let free : get_or f.subscribers place None ≡ None =
      subst (λ (p : ℕ). get_or f.subscribers p None ≡ None) has.lowest (lowest_empty-free f.subscribers) in
      let next : place ≤ length f.subscribers =
      subst (λ (p : ℕ). p ≤ length f.subscribers) has.lowest (lowest_empty-low f.subscribers) in
      let after : Fields T U = with_admitted f sound warnings place given y.key_room y.expired_room free in
      let same : new ≡ after =
      changed ∙ ap (λ (z : SubscriberFields). record f {
        next_port = f.next_port + 1;
        warnings = warnings;
        publishers = map (option_map due) f.publishers;
        subscribers = placed f.subscribers place z;
      }) is in
      subst (λ (g : Fields T U). Reaches f g (with_new_subscriber shown given place)) (sym same) (record {
        agrees = admitted-agrees f sound warnings place given y.key_room y.expired_room free warned limit
            (ltb-false _ _ has.fits)
            (subst (λ (p : ℕ). suc p ≤ (f.config).max_subscribers) has.lowest (ltb-true _ _ has.low)) next;
        state = admitted-is f sound warnings place given y.key_room y.expired_room free warned;
        entries = λ n entry at. at;
        places = places-still;
      })

  -- a subscriber that has entered, where the fields are known by another name, and two of the new ones
  pub has-entered : (before : Fields T U) → before ≡ f → IsDomain f
      → (place : ℕ) (y : SubscriberFields) (warnings : WarningRing)
      → (publishers : List (Option PublisherFields)) (subscribers : List (Option SubscriberFields))
      → place_for_subscriber f given ≡ Ok place
      → y ≡ entering before.next_port place (buffer_for given) given.degradation_handler y.key_room y.expired_room
      → warnings ≡ warning_ring
      (with_buffer_warning (state_of (kept_of before)) before.next_port).warnings warning_limit
      → publishers ≡ map (option_map due) before.publishers → subscribers ≡ placed before.subscribers place y
      → Reaches f (record before {
        next_port = before.next_port + 1;
        warnings = warnings;
        publishers = publishers;
        subscribers = subscribers;
      }) (with_new_subscriber shown given place)
      × (z : SubscriberFields) × (get_or subscribers place None ≡ Some z) × (z.id ≡ f.next_port)
  has-entered before e sound place y warnings publishers subscribers h is warned all_due put = (
    entered-reaches sound (record before {
      next_port = before.next_port + 1;
      warnings = warnings;
      publishers = publishers;
      subscribers = subscribers;
    }) place y warnings h
        (subst (λ (g : Fields T U).
        y ≡ entering g.next_port place (buffer_for given) given.degradation_handler y.key_room y.expired_room) e is)
        (ap (λ (ws : WarningRing). ws.items) warned
        ∙ ap (λ (g : Fields T U). (with_buffer_warning (state_of (kept_of g)) g.next_port).warnings) e)
        (ap (λ (ws : WarningRing). ws.capacity) warned)
        (same ∙ ap (λ (g : Fields T U). record g {
          next_port = g.next_port + 1;
          warnings = warnings;
          publishers = map (option_map due) g.publishers;
          subscribers = placed g.subscribers place y;
        }) e),
    y,
    ap (λ ys. get_or ys place None) put ∙ placed-here y before.subscribers place,
    ap (λ (z : SubscriberFields). z.id) is ∙ ap (λ (g : Fields T U). g.next_port) e,
  ) where
    same : record before
        { next_port = before.next_port + 1; warnings = warnings; publishers = publishers; subscribers = subscribers }
        ≡ record before {
          next_port = before.next_port + 1;
          warnings = warnings;
          publishers = map (option_map due) before.publishers;
          subscribers = placed before.subscribers place y;
        }
    same = λ i. record before
        { next_port = before.next_port + 1; warnings = warnings; publishers = all_due i; subscribers = put i }

  -- a subscriber that has entered, after its first update
  pub created-reaches : (environment : Environment) (mid new : Fields T U) (place : ℕ)
      → place_for_subscriber f given ≡ Ok place
      → Reaches f mid (with_new_subscriber shown given place) × (z : SubscriberFields)
      × (get_or mid.subscribers place None ≡ Some z) × (z.id ≡ f.next_port)
      → ((y : SubscriberFields) → get_or mid.subscribers place None ≡ Some y
      → SubscriberFirstUpdates environment mid place y new)
      → (s' : State T U) × CreateSubscriber environment shown given s' None × Reaches f new s'
  created-reaches environment mid new place h entered updates =
      let updated = updates entered.1 entered.2 in
      let first : FirstSubscriberUpdate environment (with_new_subscriber shown given place) f.next_port updated.after =
      subst (λ (q : ℕ). FirstSubscriberUpdate environment (with_new_subscriber shown given place) q updated.after)
      entered.3
      (subst (λ (s : State T U). FirstSubscriberUpdate environment s entered.1.id updated.after) entered.0.state
      updated.updates) in (
        updated.after,
        created-made environment place updated.after None h first,
        reaches-then f mid new (with_new_subscriber shown given place) updated.after entered.0 updated.reaches,
      )

  -- no place before it is free
  pub place-low : (before : Fields T U) (place : ℕ) → before ≡ f → place_for_subscriber f given ≡ Ok place
      → place ≤ length before.subscribers
  place-low before place e h =
      subst (λ (g : Fields T U). place ≤ length g.subscribers) (sym e)
      (subst (λ (p : ℕ). p ≤ length f.subscribers) (has_place place h).lowest (lowest_empty-low f.subscribers))
