-- A step of the first walk, over the places where publishers stand.
use Rattle.std.proofs.Common.{◌≡◌, ◌≢◌, ℕ, true, false, Bool, eqb, List, map, get_or, refl, ap, sym, subst, ◌∙◌}
use Rattle.std.proofs.lemmas.Bool.{ne_eqb, eq-eqb}
use Rattle.std.specs.Bool.{MatchBool}
use Rattle.std.specs.Prelude.{MatchOption}
use Rattle.std.specs.declared.option.Option.{Option}
use Rattle.std.specs.declared.option.Option.TheVariants.{None, Some}
use Rattle.std.specs.Option.{option_map}
use Rattle.slab.specs.Slab.{get}
use Rattle.iox2_connections.specs.Link.{Link}
use Rattle.iox2_machine.specs.machine.Connections.{expired_buffer_full}
use Rattle.iox2_machine.specs.machine.Limits.{expired_limit}
use Rattle.iox2_machine.specs.machine.Places.{occupant, set_place}
use Rattle.iox2_machine.specs.machine.Records.{Subscriber, Environment}
use Rattle.iox2_machine.specs.machine.State.{has_sender_end}
use Rattle.iox2_machine.specs.machine.SubscriberUpdate.{ReceiverSide, Retirement, Retire, ConnectReceiver, is_refused}
use Rattle.iox2_machine.specs.machine.SubscriberUpdate.{after_retirement, with_end}
use Rattle.iox2_machine.specs.declared.errors.ConnectionFailure.{ConnectionFailure}
use Rattle.iox2_machine.specs.declared.service_config.ServiceConfig.{ServiceConfig}
use Rattle.iox2_laws.proofs.PlaceLemmas.{occupant-set_place}
use Rattle.iox2_connections.specs.Mailboxes.{publisher_of_key}
use Rattle.iox2_domain.specs.Ports.{PublisherFields, SubscriberFields}
use Rattle.iox2_domain.specs.Kept.{state_of}
use Rattle.iox2_domain.specs.Fields.{Fields, kept_of, subscriber_of}
use Rattle.iox2_domain.specs.Invariant.{IsDomain}
use Rattle.iox2_domain.specs.ReceiverSteps.{current_side, HasDepartedEnd, ChangesReceiver, RetiresReceiver, Retired}
use Rattle.iox2_domain.specs.ReceiverSteps.{Refused, retired, refused, machine_retirement, ConnectsEnd, ConnectsAt}
use Rattle.iox2_domain.specs.Updates.{publisher_but_room}
use Rattle.iox2_domain.proofs.lemmas.containers.LookUps.{map-at, viewed}
use Rattle.iox2_domain.proofs.lemmas.fields.Standing.{occupant-receiver_ends, publisher-at, publisher-listed}
use Rattle.iox2_domain.proofs.lemmas.fields.Standing.{receiver-link}
use Rattle.iox2_steps.proofs.updates.ReceiverActions.{connect-keeps, connect-makes}
use Rattle.iox2_steps.proofs.receivers.Retirements.{here}
use Rattle.iox2_steps.proofs.receivers.Compositions.{unchanged, changed, changed-stands, port-is, side-again}
use Rattle.iox2_steps.proofs.receivers.Compositions.{senders-again, config-again, changes-more}
use Rattle.iox2_domain.proofs.lemmas.fields.NamedPorts.{seen, seen_subscriber}

-- who stood at a place stands there, but for its room
listed-still : (xs ys : List (Option PublisherFields)) (i : ℕ) (x : PublisherFields) → get_or xs i None ≡ Some x
    → map (option_map publisher_but_room) ys ≡ map (option_map publisher_but_room) xs
    → (w : PublisherFields) × (get_or ys i None ≡ Some w) × (w.id ≡ x.id)
listed-still xs ys i x at same =
    let there = viewed publisher_but_room ys i (publisher_but_room x)
    (ap (λ zs. get_or zs i None) same ∙ map-at publisher_but_room xs i ∙ ap (option_map publisher_but_room) at) in
    (there.0, there.1, sym (ap (λ (z : PublisherFields). z.id) there.2))

module _ {T U : Type 0} (environment : Environment) (f : Fields T U) (sound : IsDomain f) (j i : ℕ)
    (y : SubscriberFields) (at : get_or f.subscribers j None ≡ Some y) where
  abbrev side : ReceiverSide
  side = current_side (seen f) y.id (seen_subscriber f y)

  abbrev Connects : ReceiverSide → (p : ℕ) → ReceiverSide → Option ConnectionFailure → Type 0
  Connects mid p side' failure =
      ConnectReceiver environment (f.config).service_id y.id (seen_subscriber f y).degradation_handler
      (expired_limit f.config) (λ r. has_sender_end (seen f) r y.id) mid i p side' failure

  -- the machine's step, by who stands at the place and at the end
  abbrev Step : Option ℕ → Option ℕ → ReceiverSide → Option ConnectionFailure → Type 0
  Step who end side' failure =
      MatchOption who
      ((side' ≡ side) × (failure ≡ None))
      (λ p. MatchOption end
      (Connects side p side' failure)
      (λ old. MatchBool (eqb old p)
      ((side' ≡ side) × (failure ≡ None))
      (Retire environment (f.config).service_id y.id (seen_subscriber f y).degradation_handler (expired_limit f.config)
      (λ r. has_sender_end (seen f) r y.id) side i old side' failure (λ mid. Connects mid p side' failure))))

  -- nothing is done at an empty place
  pub empty-place : get_or f.publishers i None ≡ None → ConnectsAt environment f j i y f None
  empty-place nobody = (
    side,
    unchanged f sound j y at,
    subst (λ who. Step who (occupant (seen_subscriber f y).ends i) side None)
        (sym (publisher-at f sound.parts i ∙ ap (option_map (λ (x : PublisherFields). x.id)) nobody)) (refl, refl),
  )

  module _ (x : PublisherFields) (at_x : get_or f.publishers i None ≡ Some x) where
    -- an end to the publisher stays
    pub keeps-end : (key : ℕ) (c : Link) → get_or y.keys i None ≡ Some key → get f.connections key ≡ Some c
        → c.home.publisher ≡ x.id → ConnectsAt environment f j i y f None
    keeps-end key c has link its = (
      side,
      unchanged f sound j y at,
      connect-keeps environment (f.config).service_id y.id (seen_subscriber f y).degradation_handler
          (expired_limit f.config) (λ r. has_sender_end (seen f) r y.id) i x.id
          (occupant (seen f).publisher_places i) side (publisher-listed f sound.parts i x at_x)
          (occupant-receiver_ends f.connections y.keys i ∙ ap (publisher_of_key f.connections) has
          ∙ ap (option_map (λ (d : Link). d.home.publisher)) link ∙ ap Some its),
    )

    -- where there is none, one is made
    pub makes-end : get_or y.keys i None ≡ None → (f' : Fields T U) (failure : Option ConnectionFailure)
        → ConnectsEnd environment f j i y x.id f' failure → ConnectsAt environment f j i y f' failure
    makes-end none f' failure (side', changes, step) = (
      side',
      changes,
      connect-makes environment (f.config).service_id y.id (seen_subscriber f y).degradation_handler
          (expired_limit f.config) (λ r. has_sender_end (seen f) r y.id) i x.id
          (occupant (seen f).publisher_places i) side (publisher-listed f sound.parts i x at_x) side' failure
          (occupant-receiver_ends f.connections y.keys i ∙ ap (publisher_of_key f.connections) none) step,
    )

    -- another one's end is a departed publisher's
    pub departed-end : (key : ℕ) (c : Link) → get_or y.keys i None ≡ Some key → get f.connections key ≡ Some c
        → c.home.publisher ≢ x.id → HasDepartedEnd f j i y key c
    departed-end key c has link other = record {
      stands = at;
      has = has;
      link = link;
      gone = λ z at_z same.
          let both : Some z ≡ Some x = sym at_z ∙ at_x in
          let is : z ≡ x = cc in
          other (sym same ∙ ap (λ (w : PublisherFields). w.id) is);
    }

    module _ (key : ℕ) (c : Link) (end : HasDepartedEnd f j i y key c) where
      abbrev p : ℕ
      p = c.home.publisher

      apart : eqb p x.id ≡ false
      apart = ne_eqb p x.id (λ same. end.gone x at_x (sym same))

      at-step : (side' : ReceiverSide) (failure : Option ConnectionFailure)
          → Retire environment (f.config).service_id y.id (seen_subscriber f y).degradation_handler
          (expired_limit f.config) (λ r. has_sender_end (seen f) r y.id) side i p side' failure
          (λ mid. Connects mid x.id side' failure)
          → Step (occupant (seen f).publisher_places i) (occupant (seen_subscriber f y).ends i) side' failure
      at-step side' failure retire =
          subst (λ who. Step who (occupant (seen_subscriber f y).ends i) side' failure)
          (sym (publisher-listed f sound.parts i x at_x))
          (subst (λ there. Step (Some x.id) there side' failure) (sym (here f sound j i y key c end))
          (subst (λ b. MatchBool b ((side' ≡ side) × (failure ≡ None))
          (Retire environment (f.config).service_id y.id (seen_subscriber f y).degradation_handler
          (expired_limit f.config) (λ r. has_sender_end (seen f) r y.id) side i p side' failure
          (λ mid. Connects mid x.id side' failure)))
          (sym apart) retire))

      -- the retirement is refused
      pub refused-there : (f' : Fields T U) → RetiresReceiver f j i y p f' false
          → ConnectsAt environment f j i y f' (Some expired_buffer_full)
      refused-there f' (Refused is changes) = (
        refused f y p,
        changes,
        at-step (refused f y p) (Some expired_buffer_full)
            (subst (λ (how : Retirement). MatchBool (is_refused how)
            ((refused f y p ≡ after_retirement y.id side p how)
            × (◌≡◌ {A = Option ConnectionFailure} (Some expired_buffer_full) (Some expired_buffer_full)))
            (Connects (with_end (after_retirement y.id side p how) i None) x.id (refused f y p)
            (Some expired_buffer_full)))
            (sym is) (refl, refl)),
      )

      -- it is retired, and then the end is made
      module _ (how : Retirement) (is : how ≡ machine_retirement f y p) (unrefused : is_refused how ≡ false)
          (f1 : Fields T U) (ch : ChangesReceiver f j y (retired f i y p how) f1) where
        abbrev mid : SubscriberFields
        mid = changed f sound j y at (retired f i y p how) f1 ch

        -- no key is left at the place
        pub vacant : get_or mid.keys i None ≡ None
        vacant = by (get_or mid.keys i None) refl where
          nothing : occupant (subscriber_of f1.books f1.connections mid).port.ends i ≡ None
          nothing =
              ap (λ (z : Subscriber). occupant z.ends i) (port-is f sound j y at (retired f i y p how) f1 ch)
              ∙ unset (after_retirement y.id side p how).ends
            where
              unset : (ends : List (Option ℕ)) → occupant (set_place ends i None) i ≡ None
              unset ends = occupant-set_place ends i None i ∙ (let same = eq-eqb i i refl in rw same refl)

          by : (o : Option ℕ) → get_or mid.keys i None ≡ o → o ≡ None
          by None e = refl
          by (Some k) e =
              let own = receiver-link f1 ch.agrees.parts j i k mid
              (changed-stands f sound j y at (retired f i y p how) f1 ch) e in
              let leads : occupant (subscriber_of f1.books f1.connections mid).port.ends i ≡ Some own.0.home.publisher =
              occupant-receiver_ends f1.connections mid.keys i ∙ ap (publisher_of_key f1.connections) e
              ∙ ap (option_map (λ (d : Link). d.home.publisher)) own.1 in
              let no : None ≡ Some own.0.home.publisher = sym nothing ∙ leads in
              absurd cc

        pub retired-then : (f' : Fields T U) (failure : Option ConnectionFailure)
            → ConnectsEnd environment f1 j i mid x.id f' failure → ConnectsAt environment f j i y f' failure
        retired-then f' failure (side', changes, step) = (
          side',
          changes-more f sound j y at (retired f i y p how) f1 ch side' f' changes,
          at-step side' failure
              (subst (λ (h : Retirement). MatchBool (is_refused h)
              ((side' ≡ after_retirement y.id side p h) × (failure ≡ Some expired_buffer_full))
              (Connects (with_end (after_retirement y.id side p h) i None) x.id side' failure)) is
              (subst (λ b. MatchBool b ((side' ≡ after_retirement y.id side p how)
              × (failure ≡ Some expired_buffer_full)) (Connects (retired f i y p how) x.id side' failure))
              (sym unrefused) then)),
        ) where
          then : Connects (retired f i y p how) x.id side' failure
          then =
              subst (λ (now : ReceiverSide). Connects now x.id side' failure)
              (side-again f sound j y at (retired f i y p how) f1 ch)
              (subst (λ (has : ℕ → Bool). ConnectReceiver environment (f.config).service_id y.id
              (seen_subscriber f y).degradation_handler (expired_limit f.config) has
              (current_side (state_of (kept_of f1)) y.id (subscriber_of f1.books f1.connections mid).port) i x.id side'
              failure) (senders-again f sound j y at (retired f i y p how) f1 ch)
              (subst (λ (config : ServiceConfig). ConnectReceiver environment config.service_id y.id
              (seen_subscriber f y).degradation_handler (expired_limit config)
              (λ r. has_sender_end (state_of (kept_of f1)) r y.id)
              (current_side (state_of (kept_of f1)) y.id (subscriber_of f1.books f1.connections mid).port) i x.id side'
              failure) (config-again f sound j y at (retired f i y p how) f1 ch) step))

      -- what is known after the retirement, and what the step comes to then
      pub record AfterRetirement (f1 : Fields T U) : Type 0 where
        pub agrees : IsDomain f1
        pub subscriber : (z : SubscriberFields) × (get_or f1.subscribers j None ≡ Some z)
            × (get_or z.keys i None ≡ None)
        pub publisher : (w : PublisherFields) × (get_or f1.publishers i None ≡ Some w) × (w.id ≡ x.id)
        pub then : (f' : Fields T U) (failure : Option ConnectionFailure)
            → ((z : SubscriberFields) → get_or f1.subscribers j None ≡ Some z
            → ConnectsEnd environment f1 j i z x.id f' failure)
            → ConnectsAt environment f j i y f' failure

      pub after-retirement : (f1 : Fields T U) → RetiresReceiver f j i y p f1 true → AfterRetirement f1
      after-retirement f1 (Retired unrefused changes) =
          let how = machine_retirement f y p in
          let there = changed-stands f sound j y at (retired f i y p how) f1 changes in
          record {
            agrees = changes.agrees;
            subscriber = (mid how refl unrefused f1 changes, there, vacant how refl unrefused f1 changes);
            publisher = listed-still f.publishers f1.publishers i x at_x changes.others;
            then = λ f' failure step.
                retired-then how refl unrefused f1 changes f' failure (step (mid how refl unrefused f1 changes) there);
          }
