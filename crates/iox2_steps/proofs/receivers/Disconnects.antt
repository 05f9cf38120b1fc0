-- A step of the second walk, over the empty places.
use Rattle.std.proofs.Common.{◌≡◌, ℕ, true, false, get_or, refl, ap, sym, subst, ◌∙◌}
use Rattle.std.specs.Bool.{MatchBool}
use Rattle.std.specs.Prelude.{MatchOption}
use Rattle.std.specs.declared.option.Option.{Option}
use Rattle.std.specs.declared.option.Option.TheVariants.{None, Some}
use Rattle.std.specs.Option.{option_map}
use Rattle.iox2_connections.specs.Link.{Link}
use Rattle.iox2_machine.specs.machine.Connections.{expired_buffer_full}
use Rattle.iox2_machine.specs.machine.Limits.{expired_limit}
use Rattle.iox2_machine.specs.machine.Places.{occupant}
use Rattle.iox2_machine.specs.machine.Records.{Environment}
use Rattle.iox2_machine.specs.machine.State.{has_sender_end}
use Rattle.iox2_machine.specs.machine.SubscriberUpdate.{ReceiverSide, Retirement, Retire, is_refused, after_retirement}
use Rattle.iox2_machine.specs.machine.SubscriberUpdate.{with_end}
use Rattle.iox2_machine.specs.declared.errors.ConnectionFailure.{ConnectionFailure}
use Rattle.iox2_connections.specs.Mailboxes.{publisher_of_key}
use Rattle.iox2_domain.specs.Ports.{PublisherFields, SubscriberFields}
use Rattle.iox2_domain.specs.Fields.{Fields}
use Rattle.iox2_domain.specs.Invariant.{IsDomain}
use Rattle.iox2_domain.specs.ReceiverSteps.{current_side, HasDepartedEnd, RetiresReceiver, Retired, Refused, retired}
use Rattle.iox2_domain.specs.ReceiverSteps.{refused, machine_retirement, DisconnectsAt}
use Rattle.iox2_domain.proofs.lemmas.fields.Standing.{occupant-receiver_ends, publisher-at, publisher-listed}
use Rattle.iox2_domain.proofs.lemmas.fields.Standing.{receiver-link}
use Rattle.iox2_steps.proofs.receivers.Retirements.{here}
use Rattle.iox2_steps.proofs.receivers.Compositions.{unchanged}
use Rattle.iox2_domain.proofs.lemmas.fields.NamedPorts.{seen, seen_subscriber}

module _ {T U : Type 0} (environment : Environment) (f : Fields T U) (sound : IsDomain f) (j i : ℕ)
    (y : SubscriberFields) (at : get_or f.subscribers j None ≡ Some y) where
  abbrev side : ReceiverSide
  side = current_side (seen f) y.id (seen_subscriber f y)

  -- the machine's step, by who stands at the place and at the end
  abbrev Step : Option ℕ → Option ℕ → ReceiverSide → Option ConnectionFailure → Type 0
  Step who end side' failure =
      MatchOption who
      (MatchOption end
      ((side' ≡ side) × (failure ≡ None))
      (λ old. Retire environment (f.config).service_id y.id (seen_subscriber f y).degradation_handler
      (expired_limit f.config) (λ r. has_sender_end (seen f) r y.id) side i old side' failure
      (λ mid. (side' ≡ mid) × (failure ≡ None))))
      (λ p. (side' ≡ side) × (failure ≡ None))

  -- where a publisher stands nothing is done
  pub taken-place : (x : PublisherFields) → get_or f.publishers i None ≡ Some x
      → DisconnectsAt environment f j i y f None
  taken-place x at_x = (
    side,
    unchanged f sound j y at,
    subst (λ who. Step who (occupant (seen_subscriber f y).ends i) side None)
        (sym (publisher-listed f sound.parts i x at_x)) (refl, refl),
  )

  -- nor where there is no end
  pub no-end : get_or f.publishers i None ≡ None → get_or y.keys i None ≡ None
      → DisconnectsAt environment f j i y f None
  no-end nobody none = (
    side,
    unchanged f sound j y at,
    subst (λ who. Step who (occupant (seen_subscriber f y).ends i) side None)
        (sym (publisher-at f sound.parts i ∙ ap (option_map (λ (x : PublisherFields). x.id)) nobody))
        (subst (λ end. Step None end side None) (sym
        (occupant-receiver_ends f.connections y.keys i ∙ ap (publisher_of_key f.connections) none)) (refl, refl)),
  )

  -- the end there is a departed publisher's
  pub departed-end : get_or f.publishers i None ≡ None → (key : ℕ) → get_or y.keys i None ≡ Some key
      → (c : Link) × HasDepartedEnd f j i y key c
  departed-end nobody key has =
      let own = receiver-link f sound.parts j i key y at has in (
        own.0,
        record {
          stands = at;
          has = has;
          link = own.1;
          gone = λ x at_x _. let no : None ≡ Some x = sym nobody ∙ at_x in
              absurd cc;
        },
      )

  -- which is retired, or that is refused
  pub retired-there : get_or f.publishers i None ≡ None → (key : ℕ) (c : Link) (end : HasDepartedEnd f j i y key c)
      (f' : Fields T U) → RetiresReceiver f j i y c.home.publisher f' true
      → DisconnectsAt environment f j i y f' None
  retired-there nobody key c end f' (Retired unrefused changes) = (
    retired f i y c.home.publisher (machine_retirement f y c.home.publisher),
    changes,
    subst (λ who. Step who (occupant (seen_subscriber f y).ends i)
        (retired f i y c.home.publisher (machine_retirement f y c.home.publisher)) None)
        (sym (publisher-at f sound.parts i ∙ ap (option_map (λ (x : PublisherFields). x.id)) nobody))
        (subst (λ there. Step None there (retired f i y c.home.publisher (machine_retirement f y c.home.publisher))
        None) (sym (here f sound j i y key c end))
        (subst (λ b. MatchBool b
        ((retired f i y c.home.publisher (machine_retirement f y c.home.publisher) ≡ after_retirement y.id side
        c.home.publisher (machine_retirement f y c.home.publisher)) × (None ≡ Some expired_buffer_full))
        ((retired f i y c.home.publisher (machine_retirement f y c.home.publisher) ≡ retired f i y c.home.publisher
        (machine_retirement f y c.home.publisher)) × (◌≡◌ {A = Option ConnectionFailure} None None)))
        (sym unrefused) (refl, refl))),
  )

  pub refused-there : get_or f.publishers i None ≡ None → (key : ℕ) (c : Link) (end : HasDepartedEnd f j i y key c)
      (f' : Fields T U) → RetiresReceiver f j i y c.home.publisher f' false
      → DisconnectsAt environment f j i y f' (Some expired_buffer_full)
  refused-there nobody key c end f' (Refused is changes) = (
    refused f y c.home.publisher,
    changes,
    subst (λ who. Step who (occupant (seen_subscriber f y).ends i) (refused f y c.home.publisher)
        (Some expired_buffer_full))
        (sym (publisher-at f sound.parts i ∙ ap (option_map (λ (x : PublisherFields). x.id)) nobody))
        (subst (λ there. Step None there (refused f y c.home.publisher) (Some expired_buffer_full))
        (sym (here f sound j i y key c end))
        (subst (λ (how : Retirement). MatchBool (is_refused how)
        ((refused f y c.home.publisher ≡ after_retirement y.id side c.home.publisher how)
        × (◌≡◌ {A = Option ConnectionFailure} (Some expired_buffer_full) (Some expired_buffer_full)))
        ((refused f y c.home.publisher ≡ with_end (after_retirement y.id side c.home.publisher how) i None)
        × (Some expired_buffer_full ≡ None)))
        (sym is) (refl, refl))),
  )
