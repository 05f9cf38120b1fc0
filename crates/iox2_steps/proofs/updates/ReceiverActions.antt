-- What the machine does at a publisher's place.
use Rattle.std.proofs.Common.{◌≡◌, ◌==◌, ℕ, Bool, refl, sym, subst}
use Rattle.std.proofs.lemmas.Bool.{eq-eqb}
use Rattle.std.specs.Bool.{MatchBool}
use Rattle.std.specs.Prelude.{MatchOption}
use Rattle.std.specs.declared.option.Option.{Option}
use Rattle.std.specs.declared.option.Option.TheVariants.{None, Some}
use Rattle.iox2_machine.specs.machine.Places.{occupant}
use Rattle.iox2_machine.specs.machine.Records.{Handler, Environment}
use Rattle.iox2_machine.specs.machine.SubscriberUpdate.{ReceiverSide, ConnectReceiver, ConnectAtPlace, Retire}
use Rattle.iox2_machine.specs.declared.degradation.DegradationAction.{DegradationAction}
use Rattle.iox2_machine.specs.declared.errors.ConnectionFailure.{ConnectionFailure}

module _ (environment : Environment) (service_id q : ℕ) (handler : Handler DegradationAction) (limit : ℕ)
    (has_end : ℕ → Bool)
    (place p : ℕ) (at : Option ℕ) (side : ReceiverSide) (stands : at ≡ Some p) where
  abbrev Connects : Option ℕ → Option ℕ → ReceiverSide → Option ConnectionFailure → Type 0
  Connects who end side' failure =
      MatchOption who
      ((side' ≡ side) × (failure ≡ None))
      (λ r. MatchOption end
      (ConnectReceiver environment service_id q handler limit has_end side place r side' failure)
      (λ old. MatchBool (old == r)
      ((side' ≡ side) × (failure ≡ None))
      (Retire environment service_id q handler limit has_end side place old side' failure
      (λ mid. ConnectReceiver environment service_id q handler limit has_end mid place r side' failure))))

  -- an end to the publisher stays
  pub connect-keeps : occupant side.ends place ≡ Some p
      → ConnectAtPlace environment service_id q handler limit has_end place at side side None
  connect-keeps there =
      subst (λ who. Connects who (occupant side.ends place) side None) (sym stands)
      (subst (λ end. Connects (Some p) end side None) (sym there)
      (subst (λ b. MatchBool b ((side ≡ side) × (◌≡◌ {A = Option ConnectionFailure} None None))
      (Retire environment service_id q handler limit has_end side place p side None
      (λ mid. ConnectReceiver environment service_id q handler limit has_end mid place p side None)))
      (sym (eq-eqb p p refl)) (refl, refl)))

  -- where there is no end one is made
  pub connect-makes : (side' : ReceiverSide) (failure : Option ConnectionFailure) → occupant side.ends place ≡ None
      → ConnectReceiver environment service_id q handler limit has_end side place p side' failure
      → ConnectAtPlace environment service_id q handler limit has_end place at side side' failure
  connect-makes side' failure none step =
      subst (λ who. Connects who (occupant side.ends place) side' failure) (sym stands)
      (subst (λ end. Connects (Some p) end side' failure) (sym none) step)
