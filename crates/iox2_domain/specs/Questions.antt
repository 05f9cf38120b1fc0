-- Whether messages wait for a subscriber.
use Rattle.std.specs.Prelude.{◌≡◌, ℕ, Bool, MatchOption}
use Rattle.std.specs.declared.option.Option.TheVariants.{None, Some}
use Rattle.std.specs.declared.result.Result.{Result}
use Rattle.std.specs.declared.result.Result.TheVariants.{Ok, Err}
use Rattle.iox2_machine.specs.machine.Receives.{has_any_data, HasSamples}
use Rattle.iox2_machine.specs.machine.Records.{Environment}
use Rattle.iox2_machine.specs.machine.State.{State}
use Rattle.iox2_machine.specs.declared.errors.ConnectionFailure.{ConnectionFailure}
use Rattle.iox2_domain.specs.Fields.{Fields, kept_of}
use Rattle.iox2_domain.specs.Kept.{state_of}
use Rattle.iox2_domain.specs.Reaches.{Reaches}

module _ {T U : Type 0} where
  -- This is whether any message waits for the subscriber q.
  abbrev pub IsWhetherWaiting : Fields T U → (q : ℕ) → (waits : Bool) → Type 0
  IsWhetherWaiting f q waits =
      MatchOption ((state_of (kept_of f)).subscribers q) ⊥ (λ y.
      waits ≡ has_any_data y (λ p. (state_of (kept_of f)).mailboxes p q))

  -- The subscriber q was asked whether any message waits, with this answer or the failure of its update.
  abbrev pub IsAnswer : Environment → State T U → (q : ℕ) → Result Bool ConnectionFailure → State T U → Type 0
  IsAnswer environment s q (Ok waits) s' = HasSamples environment s q s' None waits
  IsAnswer environment s q (Err failure) s' = (waits : Bool) × HasSamples environment s q s' (Some failure) waits

  -- The subscriber q is updated and asked whether any message waits for it, as the machine does, and this is the
  -- answer.
  abbrev pub AnswersAs : Environment → (old : Fields T U) (q : ℕ) → Result Bool ConnectionFailure → (new : Fields T U)
      → Type 0
  AnswersAs environment old q result new =
      (s' : State T U) × Reaches old new s' × IsAnswer environment (state_of (kept_of old)) q result s'
