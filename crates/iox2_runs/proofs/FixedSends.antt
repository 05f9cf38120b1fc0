-- Publishers without boxes: none of them gets one, and what they send is sent where no port has a box.
use Rattle.std.proofs.Common.{◌≡◌, ℕ, ◌<◌, refl, sym, ap, ◌∙◌, Option, None, Some, false, take, drop, List}
use Rattle.std.proofs.lemmas.Option.{none-some, same_Some}
use Rattle.std.specs.Option.{option_map}
use Rattle.std.specs.declared.time.Duration.{Duration}
use Rattle.iox2_machine.specs.machine.Environments.{fixed_handlers}
use Rattle.iox2_machine.specs.machine.Records.{BlockedSend, Custom, Environment, Fixed, Handler, Loan, Publisher}
use Rattle.iox2_machine.specs.machine.Sends.{Send, Retry, GiveUp, SendResult, SendToConnection, DeliverAndConclude}
use Rattle.iox2_machine.specs.machine.Sends.{Send_error}
use Rattle.iox2_machine.specs.machine.State.{State, with_loan}
use Rattle.iox2_machine.specs.declared.backpressure.BackpressureAction.{BackpressureAction}
use Rattle.iox2_machine.specs.declared.degradation.DegradationAction.{DegradationAction}
use Rattle.iox2_laws.proofs.Waits.{Waits, update_publisher_waits}
use Rattle.iox2_connections.proofs.AnyEnvironment.{AllowsAsMuch}
use Rattle.iox2_steps.proofs.sends.AnySends.{MayAnswerAsMuch, sends-alike, retries-alike, gives_up-alike}
use Rattle.iox2_steps.proofs.sends.AnySends.{concludes-alike}
use Rattle.iox2_steps.proofs.updates.AnyBoxes.{AllowsUpdates}
use Rattle.iox2_runs.specs.Tables.{HasNoBox}
use Rattle.iox2_runs.proofs.TableSteps.{Nobody}
use Rattle.std.specs.Prelude.{MatchOption}
use Rattle.iox2_machine.specs.machine.Delivery.{no_time}
use Rattle.iox2_machine.specs.declared.errors.SendError.TheVariants.{ConnectionBrokenSinceSenderNoLongerExists}
use Rattle.iox2_laws.specs.Sendings.{sending}

-- a handler that always gives the same answer is no box
pub fixed_unboxed : (answer : Option BackpressureAction)
    → option_map {U = Handler BackpressureAction} (λ action. Fixed action) answer ≡ Some Custom → ⊥
fixed_unboxed None e = none-some Custom e
fixed_unboxed (Some action) e = let clash : Fixed action ≡ Custom = same_Some (Fixed action) Custom e in absurd cc

-- nor is one for refused connections
pub always_unboxed : (action : DegradationAction) → Fixed action ≡ Custom → ⊥
always_unboxed action e = cc

module _ {T U : Type 0} where
  -- a publisher that is there with other handlers has no box
  pub unboxed_there : (s : State T U) (p : ℕ) (x : Publisher) → s.publishers p ≡ Some x
      → (x.backpressure_handler ≡ Some Custom → ⊥) → (x.degradation_handler ≡ Custom → ⊥) → HasNoBox s p
  unboxed_there s p x there other calm y at =
      let same : y ≡ x = same_Some y x (sym at ∙ there) in (
        λ boxed. other (ap (λ (z : Publisher). z.backpressure_handler) (sym same) ∙ boxed),
        λ boxed. calm (ap (λ (z : Publisher). z.degradation_handler) (sym same) ∙ boxed),
      )

  -- one that has no box gets none
  pub unboxed_still : (Spared : ℕ → Type 0) (s s' : State T U) → Waits Spared s s' → (p : ℕ) → p < s.next_port
      → HasNoBox s p → HasNoBox s' p
  unboxed_still Spared s s' waits p low none x there =
      let was = waits.publishers p x low there in
      let had = none was.0 was.1 in
      (λ boxed. had.0 (sym (was.2).handler ∙ boxed), λ boxed. had.1 (sym (was.2).degradation ∙ boxed))

-- a port without a box answers as it does where no port has one, and as much memory may be refused
pub calm : (environment : Environment) (port : ℕ) (handler : Handler DegradationAction) → (handler ≡ Custom → ⊥)
    → AllowsUpdates environment fixed_handlers port handler
calm environment port (Fixed action) other = record { memory = λ may. tt; answers = tt }
calm environment port Custom other = absurd (other refl)

module _ {T U : Type 0} (environment : Environment) where
  -- where there is no box there is nothing to answer
  may_answer : (s : State T U) (p : ℕ) → HasNoBox s p → MayAnswerAsMuch environment fixed_handlers s p
  may_answer s p none x there = by x.backpressure_handler (none x there).0 where
    by : (handler : Option (Handler BackpressureAction)) → (handler ≡ Some Custom → ⊥)
        → AllowsAsMuch environment fixed_handlers p handler
    by None other = tt
    by (Some (Fixed action)) other = tt
    by (Some Custom) other = absurd (other refl)

  -- what a publisher without a box sends is sent where no port has one
  pub sends_fixed : (s : State T U) (n : ℕ) (l : Loan T U) (s' : State T U) (result : SendResult)
      → l.publisher < s.next_port → HasNoBox s l.publisher → Send environment s n l s' result
      → Send fixed_handlers s n l s' result
  sends_fixed s n l s' result low none =
      sends-alike environment fixed_handlers s n l s' result
      (λ x there. calm environment l.publisher x.degradation_handler (none x there).1)
      (λ mid updated. may_answer mid l.publisher (unboxed_still Nobody s mid
      (update_publisher_waits Nobody environment s l.publisher mid None updated) l.publisher low none))

  -- so is what it sends to one connection
  pub connection_sends_fixed : (s : State T U) (n : ℕ) (l : Loan T U) (channel place : ℕ) (s' : State T U)
      (result : SendResult)
      → HasNoBox s l.publisher → SendToConnection environment s n l channel place s' result
      → SendToConnection fixed_handlers s n l channel place s' result
  connection_sends_fixed s n l channel place s' result none h = by (s.publishers l.publisher) h
    where
      by : (o : Option Publisher)
          → MatchOption o ((s' ≡ with_loan s n None) × (result ≡ Send_error ConnectionBrokenSinceSenderNoLongerExists))
          (λ x. DeliverAndConclude environment (with_loan s n None) l.publisher
          (sending n channel 0 place (take 1 (drop place x.ends)) 0 false) no_time s' result)
          → MatchOption o ((s' ≡ with_loan s n None) × (result ≡ Send_error ConnectionBrokenSinceSenderNoLongerExists))
          (λ x. DeliverAndConclude fixed_handlers (with_loan s n None) l.publisher
          (sending n channel 0 place (take 1 (drop place x.ends)) 0 false) no_time s' result)
      by None h = h
      by (Some x) h =
          concludes-alike environment fixed_handlers l.publisher n channel 0 no_time place
          (take 1 (drop place x.ends)) 0 false (with_loan s n None) s' result
          (may_answer (with_loan s n None) l.publisher none) h

  -- so is what it tries again
  pub retries_fixed : (s : State T U) (p : ℕ) (b : BlockedSend) (elapsed : Duration) (s' : State T U)
      (result : SendResult)
      → HasNoBox s p → Retry environment s p b elapsed s' result → Retry fixed_handlers s p b elapsed s' result
  retries_fixed s p b elapsed s' result none =
      retries-alike environment fixed_handlers s p b s' result (may_answer s p none) elapsed

  -- and what it gives up
  pub gives_up_fixed : (s : State T U) (p : ℕ) (b : BlockedSend) (s' : State T U) (result : SendResult)
      → HasNoBox s p → GiveUp environment s p b s' result → GiveUp fixed_handlers s p b s' result
  gives_up_fixed s p b s' result none = gives_up-alike environment fixed_handlers s p b s' result (may_answer s p none)
