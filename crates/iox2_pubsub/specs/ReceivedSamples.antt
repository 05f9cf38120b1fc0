-- What a receive returns, and what it gives.
use Rattle.std.specs.Prelude.{ℕ, ◌≡◌, ◌≢◌, ◌<◌, ◌+◌, [], ◌∷◌, suc, length, List, IfErr, IfNone, IfOk, IfSome, IsOk}
use Rattle.std.specs.Prelude.{OnOk, ⊤}
use Rattle.std.specs.declared.option.Option.{Option}
use Rattle.std.specs.declared.option.Option.TheVariants.{None, Some}
use Rattle.std.specs.declared.result.Result.{Result}
use Rattle.std.specs.declared.result.Result.TheVariants.{Ok, Err}
use Rattle.iox2_machine.specs.machine.Receives.{Receive, ReceiveResult, Got_sample, No_sample, Receive_error}
use Rattle.iox2_machine.specs.machine.Records.{Environment}
use Rattle.iox2_machine.specs.declared.errors.ReceiveError.{ReceiveError}
use Rattle.iox2_machine.specs.declared.errors.ReceiveError.TheVariants.{ExceedsMaxBorrows}
use Rattle.iox2_domain.specs.Kept.{Kept}
use Rattle.iox2_pubsub.specs.BorrowsLeft.{BorrowsLeftStay, HasBorrowsLeft, HasBorrowsLeftOf, OthersBorrowsStay}
use Rattle.iox2_pubsub.specs.BorrowsLeft.{TakesOneBorrow}
use Rattle.iox2_pubsub.specs.Leaves.{LeavesButWaiting}
use Rattle.iox2_pubsub.specs.Live.{AreAllSlices, IsConsistent, IsFromOrigin, IsLiveSample, IsNewIn, IsUpToDate}
use Rattle.iox2_pubsub.specs.Live.{KeepsAll, LeavesLater, LeavesOthers, TakesFirst, TakesOldest, WaitingStays, payloads}
use Rattle.iox2_pubsub.specs.Live.{payloads_from, received_sample, sample_key, waiting}
use Rattle.iox2_pubsub.specs.MachineSteps.{TakesStep}
use Rattle.iox2_pubsub.specs.Slices.{SampleHasValues}
use Rattle.iox2_pubsub.specs.Sample.{Sample}
use Rattle.iox2_pubsub.specs.declared.subscriber.Subscriber.{Subscriber}

-- The machine's result if a receive returns this.
abbrev pub received_result : Result (Option Sample) ReceiveError → ReceiveResult
received_result (Ok None) = No_sample
received_result (Ok (Some sample)) = Got_sample sample.origin sample.sample.number
received_result (Err e) = Receive_error e

-- The receive gave no sample, also because it failed; and then this holds.
abbrev pub OnNoSample : Result (Option Sample) ReceiveError → Type 0 → Type 0
OnNoSample (Ok None) then = then
OnNoSample (Ok (Some sample)) then = ⊤
OnNoSample (Err e) then = then

-- The subscriber is given the sample: it is borrowed from its origin, was the oldest that waited from there, reads as
-- that did, and is none that was there before.
pub record IsReceived {T U F G : Type 0} (receiver : Subscriber) (sample : Sample)
    (old new : Kept T U F G) : Type 0 where
  pub live : IsLiveSample new sample
  pub is_new : IsNewIn old (received_sample sample)
  pub origin : IsFromOrigin new sample
  pub subscriber : sample.sample.subscriber ≡ receiver.id
  pub fewer : waiting new receiver < waiting old receiver
  pub one_fewer : KeepsAll old receiver → suc (waiting new receiver) ≡ waiting old receiver
  pub reads : (values : List T) → AreAllSlices (payloads old receiver) values
      → SampleHasValues new (sample_key sample) values
  pub only : (values : List T) → payloads old receiver ≡ values ∷ [] → SampleHasValues new (sample_key sample) values
  pub oldest : TakesOldest receiver sample old new
  pub first : TakesFirst receiver sample old new
  pub later : LeavesLater receiver old new
  pub rest : KeepsAll old receiver → LeavesOthers receiver sample old new
  pub borrows : OthersBorrowsStay sample.origin receiver old new

-- The subscriber receives as the machine does, where handlers answer so, with this result: it is given a sample, or
-- nothing waits for it, or there is an error; and without an error it is up to date.
-- If it is given none, what waits is as it was. While it has borrows left, no limit refuses it one, and if it was up to
-- date nothing does. Nor does anything if it has some left of a publisher of which a message waits, however many it has
-- borrowed of others.
pub record ReceivesSample {T U F G : Type 0} (environment : Environment) (receiver : Subscriber)
    (result : Result (Option Sample) ReceiveError) (old new : Kept T U F G) : Type 0 where
  pub consistent : IsConsistent old
  pub receives : TakesStep old new
      (λ before after. Receive environment before receiver.id after (received_result result))
  pub received : IfOk result (λ sample. IfSome sample (λ it. IsReceived receiver it old new))
  pub none : IfOk result (λ sample. IfNone sample (waiting new receiver ≡ 0))
  pub nothing : KeepsAll old receiver → IfOk result (λ sample. IfNone sample (waiting old receiver ≡ 0))
  pub updated : OnOk result (IsUpToDate new receiver)
  pub undisturbed : KeepsAll old receiver → OnNoSample result (WaitingStays old new)
  pub granted : (n : ℕ) → IsUpToDate old receiver → HasBorrowsLeft old receiver (n + 1) → IsOk result
  pub granted_of : (publisher n : ℕ) → IsUpToDate old receiver → HasBorrowsLeftOf old publisher receiver (n + 1)
      → 0 < length (payloads_from old publisher receiver) → IsOk result
  pub unlimited : (n : ℕ) → HasBorrowsLeft old receiver (n + 1) → IfErr result (λ error. error ≢ ExceedsMaxBorrows)
  pub takes : TakesOneBorrow receiver old new
  pub borrows_left : OnNoSample result (BorrowsLeftStay old new)
  pub leaves : LeavesButWaiting receiver old new
