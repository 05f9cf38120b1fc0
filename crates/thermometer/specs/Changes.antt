-- What a change of a loan leaves.
use Rattle.std.specs.Prelude.{◌≡◌, ℕ}
use Rattle.iox2_domain.specs.Kept.{Kept}
use Rattle.iox2_pubsub.specs.Leaves.{LeavesBut}
use Rattle.iox2_pubsub.specs.Live.{IsWrittenLoan, LoanHasUserHeader, written_loan}
use Rattle.iox2_pubsub.specs.declared.sample_mut.SampleMut.{SampleMut}
use Rattle.iox2_machine.specs.declared.key.Key.{Key}

-- The handle is the same one and the loan can still be sent. What else is live reads as before, and what waits still
-- does.
pub record ChangesLoan {T U F G : Type 0} (old new : Kept T U F G) (before after : SampleMut) : Type 0 where
  pub same : after ≡ before
  pub live : IsWrittenLoan new after
  pub leaves : LeavesBut (written_loan before) old new

-- The loan with the second key is of the same sensor as the loan with the first key was.
abbrev pub SensorStays : {T F G : Type 0} → (old new : Kept T ℕ F G) → (before after : Key) → Type 0
SensorStays old new before after =
    (sensor : ℕ) → LoanHasUserHeader old before sensor → LoanHasUserHeader new after sensor
