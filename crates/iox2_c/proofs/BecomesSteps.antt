-- What a call does to the domain that C owns.
use Rattle.std.proofs.Common.{◌≡◌, ◌≤◌, ◌∙◌, ℕ, sym, subst, arith}
use Rattle.std.specs.declared.option.Option.{Option}
use Rattle.std.specs.declared.option.Option.TheVariants.{None, Some}
use Rattle.std.specs.declared.result.Result.{Result}
use Rattle.iox2_machine.specs.declared.errors.ConnectionFailure.{ConnectionFailure}
use Rattle.iox2_machine.specs.declared.errors.LoanError.{LoanError}
use Rattle.iox2_machine.specs.declared.errors.LoanError.TheVariants.{OutOfMemory, ExceedsMaxLoans, ExceedsMaxLoanSize}
use Rattle.iox2_machine.specs.declared.errors.LoanError.TheVariants.{InternalFailure}
use Rattle.iox2_machine.specs.declared.errors.ReceiveError.{ReceiveError}
use Rattle.iox2_machine.specs.declared.errors.ReceiveError.TheVariants.{ExceedsMaxBorrows}
use Rattle.iox2_machine.specs.declared.errors.ReceiveError.TheVariants.{ConnectionFailure as Not_connected}
use Rattle.iox2_machine.specs.machine.Receives.{ReceiveResult}
use Rattle.iox2_c.specs.Boxed.{Becomes, HoldsFromOldToNew, Lifted}
use Rattle.iox2_c.specs.Codes.{code_of, failure_code, loan_code, receive_code}
use Rattle.iox2_c.specs.Serving.{KeptBytes, Serving}
use Rattle.iox2_c.specs.Steps.{SubscriberReceives}
use Rattle.iox2_c.specs.declared.status.TheConstants.{NO_DOMAIN}

-- a domain that is changed in its box
pub becomes : (P : KeptBytes → KeptBytes → Type 0) (old new : Option Serving) (a b : Serving) → old ≡ Some a
    → new ≡ Some b → P a.domain b.domain → Becomes P old new
becomes P old new a b was is step = subst (λ (o : Option Serving). Becomes P o new) (sym was) (b, is, step)

-- the same with its lengths
pub turns : (P : Serving → Serving → Type 0) (old new : Option Serving) (a b : Serving) → old ≡ Some a → new ≡ Some b
    → P a b → HoldsFromOldToNew P old new
turns P old new a b was is step = subst (λ (o : Option Serving). HoldsFromOldToNew P o new) (sym was) (b, is, step)

-- what a call does to a domain, it does where that is in its box
pub lifted : (Stays : Type 0) (Returns : Serving → Serving → Type 0) (old new : Option Serving) (a b : Serving)
    (code : ℕ) → old ≡ Some a → new ≡ Some b → Returns a b → Lifted Stays Returns old new code
lifted Stays Returns old new a b code was is returns =
    subst (λ (o : Option Serving). Lifted Stays Returns o new code) (sym was) (b, is, returns)

-- and without a domain it does nothing
pub unlifted : (Stays : Type 0) (Returns : Serving → Serving → Type 0) (old new : Option Serving) (code : ℕ)
    → old ≡ None → code ≡ NO_DOMAIN → new ≡ old → Stays → Lifted Stays Returns old new code
unlifted Stays Returns old new code was is same stays =
    subst (λ (o : Option Serving). Lifted Stays Returns o new code) (sym was) (is, same ∙ was, stays)

-- a step in the domain that was opened, by a port's id, is one in the domain, by its numbers
pub moved : (Step : KeptBytes → ℕ → Type 0) (inside old : KeptBytes) (q p : ℕ) → inside ≡ old → q ≡ p → Step inside q
    → Step old p
moved Step inside old q p same id step = subst (λ (k : KeptBytes). Step k p) same (subst (Step inside) id step)

-- and so with an update, which is told by its code
pub told-update : (Updates : KeptBytes → KeptBytes → ℕ → Result (Unit {0}) ConnectionFailure → Type 0)
    (updated : Result (Unit {0}) ConnectionFailure) (code : ℕ) (inside old new : KeptBytes) (q p : ℕ) → inside ≡ old
    → q ≡ p
    → code ≡ code_of failure_code updated → Updates inside new q updated
    → (told : Result (Unit {0}) ConnectionFailure) × (code ≡ code_of failure_code told) × Updates old new p told
told-update Updates updated code inside old new q p same id is step =
    (updated, is, moved (λ k r. Updates k new r updated) inside old q p same id step)

-- and so with a receive, whose result is the same by its numbers
pub receives-moved : (inside old new : KeptBytes) (q p : ℕ) (was is : ReceiveResult) → inside ≡ old → q ≡ p → was ≡ is
    → SubscriberReceives inside new q was → SubscriberReceives old new p is
receives-moved inside old new q p was is same id result step =
    moved (λ k r. SubscriberReceives k new r is) inside old q p same id
    (subst (SubscriberReceives inside new q) result step)

-- codes of errors are high
pub loan-code-high : (error : LoanError) → 10 ≤ loan_code error
loan-code-high OutOfMemory = omega arith
loan-code-high ExceedsMaxLoans = omega arith
loan-code-high ExceedsMaxLoanSize = omega arith
loan-code-high InternalFailure = omega arith

pub receive-code-high : (error : ReceiveError) → 30 ≤ receive_code error
receive-code-high ExceedsMaxBorrows = omega arith
receive-code-high (Not_connected failure) = omega arith
