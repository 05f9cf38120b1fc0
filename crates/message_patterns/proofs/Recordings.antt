-- A number that is underway to a recorder.
use Rattle.std.proofs.Common.{◌≡◌, ℕ, ◌+◌, List, [], ◌∷◌, ◌++◌, sym, ap, subst, ◌∙◌, inl, ⊎_elim, Result, Ok, Err}
use Rattle.std.proofs.Common.{Option, None, Some}
use Rattle.std.specs.Prelude.{IfNone, IfSome, MatchResult}
use Rattle.iox2_pubsub.specs.Domains.{Kept, Key}
use Rattle.iox2_pubsub.specs.BlockedSends.{Resumes}
use Rattle.iox2_pubsub.specs.Live.{HasItsBuffer, HasPassed, IsBlockedSend, IsConnected, IsConsistent, IsPending}
use Rattle.iox2_pubsub.specs.Live.{IsServed, UpToDateStay, WaitsAsBefore, blocked_key}
use Rattle.iox2_pubsub.specs.Payloads.{singles}
use Rattle.iox2_pubsub.specs.declared.blocked_send.BlockedSend.{BlockedSend}
use Rattle.iox2_pubsub.specs.declared.send_outcome.SendOutcome.TheVariants.{Blocked, Delivered}
use Rattle.iox2_pubsub.specs.declared.subscriber.Subscriber.{Subscriber}
use Rattle.iox2_pubsub.proofs.ForCallers.{served_joins}
use Rattle.iox2_pubsub.proofs.SinceThen.{served_or_pending_since, served_since, served_still}
use Rattle.message_patterns.specs.Recordings.{RecorderIsServed, IsUnderway}
use Rattle.message_patterns.specs.Values.{TakesMore}
use Rattle.message_patterns.proofs.Waits.{room-for-one, takes-next}

module _ {U F G : Type 0} (start old new : Kept ℕ U F G) (waited : BlockedSend) (recorder : Subscriber) (number : ℕ)
    (under : IsUnderway start old waited recorder number)
    (IsTried : Subscriber → Type 0) (tried : IsTried recorder) where
  -- the send goes on, and is blocked again
  pub still-underway : (again : BlockedSend) → again.loan.publisher ≡ waited.loan.publisher
      → Resumes IsTried waited (Ok (Blocked again)) old new → UpToDateStay old new → new.config ≡ old.config
      → ((s : Subscriber) → HasItsBuffer old s → HasItsBuffer new s) → IsUnderway start new again recorder number
  still-underway again same resumes stay settings buffers = record {
    connected = subst (λ (p : ℕ). IsConnected new p recorder) (sym same)
        (stay.connections waited.loan.publisher recorder under.connected);
    settings = settings ∙ under.settings;
    buffer = λ its. buffers recorder (under.buffer its);
    came = ⊎_elim
        (λ served.
        let left = resumes.passed recorder served.1 in
        inl (
          subst (λ (p : ℕ). IsServed start new p recorder (number ∷ [])) (sym same)
              (served_still start old new recorder waited.loan.publisher (number ∷ []) served.0 left.0),
          left.1,
        ))
        (λ waits. served_or_pending_since start old new recorder under.settings under.buffer again (number ∷ []) waits.0
        (resumes.pending recorder (number ∷ []) tried waits.1 under.connected))
        under.came;
  }

  -- the send goes on, and ends
  pub ends-served : (count : ℕ) → Resumes IsTried waited (Ok (Delivered count)) old new
      → IsServed start new waited.loan.publisher recorder (number ∷ [])
  ends-served count resumes =
      ⊎_elim
      (λ served. served_still start old new recorder waited.loan.publisher (number ∷ []) served.0
      (resumes.passed recorder served.1).0)
      (λ waits. served_since start old new recorder under.settings under.buffer waited.loan.publisher
      (number ∷ []) waits.0 (resumes.serves recorder (number ∷ []) tried waits.1 under.connected tt))
      under.came

-- a send that waits for the recorder has it before it
pub waits-for-it : {U F G : Type 0} (start now : Kept ℕ U F G) (blocked : BlockedSend) (recorder : Subscriber)
    (number : ℕ) → IsUnderway start now blocked recorder number
    → (HasPassed now blocked recorder → ⊥)
    → WaitsAsBefore start now recorder × IsPending now blocked recorder (number ∷ [])
waits-for-it start now blocked recorder number under ahead =
    ⊎_elim (λ served. absurd (ahead served.1)) (λ waits. waits) under.came

module _ {U F G : Type 0} (old new : Kept ℕ U F G) (publisher : ℕ) (recorder : Subscriber) (number : ℕ) where
  -- where there is room a recorded number waits behind the others
  pub recorded-takes : IsConsistent old → (IsConsistent old → IsConsistent new) → UpToDateStay old new
      → ((s : Subscriber) → HasItsBuffer old s → HasItsBuffer new s) → (waits : Option BlockedSend)
      → RecorderIsServed old new publisher recorder number waits
      → (earlier : List ℕ) (more : ℕ) → TakesMore old publisher recorder earlier (more + 1)
      → IfNone waits (TakesMore new publisher recorder (earlier ++ number ∷ []) more)
  recorded-takes consistent still stay buffers None served earlier more takes =
      takes-next old new publisher recorder earlier number more takes
      (served_joins old new recorder consistent (still consistent) publisher (number ∷ [])
      (singles earlier) served takes.wait takes.buffer (room-for-one old publisher recorder earlier more takes)) stay
      buffers
  recorded-takes consistent still stay buffers (Some blocked) is earlier more takes = tt

-- ---- what is left

pub blocked-as : {U F G : Type 0} (domain : Kept ℕ U F G) (name : Key → Key) (k l : Key) → name k ≡ l
    → (waits : Option BlockedSend) → IfSome waits (λ it. IsBlockedSend domain it × (blocked_key it ≡ k))
    → IfSome waits (λ it. IsBlockedSend domain it × (name (blocked_key it) ≡ l))
blocked-as domain name k l same None is = tt
blocked-as domain name k l same (Some it) is = (is.0, ap name is.1 ∙ same)

pub ended-so : {E : Type 0} (r : Result (Option BlockedSend) E) (P Q : Type 0) → (P → Q)
    → MatchResult r (λ waits. IfNone waits P) (λ _. P) → MatchResult r (λ waits. IfNone waits Q) (λ _. Q)
ended-so (Ok None) P Q so is = so is
ended-so (Ok (Some it)) P Q so is = tt
ended-so (Err e) P Q so is = so is
