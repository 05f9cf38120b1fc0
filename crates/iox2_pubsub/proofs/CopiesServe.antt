-- What a copy that is lent, written and sent leaves waiting, from what its send leaves.
use Rattle.std.proofs.Common.{◌≡◌, ℕ, suc, Bool, ◌<◌, ◌≤◌, List, [], ◌∷◌, ◌++◌, drop, length, sym, ap, subst, ◌∙◌}
use Rattle.std.proofs.Common.{arith, inl, inr, ⊎_elim, Result, Ok, Err}
use Rattle.std.specs.Prelude.{IfOk}
use Rattle.std.specs.Bool.{MatchBool}
use Rattle.iox2_machine.specs.declared.errors.SendError.{SendError}
use Rattle.iox2_machine.specs.declared.service_config.ServiceConfig.{ServiceConfig}
use Rattle.iox2_domain.specs.Kept.{Kept}
use Rattle.iox2_pubsub.specs.Live.{AllFrom, AreAllSlices, HasItsBuffer, IsConnected, IsFull, IsServed, OthersSend}
use Rattle.iox2_pubsub.specs.Live.{UpToDateStay, WaitingStays, payloads_from, waiting}
use Rattle.iox2_pubsub.specs.SendCalls.{IsDelivered}
use Rattle.iox2_pubsub.specs.declared.send_outcome.SendOutcome.{SendOutcome}
use Rattle.iox2_pubsub.specs.declared.subscriber.Subscriber.{Subscriber}

-- one call after another
pub waits-both : {T U F G : Type 0} {old mid new : Kept T U F G} → WaitingStays old mid → WaitingStays mid new
    → WaitingStays old new
waits-both first second = record { all = second.all ∙ first.all; from = second.from ∙ first.from }

-- as many wait
pub same-count : {T U F G : Type 0} {old mid : Kept T U F G} → WaitingStays old mid → (subscriber : Subscriber)
    → waiting mid subscriber ≡ waiting old subscriber
same-count {T} waits subscriber = ap (λ (f : Subscriber → List (List T)). length (f subscriber)) waits.all

pub none-still : {T U F G : Type 0} {old mid : Kept T U F G} → WaitingStays old mid → (subscriber : Subscriber)
    → waiting old subscriber ≡ 0 → waiting mid subscriber ≡ 0
none-still waits subscriber none = same-count waits subscriber ∙ none

-- a publisher that was connected is so, also as the one that lent a loan
pub connected-as : {T U F G : Type 0} {old new : Kept T U F G} → UpToDateStay old new → (p lender : ℕ) → lender ≡ p
    → (subscriber : Subscriber) → IsConnected old p subscriber
    → IsConnected new lender subscriber
connected-as {T} {U} {F} {G} {old} {new} stay p lender its subscriber is =
    subst (λ i. IsConnected new i subscriber) (sym its) (stay.connections p subscriber is)

module _ {T U F G : Type 0} (old mid new : Kept T U F G) (waits : WaitingStays old mid) where
  pub from-since : (p : ℕ) (subscriber : Subscriber) → payloads_from mid p subscriber ≡ payloads_from old p subscriber
  from-since p subscriber = ap (λ (f : ℕ → Subscriber → List (List T)). f p subscriber) waits.from

  pub full-since : ((it : Subscriber) → HasItsBuffer old it → HasItsBuffer mid it) → (p : ℕ) (subscriber : Subscriber)
      → IsFull mid p subscriber → IsFull old p subscriber
  full-since buffers p subscriber full = record {
    some = subst (λ (before : List (List T)). 0 < length before) (from-since p subscriber) full.some;
    full = λ its. subst (λ (before : List (List T)). subscriber.buffer_size ≤ length before) (from-since p subscriber)
        (full.full (buffers subscriber its));
  }

  pub served-since : (settings : mid.config ≡ old.config) (buffers : (it : Subscriber) → HasItsBuffer old it
      → HasItsBuffer mid it) (p : ℕ) (subscriber : Subscriber) (values : List T)
      → IsServed mid new p subscriber values → IsServed old new p subscriber values
  unfolding IsServed
  served-since settings buffers p subscriber values served =
      let counted : waiting mid subscriber ≡ waiting old subscriber = same-count waits subscriber in
      let same : payloads_from mid p subscriber ≡ payloads_from old p subscriber = from-since p subscriber in
      ⊎_elim
      (λ came. inl (came.0 ∙ ap (λ before. before ++ values ∷ []) same, came.1 ∙ ap suc counted))
      (λ full. inr (
        full-since buffers p subscriber full.0,
        subst (λ (before : List (List T)). MatchBool (old.config).enable_safe_overflow
            (payloads_from new p subscriber ≡ drop 1 before ++ values ∷ []) (payloads_from new p subscriber ≡ before))
            same
            (subst (λ (overflow : Bool). MatchBool overflow
            (payloads_from new p subscriber ≡ drop 1 (payloads_from mid p subscriber) ++ values ∷ [])
            (payloads_from new p subscriber ≡ payloads_from mid p subscriber))
            (ap (λ (c : ServiceConfig). c.enable_safe_overflow) settings) full.1),
        full.2 ∙ counted,
      ))
      served

  -- whom the send serves, seen from before
  pub copy-serves : (settings : mid.config ≡ old.config) (buffers : (it : Subscriber) → HasItsBuffer old it
      → HasItsBuffer mid it) (p lender : ℕ) → lender ≡ p
      → (subscriber : Subscriber) (values : List T) (result : Result SendOutcome SendError)
      → IfOk result (λ outcome. IsDelivered outcome → IsServed mid new lender subscriber values)
      → IfOk result (λ outcome. IsDelivered outcome → IsServed old new p subscriber values)
  copy-serves settings buffers p lender its subscriber values (Ok outcome) serves = λ delivered.
      served-since settings buffers p subscriber values
      (subst (λ i. IsServed mid new i subscriber values) its (serves delivered))
  copy-serves settings buffers p lender its subscriber values (Err error) serves = tt

  pub copy-others : (p lender : ℕ) → lender ≡ p → OthersSend lender mid new → OthersSend p old new
  copy-others p lender its others = λ other away.
      others other (λ same. away (same ∙ its)) ∙ ap (λ (f : ℕ → Subscriber → List (List T)). f other) waits.from

-- what arrives, by the publisher's id
pub copy-arrives : {T U F G : Type 0} (new : Kept T U F G) (p lender : ℕ) → lender ≡ p
    → (subscriber : Subscriber) (values : List (List T)) (result : Result SendOutcome SendError)
    → IfOk result (λ outcome. IsDelivered outcome → AllFrom new lender subscriber values)
    → IfOk result (λ outcome. IsDelivered outcome → AllFrom new p subscriber values)
copy-arrives new p lender its subscriber values result arrives =
    subst (λ i. IfOk result (λ outcome. IsDelivered outcome → AllFrom new i subscriber values)) its arrives

-- what waits is all of one publisher still
pub all-since : {T U F G : Type 0} {old mid : Kept T U F G} → WaitingStays old mid → (p lender : ℕ) → lender ≡ p
    → (subscriber : Subscriber) (earlier : List (List T)) → AllFrom old p subscriber earlier
    → AllFrom mid lender subscriber earlier
all-since {T} {U} {F} {G} {old} waits p lender its subscriber earlier all = record {
  all = ap (λ (f : Subscriber → List (List T)). f subscriber) waits.all ∙ all.all;
  from = ap (λ (f : ℕ → Subscriber → List (List T)). f lender subscriber) waits.from
      ∙ subst (λ i. payloads_from old i subscriber ≡ earlier) (sym its) all.from;
}

-- of nothing all are such a message
pub none-are-all : {T : Type 0} (lists : List (List T)) (values : List T) → length lists ≡ 0 → AreAllSlices lists values
unfolding AreAllSlices
none-are-all [] values none = tt
none-are-all (list ∷ lists) values none = absurd (omega arith)
