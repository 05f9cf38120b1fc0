-- Laws that callers' proofs may cite: who was served or left alone, seen from before or later, and blocked sends.
use Rattle.std.proofs.Common.{◌≡◌, ℕ, suc, ◌+◌, ◌<◌, ◌≤◌, ◌⊎◌, Bool, true, false, List, [], ◌∷◌, ◌++◌, length, drop}
use Rattle.std.proofs.Common.{refl}
use Rattle.std.proofs.Common.{sym, ap, subst, ◌∙◌, arith, inl, inr, ⊎_elim, Option, None, Some}
use Rattle.std.specs.Bool.{MatchBool}
use Rattle.std.proofs.lemmas.Bool.{cases_eq}
use Rattle.std.proofs.lemmas.List.{length-append}
use Rattle.std.proofs.lemmas.Option.{none-some, same_Some}
use Rattle.iox2_machine.specs.declared.key.Key.{Key}
use Rattle.iox2_machine.specs.declared.service_config.ServiceConfig.{ServiceConfig}
use Rattle.iox2_domain.specs.Kept.{Kept, state_of}
use Rattle.iox2_pubsub.specs.BlockedSends.{IsNext, IsNotNext, StaysSince, waits_for}
use Rattle.iox2_pubsub.specs.Live.{A_blocked_send, HasItsBuffer, IsAtConnection, IsFull, IsServed, IsServedOrPending}
use Rattle.iox2_pubsub.specs.Live.{IsUnblocked, Stays, StaysBut, WaitsAsBefore, blocked_key, blocked_item, lender_key}
use Rattle.iox2_pubsub.specs.Live.{payloads_from, waiting}
use Rattle.iox2_pubsub.specs.RoomyPublishers.{HasRoomAt}
use Rattle.iox2_pubsub.specs.declared.blocked_send.BlockedSend.{BlockedSend}
use Rattle.iox2_pubsub.specs.declared.subscriber.Subscriber.{Subscriber}
use Rattle.iox2_pubsub.proofs.ForCallers.{stays_but_twice}
use Rattle.iox2_pubsub.proofs.OtherConnections.{one-at-connection}
use Rattle.iox2_pubsub.proofs.PendingShown.{next-is, next-parts}

-- where nothing happened, nothing moved
pub as_before : {T U F G : Type 0} (domain : Kept T U F G) (subscriber : Subscriber)
    → WaitsAsBefore domain domain subscriber
as_before domain subscriber = record { all = refl; from = λ publisher. refl }

-- a subscriber that has room isn't full
pub room_not_full : {T U F G : Type 0} (domain : Kept T U F G) (publisher : ℕ) (subscriber : Subscriber)
    → HasRoomAt domain publisher subscriber → IsFull domain publisher subscriber → ⊥
room_not_full domain publisher subscriber has full =
    let few : length (payloads_from domain publisher subscriber) < subscriber.buffer_size = has.room in
    let many : subscriber.buffer_size ≤ length (payloads_from domain publisher subscriber) = full.full has.buffer in
    omega (arith, few, many)

-- so if it was served, the message waits last
pub served_with_room : {T U F G : Type 0} (old new : Kept T U F G) (publisher : ℕ) (subscriber : Subscriber)
    (values : List T) → HasRoomAt old publisher subscriber → IsServed old new publisher subscriber values
    → (payloads_from new publisher subscriber ≡ payloads_from old publisher subscriber ++ values ∷ [])
    × (waiting new subscriber ≡ suc (waiting old subscriber))
unfolding IsServed
served_with_room old new publisher subscriber values has served =
    ⊎_elim (λ came. (came.0, came.1)) (λ full. absurd (room_not_full old publisher subscriber has full.0)) served

-- where it was served, something of the publisher waits
pub served_waits : {T U F G : Type 0} (old new : Kept T U F G) (publisher : ℕ) (subscriber : Subscriber)
    (values : List T) → IsServed old new publisher subscriber values
    → 0 < length (payloads_from new publisher subscriber)
unfolding IsServed
served_waits {T} old new publisher subscriber values served =
    ⊎_elim
    (λ came. subst (λ (now : List (List T)). 0 < length now) (sym came.0)
    (behind (payloads_from old publisher subscriber)))
    (λ full. by full.0 (old.config).enable_safe_overflow full.1)
    served
  where
    behind : (before : List (List T)) → 0 < length (before ++ values ∷ [])
    behind before = let longer : length (before ++ values ∷ []) ≡ length before + 1 =
        length-append before (values ∷ []) in omega (arith, longer)

    by : IsFull old publisher subscriber → (b : Bool) → MatchBool b
        (payloads_from new publisher subscriber ≡ drop 1 (payloads_from old publisher subscriber) ++ values ∷ [])
        (payloads_from new publisher subscriber ≡ payloads_from old publisher subscriber)
        → 0 < length (payloads_from new publisher subscriber)
    by full true is = subst (λ (now : List (List T)). 0 < length now) (sym is)
        (behind (drop 1 (payloads_from old publisher subscriber)))
    by full false is = subst (λ (now : List (List T)). 0 < length now) (sym is) full.some

module _ {T U F G : Type 0} (start old new : Kept T U F G) (subscriber : Subscriber) where
  -- where nothing moved for a subscriber twice, nothing moved
  pub as_before_twice : WaitsAsBefore start old subscriber → WaitsAsBefore old new subscriber
      → WaitsAsBefore start new subscriber
  as_before_twice before same =
      record { all = same.all ∙ before.all; from = λ publisher. same.from publisher ∙ before.from publisher }

  -- who was served is so still, where nothing moved for it since
  pub served_still : (publisher : ℕ) (values : List T) → IsServed start old publisher subscriber values
      → WaitsAsBefore old new subscriber → IsServed start new publisher subscriber values
  unfolding IsServed
  served_still publisher values served same =
      let count : waiting new subscriber ≡ waiting old subscriber = ap length same.all in
      ⊎_elim
      (λ came. inl (same.from publisher ∙ came.0, count ∙ came.1))
      (λ full. inr (
        full.0,
        subst (λ (now : List (List T)). MatchBool (start.config).enable_safe_overflow
            (now ≡ drop 1 (payloads_from start publisher subscriber) ++ values ∷ [])
            (now ≡ payloads_from start publisher subscriber)) (sym (same.from publisher)) full.1,
        count ∙ full.2,
      ))
      served

  -- who was served now was so since then, where nothing moved for it before
  pub served_since : old.config ≡ start.config → (HasItsBuffer start subscriber → HasItsBuffer old subscriber)
      → (publisher : ℕ) (values : List T) → WaitsAsBefore start old subscriber
      → IsServed old new publisher subscriber values → IsServed start new publisher subscriber values
  unfolding IsServed
  served_since settings its publisher values same served =
      let lists : payloads_from old publisher subscriber ≡ payloads_from start publisher subscriber =
      same.from publisher in
      let count : waiting old subscriber ≡ waiting start subscriber = ap length same.all in
      ⊎_elim
      (λ came. inl (came.0 ∙ ap (λ (before : List (List T)). before ++ values ∷ []) lists, came.1 ∙ ap suc count))
      (λ full. inr (
        record {
          some = subst (λ (before : List (List T)). 0 < length before) lists (full.0).some;
          full = λ it.
              subst (λ (before : List (List T)). subscriber.buffer_size ≤ length before) lists ((full.0).full (its it));
        },
        subst (λ (c : ServiceConfig). MatchBool c.enable_safe_overflow
            (payloads_from new publisher subscriber ≡ drop 1 (payloads_from start publisher subscriber) ++ values ∷ [])
            (payloads_from new publisher subscriber ≡ payloads_from start publisher subscriber)) settings
            (subst (λ (before : List (List T)). MatchBool (old.config).enable_safe_overflow
            (payloads_from new publisher subscriber ≡ drop 1 before ++ values ∷ [])
            (payloads_from new publisher subscriber ≡ before)) lists full.1),
        full.2 ∙ count,
      ))
      served

  -- and so with a send that is blocked again
  pub served_or_pending_since : old.config ≡ start.config
      → (HasItsBuffer start subscriber → HasItsBuffer old subscriber) → (blocked : BlockedSend) (values : List T)
      → WaitsAsBefore start old subscriber
      → IsServedOrPending old new blocked subscriber values → IsServedOrPending start new blocked subscriber values
  served_or_pending_since settings its blocked values same came =
      ⊎_elim
      (λ served. inl (served_since settings its blocked.loan.publisher values same served.0, served.1))
      (λ pending. inr (as_before_twice same pending.0, pending.1))
      came

-- ---- blocked sends

-- a send waits for a subscriber, or it doesn't
pub next_or_not : {T U F G : Type 0} (domain : Kept T U F G) (blocked : BlockedSend) (subscriber : Subscriber)
    → IsNext domain blocked subscriber ⊎ IsNotNext domain blocked subscriber
next_or_not domain blocked subscriber = by (waits_for (state_of domain) blocked.loan.publisher) refl where
  by : (o : Option ℕ) → waits_for (state_of domain) blocked.loan.publisher ≡ o
      → IsNext domain blocked subscriber ⊎ IsNotNext domain blocked subscriber
  by None e = inr (λ next. none-some subscriber.id (sym e ∙ next-parts domain blocked subscriber next))
  by (Some q) e = elim (cases_eq q subscriber.id) [
    | inl same ↦ inl (next-is domain blocked subscriber (e ∙ ap (λ (i : ℕ). Some i) same))
    | inr away ↦ inr (λ next. away (same_Some q subscriber.id (sym e ∙ next-parts domain blocked subscriber next)))
  ]

module _ {T U F G : Type 0} (old mid new : Kept T U F G) (blocked : BlockedSend) where
  -- where a send has ended since it was blocked, all stays that was there before it
  pub stays_then : IsUnblocked old (lender_key (blocked_key blocked)) → StaysBut (blocked_item blocked) old mid
      → StaysSince blocked mid new → Stays old new
  unfolding StaysSince
  stays_then free stood since = since old free stood

  -- and so it is with a send that was blocked again
  pub stays_since : (waiting : BlockedSend) → blocked_key blocked ≡ blocked_key waiting
      → StaysBut (blocked_item waiting) old mid → StaysSince blocked mid new → StaysSince waiting old new
  unfolding StaysSince
  stays_since waiting same stood since = λ before free stays.
      since before (subst (λ (k : Key). IsUnblocked before (lender_key k)) (sym same) free)
      (subst (λ (k : Key). StaysBut (A_blocked_send k.port) before mid) (sym same)
      (stays_but_twice before old mid (blocked_item waiting) stays stood))

-- ---- connections

-- at one connection stands one subscriber
pub one_at_connection : {T U F G : Type 0} (domain : Kept T U F G) (publisher connection : ℕ)
    (first second : Subscriber) → IsAtConnection domain publisher connection first
    → IsAtConnection domain publisher connection second
    → first.id ≡ second.id
one_at_connection = one-at-connection
