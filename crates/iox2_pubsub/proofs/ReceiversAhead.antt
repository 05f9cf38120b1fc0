-- A blocked send that goes on has no more receivers before it, and fewer where it is given up.
use Rattle.std.proofs.Common.{◌≡◌, ℕ, ◌≤◌, ◌<◌, ◌+◌, ◌||◌, Bool, true, false, List, cond, [], ◌∷◌, drop, length, refl}
use Rattle.std.proofs.Common.{sym, ap, subst, ◌∙◌, arith, Option, Some}
use Rattle.std.specs.Option.{option_map, option_map_or}
use Rattle.std.specs.Prelude.{IfOk}
use Rattle.std.specs.declared.result.Result.{Result}
use Rattle.std.specs.declared.result.Result.TheVariants.{Ok, Err}
use Rattle.std.specs.declared.time.Duration.{Duration}
use Rattle.iox2_machine.specs.machine.Mailbox.{Mailbox}
use Rattle.iox2_machine.specs.machine.Records.{Environment, Handler, Publisher, BlockedSend}
use Rattle.iox2_machine.specs.machine.State.{State, channel_buffer}
use Rattle.iox2_machine.specs.machine.Delivery.{Deliver, DeliveryEnd, Complete, Suspended, accepted_count, is_blocking}
use Rattle.iox2_machine.specs.machine.Delivery.{is_failed, no_time}
use Rattle.iox2_machine.specs.machine.Sends.{Retry, GiveUp, SendResult, Delivered_to, Blocked_send, Send_error}
use Rattle.iox2_machine.specs.machine.Sends.{DeliverAndConclude, ConcludeSend, with_mailboxes, more_retries}
use Rattle.iox2_machine.specs.machine.SingleCalls.{HoldsBlocked}
use Rattle.iox2_machine.specs.declared.backpressure.BackpressureAction.{BackpressureAction}
use Rattle.iox2_machine.specs.declared.backpressure.BackpressureStrategy.{BackpressureStrategy}
use Rattle.iox2_machine.specs.declared.errors.SendError.{SendError}
use Rattle.iox2_machine.specs.declared.errors.SendError.TheVariants.{UnableToDeliver}
use Rattle.iox2_machine.specs.declared.service_config.ServiceConfig.{ServiceConfig}
use Rattle.iox2_laws.specs.Sendings.{sending}
use Rattle.iox2_laws.proofs.Cases.{by_option, by_bool}
use Rattle.iox2_laws.proofs.Puts.{put_at-same}
use Rattle.iox2_domain.specs.Kept.{Kept, state_of}
use Rattle.iox2_pubsub.specs.BlockedSends.{StaysSince, places_ahead, receivers_ahead}
use Rattle.iox2_pubsub.specs.Live.{StaysBut, blocked_item}
use Rattle.iox2_pubsub.proofs.StaysOn.{stays-twice}
use Rattle.iox2_pubsub.specs.SendCalls.{IfBlocked, result_of_send}
use Rattle.iox2_pubsub.specs.declared.blocked_send.BlockedSend.{BlockedSend as Handle}
use Rattle.iox2_pubsub.specs.declared.send_outcome.SendOutcome.{SendOutcome}
use Rattle.iox2_pubsub.specs.declared.send_outcome.SendOutcome.TheVariants.{Delivered, Blocked}

module _ (e : Environment) (c : ServiceConfig) (p : ℕ) (strategy : BackpressureStrategy)
    (handler : Option (Handler BackpressureAction)) (buffers : ℕ → Option ℕ) (n channel : ℕ) where
  -- a suspended delivery waits at one of its ends
  suspended-at : (retries : ℕ) (elapsed : Duration) (place : ℕ) (ends : List (Option ℕ)) (count : ℕ) (has_failed : Bool)
      (boxes : ℕ → Mailbox) (b : BlockedSend) (boxes' : ℕ → Mailbox)
      → Deliver e c p strategy handler buffers n channel retries elapsed place ends count has_failed boxes
      (Suspended b) boxes' → (0 < length b.ends) × (length b.ends ≤ length ends)
  suspended-at retries elapsed place [] count has_failed boxes b boxes' h =
      absurd (let no : Suspended b ≡ Complete count has_failed = h.0 in cc)
  suspended-at retries elapsed place (end ∷ rest) count has_failed boxes b boxes' h =
      by_bool ((0 < length b.ends) × (length b.ends ≤ length (end ∷ rest))) (is_blocking h.0) _ _ h.3
      (λ _ k.
      let stop : BlockedSend = record {
        message = n;
        channel = channel;
        place = place;
        ends = end ∷ rest;
        retries = retries;
        count = count;
        has_failed = has_failed;
      } in
      let same : Suspended b ≡ Suspended stop = k.0 in
      let is : b ≡ stop = cc in
      let long : length b.ends ≡ length (end ∷ rest) = ap (λ (v : BlockedSend). length v.ends) is in
      (omega (arith, long), omega (arith, long)))
      (λ _ k.
      let later = suspended-at 0 no_time (place + 1) rest (count + accepted_count h.0)
      (has_failed || is_failed h.0) h.1 b boxes' k in
      (later.0, omega (arith, later.1)))

-- one end fewer
shorter : (ends : List (Option ℕ)) (k : ℕ) → 0 < k → k ≤ length (drop 1 ends) → k < length ends
shorter [] k some few = omega (arith, some, few)
shorter (end ∷ rest) k some few = omega (arith, few)

module _ {T U : Type 0} where
  -- it waits at one of these many places
  abbrev IsAhead : State T U → (p most : ℕ) → Type 0
  IsAhead s p most = (0 < places_ahead s p) × (places_ahead s p ≤ most)

  concluded-ahead : (s : State T U) (p n : ℕ) (x : Publisher) → s.publishers p ≡ Some x
      → (most : ℕ) (how : DeliveryEnd) (s' : State T U) (result : SendResult)
      → ((b : BlockedSend) → how ≡ Suspended b → (0 < length b.ends) × (length b.ends ≤ most))
      → ConcludeSend s p n how s' result → result ≡ Blocked_send → IsAhead s' p most
  concluded-ahead s p n x here most (Complete count has_failed) s' result at h is =
      absurd (ended has_failed (sym h.1 ∙ is)) where
        ended : (failed : Bool) → cond failed (Send_error UnableToDeliver) (Delivered_to count) ≡ Blocked_send → ⊥
        ended true e = absurd cc
        ended false e = absurd cc
  concluded-ahead s p n x here most (Suspended b) s' result at h is =
      let stands : s'.publishers p ≡ Some (record x { blocked = Some b }) =
      ap (λ (t : State T U). t.publishers p) h.0
      ∙ put_at-same s.publishers p (option_map (λ (v : Publisher). record v { blocked = Some b }) (s.publishers p))
      ∙ ap (option_map (λ (v : Publisher). record v { blocked = Some b })) here in
      let ahead : places_ahead s' p ≡ length b.ends =
      ap (λ (o : Option Publisher). option_map_or
      (λ (v : Publisher). option_map_or (λ (w : BlockedSend). length w.ends) v.blocked 0) o 0) stands in
      let has = at b refl in
      (omega (arith, ahead, has.0), omega (arith, ahead, has.1))

  delivered-ahead : (environment : Environment) (s : State T U) (p n channel retries : ℕ) (elapsed : Duration)
      (place : ℕ) (ends : List (Option ℕ)) (count : ℕ)
      (has_failed : Bool) (s' : State T U) (result : SendResult)
      → DeliverAndConclude environment s p (sending n channel retries place ends count has_failed) elapsed s' result
      → result ≡ Blocked_send → IsAhead s' p (length ends)
  delivered-ahead environment s p n channel retries elapsed place ends count has_failed s' result h is =
      by_option (IsAhead s' p (length ends)) (s.publishers p) _ _ h (λ _ v. absurd v) (λ x present h.
      concluded-ahead (with_mailboxes s p h.1) p n x present (length ends) h.0 s' result
      (λ b e. suspended-at environment s.config p x.backpressure_strategy x.backpressure_handler
      (channel_buffer s p channel) n channel retries elapsed place ends count has_failed (s.mailboxes p) b h.1
      (subst (λ (how : DeliveryEnd). Deliver environment s.config p x.backpressure_strategy x.backpressure_handler
      (channel_buffer s p channel) n channel retries elapsed place ends count has_failed (s.mailboxes p) how h.1) e
      h.2))
      h.3 is)

  -- ---- seen from outside

  module _ {F G : Type 0} (old new : Kept T U F G) (blocked : Handle)
      (held : HoldsBlocked (state_of old) blocked.loan.publisher blocked.loan.number) (s s' : State T U)
      (before : s ≡ state_of old) (after : s' ≡ state_of new)
      (environment : Environment) (result : SendResult) (waits : result ≡ Blocked_send) where
    now-ahead : (most : ℕ) → IsAhead s' blocked.loan.publisher most → IsAhead (state_of new) blocked.loan.publisher most
    now-ahead most = subst (λ (t : State T U). IsAhead t blocked.loan.publisher most) after

    was-ahead : places_ahead (state_of old) blocked.loan.publisher ≡ length (held.1).ends
    was-ahead =
        ap (λ (o : Option Publisher). option_map_or
        (λ (v : Publisher). option_map_or (λ (w : BlockedSend). length w.ends) v.blocked 0) o 0) held.2
        ∙ ap (λ (o : Option BlockedSend). option_map_or (λ (w : BlockedSend). length w.ends) o 0) held.3

    pub retry-no-more : (elapsed : Duration) → Retry environment s blocked.loan.publisher held.1 elapsed s' result
        → receivers_ahead new blocked ≤ receivers_ahead old blocked
    unfolding receivers_ahead
    retry-no-more elapsed h =
        let b = held.1 in
        let has = now-ahead (length b.ends) (delivered-ahead environment s blocked.loan.publisher b.message b.channel
        (more_retries b.retries) elapsed b.place b.ends b.count b.has_failed s' result h waits) in
        omega (arith, has.1, was-ahead)

    pub give-up-fewer : GiveUp environment s blocked.loan.publisher held.1 s' result
        → receivers_ahead new blocked < receivers_ahead old blocked
    unfolding receivers_ahead
    give-up-fewer h =
        let b = held.1 in
        let has = now-ahead (length (drop 1 b.ends))
        (delivered-ahead environment s blocked.loan.publisher b.message b.channel 0 no_time (b.place + 1)
        (drop 1 b.ends) b.count b.has_failed s' result h waits) in
        let fewer = shorter b.ends (places_ahead (state_of new) blocked.loan.publisher) has.0 has.1 in
        omega (arith, fewer, was-ahead)

-- what holds of the handle of a send that is blocked again
pub where-blocked : (P : Handle → Type 0) (blocked : Handle) (outcome : Result SendOutcome SendError)
    → IfOk outcome (λ came. IfBlocked came (λ it. it ≡ blocked))
    → (result_of_send outcome ≡ Blocked_send → P blocked) → IfOk outcome (λ came. IfBlocked came P)
where-blocked P blocked (Ok (Delivered count)) is holds = tt
where-blocked P blocked (Ok (Blocked it)) is holds = subst P (sym is) (holds refl)
where-blocked P blocked (Err error) is holds = tt

-- where it is blocked again, what was there before it blocked is there when that has ended
pub since-again : {T U F G : Type 0} (old new : Kept T U F G) (blocked : Handle)
    → StaysBut (blocked_item blocked) old new → (after : Kept T U F G) → StaysSince blocked new after
    → StaysSince blocked old after
unfolding StaysSince
since-again old new blocked stays after since before unwaiting stood =
    since before unwaiting (stays-twice (blocked_item blocked) before old new stood stays)
