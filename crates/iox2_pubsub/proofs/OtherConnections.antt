-- A send to one connection leaves all else that waits: in another channel than 0 it leaves all.
use Rattle.std.proofs.Common.{◌≡◌, ℕ, zero, suc, ◌+◌, ◌||◌, Bool, true, false, cond, List, [], ◌∷◌, drop, take, refl}
use Rattle.std.proofs.Common.{sym, ap, subst, ◌∙◌, inl, inr, arith, Option, None, Some, Result}
use Rattle.std.specs.Option.{option_and_then}
use Rattle.std.specs.declared.time.Duration.{Duration}
use Rattle.std.proofs.lemmas.Bool.{cases_eq, ne_eqb}
use Rattle.std.proofs.lemmas.Option.{none-some, same_Some}
use Rattle.iox2_machine.specs.machine.ChannelCalls.{connection_place, place_from}
use Rattle.iox2_machine.specs.machine.Delivery.{Deliver, DeliveryEnd, Complete, Suspended, PutResult, Put}
use Rattle.iox2_machine.specs.machine.Delivery.{accepted_count, is_blocking, is_failed, no_time}
use Rattle.iox2_machine.specs.machine.Mailbox.{Mailbox, has_room}
use Rattle.iox2_machine.specs.machine.Numbers.{contains, put_at}
use Rattle.iox2_machine.specs.machine.Places.{is_port, occupant, occupants}
use Rattle.iox2_machine.specs.machine.Records.{Environment, Handler, Loan, Publisher}
use Rattle.iox2_machine.specs.machine.Sends.{ConcludeSend, DeliverAndConclude, SendResult, with_mailboxes}
use Rattle.iox2_machine.specs.machine.State.{State, Messages, channel_buffer, with_loan}
use Rattle.iox2_machine.specs.declared.backpressure.BackpressureAction.{BackpressureAction}
use Rattle.iox2_machine.specs.declared.backpressure.BackpressureStrategy.{BackpressureStrategy}
use Rattle.iox2_machine.specs.declared.errors.SendError.{SendError}
use Rattle.iox2_machine.specs.declared.service_config.ServiceConfig.{ServiceConfig}
use Rattle.iox2_laws.specs.Sendings.{sending}
use Rattle.iox2_laws.proofs.Cases.{by_option, by_bool}
use Rattle.iox2_laws.proofs.NumberLemmas.{absent_one}
use Rattle.iox2_laws.proofs.PlaceLemmas.{is_port-false}
use Rattle.iox2_laws.proofs.Puts.{put_at-same, put_at-other}
use Rattle.iox2_domain.specs.Kept.{Kept, state_of}
use Rattle.iox2_domain.specs.Shows.{Shows}
use Rattle.iox2_pubsub.specs.Live.{IsAtConnection, WaitsAsBefore}
use Rattle.iox2_pubsub.specs.SendCalls.{SendsToConnection, messages_after_send, result_of_send}
use Rattle.iox2_pubsub.specs.declared.send_outcome.SendOutcome.{SendOutcome}
use Rattle.iox2_pubsub.specs.declared.subscriber.Subscriber.{Subscriber}
use Rattle.iox2_pubsub.proofs.ConnectedCounts.{TouchesOnly, goes-on-touches}
use Rattle.iox2_pubsub.proofs.ConnectionServes.{connection-is, connection-parts, place-is}
use Rattle.iox2_pubsub.proofs.PendingDeliveries.{goes-on-leaves}
use Rattle.iox2_pubsub.proofs.PendingShown.{as-waits}
use Rattle.iox2_pubsub.proofs.SentMessages.{sent-before-stays}

-- ---- another channel

module _ (environment : Environment) (c : ServiceConfig) (p : ℕ) (strategy : BackpressureStrategy)
    (handler : Option (Handler BackpressureAction)) (buffers : ℕ → Option ℕ) (n k : ℕ) where
  put-elsewhere : (q retries : ℕ) (elapsed : Duration) (buffer : Option ℕ) (box : Mailbox) (result : PutResult)
      (box' : Mailbox)
      → Put environment c p strategy handler buffers n (suc k) q retries elapsed buffer box result box'
      → box'.waiting ≡ box.waiting
  put-elsewhere q retries elapsed None box result box' h = ap (λ (b : Mailbox). b.waiting) h.1
  put-elsewhere q retries elapsed (Some buffer) box result box' h =
      by_bool (box'.waiting ≡ box.waiting) (has_room (suc k) buffer box || c.enable_safe_overflow) _ _ h
      (λ _ j. ap (λ (b : Mailbox). b.waiting) j.1)
      (λ _ j. ap (λ (b : Mailbox). b.waiting) j.1)

  -- a delivery into another channel leaves what waits in channel 0
  deliver-elsewhere : (retries : ℕ) (elapsed : Duration) (place : ℕ) (ends : List (Option ℕ)) (count : ℕ)
      (has_failed : Bool) (boxes : ℕ → Mailbox) (how : DeliveryEnd) (boxes' : ℕ → Mailbox)
      → Deliver environment c p strategy handler buffers n (suc k) retries elapsed place ends count has_failed boxes how
      boxes' → (q : ℕ) → (boxes' q).waiting ≡ (boxes q).waiting
  deliver-elsewhere retries elapsed place [] count has_failed boxes how boxes' h q =
      ap (λ (f : ℕ → Mailbox). (f q).waiting) h.1
  deliver-elsewhere retries elapsed place (None ∷ rest) count has_failed boxes how boxes' h q =
      let mid : (h.1 q).waiting ≡ (boxes q).waiting = ap (λ (f : ℕ → Mailbox). (f q).waiting) (h.2).1 in
      by_bool ((boxes' q).waiting ≡ (boxes q).waiting) (is_blocking h.0) _ _ h.3
      (λ _ j. ap (λ (f : ℕ → Mailbox). (f q).waiting) j.1 ∙ mid)
      (λ _ j. deliver-elsewhere 0 no_time (place + 1) rest (count + accepted_count h.0)
      (has_failed || is_failed h.0) h.1 how boxes' j q ∙ mid)
  deliver-elsewhere retries elapsed place (Some r ∷ rest) count has_failed boxes how boxes' h q =
      let mid : (h.1 q).waiting ≡ (boxes q).waiting = elim (cases_eq r q) [
        | inl here ↦
            ap (λ (f : ℕ → Mailbox). (f q).waiting) ((h.2).2 ∙ ap (λ (i : ℕ). put_at boxes i (h.2).0) here)
            ∙ ap (λ (b : Mailbox). b.waiting) (put_at-same boxes q (h.2).0)
            ∙ put-elsewhere r retries elapsed (buffers r) (boxes r) h.0 (h.2).0 (h.2).1
            ∙ ap (λ (i : ℕ). (boxes i).waiting) here
        | inr away ↦ ap (λ (f : ℕ → Mailbox). (f q).waiting) (h.2).2
            ∙ ap (λ (b : Mailbox). b.waiting) (put_at-other boxes r (h.2).0 q (ne_eqb q r (λ same. away (sym same))))
      ] in
      by_bool ((boxes' q).waiting ≡ (boxes q).waiting) (is_blocking h.0) _ _ h.3
      (λ _ j. ap (λ (f : ℕ → Mailbox). (f q).waiting) j.1 ∙ mid)
      (λ _ j. deliver-elsewhere 0 no_time (place + 1) rest (count + accepted_count h.0)
      (has_failed || is_failed h.0) h.1 how boxes' j q ∙ mid)

concluded : {T U : Type 0} (s : State T U) (p n : ℕ) (how : DeliveryEnd) (s' : State T U) (result : SendResult)
    (boxes : ℕ → Mailbox) → ConcludeSend (with_mailboxes s p boxes) p n how s' result → s'.mailboxes p ≡ boxes
concluded {T} {U} s p n (Complete count failed) s' result boxes h =
    ap (λ (t : State T U). t.mailboxes p) h.0 ∙ put_at-same s.mailboxes p boxes
concluded {T} {U} s p n (Suspended b) s' result boxes h =
    ap (λ (t : State T U). t.mailboxes p) h.0 ∙ put_at-same s.mailboxes p boxes

-- ---- another connection

-- an end to the receiver has a place
placed-in : (end : Option ℕ) (rest : List (Option ℕ)) (i q k : ℕ)
    → ((j : ℕ) → occupant rest j ≡ Some q → place_from (suc k) rest q ≡ None → ⊥) → (b : Bool) → is_port end q ≡ b
    → cond b (Some k) (place_from (suc k) rest q) ≡ None → occupant (end ∷ rest) i ≡ Some q → ⊥
placed-in end rest i q k later true e is at = none-some k (sym is)
placed-in end rest zero q k later false e is at = is_port-false end q e at
placed-in end rest (suc j) q k later false e is at = later j at is

placed : (ends : List (Option ℕ)) (i q k : ℕ) → occupant ends i ≡ Some q → place_from k ends q ≡ None → ⊥
placed [] i q k at none = none-some q at
placed (end ∷ rest) i q k at none =
    placed-in end rest i q k (λ j there nowhere. placed rest j q (suc k) there nowhere) (is_port end q) refl none at

-- the one end there leads to no receiver but that
one-or-none : (ends : List (Option ℕ)) (place q : ℕ) → (occupant ends place ≡ Some q → ⊥)
    → contains (occupants (take 1 (drop place ends))) q ≡ false
one-or-none [] zero q away = refl
one-or-none [] (suc place) q away = refl
one-or-none (None ∷ rest) zero q away = refl
one-or-none (Some r ∷ rest) zero q away = absent_one r q (λ same. away (ap (λ (i : ℕ). Some i) same))
one-or-none (end ∷ rest) (suc place) q away = one-or-none rest place q away

module _ {T U F G : Type 0} (old new : Kept T U F G) (m : Messages T U) (s : State T U) (shown : Shows old m s)
    (environment : Environment) (n : ℕ) (l : Loan T U) (out : s.loans n ≡ Some l) (p : ℕ) (its : l.publisher ≡ p)
    (channel place : ℕ) (result : Result SendOutcome SendError) (s' : State T U)
    (shown' : Shows new (messages_after_send m n l result) s')
    (h : SendsToConnection environment s n l channel place result s') where
  abbrev Kept-apart : Subscriber → Type 0
  Kept-apart other = TouchesOnly s s' l.publisher
      × ((s'.mailboxes l.publisher other.id).waiting ≡ (s.mailboxes l.publisher other.id).waiting)

  -- whom the connection leads to has its place
  is-at : (other : Subscriber) (x : Publisher) → s.publishers l.publisher ≡ Some x
      → occupant x.ends place ≡ Some other.id → IsAtConnection old p place other
  is-at other x here at = by (place_from 0 x.ends other.id) refl where
    by : (o : Option ℕ) → place_from 0 x.ends other.id ≡ o → IsAtConnection old p place other
    by None e = absurd (placed x.ends place other.id 0 at e)
    by (Some j) e =
        let found = place-is x.ends other.id 0 j e in
        let same : found.0 ≡ place =
        (shown.well_formed.publishers l.publisher x here).ends_apart found.0 place other.id found.2 at in
        let first : j ≡ 0 + found.0 = found.1 in
        let is : j ≡ place = omega (arith, first, same) in
        connection-is old p place other
        (ap (λ (i : ℕ). connection_place (state_of old) i other.id) (sym its)
        ∙ ap (λ (t : State T U). connection_place t l.publisher other.id) (sym shown.state)
        ∙ ap (option_and_then (λ (z : Publisher). place_from 0 z.ends other.id)) here ∙ e ∙ ap (λ (i : ℕ). Some i) is)

  apart : (other : Subscriber) → (channel ≡ 0 → IsAtConnection old p place other → ⊥) → Kept-apart other
  apart other away =
      by_option (Kept-apart other) (s.publishers l.publisher) _ _ h
      (λ _ k. (
        record {
          others = record {
            ports = ap (λ (t : State T U). t.next_port) k.0;
            lie = λ i _.
                ap (λ (t : State T U). t.mailboxes i) k.0;
          };
          subscribers = ap (λ (t : State T U). t.subscribers) k.0;
        },
        ap (λ (t : State T U). (t.mailboxes l.publisher other.id).waiting) k.0,
      ))
      (λ x here k. (touched x k, by channel refl x here k))
    where
      touched : (x : Publisher) → DeliverAndConclude environment (with_loan s n None) l.publisher
          (sending n channel 0 place (take 1 (drop place x.ends)) 0 false) no_time s' (result_of_send result)
          → TouchesOnly s s' l.publisher
      touched x k =
          let it = goes-on-touches environment (with_loan s n None) l.publisher n channel 0 no_time place
          (take 1 (drop place x.ends)) 0 false s' (result_of_send result) k in
          record { others = record { ports = it.others.ports; lie = it.others.lie }; subscribers = it.subscribers }

      by : (i : ℕ) → channel ≡ i → (x : Publisher) → s.publishers l.publisher ≡ Some x
          → DeliverAndConclude environment (with_loan s n None) l.publisher
          (sending n channel 0 place (take 1 (drop place x.ends)) 0 false) no_time s' (result_of_send result)
          → (s'.mailboxes l.publisher other.id).waiting ≡ (s.mailboxes l.publisher other.id).waiting
      by zero e x here k =
          ap (λ (b : Mailbox). b.waiting) (goes-on-leaves environment (with_loan s n None) l.publisher n 0 no_time place
          (take 1 (drop place x.ends)) 0 false s' (result_of_send result)
          (subst (λ (i : ℕ). DeliverAndConclude environment (with_loan s n None) l.publisher
          (sending n i 0 place (take 1 (drop place x.ends)) 0 false) no_time s' (result_of_send result)) e k) other.id
          (one-or-none x.ends place other.id (λ at. away e (is-at other x here at)))).0
      by (suc i) e x here k =
          elsewhere i
          (subst (λ (i : ℕ). DeliverAndConclude environment (with_loan s n None) l.publisher
          (sending n i 0 place (take 1 (drop place x.ends)) 0 false) no_time s' (result_of_send result)) e k)
        where
          elsewhere : (i : ℕ) → DeliverAndConclude environment (with_loan s n None) l.publisher
              (sending n (suc i) 0 place (take 1 (drop place x.ends)) 0 false) no_time s' (result_of_send result)
              → (s'.mailboxes l.publisher other.id).waiting ≡ (s.mailboxes l.publisher other.id).waiting
          elsewhere i k =
              by_option ((s'.mailboxes l.publisher other.id).waiting ≡ (s.mailboxes l.publisher other.id).waiting)
              (s.publishers l.publisher) _ _ k (λ _ v. absurd v) (λ z _ j.
              ap (λ (f : ℕ → Mailbox). (f other.id).waiting)
              (concluded (with_loan s n None) l.publisher n j.0 s' (result_of_send result) j.1 j.3)
              ∙ deliver-elsewhere environment s.config l.publisher z.backpressure_strategy z.backpressure_handler
              (channel_buffer s l.publisher (suc i)) n i 0 no_time place (take 1 (drop place x.ends)) 0 false
              (s.mailboxes l.publisher) j.0 j.1 j.2
              other.id)

  pub sends-to-alone : (other : Subscriber) → (channel ≡ 0 → IsAtConnection old p place other → ⊥)
      → WaitsAsBefore old new other
  sends-to-alone other away =
      let it = apart other away in
      as-waits old new m (messages_after_send m n l result) s s' shown shown'
      (sent-before-stays m n l result (shown.unsent n l out)) l.publisher it.0 other it.1

-- at one connection stands one subscriber
pub one-at-connection : {T U F G : Type 0} (domain : Kept T U F G) (p connection : ℕ) (first second : Subscriber)
    → IsAtConnection domain p connection first → IsAtConnection domain p connection second → first.id ≡ second.id
one-at-connection {T} {U} domain p connection first second here there = by ((state_of domain).publishers p) refl where
  by : (o : Option Publisher) → (state_of domain).publishers p ≡ o → first.id ≡ second.id
  by None e =
      absurd (none-some connection (sym (ap (option_and_then (λ (x : Publisher). place_from 0 x.ends first.id)) e)
      ∙ connection-parts domain p connection first here))
  by (Some x) e =
      let one = place-is x.ends first.id 0 connection
      (sym (ap (option_and_then (λ (z : Publisher). place_from 0 z.ends first.id)) e)
      ∙ connection-parts domain p connection first here) in
      let two = place-is x.ends second.id 0 connection
      (sym (ap (option_and_then (λ (z : Publisher). place_from 0 z.ends second.id)) e)
      ∙ connection-parts domain p connection second there) in
      let at-one : connection ≡ 0 + one.0 = one.1 in
      let at-two : connection ≡ 0 + two.0 = two.1 in
      let same : one.0 ≡ two.0 = omega (arith, at-one, at-two) in
      same_Some first.id second.id (sym one.2 ∙ ap (occupant x.ends) same ∙ two.2)
