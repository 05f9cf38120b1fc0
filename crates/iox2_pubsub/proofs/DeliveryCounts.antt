-- How many receivers a delivery counts: those that take the message.
use Rattle.std.proofs.Common.{◌≡◌, ℕ, suc, ◌+◌, ◌≤◌, ⊎_elim, Bool, true, false, cond, ◌||◌, List, [], ◌∷◌, length, refl}
use Rattle.std.proofs.Common.{sym, ap, subst, ◌∙◌, arith, Option, None, Some}
use Rattle.std.specs.List.{filter}
use Rattle.std.specs.Option.{option_map_or}
use Rattle.std.specs.declared.time.Duration.{Duration}
use Rattle.std.proofs.lemmas.Bool.{true≢false, ne_eqb}
use Rattle.iox2_machine.specs.machine.Delivery.{Decides, Deliver, Complete, Suspended, PutResult, Put, accepted_count}
use Rattle.iox2_machine.specs.machine.Delivery.{by_action, by_strategy, is_blocking, is_failed, no_time}
use Rattle.iox2_machine.specs.machine.Mailbox.{Mailbox, has_room}
use Rattle.iox2_machine.specs.machine.Numbers.{contains, IsOnce}
use Rattle.iox2_machine.specs.machine.Places.{occupants}
use Rattle.iox2_machine.specs.machine.Records.{Custom, Environment, Fixed, Handler}
use Rattle.iox2_machine.specs.declared.backpressure.BackpressureAction.{BackpressureAction}
use Rattle.iox2_machine.specs.declared.backpressure.BackpressureAction.TheVariants.{DiscardData as Discard}
use Rattle.iox2_machine.specs.declared.backpressure.BackpressureAction.TheVariants.{DiscardDataAndFail}
use Rattle.iox2_machine.specs.declared.backpressure.BackpressureAction.TheVariants.{FollowBackpressureyStrategy, Retry}
use Rattle.iox2_machine.specs.declared.backpressure.BackpressureInfo.{BackpressureInfo}
use Rattle.iox2_machine.specs.declared.backpressure.BackpressureStrategy.{BackpressureStrategy}
use Rattle.iox2_machine.specs.declared.backpressure.BackpressureStrategy.TheVariants.{DiscardData, RetryUntilDelivered}
use Rattle.iox2_machine.specs.declared.service_config.ServiceConfig.{ServiceConfig}
use Rattle.iox2_laws.proofs.Cases.{by_bool}
use Rattle.iox2_laws.proofs.NumberLemmas.{absent_from, contains_first, contains_in_cons, contains_later, length_le}
use Rattle.iox2_laws.proofs.Puts.{put_at-other}

-- ---- those of a list that take a message

module _ (takes : ℕ → Bool) where
  taker-is : (qs : List ℕ) (q : ℕ) → contains (filter takes qs) q ≡ true → (contains qs q ≡ true) × (takes q ≡ true)
  taker-is [] q at = absurd (true≢false (sym at))
  taker-is (r ∷ rest) q at = by (taker-is rest q) (takes r) refl at where
    by : (contains (filter takes rest) q ≡ true → (contains rest q ≡ true) × (takes q ≡ true)) → (b : Bool)
        → takes r ≡ b
        → contains (cond b (r ∷ filter takes rest) (filter takes rest)) q ≡ true
        → (contains (r ∷ rest) q ≡ true) × (takes q ≡ true)
    by behind true e at =
        ⊎_elim
        (λ same.
        (subst (λ (i : ℕ). contains (r ∷ rest) i ≡ true) same (contains_first r rest), ap takes (sym same) ∙ e))
        (λ later. let it = behind later in (contains_later r q rest it.0, it.1))
        (contains_in_cons r q (filter takes rest) at)
    by behind false e at = let it = behind at in (contains_later r q rest it.0, it.1)

  taker-in : (qs : List ℕ) (q : ℕ) → contains qs q ≡ true → takes q ≡ true → contains (filter takes qs) q ≡ true
  taker-in [] q at is = absurd (true≢false (sym at))
  taker-in (r ∷ rest) q at is = ⊎_elim (λ same. first same (takes r) refl)
      (λ later. behind (taker-in rest q later is) (takes r)) (contains_in_cons r q rest at) where
        first : r ≡ q → (b : Bool) → takes r ≡ b
            → contains (cond b (r ∷ filter takes rest) (filter takes rest)) q ≡ true
        first same true e =
            subst (λ (i : ℕ). contains (r ∷ filter takes rest) i ≡ true) same (contains_first r (filter takes rest))
        first same false e = absurd (true≢false (sym is ∙ ap takes (sym same) ∙ e))

        behind : contains (filter takes rest) q ≡ true → (b : Bool)
            → contains (cond b (r ∷ filter takes rest) (filter takes rest)) q ≡ true
        behind later true = contains_later r q (filter takes rest) later
        behind later false = later

  takers-once : (qs : List ℕ) → IsOnce qs → IsOnce (filter takes qs)
  takers-once [] once = tt
  takers-once (r ∷ rest) once = by (takers-once rest once.1) (takes r) where
    by : IsOnce (filter takes rest) → (b : Bool) → IsOnce (cond b (r ∷ filter takes rest) (filter takes rest))
    by later true = (absent_from (filter takes rest) r (λ at. true≢false (sym (taker-is rest r at).0 ∙ once.0)), later)
    by later false = later

-- where each that takes one there does so here, there are no more there
pub takers-le : (f g : ℕ → Bool) (qs rs : List ℕ) → IsOnce qs → IsOnce rs
    → ((q : ℕ) → contains qs q ≡ true → f q ≡ true → (contains rs q ≡ true) × (g q ≡ true))
    → length (filter f qs) ≤ length (filter g rs)
takers-le f g qs rs once once' each =
    length_le (filter f qs) (filter g rs) (takers-once f qs once) (takers-once g rs once') (λ q at.
    let it = taker-is f qs q at in
    let there = each q it.0 it.1 in
    taker-in g rs q there.0 there.1)

takers-same : (f g : ℕ → Bool) (qs : List ℕ) → ((q : ℕ) → contains qs q ≡ true → f q ≡ g q)
    → length (filter f qs) ≡ length (filter g qs)
takers-same f g [] alike = refl
takers-same f g (r ∷ rest) alike =
    ap (λ (b : Bool). length (cond b (r ∷ filter f rest) (filter f rest))) (alike r (contains_first r rest))
    ∙ by (takers-same f g rest (λ q at. alike q (contains_later r q rest at))) (g r)
  where
    by : length (filter f rest) ≡ length (filter g rest) → (b : Bool)
        → length (cond b (r ∷ filter f rest) (filter f rest)) ≡ length (cond b (r ∷ filter g rest) (filter g rest))
    by later true = ap suc later
    by later false = later

front-counts : (b : Bool) (r : ℕ) (rest : List ℕ) → length (cond b (r ∷ rest) rest) ≡ cond b 1 0 + length rest
front-counts true r rest = omega arith
front-counts false r rest = omega arith

-- ---- a delivery

-- The receiver takes the message: it is open, and there is room, or the service overflows.
abbrev pub takes_in : (overflow : Bool) (buffers : ℕ → Option ℕ) (boxes : ℕ → Mailbox) → ℕ → Bool
takes_in overflow buffers boxes q =
    option_map_or (λ (buffer : ℕ). has_room 0 buffer (boxes q) || overflow) (buffers q) false

strategy-none : (strategy : BackpressureStrategy) → accepted_count (by_strategy strategy) ≡ 0
strategy-none RetryUntilDelivered = refl
strategy-none DiscardData = refl

action-none : (strategy : BackpressureStrategy) (action : BackpressureAction)
    → accepted_count (by_action strategy action) ≡ 0
action-none strategy FollowBackpressureyStrategy = strategy-none strategy
action-none strategy Retry = refl
action-none strategy Discard = refl
action-none strategy DiscardDataAndFail = refl

decided-none : (environment : Environment) (p : ℕ) (handler : Option (Handler BackpressureAction))
    (strategy : BackpressureStrategy) (info : BackpressureInfo) (result : PutResult)
    → Decides environment p handler strategy info result → accepted_count result ≡ 0
decided-none environment p None strategy info result is = ap accepted_count is ∙ strategy-none strategy
decided-none environment p (Some (Fixed action)) strategy info result is =
    ap accepted_count is ∙ action-none strategy action
decided-none environment p (Some Custom) strategy info result is = ap accepted_count is.2 ∙ action-none strategy is.0

module _ (environment : Environment) (c : ServiceConfig) (p : ℕ) (strategy : BackpressureStrategy)
    (handler : Option (Handler BackpressureAction)) (buffers : ℕ → Option ℕ) (n : ℕ) where
  put-counts : (q retries : ℕ) (elapsed : Duration) (buffer : Option ℕ) (box : Mailbox) (result : PutResult)
      (box' : Mailbox)
      → Put environment c p strategy handler buffers n 0 q retries elapsed buffer box result box'
      → accepted_count result ≡ cond
      (option_map_or (λ (b : ℕ). has_room 0 b box || c.enable_safe_overflow) buffer false) 1 0
  put-counts q retries elapsed None box result box' h = ap accepted_count h.0
  put-counts q retries elapsed (Some buffer) box result box' h =
      by_bool (accepted_count result ≡ cond (has_room 0 buffer box || c.enable_safe_overflow) 1 0)
      (has_room 0 buffer box || c.enable_safe_overflow) _ _ h
      (λ full k. ap accepted_count k.0 ∙ sym (ap (λ (b : Bool). cond b 1 0) full))
      (λ no k. decided-none environment p handler strategy _ result k.0 ∙ sym (ap (λ (b : Bool). cond b 1 0) no))

  -- one that reached all counts those that take the message
  pub deliver-counts : (retries : ℕ) (elapsed : Duration) (place : ℕ) (ends : List (Option ℕ)) (count : ℕ)
      (has_failed : Bool) (boxes : ℕ → Mailbox) (all : ℕ) (some_failed : Bool) (boxes' : ℕ → Mailbox)
      → IsOnce (occupants ends) → Deliver environment c p strategy handler buffers n 0 retries elapsed place ends count
      has_failed boxes (Complete all some_failed) boxes'
      → all ≡ count + length (filter (takes_in c.enable_safe_overflow buffers boxes) (occupants ends))
  deliver-counts retries elapsed place [] count has_failed boxes all some_failed boxes' once h =
      let ended : Complete all some_failed ≡ Complete count has_failed = h.0 in
      let same : all ≡ count = cc in
      omega (arith, same)
  deliver-counts retries elapsed place (None ∷ rest) count has_failed boxes all some_failed boxes' once h =
      by_bool (all ≡ count + length (filter (takes_in c.enable_safe_overflow buffers boxes) (occupants rest)))
      (is_blocking h.0) _ _ h.3
      (λ _ k. let clash : Complete all some_failed ≡ Suspended _ = k.0 in absurd cc)
      (λ _ k.
      let later : all ≡ (count + accepted_count h.0) + length
      (filter (takes_in c.enable_safe_overflow buffers h.1) (occupants rest)) =
      deliver-counts 0 no_time (place + 1) rest (count + accepted_count h.0)
      (has_failed || is_failed h.0) h.1 all some_failed boxes' once k in
      let none : accepted_count h.0 ≡ 0 = ap accepted_count (h.2).0 in
      let same : length (filter (takes_in c.enable_safe_overflow buffers h.1) (occupants rest)) ≡ length
      (filter (takes_in c.enable_safe_overflow buffers boxes) (occupants rest)) =
      ap (λ (f : ℕ → Mailbox). length (filter (takes_in c.enable_safe_overflow buffers f) (occupants rest))) (h.2).1 in
      omega (arith, later, none, same))
  deliver-counts retries elapsed place (Some r ∷ rest) count has_failed boxes all some_failed boxes' once h =
      by_bool (all ≡ count + length (filter (takes_in c.enable_safe_overflow buffers boxes) (r ∷ occupants rest)))
      (is_blocking h.0) _ _ h.3
      (λ _ k. let clash : Complete all some_failed ≡ Suspended _ = k.0 in absurd cc)
      (λ _ k.
      let later : all ≡ (count + accepted_count h.0) + length
      (filter (takes_in c.enable_safe_overflow buffers h.1) (occupants rest)) =
      deliver-counts 0 no_time (place + 1) rest (count + accepted_count h.0)
      (has_failed || is_failed h.0) h.1 all some_failed boxes' once.1 k in
      let one : accepted_count h.0 ≡ cond (takes_in c.enable_safe_overflow buffers boxes r) 1 0 =
      put-counts r retries elapsed (buffers r) (boxes r) h.0 (h.2).0 (h.2).1 in
      let same : length (filter (takes_in c.enable_safe_overflow buffers h.1) (occupants rest)) ≡ length
      (filter (takes_in c.enable_safe_overflow buffers boxes) (occupants rest)) =
      takers-same (takes_in c.enable_safe_overflow buffers h.1) (takes_in c.enable_safe_overflow buffers boxes)
      (occupants rest)
      (λ q at. ap (λ (box : Mailbox). option_map_or (λ (buffer : ℕ). has_room 0 buffer box || c.enable_safe_overflow)
      (buffers q) false) (other q at)) in
      let first : length (filter (takes_in c.enable_safe_overflow buffers boxes) (r ∷ occupants rest)) ≡ cond
      (takes_in c.enable_safe_overflow buffers boxes r) 1 0 + length
      (filter (takes_in c.enable_safe_overflow buffers boxes) (occupants rest)) =
      front-counts (takes_in c.enable_safe_overflow buffers boxes r) r
      (filter (takes_in c.enable_safe_overflow buffers boxes) (occupants rest)) in
      omega (arith, later, one, same, first))
    where
      other : (q : ℕ) → contains (occupants rest) q ≡ true → h.1 q ≡ boxes q
      other q at =
          ap (λ (f : ℕ → Mailbox). f q) (h.2).2
          ∙ put_at-other boxes r (h.2).0 q
          (ne_eqb q r (λ same. true≢false (sym at ∙ ap (contains (occupants rest)) same ∙ once.0)))
