-- A message is delivered behind all that its publisher sent before it, and received in that order.
use Rattle.std.proofs.Common.{◌≡◌, ℕ, zero, suc, ◌≤◌, ◌+◌, Bool, true, ◌||◌, List, [], ◌∷◌, ◌++◌, drop, refl, sym, ap}
use Rattle.std.proofs.Common.{subst, ◌∙◌, arith, ltb, length, Option, None, Some}
use Rattle.std.specs.declared.time.Duration.{Duration}
use Rattle.std.proofs.lemmas.Bool.{cond_both, true≢false}
use Rattle.std.proofs.lemmas.List.{append_assoc}
use Rattle.iox2_machine.specs.machine.Numbers.{put_at}
use Rattle.iox2_machine.specs.machine.Mailbox.{Mailbox, with_appended, has_room}
use Rattle.iox2_machine.specs.machine.Records.{Handler, Environment}
use Rattle.iox2_machine.specs.machine.Delivery.{PutResult, accepted_count, is_failed, is_blocking, DeliveryEnd}
use Rattle.iox2_machine.specs.machine.Delivery.{Complete, Suspended, no_time, Put, PutAtEnd, Deliver}
use Rattle.iox2_machine.specs.machine.WellFormed.{LeadsTo, IsInjective}
use Rattle.iox2_machine.specs.declared.service_config.ServiceConfig.{ServiceConfig}
use Rattle.iox2_machine.specs.declared.backpressure.BackpressureStrategy.{BackpressureStrategy}
use Rattle.iox2_machine.specs.declared.backpressure.BackpressureAction.{BackpressureAction}
use Rattle.iox2_laws.proofs.Cases.{by_bool}
use Rattle.iox2_laws.proofs.Puts.{at_each}
use Rattle.iox2_laws.proofs.PlaceLemmas.{injective_rest}
use Rattle.iox2_commands.specs.Runs.{IsSubsequence}
use Rattle.iox2_commands.proofs.Subsequences.{IsSubsequence-refl, IsSubsequence-trans, IsSubsequence-append}
use Rattle.iox2_commands.proofs.Subsequences.{IsSubsequence-drop, IsSubsequence-push}
use Rattle.iox2_laws.proofs.DeliveryLaws.{leads_further}

-- ---- one message is delivered

-- a number that is appended comes behind what was there
appended_in_order : (buffer n : ℕ) (box : Mailbox) (got before : List ℕ) → IsSubsequence (got ++ box.waiting) before
    → IsSubsequence (got ++ (with_appended 0 buffer n box).waiting) (before ++ n ∷ [])
appended_in_order buffer n box got before h =
    let behind : (ws : List ℕ) → IsSubsequence ws box.waiting
    → IsSubsequence (got ++ (ws ++ n ∷ [])) (before ++ n ∷ []) =
    λ ws part. subst (λ xs. IsSubsequence xs (before ++ n ∷ [])) (append_assoc got ws (n ∷ []))
    (IsSubsequence-push
    (IsSubsequence-trans (IsSubsequence-append (IsSubsequence-refl got) ws box.waiting part) h) n) in
    cond_both (ltb (length box.waiting) buffer) box.waiting (drop 1 box.waiting)
    (λ ws. IsSubsequence (got ++ (ws ++ n ∷ [])) (before ++ n ∷ []))
    (λ _. behind box.waiting (IsSubsequence-refl box.waiting))
    (λ _. behind (drop 1 box.waiting) (IsSubsequence-drop 1 box.waiting))

-- The message n of a publisher was sent last; those at these ends haven't got it. `got` has what each receiver
-- received.
module _ (p0 : ℕ) (got : ℕ → List ℕ) (before : List ℕ) (n : ℕ) where
  -- Each receiver got no more than was sent, and those at these ends no more than was sent before.
  pub record Serving (ends : List (Option ℕ)) (boxes : ℕ → Mailbox) : Type 0 where
    pub whole : (q : ℕ) → p0 ≤ q → IsSubsequence (got q ++ (boxes q).waiting) (before ++ n ∷ [])
    pub unserved : (q : ℕ) → p0 ≤ q → LeadsTo ends q → IsSubsequence (got q ++ (boxes q).waiting) before

  -- Where a delivery stops, the ends that remain haven't got the message.
  abbrev pub LeftSo : DeliveryEnd → (ℕ → Mailbox) → Type 0
  LeftSo (Complete count has_failed) boxes = Serving [] boxes
  LeftSo (Suspended b) boxes = (b.message ≡ n) × Serving b.ends boxes

  one_fewer : (end : Option ℕ) (rest : List (Option ℕ)) (boxes : ℕ → Mailbox) → Serving (end ∷ rest) boxes
      → Serving rest boxes
  one_fewer end rest boxes v =
      record { whole = v.whole; unserved = λ q new l. v.unserved q new (leads_further end rest q l) }

  -- one mailbox is written as it was
  rewritten : (ends : List (Option ℕ)) (boxes : ℕ → Mailbox) (q : ℕ) (box : Mailbox) → box ≡ boxes q
      → Serving ends boxes → Serving ends (put_at boxes q box)
  rewritten ends boxes q box e v = record {
    whole = λ r. at_each boxes q box (λ r b. p0 ≤ r → IsSubsequence (got r ++ b.waiting) (before ++ n ∷ [])) r
        (λ _. subst (λ (b : Mailbox). p0 ≤ q → IsSubsequence (got q ++ b.waiting) (before ++ n ∷ [])) (sym e)
        (v.whole q)) (λ _. v.whole r);
    unserved = λ r. at_each boxes q box (λ r b. p0 ≤ r → LeadsTo ends r → IsSubsequence (got r ++ b.waiting) before) r
        (λ _. subst (λ (b : Mailbox). p0 ≤ q → LeadsTo ends q → IsSubsequence (got q ++ b.waiting) before) (sym e)
        (v.unserved q)) (λ _. v.unserved r);
  }

  -- the first of the ends gets the message
  served : (q : ℕ) (rest : List (Option ℕ)) (boxes : ℕ → Mailbox) (buffer : ℕ) (box : Mailbox)
      → IsInjective (Some q ∷ rest) → box ≡ with_appended 0 buffer n (boxes q)
      → Serving (Some q ∷ rest) boxes → Serving rest (put_at boxes q box)
  served q rest boxes buffer box apart e v = record {
    whole = λ r. at_each boxes q box (λ r b. p0 ≤ r → IsSubsequence (got r ++ b.waiting) (before ++ n ∷ [])) r
        (λ _ new. subst (λ (b : Mailbox). IsSubsequence (got q ++ b.waiting) (before ++ n ∷ [])) (sym e)
        (appended_in_order buffer n (boxes q) (got q) before (v.unserved q new (0, refl)))) (λ _. v.whole r);
    unserved = λ r. at_each boxes q box (λ r b. p0 ≤ r → LeadsTo rest r → IsSubsequence (got r ++ b.waiting) before) r
        (λ _ new l. let same : 0 ≡ suc l.0 = apart 0 (suc l.0) q refl l.1 in absurd (omega arith))
        (λ _ new l. v.unserved r new (leads_further (Some q) rest r l));
  }

  -- or it gets it in another channel, and what waits in channel 0 stays
  served_in : (channel q : ℕ) (rest : List (Option ℕ)) (boxes : ℕ → Mailbox) (buffer : ℕ) (box : Mailbox)
      → IsInjective (Some q ∷ rest)
      → box ≡ with_appended channel buffer n (boxes q) → Serving (Some q ∷ rest) boxes
      → Serving rest (put_at boxes q box)
  served_in zero q rest boxes buffer box apart e v = served q rest boxes buffer box apart e v
  served_in (suc k) q rest boxes buffer box apart e v = record {
    whole = λ r. at_each boxes q box (λ r b. p0 ≤ r → IsSubsequence (got r ++ b.waiting) (before ++ n ∷ [])) r
        (λ _ new. subst (λ (b : Mailbox). IsSubsequence (got q ++ b.waiting) (before ++ n ∷ [])) (sym e)
        (v.whole q new)) (λ _. v.whole r);
    unserved = λ r. at_each boxes q box (λ r b. p0 ≤ r → LeadsTo rest r → IsSubsequence (got r ++ b.waiting) before) r
        (λ _ new l. let same : 0 ≡ suc l.0 = apart 0 (suc l.0) q refl l.1 in absurd (omega arith))
        (λ _ new l. v.unserved r new (leads_further (Some q) rest r l));
  }

  module _ (environment : Environment) (c : ServiceConfig) (p : ℕ) (strategy : BackpressureStrategy)
      (handler : Option (Handler BackpressureAction)) (buffers : ℕ → Option ℕ) where
    -- after the first end, either it was served or left out; and where the send waits for it nothing was changed
    abbrev AfterEnd : (end : Option ℕ) → (rest : List (Option ℕ)) → PutResult → (ℕ → Mailbox) → Type 0
    AfterEnd end rest result mid = Serving rest mid × (is_blocking result ≡ true → Serving (end ∷ rest) mid)

    left_out : (end : Option ℕ) (rest : List (Option ℕ)) (boxes mid : ℕ → Mailbox) (result : PutResult)
        → Serving (end ∷ rest) mid → AfterEnd end rest result mid
    left_out end rest boxes mid result v = (one_fewer end rest mid v, λ _. v)

    put_in_order : (q : ℕ) (rest : List (Option ℕ)) (channel retries : ℕ) (elapsed : Duration) (buffer : Option ℕ)
        (boxes : ℕ → Mailbox) (result : PutResult) (box : Mailbox)
        → IsInjective (Some q ∷ rest) → Serving (Some q ∷ rest) boxes
        → Put environment c p strategy handler buffers n channel q retries elapsed buffer (boxes q) result box
        → AfterEnd (Some q) rest result (put_at boxes q box)
    put_in_order q rest channel retries elapsed None boxes result box apart v h =
        left_out (Some q) rest boxes (put_at boxes q box) result (rewritten (Some q ∷ rest) boxes q box h.1 v)
    put_in_order q rest channel retries elapsed (Some buffer) boxes result box apart v h =
        by_bool (AfterEnd (Some q) rest result (put_at boxes q box))
        (has_room channel buffer (boxes q) || c.enable_safe_overflow) _ _ h
        (λ _ h. (
          served_in channel q rest boxes buffer box apart h.1 v,
          λ blocks. absurd (true≢false (sym blocks ∙ ap is_blocking h.0)),
        ))
        (λ _ h. left_out (Some q) rest boxes (put_at boxes q box) result (rewritten (Some q ∷ rest) boxes q box h.1 v))

    put_at_end_in_order : (end : Option ℕ) (rest : List (Option ℕ)) (channel retries : ℕ) (elapsed : Duration)
        (boxes : ℕ → Mailbox) (result : PutResult) (mid : ℕ → Mailbox)
        → IsInjective (end ∷ rest) → Serving (end ∷ rest) boxes
        → PutAtEnd environment c p strategy handler buffers n channel retries elapsed end boxes result mid
        → AfterEnd end rest result mid
    put_at_end_in_order None rest channel retries elapsed boxes result mid apart v h =
        left_out None rest boxes mid result (subst (Serving (None ∷ rest)) (sym h.1) v)
    put_at_end_in_order (Some q) rest channel retries elapsed boxes result mid apart v h =
        subst (AfterEnd (Some q) rest result) (sym h.2)
        (put_in_order q rest channel retries elapsed (buffers q) boxes result h.0 apart v h.1)

    -- A delivery leaves each receiver with what it had, or with the message behind all that was sent before.
    pub deliver_in_order : (channel retries : ℕ) (elapsed : Duration) (place : ℕ) (ends : List (Option ℕ)) (count : ℕ)
        (has_failed : Bool) (boxes : ℕ → Mailbox) (how : DeliveryEnd) (boxes' : ℕ → Mailbox)
        → IsInjective ends → Serving ends boxes → Deliver environment c p strategy handler buffers n channel retries
        elapsed place ends count has_failed boxes how boxes'
        → LeftSo how boxes'
    deliver_in_order channel retries elapsed place [] count has_failed boxes how boxes' apart v h =
        subst (λ (d : DeliveryEnd). LeftSo d boxes') (sym h.0) (subst (Serving []) (sym h.1) v)
    deliver_in_order channel retries elapsed place (end ∷ rest) count has_failed boxes how boxes' apart v h =
        let k : AfterEnd end rest h.0 h.1 =
        put_at_end_in_order end rest channel retries elapsed boxes h.0 h.1 apart v h.2 in
        by_bool (LeftSo how boxes') (is_blocking h.0) _ _ h.3
        (λ blocks j. subst (λ (d : DeliveryEnd). LeftSo d boxes') (sym j.0)
        (refl, subst (Serving (end ∷ rest)) (sym j.1) (k.1 blocks)))
        (λ _ j. deliver_in_order channel 0 no_time (place + 1) rest (count + accepted_count h.0)
        (has_failed || is_failed h.0) h.1 how boxes' (injective_rest end rest apart) k.0 j)
