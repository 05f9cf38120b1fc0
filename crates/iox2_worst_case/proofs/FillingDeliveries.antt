-- A message is delivered on the way to full slots: full subscribers are skipped, and the last one takes it where it has
-- room.
use Rattle.std.proofs.Common.{◌≡◌, ℕ, zero, suc, ◌+◌, ◌≤◌, ◌<◌, Bool, true, false, cond, ◌||◌, List, [], ◌∷◌, ◌++◌}
use Rattle.std.proofs.Common.{refl, sym, ap, subst, ◌∙◌, arith, Option, None, Some, ◌⊎◌, inl, inr, ⊎_elim}
use Rattle.std.specs.Bool.{MatchBool}
use Rattle.iox2_machine.specs.machine.Limits.{buffer_limit}
use Rattle.iox2_machine.specs.machine.Numbers.{put_at}
use Rattle.iox2_machine.specs.machine.Mailbox.{Mailbox, has_room, with_appended}
use Rattle.iox2_machine.specs.machine.Delivery.{PutResult, Accepted, Skipped, Failed, Would_block, accepted_count}
use Rattle.iox2_machine.specs.machine.Delivery.{is_failed, is_blocking, DeliveryEnd, Complete, no_time, Put, Deliver}
use Rattle.iox2_machine.specs.declared.service_config.ServiceConfig.{ServiceConfig}
use Rattle.iox2_machine.specs.declared.backpressure.BackpressureStrategy.TheVariants.{DiscardData}
use Rattle.iox2_machine.specs.machine.Environments.{ample_memory}
use Rattle.iox2_laws.proofs.Puts.{put_at-own}
use Rattle.iox2_worst_case.proofs.FillingNumbers.{ports_from, ports_from_push}

-- the mailbox after a message came, which it takes where it has room
abbrev pub taken : (buffer n : ℕ) → Mailbox → Mailbox
taken buffer n box = cond (has_room 0 buffer box) (with_appended 0 buffer n box) box

-- Every delivery of that message to so many subscribers ends, and leaves the mailboxes so.
abbrev pub Delivers : ServiceConfig → (made n : ℕ) → (boxes wanted : ℕ → Mailbox) → Type 0
Delivers c made n boxes wanted =
    (buffers : ℕ → Option ℕ) → ((q : ℕ) → 2 ≤ q → q < 2 + made → buffers q ≡ Some (buffer_limit c))
    → (how : DeliveryEnd) (boxes' : ℕ → Mailbox)
    → Deliver ample_memory c 1 DiscardData None buffers n 0 0 no_time 0 (ports_from 2 made) 0 false boxes how boxes'
    → (count : ℕ) × (how ≡ Complete count false) × (boxes' ≡ wanted)

append_nil : (xs : List (Option ℕ)) → xs ++ [] ≡ xs
append_nil [] = refl
append_nil (x ∷ xs) = ap (λ r. x ∷ r) (append_nil xs)

module _ (c : ServiceConfig) (keeps : c.enable_safe_overflow ≡ false) (buffers : ℕ → Option ℕ) (n : ℕ) where
  -- one mailbox
  put_one : (q : ℕ) (box : Mailbox) (result : PutResult) (box' : Mailbox)
      → Put ample_memory c 1 DiscardData None buffers n 0 q 0 no_time (Some (buffer_limit c)) box result box'
      → ((result ≡ Accepted) ⊎ (result ≡ Skipped)) × (box' ≡ taken (buffer_limit c) n box)
  put_one q box result box' h = at (has_room 0 (buffer_limit c) box) h
    where
      at : (b : Bool) → MatchBool (b || c.enable_safe_overflow)
          ((result ≡ Accepted) × (box' ≡ with_appended 0 (buffer_limit c) n box))
          ((result ≡ Skipped) × (box' ≡ box))
          → ((result ≡ Accepted) ⊎ (result ≡ Skipped)) × (box' ≡ cond b (with_appended 0 (buffer_limit c) n box) box)
      at true k = (inl k.0, k.1)
      at false k =
          let skips : (result ≡ Skipped) × (box' ≡ box) =
          subst (λ b. MatchBool b ((result ≡ Accepted) × (box' ≡ with_appended 0 (buffer_limit c) n box))
          ((result ≡ Skipped) × (box' ≡ box))) keeps k in
          (inr skips.0, skips.1)

  put_full : (q : ℕ) (box : Mailbox) (result : PutResult) (box' : Mailbox) → has_room 0 (buffer_limit c) box ≡ false
      → Put ample_memory c 1 DiscardData None buffers n 0 q 0 no_time (Some (buffer_limit c)) box result box'
      → (result ≡ Skipped) × (box' ≡ box)
  put_full q box result box' full h =
      let skips : MatchBool (false || c.enable_safe_overflow)
      ((result ≡ Accepted) × (box' ≡ with_appended 0 (buffer_limit c) n box))
      ((result ≡ Skipped) × (box' ≡ box)) =
      subst (λ b. MatchBool (b || c.enable_safe_overflow)
      ((result ≡ Accepted) × (box' ≡ with_appended 0 (buffer_limit c) n box))
      ((result ≡ Skipped) × (box' ≡ box))) full h in
      subst (λ b. MatchBool b ((result ≡ Accepted) × (box' ≡ with_appended 0 (buffer_limit c) n box))
      ((result ≡ Skipped) × (box' ≡ box))) keeps skips

  -- behind a subscriber that is skipped
  after_skipped : (place k : ℕ) (rest : List (Option ℕ)) (boxes : ℕ → Mailbox) (how : DeliveryEnd)
      (boxes' : ℕ → Mailbox) (Blocks : Type 0) (result : PutResult)
      (mid : ℕ → Mailbox) → result ≡ Skipped → mid ≡ boxes
      → MatchBool (is_blocking result) Blocks
      (Deliver ample_memory c 1 DiscardData None buffers n 0 0 no_time (place + 1) rest (k + accepted_count result)
      (false || is_failed result) mid how boxes')
      → Deliver ample_memory c 1 DiscardData None buffers n 0 0 no_time (place + 1) rest (k + 0) false boxes how boxes'
  after_skipped place k rest boxes how boxes' Blocks Skipped mid e f h =
      subst (λ (b : ℕ → Mailbox). Deliver ample_memory c 1 DiscardData None buffers n 0 0 no_time (place + 1) rest
      (k + 0) false b how boxes') f h
  after_skipped place k rest boxes how boxes' Blocks Accepted mid e f h = absurd (cc)
  after_skipped place k rest boxes how boxes' Blocks Failed mid e f h = absurd (cc)
  after_skipped place k rest boxes how boxes' Blocks Would_block mid e f h = absurd (cc)

  -- full subscribers are skipped
  skip_full : (first count place k : ℕ) (rest : List (Option ℕ)) (boxes : ℕ → Mailbox) (how : DeliveryEnd)
      (boxes' : ℕ → Mailbox)
      → ((q : ℕ) → first ≤ q → q < first + count
      → (buffers q ≡ Some (buffer_limit c)) × (has_room 0 (buffer_limit c) (boxes q) ≡ false))
      → Deliver ample_memory c 1 DiscardData None buffers n 0 0 no_time place
      (ports_from first count ++ rest) k false boxes how boxes'
      → (place' : ℕ) × (k' : ℕ)
      × Deliver ample_memory c 1 DiscardData None buffers n 0 0 no_time place' rest k' false boxes how boxes'
  skip_full first zero place k rest boxes how boxes' each h = (place, k, h)
  skip_full first (suc count) place k rest boxes how boxes' each h =
      let here : (buffers first ≡ Some (buffer_limit c)) × (has_room 0 (buffer_limit c) (boxes first) ≡ false) =
      each first (omega arith) (omega arith) in
      let put : Put ample_memory c 1 DiscardData None buffers n 0 first 0 no_time (Some (buffer_limit c))
      (boxes first) h.0 h.2.0 =
      subst (λ (b : Option ℕ).
      Put ample_memory c 1 DiscardData None buffers n 0 first 0 no_time b (boxes first) h.0 h.2.0) here.0 h.2.1 in
      let skipped : (h.0 ≡ Skipped) × (h.2.0 ≡ boxes first) = put_full first (boxes first) h.0 h.2.0 here.1 put in
      let same : h.1 ≡ boxes = h.2.2 ∙ ap (put_at boxes first) skipped.1 ∙ put_at-own boxes first in
      skip_full (suc first) count (place + 1) (k + 0) rest boxes how boxes'
      (λ q low high. each q (omega arith) (omega arith))
      (after_skipped place k (ports_from (suc first) count ++ rest) boxes how boxes' _ h.0 h.1 skipped.0 same h.3)

  -- the last subscriber takes the message where it has room
  after_last : (place k : ℕ) (how : DeliveryEnd) (boxes' : ℕ → Mailbox) (Blocks : Type 0) (result : PutResult)
      (mid : ℕ → Mailbox)
      → ((result ≡ Accepted) ⊎ (result ≡ Skipped))
      → MatchBool (is_blocking result) Blocks
      (Deliver ample_memory c 1 DiscardData None buffers n 0 0 no_time (place + 1) [] (k + accepted_count result)
      (false || is_failed result) mid how boxes')
      → (count : ℕ) × (how ≡ Complete count false) × (boxes' ≡ mid)
  after_last place k how boxes' Blocks Skipped mid e h = (k + 0, h.0, h.1)
  after_last place k how boxes' Blocks Accepted mid e h = (k + 1, h.0, h.1)
  after_last place k how boxes' Blocks Failed mid e h = ⊎_elim (λ e. absurd (cc)) (λ e. absurd (cc)) e
  after_last place k how boxes' Blocks Would_block mid e h = ⊎_elim (λ e. absurd (cc)) (λ e. absurd (cc)) e

  deliver_last : (q place k : ℕ) (boxes : ℕ → Mailbox) (how : DeliveryEnd) (boxes' : ℕ → Mailbox)
      → buffers q ≡ Some (buffer_limit c)
      → Deliver ample_memory c 1 DiscardData None buffers n 0 0 no_time place (Some q ∷ []) k false boxes how boxes'
      → (count : ℕ) × (how ≡ Complete count false) × (boxes' ≡ put_at boxes q (taken (buffer_limit c) n (boxes q)))
  deliver_last q place k boxes how boxes' listens h =
      let put : Put ample_memory c 1 DiscardData None buffers n 0 q 0 no_time (Some (buffer_limit c))
      (boxes q) h.0 h.2.0 =
      subst (λ (b : Option ℕ). Put ample_memory c 1 DiscardData None buffers n 0 q 0 no_time b (boxes q) h.0 h.2.0)
      listens h.2.1 in
      let one : ((h.0 ≡ Accepted) ⊎ (h.0 ≡ Skipped)) × (h.2.0 ≡ taken (buffer_limit c) n (boxes q)) =
      put_one q (boxes q) h.0 h.2.0 put in
      let all : (count : ℕ) × (how ≡ Complete count false) × (boxes' ≡ h.1) =
      after_last place k how boxes' _ h.0 h.1 one.0 h.3 in
      (all.0, all.1, all.2 ∙ h.2.2 ∙ ap (put_at boxes q) one.1)

-- where all subscribers are full, nothing changes
pub delivers_to_none : (c : ServiceConfig) (made n : ℕ) (boxes : ℕ → Mailbox) → c.enable_safe_overflow ≡ false
    → ((q : ℕ) → 2 ≤ q → q < 2 + made → has_room 0 (buffer_limit c) (boxes q) ≡ false) → Delivers c made n boxes boxes
delivers_to_none c made n boxes keeps full buffers listens how boxes' h =
    let rest : (place' : ℕ) × (k' : ℕ)
    × Deliver ample_memory c 1 DiscardData None buffers n 0 0 no_time place' [] k' false boxes how boxes' =
    skip_full c keeps buffers n 2 made 0 0 [] boxes how boxes' (λ q low high. (listens q low high, full q low high))
    (subst (λ (ends : List (Option ℕ)).
    Deliver ample_memory c 1 DiscardData None buffers n 0 0 no_time 0 ends 0 false boxes how boxes')
    (sym (append_nil (ports_from 2 made))) h) in
    (rest.1, rest.2.0, rest.2.1)

-- where all subscribers but the last are full, that one takes the message where it has room
pub delivers_to_last : (c : ServiceConfig) (made n : ℕ) (boxes : ℕ → Mailbox) → c.enable_safe_overflow ≡ false
    → ((q : ℕ) → 2 ≤ q → q < 2 + made → has_room 0 (buffer_limit c) (boxes q) ≡ false)
    → Delivers c (suc made) n boxes (put_at boxes (2 + made) (taken (buffer_limit c) n (boxes (2 + made))))
delivers_to_last c made n boxes keeps full buffers listens how boxes' h =
    let rest : (place' : ℕ) × (k' : ℕ) × Deliver ample_memory c 1 DiscardData None buffers n 0 0 no_time place'
    (Some (2 + made) ∷ []) k' false boxes how boxes' =
    skip_full c keeps buffers n 2 made 0 0 (Some (2 + made) ∷ []) boxes how boxes'
    (λ q low high. (listens q low (omega arith), full q low high))
    (subst (λ (ends : List (Option ℕ)).
    Deliver ample_memory c 1 DiscardData None buffers n 0 0 no_time 0 ends 0 false boxes how boxes')
    (ports_from_push 2 made) h) in
    deliver_last c keeps buffers n (2 + made) rest.0 rest.1 boxes how boxes'
    (listens (2 + made) (omega arith) (omega arith)) rest.2
