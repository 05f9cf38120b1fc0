-- What waits from a publisher after it has sent to a subscriber with which it is connected.
use Rattle.std.proofs.Common.{◌≡◌, ℕ, suc, ◌+◌, ◌<◌, ◌≤◌, Bool, true, false, cond, ◌||◌, List, [], ◌∷◌, ◌++◌, drop}
use Rattle.std.proofs.Common.{length, refl, sym, ap, subst, ◌∙◌, arith, ◌⊎◌, inl, inr}
use Rattle.std.specs.Bool.{MatchBool}
use Rattle.std.proofs.lemmas.Bool.{ltb-false}
use Rattle.std.proofs.lemmas.List.{length-append}
use Rattle.iox2_machine.specs.machine.Mailbox.{Mailbox, has_room, with_appended}
use Rattle.iox2_machine.specs.machine.Records.{Loan, Environment}
use Rattle.iox2_machine.specs.machine.Sends.{Delivered_to, Send}
use Rattle.iox2_machine.specs.machine.State.{State, is_blocked}
use Rattle.iox2_machine.specs.machine.Waiting.{waiting_from}
use Rattle.iox2_laws.proofs.WaitingCounts.{waiting_for}
use Rattle.iox2_machine.specs.machine.WellFormed.{IsWellFormed}
use Rattle.iox2_pubsub.specs.ConnectedPorts.{Connects}
use Rattle.iox2_pubsub.proofs.SendsServe.{connected-waits, send-serves, send-connections}
use Rattle.iox2_pubsub.proofs.ConnectedCounts.{TouchesOnly, as-many-wait, one-more-waits}

-- The number stands last. Where there was no room, which there is where nothing is, the first went in its place, with
-- overflow; without, it doesn't stand there.
abbrev pub ServedLists : (before now : List ℕ) → (n buffer : ℕ) → (overflow : Bool) → Type 0
ServedLists before now n buffer overflow =
    (now ≡ before ++ n ∷ []) ⊎ (((0 < length before) × (buffer ≤ length before))
    × MatchBool overflow (now ≡ drop 1 before ++ n ∷ []) (now ≡ before))

pub served-lists : (box : Mailbox) (n buffer : ℕ) (overflow : Bool) (now : List ℕ) → 0 < buffer
    → now ≡ (cond (has_room 0 buffer box || overflow) (with_appended 0 buffer n box) box).waiting
    → ServedLists box.waiting now n buffer overflow
served-lists box n buffer overflow now some is = by (has_room 0 buffer box) refl overflow is where
  by : (room : Bool) → has_room 0 buffer box ≡ room → (overflow : Bool)
      → now ≡ (cond (has_room 0 buffer box || overflow) (with_appended 0 buffer n box) box).waiting
      → ServedLists box.waiting now n buffer overflow
  by true e overflow is =
      inl (is ∙ ap (λ (b : Bool). (cond (b || overflow)
      (record box { waiting = cond b box.waiting (drop 1 box.waiting) ++ n ∷ [] }) box).waiting) e)
  by false e true is =
      let full : buffer ≤ length box.waiting = ltb-false _ _ e in
      inr (
        (omega (arith, full, some), full),
        is ∙ ap (λ (b : Bool). (cond (b || true)
            (record box { waiting = cond b box.waiting (drop 1 box.waiting) ++ n ∷ [] }) box).waiting) e,
      )
  by false e false is =
      let full : buffer ≤ length box.waiting = ltb-false _ _ e in
      inr (
        (omega (arith, full, some), full),
        is ∙ ap (λ (b : Bool). (cond (b || false)
            (record box { waiting = cond b box.waiting (drop 1 box.waiting) ++ n ∷ [] }) box).waiting) e,
      )

-- a list of which the first went and one came is as long
as-long : (ns : List ℕ) (n : ℕ) → 0 < length ns → length ns ≡ length (drop 1 ns ++ n ∷ [])
as-long [] n some = omega arith
as-long (m ∷ ns) n some = let more : length (ns ++ n ∷ []) ≡ length ns + 1 = length-append ns (n ∷ []) in
    omega (arith, more)

module _ {T U : Type 0} (environment : Environment) (s : State T U) (n : ℕ) (l : Loan T U) (s' : State T U) (count : ℕ)
    (w : IsWellFormed s) (free : is_blocked s l.publisher ≡ false)
    (h : Send environment s n l s' (Delivered_to count)) (q : ℕ) (c : Connects s l.publisher q) where
  pub send-served : ServedLists (waiting_from s l.publisher q) (waiting_from s' l.publisher q) n (c.subscriber).buffer
      (s.config).enable_safe_overflow
  send-served =
      subst (λ (before : List ℕ). ServedLists before (waiting_from s' l.publisher q) n (c.subscriber).buffer
      (s.config).enable_safe_overflow) (sym (connected-waits s l.publisher q c))
      (served-lists (s.mailboxes l.publisher q) n (c.subscriber).buffer (s.config).enable_safe_overflow
      (waiting_from s' l.publisher q) (w.subscribers q c.subscriber c.there).some_room
      (connected-waits s' l.publisher q (send-connections environment s n l s' (Delivered_to count) w h l.publisher q c)
      ∙ ap (λ (box : Mailbox). box.waiting) (send-serves environment s n l s' count w free q c h)))

module _ {T U : Type 0} (s s' : State T U) (p n q : ℕ) (touches : TouchesOnly s s' p) where
  -- one more waits, or as many
  pub one-more : p < s.next_port → waiting_from s' p q ≡ waiting_from s p q ++ n ∷ []
      → waiting_for s' q ≡ suc (waiting_for s q)
  one-more low is =
      let more : length (waiting_from s p q ++ n ∷ []) ≡ length (waiting_from s p q) + 1 =
      length-append (waiting_from s p q) (n ∷ []) in
      let one : length (waiting_from s' p q) ≡ length (waiting_from s p q ++ n ∷ []) = ap length is in
      sym (one-more-waits s s' p touches q low (omega (arith, more, one)))

  pub no-more : (overflow : Bool) → 0 < length (waiting_from s p q)
      → MatchBool overflow (waiting_from s' p q ≡ drop 1 (waiting_from s p q) ++ n ∷ [])
      (waiting_from s' p q ≡ waiting_from s p q) → waiting_for s' q ≡ waiting_for s q
  no-more overflow some is = sym (as-many-wait s s' p touches q (by overflow is)) where
    by : (overflow : Bool) → MatchBool overflow (waiting_from s' p q ≡ drop 1 (waiting_from s p q) ++ n ∷ [])
        (waiting_from s' p q ≡ waiting_from s p q)
        → length (waiting_from s p q) ≡ length (waiting_from s' p q)
    by true is = as-long (waiting_from s p q) n some ∙ ap length (sym is)
    by false is = ap length (sym is)
