-- A message is received before what waits behind it.
use Rattle.std.proofs.Common.{◌≡◌, ℕ, ◌≤◌, ◌<◌, true, false, cond, List, [], ◌∷◌, ◌++◌, refl, sym, subst, arith, eqb}
use Rattle.std.proofs.Common.{Some}
use Rattle.std.proofs.lemmas.Bool.{eqb-true}
use Rattle.iox2_machine.specs.machine.Numbers.{put_at}
use Rattle.iox2_machine.specs.machine.Mailbox.{Mailbox, BorrowsFirst, has_numbers}
use Rattle.iox2_machine.specs.machine.Records.{Subscriber, Environment}
use Rattle.iox2_machine.specs.machine.State.{State, with_mailbox}
use Rattle.iox2_machine.specs.machine.Receives.{TakeSample, Receive, ReceiveResult, Got_sample, No_sample}
use Rattle.iox2_machine.specs.machine.Receives.{Receive_error}
use Rattle.iox2_machine.specs.machine.WellFormed.{LeadsTo, IsWellFormed}
use Rattle.iox2_laws.proofs.Cases.{by_option}
use Rattle.iox2_laws.proofs.MailboxLemmas.{has_numbers-borrowed}
use Rattle.iox2_commands.specs.Runs.{IsSubsequence}
use Rattle.iox2_laws.proofs.SubscriberUpdates.{update_subscriber_keeps}
use Rattle.iox2_commands.proofs.Subsequences.{IsSubsequence-moved}
use Rattle.iox2_commands.proofs.Ordered.{Ordered, BlockedInOrder, quiet_keeps}
use Rattle.iox2_commands.proofs.OrderUpdates.{update_subscriber_quiet}

-- two tables changed at the same pair of keys
both_put : {X Y : Type 0} (f : ℕ → ℕ → X) (g : ℕ → ℕ → Y) (p q : ℕ) (x : X) (y : Y) (P : ℕ → ℕ → X → Y → Type 0)
    (i j : ℕ) → P p q x y → P i j (f i j) (g i j)
    → P i j (put_at f p (put_at (f p) q x) i j) (put_at g p (put_at (g p) q y) i j)
both_put f g p q x y P i j new old =
    elim (eqb i p) as (λ b. eqb i p ≡ b → P i j (cond b (put_at (f p) q x) (f i) j) (cond b (put_at (g p) q y) (g i) j)) [
      | true ↦ λ e. subst (λ k. P k j (put_at (f p) q x j) (put_at (g p) q y j)) (sym (eqb-true i p e))
          (elim (eqb j q) as (λ b. eqb j q ≡ b → P p j (cond b x (f p j)) (cond b y (g p j))) [
            | true ↦ λ d. subst (λ k. P p k x y) (sym (eqb-true j q d)) new
            | false ↦ λ _. subst (λ k. P k j (f k j) (g k j)) (eqb-true i p e) old
          ] refl)
      | false ↦ λ _. old
    ] refl

-- What was received afterwards.
abbrev pub got_after : (got : ℕ → ℕ → List ℕ) → (q : ℕ) → ReceiveResult → ℕ → ℕ → List ℕ
got_after got q (Got_sample p n) = put_at got p (put_at (got p) q (got p q ++ n ∷ []))
got_after got q No_sample = got
got_after got q (Receive_error e) = got

module _ {T U : Type 0} (p0 n0 : ℕ) (out : ℕ → List ℕ) (got : ℕ → ℕ → List ℕ) where
  module _ (s : State T U) (p q n : ℕ) (box : Mailbox) (w : Ordered p0 n0 out got s) (v : IsWellFormed s)
      (new_q : p0 ≤ q) (first : BorrowsFirst (s.mailboxes p q) n box) where
    abbrev got_then : ℕ → ℕ → List ℕ
    got_then = put_at got p (put_at (got p) q (got p q ++ n ∷ []))

    some_numbers : has_numbers (s.mailboxes p q) ≡ true
    some_numbers = (has_numbers-borrowed n (s.mailboxes p q) box first).0

    -- what was received and what waits, together, are as before
    moved : (ms : List ℕ) → IsSubsequence (got p q ++ (s.mailboxes p q).waiting) ms
        → IsSubsequence ((got p q ++ n ∷ []) ++ box.waiting) ms
    moved ms h =
        subst (λ (b : Mailbox). IsSubsequence ((got p q ++ n ∷ []) ++ b.waiting) ms) (sym first.2)
        (IsSubsequence-moved (got p q) first.0 ms n (subst (λ ws. IsSubsequence (got p q ++ ws) ms) first.1 h))

    -- The first message that waits is received.
    received_ordered : Ordered p0 n0 out got_then (with_mailbox s p q box)
    received_ordered = record {
      ports = w.ports;
      numbers = w.numbers;
      loans = w.loans;
      order = λ i j new. both_put got s.mailboxes p q (got p q ++ n ∷ []) box
          (λ i j g b. p0 ≤ j → IsSubsequence (g ++ b.waiting) (out i)) i j
          (λ _. moved (out p) (w.order p q new_q)) (w.order i j) new;
      silent = λ i j low. both_put got s.mailboxes p q (got p q ++ n ∷ []) box (λ i j g b. j < p0 → g ≡ []) i j
          (λ low. absurd (omega arith)) (w.silent i j) low;
      history = w.history;
      unconnected = λ i j x new_i new_j e opened no_end. both_put got s.mailboxes p q (got p q ++ n ∷ []) box
          (λ i j g b. s.publishers i ≡ Some x → (LeadsTo x.ends j → ⊥) → g ≡ []) i j
          (λ there none. absurd (none ((v.mailboxes p q).sender_end x there some_numbers)))
          (λ there none. w.unconnected i j x new_i new_j there opened none) e no_end;
      unmade = w.unmade;
      unmade_receiver =
          λ i j high. both_put got s.mailboxes p q (got p q ++ n ∷ []) box (λ i j g b. s.next_port ≤ j → g ≡ []) i j
          (λ high. let low : q < s.next_port = ((v.mailboxes p q).known some_numbers).1 in absurd (omega arith))
          (w.unmade_receiver i j) high;
      once = w.once;
      unsent = w.unsent;
      below = w.below;
      blocked = λ i x b new_i e f. let u : BlockedInOrder p0 out got s i b = w.blocked i x b new_i e f in record {
        before = u.before;
        last = u.last;
        unserved = λ j new_j l. both_put got s.mailboxes p q (got p q ++ n ∷ []) box
            (λ k j g b'. k ≡ i → p0 ≤ j → LeadsTo b.ends j → IsSubsequence (g ++ b'.waiting) u.before) i j
            (λ same new_j l. moved u.before (subst (λ k. IsSubsequence (got k q ++ (s.mailboxes k q).waiting) u.before)
            (sym same) (u.unserved q new_j l)))
            (λ _. u.unserved j) refl new_j l;
      };
    }

  take_ordered : (s : State T U) (q : ℕ) (y : Subscriber) (s' : State T U) (result : ReceiveResult)
      → Ordered p0 n0 out got s → IsWellFormed s → p0 ≤ q
      → TakeSample s q y s' result
      → Ordered p0 n0 out (got_after got q result) s'
  take_ordered s q y s' (Got_sample p n) w v new h =
      subst (Ordered p0 n0 out (got_after got q (Got_sample p n))) (sym h.3) (received_ordered s p q n h.1 w v new h.2)
  take_ordered s q y s' No_sample w v new h = subst (Ordered p0 n0 out got) (sym h.1) w
  take_ordered s q y s' (Receive_error e) w v new h = subst (Ordered p0 n0 out got) (sym h.3) w

  -- A subscriber receives.
  pub receive_ordered : (environment : Environment) (s : State T U) (q : ℕ) (s' : State T U) (result : ReceiveResult)
      → Ordered p0 n0 out got s → IsWellFormed s
      → p0 ≤ q → Receive environment s q s' result
      → Ordered p0 n0 out (got_after got q result) s'
  receive_ordered environment s q s' result w v new h =
      let mid : State T U = h.0 in
      let w' : Ordered p0 n0 out got mid =
      quiet_keeps p0 n0 out got s mid w (update_subscriber_quiet p0 environment s q mid h.1 h.2) in
      let v' : IsWellFormed mid = update_subscriber_keeps environment s q mid h.1 v h.2 in
      by_option (Ordered p0 n0 out (got_after got q result) s') h.1 _ _ h.3
      (λ _ j. by_option (Ordered p0 n0 out (got_after got q result) s') (mid.subscribers q) _ _ j (λ _ f. absurd f)
      (λ y _ j. take_ordered mid q y s' result w' v' new j))
      (λ e _ j. subst (λ (r : ReceiveResult). Ordered p0 n0 out (got_after got q r) s') (sym j.1)
      (subst (Ordered p0 n0 out got) (sym j.0) w'))
