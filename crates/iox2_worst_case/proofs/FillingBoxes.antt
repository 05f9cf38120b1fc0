-- The mailboxes on the way to full slots: those of earlier subscribers are full and share no number, and the last one
-- fills.
use Rattle.std.proofs.Common.{◌≡◌, ℕ, suc, ◌+◌, ◌-◌, ◌≤◌, ◌<◌, true, false, cond, List, [], ◌∷◌, ◌++◌, length, drop}
use Rattle.std.proofs.Common.{take, refl, sym, ap, subst, ◌∙◌, arith, ◌⊎◌, ⊎_elim}
use Rattle.std.specs.List.{flat_map}
use Rattle.std.proofs.lemmas.Bool.{ne_eqb, le-ltb, ltb-true, ltb-false}
use Rattle.std.proofs.lemmas.List.{length-append}
use Rattle.iox2_machine.specs.machine.Limits.{buffer_limit}
use Rattle.iox2_machine.specs.machine.Numbers.{contains, last_n, put_at, IsOnce}
use Rattle.iox2_machine.specs.machine.Mailbox.{Mailbox, other_numbers, numbers_in, has_room, with_appended}
use Rattle.iox2_machine.specs.machine.Mailbox.{with_waiting}
use Rattle.iox2_machine.specs.declared.service_config.ServiceConfig.{ServiceConfig}
use Rattle.iox2_laws.proofs.Puts.{put_at-other}
use Rattle.iox2_laws.proofs.NumberLemmas.{contains_in_append, contains_left, contains_right, contains_one}
use Rattle.iox2_laws.proofs.NumberLemmas.{contains_first, contains_later, contains_in_last_n, length-last_n}
use Rattle.iox2_laws.proofs.NumberLemmas.{absent_from, IsOnce-append, contains_in_flat_map}
use Rattle.iox2_laws.proofs.MailboxLemmas.{contains_in_appended}
use Rattle.iox2_commands.proofs.GrowingLists.{longer}
use Rattle.iox2_worst_case.proofs.FillingNumbers.{numbers_from, within_numbers_from, flat_map_agrees, flat_map_push}
use Rattle.iox2_worst_case.proofs.FillingNumbers.{recent}
use Rattle.iox2_worst_case.proofs.FillingDeliveries.{taken}
use Rattle.iox2_worst_case.proofs.FillingReceives.{one_received}

-- So many subscribers have full buffers, with channel 0 alone, and have borrowed all that they may. No number stands
-- there twice, and all are below the bound.
pub record AreFull (c : ServiceConfig) (boxes : ℕ → Mailbox) (made bound : ℕ) : Type 0 where
  pub waits : (q : ℕ) → 2 ≤ q → q < 2 + made → length (boxes q).waiting ≡ buffer_limit c
  pub borrows : (q : ℕ) → 2 ≤ q → q < 2 + made → length (boxes q).borrowed ≡ c.subscriber_max_borrowed_samples
  pub single : (q : ℕ) → 2 ≤ q → q < 2 + made → other_numbers (boxes q) ≡ []
  pub below : (q n : ℕ) → 2 ≤ q → q < 2 + made → contains (numbers_in (boxes q)) n ≡ true → n < bound
  pub once : IsOnce (flat_map (λ q. numbers_in (boxes q)) (numbers_from 2 made))

-- At least so many messages wait, in channel 0 alone, and so many are borrowed; all of them have the bound or a later
-- number.
pub record IsOpening (c : ServiceConfig) (box : Mailbox) (least lent bound : ℕ) : Type 0 where
  pub at_least : least ≤ length box.waiting
  pub at_most : length box.waiting ≤ buffer_limit c
  pub borrows : length box.borrowed ≡ lent
  pub single : other_numbers box ≡ []
  pub above : (n : ℕ) → contains (numbers_in box) n ≡ true → bound ≤ n

-- a full subscriber has no room
pub no_room : (c : ServiceConfig) (boxes : ℕ → Mailbox) (made bound : ℕ) → AreFull c boxes made bound → (q : ℕ) → 2 ≤ q
    → q < 2 + made
    → has_room 0 (buffer_limit c) (boxes q) ≡ false
no_room c boxes made bound f q low high =
    le-ltb (length (boxes q).waiting) (buffer_limit c) (omega (arith, f.waits q low high))

-- none is full where there is none
pub none_full : (c : ServiceConfig) (boxes : ℕ → Mailbox) (bound : ℕ) → AreFull c boxes 0 bound
none_full c boxes bound = record {
  waits = λ q low high. absurd (omega arith);
  borrows = λ q low high. absurd (omega arith);
  single = λ q low high. absurd (omega arith);
  below = λ q n low high h. absurd (omega arith);
  once = tt;
}

-- the full ones stay when the next one's mailbox changes
pub full_kept : (c : ServiceConfig) (boxes : ℕ → Mailbox) (made bound : ℕ) (box : Mailbox) → AreFull c boxes made bound
    → AreFull c (put_at boxes (2 + made) box) made bound
full_kept c boxes made bound box f = record {
  waits = λ q low high. ap (λ (b : Mailbox). length b.waiting) (same q high) ∙ f.waits q low high;
  borrows = λ q low high. ap (λ (b : Mailbox). length b.borrowed) (same q high) ∙ f.borrows q low high;
  single = λ q low high. ap other_numbers (same q high) ∙ f.single q low high;
  below =
      λ q n low high h. f.below q n low high (ap (λ (b : Mailbox). contains (numbers_in b) n) (sym (same q high)) ∙ h);
  once =
      subst IsOnce (flat_map_agrees (λ q. numbers_in (boxes q)) (λ q. numbers_in (put_at boxes (2 + made) box q)) 2 made
      (λ q low high. ap numbers_in (sym (same q high)))) f.once;
}
  where
    same : (q : ℕ) → q < 2 + made → put_at boxes (2 + made) box q ≡ boxes q
    same q high = put_at-other boxes (2 + made) box q (ne_eqb q (2 + made) (λ e. omega arith))

-- one more is full when the next one's mailbox is
pub one_more_full : (c : ServiceConfig) (boxes : ℕ → Mailbox) (made bound next : ℕ) → bound ≤ next
    → AreFull c boxes made bound
    → IsOpening c (boxes (2 + made)) (buffer_limit c) c.subscriber_max_borrowed_samples bound
    → IsOnce (numbers_in (boxes (2 + made)))
    → ((n : ℕ) → contains (numbers_in (boxes (2 + made))) n ≡ true → n < next) → AreFull c boxes (suc made) next
one_more_full c boxes made bound next later f last once low = record {
  waits = λ q l h. ⊎_elim (λ old. f.waits q l old) (λ new. ap (λ i. length (boxes i).waiting) new ∙ full) (split q h);
  borrows = λ q l h.
      ⊎_elim (λ old. f.borrows q l old) (λ new. ap (λ i. length (boxes i).borrowed) new ∙ last.borrows) (split q h);
  single = λ q l h.
      ⊎_elim (λ old. f.single q l old) (λ new. ap (λ i. other_numbers (boxes i)) new ∙ last.single) (split q h);
  below = λ q n l h k. ⊎_elim (λ old. let b : n < bound = f.below q n l old k in omega arith)
      (λ new. low n (ap (λ i. contains (numbers_in (boxes i)) n) (sym new) ∙ k)) (split q h);
  once = subst IsOnce (sym (flat_map_push (λ q. numbers_in (boxes q)) 2 made))
      (IsOnce-append (flat_map (λ q. numbers_in (boxes q)) (numbers_from 2 made))
      (numbers_in (boxes (2 + made))) f.once once (λ n here.
      absent_from (numbers_in (boxes (2 + made))) n (λ there.
      let found : (q : ℕ) × (contains (numbers_from 2 made) q ≡ true) × (contains (numbers_in (boxes q)) n ≡ true) =
      contains_in_flat_map
      (λ q. numbers_in (boxes q)) (numbers_from 2 made) n here in
      let within : (2 ≤ found.0) × (found.0 < 2 + made) = within_numbers_from 2 made found.0 found.1 in
      let b : n < bound = f.below found.0 n within.0 within.1 found.2 in
      let a : bound ≤ n = last.above n there in
      omega arith)));
}
  where
    full : length (boxes (2 + made)).waiting ≡ buffer_limit c
    full = omega (arith, last.at_least, last.at_most)

    split : (q : ℕ) → q < 2 + suc made → (q < 2 + made) ⊎ (q ≡ 2 + made)
    split q h = grind arith

-- a new number is taken where there is room
pub opening_taken : (c : ServiceConfig) (box : Mailbox) (least more lent bound n : ℕ) → more ≡ suc least
    → more ≤ buffer_limit c → bound ≤ n
    → IsOpening c box least lent bound → IsOpening c (taken (buffer_limit c) n box) more lent bound
opening_taken c box least more lent bound n e some later h =
    elim (has_room 0 (buffer_limit c) box) as (λ b. has_room 0 (buffer_limit c) box ≡ b
    → IsOpening c (cond b (with_appended 0 (buffer_limit c) n box) box) more lent
    bound) [
      | true ↦ λ room.
          let low : length box.waiting < buffer_limit c = ltb-true (length box.waiting) (buffer_limit c) room in
          let count : length (with_appended 0 (buffer_limit c) n box).waiting ≡ suc (length box.waiting) =
          ap (λ b. length (cond b box.waiting (drop 1 box.waiting) ++ n ∷ [])) room ∙ longer box.waiting n in
          record {
            at_least = omega (arith, h.at_least, count);
            at_most = omega (arith, count);
            borrows = h.borrows;
            single = h.single;
            above = λ m k.
                ⊎_elim (λ same. omega arith) (λ old. h.above m old) (contains_in_appended 0 (buffer_limit c) n box m k);
          }
      | false ↦ λ room.
          let high : buffer_limit c ≤ length box.waiting = ltb-false (length box.waiting) (buffer_limit c) room in
          record {
            at_least = omega arith;
            at_most = h.at_most;
            borrows = h.borrows;
            single = h.single;
            above = h.above;
          }
    ] refl

-- what is received was there
received_was_there : (ws bs : List ℕ) (n : ℕ) → contains (drop 1 ws ++ (bs ++ take 1 ws)) n ≡ true
    → contains (ws ++ bs) n ≡ true
received_was_there [] bs n h = ⊎_elim (λ k. k) (λ k. absurd (none n k)) (contains_in_append bs [] n h)
  where
    none : (n : ℕ) → contains [] n ≡ true → ⊥
    none n h = absurd (cc)
received_was_there (w ∷ ws) bs n h =
    ⊎_elim
    (λ k. contains_later w n (ws ++ bs) (contains_left ws bs n k))
    (λ k. ⊎_elim
    (λ j. contains_later w n (ws ++ bs) (contains_right ws bs n j))
    (λ j. let same : w ≡ n = contains_one w n j in
    subst (λ i. contains (w ∷ (ws ++ bs)) i ≡ true) same (contains_first w (ws ++ bs)))
    (contains_in_append bs (w ∷ []) n k))
    (contains_in_append ws (bs ++ w ∷ []) n h)

-- a number is received
pub opening_received : (c : ServiceConfig) (box : Mailbox) (least lent bound : ℕ)
    → IsOpening c box (suc least) lent bound
    → IsOpening c (one_received box) least (suc lent) bound
opening_received c box least lent bound h = record {
  at_least = fewer box.waiting h.at_least;
  at_most = no_more box.waiting h.at_most;
  borrows = one_more box.waiting box.borrowed (h.at_least) ∙ ap suc h.borrows;
  single = h.single;
  above = λ n k. h.above n
      (⊎_elim (λ other. contains_left (other_numbers box) (box.waiting ++ box.borrowed) n other)
      (λ own. contains_right (other_numbers box) (box.waiting ++ box.borrowed) n
      (received_was_there box.waiting box.borrowed n own))
      (contains_in_append (other_numbers box) (drop 1 box.waiting ++ (box.borrowed ++ take 1 box.waiting)) n k));
}
  where
    fewer : (ws : List ℕ) → suc least ≤ length ws → least ≤ length (drop 1 ws)
    fewer [] h = omega arith
    fewer (w ∷ ws) h = omega arith

    no_more : (ws : List ℕ) → length ws ≤ buffer_limit c → length (drop 1 ws) ≤ buffer_limit c
    no_more [] h = h
    no_more (w ∷ ws) h = omega arith

    one_more : (ws bs : List ℕ) → suc least ≤ length ws → length (bs ++ take 1 ws) ≡ suc (length bs)
    one_more [] bs h = absurd (omega arith)
    one_more (w ∷ ws) bs h = omega (arith, length-append bs (w ∷ []))

-- a new subscriber gets the end of the history
pub opening_served : (c : ServiceConfig) (box : Mailbox) (sent bound : ℕ) → bound ≤ suc (sent - c.history_size)
    → other_numbers box ≡ [] → box.borrowed ≡ []
    → IsOpening c (with_waiting (last_n (buffer_limit c) (recent c.history_size sent)) box) 0 0 bound
opening_served c box sent bound low single none = record {
  at_least = omega arith;
  at_most = length-last_n (buffer_limit c) (recent c.history_size sent);
  borrows = ap (λ (bs : List ℕ). length bs) none;
  single = single;
  above = λ n h. ⊎_elim
      (λ k. absurd (nothing n (ap (λ (os : List ℕ). contains os n) (sym single) ∙ k)))
      (λ j. ⊎_elim
      (λ k. let within : (suc (sent - c.history_size) ≤ n) × _ = within_numbers_from _ _ n
      (contains_in_last_n (buffer_limit c) (recent c.history_size sent) n k) in omega (arith, within.0))
      (λ k. absurd (nothing n (ap (λ (bs : List ℕ). contains bs n) (sym none) ∙ k)))
      (contains_in_append (last_n (buffer_limit c) (recent c.history_size sent)) box.borrowed n j))
      (contains_in_append (other_numbers box)
      (last_n (buffer_limit c) (recent c.history_size sent) ++ box.borrowed) n h);
}
  where
    nothing : (n : ℕ) → contains [] n ≡ true → ⊥
    nothing n h = absurd (cc)
