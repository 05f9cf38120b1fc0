-- The commands of a call, one behind the other.
use Rattle.std.proofs.Common.{ℕ, zero, suc, List, ◌++◌, ◌+◌, ◌-◌, ◌≡◌, ◌≢◌, ◌<◌, ◌≤◌, ◌∙◌, ap, arith, append_assoc}
use Rattle.std.proofs.Common.{length, length-append, refl, sym, take}
use Rattle.std.proofs.Math.Seq.{take-append_seam, take-length}
use Rattle.std.proofs.lemmas.List.{length-take, take-take}
use Rattle.iox2_commands.specs.declared.command.Command.{Command}
use Rattle.iox2_commands.specs.declared.reply.Reply.{Reply}
use Rattle.call_recorder.specs.Recorder.{Begins, Calls, HasCommandRoom, Keeps, with_missed}

-- What stays of what stays.
stays-on : {A : Type 0} (xs ys zs : List A) (m n : ℕ) → m ≤ n → take m ys ≡ xs → take n zs ≡ ys → take m zs ≡ xs
stays-on xs ys zs m n low first second = sym (take-take m n zs low) ∙ ap (take m) second ∙ first

-- A list is as long as its first elements, or longer.
is-longer : {A : Type 0} (xs ys : List A) → take (length xs) ys ≡ xs → length xs ≤ length ys
is-longer xs ys e = omega (arith, length-take (length xs) ys, ap length e)

-- What is missed of two parts. The numbers are those missed before, between and after, of commands there then, and of
-- both parts.
missed-on : (a b c before between after first second : ℕ) → between ≤ before + first → after ≤ between + second
    → b ≡ with_missed a (before + first - between) → c ≡ with_missed b (between + second - after)
    → c ≡ with_missed a (before + (first + second) - after)
missed-on a b c before between after first second low high one two = omega (arith, low, high, one, two)

-- What is missed where those are cut that were kept.
missed-cut : (a b c before between count : ℕ) → before ≤ between → between ≤ before + count
    → b ≡ with_missed a (before + count - between) → c ≡ with_missed b (between - before) → c ≡ with_missed a count
missed-cut a b c before between count low high one two = omega (arith, low, high, one, two)

-- The first commands of a call, and those behind them.
pub begins-then : (a b c : Calls) (xs us : List (Command ℕ ℕ)) (ys vs : List (Reply ℕ ℕ)) → Begins a b xs ys
    → Begins b c us vs → Begins a c (xs ++ us) (ys ++ vs)
begins-then a b c xs us ys vs first second = record {
  whole = (
    λ m.
        let h : HasCommandRoom b (length us) = second.whole.0 m in
        let k : HasCommandRoom a (length xs) = first.whole.0 h.0 in (
          k.0,
          omega
              (arith, h.1, first.room, ap length (first.kept h.0).0, length-append a.commands xs, length-append xs us),
        ),
    λ r.
        let k : HasCommandRoom a (length xs) = (r.0, omega (arith, r.1, length-append xs us)) in
        let m : b.missed ≡ 0 = first.whole.1 k in
        second.whole.1 (
          m,
          omega
              (arith, r.1, first.room, ap length (first.kept m).0, length-append a.commands xs, length-append xs us),
        ),
  );
  kept = λ m.
      let h : HasCommandRoom b (length us) = second.whole.0 m in (
        (second.kept m).0 ∙ ap (λ (l : List (Command ℕ ℕ)). l ++ us) (first.kept h.0).0 ∙ append_assoc a.commands xs us,
        (second.kept m).1 ∙ ap (λ (l : List (Reply ℕ ℕ)). l ++ vs) (first.kept h.0).1 ∙ append_assoc a.replies ys vs,
      );
  commands_stay = stays-on _ b.commands c.commands _ _
      (is-longer a.commands b.commands first.commands_stay) first.commands_stay second.commands_stay;
  replies_stay = stays-on _ b.replies c.replies _ _
      (is-longer a.replies b.replies first.replies_stay) first.replies_stay second.replies_stay;
  within = omega (arith, first.within, second.within, length-append xs us);
  missed = missed-on _ _ _ _ (length b.commands) _ (length xs) (length us) first.within second.within first.missed
      second.missed ∙ ap (λ (n : ℕ). with_missed a.missed (length a.commands + n - length c.commands))
      (sym (length-append xs us));
  room = second.room ∙ first.room;
  bytes = second.bytes ∙ first.bytes;
}

-- A number is 0 or not.
pub by-zero : {P : Type 0} (n : ℕ) → (n ≡ 0 → P) → (n ≢ 0 → P) → P
by-zero zero none some = none refl
by-zero (suc n) none some = some (λ e. omega (arith, e))

-- What is kept whole is the beginning of a call too.
pub keeps-begins : (a b : Calls) (xs : List (Command ℕ ℕ)) (ys : List (Reply ℕ ℕ)) → Keeps 0 a b xs ys
    → Begins a b xs ys
keeps-begins a b xs ys keeps = record {
  whole = (
    λ m. let h : HasCommandRoom a (length xs + 0) = keeps.whole.0 m in
        (h.0, omega (arith, h.1)),
    λ r. keeps.whole.1 (r.0, omega (arith, r.1)),
  );
  kept = keeps.kept;
  commands_stay = by-zero b.missed (λ m. ap (take (length a.commands)) (keeps.kept m).0
      ∙ take-append_seam a.commands xs)
      (λ m. ap (take (length a.commands)) (keeps.missed m).0 ∙ take-length a.commands);
  replies_stay = by-zero b.missed (λ m. ap (take (length a.replies)) (keeps.kept m).1 ∙ take-append_seam a.replies ys)
      (λ m. ap (take (length a.replies)) (keeps.missed m).1 ∙ take-length a.replies);
  within = by-zero b.missed (λ m. omega (arith, ap length (keeps.kept m).0, length-append a.commands xs))
      (λ m. omega (arith, ap length (keeps.missed m).0));
  missed = by-zero b.missed
      (λ m. omega (arith, m, (keeps.whole.0 m).0, ap length (keeps.kept m).0, length-append a.commands xs))
      (λ m. omega (arith, (keeps.missed m).2, ap length (keeps.missed m).0));
  room = keeps.room;
  bytes = keeps.bytes;
}

-- A call whose commands are cut where one of them was missed.
pub call-ends : (a b c : Calls) (xs : List (Command ℕ ℕ)) (ys : List (Reply ℕ ℕ)) (start : ℕ) → Begins a b xs ys
    → start ≡ length a.commands → start ≡ length a.replies
    → (b.missed ≡ 0 → c ≡ b) → (b.missed ≢ 0 → (c.missed ≡ with_missed b.missed (length b.commands - start))
    × (c ≡ record b { commands = take start b.commands; replies = take start b.replies; missed = c.missed }))
    → Keeps 0 a c xs ys
call-ends a b c xs ys start begins is_start is_start_too whole cut = by-zero b.missed
    (λ m. record {
      whole = (
        λ _. let h : HasCommandRoom a (length xs) = begins.whole.0 m in
            (h.0, omega (arith, h.1)),
        λ _. ap (λ (calls : Calls). calls.missed) (whole m) ∙ m,
      );
      kept = λ _. rw (whole m) (begins.kept m);
      missed = λ n. absurd (n (ap (λ (calls : Calls). calls.missed) (whole m) ∙ m));
      room = rw (whole m) begins.room;
      bytes = rw (whole m) begins.bytes;
    })
    (λ m. let gone : c.missed ≢ 0 = λ n. omega (arith, n, m, (cut m).0) in record {
      whole = (λ n. absurd (gone n), λ r. absurd (m (begins.whole.1 (r.0, omega (arith, r.1)))));
      kept = λ n. absurd (gone n);
      missed = λ _. (
        ap (λ (calls : Calls). calls.commands) (cut m).1 ∙ ap (λ (n : ℕ). take n b.commands) is_start
            ∙ begins.commands_stay,
        ap (λ (calls : Calls). calls.replies) (cut m).1 ∙ ap (λ (n : ℕ). take n b.replies) is_start_too
            ∙ begins.replies_stay,
        missed-cut _ _ _ _ _ _ (is-longer a.commands b.commands begins.commands_stay) begins.within begins.missed
            ((cut m).0 ∙ ap (λ (n : ℕ). with_missed b.missed (length b.commands - n)) is_start),
      );
      room = ap (λ (calls : Calls). calls.room) (cut m).1 ∙ begins.room;
      bytes = ap (λ (calls : Calls). calls.bytes) (cut m).1 ∙ begins.bytes;
    })

-- The first commands of a call behind which no other has room: they are cut.
pub part-is-cut : (a b c : Calls) (xs : List (Command ℕ ℕ)) (ys : List (Reply ℕ ℕ)) (start : ℕ) → Begins a b xs ys
    → start ≡ length a.commands → start ≡ length a.replies
    → (HasCommandRoom b 1 → ⊥) → 0 < length xs
    → c.missed ≡ with_missed b.missed (length b.commands - start)
    → c ≡ record b { commands = take start b.commands; replies = take start b.replies; missed = c.missed }
    → Keeps 1 a c xs ys
part-is-cut a b c xs ys start begins is_start is_start_too full some missed cut =
    let gone : c.missed ≢ 0 = λ n.
    let m : b.missed ≡ 0 = omega (arith, n, missed) in
    omega (arith, n, missed, is_start, some, ap length (begins.kept m).0, length-append a.commands xs) in
    record {
      whole = (
        λ n. absurd (gone n),
        λ r.
            let m : b.missed ≡ 0 = begins.whole.1 (r.0, omega (arith, r.1)) in
            absurd
            (full (m, omega (arith, r.1, begins.room, ap length (begins.kept m).0, length-append a.commands xs))),
      );
      kept = λ n. absurd (gone n);
      missed = λ _. (
        ap (λ (calls : Calls). calls.commands) cut ∙ ap (λ (n : ℕ). take n b.commands) is_start ∙ begins.commands_stay,
        ap (λ (calls : Calls). calls.replies) cut ∙ ap (λ (n : ℕ). take n b.replies) is_start_too ∙ begins.replies_stay,
        missed-cut _ _ _ _ _ _ (is-longer a.commands b.commands begins.commands_stay) begins.within begins.missed
            (missed ∙ ap (λ (n : ℕ). with_missed b.missed (length b.commands - n)) is_start),
      );
      room = ap (λ (calls : Calls). calls.room) cut ∙ begins.room;
      bytes = ap (λ (calls : Calls). calls.bytes) cut ∙ begins.bytes;
    }

-- The first commands of a call behind which another has room.
pub part-is-kept : (a b : Calls) (xs : List (Command ℕ ℕ)) (ys : List (Reply ℕ ℕ)) → Begins a b xs ys
    → HasCommandRoom b 1 → Keeps 1 a b xs ys
part-is-kept a b xs ys begins room =
    let r : HasCommandRoom a (length xs) = begins.whole.0 room.0 in
    record {
      whole = (
        λ _. (
          r.0,
          omega (
            arith,
            room.1,
            begins.room,
            ap length (begins.kept room.0).0,
            length-append a.commands xs,
          ),
        ),
        λ _. room.0,
      );
      kept = begins.kept;
      missed = λ n. absurd (n room.0);
      room = begins.room;
      bytes = begins.bytes;
    }
