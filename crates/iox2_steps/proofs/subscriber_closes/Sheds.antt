-- A subscriber that closes loses what waits from departed publishers, one after the other, and forgets those of which
-- it has nothing borrowed.
use mathlib.Core.Path.{fun_ext}
use Rattle.std.proofs.Common.{◌≡◌, ℕ, Bool, true, false, cond, not, ◌&&◌, ◌||◌, List, [], ◌∷◌, refl, sym, ap, ◌∙◌, eqb}
use Rattle.std.proofs.Common.{is_some, Option, None, Some, ◌⊎◌, inl, inr, ⊎_elim, zero, suc}
use Rattle.std.specs.List.{filter}
use Rattle.std.specs.Option.{option_map}
use Rattle.std.proofs.lemmas.Bool.{true≢false, eqb-true, eq-eqb, and_cases, or_left, or_right, not-false}
use Rattle.std.proofs.lemmas.Option.{none-some, same_Some}
use Rattle.iox2_machine.specs.machine.Channel.{Channel}
use Rattle.iox2_machine.specs.machine.Numbers.{contains, put_at, without, is_nil}
use Rattle.iox2_machine.specs.machine.Places.{occupant, is_port, vacated, places_kept}
use Rattle.iox2_machine.specs.machine.Mailbox.{Mailbox, has_numbers, has_data, waiting_dropped}
use Rattle.iox2_machine.specs.machine.Records.{Publisher, Subscriber}
use Rattle.iox2_machine.specs.machine.State.{State, is_present, with_mailbox, publishers_due}
use Rattle.iox2_machine.specs.machine.Releases.{is_connected, pruned, subscriber_pruned}
use Rattle.iox2_machine.specs.machine.Ports.{mailbox_after_subscriber, subscriber_shut}
use Rattle.iox2_machine.specs.machine.WellFormed.{LeadsTo}
use Rattle.iox2_laws.proofs.Puts.{put_at-same, put_at-twice}
use Rattle.iox2_laws.proofs.MailboxLemmas.{has_numbers_dropped, nothing_borrowed}
use Rattle.iox2_laws.proofs.FilterLemmas.{contains-filter}
use Rattle.iox2_laws.proofs.PlaceLemmas.{places_kept_keeps}
use Rattle.iox2_laws.proofs.ReleaseLaws.{at_each_mailbox}
use Rattle.iox2_connections.proofs.MailboxChanges.{put_at-own}
use Rattle.iox2_steps.specs.Closes.{without_publisher}

-- ---- lists of which some are kept

kept-all : (xs : List (Option ℕ)) → places_kept (λ _. true) xs ≡ xs
kept-all [] = refl
kept-all (None ∷ xs) = ap (λ (ys : List (Option ℕ)). None ∷ ys) (kept-all xs)
kept-all (Some k ∷ xs) = ap (λ (ys : List (Option ℕ)). Some k ∷ ys) (kept-all xs)

filter-all : (xs : List ℕ) → filter (λ _. true) xs ≡ xs
filter-all [] = refl
filter-all (k ∷ xs) = ap (λ (ys : List ℕ). k ∷ ys) (filter-all xs)

-- first those that pass the test, and then those that aren't p
vacated-kept : (test : ℕ → Bool) (p : ℕ) (xs : List (Option ℕ))
    → vacated p (places_kept test xs) ≡ places_kept (λ n. test n && not (eqb n p)) xs
vacated-kept test p [] = refl
vacated-kept test p (None ∷ xs) = ap (λ (ys : List (Option ℕ)). None ∷ ys) (vacated-kept test p xs)
vacated-kept test p (Some k ∷ xs) = λ i. own (test k) i ∷ vacated-kept test p xs i where
  both : (b : Bool) → cond b None (Some k) ≡ cond (not b) (Some k) None
  both true = refl
  both false = refl

  own : (b : Bool)
      → cond (is_port (cond b (Some k) None) p) None (cond b (Some k) None) ≡ cond (b && not (eqb k p)) (Some k) None
  own true = both (eqb k p)
  own false = refl

without-kept : (test : ℕ → Bool) (p : ℕ) (xs : List ℕ)
    → without p (filter test xs) ≡ filter (λ n. test n && not (eqb n p)) xs
without-kept test p [] = refl
without-kept test p (k ∷ xs) = own (test k) (without-kept test p xs) where
  both : (b : Bool) (ys zs : List ℕ) → ys ≡ zs → cond b (k ∷ ys) ys ≡ cond b (k ∷ zs) zs
  both b ys zs e = ap (λ (vs : List ℕ). cond b (k ∷ vs) vs) e

  own : (b : Bool) → without p (filter test xs) ≡ filter (λ n. test n && not (eqb n p)) xs
      → without p (cond b (k ∷ filter test xs) (filter test xs)) ≡ cond (b && not (eqb k p))
      (k ∷ filter (λ n. test n && not (eqb n p)) xs) (filter (λ n. test n && not (eqb n p)) xs)
  own true e = both (not (eqb k p)) _ _ e
  own false e = e

-- tests that agree on all that stand there keep the same
kept-agree : (f g : ℕ → Bool) (xs : List (Option ℕ)) → ((i k : ℕ) → occupant xs i ≡ Some k → f k ≡ g k)
    → places_kept f xs ≡ places_kept g xs
kept-agree f g [] same = refl
kept-agree f g (None ∷ xs) same =
    ap (λ (ys : List (Option ℕ)). None ∷ ys) (kept-agree f g xs (λ i k at. same (suc i) k at))
kept-agree f g (Some k ∷ xs) same =
    λ i. cond (same zero k refl i) (Some k) None ∷ kept-agree f g xs (λ j l at. same (suc j) l at) i

filter-agree : (f g : ℕ → Bool) (xs : List ℕ) → ((k : ℕ) → contains xs k ≡ true → f k ≡ g k) → filter f xs ≡ filter g xs
filter-agree f g [] same = refl
filter-agree f g (k ∷ xs) same = by (same k (or_left (eqb k k) (contains xs k) (eq-eqb k k refl)))
    (filter-agree f g xs (λ l has. same l (or_right (eqb k l) (contains xs l) has))) where
      by : f k ≡ g k → filter f xs ≡ filter g xs
          → cond (f k) (k ∷ filter f xs) (filter f xs) ≡ cond (g k) (k ∷ filter g xs) (filter g xs)
      by own rest = λ i. cond (own i) (k ∷ rest i) (rest i)

-- Nothing waits in the mailbox, in whatever channel.
abbrev pub HasLost : Mailbox → Type 0
HasLost box = (has_data box ≡ false) × (box.others ≡ [])

-- an empty mailbox stays empty, and one in which nothing waits has nothing to lose
dropped-none : (box : Mailbox) → has_numbers box ≡ false → has_numbers (waiting_dropped box) ≡ false
dropped-none box none = has_numbers_dropped box ∙ ap (λ (ns : List ℕ). not (is_nil ns)) (nothing_borrowed box none)

dropped-same : (box : Mailbox) → HasLost box → box ≡ waiting_dropped box
dropped-same box none = by box.waiting refl none.0 where
  by : (ws : List ℕ) → box.waiting ≡ ws → not (is_nil box.waiting) ≡ false → box ≡ waiting_dropped box
  by [] e h = λ i. record box { waiting = e i; others = none.1 i }
  by (w ∷ ws) e h = absurd (true≢false (sym (ap (λ (vs : List ℕ). not (is_nil vs)) e) ∙ h))

-- the subscriber with the publishers that pass the test
abbrev pub with_publishers : (ℕ → Bool) → Subscriber → Subscriber
with_publishers test y = record y { ends = places_kept test y.ends; expired = filter test y.expired }

module _ {T U : Type 0} where
  -- The subscriber q, which is y in s, has lost what waits from some departed publishers, and has forgotten some of
  -- those of which it has nothing any more.
  pub record Sheds (s : State T U) (q : ℕ) (y : Subscriber) (t : State T U) : Type 0 where
    pub test : ℕ → Bool
    pub state : t ≡ record s {
      subscribers = put_at s.subscribers q (Some (with_publishers test y));
      mailboxes = t.mailboxes;
      channels = t.channels;
    }
    pub boxes : (p r : ℕ) → (t.mailboxes p r ≡ s.mailboxes p r)
        ⊎ ((r ≡ q) × (s.publishers p ≡ None) × (t.mailboxes p r ≡ waiting_dropped (s.mailboxes p r)))
    pub left : (p : ℕ) → test p ≡ false → (s.publishers p ≡ None) × (has_numbers (t.mailboxes p q) ≡ false)

  -- channels tell nothing of it
  pub sheds-channels : (s : State T U) (q : ℕ) (y : Subscriber) (t : State T U) → Sheds s q y t
      → (channels : ℕ → ℕ → ℕ → Channel) → Sheds s q y (record t { channels = channels })
  sheds-channels s q y t x channels = record {
    test = x.test;
    state = λ i. record (x.state i) { channels = channels };
    boxes = x.boxes;
    left = x.left;
  }

  module _ (s : State T U) (q : ℕ) (y : Subscriber) (here : s.subscribers q ≡ Some y) where
    -- nothing happened yet
    pub sheds-none : Sheds s q y s
    sheds-none = record {
      test = λ _. true;
      state = λ i. record s { subscribers = all i };
      boxes = λ p r. inl refl;
      left = λ p no. absurd (true≢false no);
    } where
      same : y ≡ with_publishers (λ _. true) y
      same = λ i. record y { ends = sym (kept-all y.ends) i; expired = sym (filter-all y.expired) i }

      all : s.subscribers ≡ put_at s.subscribers q (Some (with_publishers (λ _. true) y))
      all = put_at-own s.subscribers q ∙ ap (put_at s.subscribers q) (here ∙ ap Some same)

    module _ (t : State T U) (x : Sheds s q y t) where
      -- what is left of the subscriber
      pub sheds-there : t.subscribers q ≡ Some (with_publishers x.test y)
      sheds-there = ap (λ (v : State T U). v.subscribers q) x.state
          ∙ put_at-same s.subscribers q (Some (with_publishers x.test y))

      module _ (p : ℕ) (gone : s.publishers p ≡ None) where
        -- what waits from one more is lost
        pub sheds-dropped : Sheds s q y (with_mailbox t p q (waiting_dropped (t.mailboxes p q)))
        sheds-dropped = record {
          test = x.test;
          state =
              ap (λ (v : State T U).
              record v {
                mailboxes = put_at t.mailboxes p
                    (put_at (t.mailboxes p) q (waiting_dropped (t.mailboxes p q)));
              }) x.state;
          boxes = λ i r. at_each_mailbox t.mailboxes p q (waiting_dropped (t.mailboxes p q))
              (λ i r box. (box ≡ s.mailboxes i r)
              ⊎ ((r ≡ q) × (s.publishers i ≡ None) × (box ≡ waiting_dropped (s.mailboxes i r)))) i r
              (inr (refl, gone, ⊎_elim (λ e. ap waiting_dropped e) (λ e. ap waiting_dropped e.2) (x.boxes p q)))
              (x.boxes i r);
          left = λ i no. let old = x.left i no in (
            old.0,
            at_each_mailbox t.mailboxes p q (waiting_dropped (t.mailboxes p q))
                (λ i r box. has_numbers (t.mailboxes i r) ≡ false → has_numbers box ≡ false) i q
                (dropped-none (t.mailboxes p q)) (λ e. e) old.1,
          );
        }

        -- one more, of which there is nothing, is forgotten
        pub sheds-forgotten : has_numbers (t.mailboxes p q) ≡ false → (z : Subscriber) → t.subscribers q ≡ Some z
            → Sheds s q y (record t { subscribers = put_at t.subscribers q (Some (without_publisher p z)) })
        sheds-forgotten none z at = record {
          test = λ n. x.test n && not (eqb n p);
          state = λ i. record (x.state i) { subscribers = all i; mailboxes = t.mailboxes };
          boxes = x.boxes;
          left = λ i no. ⊎_elim (λ fails. x.left i fails)
              (λ same. let is : i ≡ p = eqb-true i p (not-false (eqb i p) same) in
              (ap s.publishers is ∙ gone, ap (λ (n : ℕ). has_numbers (t.mailboxes n q)) is ∙ none))
              (and_cases (x.test i) (not (eqb i p)) no);
        } where
          is : z ≡ with_publishers x.test y
          is = same_Some z (with_publishers x.test y) (sym at ∙ sheds-there)

          less : without_publisher p z ≡ with_publishers (λ n. x.test n && not (eqb n p)) y
          less = ap (without_publisher p) is
              ∙ (λ i. record y { ends = vacated-kept x.test p y.ends i; expired = without-kept x.test p y.expired i })

          all : put_at t.subscribers q (Some (without_publisher p z)) ≡ put_at s.subscribers q
              (Some (with_publishers (λ n. x.test n && not (eqb n p)) y))
          all =
              (λ i. put_at (x.state i).subscribers q (Some (less i)))
              ∙ put_at-twice s.subscribers q (Some (with_publishers x.test y))
              (Some (with_publishers (λ n. x.test n && not (eqb n p)) y))

      -- Where nothing waits from departed publishers, and only publishers with which it still has to do are known, q
      -- has forgotten the others.
      module _ (dropped : (p : ℕ) → s.publishers p ≡ None → HasLost (t.mailboxes p q))
          (known : (p : ℕ) (z : Subscriber) → t.subscribers q ≡ Some z → (contains z.expired p ≡ true)
          ⊎ LeadsTo z.ends p → s.publishers p ≡ None → has_numbers (t.mailboxes p q) ≡ true) where
        -- the mailboxes of a subscriber that closes
        abbrev lost : State T U
        lost = record s { mailboxes = λ p. put_at (s.mailboxes p) q (mailbox_after_subscriber s q p) }

        lost-own : (p : ℕ) (o : Option Publisher) → s.publishers p ≡ o
            → t.mailboxes p q ≡ cond (is_some o) (s.mailboxes p q) (waiting_dropped (s.mailboxes p q))
        lost-own p None gone = ⊎_elim (λ e. dropped-same (t.mailboxes p q) (dropped p gone) ∙ ap waiting_dropped e)
            (λ e. e.2) (x.boxes p q)
        lost-own p (Some v) present = ⊎_elim (λ e. e) (λ e. absurd (none-some v (sym e.1 ∙ present))) (x.boxes p q)

        lost-at : (p r : ℕ) → t.mailboxes p r ≡ lost.mailboxes p r
        lost-at p r =
            elim (eqb r q) as (λ b. eqb r q ≡ b
            → t.mailboxes p r ≡ cond b (mailbox_after_subscriber s q p) (s.mailboxes p r)) [
              | true ↦ λ same. ap (t.mailboxes p) (eqb-true r q same) ∙ lost-own p (s.publishers p) refl
              | false ↦ λ away. ⊎_elim (λ e. e) (λ e. absurd (true≢false (sym (eq-eqb r q e.0) ∙ away))) (x.boxes p r)
            ] refl

        lost-boxes : t.mailboxes ≡ lost.mailboxes
        lost-boxes = fun_ext (λ p. fun_ext (λ r. lost-at p r))

        -- who passes the test is still connected, and nobody else
        agrees : (p : ℕ) → (contains y.expired p ≡ true) ⊎ LeadsTo y.ends p → x.test p ≡ is_connected lost q p
        agrees p knows = by (x.test p) refl (s.publishers p) refl
            ∙ ap (λ (box : Mailbox). is_present s p || has_numbers box) (lost-at p q) where
              by : (b : Bool) → x.test p ≡ b → (o : Option Publisher) → s.publishers p ≡ o
                  → x.test p ≡ (is_present s p || has_numbers (t.mailboxes p q))
              by true passes (Some v) present =
                  passes ∙ sym (or_left (is_present s p) (has_numbers (t.mailboxes p q)) (ap is_some present))
              by true passes None gone = passes ∙ sym
                  (or_right (is_present s p) (has_numbers (t.mailboxes p q))
                  (known p (with_publishers x.test y) sheds-there
                  (⊎_elim (λ l. inl (contains-filter x.test y.expired p l passes))
                  (λ r. inr (r.0, places_kept_keeps x.test y.ends r.0 p r.1 passes)) knows) gone))
              by false fails o at =
                  let old = x.left p fails in
                  fails ∙ sym (λ i. is_some (old.0 i) || old.1 i)

        sheds-pruned : t ≡ record (subscriber_pruned lost q) { channels = t.channels }
        sheds-pruned =
            x.state ∙ (λ i. record s { subscribers = all i; mailboxes = lost-boxes i; channels = t.channels }) where
              own : with_publishers x.test y ≡ pruned lost q y
              own = λ i. record y {
                ends = kept-agree x.test (is_connected lost q) y.ends (λ k p at. agrees p (inr (k, at))) i;
                expired = filter-agree x.test (is_connected lost q) y.expired (λ p has. agrees p (inl has)) i;
              }

              all : put_at s.subscribers q (Some (with_publishers x.test y)) ≡ put_at s.subscribers q
                  (option_map (pruned lost q) (s.subscribers q))
              all = ap (λ (o : Option Subscriber). put_at s.subscribers q o)
                  (ap Some own ∙ sym (ap (option_map (pruned lost q)) here))

        -- and so has the machine, with every publisher due
        pub sheds-due : publishers_due t ≡ record (subscriber_pruned (publishers_due lost) q) { channels = t.channels }
        sheds-due = ap publishers_due sheds-pruned
            ∙ (λ i. record (publishers_due lost) {
              subscribers = put_at s.subscribers q
                  (option_map (same i) (s.subscribers q));
              channels = t.channels;
            }) where
              some : (o : Option Publisher)
                  → is_some o ≡ is_some (option_map {T = Publisher} (λ v. record v { is_due = true }) o)
              some None = refl
              some (Some v) = refl

              tests : is_connected lost q ≡ is_connected (publishers_due lost) q
              tests = fun_ext (λ p. ap (λ (b : Bool). b || has_numbers (lost.mailboxes p q)) (some (s.publishers p)))

              same : pruned lost q ≡ pruned (publishers_due lost) q
              same = λ i v. record v { ends = places_kept (tests i) v.ends; expired = filter (tests i) v.expired }

  -- A subscriber that was shut, and then has lost and forgotten so, is one that closes.
  pub sheds-closed : (s : State T U) (q : ℕ) (y : Subscriber) (t : State T U)
      → Sheds (record s { subscribers = put_at s.subscribers q (Some (record y { is_open = false })) }) q
      (record y { is_open = false }) t
      → ((p : ℕ) → s.publishers p ≡ None → HasLost (t.mailboxes p q))
      → ((p : ℕ) (z : Subscriber) → t.subscribers q ≡ Some z → (contains z.expired p ≡ true) ⊎ LeadsTo z.ends p
      → s.publishers p ≡ None → has_numbers (t.mailboxes p q) ≡ true)
      → publishers_due t ≡ record (subscriber_pruned (subscriber_shut s q y) q) { channels = t.channels }
  sheds-closed s q y t x dropped known =
      sheds-due (record s { subscribers = put_at s.subscribers q (Some (record y { is_open = false })) }) q
      (record y { is_open = false })
      (put_at-same s.subscribers q (Some (record y { is_open = false }))) t x dropped known
