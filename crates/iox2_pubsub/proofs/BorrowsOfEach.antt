-- What a receive borrows of each publisher, and when the limit can't refuse it.
use Rattle.std.proofs.Common.{◌≡◌, ℕ, suc, ◌+◌, ◌≤◌, ◌<◌, Bool, true, false, cond, not, ◌&&◌, ◌||◌, List, [], ◌∷◌, ◌++◌}
use Rattle.std.proofs.Common.{length}
use Rattle.std.proofs.Common.{refl, sym, ap, subst, ◌∙◌, arith, Some, ⊎_elim}
use Rattle.std.specs.Prelude.{◌≢◌, nat_lt}
use Rattle.std.specs.List.{list_any}
use Rattle.std.proofs.lemmas.Bool.{true≢false, ne_eqb, ltb-false, or_parts}
use Rattle.std.proofs.lemmas.List.{length-append}
use Rattle.std.proofs.lemmas.Option.{none-some, same_Some}
use Rattle.iox2_machine.specs.machine.Numbers.{contains, is_nil, put_at}
use Rattle.iox2_machine.specs.machine.Mailbox.{Mailbox, BorrowsFirst, can_receive, has_data}
use Rattle.iox2_machine.specs.machine.Records.{Environment, Subscriber as MachineSubscriber}
use Rattle.iox2_machine.specs.machine.Receives.{Receive, ReceiveResult, Got_sample, No_sample, Receive_error}
use Rattle.iox2_machine.specs.machine.Receives.{TakeSample}
use Rattle.iox2_machine.specs.machine.State.{State, connected_publishers, with_mailbox}
use Rattle.iox2_machine.specs.machine.Waiting.{receives_from, waiting_from}
use Rattle.iox2_machine.specs.declared.errors.ReceiveError.{ReceiveError}
use Rattle.iox2_laws.proofs.Cases.{by_option}
use Rattle.iox2_laws.proofs.NumberLemmas.{contains_in_cons}
use Rattle.iox2_laws.proofs.Puts.{at_each, put_at-other}
use Rattle.iox2_laws.proofs.UpToDate.{IsUpdated}
use Rattle.iox2_laws.proofs.WaitingCounts.{by_record}
use Rattle.iox2_pubsub.specs.BorrowsLeft.{CanBorrowOf}
use Rattle.iox2_pubsub.proofs.BorrowsKept.{BorrowsKept, subscriber-update-kept}
use Rattle.iox2_pubsub.proofs.KeptReceives.{no-failure, unchanged}

-- a test that fails at each of the list fails at this one
pub fails-at : (test : ℕ → Bool) (ns : List ℕ) (n : ℕ) → list_any test ns ≡ false → contains ns n ≡ true
    → test n ≡ false
fails-at test [] n none at = absurd (true≢false (sym at))
fails-at test (m ∷ ns) n none at =
    ⊎_elim
    (λ same. ap test (sym same) ∙ (or_parts (test m) (list_any test ns) none).0)
    (λ later. fails-at test ns n (or_parts (test m) (list_any test ns) none).1 later)
    (contains_in_cons m n ns at)

-- where something waits and can't be received, the limit is reached
pub at-limit : (limit : ℕ) (box : Mailbox) → has_data box ≡ true → can_receive limit box ≡ false
    → limit ≤ length box.borrowed
at-limit limit box some full = ltb-false _ _ (sym (ap (λ b. b && nat_lt (length box.borrowed) limit) some) ∙ full)

-- ---- what is borrowed of each publisher

module _ {T U : Type 0} where
  -- how many messages of p q has borrowed
  abbrev pub part : State T U → (q p : ℕ) → ℕ
  part s q p = length (s.mailboxes p q).borrowed

  -- A receive of q with this result borrows at most one message more of each publisher, none of others than that of
  -- what it gives, and none for others.
  pub record BorrowsOneOf (s s' : State T U) (q : ℕ) (result : ReceiveResult) : Type 0 where
    pub own : (p : ℕ) → part s' q p ≤ suc (part s q p)
    pub others : (p j : ℕ) → j ≢ q → part s' j p ≡ part s j p
    pub away : (i n : ℕ) → result ≡ Got_sample i n → (p : ℕ) → p ≢ i → part s' q p ≡ part s q p

  as-many : (s t : State T U) (q : ℕ) (result : ReceiveResult) → BorrowsKept s t → BorrowsOneOf s t q result
  as-many s t q result kept = record {
    own = λ p. let same : part t q p ≡ part s q p = ap length (kept.borrowed p q) in omega (arith, same);
    others = λ p j _. ap length (kept.borrowed p j);
    away = λ i n _ p _. ap length (kept.borrowed p q);
  }

  one-more : (s t : State T U) (q p n : ℕ) (box : Mailbox) → BorrowsKept s t → BorrowsFirst (t.mailboxes p q) n box
      → BorrowsOneOf s (with_mailbox t p q box) q (Got_sample p n)
  one-more s t q p n box kept b = record {
    own = λ i.
        let same : part t q i ≡ part s q i = ap length (kept.borrowed i q) in
        let most : part (with_mailbox t p q box) q i ≤ suc (part t q i) =
        at_each t.mailboxes p (put_at (t.mailboxes p) q box) (λ i row. length (row q).borrowed ≤ suc (part t q i)) i
        (λ _. at_each (t.mailboxes p) q box (λ j it. length it.borrowed ≤ suc (part t j p)) q
        (λ _.
        let longer : length ((t.mailboxes p q).borrowed ++ n ∷ []) ≡ part t q p + 1 =
        length-append (t.mailboxes p q).borrowed (n ∷ []) in
        let now : length box.borrowed ≡ length ((t.mailboxes p q).borrowed ++ n ∷ []) =
        ap (λ (it : Mailbox). length it.borrowed) b.2 in
        omega (arith, longer, now))
        (λ _. omega arith))
        (λ _. omega arith) in
        omega (arith, same, most);
    others = λ i j away.
        at_each t.mailboxes p (put_at (t.mailboxes p) q box) (λ i row. length (row j).borrowed ≡ part t j i) i
        (λ _. ap (λ (it : Mailbox). length it.borrowed) (put_at-other (t.mailboxes p) q box j (ne_eqb j q away)))
        (λ _. refl)
        ∙ ap length (kept.borrowed i j);
    away = λ i k is other away.
        let same : Got_sample p n ≡ Got_sample i k = is in
        let here : p ≡ i = cc in
        ap (λ (row : ℕ → Mailbox). length (row q).borrowed)
        (put_at-other t.mailboxes p (put_at (t.mailboxes p) q box) other (ne_eqb other p (λ it. away (it ∙ here))))
        ∙ ap length (kept.borrowed other q);
  }

module _ {T U : Type 0} (environment : Environment) (s : State T U) (q : ℕ) where
  pub receive-borrows-of : (s' : State T U) (result : ReceiveResult) → Receive environment s q s' result
      → BorrowsOneOf s s' q result
  receive-borrows-of s' result h =
      let kept : BorrowsKept s h.0 = subscriber-update-kept environment s q h.0 h.1 h.2 in
      by_option (BorrowsOneOf s s' q result) h.1 _ _ h.3
      (λ _ k. by_option (BorrowsOneOf s s' q result) ((h.0).subscribers q) _ _ k (λ _ v. absurd v)
      (λ y _ k. taken h.0 kept y result k))
      (λ e _ k. subst (λ (t : State T U). BorrowsOneOf s t q result) (sym k.0) (as-many s h.0 q result kept))
    where
      taken : (t : State T U) → BorrowsKept s t → (y : MachineSubscriber) (r : ReceiveResult) → TakeSample t q y s' r
          → BorrowsOneOf s s' q r
      taken t kept y (Got_sample p n) k = subst (λ (u : State T U). BorrowsOneOf s u q (Got_sample p n)) (sym k.3)
          (one-more s t q p n k.1 kept k.2)
      taken t kept y No_sample k =
          subst (λ (u : State T U). BorrowsOneOf s u q No_sample) (sym k.1) (as-many s t q No_sample kept)
      taken t kept y (Receive_error e) k =
          subst (λ (u : State T U). BorrowsOneOf s u q (Receive_error e)) (sym k.3)
          (as-many s t q (Receive_error e) kept)

  -- ---- where one may be borrowed of a publisher of which something waits

  -- what waits for a subscriber that isn't due lies in a mailbox that it knows
  lies : (p : ℕ) (is : IsUpdated s q) → 0 < length (waiting_from s p q)
      → (contains (connected_publishers is.0) p ≡ true) × (has_data (s.mailboxes p q) ≡ true)
  lies p is some =
      by (receives_from is.0 p) refl (subst (λ (ns : List ℕ). 0 < length ns) (by_record s p q (Some is.0) is.1) some)
    where
      known : (opened due among : Bool) → due ≡ false → (opened && (due || among)) ≡ true → among ≡ true
      known true false among none both = both
      known true true among none both = absurd (true≢false none)
      known false due among none both = absurd (true≢false (sym both))

      nonempty : (ns : List ℕ) → 0 < length ns → not (is_nil ns) ≡ true
      nonempty [] some = absurd (omega (arith, some))
      nonempty (n ∷ ns) some = refl

      by : (b : Bool) → receives_from is.0 p ≡ b → 0 < length (cond b (s.mailboxes p q).waiting [])
          → (contains (connected_publishers is.0) p ≡ true) × (has_data (s.mailboxes p q) ≡ true)
      by true e some = (
        known (is.0).is_open (is.0).is_due (contains (connected_publishers is.0) p) is.3 e,
        nonempty (s.mailboxes p q).waiting some,
      )
      by false e some = absurd (omega (arith, some))

  pub not-refused-of : (p n : ℕ) → IsUpdated s q → CanBorrowOf s p q (n + 1) → 0 < length (waiting_from s p q)
      → (s' : State T U) (e : ReceiveError) → Receive environment s q s' (Receive_error e) → ⊥
  not-refused-of p n is can some s' e h =
      by_option ⊥ h.1 _ _ h.3
      (λ _ k. by_option ⊥ ((h.0).subscribers q) _ _ k (λ _ v. absurd v) (λ y here k.
      let same : h.0 ≡ s = unchanged environment s q is h.0 h.1 h.2 in
      let one : is.0 ≡ y = same_Some is.0 y (sym is.1 ∙ ap (λ (t : State T U). t.subscribers q) (sym same) ∙ here) in
      let there = lies p is some in
      let limit : ℕ = ((h.0).config).subscriber_max_borrowed_samples in
      let no = fails-at (λ i. can_receive limit ((h.0).mailboxes i q)) (connected_publishers y) p k.2
      (ap (λ (z : MachineSubscriber). contains (connected_publishers z) p) (sym one) ∙ there.0) in
      let full : limit ≤ part h.0 q p =
      at-limit limit ((h.0).mailboxes p q) (ap (λ (t : State T U). has_data (t.mailboxes p q)) same ∙ there.1) no in
      let borrowed : part h.0 q p ≡ part s q p = ap (λ (t : State T U). part t q p) same in
      let most : limit ≡ (s.config).subscriber_max_borrowed_samples =
      ap (λ (t : State T U). (t.config).subscriber_max_borrowed_samples) same in
      omega (arith, full, borrowed, most, can)))
      (λ f failed _. none-some f (sym (no-failure environment s q is h.0 h.1 h.2) ∙ failed))
