-- What a receive and a release change: one borrowed message, and no port but a closed subscriber.
use Rattle.std.proofs.Common.{◌≡◌, ℕ, Bool, true, false, cond, List, [], ◌∷◌, ◌++◌, refl, sym, ap, subst, ◌∙◌, Option}
use Rattle.std.proofs.Common.{None, Some, inl, inr}
use Rattle.std.specs.Prelude.{◌||◌, ◌&&◌, not, ◌≢◌}
use Rattle.std.specs.Option.{option_map, option_map_or}
use Rattle.std.specs.List.{list_all}
use Rattle.std.proofs.lemmas.Bool.{ne_eqb, true≢false, cases_eq, cond_both}
use Rattle.iox2_machine.specs.machine.Numbers.{contains, without, put_at}
use Rattle.iox2_machine.specs.machine.Mailbox.{Mailbox, is_borrowed, has_borrows, BorrowsFirst, with_released}
use Rattle.iox2_machine.specs.machine.Records.{Publisher, Subscriber, Environment}
use Rattle.iox2_machine.specs.machine.State.{State, with_mailbox, connected_publishers, receiver_channels_reset}
use Rattle.iox2_machine.specs.machine.Receives.{Receive, TakeSample, ReceiveResult, Got_sample, No_sample}
use Rattle.iox2_machine.specs.machine.Receives.{Receive_error}
use Rattle.iox2_machine.specs.machine.Releases.{released, unborrowed, subscriber_pruned, freed_if_unused, place_freed}
use Rattle.iox2_machine.specs.machine.Releases.{is_unused, pruned}
use Rattle.iox2_laws.proofs.LoanKeeping.{update_subscriber_loans}
use Rattle.iox2_laws.proofs.Cases.{by_option}
use Rattle.iox2_laws.proofs.Puts.{put_at-same, put_at-other, at_each}
use Rattle.iox2_laws.proofs.NumberLemmas.{contains-append, contains_right, contains_first, contains_in_without}
use Rattle.iox2_laws.proofs.NumberLemmas.{contains-without_same, contains-without_other}
use Rattle.iox2_laws.proofs.PortsStay.{PortsStay, Remain, update_subscriber_stays}

-- what is borrowed is what was
pub same_borrowed : {T U : Type 0} (s s' : State T U) → PortsStay s s' → (p q n : ℕ)
    → is_borrowed n (s'.mailboxes p q) ≡ is_borrowed n (s.mailboxes p q)
same_borrowed s s' stay p q n =
    ap (λ (ns : List ℕ). is_borrowed n (record { waiting = []; borrowed = ns; others = [] })) (stay.borrowed p q)

-- ---- what changes of what is borrowed

module _ {T U : Type 0} (s : State T U) (p q n : ℕ) (box : Mailbox) where
  -- in another mailbox nothing changes, and in this one nothing but n
  others_borrowed : ((k : ℕ) → k ≢ n → is_borrowed k box ≡ is_borrowed k (s.mailboxes p q))
      → (i j k : ℕ) → (i ≡ p → j ≡ q → k ≡ n → ⊥)
      → is_borrowed k ((with_mailbox s p q box).mailboxes i j) ≡ is_borrowed k (s.mailboxes i j)
  others_borrowed same i j k other = elim (cases_eq i p) [
    | inl here ↦ elim (cases_eq j q) [
      | inl at ↦
          ap (λ (v : ℕ). is_borrowed k (put_at s.mailboxes p (put_at (s.mailboxes p) q box) v j)) here
          ∙ ap (λ (row : ℕ → Mailbox). is_borrowed k (row j)) (put_at-same s.mailboxes p (put_at (s.mailboxes p) q box))
          ∙ ap (λ (v : ℕ). is_borrowed k (put_at (s.mailboxes p) q box v)) at
          ∙ ap (is_borrowed k) (put_at-same (s.mailboxes p) q box)
          ∙ same k (λ e. other here at e)
          ∙ ap (λ (v : ℕ). is_borrowed k (s.mailboxes p v)) (sym at)
          ∙ ap (λ (v : ℕ). is_borrowed k (s.mailboxes v j)) (sym here)
      | inr away ↦
          ap (λ (v : ℕ). is_borrowed k (put_at s.mailboxes p (put_at (s.mailboxes p) q box) v j)) here
          ∙ ap (λ (row : ℕ → Mailbox). is_borrowed k (row j)) (put_at-same s.mailboxes p (put_at (s.mailboxes p) q box))
          ∙ ap (is_borrowed k) (put_at-other (s.mailboxes p) q box j (ne_eqb j q away))
          ∙ ap (λ (v : ℕ). is_borrowed k (s.mailboxes v j)) (sym here)
    ]
    | inr away ↦ ap (λ (row : ℕ → Mailbox). is_borrowed k (row j))
        (put_at-other s.mailboxes p (put_at (s.mailboxes p) q box) i (ne_eqb i p away))
  ]

  -- in this one it is what the new mailbox says
  this_borrowed : (k : ℕ) → is_borrowed k ((with_mailbox s p q box).mailboxes p q) ≡ is_borrowed k box
  this_borrowed k =
      ap (λ (row : ℕ → Mailbox). is_borrowed k (row q)) (put_at-same s.mailboxes p (put_at (s.mailboxes p) q box))
      ∙ ap (is_borrowed k) (put_at-same (s.mailboxes p) q box)

-- ---- receive

or_false : (b : Bool) → (b || false) ≡ b
or_false true = refl
or_false false = refl

module _ {T U : Type 0} (environment : Environment) (s : State T U) (q : ℕ) where
  -- A sample was received: it is borrowed now, and all else is as it was.
  pub record IsReceived (p n : ℕ) (s' : State T U) : Type 0 where
    pub remain : Remain s s'
    pub loans : s'.loans ≡ s.loans
    pub now : is_borrowed n (s'.mailboxes p q) ≡ true
    pub others : (i j k : ℕ) → (i ≡ p → j ≡ q → k ≡ n → ⊥)
        → is_borrowed k (s'.mailboxes i j) ≡ is_borrowed k (s.mailboxes i j)

  pub received_one : (p n : ℕ) (s' : State T U) → Receive environment s q s' (Got_sample p n) → IsReceived p n s'
  received_one p n s' h =
      let first : PortsStay s h.0 = update_subscriber_stays environment s q h.0 h.1 h.2 in
      by_option (IsReceived p n s') h.1 _ _ h.3
      (λ _ k. by_option (IsReceived p n s') ((h.0).subscribers q) _ _ k (λ _ v. absurd v)
      (λ y _ k. took h.0 first (update_subscriber_loans environment s q h.0 h.1 h.2) k.1 k.2 k.3))
      (λ e _ k. let clash : Got_sample p n ≡ Receive_error _ = k.1 in absurd (cc))
    where
      took : (mid : State T U) → PortsStay s mid → mid.loans ≡ s.loans → (box : Mailbox)
          → BorrowsFirst (mid.mailboxes p q) n box → s' ≡ with_mailbox mid p q box → IsReceived p n s'
      took mid first loans box b e =
          let borrowed : box.borrowed ≡ (mid.mailboxes p q).borrowed ++ n ∷ [] = ap (λ (v : Mailbox). v.borrowed) b.2 in
          let same : (k : ℕ) → k ≢ n → is_borrowed k box ≡ is_borrowed k (mid.mailboxes p q) = λ k away.
          ap (λ (ns : List ℕ). contains ns k) borrowed ∙ contains-append (mid.mailboxes p q).borrowed (n ∷ []) k
          ∙ ap (λ (v : Bool). contains (mid.mailboxes p q).borrowed k || (v || false)) (ne_eqb n k (λ e. away (sym e)))
          ∙ or_false (contains (mid.mailboxes p q).borrowed k) in
          subst (IsReceived p n) (sym e) (record {
            remain = record {
              config = (first.remain).config;
              publishers = (first.remain).publishers;
              subscribers = (first.remain).subscribers;
            };
            loans = loans;
            now = this_borrowed mid p q n box n ∙ ap (λ (ns : List ℕ). contains ns n) borrowed
                ∙ contains_right (mid.mailboxes p q).borrowed (n ∷ []) n (contains_first n []);
            others = λ i j k other. others_borrowed mid p q n box same i j k other ∙ same_borrowed s mid first i j k;
          })

  pub nothing_received : (s' : State T U) (result : ReceiveResult) → ((p n : ℕ) → result ≡ Got_sample p n → ⊥)
      → Receive environment s q s' result → PortsStay s s'
  nothing_received s' result none h =
      let first : PortsStay s h.0 = update_subscriber_stays environment s q h.0 h.1 h.2 in
      by_option (PortsStay s s') h.1 _ _ h.3
      (λ _ k. by_option (PortsStay s s') ((h.0).subscribers q) _ _ k (λ _ v. absurd v)
      (λ y _ k. at h.0 y result none k first))
      (λ e _ k. subst (PortsStay s) (sym k.0) first)
    where
      at : (mid : State T U) (y : Subscriber) (result : ReceiveResult) → ((p n : ℕ) → result ≡ Got_sample p n → ⊥)
          → TakeSample mid q y s' result → PortsStay s mid → PortsStay s s'
      at mid y (Got_sample p n) none k first = absurd (none p n refl)
      at mid y No_sample none k first = subst (PortsStay s) (sym k.1) first
      at mid y (Receive_error e) none k first = subst (PortsStay s) (sym k.3) first

-- ---- release

module _ {T U : Type 0} (s : State T U) (p q n : ℕ) where
  -- nothing that is there goes but a closed subscriber
  pub released_remain : Remain s (released s p q n)
  released_remain = reset_remain _ (freed (subscriber_pruned (unborrowed s p q n) q) first) where
    reset_remain : (t : State T U) → Remain s t → Remain s (receiver_channels_reset t q)
    reset_remain t r = record { config = r.config; publishers = r.publishers; subscribers = r.subscribers }

    first : Remain s (subscriber_pruned (unborrowed s p q n) q)
    first = record {
      config = refl;
      publishers = λ p x e. (x, e, λ free. free);
      subscribers = λ i y e o. at_each s.subscribers q (option_map (pruned (unborrowed s p q n) q) (s.subscribers q))
          (λ k v. s.subscribers k ≡ Some y → (y' : Subscriber) × (v ≡ Some y') × (y'.is_open ≡ true)) i
          (λ here old. (pruned (unborrowed s p q n) q y, ap (option_map (pruned (unborrowed s p q n) q)) old, o))
          (λ apart old. (y, old, o)) e;
    }

    freed : (t : State T U) → Remain s t → Remain s (freed_if_unused t q)
    freed t first = by (is_unused t q) refl where
      by : (b : Bool) → is_unused t q ≡ b → Remain s (cond b (place_freed t q) t)
      by false e = first
      by true e = record {
        config = first.config;
        publishers = λ p x e. let v = first.publishers p x e in (
          record (v.0) { is_due = true },
          ap (option_map {T = Publisher} (λ z. record z { is_due = true })) v.1,
          v.2,
        );
        subscribers = λ i y e0 o. let v = first.subscribers i y e0 o in
            at_each t.subscribers q None
            (λ k w. t.subscribers k ≡ Some v.0 → (y' : Subscriber) × (w ≡ Some y') × (y'.is_open ≡ true)) i
            (λ here there. absurd (used v.0 there v.2)) (λ apart there. (v.0, there, v.2)) v.1;
      } where
        used : (y : Subscriber) → t.subscribers q ≡ Some y → y.is_open ≡ true → ⊥
        used y there o =
            let un : is_unused t q
            ≡ (not y.is_open && list_all (λ p. not (has_borrows (t.mailboxes p q))) (connected_publishers y)) =
            ap (λ (v : Option Subscriber).
            option_map_or (λ (y : Subscriber). not y.is_open && list_all (λ p. not (has_borrows (t.mailboxes p q)))
            (connected_publishers y)) v false) there in
            true≢false (sym e ∙ un ∙ ap
            (λ (b : Bool). not b && list_all (λ p. not (has_borrows (t.mailboxes p q))) (connected_publishers y)) o)

  -- its mailboxes are those with n released
  released_boxes : (released s p q n).mailboxes ≡ (unborrowed s p q n).mailboxes
  released_boxes = cond_both (is_unused (subscriber_pruned (unborrowed s p q n) q) q)
      (place_freed (subscriber_pruned (unborrowed s p q n) q) q) (subscriber_pruned (unborrowed s p q n) q)
      (λ (t : State T U). t.mailboxes ≡ (unborrowed s p q n).mailboxes) (λ _. refl) (λ _. refl)

  pub released_now : is_borrowed n ((released s p q n).mailboxes p q) ≡ false
  released_now =
      ap (λ (f : ℕ → ℕ → Mailbox). is_borrowed n (f p q)) released_boxes
      ∙ this_borrowed s p q n (with_released n (s.mailboxes p q)) n
      ∙ contains-without_same n (s.mailboxes p q).borrowed

  pub released_others : (i j k : ℕ) → (i ≡ p → j ≡ q → k ≡ n → ⊥)
      → is_borrowed k ((released s p q n).mailboxes i j) ≡ is_borrowed k (s.mailboxes i j)
  released_others i j k other =
      ap (λ (f : ℕ → ℕ → Mailbox). is_borrowed k (f i j)) released_boxes
      ∙ others_borrowed s p q n (with_released n (s.mailboxes p q))
      (λ k away. same k (contains (s.mailboxes p q).borrowed k) refl away) i j k other
    where
      same : (k : ℕ) (b : Bool) → contains (s.mailboxes p q).borrowed k ≡ b → k ≢ n
          → contains (without n (s.mailboxes p q).borrowed) k ≡ contains (s.mailboxes p q).borrowed k
      same k true e away = contains-without_other n k (s.mailboxes p q).borrowed (ne_eqb k n away) e ∙ sym e
      same k false e away = by (contains (without n (s.mailboxes p q).borrowed) k) refl ∙ sym e where
        by : (b : Bool) → contains (without n (s.mailboxes p q).borrowed) k ≡ b → b ≡ false
        by false f = refl
        by true f = absurd (true≢false (sym (contains_in_without n k (s.mailboxes p q).borrowed f) ∙ e))
