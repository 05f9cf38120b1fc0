-- What a receive takes is the oldest that waited from its publisher.
use Rattle.std.proofs.Common.{◌≡◌, ℕ, Bool, true, false, cond, List, [], ◌∷◌, refl, sym, ap, subst, ◌∙◌, Option, Some}
use Rattle.std.proofs.Common.{◌⊎◌, inl, inr, ⊎_elim}
use Rattle.std.specs.Option.{option_map_or}
use Rattle.std.proofs.lemmas.Bool.{true≢false}
use Rattle.std.proofs.lemmas.Option.{same_Some}
use Rattle.iox2_machine.specs.machine.Limits.{expired_limit}
use Rattle.iox2_machine.specs.machine.Numbers.{contains, put_at}
use Rattle.iox2_machine.specs.machine.Mailbox.{Mailbox}
use Rattle.iox2_machine.specs.machine.Records.{Subscriber, Environment}
use Rattle.iox2_machine.specs.machine.State.{State, connected_publishers, has_sender_end, with_mailbox}
use Rattle.iox2_machine.specs.machine.SubscriberUpdate.{receiver_side, UpdateSubscriber}
use Rattle.iox2_machine.specs.machine.Receives.{Got_sample, Receive_error, TakeSample, Receive}
use Rattle.iox2_machine.specs.machine.Waiting.{receives_from, waiting_from}
use Rattle.iox2_machine.specs.declared.errors.ConnectionFailure.{ConnectionFailure}
use Rattle.iox2_laws.proofs.Cases.{by_option, by_bool}
use Rattle.iox2_laws.proofs.MailboxWalks.{receiver_side_keeps}
use Rattle.iox2_laws.proofs.PortsStay.{PortsStay, update_subscriber_stays}
use Rattle.iox2_laws.proofs.Puts.{put_at-same}
use Rattle.iox2_laws.proofs.WaitingCounts.{by_record}
use Rattle.iox2_laws.proofs.WaitingReceives.{receive_waited, received_from, open_receives}

-- a list that is there or not, and of which something is there, is there
there-whole : (b : Bool) (ns : List ℕ) (n : ℕ) → contains (cond b ns []) n ≡ true → cond b ns [] ≡ ns
there-whole true ns n at = refl
there-whole false ns n at = absurd (true≢false (sym at))

module _ {T U : Type 0} (environment : Environment) (s : State T U) (q : ℕ) where
  -- What waits in the mailbox with p is what waited there, or nothing.
  abbrev StaysOrGoes : State T U → (p : ℕ) → Type 0
  StaysOrGoes t p = ((t.mailboxes p q).waiting ≡ (s.mailboxes p q).waiting) ⊎ ((t.mailboxes p q).waiting ≡ [])

  -- so it is after the subscriber's update
  updated-box : (s' : State T U) (failure : Option ConnectionFailure) → UpdateSubscriber environment s q s' failure
      → (p : ℕ) → StaysOrGoes s' p
  updated-box s' failure h p =
      by_option (StaysOrGoes s' p) (s.subscribers q) _ _ h (λ _ v. absurd v) (λ y present h.
      by_bool (StaysOrGoes s' p) y.is_due _ _ h
      (λ due h. subst (λ (t : State T U). StaysOrGoes t p) (sym h.2)
      (subst (λ (box : Mailbox). (box.waiting ≡ (s.mailboxes p q).waiting) ⊎ (box.waiting ≡ []))
      (sym (put_at-same (s.mailboxes p) q ((h.0).mailboxes p)))
      (receiver_side_keeps (λ i box. (box.waiting ≡ (s.mailboxes i q).waiting) ⊎ (box.waiting ≡ []))
      (λ i box _. inr refl) environment (s.config).service_id q y.degradation_handler (expired_limit s.config)
      (λ i. has_sender_end s i q) s.publisher_places (receiver_side s q y) h.0 failure (λ i. inl refl) h.1 p)))
      (λ _ h. inl (ap (λ (t : State T U). (t.mailboxes p q).waiting) h.0)))

  -- what is received stood first, and the rest waits still
  pub receive-first : (p n : ℕ) (s' : State T U) (y : Subscriber) → s.subscribers q ≡ Some y → y.is_open ≡ true
      → Receive environment s q s' (Got_sample p n)
      → waiting_from s p q ≡ n ∷ waiting_from s' p q
  receive-first p n s' y here is_open h =
      let stays : PortsStay s h.0 = update_subscriber_stays environment s q h.0 h.1 h.2 in
      let there = (stays.remain).subscribers q y here is_open in
      by_option (waiting_from s p q ≡ n ∷ waiting_from s' p q) h.1 _ _ h.3
      (λ _ k. by_option (waiting_from s p q ≡ n ∷ waiting_from s' p q) ((h.0).subscribers q) _ _ k (λ _ v. absurd v)
      (λ z at k.
      taken z at (ap (λ (v : Subscriber). v.is_open) (same_Some z there.0 (sym at ∙ there.1)) ∙ there.2) k))
      (λ e _ k. let clash : Got_sample p n ≡ Receive_error _ = k.1 in absurd cc)
    where
      all : waiting_from s p q ≡ (s.mailboxes p q).waiting
      all = there-whole (option_map_or (λ (v : Subscriber). receives_from v p) (s.subscribers q) false)
          (s.mailboxes p q).waiting n (receive_waited environment s q p n s' y here is_open h)

      taken : (z : Subscriber) → (h.0).subscribers q ≡ Some z → z.is_open ≡ true
          → TakeSample h.0 q z s' (Got_sample p n) → waiting_from s p q ≡ n ∷ waiting_from s' p q
      taken z at open_now k = all ∙ old ∙ ap (λ ns. n ∷ ns) (sym left) where
        box : Mailbox
        box = k.1

        old : (s.mailboxes p q).waiting ≡ n ∷ (k.2).0
        old = ⊎_elim
            (λ same. sym same ∙ (k.2).1)
            (λ gone. let clash : [] ≡ n ∷ (k.2).0 = sym gone ∙ (k.2).1 in absurd cc)
            (updated-box h.0 h.1 h.2 p)

        this : (with_mailbox h.0 p q box).mailboxes p q ≡ box
        this = ap (λ (row : ℕ → Mailbox). row q) (put_at-same (h.0).mailboxes p (put_at ((h.0).mailboxes p) q box))
            ∙ put_at-same ((h.0).mailboxes p) q box

        left : waiting_from s' p q ≡ (k.2).0
        left =
            ap (λ (t : State T U). waiting_from t p q) k.3
            ∙ by_record (with_mailbox h.0 p q box) p q (Some z) at
            ∙ open_receives z.is_open z.is_due (contains (connected_publishers z) p)
            ((with_mailbox h.0 p q box).mailboxes p q).waiting open_now
            (received_from ((h.0).config).subscriber_max_borrowed_samples z (λ i. (h.0).mailboxes i q) p k.0)
            ∙ ap (λ (b : Mailbox). b.waiting) (this ∙ (k.2).2)
