-- Each operation leaves what a run's mailboxes, histories and loans have traced to that run, and what is borrowed
-- borrowed.
use Rattle.std.proofs.Common.{◌≡◌, ℕ, ◌≤◌, ◌+◌, Bool, true, false, List, [], ◌∷◌, ◌++◌, drop, refl, sym, ap, subst, ◌∙◌}
use Rattle.std.proofs.Common.{eqb, Option, None, Some, ⊎_elim}
use Rattle.std.specs.Prelude.{◌&&◌, max}
use Rattle.std.specs.Option.{option_map, option_map_or}
use Rattle.std.specs.declared.time.Duration.{Duration}
use Rattle.std.proofs.lemmas.Bool.{cond_both, true≢false, ne_eqb}
use Rattle.std.proofs.lemmas.Option.{none-some, same_Some}
use Rattle.iox2_machine.specs.machine.Numbers.{put_at, contains, without, last_n}
use Rattle.iox2_machine.specs.machine.Places.{occupant, is_port}
use Rattle.iox2_machine.specs.machine.Mailbox.{Mailbox, numbers_in, is_borrowed, waiting_dropped, with_released}
use Rattle.iox2_machine.specs.machine.Records.{Loan, Publisher, Subscriber, Environment, BlockedSend, PublisherSettings}
use Rattle.iox2_machine.specs.machine.Records.{SubscriberSettings}
use Rattle.iox2_machine.specs.machine.State.{State, receiving_buffer, channel_buffer, has_receiver_end, has_sender_end}
use Rattle.iox2_machine.specs.machine.State.{is_present, with_mailbox, with_loan, publishers_due}
use Rattle.iox2_machine.specs.machine.Delivery.{DeliveryEnd, Complete, Suspended, no_time}
use Rattle.iox2_machine.specs.machine.PublisherUpdate.{sender_side, UpdatePublisher, history_for}
use Rattle.iox2_machine.specs.machine.SubscriberUpdate.{receiver_side, UpdateSubscriber}
use Rattle.iox2_machine.specs.machine.Loans.{GrantLoan, loan_granted, loan_discarded, written}
use Rattle.iox2_machine.specs.machine.Sends.{Retry, GiveUp, Publish, DeliverAndConclude, ConcludeSend, SendResult}
use Rattle.iox2_machine.specs.machine.Sends.{with_mailboxes, published, more_retries}
use Rattle.iox2_machine.specs.machine.Receives.{Receive, TakeSample, ReceiveResult, Got_sample, No_sample}
use Rattle.iox2_machine.specs.machine.Receives.{Receive_error}
use Rattle.iox2_machine.specs.machine.Releases.{released, unborrowed, subscriber_pruned, freed_if_unused, place_freed}
use Rattle.iox2_machine.specs.machine.Releases.{is_unused}
use Rattle.iox2_machine.specs.machine.Ports.{FirstPublisherUpdate, FirstSubscriberUpdate, CreatePublisher}
use Rattle.iox2_machine.specs.machine.Ports.{CreateSubscriber, with_new_publisher, with_new_subscriber}
use Rattle.iox2_machine.specs.machine.Ports.{with_failure_warning, publisher_closed, subscriber_closed, subscriber_shut}
use Rattle.iox2_machine.specs.machine.Ports.{mailbox_after_publisher, mailbox_after_subscriber, new_publisher}
use Rattle.iox2_machine.specs.machine.SingleCalls.{GrantWrittenLoan}
use Rattle.iox2_machine.specs.declared.errors.ConnectionFailure.{ConnectionFailure}
use Rattle.iox2_machine.specs.declared.errors.LoanError.{LoanError}
use Rattle.iox2_machine.specs.declared.errors.PublisherCreateError.{PublisherCreateError}
use Rattle.iox2_machine.specs.declared.errors.SubscriberCreateError.{SubscriberCreateError}
use Rattle.iox2_machine.specs.declared.warning.Warning.{Warning}
use Rattle.iox2_machine.specs.declared.warning.Warning.TheVariants.{PublisherPartlyConnected, SubscriberPartlyConnected}
use Rattle.iox2_laws.specs.Sendings.{sending}
use Rattle.iox2_laws.proofs.Cases.{by_option, by_bool}
use Rattle.iox2_laws.proofs.CallCases.{grant_cases, publisher_cases, subscriber_cases}
use Rattle.iox2_laws.proofs.Puts.{at_each, found_put, found_removed, found_mapped, put_at-same}
use Rattle.iox2_laws.proofs.NumberLemmas.{contains_in_append, contains_right, contains_first, contains_one}
use Rattle.iox2_laws.proofs.NumberLemmas.{contains_in_last_n, contains-without_other}
use Rattle.iox2_laws.proofs.MailboxLemmas.{contains_in_released, contains_waiting_in}
use Rattle.iox2_commands.proofs.Traces.{IsGood, AreGood, good_dropped, good_borrowed, sender_side_good}
use Rattle.iox2_commands.proofs.Traces.{receiver_side_good, deliver_good}
use Rattle.iox2_laws.proofs.SenderSides.{in_history_for}

-- What the commands of a run so far made: ports and loans from these numbers on are its own; it sent these messages of
-- these publishers, and those numbers were never sent in it.
pub record Scope : Type 1 where
  pub first_port : ℕ
  pub first_message : ℕ
  pub WasSent : (p n : ℕ) → Type 0
  pub IsUnsent : (n : ℕ) → Type 0

-- what may be in a mailbox of a subscriber of the run
abbrev pub MayHold : Scope → (p q k : ℕ) → Type 0
MayHold scope p q k = scope.first_port ≤ q → scope.WasSent p k

-- a publisher's history and its blocked send were sent
abbrev pub PublisherTraced : Scope → (p : ℕ) → Publisher → Type 0
PublisherTraced scope p x = ((k : ℕ) → contains x.history k ≡ true → scope.WasSent p k)
    × ((b : BlockedSend) → x.blocked ≡ Some b → scope.WasSent p b.message)

-- each publisher of the run is so
abbrev pub PublishersTraced : Scope → (ℕ → Option Publisher) → Type 0
PublishersTraced scope publishers =
    (p : ℕ) (x : Publisher) → publishers p ≡ Some x → scope.first_port ≤ p → PublisherTraced scope p x

-- a publisher is set
put_publisher : (scope : Scope) (publishers : ℕ → Option Publisher) (p : ℕ) (x : Publisher)
    → PublishersTraced scope publishers
    → (scope.first_port ≤ p → PublisherTraced scope p x) → PublishersTraced scope (put_at publishers p (Some x))
put_publisher scope publishers p x t new i z e low =
    found_put publishers p x (λ i z. scope.first_port ≤ i → PublisherTraced scope i z) i z e (λ _. new)
    (λ _ e low. t i z e low) low

-- a publisher is changed
changed_publisher : (scope : Scope) (publishers : ℕ → Option Publisher) (p : ℕ) (change : Publisher → Publisher)
    → PublishersTraced scope publishers
    → ((x : Publisher) → publishers p ≡ Some x → PublisherTraced scope p x → PublisherTraced scope p (change x))
    → PublishersTraced scope (put_at publishers p (option_map change (publishers p)))
changed_publisher scope publishers p change t new i z e low =
    at_each publishers p (option_map change (publishers p))
    (λ i o. o ≡ Some z → scope.first_port ≤ i → PublisherTraced scope i z) i
    (λ _ e low. found_mapped change (publishers p) z (PublisherTraced scope p z) e
    (λ x f g. subst (PublisherTraced scope p) (sym g) (new x f (t p x f low))))
    (λ _ e low. t i z e low) e low

module _ {T U : Type 0} where
  -- each mailbox of a subscriber of the run has such numbers alone
  abbrev pub MailboxesTraced : Scope → State T U → Type 0
  MailboxesTraced scope s = (p q k : ℕ) → contains (numbers_in (s.mailboxes p q)) k ≡ true → MayHold scope p q k

  -- a loan wasn't sent, and one of the run is of a publisher of the run
  abbrev pub LoanTraced : Scope → (n : ℕ) → Loan T U → Type 0
  LoanTraced scope n l = scope.IsUnsent n × (scope.first_message ≤ n → scope.first_port ≤ l.publisher)

  -- each loan is so
  abbrev pub LoansTraced : Scope → (ℕ → Option (Loan T U)) → Type 0
  LoansTraced scope loans = (n : ℕ) (l : Loan T U) → loans n ≡ Some l → LoanTraced scope n l

  -- What the run's subscribers and publishers hold was sent in the run, and the loans weren't.
  abbrev pub IsTraced : Scope → State T U → Type 0
  IsTraced scope s = MailboxesTraced scope s × PublishersTraced scope s.publishers × LoansTraced scope s.loans

  -- The later state is traced, and what was borrowed in the earlier is borrowed in it.
  abbrev pub Follows : Scope → State T U → State T U → Type 0
  Follows scope s s' =
      ((p q : ℕ) → IsGood (MayHold scope p q) (s.mailboxes p q) (s'.mailboxes p q))
      × PublishersTraced scope s'.publishers × LoansTraced scope s'.loans

  -- one mailbox is changed
  put_mailbox : (s : State T U) (p q : ℕ) (box : Mailbox) (P : ℕ → ℕ → Mailbox → Type 0) → P p q box
      → ((i j : ℕ) → P i j (s.mailboxes i j)) → (i j : ℕ)
      → P i j ((with_mailbox s p q box).mailboxes i j)
  put_mailbox s p q box P new old i j =
      at_each s.mailboxes p (put_at (s.mailboxes p) q box) (λ i m. P i j (m j)) i
      (λ _. at_each (s.mailboxes p) q box (λ j b. P p j b) j (λ _. new) (λ _. old p j)) (λ _. old i j)

  -- the mailbox that was changed
  mailbox_put : (s : State T U) (p q : ℕ) (box : Mailbox) → (with_mailbox s p q box).mailboxes p q ≡ box
  mailbox_put s p q box = ap (λ (m : ℕ → Mailbox). m q) (put_at-same s.mailboxes p (put_at (s.mailboxes p) q box))
      ∙ put_at-same (s.mailboxes p) q box

  -- Another sample than the one that is released stays borrowed.
  pub released_stays : (s : State T U) (p q n p' q' n' : ℕ) → ((p ≡ p') → (q ≡ q') → (n ≡ n') → ⊥)
      → is_borrowed n' (s.mailboxes p' q') ≡ true → is_borrowed n' ((released s p q n).mailboxes p' q') ≡ true
  released_stays s p q n p' q' n' apart h =
      let mid : State T U = subscriber_pruned (unborrowed s p q n) q in
      let stays : is_borrowed n' (mid.mailboxes p' q') ≡ true =
      put_mailbox s p q (with_released n (s.mailboxes p q))
      (λ i j box. i ≡ p' → j ≡ q' → is_borrowed n' (s.mailboxes i j) ≡ true → is_borrowed n' box ≡ true)
      (λ e f h. contains-without_other n n' (s.mailboxes p q).borrowed (ne_eqb n' n (λ same. apart e f (sym same))) h)
      (λ _ _ _ _ h. h) p' q' refl refl h in
      cond_both (is_unused mid q) (place_freed mid q) mid (λ (r : State T U). is_borrowed n' (r.mailboxes p' q') ≡ true)
      (λ _. stays) (λ _. stays)

  module _ (scope : Scope) where
    same_good : (s : State T U) → MailboxesTraced scope s → (p q : ℕ)
        → IsGood (MayHold scope p q) (s.mailboxes p q) (s.mailboxes p q)
    same_good s t p q = (t p q, λ k h. h)

    -- a state follows itself
    pub follows_itself : (s : State T U) → IsTraced scope s → Follows scope s s
    follows_itself s t = (same_good s t.0, t.1, t.2)

    -- a state that follows another is traced
    pub traced_after : (s s' : State T U) → Follows scope s s' → IsTraced scope s'
    traced_after s s' f = (λ p q. (f.0 p q).0, f.1, f.2)

    -- what follows the later state follows the earlier
    pub follows_trans : (s s' s'' : State T U) → Follows scope s s' → Follows scope s' s'' → Follows scope s s''
    follows_trans s s' s'' f g = (λ p q. ((g.0 p q).0, λ k h. (g.0 p q).1 k ((f.0 p q).1 k h)), g.1, g.2)

    due_traced : (s : State T U) → PublishersTraced scope s.publishers
        → PublishersTraced scope (publishers_due s).publishers
    due_traced s t p z e low =
        found_mapped (λ (x : Publisher). record x { is_due = true }) (s.publishers p) z (PublisherTraced scope p z) e
        (λ x f g. subst (PublisherTraced scope p) (sym g) (t p x f low))

    -- ---- loans are changed

    put_loan : (loans : ℕ → Option (Loan T U)) (n : ℕ) (l : Loan T U) → LoansTraced scope loans → LoanTraced scope n l
        → LoansTraced scope (put_at loans n (Some l))
    put_loan loans n l t new i z e = found_put loans n l (λ i z. LoanTraced scope i z) i z e (λ _. new) (λ _ e. t i z e)

    removed_loan : (loans : ℕ → Option (Loan T U)) (n : ℕ) → LoansTraced scope loans
        → LoansTraced scope (put_at loans n None)
    removed_loan loans n t i z e = found_removed loans n i z (LoanTraced scope i z) e (λ _ f. t i z f)

    -- ---- updates

    -- A publisher of the run updates.
    pub update_publisher_follows : (environment : Environment) (s : State T U) (p : ℕ) (s' : State T U)
        (failure : Option ConnectionFailure)
        → scope.first_port ≤ p → IsTraced scope s → UpdatePublisher environment s p s' failure → Follows scope s s'
    update_publisher_follows environment s p s' failure own t h =
        by_option (Follows scope s s') (s.publishers p) _ _ h (λ _ v. absurd v) (λ x present h.
        by_bool (Follows scope s s') x.is_due _ _ h
        (λ _ h.
        let are : (q : ℕ) → IsGood (MayHold scope p q) (s.mailboxes p q) ((h.0).mailboxes q) =
        sender_side_good (MayHold scope p) (s.mailboxes p) environment (s.config).service_id p x.degradation_handler
        (history_for s p x) (receiving_buffer s)
        (has_receiver_end s p)
        (λ q k found _. (t.1 p x present own).0 k (in_history_for s p x q k found)) s.subscriber_places
        (sender_side s p x) h.0 failure (same_good s t.0 p) h.1 in
        subst (Follows scope s) (sym h.2) (
          λ i q. at_each s.mailboxes p (h.0).mailboxes (λ i m. IsGood (MayHold scope i q) (s.mailboxes i q) (m q)) i
              (λ _. are q) (λ _. same_good s t.0 i q),
          put_publisher scope s.publishers p (record x { ends = (h.0).ends; is_due = false }) t.1
              (λ low. t.1 p x present low),
          t.2,
        ))
        (λ _ h. subst (Follows scope s) (sym h.0) (follows_itself s t)))

    -- A subscriber updates.
    pub update_subscriber_follows : (environment : Environment) (s : State T U) (q : ℕ) (s' : State T U)
        (failure : Option ConnectionFailure)
        → IsTraced scope s → UpdateSubscriber environment s q s' failure → Follows scope s s'
    update_subscriber_follows environment s q s' failure t h =
        by_option (Follows scope s s') (s.subscribers q) _ _ h (λ _ v. absurd v) (λ y present h.
        by_bool (Follows scope s s') y.is_due _ _ h
        (λ _ h.
        let are : (p : ℕ) → IsGood (MayHold scope p q) (s.mailboxes p q) ((h.0).mailboxes p) =
        receiver_side_good (λ p. MayHold scope p q) (λ p. s.mailboxes p q) environment
        (s.config).service_id q y.degradation_handler _
        (λ p. has_sender_end s p q)
        s.publisher_places (receiver_side s q y) h.0 failure (λ p. same_good s t.0 p q) h.1 in
        subst (Follows scope s) (sym h.2) (
          λ p i. at_each (s.mailboxes p) q ((h.0).mailboxes p) (λ i m. IsGood (MayHold scope p i) (s.mailboxes p i) m) i
              (λ _. are p) (λ _. same_good s t.0 p i),
          t.1,
          t.2,
        ))
        (λ _ h. subst (Follows scope s) (sym h.0) (follows_itself s t)))

    -- ---- receiving and releasing

    take_follows : (s : State T U) (q : ℕ) (y : Subscriber) (s' : State T U) (result : ReceiveResult) → IsTraced scope s
        → TakeSample s q y s' result
        → Follows scope s s'
    take_follows s q y s' (Got_sample p n) t h =
        subst (Follows scope s) (sym h.3) (
          put_mailbox s p q h.1 (λ i j box. IsGood (MayHold scope i j) (s.mailboxes i j) box)
              (good_borrowed (MayHold scope p q) (s.mailboxes p q) (s.mailboxes p q) (same_good s t.0 p q) n h.1 h.2)
              (same_good s t.0),
          t.1,
          t.2,
        )
    take_follows s q y s' No_sample t h = subst (Follows scope s) (sym h.1) (follows_itself s t)
    take_follows s q y s' (Receive_error e) t h = subst (Follows scope s) (sym h.3) (follows_itself s t)

    -- A subscriber receives.
    pub receive_follows : (environment : Environment) (s : State T U) (q : ℕ) (s' : State T U) (result : ReceiveResult)
        → IsTraced scope s
        → Receive environment s q s' result → Follows scope s s'
    receive_follows environment s q s' result t h =
        let f : Follows scope s h.0 = update_subscriber_follows environment s q h.0 h.1 t h.2 in
        by_option (Follows scope s s') h.1 _ _ h.3
        (λ _ k. by_option (Follows scope s s') ((h.0).subscribers q) _ _ k (λ _ v. absurd v) (λ y _ j.
        follows_trans s h.0 s' f (take_follows h.0 q y s' result (traced_after s h.0 f) j)))
        (λ e _ k. subst (Follows scope s) (sym k.0) f)

    -- What a subscriber of the run got was sent in it, and is borrowed.
    pub received_was_sent : (environment : Environment) (s : State T U) (q : ℕ) (s' : State T U) (p n : ℕ)
        → scope.first_port ≤ q → IsTraced scope s
        → Receive environment s q s' (Got_sample p n)
        → scope.WasSent p n × (is_borrowed n (s'.mailboxes p q) ≡ true)
    received_was_sent environment s q s' p n own t h =
        let f : Follows scope s h.0 = update_subscriber_follows environment s q h.0 h.1 t h.2 in
        let Result : Type 0 = scope.WasSent p n × (is_borrowed n (s'.mailboxes p q) ≡ true) in
        by_option Result h.1 _ _ h.3
        (λ _ k. by_option Result ((h.0).subscribers q) _ _ k (λ _ v. absurd v) (λ y _ j.
        let found : contains (numbers_in ((h.0).mailboxes p q)) n ≡ true =
        contains_waiting_in 0 ((h.0).mailboxes p q) n
        (subst (λ ws. contains ws n ≡ true) (sym (j.2).1) (contains_first n (j.2).0)) in
        let box : is_borrowed n j.1 ≡ true =
        subst (λ (m : Mailbox). is_borrowed n m ≡ true) (sym (j.2).2)
        (contains_right ((h.0).mailboxes p q).borrowed (n ∷ []) n (contains_first n [])) in (
          (traced_after s h.0 f).0 p q n found own,
          subst (λ (r : State T U). is_borrowed n (r.mailboxes p q) ≡ true) (sym j.3)
              (subst (λ (m : Mailbox). is_borrowed n m ≡ true)
              (sym (mailbox_put h.0 p q j.1)) box),
        )))
        (λ e _ k. let clash : Got_sample p n ≡ Receive_error _ = k.1 in absurd (cc))

    freed_follows : (s : State T U) (q : ℕ) → IsTraced scope s → Follows scope s (freed_if_unused s q)
    freed_follows s q t =
        cond_both (is_unused s q) (place_freed s q) s (Follows scope s) (λ _. (same_good s t.0, due_traced s t.1, t.2))
        (λ _. follows_itself s t)

    -- A sample is released.
    pub released_traced : (s : State T U) (p q n : ℕ) → IsTraced scope s → IsTraced scope (released s p q n)
    released_traced s p q n t =
        let mid : State T U = unborrowed s p q n in
        let u : IsTraced scope mid = (
          λ i j k h. put_mailbox s p q (with_released n (s.mailboxes p q))
              (λ i j box. contains (numbers_in box) k ≡ true → MayHold scope i j k)
              (λ h. t.0 p q k (contains_in_released n (s.mailboxes p q) k h)) (λ i j. t.0 i j k) i j h,
          t.1,
          t.2,
        ) in
        traced_after (subscriber_pruned mid q) (released s p q n) (freed_follows (subscriber_pruned mid q) q u)

    -- ---- loans

    granted_follows : (default_header : U) (s : State T U) (p : ℕ) (x : Publisher) (len segments : ℕ)
        → s.publishers p ≡ Some x → scope.first_port ≤ p
        → scope.IsUnsent s.next_message → IsTraced scope s
        → Follows scope s (loan_granted default_header s p x len segments)
    granted_follows default_header s p x len segments present own new t = (
      same_good s t.0,
      put_publisher scope s.publishers p (record x {
        loans = x.loans ++ s.next_message ∷
            [];
        longest_granted = max x.longest_granted len;
        segments = segments;
      }) t.1 (λ low. t.1 p x present low),
      put_loan s.loans s.next_message _ t.2 (new, λ _. own),
    )

    -- A publisher of the run is asked for a loan.
    pub grant_loan_follows : (environment : Environment) (default_header : U) (checks_length : Bool) (len : ℕ)
        (s : State T U) (p : ℕ) (s' : State T U)
        (refusal : Option LoanError)
        → scope.first_port ≤ p → scope.IsUnsent s.next_message → IsTraced scope s
        → GrantLoan environment default_header checks_length len s p s' refusal
        → Follows scope s s'
    grant_loan_follows environment default_header checks_length len s p s' refusal own new t h =
        grant_cases environment default_header checks_length len s p s' (Follows scope s s') refusal h
        (λ e same _. subst (Follows scope s) (sym same) (follows_itself s t))
        (λ x present grants. subst (Follows scope s) (sym grants.4)
        (granted_follows default_header s p x len grants.0 present own new t))

    -- A loan is changed.
    pub with_loan_follows : (s : State T U) (n : ℕ) (l l' : Loan T U) → s.loans n ≡ Some l → l'.publisher ≡ l.publisher
        → IsTraced scope s
        → Follows scope s (with_loan s n (Some l'))
    with_loan_follows s n l l' e publisher t = (
      same_good s t.0,
      t.1,
      put_loan s.loans n l' t.2
          ((t.2 n l e).0, λ low. subst (λ p. scope.first_port ≤ p) (sym publisher) ((t.2 n l e).1 low)),
    )

    -- A publisher of the run is asked for a loan that is written at once.
    pub grant_written_loan_follows : (environment : Environment) (default_value : T) (default_header : U)
        (checks_length : Bool) (len : ℕ) (s : State T U) (p : ℕ)
        (s' : State T U) (refusal : Option LoanError)
        → scope.first_port ≤ p → scope.IsUnsent s.next_message → IsTraced scope s
        → GrantWrittenLoan environment default_value default_header checks_length len s p s' refusal
        → Follows scope s s'
    grant_written_loan_follows environment default_value default_header checks_length len s p s' refusal own new t h =
        let f : Follows scope s h.0 =
        grant_loan_follows environment default_header checks_length len s p h.0 refusal own new t h.1 in
        by_option (Follows scope s s') refusal _ _ h.2
        (λ _ k. by_option (Follows scope s s') ((h.0).loans s.next_message) _ _ k (λ _ v. absurd v) (λ l e j.
        subst (Follows scope s) (sym j)
        (follows_trans s h.0 (with_loan h.0 s.next_message (Some (written l default_value))) f
        (with_loan_follows h.0 s.next_message l (written l default_value) e refl (traced_after s h.0 f)))))
        (λ _ _ k. subst (Follows scope s) (sym k) f)

    -- A loan leaves its user's hands.
    pub without_loan_follows : (s : State T U) (n : ℕ) → IsTraced scope s → Follows scope s (with_loan s n None)
    without_loan_follows s n t = (same_good s t.0, t.1, removed_loan s.loans n t.2)

    -- A loan is given back.
    pub loan_discarded_follows : (s : State T U) (n : ℕ) (l : Loan T U) → IsTraced scope s
        → Follows scope s (loan_discarded s n l)
    loan_discarded_follows s n l t = (
      same_good s t.0,
      changed_publisher scope s.publishers l.publisher
          (λ x. record x { loans = without n x.loans }) t.1 (λ x e u. u),
      removed_loan s.loans n t.2,
    )

    -- ---- sends

    conclude_follows : (s : State T U) (p n : ℕ) (how : DeliveryEnd) (s' : State T U) (result : SendResult)
        → ((b : BlockedSend) → how ≡ Suspended b → b.message ≡ n) → scope.WasSent p n
        → IsTraced scope s → ConcludeSend s p n how s' result → Follows scope s s'
    conclude_follows s p n (Complete count has_failed) s' result same sent t h =
        subst (Follows scope s) (sym h.0) (
          same_good s t.0,
          changed_publisher scope s.publishers p (λ x. record x { loans = without n x.loans; blocked = None }) t.1
              (λ x e u. (u.0, λ b f. absurd (none-some b f))),
          t.2,
        )
    conclude_follows s p n (Suspended b) s' result same sent t h =
        subst (Follows scope s) (sym h.0) (
          same_good s t.0,
          changed_publisher scope s.publishers p (λ x. record x { blocked = Some b }) t.1
              (λ x e u. (
                u.0,
                λ b' f. subst (scope.WasSent p)
                    (sym (same b refl) ∙ ap (λ (c : BlockedSend). c.message) (same_Some b b' f)) sent,
              )),
          t.2,
        )

    -- A message that was sent is delivered, and the send ends or is blocked.
    pub deliver_follows : (environment : Environment) (s : State T U) (p n channel retries : ℕ) (elapsed : Duration)
        (place : ℕ) (ends : List (Option ℕ)) (count : ℕ)
        (has_failed : Bool) (s' : State T U) (result : SendResult)
        → scope.WasSent p n → IsTraced scope s → DeliverAndConclude environment s p
        (sending n channel retries place ends count has_failed) elapsed s' result → Follows scope s s'
    deliver_follows environment s p n channel retries elapsed place ends count has_failed s' result sent t h =
        by_option (Follows scope s s') (s.publishers p) _ _ h (λ _ v. absurd v) (λ x present k.
        let d : AreGood (MayHold scope p) (s.mailboxes p) k.1
        × ((b : BlockedSend) → k.0 ≡ Suspended b → b.message ≡ n) =
        deliver_good (MayHold scope p) (s.mailboxes p) environment s.config p x.backpressure_strategy
        x.backpressure_handler (channel_buffer s p channel) n channel (λ _ _. sent)
        retries elapsed place ends count has_failed (s.mailboxes p) k.0 k.1 (same_good s t.0 p) k.2 in
        let f : Follows scope s (with_mailboxes s p k.1) = (
          λ i q. at_each s.mailboxes p k.1 (λ i m. IsGood (MayHold scope i q) (s.mailboxes i q) (m q)) i (λ _. d.0 q)
              (λ _. same_good s t.0 i q),
          t.1,
          t.2,
        ) in
        follows_trans s (with_mailboxes s p k.1) s' f
        (conclude_follows (with_mailboxes s p k.1) p n k.0 s' result d.1 sent
        (traced_after s (with_mailboxes s p k.1) f) k.3))

    -- A message that was sent is published: its loan may be as if it were sent.
    pub publish_follows : (environment : Environment) (s : State T U) (p n : ℕ) (s' : State T U) (result : SendResult)
        → scope.WasSent p n
        → MailboxesTraced scope s → PublishersTraced scope s.publishers
        → ((i : ℕ) (l : Loan T U) → eqb i n ≡ false → s.loans i ≡ Some l → LoanTraced scope i l)
        → Publish environment s p n s' result → Follows scope s s'
    publish_follows environment s p n s' result sent boxes publishers others h =
        by_option (Follows scope s s') (s.publishers p) _ _ h (λ _ v. absurd v) (λ x present k.
        let f : Follows scope s (published s p n) = (
          same_good s boxes,
          changed_publisher scope s.publishers p
              (λ x. record x { history = last_n (s.config).history_size (x.history ++ n ∷ []) }) publishers (λ x e u. (
                λ i found. ⊎_elim (λ old. u.0 i old) (λ new. subst (scope.WasSent p) (contains_one n i new) sent)
                    (contains_in_append x.history (n ∷ []) i
                    (contains_in_last_n (s.config).history_size (x.history ++ n ∷ []) i found)),
                u.1,
              )),
          λ i l e. found_removed s.loans n i l (LoanTraced scope i l) e (λ apart f. others i l apart f),
        ) in
        follows_trans s (published s p n) s' f
        (deliver_follows environment (published s p n) p n 0 0 no_time 0 x.ends 0 false s' result sent
        (traced_after s (published s p n) f) k))

    -- A blocked send is tried again.
    pub retry_follows : (environment : Environment) (s : State T U) (p : ℕ) (x : Publisher) (b : BlockedSend)
        (elapsed : Duration) (s' : State T U)
        (result : SendResult)
        → scope.first_port ≤ p → s.publishers p ≡ Some x → x.blocked ≡ Some b → IsTraced scope s
        → Retry environment s p b elapsed s' result → Follows scope s s'
    retry_follows environment s p x b elapsed s' result own present e t h =
        deliver_follows environment s p b.message b.channel (more_retries b.retries) elapsed b.place b.ends b.count
        b.has_failed s' result ((t.1 p x present own).1 b e) t h

    -- A blocked send is given up.
    pub give_up_follows : (environment : Environment) (s : State T U) (p : ℕ) (x : Publisher) (b : BlockedSend)
        (s' : State T U) (result : SendResult)
        → scope.first_port ≤ p → s.publishers p ≡ Some x → x.blocked ≡ Some b → IsTraced scope s
        → GiveUp environment s p b s' result → Follows scope s s'
    give_up_follows environment s p x b s' result own present e t h =
        deliver_follows environment s p b.message b.channel 0 no_time (b.place + 1)
        (drop 1 b.ends) b.count b.has_failed s' result ((t.1 p x present own).1 b e) t h

    -- ---- ports

    warned_follows : (s : State T U) (warning : ConnectionFailure → Warning) (failure : Option ConnectionFailure)
        → IsTraced scope s
        → Follows scope s (with_failure_warning s warning failure)
    warned_follows s warning None t = follows_itself s t
    warned_follows s warning (Some e) t = follows_itself s t

    -- A publisher is made, or it is refused.
    pub create_publisher_follows : (environment : Environment) (s : State T U) (given : PublisherSettings)
        (s' : State T U) (refusal : Option PublisherCreateError)
        → scope.first_port ≤ s.next_port → IsTraced scope s → CreatePublisher environment s given s' refusal
        → Follows scope s s'
    create_publisher_follows environment s given s' refusal own t h =
        publisher_cases environment s given s' (Follows scope s s') refusal h
        (λ e same _. subst (Follows scope s) (sym same) (follows_itself s t)) (λ place makes.
        let new : State T U = with_new_publisher s given place in
        let first : FirstPublisherUpdate environment new s.next_port s' = makes.2 in
        let f : Follows scope s new = (
          same_good s t.0,
          put_publisher scope s.publishers s.next_port (new_publisher s given place) t.1
              (λ _. (λ k h. absurd (true≢false (sym h)), λ b e. absurd (none-some b e))),
          t.2,
        ) in
        let g : Follows scope new first.0 =
        update_publisher_follows environment new s.next_port first.0 first.1 own (traced_after s new f) first.2 in
        let whole : Follows scope s first.0 = follows_trans s new first.0 f g in
        subst (Follows scope s) (sym first.3)
        (follows_trans s first.0 (with_failure_warning first.0 (PublisherPartlyConnected s.next_port) first.1) whole
        (warned_follows first.0 (PublisherPartlyConnected s.next_port) first.1 (traced_after s first.0 whole))))

    -- A subscriber is made, or it is refused.
    pub create_subscriber_follows : (environment : Environment) (s : State T U) (given : SubscriberSettings)
        (s' : State T U)
        (refusal : Option SubscriberCreateError)
        → IsTraced scope s → CreateSubscriber environment s given s' refusal → Follows scope s s'
    create_subscriber_follows environment s given s' refusal t h =
        subscriber_cases environment s given s' (Follows scope s s') refusal h
        (λ e same _. subst (Follows scope s) (sym same) (follows_itself s t)) (λ place makes.
        let new : State T U = with_new_subscriber s given place in
        let first : FirstSubscriberUpdate environment new s.next_port s' = makes.3 in
        let f : Follows scope s new = (same_good s t.0, due_traced s t.1, t.2) in
        let g : Follows scope new first.0 =
        update_subscriber_follows environment new s.next_port first.0 first.1 (traced_after s new f) first.2 in
        let whole : Follows scope s first.0 = follows_trans s new first.0 f g in
        subst (Follows scope s) (sym first.3) (follows_trans s first.0
        (with_failure_warning first.0 (SubscriberPartlyConnected s.next_port) first.1) whole
        (warned_follows first.0 (SubscriberPartlyConnected s.next_port) first.1 (traced_after s first.0 whole))))

    -- A publisher is closed.
    pub publisher_closed_follows : (s : State T U) (p : ℕ) (x : Publisher) → IsTraced scope s
        → Follows scope s (publisher_closed s p x)
    publisher_closed_follows s p x t = (
      λ i q. at_each s.mailboxes p (mailbox_after_publisher s p x)
          (λ i m. IsGood (MayHold scope i q) (s.mailboxes i q) (m q)) i
          (λ _. cond_both (option_map_or (λ (y : Subscriber). y.is_open && is_port (occupant y.ends x.place) p)
          (s.subscribers q) false) (s.mailboxes p q)
          (waiting_dropped (s.mailboxes p q))
          (IsGood (MayHold scope p q) (s.mailboxes p q)) (λ _. same_good s t.0 p q)
          (λ _. good_dropped (MayHold scope p q) (s.mailboxes p q)
          (s.mailboxes p q) (same_good s t.0 p q)))
          (λ _. same_good s t.0 i q),
      λ i z e low. found_removed s.publishers p i z (PublisherTraced scope i z) e (λ _ f. t.1 i z f low),
      t.2,
    )

    -- A subscriber is closed.
    pub subscriber_closed_follows : (s : State T U) (q : ℕ) (y : Subscriber) → IsTraced scope s
        → Follows scope s (subscriber_closed s q y)
    subscriber_closed_follows s q y t =
        let shut : State T U = subscriber_pruned (subscriber_shut s q y) q in
        let f : Follows scope s shut = (
          λ p i. at_each (s.mailboxes p) q (mailbox_after_subscriber s q p)
              (λ i m. IsGood (MayHold scope p i) (s.mailboxes p i) m) i
              (λ _. cond_both (is_present s p) (s.mailboxes p q) (waiting_dropped (s.mailboxes p q))
              (IsGood (MayHold scope p q) (s.mailboxes p q))
              (λ _. same_good s t.0 p q)
              (λ _. good_dropped (MayHold scope p q) (s.mailboxes p q) (s.mailboxes p q) (same_good s t.0 p q)))
              (λ _. same_good s t.0 p i),
          due_traced s t.1,
          t.2,
        ) in
        follows_trans s shut (subscriber_closed s q y) f (freed_follows shut q (traced_after s shut f))
