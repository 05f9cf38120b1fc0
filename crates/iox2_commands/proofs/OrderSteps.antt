-- Steps in which nothing is sent or received: loans, releases and closes.
use Rattle.std.proofs.Common.{◌≡◌, ℕ, ◌≤◌, Bool, true, false, cond, List, refl, sym, ap, subst, ◌∙◌, arith, inl, inr}
use Rattle.std.proofs.Common.{Option, None, Some, is_some}
use Rattle.std.specs.Option.{option_map, option_and_then}
use Rattle.std.proofs.lemmas.Bool.{cond_both, true≢false}
use Rattle.iox2_machine.specs.machine.Numbers.{put_at, without}
use Rattle.iox2_machine.specs.machine.Mailbox.{Mailbox, waiting_dropped, with_released}
use Rattle.iox2_machine.specs.machine.Records.{Loan, Publisher, Subscriber, Environment}
use Rattle.iox2_machine.specs.machine.State.{State, with_loan, with_mailbox, subscriber_changed}
use Rattle.iox2_machine.specs.machine.State.{receiver_channels_reset, subscribers_due, sender_channels_reset}
use Rattle.iox2_machine.specs.machine.Loans.{GrantLoan, loan_granted, loan_discarded, written}
use Rattle.iox2_machine.specs.machine.SingleCalls.{GrantWrittenLoan}
use Rattle.iox2_machine.specs.machine.Releases.{released, unborrowed, subscriber_pruned, pruned, freed_if_unused}
use Rattle.iox2_machine.specs.machine.Releases.{place_freed, is_unused}
use Rattle.iox2_machine.specs.machine.Ports.{publisher_closed, publisher_gone, subscribers_pruned}
use Rattle.iox2_machine.specs.machine.Ports.{mailbox_after_publisher, subscriber_closed, subscriber_shut}
use Rattle.iox2_machine.specs.machine.Ports.{mailbox_after_subscriber}
use Rattle.iox2_machine.specs.declared.errors.LoanError.{LoanError}
use Rattle.iox2_laws.proofs.Cases.{by_option}
use Rattle.iox2_laws.proofs.CallCases.{grant_cases}
use Rattle.iox2_laws.proofs.Puts.{at_each, found_put, found_removed, found_mapped}
use Rattle.iox2_commands.specs.Runs.{IsSubsequence}
use Rattle.iox2_commands.proofs.Subsequences.{IsSubsequence-nil, IsSubsequence-refl}
use Rattle.iox2_commands.proofs.Ordered.{Ordered, quiet_keeps, Quiet, WasPublisher, WasLoan, WasOpen, Waited}
use Rattle.iox2_commands.proofs.Ordered.{same_publisher, alike_publisher, same_loan, same_waiting}
use Rattle.iox2_machine.specs.machine.Channel.{Channel}

-- ---- records that are found

-- a record found after one was changed is that one changed, or another that was there before
found_changed : {A : Type 0} (f : ℕ → Option A) (k : ℕ) (g : A → A) (i : ℕ) (a : A) (R : Type 0)
    → put_at f k (option_map g (f k)) i ≡ Some a
    → ((b : A) → i ≡ k → f i ≡ Some b → a ≡ g b → R) → (f i ≡ Some a → R) → R
found_changed f k g i a R e new old =
    at_each f k (option_map g (f k)) (λ j o. f j ≡ f i → j ≡ i → o ≡ Some a → R) i
    (λ same back there h. found_mapped g (f k) a R h (λ b e h. new b same (sym back ∙ e) h))
    (λ _ _ _ h. old h)
    refl refl e

-- the subscriber takes messages
abbrev opened : Option Subscriber → Bool
opened o = is_some (option_and_then (λ (y : Subscriber). cond y.is_open (Some y.buffer) None) o)

opened_from : (b : Bool) (n : ℕ) → is_some (cond b (Some n) None) ≡ b
opened_from true n = refl
opened_from false n = refl

-- a subscriber that takes messages after a change that leaves it open took messages before
pub opened_mapped : (g : Subscriber → Subscriber) → ((y : Subscriber) → (g y).is_open ≡ y.is_open)
    → (o : Option Subscriber)
    → is_some (option_and_then (λ (y : Subscriber). cond y.is_open (Some y.buffer) None) (option_map g o)) ≡ true
    → is_some (option_and_then (λ (y : Subscriber). cond y.is_open (Some y.buffer) None) o) ≡ true
opened_mapped g same None h = h
opened_mapped g same (Some y) h =
    opened_from y.is_open y.buffer ∙ sym (same y) ∙ sym (opened_from (g y).is_open (g y).buffer) ∙ h

module _ {T U : Type 0} (p0 : ℕ) where
  -- Nothing is done.
  pub quiet_refl : (s : State T U) → Quiet p0 s s
  quiet_refl s = record {
    next_port = omega arith;
    next_message = omega arith;
    loans = same_loan p0 s;
    publishers = same_publisher s s;
    subscribers = λ q e. inl e;
    mailboxes = λ p q _. same_waiting p0 s p q (s.mailboxes p q) refl;
  }

  -- A loan is changed, and its publisher stays.
  pub loan_changed_quiet : (s : State T U) (n : ℕ) (l l' : Loan T U) → s.loans n ≡ Some l → l'.publisher ≡ l.publisher
      → Quiet p0 s (with_loan s n (Some l'))
  loan_changed_quiet s n l l' found same = record {
    next_port = omega arith;
    next_message = omega arith;
    loans = λ i a e.
        found_put s.loans n l' (WasLoan p0 s) i a e (λ _. inl (l, found, sym same)) (λ _ old. same_loan p0 s i a old);
    publishers = same_publisher s (with_loan s n (Some l'));
    subscribers = λ q e. inl e;
    mailboxes = λ p q _. same_waiting p0 s p q (s.mailboxes p q) refl;
  }

  -- A loan leaves its user's hands.
  pub loan_gone_quiet : (s : State T U) (n : ℕ) → Quiet p0 s (with_loan s n None)
  loan_gone_quiet s n = record {
    next_port = omega arith;
    next_message = omega arith;
    loans = λ i a e. found_removed s.loans n i a (WasLoan p0 s i a) e (λ _ old. same_loan p0 s i a old);
    publishers = same_publisher s (with_loan s n None);
    subscribers = λ q e. inl e;
    mailboxes = λ p q _. same_waiting p0 s p q (s.mailboxes p q) refl;
  }

  -- A loan is given back.
  pub loan_discarded_quiet : (s : State T U) (n : ℕ) (l : Loan T U) → Quiet p0 s (loan_discarded s n l)
  loan_discarded_quiet s n l = let s' : State T U = loan_discarded s n l in record {
    next_port = omega arith;
    next_message = omega arith;
    loans = λ i a e. found_removed s.loans n i a (WasLoan p0 s i a) e (λ _ old. same_loan p0 s i a old);
    publishers = λ i x e. found_changed s.publishers l.publisher (λ v. record v { loans = without n v.loans }) i x
        (WasPublisher s s' i x) e
        (λ b _ found same. alike_publisher s s' i b x found
        (ap (λ (v : Publisher). v.history) same) (ap (λ (v : Publisher). v.blocked) same)
        (ap (λ (v : Publisher). v.ends) same))
        (λ old. same_publisher s s' i x old);
    subscribers = λ q e. inl e;
    mailboxes = λ p q _. same_waiting p0 s p q (s.mailboxes p q) refl;
  }

  loan_granted_quiet : (default_header : U) (s : State T U) (p : ℕ) (x : Publisher) (len segments : ℕ) → p0 ≤ p
      → s.publishers p ≡ Some x
      → Quiet p0 s (loan_granted default_header s p x len segments)
  loan_granted_quiet default_header s p x len segments new found =
      let s' : State T U = loan_granted default_header s p x len segments in record {
        next_port = omega arith;
        next_message = omega arith;
        loans = λ i a e. found_put s.loans s.next_message _ (WasLoan p0 s) i a e (λ _. inr (omega arith, new))
            (λ _ old. same_loan p0 s i a old);
        publishers = λ i v e. found_put s.publishers p _ (WasPublisher s s') i v e
            (λ _. alike_publisher s s' p x _ found refl refl refl) (λ _ old. same_publisher s s' i v old);
        subscribers = λ q e. inl e;
        mailboxes = λ p q _. same_waiting p0 s p q (s.mailboxes p q) refl;
      }

  unchanged : (s s' : State T U) → s' ≡ s → Quiet p0 s s'
  unchanged s s' e = subst (Quiet p0 s) (sym e) (quiet_refl s)

  -- A loan is granted or refused.
  pub grant_loan_quiet : (environment : Environment) (default_header : U) (checks_length : Bool) (len : ℕ)
      (s : State T U) (p : ℕ) (s' : State T U) (refusal : Option LoanError) → p0 ≤ p
      → GrantLoan environment default_header checks_length len s p s' refusal → Quiet p0 s s'
  grant_loan_quiet environment default_header checks_length len s p s' refusal new h =
      grant_cases environment default_header checks_length len s p s' (Quiet p0 s s') refusal h
      (λ e same _. unchanged s s' same)
      (λ x found grants.
      subst (Quiet p0 s) (sym grants.4) (loan_granted_quiet default_header s p x len grants.0 new found))

  -- ---- mailboxes and subscribers

  -- In one mailbox less waits.
  fewer_waiting_quiet : (s : State T U) (p q : ℕ) (box : Mailbox) → IsSubsequence box.waiting (s.mailboxes p q).waiting
      → Quiet p0 s (with_mailbox s p q box)
  fewer_waiting_quiet s p q box fewer = record {
    next_port = omega arith;
    next_message = omega arith;
    loans = same_loan p0 s;
    publishers = same_publisher s (with_mailbox s p q box);
    subscribers = λ r e. inl e;
    mailboxes = λ i j _. at_each s.mailboxes p (put_at (s.mailboxes p) q box) (λ i row. Waited p0 s i j (row j)) i
        (λ _. at_each (s.mailboxes p) q box (λ j b. Waited p0 s p j b) j (λ _. inl fewer)
        (λ _. same_waiting p0 s p j (s.mailboxes p j) refl))
        (λ _. same_waiting p0 s i j (s.mailboxes i j) refl);
  }

  -- One subscriber is changed, and takes messages as before.
  subscriber_changed_quiet : (s : State T U) (q : ℕ) (g : Subscriber → Subscriber)
      → ((y : Subscriber) → (g y).is_open ≡ y.is_open)
      → Quiet p0 s (subscriber_changed s q g)
  subscriber_changed_quiet s q g same = record {
    next_port = omega arith;
    next_message = omega arith;
    loans = same_loan p0 s;
    publishers = same_publisher s (subscriber_changed s q g);
    subscribers = λ r. at_each s.subscribers q (option_map g (s.subscribers q)) (λ j o. opened o ≡ true → WasOpen s j) r
        (λ _ e. inl (opened_mapped g same (s.subscribers q) e)) (λ _ e. inl e);
    mailboxes = λ i j _. same_waiting p0 s i j (s.mailboxes i j) refl;
  }

  -- Each subscriber is changed, and takes messages as before.
  subscribers_changed_quiet : (s : State T U) (g : ℕ → Subscriber → Subscriber)
      → ((q : ℕ) (y : Subscriber) → (g q y).is_open ≡ y.is_open)
      → Quiet p0 s (record s { subscribers = λ q. option_map (g q) (s.subscribers q) })
  subscribers_changed_quiet s g same = record {
    next_port = omega arith;
    next_message = omega arith;
    loans = same_loan p0 s;
    publishers = same_publisher s (record s { subscribers = λ q. option_map (g q) (s.subscribers q) });
    subscribers = λ q e. inl (opened_mapped (g q) (same q) (s.subscribers q) e);
    mailboxes = λ i j _. same_waiting p0 s i j (s.mailboxes i j) refl;
  }

  -- A publisher that becomes due.
  pub due_publisher : (s s' : State T U) (p : ℕ) (x : Publisher)
      → option_map {T = Publisher} (λ v. record v { is_due = true }) (s.publishers p) ≡ Some x
      → WasPublisher s s' p x
  due_publisher s s' p x e =
      found_mapped (λ v. record v { is_due = true }) (s.publishers p) x (WasPublisher s s' p x) e (λ b found same.
      alike_publisher s s' p b x found (ap (λ (v : Publisher). v.history) same) (ap (λ (v : Publisher). v.blocked) same)
      (ap (λ (v : Publisher). v.ends) same))

  place_freed_quiet : (s : State T U) (q : ℕ) → Quiet p0 s (place_freed s q)
  place_freed_quiet s q = record {
    next_port = omega arith;
    next_message = omega arith;
    loans = same_loan p0 s;
    publishers = due_publisher s (place_freed s q);
    subscribers = λ r. at_each s.subscribers q None (λ j o. opened o ≡ true → WasOpen s j) r
        (λ _ e. absurd (true≢false (sym e))) (λ _ e. inl e);
    mailboxes = λ i j _. same_waiting p0 s i j (s.mailboxes i j) refl;
  }

  -- Channels don't matter.
  pub channels_quiet : (s : State T U) (channels : ℕ → ℕ → ℕ → Channel) → Quiet p0 s (record s { channels = channels })
  channels_quiet s channels = record {
    next_port = omega arith;
    next_message = omega arith;
    loans = same_loan p0 s;
    publishers = same_publisher s (record s { channels = channels });
    subscribers = λ q e. inl e;
    mailboxes = λ p q _. same_waiting p0 s p q (s.mailboxes p q) refl;
  }

  freed_quiet : (s : State T U) (q : ℕ) → Quiet p0 s (freed_if_unused s q)
  freed_quiet s q =
      cond_both (is_unused s q) (place_freed s q) s (Quiet p0 s) (λ _. place_freed_quiet s q) (λ _. quiet_refl s)

  publisher_gone_quiet : (s : State T U) (p : ℕ) (x : Publisher) → Quiet p0 s (publisher_gone s p x)
  publisher_gone_quiet s p x = record {
    next_port = omega arith;
    next_message = omega arith;
    loans = same_loan p0 s;
    publishers = λ i v e. found_removed s.publishers p i v (WasPublisher s (publisher_gone s p x) i v) e
        (λ _ old. same_publisher s (publisher_gone s p x) i v old);
    subscribers = λ q e. inl e;
    mailboxes = λ i j _. at_each s.mailboxes p (mailbox_after_publisher s p x) (λ i row. Waited p0 s i j (row j)) i
        (λ _. cond_both _ (s.mailboxes p j) (waiting_dropped (s.mailboxes p j)) (Waited p0 s p j)
        (λ _. same_waiting p0 s p j (s.mailboxes p j) refl) (λ _. inl (IsSubsequence-nil (s.mailboxes p j).waiting)))
        (λ _. same_waiting p0 s i j (s.mailboxes i j) refl);
  }

  subscriber_shut_quiet : (s : State T U) (q : ℕ) (y : Subscriber) → Quiet p0 s (subscriber_shut s q y)
  subscriber_shut_quiet s q y = record {
    next_port = omega arith;
    next_message = omega arith;
    loans = same_loan p0 s;
    publishers = due_publisher s (subscriber_shut s q y);
    subscribers = λ r. at_each s.subscribers q (Some (record y { is_open = false }))
        (λ j o. opened o ≡ true → WasOpen s j) r (λ _ e. absurd (true≢false (sym e))) (λ _ e. inl e);
    mailboxes = λ i j _. at_each (s.mailboxes i) q (mailbox_after_subscriber s q i) (λ j b. Waited p0 s i j b) j
        (λ _. cond_both _ (s.mailboxes i q) (waiting_dropped (s.mailboxes i q)) (Waited p0 s i q)
        (λ _. same_waiting p0 s i q (s.mailboxes i q) refl) (λ _. inl (IsSubsequence-nil (s.mailboxes i q).waiting)))
        (λ _. same_waiting p0 s i j (s.mailboxes i j) refl);
  }

module _ {T U : Type 0} (p0 n0 : ℕ) (out : ℕ → List ℕ) (got : ℕ → ℕ → List ℕ) where
  -- A loan with default values is granted or refused.
  pub grant_written_loan_ordered : (environment : Environment) (default_value : T) (default_header : U)
      (checks_length : Bool) (len : ℕ) (s : State T U) (p : ℕ) (s' : State T U) (refusal : Option LoanError)
      → p0 ≤ p → Ordered p0 n0 out got s → GrantWrittenLoan environment default_value default_header checks_length len s
      p s' refusal → Ordered p0 n0 out got s'
  grant_written_loan_ordered environment default_value default_header checks_length len s p s' refusal new w h =
      let mid : State T U = h.0 in
      let w' : Ordered p0 n0 out got mid = quiet_keeps p0 n0 out got s mid w
      (grant_loan_quiet p0 environment default_header checks_length len s p mid refusal new h.1) in
      by_option (Ordered p0 n0 out got s') refusal _ _ h.2
      (λ _ h. by_option (Ordered p0 n0 out got s') (mid.loans s.next_message) _ _ h (λ _ v. absurd v)
      (λ l found e. subst (Ordered p0 n0 out got) (sym e)
      (quiet_keeps p0 n0 out got mid _ w'
      (loan_changed_quiet p0 mid s.next_message l (written l default_value) found refl))))
      (λ _ _ e. subst (Ordered p0 n0 out got) (sym e) w')

  pruned_ordered : (s : State T U) (q : ℕ) → Ordered p0 n0 out got s
      → Ordered p0 n0 out got (receiver_channels_reset (freed_if_unused (subscriber_pruned s q) q) q)
  pruned_ordered s q w =
      let w' : Ordered p0 n0 out got (subscriber_pruned s q) =
      quiet_keeps p0 n0 out got s _ w (subscriber_changed_quiet p0 s q (pruned s q) (λ y. refl)) in
      let t : State T U = freed_if_unused (subscriber_pruned s q) q in
      let w'' : Ordered p0 n0 out got t =
      quiet_keeps p0 n0 out got (subscriber_pruned s q) t w' (freed_quiet p0 (subscriber_pruned s q) q) in
      quiet_keeps p0 n0 out got t _ w'' (channels_quiet p0 t (receiver_channels_reset t q).channels)

  -- A sample is released.
  pub released_ordered : (s : State T U) (p q n : ℕ) → Ordered p0 n0 out got s
      → Ordered p0 n0 out got (released s p q n)
  released_ordered s p q n w =
      pruned_ordered (unborrowed s p q n) q
      (quiet_keeps p0 n0 out got s _ w (fewer_waiting_quiet p0 s p q (with_released n (s.mailboxes p q))
      (IsSubsequence-refl (s.mailboxes p q).waiting)))

  -- A subscriber is closed.
  pub subscriber_closed_ordered : (s : State T U) (q : ℕ) (y : Subscriber) → Ordered p0 n0 out got s
      → Ordered p0 n0 out got (subscriber_closed s q y)
  subscriber_closed_ordered s q y w =
      pruned_ordered (subscriber_shut s q y) q (quiet_keeps p0 n0 out got s _ w (subscriber_shut_quiet p0 s q y))

  -- A publisher is closed.
  pub publisher_closed_ordered : (s : State T U) (p : ℕ) (x : Publisher) → Ordered p0 n0 out got s
      → Ordered p0 n0 out got (publisher_closed s p x)
  publisher_closed_ordered s p x w =
      let gone : State T U = publisher_gone s p x in
      let w1 : Ordered p0 n0 out got gone = quiet_keeps p0 n0 out got s gone w (publisher_gone_quiet p0 s p x) in
      let w2 : Ordered p0 n0 out got (subscribers_pruned gone) =
      quiet_keeps p0 n0 out got gone _ w1 (subscribers_changed_quiet p0 gone (pruned gone) (λ q y. refl)) in
      let t : State T U = subscribers_due (subscribers_pruned gone) in
      let w3 : Ordered p0 n0 out got t = quiet_keeps p0 n0 out got (subscribers_pruned gone) t w2
      (subscribers_changed_quiet p0 (subscribers_pruned gone) (λ q y. record y { is_due = true }) (λ q y. refl)) in
      quiet_keeps p0 n0 out got t _ w3 (channels_quiet p0 t (sender_channels_reset t p).channels)
