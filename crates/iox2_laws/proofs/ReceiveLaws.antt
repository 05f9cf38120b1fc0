-- A receive, and the question whether anything waits, keep a state well-formed.
use Rattle.std.proofs.Common.{◌≡◌, ℕ, Bool, true, refl, sym, subst, arith, Option, None, Some, ◌⊎◌, inl, inr}
use Rattle.iox2_laws.proofs.OperationWalks.{advance, receive_by_steps}
use Rattle.iox2_laws.proofs.Cases.{by_option, by_bool}
use Rattle.iox2_laws.proofs.MailboxLemmas.{IsWithin-borrowed, OthersWithin-borrowed, waiting_count-borrowed}
use Rattle.iox2_laws.proofs.MailboxLemmas.{contains_in_borrowed, has_numbers-borrowed, has_waiting-borrowed}
use Rattle.iox2_laws.proofs.MailboxLemmas.{has_borrows-borrowed}
use Rattle.iox2_laws.proofs.PlaceLemmas.{leads_to}
use Rattle.iox2_laws.proofs.ReleaseLaws.{Shrinks, shrinks_same, with_receivers, ReceiversAgree, receivers_keep}
use Rattle.iox2_laws.proofs.ReleaseLaws.{subscriber_keeps, at_each_mailbox}
use Rattle.iox2_laws.proofs.SubscriberUpdates.{update_subscriber_keeps, update_subscriber_advances}
use Rattle.iox2_laws.specs.Laws.{Advances}
use Rattle.iox2_machine.specs.machine.Limits.{buffer_limit}
use Rattle.iox2_machine.specs.machine.Numbers.{put_at, contains}
use Rattle.iox2_machine.specs.machine.Mailbox.{Mailbox, has_numbers, has_borrows, has_waiting, BorrowsFirst}
use Rattle.iox2_machine.specs.machine.Records.{Subscriber, Environment}
use Rattle.iox2_machine.specs.machine.State.{State}
use Rattle.iox2_machine.specs.machine.Receives.{ReceiveResult, Got_sample, No_sample, Receive_error, can_receive_of}
use Rattle.iox2_machine.specs.machine.Receives.{MayReceiveFrom, TakeSample, Receive, HasSamples}
use Rattle.iox2_machine.specs.machine.WellFormed.{LeadsTo, SubscriberIsWellFormed, IsWellFormed}
use Rattle.iox2_machine.specs.declared.errors.ConnectionFailure.{ConnectionFailure}

-- Whom a message may be received from is a departed publisher that is kept, or one at an end.
received_from : (borrow_limit : ℕ) (y : Subscriber) (boxes : ℕ → Mailbox) (p : ℕ)
    → MayReceiveFrom borrow_limit y boxes p
    → (contains y.expired p ≡ true) ⊎ LeadsTo y.ends p
received_from borrow_limit y boxes p may =
    by_bool ((contains y.expired p ≡ true) ⊎ LeadsTo y.ends p) (can_receive_of borrow_limit y boxes y.expired) _ _ may.1
    (λ _ h. inl h) (λ _ h. inr (leads_to y.ends p h))

module _ {T U : Type 0} where
  received_agrees : (s : State T U) → IsWellFormed s → (p q n : ℕ) (y : Subscriber) (box : Mailbox)
      → s.subscribers q ≡ Some y
      → MayReceiveFrom (s.config).subscriber_max_borrowed_samples y (λ r. s.mailboxes r q) p
      → BorrowsFirst (s.mailboxes p q) n box
      → ReceiversAgree s s.subscribers (put_at s.mailboxes p (put_at (s.mailboxes p) q box)) s.warnings
  received_agrees s w p q n y box here may borrows = record {
    places = λ r. refl;
    stays = λ r z e. (z, e, refl, refl);
    shrinks = λ i j. at_each_mailbox s.mailboxes p q box
        (λ i j m. Shrinks (buffer_limit s.config) (s.config).subscriber_max_borrowed_samples (s.mailboxes i j) m) i j
        (record {
          within = IsWithin-borrowed (buffer_limit s.config) (s.config).subscriber_max_borrowed_samples n
              (s.mailboxes p q) box may.0 borrows (w.mailboxes p q).within;
          waiting = waiting_count-borrowed n (s.mailboxes p q) box borrows;
          others = λ channels buffer. OthersWithin-borrowed channels buffer n (s.mailboxes p q) box borrows;
          numbers = λ m h. contains_in_borrowed n (s.mailboxes p q) box m borrows h;
          some = λ _. (has_numbers-borrowed n (s.mailboxes p q) box borrows).0;
        })
        (shrinks_same (buffer_limit s.config) (s.config).subscriber_max_borrowed_samples (s.mailboxes i j)
        (w.mailboxes i j).within);
    borrowed = λ i j. at_each_mailbox s.mailboxes p q box
        (λ i j m. has_borrows m ≡ true
        → (z : Subscriber) × (s.subscribers j ≡ Some z) × ((contains z.expired i ≡ true) ⊎ LeadsTo z.ends i)) i j
        (λ _. (y, here, received_from (s.config).subscriber_max_borrowed_samples y (λ r. s.mailboxes r q) p may))
        (w.mailboxes i j).receiver_end;
    departed = λ i j. at_each_mailbox s.mailboxes p q box
        (λ i j m. s.publishers i ≡ None → has_waiting m ≡ true
        → (z : Subscriber) × (s.subscribers j ≡ Some z) × (z.is_open ≡ true)
        × ((contains z.expired i ≡ true) ⊎ LeadsTo z.ends i)) i j
        (λ gone _. (w.mailboxes p q).departed gone (has_waiting-borrowed n (s.mailboxes p q) box borrows))
        (w.mailboxes i j).departed;
  }

  received_receivers : (s : State T U) → IsWellFormed s → (p q n : ℕ) (box : Mailbox)
      → BorrowsFirst (s.mailboxes p q) n box
      → (r : ℕ) (z : Subscriber) → s.subscribers r ≡ Some z
      → SubscriberIsWellFormed
      (with_receivers s s.subscribers (put_at s.mailboxes p (put_at (s.mailboxes p) q box)) s.warnings) r z
  received_receivers s w p q n box borrows r z e =
      subscriber_keeps s s.subscribers (put_at s.mailboxes p (put_at (s.mailboxes p) q box)) s.warnings r z
      (w.subscribers r z e)
      (λ i.
      at_each_mailbox s.mailboxes p q box (λ i j m. has_numbers (s.mailboxes i j) ≡ true → has_numbers m ≡ true) i r
      (λ _. (has_numbers-borrowed n (s.mailboxes p q) box borrows).1) (λ k. k))
      (λ i.
      at_each_mailbox s.mailboxes p q box (λ i j m. has_borrows (s.mailboxes i j) ≡ true → has_borrows m ≡ true) i r
      (λ _. has_borrows-borrowed n (s.mailboxes p q) box borrows) (λ k. k))

  -- Taking a sample keeps a state well-formed.
  pub take_sample_keeps : (s : State T U) → IsWellFormed s
      → (q : ℕ) (y : Subscriber) (s' : State T U) (result : ReceiveResult) → s.subscribers q ≡ Some y
      → TakeSample s q y s' result → IsWellFormed s'
  take_sample_keeps s w q y s' (Got_sample p n) here h =
      subst IsWellFormed (sym h.3)
      (receivers_keep s s.subscribers (put_at s.mailboxes p (put_at (s.mailboxes p) q h.1)) s.warnings w
      (received_agrees s w p q n y h.1 here h.0 h.2) (received_receivers s w p q n h.1 h.2))
  take_sample_keeps s w q y s' No_sample here h = subst IsWellFormed (sym h.1) w
  take_sample_keeps s w q y s' (Receive_error e) here h = subst IsWellFormed (sym h.3) w

  -- A receive keeps a state well-formed.
  pub receive_keeps : (environment : Environment) (s : State T U) (q : ℕ) (s' : State T U) (result : ReceiveResult)
      → IsWellFormed s → Receive environment s q s' result → IsWellFormed s'
  receive_keeps environment s q s' result w h =
      let mid : IsWellFormed h.0 = update_subscriber_keeps environment s q h.0 h.1 w h.2 in
      by_option (IsWellFormed s') h.1 _ _ h.3
      (λ _ k. by_option (IsWellFormed s') ((h.0).subscribers q) _ _ k (λ _ v. absurd v)
      (λ y here k. take_sample_keeps h.0 mid q y s' result here k))
      (λ e _ k. subst IsWellFormed (sym k.0) mid)

  -- No counter falls at a receive.
  pub receive_advances : (environment : Environment) (s : State T U) (q : ℕ) (s' : State T U) (result : ReceiveResult)
      → Receive environment s q s' result → Advances s s'
  receive_advances environment s q s' result =
      receive_by_steps Advances advance environment s q s' result (update_subscriber_advances environment s q)
      (λ t p box. record { config = refl; next_port = omega arith; next_message = omega arith })

  -- The question whether anything waits keeps a state well-formed.
  pub has_samples_keeps : (environment : Environment) (s : State T U) (q : ℕ) (s' : State T U)
      (failure : Option ConnectionFailure) (result : Bool)
      → IsWellFormed s → HasSamples environment s q s' failure result → IsWellFormed s'
  has_samples_keeps environment s q s' failure result w h = update_subscriber_keeps environment s q s' failure w h.0

  -- No counter falls at the question whether anything waits.
  pub has_samples_advances : (environment : Environment) (s : State T U) (q : ℕ) (s' : State T U)
      (failure : Option ConnectionFailure) (result : Bool)
      → HasSamples environment s q s' failure result → Advances s s'
  has_samples_advances environment s q s' failure result h = update_subscriber_advances environment s q s' failure h.0
