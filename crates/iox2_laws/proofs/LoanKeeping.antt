-- What becomes of the loans in users' hands: no operation puts one there but a grant, and a send takes its loan away.
use Rattle.std.proofs.Common.{◌≡◌, ◌⊎◌, inl, inr, ℕ, ◌+◌, ◌≤◌, Bool, false, List, drop, refl, sym, ap, subst, ◌∙◌}
use Rattle.std.proofs.Common.{le_refl, le_trans, ⊎_elim, Option, None, Some}
use Rattle.std.specs.declared.time.Duration.{Duration}
use Rattle.std.proofs.lemmas.Bool.{cond_both}
use Rattle.iox2_machine.specs.machine.Numbers.{put_at}
use Rattle.iox2_machine.specs.machine.Records.{Loan, Publisher, Subscriber, PublisherSettings, SubscriberSettings}
use Rattle.iox2_machine.specs.machine.Records.{Environment, BlockedSend}
use Rattle.iox2_machine.specs.machine.State.{State, with_loan}
use Rattle.iox2_machine.specs.machine.Delivery.{no_time}
use Rattle.iox2_machine.specs.machine.PublisherUpdate.{UpdatePublisher}
use Rattle.iox2_machine.specs.machine.SubscriberUpdate.{UpdateSubscriber}
use Rattle.iox2_machine.specs.machine.Loans.{loan_granted, GrantLoan, written, loan_discarded}
use Rattle.iox2_machine.specs.machine.SingleCalls.{GrantWrittenLoan}
use Rattle.iox2_machine.specs.machine.Sends.{SendResult, published, more_retries, DeliverAndConclude, Send, Retry}
use Rattle.iox2_machine.specs.machine.Sends.{GiveUp}
use Rattle.iox2_machine.specs.machine.Receives.{ReceiveResult, Receive, HasSamples}
use Rattle.iox2_machine.specs.machine.Releases.{is_unused, place_freed, freed_if_unused, subscriber_pruned, unborrowed}
use Rattle.iox2_machine.specs.machine.Releases.{released}
use Rattle.iox2_machine.specs.machine.Ports.{CreatePublisher, CreateSubscriber, subscriber_shut, publisher_closed}
use Rattle.iox2_machine.specs.machine.Ports.{subscriber_closed}
use Rattle.iox2_machine.specs.declared.errors.ConnectionFailure.{ConnectionFailure}
use Rattle.iox2_machine.specs.declared.errors.LoanError.{LoanError}
use Rattle.iox2_machine.specs.declared.errors.PublisherCreateError.{PublisherCreateError}
use Rattle.iox2_machine.specs.declared.errors.SubscriberCreateError.{SubscriberCreateError}
use Rattle.iox2_laws.specs.Sendings.{sending}
use Rattle.iox2_laws.specs.Laws.{Advances}
use Rattle.iox2_laws.proofs.Cases.{by_option}
use Rattle.iox2_laws.proofs.CallCases.{grant_cases}
use Rattle.iox2_laws.proofs.OperationWalks.{IsPreorder, publisher_update_by_steps, subscriber_update_by_steps}
use Rattle.iox2_laws.proofs.OperationWalks.{receive_by_steps, create_publisher_by_steps, create_subscriber_by_steps}
use Rattle.iox2_laws.proofs.OperationWalks.{delivery_by_steps}
use Rattle.iox2_laws.proofs.Puts.{put_at-same, found_put, found_removed}
use Rattle.iox2_laws.proofs.LoanLaws.{grant_loan_advances}

-- No loan appears but under a number that wasn't given out yet.
abbrev pub LoansFollow : {T U : Type 0} → State T U → State T U → Type 0
LoansFollow {T} {U} s s' =
    (n : ℕ) (l' : Loan T U) → s'.loans n ≡ Some l' → ((l : Loan T U) × (s.loans n ≡ Some l)) ⊎ (s.next_message ≤ n)

module _ {T U : Type 0} where
  -- ---- from loans to loans

  -- Where the loans stay the same, none appears.
  pub same_loans_follow : (s s' : State T U) → s'.loans ≡ s.loans → LoansFollow s s'
  same_loans_follow s s' same n l' e = inl (l', sym (ap (λ (f : ℕ → Option (Loan T U)). f n) same) ∙ e)

  -- The loans stay the same.
  abbrev SameLoans : State T U → State T U → Type 0
  SameLoans s s' = s'.loans ≡ s.loans

  loans_stay : IsPreorder SameLoans
  loans_stay = record { itself = λ s. refl; trans = λ a b c h k. k ∙ h }

  -- Where one loan leaves, none appears.
  pub removed_loans_follow : (s s' : State T U) (k : ℕ) → s'.loans ≡ put_at s.loans k None → LoansFollow s s'
  removed_loans_follow s s' k same n l' e =
      found_removed s.loans k n l' (((l : Loan T U) × (s.loans n ≡ Some l)) ⊎ (s.next_message ≤ n))
      (sym (ap (λ (f : ℕ → Option (Loan T U)). f n) same) ∙ e) (λ _ old. inl (l', old))

  -- Where no loan appears in the one step nor in the next, none appears in both together.
  pub loans_follow_trans : (a b c : State T U) → a.next_message ≤ b.next_message → LoansFollow a b → LoansFollow b c
      → LoansFollow a c
  loans_follow_trans a b c rises f g n l e =
      ⊎_elim (λ (old : (k : Loan T U) × (b.loans n ≡ Some k)). f n old.0 old.1)
      (λ (new : b.next_message ≤ n). inr (le_trans rises new)) (g n l e)

  -- ---- a loan is granted, changed and given back

  -- A changed loan was one before.
  pub with_loan_follows : (s : State T U) (k : ℕ) (l l' : Loan T U) → s.loans k ≡ Some l
      → LoansFollow s (with_loan s k (Some l'))
  with_loan_follows s k l l' found n a e =
      found_put s.loans k l' (λ i _. ((b : Loan T U) × (s.loans i ≡ Some b)) ⊎ (s.next_message ≤ i)) n a e
      (λ _. inl (l, found)) (λ _ old. inl (a, old))

  -- What was granted has a number that wasn't given out.
  loan_granted_follows : (default_header : U) (s : State T U) (p : ℕ) (x : Publisher) (len segments : ℕ)
      → LoansFollow s (loan_granted default_header s p x len segments)
  loan_granted_follows default_header s p x len segments n a e =
      found_put s.loans s.next_message _ (λ i _. ((b : Loan T U) × (s.loans i ≡ Some b)) ⊎ (s.next_message ≤ i)) n a e
      (λ _. inr (le_refl s.next_message)) (λ _ old. inl (a, old))

  module _ (environment : Environment) (default_header : U) (checks_length : Bool) (len : ℕ) (s : State T U) (p : ℕ)
      (s' : State T U) where
    granted_follows : (x : Publisher) (segments : ℕ) → s' ≡ loan_granted default_header s p x len segments
        → LoansFollow s s'
    granted_follows x segments e =
        subst (LoansFollow s) (sym e) (loan_granted_follows default_header s p x len segments)

    refused_follows : s' ≡ s → LoansFollow s s'
    refused_follows e = same_loans_follow s s' (ap (λ (t : State T U). t.loans) e)

    -- A grant's loan has a number that wasn't given out, and no other loan appears.
    pub grant_loan_follows : (refusal : Option LoanError)
        → GrantLoan environment default_header checks_length len s p s' refusal → LoansFollow s s'
    grant_loan_follows refusal h =
        grant_cases environment default_header checks_length len s p s' (LoansFollow s s') refusal h
        (λ e same _. refused_follows same) (λ x _ grants. granted_follows x grants.0 grants.4)

  -- So has the loan of a grant with every cell written.
  pub grant_written_loan_follows : (environment : Environment) (default_value : T) (default_header : U)
      (checks_length : Bool) (len : ℕ) (s : State T U) (p : ℕ)
      (s' : State T U) (refusal : Option LoanError)
      → GrantWrittenLoan environment default_value default_header checks_length len s p s' refusal → LoansFollow s s'
  grant_written_loan_follows environment default_value default_header checks_length len s p s' refusal h =
      let granted : LoansFollow s h.0 =
      grant_loan_follows environment default_header checks_length len s p h.0 refusal h.1 in
      let rises : Advances s h.0 =
      grant_loan_advances environment default_header checks_length len s p h.0 refusal h.1 in
      by_option (LoansFollow s s') refusal _ _ h.2
      (λ _ k. by_option (LoansFollow s s') ((h.0).loans s.next_message) _ _ k (λ _ v. absurd v)
      (λ l found e. subst (LoansFollow s) (sym e)
      (loans_follow_trans s h.0
      (with_loan h.0 s.next_message (Some (written l default_value))) rises.next_message granted
      (with_loan_follows h.0 s.next_message l (written l default_value) found))))
      (λ e _ k. subst (LoansFollow s) (sym k) granted)

  -- A loan that is given back leaves its user's hands, and no other appears.
  pub loan_discarded_follows : (s : State T U) (n : ℕ) (l : Loan T U) → LoansFollow s (loan_discarded s n l)
  loan_discarded_follows s n l = removed_loans_follow s (loan_discarded s n l) n refl

  -- ---- updates

  -- A publisher's update leaves the loans.
  pub update_publisher_loans : (environment : Environment) (s : State T U) (p : ℕ) (s' : State T U)
      (failure : Option ConnectionFailure)
      → UpdatePublisher environment s p s' failure → s'.loans ≡ s.loans
  update_publisher_loans environment s p s' failure =
      publisher_update_by_steps SameLoans loans_stay environment s p s' failure (λ x here side _. refl)

  -- A subscriber's update leaves the loans.
  pub update_subscriber_loans : (environment : Environment) (s : State T U) (q : ℕ) (s' : State T U)
      (failure : Option ConnectionFailure)
      → UpdateSubscriber environment s q s' failure → s'.loans ≡ s.loans
  update_subscriber_loans environment s q s' failure =
      subscriber_update_by_steps SameLoans loans_stay environment s q s' failure (λ y here side _. refl)

  -- No loan appears at a publisher's update.
  pub update_publisher_follows : (environment : Environment) (s : State T U) (p : ℕ) (s' : State T U)
      (failure : Option ConnectionFailure)
      → UpdatePublisher environment s p s' failure → LoansFollow s s'
  update_publisher_follows environment s p s' failure h =
      same_loans_follow s s' (update_publisher_loans environment s p s' failure h)

  -- No loan appears at a subscriber's update.
  pub update_subscriber_follows : (environment : Environment) (s : State T U) (q : ℕ) (s' : State T U)
      (failure : Option ConnectionFailure)
      → UpdateSubscriber environment s q s' failure → LoansFollow s s'
  update_subscriber_follows environment s q s' failure h =
      same_loans_follow s s' (update_subscriber_loans environment s q s' failure h)

  -- ---- a receive, a question and a release

  -- A receive leaves the loans.
  pub receive_loans : (environment : Environment) (s : State T U) (q : ℕ) (s' : State T U) (result : ReceiveResult)
      → Receive environment s q s' result → s'.loans ≡ s.loans
  receive_loans environment s q s' result = receive_by_steps SameLoans loans_stay environment s q s' result
      (update_subscriber_loans environment s q) (λ t p box. refl)

  -- The question whether anything waits leaves the loans.
  pub has_samples_loans : (environment : Environment) (s : State T U) (q : ℕ) (s' : State T U)
      (failure : Option ConnectionFailure) (result : Bool)
      → HasSamples environment s q s' failure result → s'.loans ≡ s.loans
  has_samples_loans environment s q s' failure result h = update_subscriber_loans environment s q s' failure h.0

  -- A subscriber that may be gone leaves the loans.
  freed_loans : (s : State T U) (q : ℕ) → (freed_if_unused s q).loans ≡ s.loans
  freed_loans s q =
      cond_both (is_unused s q) (place_freed s q) s (λ (t : State T U). t.loans ≡ s.loans) (λ _. refl) (λ _. refl)

  -- A release leaves the loans.
  pub released_loans : (s : State T U) (p q n : ℕ) → (released s p q n).loans ≡ s.loans
  released_loans s p q n = freed_loans (subscriber_pruned (unborrowed s p q n) q) q

  -- No loan appears at a receive.
  pub receive_follows : (environment : Environment) (s : State T U) (q : ℕ) (s' : State T U) (result : ReceiveResult)
      → Receive environment s q s' result → LoansFollow s s'
  receive_follows environment s q s' result h = same_loans_follow s s' (receive_loans environment s q s' result h)

  -- No loan appears at the question whether anything waits.
  pub has_samples_follows : (environment : Environment) (s : State T U) (q : ℕ) (s' : State T U)
      (failure : Option ConnectionFailure) (result : Bool)
      → HasSamples environment s q s' failure result → LoansFollow s s'
  has_samples_follows environment s q s' failure result h =
      same_loans_follow s s' (has_samples_loans environment s q s' failure result h)

  -- No loan appears at a release.
  pub released_follows : (s : State T U) (p q n : ℕ) → LoansFollow s (released s p q n)
  released_follows s p q n = same_loans_follow s (released s p q n) (released_loans s p q n)

  -- ---- ports

  -- A publisher that is made, or refused, leaves the loans.
  pub create_publisher_loans : (environment : Environment) (s : State T U) (given : PublisherSettings) (s' : State T U)
      (refusal : Option PublisherCreateError)
      → CreatePublisher environment s given s' refusal → s'.loans ≡ s.loans
  create_publisher_loans environment s given s' refusal =
      create_publisher_by_steps SameLoans loans_stay environment s given s' refusal (λ place. refl)
      (update_publisher_loans environment) (λ t w. refl)

  -- A subscriber that is made, or refused, leaves the loans.
  pub create_subscriber_loans : (environment : Environment) (s : State T U) (given : SubscriberSettings)
      (s' : State T U) (refusal : Option SubscriberCreateError)
      → CreateSubscriber environment s given s' refusal → s'.loans ≡ s.loans
  create_subscriber_loans environment s given s' refusal =
      create_subscriber_by_steps SameLoans loans_stay environment s given s' refusal (λ place. refl)
      (update_subscriber_loans environment) (λ t w. refl)

  -- A publisher that is closed leaves the loans: its users keep theirs.
  pub publisher_closed_loans : (s : State T U) (p : ℕ) (x : Publisher) → (publisher_closed s p x).loans ≡ s.loans
  publisher_closed_loans s p x = refl

  -- A subscriber that is closed leaves the loans.
  pub subscriber_closed_loans : (s : State T U) (q : ℕ) (y : Subscriber) → (subscriber_closed s q y).loans ≡ s.loans
  subscriber_closed_loans s q y = freed_loans (subscriber_pruned (subscriber_shut s q y) q) q

  -- No loan appears where a publisher is made.
  pub create_publisher_follows : (environment : Environment) (s : State T U) (given : PublisherSettings)
      (s' : State T U) (refusal : Option PublisherCreateError)
      → CreatePublisher environment s given s' refusal → LoansFollow s s'
  create_publisher_follows environment s given s' refusal h =
      same_loans_follow s s' (create_publisher_loans environment s given s' refusal h)

  -- No loan appears where a subscriber is made.
  pub create_subscriber_follows : (environment : Environment) (s : State T U) (given : SubscriberSettings)
      (s' : State T U) (refusal : Option SubscriberCreateError)
      → CreateSubscriber environment s given s' refusal → LoansFollow s s'
  create_subscriber_follows environment s given s' refusal h =
      same_loans_follow s s' (create_subscriber_loans environment s given s' refusal h)

  -- No loan appears where a publisher is closed.
  pub publisher_closed_follows : (s : State T U) (p : ℕ) (x : Publisher) → LoansFollow s (publisher_closed s p x)
  publisher_closed_follows s p x = same_loans_follow s (publisher_closed s p x) (publisher_closed_loans s p x)

  -- No loan appears where a subscriber is closed.
  pub subscriber_closed_follows : (s : State T U) (q : ℕ) (y : Subscriber) → LoansFollow s (subscriber_closed s q y)
  subscriber_closed_follows s q y = same_loans_follow s (subscriber_closed s q y) (subscriber_closed_loans s q y)

  -- ---- sends

  -- A delivery leaves the loans.
  pub deliver_and_conclude_loans : (environment : Environment) (s : State T U) (p n channel retries : ℕ)
      (elapsed : Duration) (place : ℕ) (ends : List (Option ℕ))
      (count : ℕ) (has_failed : Bool) (s' : State T U) (result : SendResult)
      → DeliverAndConclude environment s p (sending n channel retries place ends count has_failed) elapsed s' result
      → s'.loans ≡ s.loans
  deliver_and_conclude_loans environment s p n channel retries elapsed place ends count has_failed s' result =
      delivery_by_steps SameLoans SameLoans
      (loans_stay.trans) environment s p n channel retries elapsed place ends count has_failed s' result
      (record { delivers = λ a boxes _. refl; ended = λ a _. refl; blocked = λ a b _. refl })

  -- A blocked send that is tried again leaves the loans.
  pub retry_loans : (environment : Environment) (s : State T U) (p : ℕ) (b : BlockedSend) (elapsed : Duration)
      (s' : State T U) (result : SendResult)
      → Retry environment s p b elapsed s' result → s'.loans ≡ s.loans
  retry_loans environment s p b elapsed s' result h =
      deliver_and_conclude_loans environment s p b.message b.channel
      (more_retries b.retries) elapsed b.place b.ends b.count b.has_failed s' result h

  -- A blocked send that is given up leaves the loans.
  pub give_up_loans : (environment : Environment) (s : State T U) (p : ℕ) (b : BlockedSend) (s' : State T U)
      (result : SendResult)
      → GiveUp environment s p b s' result → s'.loans ≡ s.loans
  give_up_loans environment s p b s' result h =
      deliver_and_conclude_loans environment s p b.message b.channel 0 no_time (b.place + 1)
      (drop 1 b.ends) b.count b.has_failed s' result h

  -- A send, refused or not, takes its loan out of its user's hands, and leaves the others.
  pub send_loans : (environment : Environment) (s : State T U) (n : ℕ) (l : Loan T U) (s' : State T U)
      (result : SendResult)
      → Send environment s n l s' result → s'.loans ≡ put_at s.loans n None
  send_loans environment s n l s' result h =
      by_option (s'.loans ≡ put_at s.loans n None) (s.publishers l.publisher) _ _ h
      (λ _ h. ap (λ (t : State T U). t.loans) h.0)
      (λ x _ h.
      let mid : put_at (h.0).loans n None ≡ put_at s.loans n None =
      ap (λ (f : ℕ → Option (Loan T U)). put_at f n None)
      (update_publisher_loans environment s l.publisher h.0 h.1 h.2) in
      by_option (s'.loans ≡ put_at s.loans n None) h.1 _ _ h.3
      (λ _ k.
      by_option (s'.loans ≡ put_at s.loans n None) ((h.0).publishers l.publisher) _ _ k (λ _ v. absurd v) (λ x1 _ k.
      deliver_and_conclude_loans environment
      (published h.0 l.publisher n) l.publisher n 0 0 no_time 0 x1.ends 0 false s' result k ∙ mid))
      (λ e _ k. ap (λ (t : State T U). t.loans) k.0 ∙ mid))

  -- After a send, refused or not, its number is in nobody's hands.
  pub send_unholds : (environment : Environment) (s : State T U) (n : ℕ) (l : Loan T U) (s' : State T U)
      (result : SendResult)
      → Send environment s n l s' result → s'.loans n ≡ None
  send_unholds environment s n l s' result h =
      ap (λ (f : ℕ → Option (Loan T U)). f n) (send_loans environment s n l s' result h) ∙ put_at-same s.loans n None

  -- No loan appears at a send.
  pub send_follows : (environment : Environment) (s : State T U) (n : ℕ) (l : Loan T U) (s' : State T U)
      (result : SendResult)
      → Send environment s n l s' result → LoansFollow s s'
  send_follows environment s n l s' result h = removed_loans_follow s s' n (send_loans environment s n l s' result h)

  -- No loan appears where a blocked send is tried again.
  pub retry_follows : (environment : Environment) (s : State T U) (p : ℕ) (b : BlockedSend) (elapsed : Duration)
      (s' : State T U) (result : SendResult)
      → Retry environment s p b elapsed s' result → LoansFollow s s'
  retry_follows environment s p b elapsed s' result h =
      same_loans_follow s s' (retry_loans environment s p b elapsed s' result h)

  -- No loan appears where a blocked send is given up.
  pub give_up_follows : (environment : Environment) (s : State T U) (p : ℕ) (b : BlockedSend) (s' : State T U)
      (result : SendResult)
      → GiveUp environment s p b s' result → LoansFollow s s'
  give_up_follows environment s p b s' result h = same_loans_follow s s' (give_up_loans environment s p b s' result h)
