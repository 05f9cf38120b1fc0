-- What is borrowed after a step: what was and isn't released by it, and what a receive took.
use Rattle.std.proofs.Common.{◌≡◌, ◌⊎◌, inl, inr, ⊎_elim, ℕ, Bool, true, false, cond, List, [], take, drop, refl, sym}
use Rattle.std.proofs.Common.{ap, subst, ◌∙◌, Option, None, Some}
use Rattle.std.specs.Prelude.{MatchOption, slice_get}
use Rattle.std.specs.declared.time.Duration.{Duration}
use Rattle.std.proofs.lemmas.Bool.{true≢false, cases_eq}
use Rattle.std.proofs.lemmas.Option.{none-some, same_Some}
use Rattle.iox2_machine.specs.machine.Mailbox.{is_borrowed}
use Rattle.iox2_machine.specs.machine.Records.{Loan, Environment}
use Rattle.iox2_machine.specs.machine.State.{State, Messages, channel_buffer, with_loan}
use Rattle.iox2_machine.specs.machine.Delivery.{DeliveryEnd, Complete, Suspended, no_time}
use Rattle.iox2_machine.specs.machine.Loans.{is_initialized, initialized}
use Rattle.iox2_machine.specs.machine.Sends.{Send, SendToConnection, Publish, DeliverAndConclude, ConcludeSend}
use Rattle.iox2_machine.specs.machine.Sends.{SendResult, with_mailboxes, published}
use Rattle.iox2_machine.specs.machine.Receives.{Receive as Receives, ReceiveResult, Got_sample, No_sample}
use Rattle.iox2_machine.specs.machine.Receives.{Receive_error}
use Rattle.iox2_machine.specs.machine.Releases.{released}
use Rattle.iox2_machine.specs.machine.SingleCalls.{GrantWrittenLoan}
use Rattle.iox2_machine.specs.declared.errors.LoanError.{LoanError}
use Rattle.iox2_laws.specs.Sendings.{sending}
use Rattle.iox2_laws.proofs.Cases.{by_option}
use Rattle.iox2_laws.proofs.MailboxLemmas.{borrowed-appended}
use Rattle.iox2_laws.proofs.MailboxWalks.{deliver_keeps}
use Rattle.iox2_laws.proofs.PortsClose.{publisher_closed_borrowed, subscriber_closed_borrowed}
use Rattle.iox2_laws.proofs.PortsStay.{update_publisher_stays, update_subscriber_stays, create_publisher_stays}
use Rattle.iox2_laws.proofs.PortsStay.{create_subscriber_stays, grant_loan_stays}
use Rattle.iox2_laws.proofs.Puts.{at_each}
use Rattle.iox2_laws.proofs.SamplesStay.{IsReceived, received_one, nothing_received, released_now, released_others}
use Rattle.iox2_commands.specs.Outcomes.{Handle, Subscriber_handle, Sample_handle, Outcome, replied, done, skipped}
use Rattle.iox2_commands.specs.Step.{Step, after_receive, unblocked_at, subscriber_at, loan_at, unwritten_at}
use Rattle.iox2_commands.specs.Step.{written_at, with_cell_at, sendable_at, blocked_at, sample_at, if_single_units}
use Rattle.iox2_commands.specs.Step.{if_fixed_size, if_dynamic, if_channel}
use Rattle.iox2_commands.specs.declared.command.Command.{Command}
use Rattle.iox2_commands.specs.declared.command.Command.TheVariants.{Nothing, CreatePublisher as PublisherCommand}
use Rattle.iox2_commands.specs.declared.command.Command.TheVariants.{CreateSubscriber as SubscriberCommand, LoanUninit}
use Rattle.iox2_commands.specs.declared.command.Command.TheVariants.{Loan as LoanDefault, LoanSlice, WriteCell}
use Rattle.iox2_commands.specs.declared.command.Command.TheVariants.{WriteAll, AssumeInit, WriteHeader, SetPayload}
use Rattle.iox2_commands.specs.declared.command.Command.TheVariants.{Send as SendLoan, SendCopy, Discard, Retry, GiveUp}
use Rattle.iox2_commands.specs.declared.command.Command.TheVariants.{Update, Receive, HasSamples, Read, ReadHeader}
use Rattle.iox2_commands.specs.declared.command.Command.TheVariants.{ReadUserHeader, Release, Close}
use Rattle.iox2_commands.specs.declared.command.Command.TheVariants.{SendToConnection as SendLoanTo, ConnectionPlace}
use Rattle.iox2_commands.specs.declared.command.Command.TheVariants.{PublisherChannel, SubscriberChannel}
use Rattle.iox2_commands.specs.declared.reply.Reply.TheVariants.{Unwritten, Sample}
use Rattle.iox2_commands.proofs.Named.{in_single_units}
use Rattle.iox2_commands.proofs.AlikeNamed.{subscriber_handle_at, own_sample_at}
use Rattle.iox2_commands.proofs.AlikeOpen.{state_publisher, state_subscriber, state_loan, state_update, state_question}
use Rattle.iox2_commands.proofs.AlikeOpen.{state_send, state_retry}
use Rattle.iox2_commands.proofs.ReadSteps.{IsSpared}
use Rattle.iox2_commands.proofs.ChannelOutcomes.{OnChannels, on_channels}

-- three numbers are these, or they aren't
same_three : (i p j q k n : ℕ) → ((i ≡ p) × (j ≡ q) × (k ≡ n)) ⊎ (i ≡ p → j ≡ q → k ≡ n → ⊥)
same_three i p j q k n =
    ⊎_elim
    (λ a. ⊎_elim (λ b. ⊎_elim (λ c. inl (a, b, c)) (λ c. inr (λ _ _ e. c e)) (cases_eq k n)) (λ b. inr (λ _ e _. b e))
    (cases_eq j q))
    (λ a. inr (λ e _ _. a e)) (cases_eq i p)

module _ {T U : Type 0} where
  -- The same is borrowed in both states.
  abbrev pub SameBorrows : State T U → State T U → Type 0
  SameBorrows s s' = (p q : ℕ) → (s'.mailboxes p q).borrowed ≡ (s.mailboxes p q).borrowed

  -- ---- sends and loans

  -- a delivery, whether or not it is blocked
  delivered_borrows : (environment : Environment) (s : State T U) (p n channel retries : ℕ) (elapsed : Duration)
      (place : ℕ) (ends : List (Option ℕ)) (count : ℕ) (has_failed : Bool) (s' : State T U) (result : SendResult)
      → DeliverAndConclude environment s p (sending n channel retries place ends count has_failed) elapsed s' result
      → SameBorrows s s'
  delivered_borrows environment s p n channel retries elapsed place ends count has_failed s' result h =
      by_option (SameBorrows s s') (s.publishers p) _ _ h (λ _ v. absurd v) (λ x present h.
      let are : (q : ℕ) → (h.1 q).borrowed ≡ (s.mailboxes p q).borrowed =
      (deliver_keeps (λ i box. box.borrowed ≡ (s.mailboxes p i).borrowed) (λ i box same. same) environment s.config p
      x.backpressure_strategy x.backpressure_handler (channel_buffer s p channel) n channel
      (λ i buffer box same. borrowed-appended channel buffer n box ∙ same) retries elapsed place ends count has_failed
      (s.mailboxes p) h.0 h.1 (λ q. refl) h.2).0 in
      concluded (with_mailboxes s p h.1) h.0 (λ i q. at_each s.mailboxes p h.1
      (λ i row. (row q).borrowed ≡ (s.mailboxes i q).borrowed) i (λ _. are q) (λ _. refl)) h.3)
    where
      concluded : (mid : State T U) (how : DeliveryEnd) → SameBorrows s mid → ConcludeSend mid p n how s' result
          → SameBorrows s s'
      concluded mid (Complete count has_failed) same h = subst (SameBorrows s) (sym h.0) same
      concluded mid (Suspended b) same h = subst (SameBorrows s) (sym h.0) same

  send_borrows : (environment : Environment) (s : State T U) (n : ℕ) (l : Loan T U) (s' : State T U)
      (result : SendResult) → Send environment s n l s' result → SameBorrows s s'
  send_borrows environment s n l s' result h =
      by_option (SameBorrows s s') (s.publishers l.publisher) _ _ h
      (λ _ k. subst (SameBorrows s) (sym k.0) (λ p q. refl))
      (λ x _ k.
      let first : SameBorrows s k.0 = (update_publisher_stays environment s l.publisher k.0 k.1 k.2).borrowed in
      by_option (SameBorrows s s') k.1 _ _ k.3
      (λ _ j. published_borrows k.0 first j)
      (λ e _ j. subst (SameBorrows s) (sym j.0) first))
    where
      published_borrows : (mid : State T U) → SameBorrows s mid → Publish environment mid l.publisher n s' result
          → SameBorrows s s'
      published_borrows mid first h =
          by_option (SameBorrows s s') (mid.publishers l.publisher) _ _ h (λ _ v. absurd v) (λ x _ h.
          λ p q. delivered_borrows environment
          (published mid l.publisher n) l.publisher n 0 0 _ 0 x.ends 0 false s' result h p q ∙ first p q)

  connection_borrows : (environment : Environment) (s : State T U) (n : ℕ) (l : Loan T U) (channel place : ℕ)
      (s' : State T U) (result : SendResult)
      → SendToConnection environment s n l channel place s' result → SameBorrows s s'
  connection_borrows environment s n l channel place s' result h =
      by_option (SameBorrows s s') (s.publishers l.publisher) _ _ h
      (λ _ k. subst (SameBorrows s) (sym k.0) (λ p q. refl))
      (λ x _ k. delivered_borrows environment (with_loan s n None) l.publisher n channel 0 no_time place
      (take 1 (drop place x.ends)) 0 false s' result k)

  written_loan_borrows : (environment : Environment) (value : T) (default_header : U) (checks_length : Bool) (len : ℕ)
      (s : State T U) (p : ℕ) (s' : State T U) (refusal : Option LoanError)
      → GrantWrittenLoan environment value default_header checks_length len s p s' refusal → SameBorrows s s'
  written_loan_borrows environment value default_header checks_length len s p s' refusal h =
      let mid : SameBorrows s h.0 =
      (grant_loan_stays environment default_header checks_length len s p h.0 refusal h.1).borrowed in
      by_option (SameBorrows s s') refusal _ _ h.2
      (λ _ k. by_option (SameBorrows s s') ((h.0).loans s.next_message) _ _ k (λ _ v. absurd v)
      (λ l _ j. subst (SameBorrows s) (sym j) mid))
      (λ e _ k. subst (SameBorrows s) (sym k) mid)

  -- ---- one step

  -- The command may take a message or give one back.
  abbrev takes_or_gives : Command T U → Bool
  takes_or_gives (Receive of) = true
  takes_or_gives (Release of) = true
  takes_or_gives _ = false

  -- The command gives one back.
  abbrev releases : Command T U → Bool
  releases (Release of) = true
  releases _ = false

  -- what is no release spares every sample
  spared : (handles : List Handle) (command : Command T U) (p r n : ℕ) → releases command ≡ false
      → IsSpared handles command p r n
  spared handles command p r n quiet of e named = true≢false (ap releases (sym e) ∙ quiet)

  -- what it gives back
  abbrev released_at : Command T U → ℕ
  released_at (Release of) = of
  released_at _ = 0

  -- What is borrowed after a step was so before and isn't released by it, or it is what a receive took.
  abbrev pub BorrowedAfter : State T U → List Handle → Command T U → Outcome T U → (p r n : ℕ) → Type 0
  BorrowedAfter s handles command o p r n =
      ((is_borrowed n (s.mailboxes p r) ≡ true) × IsSpared handles command p r n)
      ⊎ ((of : ℕ) × (command ≡ Receive of) × (slice_get handles of ≡ Some (Subscriber_handle r))
      × (o.handle ≡ Sample_handle p r n) × (o.reply ≡ Sample p))

  module _ (environment : Environment) (default_value : T) (default_header : U) (m : Messages T U) (s : State T U)
      (handles : List Handle) where
    abbrev Steps : Command T U → Outcome T U → Type 0
    Steps = Step environment default_value default_header m s handles

    by : (o x : Outcome T U) (s' : State T U) → o ≡ x → x.state ≡ s' → SameBorrows s s' → SameBorrows s o.state
    by o x s' e f k = subst (SameBorrows s) (sym (ap (λ (v : Outcome T U). v.state) e ∙ f)) k

    same : (o x : Outcome T U) → o ≡ x → x.state ≡ s → SameBorrows s o.state
    same o x e f = by o x s e f (λ p q. refl)

    live : {A : Type 0} (o : Outcome T U) (named : Option A) (Then : A → Type 0)
        → MatchOption named (o ≡ skipped s) Then
        → ((x : A) → Then x → SameBorrows s o.state) → SameBorrows s o.state
    live o named Then h go =
        by_option (SameBorrows s o.state) named _ _ h (λ _ e. same o (skipped s) e refl) (λ x _ k. go x k)

    -- a read leaves the state
    read_same : (o : Outcome T U) (of at : ℕ) → Steps (Read of at) o → SameBorrows s o.state
    read_same o of at h =
        by_option (SameBorrows s o.state) (sample_at s handles of) _ _ h
        (λ _ j. live o (with_cell_at at (loan_at s handles of)) _ j (λ loan k.
        by_option (SameBorrows s o.state) (slice_get (loan.1).cells at) _ _ k (λ _ v. absurd v)
        (λ cell _ e. same o _ e refl)))
        (λ sample _ k. by_option (SameBorrows s o.state) (m sample.2) _ _ k (λ _ v. absurd v)
        (λ entry _ j. live o (slice_get entry.values at) _ j (λ value e. same o _ e refl)))

    channels_same : (o : Outcome T U) → OnChannels s o → SameBorrows s o.state
    channels_same o k = by o _ _ k.is refl (λ p q. refl)

    -- Each command but a receive and a release leaves what is borrowed.
    step_borrows : (command : Command T U) (o : Outcome T U) → takes_or_gives command ≡ false → Steps command o
        → SameBorrows s o.state
    step_borrows Nothing o k h = same o (done s) h refl
    step_borrows (PublisherCommand asked) o k h =
        by o _ h.0 h.3 (state_publisher h.0 s.next_port h.1)
        (create_publisher_stays environment s _ h.0 h.1 h.2).borrowed
    step_borrows (SubscriberCommand buffer degradation) o k h =
        by o _ h.0 h.3 (state_subscriber h.0 s.next_port h.1)
        (create_subscriber_stays environment s _ h.0 h.1 h.2).borrowed
    step_borrows (LoanUninit of) o k h =
        live o (if_single_units s (if_fixed_size s (unblocked_at s handles of))) _ h (λ publisher j.
        by o _ j.0 j.3 (state_loan j.0 s.next_message j.1)
        (grant_loan_stays environment default_header false 1 s publisher.0 j.0 j.1 j.2).borrowed)
    step_borrows (LoanDefault of) o k h =
        live o (if_single_units s (if_fixed_size s (unblocked_at s handles of))) _ h (λ publisher j.
        by o _ j.0 j.3 (state_loan j.0 s.next_message j.1)
        (written_loan_borrows environment default_value default_header false 1 s publisher.0 j.0 j.1 j.2))
    step_borrows (LoanSlice of len) o k h =
        live o (if_single_units s (if_dynamic s (unblocked_at s handles of))) _ h (λ publisher j.
        by o _ j.0 j.3 (state_loan j.0 s.next_message j.1)
        (grant_loan_stays environment default_header true len s publisher.0 j.0 j.1 j.2).borrowed)
    step_borrows (WriteCell of at value) o k h =
        live o (with_cell_at at (unwritten_at s handles of)) _ h (λ loan j. by o _ _ j refl (λ p q. refl))
    step_borrows (WriteAll of value) o k h =
        live o (unwritten_at s handles of) _ h (λ loan j. by o _ _ j refl (λ p q. refl))
    step_borrows (AssumeInit of) o k h =
        live o (unwritten_at s handles of) _ h (λ loan j.
        subst (λ (v : Outcome T U). SameBorrows s v.state) (sym j)
        (elim (is_initialized loan.1) as (λ c.
        SameBorrows s (cond c (done (initialized s loan.0 loan.1)) (replied Unwritten s)).state)
        [ true ↦ λ p q. refl | false ↦ λ p q. refl ]))
    step_borrows (WriteHeader of value) o k h =
        live o (loan_at s handles of) _ h (λ loan j. by o _ _ j refl (λ p q. refl))
    step_borrows (SetPayload of at value) o k h =
        live o (with_cell_at at (written_at s handles of)) _ h (λ loan j. by o _ _ j refl (λ p q. refl))
    step_borrows (SendLoan of) o k h =
        live o (sendable_at s handles of) _ h
        (λ loan j. by o _ j.0 j.3 (state_send j.0 _ _ _ j.1) (send_borrows environment s loan.0 loan.1 j.0 j.1 j.2))
    step_borrows (SendLoanTo of channel place) o k h =
        live o (if_channel s channel (sendable_at s handles of)) _ h (λ loan j.
        by o _ j.0 j.3 (state_send j.0 _ _ _ j.1)
        (connection_borrows environment s loan.0 loan.1 channel place j.0 j.1 j.2))
    step_borrows (SendCopy of value) o k h =
        live o (if_single_units s (if_fixed_size s (unblocked_at s handles of))) _ h (λ publisher j.
        let mid : SameBorrows s j.0 =
        written_loan_borrows environment value default_header false 1 s publisher.0 j.0 j.1 j.2 in
        by_option (SameBorrows s o.state) j.1 _ _ j.3
        (λ _ i. by_option (SameBorrows s o.state) ((j.0).loans s.next_message) _ _ i (λ _ v. absurd v)
        (λ loan _ i. by o _ i.0 i.3 (state_send i.0 _ _ _ i.1)
        (λ p q. send_borrows environment j.0 s.next_message loan i.0 i.1 i.2 p q ∙ mid p q)))
        (λ e _ i. by o _ j.0 i refl mid))
    step_borrows (Discard of) o k h = live o (loan_at s handles of) _ h (λ loan j. by o _ _ j refl (λ p q. refl))
    step_borrows (Retry of elapsed) o k h =
        live o (blocked_at s handles of) _ h (λ named j.
        by o _ j.0 j.3 (state_retry j.0 j.1) (delivered_borrows environment s named.0 _ _ _ _ _ _ _ _ j.0 j.1 j.2))
    step_borrows (GiveUp of) o k h =
        live o (blocked_at s handles of) _ h (λ named j.
        by o _ j.0 j.3 (state_retry j.0 j.1) (delivered_borrows environment s named.0 _ _ _ _ _ _ _ _ j.0 j.1 j.2))
    step_borrows (Update of) o k h =
        by_option (SameBorrows s o.state) (unblocked_at s handles of) _ _ h
        (λ _ j. live o (subscriber_at s handles of) _ j
        (λ subscriber j. by o _ j.0 j.3 (state_update j.0 j.1)
        (update_subscriber_stays environment s subscriber.0 j.0 j.1 j.2).borrowed))
        (λ publisher _ j. by o _ j.0 j.3 (state_update j.0 j.1)
        (update_publisher_stays environment s publisher.0 j.0 j.1 j.2).borrowed)
    step_borrows (Receive of) o k h = absurd (true≢false k)
    step_borrows (HasSamples of) o k h =
        live o (subscriber_at s handles of) _ h (λ subscriber j.
        by o _ j.0 j.4 (state_question j.0 j.1 j.2)
        (update_subscriber_stays environment s subscriber.0 j.0 j.1 (j.3).0).borrowed)
    step_borrows (Read of at) o k h = read_same o of at h
    step_borrows (ReadHeader of) o k h =
        by_option (SameBorrows s o.state) (sample_at s handles of) _ _ h
        (λ _ j. live o (loan_at s handles of) _ j (λ loan e. same o _ e refl))
        (λ sample _ j.
        by_option (SameBorrows s o.state) (m sample.2) _ _ j (λ _ v. absurd v) (λ entry _ e. same o _ e refl))
    step_borrows (ReadUserHeader of) o k h =
        by_option (SameBorrows s o.state) (sample_at s handles of) _ _ h
        (λ _ j. live o (loan_at s handles of) _ j (λ loan e. same o _ e refl))
        (λ sample _ j.
        by_option (SameBorrows s o.state) (m sample.2) _ _ j (λ _ v. absurd v) (λ entry _ e. same o _ e refl))
    step_borrows (Release of) o k h = absurd (true≢false k)
    step_borrows (Close of) o k h =
        by_option (SameBorrows s o.state) (unblocked_at s handles of) _ _ h
        (λ _ j. live o (subscriber_at s handles of) _ j
        (λ subscriber j. by o _ _ j refl (subscriber_closed_borrowed s subscriber.0 subscriber.1)))
        (λ publisher _ j. by o _ _ j refl (publisher_closed_borrowed s publisher.0 publisher.1))
    step_borrows (ConnectionPlace of receiver) o k h = channels_same o
        (on_channels environment default_value default_header m s handles (ConnectionPlace of receiver) o refl h)
    step_borrows (PublisherChannel of channel place call) o k h =
        channels_same o (on_channels environment default_value default_header m s handles
        (PublisherChannel of channel place call) o refl h)
    step_borrows (SubscriberChannel of channel call) o k h =
        channels_same o (on_channels environment default_value default_header m s handles
        (SubscriberChannel of channel call) o refl h)

    -- ---- what is borrowed afterwards

    module _ (p r n : ℕ) where
      -- where the same is borrowed as before, and nothing is released
      kept : (command : Command T U) (o : Outcome T U) → releases command ≡ false → SameBorrows s o.state
          → is_borrowed n ((o.state).mailboxes p r) ≡ true
          → BorrowedAfter s handles command o p r n
      kept command o quiet stays held =
          inl (
            sym (ap (λ (ns : List ℕ). is_borrowed n (record { waiting = []; borrowed = ns; others = [] }))
                (stays p r)) ∙ held,
            spared handles command p r n quiet,
          )

      -- after a receive
      took : (of : ℕ) (o : Outcome T U) (q : ℕ) (s' : State T U) (result : ReceiveResult)
          → slice_get handles of ≡ Some (Subscriber_handle q)
          → Receives environment s q s' result → o ≡ after_receive s' q result
          → is_borrowed n ((o.state).mailboxes p r) ≡ true
          → BorrowedAfter s handles (Receive of) o p r n
      took of o q s' (Got_sample p' n') named h e held =
          let got : IsReceived environment s q p' n' s' = received_one environment s q p' n' s' h in
          let held' : is_borrowed n (s'.mailboxes p r) ≡ true =
          subst (λ (v : Outcome T U). is_borrowed n ((v.state).mailboxes p r) ≡ true) e held in
          ⊎_elim
          (λ (is : (p ≡ p') × (r ≡ q) × (n ≡ n')). inr (
            of,
            refl,
            named ∙ ap (λ (k : ℕ). Some (Subscriber_handle k)) (sym is.1),
            ap (λ (v : Outcome T U). v.handle) e ∙ (λ i. Sample_handle (sym is.0 i) (sym is.1 i) (sym is.2 i)),
            ap (λ (v : Outcome T U). v.reply) e ∙ ap (λ (k : ℕ). Sample k) (sym is.0),
          ))
          (λ apart. inl (sym (got.others p r n apart) ∙ held', spared handles (Receive of) p r n refl))
          (same_three p p' r q n n')
      took of o q s' No_sample named h e held =
          kept (Receive of) o refl (by o _ s' e refl
          (nothing_received environment s q s' No_sample (λ p n clash. absurd (cc)) h).borrowed) held
      took of o q s' (Receive_error x) named h e held =
          kept (Receive of) o refl (by o _ s' e refl
          (nothing_received environment s q s' (Receive_error x) (λ p n clash. absurd (cc)) h).borrowed) held

      -- a sample that a handle names is found where it is borrowed
      found : (of : ℕ) → slice_get handles of ≡ Some (Sample_handle p r n) → is_borrowed n (s.mailboxes p r) ≡ true
          → sample_at s handles of ≡ Some (p, r, n)
      found of named before =
          own_sample_at r s handles of p n named ∙ ap (λ (b : Bool). cond b (Some (p, r, n)) None) before

      -- after a release
      gave : (of : ℕ) (o : Outcome T U) → Steps (Release of) o → is_borrowed n ((o.state).mailboxes p r) ≡ true
          → BorrowedAfter s handles (Release of) o p r n
      gave of o h held =
          by_option (BorrowedAfter s handles (Release of) o p r n) (sample_at s handles of) _ _ h
          (λ none e.
          let before : is_borrowed n (s.mailboxes p r) ≡ true =
          subst (λ (v : Outcome T U). is_borrowed n ((v.state).mailboxes p r) ≡ true) e held in
          inl (
            before,
            λ at is named. none-some (p, r, n)
                (sym none ∙ found of (ap (λ (v : Command T U). slice_get handles (released_at v)) is ∙ named) before),
          ))
          (λ sample some e.
          let after : State T U = released s sample.0 sample.1 sample.2 in
          let held' : is_borrowed n (after.mailboxes p r) ≡ true =
          subst (λ (v : Outcome T U). is_borrowed n ((v.state).mailboxes p r) ≡ true) e held in
          ⊎_elim
          (λ (is : (p ≡ sample.0) × (r ≡ sample.1) × (n ≡ sample.2)).
          absurd (true≢false (sym held' ∙ (λ i. is_borrowed (is.2 i) (after.mailboxes (is.0 i) (is.1 i)))
          ∙ released_now s sample.0 sample.1 sample.2)))
          (λ apart.
          let before : is_borrowed n (s.mailboxes p r) ≡ true =
          sym (released_others s sample.0 sample.1 sample.2 p r n apart) ∙ held' in
          inl (
            before,
            λ at is named.
                let same : (p, r, n) ≡ sample =
                same_Some (p, r, n) sample
                (sym (found of (ap (λ (v : Command T U). slice_get handles (released_at v)) is ∙ named) before)
                ∙ some) in
                apart (ap (λ (v : ℕ × ℕ × ℕ). v.0) same) (ap (λ (v : ℕ × ℕ × ℕ). v.1) same)
                (ap (λ (v : ℕ × ℕ × ℕ). v.2) same),
          ))
          (same_three p sample.0 r sample.1 n sample.2))

    -- What is borrowed after a step.
    pub borrowed_after : (command : Command T U) (o : Outcome T U) → Steps command o → (p r n : ℕ)
        → is_borrowed n ((o.state).mailboxes p r) ≡ true
        → BorrowedAfter s handles command o p r n
    borrowed_after (Receive of) o h p r n held =
        by_option (BorrowedAfter s handles (Receive of) o p r n) (if_single_units s (subscriber_at s handles of)) _ _ h
        (λ _ e. kept p r n (Receive of) o refl (same o (skipped s) e refl) held)
        (λ subscriber some k.
        took p r n of o subscriber.0 k.0 k.1
        (subscriber_handle_at 0 s handles of subscriber (in_single_units s _ subscriber some)) k.2 k.3 held)
    borrowed_after (Release of) o h p r n held = gave p r n of o h held
    borrowed_after command o h p r n held = kept p r n command o refl (step_borrows command o refl h) held
