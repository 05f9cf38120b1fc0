-- One command keeps publishers independent, and subscribers open but for the one looked at.
use Rattle.std.proofs.Common.{◌≡◌, ℕ, Bool, true, false, cond, ◌&&◌, List, refl, sym, ap, subst, ◌∙◌, Option, None}
use Rattle.std.proofs.Common.{Some, eqb}
use Rattle.std.specs.Prelude.{◌≢◌, slice_get}
use Rattle.std.specs.Option.{MatchOption, option_map}
use Rattle.std.proofs.lemmas.Bool.{eqb-true, true≢false}
use Rattle.iox2_machine.specs.machine.Limits.{worst_case}
use Rattle.iox2_machine.specs.machine.Ports.{slots_for}
use Rattle.iox2_machine.specs.machine.Records.{Entry, Publisher, PublisherSettings, Handler, Fixed}
use Rattle.iox2_machine.specs.machine.State.{State, Messages}
use Rattle.iox2_machine.specs.machine.Loans.{GrantLoan, is_static, is_initialized, initialized}
use Rattle.iox2_machine.specs.machine.Sends.{SendResult, Delivered_to, Blocked_send, Send_error}
use Rattle.iox2_machine.specs.machine.Receives.{ReceiveResult, Got_sample, No_sample, Receive_error}
use Rattle.iox2_machine.specs.declared.service_config.ServiceConfig.{ServiceConfig}
use Rattle.iox2_machine.specs.declared.backpressure.BackpressureAction.{BackpressureAction}
use Rattle.iox2_machine.specs.declared.errors.ConnectionFailure.{ConnectionFailure}
use Rattle.iox2_machine.specs.declared.errors.LoanError.{LoanError}
use Rattle.iox2_machine.specs.declared.errors.SendError.TheVariants.{ConnectionBrokenSinceSenderNoLongerExists}
use Rattle.iox2_machine.specs.declared.errors.SendError.TheVariants.{ConnectionCorrupted, LoanError as NotLoaned}
use Rattle.iox2_machine.specs.declared.errors.SendError.TheVariants.{ConnectionError, UnableToDeliver, InternalError}
use Rattle.iox2_machine.specs.declared.errors.PublisherCreateError.{PublisherCreateError}
use Rattle.iox2_machine.specs.declared.errors.SubscriberCreateError.{SubscriberCreateError}
use Rattle.iox2_laws.proofs.Cases.{by_option}
use Rattle.iox2_machine.specs.machine.Environments.{ample_memory}
use Rattle.iox2_commands.specs.Isolation.{IsIndependent, HasBorrowedNothing, makes_independent_publisher, never_waits}
use Rattle.iox2_commands.specs.Outcomes.{Handle, Subscriber_handle, Outcome, replied, done, skipped}
use Rattle.iox2_commands.specs.Step.{Step, after_publisher, after_subscriber, after_loan, after_send, after_retry}
use Rattle.iox2_commands.specs.Step.{after_receive, after_update, after_question, publisher_settings, unblocked_at}
use Rattle.iox2_commands.specs.Step.{subscriber_at, loan_at, unwritten_at, written_at, with_cell_at, sendable_at}
use Rattle.iox2_commands.specs.Step.{blocked_at, sample_at, if_single_units, if_fixed_size, if_dynamic, if_channel}
use Rattle.iox2_commands.specs.declared.command.Command.{Command}
use Rattle.iox2_commands.specs.declared.new_publisher.NewPublisher.{NewPublisher}
use Rattle.iox2_commands.specs.declared.command.Command.TheVariants.{Nothing, CreatePublisher as PublisherCommand}
use Rattle.iox2_commands.specs.declared.command.Command.TheVariants.{CreateSubscriber as SubscriberCommand, LoanUninit}
use Rattle.iox2_commands.specs.declared.command.Command.TheVariants.{Loan as LoanDefault, LoanSlice, WriteCell}
use Rattle.iox2_commands.specs.declared.command.Command.TheVariants.{WriteAll, AssumeInit, WriteHeader, SetPayload}
use Rattle.iox2_commands.specs.declared.command.Command.TheVariants.{Send as SendLoan, SendCopy, Discard, Retry, GiveUp}
use Rattle.iox2_commands.specs.declared.command.Command.TheVariants.{Update, Receive, HasSamples, Read, ReadHeader}
use Rattle.iox2_commands.specs.declared.command.Command.TheVariants.{ReadUserHeader, Release, Close}
use Rattle.iox2_commands.specs.declared.command.Command.TheVariants.{SendToConnection as SendLoanTo, ConnectionPlace}
use Rattle.iox2_commands.specs.declared.command.Command.TheVariants.{PublisherChannel, SubscriberChannel}
use Rattle.iox2_commands.specs.declared.reply.Reply.TheVariants.{PublisherMade, Unwritten}
use Rattle.iox2_commands.proofs.AlikeNamed.{subscriber_handle_at}
use Rattle.iox2_commands.proofs.AlikeIndependent.{StaysOpen, AreIndependentSettings, update_publisher_open}
use Rattle.iox2_commands.proofs.AlikeIndependent.{update_subscriber_open, receive_open, released_open, with_loan_open}
use Rattle.iox2_commands.proofs.AlikeIndependent.{grant_loan_open, grant_written_loan_open, loan_discarded_open}
use Rattle.iox2_commands.proofs.AlikeIndependent.{send_open, create_publisher_open, create_subscriber_open}
use Rattle.iox2_commands.proofs.AlikeIndependent.{publisher_closed_open, subscriber_closed_open, connection_open}
use Rattle.iox2_commands.proofs.AlikeIndependent.{channels_open}
use Rattle.iox2_commands.proofs.AlikeSteps.{open_of, none_blocked}
use Rattle.iox2_commands.proofs.ChannelOutcomes.{on_channels}

-- what a command says of an independent publisher
independent_settings : (c : ServiceConfig) (asked : NewPublisher)
    → (is_static asked.allocation
    && eqb (slots_for c (publisher_settings c.variant asked)) (worst_case c asked.loans)
    && never_waits c asked.strategy
    (option_map {U = Handler BackpressureAction} (λ action. Fixed action) asked.backpressure)) ≡ true
    → AreIndependentSettings c (publisher_settings c.variant asked)
independent_settings c asked h =
    let given : PublisherSettings = publisher_settings c.variant asked in
    let parts : (is_static asked.allocation ≡ true) × (eqb (slots_for c given) (worst_case c asked.loans) ≡ true)
    × (never_waits c asked.strategy (option_map {U = Handler BackpressureAction}
    (λ action. Fixed action) asked.backpressure) ≡ true) = three _ _ _ h in
    record {
      static = parts.0;
      slots = eqb-true (slots_for c given) (worst_case c asked.loans) parts.1;
      never_waits = parts.2;
    }
  where
    three : (x y z : Bool) → (x && y && z) ≡ true → (x ≡ true) × (y ≡ true) × (z ≡ true)
    three true true true h = (refl, refl, refl)
    three true true false h = absurd (true≢false (sym h))
    three true false z h = absurd (true≢false (sym h))
    three false y z h = absurd (true≢false (sym h))

module _ {T U : Type 0} where
  -- ---- the state of an outcome

  pub state_publisher : (s' : State T U) (n : ℕ) (r : Option PublisherCreateError) → (after_publisher s' n r).state ≡ s'
  state_publisher s' n None = refl
  state_publisher s' n (Some e) = refl

  pub state_subscriber : (s' : State T U) (n : ℕ) (r : Option SubscriberCreateError)
      → (after_subscriber s' n r).state ≡ s'
  state_subscriber s' n None = refl
  state_subscriber s' n (Some e) = refl

  pub state_loan : (s' : State T U) (n : ℕ) (r : Option LoanError) → (after_loan s' n r).state ≡ s'
  state_loan s' n None = refl
  state_loan s' n (Some e) = refl

  pub state_update : (s' : State T U) (r : Option ConnectionFailure) → (after_update s' r).state ≡ s'
  state_update s' None = refl
  state_update s' (Some e) = refl

  pub state_question : (s' : State T U) (r : Option ConnectionFailure) (has : Bool)
      → (after_question s' r has).state ≡ s'
  state_question s' None has = refl
  state_question s' (Some e) has = refl

  pub state_receive : (s' : State T U) (q : ℕ) (r : ReceiveResult) → (after_receive s' q r).state ≡ s'
  state_receive s' q (Got_sample p n) = refl
  state_receive s' q No_sample = refl
  state_receive s' q (Receive_error e) = refl

  pub state_retry : (s' : State T U) (r : SendResult) → (after_retry s' r).state ≡ s'
  state_retry s' (Delivered_to count) = refl
  state_retry s' Blocked_send = refl
  state_retry s' (Send_error e) = refl

  pub state_send : (s' : State T U) (p n : ℕ) (entry : Entry T U) (r : SendResult)
      → (after_send s' p n entry r).state ≡ s'
  state_send s' p n entry (Delivered_to count) = refl
  state_send s' p n entry Blocked_send = refl
  state_send s' p n entry (Send_error UnableToDeliver) = refl
  state_send s' p n entry (Send_error ConnectionBrokenSinceSenderNoLongerExists) = refl
  state_send s' p n entry (Send_error ConnectionCorrupted) = refl
  state_send s' p n entry (Send_error (NotLoaned e)) = refl
  state_send s' p n entry (Send_error (ConnectionError e)) = refl
  state_send s' p n entry (Send_error InternalError) = refl

  module _ (q : ℕ) (default_value : T) (default_header : U) (m : Messages T U) (s : State T U) (handles : List Handle)
      (independent : IsIndependent q s) where
    abbrev Steps : Command T U → Outcome T U → Type 0
    Steps = Step ample_memory default_value default_header m s handles

    kept : StaysOpen q s
    kept = open_of q s independent

    by : (o x : Outcome T U) (s' : State T U) → o ≡ x → x.state ≡ s' → StaysOpen q s' → StaysOpen q o.state
    by o x s' e f k = subst (StaysOpen q) (sym (ap (λ (v : Outcome T U). v.state) e ∙ f)) k

    live : {A : Type 0} (o : Outcome T U) (named : Option A) (Then : A → Type 0)
        → MatchOption named (o ≡ skipped s) Then
        → ((x : A) → named ≡ Some x → Then x → StaysOpen q o.state) → StaysOpen q o.state
    live o named Then h go = by_option (StaysOpen q o.state) named _ _ h (λ _ e. by o (skipped s) s e refl kept) go

    loan_open : (checks_length : Bool) (len : ℕ) (named : Option (ℕ × Publisher)) (o : Outcome T U)
        → MatchOption (if_single_units s named) (o ≡ skipped s) (λ (publisher : ℕ × Publisher).
        (s' : State T U) × (refusal : Option LoanError) × GrantLoan ample_memory default_header checks_length len s
        publisher.0 s' refusal × (o ≡ after_loan s' s.next_message refusal))
        → StaysOpen q o.state
    loan_open checks_length len named o h = live o (if_single_units s named) _ h (λ publisher _ k.
        by o _ k.0 k.3 (state_loan k.0 s.next_message k.1)
        (grant_loan_open q default_header checks_length len s k.0 publisher.0 k.1 k.2 kept))

    -- The state after a command is independent, its well-formedness apart.
    pub step_open : (command : Command T U) (o : Outcome T U)
        → ((p : ℕ) → o.reply ≡ PublisherMade p → makes_independent_publisher s.config command ≡ true)
        → ((of r : ℕ) → r ≢ q → command ≡ Close of → slice_get handles of ≡ Some (Subscriber_handle r)
        → HasBorrowedNothing s r) → Steps command o → StaysOpen q o.state
    step_open Nothing o makes closes h = by o (done s) s h refl kept
    step_open (PublisherCommand asked) o makes closes h =
        by o _ h.0 h.3 (state_publisher h.0 s.next_port h.1) (create_publisher_open q s h.0 _ h.1
        (λ e. independent_settings s.config asked
        (makes s.next_port (ap (λ (v : Outcome T U). v.reply) h.3
        ∙ ap (λ (v : Option PublisherCreateError). (after_publisher h.0 s.next_port v).reply) e)))
        h.2 kept)
    step_open (SubscriberCommand buffer degradation) o makes closes h =
        by o _ h.0 h.3 (state_subscriber h.0 s.next_port h.1) (create_subscriber_open q s h.0 _ h.1 h.2 kept)
    step_open (LoanUninit of) o makes closes h = loan_open false 1 (if_fixed_size s (unblocked_at s handles of)) o h
    step_open (LoanDefault of) o makes closes h =
        live o (if_single_units s (if_fixed_size s (unblocked_at s handles of))) _ h (λ publisher _ k.
        by o _ k.0 k.3 (state_loan k.0 s.next_message k.1)
        (grant_written_loan_open q default_value default_header false 1 s k.0 publisher.0 k.1 k.2 kept))
    step_open (LoanSlice of len) o makes closes h = loan_open true len (if_dynamic s (unblocked_at s handles of)) o h
    step_open (WriteCell of at value) o makes closes h =
        live o (with_cell_at at (unwritten_at s handles of)) _ h
        (λ loan _ k. by o _ _ k refl (with_loan_open q s loan.0 _ kept))
    step_open (WriteAll of value) o makes closes h =
        live o (unwritten_at s handles of) _ h (λ loan _ k. by o _ _ k refl (with_loan_open q s loan.0 _ kept))
    step_open (AssumeInit of) o makes closes h =
        live o (unwritten_at s handles of) _ h (λ loan _ k.
        subst (λ (v : Outcome T U). StaysOpen q v.state) (sym k)
        (elim (is_initialized loan.1) as (λ c.
        StaysOpen q (cond c (done (initialized s loan.0 loan.1)) (replied Unwritten s)).state)
        [ true ↦ with_loan_open q s loan.0 _ kept | false ↦ kept ]))
    step_open (WriteHeader of value) o makes closes h =
        live o (loan_at s handles of) _ h (λ loan _ k. by o _ _ k refl (with_loan_open q s loan.0 _ kept))
    step_open (SetPayload of at value) o makes closes h =
        live o (with_cell_at at (written_at s handles of)) _ h
        (λ loan _ k. by o _ _ k refl (with_loan_open q s loan.0 _ kept))
    step_open (SendLoan of) o makes closes h =
        live o (sendable_at s handles of) _ h
        (λ loan _ k. by o _ k.0 k.3 (state_send k.0 _ _ _ k.1) (send_open q s k.0 loan.0 loan.1 k.1 k.2 kept))
    step_open (SendLoanTo of channel place) o makes closes h =
        live o (if_channel s channel (sendable_at s handles of)) _ h (λ loan _ k.
        by o _ k.0 k.3 (state_send k.0 _ _ _ k.1) (connection_open q s k.0 loan.0 loan.1 channel place k.1 k.2 kept))
    step_open (SendCopy of value) o makes closes h =
        live o (if_single_units s (if_fixed_size s (unblocked_at s handles of))) _ h (λ publisher _ k.
        let mid : StaysOpen q k.0 =
        grant_written_loan_open q value default_header false 1 s k.0 publisher.0 k.1 k.2 kept in
        by_option (StaysOpen q o.state) k.1 _ _ k.3
        (λ _ j. by_option (StaysOpen q o.state) ((k.0).loans s.next_message) _ _ j (λ _ v. absurd v)
        (λ loan _ j. by o _ j.0 j.3 (state_send j.0 _ _ _ j.1) (send_open q k.0 j.0 s.next_message loan j.1 j.2 mid)))
        (λ e _ j. by o _ k.0 j refl mid))
    step_open (Discard of) o makes closes h =
        live o (loan_at s handles of) _ h (λ loan _ k. by o _ _ k refl (loan_discarded_open q s loan.0 loan.1 kept))
    step_open (Retry of elapsed) o makes closes h =
        live o (blocked_at s handles of) _ h (λ named e _. absurd (none_blocked q s handles of named independent e))
    step_open (GiveUp of) o makes closes h =
        live o (blocked_at s handles of) _ h (λ named e _. absurd (none_blocked q s handles of named independent e))
    step_open (Update of) o makes closes h =
        by_option (StaysOpen q o.state) (unblocked_at s handles of) _ _ h
        (λ _ j. live o (subscriber_at s handles of) _ j
        (λ subscriber _ k. by o _ k.0 k.3 (state_update k.0 k.1)
        (update_subscriber_open q ample_memory s k.0 subscriber.0 k.1 k.2 kept)))
        (λ publisher _ k.
        by o _ k.0 k.3 (state_update k.0 k.1) (update_publisher_open q s k.0 publisher.0 k.1 k.2 kept))
    step_open (Receive of) o makes closes h =
        live o (if_single_units s (subscriber_at s handles of)) _ h
        (λ subscriber _ k. by o _ k.0 k.3 (state_receive k.0 subscriber.0 k.1)
        (receive_open q ample_memory s k.0 subscriber.0 k.1 k.2 kept))
    step_open (HasSamples of) o makes closes h =
        live o (subscriber_at s handles of) _ h (λ subscriber _ k. by o _ k.0 k.4 (state_question k.0 k.1 k.2)
        (update_subscriber_open q ample_memory s k.0 subscriber.0 k.1 (k.3).0 kept))
    step_open (Read of at) o makes closes h =
        by_option (StaysOpen q o.state) (sample_at s handles of) _ _ h
        (λ _ j. live o (with_cell_at at (loan_at s handles of)) _ j (λ loan _ k.
        by_option (StaysOpen q o.state) (slice_get (loan.1).cells at) _ _ k (λ _ v. absurd v)
        (λ cell _ e. by o _ s e refl kept)))
        (λ sample _ k. by_option (StaysOpen q o.state) (m sample.2) _ _ k (λ _ v. absurd v)
        (λ entry _ j. live o (slice_get entry.values at) _ j (λ value _ e. by o _ s e refl kept)))
    step_open (ReadHeader of) o makes closes h =
        by_option (StaysOpen q o.state) (sample_at s handles of) _ _ h
        (λ _ j. live o (loan_at s handles of) _ j (λ loan _ e. by o _ s e refl kept))
        (λ sample _ k.
        by_option (StaysOpen q o.state) (m sample.2) _ _ k (λ _ v. absurd v) (λ entry _ e. by o _ s e refl kept))
    step_open (ReadUserHeader of) o makes closes h =
        by_option (StaysOpen q o.state) (sample_at s handles of) _ _ h
        (λ _ j. live o (loan_at s handles of) _ j (λ loan _ e. by o _ s e refl kept))
        (λ sample _ k.
        by_option (StaysOpen q o.state) (m sample.2) _ _ k (λ _ v. absurd v) (λ entry _ e. by o _ s e refl kept))
    step_open (Release of) o makes closes h =
        live o (sample_at s handles of) _ h
        (λ sample _ k. by o _ _ k refl (released_open q s sample.0 sample.1 sample.2 kept))
    step_open (Close of) o makes closes h =
        by_option (StaysOpen q o.state) (unblocked_at s handles of) _ _ h
        (λ _ j. live o (subscriber_at s handles of) _ j (λ subscriber e k.
        by o _ _ k refl (subscriber_closed_open q s subscriber.0 subscriber.1
        (λ apart. closes of subscriber.0 apart refl (subscriber_handle_at 0 s handles of subscriber e)) kept)))
        (λ publisher _ k. by o _ _ k refl (publisher_closed_open q s publisher.0 publisher.1 kept))
    step_open (ConnectionPlace of receiver) o makes closes h =
        channels_open q s o (on_channels ample_memory default_value default_header m s handles
        (ConnectionPlace of receiver) o refl h) kept
    step_open (PublisherChannel of channel place call) o makes closes h =
        channels_open q s o (on_channels ample_memory default_value default_header m s handles
        (PublisherChannel of channel place call) o refl h) kept
    step_open (SubscriberChannel of channel call) o makes closes h =
        channels_open q s o (on_channels ample_memory default_value default_header m s handles
        (SubscriberChannel of channel call) o refl h) kept
