-- Each step keeps a well-formed state so, and no counter falls. What is sent is a loan no more.
use Rattle.std.proofs.Common.{◌≡◌, ℕ, ◌<◌, Bool, true, false, List, length, ltb, refl, sym, subst, ◌∙◌, arith, Option}
use Rattle.std.proofs.Common.{None, Some, is_none}
use Rattle.std.specs.Prelude.{MatchOption, slice_get}
use Rattle.std.proofs.lemmas.Bool.{cond_both}
use Rattle.iox2_machine.specs.machine.Records.{Entry, Loan, Publisher, Environment}
use Rattle.iox2_machine.specs.machine.State.{State, Messages, with_loan, is_blocked}
use Rattle.iox2_machine.specs.machine.Loans.{GrantLoan, written, with_cell, is_initialized, initialized, loan_discarded}
use Rattle.iox2_machine.specs.machine.Loans.{entry_of}
use Rattle.iox2_machine.specs.machine.Sends.{Send, SendResult, Delivered_to, Blocked_send, Send_error}
use Rattle.iox2_machine.specs.machine.Receives.{ReceiveResult, Got_sample, No_sample, Receive_error}
use Rattle.iox2_machine.specs.machine.Releases.{released}
use Rattle.iox2_machine.specs.machine.Ports.{publisher_closed, subscriber_closed}
use Rattle.iox2_machine.specs.machine.WellFormed.{IsWellFormed}
use Rattle.iox2_machine.specs.declared.errors.ConnectionFailure.{ConnectionFailure}
use Rattle.iox2_machine.specs.declared.errors.LoanError.{LoanError}
use Rattle.iox2_machine.specs.declared.errors.SendError.TheVariants.{ConnectionBrokenSinceSenderNoLongerExists}
use Rattle.iox2_machine.specs.declared.errors.SendError.TheVariants.{ConnectionCorrupted, LoanError as NotLoaned}
use Rattle.iox2_machine.specs.declared.errors.SendError.TheVariants.{ConnectionError, UnableToDeliver, InternalError}
use Rattle.iox2_machine.specs.declared.errors.PublisherCreateError.{PublisherCreateError}
use Rattle.iox2_machine.specs.declared.errors.SubscriberCreateError.{SubscriberCreateError}
use Rattle.iox2_laws.specs.Laws.{Advances}
use Rattle.iox2_laws.proofs.Cases.{by_option}
use Rattle.iox2_laws.proofs.PublisherUpdates.{update_publisher_keeps, update_publisher_advances}
use Rattle.iox2_laws.proofs.SubscriberUpdates.{update_subscriber_keeps, update_subscriber_advances}
use Rattle.iox2_laws.proofs.ReceiveLaws.{receive_keeps, receive_advances, has_samples_keeps, has_samples_advances}
use Rattle.iox2_laws.proofs.ReleaseLaws.{released_keeps, released_advances}
use Rattle.iox2_laws.proofs.LoanLaws.{grant_loan_keeps, grant_loan_advances, grant_written_loan_keeps}
use Rattle.iox2_laws.proofs.LoanLaws.{grant_written_loan_advances, grant_written_loan_publisher}
use Rattle.iox2_laws.proofs.LoanLaws.{grant_written_loan_unblocked, cell_written_keeps, loan_written_keeps}
use Rattle.iox2_laws.proofs.LoanLaws.{user_header_keeps, initialized_keeps, loan_discarded_keeps}
use Rattle.iox2_laws.proofs.SendLaws.{send_keeps, send_advances, retry_keeps, retry_advances, give_up_keeps}
use Rattle.iox2_laws.proofs.SendLaws.{give_up_advances}
use Rattle.iox2_laws.proofs.PortLaws.{create_publisher_keeps, create_publisher_advances, create_subscriber_keeps}
use Rattle.iox2_laws.proofs.PortLaws.{create_subscriber_advances}
use Rattle.iox2_laws.proofs.CloseLaws.{publisher_closed_keeps, publisher_closed_advances, subscriber_closed_keeps}
use Rattle.iox2_laws.proofs.CloseLaws.{subscriber_closed_advances}
use Rattle.iox2_laws.proofs.LoanKeeping.{LoansFollow, same_loans_follow, loans_follow_trans, with_loan_follows}
use Rattle.iox2_laws.proofs.LoanKeeping.{grant_loan_follows, grant_written_loan_follows, loan_discarded_follows}
use Rattle.iox2_laws.proofs.LoanKeeping.{update_publisher_follows, update_subscriber_follows, receive_follows}
use Rattle.iox2_laws.proofs.LoanKeeping.{has_samples_follows, released_follows}
use Rattle.iox2_laws.proofs.LoanKeeping.{create_publisher_follows, create_subscriber_follows, publisher_closed_follows}
use Rattle.iox2_laws.proofs.LoanKeeping.{subscriber_closed_follows}
use Rattle.iox2_laws.proofs.LoanKeeping.{send_unholds, send_follows, retry_follows, give_up_follows}
use Rattle.iox2_commands.specs.Outcomes.{Handle, No_event, Message_sent, Outcome, replied, done, skipped}
use Rattle.iox2_commands.specs.Step.{Step, after_publisher, after_subscriber, after_loan, after_send, after_retry}
use Rattle.iox2_commands.specs.Step.{after_update, after_receive, after_question, unblocked_at, subscriber_at, loan_at}
use Rattle.iox2_commands.specs.Step.{unwritten_at, written_at, with_cell_at, sendable_at, blocked_at, sample_at}
use Rattle.iox2_commands.specs.Step.{if_single_units, if_fixed_size, if_dynamic, if_channel}
use Rattle.iox2_commands.specs.declared.command.Command.{Command}
use Rattle.iox2_commands.specs.declared.command.Command.TheVariants.{Nothing, CreatePublisher, CreateSubscriber}
use Rattle.iox2_commands.specs.declared.command.Command.TheVariants.{LoanUninit, Loan as LoanDefault, LoanSlice}
use Rattle.iox2_commands.specs.declared.command.Command.TheVariants.{WriteCell, WriteAll, AssumeInit, WriteHeader}
use Rattle.iox2_commands.specs.declared.command.Command.TheVariants.{SetPayload, Send as SendLoan, SendCopy, Discard}
use Rattle.iox2_commands.specs.declared.command.Command.TheVariants.{Retry as RetrySend, GiveUp as GiveUpSend, Update}
use Rattle.iox2_commands.specs.declared.command.Command.TheVariants.{Receive, HasSamples, Read, ReadHeader}
use Rattle.iox2_commands.specs.declared.command.Command.TheVariants.{ReadUserHeader, Release, Close}
use Rattle.iox2_commands.specs.declared.command.Command.TheVariants.{SendToConnection as SendLoanTo, ConnectionPlace}
use Rattle.iox2_commands.specs.declared.command.Command.TheVariants.{PublisherChannel, SubscriberChannel}
use Rattle.iox2_commands.specs.declared.reply.Reply.TheVariants.{Unwritten, SendRefused, Cell, Header, UserHeader}
use Rattle.iox2_machine.specs.machine.Limits.{channel_count}
use Rattle.iox2_laws.proofs.ConnectionSends.{send_to_connection_advances}
use Rattle.iox2_laws.proofs.PortChanges.{with_all_channels_keeps}
use Rattle.iox2_commands.proofs.ChannelOutcomes.{OnChannels, on_channels}
use Rattle.iox2_commands.proofs.ConnectionSendLaws.{send_to_connection_keeps, send_to_connection_unholds}
use Rattle.iox2_commands.proofs.ConnectionSendLaws.{send_to_connection_follows}
use Rattle.iox2_commands.proofs.Named.{unblocked_is, subscriber_is, loan_is, unwritten_is, written_is, sendable_is}
use Rattle.iox2_commands.proofs.Named.{blocked_is, passes, in_single_units, in_fixed_size, has_channel, not_blocked}

-- The outcome's state is well-formed, no counter fell, and no loan appeared but under a number that wasn't given out. A
-- message that was sent has a number that was given out, and no user holds a loan under it.
pub record IsSound {T U : Type 0} (s : State T U) (o : Outcome T U) : Type 0 where
  pub well_formed : IsWellFormed o.state
  pub advances : Advances s o.state
  pub sent_below : (p n : ℕ) (entry : Entry T U) → o.event ≡ Message_sent p n entry → n < (o.state).next_message
  pub loans_follow : LoansFollow s o.state
  pub sent_unheld : (p n : ℕ) (entry : Entry T U) → o.event ≡ Message_sent p n entry → (o.state).loans n ≡ None

module _ {T U : Type 0} where
  pub stays : (s : State T U) → Advances s s
  stays s = record { config = refl; next_port = omega arith; next_message = omega arith }

  pub advances_trans : (s s' s'' : State T U) → Advances s s' → Advances s' s'' → Advances s s''
  advances_trans s s' s'' a b =
      record {
        config = b.config ∙ a.config;
        next_port = omega (arith, a.next_port, b.next_port);
        next_message = omega (arith, a.next_message, b.next_message);
      }

  -- an outcome in which no message is sent
  quiet : (s s' : State T U) (o : Outcome T U) → o.state ≡ s' → o.event ≡ No_event → IsWellFormed s' → Advances s s'
      → LoansFollow s s' → IsSound s o
  quiet s s' o e silent w a f = record {
    well_formed = subst IsWellFormed (sym e) w;
    advances = subst (Advances s) (sym e) a;
    sent_below = λ p n entry g. let k : No_event ≡ Message_sent p n entry = sym silent ∙ g in absurd (cc);
    loans_follow = subst (LoansFollow s) (sym e) f;
    sent_unheld = λ p n entry g. let k : No_event ≡ Message_sent p n entry = sym silent ∙ g in absurd (cc);
  }

  by_equal : (s : State T U) (o o' : Outcome T U) → o ≡ o' → IsSound s o' → IsSound s o
  by_equal s o o' e v = subst (IsSound s) (sym e) v

  nothing_done : (s : State T U) (o : Outcome T U) → IsWellFormed s → o.state ≡ s → o.event ≡ No_event → IsSound s o
  nothing_done s o w e silent = quiet s s o e silent w (stays s) (same_loans_follow s s refl)

  -- what follows where a command may be skipped
  live : {A : Type 0} (s : State T U) (o : Outcome T U) (named : Option A) (Then : A → Type 0) → IsWellFormed s
      → MatchOption named (o ≡ skipped s) Then → ((a : A) → named ≡ Some a → Then a → IsSound s o) → IsSound s o
  live s o named Then w h go = by_option (IsSound s o) named _ _ h
      (λ _ e. by_equal s o (skipped s) e (nothing_done s (skipped s) w refl refl)) go

  -- ---- outcomes by case

  after_publisher_sound : (s s' : State T U) (id : ℕ) (refusal : Option PublisherCreateError) → IsWellFormed s'
      → Advances s s' → LoansFollow s s' → IsSound s (after_publisher s' id refusal)
  after_publisher_sound s s' id None w a f = quiet s s' (after_publisher s' id None) refl refl w a f
  after_publisher_sound s s' id (Some e) w a f = quiet s s' (after_publisher s' id (Some e)) refl refl w a f

  after_subscriber_sound : (s s' : State T U) (id : ℕ) (refusal : Option SubscriberCreateError) → IsWellFormed s'
      → Advances s s' → LoansFollow s s' → IsSound s (after_subscriber s' id refusal)
  after_subscriber_sound s s' id None w a f = quiet s s' (after_subscriber s' id None) refl refl w a f
  after_subscriber_sound s s' id (Some e) w a f = quiet s s' (after_subscriber s' id (Some e)) refl refl w a f

  after_loan_sound : (s s' : State T U) (n : ℕ) (refusal : Option LoanError) → IsWellFormed s' → Advances s s'
      → LoansFollow s s' → IsSound s (after_loan s' n refusal)
  after_loan_sound s s' n None w a f = quiet s s' (after_loan s' n None) refl refl w a f
  after_loan_sound s s' n (Some e) w a f = quiet s s' (after_loan s' n (Some e)) refl refl w a f

  after_retry_sound : (s s' : State T U) (result : SendResult) → IsWellFormed s' → Advances s s' → LoansFollow s s'
      → IsSound s (after_retry s' result)
  after_retry_sound s s' (Delivered_to count) w a f = quiet s s' (after_retry s' (Delivered_to count)) refl refl w a f
  after_retry_sound s s' Blocked_send w a f = quiet s s' (after_retry s' Blocked_send) refl refl w a f
  after_retry_sound s s' (Send_error e) w a f = quiet s s' (after_retry s' (Send_error e)) refl refl w a f

  after_update_sound : (s s' : State T U) (failure : Option ConnectionFailure) → IsWellFormed s' → Advances s s'
      → LoansFollow s s' → IsSound s (after_update s' failure)
  after_update_sound s s' None w a f = quiet s s' (after_update s' None) refl refl w a f
  after_update_sound s s' (Some e) w a f = quiet s s' (after_update s' (Some e)) refl refl w a f

  after_question_sound : (s s' : State T U) (failure : Option ConnectionFailure) (has_samples : Bool) → IsWellFormed s'
      → Advances s s' → LoansFollow s s' → IsSound s (after_question s' failure has_samples)
  after_question_sound s s' None has_samples w a f = quiet s s' (after_question s' None has_samples) refl refl w a f
  after_question_sound s s' (Some e) has_samples w a f =
      quiet s s' (after_question s' (Some e) has_samples) refl refl w a f

  after_receive_sound : (s s' : State T U) (q : ℕ) (result : ReceiveResult) → IsWellFormed s' → Advances s s'
      → LoansFollow s s' → IsSound s (after_receive s' q result)
  after_receive_sound s s' q (Got_sample p n) w a f =
      record {
        well_formed = w;
        advances = a;
        sent_below = λ p' n' entry g. absurd (cc);
        loans_follow = f;
        sent_unheld = λ p' n' entry g. absurd (cc);
      }
  after_receive_sound s s' q No_sample w a f = quiet s s' (after_receive s' q No_sample) refl refl w a f
  after_receive_sound s s' q (Receive_error e) w a f = quiet s s' (after_receive s' q (Receive_error e)) refl refl w a f

  -- an outcome in which the message n may be sent
  sending : (s s' : State T U) (o : Outcome T U) (p n : ℕ) (entry : Entry T U) → o.state ≡ s'
      → o.event ≡ Message_sent p n entry → n < s'.next_message → s'.loans n ≡ None
      → IsWellFormed s' → Advances s s' → LoansFollow s s' → IsSound s o
  sending s s' o p n entry e is below unheld w a f = record {
    well_formed = subst IsWellFormed (sym e) w;
    advances = subst (Advances s) (sym e) a;
    sent_below = λ p' n' entry' g.
        let same : Message_sent p n entry ≡ Message_sent p' n' entry' = sym is ∙ g in
        let number : n ≡ n' = cc in
        subst (λ (t : State T U). n' < t.next_message) (sym e) (subst (λ k. k < s'.next_message) number below);
    loans_follow = subst (LoansFollow s) (sym e) f;
    sent_unheld = λ p' n' entry' g.
        let same : Message_sent p n entry ≡ Message_sent p' n' entry' = sym is ∙ g in
        let number : n ≡ n' = cc in
        subst (λ (t : State T U). t.loans n' ≡ None) (sym e) (subst (λ k. s'.loans k ≡ None) number unheld);
  }

  after_send_sound : (s s' : State T U) (p n : ℕ) (entry : Entry T U) (result : SendResult) → n < s'.next_message
      → s'.loans n ≡ None
      → IsWellFormed s' → Advances s s' → LoansFollow s s' → IsSound s (after_send s' p n entry result)
  after_send_sound s s' p n entry (Delivered_to count) below unheld w a f =
      sending s s' (after_send s' p n entry (Delivered_to count)) p n entry refl refl below unheld w a f
  after_send_sound s s' p n entry Blocked_send below unheld w a f =
      sending s s' (after_send s' p n entry Blocked_send) p n entry refl refl below unheld w a f
  after_send_sound s s' p n entry (Send_error UnableToDeliver) below unheld w a f =
      sending s s' (after_send s' p n entry (Send_error UnableToDeliver)) p n entry refl refl below unheld w a f
  after_send_sound s s' p n entry (Send_error ConnectionBrokenSinceSenderNoLongerExists) below unheld w a f =
      quiet s s' (after_send s' p n entry (Send_error ConnectionBrokenSinceSenderNoLongerExists)) refl refl w a f
  after_send_sound s s' p n entry (Send_error ConnectionCorrupted) below unheld w a f =
      quiet s s' (after_send s' p n entry (Send_error ConnectionCorrupted)) refl refl w a f
  after_send_sound s s' p n entry (Send_error (NotLoaned e)) below unheld w a f =
      quiet s s' (after_send s' p n entry (Send_error (NotLoaned e))) refl refl w a f
  after_send_sound s s' p n entry (Send_error (ConnectionError e)) below unheld w a f =
      quiet s s' (after_send s' p n entry (Send_error (ConnectionError e))) refl refl w a f
  after_send_sound s s' p n entry (Send_error InternalError) below unheld w a f =
      quiet s s' (after_send s' p n entry (Send_error InternalError)) refl refl w a f

  -- changes of a loan don't touch the counters
  loan_changed : (s : State T U) (n : ℕ) (loan : Option (Loan T U)) → Advances s (with_loan s n loan)
  loan_changed s n loan = record { config = refl; next_port = omega arith; next_message = omega arith }

  changed_sound : (s : State T U) (n : ℕ) (old l : Loan T U) (o : Outcome T U) → s.loans n ≡ Some old
      → IsWellFormed (with_loan s n (Some l)) → o ≡ done (with_loan s n (Some l)) → IsSound s o
  changed_sound s n old l o found w h = by_equal s o _ h
      (quiet s (with_loan s n (Some l)) (done (with_loan s n (Some l))) refl refl w (loan_changed s n (Some l))
      (with_loan_follows s n old l found))

  -- a loan that is sent, from a state that is no earlier
  send_sound : (environment : Environment) (s from : State T U) (n : ℕ) (l : Loan T U) (o : Outcome T U)
      → IsWellFormed from → Advances s from → LoansFollow s from → from.loans n ≡ Some l
      → is_blocked from l.publisher ≡ false
      → ((s' : State T U) × (result : SendResult) × Send environment from n l s' result
      × (o ≡ after_send s' l.publisher n (entry_of l) result)) → IsSound s o
  send_sound environment s from n l o w a f e unblocked h =
      let b : Advances from h.0 = send_advances environment from n l h.0 h.1 h.2 in
      let below : n < from.next_message = (w.loans n l e).below in
      by_equal s o _ h.3 (after_send_sound s h.0 l.publisher n (entry_of l) h.1 (omega (arith, below, b.next_message))
      (send_unholds environment from n l h.0 h.1 h.2)
      (send_keeps environment from n l h.0 h.1 w e unblocked h.2) (advances_trans s from h.0 a b)
      (loans_follow_trans s from h.0 a.next_message f (send_follows environment from n l h.0 h.1 h.2)))

module _ {T U : Type 0} (environment : Environment) (default_value : T) (default_header : U) (m : Messages T U)
    (s : State T U) (handles : List Handle) (w : IsWellFormed s) where
  -- a loan as an outcome
  loan_sound : (checks_length : Bool) (len : ℕ) (named : Option (ℕ × Publisher)) (o : Outcome T U)
      → MatchOption (if_single_units s named) (o ≡ skipped s) (λ (publisher : ℕ × Publisher).
      (s' : State T U) × (refusal : Option LoanError) × GrantLoan environment default_header checks_length len s
      publisher.0 s' refusal × (o ≡ after_loan s' s.next_message refusal))
      → IsSound s o
  loan_sound checks_length len named o h =
      live s o (if_single_units s named) _ w h (λ publisher _ k.
      by_equal s o _ k.3 (after_loan_sound s k.0 s.next_message k.1
      (grant_loan_keeps environment default_header checks_length len s publisher.0 k.0 k.1 w k.2)
      (grant_loan_advances environment default_header checks_length len s publisher.0 k.0 k.1 k.2)
      (grant_loan_follows environment default_header checks_length len s publisher.0 k.0 k.1 k.2)))

  -- channels are asked about or changed
  channels_sound : (o : Outcome T U) → OnChannels s o → IsSound s o
  channels_sound o k =
      let after : State T U = record s { channels = k.channels } in
      by_equal s o _ k.is (quiet s after (replied k.reply after) refl refl (with_all_channels_keeps s w k.channels)
      (record { config = refl; next_port = omega arith; next_message = omega arith }) (same_loans_follow s after refl))

  pub step_sound : (command : Command T U) (o : Outcome T U)
      → Step environment default_value default_header m s handles command o → IsSound s o
  step_sound Nothing o h = by_equal s o (done s) h (nothing_done s (done s) w refl refl)
  step_sound (CreatePublisher asked) o h =
      by_equal s o _ h.3 (after_publisher_sound s h.0 s.next_port h.1
      (create_publisher_keeps environment s _ h.0 h.1 w h.2) (create_publisher_advances environment s _ h.0 h.1 h.2)
      (create_publisher_follows environment s _ h.0 h.1 h.2))
  step_sound (CreateSubscriber buffer degradation) o h =
      by_equal s o _ h.3 (after_subscriber_sound s h.0 s.next_port h.1
      (create_subscriber_keeps environment s _ h.0 h.1 w h.2) (create_subscriber_advances environment s _ h.0 h.1 h.2)
      (create_subscriber_follows environment s _ h.0 h.1 h.2))
  step_sound (LoanUninit of) o h = loan_sound false 1 (if_fixed_size s (unblocked_at s handles of)) o h
  step_sound (LoanDefault of) o h =
      live s o (if_single_units s (if_fixed_size s (unblocked_at s handles of))) _ w h (λ publisher _ k.
      by_equal s o _ k.3 (after_loan_sound s k.0 s.next_message k.1
      (grant_written_loan_keeps environment default_value default_header false 1 s publisher.0 k.0 k.1 w k.2)
      (grant_written_loan_advances environment default_value default_header false 1 s publisher.0 k.0 k.1 k.2)
      (grant_written_loan_follows environment default_value default_header false 1 s publisher.0 k.0 k.1 k.2)))
  step_sound (LoanSlice of len) o h = loan_sound true len (if_dynamic s (unblocked_at s handles of)) o h
  step_sound (WriteCell of at value) o h =
      live s o (with_cell_at at (unwritten_at s handles of)) _ w h (λ loan e k.
      let is : (s.loans loan.0 ≡ Some loan.1) × (loan.1.is_written ≡ false) =
      unwritten_is s handles of loan
      (passes (λ (n : ℕ × Loan T U). ltb at (length n.1.cells)) (unwritten_at s handles of) loan e).0 in
      changed_sound s loan.0 loan.1 (with_cell loan.1 at value) o is.0
      (cell_written_keeps s w loan.0 loan.1 is.0 at value) k)
  step_sound (WriteAll of value) o h =
      live s o (unwritten_at s handles of) _ w h (λ loan e k.
      changed_sound s loan.0 loan.1 (written loan.1 value) o (unwritten_is s handles of loan e).0
      (loan_written_keeps s w loan.0 loan.1 (unwritten_is s handles of loan e).0 value) k)
  step_sound (AssumeInit of) o h =
      live s o (unwritten_at s handles of) _ w h (λ loan e k.
      by_equal s o _ k
      (cond_both (is_initialized loan.1) (done (initialized s loan.0 loan.1)) (replied Unwritten s) (IsSound s)
      (λ full. changed_sound s loan.0 loan.1 (record (loan.1) { is_written = true })
      (done (initialized s loan.0 loan.1)) (unwritten_is s handles of loan e).0
      (initialized_keeps s w loan.0 loan.1 (unwritten_is s handles of loan e).0 full) refl)
      (λ _. nothing_done s (replied Unwritten s) w refl refl)))
  step_sound (WriteHeader of value) o h =
      live s o (loan_at s handles of) _ w h (λ loan e k.
      changed_sound s loan.0 loan.1 (record (loan.1) { user_header = value }) o (loan_is s handles of loan e)
      (user_header_keeps s w loan.0 loan.1 (loan_is s handles of loan e) value) k)
  step_sound (SetPayload of at value) o h =
      live s o (with_cell_at at (written_at s handles of)) _ w h (λ loan e k.
      let is : (s.loans loan.0 ≡ Some loan.1) × (loan.1.is_written ≡ true) =
      written_is s handles of loan
      (passes (λ (n : ℕ × Loan T U). ltb at (length n.1.cells)) (written_at s handles of) loan e).0 in
      changed_sound s loan.0 loan.1 (with_cell loan.1 at value) o is.0
      (cell_written_keeps s w loan.0 loan.1 is.0 at value) k)
  step_sound (SendLoan of) o h =
      live s o (sendable_at s handles of) _ w h (λ loan e k.
      let is : (s.loans loan.0 ≡ Some loan.1) × (is_blocked s loan.1.publisher ≡ false) =
      sendable_is s handles of loan e in
      send_sound environment s s loan.0 loan.1 o w (stays s) (same_loans_follow s s refl) is.0 is.1 k)
  step_sound (SendLoanTo of channel place) o h =
      live s o (if_channel s channel (sendable_at s handles of)) _ w h (λ loan e k.
      let named : (channel < channel_count s.config) × (sendable_at s handles of ≡ Some loan) =
      has_channel s channel (sendable_at s handles of) loan e in
      let is : (s.loans loan.0 ≡ Some loan.1) × (is_blocked s loan.1.publisher ≡ false) =
      sendable_is s handles of loan named.1 in
      let rises : Advances s k.0 = send_to_connection_advances environment s loan.0 loan.1 channel place k.0 k.1 k.2 in
      let below : loan.0 < s.next_message = (w.loans loan.0 loan.1 is.0).below in
      by_equal s o _ k.3 (after_send_sound s k.0 _ loan.0 _ k.1 (omega (arith, below, rises.next_message))
      (send_to_connection_unholds environment s loan.0 loan.1 channel place k.0 k.1 k.2)
      (send_to_connection_keeps environment s loan.0 loan.1 channel place k.0 k.1 k.2 w is.0 is.1 named.0) rises
      (send_to_connection_follows environment s loan.0 loan.1 channel place k.0 k.1 k.2)))
  step_sound (SendCopy of value) o h =
      live s o (if_single_units s (if_fixed_size s (unblocked_at s handles of))) _ w h (λ publisher e k.
      let is : (s.publishers publisher.0 ≡ Some publisher.1) × (is_none publisher.1.blocked ≡ true) =
      unblocked_is s handles of publisher (in_fixed_size s _ publisher (in_single_units s _ publisher e)) in
      let mid_keeps : IsWellFormed k.0 =
      grant_written_loan_keeps environment value default_header false 1 s publisher.0 k.0 k.1 w k.2 in
      let mid_advances : Advances s k.0 =
      grant_written_loan_advances environment value default_header false 1 s publisher.0 k.0 k.1 k.2 in
      let mid_follows : LoansFollow s k.0 =
      grant_written_loan_follows environment value default_header false 1 s publisher.0 k.0 k.1 k.2 in
      by_option (IsSound s o) k.1 _ _ k.3
      (λ none j. by_option (IsSound s o) ((k.0).loans s.next_message) _ _ j (λ _ v. absurd v) (λ l f sends.
      send_sound environment s k.0 s.next_message l o mid_keeps mid_advances mid_follows f
      (subst (λ i. is_blocked k.0 i ≡ false) (sym
      (grant_written_loan_publisher environment value default_header false 1 s publisher.0 k.0 k.1 l none f k.2))
      (grant_written_loan_unblocked environment value default_header false 1 s publisher.0 k.0 k.1 k.2
      (not_blocked s publisher.0 publisher.1 is.0 is.1)))
      sends))
      (λ e _ j. by_equal s o _ j
      (quiet s k.0 (replied (SendRefused (NotLoaned e)) k.0) refl refl mid_keeps mid_advances mid_follows)))
  step_sound (Discard of) o h =
      live s o (loan_at s handles of) _ w h (λ loan e k.
      by_equal s o _ k (quiet s (loan_discarded s loan.0 loan.1) (done (loan_discarded s loan.0 loan.1)) refl refl
      (loan_discarded_keeps s w loan.0 loan.1 (loan_is s handles of loan e))
      (record { config = refl; next_port = omega arith; next_message = omega arith })
      (loan_discarded_follows s loan.0 loan.1)))
  step_sound (RetrySend of elapsed) o h =
      live s o (blocked_at s handles of) _ w h (λ blocked e k.
      let is : (x : Publisher) × (s.publishers blocked.0 ≡ Some x) × (x.blocked ≡ Some blocked.1) =
      blocked_is s handles of blocked e in
      by_equal s o _ k.3 (after_retry_sound s k.0 k.1
      (retry_keeps environment s blocked.0 is.0 blocked.1 elapsed k.0 k.1 w is.1 is.2 k.2)
      (retry_advances environment s blocked.0 blocked.1 elapsed k.0 k.1 k.2)
      (retry_follows environment s blocked.0 blocked.1 elapsed k.0 k.1 k.2)))
  step_sound (GiveUpSend of) o h =
      live s o (blocked_at s handles of) _ w h (λ blocked e k.
      let is : (x : Publisher) × (s.publishers blocked.0 ≡ Some x) × (x.blocked ≡ Some blocked.1) =
      blocked_is s handles of blocked e in
      by_equal s o _ k.3 (after_retry_sound s k.0 k.1
      (give_up_keeps environment s blocked.0 is.0 blocked.1 k.0 k.1 w is.1 is.2 k.2)
      (give_up_advances environment s blocked.0 blocked.1 k.0 k.1 k.2)
      (give_up_follows environment s blocked.0 blocked.1 k.0 k.1 k.2)))
  step_sound (Update of) o h =
      by_option (IsSound s o) (unblocked_at s handles of) _ _ h
      (λ _ j. live s o (subscriber_at s handles of) _ w j (λ subscriber _ k.
      by_equal s o _ k.3 (after_update_sound s k.0 k.1
      (update_subscriber_keeps environment s subscriber.0 k.0 k.1 w k.2)
      (update_subscriber_advances environment s subscriber.0 k.0 k.1 k.2)
      (update_subscriber_follows environment s subscriber.0 k.0 k.1 k.2))))
      (λ publisher e k.
      let is : (s.publishers publisher.0 ≡ Some publisher.1) × (is_none publisher.1.blocked ≡ true) =
      unblocked_is s handles of publisher e in
      by_equal s o _ k.3 (after_update_sound s k.0 k.1
      (update_publisher_keeps environment s publisher.0 k.0 k.1 w (not_blocked s publisher.0 publisher.1 is.0 is.1) k.2)
      (update_publisher_advances environment s publisher.0 k.0 k.1 k.2)
      (update_publisher_follows environment s publisher.0 k.0 k.1 k.2)))
  step_sound (Receive of) o h =
      live s o (if_single_units s (subscriber_at s handles of)) _ w h (λ subscriber _ k.
      by_equal s o _ k.3 (after_receive_sound s k.0 subscriber.0 k.1
      (receive_keeps environment s subscriber.0 k.0 k.1 w k.2) (receive_advances environment s subscriber.0 k.0 k.1 k.2)
      (receive_follows environment s subscriber.0 k.0 k.1 k.2)))
  step_sound (HasSamples of) o h =
      live s o (subscriber_at s handles of) _ w h (λ subscriber _ k.
      by_equal s o _ k.4 (after_question_sound s k.0 k.1 k.2
      (has_samples_keeps environment s subscriber.0 k.0 k.1 k.2 w k.3)
      (has_samples_advances environment s subscriber.0 k.0 k.1 k.2 k.3)
      (has_samples_follows environment s subscriber.0 k.0 k.1 k.2 k.3)))
  step_sound (Read of at) o h =
      by_option (IsSound s o) (sample_at s handles of) _ _ h
      (λ _ j. live s o (with_cell_at at (loan_at s handles of)) _ w j (λ loan _ k.
      by_option (IsSound s o) (slice_get (loan.1).cells at) _ _ k (λ _ v. absurd v)
      (λ cell _ e. by_equal s o _ e (nothing_done s (replied (Cell cell) s) w refl refl))))
      (λ sample _ k. by_option (IsSound s o) (m sample.2) _ _ k (λ _ v. absurd v)
      (λ entry _ j. live s o (slice_get entry.values at) _ w j
      (λ value _ e. by_equal s o _ e (nothing_done s (replied (Cell (Some value)) s) w refl refl))))
  step_sound (ReadHeader of) o h =
      by_option (IsSound s o) (sample_at s handles of) _ _ h
      (λ _ j. live s o (loan_at s handles of) _ w j
      (λ loan _ e. by_equal s o _ e (nothing_done s (replied (Header (loan.1).header) s) w refl refl)))
      (λ sample _ k. by_option (IsSound s o) (m sample.2) _ _ k (λ _ v. absurd v)
      (λ entry _ e. by_equal s o _ e (nothing_done s (replied (Header entry.header) s) w refl refl)))
  step_sound (ReadUserHeader of) o h =
      by_option (IsSound s o) (sample_at s handles of) _ _ h
      (λ _ j. live s o (loan_at s handles of) _ w j
      (λ loan _ e. by_equal s o _ e (nothing_done s (replied (UserHeader (loan.1).user_header) s) w refl refl)))
      (λ sample _ k. by_option (IsSound s o) (m sample.2) _ _ k (λ _ v. absurd v)
      (λ entry _ e. by_equal s o _ e (nothing_done s (replied (UserHeader entry.user_header) s) w refl refl)))
  step_sound (Release of) o h =
      live s o (sample_at s handles of) _ w h (λ sample _ k.
      by_equal s o _ k
      (quiet s (released s sample.0 sample.1 sample.2) (done (released s sample.0 sample.1 sample.2)) refl refl
      (released_keeps s w sample.0 sample.1 sample.2) (released_advances s sample.0 sample.1 sample.2)
      (released_follows s sample.0 sample.1 sample.2)))
  step_sound (Close of) o h =
      by_option (IsSound s o) (unblocked_at s handles of) _ _ h
      (λ _ j. live s o (subscriber_at s handles of) _ w j (λ subscriber e k.
      by_equal s o _ k (quiet s (subscriber_closed s subscriber.0 subscriber.1)
      (done (subscriber_closed s subscriber.0 subscriber.1)) refl refl
      (subscriber_closed_keeps s w subscriber.0 subscriber.1 (subscriber_is s handles of subscriber e))
      (subscriber_closed_advances s subscriber.0 subscriber.1)
      (subscriber_closed_follows s subscriber.0 subscriber.1))))
      (λ publisher e k.
      let is : (s.publishers publisher.0 ≡ Some publisher.1) × (is_none publisher.1.blocked ≡ true) =
      unblocked_is s handles of publisher e in
      by_equal s o _ k (quiet s (publisher_closed s publisher.0 publisher.1)
      (done (publisher_closed s publisher.0 publisher.1)) refl refl
      (publisher_closed_keeps s w publisher.0 publisher.1 is.0) (publisher_closed_advances s publisher.0 publisher.1)
      (publisher_closed_follows s publisher.0 publisher.1)))
  step_sound (ConnectionPlace of receiver) o h = channels_sound o
      (on_channels environment default_value default_header m s handles (ConnectionPlace of receiver) o refl h)
  step_sound (PublisherChannel of channel place call) o h =
      channels_sound o (on_channels environment default_value default_header m s handles
      (PublisherChannel of channel place call) o refl h)
  step_sound (SubscriberChannel of channel call) o h =
      channels_sound o (on_channels environment default_value default_header m s handles
      (SubscriberChannel of channel call) o refl h)
