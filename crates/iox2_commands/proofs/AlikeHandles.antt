-- What handle a command makes.
use Rattle.std.proofs.Common.{◌≡◌, ◌⊎◌, inl, inr, ℕ, ◌+◌, Bool, true, false, cond, List, refl, sym, ap, subst, ◌∙◌}
use Rattle.std.proofs.Common.{Option, None, Some, eqb}
use Rattle.std.specs.Prelude.{slice_get, nat_lt}
use Rattle.std.specs.Option.{MatchOption}
use Rattle.iox2_machine.specs.machine.Limits.{last_number, buffer_limit}
use Rattle.iox2_machine.specs.machine.Places.{free_place}
use Rattle.iox2_machine.specs.machine.Records.{Entry, Publisher, SubscriberSettings}
use Rattle.iox2_machine.specs.machine.State.{State, Messages}
use Rattle.iox2_machine.specs.machine.SubscriberUpdate.{UpdateSubscriber}
use Rattle.iox2_machine.specs.machine.Loans.{GrantLoan, is_initialized, initialized}
use Rattle.iox2_machine.specs.machine.Sends.{SendResult, Delivered_to, Blocked_send, Send_error}
use Rattle.iox2_machine.specs.machine.Receives.{ReceiveResult, Got_sample, No_sample, Receive_error}
use Rattle.iox2_machine.specs.machine.Ports.{CreateSubscriber as MakesSubscriber, MakeSubscriber, with_new_subscriber}
use Rattle.iox2_machine.specs.machine.Ports.{with_failure_warning, buffer_for}
use Rattle.iox2_machine.specs.declared.warning.Warning.{Warning}
use Rattle.iox2_machine.specs.declared.errors.ConnectionFailure.{ConnectionFailure}
use Rattle.iox2_machine.specs.declared.errors.LoanError.{LoanError}
use Rattle.iox2_machine.specs.declared.errors.SendError.TheVariants.{ConnectionBrokenSinceSenderNoLongerExists}
use Rattle.iox2_machine.specs.declared.errors.SendError.TheVariants.{ConnectionCorrupted, LoanError as NotLoaned}
use Rattle.iox2_machine.specs.declared.errors.SendError.TheVariants.{ConnectionError, UnableToDeliver, InternalError}
use Rattle.iox2_machine.specs.declared.errors.PublisherCreateError.{PublisherCreateError}
use Rattle.iox2_machine.specs.declared.errors.SubscriberCreateError.{SubscriberCreateError}
use Rattle.iox2_laws.proofs.Cases.{by_option, by_bool}
use Rattle.iox2_machine.specs.machine.Environments.{ample_memory}
use Rattle.iox2_commands.specs.Outcomes.{Handle, No_handle, Subscriber_handle, Sample_handle, Outcome, replied, done}
use Rattle.iox2_commands.specs.Outcomes.{skipped}
use Rattle.iox2_commands.specs.Step.{Step, after_publisher, after_subscriber, after_loan, after_send, after_retry}
use Rattle.iox2_commands.specs.Step.{after_receive, after_update, after_question, unblocked_at, subscriber_at, loan_at}
use Rattle.iox2_commands.specs.Step.{unwritten_at, written_at, with_cell_at, sendable_at, blocked_at, sample_at}
use Rattle.iox2_commands.specs.Step.{if_single_units, if_fixed_size, if_dynamic, if_channel}
use Rattle.iox2_commands.specs.declared.command.Command.{Command}
use Rattle.iox2_commands.specs.declared.command.Command.TheVariants.{Nothing, CreatePublisher, CreateSubscriber}
use Rattle.iox2_commands.specs.declared.command.Command.TheVariants.{LoanUninit, Loan as LoanDefault, LoanSlice}
use Rattle.iox2_commands.specs.declared.command.Command.TheVariants.{WriteCell, WriteAll, AssumeInit, WriteHeader}
use Rattle.iox2_commands.specs.declared.command.Command.TheVariants.{SetPayload, Send as SendLoan, SendCopy, Discard}
use Rattle.iox2_commands.specs.declared.command.Command.TheVariants.{Retry, GiveUp, Update, Receive, HasSamples, Read}
use Rattle.iox2_commands.specs.declared.command.Command.TheVariants.{ReadHeader, ReadUserHeader, Release, Close}
use Rattle.iox2_commands.specs.declared.command.Command.TheVariants.{SendToConnection as SendLoanTo, ConnectionPlace}
use Rattle.iox2_commands.specs.declared.command.Command.TheVariants.{PublisherChannel, SubscriberChannel}
use Rattle.iox2_commands.specs.declared.reply.Reply.{Reply}
use Rattle.iox2_commands.specs.declared.reply.Reply.TheVariants.{SubscriberMade, Unwritten}
use Rattle.iox2_commands.proofs.Named.{in_single_units}
use Rattle.iox2_commands.proofs.AlikeNamed.{subscriber_handle_at}
use Rattle.iox2_commands.proofs.ChannelOutcomes.{OnChannels, is_of_channels, on_channels}
use Rattle.std.proofs.lemmas.Bool.{true≢false}

-- The handle is neither a subscriber's nor a sample's.
abbrev pub is_plain : Handle → Bool
is_plain (Subscriber_handle r) = false
is_plain (Sample_handle p r n) = false
is_plain _ = true

module _ {T U : Type 0} where
  -- The reply tells of a new subscriber.
  abbrev pub tells_subscriber : Reply T U → Bool
  tells_subscriber (SubscriberMade r) = true
  tells_subscriber _ = false

  -- No subscriber and no sample was made.
  abbrev pub Plain : Outcome T U → Type 0
  Plain o = (is_plain o.handle ≡ true) × (tells_subscriber o.reply ≡ false)

  -- A subscriber was made under the counter's next id, or none.
  abbrev pub MayMakeSubscriber : State T U → Outcome T U → Type 0
  MayMakeSubscriber s o =
      ((o.handle ≡ No_handle) × (tells_subscriber o.reply ≡ false))
      ⊎ ((o.handle ≡ Subscriber_handle s.next_port) × (o.reply ≡ SubscriberMade s.next_port)
      × ((o.state).next_port ≡ s.next_port + 1))

  -- A sample was received by the subscriber that is named there, or none.
  abbrev pub MayMakeSample : List Handle → (of : ℕ) → Outcome T U → Type 0
  MayMakeSample handles of o =
      (tells_subscriber o.reply ≡ false)
      × ((o.handle ≡ No_handle) ⊎ ((p : ℕ) × (r : ℕ) × (n : ℕ) × (o.handle ≡ Sample_handle p r n)
      × (slice_get handles of ≡ Some (Subscriber_handle r))))

  -- The handle is of the kind that the command makes.
  abbrev pub Fits : State T U → List Handle → Command T U → Outcome T U → Type 0
  Fits s handles (CreateSubscriber buffer degradation) o = MayMakeSubscriber s o
  Fits s handles (Receive of) o = MayMakeSample handles of o
  Fits s handles _ o = Plain o

  -- ---- outcomes by case

  plain_publisher : (s' : State T U) (n : ℕ) (r : Option PublisherCreateError) → Plain (after_publisher s' n r)
  plain_publisher s' n None = (refl, refl)
  plain_publisher s' n (Some e) = (refl, refl)

  plain_loan : (s' : State T U) (n : ℕ) (r : Option LoanError) → Plain (after_loan s' n r)
  plain_loan s' n None = (refl, refl)
  plain_loan s' n (Some e) = (refl, refl)

  plain_update : (s' : State T U) (r : Option ConnectionFailure) → Plain (after_update s' r)
  plain_update s' None = (refl, refl)
  plain_update s' (Some e) = (refl, refl)

  plain_question : (s' : State T U) (r : Option ConnectionFailure) (has : Bool) → Plain (after_question s' r has)
  plain_question s' None has = (refl, refl)
  plain_question s' (Some e) has = (refl, refl)

  plain_retry : (s' : State T U) (r : SendResult) → Plain (after_retry s' r)
  plain_retry s' (Delivered_to count) = (refl, refl)
  plain_retry s' Blocked_send = (refl, refl)
  plain_retry s' (Send_error e) = (refl, refl)

  plain_send : (s' : State T U) (p n : ℕ) (entry : Entry T U) (r : SendResult) → Plain (after_send s' p n entry r)
  plain_send s' p n entry (Delivered_to count) = (refl, refl)
  plain_send s' p n entry Blocked_send = (refl, refl)
  plain_send s' p n entry (Send_error UnableToDeliver) = (refl, refl)
  plain_send s' p n entry (Send_error ConnectionBrokenSinceSenderNoLongerExists) = (refl, refl)
  plain_send s' p n entry (Send_error ConnectionCorrupted) = (refl, refl)
  plain_send s' p n entry (Send_error (NotLoaned e)) = (refl, refl)
  plain_send s' p n entry (Send_error (ConnectionError e)) = (refl, refl)
  plain_send s' p n entry (Send_error InternalError) = (refl, refl)

  not_made : (r : Reply T U) → is_of_channels r ≡ true → tells_subscriber r ≡ false
  not_made (SubscriberMade r) h = absurd (true≢false (sym h))
  not_made _ h = refl

  plain_channels : (s : State T U) (o : Outcome T U) → OnChannels s o → Plain o
  plain_channels s o k = subst Plain (sym k.is) (refl, not_made k.reply k.plain)

  sample_made : (s' : State T U) (handles : List Handle) (of r : ℕ) (result : ReceiveResult)
      → slice_get handles of ≡ Some (Subscriber_handle r)
      → MayMakeSample handles of (after_receive s' r result)
  sample_made s' handles of r (Got_sample p n) e = (refl, inr (p, r, n, refl, e))
  sample_made s' handles of r No_sample e = (refl, inl refl)
  sample_made s' handles of r (Receive_error x) e = (refl, inl refl)

  -- ---- the counter of ports

  warning_counts : (s : State T U) (warning : ConnectionFailure → Warning) (failure : Option ConnectionFailure)
      → (with_failure_warning s warning failure).next_port ≡ s.next_port
  warning_counts s warning None = refl
  warning_counts s warning (Some e) = refl

  update_counts : (s s' : State T U) (r : ℕ) (failure : Option ConnectionFailure)
      → UpdateSubscriber ample_memory s r s' failure → s'.next_port ≡ s.next_port
  update_counts s s' r failure h =
      by_option (s'.next_port ≡ s.next_port) (s.subscribers r) _ _ h (λ _ v. absurd v) (λ y _ h.
      by_bool (s'.next_port ≡ s.next_port) y.is_due _ _ h (λ _ h. ap (λ (v : State T U). v.next_port) h.2)
      (λ _ h. ap (λ (v : State T U). v.next_port) h.0))

  made_fits : (s s' : State T U) (given : SubscriberSettings) (place : ℕ) (refusal : Option SubscriberCreateError)
      → MakeSubscriber ample_memory s given place s' refusal
      → MayMakeSubscriber s (after_subscriber s' s.next_port refusal)
  made_fits s s' given place None h =
      inr (
        refl,
        refl,
        ap (λ (v : State T U). v.next_port) h.3 ∙ warning_counts h.0 _ h.1
            ∙ update_counts (with_new_subscriber s given place) h.0 s.next_port h.1 h.2,
      )
  made_fits s s' given place (Some e) h = inl (refl, refl)

  refused_fits : (s s' : State T U) (e : SubscriberCreateError) (refusal : Option SubscriberCreateError)
      → refusal ≡ Some e
      → MayMakeSubscriber s (after_subscriber s' s.next_port refusal)
  refused_fits s s' e refusal f = subst (λ (r : Option SubscriberCreateError).
      MayMakeSubscriber s (after_subscriber s' s.next_port r)) (sym f) (inl (refl, refl))

  create_fits : (s s' : State T U) (given : SubscriberSettings) (refusal : Option SubscriberCreateError)
      → MakesSubscriber ample_memory s given s' refusal
      → MayMakeSubscriber s (after_subscriber s' s.next_port refusal)
  create_fits s s' given refusal h =
      let Goal : Type 0 = MayMakeSubscriber s (after_subscriber s' s.next_port refusal) in
      by_bool Goal (eqb s.next_port last_number) _ _ h (λ _ h. refused_fits s s' _ refusal h.1) (λ _ h.
      by_bool Goal (nat_lt (buffer_limit s.config) (buffer_for given)) _ _ h (λ _ h. refused_fits s s' _ refusal h.1)
      (λ _ h.
      by_option Goal (free_place (s.config).max_subscribers s.subscriber_places) _ _ h
      (λ _ h. refused_fits s s' _ refusal h.1) (λ place _ h. made_fits s s' given place refusal h)))

  -- ---- commands

  module _ (default_value : T) (default_header : U) (m : Messages T U) (s : State T U) (handles : List Handle) where
    abbrev Steps : Command T U → Outcome T U → Type 0
    Steps = Step ample_memory default_value default_header m s handles

    by : (o x : Outcome T U) → o ≡ x → Plain x → Plain o
    by o x e k = subst Plain (sym e) k

    live : {A : Type 0} (o : Outcome T U) (named : Option A) (Then : A → Type 0)
        → MatchOption named (o ≡ skipped s) Then
        → ((x : A) → named ≡ Some x → Then x → Plain o) → Plain o
    live o named Then h go = by_option (Plain o) named _ _ h (λ _ e. by o (skipped s) e (refl, refl)) go

    plain_grant : (checks_length : Bool) (len : ℕ) (named : Option (ℕ × Publisher)) (o : Outcome T U)
        → MatchOption (if_single_units s named) (o ≡ skipped s) (λ (publisher : ℕ × Publisher).
        (s' : State T U) × (refusal : Option LoanError) × GrantLoan ample_memory default_header checks_length len s
        publisher.0 s' refusal × (o ≡ after_loan s' s.next_message refusal))
        → Plain o
    plain_grant checks_length len named o h =
        live o (if_single_units s named) _ h (λ publisher _ k. by o _ k.3 (plain_loan k.0 s.next_message k.1))

    -- The handle fits the command.
    pub step_fits : (command : Command T U) (o : Outcome T U) → Steps command o → Fits s handles command o
    step_fits Nothing o h = by o (done s) h (refl, refl)
    step_fits (CreatePublisher asked) o h = by o _ h.3 (plain_publisher h.0 s.next_port h.1)
    step_fits (CreateSubscriber buffer degradation) o h =
        subst (MayMakeSubscriber s) (sym h.3) (create_fits s h.0 _ h.1 h.2)
    step_fits (LoanUninit of) o h = plain_grant false 1 (if_fixed_size s (unblocked_at s handles of)) o h
    step_fits (LoanDefault of) o h =
        live o (if_single_units s (if_fixed_size s (unblocked_at s handles of))) _ h
        (λ publisher _ k. by o _ k.3 (plain_loan k.0 s.next_message k.1))
    step_fits (LoanSlice of len) o h = plain_grant true len (if_dynamic s (unblocked_at s handles of)) o h
    step_fits (WriteCell of at value) o h =
        live o (with_cell_at at (unwritten_at s handles of)) _ h (λ loan _ k. by o _ k (refl, refl))
    step_fits (WriteAll of value) o h = live o (unwritten_at s handles of) _ h (λ loan _ k. by o _ k (refl, refl))
    step_fits (AssumeInit of) o h =
        live o (unwritten_at s handles of) _ h (λ loan _ k.
        by o _ k
        (elim (is_initialized loan.1) as (λ c.
        Plain (cond c (done (initialized s loan.0 loan.1)) (replied Unwritten s)))
        [ true ↦ (refl, refl) | false ↦ (refl, refl) ]))
    step_fits (WriteHeader of value) o h = live o (loan_at s handles of) _ h (λ loan _ k. by o _ k (refl, refl))
    step_fits (SetPayload of at value) o h =
        live o (with_cell_at at (written_at s handles of)) _ h (λ loan _ k. by o _ k (refl, refl))
    step_fits (SendLoan of) o h =
        live o (sendable_at s handles of) _ h (λ loan _ k. by o _ k.3 (plain_send k.0 _ _ _ k.1))
    step_fits (SendLoanTo of channel place) o h =
        live o (if_channel s channel (sendable_at s handles of)) _ h (λ loan _ k. by o _ k.3 (plain_send k.0 _ _ _ k.1))
    step_fits (SendCopy of value) o h =
        live o (if_single_units s (if_fixed_size s (unblocked_at s handles of))) _ h (λ publisher _ k.
        by_option (Plain o) k.1 _ _ k.3
        (λ _ j. by_option (Plain o) ((k.0).loans s.next_message) _ _ j (λ _ v. absurd v)
        (λ loan _ j. by o _ j.3 (plain_send j.0 _ _ _ j.1)))
        (λ e _ j. by o _ j (refl, refl)))
    step_fits (Discard of) o h = live o (loan_at s handles of) _ h (λ loan _ k. by o _ k (refl, refl))
    step_fits (Retry of elapsed) o h =
        live o (blocked_at s handles of) _ h (λ named _ k. by o _ k.3 (plain_retry k.0 k.1))
    step_fits (GiveUp of) o h = live o (blocked_at s handles of) _ h (λ named _ k. by o _ k.3 (plain_retry k.0 k.1))
    step_fits (Update of) o h =
        by_option (Plain o) (unblocked_at s handles of) _ _ h
        (λ _ j. live o (subscriber_at s handles of) _ j (λ subscriber _ k. by o _ k.3 (plain_update k.0 k.1)))
        (λ publisher _ k. by o _ k.3 (plain_update k.0 k.1))
    step_fits (Receive of) o h =
        by_option (MayMakeSample handles of o) (if_single_units s (subscriber_at s handles of)) _ _ h
        (λ _ e. subst (MayMakeSample handles of) (sym e) (refl, inl refl))
        (λ subscriber e k. subst (MayMakeSample handles of) (sym k.3)
        (sample_made k.0 handles of subscriber.0 k.1
        (subscriber_handle_at 0 s handles of subscriber (in_single_units s _ subscriber e))))
    step_fits (HasSamples of) o h =
        live o (subscriber_at s handles of) _ h (λ subscriber _ k. by o _ k.4 (plain_question k.0 k.1 k.2))
    step_fits (Read of at) o h =
        by_option (Plain o) (sample_at s handles of) _ _ h
        (λ _ j. live o (with_cell_at at (loan_at s handles of)) _ j (λ loan _ k.
        by_option (Plain o) (slice_get (loan.1).cells at) _ _ k (λ _ v. absurd v) (λ cell _ e. by o _ e (refl, refl))))
        (λ sample _ k. by_option (Plain o) (m sample.2) _ _ k (λ _ v. absurd v)
        (λ entry _ j. live o (slice_get entry.values at) _ j (λ value _ e. by o _ e (refl, refl))))
    step_fits (ReadHeader of) o h =
        by_option (Plain o) (sample_at s handles of) _ _ h
        (λ _ j. live o (loan_at s handles of) _ j (λ loan _ e. by o _ e (refl, refl)))
        (λ sample _ k. by_option (Plain o) (m sample.2) _ _ k (λ _ v. absurd v) (λ entry _ e. by o _ e (refl, refl)))
    step_fits (ReadUserHeader of) o h =
        by_option (Plain o) (sample_at s handles of) _ _ h
        (λ _ j. live o (loan_at s handles of) _ j (λ loan _ e. by o _ e (refl, refl)))
        (λ sample _ k. by_option (Plain o) (m sample.2) _ _ k (λ _ v. absurd v) (λ entry _ e. by o _ e (refl, refl)))
    step_fits (Release of) o h = live o (sample_at s handles of) _ h (λ sample _ k. by o _ k (refl, refl))
    step_fits (Close of) o h =
        by_option (Plain o) (unblocked_at s handles of) _ _ h
        (λ _ j. live o (subscriber_at s handles of) _ j (λ subscriber _ k. by o _ k (refl, refl)))
        (λ publisher _ k. by o _ k (refl, refl))
    step_fits (ConnectionPlace of receiver) o h = plain_channels s o
        (on_channels ample_memory default_value default_header m s handles (ConnectionPlace of receiver) o refl h)
    step_fits (PublisherChannel of channel place call) o h =
        plain_channels s o (on_channels ample_memory default_value default_header m s handles
        (PublisherChannel of channel place call) o refl h)
    step_fits (SubscriberChannel of channel call) o h = plain_channels s o
        (on_channels ample_memory default_value default_header m s handles (SubscriberChannel of channel call) o refl h)
