-- A run whose replies and count of refused connections tell of no refused memory is one with ample memory.
use Rattle.std.proofs.Common.{◌≡◌, ℕ, zero, suc, ◌+◌, true, false, cond, List, [], ◌∷◌, ◌++◌, take, drop, refl, sym, ap}
use Rattle.std.proofs.Common.{subst, ◌∙◌, Option, None, Some}
use Rattle.std.specs.Prelude.{MatchOption, slice_get}
use Rattle.std.proofs.lemmas.Option.{none-some}
use Rattle.iox2_machine.specs.machine.Limits.{buffer_limit}
use Rattle.iox2_machine.specs.machine.Records.{PublisherSettings, Fixed}
use Rattle.iox2_machine.specs.machine.State.{State, Messages, fresh, no_messages}
use Rattle.iox2_machine.specs.machine.WellFormed.{IsWellFormed}
use Rattle.iox2_machine.specs.machine.Loans.{is_static, is_initialized, initialized}
use Rattle.iox2_machine.specs.machine.Environments.{fixed_handlers, ample_memory}
use Rattle.iox2_machine.specs.declared.allocation.AllocationStrategy.TheVariants.{Static}
use Rattle.iox2_machine.specs.declared.errors.PublisherCreateError.{PublisherCreateError}
use Rattle.iox2_machine.specs.declared.errors.PublisherCreateError.TheVariants.{UnableToCreateDataSegment}
use Rattle.iox2_machine.specs.declared.errors.PublisherCreateError.TheVariants.{FailedToDeployThreadsafetyPolicy as NoPublisherState}
use Rattle.iox2_machine.specs.declared.errors.SubscriberCreateError.{SubscriberCreateError}
use Rattle.iox2_machine.specs.declared.errors.SubscriberCreateError.TheVariants.{FailedToDeployThreadsafetyPolicy as NoSubscriberState}
use Rattle.iox2_machine.specs.declared.service_config.ServiceConfig.{ServiceConfig}
use Rattle.iox2_laws.specs.Laws.{Advances}
use Rattle.iox2_laws.proofs.Cases.{by_option}
use Rattle.iox2_laws.proofs.Enough.{fresh_is_well_formed}
use Rattle.iox2_commands.specs.Outcomes.{Handle, Event, Outcome, messages_after, done, replied, skipped}
use Rattle.iox2_commands.specs.Step.{Step, after_publisher, after_subscriber, publisher_settings, unblocked_at}
use Rattle.iox2_commands.specs.Step.{subscriber_at, loan_at, unwritten_at, written_at, with_cell_at, sendable_at}
use Rattle.iox2_commands.specs.Step.{blocked_at, sample_at, if_single_units, if_fixed_size, if_dynamic, if_channel}
use Rattle.iox2_commands.specs.Points.{PointOf}
use Rattle.iox2_commands.specs.Runs.{Defaults, RunFrom, RunTo, only_defaults}
use Rattle.iox2_commands.specs.Refusals.{TellNoRefusal, PublishersAreStatic, RefusesPort, RefuseNoPort, MetNoRefusal}
use Rattle.iox2_commands.specs.Refusals.{RunsWithoutRefusalsAreAmple, SubscribersAreIsolatedWithoutRefusals}
use Rattle.iox2_commands.specs.Refusals.{ViewsStayAlikeWithoutRefusals}
use Rattle.iox2_commands.specs.declared.command.Command.{Command}
use Rattle.iox2_commands.specs.declared.command.Command.TheVariants.{Nothing, CreatePublisher, CreateSubscriber}
use Rattle.iox2_commands.specs.declared.command.Command.TheVariants.{LoanUninit, Loan as LoanDefault, LoanSlice}
use Rattle.iox2_commands.specs.declared.command.Command.TheVariants.{WriteCell, WriteAll, AssumeInit, WriteHeader}
use Rattle.iox2_commands.specs.declared.command.Command.TheVariants.{SetPayload, Send, SendCopy, Discard, Retry, GiveUp}
use Rattle.iox2_commands.specs.declared.command.Command.TheVariants.{Update, Receive, HasSamples, Read, ReadHeader}
use Rattle.iox2_commands.specs.declared.command.Command.TheVariants.{ReadUserHeader, Release, Close}
use Rattle.iox2_commands.specs.declared.command.Command.TheVariants.{SendToConnection as SendLoanTo, ConnectionPlace}
use Rattle.iox2_commands.specs.declared.command.Command.TheVariants.{PublisherChannel, SubscriberChannel}
use Rattle.iox2_commands.specs.declared.new_publisher.NewPublisher.{NewPublisher}
use Rattle.iox2_commands.specs.declared.reply.Reply.{Reply}
use Rattle.iox2_commands.specs.declared.reply.Reply.TheVariants.{PublisherMade, Unwritten}
use Rattle.iox2_commands.proofs.EnoughRuns.{run_sound}
use Rattle.iox2_commands.proofs.Isolation.{subscribers_are_isolated, views_stay_alike}
use Rattle.iox2_commands.proofs.Points.{found_dropped, found_taken}
use Rattle.iox2_commands.proofs.StepLaws.{IsSound, step_sound}
use Rattle.iox2_commands.proofs.AlikeOpen.{state_publisher, state_subscriber, state_loan, state_update, state_question}
use Rattle.iox2_commands.proofs.AlikeOpen.{state_receive, state_send, state_retry}
use Rattle.iox2_commands.proofs.RefusalUpdates.{option_maps, update_publisher_back, update_subscriber_back}
use Rattle.iox2_commands.proofs.RefusalStates.{AllStatic, update_publisher_static, update_subscriber_static}
use Rattle.iox2_commands.proofs.RefusalStates.{receive_static, released_static, with_loan_static, grant_loan_static}
use Rattle.iox2_commands.proofs.RefusalStates.{grant_written_loan_static, loan_discarded_static, send_static}
use Rattle.iox2_commands.proofs.RefusalStates.{retry_static, give_up_static, create_publisher_static}
use Rattle.iox2_commands.proofs.RefusalStates.{create_subscriber_static, publisher_closed_static}
use Rattle.iox2_commands.proofs.RefusalStates.{subscriber_closed_static, connection_static, channels_static}
use Rattle.iox2_commands.proofs.RefusalSteps.{released_same, subscriber_closed_same, grant_loan_ample}
use Rattle.iox2_commands.proofs.RefusalSteps.{grant_written_loan_ample, send_ample, retry_ample, give_up_ample}
use Rattle.iox2_commands.proofs.RefusalSteps.{receive_ample, create_publisher_ample, create_subscriber_ample}
use Rattle.iox2_commands.proofs.RefusalSteps.{connection_ample}
use Rattle.iox2_commands.proofs.ChannelOutcomes.{OnChannels, on_channels}

-- A publisher that the command made, as the reply says, has its memory from the start.
abbrev MakesStatic : {T U : Type 0} → Command T U → Reply T U → Type 0
MakesStatic command reply = (asked : NewPublisher) (p : ℕ) → command ≡ CreatePublisher asked → reply ≡ PublisherMade p
    → asked.allocation ≡ Static

module _ {T U : Type 0} (default_value : T) (default_header : U) (m : Messages T U) (s : State T U)
    (handles : List Handle) (k : AllStatic s) where
  -- what holds of a state holds of that of an outcome
  by : (R : State T U → Type 0) (o x : Outcome T U) (s' : State T U) → o ≡ x → x.state ≡ s' → R s' → R o.state
  by R o x s' e f h = subst R (sym (ap (λ (v : Outcome T U). v.state) e ∙ f)) h

  -- and the other way round
  back : (R : State T U → Type 0) (o x : Outcome T U) (s' : State T U) → o ≡ x → x.state ≡ s' → R o.state → R s'
  back R o x s' e f h = subst R (ap (λ (v : Outcome T U). v.state) e ∙ f) h

  abbrev Told : State T U → Type 0
  Told z = TellNoRefusal z.warnings

  live_static : {A : Type 0} (o : Outcome T U) (named : Option A) (Then : A → Type 0)
      → MatchOption named (o ≡ skipped s) Then → ((x : A) → Then x → AllStatic o.state) → AllStatic o.state
  live_static o named Then h go =
      by_option (AllStatic o.state) named _ _ h (λ _ e. by AllStatic o (skipped s) s e refl k) (λ x _ h. go x h)

  live_told : {A : Type 0} (o : Outcome T U) (named : Option A) (Then : A → Type 0)
      → MatchOption named (o ≡ skipped s) Then → TellNoRefusal (o.state).warnings
      → ((x : A) → Then x → TellNoRefusal s.warnings) → TellNoRefusal s.warnings
  live_told o named Then h told go =
      by_option (TellNoRefusal s.warnings) named _ _ h (λ _ e. back Told o (skipped s) s e refl told) (λ x _ h. go x h)

  -- the count is the same where channels alone change
  channels_told : (o : Outcome T U) → OnChannels s o → TellNoRefusal (o.state).warnings → TellNoRefusal s.warnings
  channels_told o c told = back Told o _ (record s { channels = c.channels }) c.is refl told

  -- Publishers stay static, whether or not memory is refused.
  pub step_static : (command : Command T U) (o : Outcome T U) → MakesStatic command o.reply
      → Step fixed_handlers default_value default_header m s handles command o → AllStatic o.state
  step_static Nothing o plain h = by AllStatic o (done s) s h refl k
  step_static (CreatePublisher asked) o plain h =
      by AllStatic o _ h.0 h.3 (state_publisher h.0 s.next_port h.1)
      (create_publisher_static fixed_handlers s h.0 _ h.1
      (λ none. ap is_static (plain asked s.next_port refl (replied none))) h.2 k)
    where
      replied : h.1 ≡ None → o.reply ≡ PublisherMade s.next_port
      replied none = ap (λ (v : Outcome T U). v.reply) h.3
          ∙ ap (λ (r : Option PublisherCreateError). (after_publisher h.0 s.next_port r).reply) none
  step_static (CreateSubscriber buffer degradation) o plain h =
      by AllStatic o _ h.0 h.3 (state_subscriber h.0 s.next_port h.1)
      (create_subscriber_static fixed_handlers s h.0 _ h.1 h.2 k)
  step_static (LoanUninit of) o plain h =
      live_static o (if_single_units s (if_fixed_size s (unblocked_at s handles of))) _ h (λ publisher j.
      by AllStatic o _ j.0 j.3 (state_loan j.0 s.next_message j.1)
      (grant_loan_static fixed_handlers default_header false 1 s j.0 publisher.0 j.1 j.2 k))
  step_static (LoanDefault of) o plain h =
      live_static o (if_single_units s (if_fixed_size s (unblocked_at s handles of))) _ h (λ publisher j.
      by AllStatic o _ j.0 j.3 (state_loan j.0 s.next_message j.1)
      (grant_written_loan_static fixed_handlers default_value default_header false 1 s j.0 publisher.0 j.1 j.2 k))
  step_static (LoanSlice of len) o plain h =
      live_static o (if_single_units s (if_dynamic s (unblocked_at s handles of))) _ h (λ publisher j.
      by AllStatic o _ j.0 j.3 (state_loan j.0 s.next_message j.1)
      (grant_loan_static fixed_handlers default_header true len s j.0 publisher.0 j.1 j.2 k))
  step_static (WriteCell of at value) o plain h = live_static o (with_cell_at at (unwritten_at s handles of)) _ h
      (λ loan j. by AllStatic o _ _ j refl (with_loan_static s loan.0 _ k))
  step_static (WriteAll of value) o plain h = live_static o (unwritten_at s handles of) _ h
      (λ loan j. by AllStatic o _ _ j refl (with_loan_static s loan.0 _ k))
  step_static (AssumeInit of) o plain h =
      live_static o (unwritten_at s handles of) _ h (λ loan j.
      subst (λ (v : Outcome T U). AllStatic v.state) (sym j)
      (elim (is_initialized loan.1) as (λ c.
      AllStatic (cond c (done (initialized s loan.0 loan.1)) (replied Unwritten s)).state)
      [ true ↦ with_loan_static s loan.0 _ k | false ↦ k ]))
  step_static (WriteHeader of value) o plain h =
      live_static o (loan_at s handles of) _ h (λ loan j. by AllStatic o _ _ j refl (with_loan_static s loan.0 _ k))
  step_static (SetPayload of at value) o plain h = live_static o (with_cell_at at (written_at s handles of)) _ h
      (λ loan j. by AllStatic o _ _ j refl (with_loan_static s loan.0 _ k))
  step_static (Send of) o plain h =
      live_static o (sendable_at s handles of) _ h
      (λ loan j. by AllStatic o _ j.0 j.3 (state_send j.0 _ _ _ j.1)
      (send_static fixed_handlers s j.0 loan.0 loan.1 j.1 j.2 k))
  step_static (SendLoanTo of channel place) o plain h =
      live_static o (if_channel s channel (sendable_at s handles of)) _ h (λ loan j.
      by AllStatic o _ j.0 j.3 (state_send j.0 _ _ _ j.1)
      (connection_static fixed_handlers s j.0 loan.0 loan.1 channel place j.1 j.2 k))
  step_static (SendCopy of value) o plain h =
      live_static o (if_single_units s (if_fixed_size s (unblocked_at s handles of))) _ h (λ publisher j.
      let mid : AllStatic j.0 =
      grant_written_loan_static fixed_handlers value default_header false 1 s j.0 publisher.0 j.1 j.2 k in
      by_option (AllStatic o.state) j.1 _ _ j.3
      (λ _ i. by_option (AllStatic o.state) ((j.0).loans s.next_message) _ _ i (λ _ v. absurd v) (λ loan _ i.
      by AllStatic o _ i.0 i.3 (state_send i.0 _ _ _ i.1)
      (send_static fixed_handlers j.0 i.0 s.next_message loan i.1 i.2 mid)))
      (λ e _ i. by AllStatic o _ j.0 i refl mid))
  step_static (Discard of) o plain h = live_static o (loan_at s handles of) _ h
      (λ loan j. by AllStatic o _ _ j refl (loan_discarded_static s loan.0 loan.1 k))
  step_static (Retry of elapsed) o plain h =
      live_static o (blocked_at s handles of) _ h
      (λ blocked j. by AllStatic o _ j.0 j.3 (state_retry j.0 j.1)
      (retry_static fixed_handlers s j.0 blocked.0 blocked.1 elapsed j.1 j.2 k))
  step_static (GiveUp of) o plain h =
      live_static o (blocked_at s handles of) _ h
      (λ blocked j. by AllStatic o _ j.0 j.3 (state_retry j.0 j.1)
      (give_up_static fixed_handlers s j.0 blocked.0 blocked.1 j.1 j.2 k))
  step_static (Update of) o plain h =
      by_option (AllStatic o.state) (unblocked_at s handles of) _ _ h
      (λ _ j. live_static o (subscriber_at s handles of) _ j
      (λ subscriber j. by AllStatic o _ j.0 j.3 (state_update j.0 j.1)
      (update_subscriber_static fixed_handlers s j.0 subscriber.0 j.1 j.2 k)))
      (λ publisher _ j. by AllStatic o _ j.0 j.3 (state_update j.0 j.1)
      (update_publisher_static fixed_handlers s j.0 publisher.0 j.1 j.2 k))
  step_static (Receive of) o plain h =
      live_static o (if_single_units s (subscriber_at s handles of)) _ h (λ subscriber j.
      by AllStatic o _ j.0 j.3 (state_receive j.0 subscriber.0 j.1)
      (receive_static fixed_handlers s j.0 subscriber.0 j.1 j.2 k))
  step_static (HasSamples of) o plain h =
      live_static o (subscriber_at s handles of) _ h (λ subscriber j.
      by AllStatic o _ j.0 j.4 (state_question j.0 j.1 j.2)
      (update_subscriber_static fixed_handlers s j.0 subscriber.0 j.1 (j.3).0 k))
  step_static (Read of at) o plain h =
      by_option (AllStatic o.state) (sample_at s handles of) _ _ h
      (λ _ j. live_static o (with_cell_at at (loan_at s handles of)) _ j (λ loan j.
      by_option (AllStatic o.state) (slice_get (loan.1).cells at) _ _ j (λ _ v. absurd v)
      (λ cell _ e. by AllStatic o _ s e refl k)))
      (λ sample _ j. by_option (AllStatic o.state) (m sample.2) _ _ j (λ _ v. absurd v)
      (λ entry _ j. live_static o (slice_get entry.values at) _ j (λ value e. by AllStatic o _ s e refl k)))
  step_static (ReadHeader of) o plain h =
      by_option (AllStatic o.state) (sample_at s handles of) _ _ h
      (λ _ j. live_static o (loan_at s handles of) _ j (λ loan e. by AllStatic o _ s e refl k))
      (λ sample _ j.
      by_option (AllStatic o.state) (m sample.2) _ _ j (λ _ v. absurd v) (λ entry _ e. by AllStatic o _ s e refl k))
  step_static (ReadUserHeader of) o plain h =
      by_option (AllStatic o.state) (sample_at s handles of) _ _ h
      (λ _ j. live_static o (loan_at s handles of) _ j (λ loan e. by AllStatic o _ s e refl k))
      (λ sample _ j.
      by_option (AllStatic o.state) (m sample.2) _ _ j (λ _ v. absurd v) (λ entry _ e. by AllStatic o _ s e refl k))
  step_static (Release of) o plain h = live_static o (sample_at s handles of) _ h
      (λ sample j. by AllStatic o _ _ j refl (released_static s sample.0 sample.1 sample.2 k))
  step_static (Close of) o plain h =
      by_option (AllStatic o.state) (unblocked_at s handles of) _ _ h
      (λ _ j. live_static o (subscriber_at s handles of) _ j
      (λ subscriber j. by AllStatic o _ _ j refl (subscriber_closed_static s subscriber.0 subscriber.1 k)))
      (λ publisher _ j. by AllStatic o _ _ j refl (publisher_closed_static s publisher.0 publisher.1 k))
  step_static (ConnectionPlace of receiver) o plain h = channels_static s o
      (on_channels fixed_handlers default_value default_header m s handles (ConnectionPlace of receiver) o refl h) k
  step_static (PublisherChannel of channel place call) o plain h =
      channels_static s o (on_channels fixed_handlers default_value default_header m s handles
      (PublisherChannel of channel place call) o refl h) k
  step_static (SubscriberChannel of channel call) o plain h =
      channels_static s o (on_channels fixed_handlers default_value default_header m s handles
      (SubscriberChannel of channel call) o refl h) k

  -- Where the count is 0 after a step, and its reply tells of no refusal, it is a step with ample memory, and the count
  -- was 0 before it.
  pub step_ample : (command : Command T U) (o : Outcome T U) → (RefusesPort s.config command o.reply → ⊥)
      → TellNoRefusal (o.state).warnings
      → Step fixed_handlers default_value default_header m s handles command o
      → Step ample_memory default_value default_header m s handles command o × TellNoRefusal s.warnings
  step_ample Nothing o port told h = (h, back Told o (done s) s h refl told)
  step_ample (CreatePublisher asked) o port told h =
      let given : PublisherSettings = publisher_settings (s.config).variant asked in
      let replied : (e : PublisherCreateError) → h.1 ≡ Some e
      → o.reply ≡ (after_publisher h.0 s.next_port (Some e)).reply =
      λ e some. ap (λ (v : Outcome T U). v.reply) h.3
      ∙ ap (λ (r : Option PublisherCreateError). (after_publisher h.0 s.next_port r).reply) some in
      let went = create_publisher_ample s h.0 given
      (back Told o _ h.0 h.3 (state_publisher h.0 s.next_port h.1) told) h.1
      (λ fit some. port
      (subst (RefusesPort s.config (CreatePublisher asked)) (sym (replied UnableToCreateDataSegment some)) fit))
      (λ some. port (subst (RefusesPort s.config (CreatePublisher asked)) (sym (replied NoPublisherState some)) tt))
      h.2 in
      ((h.0, h.1, went.0, h.3), went.1)
  step_ample (CreateSubscriber buffer degradation) o port told h =
      let replied : (e : SubscriberCreateError) → h.1 ≡ Some e
      → o.reply ≡ (after_subscriber h.0 s.next_port (Some e)).reply =
      λ e some. ap (λ (v : Outcome T U). v.reply) h.3
      ∙ ap (λ (r : Option SubscriberCreateError). (after_subscriber h.0 s.next_port r).reply) some in
      let went = create_subscriber_ample s h.0
      (record {
        buffer_size = elim buffer [ None ↦ buffer_limit s.config | Some size ↦ size ];
        degradation_handler = Fixed degradation;
      })
      (back Told o _ h.0 h.3 (state_subscriber h.0 s.next_port h.1) told) h.1
      (λ some. port (subst (RefusesPort s.config (CreateSubscriber buffer degradation))
      (sym (replied NoSubscriberState some)) tt)) h.2 in
      ((h.0, h.1, went.0, h.3), went.1)
  step_ample (LoanUninit of) o port told h = (
    option_maps (if_single_units s (if_fixed_size s (unblocked_at s handles of))) _ _ _ _ h (λ e. e)
        (λ publisher _ j. (j.0, j.1, (grant_loan_ample default_header false 1 s j.0 publisher.0 j.1 k j.2).0, j.3)),
    live_told o (if_single_units s (if_fixed_size s (unblocked_at s handles of))) _ h told (λ publisher j.
        subst TellNoRefusal (grant_loan_ample default_header false 1 s j.0 publisher.0 j.1 k j.2).1
        (back Told o _ j.0 j.3 (state_loan j.0 s.next_message j.1) told)),
  )
  step_ample (LoanDefault of) o port told h = (
    option_maps (if_single_units s (if_fixed_size s (unblocked_at s handles of))) _ _ _ _ h (λ e. e)
        (λ publisher _ j. (
          j.0,
          j.1,
          (grant_written_loan_ample default_value default_header false 1 s j.0 publisher.0 j.1 k j.2).0,
          j.3,
        )),
    live_told o (if_single_units s (if_fixed_size s (unblocked_at s handles of))) _ h told (λ publisher j.
        subst TellNoRefusal (grant_written_loan_ample default_value default_header false 1 s j.0 publisher.0 j.1 k
        j.2).1 (back Told o _ j.0 j.3 (state_loan j.0 s.next_message j.1) told)),
  )
  step_ample (LoanSlice of len) o port told h = (
    option_maps (if_single_units s (if_dynamic s (unblocked_at s handles of))) _ _ _ _ h (λ e. e)
        (λ publisher _ j. (j.0, j.1, (grant_loan_ample default_header true len s j.0 publisher.0 j.1 k j.2).0, j.3)),
    live_told o (if_single_units s (if_dynamic s (unblocked_at s handles of))) _ h told (λ publisher j.
        subst TellNoRefusal (grant_loan_ample default_header true len s j.0 publisher.0 j.1 k j.2).1
        (back Told o _ j.0 j.3 (state_loan j.0 s.next_message j.1) told)),
  )
  step_ample (WriteCell of at value) o port told h =
      (h, live_told o (with_cell_at at (unwritten_at s handles of)) _ h told (λ loan j. back Told o _ _ j refl told))
  step_ample (WriteAll of value) o port told h =
      (h, live_told o (unwritten_at s handles of) _ h told (λ loan j. back Told o _ _ j refl told))
  step_ample (AssumeInit of) o port told h = (
    h,
    live_told o (unwritten_at s handles of) _ h told (λ loan j.
        (elim (is_initialized loan.1) as (λ c.
        TellNoRefusal ((cond c (done (initialized s loan.0 loan.1)) (replied Unwritten s)).state).warnings
        → TellNoRefusal s.warnings) [ true ↦ λ after. after | false ↦ λ after. after ])
        (subst (λ (v : Outcome T U). TellNoRefusal (v.state).warnings) j told)),
  )
  step_ample (WriteHeader of value) o port told h =
      (h, live_told o (loan_at s handles of) _ h told (λ loan j. back Told o _ _ j refl told))
  step_ample (SetPayload of at value) o port told h =
      (h, live_told o (with_cell_at at (written_at s handles of)) _ h told (λ loan j. back Told o _ _ j refl told))
  step_ample (Send of) o port told h = (
    option_maps (sendable_at s handles of) _ _ _ _ h (λ e. e)
        (λ loan _ j. (
          j.0,
          j.1,
          (send_ample s j.0 loan.0 loan.1 j.1 (back Told o _ j.0 j.3 (state_send j.0 _ _ _ j.1) told) j.2).0,
          j.3,
        )),
    live_told o (sendable_at s handles of) _ h told
        (λ loan j. (send_ample s j.0 loan.0 loan.1 j.1 (back Told o _ j.0 j.3 (state_send j.0 _ _ _ j.1) told) j.2).1),
  )
  step_ample (SendLoanTo of channel place) o port told h = (
    option_maps (if_channel s channel (sendable_at s handles of)) _ _ _ _ h (λ e. e)
        (λ loan _ j. (j.0, j.1, (connection_ample s j.0 loan.0 loan.1 channel place j.1 j.2).0, j.3)),
    live_told o (if_channel s channel (sendable_at s handles of)) _ h told (λ loan j.
        subst TellNoRefusal (connection_ample s j.0 loan.0 loan.1 channel place j.1 j.2).1
        (back Told o _ j.0 j.3 (state_send j.0 _ _ _ j.1) told)),
  )
  step_ample (SendCopy of value) o port told h = (
    option_maps (if_single_units s (if_fixed_size s (unblocked_at s handles of))) _ _ _ _ h (λ e. e) (λ publisher _ j. (
      j.0,
      j.1,
      (grant_written_loan_ample value default_header false 1 s j.0 publisher.0 j.1 k j.2).0,
      option_maps j.1 _ _ _ _ j.3
          (λ i. option_maps ((j.0).loans s.next_message) _ _ _ _ i (λ v. v)
          (λ loan _ i. (
            i.0,
            i.1,
            (send_ample j.0 i.0 s.next_message loan i.1
                (back Told o _ i.0 i.3 (state_send i.0 _ _ _ i.1) told) i.2).0,
            i.3,
          )))
          (λ e _ i. i),
    )),
    live_told o (if_single_units s (if_fixed_size s (unblocked_at s handles of))) _ h told (λ publisher j.
        subst TellNoRefusal (grant_written_loan_ample value default_header false 1 s j.0 publisher.0 j.1 k j.2).1
        (by_option (TellNoRefusal (j.0).warnings) j.1 _ _ j.3
        (λ _ i. by_option (TellNoRefusal (j.0).warnings) ((j.0).loans s.next_message) _ _ i (λ _ v. absurd v)
        (λ loan _ i.
        (send_ample j.0 i.0 s.next_message loan i.1 (back Told o _ i.0 i.3 (state_send i.0 _ _ _ i.1) told) i.2).1))
        (λ e _ i. back Told o _ j.0 i refl told))),
  )
  step_ample (Discard of) o port told h =
      (h, live_told o (loan_at s handles of) _ h told (λ loan j. back Told o _ _ j refl told))
  step_ample (Retry of elapsed) o port told h = (
    option_maps (blocked_at s handles of) _ _ _ _ h (λ e. e)
        (λ blocked _ j. (j.0, j.1, (retry_ample s j.0 blocked.0 blocked.1 elapsed j.1 j.2).0, j.3)),
    live_told o (blocked_at s handles of) _ h told (λ blocked j.
        subst TellNoRefusal (retry_ample s j.0 blocked.0 blocked.1 elapsed j.1 j.2).1
        (back Told o _ j.0 j.3 (state_retry j.0 j.1) told)),
  )
  step_ample (GiveUp of) o port told h = (
    option_maps (blocked_at s handles of) _ _ _ _ h (λ e. e)
        (λ blocked _ j. (j.0, j.1, (give_up_ample s j.0 blocked.0 blocked.1 j.1 j.2).0, j.3)),
    live_told o (blocked_at s handles of) _ h told (λ blocked j.
        subst TellNoRefusal (give_up_ample s j.0 blocked.0 blocked.1 j.1 j.2).1
        (back Told o _ j.0 j.3 (state_retry j.0 j.1) told)),
  )
  step_ample (Update of) o port told h = (
    option_maps (unblocked_at s handles of) _ _ _ _ h
        (λ j. option_maps (subscriber_at s handles of) _ _ _ _ j (λ e. e)
        (λ subscriber _ j. (
          j.0,
          j.1,
          (update_subscriber_back s j.0 subscriber.0 j.1
              (back Told o _ j.0 j.3 (state_update j.0 j.1) told) j.2).0,
          j.3,
        )))
        (λ publisher _ j. (
          j.0,
          j.1,
          (update_publisher_back s j.0 publisher.0 j.1
              (back Told o _ j.0 j.3 (state_update j.0 j.1) told) j.2).0,
          j.3,
        )),
    by_option (TellNoRefusal s.warnings) (unblocked_at s handles of) _ _ h
        (λ _ j. live_told o (subscriber_at s handles of) _ j told (λ subscriber j.
        (update_subscriber_back s j.0 subscriber.0 j.1 (back Told o _ j.0 j.3 (state_update j.0 j.1) told) j.2).1))
        (λ publisher _ j.
        (update_publisher_back s j.0 publisher.0 j.1 (back Told o _ j.0 j.3 (state_update j.0 j.1) told) j.2).1),
  )
  step_ample (Receive of) o port told h = (
    option_maps (if_single_units s (subscriber_at s handles of)) _ _ _ _ h (λ e. e)
        (λ subscriber _ j. (
          j.0,
          j.1,
          (receive_ample s j.0 subscriber.0 j.1
              (back Told o _ j.0 j.3 (state_receive j.0 subscriber.0 j.1) told) j.2).0,
          j.3,
        )),
    live_told o (if_single_units s (subscriber_at s handles of)) _ h told (λ subscriber j.
        (receive_ample s j.0 subscriber.0 j.1 (back Told o _ j.0 j.3 (state_receive j.0 subscriber.0 j.1) told) j.2).1),
  )
  step_ample (HasSamples of) o port told h = (
    option_maps (subscriber_at s handles of) _ _ _ _ h (λ e. e)
        (λ subscriber _ j. (
          j.0,
          j.1,
          j.2,
          (
            (update_subscriber_back s j.0 subscriber.0 j.1 (back Told o _ j.0 j.4 (state_question j.0 j.1 j.2) told)
                (j.3).0).0,
            (j.3).1,
          ),
          j.4,
        )),
    live_told o (subscriber_at s handles of) _ h told (λ subscriber j.
        (update_subscriber_back s j.0 subscriber.0 j.1 (back Told o _ j.0 j.4 (state_question j.0 j.1 j.2) told)
        (j.3).0).1),
  )
  step_ample (Read of at) o port told h = (
    h,
    by_option (TellNoRefusal s.warnings) (sample_at s handles of) _ _ h
        (λ _ j. live_told o (with_cell_at at (loan_at s handles of)) _ j told (λ loan j.
        by_option (TellNoRefusal s.warnings) (slice_get (loan.1).cells at) _ _ j (λ _ v. absurd v)
        (λ cell _ e. back Told o _ s e refl told)))
        (λ sample _ j. by_option (TellNoRefusal s.warnings) (m sample.2) _ _ j (λ _ v. absurd v)
        (λ entry _ j. live_told o (slice_get entry.values at) _ j told (λ value e. back Told o _ s e refl told))),
  )
  step_ample (ReadHeader of) o port told h = (
    h,
    by_option (TellNoRefusal s.warnings) (sample_at s handles of) _ _ h
        (λ _ j. live_told o (loan_at s handles of) _ j told (λ loan e. back Told o _ s e refl told))
        (λ sample _ j. by_option (TellNoRefusal s.warnings) (m sample.2) _ _ j (λ _ v. absurd v)
        (λ entry _ e. back Told o _ s e refl told)),
  )
  step_ample (ReadUserHeader of) o port told h = (
    h,
    by_option (TellNoRefusal s.warnings) (sample_at s handles of) _ _ h
        (λ _ j. live_told o (loan_at s handles of) _ j told (λ loan e. back Told o _ s e refl told))
        (λ sample _ j. by_option (TellNoRefusal s.warnings) (m sample.2) _ _ j (λ _ v. absurd v)
        (λ entry _ e. back Told o _ s e refl told)),
  )
  step_ample (Release of) o port told h = (
    h,
    live_told o (sample_at s handles of) _ h told
        (λ sample j. subst TellNoRefusal (released_same s sample.0 sample.1 sample.2) (back Told o _ _ j refl told)),
  )
  step_ample (Close of) o port told h = (
    h,
    by_option (TellNoRefusal s.warnings) (unblocked_at s handles of) _ _ h
        (λ _ j. live_told o (subscriber_at s handles of) _ j told (λ subscriber j.
        subst TellNoRefusal (subscriber_closed_same s subscriber.0 subscriber.1) (back Told o _ _ j refl told)))
        (λ publisher _ j. back Told o _ _ j refl told),
  )
  step_ample (ConnectionPlace of receiver) o port told h = (
    h,
    channels_told o (on_channels fixed_handlers default_value default_header m s handles
        (ConnectionPlace of receiver) o refl h) told,
  )
  step_ample (PublisherChannel of channel place call) o port told h = (
    h,
    channels_told o (on_channels fixed_handlers default_value default_header m s handles
        (PublisherChannel of channel place call) o refl h) told,
  )
  step_ample (SubscriberChannel of channel call) o port told h = (
    h,
    channels_told o (on_channels fixed_handlers default_value default_header m s handles
        (SubscriberChannel of channel call) o refl h) told,
  )

module _ {T U : Type 0} where
  -- what publishers that were made say of the first command
  first_static : (command : Command T U) (reply : Reply T U) (commands : List (Command T U))
      (replies : List (Reply T U)) (given : Reply T U) → given ≡ reply
      → PublishersAreStatic (command ∷ commands) (reply ∷ replies) → MakesStatic command given
  first_static command reply commands replies given same plain asked p e made =
      plain 0 p asked (ap Some e) (ap Some (sym same ∙ made))

  -- and of the first n
  static_taken : (n : ℕ) (commands : List (Command T U)) (replies : List (Reply T U))
      → PublishersAreStatic commands replies → PublishersAreStatic (take n commands) (take n replies)
  static_taken n commands replies plain i p asked e made =
      plain i p asked (found_taken commands n i (CreatePublisher asked) e).1
      (found_taken replies n i (PublisherMade p) made).1

  -- and of the others
  static_dropped : (n : ℕ) (commands : List (Command T U)) (replies : List (Reply T U))
      → PublishersAreStatic commands replies → PublishersAreStatic (drop n commands) (drop n replies)
  static_dropped n commands replies plain i p asked e made =
      plain (n + i) p asked (sym (found_dropped commands n i) ∙ e) (sym (found_dropped replies n i) ∙ made)

module _ {T U : Type 0} (defaults : Defaults T U) where
  -- A run after which the count is 0, and whose replies tell of no refused memory, is one with ample memory, and the
  -- count was 0 before it.
  pub run_ample : (m : Messages T U) (s : State T U) (handles : List Handle) (commands : List (Command T U))
      (replies : List (Reply T U)) (events : List (Event T U))
      (m' : Messages T U) (s' : State T U) (handles' : List Handle) → IsWellFormed s → AllStatic s
      → PublishersAreStatic commands replies → RefuseNoPort s.config commands replies
      → TellNoRefusal s'.warnings → RunTo fixed_handlers defaults m s handles commands replies events m' s' handles'
      → RunTo ample_memory defaults m s handles commands replies events m' s' handles' × TellNoRefusal s.warnings
  run_ample m s handles [] [] [] m' s' handles' w k plain ports told h =
      (h, subst (λ (z : State T U). TellNoRefusal z.warnings) h.1 told)
  run_ample m s handles (command ∷ commands) (reply ∷ replies) (event ∷ events) m' s' handles' w k plain ports told h =
      let sound : IsSound s h.4 = step_sound fixed_handlers h.0 h.1 m s handles w command h.4 h.5 in
      let static : MakesStatic command (h.4).reply =
      first_static command reply commands replies (h.4).reply h.6 plain in
      let rest = run_ample (messages_after (h.4).event m) (h.4).state
      (handles ++ (h.4).handle ∷ []) commands replies events m' s' handles' sound.well_formed
      (step_static h.0 h.1 m s handles k command h.4 static h.5) (λ i. plain (suc i))
      (subst (λ (c : ServiceConfig). RefuseNoPort c commands replies) (sym (sound.advances).config) ports.1) told h.8 in
      let first = step_ample h.0 h.1 m s handles k command h.4
      (λ refuses. ports.0 (subst (RefusesPort s.config command) h.6 refuses)) rest.1 h.5 in
      ((h.0, h.1, h.2, h.3, h.4, first.0, h.6, h.7, rest.0), first.1)
  run_ample m s handles _ _ _ m' s' handles' w k plain ports told h = absurd h

module _ {T U : Type 0} where
  -- a new domain has no port
  none_static : (c : ServiceConfig) → AllStatic (fresh {T = T} {U = U} c)
  none_static c = record { publishers = λ i x e. absurd (none-some x e) }

  -- The law of runs without refusals.
  pub runs_without_refusals : RunsWithoutRefusalsAreAmple T U
  runs_without_refusals default_value default_header c commands replies events m s handles plain met h =
      (run_ample (only_defaults default_value default_header) no_messages (fresh c) [] commands replies events m s
      handles (fresh_is_well_formed c) (none_static c) plain met.ports met.told h).0

  -- And of two of them.
  pub isolated_without_refusals : SubscribersAreIsolatedWithoutRefusals T U
  isolated_without_refusals default_value default_header c position q commands reduced later replies replies' events
      events' m m' s s' handles handles' plain plain' met met' omits independent h h' made same =
      subscribers_are_isolated default_value default_header c position q commands reduced later replies replies' events
      events' m m' s s' handles handles' omits independent
      (runs_without_refusals default_value default_header c commands replies events m s handles plain met h)
      (runs_without_refusals default_value default_header c reduced replies' events' m' s' handles' plain' met' h') made
      same

  -- ---- at each point

  -- the first commands of a run that met no refusal met none
  refuse_no_port_taken : (c : ServiceConfig) (n : ℕ) (commands : List (Command T U)) (replies : List (Reply T U))
      → RefuseNoPort c commands replies → RefuseNoPort c (take n commands) (take n replies)
  refuse_no_port_taken c zero commands replies h = tt
  refuse_no_port_taken c (suc n) [] replies h = tt
  refuse_no_port_taken c (suc n) (command ∷ commands) [] h = tt
  refuse_no_port_taken c (suc n) (command ∷ commands) (reply ∷ replies) h =
      (h.0, refuse_no_port_taken c n commands replies h.1)

  -- nor did the others
  refuse_no_port_dropped : (c : ServiceConfig) (n : ℕ) (commands : List (Command T U)) (replies : List (Reply T U))
      → RefuseNoPort c commands replies → RefuseNoPort c (drop n commands) (drop n replies)
  refuse_no_port_dropped c zero commands replies h = h
  refuse_no_port_dropped c (suc n) [] replies h = tt
  refuse_no_port_dropped c (suc n) (command ∷ commands) [] h = nothing_replied (drop n commands) where
    nothing_replied : (rest : List (Command T U)) → RefuseNoPort c rest []
    nothing_replied [] = tt
    nothing_replied (next ∷ rest) = tt
  refuse_no_port_dropped c (suc n) (command ∷ commands) (reply ∷ replies) h =
      refuse_no_port_dropped c n commands replies h.1

  module _ (defaults : Defaults T U) where
    -- Publishers are static at the end of a run as at its start.
    run_static : (m : Messages T U) (s : State T U) (handles : List Handle) (commands : List (Command T U))
        (replies : List (Reply T U)) (events : List (Event T U))
        (m' : Messages T U) (s' : State T U) → AllStatic s → PublishersAreStatic commands replies
        → RunFrom fixed_handlers defaults m s handles commands replies events m' s' → AllStatic s'
    run_static m s handles [] [] [] m' s' k plain h = subst AllStatic (sym (h.1).1) k
    run_static m s handles (command ∷ commands) (reply ∷ replies) (event ∷ events) m' s' k plain h =
        run_static (messages_after ((h.1).4).event m) ((h.1).4).state
        (handles ++ ((h.1).4).handle ∷ []) commands replies events m' s'
        (step_static (h.1).0 (h.1).1 m s handles k command (h.1).4
        (first_static command reply commands replies ((h.1).4).reply (h.1).6 plain) (h.1).5) (λ i. plain (suc i))
        (h.0, (h.1).8)
    run_static m s handles _ _ _ m' s' k plain h = absurd h.1

    -- A point of a run that met no refusal is one of a run with ample memory.
    point_ample : (c : ServiceConfig) (n : ℕ) (commands : List (Command T U)) (replies : List (Reply T U))
        (events : List (Event T U)) (m' : Messages T U) (s' : State T U)
        → PublishersAreStatic commands replies → MetNoRefusal c commands replies s'.warnings
        → (x : PointOf fixed_handlers defaults no_messages (fresh c) commands replies events m' s' n)
        → RunTo ample_memory defaults no_messages (fresh c) [] (take n commands) (take n replies)
        (take n events) x.messages x.state x.handles
        × RunFrom ample_memory defaults x.messages x.state x.handles (drop n commands) (drop n replies)
        (drop n events) m' s'
    point_ample c n commands replies events m' s' plain met x =
        let before : RunFrom fixed_handlers defaults no_messages (fresh c) [] (take n commands) (take n replies)
        (take n events) x.messages x.state =
        (x.handles, x.before) in
        let sound : IsWellFormed x.state × Advances (fresh {T = T} {U = U} c) x.state =
        run_sound fixed_handlers defaults no_messages (fresh c) [] (take n commands) (take n replies)
        (take n events) x.messages x.state (fresh_is_well_formed c) before in
        let static : AllStatic x.state =
        run_static no_messages (fresh c) [] (take n commands) (take n replies) (take n events) x.messages x.state
        (none_static c) (static_taken n commands replies plain) before in
        let after = run_ample defaults x.messages x.state x.handles (drop n commands) (drop n replies)
        (drop n events) m' s' (x.after).0 sound.0 static (static_dropped n commands replies plain)
        (subst (λ (v : ServiceConfig). RefuseNoPort v (drop n commands) (drop n replies)) (sym (sound.1).config)
        (refuse_no_port_dropped c n commands replies met.ports)) met.told (x.after).1 in
        let first = run_ample defaults no_messages (fresh c) [] (take n commands) (take n replies)
        (take n events) x.messages x.state x.handles (fresh_is_well_formed c) (none_static c)
        (static_taken n commands replies plain)
        (refuse_no_port_taken c n commands replies met.ports) after.1 x.before in
        (first.0, ((x.after).0, after.0))

  -- The law of views at each point, for two runs without refusals.
  pub views_without_refusals : ViewsStayAlikeWithoutRefusals T U
  views_without_refusals default_value default_header c position q n commands reduced replies replies' events events' m
      m' s s' plain plain' met met' omits independent made same x y =
      let first =
      point_ample (only_defaults default_value default_header) c n commands replies events m s plain met x in
      let second =
      point_ample (only_defaults default_value default_header) c n reduced replies' events' m' s' plain' met' y in
      views_stay_alike default_value default_header c position q n commands reduced replies replies' events events' m m'
      s s' omits independent made same
      (record { messages = x.messages; state = x.state; handles = x.handles; before = first.0; after = first.1 })
      (record { messages = y.messages; state = y.state; handles = y.handles; before = second.0; after = second.1 })
