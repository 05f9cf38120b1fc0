-- A subscriber's call is to another subscriber as if nothing was done.
use Rattle.std.proofs.Common.{◌≡◌, ℕ, Bool, true, false, cond, List, refl, sym, ap, subst, ◌∙◌, Option, None, Some, eqb}
use Rattle.std.specs.Prelude.{slice_get}
use Rattle.std.specs.Option.{MatchOption}
use Rattle.std.proofs.lemmas.Bool.{eqb-false, ne_eqb}
use Rattle.std.proofs.lemmas.Option.{none-some, same_Some}
use Rattle.iox2_machine.specs.machine.Records.{Entry, Loan, Subscriber}
use Rattle.iox2_machine.specs.machine.State.{State, Messages}
use Rattle.iox2_machine.specs.machine.Receives.{ReceiveResult, Got_sample, No_sample, Receive_error}
use Rattle.iox2_machine.specs.declared.errors.ConnectionFailure.{ConnectionFailure}
use Rattle.iox2_laws.proofs.Cases.{by_option}
use Rattle.iox2_machine.specs.machine.Environments.{ample_memory}
use Rattle.iox2_commands.specs.Isolation.{is_of_others, subscriber_call}
use Rattle.iox2_commands.specs.Outcomes.{Handle, No_handle, Sample_handle, Outcome, done, skipped}
use Rattle.iox2_commands.specs.Step.{Step, after_receive, after_update, after_question, unblocked_at, subscriber_at}
use Rattle.iox2_commands.specs.Step.{sample_at, loan_at, with_cell_at, if_single_units, if_channel}
use Rattle.iox2_commands.specs.declared.command.Command.{Command}
use Rattle.iox2_commands.specs.declared.command.Command.TheVariants.{Nothing, CreatePublisher, CreateSubscriber}
use Rattle.iox2_commands.specs.declared.command.Command.TheVariants.{LoanUninit, Loan as LoanDefault, LoanSlice}
use Rattle.iox2_commands.specs.declared.command.Command.TheVariants.{WriteCell, WriteAll, AssumeInit, WriteHeader}
use Rattle.iox2_commands.specs.declared.command.Command.TheVariants.{SetPayload, Send, SendCopy, Discard, Retry, GiveUp}
use Rattle.iox2_commands.specs.declared.command.Command.TheVariants.{Update, Receive, HasSamples, Read, ReadHeader}
use Rattle.iox2_commands.specs.declared.command.Command.TheVariants.{ReadUserHeader, Release, Close}
use Rattle.iox2_commands.specs.declared.command.Command.TheVariants.{SendToConnection as SendLoanTo, ConnectionPlace}
use Rattle.iox2_commands.specs.declared.command.Command.TheVariants.{PublisherChannel, SubscriberChannel}
use Rattle.iox2_commands.specs.declared.reply.Reply.{Reply}
use Rattle.iox2_commands.proofs.Named.{in_single_units, has_channel}
use Rattle.iox2_commands.proofs.HeaderReads.{ReadsHeader}
use Rattle.iox2_commands.proofs.AlikeViews.{view_of}
use Rattle.iox2_commands.proofs.AlikeReceives.{IsAlike, alike_equal}
use Rattle.iox2_commands.proofs.AlikeNamed.{names_subscriber, names_sample, others_no_subscriber, others_no_sample}
use Rattle.iox2_commands.proofs.AlikeNamed.{no_publisher_at, subscriber_apart, sample_apart}
use Rattle.iox2_machine.specs.machine.SubscriberUpdate.{UpdateSubscriber}
use Rattle.iox2_commands.proofs.ApartSteps.{AllOpen, update_apart, receive_apart, released_apart}
use Rattle.iox2_commands.specs.declared.channel_calls.SubscriberChannelCall.{SubscriberChannelCall}
use Rattle.iox2_commands.proofs.AlikeChannels.{subscriber_channel_apart}

module _ {T U : Type 0} (q : ℕ) where
  -- a receive of another subscriber, as an outcome
  after_receive_apart : (s s' : State T U) (r : ℕ) (result : ReceiveResult) → eqb q r ≡ false
      → view_of q s' ≡ view_of q s
      → IsAlike q (after_receive s' r result) (done s)
  after_receive_apart s s' r (Got_sample p n) apart e = record {
    state = e;
    event = refl;
    handle =
        ap (λ (b : Bool). cond b (Sample_handle p r n) No_handle) (ne_eqb r q (λ same. eqb-false q r apart (sym same)));
  }
  after_receive_apart s s' r No_sample apart e = record { state = e; event = refl; handle = refl }
  after_receive_apart s s' r (Receive_error x) apart e = record { state = e; event = refl; handle = refl }

  after_update_apart : (s s' : State T U) (failure : Option ConnectionFailure) → view_of q s' ≡ view_of q s
      → IsAlike q (after_update s' failure) (done s)
  after_update_apart s s' None e = record { state = e; event = refl; handle = refl }
  after_update_apart s s' (Some x) e = record { state = e; event = refl; handle = refl }

  after_question_apart : (s s' : State T U) (failure : Option ConnectionFailure) (has : Bool)
      → view_of q s' ≡ view_of q s
      → IsAlike q (after_question s' failure has) (done s)
  after_question_apart s s' None has e = record { state = e; event = refl; handle = refl }
  after_question_apart s s' (Some x) has e = record { state = e; event = refl; handle = refl }

  module _ (default_value : T) (default_header : U) (m : Messages T U) (s : State T U) (handles : List Handle) where
    abbrev Steps : Command T U → Outcome T U → Type 0
    Steps = Step ample_memory default_value default_header m s handles

    -- a reply that leaves the state
    stays : (o x : Outcome T U) → o ≡ x → IsAlike q x (done s) → IsAlike q o (done s)
    stays o x e k = alike_equal q o x (done s) (done s) e refl k

    -- what follows where a call may be skipped
    live : {A : Type 0} (o : Outcome T U) (named : Option A) (Then : A → Type 0)
        → MatchOption named (o ≡ skipped s) Then
        → ((x : A) → named ≡ Some x → Then x → IsAlike q o (done s)) → IsAlike q o (done s)
    live o named Then h go = by_option (IsAlike q o (done s)) named _ _ h
        (λ _ e. stays o (skipped s) e (record { state = refl; event = refl; handle = refl })) go

    -- a read leaves the state
    pub read_quiet : (of at : ℕ) (o : Outcome T U) → Steps (Read of at) o → IsAlike q o (done s)
    read_quiet of at o h =
        by_option (IsAlike q o (done s)) (sample_at s handles of) _ _ h
        (λ _ j. live o (with_cell_at at (loan_at s handles of)) _ j (λ loan _ k.
        by_option (IsAlike q o (done s)) (slice_get (loan.1).cells at) _ _ k (λ _ v. absurd v)
        (λ cell _ e. stays o _ e (record { state = refl; event = refl; handle = refl }))))
        (λ sample _ k. by_option (IsAlike q o (done s)) (m sample.2) _ _ k (λ _ v. absurd v)
        (λ entry _ j. live o (slice_get entry.values at) _ j
        (λ value _ e. stays o _ e (record { state = refl; event = refl; handle = refl }))))

    -- a read of a header does
    pub header_quiet : (of : ℕ) (of_loan : ℕ × Loan T U → Reply T U) (of_entry : Entry T U → Reply T U)
        (o : Outcome T U) → ReadsHeader m s handles of of_loan of_entry o → IsAlike q o (done s)
    header_quiet of of_loan of_entry o h =
        by_option (IsAlike q o (done s)) (sample_at s handles of) _ _ h
        (λ _ j. live o (loan_at s handles of) _ j
        (λ loan _ e. stays o _ e (record { state = refl; event = refl; handle = refl })))
        (λ sample _ k. by_option (IsAlike q o (done s)) (m sample.2) _ _ k (λ _ v. absurd v)
        (λ entry _ e. stays o _ e (record { state = refl; event = refl; handle = refl })))

    -- a receive where q isn't named
    pub receive_of_other : (of : ℕ) (o : Outcome T U) → names_subscriber q (slice_get handles of) ≡ false
        → Steps (Receive of) o → IsAlike q o (done s)
    receive_of_other of o other h =
        live o (if_single_units s (subscriber_at s handles of)) _ h (λ subscriber e k.
        let apart : eqb q subscriber.0 ≡ false =
        subscriber_apart q s handles of subscriber other (in_single_units s _ subscriber e) in
        stays o _ k.3 (after_receive_apart s k.0 subscriber.0 k.1 apart
        (receive_apart q subscriber.0 apart ample_memory s k.0 k.1 k.2)))

    -- a question where q isn't named
    pub question_of_other : (of : ℕ) (o : Outcome T U) → names_subscriber q (slice_get handles of) ≡ false
        → Steps (HasSamples of) o → IsAlike q o (done s)
    question_of_other of o other h =
        live o (subscriber_at s handles of) _ h (λ subscriber e k.
        let apart : eqb q subscriber.0 ≡ false = subscriber_apart q s handles of subscriber other e in
        stays o _ k.4
        (after_question_apart s k.0 k.1 k.2 (update_apart q subscriber.0 apart ample_memory s k.0 k.1 (k.3).0)))

    -- an update of a subscriber
    pub update_of_other : (of : ℕ) (o : Outcome T U) → names_subscriber q (slice_get handles of) ≡ false
        → MatchOption (subscriber_at s handles of) (o ≡ skipped s) (λ (subscriber : ℕ × Subscriber).
        (s' : State T U) × (failure : Option ConnectionFailure)
        × UpdateSubscriber ample_memory s subscriber.0 s' failure × (o ≡ after_update s' failure))
        → IsAlike q o (done s)
    update_of_other of o other h =
        live o (subscriber_at s handles of) _ h (λ subscriber e k.
        let apart : eqb q subscriber.0 ≡ false = subscriber_apart q s handles of subscriber other e in
        stays o _ k.3 (after_update_apart s k.0 k.1 (update_apart q subscriber.0 apart ample_memory s k.0 k.1 k.2)))

    -- a release where no sample of q is named
    pub release_of_other : (of : ℕ) (o : Outcome T U) → AllOpen q s → names_sample q (slice_get handles of) ≡ false
        → Steps (Release of) o → IsAlike q o (done s)
    release_of_other of o all other h =
        live o (sample_at s handles of) _ h (λ sample e k.
        stays o _ k
        (record {
          state = released_apart q sample.1
              (sample_apart q s handles of sample other e) s sample.0 sample.2 all;
          event = refl;
          handle = refl;
        }))

    -- a call on channels where q isn't named
    pub channels_of_other : (of channel : ℕ) (call : SubscriberChannelCall) (o : Outcome T U)
        → names_subscriber q (slice_get handles of) ≡ false
        → Steps (SubscriberChannel of channel call) o → IsAlike q o (done s)
    channels_of_other of channel call o other h =
        live o (if_channel s channel (subscriber_at s handles of)) _ h (λ subscriber e k.
        let apart : eqb q subscriber.0 ≡ false = subscriber_apart q s handles of subscriber other
        (has_channel s channel (subscriber_at s handles of) subscriber e).1 in
        stays o _ k (subscriber_channel_apart q s subscriber.0 channel call apart))

    -- A call of others is as if nothing was done.
    pub others_alike : (command : Command T U) (of : ℕ) (o : Outcome T U) → AllOpen q s
        → subscriber_call command ≡ Some of
        → is_of_others q (slice_get handles of) ≡ true → Steps command o → IsAlike q o (done s)
    others_alike (Receive of') of o all e other h =
        receive_of_other of' o (others_no_subscriber q _
        (subst (λ i. is_of_others q (slice_get handles i) ≡ true) (sym (same_Some of' of e)) other)) h
    others_alike (HasSamples of') of o all e other h =
        question_of_other of' o (others_no_subscriber q _
        (subst (λ i. is_of_others q (slice_get handles i) ≡ true) (sym (same_Some of' of e)) other)) h
    others_alike (Update of') of o all e other h =
        let here : is_of_others q (slice_get handles of') ≡ true =
        subst (λ i. is_of_others q (slice_get handles i) ≡ true) (sym (same_Some of' of e)) other in
        by_option (IsAlike q o (done s)) (unblocked_at s handles of') _ _ h
        (λ _ j. update_of_other of' o (others_no_subscriber q _ here) j)
        (λ publisher f _. absurd (none-some publisher (sym (no_publisher_at q s handles of' here) ∙ f)))
    others_alike (Release of') of o all e other h =
        release_of_other of' o all (others_no_sample q _
        (subst (λ i. is_of_others q (slice_get handles i) ≡ true) (sym (same_Some of' of e)) other)) h
    others_alike (Read of' at) of o all e other h = read_quiet of' at o h
    others_alike (ReadHeader of') of o all e other h = header_quiet of' _ _ o h
    others_alike (ReadUserHeader of') of o all e other h = header_quiet of' _ _ o h
    others_alike Nothing of o all e other h = absurd (none-some of e)
    others_alike (CreatePublisher a) of o all e other h = absurd (none-some of e)
    others_alike (CreateSubscriber a b) of o all e other h = absurd (none-some of e)
    others_alike (LoanUninit a) of o all e other h = absurd (none-some of e)
    others_alike (LoanDefault a) of o all e other h = absurd (none-some of e)
    others_alike (LoanSlice a b) of o all e other h = absurd (none-some of e)
    others_alike (WriteCell a b c) of o all e other h = absurd (none-some of e)
    others_alike (WriteAll a b) of o all e other h = absurd (none-some of e)
    others_alike (AssumeInit a) of o all e other h = absurd (none-some of e)
    others_alike (WriteHeader a b) of o all e other h = absurd (none-some of e)
    others_alike (SetPayload a b c) of o all e other h = absurd (none-some of e)
    others_alike (Send a) of o all e other h = absurd (none-some of e)
    others_alike (SendCopy a b) of o all e other h = absurd (none-some of e)
    others_alike (Discard a) of o all e other h = absurd (none-some of e)
    others_alike (Retry a b) of o all e other h = absurd (none-some of e)
    others_alike (GiveUp a) of o all e other h = absurd (none-some of e)
    others_alike (Close a) of o all e other h = absurd (none-some of e)
    others_alike (SubscriberChannel of' channel call) of o all e other h =
        channels_of_other of' channel call o (others_no_subscriber q _
        (subst (λ i. is_of_others q (slice_get handles i) ≡ true) (sym (same_Some of' of e)) other)) h
    others_alike (SendLoanTo a b c) of o all e other h = absurd (none-some of e)
    others_alike (ConnectionPlace a b) of o all e other h = absurd (none-some of e)
    others_alike (PublisherChannel a b c d) of o all e other h = absurd (none-some of e)
