-- What a step does is done with ample memory too, where the count of refused connections is 0 afterwards.
use Rattle.std.proofs.Common.{◌≡◌, ℕ, ◌+◌, Bool, true, false, ◌||◌, List, [], ◌∷◌, drop, cond, refl, sym, ap, subst}
use Rattle.std.proofs.Common.{◌∙◌, Option, None, Some, eqb, ⊎_elim, take}
use Rattle.std.specs.Prelude.{nat_lt, MatchOption}
use Rattle.std.specs.Bool.{MatchBool}
use Rattle.std.specs.declared.time.Duration.{Duration}
use Rattle.iox2_machine.specs.machine.Limits.{buffer_limit, last_number}
use Rattle.iox2_machine.specs.machine.Mailbox.{Mailbox, has_room}
use Rattle.iox2_machine.specs.machine.Places.{free_place}
use Rattle.iox2_machine.specs.machine.SingleCalls.{GrantWrittenLoan}
use Rattle.iox2_machine.specs.machine.Records.{Loan, Publisher, Subscriber, BlockedSend, Handler, Fixed, Custom}
use Rattle.iox2_machine.specs.machine.Records.{PublisherSettings, SubscriberSettings}
use Rattle.iox2_machine.specs.machine.State.{State, warned, channel_buffer, with_loan}
use Rattle.iox2_machine.specs.machine.Delivery.{PutResult, DeliveryEnd, Complete, Suspended, Decides, is_blocking}
use Rattle.iox2_machine.specs.machine.Delivery.{is_failed, accepted_count, no_time, Put, PutAtEnd, Deliver}
use Rattle.iox2_machine.specs.machine.Loans.{GrantLoan, is_static, limit_error, loan_discarded}
use Rattle.iox2_machine.specs.machine.Sends.{Send, SendResult, Send_error, Publish, DeliverAndConclude, ConcludeSend}
use Rattle.iox2_machine.specs.machine.Sends.{Retry, GiveUp, more_retries, published, with_mailboxes, SendToConnection}
use Rattle.iox2_machine.specs.machine.Receives.{Receive, TakeSample, ReceiveResult, Got_sample, No_sample}
use Rattle.iox2_machine.specs.machine.Receives.{Receive_error}
use Rattle.iox2_machine.specs.machine.Releases.{released, unborrowed, subscriber_pruned, is_unused, place_freed}
use Rattle.iox2_machine.specs.machine.Releases.{freed_if_unused}
use Rattle.iox2_machine.specs.machine.Ports.{with_new_publisher, with_new_subscriber, with_failure_warning}
use Rattle.iox2_machine.specs.machine.Ports.{MakePublisher, CreatePublisher, MakeSubscriber, CreateSubscriber}
use Rattle.iox2_machine.specs.machine.Ports.{first_segment_fits, buffer_for, subscriber_shut, subscriber_closed}
use Rattle.iox2_machine.specs.machine.Environments.{fixed_handlers, ample_memory}
use Rattle.iox2_machine.specs.declared.backpressure.BackpressureAction.{BackpressureAction}
use Rattle.iox2_machine.specs.declared.backpressure.BackpressureInfo.{BackpressureInfo}
use Rattle.iox2_machine.specs.declared.backpressure.BackpressureStrategy.{BackpressureStrategy}
use Rattle.iox2_machine.specs.declared.errors.ConnectionFailure.{ConnectionFailure}
use Rattle.iox2_machine.specs.declared.errors.LoanError.{LoanError}
use Rattle.iox2_machine.specs.declared.errors.PublisherCreateError.{PublisherCreateError}
use Rattle.iox2_machine.specs.declared.errors.PublisherCreateError.TheVariants.{UnableToCreateDataSegment}
use Rattle.iox2_machine.specs.declared.errors.PublisherCreateError.TheVariants.{FailedToDeployThreadsafetyPolicy as NoPublisherState}
use Rattle.iox2_machine.specs.declared.errors.SubscriberCreateError.{SubscriberCreateError}
use Rattle.iox2_machine.specs.declared.errors.SubscriberCreateError.TheVariants.{FailedToDeployThreadsafetyPolicy as NoSubscriberState}
use Rattle.iox2_machine.specs.declared.errors.SendError.TheVariants.{ConnectionError}
use Rattle.iox2_machine.specs.declared.service_config.ServiceConfig.{ServiceConfig}
use Rattle.iox2_machine.specs.declared.warning.Warning.{Warning}
use Rattle.iox2_machine.specs.declared.warning.Warning.TheVariants.{ExpiredBufferRaised}
use Rattle.iox2_laws.specs.Sendings.{sending}
use Rattle.iox2_laws.proofs.Cases.{by_option, by_bool}
use Rattle.iox2_laws.proofs.CallCases.{grant_cases}
use Rattle.iox2_commands.specs.Refusals.{TellNoRefusal}
use Rattle.iox2_commands.proofs.RefusalUpdates.{option_maps, bool_maps, update_publisher_back, update_subscriber_back}
use Rattle.iox2_commands.proofs.RefusalStates.{AllStatic}

-- ---- deliveries don't ask for memory

module _ (c : ServiceConfig) (p : ℕ) (strategy : BackpressureStrategy) (handler : Option (Handler BackpressureAction))
    (buffers : ℕ → Option ℕ) (n : ℕ) where
  decides_ample : (handler : Option (Handler BackpressureAction)) (info : BackpressureInfo) (result : PutResult)
      → Decides fixed_handlers p handler strategy info result → Decides ample_memory p handler strategy info result
  decides_ample None info result h = h
  decides_ample (Some (Fixed action)) info result h = h
  decides_ample (Some Custom) info result h = absurd h.1

  put_ample : (channel q retries : ℕ) (elapsed : Duration) (buffer : Option ℕ) (box : Mailbox) (result : PutResult)
      (box' : Mailbox)
      → Put fixed_handlers c p strategy handler buffers n channel q retries elapsed buffer box result box'
      → Put ample_memory c p strategy handler buffers n channel q retries elapsed buffer box result box'
  put_ample channel q retries elapsed None box result box' h = h
  put_ample channel q retries elapsed (Some buffer) box result box' h =
      bool_maps (has_room channel buffer box || c.enable_safe_overflow) _ _ _ _ h (λ h. h)
      (λ h. (decides_ample handler _ result h.0, h.1))

  put_at_end_ample : (channel retries : ℕ) (elapsed : Duration) (end : Option ℕ) (boxes : ℕ → Mailbox)
      (result : PutResult) (boxes' : ℕ → Mailbox)
      → PutAtEnd fixed_handlers c p strategy handler buffers n channel retries elapsed end boxes result boxes'
      → PutAtEnd ample_memory c p strategy handler buffers n channel retries elapsed end boxes result boxes'
  put_at_end_ample channel retries elapsed end boxes result boxes' h =
      option_maps end _ _ _ _ h (λ h. h)
      (λ q _ h. (h.0, put_ample channel q retries elapsed (buffers q) (boxes q) result h.0 h.1, h.2))

  deliver_ample : (channel retries : ℕ) (elapsed : Duration) (place : ℕ) (ends : List (Option ℕ)) (count : ℕ)
      (has_failed : Bool) (boxes : ℕ → Mailbox) (how : DeliveryEnd) (boxes' : ℕ → Mailbox)
      → Deliver fixed_handlers c p strategy handler buffers n channel retries elapsed place ends count has_failed boxes
      how boxes'
      → Deliver ample_memory c p strategy handler buffers n channel retries elapsed place ends count has_failed boxes
      how boxes'
  deliver_ample channel retries elapsed place [] count has_failed boxes how boxes' h = h
  deliver_ample channel retries elapsed place (end ∷ rest) count has_failed boxes how boxes' h = (
    h.0,
    h.1,
    put_at_end_ample channel retries elapsed end boxes h.0 h.1 h.2,
    bool_maps (is_blocking h.0) _ _ _ _ h.3 (λ h. h)
        (λ k. deliver_ample channel 0 no_time (place + 1) rest (count + accepted_count h.0)
        (has_failed || is_failed h.0) h.1 how boxes' k),
  )

module _ {T U : Type 0} where
  -- ---- what leaves the warnings

  told_same : (s s' : State T U) → s'.warnings ≡ s.warnings → TellNoRefusal s'.warnings → TellNoRefusal s.warnings
  told_same s s' same told = subst TellNoRefusal same told

  pruned_same : (s : State T U) (q : ℕ) → (freed_if_unused (subscriber_pruned s q) q).warnings ≡ s.warnings
  pruned_same s q = at (is_unused after q) where
    after : State T U
    after = subscriber_pruned s q

    at : (b : Bool) → (cond b (place_freed after q) after).warnings ≡ s.warnings
    at true = refl
    at false = refl

  pub released_same : (s : State T U) (p q n : ℕ) → (released s p q n).warnings ≡ s.warnings
  released_same s p q n = pruned_same (unborrowed s p q n) q

  pub subscriber_closed_same : (s : State T U) (q : ℕ) (y : Subscriber)
      → (subscriber_closed s q y).warnings ≡ s.warnings
  subscriber_closed_same s q y = pruned_same (subscriber_shut s q y) q

  -- ---- loans

  pub grant_loan_ample : (default_header : U) (checks_length : Bool) (len : ℕ) (s s' : State T U) (p : ℕ)
      (refusal : Option LoanError) → AllStatic s
      → GrantLoan fixed_handlers default_header checks_length len s p s' refusal
      → GrantLoan ample_memory default_header checks_length len s p s' refusal × (s'.warnings ≡ s.warnings)
  grant_loan_ample default_header checks_length len s s' p refusal k h = (
    option_maps (s.publishers p) _ _ _ _ h (λ v. v) (λ x e h.
        option_maps (limit_error checks_length x len) _ _ _ _ h
        (λ h. static_only x e _ _ _ h)
        (λ limit _ h. h)),
    grant_cases fixed_handlers default_header checks_length len s p s' (s'.warnings ≡ s.warnings) refusal h
        (λ e same _. ap (λ (z : State T U). z.warnings) same)
        (λ x _ grants. ap (λ (z : State T U). z.warnings) grants.4),
  )
    where
      static_only : (x : Publisher) → s.publishers p ≡ Some x → (P Q Q' : Type 0)
          → MatchBool (is_static x.allocation_strategy) P Q → MatchBool (is_static x.allocation_strategy) P Q'
      static_only x e P Q Q' h =
          subst (λ (b : Bool). MatchBool b P Q') (sym (k.publishers p x e))
          (subst (λ (b : Bool). MatchBool b P Q) (k.publishers p x e) h)

  pub grant_written_loan_ample : (value : T) (default_header : U) (checks_length : Bool) (len : ℕ) (s s' : State T U)
      (p : ℕ) (refusal : Option LoanError) → AllStatic s
      → GrantWrittenLoan fixed_handlers value default_header checks_length len s p s' refusal
      → GrantWrittenLoan ample_memory value default_header checks_length len s p s' refusal × (s'.warnings ≡ s.warnings)
  grant_written_loan_ample value default_header checks_length len s s' p refusal k h =
      let granted = grant_loan_ample default_header checks_length len s h.0 p refusal k h.1 in (
        (h.0, granted.0, h.2),
        by_option (s'.warnings ≡ s.warnings) refusal _ _ h.2
            (λ _ j. by_option (s'.warnings ≡ s.warnings) ((h.0).loans s.next_message) _ _ j (λ _ v. absurd v)
            (λ l _ j. ap (λ (z : State T U). z.warnings) j ∙ granted.1))
            (λ e _ j. ap (λ (z : State T U). z.warnings) j ∙ granted.1),
      )

  -- ---- sends

  concluded_same : (s s' : State T U) (p n : ℕ) (how : DeliveryEnd) (result : SendResult)
      → ConcludeSend s p n how s' result → s'.warnings ≡ s.warnings
  concluded_same s s' p n (Complete count has_failed) result h = ap (λ (z : State T U). z.warnings) h.0
  concluded_same s s' p n (Suspended b) result h = ap (λ (z : State T U). z.warnings) h.0

  -- a delivery takes no memory, and warns of nothing
  delivered_ample : (s s' : State T U) (p n channel retries : ℕ) (elapsed : Duration) (place : ℕ)
      (ends : List (Option ℕ)) (count : ℕ) (has_failed : Bool) (result : SendResult)
      → DeliverAndConclude fixed_handlers s p (sending n channel retries place ends count has_failed) elapsed s' result
      → DeliverAndConclude ample_memory s p (sending n channel retries place ends count has_failed) elapsed s' result
  delivered_ample s s' p n channel retries elapsed place ends count has_failed result h =
      option_maps (s.publishers p) _ _ _ _ h (λ v. v) (λ z _ h. (
        h.0,
        h.1,
        deliver_ample s.config p z.backpressure_strategy z.backpressure_handler
            (channel_buffer s p channel) n channel retries elapsed place ends count has_failed
            (s.mailboxes p) h.0 h.1 h.2,
        h.3,
      ))

  delivered_same : (s s' : State T U) (p n channel retries : ℕ) (elapsed : Duration) (place : ℕ)
      (ends : List (Option ℕ)) (count : ℕ) (has_failed : Bool) (result : SendResult)
      → DeliverAndConclude fixed_handlers s p (sending n channel retries place ends count has_failed) elapsed s' result
      → s'.warnings ≡ s.warnings
  delivered_same s s' p n channel retries elapsed place ends count has_failed result h =
      by_option (s'.warnings ≡ s.warnings) (s.publishers p) _ _ h (λ _ v. absurd v) (λ z _ h.
      concluded_same (with_mailboxes s p h.1) s' p n h.0 result h.3)

  pub retry_ample : (s s' : State T U) (p : ℕ) (b : BlockedSend) (elapsed : Duration) (result : SendResult)
      → Retry fixed_handlers s p b elapsed s' result
      → Retry ample_memory s p b elapsed s' result × (s'.warnings ≡ s.warnings)
  retry_ample s s' p b elapsed result h = (
    delivered_ample s s' p b.message b.channel
        (more_retries b.retries) elapsed b.place b.ends b.count b.has_failed result h,
    delivered_same s s' p b.message b.channel
        (more_retries b.retries) elapsed b.place b.ends b.count b.has_failed result h,
  )

  pub give_up_ample : (s s' : State T U) (p : ℕ) (b : BlockedSend) (result : SendResult)
      → GiveUp fixed_handlers s p b s' result → GiveUp ample_memory s p b s' result × (s'.warnings ≡ s.warnings)
  give_up_ample s s' p b result h = (
    delivered_ample s s' p b.message b.channel 0 no_time (b.place + 1) (drop 1 b.ends) b.count b.has_failed result h,
    delivered_same s s' p b.message b.channel 0 no_time (b.place + 1) (drop 1 b.ends) b.count b.has_failed result h,
  )

  pub connection_ample : (s s' : State T U) (n : ℕ) (l : Loan T U) (channel place : ℕ) (result : SendResult)
      → SendToConnection fixed_handlers s n l channel place s' result
      → SendToConnection ample_memory s n l channel place s' result × (s'.warnings ≡ s.warnings)
  connection_ample s s' n l channel place result h = (
    option_maps (s.publishers l.publisher) _ _ _ _ h (λ h. h)
        (λ x _ h. delivered_ample (with_loan s n None) s' l.publisher n channel 0 no_time place
        (take 1 (drop place x.ends)) 0 false result h),
    by_option (s'.warnings ≡ s.warnings) (s.publishers l.publisher) _ _ h
        (λ _ h. ap (λ (z : State T U). z.warnings) h.0)
        (λ x _ h. delivered_same (with_loan s n None) s' l.publisher n channel 0 no_time place
        (take 1 (drop place x.ends)) 0 false result h),
  )

  publish_ample : (s s' : State T U) (p n : ℕ) (result : SendResult) → Publish fixed_handlers s p n s' result
      → Publish ample_memory s p n s' result
  publish_ample s s' p n result h =
      option_maps (s.publishers p) _ _ _ _ h (λ v. v) (λ x _ h.
      delivered_ample (published s p n) s' p n 0 0 no_time 0 x.ends 0 false result h)

  publish_same : (s s' : State T U) (p n : ℕ) (result : SendResult) → Publish fixed_handlers s p n s' result
      → s'.warnings ≡ s.warnings
  publish_same s s' p n result h =
      by_option (s'.warnings ≡ s.warnings) (s.publishers p) _ _ h (λ _ v. absurd v) (λ x _ h.
      delivered_same (published s p n) s' p n 0 0 no_time 0 x.ends 0 false result h)

  pub send_ample : (s s' : State T U) (n : ℕ) (l : Loan T U) (result : SendResult) → TellNoRefusal s'.warnings
      → Send fixed_handlers s n l s' result → Send ample_memory s n l s' result × TellNoRefusal s.warnings
  send_ample s s' n l result told h = (
    option_maps (s.publishers l.publisher) _ _ _ _ h (λ h. h) (λ x _ h. (
      h.0,
      h.1,
      (update_publisher_back s h.0 l.publisher h.1 (told_mid h.0 h.1 h.3) h.2).0,
      option_maps h.1 _ _ _ _ h.3 (λ j. publish_ample h.0 s' l.publisher n result j) (λ f _ j. j),
    )),
    by_option (TellNoRefusal s.warnings) (s.publishers l.publisher) _ _ h
        (λ _ h. told_same s s' (ap (λ (z : State T U). z.warnings) h.0) told)
        (λ x _ h. (update_publisher_back s h.0 l.publisher h.1 (told_mid h.0 h.1 h.3) h.2).1),
  )
    where
      told_mid : (mid : State T U) (failure : Option ConnectionFailure)
          → MatchOption failure (Publish fixed_handlers mid l.publisher n s' result)
          (λ e. (s' ≡ loan_discarded mid n l) × (result ≡ Send_error (ConnectionError e))) → TellNoRefusal mid.warnings
      told_mid mid failure j =
          by_option (TellNoRefusal mid.warnings) failure _ _ j
          (λ _ j. told_same mid s' (publish_same mid s' l.publisher n result j) told)
          (λ f _ j. told_same mid s' (ap (λ (z : State T U). z.warnings) j.0) told)

  -- ---- receives and questions

  take_same : (s s' : State T U) (q : ℕ) (y : Subscriber) (result : ReceiveResult) → TakeSample s q y s' result
      → s'.warnings ≡ s.warnings
  take_same s s' q y (Got_sample p n) h = ap (λ (z : State T U). z.warnings) h.3
  take_same s s' q y No_sample h = ap (λ (z : State T U). z.warnings) h.1
  take_same s s' q y (Receive_error e) h = ap (λ (z : State T U). z.warnings) h.3

  pub receive_ample : (s s' : State T U) (q : ℕ) (result : ReceiveResult) → TellNoRefusal s'.warnings
      → Receive fixed_handlers s q s' result → Receive ample_memory s q s' result × TellNoRefusal s.warnings
  receive_ample s s' q result told h =
      let told_mid : TellNoRefusal (h.0).warnings =
      by_option (TellNoRefusal (h.0).warnings) h.1 _ _ h.3
      (λ _ j. by_option (TellNoRefusal (h.0).warnings) ((h.0).subscribers q) _ _ j (λ _ v. absurd v)
      (λ y _ j. told_same h.0 s' (take_same h.0 s' q y result j) told))
      (λ f _ j. told_same h.0 s' (ap (λ (z : State T U). z.warnings) j.0) told) in (
        (h.0, h.1, (update_subscriber_back s h.0 q h.1 told_mid h.2).0, h.3),
        (update_subscriber_back s h.0 q h.1 told_mid h.2).1,
      )

  -- ---- ports

  failure_told : (s : State T U) (warning : ConnectionFailure → Warning) (failure : Option ConnectionFailure)
      → TellNoRefusal (with_failure_warning s warning failure).warnings → TellNoRefusal s.warnings
  failure_told s warning None told = told
  failure_told s warning (Some e) told = told

  module _ (s s' : State T U) (given : PublisherSettings) (told : TellNoRefusal s'.warnings) where
    make_publisher_ample : (refusal : Option PublisherCreateError) (place : ℕ)
        → (refusal ≡ Some UnableToCreateDataSegment → ⊥) → (refusal ≡ Some NoPublisherState → ⊥)
        → MakePublisher fixed_handlers s given place s' refusal
        → MakePublisher ample_memory s given place s' refusal × TellNoRefusal s.warnings
    make_publisher_ample None place segment port h =
        let told_mid : TellNoRefusal (h.0).warnings =
        failure_told h.0 _ h.1 (subst (λ (z : State T U). TellNoRefusal z.warnings) h.3 told) in (
          (
            h.0,
            h.1,
            (update_publisher_back (with_new_publisher s given place) h.0 s.next_port h.1 told_mid h.2).0,
            h.3,
          ),
          (update_publisher_back (with_new_publisher s given place) h.0 s.next_port h.1 told_mid h.2).1,
        )
    make_publisher_ample (Some e) place segment port h =
        absurd (⊎_elim (λ same. segment (ap Some same)) (λ same. port (ap Some same)) h.2)

    pub create_publisher_ample : (refusal : Option PublisherCreateError)
        → (first_segment_fits s.config given ≡ true → refusal ≡ Some UnableToCreateDataSegment → ⊥)
        → (refusal ≡ Some NoPublisherState → ⊥)
        → CreatePublisher fixed_handlers s given s' refusal
        → CreatePublisher ample_memory s given s' refusal × TellNoRefusal s.warnings
    create_publisher_ample refusal segment port h = (
      bool_maps (eqb s.next_port last_number) _ _ _ _ h (λ h. h) (λ h.
          option_maps (free_place (s.config).max_publishers s.publisher_places) _ _ _ _ h (λ h. h) (λ place _ h.
          fitting _ _ _ (λ fit j. (make_publisher_ample refusal place (segment fit) port j).0) h)),
      by_bool (TellNoRefusal s.warnings) (eqb s.next_port last_number) _ _ h (λ _ h. same h.0) (λ _ h.
          by_option (TellNoRefusal s.warnings) (free_place (s.config).max_publishers s.publisher_places) _ _ h
          (λ _ h. same h.0) (λ place _ h.
          by_bool (TellNoRefusal s.warnings) (first_segment_fits s.config given) _ _ h
          (λ fit h. (make_publisher_ample refusal place (segment fit) port h).1) (λ _ h. same h.0))),
    )
      where
        same : s' ≡ s → TellNoRefusal s.warnings
        same e = told_same s s' (ap (λ (z : State T U). z.warnings) e) told

        fitting : (P P' Q : Type 0) → (first_segment_fits s.config given ≡ true → P → P')
            → MatchBool (first_segment_fits s.config given) P Q → MatchBool (first_segment_fits s.config given) P' Q
        fitting P P' Q go h = at (first_segment_fits s.config given) refl h where
          at : (b : Bool) → first_segment_fits s.config given ≡ b → MatchBool b P Q → MatchBool b P' Q
          at true e h = go e h
          at false e h = h

  module _ (s s' : State T U) (given : SubscriberSettings) (told : TellNoRefusal s'.warnings) where
    raised_told : (place : ℕ) → TellNoRefusal (with_new_subscriber s given place).warnings → TellNoRefusal s.warnings
    raised_told place h =
        at (nat_lt (s.config).subscriber_expired_connection_buffer (s.config).subscriber_max_borrowed_samples) h where
          at : (b : Bool) → TellNoRefusal (cond b (warned s.warnings (ExpiredBufferRaised s.next_port)) s.warnings)
              → TellNoRefusal s.warnings
          at true h = h
          at false h = h

    make_subscriber_ample : (refusal : Option SubscriberCreateError) (place : ℕ)
        → (refusal ≡ Some NoSubscriberState → ⊥)
        → MakeSubscriber fixed_handlers s given place s' refusal
        → MakeSubscriber ample_memory s given place s' refusal × TellNoRefusal s.warnings
    make_subscriber_ample None place port h =
        let told_mid : TellNoRefusal (h.0).warnings =
        failure_told h.0 _ h.1 (subst (λ (z : State T U). TellNoRefusal z.warnings) h.3 told) in (
          (
            h.0,
            h.1,
            (update_subscriber_back (with_new_subscriber s given place) h.0 s.next_port h.1 told_mid h.2).0,
            h.3,
          ),
          raised_told place
              (update_subscriber_back (with_new_subscriber s given place) h.0 s.next_port h.1 told_mid h.2).1,
        )
    make_subscriber_ample (Some e) place port h = absurd (port (ap Some h.2))

    pub create_subscriber_ample : (refusal : Option SubscriberCreateError) → (refusal ≡ Some NoSubscriberState → ⊥)
        → CreateSubscriber fixed_handlers s given s' refusal
        → CreateSubscriber ample_memory s given s' refusal × TellNoRefusal s.warnings
    create_subscriber_ample refusal port h = (
      bool_maps (eqb s.next_port last_number) _ _ _ _ h (λ h. h) (λ h.
          bool_maps (nat_lt (buffer_limit s.config) (buffer_for given)) _ _ _ _ h (λ h. h) (λ h.
          option_maps (free_place (s.config).max_subscribers s.subscriber_places) _ _ _ _ h (λ h. h)
          (λ place _ h. (make_subscriber_ample refusal place port h).0))),
      by_bool (TellNoRefusal s.warnings) (eqb s.next_port last_number) _ _ h (λ _ h. same h.0) (λ _ h.
          by_bool (TellNoRefusal s.warnings) (nat_lt (buffer_limit s.config) (buffer_for given)) _ _ h (λ _ h. same h.0)
          (λ _ h.
          by_option (TellNoRefusal s.warnings) (free_place (s.config).max_subscribers s.subscriber_places) _ _ h
          (λ _ h. same h.0) (λ place _ h. (make_subscriber_ample refusal place port h).1))),
    )
      where
        same : s' ≡ s → TellNoRefusal s.warnings
        same e = told_same s s' (ap (λ (z : State T U). z.warnings) e) told
