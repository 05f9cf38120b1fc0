-- Each command of a run keeps the order in which messages were sent and received.
use Rattle.std.proofs.Common.{◌≡◌, ℕ, ◌≤◌, Bool, true, false, cond, List, [], ◌∷◌, ◌++◌, take, drop, refl, sym, ap}
use Rattle.std.proofs.Common.{subst, ◌∙◌, ltb, length, ◌⊎◌, inl, inr, ⊎_elim, Option, None, Some, is_none, is_some}
use Rattle.std.specs.Prelude.{MatchOption, slice_get, ◌==◌, ⊤}
use Rattle.std.specs.Option.{option_and_then, option_map}
use Rattle.std.proofs.lemmas.Bool.{cond_both, true≢false}
use Rattle.std.proofs.lemmas.Option.{none-some, same_Some}
use Rattle.iox2_machine.specs.machine.Numbers.{put_at}
use Rattle.iox2_machine.specs.machine.Records.{Entry, Loan, Publisher, Subscriber, BlockedSend, Environment}
use Rattle.iox2_machine.specs.machine.State.{State, Messages, is_blocked, with_loan}
use Rattle.iox2_machine.specs.machine.Delivery.{DeliveryEnd, Complete, Suspended}
use Rattle.iox2_machine.specs.machine.Loans.{GrantLoan, written, with_cell, is_initialized, initialized, entry_of}
use Rattle.iox2_machine.specs.machine.Sends.{Send, SendToConnection, DeliverAndConclude, SendResult, Delivered_to}
use Rattle.iox2_machine.specs.machine.Sends.{Blocked_send, Send_error, ConcludeSend, Publish, published, with_mailboxes}
use Rattle.iox2_machine.specs.machine.Receives.{ReceiveResult, Got_sample, No_sample, Receive_error}
use Rattle.iox2_machine.specs.machine.WellFormed.{IsWellFormed}
use Rattle.iox2_machine.specs.declared.errors.ConnectionFailure.{ConnectionFailure}
use Rattle.iox2_machine.specs.declared.errors.LoanError.{LoanError}
use Rattle.iox2_machine.specs.declared.errors.SendError.TheVariants.{UnableToDeliver}
use Rattle.iox2_machine.specs.declared.errors.PublisherCreateError.{PublisherCreateError}
use Rattle.iox2_machine.specs.declared.errors.SubscriberCreateError.{SubscriberCreateError}
use Rattle.iox2_laws.proofs.Cases.{by_option}
use Rattle.iox2_laws.proofs.PublisherUpdates.{update_publisher_keeps, update_publisher_leaves}
use Rattle.iox2_laws.proofs.LoanLaws.{grant_written_loan_keeps, grant_written_loan_publisher}
use Rattle.iox2_laws.proofs.LoanLaws.{grant_written_loan_unblocked}
use Rattle.iox2_commands.specs.Outcomes.{Handle, No_handle, Publisher_handle, Subscriber_handle, Loan_handle}
use Rattle.iox2_commands.specs.Outcomes.{Blocked_handle, Sample_handle, Event, No_event, Message_sent, Message_received}
use Rattle.iox2_commands.specs.Outcomes.{Outcome, replied, done, skipped}
use Rattle.iox2_commands.specs.Step.{Step, after_publisher, after_subscriber, after_loan, after_send, after_retry}
use Rattle.iox2_commands.specs.Step.{after_update, after_receive, after_question, publisher_at, unblocked_at}
use Rattle.iox2_commands.specs.Step.{subscriber_at, loan_at, unwritten_at, written_at, with_cell_at, sendable_at}
use Rattle.iox2_commands.specs.Step.{blocked_at, sample_at, if_single_units, if_fixed_size, if_dynamic, if_channel}
use Rattle.iox2_commands.specs.declared.command.Command.{Command}
use Rattle.iox2_commands.specs.declared.command.Command.TheVariants.{Nothing, CreatePublisher, CreateSubscriber}
use Rattle.iox2_commands.specs.declared.command.Command.TheVariants.{LoanUninit, Loan as LoanDefault, LoanSlice}
use Rattle.iox2_commands.specs.declared.command.Command.TheVariants.{WriteCell, WriteAll, AssumeInit, WriteHeader}
use Rattle.iox2_commands.specs.declared.command.Command.TheVariants.{SetPayload, Send as SendLoan, SendCopy, Discard}
use Rattle.iox2_commands.specs.declared.command.Command.TheVariants.{Retry as RetrySend, GiveUp as GiveUpSend, Update}
use Rattle.iox2_commands.specs.declared.command.Command.TheVariants.{Receive, HasSamples, Read, ReadHeader}
use Rattle.iox2_commands.specs.declared.command.Command.TheVariants.{ReadUserHeader, Release, Close}
use Rattle.iox2_commands.specs.declared.command.Command.TheVariants.{SendToConnection as SendLoanTo, ConnectionPlace}
use Rattle.iox2_commands.specs.declared.command.Command.TheVariants.{PublisherChannel, SubscriberChannel}
use Rattle.iox2_commands.specs.declared.reply.Reply.{Reply}
use Rattle.iox2_commands.specs.declared.reply.Reply.TheVariants.{Unwritten}
use Rattle.iox2_commands.proofs.Named.{unblocked_is, loan_is, unwritten_is, written_is, sendable_is, blocked_is, passes}
use Rattle.iox2_commands.proofs.Named.{fails, kept_if, in_single_units, in_fixed_size, in_dynamic, has_channel}
use Rattle.iox2_commands.proofs.Named.{not_blocked}
use Rattle.iox2_commands.proofs.Ordered.{Ordered, Quiet, quiet_keeps}
use Rattle.iox2_commands.proofs.OrderSteps.{loan_changed_quiet, loan_gone_quiet, channels_quiet, loan_discarded_quiet}
use Rattle.iox2_commands.proofs.OrderSteps.{grant_loan_quiet, grant_written_loan_ordered, released_ordered}
use Rattle.iox2_commands.proofs.OrderSteps.{subscriber_closed_ordered, publisher_closed_ordered}
use Rattle.iox2_commands.proofs.OrderUpdates.{update_publisher_quiet, update_subscriber_quiet, create_publisher_ordered}
use Rattle.iox2_commands.proofs.OrderUpdates.{create_subscriber_ordered}
use Rattle.iox2_commands.proofs.OrderStates.{publish_ordered, connection_ordered, retry_ordered, give_up_ordered}
use Rattle.iox2_commands.proofs.OrderReceives.{got_after, receive_ordered}
use Rattle.iox2_commands.proofs.ChannelOutcomes.{OnChannels, on_channels}
use Rattle.iox2_machine.specs.machine.Delivery.{no_time}
use Rattle.iox2_laws.specs.Sendings.{sending}
use Rattle.std.specs.declared.time.Duration.{Duration}

-- ---- handles name what the run made

-- The handle names a port or a loan that was made after the counters stood at p0 and n0.
abbrev pub IsNew : (p0 n0 : ℕ) → Handle → Type 0
IsNew p0 n0 No_handle = ⊤
IsNew p0 n0 (Publisher_handle p) = p0 ≤ p
IsNew p0 n0 (Subscriber_handle q) = p0 ≤ q
IsNew p0 n0 (Loan_handle n) = n0 ≤ n
IsNew p0 n0 (Blocked_handle p n) = p0 ≤ p
IsNew p0 n0 (Sample_handle p q n) = p0 ≤ q

-- Each handle does.
abbrev pub AllNew : (p0 n0 : ℕ) → List Handle → Type 0
AllNew p0 n0 handles = (i : ℕ) (handle : Handle) → slice_get handles i ≡ Some handle → IsNew p0 n0 handle

-- what is found is paired with its key
paired_key : {A : Type 0} (o : Option A) (i : ℕ) (named : ℕ × A) → option_map {U = ℕ × A} (λ x. (i, x)) o ≡ Some named
    → i ≡ named.0
paired_key None i named e = absurd (none-some named e)
paired_key {A} (Some a) i named e = ap (λ (n : ℕ × A). n.0) (same_Some (i, a) named e)

module _ {T U : Type 0} (p0 n0 : ℕ) (s : State T U) (handles : List Handle) (new : AllNew p0 n0 handles) (of : ℕ) where
  publisher_new : (named : ℕ × Publisher) → publisher_at s handles of ≡ Some named → p0 ≤ named.0
  publisher_new named e = at (slice_get handles of) refl e
    where
      at : (v : Option Handle) → slice_get handles of ≡ v
          → elim v [
            | Some (Publisher_handle p) ↦ option_map {U = ℕ × Publisher} (λ x. (p, x)) (s.publishers p)
            | _ ↦
                None
          ] ≡ Some named → p0 ≤ named.0
      at (Some (Publisher_handle p)) g e =
          subst (λ i. p0 ≤ i) (paired_key (s.publishers p) p named e) (new of (Publisher_handle p) g)
      at _ g e = absurd (none-some named e)

  unblocked_new : (named : ℕ × Publisher) → unblocked_at s handles of ≡ Some named → p0 ≤ named.0
  unblocked_new named e =
      publisher_new named (passes (λ (n : ℕ × Publisher). is_none n.1.blocked) (publisher_at s handles of) named e).0

  subscriber_new : (named : ℕ × Subscriber) → subscriber_at s handles of ≡ Some named → p0 ≤ named.0
  subscriber_new named e = at (slice_get handles of) refl e
    where
      open_one : (q : ℕ) (v : Option Subscriber) → p0 ≤ q
          → option_and_then {U = ℕ × Subscriber} (λ y. cond y.is_open (Some (q, y)) None) v ≡ Some named
          → p0 ≤ named.0
      open_one q None high e = absurd (none-some named e)
      open_one q (Some y) high e = subst (λ i. p0 ≤ i)
          (ap (λ (n : ℕ × Subscriber). n.0) (same_Some (q, y) named (kept_if y.is_open (Some (q, y)) named e))) high

      at : (v : Option Handle) → slice_get handles of ≡ v
          → elim v [
            | Some (Subscriber_handle q) ↦ option_and_then {U = ℕ × Subscriber}
                (λ y. cond y.is_open (Some (q, y)) None) (s.subscribers q)
            | _ ↦ None
          ] ≡ Some named → p0 ≤ named.0
      at (Some (Subscriber_handle q)) g e = open_one q (s.subscribers q) (new of (Subscriber_handle q) g) e
      at _ g e = absurd (none-some named e)

  loan_new : (named : ℕ × Loan T U) → loan_at s handles of ≡ Some named → n0 ≤ named.0
  loan_new named e = at (slice_get handles of) refl e
    where
      at : (v : Option Handle) → slice_get handles of ≡ v
          → elim v [ Some (Loan_handle n) ↦ option_map {U = ℕ × Loan T U} (λ l. (n, l)) (s.loans n) | _ ↦ None ]
          ≡ Some named → n0 ≤ named.0
      at (Some (Loan_handle n)) g e = subst (λ i. n0 ≤ i) (paired_key (s.loans n) n named e) (new of (Loan_handle n) g)
      at _ g e = absurd (none-some named e)

  sendable_new : (named : ℕ × Loan T U) → sendable_at s handles of ≡ Some named → n0 ≤ named.0
  sendable_new named e =
      let is_written : written_at s handles of ≡ Some named =
      (fails (λ (n : ℕ × Loan T U). is_blocked s n.1.publisher) (written_at s handles of) named e).0 in
      loan_new named (passes (λ (n : ℕ × Loan T U). n.1.is_written) (loan_at s handles of) named is_written).0

  blocked_new : (named : ℕ × BlockedSend) → blocked_at s handles of ≡ Some named → p0 ≤ named.0
  blocked_new named e = at (slice_get handles of) refl e
    where
      send_of : (p n : ℕ) (b : Option BlockedSend) → p0 ≤ p
          → option_and_then {U = ℕ × BlockedSend} (λ b. cond (b.message == n) (Some (p, b)) None) b ≡ Some named
          → p0 ≤ named.0
      send_of p n None high e = absurd (none-some named e)
      send_of p n (Some b) high e = subst (λ i. p0 ≤ i)
          (ap (λ (m : ℕ × BlockedSend). m.0) (same_Some (p, b) named (kept_if _ (Some (p, b)) named e))) high

      present : (p n : ℕ) (v : Option Publisher) → p0 ≤ p
          → option_and_then {U = ℕ × BlockedSend}
          (λ x. option_and_then {U = ℕ × BlockedSend} (λ b. cond (b.message == n) (Some (p, b)) None) x.blocked) v
          ≡ Some named → p0 ≤ named.0
      present p n None high e = absurd (none-some named e)
      present p n (Some x) high e = send_of p n x.blocked high e

      at : (v : Option Handle) → slice_get handles of ≡ v → elim v [
        | Some (Blocked_handle p n) ↦ option_and_then {U = ℕ × BlockedSend}
            (λ x. option_and_then {U = ℕ × BlockedSend} (λ b. cond (b.message == n) (Some (p, b)) None) x.blocked)
            (s.publishers p)
        | _ ↦ None
      ] ≡ Some named → p0 ≤ named.0
      at (Some (Blocked_handle p n)) g e = present p n (s.publishers p) (new of (Blocked_handle p n) g) e
      at _ g e = absurd (none-some named e)

-- ---- what a step comes to

-- What was sent after an event.
abbrev pub out_after : {T U : Type 0} → (out : ℕ → List ℕ) → Event T U → ℕ → List ℕ
out_after out No_event = out
out_after out (Message_sent p n entry) = put_at out p (out p ++ n ∷ [])
out_after out (Message_received p q n) = out

-- What was received after an event.
abbrev pub got_then : {T U : Type 0} → (got : ℕ → ℕ → List ℕ) → Event T U → ℕ → ℕ → List ℕ
got_then got No_event = got
got_then got (Message_sent p n entry) = got
got_then got (Message_received p q n) = put_at got p (put_at (got p) q (got p q ++ n ∷ []))

-- a message that was delivered, to all or not, was sent
abbrev SentWith : SendResult → Type 0
SentWith result =
    ((count : ℕ) × (result ≡ Delivered_to count)) ⊎ ((result ≡ Blocked_send) ⊎ (result ≡ Send_error UnableToDeliver))

-- a publisher without a blocked send
no_blocked : {T U : Type 0} (s : State T U) (p : ℕ) (x : Publisher) → s.publishers p ≡ Some x → is_blocked s p ≡ false
    → x.blocked ≡ None
no_blocked s p x e free = nothing x.blocked (rw e at free)
  where
    nothing : (o : Option BlockedSend) → is_some o ≡ false → o ≡ None
    nothing None h = refl
    nothing (Some b) h = absurd (true≢false h)

module _ {T U : Type 0} (p0 n0 : ℕ) (out : ℕ → List ℕ) (got : ℕ → ℕ → List ℕ) where
  -- After the outcome messages were sent and received in order, and its handle names what the run made.
  pub record Goes (o : Outcome T U) : Type 0 where
    pub ordered : Ordered p0 n0 (out_after out o.event) (got_then got o.event) o.state
    pub handle : IsNew p0 n0 o.handle

  by_equal : (o o' : Outcome T U) → o ≡ o' → Goes o' → Goes o
  by_equal o o' e v = subst Goes (sym e) v

  silently : (reply : Reply T U) (s : State T U) → Ordered p0 n0 out got s → Goes (replied reply s)
  silently reply s w = record { ordered = w; handle = tt }

  after_publisher_goes : (s : State T U) (id : ℕ) (refusal : Option PublisherCreateError) → p0 ≤ id
      → Ordered p0 n0 out got s → Goes (after_publisher s id refusal)
  after_publisher_goes s id None new w = record { ordered = w; handle = new }
  after_publisher_goes s id (Some e) new w = silently _ s w

  after_subscriber_goes : (s : State T U) (id : ℕ) (refusal : Option SubscriberCreateError) → p0 ≤ id
      → Ordered p0 n0 out got s
      → Goes (after_subscriber s id refusal)
  after_subscriber_goes s id None new w = record { ordered = w; handle = new }
  after_subscriber_goes s id (Some e) new w = silently _ s w

  after_loan_goes : (s : State T U) (n : ℕ) (refusal : Option LoanError) → n0 ≤ n → Ordered p0 n0 out got s
      → Goes (after_loan s n refusal)
  after_loan_goes s n None new w = record { ordered = w; handle = new }
  after_loan_goes s n (Some e) new w = silently _ s w

  after_retry_goes : (s : State T U) (result : SendResult) → Ordered p0 n0 out got s → Goes (after_retry s result)
  after_retry_goes s (Delivered_to count) w = silently _ s w
  after_retry_goes s Blocked_send w = silently _ s w
  after_retry_goes s (Send_error e) w = silently _ s w

  after_update_goes : (s : State T U) (failure : Option ConnectionFailure) → Ordered p0 n0 out got s
      → Goes (after_update s failure)
  after_update_goes s None w = silently _ s w
  after_update_goes s (Some e) w = silently _ s w

  after_question_goes : (s : State T U) (failure : Option ConnectionFailure) (has_samples : Bool)
      → Ordered p0 n0 out got s
      → Goes (after_question s failure has_samples)
  after_question_goes s None has_samples w = silently _ s w
  after_question_goes s (Some e) has_samples w = silently _ s w

  after_receive_goes : (s : State T U) (q : ℕ) (result : ReceiveResult) → p0 ≤ q
      → Ordered p0 n0 out (got_after got q result) s → Goes (after_receive s q result)
  after_receive_goes s q (Got_sample p n) new w = record { ordered = w; handle = new }
  after_receive_goes s q No_sample new w = silently _ s w
  after_receive_goes s q (Receive_error e) new w = silently _ s w

  -- ---- a message is sent

  concluded : (s : State T U) (p n : ℕ) (how : DeliveryEnd) (s' : State T U) (result : SendResult)
      → ConcludeSend s p n how s' result → SentWith result
  concluded s p n (Complete count has_failed) s' result h =
      subst SentWith (sym h.1) (cond_both has_failed (Send_error UnableToDeliver) (Delivered_to count) SentWith
      (λ _. inr (inr refl)) (λ _. inl (count, refl)))
  concluded s p n (Suspended b) s' result h = inr (inl h.1)

  delivery_sends : (environment : Environment) (s : State T U) (p n channel retries : ℕ) (elapsed : Duration)
      (place : ℕ) (ends : List (Option ℕ)) (count : ℕ) (has_failed : Bool)
      (s' : State T U) (result : SendResult) → DeliverAndConclude environment s p
      (sending n channel retries place ends count has_failed) elapsed s' result → SentWith result
  delivery_sends environment s p n channel retries elapsed place ends count has_failed s' result h =
      by_option (SentWith result) (s.publishers p) _ _ h (λ _ v. absurd v)
      (λ y _ h. concluded (with_mailboxes s p h.1) p n h.0 s' result h.3)

  publish_sends : (environment : Environment) (s : State T U) (p n : ℕ) (s' : State T U) (result : SendResult)
      → Publish environment s p n s' result
      → SentWith result
  publish_sends environment s p n s' result h =
      by_option (SentWith result) (s.publishers p) _ _ h (λ _ v. absurd v) (λ x _ h.
      delivery_sends environment (published s p n) p n 0 0 no_time 0 x.ends 0 false s' result h)

  after_send_goes : (s : State T U) (p n : ℕ) (entry : Entry T U) (result : SendResult) → p0 ≤ p → SentWith result
      → Ordered p0 n0 (put_at out p (out p ++ n ∷ [])) got s → Goes (after_send s p n entry result)
  after_send_goes s p n entry result new sent w =
      ⊎_elim
      (λ (delivered : (count : ℕ) × (result ≡ Delivered_to count)). subst
      (λ (r : SendResult). Goes (after_send s p n entry r)) (sym delivered.1) (record { ordered = w; handle = tt }))
      (λ other. ⊎_elim
      (λ blocked. subst (λ (r : SendResult). Goes (after_send s p n entry r)) (sym blocked)
      (record { ordered = w; handle = new }))
      (λ failed. subst (λ (r : SendResult). Goes (after_send s p n entry r)) (sym failed)
      (record { ordered = w; handle = tt }))
      other)
      sent

  -- A loan is sent.
  send_goes : (environment : Environment) (s : State T U) (n : ℕ) (l : Loan T U) (o : Outcome T U)
      → Ordered p0 n0 out got s → IsWellFormed s → n0 ≤ n
      → s.loans n ≡ Some l → is_blocked s l.publisher ≡ false
      → ((s' : State T U) × (result : SendResult) × Send environment s n l s' result
      × (o ≡ after_send s' l.publisher n (entry_of l) result)) → Goes o
  send_goes environment s n l o w v new held free h =
      let p : ℕ = l.publisher in
      let new_p : p0 ≤ p = w.loans n l held new in
      let s' : State T U = h.0 in
      let result : SendResult = h.1 in
      by_equal o _ h.3 (by_option (Goes (after_send s' p n (entry_of l) result)) (s.publishers p) _ _ h.2
      (λ _ j. subst (λ (r : SendResult). Goes (after_send s' p n (entry_of l) r)) (sym j.1)
      (silently _ s'
      (subst (Ordered p0 n0 out got) (sym j.0) (quiet_keeps p0 n0 out got s _ w (loan_gone_quiet p0 s n)))))
      (λ x present j.
      let mid : State T U = j.0 in
      let w' : Ordered p0 n0 out got mid =
      quiet_keeps p0 n0 out got s mid w
      (update_publisher_quiet p0 environment s p x mid j.1 new_p v present (no_blocked s p x present free) j.2) in
      let v' : IsWellFormed mid = update_publisher_keeps environment s p mid j.1 v free j.2 in
      let left : (x' : Publisher) × (mid.publishers p ≡ Some x') × (x'.loans ≡ x.loans) × (x'.history ≡ x.history)
      × (x'.blocked ≡ x.blocked) × (mid.loans ≡ s.loans) =
      update_publisher_leaves environment s p mid j.1 x present j.2 in
      let still_held : mid.loans n ≡ Some l = ap (λ (f : ℕ → Option (Loan T U)). f n) left.5 ∙ held in
      by_option (Goes (after_send s' p n (entry_of l) result)) j.1 _ _ j.3
      (λ _ k. after_send_goes s' p n (entry_of l) result new_p (publish_sends environment mid p n s' result k)
      (publish_ordered p0 n0 out got mid p n left.0 l w' v' new_p still_held left.1 environment s' result k))
      (λ e _ k. subst (λ (r : SendResult). Goes (after_send s' p n (entry_of l) r)) (sym k.1)
      (silently _ s' (subst (Ordered p0 n0 out got) (sym k.0)
      (quiet_keeps p0 n0 out got mid _ w' (loan_discarded_quiet p0 mid n l)))))))

  -- A loan is sent to one connection.
  connection_goes : (environment : Environment) (s : State T U) (n : ℕ) (l : Loan T U) (channel place : ℕ)
      (o : Outcome T U) → Ordered p0 n0 out got s → IsWellFormed s → n0 ≤ n
      → s.loans n ≡ Some l
      → ((s' : State T U) × (result : SendResult) × SendToConnection environment s n l channel place s' result
      × (o ≡ after_send s' l.publisher n (entry_of l) result)) → Goes o
  connection_goes environment s n l channel place o w v new held h =
      let p : ℕ = l.publisher in
      let new_p : p0 ≤ p = w.loans n l held new in
      let s' : State T U = h.0 in
      let result : SendResult = h.1 in
      by_equal o _ h.3 (by_option (Goes (after_send s' p n (entry_of l) result)) (s.publishers p) _ _ h.2
      (λ _ j. subst (λ (r : SendResult). Goes (after_send s' p n (entry_of l) r)) (sym j.1)
      (silently _ s'
      (subst (Ordered p0 n0 out got) (sym j.0) (quiet_keeps p0 n0 out got s _ w (loan_gone_quiet p0 s n)))))
      (λ x present j.
      after_send_goes s' p n (entry_of l) result new_p
      (delivery_sends environment (with_loan s n None) p n channel 0 no_time place
      (take 1 (drop place x.ends)) 0 false s' result j)
      (connection_ordered p0 n0 out got s p n x l w v new_p held present environment channel place s' result j)))

  -- ---- the commands

  module _ (environment : Environment) (default_value : T) (default_header : U) (m : Messages T U) (s : State T U)
      (handles : List Handle) (v : IsWellFormed s) (w : Ordered p0 n0 out got s) (new : AllNew p0 n0 handles) where
    -- what follows where a command may be skipped
    live : {A : Type 0} (o : Outcome T U) (named : Option A) (Then : A → Type 0)
        → MatchOption named (o ≡ skipped s) Then
        → ((a : A) → named ≡ Some a → Then a → Goes o) → Goes o
    live o named Then h go = by_option (Goes o) named _ _ h (λ _ e. by_equal o (skipped s) e (silently _ s w)) go

    -- what follows where nothing is sent or received
    quietly : (o : Outcome T U) (reply : Reply T U) (s' : State T U) → o ≡ replied reply s' → Quiet p0 s s' → Goes o
    quietly o reply s' e k = by_equal o (replied reply s') e (silently reply s' (quiet_keeps p0 n0 out got s s' w k))

    unchanged : (o : Outcome T U) (reply : Reply T U) → o ≡ replied reply s → Goes o
    unchanged o reply e = by_equal o (replied reply s) e (silently reply s w)

    -- what follows where channels alone change
    channels_go : (o : Outcome T U) → OnChannels s o → Goes o
    channels_go o k = quietly o k.reply (record s { channels = k.channels }) k.is (channels_quiet p0 s k.channels)

    loan_goes : (checks_length : Bool) (len : ℕ) (named : Option (ℕ × Publisher)) (o : Outcome T U)
        → ((publisher : ℕ × Publisher) → named ≡ Some publisher → p0 ≤ publisher.0)
        → MatchOption (if_single_units s named) (o ≡ skipped s) (λ (publisher : ℕ × Publisher).
        (s' : State T U) × (refusal : Option LoanError) × GrantLoan environment default_header checks_length len s
        publisher.0 s' refusal × (o ≡ after_loan s' s.next_message refusal))
        → Goes o
    loan_goes checks_length len named o high h =
        live o (if_single_units s named) _ h (λ publisher e k.
        by_equal o _ k.3 (after_loan_goes k.0 s.next_message k.1 w.numbers
        (quiet_keeps p0 n0 out got s k.0 w
        (grant_loan_quiet p0 environment default_header checks_length len s publisher.0 k.0 k.1
        (high publisher (in_single_units s named publisher e)) k.2))))

    -- Each command keeps the order.
    pub command_goes : (command : Command T U) (o : Outcome T U)
        → Step environment default_value default_header m s handles command o → Goes o
    command_goes Nothing o h = unchanged o _ h
    command_goes (CreatePublisher asked) o h =
        by_equal o _ h.3 (after_publisher_goes h.0 s.next_port h.1 w.ports
        (create_publisher_ordered p0 n0 out got environment s w _ h.0 h.1 v h.2))
    command_goes (CreateSubscriber buffer degradation) o h =
        by_equal o _ h.3 (after_subscriber_goes h.0 s.next_port h.1 w.ports
        (create_subscriber_ordered p0 n0 out got environment s w _ h.0 h.1 h.2))
    command_goes (LoanUninit of) o h =
        loan_goes false 1 (if_fixed_size s (unblocked_at s handles of)) o
        (λ publisher e. unblocked_new p0 n0 s handles new of publisher (in_fixed_size s _ publisher e)) h
    command_goes (LoanDefault of) o h =
        live o (if_single_units s (if_fixed_size s (unblocked_at s handles of))) _ h (λ publisher e k.
        let high : p0 ≤ publisher.0 = unblocked_new p0 n0 s handles new of publisher
        (in_fixed_size s _ publisher (in_single_units s _ publisher e)) in
        by_equal o _ k.3 (after_loan_goes k.0 s.next_message k.1 w.numbers
        (grant_written_loan_ordered p0 n0 out got environment default_value default_header false 1 s publisher.0 k.0 k.1
        high w k.2)))
    command_goes (LoanSlice of len) o h =
        loan_goes true len (if_dynamic s (unblocked_at s handles of)) o
        (λ publisher e. unblocked_new p0 n0 s handles new of publisher (in_dynamic s _ publisher e)) h
    command_goes (WriteCell of at value) o h =
        live o (with_cell_at at (unwritten_at s handles of)) _ h (λ loan e k.
        let is : (s.loans loan.0 ≡ Some loan.1) × (loan.1.is_written ≡ false) =
        unwritten_is s handles of loan
        (passes (λ (n : ℕ × Loan T U). ltb at (length n.1.cells)) (unwritten_at s handles of) loan e).0 in
        quietly o _ _ k (loan_changed_quiet p0 s loan.0 loan.1 (with_cell loan.1 at value) is.0 refl))
    command_goes (WriteAll of value) o h =
        live o (unwritten_at s handles of) _ h (λ loan e k.
        quietly o _ _ k
        (loan_changed_quiet p0 s loan.0 loan.1 (written loan.1 value) (unwritten_is s handles of loan e).0 refl))
    command_goes (AssumeInit of) o h =
        live o (unwritten_at s handles of) _ h (λ loan e k.
        by_equal o _ k
        (cond_both (is_initialized loan.1) (done (initialized s loan.0 loan.1)) (replied Unwritten s) Goes
        (λ _. quietly (done (initialized s loan.0 loan.1)) _ _ refl
        (loan_changed_quiet p0 s loan.0 loan.1 (record (loan.1) { is_written = true })
        (unwritten_is s handles of loan e).0 refl))
        (λ _. unchanged (replied Unwritten s) _ refl)))
    command_goes (WriteHeader of value) o h =
        live o (loan_at s handles of) _ h (λ loan e k.
        quietly o _ _ k (loan_changed_quiet p0 s loan.0 loan.1 (record (loan.1) { user_header = value })
        (loan_is s handles of loan e) refl))
    command_goes (SetPayload of at value) o h =
        live o (with_cell_at at (written_at s handles of)) _ h (λ loan e k.
        let is : (s.loans loan.0 ≡ Some loan.1) × (loan.1.is_written ≡ true) =
        written_is s handles of loan
        (passes (λ (n : ℕ × Loan T U). ltb at (length n.1.cells)) (written_at s handles of) loan e).0 in
        quietly o _ _ k (loan_changed_quiet p0 s loan.0 loan.1 (with_cell loan.1 at value) is.0 refl))
    command_goes (SendLoan of) o h =
        live o (sendable_at s handles of) _ h (λ loan e k.
        let is : (s.loans loan.0 ≡ Some loan.1) × (is_blocked s loan.1.publisher ≡ false) =
        sendable_is s handles of loan e in
        send_goes environment s loan.0 loan.1 o w v (sendable_new p0 n0 s handles new of loan e) is.0 is.1 k)
    command_goes (SendLoanTo of channel place) o h =
        live o (if_channel s channel (sendable_at s handles of)) _ h (λ loan e k.
        let named : sendable_at s handles of ≡ Some loan =
        (has_channel s channel (sendable_at s handles of) loan e).1 in
        connection_goes environment s loan.0 loan.1 channel place o w v (sendable_new p0 n0 s handles new of loan named)
        (sendable_is s handles of loan named).0 k)
    command_goes (SendCopy of value) o h =
        live o (if_single_units s (if_fixed_size s (unblocked_at s handles of))) _ h (λ publisher e k.
        let named : unblocked_at s handles of ≡ Some publisher =
        in_fixed_size s _ publisher (in_single_units s _ publisher e) in
        let is : (s.publishers publisher.0 ≡ Some publisher.1) × (is_none publisher.1.blocked ≡ true) =
        unblocked_is s handles of publisher named in
        let mid : State T U = k.0 in
        let w' : Ordered p0 n0 out got mid =
        grant_written_loan_ordered p0 n0 out got environment value default_header false 1 s publisher.0 mid k.1
        (unblocked_new p0 n0 s handles new of publisher named) w k.2 in
        let v' : IsWellFormed mid =
        grant_written_loan_keeps environment value default_header false 1 s publisher.0 mid k.1 v k.2 in
        let free : is_blocked mid publisher.0 ≡ false =
        grant_written_loan_unblocked environment value default_header false 1 s publisher.0 mid k.1 k.2
        (not_blocked s publisher.0 publisher.1 is.0 is.1) in
        by_option (Goes o) k.1 _ _ k.3
        (λ granted j. by_option (Goes o) (mid.loans s.next_message) _ _ j (λ _ f. absurd f) (λ l held j.
        let same : l.publisher ≡ publisher.0 =
        grant_written_loan_publisher environment value default_header false 1 s publisher.0 mid k.1 l granted held
        k.2 in
        send_goes environment mid s.next_message l o w' v' w.numbers held
        (subst (λ p. is_blocked mid p ≡ false) (sym same) free) j))
        (λ e _ j. by_equal o _ j (silently _ mid w')))
    command_goes (Discard of) o h =
        live o (loan_at s handles of) _ h (λ loan _ k. quietly o _ _ k (loan_discarded_quiet p0 s loan.0 loan.1))
    command_goes (RetrySend of elapsed) o h =
        live o (blocked_at s handles of) _ h (λ blocked e k.
        let is : (x : Publisher) × (s.publishers blocked.0 ≡ Some x) × (x.blocked ≡ Some blocked.1) =
        blocked_is s handles of blocked e in
        by_equal o _ k.3 (after_retry_goes k.0 k.1
        (retry_ordered p0 n0 out got environment s blocked.0 is.0 blocked.1 w v
        (blocked_new p0 n0 s handles new of blocked e) is.1 is.2 elapsed k.0 k.1 k.2)))
    command_goes (GiveUpSend of) o h =
        live o (blocked_at s handles of) _ h (λ blocked e k.
        let is : (x : Publisher) × (s.publishers blocked.0 ≡ Some x) × (x.blocked ≡ Some blocked.1) =
        blocked_is s handles of blocked e in
        by_equal o _ k.3 (after_retry_goes k.0 k.1
        (give_up_ordered p0 n0 out got environment s blocked.0 is.0 blocked.1 w v
        (blocked_new p0 n0 s handles new of blocked e) is.1 is.2 k.0 k.1 k.2)))
    command_goes (Update of) o h =
        by_option (Goes o) (unblocked_at s handles of) _ _ h
        (λ _ j. live o (subscriber_at s handles of) _ j (λ subscriber _ k.
        by_equal o _ k.3 (after_update_goes k.0 k.1
        (quiet_keeps p0 n0 out got s k.0 w (update_subscriber_quiet p0 environment s subscriber.0 k.0 k.1 k.2)))))
        (λ publisher e k.
        let is : (s.publishers publisher.0 ≡ Some publisher.1) × (is_none publisher.1.blocked ≡ true) =
        unblocked_is s handles of publisher e in
        by_equal o _ k.3 (after_update_goes k.0 k.1 (quiet_keeps p0 n0 out got s k.0 w
        (update_publisher_quiet p0 environment s publisher.0 publisher.1 k.0 k.1
        (unblocked_new p0 n0 s handles new of publisher e) v is.0
        (no_blocked s publisher.0 publisher.1 is.0 (not_blocked s publisher.0 publisher.1 is.0 is.1)) k.2))))
    command_goes (Receive of) o h =
        live o (if_single_units s (subscriber_at s handles of)) _ h (λ subscriber e k.
        let high : p0 ≤ subscriber.0 =
        subscriber_new p0 n0 s handles new of subscriber (in_single_units s _ subscriber e) in
        by_equal o _ k.3 (after_receive_goes k.0 subscriber.0 k.1 high
        (receive_ordered p0 n0 out got environment s subscriber.0 k.0 k.1 w v high k.2)))
    command_goes (HasSamples of) o h =
        live o (subscriber_at s handles of) _ h (λ subscriber _ k.
        by_equal o _ k.4 (after_question_goes k.0 k.1 k.2
        (quiet_keeps p0 n0 out got s k.0 w (update_subscriber_quiet p0 environment s subscriber.0 k.0 k.1 (k.3).0))))
    command_goes (Read of at) o h =
        by_option (Goes o) (sample_at s handles of) _ _ h
        (λ _ j. live o (with_cell_at at (loan_at s handles of)) _ j (λ loan _ k.
        by_option (Goes o) (slice_get (loan.1).cells at) _ _ k (λ _ f. absurd f) (λ cell _ e. unchanged o _ e)))
        (λ sample _ k. by_option (Goes o) (m sample.2) _ _ k (λ _ f. absurd f)
        (λ entry _ j. live o (slice_get entry.values at) _ j (λ value _ e. unchanged o _ e)))
    command_goes (ReadHeader of) o h =
        by_option (Goes o) (sample_at s handles of) _ _ h
        (λ _ j. live o (loan_at s handles of) _ j (λ loan _ e. unchanged o _ e))
        (λ sample _ k. by_option (Goes o) (m sample.2) _ _ k (λ _ f. absurd f) (λ entry _ e. unchanged o _ e))
    command_goes (ReadUserHeader of) o h =
        by_option (Goes o) (sample_at s handles of) _ _ h
        (λ _ j. live o (loan_at s handles of) _ j (λ loan _ e. unchanged o _ e))
        (λ sample _ k. by_option (Goes o) (m sample.2) _ _ k (λ _ f. absurd f) (λ entry _ e. unchanged o _ e))
    command_goes (Release of) o h =
        live o (sample_at s handles of) _ h (λ sample _ k.
        by_equal o _ k (silently _ _ (released_ordered p0 n0 out got s sample.0 sample.1 sample.2 w)))
    command_goes (Close of) o h =
        by_option (Goes o) (unblocked_at s handles of) _ _ h
        (λ _ j. live o (subscriber_at s handles of) _ j (λ subscriber _ k.
        by_equal o _ k (silently _ _ (subscriber_closed_ordered p0 n0 out got s subscriber.0 subscriber.1 w))))
        (λ publisher _ k.
        by_equal o _ k (silently _ _ (publisher_closed_ordered p0 n0 out got s publisher.0 publisher.1 w)))
    command_goes (ConnectionPlace of receiver) o h = channels_go o
        (on_channels environment default_value default_header m s handles (ConnectionPlace of receiver) o refl h)
    command_goes (PublisherChannel of channel place call) o h =
        channels_go o (on_channels environment default_value default_header m s handles
        (PublisherChannel of channel place call) o refl h)
    command_goes (SubscriberChannel of channel call) o h =
        channels_go o (on_channels environment default_value default_header m s handles
        (SubscriberChannel of channel call) o refl h)
