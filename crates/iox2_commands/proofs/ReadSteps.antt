-- What each step tells of messages: who sent them, who received them, and what stays borrowed.
use Rattle.std.proofs.Common.{◌≡◌, ℕ, ◌≤◌, Bool, true, false, List, take, drop, length, ltb, refl, sym, ap, subst, ◌∙◌}
use Rattle.std.proofs.Common.{eqb, Option, None, Some, ◌⊎◌, inl, inr, ⊎_elim}
use Rattle.std.specs.Prelude.{MatchOption, slice_get}
use Rattle.std.proofs.lemmas.Bool.{true≢false, cond_both, eqb-false}
use Rattle.iox2_machine.specs.machine.Mailbox.{is_borrowed}
use Rattle.iox2_machine.specs.machine.Records.{Entry, Loan, Publisher, Environment}
use Rattle.iox2_machine.specs.machine.State.{State, Messages, with_loan}
use Rattle.iox2_machine.specs.machine.Loans.{GrantLoan, written, with_cell, is_initialized, initialized, loan_discarded}
use Rattle.iox2_machine.specs.machine.Loans.{entry_of}
use Rattle.iox2_machine.specs.machine.Delivery.{DeliveryEnd, Complete, Suspended, no_time}
use Rattle.iox2_machine.specs.machine.Sends.{Send, SendToConnection, DeliverAndConclude, Publish, ConcludeSend}
use Rattle.iox2_machine.specs.machine.Sends.{SendResult, Delivered_to, Blocked_send, Send_error, with_mailboxes}
use Rattle.iox2_machine.specs.machine.Sends.{published}
use Rattle.iox2_machine.specs.machine.Receives.{Receive as Receives, ReceiveResult, Got_sample, No_sample}
use Rattle.iox2_machine.specs.machine.Receives.{Receive_error}
use Rattle.iox2_machine.specs.machine.Releases.{released}
use Rattle.iox2_machine.specs.machine.Ports.{publisher_closed, subscriber_closed}
use Rattle.iox2_machine.specs.machine.WellFormed.{IsWellFormed}
use Rattle.iox2_machine.specs.declared.errors.ConnectionFailure.{ConnectionFailure}
use Rattle.iox2_machine.specs.declared.errors.LoanError.{LoanError}
use Rattle.iox2_machine.specs.declared.errors.SendError.TheVariants.{ConnectionBrokenSinceSenderNoLongerExists}
use Rattle.iox2_machine.specs.declared.errors.SendError.TheVariants.{LoanError as NotLoaned, ConnectionError}
use Rattle.iox2_machine.specs.declared.errors.SendError.TheVariants.{UnableToDeliver}
use Rattle.iox2_machine.specs.declared.errors.PublisherCreateError.{PublisherCreateError}
use Rattle.iox2_machine.specs.declared.errors.SubscriberCreateError.{SubscriberCreateError}
use Rattle.iox2_laws.specs.Sendings.{sending}
use Rattle.iox2_laws.proofs.Cases.{by_option}
use Rattle.iox2_commands.specs.Outcomes.{Handle, No_handle, Sample_handle, Event, No_event, Message_sent}
use Rattle.iox2_commands.specs.Outcomes.{Message_received, Outcome, replied, done, skipped}
use Rattle.iox2_commands.specs.Step.{Step, after_publisher, after_subscriber, after_loan, after_send, after_retry}
use Rattle.iox2_commands.specs.Step.{after_update, after_receive, after_question, unblocked_at, subscriber_at, loan_at}
use Rattle.iox2_commands.specs.Step.{unwritten_at, written_at, with_cell_at, sendable_at, blocked_at, sample_at}
use Rattle.iox2_commands.specs.Step.{if_single_units, if_fixed_size, if_dynamic, if_channel}
use Rattle.iox2_commands.specs.declared.command.Command.{Command}
use Rattle.iox2_commands.specs.declared.command.Command.TheVariants.{Nothing, CreatePublisher, CreateSubscriber}
use Rattle.iox2_commands.specs.declared.command.Command.TheVariants.{LoanUninit, Loan as LoanDefault, LoanSlice}
use Rattle.iox2_commands.specs.declared.command.Command.TheVariants.{WriteCell, WriteAll, AssumeInit, WriteHeader}
use Rattle.iox2_commands.specs.declared.command.Command.TheVariants.{SetPayload, Send as SendLoan, SendCopy, Discard}
use Rattle.iox2_commands.specs.declared.command.Command.TheVariants.{Retry as RetrySend, GiveUp as GiveUpSend, Update}
use Rattle.iox2_commands.specs.declared.command.Command.TheVariants.{Receive, HasSamples, Read, ReadHeader}
use Rattle.iox2_commands.specs.declared.command.Command.TheVariants.{ReadUserHeader, Release, Close}
use Rattle.iox2_commands.specs.declared.command.Command.TheVariants.{SendToConnection as SendLoanTo, ConnectionPlace}
use Rattle.iox2_commands.specs.declared.command.Command.TheVariants.{PublisherChannel, SubscriberChannel}
use Rattle.iox2_commands.specs.declared.reply.Reply.{Reply}
use Rattle.iox2_commands.specs.declared.reply.Reply.TheVariants.{Unwritten, SendRefused, Sample, Cell, Header}
use Rattle.iox2_commands.specs.declared.reply.Reply.TheVariants.{UserHeader}
use Rattle.iox2_laws.proofs.LoanLaws.{grant_written_loan_keeps}
use Rattle.iox2_commands.proofs.Named.{loan_is, unwritten_is, written_is, sendable_is, blocked_is, passes}
use Rattle.iox2_commands.proofs.Named.{in_single_units, in_fixed_size, in_dynamic, has_channel}
use Rattle.iox2_commands.proofs.Owned.{IsOwn, AreOwn, unblocked_own, subscriber_own, sendable_own, blocked_own}
use Rattle.iox2_commands.proofs.Owned.{sample_is}
use Rattle.iox2_commands.proofs.Follows.{Scope, IsTraced, Follows, LoanTraced, MailboxesTraced, PublishersTraced}
use Rattle.iox2_commands.proofs.Follows.{follows_itself, traced_after, follows_trans, update_publisher_follows}
use Rattle.iox2_commands.proofs.Follows.{update_subscriber_follows, receive_follows, received_was_sent, released_traced}
use Rattle.iox2_commands.proofs.Follows.{released_stays, grant_loan_follows, with_loan_follows}
use Rattle.iox2_commands.proofs.Follows.{grant_written_loan_follows, without_loan_follows, loan_discarded_follows}
use Rattle.iox2_commands.proofs.Follows.{publish_follows, deliver_follows, retry_follows, give_up_follows}
use Rattle.iox2_commands.proofs.Follows.{create_publisher_follows, create_subscriber_follows, publisher_closed_follows}
use Rattle.iox2_commands.proofs.Follows.{subscriber_closed_follows}
use Rattle.iox2_commands.proofs.ChannelOutcomes.{OnChannels, is_of_channels, on_channels}
use Rattle.std.specs.declared.time.Duration.{Duration}
use Rattle.iox2_laws.proofs.Puts.{found_removed}

-- What a run has done so far: ports and loans from these numbers on are its own, and it sent these messages.
pub record PastSends (T U : Type 0) : Type 1 where
  pub first_port : ℕ
  pub first_message : ℕ
  pub WasSent : (p n : ℕ) → Entry T U → Type 0

-- the handle is that of a sample
abbrev names_sample : Handle → Bool
names_sample (Sample_handle p q n) = true
names_sample _ = false

module _ {T U : Type 0} where
  -- A message of p was sent whose header names p; and a number wasn't sent at all.
  abbrev pub scope_of : PastSends T U → Scope
  scope_of past = record {
    first_port = past.first_port;
    first_message = past.first_message;
    WasSent = λ p n. (entry : Entry T U) × past.WasSent p n entry × ((entry.header).publisher_id ≡ p);
    IsUnsent = λ n. (p : ℕ) (entry : Entry T U) → past.WasSent p n entry → ⊥;
  }

  -- The same with one event more.
  abbrev pub past_after : PastSends T U → Event T U → PastSends T U
  past_after past event =
      record past { WasSent = λ p n entry. past.WasSent p n entry ⊎ (event ≡ Message_sent p n entry) }

  -- The command doesn't release that sample.
  abbrev pub IsSpared : List Handle → Command T U → (p q n : ℕ) → Type 0
  IsSpared handles command p q n =
      (of : ℕ) → command ≡ Release of → slice_get handles of ≡ Some (Sample_handle p q n) → ⊥

  -- What an outcome tells.
  pub record IsTold (past : PastSends T U) (s : State T U) (handles : List Handle) (command : Command T U)
      (o : Outcome T U) : Type 0 where
    pub traced : IsTraced (scope_of (past_after past o.event)) o.state
    pub own : IsOwn past.first_port past.first_message o.handle
    -- a message that is sent wasn't sent before, and its header names its publisher
    pub sent : (p n : ℕ) (entry : Entry T U) → o.event ≡ Message_sent p n entry
        → ((p' : ℕ) (entry' : Entry T U) → past.WasSent p' n entry' → ⊥) × ((entry.header).publisher_id ≡ p)
    -- a message that is received was sent, and is borrowed under a handle from now on
    pub received : (p q n : ℕ) → o.event ≡ Message_received p q n
        → ((entry : Entry T U) × past.WasSent p n entry × ((entry.header).publisher_id ≡ p))
        × (o.handle ≡ Sample_handle p q n)
        × (is_borrowed n ((o.state).mailboxes p q) ≡ true)
    -- a reply that names a publisher says that its message was received, and so does a handle of a sample
    pub origin : (p : ℕ) → o.reply ≡ Sample p → (q n : ℕ) × (o.event ≡ Message_received p q n)
    pub sampled : (p q n : ℕ) → o.handle ≡ Sample_handle p q n → o.event ≡ Message_received p q n
    -- what isn't released stays borrowed
    pub borrowed : (p q n : ℕ) → IsSpared handles command p q n → is_borrowed n (s.mailboxes p q) ≡ true
        → is_borrowed n ((o.state).mailboxes p q) ≡ true

  -- ---- what doesn't send

  abbrev is_sample : Reply T U → Bool
  is_sample (Sample p) = true
  is_sample _ = false

  -- a call on channels replies no sample
  not_sample : (r : Reply T U) → is_of_channels r ≡ true → is_sample r ≡ false
  not_sample (Sample p) h = absurd (true≢false (sym h))
  not_sample _ h = refl

  -- an event that sends nothing leaves the state traced
  still_traced : (past : PastSends T U) (s : State T U) (event : Event T U)
      → ((p n : ℕ) (entry : Entry T U) → event ≡ Message_sent p n entry → ⊥)
      → IsTraced (scope_of past) s → IsTraced (scope_of (past_after past event)) s
  still_traced past s event none t = (
    λ p q k h low. let v : (scope_of past).WasSent p k = t.0 p q k h low in (v.0, inl v.1, v.2),
    λ p x e low. (
      λ k h. let v : (scope_of past).WasSent p k = (t.1 p x e low).0 k h in (v.0, inl v.1, v.2),
      λ b f. let v : (scope_of past).WasSent p b.message = (t.1 p x e low).1 b f in (v.0, inl v.1, v.2),
    ),
    λ n l e. (λ p entry w. ⊎_elim (λ old. (t.2 n l e).0 p entry old) (λ new. none p n entry new) w, (t.2 n l e).1),
  )

  module _ (past : PastSends T U) (s : State T U) (handles : List Handle) (command : Command T U) where
    abbrev Tells : Outcome T U → Type 0
    Tells o = IsTold past s handles command o

    -- an outcome without an event, a sample or its handle
    quiet : (o : Outcome T U) → o.event ≡ No_event → is_sample o.reply ≡ false → names_sample o.handle ≡ false
        → IsOwn past.first_port past.first_message o.handle
        → IsTraced (scope_of past) o.state
        → ((p q n : ℕ) → IsSpared handles command p q n → is_borrowed n (s.mailboxes p q) ≡ true
        → is_borrowed n ((o.state).mailboxes p q) ≡ true) → Tells o
    quiet o silent no_sample no_name own t stays = record {
      traced = still_traced past o.state o.event
          (λ p n entry e. let clash : No_event ≡ Message_sent p n entry = sym silent ∙ e in absurd (cc)) t;
      own = own;
      sent = λ p n entry e. let clash : No_event ≡ Message_sent p n entry = sym silent ∙ e in absurd (cc);
      received = λ p q n e. let clash : No_event ≡ Message_received p q n = sym silent ∙ e in absurd (cc);
      origin = λ p e. absurd (true≢false (sym (ap is_sample e) ∙ no_sample));
      sampled = λ p q n e. absurd (true≢false (sym (ap names_sample e) ∙ no_name));
      borrowed = stays;
    }

    -- the same where the state follows the old one
    silent : (o : Outcome T U) → o.event ≡ No_event → is_sample o.reply ≡ false → names_sample o.handle ≡ false
        → IsOwn past.first_port past.first_message o.handle
        → Follows (scope_of past) s o.state → Tells o
    silent o e f g own h = quiet o e f g own (traced_after (scope_of past) s o.state h) (λ p q n _ k. (h.0 p q).1 n k)

    -- channels alone change
    channels_tell : (o : Outcome T U) → IsTraced (scope_of past) s → OnChannels s o → Tells o
    channels_tell o t k =
        subst Tells (sym k.is) (silent (replied k.reply (record s { channels = k.channels })) refl
        (not_sample k.reply k.plain) refl tt (follows_itself (scope_of past) s t))

    -- nothing is done
    nothing : (o o' : Outcome T U) → o ≡ o' → o'.event ≡ No_event → is_sample o'.reply ≡ false → o'.handle ≡ No_handle
        → o'.state ≡ s → IsTraced (scope_of past) s
        → Tells o
    nothing o o' e silence no_sample no_handle same t =
        subst Tells (sym e) (silent o' silence no_sample (ap names_sample no_handle)
        (subst (IsOwn past.first_port past.first_message) (sym no_handle) tt)
        (subst (Follows (scope_of past) s) (sym same) (follows_itself (scope_of past) s t)))

    live : {A : Type 0} (o : Outcome T U) (named : Option A) (Then : A → Type 0) → IsTraced (scope_of past) s
        → MatchOption named (o ≡ skipped s) Then
        → ((a : A) → named ≡ Some a → Then a → Tells o) → Tells o
    live o named Then t h go = by_option (Tells o) named _ _ h (λ _ e. nothing o (skipped s) e refl refl refl refl t) go

    module _ (s' : State T U) (f : Follows (scope_of past) s s') where
      publisher_tells : (id : ℕ) (refusal : Option PublisherCreateError) → past.first_port ≤ id
          → Tells (after_publisher s' id refusal)
      publisher_tells id None own = silent (after_publisher s' id None) refl refl refl own f
      publisher_tells id (Some e) own = silent (after_publisher s' id (Some e)) refl refl refl tt f

      subscriber_tells : (id : ℕ) (refusal : Option SubscriberCreateError) → past.first_port ≤ id
          → Tells (after_subscriber s' id refusal)
      subscriber_tells id None own = silent (after_subscriber s' id None) refl refl refl own f
      subscriber_tells id (Some e) own = silent (after_subscriber s' id (Some e)) refl refl refl tt f

      loan_tells : (n : ℕ) (refusal : Option LoanError) → past.first_message ≤ n → Tells (after_loan s' n refusal)
      loan_tells n None own = silent (after_loan s' n None) refl refl refl own f
      loan_tells n (Some e) own = silent (after_loan s' n (Some e)) refl refl refl tt f

      retry_tells : (result : SendResult) → Tells (after_retry s' result)
      retry_tells (Delivered_to count) = silent (after_retry s' (Delivered_to count)) refl refl refl tt f
      retry_tells Blocked_send = silent (after_retry s' Blocked_send) refl refl refl tt f
      retry_tells (Send_error e) = silent (after_retry s' (Send_error e)) refl refl refl tt f

      update_tells : (failure : Option ConnectionFailure) → Tells (after_update s' failure)
      update_tells None = silent (after_update s' None) refl refl refl tt f
      update_tells (Some e) = silent (after_update s' (Some e)) refl refl refl tt f

      question_tells : (failure : Option ConnectionFailure) (has_samples : Bool)
          → Tells (after_question s' failure has_samples)
      question_tells None has_samples = silent (after_question s' None has_samples) refl refl refl tt f
      question_tells (Some e) has_samples = silent (after_question s' (Some e) has_samples) refl refl refl tt f

      receive_tells : (q : ℕ) (result : ReceiveResult)
          → ((p n : ℕ) → result ≡ Got_sample p n → (scope_of past).WasSent p n
          × (is_borrowed n (s'.mailboxes p q) ≡ true)) → Tells (after_receive s' q result)
      receive_tells q (Got_sample p n) was = record {
        traced = still_traced past s' (Message_received p q n) (λ p' n' entry e. absurd (cc))
            (traced_after (scope_of past) s s' f);
        own = tt;
        sent = λ p' n' entry e. absurd (cc);
        received = λ p' q' n' e.
            let got : (scope_of past).WasSent p n × (is_borrowed n (s'.mailboxes p q) ≡ true) = was p n refl in
            let a : p ≡ p' = cc in let b : q ≡ q' = cc in let c : n ≡ n' = cc in
            subst (λ n'. (scope_of past).WasSent p' n' × (Sample_handle p q n ≡ Sample_handle p' q' n')
            × (is_borrowed n' (s'.mailboxes p' q') ≡ true)) c
            (subst (λ q'. (scope_of past).WasSent p' n × (Sample_handle p q n ≡ Sample_handle p' q' n)
            × (is_borrowed n (s'.mailboxes p' q') ≡ true)) b
            (subst (λ p'. (scope_of past).WasSent p' n × (Sample_handle p q n ≡ Sample_handle p' q n)
            × (is_borrowed n (s'.mailboxes p' q) ≡ true)) a
            (got.0, refl, got.1)));
        origin = λ p' e. let same : p ≡ p' = cc in (q, n, ap (λ i. Message_received i q n) same);
        sampled = λ p' q' n' e. cc;
        borrowed = λ p' q' n' _ k. (f.0 p' q').1 n' k;
      }
      receive_tells q No_sample was = silent (after_receive s' q No_sample) refl refl refl tt f
      receive_tells q (Receive_error e) was = silent (after_receive s' q (Receive_error e)) refl refl refl tt f

    -- ---- a loan is sent

    -- what holds of each answer to a message that was delivered holds of the answer
    delivery_answers : (environment : Environment) (at : State T U) (p n channel retries : ℕ) (elapsed : Duration)
        (place : ℕ) (ends : List (Option ℕ)) (count : ℕ) (has_failed : Bool)
        (s' : State T U) (result : SendResult) (R : SendResult → Type 0)
        → ((count : ℕ) → R (Delivered_to count)) → R Blocked_send → R (Send_error UnableToDeliver)
        → DeliverAndConclude environment at p (sending n channel retries place ends count has_failed) elapsed s' result
        → R result
    delivery_answers environment at p n channel retries elapsed place ends count has_failed s' result R delivered
        blocked failed h =
        by_option (R result) (at.publishers p) _ _ h (λ _ v. absurd v)
        (λ _ _ j. concluded j.0 (with_mailboxes at p j.1) j.3)
      where
        concluded : (how : DeliveryEnd) (at : State T U) → ConcludeSend at p n how s' result → R result
        concluded (Complete count has_failed) at h =
            subst R (sym h.1) (cond_both has_failed (Send_error UnableToDeliver) (Delivered_to count) R (λ _. failed)
            (λ _. delivered count))
        concluded (Suspended b) at h = subst R (sym h.1) blocked

    -- what holds of each answer to a message that was published holds of the answer
    published_answers : (environment : Environment) (from : State T U) (p n : ℕ) (s' : State T U) (result : SendResult)
        (R : SendResult → Type 0)
        → ((count : ℕ) → R (Delivered_to count)) → R Blocked_send → R (Send_error UnableToDeliver)
        → Publish environment from p n s' result → R result
    published_answers environment from p n s' result R delivered blocked failed h =
        by_option (R result) (from.publishers p) _ _ h (λ _ v. absurd v) (λ x _ k.
        delivery_answers environment
        (published from p n) p n 0 0 no_time 0 x.ends 0 false s' result R delivered blocked failed k)

    module _ (environment : Environment) (from : State T U) (f : Follows (scope_of past) s from) (n : ℕ) (l : Loan T U)
        (is : from.loans n ≡ Some l)
        (own : past.first_port ≤ l.publisher) (header : (l.header).publisher_id ≡ l.publisher) where
      -- the message that is sent
      abbrev message : Event T U
      message = Message_sent l.publisher n (entry_of l)

      -- it wasn't sent before
      unsent : (p : ℕ) (entry : Entry T U) → past.WasSent p n entry → ⊥
      unsent = (f.2 n l is).0

      module _ (s' : State T U) (t : IsTraced (scope_of (past_after past message)) s')
          (stays : (p q n : ℕ) → is_borrowed n (s.mailboxes p q) ≡ true → is_borrowed n (s'.mailboxes p q) ≡ true) where
        message_tells : (o : Outcome T U) → o.state ≡ s' → o.event ≡ message → is_sample o.reply ≡ false
            → names_sample o.handle ≡ false
            → IsOwn past.first_port past.first_message o.handle → Tells o
        message_tells o same sends no_sample no_name named = record {
          traced = subst (λ (e : Event T U). IsTraced (scope_of (past_after past e)) o.state) (sym sends)
              (subst (IsTraced (scope_of (past_after past message))) (sym same) t);
          own = named;
          sent = λ p k entry e.
              let clash : message ≡ Message_sent p k entry = sym sends ∙ e in
              let a : l.publisher ≡ p = cc in let b : n ≡ k = cc in let c : entry_of l ≡ entry = cc in (
                subst (λ k. (p' : ℕ) (entry' : Entry T U) → past.WasSent p' k entry' → ⊥) b unsent,
                ap (λ (v : Entry T U). (v.header).publisher_id) (sym c) ∙ header ∙ a,
              );
          received = λ p q k e. let clash : message ≡ Message_received p q k = sym sends ∙ e in absurd (cc);
          origin = λ p e. absurd (true≢false (sym (ap is_sample e) ∙ no_sample));
          sampled = λ p q k e. absurd (true≢false (sym (ap names_sample e) ∙ no_name));
          borrowed =
              λ p q k _ h. subst (λ (r : State T U). is_borrowed k (r.mailboxes p q) ≡ true) (sym same) (stays p q k h);
        }

      -- where the message counts as sent, mailboxes and publishers are traced still, and so are the other loans
      boxes_later : (mid : State T U) → Follows (scope_of past) s mid
          → MailboxesTraced (scope_of (past_after past message)) mid
      boxes_later mid g p q k h low = let v : (scope_of past).WasSent p k = (g.0 p q).0 k h low in (v.0, inl v.1, v.2)

      publishers_later : (mid : State T U) → Follows (scope_of past) s mid
          → PublishersTraced (scope_of (past_after past message)) mid.publishers
      publishers_later mid g p x e low = (
        λ k h. let v : (scope_of past).WasSent p k = (g.1 p x e low).0 k h in (v.0, inl v.1, v.2),
        λ b e'. let v : (scope_of past).WasSent p b.message = (g.1 p x e low).1 b e' in (v.0, inl v.1, v.2),
      )

      others_later : (mid : State T U) → Follows (scope_of past) s mid → (i : ℕ) (z : Loan T U) → eqb i n ≡ false
          → mid.loans i ≡ Some z
          → LoanTraced (scope_of (past_after past message)) i z
      others_later mid g i z apart e = (
        λ p entry w. ⊎_elim (λ old. (g.2 i z e).0 p entry old)
            (λ new. let same : n ≡ i = cc in eqb-false i n apart (sym same)) w,
        (g.2 i z e).1,
      )

      publish_tells : (mid : State T U) → Follows (scope_of past) s mid → (s' : State T U) (result : SendResult)
          → Publish environment mid l.publisher n s' result
          → Tells (after_send s' l.publisher n (entry_of l) result)
      publish_tells mid g s' result h =
          let later : Scope = scope_of (past_after past message) in
          let k : Follows later mid s' = publish_follows later environment mid l.publisher n s' result
          (entry_of l, inr refl, header) (boxes_later mid g) (publishers_later mid g) (others_later mid g) h in
          let t : IsTraced later s' = traced_after later mid s' k in
          let stays : (p q i : ℕ) → is_borrowed i (s.mailboxes p q) ≡ true → is_borrowed i (s'.mailboxes p q) ≡ true =
          λ p q i h. (k.0 p q).1 i ((g.0 p q).1 i h) in
          published_answers environment mid l.publisher n s' result
          (λ r. Tells (after_send s' l.publisher n (entry_of l) r))
          (λ count.
          message_tells s' t stays (after_send s' l.publisher n (entry_of l) (Delivered_to count)) refl refl refl refl tt)
          (message_tells s' t stays (after_send s' l.publisher n (entry_of l) Blocked_send) refl refl refl refl own)
          (message_tells s' t stays
          (after_send s' l.publisher n (entry_of l) (Send_error UnableToDeliver)) refl refl refl refl tt)
          h

      -- the loan of a closed publisher is lost
      lost_tells : Tells (after_send (with_loan from n None) l.publisher n (entry_of l)
          (Send_error ConnectionBrokenSinceSenderNoLongerExists))
      lost_tells = silent (after_send (with_loan from n None) l.publisher n (entry_of l)
          (Send_error ConnectionBrokenSinceSenderNoLongerExists)) refl refl refl tt
          (follows_trans (scope_of past) s from (with_loan from n None) f
          (without_loan_follows (scope_of past) from n (traced_after (scope_of past) s from f)))

      -- the loan is sent to one connection
      connection_tells : (channel place : ℕ) (o : Outcome T U)
          → ((s' : State T U) × (result : SendResult) × SendToConnection environment from n l channel place s' result
          × (o ≡ after_send s' l.publisher n (entry_of l) result)) → Tells o
      connection_tells channel place o h =
          let after : SendResult → Outcome T U = after_send h.0 l.publisher n (entry_of l) in
          subst Tells (sym h.3) (by_option (Tells (after h.1)) (from.publishers l.publisher) _ _ h.2
          (λ _ k. subst Tells (λ i. after_send (sym k.0 i) l.publisher n (entry_of l) (sym k.1 i)) lost_tells)
          (λ x _ k.
          let later : Scope = scope_of (past_after past message) in
          let mid : State T U = with_loan from n None in
          let u : IsTraced later mid = (
            boxes_later from f,
            publishers_later from f,
            λ i z e. found_removed from.loans n i z (LoanTraced later i z) e
                (λ apart old. others_later from f i z apart old),
          ) in
          let g : Follows later mid h.0 = deliver_follows later environment mid l.publisher n channel 0 no_time place
          (take 1 (drop place x.ends)) 0 false h.0 h.1
          (entry_of l, inr refl, header) u k in
          let t : IsTraced later h.0 = traced_after later mid h.0 g in
          let stays : (p q i : ℕ) → is_borrowed i (s.mailboxes p q) ≡ true
          → is_borrowed i ((h.0).mailboxes p q) ≡ true = λ p q i j. (g.0 p q).1 i ((f.0 p q).1 i j) in
          delivery_answers environment mid l.publisher n channel 0 no_time place
          (take 1 (drop place x.ends)) 0 false h.0 h.1 (λ r. Tells (after r))
          (λ count. message_tells h.0 t stays (after (Delivered_to count)) refl refl refl refl tt)
          (message_tells h.0 t stays (after Blocked_send) refl refl refl refl own)
          (message_tells h.0 t stays (after (Send_error UnableToDeliver)) refl refl refl refl tt)
          k))

      send_tells : (o : Outcome T U)
          → ((s' : State T U) × (result : SendResult) × Send environment from n l s' result
          × (o ≡ after_send s' l.publisher n (entry_of l) result)) → Tells o
      send_tells o h =
          let after : SendResult → Outcome T U = after_send h.0 l.publisher n (entry_of l) in
          subst Tells (sym h.3) (by_option (Tells (after h.1)) (from.publishers l.publisher) _ _ h.2
          (λ _ k. subst Tells (λ i. after_send (sym k.0 i) l.publisher n (entry_of l) (sym k.1 i)) lost_tells)
          (λ x _ k.
          let g : Follows (scope_of past) s k.0 = follows_trans (scope_of past) s from k.0 f
          (update_publisher_follows (scope_of past) environment from l.publisher k.0 k.1 own
          (traced_after (scope_of past) s from f) k.2) in
          by_option (Tells (after h.1)) k.1 _ _ k.3
          (λ _ j. publish_tells k.0 g h.0 h.1 j)
          (λ e _ j.
          subst (λ r. Tells (after r)) (sym j.1) (silent (after (Send_error (ConnectionError e))) refl refl refl tt
          (subst (Follows (scope_of past) s) (sym j.0)
          (follows_trans (scope_of past) s k.0 (loan_discarded k.0 n l) g
          (loan_discarded_follows (scope_of past) k.0 n l
          (traced_after (scope_of past) s k.0 g))))))))

-- ---- each command

module _ {T U : Type 0} (environment : Environment) (default_value : T) (default_header : U) (m : Messages T U)
    (s : State T U) (handles : List Handle)
    (w : IsWellFormed s)
    (past : PastSends T U) (t : IsTraced (scope_of past) s) (own : AreOwn past.first_port past.first_message handles)
    (ports : past.first_port ≤ s.next_port) (messages : past.first_message ≤ s.next_message)
    (new : (p : ℕ) (entry : Entry T U) → past.WasSent p s.next_message entry → ⊥) where
  -- a loan as an outcome
  loaned : (command : Command T U) (checks_length : Bool) (len : ℕ) (named : Option (ℕ × Publisher)) (o : Outcome T U)
      → ((publisher : ℕ × Publisher) → named ≡ Some publisher → past.first_port ≤ publisher.0)
      → MatchOption (if_single_units s named) (o ≡ skipped s) (λ (publisher : ℕ × Publisher).
      (s' : State T U) × (refusal : Option LoanError)
      × GrantLoan environment default_header checks_length len s publisher.0 s' refusal
      × (o ≡ after_loan s' s.next_message refusal))
      → IsTold past s handles command o
  loaned command checks_length len named o of_run h =
      live past s handles command o (if_single_units s named) _ t h (λ publisher e k.
      subst (IsTold past s handles command) (sym k.3) (loan_tells past s handles command k.0
      (grant_loan_follows (scope_of past) environment default_header checks_length len s publisher.0 k.0 k.1
      (of_run publisher (in_single_units s named publisher e)) new t k.2)
      s.next_message k.1 messages))

  -- a loan is changed
  changed : (command : Command T U) (n : ℕ) (l l' : Loan T U) (o : Outcome T U) → s.loans n ≡ Some l
      → l'.publisher ≡ l.publisher
      → o ≡ done (with_loan s n (Some l')) → IsTold past s handles command o
  changed command n l l' o e publisher h =
      subst (IsTold past s handles command) (sym h)
      (silent past s handles command (done (with_loan s n (Some l'))) refl refl refl tt
      (with_loan_follows (scope_of past) s n l l' e publisher t))

  -- nothing is done
  idle : (command : Command T U) (o : Outcome T U) (reply : Reply T U) → is_sample reply ≡ false → o ≡ replied reply s
      → IsTold past s handles command o
  idle command o reply no_sample h = nothing past s handles command o (replied reply s) h refl no_sample refl refl t

  -- Each step tells so.
  pub step_told : (command : Command T U) (o : Outcome T U)
      → Step environment default_value default_header m s handles command o → IsTold past s handles command o
  step_told Nothing o h = nothing past s handles Nothing o (done s) h refl refl refl refl t
  step_told (CreatePublisher asked) o h =
      subst (IsTold past s handles _) (sym h.3) (publisher_tells past s handles _ h.0 (create_publisher_follows
      (scope_of past) environment s _ h.0 h.1 ports t h.2) s.next_port h.1 ports)
  step_told (CreateSubscriber buffer degradation) o h =
      subst (IsTold past s handles _) (sym h.3) (subscriber_tells past s handles _ h.0 (create_subscriber_follows
      (scope_of past) environment s _ h.0 h.1 t h.2) s.next_port h.1 ports)
  step_told (LoanUninit of) o h =
      loaned (LoanUninit of) false 1 (if_fixed_size s (unblocked_at s handles of)) o
      (λ publisher e.
      unblocked_own s handles past.first_port past.first_message own of publisher (in_fixed_size s _ publisher e)) h
  step_told (LoanDefault of) o h =
      live past s handles (LoanDefault of) o (if_single_units s (if_fixed_size s (unblocked_at s handles of))) _ t h
      (λ publisher e k.
      subst (IsTold past s handles (LoanDefault of)) (sym k.3) (loan_tells past s handles (LoanDefault of) k.0
      (grant_written_loan_follows (scope_of past) environment default_value default_header false 1 s publisher.0 k.0 k.1
      (unblocked_own s handles past.first_port past.first_message own of publisher
      (in_fixed_size s _ publisher (in_single_units s _ publisher e))) new t k.2)
      s.next_message k.1 messages))
  step_told (LoanSlice of len) o h =
      loaned (LoanSlice of len) true len (if_dynamic s (unblocked_at s handles of)) o
      (λ publisher e.
      unblocked_own s handles past.first_port past.first_message own of publisher (in_dynamic s _ publisher e)) h
  step_told (WriteCell of at value) o h =
      live past s handles (WriteCell of at value) o (with_cell_at at (unwritten_at s handles of)) _ t h (λ loan e k.
      changed (WriteCell of at value) loan.0 loan.1 (with_cell loan.1 at value) o
      (unwritten_is s handles of loan
      (passes (λ (n : ℕ × Loan T U). ltb at (length n.1.cells)) (unwritten_at s handles of) loan e).0).0 refl k)
  step_told (WriteAll of value) o h =
      live past s handles (WriteAll of value) o (unwritten_at s handles of) _ t h (λ loan e k.
      changed (WriteAll of value) loan.0 loan.1 (written loan.1 value) o (unwritten_is s handles of loan e).0 refl k)
  step_told (AssumeInit of) o h =
      live past s handles (AssumeInit of) o (unwritten_at s handles of) _ t h (λ loan e k.
      subst (IsTold past s handles (AssumeInit of)) (sym k)
      (cond_both (is_initialized loan.1) (done (initialized s loan.0 loan.1)) (replied Unwritten s)
      (IsTold past s handles (AssumeInit of))
      (λ _. changed (AssumeInit of) loan.0 loan.1 (record (loan.1) { is_written = true })
      (done (initialized s loan.0 loan.1))
      (unwritten_is s handles of loan e).0 refl refl)
      (λ _. idle (AssumeInit of) (replied Unwritten s) Unwritten refl refl)))
  step_told (WriteHeader of value) o h =
      live past s handles (WriteHeader of value) o (loan_at s handles of) _ t h (λ loan e k.
      changed (WriteHeader of value) loan.0 loan.1 (record (loan.1) { user_header = value }) o
      (loan_is s handles of loan e) refl k)
  step_told (SetPayload of at value) o h =
      live past s handles (SetPayload of at value) o (with_cell_at at (written_at s handles of)) _ t h (λ loan e k.
      changed (SetPayload of at value) loan.0 loan.1 (with_cell loan.1 at value) o
      (written_is s handles of loan
      (passes (λ (n : ℕ × Loan T U). ltb at (length n.1.cells)) (written_at s handles of) loan e).0).0 refl k)
  step_told (SendLoan of) o h =
      live past s handles (SendLoan of) o (sendable_at s handles of) _ t h (λ loan e k.
      let is : s.loans loan.0 ≡ Some loan.1 = (sendable_is s handles of loan e).0 in
      send_tells past s handles (SendLoan of) environment s (follows_itself (scope_of past) s t) loan.0 loan.1 is
      ((t.2 loan.0 loan.1 is).1 (sendable_own s handles past.first_port past.first_message own of loan e))
      (w.loans loan.0 loan.1 is).origin o k)
  step_told (SendLoanTo of channel place) o h =
      live past s handles (SendLoanTo of channel place) o (if_channel s channel (sendable_at s handles of)) _ t h
      (λ loan e k.
      let named : sendable_at s handles of ≡ Some loan = (has_channel s channel (sendable_at s handles of) loan e).1 in
      let is : s.loans loan.0 ≡ Some loan.1 = (sendable_is s handles of loan named).0 in
      connection_tells past s handles (SendLoanTo of channel place) environment s
      (follows_itself (scope_of past) s t) loan.0 loan.1 is
      ((t.2 loan.0 loan.1 is).1 (sendable_own s handles past.first_port past.first_message own of loan named))
      (w.loans loan.0 loan.1 is).origin channel place o k)
  step_told (SendCopy of value) o h =
      live past s handles (SendCopy of value) o (if_single_units s (if_fixed_size s (unblocked_at s handles of))) _ t h
      (λ publisher e k.
      let f : Follows (scope_of past) s k.0 =
      grant_written_loan_follows (scope_of past) environment value default_header false 1 s publisher.0 k.0 k.1
      (unblocked_own s handles past.first_port past.first_message own of publisher
      (in_fixed_size s _ publisher (in_single_units s _ publisher e))) new t k.2 in
      let mid_keeps : IsWellFormed k.0 =
      grant_written_loan_keeps environment value default_header false 1 s publisher.0 k.0 k.1 w k.2 in
      by_option (IsTold past s handles (SendCopy of value) o) k.1 _ _ k.3
      (λ _ j. by_option (IsTold past s handles (SendCopy of value) o) ((k.0).loans s.next_message) _ _ j
      (λ _ v. absurd v) (λ l is sends.
      send_tells past s handles (SendCopy of value) environment k.0 f s.next_message l is
      ((f.2 s.next_message l is).1 messages)
      (mid_keeps.loans s.next_message l is).origin o sends))
      (λ e _ j. subst (IsTold past s handles (SendCopy of value)) (sym j)
      (silent past s handles (SendCopy of value) (replied (SendRefused (NotLoaned e)) k.0) refl refl refl tt f)))
  step_told (Discard of) o h =
      live past s handles (Discard of) o (loan_at s handles of) _ t h (λ loan e k.
      subst (IsTold past s handles (Discard of)) (sym k)
      (silent past s handles (Discard of) (done (loan_discarded s loan.0 loan.1)) refl refl refl tt
      (loan_discarded_follows (scope_of past) s loan.0 loan.1 t)))
  step_told (RetrySend of elapsed) o h =
      live past s handles (RetrySend of elapsed) o (blocked_at s handles of) _ t h (λ blocked e k.
      let is : (x : Publisher) × (s.publishers blocked.0 ≡ Some x) × (x.blocked ≡ Some blocked.1) =
      blocked_is s handles of blocked e in
      subst (IsTold past s handles (RetrySend of elapsed)) (sym k.3)
      (retry_tells past s handles (RetrySend of elapsed) k.0
      (retry_follows (scope_of past) environment s blocked.0 is.0 blocked.1 elapsed k.0 k.1
      (blocked_own s handles past.first_port past.first_message own of blocked e) is.1 is.2 t k.2) k.1))
  step_told (GiveUpSend of) o h =
      live past s handles (GiveUpSend of) o (blocked_at s handles of) _ t h (λ blocked e k.
      let is : (x : Publisher) × (s.publishers blocked.0 ≡ Some x) × (x.blocked ≡ Some blocked.1) =
      blocked_is s handles of blocked e in
      subst (IsTold past s handles (GiveUpSend of)) (sym k.3) (retry_tells past s handles (GiveUpSend of) k.0
      (give_up_follows (scope_of past) environment s blocked.0 is.0 blocked.1 k.0 k.1
      (blocked_own s handles past.first_port past.first_message own of blocked e) is.1 is.2 t k.2) k.1))
  step_told (Update of) o h =
      by_option (IsTold past s handles (Update of) o) (unblocked_at s handles of) _ _ h
      (λ _ j. live past s handles (Update of) o (subscriber_at s handles of) _ t j (λ subscriber _ k.
      subst (IsTold past s handles (Update of)) (sym k.3) (update_tells past s handles (Update of) k.0
      (update_subscriber_follows (scope_of past) environment s subscriber.0 k.0 k.1 t k.2) k.1)))
      (λ publisher e k.
      subst (IsTold past s handles (Update of)) (sym k.3) (update_tells past s handles (Update of) k.0
      (update_publisher_follows (scope_of past) environment s publisher.0 k.0 k.1
      (unblocked_own s handles past.first_port past.first_message own of publisher e) t k.2) k.1))
  step_told (Receive of) o h =
      live past s handles (Receive of) o (if_single_units s (subscriber_at s handles of)) _ t h (λ subscriber e k.
      let named : past.first_port ≤ subscriber.0 =
      subscriber_own s handles past.first_port past.first_message own of subscriber
      (in_single_units s _ subscriber e) in
      subst (IsTold past s handles (Receive of)) (sym k.3) (receive_tells past s handles (Receive of) k.0
      (receive_follows (scope_of past) environment s subscriber.0 k.0 k.1 t k.2) subscriber.0 k.1
      (λ p n got. received_was_sent (scope_of past) environment s subscriber.0 k.0 p n named t
      (subst (Receives environment s subscriber.0 k.0) got k.2))))
  step_told (HasSamples of) o h =
      live past s handles (HasSamples of) o (subscriber_at s handles of) _ t h (λ subscriber _ k.
      subst (IsTold past s handles (HasSamples of)) (sym k.4) (question_tells past s handles (HasSamples of) k.0
      (update_subscriber_follows (scope_of past) environment s subscriber.0 k.0 k.1 t (k.3).0) k.1 k.2))
  step_told (Read of at) o h =
      by_option (IsTold past s handles (Read of at) o) (sample_at s handles of) _ _ h
      (λ _ j. live past s handles (Read of at) o (with_cell_at at (loan_at s handles of)) _ t j (λ loan _ k.
      by_option (IsTold past s handles (Read of at) o) (slice_get (loan.1).cells at) _ _ k (λ _ v. absurd v)
      (λ cell _ e. idle (Read of at) o (Cell cell) refl e)))
      (λ sample _ k. by_option (IsTold past s handles (Read of at) o) (m sample.2) _ _ k (λ _ v. absurd v)
      (λ entry _ j. live past s handles (Read of at) o (slice_get entry.values at) _ t j
      (λ value _ e. idle (Read of at) o (Cell (Some value)) refl e)))
  step_told (ReadHeader of) o h =
      by_option (IsTold past s handles (ReadHeader of) o) (sample_at s handles of) _ _ h
      (λ _ j. live past s handles (ReadHeader of) o (loan_at s handles of) _ t j
      (λ loan _ e. idle (ReadHeader of) o (Header (loan.1).header) refl e))
      (λ sample _ k. by_option (IsTold past s handles (ReadHeader of) o) (m sample.2) _ _ k (λ _ v. absurd v)
      (λ entry _ e. idle (ReadHeader of) o (Header entry.header) refl e))
  step_told (ReadUserHeader of) o h =
      by_option (IsTold past s handles (ReadUserHeader of) o) (sample_at s handles of) _ _ h
      (λ _ j.
      live past s handles (ReadUserHeader of) o (loan_at s handles of) _ t j (λ loan _ e. idle (ReadUserHeader of) o
      (UserHeader (loan.1).user_header) refl e))
      (λ sample _ k. by_option (IsTold past s handles (ReadUserHeader of) o) (m sample.2) _ _ k (λ _ v. absurd v)
      (λ entry _ e. idle (ReadUserHeader of) o (UserHeader entry.user_header) refl e))
  step_told (Release of) o h =
      live past s handles (Release of) o (sample_at s handles of) _ t h (λ sample e k.
      let named : slice_get handles of ≡ Some (Sample_handle sample.0 sample.1 sample.2) =
      sample_is s handles past.first_port past.first_message own of sample e in
      subst (IsTold past s handles (Release of)) (sym k)
      (quiet past s handles (Release of) (done (released s sample.0 sample.1 sample.2)) refl refl refl tt
      (released_traced (scope_of past) s sample.0 sample.1 sample.2 t)
      (λ p q n spared there. released_stays s sample.0 sample.1 sample.2 p q n
      (λ a b c. spared of refl
      (named ∙ subst (λ n'. Some (Sample_handle sample.0 sample.1 sample.2) ≡ Some (Sample_handle p q n')) c
      (subst (λ q'. Some (Sample_handle sample.0 sample.1 sample.2) ≡ Some (Sample_handle p q' sample.2)) b
      (ap (λ i. Some (Sample_handle i sample.1 sample.2)) a)))) there)))
  step_told (Close of) o h =
      by_option (IsTold past s handles (Close of) o) (unblocked_at s handles of) _ _ h
      (λ _ j. live past s handles (Close of) o (subscriber_at s handles of) _ t j (λ subscriber _ k.
      subst (IsTold past s handles (Close of)) (sym k)
      (silent past s handles (Close of) (done (subscriber_closed s subscriber.0 subscriber.1)) refl refl refl tt
      (subscriber_closed_follows (scope_of past) s subscriber.0 subscriber.1 t))))
      (λ publisher _ k.
      subst (IsTold past s handles (Close of)) (sym k)
      (silent past s handles (Close of) (done (publisher_closed s publisher.0 publisher.1)) refl refl refl tt
      (publisher_closed_follows (scope_of past) s publisher.0 publisher.1 t)))
  step_told (ConnectionPlace of receiver) o h =
      channels_tell past s handles (ConnectionPlace of receiver) o t
      (on_channels environment default_value default_header m s handles (ConnectionPlace of receiver) o refl h)
  step_told (PublisherChannel of channel place call) o h =
      channels_tell past s handles (PublisherChannel of channel place call) o t
      (on_channels environment default_value default_header m s handles
      (PublisherChannel of channel place call) o refl h)
  step_told (SubscriberChannel of channel call) o h =
      channels_tell past s handles (SubscriberChannel of channel call) o t
      (on_channels environment default_value default_header m s handles (SubscriberChannel of channel call) o refl h)
