-- One command of a run: its reply, and the state after it.
use Rattle.std.specs.Prelude.{ℕ, Bool, true, false, if◌then◌else◌, List, length, ◌≡◌, ◌==◌, nat_lt, MatchOption}
use Rattle.std.specs.Prelude.{slice_get, is_none}
use Rattle.std.specs.List.{list_all}
use Rattle.std.specs.Option.{option_and_then, option_map}
use Rattle.std.specs.declared.option.Option.{Option}
use Rattle.std.specs.declared.option.Option.TheVariants.{None, Some}
use Rattle.std.specs.declared.time.Duration.{Duration}
use Rattle.iox2_machine.specs.machine.Limits.{buffer_limit, channel_count}
use Rattle.iox2_machine.specs.machine.Mailbox.{is_borrowed}
use Rattle.iox2_machine.specs.machine.Records.{Entry, Loan, Publisher, Subscriber, PublisherSettings, Environment}
use Rattle.iox2_machine.specs.machine.Records.{BlockedSend, Handler, Fixed}
use Rattle.iox2_machine.specs.machine.State.{State, Messages, with_loan, is_blocked}
use Rattle.iox2_machine.specs.machine.PublisherUpdate.{UpdatePublisher}
use Rattle.iox2_machine.specs.machine.SubscriberUpdate.{UpdateSubscriber}
use Rattle.iox2_machine.specs.machine.Loans.{GrantLoan, written, with_cell, is_initialized, initialized, loan_discarded}
use Rattle.iox2_machine.specs.machine.Loans.{entry_of}
use Rattle.iox2_machine.specs.machine.Sends.{Send, SendToConnection, Retry, GiveUp, SendResult, Delivered_to}
use Rattle.iox2_machine.specs.machine.Sends.{Blocked_send, Send_error}
use Rattle.iox2_machine.specs.machine.Receives.{Receive, HasSamples, ReceiveResult, Got_sample, No_sample}
use Rattle.iox2_machine.specs.machine.Receives.{Receive_error}
use Rattle.iox2_machine.specs.machine.Releases.{released}
use Rattle.iox2_machine.specs.machine.Ports.{CreatePublisher, CreateSubscriber, publisher_closed, subscriber_closed}
use Rattle.iox2_machine.specs.machine.SingleCalls.{GrantWrittenLoan}
use Rattle.iox2_machine.specs.machine.Channel.{closed_state, is_closed, with_state}
use Rattle.iox2_machine.specs.machine.ChannelCalls.{senders_of, received_changed, received_closed, received_hinted}
use Rattle.iox2_machine.specs.machine.ChannelCalls.{some_channel_has_state, connection_place, has_channel_state}
use Rattle.iox2_machine.specs.machine.ChannelCalls.{has_disconnect_hint, sent_closed}
use Rattle.iox2_machine.specs.declared.service_config.TypeVariant.{TypeVariant}
use Rattle.iox2_machine.specs.declared.service_config.TypeVariant.TheVariants.{FixedSize, Dynamic}
use Rattle.iox2_machine.specs.declared.backpressure.BackpressureAction.{BackpressureAction}
use Rattle.iox2_machine.specs.declared.errors.ConnectionFailure.{ConnectionFailure}
use Rattle.iox2_machine.specs.declared.errors.LoanError.{LoanError}
use Rattle.iox2_machine.specs.declared.errors.SendError.TheVariants.{LoanError as NotLoaned, UnableToDeliver}
use Rattle.iox2_machine.specs.declared.errors.PublisherCreateError.{PublisherCreateError}
use Rattle.iox2_machine.specs.declared.errors.SubscriberCreateError.{SubscriberCreateError}
use Rattle.iox2_commands.specs.Outcomes.{Handle, No_handle, Publisher_handle, Subscriber_handle, Loan_handle}
use Rattle.iox2_commands.specs.Outcomes.{Blocked_handle, Sample_handle, Message_sent, Message_received, Outcome}
use Rattle.iox2_commands.specs.Outcomes.{outcome, replied, done, skipped}
use Rattle.iox2_commands.specs.declared.command.Command.{Command}
use Rattle.iox2_commands.specs.declared.new_publisher.NewPublisher.{NewPublisher}
use Rattle.iox2_commands.specs.declared.command.Command.TheVariants.{Nothing, CreatePublisher as PublisherCommand}
use Rattle.iox2_commands.specs.declared.command.Command.TheVariants.{CreateSubscriber as SubscriberCommand, LoanUninit}
use Rattle.iox2_commands.specs.declared.command.Command.TheVariants.{Loan as LoanDefault, LoanSlice, WriteCell}
use Rattle.iox2_commands.specs.declared.command.Command.TheVariants.{WriteAll, AssumeInit, WriteHeader, SetPayload}
use Rattle.iox2_commands.specs.declared.command.Command.TheVariants.{Send as SendLoan}
use Rattle.iox2_commands.specs.declared.command.Command.TheVariants.{SendToConnection as SendLoanToConnection, SendCopy}
use Rattle.iox2_commands.specs.declared.command.Command.TheVariants.{Discard, Retry as RetrySend, GiveUp as GiveUpSend}
use Rattle.iox2_commands.specs.declared.command.Command.TheVariants.{Update, Receive as ReceiveSample}
use Rattle.iox2_commands.specs.declared.command.Command.TheVariants.{HasSamples as AskForSamples, Read, ReadHeader}
use Rattle.iox2_commands.specs.declared.command.Command.TheVariants.{ReadUserHeader, Release, Close, ConnectionPlace}
use Rattle.iox2_commands.specs.declared.command.Command.TheVariants.{PublisherChannel, SubscriberChannel}
use Rattle.iox2_commands.specs.declared.channel_calls.PublisherChannelCall.{PublisherChannelCall}
use Rattle.iox2_commands.specs.declared.channel_calls.PublisherChannelCall.TheVariants.{HasState, HasDisconnectHint}
use Rattle.iox2_commands.specs.declared.channel_calls.PublisherChannelCall.TheVariants.{Close as CloseSent}
use Rattle.iox2_commands.specs.declared.channel_calls.SubscriberChannelCall.{SubscriberChannelCall}
use Rattle.iox2_commands.specs.declared.channel_calls.SubscriberChannelCall.TheVariants.{SetState, SomeHasState}
use Rattle.iox2_commands.specs.declared.channel_calls.SubscriberChannelCall.TheVariants.{Close as CloseReceived}
use Rattle.iox2_commands.specs.declared.channel_calls.SubscriberChannelCall.TheVariants.{SetDisconnectHint}
use Rattle.iox2_commands.specs.declared.reply.Reply.TheVariants.{PublisherMade, PublisherRefused, SubscriberMade}
use Rattle.iox2_commands.specs.declared.reply.Reply.TheVariants.{SubscriberRefused, Loaned, LoanRefused, Unwritten}
use Rattle.iox2_commands.specs.declared.reply.Reply.TheVariants.{Delivered, Blocked, SendRefused, UpdateRefused, Sample}
use Rattle.iox2_commands.specs.declared.reply.Reply.TheVariants.{NoSample, ReceiveRefused, Has, WereClosed, Place, Cell}
use Rattle.iox2_commands.specs.declared.reply.Reply.TheVariants.{Header as HeaderRead, UserHeader}

module _ {T U : Type 0} where
  -- ---- what a position names, if it is live

  -- A publisher that wasn't closed, with its id.
  abbrev pub publisher_at : State T U → List Handle → (of : ℕ) → Option (ℕ × Publisher)
  publisher_at s handles of = elim (slice_get handles of) [
    | Some (Publisher_handle p) ↦ option_map {U = ℕ × Publisher} (λ x. (p, x)) (s.publishers p)
    | _ ↦ None
  ]

  -- A publisher that wasn't closed and waits for no receiver.
  abbrev pub unblocked_at : State T U → List Handle → (of : ℕ) → Option (ℕ × Publisher)
  unblocked_at s handles of =
      option_and_then (λ named. if is_none named.1.blocked then Some named else None) (publisher_at s handles of)

  -- A subscriber that wasn't closed, with its id.
  abbrev pub subscriber_at : State T U → List Handle → (of : ℕ) → Option (ℕ × Subscriber)
  subscriber_at s handles of = elim (slice_get handles of) [
    | Some (Subscriber_handle q) ↦
        option_and_then {U = ℕ × Subscriber} (λ y. if y.is_open then Some (q, y) else None) (s.subscribers q)
    | _ ↦ None
  ]

  -- A loan that wasn't sent or discarded, with its number.
  abbrev pub loan_at : State T U → List Handle → (of : ℕ) → Option (ℕ × Loan T U)
  loan_at s handles of = elim (slice_get handles of) [
    | Some (Loan_handle n) ↦ option_map {U = ℕ × Loan T U} (λ l. (n, l)) (s.loans n)
    | _ ↦ None
  ]

  -- A loan that is a `SampleMutUninit`.
  abbrev pub unwritten_at : State T U → List Handle → (of : ℕ) → Option (ℕ × Loan T U)
  unwritten_at s handles of =
      option_and_then (λ named. if named.1.is_written then None else Some named) (loan_at s handles of)

  -- A loan that is a `SampleMut`.
  abbrev pub written_at : State T U → List Handle → (of : ℕ) → Option (ℕ × Loan T U)
  written_at s handles of =
      option_and_then (λ named. if named.1.is_written then Some named else None) (loan_at s handles of)

  -- The loan, if it has a cell there.
  abbrev pub with_cell_at : (at : ℕ) → Option (ℕ × Loan T U) → Option (ℕ × Loan T U)
  with_cell_at at loan = option_and_then (λ named. if nat_lt at (length named.1.cells) then Some named else None) loan

  -- A written loan whose publisher waits for no receiver.
  abbrev pub sendable_at : State T U → List Handle → (of : ℕ) → Option (ℕ × Loan T U)
  sendable_at s handles of =
      option_and_then (λ named. if is_blocked s named.1.publisher then None else Some named) (written_at s handles of)

  -- A send that still waits, with its publisher.
  abbrev pub blocked_at : State T U → List Handle → (of : ℕ) → Option (ℕ × BlockedSend)
  blocked_at s handles of = elim (slice_get handles of) [
    | Some (Blocked_handle p n) ↦
        option_and_then {U = ℕ × BlockedSend} (λ x.
        option_and_then {U = ℕ × BlockedSend} (λ b. if b.message == n then Some (p, b) else None) x.blocked)
        (s.publishers p)
    | _ ↦ None
  ]

  -- A sample that wasn't released: its publisher, its subscriber and its message.
  abbrev pub sample_at : State T U → List Handle → (of : ℕ) → Option (ℕ × ℕ × ℕ)
  sample_at s handles of = elim (slice_get handles of) [
    | Some (Sample_handle p q n) ↦ if is_borrowed n (s.mailboxes p q) then Some (p, q, n) else None
    | _ ↦ None
  ]

  -- ---- the service that a command needs

  -- Loans and receives of typed values are for services with elements of one unit.
  abbrev pub if_single_units : {A : Type 0} → State T U → Option A → Option A
  if_single_units s named = if (s.config).units_per_element == 1 then named else None

  -- What is named counts in a service for single values only.
  abbrev pub if_fixed_size : {A : Type 0} → State T U → Option A → Option A
  if_fixed_size s named = elim (s.config).variant [ FixedSize ↦ named | Dynamic ↦ None ]

  -- What is named counts in a service for slices only.
  abbrev pub if_dynamic : {A : Type 0} → State T U → Option A → Option A
  if_dynamic s named = elim (s.config).variant [ FixedSize ↦ None | Dynamic ↦ named ]

  -- What is named counts if connections have that channel.
  abbrev pub if_channel : {A : Type 0} → State T U → (channel : ℕ) → Option A → Option A
  if_channel s channel named = if nat_lt channel (channel_count s.config) then named else None

  -- ---- what is replied

  -- A publisher was made, or refused.
  abbrev pub after_publisher : State T U → (id : ℕ) → Option PublisherCreateError → Outcome T U
  after_publisher s id None = outcome (PublisherMade id) (Publisher_handle id) s
  after_publisher s id (Some e) = replied (PublisherRefused e) s

  -- A subscriber was made, or refused.
  abbrev pub after_subscriber : State T U → (id : ℕ) → Option SubscriberCreateError → Outcome T U
  after_subscriber s id None = outcome (SubscriberMade id) (Subscriber_handle id) s
  after_subscriber s id (Some e) = replied (SubscriberRefused e) s

  -- A loan was granted, or refused.
  abbrev pub after_loan : State T U → (n : ℕ) → Option LoanError → Outcome T U
  after_loan s n None = outcome Loaned (Loan_handle n) s
  after_loan s n (Some e) = replied (LoanRefused e) s

  -- A send that failed before delivery sent no message; any other did, also one that no receiver took.
  abbrev pub after_send : State T U → (p n : ℕ) → Entry T U → SendResult → Outcome T U
  after_send s p n entry (Delivered_to count) =
      record { reply = Delivered count; handle = No_handle; event = Message_sent p n entry; state = s }
  after_send s p n entry Blocked_send =
      record { reply = Blocked; handle = Blocked_handle p n; event = Message_sent p n entry; state = s }
  after_send s p n entry (Send_error UnableToDeliver) =
      record { reply = SendRefused UnableToDeliver; handle = No_handle; event = Message_sent p n entry; state = s }
  after_send s p n entry (Send_error e) = replied (SendRefused e) s

  -- A retry and a give-up send no further message, and a send that blocks again keeps its name.
  abbrev pub after_retry : State T U → SendResult → Outcome T U
  after_retry s (Delivered_to count) = replied (Delivered count) s
  after_retry s Blocked_send = replied Blocked s
  after_retry s (Send_error e) = replied (SendRefused e) s

  -- An update is done, or it failed.
  abbrev pub after_update : State T U → Option ConnectionFailure → Outcome T U
  after_update s None = done s
  after_update s (Some e) = replied (UpdateRefused e) s

  -- A message was received, or there was none, or the receive failed.
  abbrev pub after_receive : State T U → (q : ℕ) → ReceiveResult → Outcome T U
  after_receive s q (Got_sample p n) =
      record { reply = Sample p; handle = Sample_handle p q n; event = Message_received p q n; state = s }
  after_receive s q No_sample = replied NoSample s
  after_receive s q (Receive_error e) = replied (ReceiveRefused e) s

  -- Whether samples wait, or the failure of the update before the question.
  abbrev pub after_question : State T U → Option ConnectionFailure → (has_samples : Bool) → Outcome T U
  after_question s None has_samples = replied (Has has_samples) s
  after_question s (Some e) has_samples = replied (UpdateRefused e) s

module _ {T U : Type 0} where
  -- What a publisher is told of a channel of its connection at a place, or does to it.
  abbrev pub of_publisher_channel : State T U → (p channel place : ℕ) → PublisherChannelCall → Outcome T U
  of_publisher_channel s p channel place (HasState state) = replied (Has (has_channel_state s p channel place state)) s
  of_publisher_channel s p channel place (HasDisconnectHint state) =
      replied (Has (has_disconnect_hint s p channel place state)) s
  of_publisher_channel s p channel place (CloseSent expected) = done (sent_closed s p channel place expected)

  -- What a subscriber is told of a channel of all its connections, or does to it.
  abbrev pub of_subscriber_channel : State T U → (q channel : ℕ) → SubscriberChannelCall → Outcome T U
  of_subscriber_channel s q channel (SetState state) =
      replied (WereClosed (list_all (λ p. is_closed (s.channels p q channel)) (senders_of s q)))
      (received_changed s q channel closed_state (with_state state))
  of_subscriber_channel s q channel (SomeHasState state) = replied (Has (some_channel_has_state s q channel state)) s
  of_subscriber_channel s q channel (CloseReceived expected) = done (received_closed s q channel expected)
  of_subscriber_channel s q channel (SetDisconnectHint expected) = done (received_hinted s q channel expected)

-- What a command says of a publisher. In a service for single values there is nothing to say of its length.
abbrev pub publisher_settings : TypeVariant → NewPublisher → PublisherSettings
publisher_settings variant asked = record {
  max_loaned_samples = asked.loans;
  backpressure_strategy = asked.strategy;
  allocation_strategy = asked.allocation;
  initial_max_slice_len = elim variant [ FixedSize ↦ 1 | Dynamic ↦ asked.initial_max_slice_len ];
  asked_slots = asked.override_slots;
  degradation_handler = Fixed asked.degradation;
  backpressure_handler = option_map {U = Handler BackpressureAction} (λ action. Fixed action) asked.backpressure;
}

-- The step of a command in a state, with the handles that the commands before it made.
module _ {T U : Type 0} (environment : Environment) (default_value : T) (default_header : U) (messages : Messages T U)
    (s : State T U) (handles : List Handle) where
  -- The command is skipped if it names nothing live of the wanted kind. Otherwise `Then` says what its outcome is.
  abbrev IfLive : {A : Type 0} → Outcome T U → Option A → (Then : A → Type 0) → Type 0
  IfLive o named Then = MatchOption named (o ≡ skipped s) Then

  -- A loan of that length is asked of the publisher.
  abbrev Loans : (checks_length : Bool) → (len : ℕ) → (p : ℕ) → Outcome T U → Type 0
  Loans checks_length len p o =
      (s' : State T U) × (refusal : Option LoanError)
      × GrantLoan environment default_header checks_length len s p s' refusal
      × (o ≡ after_loan s' s.next_message refusal)

  -- A loan with one default value is asked of the publisher.
  abbrev LoansDefault : (p : ℕ) → Outcome T U → Type 0
  LoansDefault p o =
      (s' : State T U) × (refusal : Option LoanError)
      × GrantWrittenLoan environment default_value default_header false 1 s p s' refusal
      × (o ≡ after_loan s' s.next_message refusal)

  -- A written loan is sent, from the state in which it was written.
  abbrev SendsLoan : State T U → (n : ℕ) → Loan T U → Outcome T U → Type 0
  SendsLoan from n l o =
      (s' : State T U) × (result : SendResult) × Send environment from n l s' result
      × (o ≡ after_send s' l.publisher n (entry_of l) result)

  -- A written loan is sent into a channel of its publisher's connection at a place.
  abbrev SendsLoanTo : (channel place : ℕ) → (n : ℕ) → Loan T U → Outcome T U → Type 0
  SendsLoanTo channel place n l o =
      (s' : State T U) × (result : SendResult) × SendToConnection environment s n l channel place s' result
      × (o ≡ after_send s' l.publisher n (entry_of l) result)

  -- The loan that was granted just now is sent.
  abbrev SendsGranted : State T U → Outcome T U → Type 0
  SendsGranted mid o = MatchOption (mid.loans s.next_message) ⊥ (λ l. SendsLoan mid s.next_message l o)

  -- A loan with that value is asked of the publisher and sent; a refused loan refuses the send.
  abbrev SendsCopy : (value : T) → (p : ℕ) → Outcome T U → Type 0
  SendsCopy value p o =
      (mid : State T U) × (refusal : Option LoanError)
      × GrantWrittenLoan environment value default_header false 1 s p mid refusal
      × MatchOption refusal (SendsGranted mid o) (λ e. o ≡ replied (SendRefused (NotLoaned e)) mid)

  -- The blocked send is tried again, after that time.
  abbrev Retries : (p : ℕ) → BlockedSend → Duration → Outcome T U → Type 0
  Retries p b elapsed o =
      (s' : State T U) × (result : SendResult) × Retry environment s p b elapsed s' result × (o ≡ after_retry s' result)

  -- The blocked send passes its receiver over and goes on.
  abbrev GivesUp : (p : ℕ) → BlockedSend → Outcome T U → Type 0
  GivesUp p b o =
      (s' : State T U) × (result : SendResult) × GiveUp environment s p b s' result × (o ≡ after_retry s' result)

  -- The publisher updates its connections.
  abbrev UpdatesPublisher : (p : ℕ) → Outcome T U → Type 0
  UpdatesPublisher p o =
      (s' : State T U) × (failure : Option ConnectionFailure) × UpdatePublisher environment s p s' failure
      × (o ≡ after_update s' failure)

  -- The subscriber updates its connections.
  abbrev UpdatesSubscriber : (q : ℕ) → Outcome T U → Type 0
  UpdatesSubscriber q o =
      (s' : State T U) × (failure : Option ConnectionFailure) × UpdateSubscriber environment s q s' failure
      × (o ≡ after_update s' failure)

  -- The subscriber receives a message, if there is one.
  abbrev Receives : (q : ℕ) → Outcome T U → Type 0
  Receives q o =
      (s' : State T U) × (result : ReceiveResult) × Receive environment s q s' result × (o ≡ after_receive s' q result)

  -- The subscriber is asked whether samples wait.
  abbrev AsksForSamples : (q : ℕ) → Outcome T U → Type 0
  AsksForSamples q o =
      (s' : State T U) × (failure : Option ConnectionFailure) × (has_samples : Bool)
      × HasSamples environment s q s' failure has_samples × (o ≡ after_question s' failure has_samples)

  -- A cell of a loan is read as it is.
  abbrev ReadsCell : Option (ℕ × Loan T U) → (at : ℕ) → Outcome T U → Type 0
  ReadsCell named at o =
      IfLive o named (λ loan. MatchOption (slice_get (loan.1).cells at) ⊥ (λ cell. o ≡ replied (Cell cell) s))

  -- A value of a message that was sent is read; past its end the command is skipped.
  abbrev ReadsValue : (n : ℕ) → (at : ℕ) → Outcome T U → Type 0
  ReadsValue n at o = MatchOption (messages n) ⊥
      (λ entry. IfLive o (slice_get entry.values at) (λ value. o ≡ replied (Cell (Some value)) s))

  -- The outcomes that a command may have.
  abbrev pub Step : Command T U → Outcome T U → Type 0
  Step Nothing o = o ≡ done s
  Step (PublisherCommand asked) o =
      (s' : State T U) × (refusal : Option PublisherCreateError)
      × CreatePublisher environment s (publisher_settings (s.config).variant asked) s' refusal
      × (o ≡ after_publisher s' s.next_port refusal)
  Step (SubscriberCommand buffer degradation) o =
      (s' : State T U) × (refusal : Option SubscriberCreateError)
      × CreateSubscriber environment s
      (record {
        buffer_size = elim buffer [ None ↦ buffer_limit s.config | Some size ↦ size ];
        degradation_handler = Fixed degradation;
      }) s' refusal
      × (o ≡ after_subscriber s' s.next_port refusal)
  Step (LoanUninit of) o = IfLive o (if_single_units s (if_fixed_size s (unblocked_at s handles of)))
      (λ publisher. Loans false 1 publisher.0 o)
  Step (LoanDefault of) o = IfLive o (if_single_units s (if_fixed_size s (unblocked_at s handles of)))
      (λ publisher. LoansDefault publisher.0 o)
  Step (LoanSlice of len) o = IfLive o (if_single_units s (if_dynamic s (unblocked_at s handles of)))
      (λ publisher. Loans true len publisher.0 o)
  Step (WriteCell of at value) o =
      IfLive o (with_cell_at at (unwritten_at s handles of))
      (λ loan. o ≡ done (with_loan s loan.0 (Some (with_cell loan.1 at value))))
  Step (WriteAll of value) o =
      IfLive o (unwritten_at s handles of) (λ loan. o ≡ done (with_loan s loan.0 (Some (written loan.1 value))))
  Step (AssumeInit of) o =
      IfLive o (unwritten_at s handles of)
      (λ loan. o ≡ (if is_initialized loan.1 then done (initialized s loan.0 loan.1) else replied Unwritten s))
  Step (WriteHeader of value) o =
      IfLive o (loan_at s handles of)
      (λ loan. o ≡ done (with_loan s loan.0 (Some (record (loan.1) { user_header = value }))))
  Step (SetPayload of at value) o =
      IfLive o (with_cell_at at (written_at s handles of))
      (λ loan. o ≡ done (with_loan s loan.0 (Some (with_cell loan.1 at value))))
  Step (SendLoan of) o = IfLive o (sendable_at s handles of) (λ loan. SendsLoan s loan.0 loan.1 o)
  Step (SendLoanToConnection of channel place) o =
      IfLive o (if_channel s channel (sendable_at s handles of)) (λ loan. SendsLoanTo channel place loan.0 loan.1 o)
  Step (SendCopy of value) o = IfLive o (if_single_units s (if_fixed_size s (unblocked_at s handles of)))
      (λ publisher. SendsCopy value publisher.0 o)
  Step (Discard of) o = IfLive o (loan_at s handles of) (λ loan. o ≡ done (loan_discarded s loan.0 loan.1))
  Step (RetrySend of elapsed) o = IfLive o (blocked_at s handles of) (λ blocked. Retries blocked.0 blocked.1 elapsed o)
  Step (GiveUpSend of) o = IfLive o (blocked_at s handles of) (λ blocked. GivesUp blocked.0 blocked.1 o)
  Step (Update of) o =
      MatchOption (unblocked_at s handles of)
      (IfLive o (subscriber_at s handles of) (λ subscriber. UpdatesSubscriber subscriber.0 o))
      (λ publisher. UpdatesPublisher publisher.0 o)
  Step (ReceiveSample of) o =
      IfLive o (if_single_units s (subscriber_at s handles of)) (λ subscriber. Receives subscriber.0 o)
  Step (AskForSamples of) o = IfLive o (subscriber_at s handles of) (λ subscriber. AsksForSamples subscriber.0 o)
  Step (Read of at) o =
      MatchOption (sample_at s handles of)
      (ReadsCell (with_cell_at at (loan_at s handles of)) at o)
      (λ sample. ReadsValue sample.2 at o)
  Step (ReadHeader of) o =
      MatchOption (sample_at s handles of)
      (IfLive o (loan_at s handles of) (λ loan. o ≡ replied (HeaderRead (loan.1).header) s))
      (λ sample. MatchOption (messages sample.2) ⊥ (λ entry. o ≡ replied (HeaderRead entry.header) s))
  Step (ReadUserHeader of) o =
      MatchOption (sample_at s handles of)
      (IfLive o (loan_at s handles of) (λ loan. o ≡ replied (UserHeader (loan.1).user_header) s))
      (λ sample. MatchOption (messages sample.2) ⊥ (λ entry. o ≡ replied (UserHeader entry.user_header) s))
  Step (Release of) o = IfLive o (sample_at s handles of) (λ sample. o ≡ done (released s sample.0 sample.1 sample.2))
  Step (Close of) o =
      MatchOption (unblocked_at s handles of)
      (IfLive o (subscriber_at s handles of) (λ subscriber. o ≡ done (subscriber_closed s subscriber.0 subscriber.1)))
      (λ publisher. o ≡ done (publisher_closed s publisher.0 publisher.1))
  Step (ConnectionPlace of receiver) o =
      IfLive o (publisher_at s handles of)
      (λ publisher. o ≡ replied (Place (connection_place s publisher.0 receiver)) s)
  Step (PublisherChannel of channel place call) o =
      IfLive o (if_channel s channel (publisher_at s handles of))
      (λ publisher. o ≡ of_publisher_channel s publisher.0 channel place call)
  Step (SubscriberChannel of channel call) o =
      IfLive o (if_channel s channel (subscriber_at s handles of))
      (λ subscriber. o ≡ of_subscriber_channel s subscriber.0 channel call)
