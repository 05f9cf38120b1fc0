-- Every command comes to something in every state that a run reaches, so every list of commands has a run.
use Rattle.std.proofs.Common.{◌≡◌, ⊎_elim, ℕ, ◌≤◌, ◌<◌, Bool, true, false, cond, List, [], ◌∷◌, ◌++◌, length, arith}
use Rattle.std.proofs.Common.{refl, sym, subst, ◌∙◌, Option, None, Some}
use Rattle.std.specs.Prelude.{MatchOption, slice_get, nat_lt}
use Rattle.std.specs.Option.{option_map}
use Rattle.std.proofs.lemmas.Bool.{true≢false, ltb-true}
use Rattle.std.proofs.lemmas.Option.{none-some, same_Some, slice_get_cases}
use Rattle.iox2_machine.specs.machine.Mailbox.{is_borrowed, numbers_in, Mailbox, other_numbers}
use Rattle.iox2_machine.specs.machine.Numbers.{contains}
use Rattle.iox2_machine.specs.machine.Records.{Entry, Loan, Publisher, Handler, Fixed}
use Rattle.iox2_machine.specs.machine.State.{State, Messages, fresh, no_messages, with_loan}
use Rattle.iox2_machine.specs.machine.Loans.{GrantLoan, is_initialized, initialized, entry_of, written, with_cell}
use Rattle.iox2_machine.specs.machine.Loans.{loan_discarded}
use Rattle.iox2_machine.specs.machine.SingleCalls.{GrantWrittenLoan}
use Rattle.iox2_machine.specs.machine.Sends.{Send, SendToConnection, SendResult}
use Rattle.iox2_machine.specs.machine.Receives.{HasSamples as Asks}
use Rattle.iox2_machine.specs.declared.service_config.ServiceConfig.{ServiceConfig}
use Rattle.iox2_machine.specs.declared.backpressure.BackpressureAction.{BackpressureAction}
use Rattle.iox2_machine.specs.declared.errors.ConnectionFailure.{ConnectionFailure}
use Rattle.iox2_machine.specs.declared.errors.LoanError.{LoanError}
use Rattle.iox2_machine.specs.declared.errors.SendError.TheVariants.{LoanError as NotLoaned}
use Rattle.iox2_laws.proofs.Enough.{fresh_is_well_formed}
use Rattle.iox2_laws.proofs.NumberLemmas.{contains_right}
use Rattle.iox2_commands.specs.Outcomes.{Handle, Sample_handle, Event, Outcome, replied, done, skipped, messages_after}
use Rattle.iox2_commands.specs.Step.{Step, after_publisher, after_subscriber, after_loan, after_send, after_retry}
use Rattle.iox2_commands.specs.Step.{after_receive, after_update, after_question, unblocked_at, subscriber_at, loan_at}
use Rattle.iox2_commands.specs.Step.{unwritten_at, written_at, with_cell_at, sendable_at, blocked_at, sample_at}
use Rattle.iox2_commands.specs.Step.{if_single_units, if_fixed_size, if_dynamic, publisher_at, if_channel}
use Rattle.iox2_commands.specs.Step.{of_publisher_channel, of_subscriber_channel}
use Rattle.iox2_machine.specs.machine.Environments.{ample_memory}
use Rattle.iox2_commands.specs.Runs.{RunFrom, only_defaults}
use Rattle.iox2_commands.specs.Existence.{EveryListRuns}
use Rattle.iox2_commands.specs.declared.command.Command.{Command}
use Rattle.iox2_commands.specs.declared.command.Command.TheVariants.{Nothing, CreatePublisher as PublisherCommand}
use Rattle.iox2_commands.specs.declared.command.Command.TheVariants.{CreateSubscriber as SubscriberCommand, LoanUninit}
use Rattle.iox2_commands.specs.declared.command.Command.TheVariants.{Loan as LoanDefault, LoanSlice, WriteCell}
use Rattle.iox2_commands.specs.declared.command.Command.TheVariants.{WriteAll, AssumeInit, WriteHeader, SetPayload}
use Rattle.iox2_commands.specs.declared.command.Command.TheVariants.{Send as SendLoan, SendCopy, Discard, Retry, GiveUp}
use Rattle.iox2_commands.specs.declared.command.Command.TheVariants.{Update, Receive, HasSamples, Read, ReadHeader}
use Rattle.iox2_commands.specs.declared.command.Command.TheVariants.{ReadUserHeader, Release, Close}
use Rattle.iox2_commands.specs.declared.command.Command.TheVariants.{SendToConnection as SendLoanTo, ConnectionPlace}
use Rattle.iox2_commands.specs.declared.command.Command.TheVariants.{PublisherChannel, SubscriberChannel}
use Rattle.iox2_commands.specs.declared.reply.Reply.{Reply}
use Rattle.iox2_commands.specs.declared.reply.Reply.TheVariants.{Unwritten, SendRefused, Cell, Header as HeaderRead}
use Rattle.iox2_commands.specs.declared.reply.Reply.TheVariants.{UserHeader, Place}
use Rattle.iox2_commands.proofs.Named.{unblocked_is, subscriber_is, blocked_is, passes, in_single_units, in_fixed_size}
use Rattle.iox2_commands.proofs.Named.{in_dynamic}
use Rattle.iox2_commands.proofs.HeaderReads.{ReadsHeader}
use Rattle.iox2_commands.proofs.ReadSteps.{PastSends, past_after}
use Rattle.iox2_commands.proofs.Reached.{HasReached, goes_on}
use Rattle.iox2_commands.proofs.AlikeOpen.{state_publisher, state_subscriber, state_loan, state_update, state_question}
use Rattle.iox2_commands.proofs.AlikeOpen.{state_receive, state_retry, state_send}
use Rattle.iox2_commands.proofs.ExistUpdates.{ComesWith, is_fixed}
use Rattle.iox2_commands.proofs.ExistCalls.{IsFixed, ComesTo, Grants, with_loan_fixed, loan_discarded_fixed}
use Rattle.iox2_commands.proofs.ExistCalls.{publisher_updates, subscriber_updates, grant_comes, grant_written_comes}
use Rattle.iox2_commands.proofs.ExistCalls.{delivers, send_comes, connection_comes, channels_fixed, receive_comes}
use Rattle.iox2_commands.proofs.ExistCalls.{has_samples_comes, released_fixed, publisher_closed_fixed}
use Rattle.iox2_commands.proofs.ExistCalls.{subscriber_closed_fixed, create_publisher_comes, create_subscriber_comes}
use Rattle.iox2_laws.proofs.Cases.{match_some}
use Rattle.iox2_commands.proofs.ChannelOutcomes.{publisher_call_on, subscriber_call_on}
use Rattle.iox2_machine.specs.machine.ChannelCalls.{connection_place}

-- a handler that a command gives is fixed
given_fixed : (o : Option BackpressureAction)
    → is_fixed (option_map {U = Handler BackpressureAction} (λ action. Fixed action) o) ≡ true
given_fixed None = refl
given_fixed (Some action) = refl

-- what is kept where a test holds says that it holds
kept_true : {A : Type 0} (b : Bool) (a c : A) → cond b (Some a) None ≡ Some c → (b ≡ true) × (a ≡ c)
kept_true true a c e = (refl, same_Some a c e)
kept_true false a c e = absurd (none-some c e)

module _ {T U : Type 0} where
  -- a sample that is named is borrowed
  sample_borrowed : (s : State T U) (handles : List Handle) (of : ℕ) (named : ℕ × ℕ × ℕ)
      → sample_at s handles of ≡ Some named → is_borrowed named.2 (s.mailboxes named.0 named.1) ≡ true
  sample_borrowed s handles of named e = at (slice_get handles of) e
    where
      at : (v : Option Handle) → elim v [
        | Some (Sample_handle p q n) ↦
            cond (is_borrowed n (s.mailboxes p q)) (Some (p, q, n)) None
        | _ ↦ None
      ] ≡ Some named
          → is_borrowed named.2 (s.mailboxes named.0 named.1) ≡ true
      at (Some (Sample_handle p q n)) e =
          let both : (is_borrowed n (s.mailboxes p q) ≡ true) × ((p, q, n) ≡ named) =
          kept_true (is_borrowed n (s.mailboxes p q)) (p, q, n) named e in
          subst (λ (v : ℕ × ℕ × ℕ). is_borrowed v.2 (s.mailboxes v.0 v.1) ≡ true) both.1 both.0
      at _ e = absurd (none-some named e)

  -- An outcome of which that holds, whose state is fixed.
  abbrev Ends : (Outcome T U → Type 0) → Type 0
  Ends Rel = (o : Outcome T U) × Rel o × IsFixed o.state

  ends_so : (o : Outcome T U) → IsFixed o.state → Ends (λ v. v ≡ o)
  ends_so o k = (o, refl, k)

  -- by cases
  ends_option : {A : Type 0} (o : Option A) (P : Outcome T U → Type 0) (Q : A → Outcome T U → Type 0)
      → (o ≡ None → Ends P) → ((a : A) → o ≡ Some a → Ends (Q a))
      → Ends (λ v. MatchOption o (P v) (λ a. Q a v))
  ends_option None P Q none some = none refl
  ends_option (Some a) P Q none some = some a refl

  -- a call with a result
  ends_call : (R : Type 0) (Rel : State T U → R → Type 0) (after : State T U → R → Outcome T U)
      → ((s' : State T U) (r : R) → (after s' r).state ≡ s') → ComesTo R Rel
      → Ends (λ o. (s' : State T U) × (r : R) × Rel s' r × (o ≡ after s' r))
  ends_call R Rel after same v = (after v.0 v.1, (v.0, v.1, v.2, refl), subst IsFixed (sym (same v.0 v.1)) v.3)

  module _ (default_value : T) (default_header : U) (past : PastSends T U) (first : past.first_port ≡ 0)
      (m : Messages T U) (s : State T U) (handles : List Handle)
      (reached : HasReached past m s handles) (k : IsFixed s) where
    -- the message of a sample that is named was sent
    sample_sent : (of : ℕ) (named : ℕ × ℕ × ℕ) → sample_at s handles of ≡ Some named
        → (entry : Entry T U) × (m named.2 ≡ Some entry)
    sample_sent of named e =
        let box : contains (numbers_in (s.mailboxes named.0 named.1)) named.2 ≡ true =
        let inner : Mailbox = s.mailboxes named.0 named.1 in
        contains_right (other_numbers inner) (inner.waiting ++ inner.borrowed) named.2
        (contains_right inner.waiting inner.borrowed named.2 (sample_borrowed s handles of named e)) in
        let sent : (entry : Entry T U) × past.WasSent named.0 named.2 entry × ((entry.header).publisher_id ≡ named.0) =
        (reached.traced).0 named.0 named.1 named.2 box (subst (λ i. i ≤ named.1) (sym first) (omega arith)) in
        (sent.0, reached.kept named.0 named.2 sent.0 sent.1)

    live : {A : Type 0} (named : Option A) (Then : A → Outcome T U → Type 0)
        → ((a : A) → named ≡ Some a → Ends (Then a)) → Ends (λ o. MatchOption named (o ≡ skipped s) (λ a. Then a o))
    live named Then go = ends_option named _ Then (λ _. ends_so (skipped s) k) go

    -- a loan is asked for
    loans : (checks_length : Bool) (len p : ℕ) (x : Publisher) → s.publishers p ≡ Some x
        → Ends (λ o. (s' : State T U) × (refusal : Option LoanError)
        × GrantLoan ample_memory default_header checks_length len s p s' refusal
        × (o ≡ after_loan s' s.next_message refusal))
    loans checks_length len p x present =
        let v : ComesWith (State T U) (Option LoanError) (GrantLoan ample_memory default_header checks_length len s p)
        (Grants s.next_message) = grant_comes default_header s p x present k len checks_length in
        ends_call (Option LoanError) (GrantLoan ample_memory default_header checks_length len s p)
        (λ s' r. after_loan s' s.next_message r) (λ s' r. state_loan s' s.next_message r) (v.0, v.1, v.2, (v.3).0)

    loans_default : (p : ℕ) (x : Publisher) → s.publishers p ≡ Some x
        → Ends (λ o. (s' : State T U) × (refusal : Option LoanError)
        × GrantWrittenLoan ample_memory default_value default_header false 1 s p s' refusal
        × (o ≡ after_loan s' s.next_message refusal))
    loans_default p x present =
        let v : ComesWith (State T U) (Option LoanError)
        (GrantWrittenLoan ample_memory default_value default_header false 1 s p) (Grants s.next_message) =
        grant_written_comes default_header s p x present k 1 default_value false in
        ends_call (Option LoanError) (GrantWrittenLoan ample_memory default_value default_header false 1 s p)
        (λ s' r. after_loan s' s.next_message r) (λ s' r. state_loan s' s.next_message r) (v.0, v.1, v.2, (v.3).0)

    -- a loan is sent
    sends_loan : (from : State T U) (n : ℕ) (l : Loan T U) → IsFixed from
        → Ends (λ o. (s' : State T U) × (result : SendResult) × Send ample_memory from n l s' result
        × (o ≡ after_send s' l.publisher n (entry_of l) result))
    sends_loan from n l j =
        ends_call SendResult (Send ample_memory from n l) (λ s' r. after_send s' l.publisher n (entry_of l) r)
        (λ s' r. state_send s' l.publisher n (entry_of l) r) (send_comes from n l j)

    abbrev SendsGranted : State T U → Outcome T U → Type 0
    SendsGranted mid o = MatchOption (mid.loans s.next_message) ⊥ (λ l.
        (s' : State T U) × (result : SendResult) × Send ample_memory mid s.next_message l s' result
        × (o ≡ after_send s' l.publisher s.next_message (entry_of l) result))

    sends_copy : (value : T) (p : ℕ) (x : Publisher) → s.publishers p ≡ Some x
        → Ends (λ o. (mid : State T U) × (refusal : Option LoanError)
        × GrantWrittenLoan ample_memory value default_header false 1 s p mid refusal
        × MatchOption refusal (SendsGranted mid o) (λ e. o ≡ replied (SendRefused (NotLoaned e)) mid))
    sends_copy value p x present =
        let v : ComesWith (State T U) (Option LoanError)
        (GrantWrittenLoan ample_memory value default_header false 1 s p) (Grants s.next_message) =
        grant_written_comes default_header s p x present k 1 value false in
        at v.0 v.1 v.2 v.3
      where
        at : (mid : State T U) (refusal : Option LoanError)
            → GrantWrittenLoan ample_memory value default_header false 1 s p mid refusal
            → Grants s.next_message mid refusal
            → Ends (λ o. (mid : State T U) × (refusal : Option LoanError)
            × GrantWrittenLoan ample_memory value default_header false 1 s p mid refusal
            × MatchOption refusal (SendsGranted mid o) (λ e. o ≡ replied (SendRefused (NotLoaned e)) mid))
        at mid None h g =
            let found : (l : Loan T U) × (mid.loans s.next_message ≡ Some l) = g.1 refl in
            let sent : Ends
            (λ o. (s' : State T U) × (result : SendResult) × Send ample_memory mid s.next_message found.0 s' result
            × (o ≡ after_send s' (found.0).publisher s.next_message (entry_of found.0) result)) =
            sends_loan mid s.next_message found.0 g.0 in
            (sent.0, (mid, None, h, match_some (mid.loans s.next_message) found.0 _ _ found.1 sent.1), sent.2)
        at mid (Some e) h g = (replied (SendRefused (NotLoaned e)) mid, (mid, Some e, h, refl), g.0)

    -- a cell that is there is read
    reads_cell : (at : ℕ) (named : Option (ℕ × Loan T U))
        → Ends (λ o. MatchOption (with_cell_at at named) (o ≡ skipped s)
        (λ loan. MatchOption (slice_get (loan.1).cells at) ⊥ (λ cell. o ≡ replied (Cell cell) s)))
    reads_cell at named = live (with_cell_at at named) _ (λ loan e.
        let low : at < length (loan.1).cells = ltb-true at (length (loan.1).cells)
        (passes (λ (v : ℕ × Loan T U). nat_lt at (length v.1.cells)) named loan e).1 in
        ends_option (slice_get (loan.1).cells at) (λ _. ⊥) _
        (λ none. absurd (⊎_elim (λ found. none-some found.0 (sym none ∙ found.2))
        (λ past_end. not_both at (length (loan.1).cells) low past_end.0) (slice_get_cases (loan.1).cells at).1))
        (λ cell _. ends_so (replied (Cell cell) s) k))
      where
        not_both : (a b : ℕ) → a < b → b ≤ a → ⊥
        not_both a b h j = omega arith

    -- a header is read
    reads_header : (of : ℕ) (of_loan : ℕ × Loan T U → Reply T U) (of_entry : Entry T U → Reply T U)
        → Ends (ReadsHeader m s handles of of_loan of_entry)
    reads_header of of_loan of_entry =
        ends_option (sample_at s handles of) _ _
        (λ _. live (loan_at s handles of) _ (λ loan _. ends_so (replied (of_loan loan) s) k))
        (λ sample e.
        let sent : (entry : Entry T U) × (m sample.2 ≡ Some entry) = sample_sent of sample e in
        (replied (of_entry sent.0) s, match_some (m sample.2) sent.0 _ _ sent.1 refl, k))

    -- Each command comes to something.
    pub step_comes : (command : Command T U) → Ends (Step ample_memory default_value default_header m s handles command)
    step_comes Nothing = ends_so (done s) k
    step_comes (PublisherCommand asked) =
        ends_call _ _ (λ s' r. after_publisher s' s.next_port r) (λ s' r. state_publisher s' s.next_port r)
        (create_publisher_comes s _ (given_fixed asked.backpressure) k)
    step_comes (SubscriberCommand buffer degradation) =
        ends_call _ _ (λ s' r. after_subscriber s' s.next_port r) (λ s' r. state_subscriber s' s.next_port r)
        (create_subscriber_comes s _ k)
    step_comes (LoanUninit of) =
        live (if_single_units s (if_fixed_size s (unblocked_at s handles of))) _ (λ publisher e.
        loans false 1 publisher.0 publisher.1
        (unblocked_is s handles of publisher (in_fixed_size s _ publisher (in_single_units s _ publisher e))).0)
    step_comes (LoanDefault of) =
        live (if_single_units s (if_fixed_size s (unblocked_at s handles of))) _ (λ publisher e.
        loans_default publisher.0 publisher.1
        (unblocked_is s handles of publisher (in_fixed_size s _ publisher (in_single_units s _ publisher e))).0)
    step_comes (LoanSlice of len) =
        live (if_single_units s (if_dynamic s (unblocked_at s handles of))) _ (λ publisher e.
        loans true len publisher.0 publisher.1
        (unblocked_is s handles of publisher (in_dynamic s _ publisher (in_single_units s _ publisher e))).0)
    step_comes (WriteCell of at value) =
        live (with_cell_at at (unwritten_at s handles of)) _ (λ loan _.
        ends_so (done (with_loan s loan.0 (Some (with_cell loan.1 at value)))) (with_loan_fixed s loan.0 _ k))
    step_comes (WriteAll of value) =
        live (unwritten_at s handles of) _
        (λ loan _. ends_so (done (with_loan s loan.0 (Some (written loan.1 value)))) (with_loan_fixed s loan.0 _ k))
    step_comes (AssumeInit of) =
        live (unwritten_at s handles of) _
        (λ loan _. ends_so (cond (is_initialized loan.1) (done (initialized s loan.0 loan.1)) (replied Unwritten s))
        (elim (is_initialized loan.1) as (λ c.
        IsFixed (cond c (done (initialized s loan.0 loan.1)) (replied Unwritten s)).state)
        [ true ↦ with_loan_fixed s loan.0 _ k | false ↦ k ]))
    step_comes (WriteHeader of value) =
        live (loan_at s handles of) _ (λ loan _. ends_so
        (done (with_loan s loan.0 (Some (record (loan.1) { user_header = value })))) (with_loan_fixed s loan.0 _ k))
    step_comes (SetPayload of at value) =
        live (with_cell_at at (written_at s handles of)) _ (λ loan _.
        ends_so (done (with_loan s loan.0 (Some (with_cell loan.1 at value)))) (with_loan_fixed s loan.0 _ k))
    step_comes (SendLoan of) = live (sendable_at s handles of) _ (λ loan _. sends_loan s loan.0 loan.1 k)
    step_comes (SendLoanTo of channel place) =
        live (if_channel s channel (sendable_at s handles of)) _ (λ loan _.
        ends_call SendResult (SendToConnection ample_memory s loan.0 loan.1 channel place)
        (λ s' r. after_send s' _ loan.0 (entry_of loan.1) r)
        (λ s' r. state_send s' _ loan.0 (entry_of loan.1) r) (connection_comes s loan.0 loan.1 channel place k))
    step_comes (SendCopy of value) =
        live (if_single_units s (if_fixed_size s (unblocked_at s handles of))) _ (λ publisher e.
        sends_copy value publisher.0 publisher.1
        (unblocked_is s handles of publisher (in_fixed_size s _ publisher (in_single_units s _ publisher e))).0)
    step_comes (Discard of) = live (loan_at s handles of) _
        (λ loan _. ends_so (done (loan_discarded s loan.0 loan.1)) (loan_discarded_fixed s loan.0 loan.1 k))
    step_comes (Retry of elapsed) =
        live (blocked_at s handles of) _ (λ blocked e.
        let there : (x : Publisher) × (s.publishers blocked.0 ≡ Some x) × (x.blocked ≡ Some blocked.1) =
        blocked_is s handles of blocked e in
        ends_call _ _ (λ s' r. after_retry s' r) state_retry (delivers s blocked.0 there.0 there.1 k _ _ _ _ _ _ _ _))
    step_comes (GiveUp of) =
        live (blocked_at s handles of) _ (λ blocked e.
        let there : (x : Publisher) × (s.publishers blocked.0 ≡ Some x) × (x.blocked ≡ Some blocked.1) =
        blocked_is s handles of blocked e in
        ends_call _ _ (λ s' r. after_retry s' r) state_retry (delivers s blocked.0 there.0 there.1 k _ _ _ _ _ _ _ _))
    step_comes (Update of) =
        ends_option (unblocked_at s handles of) _ _
        (λ _. live (subscriber_at s handles of) _ (λ subscriber e.
        ends_call _ _ (λ s' r. after_update s' r) state_update
        (subscriber_updates s subscriber.0 subscriber.1 (subscriber_is s handles of subscriber e) k)))
        (λ publisher e. ends_call _ _ (λ s' r. after_update s' r) state_update
        (publisher_updates s publisher.0 publisher.1 (unblocked_is s handles of publisher e).0 k))
    step_comes (Receive of) =
        live (if_single_units s (subscriber_at s handles of)) _ (λ subscriber e.
        ends_call _ _ (λ s' r. after_receive s' subscriber.0 r) (λ s' r. state_receive s' subscriber.0 r)
        (receive_comes s subscriber.0 subscriber.1
        (subscriber_is s handles of subscriber (in_single_units s _ subscriber e)) k))
    step_comes (HasSamples of) =
        live (subscriber_at s handles of) _ (λ subscriber e.
        let v : (s' : State T U) × (failure : Option ConnectionFailure) × (has : Bool)
        × Asks ample_memory s subscriber.0 s' failure has × IsFixed s' =
        has_samples_comes s subscriber.0 subscriber.1 (subscriber_is s handles of subscriber e) k in
        (after_question v.0 v.1 v.2, (v.0, v.1, v.2, v.3, refl), subst IsFixed (sym (state_question v.0 v.1 v.2)) v.4))
    step_comes (Read of at) =
        ends_option (sample_at s handles of) _ _
        (λ _. reads_cell at (loan_at s handles of))
        (λ sample e.
        let sent : (entry : Entry T U) × (m sample.2 ≡ Some entry) = sample_sent of sample e in
        let v : Ends (λ o.
        MatchOption (slice_get (sent.0).values at) (o ≡ skipped s) (λ value. o ≡ replied (Cell (Some value)) s)) =
        live (slice_get (sent.0).values at) _ (λ value _. ends_so (replied (Cell (Some value)) s) k) in
        (v.0, match_some (m sample.2) sent.0 _ _ sent.1 v.1, v.2))
    step_comes (ReadHeader of) = reads_header of (λ loan. HeaderRead (loan.1).header) (λ entry. HeaderRead entry.header)
    step_comes (ReadUserHeader of) =
        reads_header of (λ loan. UserHeader (loan.1).user_header) (λ entry. UserHeader entry.user_header)
    step_comes (Release of) =
        live (sample_at s handles of) _ (λ sample _. ends_so _ (released_fixed s sample.0 sample.1 sample.2 k))
    step_comes (Close of) =
        ends_option (unblocked_at s handles of) _ _
        (λ _. live (subscriber_at s handles of) _
        (λ subscriber _. ends_so _ (subscriber_closed_fixed s subscriber.0 subscriber.1 k)))
        (λ publisher _. ends_so _ (publisher_closed_fixed s publisher.0 publisher.1 k))
    step_comes (ConnectionPlace of receiver) = live (publisher_at s handles of) _
        (λ publisher _. ends_so (replied (Place (connection_place s publisher.0 receiver)) s) k)
    step_comes (PublisherChannel of channel place call) =
        live (if_channel s channel (publisher_at s handles of)) _ (λ publisher _.
        ends_so (of_publisher_channel s publisher.0 channel place call)
        (channels_fixed s _ (publisher_call_on s publisher.0 channel place call) k))
    step_comes (SubscriberChannel of channel call) =
        live (if_channel s channel (subscriber_at s handles of)) _ (λ subscriber _.
        ends_so (of_subscriber_channel s subscriber.0 channel call)
        (channels_fixed s _ (subscriber_call_on s subscriber.0 channel call) k))

  abbrev Runs : (default_value : T) → (default_header : U) → Messages T U → State T U → List Handle → List (Command T U)
      → Type 0
  Runs default_value default_header m s handles commands =
      (replies : List (Reply T U)) × (events : List (Event T U)) × (m' : Messages T U) × (s' : State T U)
      × RunFrom ample_memory (only_defaults default_value default_header) m s handles commands replies events m' s'

  runs : (default_value : T) (default_header : U) (past : PastSends T U) → past.first_port ≡ 0
      → (m : Messages T U) (s : State T U) (handles : List Handle) (commands : List (Command T U))
      → HasReached past m s handles → IsFixed s → Runs default_value default_header m s handles commands
  runs default_value default_header past first m s handles [] reached k = ([], [], m, s, (handles, (refl, refl, refl)))
  runs default_value default_header past first m s handles (command ∷ commands) reached k =
      let v : Ends (Step ample_memory default_value default_header m s handles command) =
      step_comes default_value default_header past first m s handles reached k command in
      let o : Outcome T U = v.0 in
      let rest : Runs default_value default_header (messages_after o.event m) o.state
      (handles ++ o.handle ∷ []) commands =
      runs default_value default_header (past_after past o.event) first (messages_after o.event m) o.state
      (handles ++ o.handle ∷ []) commands
      (goes_on ample_memory default_value default_header past m s handles reached command o v.1) v.2 in (
        o.reply ∷ rest.0,
        o.event ∷ rest.1,
        rest.2,
        rest.3,
        ((rest.4).0, (default_value, default_header, refl, refl, o, v.1, refl, refl, (rest.4).1)),
      )

  -- a new domain is reached
  abbrev nothing_past : PastSends T U
  nothing_past = record { first_port = 0; first_message = 0; WasSent = λ p n entry. ⊥ }

  new_reached : (c : ServiceConfig) → HasReached nothing_past no_messages (fresh c) []
  new_reached c = record {
    well_formed = fresh_is_well_formed c;
    ports = omega arith;
    messages = omega arith;
    traced = (
      λ p q n h low. absurd (true≢false (sym h)),
      λ p x e low. absurd (none-some x e),
      λ n l e. absurd (none-some l e),
    );
    own = λ i handle e. absurd (none-some handle e);
    below = λ p n entry v. absurd v;
    kept = λ p n entry v. absurd v;
  }

-- Every list of commands has a run on a new domain with ample memory.
pub every_list_runs : {T U : Type 0} → EveryListRuns T U
every_list_runs {T} {U} default_value default_header c commands =
    runs default_value default_header nothing_past refl no_messages (fresh c) [] commands (new_reached c)
    (record { message = omega arith; handlers = λ p x e. absurd (none-some x e) })
