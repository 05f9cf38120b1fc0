-- Commands that loan a value and write it at once, with what a run holds.
use Rattle.std.proofs.Common.{◌≡◌, ◌⊎◌, inl, inr, ℕ, ◌<◌, true, false, List, [], ◌∷◌, ◌++◌, map, refl, sym, ap, subst}
use Rattle.std.proofs.Common.{◌∙◌, None, Some, arith}
use Rattle.std.proofs.lemmas.Option.{same_Some}
use Rattle.std.specs.Prelude.{IfOk, slice_get, slice_index_or}
use Rattle.std.specs.declared.result.Result.{Result}
use Rattle.std.specs.declared.result.Result.TheVariants.{Ok, Err}
use Rattle.iox2_machine.specs.SingleValues.{is_single_valued}
use Rattle.iox2_machine.specs.machine.Records.{Environment, Loan}
use Rattle.iox2_machine.specs.machine.State.{State, Messages}
use Rattle.iox2_machine.specs.machine.Environments.{fixed_handlers}
use Rattle.iox2_machine.specs.machine.Numbers.{put_at}
use Rattle.iox2_machine.specs.machine.Loans.{entry_of}
use Rattle.iox2_machine.specs.machine.Sends.{Send, SendResult, Delivered_to, Blocked_send, Send_error}
use Rattle.iox2_machine.specs.machine.SingleCalls.{GrantWrittenLoan, HoldsBlocked}
use Rattle.iox2_machine.specs.declared.errors.ConnectionFailure.{ConnectionFailure}
use Rattle.iox2_machine.specs.declared.errors.LoanError.{LoanError}
use Rattle.iox2_machine.specs.declared.errors.SendError.{SendError}
use Rattle.iox2_machine.specs.declared.errors.SendError.TheVariants.{ConnectionError, UnableToDeliver}
use Rattle.iox2_domain.specs.Kept.{Kept as Domain}
use Rattle.iox2_domain.specs.Lending.{loan_memory}
use Rattle.iox2_domain.specs.Shows.{Shows}
use Rattle.iox2_machine.specs.declared.key.Key.{Key}
use Rattle.iox2_pubsub.specs.Live.{IsBlockedSend, blocked_key, lender_key, publisher_key}
use Rattle.iox2_pubsub.proofs.LiveParts.{blocked-parts}
use Rattle.iox2_laws.proofs.SendsRemain.{send_waits_with}
use Rattle.iox2_laws.proofs.Waits.{Waits, send_waits}
use Rattle.iox2_pubsub.specs.SendCalls.{IfBlocked, IsOfHandler, Sends, messages_after_send, sent_result}
use Rattle.iox2_pubsub.specs.WrittenLoans.{SendsValue, SendsLentValue, LendsNothing}
use Rattle.iox2_pubsub.specs.declared.publisher.Publisher.{Publisher as PublisherHandle}
use Rattle.iox2_pubsub.specs.declared.sample_mut.SampleMut.{SampleMut}
use Rattle.iox2_pubsub.specs.declared.send_outcome.SendOutcome.{SendOutcome}
use Rattle.iox2_pubsub.specs.declared.send_outcome.SendOutcome.TheVariants.{Delivered as OutcomeDelivered}
use Rattle.iox2_pubsub.specs.declared.send_outcome.SendOutcome.TheVariants.{Blocked as OutcomeBlocked}
use Rattle.iox2_commands.specs.Outcomes.{Handle, No_handle, Loan_handle, Blocked_handle, Sample_handle, Event, No_event}
use Rattle.iox2_commands.specs.Outcomes.{Message_sent}
use Rattle.iox2_commands.specs.Runs.{Defaults}
use Rattle.iox2_commands.specs.declared.command.Command.TheVariants.{Loan as LoanDefault, SendCopy}
use Rattle.iox2_commands.specs.declared.reply.Reply.TheVariants.{Skipped, Loaned, LoanRefused, Delivered, Blocked}
use Rattle.iox2_commands.specs.declared.reply.Reply.TheVariants.{SendRefused}
use Rattle.iox2_runs.specs.Tables.{port_of, TableEntry, No_entry, Publisher_entry, Written_entry, IsUnblockedPort}
use Rattle.iox2_runs.specs.Tables.{HasNoBox, IsTable}
use Rattle.iox2_runs.specs.RunSteps.{Comes}
use Rattle.iox2_runs.specs.Carries.{entry_for, Carries}
use Rattle.iox2_runs.specs.SendReplies.{reply_to_send, made_by_send}
use Rattle.iox2_runs.specs.declared.runs.made.Made.{Made}
use Rattle.iox2_runs.specs.declared.runs.made.Made.TheVariants.{Nothing, Publisher as MadePublisher, Written}
use Rattle.iox2_runs.specs.declared.runs.made.Made.TheVariants.{Blocked as MadeBlocked}
use Rattle.iox2_runs.proofs.CarriedBlocked.{blocked_entry}
use Rattle.iox2_runs.proofs.FixedSends.{unboxed_still, sends_fixed}
use Rattle.iox2_runs.proofs.TablePassed.{one_blocked}
use Rattle.iox2_runs.proofs.TableSteps.{Nobody}
use Rattle.iox2_runs.proofs.TableCopies.{copied, copied-there, copied-publisher, copied-waits, written_any}
use Rattle.iox2_runs.proofs.TableCopies.{default_skipped, default_waiting, default_elsewhere, default_comes}
use Rattle.iox2_runs.proofs.TableCopies.{default_refused_comes, copy_skipped, copy_waiting, copy_elsewhere, copy_comes}
use Rattle.iox2_runs.proofs.TableCopies.{copy_refused_comes}
use Rattle.iox2_runs.proofs.TableEntries.{entry-stands, lacks}
use Rattle.iox2_runs.proofs.TableLooks.{is_publisher_entry, handle_of, publisher_unboxed}

-- ---- what comes of a copy

module _ {T U F G : Type 0} (environment : Environment) (defaults : Defaults T U) (new : Domain T U F G)
    (table : List Made) (of : ℕ) (h : PublisherHandle) (value : T) (m : Messages T U) (s : State T U)
    (handles : List Handle) (events : List (Event T U)) (w : IsTable s handles events (map entry_for table))
    (default_value : T) (default_header : U)
    (is_value : defaults.IsDefaultValue default_value) (is_header : defaults.IsDefaultHeader default_header)
    (stand : slice_get (map entry_for table) of ≡ Some (Publisher_entry h.service_id h.id))
    (unblocked : IsUnblockedPort s h.id) (alone : is_single_valued s.config ≡ true)
    (header : U) (is_default : defaults.IsDefaultHeader header) (mid : State T U)
    (grants : GrantWrittenLoan fixed_handlers value header false 1 s h.id mid None)
    (l : Loan T U) (out : mid.loans s.next_message ≡ Some l) where
  lender : l.publisher ≡ h.id
  lender = ap (λ (k : Loan T U). k.publisher) (same_Some l (copied fixed_handlers s h.id value header mid grants)
      (sym out ∙ copied-there fixed_handlers s h.id value header mid grants))
      ∙ copied-publisher fixed_handlers s h.id value header mid grants

  -- its publisher is one whose id was given out, and has no box
  lender-unboxed : (l.publisher < mid.next_port) × HasNoBox mid l.publisher
  lender-unboxed =
      let named = handle_of s handles events (map entry_for table) w of (Publisher_entry h.service_id h.id) stand in
      let low : h.id < s.next_port = w.ports_below of h.id named.0 named.1 (ap port_of (named.2).1) in
      let waits : Waits Nobody s mid = copied-waits fixed_handlers s h.id value header mid grants in
      let up = waits.next_port in (
        subst (λ (p : ℕ). p < mid.next_port) (sym lender) (omega (arith, low, up)),
        subst (HasNoBox mid) (sym lender) (unboxed_still Nobody s mid waits h.id low
            (publisher_unboxed s handles events (map entry_for table) w of h.service_id h.id stand)),
      )

  -- so the loan is sent where no port has a box
  fixed : (s' : State T U) (result : SendResult) → Send environment mid s.next_message l s' result
      → Send fixed_handlers mid s.next_message l s' result
  fixed s' result sends = sends_fixed environment mid s.next_message l s' result lender-unboxed.0 lender-unboxed.1 sends

  -- and the publisher has none afterwards
  still-unboxed : (s' : State T U) (result : SendResult) → Send fixed_handlers mid s.next_message l s' result
      → HasNoBox s' h.id
  still-unboxed s' result sends =
      subst (HasNoBox s') lender
      (unboxed_still (λ i. i ≡ l.publisher) mid s'
      (send_waits (λ i. i ≡ l.publisher) fixed_handlers mid s.next_message l refl s' result sends) l.publisher
      lender-unboxed.0 lender-unboxed.1)

  copied-by : (came : SendOutcome)
      → IfBlocked came (λ blocked. IsBlockedSend new blocked × (lender_key (blocked_key blocked) ≡ publisher_key h))
      → (s' : State T U) → Send environment mid s.next_message l s' (sent_result came)
      → Shows new (put_at m s.next_message (Some (entry_of l))) s'
      → Comes fixed_handlers defaults (Shows new) m s handles events (SendCopy of value) (reply_to_send (Ok came))
      (map entry_for table ++ entry_for (made_by_send (Ok came)) ∷ [])
  copied-by (OutcomeDelivered count) waits s' sends shown =
      copy_comes fixed_handlers defaults (Shows new) m s handles events (map entry_for table) w default_value
      default_header is_value is_header of h.service_id h.id value stand unblocked alone
      header is_default mid grants l out s' (Delivered_to count) (fixed s' (Delivered_to count) sends)
      (Delivered count) No_handle (Message_sent l.publisher s.next_message (entry_of l)) No_entry refl refl
      (λ k e. let clash : No_handle ≡ Loan_handle k = e in absurd cc)
      (λ p q k e. let clash : No_handle ≡ Sample_handle p q k = e in absurd cc)
      (λ p k e. let clash : No_handle ≡ Blocked_handle p k = e in absurd cc) shown tt
  copied-by (OutcomeBlocked blocked) waits s' sends shown =
      let key : Key = record { service_id = blocked.service_id; port = h.id; message = s.next_message } in
      let port : blocked.loan.publisher ≡ h.id = ap (λ (k : Key). k.port) waits.1 in
      let held : HoldsBlocked s' h.id blocked.loan.number =
      subst (λ (p : ℕ). HoldsBlocked s' p blocked.loan.number) port
      (subst (λ (t : State T U). HoldsBlocked t blocked.loan.publisher blocked.loan.number) (sym shown.state)
      (blocked-parts new (blocked_key blocked) waits.0).1) in
      let so : Send fixed_handlers mid s.next_message l s' Blocked_send = fixed s' Blocked_send sends in
      let sent : HoldsBlocked s' h.id s.next_message =
      subst (λ (p : ℕ). HoldsBlocked s' p s.next_message) lender
      (send_waits_with fixed_handlers mid s.next_message l s' Blocked_send so refl) in
      let number : blocked.loan.number ≡ s.next_message =
      one_blocked s' h.id s.next_message blocked.loan.number sent held in
      let is : blocked_key blocked ≡ key =
      λ i. record { service_id = blocked.service_id; port = port i; message = number i } in
      copy_comes fixed_handlers defaults (Shows new) m s handles events (map entry_for table) w default_value
      default_header is_value is_header of h.service_id h.id value stand unblocked alone
      header is_default mid grants l out s' Blocked_send so Blocked (Blocked_handle h.id s.next_message)
      (Message_sent l.publisher s.next_message (entry_of l)) (entry_for (MadeBlocked blocked))
      (ap (λ (p : ℕ). record {
        reply = Blocked;
        handle = Blocked_handle p s.next_message;
        event = Message_sent l.publisher s.next_message (entry_of l);
        state = s';
      }) (sym lender)) refl
      (λ k e. let clash : Blocked_handle h.id s.next_message ≡ Loan_handle k = e in absurd cc)
      (λ p q k e. let clash : Blocked_handle h.id s.next_message ≡ Sample_handle p q k = e in absurd cc)
      (λ p k e. let same : Blocked_handle h.id s.next_message ≡ Blocked_handle p k = e in (cc, cc)) shown
      (blocked_entry new _ s' shown blocked waits.0 key is (still-unboxed s' Blocked_send so))

  -- a handler failed it
  copied-failing : (s' : State T U) → Send environment mid s.next_message l s' (Send_error UnableToDeliver)
      → Shows new (put_at m s.next_message (Some (entry_of l))) s'
      → Comes fixed_handlers defaults (Shows new) m s handles events (SendCopy of value) (SendRefused UnableToDeliver)
      (map entry_for table ++ No_entry ∷ [])
  copied-failing s' sends shown =
      copy_comes fixed_handlers defaults (Shows new) m s handles events (map entry_for table) w default_value
      default_header is_value is_header of h.service_id h.id value stand unblocked alone
      header is_default mid grants l out s' (Send_error UnableToDeliver) (fixed s' (Send_error UnableToDeliver) sends)
      (SendRefused UnableToDeliver) No_handle (Message_sent l.publisher s.next_message (entry_of l)) No_entry refl refl
      (λ k e. let clash : No_handle ≡ Loan_handle k = e in absurd cc)
      (λ p q k e. let clash : No_handle ≡ Sample_handle p q k = e in absurd cc)
      (λ p k e. let clash : No_handle ≡ Blocked_handle p k = e in absurd cc) shown tt

  -- or it did before the copy was sent to anybody
  copied-unconnected : (failure : ConnectionFailure) (s' : State T U)
      → Send environment mid s.next_message l s' (Send_error (ConnectionError failure)) → Shows new m s'
      → Comes fixed_handlers defaults (Shows new) m s handles events (SendCopy of value)
      (SendRefused (ConnectionError failure)) (map entry_for table ++ No_entry ∷ [])
  copied-unconnected failure s' sends shown =
      copy_comes fixed_handlers defaults (Shows new) m s handles events (map entry_for table) w default_value
      default_header is_value is_header of h.service_id h.id value stand unblocked alone
      header is_default mid grants l out s' (Send_error (ConnectionError failure))
      (fixed s' (Send_error (ConnectionError failure)) sends)
      (SendRefused (ConnectionError failure)) No_handle No_event No_entry refl refl
      (λ k e. let clash : No_handle ≡ Loan_handle k = e in absurd cc)
      (λ p q k e. let clash : No_handle ≡ Sample_handle p q k = e in absurd cc)
      (λ p k e. let clash : No_handle ≡ Blocked_handle p k = e in absurd cc) shown tt

module _ {T U F G : Type 0} (defaults : Defaults T U) (old new : Domain T U F G) (table : List Made) (of : ℕ) where
  -- ---- a default value

  pub default_passed : is_publisher_entry (entry_for (slice_index_or table of Nothing)) ≡ false
      → Carries fixed_handlers defaults old old table (LoanDefault of) Skipped table Nothing
  default_passed other = λ m s handles events shown w default_value default_header is_value is_header.
      default_skipped fixed_handlers defaults (Shows old) m s handles events
      (map entry_for table) w default_value default_header is_value is_header of
      (lacks is_publisher_entry refl table of other) shown

  -- the publisher waits for a receiver
  pub default_held_up : (h : PublisherHandle) → slice_index_or table of Nothing ≡ MadePublisher h
      → ((m : Messages T U) (s : State T U) → Shows old m s → IsUnblockedPort s h.id → ⊥)
      → Carries fixed_handlers defaults old old table (LoanDefault of) Skipped table Nothing
  default_held_up h at waits = λ m s handles events shown w default_value default_header is_value is_header.
      default_waiting fixed_handlers defaults (Shows old) m s handles events
      (map entry_for table) w default_value default_header is_value is_header of h.service_id h.id
      (entry-stands table of (MadePublisher h) at (λ e. let clash : MadePublisher h ≡ Nothing = e in cc))
      (waits m s shown) shown

  pub default_of_other : is_single_valued old.config ≡ false
      → Carries fixed_handlers defaults old old table (LoanDefault of) Skipped table Nothing
  default_of_other other = λ m s handles events shown w default_value default_header is_value is_header.
      default_elsewhere fixed_handlers defaults (Shows old) m s handles events
      (map entry_for table) w default_value default_header is_value is_header of
      (ap (λ (t : State T U). is_single_valued t.config) shown.state ∙ other) shown

  pub default_carried : (h : PublisherHandle) (h' : SampleMut) → slice_index_or table of Nothing ≡ MadePublisher h
      → ((m : Messages T U) (s : State T U) → Shows old m s → IsUnblockedPort s h.id)
      → is_single_valued old.config ≡ true
      → ((m : Messages T U) (s : State T U) → Shows old m s → (s' : State T U) × Shows new m s'
      × ((value : T) × defaults.IsDefaultValue value × (header : U) × defaults.IsDefaultHeader header
      × GrantWrittenLoan (loan_memory s h.id) value header false 1 s h.id s' None))
      → h'.service_id ≡ (new.config).service_id → h'.loan.publisher ≡ h.id → h'.loan.number ≡ old.next_message
      → Carries fixed_handlers defaults old new table (LoanDefault of) Loaned table (Written h')
  default_carried h h' at free single lends service publisher number =
      λ m s handles events shown w default_value default_header is_value is_header.
      let lent = lends m s shown in
      let loan = lent.2 in
      let made : Written_entry h'.service_id h.id s.next_message ≡ entry_for (Written h') =
      λ i. Written_entry h'.service_id (sym publisher i)
      ((ap (λ (t : State T U). t.next_message) shown.state ∙ sym number) i) in
      subst (λ (k : TableEntry). Comes fixed_handlers defaults (Shows new) m s handles events (LoanDefault of) Loaned
      (map entry_for table ++ k ∷ [])) made
      (default_comes fixed_handlers defaults (Shows new) m s handles events
      (map entry_for table) w default_value default_header is_value is_header of h.service_id h.id
      (entry-stands table of (MadePublisher h) at (λ e. let clash : MadePublisher h ≡ Nothing = e in cc))
      (free m s shown) (ap (λ (t : State T U). is_single_valued t.config) shown.state ∙ single)
      loan.0 loan.1 loan.2 loan.3 lent.0
      (written_any (loan_memory s h.id) loan.0 loan.2 s h.id lent.0 None loan.4) lent.1
      h'.service_id (service ∙ sym (ap (λ (t : State T U). (t.config).service_id) (lent.1).state)))

  pub default_denied : (h : PublisherHandle) (e : LoanError) → slice_index_or table of Nothing ≡ MadePublisher h
      → ((m : Messages T U) (s : State T U) → Shows old m s → IsUnblockedPort s h.id)
      → is_single_valued old.config ≡ true
      → ((m : Messages T U) (s : State T U) → Shows old m s → (s' : State T U) × Shows new m s'
      × ((s' ≡ s)
      × ((value : T) (header : U) → GrantWrittenLoan (loan_memory s h.id) value header false 1 s h.id s' (Some e))))
      → Carries fixed_handlers defaults old new table (LoanDefault of) (LoanRefused e) table Nothing
  default_denied h e at free single refuses =
      λ m s handles events shown w default_value default_header is_value is_header.
      let refused = refuses m s shown in
      default_refused_comes fixed_handlers defaults (Shows new) m s handles events
      (map entry_for table) w default_value default_header is_value is_header of h.service_id h.id
      (entry-stands table of (MadePublisher h) at (λ e. let clash : MadePublisher h ≡ Nothing = e in cc))
      (free m s shown) (ap (λ (t : State T U). is_single_valued t.config) shown.state ∙ single)
      refused.0 e (written_any (loan_memory s h.id) default_value default_header s h.id refused.0 (Some e)
      ((refused.2).1 default_value default_header)) refused.1

  -- ---- a copy

  pub copy_passed : (value : T) → is_publisher_entry (entry_for (slice_index_or table of Nothing)) ≡ false
      → Carries fixed_handlers defaults old old table (SendCopy of value) Skipped table Nothing
  copy_passed value other = λ m s handles events shown w default_value default_header is_value is_header.
      copy_skipped fixed_handlers defaults (Shows old) m s handles events
      (map entry_for table) w default_value default_header is_value is_header of value
      (lacks is_publisher_entry refl table of other) shown

  pub copy_of_other : (value : T) → is_single_valued old.config ≡ false
      → Carries fixed_handlers defaults old old table (SendCopy of value) Skipped table Nothing
  copy_of_other value other = λ m s handles events shown w default_value default_header is_value is_header.
      copy_elsewhere fixed_handlers defaults (Shows old) m s handles events
      (map entry_for table) w default_value default_header is_value is_header of value
      (ap (λ (t : State T U). is_single_valued t.config) shown.state ∙ other) shown

  -- the publisher waits for a receiver
  pub copy_held_up : (value : T) (h : PublisherHandle) → slice_index_or table of Nothing ≡ MadePublisher h
      → ((m : Messages T U) (s : State T U) → Shows old m s → IsUnblockedPort s h.id → ⊥)
      → Carries fixed_handlers defaults old old table (SendCopy of value) Skipped table Nothing
  copy_held_up value h at waits = λ m s handles events shown w default_value default_header is_value is_header.
      copy_waiting fixed_handlers defaults (Shows old) m s handles events
      (map entry_for table) w default_value default_header is_value is_header of h.service_id h.id value
      (entry-stands table of (MadePublisher h) at (λ e. let clash : MadePublisher h ≡ Nothing = e in cc))
      (waits m s shown) shown

module _ {T U F G : Type 0} (environment : Environment) (defaults : Defaults T U) (old new : Domain T U F G)
    (table : List Made) (of : ℕ) where
  -- the copy is sent: to all receivers, or it waits for one
  pub copy_carried : (h : PublisherHandle) (value : T) (outcome : SendOutcome)
      → slice_index_or table of Nothing ≡ MadePublisher h
      → ((m : Messages T U) (s : State T U) → Shows old m s → IsUnblockedPort s h.id)
      → is_single_valued old.config ≡ true
      → ((m : Messages T U) (s : State T U) → Shows old m s → (m' : Messages T U) × (s' : State T U) × Shows new m' s'
      × SendsLentValue environment defaults.IsDefaultHeader m s h.id value (Ok outcome) m' s')
      → IfBlocked outcome (λ blocked. IsBlockedSend new blocked × (lender_key (blocked_key blocked) ≡ publisher_key h))
      → Carries fixed_handlers defaults old new table (SendCopy of value) (reply_to_send (Ok outcome)) table
      (made_by_send (Ok outcome))
  copy_carried h value outcome at free single sends blocked =
      λ m s handles events shown w default_value default_header is_value is_header.
      let sent = sends m s shown in
      let it = sent.3 in
      copied-by environment defaults new table of h value m s handles events w default_value default_header is_value
      is_header
      (entry-stands table of (MadePublisher h) at (λ e. let clash : MadePublisher h ≡ Nothing = e in cc))
      (free m s shown) (ap (λ (t : State T U). is_single_valued t.config) shown.state ∙ single)
      it.user_header it.default it.granted
      (written_any (loan_memory s h.id) value it.user_header s h.id it.granted None it.grants) it.loan it.out outcome
      blocked sent.1 it.sends
      (subst (λ (k : Messages T U). Shows new k sent.1) it.messages sent.2)

  pub copy_denied : (h : PublisherHandle) (value : T) (error : SendError)
      → slice_index_or table of Nothing ≡ MadePublisher h
      → ((m : Messages T U) (s : State T U) → Shows old m s → IsUnblockedPort s h.id)
      → is_single_valued old.config ≡ true
      → ((m : Messages T U) (s : State T U) → Shows old m s → (m' : Messages T U) × (s' : State T U) × Shows new m' s'
      × ((IsOfHandler error × SendsLentValue environment defaults.IsDefaultHeader m s h.id value (Err error) m' s')
      ⊎ LendsNothing m s h.id error m' s'))
      → Carries fixed_handlers defaults old new table (SendCopy of value) (SendRefused error) table Nothing
  copy_denied h value error at free single sends =
      λ m s handles events shown w default_value default_header is_value is_header.
      let came = sends m s shown in
      let stand = entry-stands table of (MadePublisher h) at (λ e. let clash : MadePublisher h ≡ Nothing = e in cc) in
      let alone = ap (λ (t : State T U). is_single_valued t.config) shown.state ∙ single in
      elim came.3 [
        | inl failed ↦
            let it = failed.1 in
            let granted = written_any (loan_memory s h.id) value it.user_header s h.id it.granted None it.grants in
            elim failed.0 [
              | inl undelivered ↦
                  subst (λ (e : SendError). Comes fixed_handlers defaults (Shows new) m s handles events
                  (SendCopy of value) (SendRefused e) (map entry_for table ++ No_entry ∷ [])) (sym undelivered)
                  (copied-failing environment defaults new table of h value m s handles events w default_value
                  default_header is_value is_header stand (free m s shown) alone
                  it.user_header it.default it.granted granted it.loan it.out came.1
                  (subst (λ (e : SendError). Sends environment it.granted s.next_message it.loan (Err e) came.1)
                  undelivered it.sends)
                  (subst (λ (k : Messages T U). Shows new k came.1)
                  (it.messages ∙ ap
                  (λ (e : SendError). messages_after_send m s.next_message it.loan (Err e)) undelivered) came.2))
              | inr unconnected ↦
                  subst (λ (e : SendError). Comes fixed_handlers defaults (Shows new) m s handles events
                  (SendCopy of value) (SendRefused e) (map entry_for table ++ No_entry ∷ [])) (sym unconnected.1)
                  (copied-unconnected environment defaults new table of h value m s handles events w default_value
                  default_header is_value is_header stand (free m s shown) alone
                  it.user_header it.default it.granted granted it.loan it.out unconnected.0 came.1
                  (subst (λ (e : SendError). Sends environment it.granted s.next_message it.loan (Err e) came.1)
                  unconnected.1 it.sends)
                  (subst (λ (k : Messages T U). Shows new k came.1)
                  (it.messages ∙ ap
                  (λ (e : SendError). messages_after_send m s.next_message it.loan (Err e)) unconnected.1) came.2))
            ]
        | inr it ↦
            subst (λ (e : SendError). Comes fixed_handlers defaults (Shows new) m s handles events (SendCopy of value)
            (SendRefused e) (map entry_for table ++ No_entry ∷ [])) (sym it.is)
            (copy_refused_comes fixed_handlers defaults (Shows new) m s handles events
            (map entry_for table) w default_value default_header is_value is_header of h.service_id h.id value
            (entry-stands table of (MadePublisher h) at (λ e. let clash : MadePublisher h ≡ Nothing = e in cc))
            (free m s shown) (ap (λ (t : State T U). is_single_valued t.config) shown.state ∙ single)
            came.1 it.reason (written_any (loan_memory s h.id) value default_header s h.id came.1 (Some it.reason)
            (it.refused value default_header))
            (subst (λ (k : Messages T U). Shows new k came.1) it.messages came.2))
      ]

  -- whichever it is
  pub copy_came : (h : PublisherHandle) (value : T) (result : Result SendOutcome SendError)
      → slice_index_or table of Nothing ≡ MadePublisher h
      → ((m : Messages T U) (s : State T U) → Shows old m s → IsUnblockedPort s h.id)
      → is_single_valued old.config ≡ true
      → ((m : Messages T U) (s : State T U) → Shows old m s → (m' : Messages T U) × (s' : State T U) × Shows new m' s'
      × SendsValue environment defaults.IsDefaultHeader m s h.id value result m' s')
      → IfOk result (λ outcome. IfBlocked outcome
      (λ blocked. IsBlockedSend new blocked × (lender_key (blocked_key blocked) ≡ publisher_key h)))
      → Carries fixed_handlers defaults old new table (SendCopy of value) (reply_to_send result) table
      (made_by_send result)
  copy_came h value (Ok outcome) at free single sends blocked =
      copy_carried h value outcome at free single sends blocked
  copy_came h value (Err error) at free single sends blocked = copy_denied h value error at free single sends
