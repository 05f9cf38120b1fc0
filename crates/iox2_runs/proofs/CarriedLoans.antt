-- Commands on loans, with what a run holds.
use Rattle.std.proofs.Common.{◌≡◌, ◌⊎◌, inl, inr, ℕ, ◌<◌, true, false, List, [], ◌∷◌, ◌++◌, map, refl, sym, ap, subst}
use Rattle.std.proofs.Common.{◌∙◌, None, Some}
use Rattle.std.specs.Prelude.{IfOk, IfErr, slice_get, slice_set, slice_index_or}
use Rattle.std.specs.declared.result.Result.{Result}
use Rattle.std.specs.declared.result.Result.TheVariants.{Ok, Err}
use Rattle.iox2_machine.specs.SingleValues.{is_single_valued}
use Rattle.iox2_machine.specs.machine.Records.{Loan, Environment}
use Rattle.iox2_machine.specs.machine.State.{State, Messages, with_loan}
use Rattle.iox2_machine.specs.machine.Environments.{fixed_handlers}
use Rattle.iox2_machine.specs.machine.Loans.{GrantLoan, written, entry_of}
use Rattle.iox2_machine.specs.machine.Sends.{Send, SendResult, Delivered_to, Blocked_send, Send_error}
use Rattle.iox2_machine.specs.declared.errors.LoanError.{LoanError}
use Rattle.iox2_machine.specs.declared.errors.SendError.{SendError}
use Rattle.iox2_machine.specs.declared.errors.SendError.TheVariants.{ConnectionBrokenSinceSenderNoLongerExists}
use Rattle.iox2_machine.specs.declared.errors.SendError.TheVariants.{ConnectionError, UnableToDeliver}
use Rattle.iox2_laws.proofs.Waits.{send_waits, Waits}
use Rattle.iox2_domain.specs.Kept.{Kept as Domain}
use Rattle.iox2_machine.specs.declared.key.Key.{Key}
use Rattle.iox2_domain.specs.Lending.{loan_memory}
use Rattle.iox2_domain.specs.Shows.{Shows}
use Rattle.iox2_pubsub.specs.Live.{IsBlockedSend, blocked_key, written_key}
use Rattle.iox2_pubsub.specs.SendCalls.{FailsSend, IfBlocked, IsOfHandler, Sends, messages_after_send, result_of_send}
use Rattle.iox2_pubsub.specs.SendCalls.{FailsDelivery}
use Rattle.iox2_pubsub.specs.declared.publisher.Publisher.{Publisher as PublisherHandle}
use Rattle.iox2_pubsub.specs.declared.send_outcome.SendOutcome.{SendOutcome}
use Rattle.iox2_pubsub.specs.declared.send_outcome.SendOutcome.TheVariants.{Delivered as WasDelivered}
use Rattle.iox2_pubsub.specs.declared.send_outcome.SendOutcome.TheVariants.{Blocked as IsBlocked}
use Rattle.iox2_pubsub.specs.declared.sample_mut_uninit.SampleMutUninit.{SampleMutUninit}
use Rattle.iox2_pubsub.specs.declared.sample_mut.SampleMut.{SampleMut}
use Rattle.iox2_commands.specs.Outcomes.{Handle, No_handle, Loan_handle, Blocked_handle, Sample_handle, Event, No_event}
use Rattle.iox2_commands.specs.Outcomes.{Message_sent}
use Rattle.iox2_commands.specs.Runs.{Defaults}
use Rattle.iox2_runs.specs.Tables.{TableEntry, No_entry, Unwritten_entry, Written_entry, IsUnblockedPort, HasNoBox}
use Rattle.iox2_runs.specs.Tables.{IsTable}
use Rattle.iox2_runs.specs.RunSteps.{Comes}
use Rattle.iox2_runs.specs.Carries.{entry_for, Carries}
use Rattle.iox2_runs.specs.SendReplies.{reply_to_send, made_by_send}
use Rattle.iox2_commands.specs.declared.command.Command.TheVariants.{LoanUninit, WriteAll, Send as SendLoan}
use Rattle.iox2_commands.specs.declared.reply.Reply.TheVariants.{Done, Skipped, Loaned, LoanRefused, Delivered, Blocked}
use Rattle.iox2_commands.specs.declared.reply.Reply.TheVariants.{SendRefused}
use Rattle.iox2_runs.specs.declared.runs.made.Made.{Made}
use Rattle.iox2_runs.specs.declared.runs.made.Made.TheVariants.{Nothing, Publisher as MadePublisher, Unwritten, Written}
use Rattle.iox2_runs.specs.declared.runs.made.Made.TheVariants.{Blocked as MadeBlocked}
use Rattle.iox2_runs.proofs.CarriedBlocked.{blocked_entry}
use Rattle.iox2_runs.proofs.FixedSends.{unboxed_still, sends_fixed}
use Rattle.iox2_runs.proofs.TableLooks.{is_publisher_entry, is_unwritten_entry, is_written_entry, has_written}
use Rattle.iox2_runs.proofs.TableLooks.{handle_of}
use Rattle.iox2_runs.proofs.TableCalls.{write_comes, write_skipped, send_comes, send_waiting, send_skipped, WhatComes}
use Rattle.iox2_runs.proofs.TableMakes.{loan_skipped, loan_waiting, loan_elsewhere, loan_comes, loan_refused_comes}
use Rattle.iox2_runs.proofs.TableMakes.{loan_any}
use Rattle.iox2_runs.proofs.TableEntries.{entries-set, entry-stands, lacks}
use Rattle.iox2_commands.specs.declared.command.Command.{Command}

module _ {T U F G : Type 0} (environment : Environment) (defaults : Defaults T U) (old new : Domain T U F G)
    (table table' : List Made) (of : ℕ) where
  -- a written loan
  pub write_carried : (value : T) (h : SampleMutUninit) (h' : SampleMut) → slice_index_or table of Nothing ≡ Unwritten h
      → ((m : Messages T U) (s : State T U) → Shows old m s → (l : Loan T U) × (s.loans h.loan.number ≡ Some l)
      × Shows new m (with_loan s h.loan.number (Some (written l value))))
      → h'.service_id ≡ h.service_id → h'.loan.publisher ≡ h.loan.publisher → h'.loan.number ≡ h.loan.number
      → table' ≡ slice_set table of (Written h')
      → Carries environment defaults old new table (WriteAll of value) Done table' Nothing
  write_carried value h h' at writes service publisher number is =
      λ m s handles events shown w default_value default_header is_value is_header.
      let wrote = writes m s shown in
      let same : entry_for (Written h') ≡ Written_entry h.service_id h.loan.publisher h.loan.number =
      λ i. Written_entry (service i) (publisher i) (number i) in
      let after : map entry_for table' ≡ slice_set (map entry_for table) of
      (Written_entry h.service_id h.loan.publisher h.loan.number) =
      ap (λ (t : List Made). map entry_for t) is ∙ entries-set table of (Written h')
      ∙ ap (λ (k : TableEntry). slice_set (map entry_for table) of k) same in
      subst (λ (ks : List TableEntry). Comes environment defaults (Shows new) m s handles events
      (WriteAll of value) Done (ks ++ No_entry ∷ [])) (sym after)
      (write_comes environment defaults (Shows new) m s handles events (map entry_for table) w default_value
      default_header is_value is_header of h.service_id h.loan.publisher h.loan.number value
      (entry-stands table of (Unwritten h) at (λ e. let clash : Unwritten h ≡ Nothing = e in cc))
      (λ l there. subst (λ (k : Loan T U). Shows new m (with_loan s h.loan.number (Some (written k value))))
      (same_loan wrote.0 l (sym wrote.1 ∙ there)) wrote.2))
    where
      same_loan : (k l : Loan T U) → Some k ≡ Some l → k ≡ l
      same_loan k l e = cc

  -- there is no such loan
  pub write_passed : (value : T) → is_unwritten_entry (entry_for (slice_index_or table of Nothing)) ≡ false
      → Carries environment defaults old old table (WriteAll of value) Skipped table Nothing
  write_passed value other = λ m s handles events shown w default_value default_header is_value is_header.
      write_skipped environment defaults (Shows old) m s handles events
      (map entry_for table) w default_value default_header is_value is_header of value
      (lacks is_unwritten_entry refl table of other) shown

  -- ---- a loan

  pub loan_passed : is_publisher_entry (entry_for (slice_index_or table of Nothing)) ≡ false
      → Carries environment defaults old old table (LoanUninit of) Skipped table Nothing
  loan_passed other = λ m s handles events shown w default_value default_header is_value is_header.
      loan_skipped environment defaults (Shows old) m s handles events
      (map entry_for table) w default_value default_header is_value is_header of
      (lacks is_publisher_entry refl table of other) shown

  pub loan_of_other : is_single_valued old.config ≡ false
      → Carries environment defaults old old table (LoanUninit of) Skipped table Nothing
  loan_of_other other = λ m s handles events shown w default_value default_header is_value is_header.
      loan_elsewhere environment defaults (Shows old) m s handles events
      (map entry_for table) w default_value default_header is_value is_header of
      (ap (λ (t : State T U). is_single_valued t.config) shown.state ∙ other) shown

  -- the publisher waits for a receiver
  pub loan_held_up : (h : PublisherHandle) → slice_index_or table of Nothing ≡ MadePublisher h
      → ((m : Messages T U) (s : State T U) → Shows old m s → IsUnblockedPort s h.id → ⊥)
      → Carries environment defaults old old table (LoanUninit of) Skipped table Nothing
  loan_held_up h at waits = λ m s handles events shown w default_value default_header is_value is_header.
      loan_waiting environment defaults (Shows old) m s handles events
      (map entry_for table) w default_value default_header is_value is_header of h.service_id h.id
      (entry-stands table of (MadePublisher h) at (λ e. let clash : MadePublisher h ≡ Nothing = e in cc))
      (waits m s shown) shown

  pub loan_carried : (h : PublisherHandle) (h' : SampleMutUninit) → slice_index_or table of Nothing ≡ MadePublisher h
      → ((m : Messages T U) (s : State T U) → Shows old m s → IsUnblockedPort s h.id)
      → is_single_valued old.config ≡ true
      → ((m : Messages T U) (s : State T U) → Shows old m s → (s' : State T U) × Shows new m s'
      × ((header : U) × defaults.IsDefaultHeader header × GrantLoan (loan_memory s h.id) header false 1 s h.id s' None))
      → h'.service_id ≡ (new.config).service_id → h'.loan.publisher ≡ h.id → h'.loan.number ≡ old.next_message
      → Carries fixed_handlers defaults old new table (LoanUninit of) Loaned table (Unwritten h')
  loan_carried h h' at free single lends service publisher number =
      λ m s handles events shown w default_value default_header is_value is_header.
      let lent = lends m s shown in
      let loan = lent.2 in
      let made : Unwritten_entry h'.service_id h.id s.next_message ≡ entry_for (Unwritten h') =
      λ i. Unwritten_entry h'.service_id (sym publisher i)
      ((ap (λ (t : State T U). t.next_message) shown.state ∙ sym number) i) in
      subst (λ (k : TableEntry). Comes fixed_handlers defaults (Shows new) m s handles events (LoanUninit of) Loaned
      (map entry_for table ++ k ∷ [])) made
      (loan_comes fixed_handlers defaults (Shows new) m s handles events
      (map entry_for table) w default_value default_header is_value is_header of h.service_id h.id
      (entry-stands table of (MadePublisher h) at (λ e. let clash : MadePublisher h ≡ Nothing = e in cc))
      (free m s shown)
      (ap (λ (t : State T U). is_single_valued t.config) shown.state ∙ single)
      loan.0 loan.1 lent.0 (loan_any (loan_memory s h.id) loan.0 false 1 s h.id lent.0 None loan.2) lent.1
      h'.service_id (service ∙ sym (ap (λ (t : State T U). (t.config).service_id) (lent.1).state)))

  pub loan_denied : (h : PublisherHandle) (e : LoanError) → slice_index_or table of Nothing ≡ MadePublisher h
      → ((m : Messages T U) (s : State T U) → Shows old m s → IsUnblockedPort s h.id)
      → is_single_valued old.config ≡ true
      → ((m : Messages T U) (s : State T U) → Shows old m s → (s' : State T U) × Shows new m s'
      × ((s' ≡ s) × ((header : U) → GrantLoan (loan_memory s h.id) header false 1 s h.id s' (Some e))))
      → Carries fixed_handlers defaults old new table (LoanUninit of) (LoanRefused e) table Nothing
  loan_denied h e at free single refuses = λ m s handles events shown w default_value default_header is_value is_header.
      let refused = refuses m s shown in
      loan_refused_comes fixed_handlers defaults (Shows new) m s handles events
      (map entry_for table) w default_value default_header is_value is_header of h.service_id h.id
      (entry-stands table of (MadePublisher h) at (λ e. let clash : MadePublisher h ≡ Nothing = e in cc))
      (free m s shown)
      (ap (λ (t : State T U). is_single_valued t.config) shown.state ∙ single)
      default_header is_header refused.0 e (loan_any (loan_memory s h.id) default_header false 1 s h.id refused.0
      (Some e) ((refused.2).1 default_header)) refused.1

  -- ---- a send

  pub send_passed : is_written_entry (entry_for (slice_index_or table of Nothing)) ≡ false
      → Carries environment defaults old old table (SendLoan of) Skipped table Nothing
  send_passed other = λ m s handles events shown w default_value default_header is_value is_header.
      send_skipped environment defaults (Shows old) m s handles events
      (map entry_for table) w default_value default_header is_value is_header of
      (lacks is_written_entry refl table of other) shown

  -- its publisher waits for a receiver
  pub send_held_up : (h : SampleMut) → slice_index_or table of Nothing ≡ Written h
      → ((m : Messages T U) (s : State T U) → Shows old m s → IsUnblockedPort s h.loan.publisher → ⊥)
      → Carries environment defaults old old table (SendLoan of) Skipped table Nothing
  send_held_up h at waits = λ m s handles events shown w default_value default_header is_value is_header.
      send_waiting environment defaults (Shows old) m s handles events (map entry_for table) w default_value
      default_header is_value is_header of h.service_id h.loan.publisher h.loan.number
      (entry-stands table of (Written h) at (λ e. let clash : Written h ≡ Nothing = e in cc)) (waits m s shown) shown

-- ---- what comes of a send

module _ {T U : Type 0} (table : List Made) (of : ℕ) (h : SampleMut) (s : State T U) (handles : List Handle)
    (events : List (Event T U)) (w : IsTable s handles events (map entry_for table))
    (stand : slice_get (map entry_for table) of ≡ Some
    (Written_entry h.service_id h.loan.publisher h.loan.number)) where
  -- its publisher still has no box, where none gets one
  pub lender-unboxed : (p : ℕ) → p ≡ h.loan.publisher → (s' : State T U) → Waits (λ i. i ≡ p) s s'
      → HasNoBox s' h.loan.publisher
  lender-unboxed p lender s' waits =
      let named = handle_of s handles events (map entry_for table) w of
      (Written_entry h.service_id h.loan.publisher h.loan.number) stand in
      unboxed_still (λ i. i ≡ p) s s' waits h.loan.publisher ((named.2).2).1 (named.2).3

-- `Sent` says how the loan was sent, and `comes` what comes of it.
module _ {T U F G : Type 0} (defaults : Defaults T U) (new : Domain T U F G) (table : List Made) (of : ℕ)
    (h : SampleMut) (m : Messages T U) (s : State T U) (handles : List Handle) (events : List (Event T U))
    (l : Loan T U) (lender : l.publisher ≡ h.loan.publisher) (command : Command T U)
    (Sent : State T U → SendResult → Type 0)
    (comes : (s' : State T U) (result : SendResult) → Sent s' result
    → WhatComes fixed_handlers defaults (Shows new) m s handles events
    (map entry_for table) command of h.loan.publisher h.loan.number l s' result)
    (unboxed : (s' : State T U) (result : SendResult) → Sent s' result → HasNoBox s' h.loan.publisher) where
  pub sent-by : (came : Result SendOutcome SendError)
      → IfOk came (λ it. IfBlocked it (λ blocked. IsBlockedSend new blocked × (blocked_key blocked ≡ written_key h)))
      → IfErr came (λ error. (error ≡ ConnectionBrokenSinceSenderNoLongerExists) ⊎ IsOfHandler error) → (s' : State T U)
      → Shows new (messages_after_send m h.loan.number l came) s' → Sent s' (result_of_send came)
      → Comes fixed_handlers defaults (Shows new) m s handles events command (reply_to_send came)
      (slice_set (map entry_for table) of No_entry ++ entry_for (made_by_send came) ∷ [])
  sent-by (Ok (WasDelivered count)) waits broken s' shown sends =
      comes s' (Delivered_to count) sends (Delivered count) No_handle
      (Message_sent l.publisher h.loan.number (entry_of l)) No_entry refl refl
      (λ k e. let clash : No_handle ≡ Loan_handle k = e in absurd cc)
      (λ p q k e. let clash : No_handle ≡ Sample_handle p q k = e in absurd cc)
      (λ p k e. let clash : No_handle ≡ Blocked_handle p k = e in absurd cc) shown tt
  sent-by (Ok (IsBlocked blocked)) waits broken s' shown sends =
      comes s' Blocked_send sends Blocked (Blocked_handle h.loan.publisher h.loan.number)
      (Message_sent l.publisher h.loan.number (entry_of l)) (entry_for (MadeBlocked blocked))
      (ap (λ (p : ℕ). record {
        reply = Blocked;
        handle = Blocked_handle p h.loan.number;
        event = Message_sent l.publisher h.loan.number (entry_of l);
        state = s';
      }) (sym lender)) refl
      (λ k e. let clash : Blocked_handle h.loan.publisher h.loan.number ≡ Loan_handle k = e in absurd cc)
      (λ p q k e. let clash : Blocked_handle h.loan.publisher h.loan.number ≡ Sample_handle p q k = e in absurd cc)
      (λ p k e. let same : Blocked_handle h.loan.publisher h.loan.number ≡ Blocked_handle p k = e in (cc, cc)) shown
      (blocked_entry new _ s' shown blocked waits.0 (written_key h) waits.1 (unboxed s' Blocked_send sends))
  sent-by (Err error) waits (inr (inl failed)) s' shown sends =
      let so : Sent s' (Send_error UnableToDeliver) = subst (λ (e : SendError). Sent s' (Send_error e)) failed sends in
      let there : Shows new (messages_after_send m h.loan.number l (Err UnableToDeliver)) s' =
      subst (λ (e : SendError). Shows new (messages_after_send m h.loan.number l (Err e)) s') failed shown in
      subst (λ (e : SendError). Comes fixed_handlers defaults (Shows new) m s handles events command (SendRefused e)
      (slice_set (map entry_for table) of No_entry ++ No_entry ∷ [])) (sym failed)
      (comes s' (Send_error UnableToDeliver) so (SendRefused UnableToDeliver) No_handle
      (Message_sent l.publisher h.loan.number (entry_of l)) No_entry refl refl
      (λ k e. let clash : No_handle ≡ Loan_handle k = e in absurd cc)
      (λ p q k e. let clash : No_handle ≡ Sample_handle p q k = e in absurd cc)
      (λ p k e. let clash : No_handle ≡ Blocked_handle p k = e in absurd cc) there tt)
  sent-by (Err error) waits (inr (inr unconnected)) s' shown sends =
      let so : Sent s' (Send_error (ConnectionError unconnected.0)) =
      subst (λ (e : SendError). Sent s' (Send_error e)) unconnected.1 sends in
      let there : Shows new m s' =
      subst (λ (e : SendError). Shows new (messages_after_send m h.loan.number l (Err e)) s') unconnected.1 shown in
      subst (λ (e : SendError). Comes fixed_handlers defaults (Shows new) m s handles events command (SendRefused e)
      (slice_set (map entry_for table) of No_entry ++ No_entry ∷ [])) (sym unconnected.1)
      (comes s' (Send_error (ConnectionError unconnected.0)) so
      (SendRefused (ConnectionError unconnected.0)) No_handle No_event No_entry refl refl
      (λ k e. let clash : No_handle ≡ Loan_handle k = e in absurd cc)
      (λ p q k e. let clash : No_handle ≡ Sample_handle p q k = e in absurd cc)
      (λ p k e. let clash : No_handle ≡ Blocked_handle p k = e in absurd cc) there tt)
  sent-by (Err error) waits (inl broken) s' shown sends =
      let so : Sent s' (Send_error ConnectionBrokenSinceSenderNoLongerExists) =
      subst (λ (e : SendError). Sent s' (Send_error e)) broken sends in
      let there : Shows new m s' =
      subst (λ (e : SendError). Shows new (messages_after_send m h.loan.number l (Err e)) s') broken shown in
      subst (λ (e : SendError). Comes fixed_handlers defaults (Shows new) m s handles events command (SendRefused e)
      (slice_set (map entry_for table) of No_entry ++ No_entry ∷ [])) (sym broken)
      (comes s' (Send_error ConnectionBrokenSinceSenderNoLongerExists) so
      (SendRefused ConnectionBrokenSinceSenderNoLongerExists) No_handle No_event No_entry refl refl
      (λ k e. let clash : No_handle ≡ Loan_handle k = e in absurd cc)
      (λ p q k e. let clash : No_handle ≡ Sample_handle p q k = e in absurd cc)
      (λ p k e. let clash : No_handle ≡ Blocked_handle p k = e in absurd cc) there tt)

module _ {T U F G : Type 0} (environment : Environment) (defaults : Defaults T U) (old new : Domain T U F G)
    (table table' : List Made) (of : ℕ) where
  -- the loan is sent: to all receivers, or it waits for one, or its publisher is gone, or a handler failed the send
  pub send_carried : (h : SampleMut) (outcome : Result SendOutcome SendError)
      → slice_index_or table of Nothing ≡ Written h
      → ((m : Messages T U) (s : State T U) → Shows old m s → IsUnblockedPort s h.loan.publisher)
      → ((m : Messages T U) (s : State T U) (l : Loan T U) → Shows old m s → s.loans h.loan.number ≡ Some l
      → (s' : State T U) × Shows new (messages_after_send m h.loan.number l outcome) s'
      × Sends environment s h.loan.number l outcome s')
      → IfOk outcome
      (λ came. IfBlocked came (λ blocked. IsBlockedSend new blocked × (blocked_key blocked ≡ written_key h)))
      → IfErr outcome (λ error. (error ≡ ConnectionBrokenSinceSenderNoLongerExists) ⊎ IsOfHandler error)
      → table' ≡ slice_set table of Nothing
      → Carries fixed_handlers defaults old new table (SendLoan of) (reply_to_send outcome) table'
      (made_by_send outcome)
  send_carried h outcome at free sends blocked gone is =
      λ m s handles events shown w default_value default_header is_value is_header.
      let stand = entry-stands table of (Written h) at (λ e. let clash : Written h ≡ Nothing = e in cc) in
      let named =
      has_written s handles events (map entry_for table) w of h.service_id h.loan.publisher h.loan.number stand in
      let sent = sends m s named.0 shown named.3 in
      let its = handle_of s handles events (map entry_for table) w of (entry_for (Written h)) stand in
      let low : (named.0).publisher < s.next_port = subst (λ (p : ℕ). p < s.next_port) (sym named.4) ((its.2).2).1 in
      let unboxed : HasNoBox s (named.0).publisher = subst (HasNoBox s) (sym named.4) (its.2).3 in
      let fixed : Sends fixed_handlers s h.loan.number named.0 outcome sent.0 =
      sends_fixed environment s h.loan.number named.0 sent.0 (result_of_send outcome) low unboxed sent.2 in
      let after : map entry_for table' ≡ slice_set (map entry_for table) of No_entry =
      ap (λ (t : List Made). map entry_for t) is ∙ entries-set table of Nothing in
      subst (λ (ks : List TableEntry). Comes fixed_handlers defaults (Shows new) m s handles events (SendLoan of)
      (reply_to_send outcome) (ks ++ entry_for (made_by_send outcome) ∷ [])) (sym after)
      (sent-by defaults new table of h m s handles events named.0 named.4 (SendLoan of)
      (λ s' result. Send fixed_handlers s h.loan.number named.0 s' result)
      (λ s' result. send_comes fixed_handlers defaults (Shows new) m s handles events
      (map entry_for table) w default_value default_header is_value is_header of h.service_id h.loan.publisher
      h.loan.number stand (free m s shown)
      named.0 named.3 s' result)
      (λ s' result sends. lender-unboxed table of h s handles events w stand (named.0).publisher named.4 s'
      (send_waits (λ i. i ≡ (named.0).publisher) fixed_handlers s h.loan.number named.0 refl s' result sends))
      outcome blocked gone sent.0 sent.1 fixed)

-- why a delivery to one connection fails, without what is so then
pub either-delivery-failure : {T U F G : Type 0} (domain : Domain T U F G) (key : Key)
    (outcome : Result SendOutcome SendError) → IfErr outcome (FailsDelivery domain key)
    → IfErr outcome (λ error. (error ≡ ConnectionBrokenSinceSenderNoLongerExists) ⊎ IsOfHandler error)
unfolding FailsDelivery
either-delivery-failure domain key (Ok came) fails = tt
either-delivery-failure domain key (Err error) fails =
    elim fails [ inl lost ↦ inl lost.0 | inr failed ↦ inr (inl failed.0) ]

-- why a send fails, without what is so then
pub either-failure : {T U F G : Type 0} (domain : Domain T U F G) (key : Key) (outcome : Result SendOutcome SendError)
    → IfErr outcome (FailsSend domain key)
    → IfErr outcome (λ error. (error ≡ ConnectionBrokenSinceSenderNoLongerExists) ⊎ IsOfHandler error)
unfolding FailsSend
either-failure domain key (Ok came) fails = tt
either-failure domain key (Err error) fails = elim fails [ inl lost ↦ inl lost.0 | inr failed ↦ inr failed.0 ]
