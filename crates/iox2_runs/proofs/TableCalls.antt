-- What each command comes to, with what the run keeps.
use Rattle.std.proofs.Common.{◌≡◌, ℕ, zero, suc, ◌≤◌, ◌<◌, cond, List, [], ◌∷◌, ◌++◌, length, refl, sym, ap, subst, ◌∙◌}
use Rattle.std.proofs.Common.{Option, None, Some, arith}
use Rattle.std.specs.Prelude.{slice_get, slice_set, MatchOption}
use Rattle.std.specs.Option.{option_and_then}
use Rattle.std.proofs.lemmas.Bool.{ne_eqb}
use Rattle.std.proofs.lemmas.Option.{none-some, same_Some}
use Rattle.iox2_machine.specs.machine.Numbers.{put_at}
use Rattle.iox2_machine.specs.machine.Records.{Loan, Environment}
use Rattle.iox2_machine.specs.machine.State.{State, Messages, with_loan, is_blocked}
use Rattle.iox2_machine.specs.machine.Loans.{written, entry_of}
use Rattle.iox2_machine.specs.machine.Mailbox.{is_borrowed}
use Rattle.iox2_machine.specs.machine.Sends.{Send, SendResult, SendToConnection}
use Rattle.iox2_laws.proofs.LoanKeeping.{send_loans}
use Rattle.iox2_laws.proofs.SendLaws.{send_advances}
use Rattle.iox2_laws.proofs.Puts.{put_at-same, put_at-other}
use Rattle.iox2_commands.specs.Outcomes.{Handle, No_handle, Loan_handle, Blocked_handle, Sample_handle, Event, No_event}
use Rattle.iox2_commands.specs.Outcomes.{messages_after, replied, done, skipped}
use Rattle.iox2_commands.specs.Runs.{Defaults}
use Rattle.iox2_commands.specs.Step.{Step, after_send}
use Rattle.iox2_runs.specs.Tables.{port_of, TableEntry, No_entry, Unwritten_entry, Written_entry, IsSpent}
use Rattle.iox2_runs.specs.Tables.{IsUnblockedPort, IsEntryOf, IsTable}
use Rattle.iox2_runs.specs.RunSteps.{Comes}
use Rattle.iox2_commands.specs.declared.command.Command.{Command}
use Rattle.iox2_commands.specs.declared.command.Command.TheVariants.{Nothing, WriteAll, Send as SendLoan}
use Rattle.iox2_commands.specs.declared.command.Command.TheVariants.{SendToConnection as SendLoanTo}
use Rattle.iox2_commands.specs.declared.reply.Reply.{Reply}
use Rattle.iox2_commands.specs.declared.reply.Reply.TheVariants.{Done, Skipped}
use Rattle.iox2_laws.proofs.SamplesStay.{same_borrowed}
use Rattle.iox2_laws.proofs.PortsCome.{PortsCome, ports_come_themselves, loan_set_comes}
use Rattle.iox2_laws.proofs.PortsStay.{PortsStay, ports_stay_themselves, loan_set_stays}
use Rattle.iox2_laws.proofs.Waits.{Waits, waits_itself, loan_set_waits}
use Rattle.iox2_runs.proofs.TablePassed.{Passed, passed_keeps, send_passes, connection_passes}
use Rattle.iox2_runs.proofs.TableSteps.{Nobody, ports-keep, later_same, later_but, no_next, table_next, all_still}
use Rattle.iox2_runs.proofs.TableSteps.{others_still, others_kept}
use Rattle.iox2_runs.proofs.TableLooks.{Lacks, is_unwritten_entry, is_written_entry, lacks_unwritten, lacks_written}
use Rattle.iox2_runs.proofs.TableLooks.{handle_of, has_unwritten, sendable, unsendable}
use Rattle.iox2_machine.specs.machine.Limits.{channel_count}
use Rattle.iox2_laws.specs.Laws.{Advances}
use Rattle.iox2_laws.proofs.ConnectionSends.{send_to_connection_advances}
use Rattle.iox2_laws.proofs.ConnectionSendsLeave.{send_to_connection_loans}
use Rattle.iox2_runs.proofs.ChannelStates.{with_channel, without_channel, none_with_channel}

-- a fact by cases, in one of the two
pub at_none : {A : Type 0} (o : Option A) (P : Type 0) (Q : A → Type 0) → o ≡ None → P → MatchOption o P Q
at_none o P Q e h = subst (λ v. MatchOption v P Q) (sym e) h

pub at_some : {A : Type 0} (o : Option A) (P : Type 0) (Q : A → Type 0) (a : A) → o ≡ Some a → Q a → MatchOption o P Q
at_some o P Q a e h = subst (λ v. MatchOption v P Q) (sym e) h

pub set_length : {A : Type 0} (xs : List A) (i : ℕ) (x : A) → length (slice_set xs i x) ≡ length xs
set_length [] i x = refl
set_length (y ∷ xs) zero x = refl
set_length (y ∷ xs) (suc i) x = ap suc (set_length xs i x)

-- What comes of a loan that was sent so.
abbrev pub WhatComes : {T U : Type 0} → Environment → Defaults T U → (Shown : Messages T U → State T U → Type 0)
    → Messages T U → State T U → List Handle → List (Event T U) → List TableEntry
    → Command T U → (of p n : ℕ) → Loan T U → State T U → SendResult → Type 0
WhatComes {T} {U} environment defaults Shown m s handles events table command of p n l s' result =
    (reply : Reply T U) (handle : Handle) (event : Event T U) (entry : TableEntry)
    → record { reply = reply; handle = handle; event = event; state = s' } ≡ after_send s' l.publisher n
    (entry_of l) result → port_of handle ≡ None
    → ((k : ℕ) → handle ≡ Loan_handle k → ⊥) → ((p' q k : ℕ) → handle ≡ Sample_handle p' q k → ⊥)
    → ((p' k : ℕ) → handle ≡ Blocked_handle p' k → (p' ≡ p) × (k ≡ n))
    → Shown (messages_after event m) s' → IsEntryOf s' handle entry
    → Comes environment defaults Shown m s handles events command reply (slice_set table of No_entry ++ entry ∷ [])

module _ {T U : Type 0} (environment : Environment) (defaults : Defaults T U)
    (Shown : Messages T U → State T U → Type 0) (m : Messages T U) (s : State T U) (handles : List Handle)
    (events : List (Event T U)) (table : List TableEntry) (w : IsTable s handles events table) (default_value : T)
    (default_header : U)
    (is_default_value : defaults.IsDefaultValue default_value)
    (is_default_header : defaults.IsDefaultHeader default_header) where
  -- a command that makes nothing and after which all is kept that was
  pub quiet_comes : (command : Command T U) (reply : Reply T U) (s' : State T U)
      → Step environment default_value default_header m s handles command (replied reply s')
      → Shown m s' → PortsStay s s' → PortsCome s s' → Waits Nobody s s'
      → ((n : ℕ) → n < s.next_message → s'.loans n ≡ s.loans n) → s.next_message ≤ s'.next_message
      → Comes environment defaults Shown m s handles events command reply (table ++ No_entry ∷ [])
  quiet_comes command reply s' step shown stay come waits loans rises = record {
    default_value = default_value;
    default_header = default_header;
    is_default_value = is_default_value;
    is_default_header = is_default_header;
    outcome = replied reply s';
    step = step;
    replied = refl;
    shown = shown;
    follows = λ once. table_next s s' handles events table w No_handle No_event No_entry table
        (later_same s s' come.next_port rises loans) refl
        (all_still s s' handles events table w stay.remain come waits loans
        (λ i p q n _. same_borrowed s s' stay p q n))
        tt (no_next s s' _) once;
  }

  -- a command that is skipped
  pub skip_comes : (command : Command T U)
      → Step environment default_value default_header m s handles command (skipped s) → Shown m s
      → Comes environment defaults Shown m s handles events command Skipped (table ++ No_entry ∷ [])
  skip_comes command step shown = quiet_comes command Skipped s step shown (ports_stay_themselves s)
      (ports_come_themselves s) (waits_itself Nobody s) (λ n low. refl) (omega arith)

  pub nothing_comes : Shown m s
      → Comes environment defaults Shown m s handles events Nothing Done (table ++ No_entry ∷ [])
  nothing_comes shown = quiet_comes Nothing Done s refl shown (ports_stay_themselves s) (ports_come_themselves s)
      (waits_itself Nobody s) (λ n low. refl) (omega arith)

  -- ---- a loan is written

  pub write_skipped : (of : ℕ) (value : T) → Lacks is_unwritten_entry table of → Shown m s
      → Comes environment defaults Shown m s handles events (WriteAll of value) Skipped (table ++ No_entry ∷ [])
  write_skipped of value absent shown =
      skip_comes (WriteAll of value) (at_none _ _ _ (lacks_unwritten s handles events table w of absent) refl) shown

  pub write_comes : (of service p n : ℕ) (value : T) → slice_get table of ≡ Some (Unwritten_entry service p n)
      → ((l : Loan T U) → s.loans n ≡ Some l → Shown m (with_loan s n (Some (written l value))))
      → Comes environment defaults Shown m s handles events (WriteAll of value) Done
      (slice_set table of (Written_entry service p n) ++ No_entry ∷ [])
  write_comes of service p n value at shown =
      let found = has_unwritten s handles events table w of service p n at in
      let named = handle_of s handles events table w of (Unwritten_entry service p n) at in
      let l : Loan T U = found.0 in
      let s' : State T U = with_loan s n (Some (written l value)) in
      let stay : PortsStay s s' = loan_set_stays s n (Some (written l value)) in record {
        default_value = default_value;
        default_header = default_header;
        is_default_value = is_default_value;
        is_default_header = is_default_header;
        outcome = done s';
        step = at_some _ _ _ (n, l) found.1 refl;
        replied = refl;
        shown = shown l found.3;
        follows = λ once. table_next s s' handles events table w No_handle No_event No_entry
            (slice_set table of (Written_entry service p n))
            (later_but s s' n l found.3 (omega arith) (omega arith)
            (λ k low other. put_at-other s.loans n (Some (written l value)) k (ne_eqb k n other)))
            (set_length table of (Written_entry service p n))
            (others_still s s' handles events table w of named.0 (Written_entry service p n)
            (ports-keep named.0 No_handle s s' stay.remain (loan_set_comes s n (Some (written l value)))
            (loan_set_waits Nobody s n (Some (written l value)))) named.1 (
              (named.2).0,
              (named.2).1,
              ((written l value, put_at-same s.loans n (Some (written l value)), found.4, refl), ((named.2).2).1),
              (named.2).3,
            )
            (λ k low other. put_at-other s.loans n (Some (written l value)) k
            (ne_eqb k n (λ e. other ((named.2).1 ∙ ap Loan_handle (sym e)))))
            (λ i p q n _ _. refl))
            tt (no_next s s' _) once;
      }

  -- ---- a loan is sent

  pub send_skipped : (of : ℕ) → Lacks is_written_entry table of → Shown m s
      → Comes environment defaults Shown m s handles events (SendLoan of) Skipped (table ++ No_entry ∷ [])
  send_skipped of absent shown =
      skip_comes (SendLoan of)
      (at_none _ _ _
      (ap (λ (o : Option (ℕ × Loan T U)). option_and_then
      (λ named. cond (is_blocked s named.1.publisher) None (Some named)) o)
      (lacks_written s handles events table w of absent)) refl)
      shown

  -- its publisher waits for a receiver
  pub send_waiting : (of service p n : ℕ) → slice_get table of ≡ Some (Written_entry service p n)
      → (IsUnblockedPort s p → ⊥) → Shown m s
      → Comes environment defaults Shown m s handles events (SendLoan of) Skipped (table ++ No_entry ∷ [])
  send_waiting of service p n at waits shown =
      skip_comes (SendLoan of) (at_none _ _ _ (unsendable s handles events table w of service p n at waits) refl) shown

  -- a written loan leaves its user's hands, and this comes of it
  pub spent_comes : (command : Command T U) (of service p n : ℕ) → slice_get table of ≡ Some (Written_entry service p n)
      → (l : Loan T U) → s.loans n ≡ Some l → (s' : State T U) → Passed p n s s' → s'.loans ≡ put_at s.loans n None
      → Advances s s'
      → (reply : Reply T U) (handle : Handle) (event : Event T U) (entry : TableEntry)
      → Step environment default_value default_header m s handles command
      (record { reply = reply; handle = handle; event = event; state = s' }) → port_of handle ≡ None
      → ((k : ℕ) → handle ≡ Loan_handle k → ⊥) → ((p' q k : ℕ) → handle ≡ Sample_handle p' q k → ⊥)
      → ((p' k : ℕ) → handle ≡ Blocked_handle p' k → (p' ≡ p) × (k ≡ n))
      → Shown (messages_after event m) s' → IsEntryOf s' handle entry
      → Comes environment defaults Shown m s handles events command reply (slice_set table of No_entry ++ entry ∷ [])
  spent_comes command of service p n at l here s' passed loans rises reply handle event entry step no_port no_loan
      no_sample its shown new =
      let named = handle_of s handles events table w of (Written_entry service p n) at in
      let known : p < s.next_port = ((named.2).2).1 in
      let low : n < s.next_message = w.loans_below of n (named.1 ∙ ap Some (named.2).1) in
      let lost : s'.loans n ≡ None = ap (λ (f : ℕ → Option (Loan T U)). f n) loans ∙ put_at-same s.loans n None in
      let others : (k : ℕ) → k < s.next_message → (k ≡ n → ⊥) → s'.loans k ≡ s.loans k =
      λ k _ other. ap (λ (f : ℕ → Option (Loan T U)). f k) loans ∙ put_at-other s.loans n None k (ne_eqb k n other) in
      let apart : (k : ℕ) → k ≡ n → s.loans k ≡ None → ⊥ =
      λ k same_n none. none-some l (sym (ap s.loans (sym same_n) ∙ none) ∙ here) in record {
        default_value = default_value;
        default_header = default_header;
        is_default_value = is_default_value;
        is_default_header = is_default_header;
        outcome = record { reply = reply; handle = handle; event = event; state = s' };
        step = step;
        replied = refl;
        shown = shown;
        follows = λ once. table_next s s' handles events table w handle event entry (slice_set table of No_entry)
            (later_but s s' n l here rises.next_port rises.next_message others) (set_length table of No_entry)
            (others_kept s s' handles events table w of named.0 (Blocked_handle p n) No_entry
            (passed_keeps named.0 p n s s' passed)
            (λ i q k at_i _ e. let clash : k ≡ n = cc in apart k clash (w.blocked_sent i q k at_i).2)
            named.1
            (subst (IsSpent s') (sym (named.2).1) lost)
            (λ k low_k other. others k low_k (λ e. other ((named.2).1 ∙ ap Loan_handle (sym e))))
            (λ i i' q k _ _. ap (λ (ns : List ℕ). is_borrowed k (record { waiting = []; borrowed = ns; others = [] }))
            ((passed.remain).borrowed i' q)))
            new (record {
              port = λ i e. absurd (none-some i (sym no_port ∙ e));
              loan = λ k e. absurd (no_loan k e);
              sample = λ i q k e. absurd (no_sample i q k e);
              blocked = λ i k e.
                  let it = its i k e in (
                    (let up = rises.next_port in omega (arith, known, up, it.0)),
                    (let up = rises.next_message in omega (arith, low, up, it.1)),
                    ap s'.loans it.1 ∙ lost,
                    λ _ none. apart k it.1 none,
                  );
            }) once;
      }

  -- it is sent, and this comes of it
  pub send_comes : (of service p n : ℕ) → slice_get table of ≡ Some (Written_entry service p n) → IsUnblockedPort s p
      → (l : Loan T U) → s.loans n ≡ Some l → (s' : State T U) (result : SendResult) → Send environment s n l s' result
      → WhatComes environment defaults Shown m s handles events table (SendLoan of) of p n l s' result
  send_comes of service p n at free l here s' result sends reply handle event entry is no_port no_loan no_sample its
      shown new =
      let found = sendable s handles events table w of service p n at free in
      let named = handle_of s handles events table w of (Written_entry service p n) at in
      let same : found.0 ≡ l = same_Some found.0 l (sym found.2 ∙ here) in
      let lender : l.publisher ≡ p = ap (λ (k : Loan T U). k.publisher) (sym same) ∙ found.3 in
      let known : p < s.next_port = ((named.2).2).1 in
      spent_comes (SendLoan of) of service p n at l here s'
      (subst (λ (i : ℕ). Passed i n s s') lender
      (send_passes environment s n l s' result (subst (λ (i : ℕ). i < s.next_port) (sym lender) known)
      (subst (IsUnblockedPort s) (sym lender) free) sends))
      (send_loans environment s n l s' result sends)
      (send_advances environment s n l s' result sends) reply handle event entry
      (at_some _ _ _ (n, l) (found.1 ∙ ap (λ (l : Loan T U). Some (n, l)) same) (s', result, sends, is)) no_port no_loan
      no_sample its shown new

  -- ---- a loan is sent to one connection

  -- it isn't, where connections lack that channel
  pub connection_without : (of channel place : ℕ) → (channel < channel_count s.config → ⊥) → Shown m s
      → Comes environment defaults Shown m s handles events (SendLoanTo of channel place) Skipped
      (table ++ No_entry ∷ [])
  connection_without of channel place missing shown =
      skip_comes (SendLoanTo of channel place) (at_none _ _ _ (without_channel s channel _ missing) refl) shown

  pub connection_skipped : (of channel place : ℕ) → Lacks is_written_entry table of → Shown m s
      → Comes environment defaults Shown m s handles events (SendLoanTo of channel place) Skipped
      (table ++ No_entry ∷ [])
  connection_skipped of channel place absent shown =
      skip_comes (SendLoanTo of channel place)
      (at_none _ _ _ (none_with_channel s channel _
      (ap (λ (o : Option (ℕ × Loan T U)). option_and_then
      (λ named. cond (is_blocked s named.1.publisher) None (Some named)) o)
      (lacks_written s handles events table w of absent))) refl)
      shown

  -- its publisher waits for a receiver
  pub connection_waiting : (of channel place service p n : ℕ) → slice_get table of ≡ Some (Written_entry service p n)
      → (IsUnblockedPort s p → ⊥) → Shown m s
      → Comes environment defaults Shown m s handles events (SendLoanTo of channel place) Skipped
      (table ++ No_entry ∷ [])
  connection_waiting of channel place service p n at waits shown =
      skip_comes (SendLoanTo of channel place) (at_none _ _ _
      (none_with_channel s channel _ (unsendable s handles events table w of service p n at waits)) refl) shown

  -- it is sent, and this comes of it
  pub connection_comes : (of channel place service p n : ℕ) → channel < channel_count s.config
      → slice_get table of ≡ Some (Written_entry service p n) → IsUnblockedPort s p
      → (l : Loan T U) → s.loans n ≡ Some l → (s' : State T U) (result : SendResult)
      → SendToConnection environment s n l channel place s' result
      → WhatComes environment defaults Shown m s handles events table (SendLoanTo of channel place) of p n l s' result
  connection_comes of channel place service p n there at free l here s' result sends reply handle event entry is no_port
      no_loan no_sample its shown new =
      let found = sendable s handles events table w of service p n at free in
      let named = handle_of s handles events table w of (Written_entry service p n) at in
      let same : found.0 ≡ l = same_Some found.0 l (sym found.2 ∙ here) in
      let lender : l.publisher ≡ p = ap (λ (k : Loan T U). k.publisher) (sym same) ∙ found.3 in
      let known : p < s.next_port = ((named.2).2).1 in
      spent_comes (SendLoanTo of channel place) of service p n at l here s'
      (subst (λ (i : ℕ). Passed i n s s') lender
      (connection_passes environment s n l channel place s' result
      (subst (λ (i : ℕ). i < s.next_port) (sym lender) known) (subst (IsUnblockedPort s) (sym lender) free) sends))
      (send_to_connection_loans environment s n l channel place s' result sends)
      (send_to_connection_advances environment s n l channel place s' result sends)
      reply handle event entry
      (at_some _ _ _ (n, l) (with_channel s channel _ there ∙ found.1 ∙ ap (λ (l : Loan T U). Some (n, l)) same)
      (s', result, sends, is)) no_port no_loan no_sample its shown new
