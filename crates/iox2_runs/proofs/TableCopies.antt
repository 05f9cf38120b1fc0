-- Loans that are written at once, with what the run keeps.
use Rattle.std.proofs.Common.{◌≡◌, ℕ, ◌+◌, ◌≤◌, ◌<◌, true, false, List, [], ◌∷◌, ◌++◌, refl, sym, ap, subst, ◌∙◌}
use Rattle.std.proofs.Common.{Option, None, Some, arith}
use Rattle.std.specs.Prelude.{MatchOption, slice_get}
use Rattle.std.proofs.lemmas.Option.{none-some, same_Some}
use Rattle.std.proofs.lemmas.Bool.{ne_eqb}
use Rattle.iox2_machine.specs.machine.Environments.{fixed_handlers}
use Rattle.iox2_machine.specs.machine.Loans.{written, entry_of}
use Rattle.iox2_machine.specs.machine.Numbers.{put_at}
use Rattle.iox2_machine.specs.machine.Records.{Loan, Environment}
use Rattle.iox2_machine.specs.machine.Mailbox.{is_borrowed}
use Rattle.iox2_machine.specs.machine.Sends.{Send, SendResult}
use Rattle.iox2_machine.specs.machine.SingleCalls.{GrantWrittenLoan}
use Rattle.iox2_machine.specs.machine.State.{State, Messages, with_loan}
use Rattle.iox2_machine.specs.declared.errors.LoanError.{LoanError}
use Rattle.iox2_machine.specs.declared.errors.SendError.TheVariants.{LoanError as NotLoaned}
use Rattle.iox2_machine.specs.SingleValues.{is_single_valued}
use Rattle.iox2_laws.proofs.LoanKeeping.{send_loans}
use Rattle.iox2_laws.proofs.NextLoan.{IsNextLoan, loan_next, loan_refused}
use Rattle.iox2_laws.proofs.PortsCome.{PortsCome, ports_come_themselves, ports_come_trans, grant_loan_comes}
use Rattle.iox2_laws.proofs.PortsCome.{loan_set_comes}
use Rattle.iox2_laws.proofs.PortsStay.{PortsStay, ports_stay_themselves, ports_stay_trans, grant_loan_stays}
use Rattle.iox2_laws.proofs.PortsStay.{loan_set_stays}
use Rattle.iox2_laws.proofs.Puts.{put_at-same, put_at-other}
use Rattle.iox2_laws.proofs.SamplesStay.{same_borrowed}
use Rattle.iox2_laws.proofs.SendLaws.{send_advances}
use Rattle.iox2_laws.proofs.Waits.{Waits, waits_itself, waits_trans, grant_loan_waits, loan_set_waits}
use Rattle.iox2_commands.specs.Outcomes.{Handle, No_handle, Loan_handle, Blocked_handle, Sample_handle, Event, No_event}
use Rattle.iox2_commands.specs.Outcomes.{messages_after, outcome}
use Rattle.iox2_commands.specs.Runs.{Defaults}
use Rattle.iox2_commands.specs.Step.{if_single_units, if_fixed_size, unblocked_at, after_send}
use Rattle.iox2_commands.specs.declared.command.Command.TheVariants.{Loan as LoanDefault, SendCopy}
use Rattle.iox2_commands.specs.declared.reply.Reply.{Reply}
use Rattle.iox2_commands.specs.declared.reply.Reply.TheVariants.{Skipped, Loaned, LoanRefused, SendRefused}
use Rattle.iox2_runs.specs.Tables.{port_of, TableEntry, No_entry, Publisher_entry, Written_entry, IsUnblockedPort}
use Rattle.iox2_runs.specs.Tables.{IsEntryOf, IsTable}
use Rattle.iox2_runs.specs.RunSteps.{Comes}
use Rattle.iox2_runs.proofs.FixedSends.{unboxed_still}
use Rattle.iox2_runs.proofs.TableCalls.{quiet_comes, skip_comes, at_none, at_some}
use Rattle.iox2_runs.proofs.TableLooks.{Lacks, is_publisher_entry, lacks_publisher, has_free_publisher}
use Rattle.iox2_runs.proofs.TableLooks.{waiting_publisher, handle_of, publisher_unboxed}
use Rattle.iox2_runs.proofs.Services.{single_named, single_elsewhere, single_nothing}
use Rattle.iox2_runs.proofs.TableMakes.{loan_any}
use Rattle.iox2_runs.proofs.TablePassed.{Passed, passed_keeps, send_passes}
use Rattle.iox2_runs.proofs.TableSteps.{Nobody, PortsKeep, ports-keep, keep-trans, later_same, next_loan, table_next}
use Rattle.iox2_runs.proofs.TableSteps.{all_still, all_kept}

-- ---- a loan that is granted and written

module _ {T U : Type 0} (environment : Environment) (s : State T U) (p : ℕ) (value : T) (header : U) (s' : State T U)
    (h : GrantWrittenLoan environment value header false 1 s p s' None) where
  abbrev next : IsNextLoan environment s p h.0
  next = loan_next environment s header false 1 p h.0 h.1

  abbrev pub copied : Loan T U
  copied = written next.loan value

  pub copied-is : s' ≡ with_loan h.0 s.next_message (Some copied)
  copied-is = subst (λ (o : Option (Loan T U)).
      MatchOption o ⊥ (λ l. s' ≡ with_loan h.0 s.next_message (Some (written l value)))) next.there h.2

  pub copied-there : s'.loans s.next_message ≡ Some copied
  copied-there =
      ap (λ (t : State T U). t.loans s.next_message) copied-is ∙ put_at-same (h.0).loans s.next_message (Some copied)

  pub copied-others : (n : ℕ) → n < s.next_message → s'.loans n ≡ s.loans n
  copied-others n low =
      ap (λ (t : State T U). t.loans n) copied-is
      ∙ put_at-other (h.0).loans s.next_message (Some copied) n
      (ne_eqb n s.next_message (λ e. absurd (omega (arith, low, e))))
      ∙ next.others n low

  pub copied-rises : s'.next_message ≡ s.next_message + 1
  copied-rises = ap (λ (t : State T U). t.next_message) copied-is ∙ next.next

  pub copied-publisher : copied.publisher ≡ p
  copied-publisher = next.publisher

  pub copied-stay : PortsStay s s'
  copied-stay =
      subst (PortsStay s) (sym copied-is)
      (ports_stay_trans s h.0 (with_loan h.0 s.next_message (Some copied))
      (grant_loan_stays environment header false 1 s p h.0 None h.1) (loan_set_stays h.0 s.next_message (Some copied)))

  pub copied-come : PortsCome s s'
  copied-come =
      subst (PortsCome s) (sym copied-is)
      (ports_come_trans s h.0 (with_loan h.0 s.next_message (Some copied))
      (grant_loan_comes environment header false 1 s p h.0 None h.1) (loan_set_comes h.0 s.next_message (Some copied)))

  pub copied-waits : Waits Nobody s s'
  copied-waits =
      subst (Waits Nobody s) (sym copied-is)
      (waits_trans Nobody s h.0 (with_loan h.0 s.next_message (Some copied))
      (grant_loan_waits Nobody environment header false 1 s p h.0 None h.1)
      (loan_set_waits Nobody h.0 s.next_message (Some copied)))

-- one that is refused changes nothing
pub copied-refused : {T U : Type 0} (environment : Environment) (s : State T U) (p : ℕ) (value : T) (header : U)
    (s' : State T U) (e : LoanError)
    → GrantWrittenLoan environment value header false 1 s p s' (Some e) → s' ≡ s
copied-refused environment s p value header s' e h = h.2 ∙ loan_refused environment s header false 1 p h.0 e h.1

-- a loan that is granted or refused is so where memory may be refused
pub written_any : {T U : Type 0} (given : Environment) (value : T) (header : U) (s : State T U) (p : ℕ) (s' : State T U)
    (refusal : Option LoanError)
    → GrantWrittenLoan given value header false 1 s p s' refusal
    → GrantWrittenLoan fixed_handlers value header false 1 s p s' refusal
written_any given value header s p s' refusal h = (h.0, loan_any given header false 1 s p h.0 refusal h.1, h.2)

module _ {T U : Type 0} (environment : Environment) (defaults : Defaults T U)
    (Shown : Messages T U → State T U → Type 0) (m : Messages T U) (s : State T U) (handles : List Handle)
    (events : List (Event T U)) (table : List TableEntry) (w : IsTable s handles events table) (default_value : T)
    (default_header : U)
    (is_default_value : defaults.IsDefaultValue default_value)
    (is_default_header : defaults.IsDefaultHeader default_header) where
  nothing_named : (of : ℕ) → Lacks is_publisher_entry table of
      → if_single_units s (if_fixed_size s (unblocked_at s handles of)) ≡ None
  nothing_named of absent =
      single_nothing s (unblocked_at s handles of) (lacks_publisher s handles events table w of absent)

  elsewhere : (of : ℕ) → is_single_valued s.config ≡ false
      → if_single_units s (if_fixed_size s (unblocked_at s handles of)) ≡ None
  elsewhere of other = single_elsewhere s (unblocked_at s handles of) other

  known : (of service p : ℕ) → slice_get table of ≡ Some (Publisher_entry service p) → p < s.next_port
  known of service p at =
      let named = handle_of s handles events table w of (Publisher_entry service p) at in
      w.ports_below of p named.0 named.1 (ap port_of (named.2).1)

  -- ---- a default value

  pub default_skipped : (of : ℕ) → Lacks is_publisher_entry table of → Shown m s
      → Comes environment defaults Shown m s handles events (LoanDefault of) Skipped (table ++ No_entry ∷ [])
  default_skipped of absent shown = skip_comes environment defaults Shown m s handles events table w default_value
      default_header is_default_value is_default_header (LoanDefault of)
      (at_none _ _ _ (nothing_named of absent) refl) shown

  -- the publisher waits for a receiver
  waiting_named : (of service p : ℕ) → slice_get table of ≡ Some (Publisher_entry service p) → (IsUnblockedPort s p → ⊥)
      → if_single_units s (if_fixed_size s (unblocked_at s handles of)) ≡ None
  waiting_named of service p at waits =
      single_nothing s (unblocked_at s handles of) (waiting_publisher s handles events table w of service p at waits)

  pub default_waiting : (of service p : ℕ) → slice_get table of ≡ Some (Publisher_entry service p)
      → (IsUnblockedPort s p → ⊥) → Shown m s
      → Comes environment defaults Shown m s handles events (LoanDefault of) Skipped (table ++ No_entry ∷ [])
  default_waiting of service p at waits shown =
      skip_comes environment defaults Shown m s handles events table w default_value default_header is_default_value
      is_default_header (LoanDefault of)
      (at_none _ _ _ (waiting_named of service p at waits) refl) shown

  pub default_elsewhere : (of : ℕ) → is_single_valued s.config ≡ false → Shown m s
      → Comes environment defaults Shown m s handles events (LoanDefault of) Skipped (table ++ No_entry ∷ [])
  default_elsewhere of other shown = skip_comes environment defaults Shown m s handles events table w default_value
      default_header is_default_value is_default_header (LoanDefault of) (at_none _ _ _ (elsewhere of other) refl) shown

  pub default_comes : (of service p : ℕ) → slice_get table of ≡ Some (Publisher_entry service p) → IsUnblockedPort s p
      → is_single_valued s.config ≡ true
      → (value : T) → defaults.IsDefaultValue value → (header : U) → defaults.IsDefaultHeader header
      → (s' : State T U) → GrantWrittenLoan environment value header false 1 s p s' None → Shown m s'
      → (new_service : ℕ) → new_service ≡ (s'.config).service_id
      → Comes environment defaults Shown m s handles events (LoanDefault of) Loaned
      (table ++ Written_entry new_service p s.next_message ∷ [])
  default_comes of service p at free single value is_value header is_header s' h shown new_service ours =
      let found = has_free_publisher s handles events table w of service p at free in
      let stay : PortsStay s s' = copied-stay environment s p value header s' h in
      let come : PortsCome s s' = copied-come environment s p value header s' h in
      let waits : Waits Nobody s s' = copied-waits environment s p value header s' h in
      let rises = copied-rises environment s p value header s' h in
      let below = known of service p at in record {
        default_value = value;
        default_header = header;
        is_default_value = is_value;
        is_default_header = is_header;
        outcome = outcome Loaned (Loan_handle s.next_message) s';
        step = at_some _ _ _ (p, found.0)
            (single_named s (unblocked_at s handles of) single ∙ found.1)
            (s', None, h, refl);
        replied = refl;
        shown = shown;
        follows = λ once. table_next s s' handles events table w (Loan_handle s.next_message) No_event
            (Written_entry new_service p s.next_message) table
            (later_same s s' come.next_port (omega (arith, rises)) (copied-others environment s p value header s' h))
            refl
            (all_still s s' handles events table w stay.remain come waits
            (copied-others environment s p value header s' h) (λ i p q n _. same_borrowed s s' stay p q n)) (
              ours,
              refl,
              (
                (
                  copied environment s p value header s' h,
                  copied-there environment s p value header s' h,
                  copied-publisher environment s p value header s' h,
                  refl,
                ),
                (let up = come.next_port in omega (arith, below, up)),
              ),
              unboxed_still Nobody s s' waits p below (publisher_unboxed s handles events table w of service p at),
            )
            (next_loan s s' (omega (arith, rises))) once;
      }

  pub default_refused_comes : (of service p : ℕ) → slice_get table of ≡ Some (Publisher_entry service p)
      → IsUnblockedPort s p → is_single_valued s.config ≡ true
      → (s' : State T U) (e : LoanError)
      → GrantWrittenLoan environment default_value default_header false 1 s p s' (Some e) → Shown m s'
      → Comes environment defaults Shown m s handles events (LoanDefault of) (LoanRefused e) (table ++ No_entry ∷ [])
  default_refused_comes of service p at free single s' e h shown =
      let found = has_free_publisher s handles events table w of service p at free in
      let same : s' ≡ s = copied-refused environment s p default_value default_header s' e h in
      quiet_comes environment defaults Shown m s handles events table w default_value default_header is_default_value
      is_default_header (LoanDefault of) (LoanRefused e) s'
      (at_some _ _ _ (p, found.0) (single_named s (unblocked_at s handles of) single ∙ found.1) (s', Some e, h, refl))
      shown
      (subst (PortsStay s) (sym same) (ports_stay_themselves s))
      (subst (PortsCome s) (sym same) (ports_come_themselves s))
      (subst (Waits Nobody s) (sym same) (waits_itself Nobody s))
      (λ n _. ap (λ (t : State T U). t.loans n) same)
      (subst (λ (t : State T U). s.next_message ≤ t.next_message) (sym same) (omega arith))

  -- ---- a copy

  pub copy_skipped : (of : ℕ) (value : T) → Lacks is_publisher_entry table of → Shown m s
      → Comes environment defaults Shown m s handles events (SendCopy of value) Skipped (table ++ No_entry ∷ [])
  copy_skipped of value absent shown = skip_comes environment defaults Shown m s handles events table w default_value
      default_header is_default_value is_default_header (SendCopy of value)
      (at_none _ _ _ (nothing_named of absent) refl) shown

  pub copy_elsewhere : (of : ℕ) (value : T) → is_single_valued s.config ≡ false → Shown m s
      → Comes environment defaults Shown m s handles events (SendCopy of value) Skipped (table ++ No_entry ∷ [])
  copy_elsewhere of value other shown = skip_comes environment defaults Shown m s handles events table w default_value
      default_header is_default_value is_default_header (SendCopy of value)
      (at_none _ _ _ (elsewhere of other) refl) shown

  -- it waits for a receiver
  pub copy_waiting : (of service p : ℕ) (value : T) → slice_get table of ≡ Some (Publisher_entry service p)
      → (IsUnblockedPort s p → ⊥) → Shown m s
      → Comes environment defaults Shown m s handles events (SendCopy of value) Skipped (table ++ No_entry ∷ [])
  copy_waiting of service p value at waits shown =
      skip_comes environment defaults Shown m s handles events table w default_value default_header is_default_value
      is_default_header (SendCopy of value)
      (at_none _ _ _ (waiting_named of service p at waits) refl) shown

  -- it is lent and sent, and this comes of it
  pub copy_comes : (of service p : ℕ) (value : T) → slice_get table of ≡ Some (Publisher_entry service p)
      → IsUnblockedPort s p → is_single_valued s.config ≡ true
      → (header : U) → defaults.IsDefaultHeader header → (mid : State T U)
      → GrantWrittenLoan environment value header false 1 s p mid None
      → (l : Loan T U) → mid.loans s.next_message ≡ Some l → (s' : State T U) (result : SendResult)
      → Send environment mid s.next_message l s' result
      → (reply : Reply T U) (handle : Handle) (event : Event T U) (entry : TableEntry)
      → record { reply = reply; handle = handle; event = event; state = s' } ≡ after_send s' l.publisher s.next_message
      (entry_of l) result → port_of handle ≡ None
      → ((k : ℕ) → handle ≡ Loan_handle k → ⊥) → ((p' q k : ℕ) → handle ≡ Sample_handle p' q k → ⊥)
      → ((p' k : ℕ) → handle ≡ Blocked_handle p' k → (p' ≡ p) × (k ≡ s.next_message))
      → Shown (messages_after event m) s' → IsEntryOf s' handle entry
      → Comes environment defaults Shown m s handles events (SendCopy of value) reply (table ++ entry ∷ [])
  copy_comes of service p value at free single header is_header mid h l there s' result sends reply handle event entry
      is no_port no_loan no_sample its shown new =
      let n : ℕ = s.next_message in
      let found = has_free_publisher s handles events table w of service p at free in
      let stay : PortsStay s mid = copied-stay environment s p value header mid h in
      let come : PortsCome s mid = copied-come environment s p value header mid h in
      let lender : l.publisher ≡ p = ap (λ (k : Loan T U). k.publisher)
      (same_Some l (copied environment s p value header mid h)
      (sym there ∙ copied-there environment s p value header mid h))
      ∙ copied-publisher environment s p value header mid h in
      let below = known of service p at in
      let rises = copied-rises environment s p value header mid h in
      let still_free : IsUnblockedPort mid p = λ x at_x. let was = come.publishers p x below at_x in
      was.2 (free was.0 was.1) in
      let passed : Passed p n mid s' = subst (λ (i : ℕ). Passed i n mid s') lender
      (send_passes environment mid n l s' result
      (subst (λ (i : ℕ). i < mid.next_port) (sym lender) (let up = come.next_port in omega (arith, below, up)))
      (subst (IsUnblockedPort mid) (sym lender) still_free) sends) in
      let advances = send_advances environment mid n l s' result sends in
      let first : PortsKeep No_handle (Blocked_handle p n) s mid =
      ports-keep No_handle (Blocked_handle p n) s mid stay.remain come
      (copied-waits environment s p value header mid h) in
      let keep : PortsKeep No_handle (Blocked_handle p n) s s' =
      keep-trans No_handle (Blocked_handle p n) s mid s' first (passed_keeps No_handle p n mid s' passed) in
      let loans : s'.loans ≡ put_at mid.loans n None = send_loans environment mid n l s' result sends in
      let others : (k : ℕ) → k < n → s'.loans k ≡ s.loans k =
      λ k low. ap (λ (f : ℕ → Option (Loan T U)). f k) loans ∙ put_at-other mid.loans n None k
      (ne_eqb k n (λ e. absurd (omega (arith, low, e)))) ∙ copied-others environment s p value header mid h k low in
      record {
        default_value = default_value;
        default_header = header;
        is_default_value = is_default_value;
        is_default_header = is_header;
        outcome = record { reply = reply; handle = handle; event = event; state = s' };
        step = at_some _ _ _ (p, found.0) (single_named s (unblocked_at s handles of) single ∙ found.1)
            (mid, None, h, at_some _ _ _ l there (s', result, sends, is));
        replied = refl;
        shown = shown;
        follows = λ once. table_next s s' handles events table w handle event entry table
            (later_same s s' keep.next_port (let up = advances.next_message in omega (arith, rises, up)) others) refl
            (all_kept s s' handles events table w (Blocked_handle p n) keep
            (λ i q k at_i e. let clash : k ≡ n = cc in let low = (w.blocked_sent i q k at_i).1 in
            absurd (omega (arith, low, clash)))
            others
            (λ i i' q k _. ap (λ (ns : List ℕ). is_borrowed k (record { waiting = []; borrowed = ns; others = [] }))
            ((passed.remain).borrowed i' q ∙ stay.borrowed i' q)))
            new (record {
              port = λ i e. absurd (none-some i (sym no_port ∙ e));
              loan = λ k e. absurd (no_loan k e);
              sample = λ i q k e. absurd (no_sample i q k e);
              blocked = λ i k e.
                  let it = its i k e in (
                    (let up = keep.next_port in omega (arith, below, up, it.0)),
                    (let up = advances.next_message in omega (arith, rises, up, it.1)),
                    ap s'.loans it.1 ∙ ap (λ (f : ℕ → Option (Loan T U)). f n) loans ∙ put_at-same mid.loans n None,
                    λ low _. absurd (omega (arith, low, it.1)),
                  );
            }) once;
      }

  pub copy_refused_comes : (of service p : ℕ) (value : T) → slice_get table of ≡ Some (Publisher_entry service p)
      → IsUnblockedPort s p → is_single_valued s.config ≡ true
      → (s' : State T U) (e : LoanError) → GrantWrittenLoan environment value default_header false 1 s p s' (Some e)
      → Shown m s'
      → Comes environment defaults Shown m s handles events (SendCopy of value) (SendRefused (NotLoaned e))
      (table ++ No_entry ∷ [])
  copy_refused_comes of service p value at free single s' e h shown =
      let found = has_free_publisher s handles events table w of service p at free in
      let same : s' ≡ s = copied-refused environment s p value default_header s' e h in
      quiet_comes environment defaults Shown m s handles events table w default_value default_header is_default_value
      is_default_header (SendCopy of value) (SendRefused (NotLoaned e)) s'
      (at_some _ _ _ (p, found.0) (single_named s (unblocked_at s handles of) single ∙ found.1) (s', Some e, h, refl))
      shown
      (subst (PortsStay s) (sym same) (ports_stay_themselves s))
      (subst (PortsCome s) (sym same) (ports_come_themselves s))
      (subst (Waits Nobody s) (sym same) (waits_itself Nobody s))
      (λ n _. ap (λ (t : State T U). t.loans n) same)
      (subst (λ (t : State T U). s.next_message ≤ t.next_message) (sym same) (omega arith))
