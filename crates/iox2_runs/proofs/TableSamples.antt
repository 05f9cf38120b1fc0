-- Samples are received, read and released, with what the run keeps.
use Rattle.std.proofs.Common.{◌≡◌, ℕ, ◌≤◌, ◌<◌, Bool, true, false, cond, List, [], ◌∷◌, ◌++◌, refl, sym, ap, subst, ◌∙◌}
use Rattle.std.proofs.Common.{eqb, Option, None, Some, arith}
use Rattle.std.specs.Prelude.{slice_get, slice_set}
use Rattle.std.proofs.lemmas.Bool.{ne_eqb, eq-eqb}
use Rattle.std.proofs.lemmas.Option.{none-some}
use Rattle.iox2_machine.specs.machine.Records.{Loan, Environment}
use Rattle.iox2_machine.specs.machine.State.{State, Messages}
use Rattle.iox2_machine.specs.machine.Receives.{Receive, ReceiveResult, Got_sample}
use Rattle.iox2_machine.specs.machine.Releases.{released}
use Rattle.iox2_laws.proofs.LoanKeeping.{receive_loans, released_loans}
use Rattle.iox2_commands.specs.Outcomes.{Handle, No_handle, Loan_handle, Blocked_handle, Sample_handle, Event, No_event}
use Rattle.iox2_commands.specs.Outcomes.{Message_received, replied, done, skipped}
use Rattle.iox2_commands.specs.Runs.{Defaults}
use Rattle.iox2_commands.specs.Step.{Step, after_receive, if_single_units, subscriber_at}
use Rattle.iox2_runs.specs.Tables.{TableEntry, No_entry, Subscriber_entry, Sample_entry, IsSpent, IsTable}
use Rattle.iox2_runs.specs.RunSteps.{Comes}
use Rattle.iox2_commands.specs.declared.command.Command.{Command}
use Rattle.iox2_commands.specs.declared.command.Command.TheVariants.{Receive as ReceiveCommand}
use Rattle.iox2_commands.specs.declared.command.Command.TheVariants.{Release as ReleaseCommand, Read as ReadCommand}
use Rattle.iox2_commands.specs.declared.reply.Reply.{Reply}
use Rattle.iox2_commands.specs.declared.reply.Reply.TheVariants.{Done, Skipped, Sample as SampleReply}
use Rattle.iox2_runs.proofs.TableLooks.{Lacks, is_subscriber_entry, is_sample_entry, lacks_subscriber, lacks_sample}
use Rattle.iox2_runs.proofs.TableLooks.{has_subscriber, has_sample, handle_of}
use Rattle.iox2_laws.proofs.PortsCome.{PortsCome, ports_come_themselves, receive_comes as machine_receive_comes}
use Rattle.iox2_laws.proofs.PortsCome.{released_comes}
use Rattle.iox2_laws.proofs.PortsStay.{PortsStay, ports_stay_themselves}
use Rattle.iox2_laws.proofs.Waits.{Waits, waits_itself, receive_waits, released_waits}
use Rattle.iox2_runs.proofs.TableSteps.{Nobody, ports-keep, later_same, no_next, table_next, all_still, others_still}
use Rattle.iox2_runs.proofs.TableSteps.{not_again}
use Rattle.iox2_laws.proofs.SamplesStay.{IsReceived, received_one, nothing_received, released_remain, released_now}
use Rattle.iox2_laws.proofs.SamplesStay.{released_others}
use Rattle.iox2_runs.proofs.TableCalls.{quiet_comes, skip_comes, at_none, at_some, set_length}

-- ---- what each command comes to

sample_event : (T U : Type 0) (p p' q q' n k : ℕ) → Sample_handle p q n ≡ Sample_handle p' q' k
    → ◌≡◌ {A = Event T U} (Message_received p q n) (Message_received p' q' k)
sample_event T U p p' q q' n k e = cc

module _ {T U : Type 0} (environment : Environment) (defaults : Defaults T U)
    (Shown : Messages T U → State T U → Type 0) (m : Messages T U) (s : State T U) (handles : List Handle)
    (events : List (Event T U)) (table : List TableEntry) (w : IsTable s handles events table) (default_value : T)
    (default_header : U)
    (is_default_value : defaults.IsDefaultValue default_value)
    (is_default_header : defaults.IsDefaultHeader default_header) where
  abbrev Arrives : Command T U → Reply T U → List TableEntry → Type 0
  Arrives command reply table' = Comes environment defaults Shown m s handles events command reply table'

  skips : (command : Command T U) → Step environment default_value default_header m s handles command (skipped s)
      → Shown m s → Arrives command Skipped (table ++ No_entry ∷ [])
  skips = skip_comes environment defaults Shown m s handles events table w default_value default_header is_default_value
      is_default_header

  quiet : (command : Command T U) (reply : Reply T U) (s' : State T U)
      → Step environment default_value default_header m s handles command (replied reply s')
      → Shown m s' → PortsStay s s' → PortsCome s s' → Waits Nobody s s'
      → ((n : ℕ) → n < s.next_message → s'.loans n ≡ s.loans n) → s.next_message ≤ s'.next_message
      → Arrives command reply (table ++ No_entry ∷ [])
  quiet = quiet_comes environment defaults Shown m s handles events table w default_value default_header
      is_default_value is_default_header

  single_units : {A : Type 0} (o : Option A) → (s.config).units_per_element ≡ 1 → if_single_units s o ≡ o
  single_units {A} o e = ap (λ (b : Bool). cond b o None) (eq-eqb (s.config).units_per_element 1 e)

  other_units : {A : Type 0} (o : Option A) → ((s.config).units_per_element ≡ 1 → ⊥) → if_single_units s o ≡ None
  other_units {A} o e = ap (λ (b : Bool). cond {A = Option A} b o None) (ne_eqb (s.config).units_per_element 1 e)

  none_units : {A : Type 0} (o : Option A) → o ≡ None → if_single_units s o ≡ None
  none_units {A} o e = by (eqb (s.config).units_per_element 1) where
    by : (b : Bool) → cond b o None ≡ None
    by true = e
    by false = refl

  pub receive_skipped : (of : ℕ) → Lacks is_subscriber_entry table of → Shown m s
      → Arrives (ReceiveCommand of) Skipped (table ++ No_entry ∷ [])
  receive_skipped of absent shown =
      skips (ReceiveCommand of) (at_none _ _ _
      (none_units (subscriber_at s handles of) (lacks_subscriber s handles events table w of absent)) refl) shown

  pub receive_elsewhere : (of : ℕ) → ((s.config).units_per_element ≡ 1 → ⊥) → Shown m s
      → Arrives (ReceiveCommand of) Skipped (table ++ No_entry ∷ [])
  receive_elsewhere of other shown =
      skips (ReceiveCommand of) (at_none _ _ _ (other_units (subscriber_at s handles of) other) refl) shown

  pub receive_quiet_comes : (of service q : ℕ) → slice_get table of ≡ Some (Subscriber_entry service q)
      → (s.config).units_per_element ≡ 1
      → (s' : State T U) (result : ReceiveResult) (reply : Reply T U) → ((p n : ℕ) → result ≡ Got_sample p n → ⊥)
      → after_receive s' q result ≡ replied reply s'
      → Receive environment s q s' result → s.next_message ≤ s'.next_message → Shown m s'
      → Arrives (ReceiveCommand of) reply (table ++ No_entry ∷ [])
  receive_quiet_comes of service q at units s' result reply none e h rises shown =
      let found = has_subscriber s handles events table w of service q at in
      quiet (ReceiveCommand of) reply s' (at_some _ _ _ (q, found.0)
      (single_units (subscriber_at s handles of) units ∙ found.1) (s', result, h, sym e)) shown
      (nothing_received environment s q s' result none h) (machine_receive_comes environment s q s' result h)
      (receive_waits Nobody environment s q s' result h)
      (λ n _. ap (λ (f : ℕ → Option (Loan T U)). f n) (receive_loans environment s q s' result h)) rises

  pub receive_comes : (of service q : ℕ) → slice_get table of ≡ Some (Subscriber_entry service q)
      → (s.config).units_per_element ≡ 1 → (s' : State T U) (p n : ℕ)
      → Receive environment s q s' (Got_sample p n) → s.next_message ≤ s'.next_message → Shown m s' → (new_service : ℕ)
      → new_service ≡ (s'.config).service_id
      → Arrives (ReceiveCommand of) (SampleReply p) (table ++ Sample_entry new_service p q n ∷ [])
  receive_comes of service q at units s' p n h rises shown new_service ours =
      let found = has_subscriber s handles events table w of service q at in
      let named = handle_of s handles events table w of (Subscriber_entry service q) at in
      let got : IsReceived environment s q p n s' = received_one environment s q p n s' h in
      let come : PortsCome s s' = machine_receive_comes environment s q s' (Got_sample p n) h in record {
        default_value = default_value;
        default_header = default_header;
        is_default_value = is_default_value;
        is_default_header = is_default_header;
        outcome =
            record { reply = SampleReply p; handle = Sample_handle p q n; event = Message_received p q n; state = s' };
        step = at_some _ _ _ (q, found.0) (single_units (subscriber_at s handles of) units ∙ found.1)
            (s', Got_sample p n, h, refl);
        replied = refl;
        shown = shown;
        follows = λ once. table_next s s' handles events table w (Sample_handle p q n) (Message_received p q n)
            (Sample_entry new_service p q n) table
            (later_same s s' come.next_port rises (λ k _. ap (λ (f : ℕ → Option (Loan T U)). f k) got.loans)) refl
            (all_still s s' handles events table w got.remain come
            (receive_waits Nobody environment s q s' (Got_sample p n) h)
            (λ k _. ap (λ (f : ℕ → Option (Loan T U)). f k) got.loans)
            (λ i p' q' k there. got.others p' q' k (λ e_p e_q e_n.
            let again : slice_get handles i ≡ Some (Sample_handle p q n) =
            there ∙ ap (λ v. Some (Sample_handle v q' k)) e_p ∙ ap (λ v. Some (Sample_handle p v k)) e_q
            ∙ ap (λ v. Some (Sample_handle p q v)) e_n in
            not_again s handles events table w p q n (once p q) i again))) (
              ours,
              refl,
              got.now,
            )
            (record {
              port = λ i e. absurd (none-some i e);
              loan = λ k e. let clash : Sample_handle p q n ≡ Loan_handle k = e in absurd (cc);
              sample = λ p' q' k e. sample_event T U p p' q q' n k e;
              blocked = λ i k e. let clash : Sample_handle p q n ≡ Blocked_handle i k = e in absurd (cc);
            }) once;
      }

  -- ---- release

  pub release_skipped : (of : ℕ) → Lacks is_sample_entry table of → Shown m s
      → Arrives (ReleaseCommand of) Skipped (table ++ No_entry ∷ [])
  release_skipped of absent shown =
      skips (ReleaseCommand of) (at_none _ _ _ (lacks_sample s handles events table w of absent) refl) shown

  pub release_comes : (of service p q n : ℕ) → slice_get table of ≡ Some (Sample_entry service p q n)
      → s.next_message ≤ (released s p q n).next_message → Shown m (released s p q n)
      → Arrives (ReleaseCommand of) Done (slice_set table of No_entry ++ No_entry ∷ [])
  release_comes of service p q n at rises shown =
      let named = handle_of s handles events table w of (Sample_entry service p q n) at in
      let s' : State T U = released s p q n in record {
        default_value = default_value;
        default_header = default_header;
        is_default_value = is_default_value;
        is_default_header = is_default_header;
        outcome = done s';
        step = at_some _ _ _ (p, q, n) (has_sample s handles events table w of service p q n at) refl;
        replied = refl;
        shown = shown;
        follows =
            λ once. table_next s s' handles events table w No_handle No_event No_entry (slice_set table of No_entry)
            (later_same s s' (released_comes s p q n).next_port rises
            (λ k _. ap (λ (f : ℕ → Option (Loan T U)). f k) (released_loans s p q n))) (set_length table of No_entry)
            (others_still s s' handles events table w of named.0 No_entry
            (ports-keep named.0 No_handle s s' (released_remain s p q n) (released_comes s p q n)
            (released_waits Nobody s p q n)) named.1
            (subst (IsSpent s') (sym (named.2).1) (released_now s p q n))
            (λ k low _. ap (λ (f : ℕ → Option (Loan T U)). f k) (released_loans s p q n))
            (λ i p' q' k there other. released_others s p q n p' q' k (λ e_p e_q e_n. other ((named.2).1
            ∙ ap (λ v. Sample_handle v q n) (sym e_p) ∙ ap (λ v. Sample_handle p' v n) (sym e_q)
            ∙ ap (λ v. Sample_handle p' q' v) (sym e_n)))))
            tt (no_next s s' _) once;
      }

  -- ---- read

  -- a command that reads changes nothing
  pub read_comes : (of at : ℕ) (reply : Reply T U)
      → Step environment default_value default_header m s handles (ReadCommand of at) (replied reply s) → Shown m s
      → Arrives (ReadCommand of at) reply (table ++ No_entry ∷ [])
  read_comes of at reply step shown = quiet (ReadCommand of at) reply s step shown (ports_stay_themselves s)
      (ports_come_themselves s) (waits_itself Nobody s) (λ n low. refl) (omega arith)
