-- Blocked sends that go on, with what the run keeps.
use Rattle.std.proofs.Common.{◌≡◌, ℕ, Option, Some, List, [], ◌∷◌, ◌++◌, refl, ap, ◌∙◌}
use Rattle.std.specs.Prelude.{slice_get, slice_set}
use Rattle.iox2_machine.specs.machine.Mailbox.{is_borrowed}
use Rattle.iox2_machine.specs.machine.Records.{Environment, Loan}
use Rattle.iox2_machine.specs.machine.State.{State, Messages}
use Rattle.iox2_laws.specs.Laws.{Advances}
use Rattle.iox2_commands.specs.Outcomes.{Handle, No_handle, Blocked_handle, Event, No_event, replied}
use Rattle.iox2_commands.specs.Runs.{Defaults}
use Rattle.iox2_commands.specs.Step.{Step}
use Rattle.iox2_commands.specs.declared.command.Command.{Command}
use Rattle.iox2_commands.specs.declared.reply.Reply.{Reply}
use Rattle.iox2_runs.specs.Tables.{TableEntry, No_entry, Blocked_entry, IsEntryOf, IsTable}
use Rattle.iox2_runs.specs.RunSteps.{Comes}
use Rattle.iox2_runs.proofs.TableCalls.{set_length}
use Rattle.iox2_runs.proofs.TableLooks.{handle_of}
use Rattle.iox2_runs.proofs.TablePassed.{Passed, passed_keeps}
use Rattle.iox2_runs.proofs.TableSteps.{later_same, no_next, table_next, others_kept}

module _ {T U : Type 0} (environment : Environment) (defaults : Defaults T U)
    (Shown : Messages T U → State T U → Type 0) (m : Messages T U) (s : State T U) (handles : List Handle)
    (events : List (Event T U)) (table : List TableEntry) (w : IsTable s handles events table) (default_value : T)
    (default_header : U)
    (is_default_value : defaults.IsDefaultValue default_value)
    (is_default_header : defaults.IsDefaultHeader default_header) where
  -- the send at this position goes on, and this entry is left of it
  pub goes_on_comes : (command : Command T U) (of service p n : ℕ)
      → slice_get table of ≡ Some (Blocked_entry service p n) → (s' : State T U) → Passed p n s s' → Advances s s'
      → s'.loans ≡ s.loans
      → (reply : Reply T U) → Step environment default_value default_header m s handles command (replied reply s')
      → Shown m s'
      → (entry : TableEntry) → IsEntryOf s' (Blocked_handle p n) entry
      → Comes environment defaults Shown m s handles events command reply (slice_set table of entry ++ No_entry ∷ [])
  goes_on_comes command of service p n at s' passed rises loans reply step shown entry now =
      let named = handle_of s handles events table w of (Blocked_entry service p n) at in
      let here : slice_get handles of ≡ Some (Blocked_handle p n) = named.1 ∙ ap Some (named.2).1 in
      let same : (k : ℕ) → s'.loans k ≡ s.loans k = λ k. ap (λ (f : ℕ → Option (Loan T U)). f k) loans in record {
        default_value = default_value;
        default_header = default_header;
        is_default_value = is_default_value;
        is_default_header = is_default_header;
        outcome = replied reply s';
        step = step;
        replied = refl;
        shown = shown;
        follows = λ once. table_next s s' handles events table w No_handle No_event No_entry (slice_set table of entry)
            (later_same s s' rises.next_port rises.next_message (λ k _. same k)) (set_length table of entry)
            (others_kept s s' handles events table w of (Blocked_handle p n) (Blocked_handle p n) entry
            (passed_keeps (Blocked_handle p n) p n s s' passed)
            (λ i q k at_i away is. away (w.blocked_apart i of p n (at_i ∙ ap Some is) here))
            here now (λ k _ _. same k)
            (λ i i' q k _ _. ap (λ (ns : List ℕ). is_borrowed k (record { waiting = []; borrowed = ns; others = [] }))
            ((passed.remain).borrowed i' q)))
            tt (no_next s s' _) once;
      }
