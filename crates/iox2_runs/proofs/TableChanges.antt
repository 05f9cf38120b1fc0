-- A loan that is out is changed, with what the run keeps.
use Rattle.std.proofs.Common.{◌≡◌, ℕ, true, false, List, [], ◌∷◌, ◌++◌, refl, sym, ap, ◌∙◌, Some, arith}
use Rattle.std.specs.Prelude.{slice_get, slice_set}
use Rattle.std.proofs.lemmas.Bool.{ne_eqb}
use Rattle.iox2_machine.specs.machine.Records.{Loan, Environment}
use Rattle.iox2_machine.specs.machine.State.{State, Messages, with_loan}
use Rattle.iox2_laws.proofs.PortsCome.{loan_set_comes}
use Rattle.iox2_laws.proofs.PortsStay.{loan_set_stays}
use Rattle.iox2_laws.proofs.Waits.{loan_set_waits}
use Rattle.iox2_laws.proofs.Puts.{put_at-same, put_at-other}
use Rattle.iox2_commands.specs.Outcomes.{Handle, No_handle, Loan_handle, Event, No_event, done}
use Rattle.iox2_commands.specs.Runs.{Defaults}
use Rattle.iox2_commands.specs.Step.{Step}
use Rattle.iox2_commands.specs.declared.command.Command.{Command}
use Rattle.iox2_commands.specs.declared.reply.Reply.TheVariants.{Done}
use Rattle.iox2_runs.specs.Tables.{TableEntry, No_entry, Unwritten_entry, Written_entry, IsEntryOf, IsTable}
use Rattle.iox2_runs.specs.RunSteps.{Comes}
use Rattle.iox2_runs.proofs.TableCalls.{set_length}
use Rattle.iox2_runs.proofs.TableLooks.{handle_of}
use Rattle.iox2_runs.proofs.TableSteps.{Nobody, ports-keep, later_but, no_next, table_next, others_still}

module _ {T U : Type 0} (environment : Environment) (defaults : Defaults T U)
    (Shown : Messages T U → State T U → Type 0) (m : Messages T U) (s : State T U) (handles : List Handle)
    (events : List (Event T U)) (table : List TableEntry) (w : IsTable s handles events table) (default_value : T)
    (default_header : U)
    (is_default_value : defaults.IsDefaultValue default_value)
    (is_default_header : defaults.IsDefaultHeader default_header) (command : Command T U) (of service p n : ℕ)
    (l : Loan T U)
    (step : Step environment default_value default_header m s handles command (done (with_loan s n (Some l))))
    (shown : Shown m (with_loan s n (Some l))) where
  sets : (was : Loan T U) → s.loans n ≡ Some was → (handle : Handle) (entry : TableEntry)
      → slice_get handles of ≡ Some handle → handle ≡ Loan_handle n → IsEntryOf (with_loan s n (Some l)) handle entry
      → Comes environment defaults Shown m s handles events command Done (slice_set table of entry ++ No_entry ∷ [])
  sets was out handle entry at is names = record {
    default_value = default_value;
    default_header = default_header;
    is_default_value = is_default_value;
    is_default_header = is_default_header;
    outcome = done (with_loan s n (Some l));
    step = step;
    replied = refl;
    shown = shown;
    follows = λ once. table_next s (with_loan s n (Some l)) handles events table w No_handle No_event No_entry
        (slice_set table of entry)
        (later_but s (with_loan s n (Some l)) n was out (omega arith) (omega arith)
        (λ k low other. put_at-other s.loans n (Some l) k (ne_eqb k n other))) (set_length table of entry)
        (others_still s (with_loan s n (Some l)) handles events table w of handle entry
        (ports-keep handle No_handle s (with_loan s n (Some l)) (loan_set_stays s n (Some l)).remain
        (loan_set_comes s n (Some l)) (loan_set_waits Nobody s n (Some l))) at
        names
        (λ k low other. put_at-other s.loans n (Some l) k (ne_eqb k n (λ e. other (is ∙ ap Loan_handle (sym e)))))
        (λ i p q n _ _. refl))
        tt (no_next s (with_loan s n (Some l)) _) once;
  }

  module _ (publisher : l.publisher ≡ p) where
    -- an unwritten loan stays so
    pub unwritten_changes : slice_get table of ≡ Some (Unwritten_entry service p n) → l.is_written ≡ false
        → Comes environment defaults Shown m s handles events command Done
        (slice_set table of (Unwritten_entry service p n) ++ No_entry ∷ [])
    unwritten_changes at mark =
        let named = handle_of s handles events table w of (Unwritten_entry service p n) at in
        sets (((named.2).2).0).0 (((named.2).2).0).1 named.0 (Unwritten_entry service p n) named.1 (named.2).1
        ((named.2).0, (named.2).1, ((l, put_at-same s.loans n (Some l), publisher, mark), ((named.2).2).1), (named.2).3)

    -- or is written from then on
    pub unwritten_taken : slice_get table of ≡ Some (Unwritten_entry service p n) → l.is_written ≡ true
        → Comes environment defaults Shown m s handles events command Done
        (slice_set table of (Written_entry service p n) ++ No_entry ∷ [])
    unwritten_taken at mark =
        let named = handle_of s handles events table w of (Unwritten_entry service p n) at in
        sets (((named.2).2).0).0 (((named.2).2).0).1 named.0 (Written_entry service p n) named.1 (named.2).1
        ((named.2).0, (named.2).1, ((l, put_at-same s.loans n (Some l), publisher, mark), ((named.2).2).1), (named.2).3)

    -- and a written one stays written
    pub written_changes : slice_get table of ≡ Some (Written_entry service p n) → l.is_written ≡ true
        → Comes environment defaults Shown m s handles events command Done
        (slice_set table of (Written_entry service p n) ++ No_entry ∷ [])
    written_changes at mark =
        let named = handle_of s handles events table w of (Written_entry service p n) at in
        sets (((named.2).2).0).0 (((named.2).2).0).1 named.0 (Written_entry service p n) named.1 (named.2).1
        ((named.2).0, (named.2).1, ((l, put_at-same s.loans n (Some l), publisher, mark), ((named.2).2).1), (named.2).3)
