-- A loan is discarded, with what a run keeps.
use Rattle.std.proofs.Common.{◌≡◌, ℕ, false, List, [], ◌∷◌, ◌++◌, map, refl, sym, ap, subst, ◌∙◌, None, Some, le_refl}
use Rattle.std.specs.Prelude.{slice_get, slice_set, slice_index_or}
use Rattle.std.proofs.lemmas.Bool.{ne_eqb}
use Rattle.iox2_machine.specs.machine.Loans.{loan_discarded}
use Rattle.iox2_machine.specs.machine.Records.{Loan, Environment}
use Rattle.iox2_machine.specs.machine.State.{State, Messages}
use Rattle.iox2_laws.proofs.PortsCome.{loan_discarded_comes}
use Rattle.iox2_laws.proofs.PortsStay.{PortsStay, loan_discarded_stays}
use Rattle.iox2_laws.proofs.Puts.{put_at-same, put_at-other}
use Rattle.iox2_laws.proofs.SamplesStay.{same_borrowed}
use Rattle.iox2_laws.proofs.Waits.{loan_discarded_waits}
use Rattle.iox2_domain.specs.Kept.{Kept as Domain}
use Rattle.iox2_domain.specs.Shows.{Shows}
use Rattle.iox2_pubsub.specs.declared.sample_mut_uninit.SampleMutUninit.{SampleMutUninit}
use Rattle.iox2_pubsub.specs.declared.sample_mut.SampleMut.{SampleMut}
use Rattle.iox2_commands.specs.Outcomes.{Handle, No_handle, Loan_handle, Event, No_event, done}
use Rattle.iox2_commands.specs.Runs.{Defaults}
use Rattle.iox2_commands.specs.Step.{loan_at}
use Rattle.iox2_runs.specs.Tables.{TableEntry, No_entry, IsTable}
use Rattle.iox2_runs.specs.RunSteps.{Comes}
use Rattle.iox2_runs.specs.Carries.{entry_for, Carries}
use Rattle.iox2_commands.specs.declared.command.Command.TheVariants.{Discard}
use Rattle.iox2_commands.specs.declared.reply.Reply.TheVariants.{Done, Skipped}
use Rattle.iox2_runs.specs.declared.runs.made.Made.{Made}
use Rattle.iox2_runs.specs.declared.runs.made.Made.TheVariants.{Nothing, Unwritten, Written}
use Rattle.iox2_runs.proofs.TableCalls.{skip_comes, at_none, at_some, set_length}
use Rattle.iox2_runs.proofs.TableEntries.{entries-set, entry-stands, lacks}
use Rattle.iox2_runs.proofs.TableLooks.{Lacks, is_loan_entry, lacks_loan, handle_of, has_unwritten, has_written}
use Rattle.iox2_runs.proofs.TableSteps.{Nobody, ports-keep, later_but, no_next, table_next, others_still}

-- ---- what the command comes to

module _ {T U : Type 0} (environment : Environment) (defaults : Defaults T U)
    (Shown : Messages T U → State T U → Type 0) (m : Messages T U) (s : State T U) (handles : List Handle)
    (events : List (Event T U)) (table : List TableEntry) (w : IsTable s handles events table) (default_value : T)
    (default_header : U)
    (is_default_value : defaults.IsDefaultValue default_value)
    (is_default_header : defaults.IsDefaultHeader default_header) where
  discard_skipped : (of : ℕ) → Lacks is_loan_entry table of → Shown m s
      → Comes environment defaults Shown m s handles events (Discard of) Skipped (table ++ No_entry ∷ [])
  discard_skipped of absent shown =
      skip_comes environment defaults Shown m s handles events table w default_value default_header is_default_value
      is_default_header (Discard of)
      (at_none _ _ _ (lacks_loan s handles events table w of absent) refl) shown

  discard_comes : (of n : ℕ) (l : Loan T U) → loan_at s handles of ≡ Some (n, l) → s.loans n ≡ Some l
      → slice_get handles of ≡ Some (Loan_handle n) → Shown m (loan_discarded s n l)
      → Comes environment defaults Shown m s handles events (Discard of) Done
      (slice_set table of No_entry ++ No_entry ∷ [])
  discard_comes of n l found out named shown =
      let s' : State T U = loan_discarded s n l in
      let stay : PortsStay s s' = loan_discarded_stays s n l in record {
        default_value = default_value;
        default_header = default_header;
        is_default_value = is_default_value;
        is_default_header = is_default_header;
        outcome = done s';
        step = at_some _ _ _ (n, l) found refl;
        replied = refl;
        shown = shown;
        follows =
            λ once. table_next s s' handles events table w No_handle No_event No_entry (slice_set table of No_entry)
            (later_but s s' n l out (loan_discarded_comes s n l).next_port (le_refl s.next_message)
            (λ k low other. put_at-other s.loans n None k (ne_eqb k n other))) (set_length table of No_entry)
            (others_still s s' handles events table w of (Loan_handle n) No_entry
            (ports-keep (Loan_handle n) No_handle s s' stay.remain (loan_discarded_comes s n l)
            (loan_discarded_waits Nobody s n l)) named (put_at-same s.loans n None)
            (λ k low other. put_at-other s.loans n None k (ne_eqb k n (λ e. other (ap Loan_handle (sym e)))))
            (λ i p q k _ _. same_borrowed s s' stay p q k))
            tt (no_next s s' _) once;
      }

-- ---- what the function of the command ensures

module _ {T U F G : Type 0} (environment : Environment) (defaults : Defaults T U) (old new : Domain T U F G)
    (table table' : List Made) (of : ℕ) where
  -- there is no such loan
  pub discard_passed : is_loan_entry (entry_for (slice_index_or table of Nothing)) ≡ false
      → Carries environment defaults old old table (Discard of) Skipped table Nothing
  discard_passed other = λ m s handles events shown w default_value default_header is_value is_header.
      discard_skipped environment defaults (Shows old) m s handles events
      (map entry_for table) w default_value default_header is_value is_header of
      (lacks is_loan_entry refl table of other) shown

  -- what the loan n comes to
  abbrev Discards : (n : ℕ) → Type 0
  Discards n = (m : Messages T U) (s : State T U) (l : Loan T U) → Shows old m s → s.loans n ≡ Some l
      → Shows new m (loan_discarded s n l)

  -- where a loan stands
  carried : (n : ℕ) → Discards n → table' ≡ slice_set table of Nothing
      → ((s : State T U) (handles : List Handle) (events : List (Event T U))
      → IsTable s handles events (map entry_for table)
      → (l : Loan T U) × (loan_at s handles of ≡ Some (n, l)) × (s.loans n ≡ Some l)
      × (slice_get handles of ≡ Some (Loan_handle n)))
      → Carries environment defaults old new table (Discard of) Done table' Nothing
  carried n discards is names = λ m s handles events shown w default_value default_header is_value is_header.
      let named = names s handles events w in
      let after : map entry_for table' ≡ slice_set (map entry_for table) of No_entry =
      ap (λ (t : List Made). map entry_for t) is ∙ entries-set table of Nothing in
      subst (λ (ks : List TableEntry).
      Comes environment defaults (Shows new) m s handles events (Discard of) Done (ks ++ No_entry ∷ [])) (sym after)
      (discard_comes environment defaults (Shows new) m s handles events
      (map entry_for table) w default_value default_header is_value is_header of n named.0 named.1 named.2 named.3
      (discards m s named.0 shown named.2))

  -- an unwritten loan
  pub discard_unwritten : (h : SampleMutUninit) → slice_index_or table of Nothing ≡ Unwritten h → Discards h.loan.number
      → table' ≡ slice_set table of Nothing
      → Carries environment defaults old new table (Discard of) Done table' Nothing
  discard_unwritten h at discards is = carried h.loan.number discards is (λ s handles events w.
      let stand = entry-stands table of (Unwritten h) at (λ e. let clash : Unwritten h ≡ Nothing = e in cc) in
      let found =
      has_unwritten s handles events (map entry_for table) w of h.service_id h.loan.publisher h.loan.number stand in
      let v = handle_of s handles events (map entry_for table) w of (entry_for (Unwritten h)) stand in
      (found.0, found.2, found.3, v.1 ∙ ap Some (v.2).1))

  -- a written loan
  pub discard_written : (h : SampleMut) → slice_index_or table of Nothing ≡ Written h → Discards h.loan.number
      → table' ≡ slice_set table of Nothing
      → Carries environment defaults old new table (Discard of) Done table' Nothing
  discard_written h at discards is = carried h.loan.number discards is (λ s handles events w.
      let stand = entry-stands table of (Written h) at (λ e. let clash : Written h ≡ Nothing = e in cc) in
      let found =
      has_written s handles events (map entry_for table) w of h.service_id h.loan.publisher h.loan.number stand in
      let v = handle_of s handles events (map entry_for table) w of (entry_for (Written h)) stand in
      (found.0, found.2, found.3, v.1 ∙ ap Some (v.2).1))
