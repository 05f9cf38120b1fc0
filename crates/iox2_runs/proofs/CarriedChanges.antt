-- Commands that change a loan that is out, with what a run holds.
use Rattle.std.proofs.Common.{◌≡◌, ℕ, Bool, true, false, List, [], ◌∷◌, ◌++◌, map, length, cond, refl, sym, ap, subst}
use Rattle.std.proofs.Common.{◌∙◌, Option, None, Some, arith}
use Rattle.std.specs.Prelude.{slice_get, slice_set, slice_index_or, nat_lt}
use Rattle.std.specs.Option.{option_and_then}
use Rattle.std.proofs.lemmas.Option.{same_Some}
use Rattle.iox2_machine.specs.machine.Environments.{fixed_handlers}
use Rattle.iox2_machine.specs.machine.Loans.{with_cell, is_initialized, initialized}
use Rattle.iox2_machine.specs.machine.Records.{Loan}
use Rattle.iox2_machine.specs.machine.State.{State, Messages, with_loan}
use Rattle.iox2_laws.proofs.PortsCome.{ports_come_themselves}
use Rattle.iox2_laws.proofs.PortsStay.{ports_stay_themselves}
use Rattle.iox2_laws.proofs.Waits.{waits_itself}
use Rattle.iox2_domain.specs.Kept.{Kept as Domain}
use Rattle.iox2_domain.specs.LoanCalls.{user_header_changed}
use Rattle.iox2_domain.specs.Shows.{Shows}
use Rattle.iox2_pubsub.specs.declared.sample_mut.SampleMut.{SampleMut}
use Rattle.iox2_pubsub.specs.declared.sample_mut_uninit.SampleMutUninit.{SampleMutUninit}
use Rattle.iox2_commands.specs.Outcomes.{Handle, done, replied}
use Rattle.iox2_commands.specs.Runs.{Defaults}
use Rattle.iox2_commands.specs.Step.{with_cell_at, loan_at, written_at}
use Rattle.iox2_commands.specs.declared.command.Command.TheVariants.{WriteCell, SetPayload, WriteHeader, AssumeInit}
use Rattle.iox2_commands.specs.declared.reply.Reply.{Reply}
use Rattle.iox2_commands.specs.declared.reply.Reply.TheVariants.{Done, Skipped, Unwritten as NotWritten}
use Rattle.iox2_runs.specs.Carries.{entry_for, Carries}
use Rattle.iox2_runs.specs.Cells.{WritesAt}
use Rattle.iox2_runs.specs.RunSteps.{Comes}
use Rattle.iox2_runs.specs.Tables.{TableEntry, No_entry, Unwritten_entry, Written_entry}
use Rattle.iox2_runs.specs.declared.runs.made.Made.{Made}
use Rattle.iox2_runs.specs.declared.runs.made.Made.TheVariants.{Nothing, Unwritten, Written}
use Rattle.iox2_runs.proofs.TableCalls.{at_none, at_some, quiet_comes, skip_comes}
use Rattle.iox2_runs.proofs.TableChanges.{unwritten_changes, unwritten_taken, written_changes}
use Rattle.iox2_runs.proofs.TableEntries.{entries-set, entry-stands, lacks, set_same}
use Rattle.iox2_runs.proofs.TableLooks.{handle_of, is_loan_entry, is_unwritten_entry, is_written_entry, has_unwritten}
use Rattle.iox2_runs.proofs.TableLooks.{has_written, lacks_loan, lacks_unwritten, lacks_written}
use Rattle.iox2_runs.proofs.TableSteps.{Nobody}

module _ {T U F G : Type 0} (defaults : Defaults T U) (old new : Domain T U F G) (table table' : List Made)
    (of : ℕ) where
  -- the loan, where it has a cell at the index
  abbrev if_there : ℕ × Loan T U → Bool → Option (ℕ × Loan T U)
  if_there it is_there = cond is_there (Some it) None

  -- what stood there was put back as it was
  same_table : (made made' : Made) → slice_index_or table of Nothing ≡ made → made' ≡ made
      → table' ≡ slice_set table of made' → table' ≡ table
  same_table made made' stood same is =
      is ∙ ap (λ (h : Made). slice_set table of h) (same ∙ sym stood) ∙ set_same table of

  -- ---- a cell is written

  pub cell_carried : (h h' : SampleMutUninit) (at : ℕ) (value : T) (is_there : Bool) (reply : Reply T U)
      → slice_index_or table of Nothing ≡ Unwritten h → h' ≡ h
      → WritesAt old new h.loan.number at value is_there → reply ≡ cond is_there Done Skipped
      → table' ≡ slice_set table of (Unwritten h')
      → Carries fixed_handlers defaults old new table (WriteCell of at value) reply table' Nothing
  cell_carried h h' at value is_there reply stood same writes so is =
      subst (λ (r : Reply T U). Carries fixed_handlers defaults old new table (WriteCell of at value) r table' Nothing)
      (sym so) (by is_there writes)
    where
      stand : slice_get (map entry_for table) of ≡ Some (Unwritten_entry h.service_id h.loan.publisher h.loan.number)
      stand = entry-stands table of (Unwritten h) stood (λ e. let clash : Unwritten h ≡ Nothing = e in cc)

      by : (is_there : Bool) → WritesAt old new h.loan.number at value is_there
          → Carries fixed_handlers defaults old new table (WriteCell of at value)
          (cond is_there Done Skipped) table' Nothing
      by true writes = λ m s handles events shown w default_value default_header is_value is_header.
          let named = has_unwritten s handles events
          (map entry_for table) w of h.service_id h.loan.publisher h.loan.number stand in
          let out =
          (((handle_of s handles events (map entry_for table) w of
          (Unwritten_entry h.service_id h.loan.publisher h.loan.number) stand).2).2).0 in
          let mark : (named.0).is_written ≡ false =
          ap (λ (l : Loan T U). l.is_written) (same_Some named.0 out.0 (sym named.3 ∙ out.1)) ∙ out.3 in
          let wrote = writes m s shown in
          let one : wrote.0 ≡ named.0 = same_Some wrote.0 named.0 (sym wrote.1 ∙ named.3) in
          let there : Shows new m (with_loan s h.loan.number (Some (with_cell named.0 at value))) =
          subst (λ (l : Loan T U). Shows new m (with_loan s h.loan.number (Some (with_cell l at value)))) one wrote.3 in
          subst (λ (ks : List TableEntry). Comes fixed_handlers defaults (Shows new) m s handles events
          (WriteCell of at value) Done (ks ++ No_entry ∷ []))
          (sym (ap (λ (t : List Made). map entry_for t) is ∙ entries-set table of (Unwritten h')
          ∙ ap (λ (i : SampleMutUninit). slice_set (map entry_for table) of (entry_for (Unwritten i))) same))
          (unwritten_changes fixed_handlers defaults (Shows new) m s handles events
          (map entry_for table) w default_value default_header is_value is_header
          (WriteCell of at value) of h.service_id h.loan.publisher h.loan.number
          (with_cell named.0 at value)
          (at_some _ _ _ (h.loan.number, named.0)
          (ap (with_cell_at at) named.1 ∙ ap (if_there (h.loan.number, named.0))
          (ap (λ (l : Loan T U). nat_lt at (length l.cells)) (sym one) ∙ wrote.2)) refl) there named.4 stand mark)
      by false writes = λ m s handles events shown w default_value default_header is_value is_header.
          let named = has_unwritten s handles events
          (map entry_for table) w of h.service_id h.loan.publisher h.loan.number stand in
          let wrote = writes m s shown in
          let one : wrote.0 ≡ named.0 = same_Some wrote.0 named.0 (sym wrote.1 ∙ named.3) in
          subst (λ (t : List Made). Comes fixed_handlers defaults (Shows new) m s handles events
          (WriteCell of at value) Skipped (map entry_for t ++ No_entry ∷ []))
          (sym (same_table (Unwritten h) (Unwritten h') stood (ap (λ (i : SampleMutUninit). Unwritten i) same) is))
          (skip_comes fixed_handlers defaults (Shows new) m s handles events
          (map entry_for table) w default_value default_header is_value is_header (WriteCell of at value)
          (at_none _ _ _
          (ap (with_cell_at at) named.1 ∙ ap (if_there (h.loan.number, named.0))
          (ap (λ (l : Loan T U). nat_lt at (length l.cells)) (sym one) ∙ wrote.2)) refl) wrote.3)

  pub cell_passed : (at : ℕ) (value : T) → is_unwritten_entry (entry_for (slice_index_or table of Nothing)) ≡ false
      → Carries fixed_handlers defaults old old table (WriteCell of at value) Skipped table Nothing
  cell_passed at value other = λ m s handles events shown w default_value default_header is_value is_header.
      skip_comes fixed_handlers defaults (Shows old) m s handles events
      (map entry_for table) w default_value default_header is_value is_header (WriteCell of at value)
      (at_none _ _ _
      (ap (with_cell_at at) (lacks_unwritten s handles events (map entry_for table) w of
      (lacks is_unwritten_entry refl table of other))) refl) shown

  -- ---- a value is changed

  pub payload_carried : (h h' : SampleMut) (at : ℕ) (value : T) (is_there : Bool) (reply : Reply T U)
      → slice_index_or table of Nothing ≡ Written h → h' ≡ h
      → WritesAt old new h.loan.number at value is_there → reply ≡ cond is_there Done Skipped
      → table' ≡ slice_set table of (Written h')
      → Carries fixed_handlers defaults old new table (SetPayload of at value) reply table' Nothing
  payload_carried h h' at value is_there reply stood same writes so is =
      subst (λ (r : Reply T U). Carries fixed_handlers defaults old new table (SetPayload of at value) r table' Nothing)
      (sym so) (by is_there writes)
    where
      stand : slice_get (map entry_for table) of ≡ Some (Written_entry h.service_id h.loan.publisher h.loan.number)
      stand = entry-stands table of (Written h) stood (λ e. let clash : Written h ≡ Nothing = e in cc)

      -- the position names a written loan
      named_so : (s : State T U) (handles : List Handle) (n : ℕ) (l : Loan T U) → loan_at s handles of ≡ Some (n, l)
          → l.is_written ≡ true → written_at s handles of ≡ Some (n, l)
      named_so s handles n l there mark =
          ap (λ (o : Option (ℕ × Loan T U)). option_and_then (λ it. cond it.1.is_written (Some it) None) o) there
          ∙ ap (if_there (n, l)) mark

      by : (is_there : Bool) → WritesAt old new h.loan.number at value is_there
          → Carries fixed_handlers defaults old new table (SetPayload of at value)
          (cond is_there Done Skipped) table' Nothing
      by true writes = λ m s handles events shown w default_value default_header is_value is_header.
          let named = has_written s handles events
          (map entry_for table) w of h.service_id h.loan.publisher h.loan.number stand in
          let out =
          (((handle_of s handles events (map entry_for table) w of
          (Written_entry h.service_id h.loan.publisher h.loan.number) stand).2).2).0 in
          let mark : (named.0).is_written ≡ true =
          ap (λ (l : Loan T U). l.is_written) (same_Some named.0 out.0 (sym named.3 ∙ out.1)) ∙ out.3 in
          let wrote = writes m s shown in
          let one : wrote.0 ≡ named.0 = same_Some wrote.0 named.0 (sym wrote.1 ∙ named.3) in
          let there : Shows new m (with_loan s h.loan.number (Some (with_cell named.0 at value))) =
          subst (λ (l : Loan T U). Shows new m (with_loan s h.loan.number (Some (with_cell l at value)))) one wrote.3 in
          subst (λ (ks : List TableEntry). Comes fixed_handlers defaults (Shows new) m s handles events
          (SetPayload of at value) Done (ks ++ No_entry ∷ []))
          (sym (ap (λ (t : List Made). map entry_for t) is ∙ entries-set table of (Written h')
          ∙ ap (λ (i : SampleMut). slice_set (map entry_for table) of (entry_for (Written i))) same))
          (written_changes fixed_handlers defaults (Shows new) m s handles events
          (map entry_for table) w default_value default_header is_value is_header
          (SetPayload of at value) of h.service_id h.loan.publisher h.loan.number
          (with_cell named.0 at value)
          (at_some _ _ _ (h.loan.number, named.0)
          (ap (with_cell_at at) (named_so s handles h.loan.number named.0 named.2 mark)
          ∙ ap (if_there (h.loan.number, named.0))
          (ap (λ (l : Loan T U). nat_lt at (length l.cells)) (sym one) ∙ wrote.2)) refl) there named.4 stand mark)
      by false writes = λ m s handles events shown w default_value default_header is_value is_header.
          let named = has_written s handles events
          (map entry_for table) w of h.service_id h.loan.publisher h.loan.number stand in
          let out =
          (((handle_of s handles events (map entry_for table) w of
          (Written_entry h.service_id h.loan.publisher h.loan.number) stand).2).2).0 in
          let mark : (named.0).is_written ≡ true =
          ap (λ (l : Loan T U). l.is_written) (same_Some named.0 out.0 (sym named.3 ∙ out.1)) ∙ out.3 in
          let wrote = writes m s shown in
          let one : wrote.0 ≡ named.0 = same_Some wrote.0 named.0 (sym wrote.1 ∙ named.3) in
          subst (λ (t : List Made). Comes fixed_handlers defaults (Shows new) m s handles events
          (SetPayload of at value) Skipped (map entry_for t ++ No_entry ∷ []))
          (sym (same_table (Written h) (Written h') stood (ap (λ (i : SampleMut). Written i) same) is))
          (skip_comes fixed_handlers defaults (Shows new) m s handles events
          (map entry_for table) w default_value default_header is_value is_header (SetPayload of at value)
          (at_none _ _ _
          (ap (with_cell_at at) (named_so s handles h.loan.number named.0 named.2 mark)
          ∙ ap (if_there (h.loan.number, named.0))
          (ap (λ (l : Loan T U). nat_lt at (length l.cells)) (sym one) ∙ wrote.2)) refl) wrote.3)

  pub payload_passed : (at : ℕ) (value : T) → is_written_entry (entry_for (slice_index_or table of Nothing)) ≡ false
      → Carries fixed_handlers defaults old old table (SetPayload of at value) Skipped table Nothing
  payload_passed at value other = λ m s handles events shown w default_value default_header is_value is_header.
      skip_comes fixed_handlers defaults (Shows old) m s handles events
      (map entry_for table) w default_value default_header is_value is_header (SetPayload of at value)
      (at_none _ _ _
      (ap (with_cell_at at) (lacks_written s handles events (map entry_for table) w of
      (lacks is_written_entry refl table of other))) refl) shown

  -- ---- the user header is written

  pub unwritten_header_carried : (h h' : SampleMutUninit) (value : U) → slice_index_or table of Nothing ≡ Unwritten h
      → h' ≡ h
      → ((m : Messages T U) (s : State T U) → Shows old m s → (l : Loan T U) × (s.loans h.loan.number ≡ Some l)
      × Shows new m (with_loan s h.loan.number (Some (user_header_changed value l))))
      → table' ≡ slice_set table of (Unwritten h')
      → Carries fixed_handlers defaults old new table (WriteHeader of value) Done table' Nothing
  unwritten_header_carried h h' value stood same changes is =
      λ m s handles events shown w default_value default_header is_value is_header.
      let stand = entry-stands table of (Unwritten h) stood (λ e. let clash : Unwritten h ≡ Nothing = e in cc) in
      let named =
      has_unwritten s handles events (map entry_for table) w of h.service_id h.loan.publisher h.loan.number stand in
      let out =
      (((handle_of s handles events (map entry_for table) w of
      (Unwritten_entry h.service_id h.loan.publisher h.loan.number) stand).2).2).0 in
      let mark : (named.0).is_written ≡ false =
      ap (λ (l : Loan T U). l.is_written) (same_Some named.0 out.0 (sym named.3 ∙ out.1)) ∙ out.3 in
      let changed = changes m s shown in
      let there : Shows new m (with_loan s h.loan.number (Some (user_header_changed value named.0))) =
      subst (λ (l : Loan T U). Shows new m (with_loan s h.loan.number (Some (user_header_changed value l))))
      (same_Some changed.0 named.0 (sym changed.1 ∙ named.3)) changed.2 in
      subst (λ (ks : List TableEntry). Comes fixed_handlers defaults (Shows new) m s handles events
      (WriteHeader of value) Done (ks ++ No_entry ∷ []))
      (sym (ap (λ (t : List Made). map entry_for t) is ∙ entries-set table of (Unwritten h')
      ∙ ap (λ (i : SampleMutUninit). slice_set (map entry_for table) of (entry_for (Unwritten i))) same))
      (unwritten_changes fixed_handlers defaults (Shows new) m s handles events
      (map entry_for table) w default_value default_header is_value is_header
      (WriteHeader of value) of h.service_id h.loan.publisher h.loan.number
      (user_header_changed value named.0)
      (at_some _ _ _ (h.loan.number, named.0) named.2 refl) there named.4 stand mark)

  pub written_header_carried : (h h' : SampleMut) (value : U) → slice_index_or table of Nothing ≡ Written h → h' ≡ h
      → ((m : Messages T U) (s : State T U) → Shows old m s → (l : Loan T U) × (s.loans h.loan.number ≡ Some l)
      × Shows new m (with_loan s h.loan.number (Some (user_header_changed value l))))
      → table' ≡ slice_set table of (Written h')
      → Carries fixed_handlers defaults old new table (WriteHeader of value) Done table' Nothing
  written_header_carried h h' value stood same changes is =
      λ m s handles events shown w default_value default_header is_value is_header.
      let stand = entry-stands table of (Written h) stood (λ e. let clash : Written h ≡ Nothing = e in cc) in
      let named =
      has_written s handles events (map entry_for table) w of h.service_id h.loan.publisher h.loan.number stand in
      let out =
      (((handle_of s handles events (map entry_for table) w of
      (Written_entry h.service_id h.loan.publisher h.loan.number) stand).2).2).0 in
      let mark : (named.0).is_written ≡ true =
      ap (λ (l : Loan T U). l.is_written) (same_Some named.0 out.0 (sym named.3 ∙ out.1)) ∙ out.3 in
      let changed = changes m s shown in
      let there : Shows new m (with_loan s h.loan.number (Some (user_header_changed value named.0))) =
      subst (λ (l : Loan T U). Shows new m (with_loan s h.loan.number (Some (user_header_changed value l))))
      (same_Some changed.0 named.0 (sym changed.1 ∙ named.3)) changed.2 in
      subst (λ (ks : List TableEntry). Comes fixed_handlers defaults (Shows new) m s handles events
      (WriteHeader of value) Done (ks ++ No_entry ∷ []))
      (sym (ap (λ (t : List Made). map entry_for t) is ∙ entries-set table of (Written h')
      ∙ ap (λ (i : SampleMut). slice_set (map entry_for table) of (entry_for (Written i))) same))
      (written_changes fixed_handlers defaults (Shows new) m s handles events
      (map entry_for table) w default_value default_header is_value is_header
      (WriteHeader of value) of h.service_id h.loan.publisher h.loan.number
      (user_header_changed value named.0)
      (at_some _ _ _ (h.loan.number, named.0) named.2 refl) there named.4 stand mark)

  pub header_passed : (value : U) → is_loan_entry (entry_for (slice_index_or table of Nothing)) ≡ false
      → Carries fixed_handlers defaults old old table (WriteHeader of value) Skipped table Nothing
  header_passed value other = λ m s handles events shown w default_value default_header is_value is_header.
      skip_comes fixed_handlers defaults (Shows old) m s handles events
      (map entry_for table) w default_value default_header is_value is_header (WriteHeader of value)
      (at_none _ _ _
      (lacks_loan s handles events (map entry_for table) w of (lacks is_loan_entry refl table of other)) refl) shown

  -- ---- a loan is taken as written

  pub taken_carried : (h : SampleMutUninit) (h' : SampleMut) → slice_index_or table of Nothing ≡ Unwritten h
      → ((m : Messages T U) (s : State T U) → Shows old m s → (l : Loan T U) × (s.loans h.loan.number ≡ Some l)
      × ((is_initialized l ≡ true) × Shows new m (initialized s h.loan.number l)))
      → h'.service_id ≡ h.service_id → h'.loan.publisher ≡ h.loan.publisher → h'.loan.number ≡ h.loan.number
      → table' ≡ slice_set table of (Written h')
      → Carries fixed_handlers defaults old new table (AssumeInit of) Done table' Nothing
  taken_carried h h' stood takes service publisher number is =
      λ m s handles events shown w default_value default_header is_value is_header.
      let stand = entry-stands table of (Unwritten h) stood (λ e. let clash : Unwritten h ≡ Nothing = e in cc) in
      let named =
      has_unwritten s handles events (map entry_for table) w of h.service_id h.loan.publisher h.loan.number stand in
      let taken = takes m s shown in
      let one : taken.0 ≡ named.0 = same_Some taken.0 named.0 (sym taken.1 ∙ named.3) in
      let whole : is_initialized named.0 ≡ true = ap (λ (l : Loan T U). is_initialized l) (sym one) ∙ (taken.2).0 in
      let there : Shows new m (initialized s h.loan.number named.0) =
      subst (λ (l : Loan T U). Shows new m (initialized s h.loan.number l)) one (taken.2).1 in
      let same : entry_for (Written h') ≡ Written_entry h.service_id h.loan.publisher h.loan.number =
      λ i. Written_entry (service i) (publisher i) (number i) in
      subst (λ (ks : List TableEntry).
      Comes fixed_handlers defaults (Shows new) m s handles events (AssumeInit of) Done (ks ++ No_entry ∷ []))
      (sym (ap (λ (t : List Made). map entry_for t) is ∙ entries-set table of (Written h')
      ∙ ap (λ (k : TableEntry). slice_set (map entry_for table) of k) same))
      (unwritten_taken fixed_handlers defaults (Shows new) m s handles events
      (map entry_for table) w default_value default_header is_value is_header
      (AssumeInit of) of h.service_id h.loan.publisher h.loan.number
      (record (named.0) { is_written = true })
      (at_some _ _ _ (h.loan.number, named.0) named.1
      (sym (ap (λ (b : Bool). cond b (done (initialized s h.loan.number named.0)) (replied NotWritten s)) whole))) there
      named.4 stand refl)

  pub taken_refused : (h : SampleMutUninit) → slice_index_or table of Nothing ≡ Unwritten h
      → ((m : Messages T U) (s : State T U) → Shows old m s
      → (l : Loan T U) × (s.loans h.loan.number ≡ Some l) × ((is_initialized l ≡ false) × Shows new m s))
      → table' ≡ table
      → Carries fixed_handlers defaults old new table (AssumeInit of) NotWritten table' Nothing
  taken_refused h stood takes is = λ m s handles events shown w default_value default_header is_value is_header.
      let stand = entry-stands table of (Unwritten h) stood (λ e. let clash : Unwritten h ≡ Nothing = e in cc) in
      let named =
      has_unwritten s handles events (map entry_for table) w of h.service_id h.loan.publisher h.loan.number stand in
      let left = takes m s shown in
      let one : left.0 ≡ named.0 = same_Some left.0 named.0 (sym left.1 ∙ named.3) in
      let part : is_initialized named.0 ≡ false = ap (λ (l : Loan T U). is_initialized l) (sym one) ∙ (left.2).0 in
      subst (λ (t : List Made). Comes fixed_handlers defaults (Shows new) m s handles events (AssumeInit of) NotWritten
      (map entry_for t ++ No_entry ∷ [])) (sym is)
      (quiet_comes fixed_handlers defaults (Shows new) m s handles events
      (map entry_for table) w default_value default_header is_value is_header (AssumeInit of) NotWritten s
      (at_some _ _ _ (h.loan.number, named.0) named.1
      (sym (ap (λ (b : Bool). cond b (done (initialized s h.loan.number named.0)) (replied NotWritten s)) part)))
      (left.2).1
      (ports_stay_themselves s) (ports_come_themselves s) (waits_itself Nobody s) (λ n low. refl) (omega arith))

  pub taken_passed : is_unwritten_entry (entry_for (slice_index_or table of Nothing)) ≡ false
      → Carries fixed_handlers defaults old old table (AssumeInit of) Skipped table Nothing
  taken_passed other = λ m s handles events shown w default_value default_header is_value is_header.
      skip_comes fixed_handlers defaults (Shows old) m s handles events
      (map entry_for table) w default_value default_header is_value is_header (AssumeInit of)
      (at_none _ _ _ (lacks_unwritten s handles events (map entry_for table) w of
      (lacks is_unwritten_entry refl table of other)) refl) shown
