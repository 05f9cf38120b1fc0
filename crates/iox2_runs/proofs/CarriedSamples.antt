-- Commands on samples, and reads, with what a run holds.
use Rattle.std.proofs.Common.{◌≡◌, ℕ, Bool, true, false, cond, List, [], ◌∷◌, ◌++◌, map, refl, sym, ap, subst, ◌∙◌}
use Rattle.std.proofs.Common.{Option, None, Some}
use Rattle.std.specs.Prelude.{slice_get, slice_set, slice_index_or}
use Rattle.std.specs.Option.{option_map, option_map_or}
use Rattle.std.proofs.lemmas.Option.{same_Some}
use Rattle.iox2_machine.specs.machine.Records.{Entry, Loan, Environment}
use Rattle.iox2_machine.specs.machine.State.{State, Messages}
use Rattle.iox2_machine.specs.machine.Receives.{Receive, Got_sample, No_sample, Receive_error}
use Rattle.iox2_machine.specs.machine.Mailbox.{is_borrowed}
use Rattle.iox2_machine.specs.machine.Releases.{released}
use Rattle.iox2_machine.specs.declared.errors.ReceiveError.{ReceiveError}
use Rattle.iox2_laws.proofs.ReceiveLaws.{receive_advances}
use Rattle.iox2_laws.proofs.ReleaseLaws.{released_advances}
use Rattle.iox2_domain.specs.Kept.{Kept as Domain, state_of}
use Rattle.iox2_domain.specs.Shows.{Shows}
use Rattle.iox2_pubsub.specs.declared.sample_mut_uninit.SampleMutUninit.{SampleMutUninit}
use Rattle.iox2_pubsub.specs.declared.sample_mut.SampleMut.{SampleMut}
use Rattle.iox2_pubsub.specs.declared.subscriber.Subscriber.{Subscriber as SubscriberHandle}
use Rattle.iox2_pubsub.specs.Sample.{Sample as SampleHandle}
use Rattle.iox2_commands.specs.Outcomes.{Handle, Event, replied}
use Rattle.iox2_commands.specs.Runs.{Defaults}
use Rattle.iox2_commands.specs.Step.{Step, sample_at, loan_at, with_cell_at}
use Rattle.iox2_runs.specs.Tables.{TableEntry, No_entry, Sample_entry, IsTable}
use Rattle.iox2_runs.specs.RunSteps.{Comes}
use Rattle.iox2_runs.specs.Carries.{entry_for, Carries}
use Rattle.iox2_commands.specs.declared.command.Command.TheVariants.{Receive as ReceiveCommand}
use Rattle.iox2_commands.specs.declared.command.Command.TheVariants.{Release as ReleaseCommand, Read as ReadCommand}
use Rattle.iox2_commands.specs.declared.reply.Reply.{Reply}
use Rattle.iox2_commands.specs.declared.reply.Reply.TheVariants.{Done, Skipped, Sample as SampleReply, NoSample}
use Rattle.iox2_commands.specs.declared.reply.Reply.TheVariants.{ReceiveRefused, Cell}
use Rattle.iox2_runs.specs.declared.runs.made.Made.{Made}
use Rattle.iox2_runs.specs.declared.runs.made.Made.TheVariants.{Nothing, Subscriber as MadeSubscriber, Unwritten}
use Rattle.iox2_runs.specs.declared.runs.made.Made.TheVariants.{Written, Sample as MadeSample}
use Rattle.iox2_runs.proofs.TableLooks.{is_subscriber_entry, is_sample_entry, is_loan_entry, lacks_sample, lacks_loan}
use Rattle.iox2_runs.proofs.TableLooks.{has_unwritten, has_written, has_sample}
use Rattle.iox2_runs.specs.Cells.{LoanHasAt, MessageHasAt}
use Rattle.iox2_runs.proofs.CellLists.{index_within, index_past}
use Rattle.iox2_runs.proofs.TableCalls.{at_none, at_some}
use Rattle.iox2_runs.proofs.TableSamples.{receive_skipped, receive_elsewhere, receive_quiet_comes, receive_comes}
use Rattle.iox2_runs.proofs.TableSamples.{release_skipped, release_comes, read_comes}
use Rattle.iox2_runs.proofs.TableEntries.{entries-set, entry-stands, lacks}

module _ {T U F G : Type 0} (environment : Environment) (defaults : Defaults T U) (old new : Domain T U F G)
    (table table' : List Made) (of : ℕ) where
  -- ---- release

  pub release_passed : is_sample_entry (entry_for (slice_index_or table of Nothing)) ≡ false
      → Carries environment defaults old old table (ReleaseCommand of) Skipped table Nothing
  release_passed other = λ m s handles events shown w default_value default_header is_value is_header.
      release_skipped environment defaults (Shows old) m s handles events
      (map entry_for table) w default_value default_header is_value is_header of
      (lacks is_sample_entry refl table of other) shown

  pub release_carried : (h : SampleHandle) → slice_index_or table of Nothing ≡ MadeSample h
      → is_borrowed h.sample.number ((state_of old).mailboxes h.origin h.sample.subscriber) ≡ true
      → ((m : Messages T U) (s : State T U) → Shows old m s → (p : ℕ)
      → is_borrowed h.sample.number (s.mailboxes p h.sample.subscriber) ≡ true
      → (s' : State T U) × Shows new m s' × (s' ≡ released s p h.sample.subscriber h.sample.number))
      → table' ≡ slice_set table of Nothing
      → Carries environment defaults old new table (ReleaseCommand of) Done table' Nothing
  release_carried h at live releases is = λ m s handles events shown w default_value default_header is_value is_header.
      let freed =
      releases m s shown h.origin
      (subst (λ (t : State T U). is_borrowed h.sample.number (t.mailboxes h.origin h.sample.subscriber) ≡ true)
      (sym shown.state) live) in
      let after : map entry_for table' ≡ slice_set (map entry_for table) of No_entry =
      ap (λ (t : List Made). map entry_for t) is ∙ entries-set table of Nothing in
      subst (λ (ks : List TableEntry). Comes environment defaults (Shows new) m s handles events
      (ReleaseCommand of) Done (ks ++ No_entry ∷ [])) (sym after)
      (release_comes environment defaults (Shows new) m s handles events (map entry_for table) w default_value
      default_header is_value is_header of h.service_id h.origin h.sample.subscriber h.sample.number
      (entry-stands table of (MadeSample h) at (λ e. let clash : MadeSample h ≡ Nothing = e in cc))
      (released_advances s h.origin h.sample.subscriber h.sample.number).next_message
      (subst (Shows new m) freed.2 freed.1))

  -- ---- receive

  pub receive_passed : is_subscriber_entry (entry_for (slice_index_or table of Nothing)) ≡ false
      → Carries environment defaults old old table (ReceiveCommand of) Skipped table Nothing
  receive_passed other = λ m s handles events shown w default_value default_header is_value is_header.
      receive_skipped environment defaults (Shows old) m s handles events
      (map entry_for table) w default_value default_header is_value is_header of
      (lacks is_subscriber_entry refl table of other) shown

  pub receive_of_other : ((old.config).units_per_element ≡ 1 → ⊥)
      → Carries environment defaults old old table (ReceiveCommand of) Skipped table Nothing
  receive_of_other other = λ m s handles events shown w default_value default_header is_value is_header.
      receive_elsewhere environment defaults (Shows old) m s handles events
      (map entry_for table) w default_value default_header is_value is_header of
      (λ units. other (sym (ap (λ (t : State T U). (t.config).units_per_element) shown.state) ∙ units)) shown

  pub receive_carried : (h : SubscriberHandle) (h' : SampleHandle) (origin : ℕ)
      → slice_index_or table of Nothing ≡ MadeSubscriber h
      → (old.config).units_per_element ≡ 1
      → ((m : Messages T U) (s : State T U) → Shows old m s
      → (s' : State T U) × Shows new m s' × Receive environment s h.id s' (Got_sample h'.origin h'.sample.number))
      → h'.service_id ≡ (new.config).service_id → h'.sample.subscriber ≡ h.id → origin ≡ h'.origin
      → Carries environment defaults old new table (ReceiveCommand of) (SampleReply origin) table (MadeSample h')
  receive_carried h h' origin at units receives service subscriber same =
      λ m s handles events shown w default_value default_header is_value is_header.
      let got = receives m s shown in
      let made : Sample_entry h'.service_id h'.origin h.id h'.sample.number ≡ entry_for (MadeSample h') =
      λ i. Sample_entry h'.service_id h'.origin (sym subscriber i) h'.sample.number in
      subst (λ (p : ℕ). Comes environment defaults (Shows new) m s handles events (ReceiveCommand of) (SampleReply p)
      (map entry_for table ++ entry_for (MadeSample h') ∷ [])) (sym same)
      (subst (λ (k : TableEntry). Comes environment defaults (Shows new) m s handles events (ReceiveCommand of)
      (SampleReply h'.origin) (map entry_for table ++ k ∷ [])) made
      (receive_comes environment defaults (Shows new) m s handles events
      (map entry_for table) w default_value default_header is_value is_header of h.service_id h.id
      (entry-stands table of (MadeSubscriber h) at (λ e. let clash : MadeSubscriber h ≡ Nothing = e in cc))
      (ap (λ (t : State T U). (t.config).units_per_element) shown.state ∙ units)
      got.0 h'.origin h'.sample.number got.2
      (receive_advances environment s h.id got.0 (Got_sample h'.origin h'.sample.number) got.2).next_message got.1
      h'.service_id (service ∙ sym (ap (λ (t : State T U). (t.config).service_id) (got.1).state))))

  pub receive_none : (h : SubscriberHandle) → slice_index_or table of Nothing ≡ MadeSubscriber h
      → (old.config).units_per_element ≡ 1
      → ((m : Messages T U) (s : State T U) → Shows old m s
      → (s' : State T U) × Shows new m s' × Receive environment s h.id s' No_sample)
      → Carries environment defaults old new table (ReceiveCommand of) NoSample table Nothing
  receive_none h at units receives = λ m s handles events shown w default_value default_header is_value is_header.
      let got = receives m s shown in
      receive_quiet_comes environment defaults (Shows new) m s handles events
      (map entry_for table) w default_value default_header is_value is_header of h.service_id h.id
      (entry-stands table of (MadeSubscriber h) at (λ e. let clash : MadeSubscriber h ≡ Nothing = e in cc))
      (ap (λ (t : State T U). (t.config).units_per_element) shown.state ∙ units)
      got.0 No_sample NoSample (λ p n e. let clash : No_sample ≡ Got_sample p n = e in absurd cc) refl got.2
      (receive_advances environment s h.id got.0 No_sample got.2).next_message got.1

  pub receive_denied : (h : SubscriberHandle) (e : ReceiveError) → slice_index_or table of Nothing ≡ MadeSubscriber h
      → (old.config).units_per_element ≡ 1
      → ((m : Messages T U) (s : State T U) → Shows old m s
      → (s' : State T U) × Shows new m s' × Receive environment s h.id s' (Receive_error e))
      → Carries environment defaults old new table (ReceiveCommand of) (ReceiveRefused e) table Nothing
  receive_denied h e at units receives = λ m s handles events shown w default_value default_header is_value is_header.
      let got = receives m s shown in
      receive_quiet_comes environment defaults (Shows new) m s handles events
      (map entry_for table) w default_value default_header is_value is_header of h.service_id h.id
      (entry-stands table of (MadeSubscriber h) at (λ e. let clash : MadeSubscriber h ≡ Nothing = e in cc))
      (ap (λ (t : State T U). (t.config).units_per_element) shown.state ∙ units)
      got.0 (Receive_error e) (ReceiveRefused e)
      (λ p n e2. let clash : Receive_error e ≡ Got_sample p n = e2 in absurd cc) refl got.2
      (receive_advances environment s h.id got.0 (Receive_error e) got.2).next_message got.1

  -- ---- read

  module _ (m : Messages T U) (s : State T U) (handles : List Handle) (default_value : T) (default_header : U)
      (at : ℕ) where
    -- the reply is this one
    abbrev Reads : Reply T U → Type 0
    Reads reply = Step environment default_value default_header m s handles (ReadCommand of at) (replied reply s)

    -- a loan is read, by what it has at the index
    read_loan : (n : ℕ) (l : Loan T U) (cell : Option (Option T)) → sample_at s handles of ≡ None
        → loan_at s handles of ≡ Some (n, l) → slice_get l.cells at ≡ cell
        → Reads (option_map_or (λ it. Cell it) cell Skipped)
    read_loan n l None none there is =
        at_none _ _ _ none
        (at_none _ _ _ (ap (with_cell_at at) there
        ∙ ap (λ (b : Bool). cond {A = Option (ℕ × Loan T U)} b (Some (n, l)) None) (index_past l.cells at is)) refl)
    read_loan n l (Some cell) none there is =
        at_none _ _ _ none
        (at_some _ _ _ (n, l) (ap (with_cell_at at) there
        ∙ ap (λ (b : Bool). cond {A = Option (ℕ × Loan T U)} b (Some (n, l)) None) (index_within l.cells at cell is))
        (at_some _ _ _ cell is refl))

    -- so is a sample
    read_sample : (p q n : ℕ) (entry : Entry T U) (value : Option T) → sample_at s handles of ≡ Some (p, q, n)
        → m n ≡ Some entry → slice_get entry.values at ≡ value
        → Reads (option_map_or (λ it. Cell (Some it)) value Skipped)
    read_sample p q n entry None there sent is =
        at_some _ _ _ (p, q, n) there (at_some _ _ _ entry sent (at_none _ _ _ is refl))
    read_sample p q n entry (Some value) there sent is =
        at_some _ _ _ (p, q, n) there (at_some _ _ _ entry sent (at_some _ _ _ value is refl))

  -- a read at which this step replies so, with the table as it was
  reads : (at : ℕ) (reply : Reply T U)
      → ((m : Messages T U) (s : State T U) (handles : List Handle) (events : List (Event T U)) → Shows old m s
      → IsTable s handles events (map entry_for table)
      → (default_value : T) (default_header : U)
      → Step environment default_value default_header m s handles (ReadCommand of at) (replied reply s))
      → Carries environment defaults old old table (ReadCommand of at) reply table Nothing
  reads at reply step = λ m s handles events shown w default_value default_header is_value is_header.
      read_comes environment defaults (Shows old) m s handles events
      (map entry_for table) w default_value default_header is_value is_header of at reply
      (step m s handles events shown w default_value default_header) shown

  pub read_unwritten : (at : ℕ) (h : SampleMutUninit) (cell : Option (Option T)) (reply : Reply T U)
      → slice_index_or table of Nothing ≡ Unwritten h
      → LoanHasAt old h.loan.number at cell → reply ≡ option_map_or (λ it. Cell it) cell Skipped
      → Carries environment defaults old old table (ReadCommand of at) reply table Nothing
  read_unwritten at h cell reply stood has so =
      subst (λ (r : Reply T U). Carries environment defaults old old table (ReadCommand of at) r table Nothing) (sym so)
      (reads at (option_map_or (λ it. Cell it) cell Skipped) (λ m s handles events shown w default_value default_header.
      let stand = entry-stands table of (Unwritten h) stood (λ e. let clash : Unwritten h ≡ Nothing = e in cc) in
      let named =
      has_unwritten s handles events (map entry_for table) w of h.service_id h.loan.publisher h.loan.number stand in
      let read = has m s shown in
      read_loan m s handles default_value default_header at h.loan.number named.0 cell
      (lacks_sample s handles events (map entry_for table) w of
      (lacks is_sample_entry refl table of (ap (λ (v : Made). is_sample_entry (entry_for v)) stood))) named.2
      (ap (λ (l : Loan T U). slice_get l.cells at) (same_Some named.0 read.0 (sym named.3 ∙ read.1)) ∙ read.2)))

  -- the cell of a written loan holds the value
  value_cell : (value : Option T) → option_map_or {U = Reply T U} (λ it. Cell (Some it)) value Skipped ≡ option_map_or
      (λ it. Cell it) (option_map Some value) Skipped
  value_cell None = refl
  value_cell (Some value) = refl

  pub read_written : (at : ℕ) (h : SampleMut) (value : Option T) (reply : Reply T U)
      → slice_index_or table of Nothing ≡ Written h
      → LoanHasAt old h.loan.number at (option_map Some value)
      → reply ≡ option_map_or (λ it. Cell (Some it)) value Skipped
      → Carries environment defaults old old table (ReadCommand of at) reply table Nothing
  read_written at h value reply stood has so =
      subst (λ (r : Reply T U). Carries environment defaults old old table (ReadCommand of at) r table Nothing)
      (sym (so ∙ value_cell value))
      (reads at (option_map_or (λ it. Cell it) (option_map Some value) Skipped)
      (λ m s handles events shown w default_value default_header.
      let stand = entry-stands table of (Written h) stood (λ e. let clash : Written h ≡ Nothing = e in cc) in
      let named =
      has_written s handles events (map entry_for table) w of h.service_id h.loan.publisher h.loan.number stand in
      let read = has m s shown in
      read_loan m s handles default_value default_header at h.loan.number named.0 (option_map Some value)
      (lacks_sample s handles events (map entry_for table) w of
      (lacks is_sample_entry refl table of (ap (λ (v : Made). is_sample_entry (entry_for v)) stood))) named.2
      (ap (λ (l : Loan T U). slice_get l.cells at) (same_Some named.0 read.0 (sym named.3 ∙ read.1)) ∙ read.2)))

  pub read_sampled : (at : ℕ) (h : SampleHandle) (value : Option T) (reply : Reply T U)
      → slice_index_or table of Nothing ≡ MadeSample h
      → MessageHasAt old h.sample.number at value → reply ≡ option_map_or (λ it. Cell (Some it)) value Skipped
      → Carries environment defaults old old table (ReadCommand of at) reply table Nothing
  read_sampled at h value reply stood has so =
      subst (λ (r : Reply T U). Carries environment defaults old old table (ReadCommand of at) r table Nothing) (sym so)
      (reads at (option_map_or (λ it. Cell (Some it)) value Skipped)
      (λ m s handles events shown w default_value default_header.
      let stand = entry-stands table of (MadeSample h) stood (λ e. let clash : MadeSample h ≡ Nothing = e in cc) in
      let read = has m s shown in
      read_sample m s handles default_value default_header at h.origin h.sample.subscriber h.sample.number read.0 value
      (has_sample s handles events
      (map entry_for table) w of h.service_id h.origin h.sample.subscriber h.sample.number stand) read.1 read.2))

  pub read_passed : (at : ℕ) → is_sample_entry (entry_for (slice_index_or table of Nothing)) ≡ false
      → is_loan_entry (entry_for (slice_index_or table of Nothing)) ≡ false
      → Carries environment defaults old old table (ReadCommand of at) Skipped table Nothing
  read_passed at no_sample no_loan =
      reads at Skipped (λ m s handles events shown w default_value default_header.
      at_none _ _ _
      (lacks_sample s handles events (map entry_for table) w of (lacks is_sample_entry refl table of no_sample))
      (at_none _ _ _ (ap (with_cell_at at)
      (lacks_loan s handles events (map entry_for table) w of (lacks is_loan_entry refl table of no_loan))) refl))
