-- Loans of slices, with what a run holds.
use Rattle.std.proofs.Common.{◌≡◌, ℕ, true, false, List, [], ◌∷◌, ◌++◌, map, refl, sym, ap, subst, ◌∙◌, None, Some}
use Rattle.std.specs.Prelude.{slice_index_or}
use Rattle.iox2_machine.specs.machine.Environments.{fixed_handlers}
use Rattle.iox2_machine.specs.machine.Loans.{GrantLoan}
use Rattle.iox2_machine.specs.machine.State.{State, Messages}
use Rattle.iox2_machine.specs.declared.errors.LoanError.{LoanError}
use Rattle.iox2_domain.specs.Kept.{Kept as Domain}
use Rattle.iox2_domain.specs.Lending.{loan_memory}
use Rattle.iox2_domain.specs.Shows.{Shows}
use Rattle.iox2_pubsub.specs.declared.publisher.Publisher.{Publisher as PublisherHandle}
use Rattle.iox2_pubsub.specs.declared.sample_mut_uninit.SampleMutUninit.{SampleMutUninit}
use Rattle.iox2_commands.specs.Runs.{Defaults}
use Rattle.iox2_commands.specs.declared.command.Command.TheVariants.{LoanSlice}
use Rattle.iox2_commands.specs.declared.reply.Reply.TheVariants.{Skipped, Loaned, LoanRefused}
use Rattle.iox2_runs.specs.Carries.{entry_for, Carries}
use Rattle.iox2_runs.specs.RunSteps.{Comes}
use Rattle.iox2_runs.specs.Services.{has_slices}
use Rattle.iox2_runs.specs.Tables.{TableEntry, Unwritten_entry, IsUnblockedPort}
use Rattle.iox2_runs.specs.declared.runs.made.Made.{Made}
use Rattle.iox2_runs.specs.declared.runs.made.Made.TheVariants.{Nothing, Publisher as MadePublisher, Unwritten}
use Rattle.iox2_runs.proofs.TableEntries.{entry-stands, lacks}
use Rattle.iox2_runs.proofs.TableLooks.{is_publisher_entry}
use Rattle.iox2_runs.proofs.TableMakes.{slice_skipped, slice_waiting, slice_elsewhere_skipped, slice_comes}
use Rattle.iox2_runs.proofs.TableMakes.{slice_refused_comes, loan_any}

module _ {T U F G : Type 0} (defaults : Defaults T U) (old new : Domain T U F G) (table : List Made) (of len : ℕ) where
  -- there is no such publisher
  pub slice_passed : is_publisher_entry (entry_for (slice_index_or table of Nothing)) ≡ false
      → Carries fixed_handlers defaults old old table (LoanSlice of len) Skipped table Nothing
  slice_passed other = λ m s handles events shown w default_value default_header is_value is_header.
      slice_skipped fixed_handlers defaults (Shows old) m s handles events
      (map entry_for table) w default_value default_header is_value is_header of len
      (lacks is_publisher_entry refl table of other) shown

  -- messages aren't slices of elements of one unit
  pub slice_of_other : has_slices old.config ≡ false
      → Carries fixed_handlers defaults old old table (LoanSlice of len) Skipped table Nothing
  slice_of_other other = λ m s handles events shown w default_value default_header is_value is_header.
      slice_elsewhere_skipped fixed_handlers defaults (Shows old) m s handles events
      (map entry_for table) w default_value default_header is_value is_header of len
      (ap (λ (t : State T U). has_slices t.config) shown.state ∙ other) shown

  -- the publisher waits for a receiver
  pub slice_held_up : (h : PublisherHandle) → slice_index_or table of Nothing ≡ MadePublisher h
      → ((m : Messages T U) (s : State T U) → Shows old m s → IsUnblockedPort s h.id → ⊥)
      → Carries fixed_handlers defaults old old table (LoanSlice of len) Skipped table Nothing
  slice_held_up h at waits = λ m s handles events shown w default_value default_header is_value is_header.
      slice_waiting fixed_handlers defaults (Shows old) m s handles events
      (map entry_for table) w default_value default_header is_value is_header of len h.service_id h.id
      (entry-stands table of (MadePublisher h) at (λ e. let clash : MadePublisher h ≡ Nothing = e in cc))
      (waits m s shown) shown

  module _ (h : PublisherHandle) (at : slice_index_or table of Nothing ≡ MadePublisher h)
      (free : (m : Messages T U) (s : State T U) → Shows old m s → IsUnblockedPort s h.id)
      (slices : has_slices old.config ≡ true) where
    -- the loan is granted
    pub slice_carried : (h' : SampleMutUninit)
        → ((m : Messages T U) (s : State T U) → Shows old m s → (s' : State T U) × Shows new m s'
        × ((header : U) × defaults.IsDefaultHeader header
        × GrantLoan (loan_memory s h.id) header true len s h.id s' None))
        → h'.service_id ≡ (new.config).service_id → h'.loan.publisher ≡ h.id → h'.loan.number ≡ old.next_message
        → Carries fixed_handlers defaults old new table (LoanSlice of len) Loaned table (Unwritten h')
    slice_carried h' lends service publisher number =
        λ m s handles events shown w default_value default_header is_value is_header.
        let lent = lends m s shown in
        let loan = lent.2 in
        let made : Unwritten_entry h'.service_id h.id s.next_message ≡ entry_for (Unwritten h') =
        λ i. Unwritten_entry h'.service_id (sym publisher i)
        ((ap (λ (t : State T U). t.next_message) shown.state ∙ sym number) i) in
        subst (λ (k : TableEntry). Comes fixed_handlers defaults (Shows new) m s handles events
        (LoanSlice of len) Loaned (map entry_for table ++ k ∷ [])) made
        (slice_comes fixed_handlers defaults (Shows new) m s handles events
        (map entry_for table) w default_value default_header is_value is_header of len h.service_id h.id
        (entry-stands table of (MadePublisher h) at (λ e. let clash : MadePublisher h ≡ Nothing = e in cc))
        (free m s shown)
        (ap (λ (t : State T U). has_slices t.config) shown.state ∙ slices)
        loan.0 loan.1 lent.0 (loan_any (loan_memory s h.id) loan.0 true len s h.id lent.0 None loan.2) lent.1
        h'.service_id (service ∙ sym (ap (λ (t : State T U). (t.config).service_id) (lent.1).state)))

    -- or refused
    pub slice_denied : (e : LoanError)
        → ((m : Messages T U) (s : State T U) → Shows old m s → (s' : State T U) × Shows new m s'
        × ((s' ≡ s) × ((header : U) → GrantLoan (loan_memory s h.id) header true len s h.id s' (Some e))))
        → Carries fixed_handlers defaults old new table (LoanSlice of len) (LoanRefused e) table Nothing
    slice_denied e refuses = λ m s handles events shown w default_value default_header is_value is_header.
        let refused = refuses m s shown in
        slice_refused_comes fixed_handlers defaults (Shows new) m s handles events
        (map entry_for table) w default_value default_header is_value is_header of len h.service_id h.id
        (entry-stands table of (MadePublisher h) at (λ e. let clash : MadePublisher h ≡ Nothing = e in cc))
        (free m s shown)
        (ap (λ (t : State T U). has_slices t.config) shown.state ∙ slices)
        default_header is_header refused.0 e (loan_any (loan_memory s h.id) default_header true len s h.id refused.0
        (Some e) ((refused.2).1 default_header)) refused.1
