-- A step on what is kept is a step on each state that is shown.
use Rattle.std.proofs.Common.{◌≡◌, ◌⊎◌, ℕ, ◌≤◌, ◌<◌, true, false, cond, List, refl, sym, ap, subst, ◌∙◌, arith, eqb}
use Rattle.std.proofs.Common.{⊎_elim, Option, None, Some}
use Rattle.std.specs.Option.{MatchOption}
use Rattle.std.proofs.lemmas.Bool.{eqb-true, eq-eqb, ne_eqb}
use Rattle.std.proofs.lemmas.Option.{none-some}
use Rattle.iox2_machine.specs.machine.Records.{Entry, Loan, Environment}
use Rattle.iox2_machine.specs.machine.State.{State, Messages}
use Rattle.iox2_laws.proofs.LoanKeeping.{LoansFollow}
use Rattle.iox2_commands.specs.Outcomes.{Handle, Outcome, Event, No_event, Message_sent, Message_received}
use Rattle.iox2_commands.specs.Outcomes.{messages_after}
use Rattle.iox2_commands.specs.Step.{Step, sample_at}
use Rattle.iox2_machine.specs.Stored.{Stored, StoredShows}
use Rattle.iox2_commands.specs.StoredSteps.{StoredStep, IsNewEntry}
use Rattle.iox2_commands.specs.declared.command.Command.{Command}
use Rattle.iox2_commands.specs.declared.command.Command.TheVariants.{Read, ReadHeader, ReadUserHeader}
use Rattle.iox2_commands.proofs.StepLaws.{IsSound, step_sound}

module _ {T U : Type 0} where
  -- what is read of a sample is the same where more messages are known
  read_more : (m m' : Messages T U) (more : (n : ℕ) (entry : Entry T U) → m n ≡ Some entry → m' n ≡ Some entry)
      → (o : Option (ℕ × ℕ × ℕ)) (P : Type 0) (Q : Entry T U → Type 0)
      → MatchOption o P (λ sample. MatchOption (m sample.2) ⊥ Q)
      → MatchOption o P (λ sample. MatchOption (m' sample.2) ⊥ Q)
  read_more m m' more None P Q h = h
  read_more m m' more (Some sample) P Q h = at (m sample.2) refl h
    where
      at : (v : Option (Entry T U)) → m sample.2 ≡ v → MatchOption v ⊥ Q → MatchOption (m' sample.2) ⊥ Q
      at None e k = absurd k
      at (Some entry) e k = rw (more sample.2 entry e) k

  -- a step looks at the messages only where it reads a sample
  step_more : (environment : Environment) (default_value : T) (default_header : U) (m m' : Messages T U)
      (more : (n : ℕ) (entry : Entry T U) → m n ≡ Some entry → m' n ≡ Some entry)
      (s : State T U) (handles : List Handle) (command : Command T U) (o : Outcome T U)
      → Step environment default_value default_header m s handles command o
      → Step environment default_value default_header m' s handles command o
  step_more environment default_value default_header m m' more s handles (Read of at) o h =
      read_more m m' more (sample_at s handles of) _ _ h
  step_more environment default_value default_header m m' more s handles (ReadHeader of) o h =
      read_more m m' more (sample_at s handles of) _ _ h
  step_more environment default_value default_header m m' more s handles (ReadUserHeader of) o h =
      read_more m m' more (sample_at s handles of) _ _ h
  step_more environment default_value default_header m m' more s handles _ o h = h

  -- an entry that is kept afterwards is that of the messages afterwards
  entries_after : (event : Event T U) (old m : Messages T U)
      → ((n : ℕ) (entry : Entry T U) → old n ≡ Some entry → m n ≡ Some entry)
      → (n : ℕ) (entry : Entry T U) → IsNewEntry event n entry
      ⊎ ((old n ≡ Some entry) × ((entry' : Entry T U) → ¬ IsNewEntry event n entry'))
      → messages_after event m n ≡ Some entry
  entries_after No_event old m shown n entry kept = ⊎_elim (λ v. absurd v) (λ h. shown n entry h.0) kept
  entries_after (Message_received p q n') old m shown n entry kept =
      ⊎_elim (λ v. absurd v) (λ h. shown n entry h.0) kept
  entries_after (Message_sent p n' entry') old m shown n entry kept =
      ⊎_elim
      (λ h. rw (eq-eqb n n' (sym h.0)) (ap Some h.1))
      (λ h. rw (ne_eqb n n' (λ e. h.1 entry' (sym e, refl))) (shown n entry h.0))
      kept

  -- no message is known under a number that wasn't given out
  below_after : (event : Event T U) (m : Messages T U) (next next' : ℕ) → next ≤ next'
      → ((n : ℕ) → next ≤ n → m n ≡ None)
      → ((p n : ℕ) (entry : Entry T U) → event ≡ Message_sent p n entry → n < next') → (n : ℕ) → next' ≤ n
      → messages_after event m n ≡ None
  below_after No_event m next next' rises below sent n h = below n (omega arith)
  below_after (Message_received p q n') m next next' rises below sent n h = below n (omega arith)
  below_after (Message_sent p n' entry) m next next' rises below sent n h =
      let low : n' < next' = sent p n' entry refl in
      elim (eqb n n') as (λ b. eqb n n' ≡ b → cond b (Some entry) (m n) ≡ None) [
        | true ↦ λ e. let same : n ≡ n' = eqb-true n n' e in absurd (omega arith)
        | false ↦ λ _. below n (omega arith)
      ] refl

  -- no message is known under the number of a loan: it was one before, or its number wasn't given out, and it isn't the
  -- one that was sent
  unsent_after : (event : Event T U) (m : Messages T U) (s s' : State T U) → LoansFollow s s'
      → ((n : ℕ) → s.next_message ≤ n → m n ≡ None) → ((n : ℕ) (l : Loan T U) → s.loans n ≡ Some l → m n ≡ None)
      → ((p n : ℕ) (entry : Entry T U) → event ≡ Message_sent p n entry → s'.loans n ≡ None)
      → (n : ℕ) (l' : Loan T U) → s'.loans n ≡ Some l' → messages_after event m n ≡ None
  unsent_after event m s s' follows below unsent unheld n l' e = at event unheld
    where
      before : m n ≡ None
      before = ⊎_elim (λ (old : (l : Loan T U) × (s.loans n ≡ Some l)). unsent n old.0 old.1)
          (λ (new : s.next_message ≤ n). below n new) (follows n l' e)

      at : (event : Event T U) → ((p n : ℕ) (entry : Entry T U) → event ≡ Message_sent p n entry → s'.loans n ≡ None)
          → messages_after event m n ≡ None
      at No_event unheld = before
      at (Message_received p q n') unheld = before
      at (Message_sent p n' entry) unheld =
          rw (ne_eqb n n' (λ same. none-some l' (sym (unheld p n' entry refl) ∙ ap s'.loans (sym same) ∙ e))) before

  pub lift : (environment : Environment) (default_value : T) (default_header : U) (old new : Stored T U)
      (handles : List Handle) (command : Command T U) (o : Outcome T U)
      → StoredStep environment default_value default_header old handles command o new
      → (m : Messages T U) (s : State T U) → StoredShows old m s
      → (m' : Messages T U) × (s' : State T U) × StoredShows new m' s'
      × Step environment default_value default_header m s handles command o × (m' ≡ messages_after o.event m)
      × (s' ≡ o.state)
  lift environment default_value default_header old new handles command o moves m s shown =
      let step : Step environment default_value default_header m s handles command o =
      step_more environment default_value default_header old.entries m shown.entries s handles command o
      (subst (λ v. Step environment default_value default_header old.entries v handles command o)
      (sym shown.state) moves.step) in
      let sound : IsSound s o =
      step_sound environment default_value default_header m s handles shown.well_formed command o step in (
        messages_after o.event m,
        o.state,
        record {
          state = moves.state;
          well_formed = sound.well_formed;
          entries =
              λ n entry e. entries_after o.event old.entries m shown.entries n entry (moves.entries_kept n entry e);
          complete = moves.complete;
          below = below_after o.event m s.next_message (o.state).next_message
              (sound.advances).next_message shown.below sound.sent_below;
          unsent = unsent_after o.event m s o.state sound.loans_follow shown.below shown.unsent sound.sent_unheld;
        },
        step,
        refl,
        refl,
      )
