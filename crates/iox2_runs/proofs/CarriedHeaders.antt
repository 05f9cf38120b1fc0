-- Reads of headers, with what a run holds.
use Rattle.std.proofs.Common.{◌≡◌, ℕ, false, List, [], ◌∷◌, ◌++◌, map, refl, sym, ap, subst, ◌∙◌, Some, arith}
use Rattle.std.specs.Prelude.{slice_index_or, MatchOption}
use Rattle.std.proofs.lemmas.Option.{same_Some}
use Rattle.iox2_machine.specs.machine.Environments.{fixed_handlers}
use Rattle.iox2_machine.specs.machine.Records.{Entry, Loan}
use Rattle.iox2_machine.specs.machine.State.{State, Messages}
use Rattle.iox2_machine.specs.declared.header.Header.{Header}
use Rattle.iox2_laws.proofs.PortsCome.{ports_come_themselves}
use Rattle.iox2_laws.proofs.PortsStay.{ports_stay_themselves}
use Rattle.iox2_laws.proofs.Waits.{waits_itself}
use Rattle.iox2_domain.specs.Kept.{Kept as Domain}
use Rattle.iox2_domain.specs.Shows.{Shows}
use Rattle.iox2_pubsub.specs.Sample.{Sample as SampleHandle}
use Rattle.iox2_pubsub.specs.declared.sample_mut.SampleMut.{SampleMut}
use Rattle.iox2_pubsub.specs.declared.sample_mut_uninit.SampleMutUninit.{SampleMutUninit}
use Rattle.iox2_commands.specs.Outcomes.{Handle, Event, Outcome, replied, skipped}
use Rattle.iox2_commands.specs.Runs.{Defaults}
use Rattle.iox2_commands.specs.Step.{Step, loan_at, sample_at}
use Rattle.iox2_commands.specs.declared.command.Command.{Command}
use Rattle.iox2_commands.specs.declared.command.Command.TheVariants.{ReadHeader, ReadUserHeader}
use Rattle.iox2_commands.specs.declared.reply.Reply.{Reply}
use Rattle.iox2_commands.specs.declared.reply.Reply.TheVariants.{Skipped, Header as HeaderRead, UserHeader}
use Rattle.iox2_runs.specs.Carries.{entry_for, Carries}
use Rattle.iox2_runs.specs.RunSteps.{Comes}
use Rattle.iox2_runs.specs.Tables.{No_entry, IsTable}
use Rattle.iox2_runs.specs.declared.runs.made.Made.{Made}
use Rattle.iox2_runs.specs.declared.runs.made.Made.TheVariants.{Nothing, Unwritten, Written, Sample as MadeSample}
use Rattle.iox2_runs.proofs.TableCalls.{at_none, at_some, quiet_comes}
use Rattle.iox2_runs.proofs.TableEntries.{entry-stands, lacks}
use Rattle.iox2_runs.proofs.TableLooks.{is_loan_entry, is_sample_entry, has_sample, has_unwritten, has_written}
use Rattle.iox2_runs.proofs.TableLooks.{lacks_loan, lacks_sample}
use Rattle.iox2_runs.proofs.TableSteps.{Nobody}

-- A command that reads one part of a message, of a loan that is out or of a sample, and replies with that.
pub record PartRead (T U A : Type 0) (of : ℕ) : Type 0 where
  pub command : Command T U
  pub reply : A → Reply T U
  pub lent : Loan T U → A
  pub sent : Entry T U → A
  pub reads : (default_value : T) (default_header : U) (m : Messages T U) (s : State T U) (handles : List Handle)
      (o : Outcome T U)
      → MatchOption (sample_at s handles of)
      (MatchOption (loan_at s handles of) (o ≡ skipped s) (λ loan. o ≡ replied (reply (lent loan.1)) s))
      (λ sample. MatchOption (m sample.2) ⊥ (λ entry. o ≡ replied (reply (sent entry)) s))
      → Step fixed_handlers default_value default_header m s handles command o

abbrev pub header_read : {T U : Type 0} (of : ℕ) → PartRead T U Header of
header_read of = record {
  command = ReadHeader of;
  reply = λ header. HeaderRead header;
  lent = λ loan. loan.header;
  sent = λ entry. entry.header;
  reads = λ default_value default_header m s handles o read. read;
}

abbrev pub user_header_read : {T U : Type 0} (of : ℕ) → PartRead T U U of
user_header_read of = record {
  command = ReadUserHeader of;
  reply = λ header. UserHeader header;
  lent = λ loan. loan.user_header;
  sent = λ entry. entry.user_header;
  reads = λ default_value default_header m s handles o read. read;
}

module _ {T U F G A : Type 0} (defaults : Defaults T U) (domain : Domain T U F G) (table : List Made) (of : ℕ)
    (it : PartRead T U A of) where
  -- the command replies, and changes nothing
  quiet : (m : Messages T U) (s : State T U) (handles : List Handle) (events : List (Event T U))
      (w : IsTable s handles events (map entry_for table)) (default_value : T) (default_header : U)
      → defaults.IsDefaultValue default_value → defaults.IsDefaultHeader default_header → (reply : Reply T U)
      → Step fixed_handlers default_value default_header m s handles it.command (replied reply s) → Shows domain m s
      → Comes fixed_handlers defaults (Shows domain) m s handles events it.command reply
      (map entry_for table ++ No_entry ∷ [])
  quiet m s handles events w default_value default_header is_value is_header reply step shown =
      quiet_comes fixed_handlers defaults (Shows domain) m s handles events
      (map entry_for table) w default_value default_header is_value is_header it.command reply s step shown
      (ports_stay_themselves s) (ports_come_themselves s) (waits_itself Nobody s) (λ n low. refl) (omega arith)

  read_of_loan : (n : ℕ) (value : A) → is_sample_entry (entry_for (slice_index_or table of Nothing)) ≡ false
      → ((s : State T U) (handles : List Handle) (events : List (Event T U))
      → IsTable s handles events (map entry_for table)
      → (l : Loan T U) × (loan_at s handles of ≡ Some (n, l)) × (s.loans n ≡ Some l))
      → ((m : Messages T U) (s : State T U) → Shows domain m s
      → (l : Loan T U) × (s.loans n ≡ Some l) × (it.lent l ≡ value))
      → Carries fixed_handlers defaults domain domain table it.command (it.reply value) table Nothing
  read_of_loan n value no_sample names has =
      λ m s handles events shown w default_value default_header is_value is_header.
      let named = names s handles events w in
      let read = has m s shown in
      subst (λ (v : A). Comes fixed_handlers defaults (Shows domain) m s handles events it.command (it.reply v)
      (map entry_for table ++ No_entry ∷ []))
      (ap it.lent (same_Some named.0 read.0 (sym named.2 ∙ read.1)) ∙ read.2)
      (quiet m s handles events w default_value default_header is_value is_header (it.reply (it.lent named.0))
      (it.reads default_value default_header m s handles _
      (at_none _ _ _ (lacks_sample s handles events (map entry_for table) w of
      (lacks is_sample_entry refl table of no_sample)) (at_some _ _ _ (n, named.0) named.1 refl))) shown)

  pub read_of_unwritten : (h : SampleMutUninit) (value : A) → slice_index_or table of Nothing ≡ Unwritten h
      → ((m : Messages T U) (s : State T U) → Shows domain m s
      → (l : Loan T U) × (s.loans h.loan.number ≡ Some l) × (it.lent l ≡ value))
      → Carries fixed_handlers defaults domain domain table it.command (it.reply value) table Nothing
  read_of_unwritten h value stood has =
      read_of_loan h.loan.number value (ap (λ (v : Made). is_sample_entry (entry_for v)) stood) (λ s handles events w.
      let named = has_unwritten s handles events (map entry_for table) w of h.service_id h.loan.publisher h.loan.number
      (entry-stands table of (Unwritten h) stood (λ e. let clash : Unwritten h ≡ Nothing = e in cc)) in
      (named.0, named.2, named.3)) has

  pub read_of_written : (h : SampleMut) (value : A) → slice_index_or table of Nothing ≡ Written h
      → ((m : Messages T U) (s : State T U) → Shows domain m s
      → (l : Loan T U) × (s.loans h.loan.number ≡ Some l) × (it.lent l ≡ value))
      → Carries fixed_handlers defaults domain domain table it.command (it.reply value) table Nothing
  read_of_written h value stood has =
      read_of_loan h.loan.number value (ap (λ (v : Made). is_sample_entry (entry_for v)) stood) (λ s handles events w.
      let named = has_written s handles events (map entry_for table) w of h.service_id h.loan.publisher h.loan.number
      (entry-stands table of (Written h) stood (λ e. let clash : Written h ≡ Nothing = e in cc)) in
      (named.0, named.2, named.3)) has

  pub read_of_sample : (h : SampleHandle) (value : A) → slice_index_or table of Nothing ≡ MadeSample h
      → ((m : Messages T U) (s : State T U) → Shows domain m s
      → (entry : Entry T U) × (m h.sample.number ≡ Some entry) × (it.sent entry ≡ value))
      → Carries fixed_handlers defaults domain domain table it.command (it.reply value) table Nothing
  read_of_sample h value stood has = λ m s handles events shown w default_value default_header is_value is_header.
      let stand = entry-stands table of (MadeSample h) stood (λ e. let clash : MadeSample h ≡ Nothing = e in cc) in
      let read = has m s shown in
      subst (λ (v : A). Comes fixed_handlers defaults (Shows domain) m s handles events it.command (it.reply v)
      (map entry_for table ++ No_entry ∷ [])) read.2
      (quiet m s handles events w default_value default_header is_value is_header (it.reply (it.sent read.0))
      (it.reads default_value default_header m s handles _
      (at_some _ _ _ (h.origin, h.sample.subscriber, h.sample.number)
      (has_sample s handles events (map entry_for table) w of h.service_id h.origin h.sample.subscriber h.sample.number
      stand) (at_some _ _ _ read.0 read.1 refl))) shown)

  pub read_passed : is_sample_entry (entry_for (slice_index_or table of Nothing)) ≡ false
      → is_loan_entry (entry_for (slice_index_or table of Nothing)) ≡ false
      → Carries fixed_handlers defaults domain domain table it.command Skipped table Nothing
  read_passed no_sample no_loan = λ m s handles events shown w default_value default_header is_value is_header.
      quiet m s handles events w default_value default_header is_value is_header Skipped
      (it.reads default_value default_header m s handles _
      (at_none _ _ _
      (lacks_sample s handles events (map entry_for table) w of (lacks is_sample_entry refl table of no_sample))
      (at_none _ _ _ (lacks_loan s handles events (map entry_for table) w of
      (lacks is_loan_entry refl table of no_loan)) refl))) shown
