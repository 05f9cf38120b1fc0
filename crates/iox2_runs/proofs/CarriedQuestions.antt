-- A subscriber is asked whether samples wait, with what a run keeps.
use Rattle.std.proofs.Common.{◌≡◌, ℕ, Bool, false, List, map, Option, refl, sym, ap}
use Rattle.std.specs.Prelude.{slice_index_or}
use Rattle.iox2_machine.specs.machine.Receives.{HasSamples}
use Rattle.iox2_machine.specs.machine.Records.{Loan, Environment}
use Rattle.iox2_machine.specs.machine.State.{State, Messages}
use Rattle.iox2_machine.specs.declared.errors.ConnectionFailure.{ConnectionFailure}
use Rattle.iox2_laws.proofs.LoanKeeping.{has_samples_loans}
use Rattle.iox2_laws.proofs.PortsCome.{update_subscriber_comes}
use Rattle.iox2_laws.proofs.PortsStay.{update_subscriber_stays}
use Rattle.iox2_laws.proofs.ReceiveLaws.{has_samples_advances}
use Rattle.iox2_laws.proofs.Waits.{update_subscriber_waits}
use Rattle.iox2_domain.specs.Kept.{Kept as Domain}
use Rattle.iox2_domain.specs.Shows.{Shows}
use Rattle.iox2_pubsub.specs.declared.subscriber.Subscriber.{Subscriber as SubscriberHandle}
use Rattle.iox2_commands.specs.Outcomes.{replied}
use Rattle.iox2_commands.specs.Runs.{Defaults}
use Rattle.iox2_commands.specs.Step.{after_question}
use Rattle.iox2_runs.specs.Carries.{entry_for, Carries}
use Rattle.iox2_commands.specs.declared.command.Command.TheVariants.{HasSamples as AskForSamples}
use Rattle.iox2_commands.specs.declared.reply.Reply.{Reply}
use Rattle.iox2_commands.specs.declared.reply.Reply.TheVariants.{Skipped}
use Rattle.iox2_runs.specs.declared.runs.made.Made.{Made}
use Rattle.iox2_runs.specs.declared.runs.made.Made.TheVariants.{Nothing, Subscriber as MadeSubscriber}
use Rattle.iox2_runs.proofs.TableCalls.{skip_comes, quiet_comes, at_none, at_some}
use Rattle.iox2_runs.proofs.TableEntries.{entry-stands, lacks}
use Rattle.iox2_runs.proofs.TableLooks.{is_subscriber_entry, lacks_subscriber, has_subscriber}
use Rattle.iox2_runs.proofs.TableSteps.{Nobody}

module _ {T U F G : Type 0} (environment : Environment) (defaults : Defaults T U) (old new : Domain T U F G)
    (table : List Made) (of : ℕ) where
  -- there is no such subscriber
  pub question_passed : is_subscriber_entry (entry_for (slice_index_or table of Nothing)) ≡ false
      → Carries environment defaults old old table (AskForSamples of) Skipped table Nothing
  question_passed other = λ m s handles events shown w default_value default_header is_value is_header.
      skip_comes environment defaults (Shows old) m s handles events
      (map entry_for table) w default_value default_header is_value is_header (AskForSamples of)
      (at_none _ _ _ (lacks_subscriber s handles events (map entry_for table) w of
      (lacks is_subscriber_entry refl table of other)) refl)
      shown

  -- a subscriber is asked, and this is replied
  pub question_carried : (h : SubscriberHandle) (failure : Option ConnectionFailure) (reply : Reply T U)
      → slice_index_or table of Nothing ≡ MadeSubscriber h
      → ((m : Messages T U) (s : State T U) → Shows old m s
      → (s' : State T U) × Shows new m s' × ((waits : Bool) × HasSamples environment s h.id s' failure waits
      × (after_question s' failure waits ≡ replied reply s')))
      → Carries environment defaults old new table (AskForSamples of) reply table Nothing
  question_carried h failure reply at answers =
      λ m s handles events shown w default_value default_header is_value is_header.
      let asked = answers m s shown in
      let s' : State T U = asked.0 in
      let found = has_subscriber s handles events (map entry_for table) w of h.service_id h.id
      (entry-stands table of (MadeSubscriber h) at (λ e. let clash : MadeSubscriber h ≡ Nothing = e in cc)) in
      quiet_comes environment defaults (Shows new) m s handles events
      (map entry_for table) w default_value default_header is_value is_header (AskForSamples of) reply s'
      (at_some _ _ _ (h.id, found.0) found.1 (s', failure, (asked.2).0, (asked.2).1, sym (asked.2).2))
      asked.1 (update_subscriber_stays environment s h.id s' failure ((asked.2).1).0)
      (update_subscriber_comes environment s h.id s' failure ((asked.2).1).0)
      (update_subscriber_waits Nobody environment s h.id s' failure ((asked.2).1).0)
      (λ n _. ap (λ (f : ℕ → Option (Loan T U)). f n)
      (has_samples_loans environment s h.id s' failure (asked.2).0 (asked.2).1))
      (has_samples_advances environment s h.id s' failure (asked.2).0 (asked.2).1).next_message
