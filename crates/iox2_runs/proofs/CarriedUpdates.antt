-- A port is updated, with what a run keeps.
use Rattle.std.proofs.Common.{◌≡◌, ℕ, false, List, map, Option, refl, ap, None, Some}
use Rattle.std.specs.Option.{option_map_or}
use Rattle.std.specs.Prelude.{slice_index_or}
use Rattle.iox2_machine.specs.machine.PublisherUpdate.{UpdatePublisher}
use Rattle.iox2_machine.specs.machine.Records.{Loan, Environment}
use Rattle.iox2_machine.specs.machine.State.{State, Messages}
use Rattle.iox2_machine.specs.machine.SubscriberUpdate.{UpdateSubscriber}
use Rattle.iox2_machine.specs.declared.errors.ConnectionFailure.{ConnectionFailure}
use Rattle.iox2_laws.proofs.LoanKeeping.{update_publisher_loans, update_subscriber_loans}
use Rattle.iox2_laws.proofs.PortsCome.{update_publisher_comes, update_subscriber_comes}
use Rattle.iox2_laws.proofs.PortsStay.{update_publisher_stays, update_subscriber_stays}
use Rattle.iox2_laws.proofs.PublisherUpdates.{update_publisher_advances}
use Rattle.iox2_laws.proofs.SubscriberUpdates.{update_subscriber_advances}
use Rattle.iox2_laws.proofs.Waits.{update_publisher_waits, update_subscriber_waits}
use Rattle.iox2_domain.specs.Kept.{Kept as Domain}
use Rattle.iox2_domain.specs.Shows.{Shows}
use Rattle.iox2_pubsub.specs.declared.publisher.Publisher.{Publisher as PublisherHandle}
use Rattle.iox2_pubsub.specs.declared.subscriber.Subscriber.{Subscriber as SubscriberHandle}
use Rattle.iox2_commands.specs.Outcomes.{replied}
use Rattle.iox2_commands.specs.Runs.{Defaults}
use Rattle.iox2_commands.specs.Step.{after_update}
use Rattle.iox2_runs.specs.Tables.{IsUnblockedPort}
use Rattle.iox2_runs.specs.Carries.{entry_for, Carries}
use Rattle.iox2_commands.specs.declared.command.Command.TheVariants.{Update}
use Rattle.iox2_commands.specs.declared.reply.Reply.{Reply}
use Rattle.iox2_commands.specs.declared.reply.Reply.TheVariants.{Done, Skipped, UpdateRefused}
use Rattle.iox2_runs.specs.declared.runs.made.Made.{Made}
use Rattle.iox2_runs.specs.declared.runs.made.Made.TheVariants.{Nothing, Publisher as MadePublisher}
use Rattle.iox2_runs.specs.declared.runs.made.Made.TheVariants.{Subscriber as MadeSubscriber}
use Rattle.iox2_runs.proofs.TableCalls.{skip_comes, quiet_comes, at_none, at_some}
use Rattle.iox2_runs.proofs.TableEntries.{entry-stands, lacks}
use Rattle.iox2_runs.proofs.TableLooks.{is_publisher_entry, is_subscriber_entry, lacks_publisher, lacks_subscriber}
use Rattle.iox2_runs.proofs.TableLooks.{has_free_publisher, waiting_publisher, has_subscriber}
use Rattle.iox2_runs.proofs.TableSteps.{Nobody}

module _ {T U : Type 0} where
  -- what is replied where an update has this failure, if any
  abbrev pub update_reply : Option ConnectionFailure → Reply T U
  update_reply failure = option_map_or (λ e. UpdateRefused e) failure Done

  replied-so : (s : State T U) (failure : Option ConnectionFailure) (reply : Reply T U) → reply ≡ update_reply failure
      → replied reply s ≡ after_update s failure
  replied-so s None reply is = ap (λ (r : Reply T U). replied r s) is
  replied-so s (Some e) reply is = ap (λ (r : Reply T U). replied r s) is

module _ {T U F G : Type 0} (environment : Environment) (defaults : Defaults T U) (old new : Domain T U F G)
    (table : List Made) (of : ℕ) where
  -- there is no such port
  pub update_passed : is_publisher_entry (entry_for (slice_index_or table of Nothing)) ≡ false
      → is_subscriber_entry (entry_for (slice_index_or table of Nothing)) ≡ false
      → Carries environment defaults old old table (Update of) Skipped table Nothing
  update_passed no_publisher no_subscriber =
      λ m s handles events shown w default_value default_header is_value is_header.
      skip_comes environment defaults (Shows old) m s handles events
      (map entry_for table) w default_value default_header is_value is_header (Update of)
      (at_none _ _ _ (lacks_publisher s handles events (map entry_for table) w of
      (lacks is_publisher_entry refl table of no_publisher))
      (at_none _ _ _ (lacks_subscriber s handles events (map entry_for table) w of
      (lacks is_subscriber_entry refl table of no_subscriber)) refl))
      shown

  -- a publisher is updated, and this is replied
  pub update_of_publisher : (h : PublisherHandle) (failure : Option ConnectionFailure) (reply : Reply T U)
      → slice_index_or table of Nothing ≡ MadePublisher h
      → ((m : Messages T U) (s : State T U) → Shows old m s → IsUnblockedPort s h.id)
      → ((m : Messages T U) (s : State T U) → Shows old m s
      → (s' : State T U) × Shows new m s' × UpdatePublisher environment s h.id s' failure)
      → reply ≡ update_reply failure → Carries environment defaults old new table (Update of) reply table Nothing
  update_of_publisher h failure reply at free updates is =
      λ m s handles events shown w default_value default_header is_value is_header.
      let updated = updates m s shown in
      let s' : State T U = updated.0 in
      let found = has_free_publisher s handles events (map entry_for table) w of h.service_id h.id
      (entry-stands table of (MadePublisher h) at (λ e. let clash : MadePublisher h ≡ Nothing = e in cc))
      (free m s shown) in
      quiet_comes environment defaults (Shows new) m s handles events
      (map entry_for table) w default_value default_header is_value is_header (Update of) reply s'
      (at_some _ _ _ (h.id, found.0) found.1 (s', failure, updated.2, replied-so s' failure reply is))
      updated.1 (update_publisher_stays environment s h.id s' failure updated.2)
      (update_publisher_comes environment s h.id s' failure updated.2)
      (update_publisher_waits Nobody environment s h.id s' failure updated.2)
      (λ n _. ap (λ (f : ℕ → Option (Loan T U)). f n) (update_publisher_loans environment s h.id s' failure updated.2))
      (update_publisher_advances environment s h.id s' failure updated.2).next_message

  -- one that waits for a receiver isn't
  pub update_held_up : (h : PublisherHandle) → slice_index_or table of Nothing ≡ MadePublisher h
      → ((m : Messages T U) (s : State T U) → Shows old m s → IsUnblockedPort s h.id → ⊥)
      → Carries environment defaults old old table (Update of) Skipped table Nothing
  update_held_up h at waits = λ m s handles events shown w default_value default_header is_value is_header.
      let stand = entry-stands table of (MadePublisher h) at (λ e. let clash : MadePublisher h ≡ Nothing = e in cc) in
      skip_comes environment defaults (Shows old) m s handles events
      (map entry_for table) w default_value default_header is_value is_header (Update of)
      (at_none _ _ _
      (waiting_publisher s handles events (map entry_for table) w of h.service_id h.id stand (waits m s shown))
      (at_none _ _ _ (lacks_subscriber s handles events (map entry_for table) w of
      (lacks is_subscriber_entry refl table of (ap (λ (v : Made). is_subscriber_entry (entry_for v)) at))) refl))
      shown

  -- a subscriber is updated, and this is replied
  pub update_of_subscriber : (h : SubscriberHandle) (failure : Option ConnectionFailure) (reply : Reply T U)
      → slice_index_or table of Nothing ≡ MadeSubscriber h
      → ((m : Messages T U) (s : State T U) → Shows old m s
      → (s' : State T U) × Shows new m s' × UpdateSubscriber environment s h.id s' failure)
      → reply ≡ update_reply failure → Carries environment defaults old new table (Update of) reply table Nothing
  update_of_subscriber h failure reply at updates is =
      λ m s handles events shown w default_value default_header is_value is_header.
      let updated = updates m s shown in
      let s' : State T U = updated.0 in
      let found = has_subscriber s handles events (map entry_for table) w of h.service_id h.id
      (entry-stands table of (MadeSubscriber h) at (λ e. let clash : MadeSubscriber h ≡ Nothing = e in cc)) in
      quiet_comes environment defaults (Shows new) m s handles events
      (map entry_for table) w default_value default_header is_value is_header (Update of) reply s'
      (at_none _ _ _ (lacks_publisher s handles events (map entry_for table) w of
      (lacks is_publisher_entry refl table of (ap (λ (v : Made). is_publisher_entry (entry_for v)) at)))
      (at_some _ _ _ (h.id, found.0) found.1 (s', failure, updated.2, replied-so s' failure reply is)))
      updated.1 (update_subscriber_stays environment s h.id s' failure updated.2)
      (update_subscriber_comes environment s h.id s' failure updated.2)
      (update_subscriber_waits Nobody environment s h.id s' failure updated.2)
      (λ n _. ap (λ (f : ℕ → Option (Loan T U)). f n) (update_subscriber_loans environment s h.id s' failure updated.2))
      (update_subscriber_advances environment s h.id s' failure updated.2).next_message
