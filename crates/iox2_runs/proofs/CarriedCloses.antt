-- A port is closed, with what a run keeps.
use Rattle.std.proofs.Common.{◌≡◌, ℕ, ◌≤◌, false, List, [], ◌∷◌, ◌++◌, map, refl, sym, ap, subst, ◌∙◌, Option, Some}
use Rattle.std.proofs.Common.{inl, inr, arith}
use Rattle.std.proofs.lemmas.Bool.{cases_eq}
use Rattle.std.specs.Prelude.{slice_get, slice_set, slice_index_or}
use Rattle.iox2_machine.specs.machine.Mailbox.{is_borrowed}
use Rattle.iox2_machine.specs.machine.Ports.{publisher_closed, subscriber_closed}
use Rattle.iox2_machine.specs.machine.Records.{Loan, Publisher, Subscriber, Environment}
use Rattle.iox2_machine.specs.machine.SingleCalls.{HoldsBlocked}
use Rattle.iox2_machine.specs.machine.State.{State, Messages}
use Rattle.iox2_laws.proofs.CloseLaws.{subscriber_closed_advances}
use Rattle.iox2_laws.proofs.LoanKeeping.{publisher_closed_loans, subscriber_closed_loans}
use Rattle.iox2_laws.proofs.PortsClose.{publisher_closed_gone, publisher_closed_others, publisher_closed_subscribers}
use Rattle.iox2_laws.proofs.PortsClose.{publisher_closed_borrowed, subscriber_closed_shut, subscriber_closed_others}
use Rattle.iox2_laws.proofs.PortsClose.{subscriber_closed_publishers, subscriber_closed_borrowed}
use Rattle.iox2_laws.proofs.PortsCome.{publisher_closed_comes, subscriber_closed_comes}
use Rattle.iox2_laws.proofs.Waits.{publisher_closed_waits, subscriber_closed_waits}
use Rattle.iox2_domain.specs.Kept.{Kept as Domain}
use Rattle.iox2_domain.specs.Shows.{Shows}
use Rattle.iox2_pubsub.specs.declared.publisher.Publisher.{Publisher as PublisherHandle}
use Rattle.iox2_pubsub.specs.declared.subscriber.Subscriber.{Subscriber as SubscriberHandle}
use Rattle.iox2_commands.specs.Outcomes.{Handle, No_handle, Publisher_handle, Subscriber_handle, Event, No_event, done}
use Rattle.iox2_commands.specs.Runs.{Defaults}
use Rattle.iox2_commands.specs.Step.{Step}
use Rattle.iox2_runs.specs.Tables.{TableEntry, No_entry, IsSpent, IsUnblockedPort, IsTable}
use Rattle.iox2_runs.specs.RunSteps.{Comes}
use Rattle.iox2_runs.specs.Carries.{entry_for, Carries}
use Rattle.iox2_commands.specs.declared.command.Command.TheVariants.{Close}
use Rattle.iox2_commands.specs.declared.reply.Reply.TheVariants.{Done, Skipped}
use Rattle.iox2_runs.specs.declared.runs.made.Made.{Made}
use Rattle.iox2_runs.specs.declared.runs.made.Made.TheVariants.{Nothing, Publisher as MadePublisher}
use Rattle.iox2_runs.specs.declared.runs.made.Made.TheVariants.{Subscriber as MadeSubscriber}
use Rattle.iox2_runs.proofs.TableCalls.{skip_comes, at_none, at_some, set_length}
use Rattle.iox2_runs.proofs.TableEntries.{entries-set, entry-stands, lacks}
use Rattle.iox2_runs.proofs.TableLooks.{is_publisher_entry, is_subscriber_entry, lacks_publisher, lacks_subscriber}
use Rattle.iox2_runs.proofs.TableLooks.{handle_of, has_free_publisher, waiting_publisher, has_subscriber}
use Rattle.iox2_runs.proofs.TableSteps.{Nobody, PortsKeep, later_same, no_next, table_next, others_still, waits_still}
use Rattle.iox2_runs.proofs.TablePassed.{free_waits}

-- ---- what a close leaves

-- each port but the publisher stays, and none comes back
publisher-leaves : {T U : Type 0} (s : State T U) (p : ℕ) (x : Publisher) → IsUnblockedPort s p
    → PortsKeep (Publisher_handle p) No_handle s (publisher_closed s p x)
publisher-leaves {T} {U} s p x free =
    let come = publisher_closed_comes s p x in
    let waits = publisher_closed_waits Nobody s p x in record {
      config = refl;
      publishers = others;
      subscribers = λ q y other there is_open. let v = publisher_closed_subscribers s p x q y there in
          (v.0, v.1, v.2 ∙ is_open);
      next_port = come.next_port;
      came = λ i z low there. let was = waits.publishers i z low there in
          (was.0, was.1, (was.2).handler, (was.2).degradation);
      opened = come.subscribers;
      blocked = λ i n other low. (
        λ has. elim (cases_eq i p) [
          | inl same ↦ absurd (free_waits s p n free (subst (λ (v : ℕ). HoldsBlocked s v n) same has))
          | inr away ↦ (has.0, has.1, publisher_closed_others s p x i away ∙ has.2, has.3, has.4)
        ],
        λ has. let was = waits.publishers i has.0 low has.2 in
            (was.0, has.1, was.1, sym ((was.2).blocked (λ nobody. nobody)) ∙ has.3, has.4),
      );
    }
  where
    others : (i : ℕ) (z : Publisher) → (Publisher_handle i ≡ Publisher_handle p → ⊥) → s.publishers i ≡ Some z
        → (x' : Publisher) × ((publisher_closed s p x).publishers i ≡ Some x')
    others i z other there = (z, publisher_closed_others s p x i (λ e. other (ap Publisher_handle e)) ∙ there)

-- each port but the subscriber stays, and none comes back
subscriber-leaves : {T U : Type 0} (s : State T U) (q : ℕ) (y : Subscriber) → s.subscribers q ≡ Some y
    → PortsKeep (Subscriber_handle q) No_handle s (subscriber_closed s q y)
subscriber-leaves s q y stands =
    let come = subscriber_closed_comes s q y in
    let waits = subscriber_closed_waits Nobody s q y stands in record {
      config = (subscriber_closed_advances s q y).config;
      publishers = λ p x other there. let v = subscriber_closed_publishers s q y p x there in (v.0, v.1);
      subscribers = λ i z other there is_open.
          (z, subscriber_closed_others s q y i (λ e. other (ap Subscriber_handle e)) ∙ there, is_open);
      next_port = come.next_port;
      came = λ p x' low there. let was = waits.publishers p x' low there in
          (was.0, was.1, (was.2).handler, (was.2).degradation);
      opened = come.subscribers;
      blocked = λ p n other low. waits_still Nobody s (subscriber_closed s q y) waits
          (λ i x there. let v = subscriber_closed_publishers s q y i x there in (v.0, v.1)) p n (λ nobody. nobody) low;
    }

-- ---- what the command comes to

module _ {T U : Type 0} (environment : Environment) (defaults : Defaults T U)
    (Shown : Messages T U → State T U → Type 0) (m : Messages T U) (s : State T U) (handles : List Handle)
    (events : List (Event T U)) (table : List TableEntry) (w : IsTable s handles events table) (default_value : T)
    (default_header : U)
    (is_default_value : defaults.IsDefaultValue default_value)
    (is_default_header : defaults.IsDefaultHeader default_header) where
  -- the port of this handle is closed
  close_comes : (of : ℕ) (named : Handle) (s' : State T U) → slice_get handles of ≡ Some named
      → PortsKeep named No_handle s s' → IsSpent s' named → s'.loans ≡ s.loans
      → ((p q : ℕ) → (s'.mailboxes p q).borrowed ≡ (s.mailboxes p q).borrowed) → s.next_message ≤ s'.next_message
      → Step environment default_value default_header m s handles (Close of) (done s') → Shown m s'
      → Comes environment defaults Shown m s handles events (Close of) Done
      (slice_set table of No_entry ++ No_entry ∷ [])
  close_comes of named s' at keep spent loans borrowed rises step shown = record {
    default_value = default_value;
    default_header = default_header;
    is_default_value = is_default_value;
    is_default_header = is_default_header;
    outcome = done s';
    step = step;
    replied = refl;
    shown = shown;
    follows = λ once. table_next s s' handles events table w No_handle No_event No_entry (slice_set table of No_entry)
        (later_same s s' keep.next_port rises (λ n _. ap (λ (f : ℕ → Option (Loan T U)). f n) loans))
        (set_length table of No_entry)
        (others_still s s' handles events table w of named No_entry keep at spent
        (λ n low _. ap (λ (f : ℕ → Option (Loan T U)). f n) loans)
        (λ i p q n _ _.
        ap (λ (ns : List ℕ). is_borrowed n (record { waiting = []; borrowed = ns; others = [] })) (borrowed p q)))
        tt (no_next s s' _) once;
  }

-- ---- what the function of the command ensures

module _ {T U F G : Type 0} (environment : Environment) (defaults : Defaults T U) (old new : Domain T U F G)
    (table table' : List Made) (of : ℕ) where
  -- there is no such port
  pub close_passed : is_publisher_entry (entry_for (slice_index_or table of Nothing)) ≡ false
      → is_subscriber_entry (entry_for (slice_index_or table of Nothing)) ≡ false
      → Carries environment defaults old old table (Close of) Skipped table Nothing
  close_passed no_publisher no_subscriber =
      λ m s handles events shown w default_value default_header is_value is_header.
      skip_comes environment defaults (Shows old) m s handles events
      (map entry_for table) w default_value default_header is_value is_header (Close of)
      (at_none _ _ _ (lacks_publisher s handles events (map entry_for table) w of
      (lacks is_publisher_entry refl table of no_publisher))
      (at_none _ _ _ (lacks_subscriber s handles events (map entry_for table) w of
      (lacks is_subscriber_entry refl table of no_subscriber)) refl))
      shown

  -- the table afterwards
  after : table' ≡ slice_set table of Nothing → map entry_for table' ≡ slice_set (map entry_for table) of No_entry
  after is = ap (λ (t : List Made). map entry_for t) is ∙ entries-set table of Nothing

  -- a publisher is closed
  pub publisher_close_carried : (h : PublisherHandle) → slice_index_or table of Nothing ≡ MadePublisher h
      → ((m : Messages T U) (s : State T U) → Shows old m s → IsUnblockedPort s h.id)
      → ((m : Messages T U) (s : State T U) (x : Publisher) → Shows old m s → s.publishers h.id ≡ Some x
      → Shows new m (publisher_closed s h.id x))
      → table' ≡ slice_set table of Nothing → Carries environment defaults old new table (Close of) Done table' Nothing
  publisher_close_carried h at free closes is =
      λ m s handles events shown w default_value default_header is_value is_header.
      let stand = entry-stands table of (MadePublisher h) at (λ e. let clash : MadePublisher h ≡ Nothing = e in cc) in
      let v = handle_of s handles events (map entry_for table) w of (entry_for (MadePublisher h)) stand in
      let found =
      has_free_publisher s handles events (map entry_for table) w of h.service_id h.id stand (free m s shown) in
      subst (λ (ks : List TableEntry). Comes environment defaults (Shows new) m s handles events (Close of) Done
      (ks ++ No_entry ∷ [])) (sym (after is))
      (close_comes environment defaults (Shows new) m s handles events
      (map entry_for table) w default_value default_header is_value is_header of (Publisher_handle h.id)
      (publisher_closed s h.id found.0) (v.1 ∙ ap Some (v.2).1) (publisher-leaves s h.id found.0 (free m s shown))
      (publisher_closed_gone s h.id found.0) (publisher_closed_loans s h.id found.0)
      (publisher_closed_borrowed s h.id found.0) (omega arith) (at_some _ _ _ (h.id, found.0) found.1 refl)
      (closes m s found.0 shown found.2))

  -- one that waits for a receiver isn't
  pub close_held_up : (h : PublisherHandle) → slice_index_or table of Nothing ≡ MadePublisher h
      → ((m : Messages T U) (s : State T U) → Shows old m s → IsUnblockedPort s h.id → ⊥)
      → Carries environment defaults old old table (Close of) Skipped table Nothing
  close_held_up h at waits = λ m s handles events shown w default_value default_header is_value is_header.
      let stand = entry-stands table of (MadePublisher h) at (λ e. let clash : MadePublisher h ≡ Nothing = e in cc) in
      skip_comes environment defaults (Shows old) m s handles events
      (map entry_for table) w default_value default_header is_value is_header (Close of)
      (at_none _ _ _
      (waiting_publisher s handles events (map entry_for table) w of h.service_id h.id stand (waits m s shown))
      (at_none _ _ _ (lacks_subscriber s handles events (map entry_for table) w of
      (lacks is_subscriber_entry refl table of (ap (λ (v : Made). is_subscriber_entry (entry_for v)) at))) refl))
      shown

  -- a subscriber is closed
  pub subscriber_close_carried : (h : SubscriberHandle) → slice_index_or table of Nothing ≡ MadeSubscriber h
      → ((m : Messages T U) (s : State T U) (y : Subscriber) → Shows old m s → s.subscribers h.id ≡ Some y
      → Shows new m (subscriber_closed s h.id y))
      → table' ≡ slice_set table of Nothing → Carries environment defaults old new table (Close of) Done table' Nothing
  subscriber_close_carried h at closes is =
      λ m s handles events shown w default_value default_header is_value is_header.
      let stand = entry-stands table of (MadeSubscriber h) at (λ e. let clash : MadeSubscriber h ≡ Nothing = e in cc) in
      let v = handle_of s handles events (map entry_for table) w of (entry_for (MadeSubscriber h)) stand in
      let found = has_subscriber s handles events (map entry_for table) w of h.service_id h.id stand in
      subst (λ (ks : List TableEntry). Comes environment defaults (Shows new) m s handles events (Close of) Done
      (ks ++ No_entry ∷ [])) (sym (after is))
      (close_comes environment defaults (Shows new) m s handles events
      (map entry_for table) w default_value default_header is_value is_header of (Subscriber_handle h.id)
      (subscriber_closed s h.id found.0) (v.1 ∙ ap Some (v.2).1) (subscriber-leaves s h.id found.0 found.2)
      (subscriber_closed_shut s h.id found.0) (subscriber_closed_loans s h.id found.0)
      (subscriber_closed_borrowed s h.id found.0) (subscriber_closed_advances s h.id found.0).next_message
      (at_none _ _ _ (lacks_publisher s handles events (map entry_for table) w of
      (lacks is_publisher_entry refl table of (ap (λ (made : Made). is_publisher_entry (entry_for made)) at)))
      (at_some _ _ _ (h.id, found.0) found.1 refl)) (closes m s found.0 shown found.2))
