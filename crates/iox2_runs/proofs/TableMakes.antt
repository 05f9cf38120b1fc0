-- Ports and loans are made, with what the run keeps.
use Rattle.std.proofs.Common.{◌≡◌, ℕ, ◌+◌, ◌≤◌, ◌<◌, Bool, true, false, List, [], ◌∷◌, ◌++◌, refl, sym, ap, subst, ◌∙◌}
use Rattle.std.proofs.Common.{Option, None, Some, arith, ⊎_elim, inl, inr}
use Rattle.std.specs.Bool.{MatchBool}
use Rattle.std.specs.Prelude.{MatchOption, slice_get}
use Rattle.std.proofs.lemmas.Option.{none-some, same_Some}
use Rattle.iox2_machine.specs.SingleValues.{is_single_valued}
use Rattle.iox2_machine.specs.machine.Limits.{buffer_limit}
use Rattle.iox2_machine.specs.machine.Records.{Custom, Loan, Publisher, Subscriber, Environment, PublisherSettings}
use Rattle.iox2_machine.specs.machine.Records.{SubscriberSettings, Fixed}
use Rattle.iox2_machine.specs.machine.State.{State, Messages}
use Rattle.iox2_machine.specs.machine.Environments.{fixed_handlers}
use Rattle.iox2_machine.specs.machine.Loans.{GrantLoan, StaticLoan, DynamicLoan, limit_error, is_static}
use Rattle.iox2_machine.specs.machine.Ports.{FirstPublisherUpdate, FirstSubscriberUpdate, CreatePublisher}
use Rattle.iox2_machine.specs.machine.Ports.{CreateSubscriber, with_new_publisher, with_new_subscriber, new_subscriber}
use Rattle.iox2_machine.specs.declared.degradation.DegradationAction.{DegradationAction}
use Rattle.iox2_machine.specs.declared.errors.LoanError.{LoanError}
use Rattle.iox2_machine.specs.declared.errors.LoanError.TheVariants.{OutOfMemory, ExceedsMaxLoans, ExceedsMaxLoanSize}
use Rattle.iox2_machine.specs.declared.errors.LoanError.TheVariants.{InternalFailure}
use Rattle.iox2_machine.specs.declared.errors.PublisherCreateError.{PublisherCreateError}
use Rattle.iox2_machine.specs.declared.errors.SubscriberCreateError.{SubscriberCreateError}
use Rattle.iox2_machine.specs.declared.warning.Warning.TheVariants.{PublisherPartlyConnected, SubscriberPartlyConnected}
use Rattle.iox2_laws.proofs.CallCases.{publisher_cases, subscriber_cases}
use Rattle.iox2_laws.proofs.Puts.{put_at-same}
use Rattle.iox2_laws.proofs.LoanKeeping.{create_publisher_loans, create_subscriber_loans}
use Rattle.iox2_commands.specs.Outcomes.{Handle, Publisher_handle, Subscriber_handle, Loan_handle, Blocked_handle}
use Rattle.iox2_commands.specs.Outcomes.{Sample_handle, Event, No_event, outcome, replied}
use Rattle.iox2_commands.specs.Runs.{Defaults}
use Rattle.iox2_commands.specs.Step.{Step, publisher_settings, unblocked_at}
use Rattle.iox2_runs.specs.Tables.{port_of, TableEntry, No_entry, Publisher_entry, Subscriber_entry, Unwritten_entry}
use Rattle.iox2_runs.specs.Tables.{IsUnblockedPort, HasNoBox, IsEntryOf, IsTable}
use Rattle.iox2_runs.specs.RunSteps.{Comes}
use Rattle.iox2_runs.specs.Services.{has_slices}
use Rattle.iox2_commands.specs.declared.command.Command.{Command}
use Rattle.iox2_commands.specs.declared.new_publisher.NewPublisher.{NewPublisher}
use Rattle.iox2_commands.specs.declared.command.Command.TheVariants.{CreatePublisher as PublisherCommand}
use Rattle.iox2_commands.specs.declared.command.Command.TheVariants.{CreateSubscriber as SubscriberCommand, LoanUninit}
use Rattle.iox2_commands.specs.declared.command.Command.TheVariants.{LoanSlice}
use Rattle.iox2_commands.specs.declared.reply.Reply.{Reply}
use Rattle.iox2_commands.specs.declared.reply.Reply.TheVariants.{Skipped, PublisherMade, PublisherRefused}
use Rattle.iox2_commands.specs.declared.reply.Reply.TheVariants.{SubscriberMade, SubscriberRefused, Loaned, LoanRefused}
use Rattle.iox2_laws.proofs.PortsCome.{PortsCome, ports_come_trans, update_publisher_comes, update_subscriber_comes}
use Rattle.iox2_laws.proofs.PortsCome.{warning_comes, create_publisher_comes, create_subscriber_comes, grant_loan_comes}
use Rattle.iox2_laws.proofs.PortsStay.{PortsStay, update_subscriber_stays, warning_stays, create_publisher_stays}
use Rattle.iox2_laws.proofs.PortsStay.{create_subscriber_stays, grant_loan_stays, ports_stay_trans}
use Rattle.iox2_laws.proofs.SendsRemain.{created_as}
use Rattle.iox2_laws.proofs.Waits.{Waits, create_publisher_waits, create_subscriber_waits, grant_loan_waits}
use Rattle.iox2_runs.proofs.FixedSends.{fixed_unboxed, unboxed_there, unboxed_still}
use Rattle.iox2_runs.proofs.TableSteps.{Nobody, later_same, next_loan, table_next, all_still}
use Rattle.iox2_runs.proofs.TableLooks.{Lacks, is_publisher_entry, lacks_publisher, has_free_publisher}
use Rattle.iox2_runs.proofs.TableLooks.{waiting_publisher, handle_of, publisher_unboxed}
use Rattle.iox2_laws.proofs.SamplesStay.{same_borrowed}
use Rattle.iox2_laws.proofs.NextLoan.{IsNextLoan, loan_next, loan_refused}
use Rattle.iox2_runs.proofs.Services.{single_named, single_elsewhere, single_nothing, slice_named, slice_elsewhere}
use Rattle.iox2_runs.proofs.Services.{slice_nothing}
use Rattle.iox2_runs.proofs.TableCalls.{quiet_comes, skip_comes, at_none, at_some}

module _ {T U : Type 0} (environment : Environment) (s : State T U) where
  -- a publisher that was made is there, with the handlers that it was to have
  pub publisher_made : (given : PublisherSettings) (s' : State T U) → CreatePublisher environment s given s' None
      → ((x : Publisher) × (s'.publishers s.next_port ≡ Some x) × (x.backpressure_handler ≡ given.backpressure_handler)
      × (x.degradation_handler ≡ given.degradation_handler)) × (s.next_port < s'.next_port)
  publisher_made given s' h =
      let made = created_as environment s given s' h in (
        (made.0, made.1, made.3, made.5),
        publisher_cases environment s given s' IsKnown None h (λ e _ some. absurd (none-some e some))
            (λ place makes. known place makes.2),
      )
    where
      IsKnown : Type 0
      IsKnown = s.next_port < s'.next_port

      known : (place : ℕ) → FirstPublisherUpdate environment (with_new_publisher s given place) s.next_port s' → IsKnown
      known place i =
          let new : State T U = with_new_publisher s given place in
          let come : PortsCome new s' = subst (PortsCome new) (sym i.3)
          (ports_come_trans new i.0 _ (update_publisher_comes environment new s.next_port i.0 i.1 i.2)
          (warning_comes i.0 (PublisherPartlyConnected s.next_port) i.1)) in
          let up = come.next_port in omega (arith, up)

  -- a subscriber that was made is there, open, and with the handler that it was to have
  pub subscriber_made : (given : SubscriberSettings) (s' : State T U) → CreateSubscriber environment s given s' None
      → ((y : Subscriber) × (s'.subscribers s.next_port ≡ Some y) × (y.is_open ≡ true)
      × (y.degradation_handler ≡ given.degradation_handler)) × (s.next_port < s'.next_port)
  subscriber_made given s' h =
      subscriber_cases environment s given s' IsMade None h (λ e _ some. absurd (none-some e some))
      (λ place makes. made place makes.3)
    where
      IsMade : Type 0
      IsMade = ((y : Subscriber) × (s'.subscribers s.next_port ≡ Some y) × (y.is_open ≡ true)
          × (y.degradation_handler ≡ given.degradation_handler)) × (s.next_port < s'.next_port)

      made : (place : ℕ) → FirstSubscriberUpdate environment (with_new_subscriber s given place) s.next_port s' → IsMade
      made place i =
          let new : State T U = with_new_subscriber s given place in
          let stay : PortsStay new s' = subst (PortsStay new) (sym i.3)
          (ports_stay_trans new i.0 _ (update_subscriber_stays environment new s.next_port i.0 i.1 i.2)
          (warning_stays i.0 (SubscriberPartlyConnected s.next_port) i.1)) in
          let come : PortsCome new s' = subst (PortsCome new) (sym i.3)
          (ports_come_trans new i.0 _ (update_subscriber_comes environment new s.next_port i.0 i.1 i.2)
          (warning_comes i.0 (SubscriberPartlyConnected s.next_port) i.1)) in (
            as_given come ((stay.remain).subscribers s.next_port (new_subscriber given place)
                (put_at-same s.subscribers s.next_port (Some (new_subscriber given place))) refl),
            (let up = come.next_port in omega (arith, up)),
          )
        where
          as_given : PortsCome (with_new_subscriber s given place) s'
              → (y : Subscriber) × (s'.subscribers s.next_port ≡ Some y) × (y.is_open ≡ true)
              → (y : Subscriber) × (s'.subscribers s.next_port ≡ Some y) × (y.is_open ≡ true)
              × (y.degradation_handler ≡ given.degradation_handler)
          as_given come v =
              let low : s.next_port < s.next_port + 1 = omega arith in
              let was = come.subscribers s.next_port v.0 low v.1 v.2 in
              let its : was.0 ≡ new_subscriber given place =
              same_Some was.0 (new_subscriber given place)
              (sym was.1 ∙ put_at-same s.subscribers s.next_port (Some (new_subscriber given place))) in
              (v.0, v.1, v.2, was.3 ∙ ap (λ (y : Subscriber). y.degradation_handler) its)

module _ {T U : Type 0} (environment : Environment) (defaults : Defaults T U)
    (Shown : Messages T U → State T U → Type 0) (m : Messages T U) (s : State T U) (handles : List Handle)
    (events : List (Event T U)) (table : List TableEntry) (w : IsTable s handles events table) (default_value : T)
    (default_header : U)
    (is_default_value : defaults.IsDefaultValue default_value)
    (is_default_header : defaults.IsDefaultHeader default_header) where
  -- a command that makes a port
  port_comes : (command : Command T U) (reply : Reply T U) (handle : Handle) (entry : TableEntry) (s' : State T U)
      → Step environment default_value default_header m s handles command (outcome reply handle s') → Shown m s'
      → PortsStay s s' → PortsCome s s' → Waits Nobody s s' → s'.loans ≡ s.loans → s.next_message ≤ s'.next_message
      → IsEntryOf s' handle entry → port_of handle ≡ Some s.next_port → s.next_port < s'.next_port
      → ((n : ℕ) → handle ≡ Loan_handle n → ⊥) → ((p q n : ℕ) → handle ≡ Sample_handle p q n → ⊥)
      → ((p n : ℕ) → handle ≡ Blocked_handle p n → ⊥)
      → Comes environment defaults Shown m s handles events command reply (table ++ entry ∷ [])
  port_comes command reply handle entry s' step shown stay come waits loans rises new is_port known no_loan no_sample
      no_blocked = record {
        default_value = default_value;
        default_header = default_header;
        is_default_value = is_default_value;
        is_default_header = is_default_header;
        outcome = outcome reply handle s';
        step = step;
        replied = refl;
        shown = shown;
        follows = λ once. table_next s s' handles events table w handle No_event entry table
            (later_same s s' come.next_port rises (λ n _. ap (λ (f : ℕ → Option (Loan T U)). f n) loans)) refl
            (all_still s s' handles events table w stay.remain come waits
            (λ n _. ap (λ (f : ℕ → Option (Loan T U)). f n) loans) (λ i p q n _. same_borrowed s s' stay p q n))
            new (record {
              port = λ p named. let same : s.next_port ≡ p = same_Some s.next_port p (sym is_port ∙ named) in
                  (omega (arith, same), omega (arith, same, known));
              loan = λ n e. absurd (no_loan n e);
              sample = λ p q n e. absurd (no_sample p q n e);
              blocked = λ p n e. absurd (no_blocked p n e);
            }) once;
      }

  pub publisher_comes : (asked : NewPublisher) (s' : State T U)
      → CreatePublisher environment s (publisher_settings (s.config).variant asked) s' None
      → s.next_message ≤ s'.next_message → Shown m s' → (service : ℕ) → service ≡ (s'.config).service_id
      → Comes environment defaults Shown m s handles events (PublisherCommand asked) (PublisherMade s.next_port)
      (table ++ Publisher_entry service s.next_port ∷ [])
  publisher_comes asked s' h rises shown service ours =
      let given = publisher_settings (s.config).variant asked in
      let stay : PortsStay s s' = create_publisher_stays environment s given s' None h in
      let made = publisher_made environment s given s' h in
      let unboxed : HasNoBox s' s.next_port = unboxed_there s' s.next_port (made.0).0 (made.0).1
      (λ boxed. fixed_unboxed asked.backpressure (sym (made.0).2 ∙ boxed))
      (λ boxed. let clash : Fixed asked.degradation ≡ Custom = sym (made.0).3 ∙ boxed in cc) in
      port_comes (PublisherCommand asked) (PublisherMade s.next_port) (Publisher_handle s.next_port)
      (Publisher_entry service s.next_port) s' (s', None, h, refl) shown stay
      (create_publisher_comes environment s given s' None h)
      (create_publisher_waits Nobody environment s given s' None h)
      (create_publisher_loans environment s given s' None h) rises
      (ours, refl, (made.0).0, (made.0).1, unboxed) refl made.1
      (λ n e. let clash : Publisher_handle s.next_port ≡ Loan_handle n = e in absurd (cc))
      (λ p q n e. let clash : Publisher_handle s.next_port ≡ Sample_handle p q n = e in absurd (cc))
      (λ p n e. let clash : Publisher_handle s.next_port ≡ Blocked_handle p n = e in absurd (cc))

  pub publisher_refused_comes : (asked : NewPublisher) (s' : State T U) (e : PublisherCreateError)
      → CreatePublisher environment s (publisher_settings (s.config).variant asked) s' (Some e)
      → s.next_message ≤ s'.next_message → Shown m s'
      → Comes environment defaults Shown m s handles events (PublisherCommand asked) (PublisherRefused e)
      (table ++ No_entry ∷ [])
  publisher_refused_comes asked s' e h rises shown =
      let given = publisher_settings (s.config).variant asked in
      quiet_comes environment defaults Shown m s handles events table w default_value default_header is_default_value
      is_default_header
      (PublisherCommand asked) (PublisherRefused e) s' (s', Some e, h, refl) shown
      (create_publisher_stays environment s given s' (Some e) h)
      (create_publisher_comes environment s given s' (Some e) h)
      (create_publisher_waits Nobody environment s given s' (Some e) h)
      (λ n _. ap (λ (f : ℕ → Option (Loan T U)). f n) (create_publisher_loans environment s given s' (Some e) h)) rises

  -- what a command says of a subscriber
  abbrev subscriber_settings : Option ℕ → DegradationAction → SubscriberSettings
  subscriber_settings buffer degradation =
      record {
        buffer_size = elim buffer [ None ↦ buffer_limit s.config | Some asked ↦ asked ];
        degradation_handler = Fixed degradation;
      }

  pub subscriber_comes : (buffer : Option ℕ) (degradation : DegradationAction) (s' : State T U)
      → CreateSubscriber environment s
      (record {
        buffer_size = elim buffer [ None ↦ buffer_limit s.config | Some asked ↦ asked ];
        degradation_handler = Fixed degradation;
      }) s' None
      → s.next_message ≤ s'.next_message → Shown m s' → (service : ℕ) → service ≡ (s'.config).service_id
      → Comes environment defaults Shown m s handles events (SubscriberCommand buffer degradation)
      (SubscriberMade s.next_port) (table ++ Subscriber_entry service s.next_port ∷ [])
  subscriber_comes buffer degradation s' h rises shown service ours =
      let stay : PortsStay s s' =
      create_subscriber_stays environment s (subscriber_settings buffer degradation) s' None h in
      let made = subscriber_made environment s (subscriber_settings buffer degradation) s' h in
      port_comes (SubscriberCommand buffer degradation) (SubscriberMade s.next_port) (Subscriber_handle s.next_port)
      (Subscriber_entry service s.next_port) s' (s', None, h, refl) shown stay
      (create_subscriber_comes environment s (subscriber_settings buffer degradation) s' None h)
      (create_subscriber_waits Nobody environment s (subscriber_settings buffer degradation) s' None h)
      (create_subscriber_loans environment s (subscriber_settings buffer degradation) s' None h) rises (
        ours,
        refl,
        (made.0).0,
        (made.0).1,
        (made.0).2,
        λ y at boxed.
            let same : y ≡ (made.0).0 = same_Some y (made.0).0 (sym at ∙ (made.0).1) in
            let clash : Fixed degradation ≡ Custom =
            sym (made.0).3 ∙ ap (λ (z : Subscriber). z.degradation_handler) (sym same) ∙ boxed in absurd cc,
      ) refl made.1
      (λ n e. let clash : Subscriber_handle s.next_port ≡ Loan_handle n = e in absurd (cc))
      (λ p q n e. let clash : Subscriber_handle s.next_port ≡ Sample_handle p q n = e in absurd (cc))
      (λ p n e. let clash : Subscriber_handle s.next_port ≡ Blocked_handle p n = e in absurd (cc))

  pub subscriber_refused_comes : (buffer : Option ℕ) (degradation : DegradationAction) (s' : State T U)
      (e : SubscriberCreateError)
      → CreateSubscriber environment s
      (record {
        buffer_size = elim buffer [ None ↦ buffer_limit s.config | Some asked ↦ asked ];
        degradation_handler = Fixed degradation;
      }) s' (Some e)
      → s.next_message ≤ s'.next_message → Shown m s'
      → Comes environment defaults Shown m s handles events (SubscriberCommand buffer degradation) (SubscriberRefused e)
      (table ++ No_entry ∷ [])
  subscriber_refused_comes buffer degradation s' e h rises shown =
      quiet_comes environment defaults Shown m s handles events table w default_value default_header is_default_value
      is_default_header
      (SubscriberCommand buffer degradation) (SubscriberRefused e) s' (s', Some e, h, refl) shown
      (create_subscriber_stays environment s (subscriber_settings buffer degradation) s' (Some e) h)
      (create_subscriber_comes environment s (subscriber_settings buffer degradation) s' (Some e) h)
      (create_subscriber_waits Nobody environment s (subscriber_settings buffer degradation) s' (Some e) h)
      (λ n _. ap (λ (f : ℕ → Option (Loan T U)). f n)
      (create_subscriber_loans environment s (subscriber_settings buffer degradation) s' (Some e) h)) rises

  -- ---- a loan

  -- what a command that asks a publisher for an uninitialised loan comes to, where it is granted
  granted_comes : (command : Command T U) (of service p : ℕ) → slice_get table of ≡ Some (Publisher_entry service p)
      → (header : U) → defaults.IsDefaultHeader header → (checks_length : Bool) (len : ℕ) (s' : State T U)
      → GrantLoan environment header checks_length len s p s' None
      → Step environment default_value header m s handles command (outcome Loaned (Loan_handle s.next_message) s')
      → Shown m s'
      → (new_service : ℕ) → new_service ≡ (s'.config).service_id
      → Comes environment defaults Shown m s handles events command Loaned
      (table ++ Unwritten_entry new_service p s.next_message ∷ [])
  granted_comes command of service p at header is_default checks_length len s' h step shown new_service ours =
      let named = handle_of s handles events table w of (Publisher_entry service p) at in
      let stay : PortsStay s s' = grant_loan_stays environment header checks_length len s p s' None h in
      let next : IsNextLoan environment s p s' = loan_next environment s header checks_length len p s' h in
      let come : PortsCome s s' = grant_loan_comes environment header checks_length len s p s' None h in
      let waits : Waits Nobody s s' = grant_loan_waits Nobody environment header checks_length len s p s' None h in
      let known : p < s.next_port = w.ports_below of p named.0 named.1 (ap port_of (named.2).1) in record {
        default_value = default_value;
        default_header = header;
        is_default_value = is_default_value;
        is_default_header = is_default;
        outcome = outcome Loaned (Loan_handle s.next_message) s';
        step = step;
        replied = refl;
        shown = shown;
        follows = λ once. table_next s s' handles events table w (Loan_handle s.next_message) No_event
            (Unwritten_entry new_service p s.next_message) table
            (later_same s s' come.next_port (omega (arith, next.next)) next.others) refl
            (all_still s s' handles events table w stay.remain come waits next.others
            (λ i p q n _. same_borrowed s s' stay p q n)) (
              ours,
              refl,
              (
                (next.loan, next.there, next.publisher, next.unwritten),
                (let up = come.next_port in omega (arith, known, up)),
              ),
              unboxed_still Nobody s s' waits p known (publisher_unboxed s handles events table w of service p at),
            )
            (next_loan s s' (omega (arith, next.next))) once;
      }

  -- and where it is refused
  denied_comes : (command : Command T U) (p : ℕ) (header : U) → defaults.IsDefaultHeader header
      → (checks_length : Bool) (len : ℕ) (s' : State T U) (e : LoanError)
      → GrantLoan environment header checks_length len s p s' (Some e)
      → Step environment default_value header m s handles command (replied (LoanRefused e) s') → Shown m s'
      → Comes environment defaults Shown m s handles events command (LoanRefused e) (table ++ No_entry ∷ [])
  denied_comes command p header is_default checks_length len s' e h step shown =
      let same : s' ≡ s = loan_refused environment s header checks_length len p s' e h in
      quiet_comes environment defaults Shown m s handles events table w default_value header is_default_value is_default
      command (LoanRefused e) s' step shown
      (grant_loan_stays environment header checks_length len s p s' (Some e) h)
      (grant_loan_comes environment header checks_length len s p s' (Some e) h)
      (grant_loan_waits Nobody environment header checks_length len s p s' (Some e) h)
      (λ n _. ap (λ (t : State T U). t.loans n) same)
      (subst (λ (t : State T U). s.next_message ≤ t.next_message) (sym same) (omega arith))

  -- ---- a loan of a single value

  pub loan_skipped : (of : ℕ) → Lacks is_publisher_entry table of → Shown m s
      → Comes environment defaults Shown m s handles events (LoanUninit of) Skipped (table ++ No_entry ∷ [])
  loan_skipped of absent shown =
      skip_comes environment defaults Shown m s handles events table w default_value default_header is_default_value
      is_default_header (LoanUninit of)
      (at_none _ _ _ (single_nothing s (unblocked_at s handles of) (lacks_publisher s handles events table w of absent))
      refl) shown

  -- the publisher waits for a receiver
  pub loan_waiting : (of service p : ℕ) → slice_get table of ≡ Some (Publisher_entry service p)
      → (IsUnblockedPort s p → ⊥) → Shown m s
      → Comes environment defaults Shown m s handles events (LoanUninit of) Skipped (table ++ No_entry ∷ [])
  loan_waiting of service p at waits shown =
      skip_comes environment defaults Shown m s handles events table w default_value default_header is_default_value
      is_default_header (LoanUninit of)
      (at_none _ _ _ (single_nothing s (unblocked_at s handles of)
      (waiting_publisher s handles events table w of service p at waits)) refl) shown

  pub loan_elsewhere : (of : ℕ) → is_single_valued s.config ≡ false → Shown m s
      → Comes environment defaults Shown m s handles events (LoanUninit of) Skipped (table ++ No_entry ∷ [])
  loan_elsewhere of other shown =
      skip_comes environment defaults Shown m s handles events table w default_value default_header is_default_value
      is_default_header (LoanUninit of)
      (at_none _ _ _ (single_elsewhere s (unblocked_at s handles of) other) refl) shown

  pub loan_comes : (of service p : ℕ) → slice_get table of ≡ Some (Publisher_entry service p) → IsUnblockedPort s p
      → is_single_valued s.config ≡ true
      → (header : U) → defaults.IsDefaultHeader header → (s' : State T U)
      → GrantLoan environment header false 1 s p s' None → Shown m s'
      → (new_service : ℕ) → new_service ≡ (s'.config).service_id
      → Comes environment defaults Shown m s handles events (LoanUninit of) Loaned
      (table ++ Unwritten_entry new_service p s.next_message ∷ [])
  loan_comes of service p at free single header is_default s' h shown new_service ours =
      let found = has_free_publisher s handles events table w of service p at free in
      granted_comes (LoanUninit of) of service p at header is_default false 1 s' h
      (at_some _ _ _ (p, found.0) (single_named s (unblocked_at s handles of) single ∙ found.1) (s', None, h, refl))
      shown new_service ours

  pub loan_refused_comes : (of service p : ℕ) → slice_get table of ≡ Some (Publisher_entry service p)
      → IsUnblockedPort s p → is_single_valued s.config ≡ true
      → (header : U) → defaults.IsDefaultHeader header → (s' : State T U) (e : LoanError)
      → GrantLoan environment header false 1 s p s' (Some e) → Shown m s'
      → Comes environment defaults Shown m s handles events (LoanUninit of) (LoanRefused e) (table ++ No_entry ∷ [])
  loan_refused_comes of service p at free single header is_default s' e h shown =
      let found = has_free_publisher s handles events table w of service p at free in
      denied_comes (LoanUninit of) p header is_default false 1 s' e h
      (at_some _ _ _ (p, found.0) (single_named s (unblocked_at s handles of) single ∙ found.1) (s', Some e, h, refl))
      shown

  -- ---- a loan of a slice

  pub slice_skipped : (of len : ℕ) → Lacks is_publisher_entry table of → Shown m s
      → Comes environment defaults Shown m s handles events (LoanSlice of len) Skipped (table ++ No_entry ∷ [])
  slice_skipped of len absent shown =
      skip_comes environment defaults Shown m s handles events table w default_value default_header is_default_value
      is_default_header (LoanSlice of len)
      (at_none _ _ _
      (slice_nothing s (unblocked_at s handles of) (lacks_publisher s handles events table w of absent)) refl) shown

  pub slice_waiting : (of len service p : ℕ) → slice_get table of ≡ Some (Publisher_entry service p)
      → (IsUnblockedPort s p → ⊥) → Shown m s
      → Comes environment defaults Shown m s handles events (LoanSlice of len) Skipped (table ++ No_entry ∷ [])
  slice_waiting of len service p at waits shown =
      skip_comes environment defaults Shown m s handles events table w default_value default_header is_default_value
      is_default_header (LoanSlice of len)
      (at_none _ _ _ (slice_nothing s (unblocked_at s handles of)
      (waiting_publisher s handles events table w of service p at waits)) refl) shown

  pub slice_elsewhere_skipped : (of len : ℕ) → has_slices s.config ≡ false → Shown m s
      → Comes environment defaults Shown m s handles events (LoanSlice of len) Skipped (table ++ No_entry ∷ [])
  slice_elsewhere_skipped of len other shown =
      skip_comes environment defaults Shown m s handles events table w default_value default_header is_default_value
      is_default_header (LoanSlice of len)
      (at_none _ _ _ (slice_elsewhere s (unblocked_at s handles of) other) refl) shown

  pub slice_comes : (of len service p : ℕ) → slice_get table of ≡ Some (Publisher_entry service p) → IsUnblockedPort s p
      → has_slices s.config ≡ true
      → (header : U) → defaults.IsDefaultHeader header → (s' : State T U)
      → GrantLoan environment header true len s p s' None → Shown m s'
      → (new_service : ℕ) → new_service ≡ (s'.config).service_id
      → Comes environment defaults Shown m s handles events (LoanSlice of len) Loaned
      (table ++ Unwritten_entry new_service p s.next_message ∷ [])
  slice_comes of len service p at free slices header is_default s' h shown new_service ours =
      let found = has_free_publisher s handles events table w of service p at free in
      granted_comes (LoanSlice of len) of service p at header is_default true len s' h
      (at_some _ _ _ (p, found.0) (slice_named s (unblocked_at s handles of) slices ∙ found.1) (s', None, h, refl))
      shown new_service ours

  pub slice_refused_comes : (of len service p : ℕ) → slice_get table of ≡ Some (Publisher_entry service p)
      → IsUnblockedPort s p → has_slices s.config ≡ true
      → (header : U) → defaults.IsDefaultHeader header → (s' : State T U) (e : LoanError)
      → GrantLoan environment header true len s p s' (Some e) → Shown m s'
      → Comes environment defaults Shown m s handles events (LoanSlice of len) (LoanRefused e) (table ++ No_entry ∷ [])
  slice_refused_comes of len service p at free slices header is_default s' e h shown =
      let found = has_free_publisher s handles events table w of service p at free in
      denied_comes (LoanSlice of len) p header is_default true len s' e h
      (at_some _ _ _ (p, found.0) (slice_named s (unblocked_at s handles of) slices ∙ found.1) (s', Some e, h, refl))
      shown

-- a loan that is granted or refused is so where memory may be refused
pub loan_any : {T U : Type 0} (given : Environment) (header : U) (checks_length : Bool) (len : ℕ) (s : State T U)
    (p : ℕ)
    (s' : State T U) (refusal : Option LoanError) → GrantLoan given header checks_length len s p s' refusal
    → GrantLoan fixed_handlers header checks_length len s p s' refusal
loan_any {T} {U} given header checks_length len s p s' refusal h = by_publisher (s.publishers p) h where
  dynamic : (x : Publisher) (refusal : Option LoanError) → DynamicLoan given header s p x len s' refusal
      → DynamicLoan fixed_handlers header s p x len s' refusal
  dynamic x None h = h
  dynamic x (Some OutOfMemory) h = h
  dynamic x (Some InternalFailure) h =
      (h.0, ⊎_elim (λ end. inl end) (λ other. inr (⊎_elim (λ refused. inl tt) (λ none. inr none) other.0, other.1)) h.1)
  dynamic x (Some ExceedsMaxLoans) h = h
  dynamic x (Some ExceedsMaxLoanSize) h = h

  by_limit : (x : Publisher) (o : Option LoanError)
      → MatchOption o (MatchBool (is_static x.allocation_strategy) (StaticLoan header s p x len s' refusal)
      (DynamicLoan given header s p x len s' refusal)) (λ limit. (s' ≡ s) × (refusal ≡ Some limit))
      → MatchOption o (MatchBool (is_static x.allocation_strategy) (StaticLoan header s p x len s' refusal)
      (DynamicLoan fixed_handlers header s p x len s' refusal)) (λ limit. (s' ≡ s) × (refusal ≡ Some limit))
  by_limit x (Some limit) h = h
  by_limit x None h = by_kind (is_static x.allocation_strategy) h where
    by_kind : (b : Bool)
        → MatchBool b (StaticLoan header s p x len s' refusal) (DynamicLoan given header s p x len s' refusal)
        → MatchBool b (StaticLoan header s p x len s' refusal) (DynamicLoan fixed_handlers header s p x len s' refusal)
    by_kind true h = h
    by_kind false h = dynamic x refusal h

  by_publisher : (o : Option Publisher)
      → MatchOption o ⊥ (λ x. MatchOption (limit_error checks_length x len)
      (MatchBool (is_static x.allocation_strategy) (StaticLoan header s p x len s' refusal)
      (DynamicLoan given header s p x len s' refusal)) (λ limit. (s' ≡ s) × (refusal ≡ Some limit)))
      → MatchOption o ⊥ (λ x. MatchOption (limit_error checks_length x len)
      (MatchBool (is_static x.allocation_strategy) (StaticLoan header s p x len s' refusal)
      (DynamicLoan fixed_handlers header s p x len s' refusal)) (λ limit. (s' ≡ s) × (refusal ≡ Some limit)))
  by_publisher None h = h
  by_publisher (Some x) h = by_limit x (limit_error checks_length x len) h
