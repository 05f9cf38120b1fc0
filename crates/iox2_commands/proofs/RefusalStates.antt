-- Publishers that have their memory from the start go on having it.
use Rattle.std.proofs.Common.{◌≡◌, ℕ, ◌+◌, Bool, true, false, List, [], ◌∷◌, ◌++◌, take, drop, cond, sym, subst, Option}
use Rattle.std.proofs.Common.{None, Some}
use Rattle.std.specs.Option.{option_map}
use Rattle.std.specs.declared.time.Duration.{Duration}
use Rattle.iox2_machine.specs.machine.Numbers.{put_at, without, last_n}
use Rattle.iox2_machine.specs.machine.SingleCalls.{GrantWrittenLoan}
use Rattle.iox2_machine.specs.machine.Records.{Loan, Publisher, Subscriber, Environment, PublisherSettings}
use Rattle.iox2_machine.specs.machine.Records.{SubscriberSettings, BlockedSend}
use Rattle.iox2_machine.specs.machine.State.{State, with_loan, publisher_changed, receiver_channels_reset}
use Rattle.iox2_machine.specs.machine.Delivery.{DeliveryEnd, Complete, Suspended, no_time}
use Rattle.iox2_machine.specs.machine.PublisherUpdate.{UpdatePublisher}
use Rattle.iox2_machine.specs.machine.SubscriberUpdate.{UpdateSubscriber}
use Rattle.iox2_machine.specs.machine.Loans.{GrantLoan, is_static, loan_discarded}
use Rattle.iox2_machine.specs.machine.Sends.{Send, SendToConnection, SendResult, Publish, DeliverAndConclude}
use Rattle.iox2_machine.specs.machine.Sends.{ConcludeSend, Retry, GiveUp, more_retries, published, with_mailboxes}
use Rattle.iox2_machine.specs.machine.Receives.{Receive, ReceiveResult}
use Rattle.iox2_machine.specs.machine.Releases.{released, unborrowed, subscriber_pruned, is_unused, place_freed}
use Rattle.iox2_machine.specs.machine.Releases.{freed_if_unused}
use Rattle.iox2_machine.specs.machine.Ports.{FirstPublisherUpdate, FirstSubscriberUpdate, new_publisher}
use Rattle.iox2_machine.specs.machine.Ports.{with_new_publisher, with_new_subscriber, with_failure_warning}
use Rattle.iox2_machine.specs.machine.Ports.{CreatePublisher, CreateSubscriber, publisher_closed, subscriber_shut}
use Rattle.iox2_machine.specs.machine.Ports.{subscriber_closed}
use Rattle.iox2_machine.specs.declared.warning.Warning.{Warning}
use Rattle.iox2_machine.specs.declared.errors.ConnectionFailure.{ConnectionFailure}
use Rattle.iox2_machine.specs.declared.errors.LoanError.{LoanError}
use Rattle.iox2_machine.specs.declared.errors.PublisherCreateError.{PublisherCreateError}
use Rattle.iox2_machine.specs.declared.errors.SubscriberCreateError.{SubscriberCreateError}
use Rattle.iox2_laws.specs.Sendings.{sending}
use Rattle.iox2_laws.proofs.Cases.{by_option}
use Rattle.iox2_laws.proofs.OperationWalks.{publisher_update_by_steps, subscriber_update_by_steps, receive_by_steps}
use Rattle.iox2_laws.proofs.CallCases.{grant_cases, publisher_cases, subscriber_cases}
use Rattle.iox2_laws.proofs.Puts.{found_put, found_removed, found_mapped, at_each}
use Rattle.iox2_commands.proofs.Keeping.{keeping}
use Rattle.iox2_commands.proofs.ChannelOutcomes.{OnChannels}
use Rattle.iox2_commands.specs.Outcomes.{Outcome}

-- ---- what holds of each port

module _ {A : Type 0} (P : A → Type 0) where
  -- It holds of each that is there.
  abbrev pub EachIs : (ℕ → Option A) → Type 0
  EachIs f = (i : ℕ) (a : A) → f i ≡ Some a → P a

  put_each : (f : ℕ → Option A) (k : ℕ) (v : A) → EachIs f → P v → EachIs (put_at f k (Some v))
  put_each f k v all new i a e = found_put f k v (λ _ z. P z) i a e (λ _. new) (λ _ h. all i a h)

  changed_each : (f : ℕ → Option A) (k : ℕ) (change : A → A) → EachIs f → ((a : A) → P a → P (change a))
      → EachIs (put_at f k (option_map change (f k)))
  changed_each f k change all go i a e =
      at_each f k (option_map change (f k)) (λ _ v. v ≡ Some a → P a) i
      (λ _ e. found_mapped change (f k) a (P a) e (λ b h same. subst P (sym same) (go b (all k b h))))
      (λ _ e. all i a e) e

  map_each : (f : ℕ → Option A) (change : A → A) → EachIs f → ((a : A) → P a → P (change a))
      → EachIs (λ i. option_map change (f i))
  map_each f change all go i a e =
      found_mapped change (f i) a (P a) e (λ b h same. subst P (sym same) (go b (all i b h)))

  removed_each : (f : ℕ → Option A) (k : ℕ) → EachIs f → EachIs (put_at f k None)
  removed_each f k all i a e = found_removed f k i a (P a) e (λ _ h. all i a h)

-- The publisher has its memory from the start.
abbrev pub StaticPublisher : Publisher → Type 0
StaticPublisher x = is_static x.allocation_strategy ≡ true

module _ {T U : Type 0} where
  -- Every publisher does.
  pub record AllStatic (s : State T U) : Type 0 where
    pub publishers : EachIs StaticPublisher s.publishers

  -- one publisher is changed
  publisher_changed_static : (s : State T U) (p : ℕ) (change : Publisher → Publisher)
      → ((x : Publisher) → StaticPublisher x → StaticPublisher (change x)) → AllStatic s
      → AllStatic (publisher_changed s p change)
  publisher_changed_static s p change go k = record {
    publishers = changed_each StaticPublisher s.publishers p change k.publishers go;
  }

  -- ---- updates and receives

  pub update_publisher_static : (environment : Environment) (s s' : State T U) (p : ℕ)
      (failure : Option ConnectionFailure) → UpdatePublisher environment s p s' failure → AllStatic s → AllStatic s'
  update_publisher_static environment s s' p failure =
      publisher_update_by_steps _ (keeping AllStatic) environment s p s' failure (λ x e side _ k. record {
        publishers = put_each StaticPublisher s.publishers p
            (record x { ends = side.ends; is_due = false }) k.publishers (k.publishers p x e);
      })

  pub update_subscriber_static : (environment : Environment) (s s' : State T U) (q : ℕ)
      (failure : Option ConnectionFailure) → UpdateSubscriber environment s q s' failure → AllStatic s → AllStatic s'
  update_subscriber_static environment s s' q failure =
      subscriber_update_by_steps _ (keeping AllStatic) environment s q s' failure
      (λ y e side _ k. record { publishers = k.publishers })

  pub receive_static : (environment : Environment) (s s' : State T U) (q : ℕ) (result : ReceiveResult)
      → Receive environment s q s' result → AllStatic s → AllStatic s'
  receive_static environment s s' q result =
      receive_by_steps _ (keeping AllStatic) environment s q s' result
      (λ t failure. update_subscriber_static environment s t q failure)
      (λ t p box k. record { publishers = k.publishers })

  -- a subscriber forgets departed publishers, and goes where it is unused
  pruned_static : (s : State T U) (q : ℕ) → AllStatic s
      → AllStatic (receiver_channels_reset (freed_if_unused (subscriber_pruned s q) q) q)
  pruned_static s q k = at (is_unused after q) where
    after : State T U
    after = subscriber_pruned s q

    at : (b : Bool) → AllStatic (receiver_channels_reset (cond b (place_freed after q) after) q)
    at true = record {
      publishers = map_each StaticPublisher s.publishers (λ x. record x { is_due = true }) k.publishers (λ x h. h);
    }
    at false = record { publishers = k.publishers }

  pub released_static : (s : State T U) (p q n : ℕ) → AllStatic s → AllStatic (released s p q n)
  released_static s p q n k = pruned_static (unborrowed s p q n) q (record { publishers = k.publishers })

  -- ---- closes

  pub publisher_closed_static : (s : State T U) (p : ℕ) (x : Publisher) → AllStatic s
      → AllStatic (publisher_closed s p x)
  publisher_closed_static s p x k = record {
    publishers = removed_each StaticPublisher s.publishers p k.publishers;
  }

  pub subscriber_closed_static : (s : State T U) (q : ℕ) (y : Subscriber) → AllStatic s
      → AllStatic (subscriber_closed s q y)
  subscriber_closed_static s q y k = pruned_static (subscriber_shut s q y) q (record {
    publishers = map_each StaticPublisher s.publishers (λ x. record x { is_due = true }) k.publishers (λ x h. h);
  })

  -- ---- loans and sends

  pub with_loan_static : (s : State T U) (n : ℕ) (l : Option (Loan T U)) → AllStatic s → AllStatic (with_loan s n l)
  with_loan_static s n l k = record { publishers = k.publishers }

  pub grant_loan_static : (environment : Environment) (default_header : U) (checks_length : Bool) (len : ℕ)
      (s s' : State T U) (p : ℕ) (refusal : Option LoanError)
      → GrantLoan environment default_header checks_length len s p s' refusal → AllStatic s → AllStatic s'
  grant_loan_static environment default_header checks_length len s s' p refusal h k =
      grant_cases environment default_header checks_length len s p s' (AllStatic s') refusal h
      (λ e same _. subst AllStatic (sym same) k)
      (λ x e grants. subst AllStatic (sym grants.4) (record {
        publishers = put_each StaticPublisher s.publishers p _ k.publishers (k.publishers p x e);
      }))

  pub grant_written_loan_static : (environment : Environment) (value : T) (default_header : U) (checks_length : Bool)
      (len : ℕ) (s s' : State T U) (p : ℕ) (refusal : Option LoanError)
      → GrantWrittenLoan environment value default_header checks_length len s p s' refusal → AllStatic s → AllStatic s'
  grant_written_loan_static environment value default_header checks_length len s s' p refusal h k =
      let mid : AllStatic h.0 = grant_loan_static environment default_header checks_length len s h.0 p refusal h.1 k in
      by_option (AllStatic s') refusal _ _ h.2
      (λ _ j. by_option (AllStatic s') ((h.0).loans s.next_message) _ _ j (λ _ v. absurd v)
      (λ l _ j. subst AllStatic (sym j) (with_loan_static h.0 s.next_message _ mid)))
      (λ e _ j. subst AllStatic (sym j) mid)

  pub loan_discarded_static : (s : State T U) (n : ℕ) (l : Loan T U) → AllStatic s → AllStatic (loan_discarded s n l)
  loan_discarded_static s n l k =
      publisher_changed_static (with_loan s n None) l.publisher (λ x. record x { loans = without n x.loans }) (λ x h. h)
      (with_loan_static s n None k)

  concluded_static : (s s' : State T U) (p n : ℕ) (how : DeliveryEnd) (result : SendResult)
      → ConcludeSend s p n how s' result → AllStatic s → AllStatic s'
  concluded_static s s' p n (Complete count has_failed) result h k =
      subst AllStatic (sym h.0)
      (publisher_changed_static s p (λ x. record x { loans = without n x.loans; blocked = None }) (λ x h. h) k)
  concluded_static s s' p n (Suspended b) result h k =
      subst AllStatic (sym h.0) (publisher_changed_static s p (λ x. record x { blocked = Some b }) (λ x h. h) k)

  -- a delivery ends or is held up
  delivered_static : (environment : Environment) (s s' : State T U) (p n channel retries : ℕ) (elapsed : Duration)
      (place : ℕ) (ends : List (Option ℕ)) (count : ℕ) (has_failed : Bool) (result : SendResult)
      → DeliverAndConclude environment s p (sending n channel retries place ends count has_failed) elapsed s' result
      → AllStatic s → AllStatic s'
  delivered_static environment s s' p n channel retries elapsed place ends count has_failed result h k =
      by_option (AllStatic s') (s.publishers p) _ _ h (λ _ v. absurd v) (λ z _ h.
      concluded_static (with_mailboxes s p h.1) s' p n h.0 result h.3 (record { publishers = k.publishers }))

  pub retry_static : (environment : Environment) (s s' : State T U) (p : ℕ) (b : BlockedSend) (elapsed : Duration)
      (result : SendResult) → Retry environment s p b elapsed s' result → AllStatic s → AllStatic s'
  retry_static environment s s' p b elapsed result = delivered_static environment s s' p b.message b.channel
      (more_retries b.retries) elapsed b.place b.ends b.count b.has_failed result

  pub give_up_static : (environment : Environment) (s s' : State T U) (p : ℕ) (b : BlockedSend) (result : SendResult)
      → GiveUp environment s p b s' result → AllStatic s → AllStatic s'
  give_up_static environment s s' p b result = delivered_static environment s s' p b.message b.channel 0 no_time
      (b.place + 1) (drop 1 b.ends) b.count b.has_failed result

  publish_static : (environment : Environment) (s s' : State T U) (p n : ℕ) (result : SendResult)
      → Publish environment s p n s' result → AllStatic s → AllStatic s'
  publish_static environment s s' p n result h k =
      by_option (AllStatic s') (s.publishers p) _ _ h (λ _ v. absurd v) (λ x _ h.
      delivered_static environment (published s p n) s' p n 0 0 no_time 0 x.ends 0 false result h kept)
    where
      kept : AllStatic (published s p n)
      kept = publisher_changed_static (with_loan s n None) p
          (λ x. record x { history = last_n (s.config).history_size (x.history ++ n ∷ []) }) (λ x h. h)
          (with_loan_static s n None k)

  pub send_static : (environment : Environment) (s s' : State T U) (n : ℕ) (l : Loan T U) (result : SendResult)
      → Send environment s n l s' result → AllStatic s → AllStatic s'
  send_static environment s s' n l result h k =
      by_option (AllStatic s') (s.publishers l.publisher) _ _ h
      (λ _ h. subst AllStatic (sym h.0) (with_loan_static s n None k)) (λ x _ h.
      let mid : AllStatic h.0 = update_publisher_static environment s h.0 l.publisher h.1 h.2 k in
      by_option (AllStatic s') h.1 _ _ h.3
      (λ _ j. publish_static environment h.0 s' l.publisher n result j mid)
      (λ f _ j. subst AllStatic (sym j.0) (loan_discarded_static h.0 n l mid)))

  -- a send to one connection
  pub connection_static : (environment : Environment) (s s' : State T U) (n : ℕ) (l : Loan T U) (channel place : ℕ)
      (result : SendResult)
      → SendToConnection environment s n l channel place s' result → AllStatic s → AllStatic s'
  connection_static environment s s' n l channel place result h k =
      by_option (AllStatic s') (s.publishers l.publisher) _ _ h
      (λ _ h. subst AllStatic (sym h.0) (with_loan_static s n None k)) (λ x _ h.
      delivered_static environment (with_loan s n None) s' l.publisher n channel 0 no_time place
      (take 1 (drop place x.ends)) 0 false result h (with_loan_static s n None k))

  -- channels alone change
  pub channels_static : (s : State T U) (o : Outcome T U) → OnChannels s o → AllStatic s → AllStatic o.state
  channels_static s o k all =
      subst (λ (v : Outcome T U). AllStatic v.state) (sym k.is) (record { publishers = all.publishers })

  -- ---- ports

  warning_static : (s : State T U) (warning : ConnectionFailure → Warning) (failure : Option ConnectionFailure)
      → AllStatic s → AllStatic (with_failure_warning s warning failure)
  warning_static s warning None k = k
  warning_static s warning (Some e) k = record { publishers = k.publishers }

  pub with_new_publisher_static : (s : State T U) (given : PublisherSettings) (place : ℕ)
      → is_static given.allocation_strategy ≡ true
      → AllStatic s → AllStatic (with_new_publisher s given place)
  with_new_publisher_static s given place static k = record {
    publishers = put_each StaticPublisher s.publishers s.next_port (new_publisher s given place) k.publishers static;
  }

  pub create_publisher_static : (environment : Environment) (s s' : State T U) (given : PublisherSettings)
      (refusal : Option PublisherCreateError)
      → (refusal ≡ None → is_static given.allocation_strategy ≡ true) → CreatePublisher environment s given s' refusal
      → AllStatic s → AllStatic s'
  create_publisher_static environment s s' given refusal static h k =
      publisher_cases environment s given s' (AllStatic s') refusal h (λ e same _. subst AllStatic (sym same) k)
      (λ place makes.
      let first : FirstPublisherUpdate environment (with_new_publisher s given place) s.next_port s' = makes.2 in
      subst AllStatic (sym first.3) (warning_static first.0 _ first.1
      (update_publisher_static environment (with_new_publisher s given place) first.0 s.next_port first.1 first.2
      (with_new_publisher_static s given place (static makes.1) k))))

  pub with_new_subscriber_static : (s : State T U) (given : SubscriberSettings) (place : ℕ) → AllStatic s
      → AllStatic (with_new_subscriber s given place)
  with_new_subscriber_static s given place k = record {
    publishers = map_each StaticPublisher s.publishers (λ x. record x { is_due = true }) k.publishers (λ x h. h);
  }

  pub create_subscriber_static : (environment : Environment) (s s' : State T U) (given : SubscriberSettings)
      (refusal : Option SubscriberCreateError)
      → CreateSubscriber environment s given s' refusal → AllStatic s → AllStatic s'
  create_subscriber_static environment s s' given refusal h k =
      subscriber_cases environment s given s' (AllStatic s') refusal h (λ e same _. subst AllStatic (sym same) k)
      (λ place makes.
      let first : FirstSubscriberUpdate environment (with_new_subscriber s given place) s.next_port s' = makes.3 in
      subst AllStatic (sym first.3) (warning_static first.0 _ first.1
      (update_subscriber_static environment (with_new_subscriber s given place) first.0 s.next_port first.1 first.2
      (with_new_subscriber_static s given place k))))
