-- What each send leaves, also one that is blocked, tried again or given up: the ports stay, and what is borrowed is
-- what was. A publisher with a blocked send waits with its message.
use Rattle.std.proofs.Common.{◌≡◌, ℕ, ◌+◌, ◌||◌, Bool, true, false, List, [], ◌∷◌, ◌++◌, drop, refl, sym, ap, subst}
use Rattle.std.proofs.Common.{◌∙◌, arith, Option, None, Some}
use Rattle.std.specs.Option.{option_map}
use Rattle.std.specs.declared.time.Duration.{Duration}
use Rattle.std.proofs.lemmas.Option.{none-some, same_Some}
use Rattle.iox2_machine.specs.machine.Loans.{loan_discarded}
use Rattle.iox2_machine.specs.machine.Numbers.{without, last_n}
use Rattle.iox2_machine.specs.machine.Mailbox.{Mailbox}
use Rattle.iox2_machine.specs.machine.Records.{Loan, Publisher, PublisherSettings, Subscriber, Environment, BlockedSend}
use Rattle.iox2_machine.specs.machine.Records.{Handler}
use Rattle.iox2_machine.specs.machine.Ports.{CreatePublisher, FirstPublisherUpdate, with_new_publisher, new_publisher}
use Rattle.iox2_machine.specs.machine.Ports.{with_failure_warning}
use Rattle.iox2_machine.specs.machine.PublisherUpdate.{UpdatePublisher}
use Rattle.iox2_machine.specs.declared.errors.ConnectionFailure.{ConnectionFailure}
use Rattle.iox2_machine.specs.declared.warning.Warning.TheVariants.{PublisherPartlyConnected}
use Rattle.iox2_laws.proofs.PublisherUpdates.{update_publisher_leaves}
use Rattle.iox2_laws.proofs.Waits.{update_publisher_waits}
use Rattle.iox2_machine.specs.machine.State.{State, channel_buffer, with_loan, publisher_changed}
use Rattle.iox2_machine.specs.machine.Delivery.{DeliveryEnd, Complete, Suspended, accepted_count, is_failed}
use Rattle.iox2_machine.specs.machine.Delivery.{is_blocking, no_time, Deliver}
use Rattle.iox2_machine.specs.machine.Sends.{Send, Retry, GiveUp, DeliverAndConclude, ConcludeSend, SendResult}
use Rattle.iox2_machine.specs.machine.Sends.{Blocked_send, Send_error, with_mailboxes, published, more_retries}
use Rattle.iox2_machine.specs.machine.SingleCalls.{HoldsBlocked}
use Rattle.iox2_machine.specs.declared.backpressure.BackpressureStrategy.{BackpressureStrategy}
use Rattle.iox2_machine.specs.declared.backpressure.BackpressureAction.{BackpressureAction}
use Rattle.iox2_machine.specs.declared.service_config.ServiceConfig.{ServiceConfig}
use Rattle.iox2_laws.specs.Sendings.{sending}
use Rattle.iox2_laws.proofs.Cases.{by_option, by_bool}
use Rattle.iox2_laws.proofs.CallCases.{publisher_cases}
use Rattle.iox2_laws.proofs.OperationWalks.{DeliverySteps, delivered-unblocked, retry_by_steps, give_up_by_steps}
use Rattle.iox2_laws.proofs.OperationWalks.{send_by_steps}
use Rattle.iox2_laws.proofs.PortsStay.{PortsStay, update_publisher_stays, delivered_borrowed, loan_set_stays}
use Rattle.iox2_laws.proofs.PortsStay.{loan_discarded_stays}
use Rattle.iox2_laws.proofs.Puts.{at_each, put_at-same}

-- The ports stay, and what is borrowed is what was.
pub record PortsRemain {T U : Type 0} (s s' : State T U) : Type 0 where
  pub config : s'.config ≡ s.config
  pub publishers : (p : ℕ) (x : Publisher) → s.publishers p ≡ Some x → (x' : Publisher) × (s'.publishers p ≡ Some x')
  pub subscribers : (q : ℕ) (y : Subscriber) → s.subscribers q ≡ Some y → y.is_open ≡ true
      → (y' : Subscriber) × (s'.subscribers q ≡ Some y') × (y'.is_open ≡ true)
  pub borrowed : (p q : ℕ) → (s'.mailboxes p q).borrowed ≡ (s.mailboxes p q).borrowed

module _ {T U : Type 0} where
  pub ports_remain : (s s' : State T U) → PortsStay s s' → PortsRemain s s'
  ports_remain s s' stay = record {
    config = (stay.remain).config;
    publishers = λ p x e. let v = (stay.remain).publishers p x e in (v.0, v.1);
    subscribers = (stay.remain).subscribers;
    borrowed = stay.borrowed;
  }

  pub ports_remain_trans : (s s' s'' : State T U) → PortsRemain s s' → PortsRemain s' s'' → PortsRemain s s''
  ports_remain_trans s s' s'' a b = record {
    config = b.config ∙ a.config;
    publishers = λ p x e. let v = a.publishers p x e in b.publishers p v.0 v.1;
    subscribers = λ q y e o. let v = a.subscribers q y e o in b.subscribers q v.0 v.1 v.2;
    borrowed = λ p q. b.borrowed p q ∙ a.borrowed p q;
  }

  -- a publisher that may be there is changed
  publisher_changed_remains : (s : State T U) (i : ℕ) (f : Publisher → Publisher)
      → PortsRemain s (publisher_changed s i f)
  publisher_changed_remains s i f = record {
    config = refl;
    publishers = λ p x e. at_each s.publishers i (option_map f (s.publishers i))
        (λ k o. s.publishers k ≡ Some x → (x' : Publisher) × (o ≡ Some x')) p
        (λ here old. (f x, ap (option_map f) old)) (λ apart old. (x, old)) e;
    subscribers = λ q y e o. (y, e, o);
    borrowed = λ p q. refl;
  }

  pub deliveries_remain : (environment : Environment) (p n : ℕ) (result : SendResult)
      → DeliverySteps {T = T} {U = U} environment p n PortsRemain PortsRemain result
  deliveries_remain environment p n result = record {
    delivers = λ s boxes d. record {
      config = refl;
      publishers = λ p x e. (x, e);
      subscribers = λ q y e o. (y, e, o);
      borrowed = delivered_borrowed environment s p n boxes d;
    };
    ended = λ s _. publisher_changed_remains s p (λ x. record x { loans = without n x.loans; blocked = None });
    blocked = λ s b _. publisher_changed_remains s p (λ x. record x { blocked = Some b });
  }

  pub retry_remains : (environment : Environment) (s : State T U) (p : ℕ) (b : BlockedSend) (elapsed : Duration)
      (s' : State T U) (result : SendResult)
      → Retry environment s p b elapsed s' result → PortsRemain s s'
  retry_remains environment s p b elapsed s' result =
      retry_by_steps PortsRemain PortsRemain ports_remain_trans environment s p b elapsed s' result
      (deliveries_remain environment p b.message result)

  pub give_up_remains : (environment : Environment) (s : State T U) (p : ℕ) (b : BlockedSend) (s' : State T U)
      (result : SendResult) → GiveUp environment s p b s' result → PortsRemain s s'
  give_up_remains environment s p b s' result =
      give_up_by_steps PortsRemain PortsRemain ports_remain_trans environment s p b s' result
      (deliveries_remain environment p b.message result)

  published_remains : (s : State T U) (p n : ℕ) → PortsRemain s (published s p n)
  published_remains s p n =
      ports_remain_trans s (with_loan s n None) (published s p n)
      (ports_remain s (with_loan s n None) (loan_set_stays s n None))
      (publisher_changed_remains (with_loan s n None) p
      (λ x. record x { history = last_n (s.config).history_size (x.history ++ n ∷ []) }))

  pub send_remains : (environment : Environment) (s : State T U) (n : ℕ) (l : Loan T U) (s' : State T U)
      (result : SendResult) → Send environment s n l s' result → PortsRemain s s'
  send_remains environment s n l s' result =
      send_by_steps PortsRemain PortsRemain ports_remain_trans environment s n l s' result (record {
        delivery = deliveries_remain environment l.publisher n result;
        updates = λ a b failure h. ports_remain a b (update_publisher_stays environment a l.publisher b failure h);
        publishes = λ a. published_remains a l.publisher n;
        lost = λ a _ e _. ports_remain a (with_loan a n None) (loan_set_stays a n None);
        discards = λ a k _ e _. ports_remain a (loan_discarded a n k) (loan_discarded_stays a n k);
      })

-- ---- a send that is blocked waits with its message

module _ (e : Environment) (c : ServiceConfig) (p : ℕ) (strategy : BackpressureStrategy)
    (handler : Option (Handler BackpressureAction)) (buffers : ℕ → Option ℕ) (n channel : ℕ) where
  suspended_message : (retries : ℕ) (elapsed : Duration) (place : ℕ) (ends : List (Option ℕ)) (count : ℕ)
      (has_failed : Bool) (boxes : ℕ → Mailbox) (b : BlockedSend) (boxes' : ℕ → Mailbox)
      → Deliver e c p strategy handler buffers n channel retries elapsed place ends count has_failed boxes
      (Suspended b) boxes' → b.message ≡ n
  suspended_message retries elapsed place [] count has_failed boxes b boxes' h =
      absurd (let no : Suspended b ≡ Complete count has_failed = h.0 in cc)
  suspended_message retries elapsed place (end ∷ rest) count has_failed boxes b boxes' h =
      by_bool (b.message ≡ n) (is_blocking h.0) _ _ h.3
      (λ _ k.
      let stop : BlockedSend = record {
        message = n;
        channel = channel;
        place = place;
        ends = end ∷ rest;
        retries = retries;
        count = count;
        has_failed = has_failed;
      } in
      let same : Suspended b ≡ Suspended stop = k.0 in
      let is : b ≡ stop = cc in
      ap (λ (v : BlockedSend). v.message) is)
      (λ _ k. suspended_message 0 no_time (place + 1) rest (count + accepted_count h.0)
      (has_failed || is_failed h.0) h.1 b boxes' k)

module _ {T U : Type 0} where
  concluded_waits_with : (s : State T U) (p n : ℕ) (x : Publisher) → s.publishers p ≡ Some x
      → (how : DeliveryEnd) (s' : State T U) (result : SendResult)
      → ((b : BlockedSend) → how ≡ Suspended b → b.message ≡ n) → ConcludeSend s p n how s' result
      → result ≡ Blocked_send → HoldsBlocked s' p n
  concluded_waits_with s p n x here (Complete count has_failed) s' result message h is =
      absurd (delivered-unblocked count has_failed (sym h.1 ∙ is))
  concluded_waits_with s p n x here (Suspended b) s' result message h is =
      subst (λ (t : State T U). HoldsBlocked t p n) (sym h.0) (
        record x { blocked = Some b },
        b,
        put_at-same s.publishers p (option_map (λ (v : Publisher). record v { blocked = Some b }) (s.publishers p))
            ∙ ap (option_map (λ (v : Publisher). record v { blocked = Some b })) here,
        refl,
        message b refl,
      )

  pub delivered_waits_with : (environment : Environment) (s : State T U) (p n channel retries : ℕ) (elapsed : Duration)
      (place : ℕ) (ends : List (Option ℕ)) (count : ℕ)
      (has_failed : Bool) (s' : State T U) (result : SendResult)
      → DeliverAndConclude environment s p (sending n channel retries place ends count has_failed) elapsed s' result
      → result ≡ Blocked_send → HoldsBlocked s' p n
  delivered_waits_with environment s p n channel retries elapsed place ends count has_failed s' result h is =
      by_option (HoldsBlocked s' p n) (s.publishers p) _ _ h (λ _ v. absurd v) (λ x present h.
      concluded_waits_with (with_mailboxes s p h.1) p n x present h.0 s' result
      (λ b e. suspended_message environment s.config p x.backpressure_strategy x.backpressure_handler
      (channel_buffer s p channel) n channel retries elapsed place ends count has_failed (s.mailboxes p) b h.1
      (subst (λ (how : DeliveryEnd). Deliver environment s.config p x.backpressure_strategy x.backpressure_handler
      (channel_buffer s p channel) n channel retries elapsed place ends count has_failed (s.mailboxes p) how h.1) e
      h.2))
      h.3 is)

  pub send_waits_with : (environment : Environment) (s : State T U) (n : ℕ) (l : Loan T U) (s' : State T U)
      (result : SendResult) → Send environment s n l s' result → result ≡ Blocked_send
      → HoldsBlocked s' l.publisher n
  send_waits_with environment s n l s' result h is =
      by_option (HoldsBlocked s' l.publisher n) (s.publishers l.publisher) _ _ h
      (λ _ k. absurd (let no : Send_error _ ≡ Blocked_send = sym k.1 ∙ is in cc))
      (λ x _ k.
      by_option (HoldsBlocked s' l.publisher n) k.1 _ _ k.3
      (λ _ j.
      by_option (HoldsBlocked s' l.publisher n) ((k.0).publishers l.publisher) _ _ j (λ _ v. absurd v) (λ x1 _ i.
      delivered_waits_with environment
      (published k.0 l.publisher n) l.publisher n 0 0 no_time 0 x1.ends 0 false s' result i is))
      (λ e _ j. absurd (let no : Send_error _ ≡ Blocked_send = sym j.1 ∙ is in cc)))

  pub retry_waits_with : (environment : Environment) (s : State T U) (p : ℕ) (b : BlockedSend) (elapsed : Duration)
      (s' : State T U) (result : SendResult)
      → Retry environment s p b elapsed s' result → result ≡ Blocked_send → HoldsBlocked s' p b.message
  retry_waits_with environment s p b elapsed s' result =
      delivered_waits_with environment s p b.message b.channel
      (more_retries b.retries) elapsed b.place b.ends b.count b.has_failed s' result

  pub give_up_waits_with : (environment : Environment) (s : State T U) (p : ℕ) (b : BlockedSend) (s' : State T U)
      (result : SendResult)
      → GiveUp environment s p b s' result → result ≡ Blocked_send → HoldsBlocked s' p b.message
  give_up_waits_with environment s p b s' result = delivered_waits_with environment s p b.message b.channel 0 no_time
      (b.place + 1) (drop 1 b.ends) b.count b.has_failed s' result

-- ---- a send that isn't blocked frees its publisher

module _ {T U : Type 0} where
  concluded_frees : (s : State T U) (p n : ℕ) (how : DeliveryEnd) (s' : State T U) (result : SendResult)
      → (result ≡ Blocked_send → ⊥) → ConcludeSend s p n how s' result
      → (x' : Publisher) → s'.publishers p ≡ Some x' → x'.blocked ≡ None
  concluded_frees s p n (Complete count has_failed) s' result free h = λ x' at.
      let ended : Publisher → Publisher = λ (x : Publisher). record x { loans = without n x.loans; blocked = None } in
      by (s.publishers p) x' (sym (put_at-same s.publishers p (option_map ended (s.publishers p)))
      ∙ sym (ap (λ (t : State T U). t.publishers p) h.0) ∙ at)
    where
      by : (o : Option Publisher) (x' : Publisher) → option_map
          (λ (x : Publisher). record x { loans = without n x.loans; blocked = None }) o ≡ Some x' → x'.blocked ≡ None
      by None x' e = absurd (let no : None ≡ Some x' = e in cc)
      by (Some x) x' e = sym (ap (λ (z : Publisher). z.blocked) (same_Some _ x' e))
  concluded_frees s p n (Suspended b) s' result free h = absurd (free h.1)

  delivered_frees : (environment : Environment) (s : State T U) (p n channel retries : ℕ) (elapsed : Duration)
      (place : ℕ) (ends : List (Option ℕ)) (count : ℕ)
      (has_failed : Bool) (s' : State T U) (result : SendResult) → (result ≡ Blocked_send → ⊥)
      → DeliverAndConclude environment s p (sending n channel retries place ends count has_failed) elapsed s' result
      → (x' : Publisher) → s'.publishers p ≡ Some x' → x'.blocked ≡ None
  delivered_frees environment s p n channel retries elapsed place ends count has_failed s' result free h =
      by_option ((x' : Publisher) → s'.publishers p ≡ Some x' → x'.blocked ≡ None) (s.publishers p) _ _ h
      (λ _ v. absurd v)
      (λ x _ k. concluded_frees (with_mailboxes s p k.1) p n k.0 s' result free k.3)

  pub retry_frees : (environment : Environment) (s : State T U) (p : ℕ) (b : BlockedSend) (elapsed : Duration)
      (s' : State T U) (result : SendResult) → (result ≡ Blocked_send → ⊥)
      → Retry environment s p b elapsed s' result → (x' : Publisher) → s'.publishers p ≡ Some x' → x'.blocked ≡ None
  retry_frees environment s p b elapsed = delivered_frees environment s p b.message b.channel
      (more_retries b.retries) elapsed b.place b.ends b.count b.has_failed

  pub give_up_frees : (environment : Environment) (s : State T U) (p : ℕ) (b : BlockedSend) (s' : State T U)
      (result : SendResult) → (result ≡ Blocked_send → ⊥)
      → GiveUp environment s p b s' result → (x' : Publisher) → s'.publishers p ≡ Some x' → x'.blocked ≡ None
  give_up_frees environment s p b =
      delivered_frees environment s p b.message b.channel 0 no_time (b.place + 1) (drop 1 b.ends) b.count b.has_failed

-- ---- a publisher that was made waits for nobody

module _ {T U : Type 0} where
  -- it has the strategy and the handlers that were given
  pub created_as : (environment : Environment) (s : State T U) (given : PublisherSettings) (s' : State T U)
      → CreatePublisher environment s given s' None
      → (x : Publisher) × (s'.publishers s.next_port ≡ Some x) × (x.backpressure_strategy ≡ given.backpressure_strategy)
      × (x.backpressure_handler ≡ given.backpressure_handler) × (x.blocked ≡ None)
      × (x.degradation_handler ≡ given.degradation_handler)
  created_as environment s given s' h =
      publisher_cases environment s given s' (Made s') None h (λ e _ some. absurd (none-some e some))
      (λ place makes. made place makes.2)
    where
      Made : State T U → Type 0
      Made t = (x : Publisher) × (t.publishers s.next_port ≡ Some x)
          × (x.backpressure_strategy ≡ given.backpressure_strategy)
          × (x.backpressure_handler ≡ given.backpressure_handler) × (x.blocked ≡ None)
          × (x.degradation_handler ≡ given.degradation_handler)

      made : (place : ℕ) → FirstPublisherUpdate environment (with_new_publisher s given place) s.next_port s' → Made s'
      made place h =
          let new : State T U = with_new_publisher s given place in
          let left = update_publisher_leaves environment new s.next_port h.0 h.1 (new_publisher s given place)
          (put_at-same s.publishers s.next_port (Some (new_publisher s given place))) h.2 in
          subst Made (sym h.3) (warned h.0 (as_made h.0 h.1 left.0 left.1 left.4 h.2) h.1)
        where
          as_made : (mid : State T U) (failure : Option ConnectionFailure) (x : Publisher)
              → mid.publishers s.next_port ≡ Some x → x.blocked ≡ None
              → UpdatePublisher environment (with_new_publisher s given place) s.next_port mid failure → Made mid
          as_made mid failure x at free h =
              let was =
              (update_publisher_waits (λ _. ⊥) environment (with_new_publisher s given place) s.next_port mid failure
              h).publishers s.next_port x (omega arith) at in
              let both : Some (new_publisher s given place) ≡ Some was.0 =
              sym (put_at-same s.publishers s.next_port (Some (new_publisher s given place))) ∙ was.1 in
              let is : new_publisher s given place ≡ was.0 = cc in (
                x,
                at,
                was.2.strategy ∙ sym (ap (λ (y : Publisher). y.backpressure_strategy) is),
                was.2.handler ∙ sym (ap (λ (y : Publisher). y.backpressure_handler) is),
                free,
                was.2.degradation ∙ sym (ap (λ (y : Publisher). y.degradation_handler) is),
              )

          warned : (mid : State T U) → Made mid → (failure : Option ConnectionFailure)
              → Made (with_failure_warning mid (PublisherPartlyConnected s.next_port) failure)
          warned mid made None = made
          warned mid made (Some failure) = made
