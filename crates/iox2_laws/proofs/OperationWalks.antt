-- What holds of each step of an operation, and goes on from step to step, holds of the whole operation.
use Rattle.std.proofs.Common.{◌≡◌, ℕ, ◌+◌, Bool, true, false, cond, List, take, drop, refl, sym, subst, ◌∙◌, le_refl}
use Rattle.std.proofs.Common.{le_trans, Option, None, Some}
use Rattle.std.specs.declared.time.Duration.{Duration}
use Rattle.std.proofs.lemmas.Bool.{cond_both}
use Rattle.iox2_machine.specs.machine.Mailbox.{Mailbox}
use Rattle.iox2_machine.specs.machine.Records.{Loan, Publisher, Subscriber, Environment, BlockedSend, PublisherSettings}
use Rattle.iox2_machine.specs.machine.Records.{SubscriberSettings}
use Rattle.iox2_machine.specs.machine.Limits.{expired_limit}
use Rattle.iox2_machine.specs.machine.State.{State, receiving_buffer, channel_buffer, has_sender_end, has_receiver_end}
use Rattle.iox2_machine.specs.machine.State.{with_loan, with_mailbox, with_warning, sender_channels_reset}
use Rattle.iox2_machine.specs.machine.State.{receiver_channels_reset}
use Rattle.iox2_machine.specs.machine.Connections.{ForEachPlace}
use Rattle.iox2_machine.specs.machine.Delivery.{Deliver, DeliveryEnd, Complete, Suspended, no_time}
use Rattle.iox2_machine.specs.machine.PublisherUpdate.{SenderSide, sender_side, with_sender_side, history_for}
use Rattle.iox2_machine.specs.machine.PublisherUpdate.{UpdateSenderPlace, UpdatePublisher}
use Rattle.iox2_machine.specs.machine.SubscriberUpdate.{ReceiverSide, receiver_side, with_receiver_side}
use Rattle.iox2_machine.specs.machine.SubscriberUpdate.{UpdateReceiverSide, UpdateSubscriber}
use Rattle.iox2_machine.specs.machine.Loans.{GrantLoan, loan_granted, loan_discarded}
use Rattle.iox2_machine.specs.machine.Sends.{Send, SendToConnection, Retry, GiveUp, DeliverAndConclude, ConcludeSend}
use Rattle.iox2_machine.specs.machine.Sends.{SendResult, Blocked_send, Delivered_to, Send_error, send_ended}
use Rattle.iox2_machine.specs.machine.Sends.{send_blocked, with_mailboxes, published, more_retries}
use Rattle.iox2_machine.specs.machine.Ports.{CreatePublisher, CreateSubscriber, with_new_publisher, with_new_subscriber}
use Rattle.iox2_machine.specs.machine.Ports.{with_failure_warning}
use Rattle.iox2_machine.specs.machine.Receives.{Receive, TakeSample, ReceiveResult, Got_sample, No_sample}
use Rattle.iox2_machine.specs.machine.Receives.{Receive_error}
use Rattle.iox2_machine.specs.machine.Releases.{subscriber_pruned, freed_if_unused, place_freed, is_unused}
use Rattle.iox2_machine.specs.declared.errors.ConnectionFailure.{ConnectionFailure}
use Rattle.iox2_machine.specs.declared.errors.LoanError.{LoanError}
use Rattle.iox2_machine.specs.declared.errors.SendError.{SendError}
use Rattle.iox2_machine.specs.declared.errors.SendError.TheVariants.{UnableToDeliver}
use Rattle.iox2_machine.specs.declared.errors.PublisherCreateError.{PublisherCreateError}
use Rattle.iox2_machine.specs.declared.errors.SubscriberCreateError.{SubscriberCreateError}
use Rattle.iox2_machine.specs.declared.warning.Warning.{Warning}
use Rattle.iox2_machine.specs.declared.warning.Warning.TheVariants.{PublisherPartlyConnected, SubscriberPartlyConnected}
use Rattle.iox2_laws.specs.Sendings.{sending}
use Rattle.iox2_laws.specs.Laws.{Advances}
use Rattle.iox2_laws.proofs.Cases.{by_option, by_bool}
use Rattle.iox2_laws.proofs.CallCases.{grant_cases, publisher_cases, subscriber_cases}

-- A send that was delivered, to whomever, isn't blocked.
pub delivered-unblocked : (count : ℕ) (has_failed : Bool)
    → cond has_failed (Send_error UnableToDeliver) (Delivered_to count) ≡ Blocked_send → ⊥
delivered-unblocked count true e = absurd cc
delivered-unblocked count false e = absurd cc

-- ---- sends

-- Where a delivery goes on: in which channel, from which place and at which ends, and what was counted so far.
pub record DeliveryPoint : Type 0 where
  pub channel : ℕ
  pub retries : ℕ
  pub elapsed : Duration
  pub place : ℕ
  pub ends : List (Option ℕ)
  pub count : ℕ
  pub has_failed : Bool

module _ {T U : Type 0} (environment : Environment) (p n : ℕ) where
  -- The message n of p was delivered from some point on, and p's mailboxes are these.
  abbrev pub Delivers : State T U → (ℕ → Mailbox) → Type 0
  Delivers s boxes =
      (x : Publisher) × (at : DeliveryPoint) × (how : DeliveryEnd)
      × Deliver environment s.config p x.backpressure_strategy x.backpressure_handler (channel_buffer s p at.channel) n
      at.channel at.retries at.elapsed at.place at.ends at.count at.has_failed (s.mailboxes p) how boxes

  -- `Before` holds of a delivery, and `Whole` of the step in which the send ends or is blocked.
  pub record DeliverySteps (Before Whole : State T U → State T U → Type 0) (result : SendResult) : Type 0 where
    pub delivers : (s : State T U) (boxes : ℕ → Mailbox) → Delivers s boxes → Before s (with_mailboxes s p boxes)
    pub ended : (s : State T U) → (result ≡ Blocked_send → ⊥) → Whole s (send_ended s p n)
    pub blocked : (s : State T U) (b : BlockedSend) → result ≡ Blocked_send → Whole s (send_blocked s p b)

  -- `Before` holds of each step of a send but the last, of which `Whole` holds.
  pub record SendSteps (Before Whole : State T U → State T U → Type 0) (result : SendResult) : Type 0 where
    pub delivery : DeliverySteps Before Whole result
    pub updates : (s s' : State T U) (failure : Option ConnectionFailure) → UpdatePublisher environment s p s' failure
        → Before s s'
    pub publishes : (s : State T U) → Before s (published s p n)
    pub lost : (s : State T U) → s.publishers p ≡ None → (e : SendError) → result ≡ Send_error e
        → Whole s (with_loan s n None)
    pub discards : (s : State T U) (l : Loan T U) → l.publisher ≡ p → (e : SendError) → result ≡ Send_error e
        → Whole s (loan_discarded s n l)

module _ {T U : Type 0} (Before Whole : State T U → State T U → Type 0)
    (goes_on : (a b c : State T U) → Before a b → Whole b c → Whole a c) where
  concluded : (environment : Environment) (s : State T U) (p n : ℕ) (how : DeliveryEnd) (s' : State T U)
      (result : SendResult)
      → DeliverySteps environment p n Before Whole result → ConcludeSend s p n how s' result → Whole s s'
  concluded environment s p n (Complete count has_failed) s' result steps h =
      subst (Whole s) (sym h.0) (steps.ended s (λ is. delivered-unblocked count has_failed (sym h.1 ∙ is)))
  concluded environment s p n (Suspended b) s' result steps h = subst (Whole s) (sym h.0) (steps.blocked s b h.1)

  -- A delivery by its steps.
  pub delivery_by_steps : (environment : Environment) (s : State T U) (p n channel retries : ℕ) (elapsed : Duration)
      (place : ℕ) (ends : List (Option ℕ)) (count : ℕ)
      (has_failed : Bool) (s' : State T U) (result : SendResult) → DeliverySteps environment p n Before Whole result
      → DeliverAndConclude environment s p (sending n channel retries place ends count has_failed) elapsed s' result
      → Whole s s'
  delivery_by_steps environment s p n channel retries elapsed place ends count has_failed s' result steps h =
      by_option (Whole s s') (s.publishers p) _ _ h (λ _ v. absurd v) (λ x _ h.
      let at : DeliveryPoint = record {
        channel = channel;
        retries = retries;
        elapsed = elapsed;
        place = place;
        ends = ends;
        count = count;
        has_failed = has_failed;
      } in
      goes_on s (with_mailboxes s p h.1) s' (steps.delivers s h.1 (x, at, h.0, h.2))
      (concluded environment (with_mailboxes s p h.1) p n h.0 s' result steps h.3))

  -- A blocked send that is tried again is a delivery.
  pub retry_by_steps : (environment : Environment) (s : State T U) (p : ℕ) (b : BlockedSend) (elapsed : Duration)
      (s' : State T U) (result : SendResult)
      → DeliverySteps environment p b.message Before Whole result → Retry environment s p b elapsed s' result
      → Whole s s'
  retry_by_steps environment s p b elapsed = delivery_by_steps environment s p b.message b.channel
      (more_retries b.retries) elapsed b.place b.ends b.count b.has_failed

  -- So is one that is given up.
  pub give_up_by_steps : (environment : Environment) (s : State T U) (p : ℕ) (b : BlockedSend) (s' : State T U)
      (result : SendResult)
      → DeliverySteps environment p b.message Before Whole result → GiveUp environment s p b s' result → Whole s s'
  give_up_by_steps environment s p b =
      delivery_by_steps environment s p b.message b.channel 0 no_time (b.place + 1) (drop 1 b.ends) b.count b.has_failed

  -- A send by its steps.
  pub send_by_steps : (environment : Environment) (s : State T U) (n : ℕ) (l : Loan T U) (s' : State T U)
      (result : SendResult)
      → SendSteps environment l.publisher n Before Whole result → Send environment s n l s' result → Whole s s'
  send_by_steps environment s n l s' result steps h =
      by_option (Whole s s') (s.publishers l.publisher) _ _ h
      (λ gone k. subst (Whole s) (sym k.0) (steps.lost s gone _ k.1))
      (λ x _ k. goes_on s k.0 s' (steps.updates s k.0 k.1 k.2)
      (by_option (Whole k.0 s') k.1 _ _ k.3
      (λ _ j. by_option (Whole k.0 s') ((k.0).publishers l.publisher) _ _ j (λ _ v. absurd v) (λ z _ i.
      goes_on k.0 (published k.0 l.publisher n) s' (steps.publishes k.0)
      (delivery_by_steps environment
      (published k.0 l.publisher n) l.publisher n 0 0 no_time 0 z.ends 0 false s' result steps.delivery i)))
      (λ e _ j. subst (Whole k.0) (sym j.0) (steps.discards k.0 l refl _ j.1))))

  -- A send to one connection by its steps.
  pub connection_send_by_steps : (environment : Environment) (s : State T U) (n : ℕ) (l : Loan T U) (channel place : ℕ)
      (s' : State T U) (result : SendResult)
      → DeliverySteps environment l.publisher n Before Whole result → Before s (with_loan s n None)
      → (s.publishers l.publisher ≡ None → (e : SendError) → result ≡ Send_error e → Whole s (with_loan s n None))
      → SendToConnection environment s n l channel place s' result → Whole s s'
  connection_send_by_steps environment s n l channel place s' result steps taken lost h =
      by_option (Whole s s') (s.publishers l.publisher) _ _ h
      (λ gone k. subst (Whole s) (sym k.0) (lost gone _ k.1))
      (λ x _ k. goes_on s (with_loan s n None) s' taken
      (delivery_by_steps environment (with_loan s n None) l.publisher n channel 0 no_time place
      (take 1 (drop place x.ends)) 0 false s' result steps k))

-- ---- the other operations

-- Each state stands so to itself, and two steps make one.
pub record IsPreorder {T U : Type 0} (R : State T U → State T U → Type 0) : Type 0 where
  pub itself : (s : State T U) → R s s
  pub trans : (a b c : State T U) → R a b → R b c → R a c

-- A state that advances twice advances in all.
pub advance : {T U : Type 0} → IsPreorder (Advances {T = T} {U = U})
advance = record {
  itself = λ s. record { config = refl; next_port = le_refl s.next_port; next_message = le_refl s.next_message };
  trans = λ a b c f g. record {
    config = g.config ∙ f.config;
    next_port = le_trans f.next_port g.next_port;
    next_message = le_trans f.next_message g.next_message;
  };
}

module _ {T U : Type 0} (R : State T U → State T U → Type 0) (order : IsPreorder R) where
  -- where nothing changes
  pub unchanged : (s s' : State T U) → s' ≡ s → R s s'
  unchanged s s' e = subst (R s) (sym e) (order.itself s)

  -- A publisher's update by what it changes where the publisher is due.
  pub publisher_update_by_steps : (environment : Environment) (s : State T U) (p : ℕ) (s' : State T U)
      (failure : Option ConnectionFailure)
      → ((x : Publisher) → s.publishers p ≡ Some x → (side : SenderSide)
      → ForEachPlace (UpdateSenderPlace environment (s.config).service_id p x.degradation_handler (history_for s p x)
      (receiving_buffer s) (has_receiver_end s p)) 0 s.subscriber_places (sender_side s p x) side failure
      → R s (sender_channels_reset (with_sender_side s p x side) p))
      → UpdatePublisher environment s p s' failure → R s s'
  publisher_update_by_steps environment s p s' failure changes h =
      by_option (R s s') (s.publishers p) _ _ h (λ _ v. absurd v) (λ x present h.
      by_bool (R s s') x.is_due _ _ h (λ _ h. subst (R s) (sym h.2) (changes x present h.0 h.1))
      (λ _ h. unchanged s s' h.0))

  -- A subscriber's update by what it changes where the subscriber is due.
  pub subscriber_update_by_steps : (environment : Environment) (s : State T U) (q : ℕ) (s' : State T U)
      (failure : Option ConnectionFailure)
      → ((y : Subscriber) → s.subscribers q ≡ Some y → (side : ReceiverSide)
      → UpdateReceiverSide environment (s.config).service_id q y.degradation_handler (expired_limit s.config)
      (λ p. has_sender_end s p q) s.publisher_places (receiver_side s q y) side failure
      → R s (receiver_channels_reset (with_receiver_side s q y side) q))
      → UpdateSubscriber environment s q s' failure → R s s'
  subscriber_update_by_steps environment s q s' failure changes h =
      by_option (R s s') (s.subscribers q) _ _ h (λ _ v. absurd v) (λ y present h.
      by_bool (R s s') y.is_due _ _ h (λ _ h. subst (R s) (sym h.2) (changes y present h.0 h.1))
      (λ _ h. unchanged s s' h.0))

  -- A failure that is a warning, where any warning may be given.
  pub warning_by_steps : ((s : State T U) (w : Warning) → R s (with_warning s w))
      → (s : State T U) (warning : ConnectionFailure → Warning) (failure : Option ConnectionFailure)
      → R s (with_failure_warning s warning failure)
  warning_by_steps warns s warning None = order.itself s
  warning_by_steps warns s warning (Some failure) = warns s (warning failure)

  -- A first update, whose failure is a warning, by its steps.
  pub first_update_by_steps : (s s' : State T U) (Updates : State T U → Option ConnectionFailure → Type 0)
      (warning : ConnectionFailure → Warning)
      → ((t : State T U) (failure : Option ConnectionFailure) → Updates t failure → R s t)
      → ((t : State T U) (w : Warning) → R t (with_warning t w))
      → (mid : State T U) × (failure : Option ConnectionFailure) × Updates mid failure
      × (s' ≡ with_failure_warning mid warning failure) → R s s'
  first_update_by_steps s s' Updates warning updates warns h =
      subst (R s) (sym h.3) (order.trans s h.0 _ (updates h.0 h.1 h.2) (warning_by_steps warns h.0 warning h.1))

  -- A publisher that is made, or refused, by its steps.
  pub create_publisher_by_steps : (environment : Environment) (s : State T U) (given : PublisherSettings)
      (s' : State T U) (refusal : Option PublisherCreateError)
      → ((place : ℕ) → R s (with_new_publisher s given place))
      → ((a : State T U) (p : ℕ) (b : State T U) (failure : Option ConnectionFailure)
      → UpdatePublisher environment a p b failure → R a b)
      → ((t : State T U) (w : Warning) → R t (with_warning t w)) → CreatePublisher environment s given s' refusal
      → R s s'
  create_publisher_by_steps environment s given s' refusal enters updates warns h =
      publisher_cases environment s given s' (R s s') refusal h (λ e same _. unchanged s s' same) (λ place makes.
      let new : State T U = with_new_publisher s given place in
      order.trans s new s' (enters place) (first_update_by_steps new s' (UpdatePublisher environment new s.next_port)
      (PublisherPartlyConnected s.next_port) (updates new s.next_port) warns makes.2))

  -- A subscriber that is made, or refused, by its steps.
  pub create_subscriber_by_steps : (environment : Environment) (s : State T U) (given : SubscriberSettings)
      (s' : State T U) (refusal : Option SubscriberCreateError)
      → ((place : ℕ) → R s (with_new_subscriber s given place))
      → ((a : State T U) (q : ℕ) (b : State T U) (failure : Option ConnectionFailure)
      → UpdateSubscriber environment a q b failure → R a b)
      → ((t : State T U) (w : Warning) → R t (with_warning t w)) → CreateSubscriber environment s given s' refusal
      → R s s'
  create_subscriber_by_steps environment s given s' refusal enters updates warns h =
      subscriber_cases environment s given s' (R s s') refusal h (λ e same _. unchanged s s' same) (λ place makes.
      let new : State T U = with_new_subscriber s given place in
      order.trans s new s' (enters place) (first_update_by_steps new s' (UpdateSubscriber environment new s.next_port)
      (SubscriberPartlyConnected s.next_port) (updates new s.next_port) warns makes.3))

  -- A grant by what it changes.
  pub grant_by_steps : (environment : Environment) (default_header : U) (checks_length : Bool) (len : ℕ) (s : State T U)
      (p : ℕ) (s' : State T U) (refusal : Option LoanError)
      → ((x : Publisher) → s.publishers p ≡ Some x → (segments : ℕ)
      → R s (loan_granted default_header s p x len segments))
      → GrantLoan environment default_header checks_length len s p s' refusal → R s s'
  grant_by_steps environment default_header checks_length len s p s' refusal grants h =
      grant_cases environment default_header checks_length len s p s' (R s s') refusal h
      (λ e same _. unchanged s s' same)
      (λ x present g. subst (R s) (sym g.4) (grants x present g.0))

  -- A receive by its steps.
  pub receive_by_steps : (environment : Environment) (s : State T U) (q : ℕ) (s' : State T U) (result : ReceiveResult)
      → ((t : State T U) (failure : Option ConnectionFailure) → UpdateSubscriber environment s q t failure → R s t)
      → ((t : State T U) (p : ℕ) (box : Mailbox) → R t (with_mailbox t p q box)) → Receive environment s q s' result
      → R s s'
  receive_by_steps environment s q s' result updates takes h =
      let first : R s h.0 = updates h.0 h.1 h.2 in
      by_option (R s s') h.1 _ _ h.3
      (λ _ k. by_option (R s s') ((h.0).subscribers q) _ _ k (λ _ v. absurd v)
      (λ y _ k. order.trans s h.0 s' first (taken h.0 y result k)))
      (λ e _ k. subst (R s) (sym k.0) first)
    where
      taken : (t : State T U) (y : Subscriber) (result : ReceiveResult) → TakeSample t q y s' result → R t s'
      taken t y (Got_sample p n) k = subst (R t) (sym k.3) (takes t p k.1)
      taken t y No_sample k = unchanged t s' k.1
      taken t y (Receive_error e) k = unchanged t s' k.3

  -- A subscriber that forgets publishers, and is gone where it is unused, by its steps.
  pub forgotten_by_steps : (s : State T U) (q : ℕ) → ((t : State T U) → R t (subscriber_pruned t q))
      → ((t : State T U) → R t (receiver_channels_reset (place_freed t q) q))
      → ((t : State T U) → R t (receiver_channels_reset t q))
      → R s (receiver_channels_reset (freed_if_unused (subscriber_pruned s q) q) q)
  forgotten_by_steps s q forgets frees resets =
      let mid : State T U = subscriber_pruned s q in
      order.trans s mid _ (forgets s)
      (cond_both (is_unused mid q) (place_freed mid q) mid (λ t. R mid (receiver_channels_reset t q)) (λ _. frees mid)
      (λ _. resets mid))
