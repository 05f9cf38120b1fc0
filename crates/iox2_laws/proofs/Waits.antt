-- Who waits for a receiver, and where ports stand: no operation changes what a publisher does with a full receiver or
-- without a connection, and only a send of its own, tried again or given up, changes whether it waits, and with which
-- message. No port moves to another place, and no subscriber gets another buffer.
use Rattle.std.proofs.Common.{◌≡◌, ℕ, ◌≤◌, ◌<◌, Bool, true, false, [], ◌∷◌, ◌++◌, refl, sym, ap, subst, ◌∙◌, le_refl}
use Rattle.std.proofs.Common.{le_trans, arith, Option, None, Some}
use Rattle.std.specs.Prelude.{max}
use Rattle.std.specs.Option.{option_map}
use Rattle.std.specs.declared.time.Duration.{Duration}
use Rattle.iox2_machine.specs.machine.Numbers.{without, last_n}
use Rattle.iox2_machine.specs.machine.Numbers.{put_at}
use Rattle.iox2_machine.specs.machine.Records.{Loan, Publisher, Subscriber, Environment, BlockedSend, PublisherSettings}
use Rattle.iox2_machine.specs.machine.Records.{SubscriberSettings}
use Rattle.iox2_machine.specs.machine.State.{State, with_loan, with_mailbox, publisher_changed, receiver_channels_reset}
use Rattle.iox2_machine.specs.machine.State.{with_warning}
use Rattle.iox2_machine.specs.machine.PublisherUpdate.{UpdatePublisher}
use Rattle.iox2_machine.specs.machine.SubscriberUpdate.{UpdateSubscriber}
use Rattle.iox2_machine.specs.machine.Loans.{GrantLoan, loan_granted, loan_discarded}
use Rattle.iox2_machine.specs.machine.Sends.{Send, Retry, GiveUp, SendResult, with_mailboxes, published}
use Rattle.iox2_machine.specs.machine.Ports.{CreatePublisher, CreateSubscriber, with_new_publisher, with_new_subscriber}
use Rattle.iox2_machine.specs.machine.Ports.{new_publisher, new_subscriber, publisher_closed, publisher_gone}
use Rattle.iox2_machine.specs.machine.Ports.{subscribers_pruned, subscriber_shut, subscriber_closed}
use Rattle.iox2_machine.specs.machine.Receives.{Receive, ReceiveResult}
use Rattle.iox2_machine.specs.machine.Releases.{released, unborrowed, pruned, subscriber_pruned, freed_if_unused}
use Rattle.iox2_machine.specs.machine.Releases.{place_freed}
use Rattle.iox2_machine.specs.declared.errors.ConnectionFailure.{ConnectionFailure}
use Rattle.iox2_machine.specs.declared.errors.LoanError.{LoanError}
use Rattle.iox2_machine.specs.declared.errors.PublisherCreateError.{PublisherCreateError}
use Rattle.iox2_machine.specs.declared.errors.SubscriberCreateError.{SubscriberCreateError}
use Rattle.iox2_machine.specs.declared.warning.Warning.{Warning}
use Rattle.iox2_laws.proofs.OperationWalks.{IsPreorder, DeliverySteps, publisher_update_by_steps}
use Rattle.iox2_laws.proofs.OperationWalks.{subscriber_update_by_steps, create_publisher_by_steps}
use Rattle.iox2_laws.proofs.OperationWalks.{create_subscriber_by_steps, grant_by_steps, receive_by_steps}
use Rattle.iox2_laws.proofs.OperationWalks.{forgotten_by_steps, retry_by_steps, give_up_by_steps, send_by_steps}
use Rattle.iox2_laws.proofs.Puts.{at_each, found_put, found_removed, found_mapped}

-- the publisher stands where it did, does with a full receiver what it did, and without a connection, and waits as it
-- did, unless it is spared
pub record IsAsItWas (Spared : ℕ → Type 0) (p : ℕ) (x x' : Publisher) : Type 0 where
  pub place : x'.place ≡ x.place
  pub strategy : x'.backpressure_strategy ≡ x.backpressure_strategy
  pub handler : x'.backpressure_handler ≡ x.backpressure_handler
  pub degradation : x'.degradation_handler ≡ x.degradation_handler
  pub blocked : (Spared p → ⊥) → x'.blocked ≡ x.blocked

-- where a publisher came from
abbrev pub WasPublisher : (Spared : ℕ → Type 0) → (publishers : ℕ → Option Publisher) → (p : ℕ) → Publisher → Type 0
WasPublisher Spared publishers p x' = (x : Publisher) × (publishers p ≡ Some x) × IsAsItWas Spared p x x'

-- the subscriber stands where it did, and has the buffer that it had
pub record StandsAsItDid (y y' : Subscriber) : Type 0 where
  pub place : y'.place ≡ y.place
  pub buffer : y'.buffer ≡ y.buffer

stands_still : (y : Subscriber) → StandsAsItDid y y
stands_still y = record { place = refl; buffer = refl }

stood : (y z v : Subscriber) → StandsAsItDid y z → StandsAsItDid z v → StandsAsItDid y v
stood y z v a b = record { place = b.place ∙ a.place; buffer = b.buffer ∙ a.buffer }

-- where a subscriber came from, which stands as it did
abbrev pub WasSubscriber : (subscribers : ℕ → Option Subscriber) → (q : ℕ) → Subscriber → Type 0
WasSubscriber subscribers q y' = (y : Subscriber) × (subscribers q ≡ Some y) × StandsAsItDid y y'

-- Each publisher that is there, of those whose ids were given out, was so before, and so was each subscriber.
pub record Waits {T U : Type 0} (Spared : ℕ → Type 0) (s s' : State T U) : Type 0 where
  pub next_port : s.next_port ≤ s'.next_port
  pub publishers : (p : ℕ) (x' : Publisher) → p < s.next_port → s'.publishers p ≡ Some x'
      → WasPublisher Spared s.publishers p x'
  pub subscribers : (q : ℕ) (y' : Subscriber) → q < s.next_port → s'.subscribers q ≡ Some y'
      → WasSubscriber s.subscribers q y'

-- a subscriber is set
put_subscriber : (subscribers : ℕ → Option Subscriber) (next i : ℕ) (z : Subscriber)
    → (i < next → WasSubscriber subscribers i z)
    → (q : ℕ) (y' : Subscriber) → q < next → put_at subscribers i (Some z) q ≡ Some y' → WasSubscriber subscribers q y'
put_subscriber subscribers next i z known q y' low e =
    found_put subscribers i z (λ k a. k < next → WasSubscriber subscribers k a) q y' e (λ _. known)
    (λ k old _. (y', old, stands_still y')) low

-- a subscriber that may be there is changed, and stands as it did
mapped_subscriber : (subscribers : ℕ → Option Subscriber) (f : Subscriber → Subscriber) (q : ℕ)
    → ((y : Subscriber) → StandsAsItDid y (f y))
    → (y' : Subscriber) → option_map f (subscribers q) ≡ Some y' → WasSubscriber subscribers q y'
mapped_subscriber subscribers f q stays y' e =
    found_mapped f (subscribers q) y' (WasSubscriber subscribers q y') e
    (λ y old same. (y, old, subst (StandsAsItDid y) (sym same) (stays y)))

module _ (Spared : ℕ → Type 0) where
  as_it_is : (p : ℕ) (x : Publisher) → IsAsItWas Spared p x x
  as_it_is p x = record { place = refl; strategy = refl; handler = refl; degradation = refl; blocked = λ _. refl }

  as_it_was : (p : ℕ) (x y z : Publisher) → IsAsItWas Spared p x y → IsAsItWas Spared p y z → IsAsItWas Spared p x z
  as_it_was p x y z a b = record {
    place = b.place ∙ a.place;
    strategy = b.strategy ∙ a.strategy;
    handler = b.handler ∙ a.handler;
    degradation = b.degradation ∙ a.degradation;
    blocked = λ apart. b.blocked apart ∙ a.blocked apart;
  }

  -- a publisher is set
  put_publisher : (publishers : ℕ → Option Publisher) (next i : ℕ) (z : Publisher)
      → (i < next → WasPublisher Spared publishers i z)
      → (p : ℕ) (x' : Publisher) → p < next → put_at publishers i (Some z) p ≡ Some x'
      → WasPublisher Spared publishers p x'
  put_publisher publishers next i z known p x' low e =
      found_put publishers i z (λ k a. k < next → WasPublisher Spared publishers k a) p x' e (λ _. known)
      (λ k old _. (x', old, as_it_is p x')) low

  -- a publisher that may be there is changed
  mapped_publisher : (publishers : ℕ → Option Publisher) (f : Publisher → Publisher) (p : ℕ)
      → ((x : Publisher) → IsAsItWas Spared p x (f x))
      → (x' : Publisher) → option_map f (publishers p) ≡ Some x' → WasPublisher Spared publishers p x'
  mapped_publisher publishers f p stays x' e =
      found_mapped f (publishers p) x' (WasPublisher Spared publishers p x') e
      (λ x old same. (x, old, subst (IsAsItWas Spared p x) (sym same) (stays x)))

  module _ {T U : Type 0} where
    pub waits_itself : (s : State T U) → Waits Spared s s
    waits_itself s = record {
      next_port = le_refl s.next_port;
      publishers = λ p x low e. (x, e, as_it_is p x);
      subscribers = λ q y low e. (y, e, stands_still y);
    }

    pub waits_trans : (s s' s'' : State T U) → Waits Spared s s' → Waits Spared s' s'' → Waits Spared s s''
    waits_trans s s' s'' a b = record {
      next_port = le_trans a.next_port b.next_port;
      publishers = λ p x low e.
          let low' : p < s'.next_port = (let rises = a.next_port in omega (arith, rises)) in
          let v = b.publishers p x low' e in let u = a.publishers p v.0 low v.1 in
          (u.0, u.1, as_it_was p u.0 v.0 x u.2 v.2);
      subscribers = λ q y low e.
          let low' : q < s'.next_port = (let rises = a.next_port in omega (arith, rises)) in
          let v = b.subscribers q y low' e in let u = a.subscribers q v.0 low v.1 in
          (u.0, u.1, stood u.0 v.0 y u.2 v.2);
    }

    wait : IsPreorder (Waits {T = T} {U = U} Spared)
    wait = record { itself = waits_itself; trans = waits_trans }

    -- the subscribers that were known stand where they did
    abbrev Stand : (s s' : State T U) → Type 0
    Stand s s' =
        (q : ℕ) (y' : Subscriber) → q < s.next_port → s'.subscribers q ≡ Some y' → WasSubscriber s.subscribers q y'

    -- the subscribers are the same
    same_subscribers : (s s' : State T U) → s'.subscribers ≡ s.subscribers → Stand s s'
    same_subscribers s s' subscribers q y low e =
        (y, ap (λ (f : ℕ → Option Subscriber). f q) (sym subscribers) ∙ e, stands_still y)

    -- the publishers are the same
    same_publishers : (s s' : State T U) → s'.next_port ≡ s.next_port → s'.publishers ≡ s.publishers → Stand s s'
        → Waits Spared s s'
    same_publishers s s' next publishers stand = record {
      next_port = omega (arith, next);
      publishers = λ p x low e. (x, ap (λ (f : ℕ → Option Publisher). f p) (sym publishers) ∙ e, as_it_is p x);
      subscribers = stand;
    }

    -- the ports are the same
    same_ports : (s s' : State T U) → s'.next_port ≡ s.next_port → s'.publishers ≡ s.publishers
        → s'.subscribers ≡ s.subscribers → Waits Spared s s'
    same_ports s s' next publishers subscribers =
        same_publishers s s' next publishers (same_subscribers s s' subscribers)

    -- each publisher is due
    all_due : (s s' : State T U) → s.next_port ≤ s'.next_port
        → s'.publishers ≡ (λ p. option_map (λ (z : Publisher). record z { is_due = true }) (s.publishers p))
        → Stand s s' → Waits Spared s s'
    all_due s s' next publishers stand = record {
      next_port = next;
      publishers = λ p x low e. mapped_publisher s.publishers (λ z. record z { is_due = true }) p
          (λ z. record { place = refl; strategy = refl; handler = refl; degradation = refl; blocked = λ _. refl }) x
          (ap (λ (f : ℕ → Option Publisher). f p) (sym publishers) ∙ e);
      subscribers = stand;
    }

    -- ---- updates

    pub update_publisher_waits : (environment : Environment) (s : State T U) (p : ℕ) (s' : State T U)
        (failure : Option ConnectionFailure)
        → UpdatePublisher environment s p s' failure → Waits Spared s s'
    update_publisher_waits environment s p s' failure =
        publisher_update_by_steps (Waits Spared) wait environment s p s' failure (λ x present side _. record {
          next_port = le_refl s.next_port;
          publishers = put_publisher s.publishers s.next_port p (record x { ends = side.ends; is_due = false })
              (λ _. (
                x,
                present,
                record { place = refl; strategy = refl; handler = refl; degradation = refl; blocked = λ _. refl },
              ));
          subscribers = λ q y low e. (y, e, stands_still y);
        })

    pub update_subscriber_waits : (environment : Environment) (s : State T U) (q : ℕ) (s' : State T U)
        (failure : Option ConnectionFailure)
        → UpdateSubscriber environment s q s' failure → Waits Spared s s'
    update_subscriber_waits environment s q s' failure =
        subscriber_update_by_steps (Waits Spared) wait environment s q s' failure (λ y present side _. record {
          next_port = le_refl s.next_port;
          publishers = λ p x low e. (x, e, as_it_is p x);
          subscribers = put_subscriber s.subscribers s.next_port q
              (record y { ends = side.ends; expired = side.expired; is_due = side.is_due })
              (λ _. (y, present, record { place = refl; buffer = refl }));
        })

    -- ---- ports are made

    warned_waits : (s : State T U) (w : Warning) → Waits Spared s (with_warning s w)
    warned_waits s w = same_ports s (with_warning s w) refl refl refl

    new_publisher_waits : (s : State T U) (given : PublisherSettings) (place : ℕ)
        → Waits Spared s (with_new_publisher s given place)
    new_publisher_waits s given place = record {
      next_port = omega arith;
      publishers = put_publisher s.publishers s.next_port s.next_port (new_publisher s given place)
          (λ low. absurd (omega arith));
      subscribers = λ q y low e. mapped_subscriber s.subscribers (λ z. record z { is_due = true }) q
          (λ z. record { place = refl; buffer = refl }) y e;
    }

    new_subscriber_waits : (s : State T U) (given : SubscriberSettings) (place : ℕ)
        → Waits Spared s (with_new_subscriber s given place)
    new_subscriber_waits s given place = all_due s (with_new_subscriber s given place) (omega arith) refl
        (put_subscriber s.subscribers s.next_port s.next_port (new_subscriber given place)
        (λ low. absurd (omega arith)))

    pub create_publisher_waits : (environment : Environment) (s : State T U) (given : PublisherSettings)
        (s' : State T U) (refusal : Option PublisherCreateError)
        → CreatePublisher environment s given s' refusal → Waits Spared s s'
    create_publisher_waits environment s given s' refusal =
        create_publisher_by_steps (Waits Spared) wait environment s given s' refusal (new_publisher_waits s given)
        (update_publisher_waits environment) warned_waits

    pub create_subscriber_waits : (environment : Environment) (s : State T U) (given : SubscriberSettings)
        (s' : State T U) (refusal : Option SubscriberCreateError)
        → CreateSubscriber environment s given s' refusal → Waits Spared s s'
    create_subscriber_waits environment s given s' refusal =
        create_subscriber_by_steps (Waits Spared) wait environment s given s' refusal (new_subscriber_waits s given)
        (update_subscriber_waits environment) warned_waits

    -- ---- loans

    granted_waits : (default_header : U) (s : State T U) (p : ℕ) (x : Publisher) → s.publishers p ≡ Some x
        → (len segments : ℕ) → Waits Spared s (loan_granted default_header s p x len segments)
    granted_waits default_header s p x present len segments = record {
      next_port = le_refl s.next_port;
      publishers = put_publisher s.publishers s.next_port p
          (record x {
            loans = x.loans ++ s.next_message ∷ [];
            longest_granted = max x.longest_granted len;
            segments = segments;
          })
          (λ _. (
            x,
            present,
            record { place = refl; strategy = refl; handler = refl; degradation = refl; blocked = λ _. refl },
          ));
      subscribers = λ q y low e. (y, e, stands_still y);
    }

    pub loan_set_waits : (s : State T U) (n : ℕ) (l : Option (Loan T U)) → Waits Spared s (with_loan s n l)
    loan_set_waits s n l = same_ports s (with_loan s n l) refl refl refl

    -- a publisher that may be there is changed
    publisher_changed_waits : (s : State T U) (i : ℕ) (f : Publisher → Publisher)
        → ((x : Publisher) → IsAsItWas Spared i x (f x)) → Waits Spared s (publisher_changed s i f)
    publisher_changed_waits s i f stays = record {
      next_port = le_refl s.next_port;
      publishers = λ p x low e. at_each s.publishers i (option_map f (s.publishers i))
          (λ k o. o ≡ Some x → WasPublisher Spared s.publishers k x) p
          (λ _ e. mapped_publisher s.publishers f i stays x e) (λ _ e. (x, e, as_it_is p x)) e;
      subscribers = λ q y low e. (y, e, stands_still y);
    }

    pub published_waits : (s : State T U) (p n : ℕ) → Waits Spared s (published s p n)
    published_waits s p n =
        waits_trans s (with_loan s n None) (published s p n) (loan_set_waits s n None)
        (publisher_changed_waits (with_loan s n None) p
        (λ x. record x { history = last_n (s.config).history_size (x.history ++ n ∷ []) })
        (λ x. record { place = refl; strategy = refl; handler = refl; degradation = refl; blocked = λ _. refl }))

    pub loan_discarded_waits : (s : State T U) (n : ℕ) (l : Loan T U) → Waits Spared s (loan_discarded s n l)
    loan_discarded_waits s n l =
        waits_trans s (with_loan s n None) (loan_discarded s n l) (loan_set_waits s n None)
        (publisher_changed_waits (with_loan s n None) l.publisher (λ x. record x { loans = without n x.loans })
        (λ x. record { place = refl; strategy = refl; handler = refl; degradation = refl; blocked = λ _. refl }))

    pub grant_loan_waits : (environment : Environment) (default_header : U) (checks_length : Bool) (len : ℕ)
        (s : State T U) (p : ℕ) (s' : State T U) (refusal : Option LoanError)
        → GrantLoan environment default_header checks_length len s p s' refusal → Waits Spared s s'
    grant_loan_waits environment default_header checks_length len s p s' refusal =
        grant_by_steps (Waits Spared) wait environment default_header checks_length len s p s' refusal
        (λ x present segments. granted_waits default_header s p x present len segments)

    -- ---- sends, of a publisher that is spared

    module _ (p : ℕ) (spared : Spared p) where
      pub deliveries_wait : (environment : Environment) (n : ℕ) (result : SendResult)
          → DeliverySteps {T = T} {U = U} environment p n (Waits Spared) (Waits Spared) result
      deliveries_wait environment n result = record {
        delivers = λ s boxes _. same_ports s (with_mailboxes s p boxes) refl refl refl;
        ended = λ s _. publisher_changed_waits s p (λ x. record x { loans = without n x.loans; blocked = None })
            (λ x. record {
              place = refl;
              strategy = refl;
              handler = refl;
              degradation = refl;
              blocked = λ apart. absurd (apart spared);
            });
        blocked = λ s b _. publisher_changed_waits s p (λ x. record x { blocked = Some b })
            (λ x. record {
              place = refl;
              strategy = refl;
              handler = refl;
              degradation = refl;
              blocked = λ apart. absurd (apart spared);
            });
      }

      pub retry_waits : (environment : Environment) (s : State T U) (b : BlockedSend) (elapsed : Duration)
          (s' : State T U) (result : SendResult)
          → Retry environment s p b elapsed s' result → Waits Spared s s'
      retry_waits environment s b elapsed s' result = retry_by_steps (Waits Spared)
          (Waits Spared) waits_trans environment s p b elapsed s' result (deliveries_wait environment b.message result)

      pub give_up_waits : (environment : Environment) (s : State T U) (b : BlockedSend) (s' : State T U)
          (result : SendResult) → GiveUp environment s p b s' result → Waits Spared s s'
      give_up_waits environment s b s' result = give_up_by_steps (Waits Spared)
          (Waits Spared) waits_trans environment s p b s' result (deliveries_wait environment b.message result)

    pub send_waits : (environment : Environment) (s : State T U) (n : ℕ) (l : Loan T U) → Spared l.publisher
        → (s' : State T U) (result : SendResult) → Send environment s n l s' result → Waits Spared s s'
    send_waits environment s n l spared s' result =
        send_by_steps (Waits Spared) (Waits Spared) waits_trans environment s n l s' result (record {
          delivery = deliveries_wait l.publisher spared environment n result;
          updates = λ a. update_publisher_waits environment a l.publisher;
          publishes = λ a. published_waits a l.publisher n;
          lost = λ a _ e _. loan_set_waits a n None;
          discards = λ a k _ e _. loan_discarded_waits a n k;
        })

    -- ---- receives and releases

    pub receive_waits : (environment : Environment) (s : State T U) (q : ℕ) (s' : State T U) (result : ReceiveResult)
        → Receive environment s q s' result → Waits Spared s s'
    receive_waits environment s q s' result =
        receive_by_steps (Waits Spared) wait environment s q s' result (update_subscriber_waits environment s q)
        (λ t p box. same_ports t (with_mailbox t p q box) refl refl refl)

    -- a subscriber forgets publishers
    pruned_waits : (s : State T U) (q : ℕ) → Waits Spared s (subscriber_pruned s q)
    pruned_waits s q = same_publishers s (subscriber_pruned s q) refl refl
        (λ i y low e. at_each s.subscribers q (option_map (pruned s q) (s.subscribers q))
        (λ k o. o ≡ Some y → WasSubscriber s.subscribers k y) i
        (λ _ e. mapped_subscriber s.subscribers (pruned s q) q (λ z. record { place = refl; buffer = refl }) y e)
        (λ _ e. (y, e, stands_still y)) e)

    -- a subscriber that forgets publishers is gone where it is unused
    forgotten_waits : (s : State T U) (q : ℕ)
        → Waits Spared s (receiver_channels_reset (freed_if_unused (subscriber_pruned s q) q) q)
    forgotten_waits s q =
        forgotten_by_steps (Waits Spared) wait s q (λ t. pruned_waits t q)
        (λ t. all_due t (receiver_channels_reset (place_freed t q) q) (le_refl t.next_port) refl
        (λ i y low e.
        found_removed t.subscribers q i y (WasSubscriber t.subscribers i y) e (λ _ old. (y, old, stands_still y))))
        (λ t. same_ports t (receiver_channels_reset t q) refl refl refl)

    pub released_waits : (s : State T U) (p q n : ℕ) → Waits Spared s (released s p q n)
    released_waits s p q n =
        let mid : State T U = unborrowed s p q n in
        waits_trans s mid (released s p q n) (same_ports s mid refl refl refl) (forgotten_waits mid q)

    -- ---- closes

    pub publisher_closed_waits : (s : State T U) (p : ℕ) (x : Publisher) → Waits Spared s (publisher_closed s p x)
    publisher_closed_waits s p x = record {
      next_port = le_refl s.next_port;
      publishers = λ i z low e.
          found_removed s.publishers p i z (WasPublisher Spared s.publishers i z) e (λ _ old. (z, old, as_it_is i z));
      subscribers = λ q y low e.
          let gone : State T U = publisher_gone s p x in
          let mid : State T U = subscribers_pruned gone in
          let v = mapped_subscriber mid.subscribers (λ z. record z { is_due = true }) q
          (λ z. record { place = refl; buffer = refl }) y e in
          let u = mapped_subscriber s.subscribers (pruned gone q) q
          (λ z. record { place = refl; buffer = refl }) v.0 v.1 in (u.0, u.1, stood u.0 v.0 y u.2 v.2);
    }

    pub subscriber_closed_waits : (s : State T U) (q : ℕ) (y : Subscriber) → s.subscribers q ≡ Some y
        → Waits Spared s (subscriber_closed s q y)
    subscriber_closed_waits s q y present =
        let mid : State T U = subscriber_shut s q y in
        waits_trans s mid (subscriber_closed s q y)
        (all_due s mid (le_refl s.next_port) refl
        (put_subscriber s.subscribers s.next_port q (record y { is_open = false })
        (λ _. (y, present, record { place = refl; buffer = refl }))))
        (forgotten_waits mid q)
