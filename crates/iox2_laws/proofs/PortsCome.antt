-- No operation brings back a port that left, nor opens one that was shut; and no publisher waits for a receiver that
-- didn't, but after a send that was blocked.
use Rattle.std.proofs.Common.{◌≡◌, ℕ, ◌≤◌, ◌<◌, Bool, true, false, [], ◌∷◌, ◌++◌, refl, sym, ap, ◌∙◌, le_refl, le_trans}
use Rattle.std.proofs.Common.{arith, Option, None, Some}
use Rattle.std.specs.Prelude.{max}
use Rattle.std.specs.Option.{option_map}
use Rattle.iox2_machine.specs.machine.Numbers.{put_at, without, last_n}
use Rattle.iox2_machine.specs.machine.Records.{Loan, Publisher, Subscriber, Environment, PublisherSettings}
use Rattle.iox2_machine.specs.machine.Records.{SubscriberSettings}
use Rattle.iox2_machine.specs.machine.State.{State, with_loan, with_mailbox, publisher_changed, subscriber_changed}
use Rattle.iox2_machine.specs.machine.State.{receiver_channels_reset, with_warning}
use Rattle.iox2_machine.specs.machine.PublisherUpdate.{UpdatePublisher}
use Rattle.iox2_machine.specs.machine.SubscriberUpdate.{UpdateSubscriber}
use Rattle.iox2_machine.specs.machine.Loans.{GrantLoan, loan_granted, loan_discarded}
use Rattle.iox2_machine.specs.machine.Sends.{Send, SendResult, Blocked_send, with_mailboxes, published}
use Rattle.iox2_machine.specs.machine.Ports.{CreatePublisher, CreateSubscriber, with_new_publisher, with_new_subscriber}
use Rattle.iox2_machine.specs.machine.Ports.{new_publisher, new_subscriber, with_failure_warning, publisher_gone}
use Rattle.iox2_machine.specs.machine.Ports.{publisher_closed, subscriber_shut, subscriber_closed}
use Rattle.iox2_machine.specs.machine.Receives.{Receive, ReceiveResult}
use Rattle.iox2_machine.specs.machine.Releases.{released, unborrowed, subscriber_pruned, freed_if_unused, pruned}
use Rattle.iox2_machine.specs.declared.errors.ConnectionFailure.{ConnectionFailure}
use Rattle.iox2_machine.specs.declared.errors.LoanError.{LoanError}
use Rattle.iox2_machine.specs.declared.errors.PublisherCreateError.{PublisherCreateError}
use Rattle.iox2_machine.specs.declared.errors.SubscriberCreateError.{SubscriberCreateError}
use Rattle.iox2_machine.specs.declared.warning.Warning.{Warning}
use Rattle.iox2_laws.proofs.OperationWalks.{IsPreorder, publisher_update_by_steps, subscriber_update_by_steps}
use Rattle.iox2_laws.proofs.OperationWalks.{warning_by_steps, create_publisher_by_steps, create_subscriber_by_steps}
use Rattle.iox2_laws.proofs.OperationWalks.{grant_by_steps, receive_by_steps, forgotten_by_steps, send_by_steps}
use Rattle.iox2_laws.proofs.Puts.{at_each, found_put, found_removed, found_mapped}

-- where a publisher came from
abbrev CamePublisher : (publishers : ℕ → Option Publisher) → (p : ℕ) → Publisher → Type 0
CamePublisher publishers p x' = (x : Publisher) × (publishers p ≡ Some x) × (x.blocked ≡ None → x'.blocked ≡ None)

-- where an open subscriber came from, with its handler
abbrev CameSubscriber : (subscribers : ℕ → Option Subscriber) → (q : ℕ) → Subscriber → Type 0
CameSubscriber subscribers q y' =
    (y : Subscriber) × (subscribers q ≡ Some y) × (y.is_open ≡ true) × (y'.degradation_handler ≡ y.degradation_handler)

-- Each publisher that is there and each subscriber that is open, of those whose ids were given out, was so before; the
-- subscriber with the same handler.
pub record PortsCome {T U : Type 0} (s s' : State T U) : Type 0 where
  pub next_port : s.next_port ≤ s'.next_port
  pub publishers : (p : ℕ) (x' : Publisher) → p < s.next_port → s'.publishers p ≡ Some x'
      → CamePublisher s.publishers p x'
  pub subscribers : (q : ℕ) (y' : Subscriber) → q < s.next_port → s'.subscribers q ≡ Some y' → y'.is_open ≡ true
      → CameSubscriber s.subscribers q y'

-- a publisher is set
put_publisher : (publishers : ℕ → Option Publisher) (next i : ℕ) (z : Publisher)
    → (i < next → CamePublisher publishers i z)
    → (p : ℕ) (x' : Publisher) → p < next → put_at publishers i (Some z) p ≡ Some x' → CamePublisher publishers p x'
put_publisher publishers next i z known p x' low e =
    found_put publishers i z (λ k a. k < next → CamePublisher publishers k a) p x' e (λ _. known)
    (λ _ old _. (x', old, λ free. free)) low

-- a subscriber is set
put_subscriber : (subscribers : ℕ → Option Subscriber) (next i : ℕ) (z : Subscriber)
    → (i < next → z.is_open ≡ true → CameSubscriber subscribers i z)
    → (q : ℕ) (y' : Subscriber) → q < next → put_at subscribers i (Some z) q ≡ Some y' → y'.is_open ≡ true
    → CameSubscriber subscribers q y'
put_subscriber subscribers next i z known q y' low e is_open =
    found_put subscribers i z (λ k a. k < next → a.is_open ≡ true → CameSubscriber subscribers k a) q y' e (λ _. known)
    (λ _ old _ o. (y', old, o, refl)) low is_open

-- a publisher that may be there is changed
mapped_publisher : (publishers : ℕ → Option Publisher) (f : Publisher → Publisher)
    → ((x : Publisher) → x.blocked ≡ None → (f x).blocked ≡ None)
    → (p : ℕ) (x' : Publisher) → option_map f (publishers p) ≡ Some x' → CamePublisher publishers p x'
mapped_publisher publishers f stays p x' e =
    found_mapped f (publishers p) x' (CamePublisher publishers p x') e
    (λ x old same. (x, old, λ free. ap (λ (v : Publisher). v.blocked) same ∙ stays x free))

-- a subscriber that may be there is changed, and isn't opened, nor gets another handler
mapped_subscriber : (subscribers : ℕ → Option Subscriber) (f : Subscriber → Subscriber)
    → ((y : Subscriber) → (f y).is_open ≡ true → y.is_open ≡ true)
    → ((y : Subscriber) → (f y).degradation_handler ≡ y.degradation_handler)
    → (q : ℕ) (y' : Subscriber) → option_map f (subscribers q) ≡ Some y' → y'.is_open ≡ true
    → CameSubscriber subscribers q y'
mapped_subscriber subscribers f stays keeps q y' e o =
    found_mapped f (subscribers q) y' (CameSubscriber subscribers q y') e
    (λ y old same. (
      y,
      old,
      stays y (ap (λ (v : Subscriber). v.is_open) (sym same) ∙ o),
      ap (λ (v : Subscriber). v.degradation_handler) same ∙ keeps y,
    ))

module _ {T U : Type 0} where
  pub ports_come_themselves : (s : State T U) → PortsCome s s
  ports_come_themselves s = record {
    next_port = le_refl s.next_port;
    publishers = λ p x low e. (x, e, λ free. free);
    subscribers = λ q y low e o. (y, e, o, refl);
  }

  pub ports_come_trans : (s s' s'' : State T U) → PortsCome s s' → PortsCome s' s'' → PortsCome s s''
  ports_come_trans s s' s'' a b = record {
    next_port = le_trans a.next_port b.next_port;
    publishers = λ p x low e.
        let low' : p < s'.next_port = (let rises = a.next_port in omega (arith, rises)) in
        let v = b.publishers p x low' e in let u = a.publishers p v.0 low v.1 in (u.0, u.1, λ free. v.2 (u.2 free));
    subscribers = λ q y low e o.
        let low' : q < s'.next_port = (let rises = a.next_port in omega (arith, rises)) in
        let v = b.subscribers q y low' e o in let u = a.subscribers q v.0 low v.1 v.2 in (u.0, u.1, u.2, v.3 ∙ u.3);
  }

  come : IsPreorder {T = T} {U = U} PortsCome
  come = record { itself = ports_come_themselves; trans = ports_come_trans }

  -- the ports are the same
  same_ports : (s s' : State T U) → s'.next_port ≡ s.next_port → s'.publishers ≡ s.publishers
      → s'.subscribers ≡ s.subscribers → PortsCome s s'
  same_ports s s' next publishers subscribers = record {
    next_port = omega (arith, next);
    publishers = λ p x low e. (x, ap (λ (f : ℕ → Option Publisher). f p) (sym publishers) ∙ e, λ free. free);
    subscribers = λ q y low e o. (y, ap (λ (f : ℕ → Option Subscriber). f q) (sym subscribers) ∙ e, o, refl);
  }

  -- ---- updates

  pub update_publisher_comes : (environment : Environment) (s : State T U) (p : ℕ) (s' : State T U)
      (failure : Option ConnectionFailure)
      → UpdatePublisher environment s p s' failure → PortsCome s s'
  update_publisher_comes environment s p s' failure =
      publisher_update_by_steps PortsCome come environment s p s' failure (λ x present side _. record {
        next_port = le_refl s.next_port;
        publishers = put_publisher s.publishers s.next_port p (record x { ends = side.ends; is_due = false })
            (λ _. (x, present, λ free. free));
        subscribers = λ q y low e o. (y, e, o, refl);
      })

  pub update_subscriber_comes : (environment : Environment) (s : State T U) (q : ℕ) (s' : State T U)
      (failure : Option ConnectionFailure)
      → UpdateSubscriber environment s q s' failure → PortsCome s s'
  update_subscriber_comes environment s q s' failure =
      subscriber_update_by_steps PortsCome come environment s q s' failure (λ y present side _. record {
        next_port = le_refl s.next_port;
        publishers = λ p x low e. (x, e, λ free. free);
        subscribers = put_subscriber s.subscribers s.next_port q
            (record y { ends = side.ends; expired = side.expired; is_due = side.is_due })
            (λ _ o. (y, present, o, refl));
      })

  -- ---- ports are made

  warned_comes : (s : State T U) (w : Warning) → PortsCome s (with_warning s w)
  warned_comes s w = same_ports s (with_warning s w) refl refl refl

  pub warning_comes : (s : State T U) (warning : ConnectionFailure → Warning) (failure : Option ConnectionFailure)
      → PortsCome s (with_failure_warning s warning failure)
  warning_comes = warning_by_steps PortsCome come warned_comes

  new_publisher_comes : (s : State T U) (given : PublisherSettings) (place : ℕ)
      → PortsCome s (with_new_publisher s given place)
  new_publisher_comes s given place = record {
    next_port = omega arith;
    publishers =
        put_publisher s.publishers s.next_port s.next_port (new_publisher s given place) (λ low. absurd (omega arith));
    subscribers =
        λ q y low e o. mapped_subscriber s.subscribers (λ z. record z { is_due = true }) (λ z o. o) (λ z. refl) q y e o;
  }

  new_subscriber_comes : (s : State T U) (given : SubscriberSettings) (place : ℕ)
      → PortsCome s (with_new_subscriber s given place)
  new_subscriber_comes s given place = record {
    next_port = omega arith;
    publishers = λ p x low e. mapped_publisher s.publishers (λ z. record z { is_due = true }) (λ z free. free) p x e;
    subscribers = put_subscriber s.subscribers s.next_port s.next_port (new_subscriber given place)
        (λ low o. absurd (omega arith));
  }

  pub create_publisher_comes : (environment : Environment) (s : State T U) (given : PublisherSettings) (s' : State T U)
      (refusal : Option PublisherCreateError)
      → CreatePublisher environment s given s' refusal → PortsCome s s'
  create_publisher_comes environment s given s' refusal =
      create_publisher_by_steps PortsCome come environment s given s' refusal (new_publisher_comes s given)
      (update_publisher_comes environment) warned_comes

  pub create_subscriber_comes : (environment : Environment) (s : State T U) (given : SubscriberSettings)
      (s' : State T U) (refusal : Option SubscriberCreateError)
      → CreateSubscriber environment s given s' refusal → PortsCome s s'
  create_subscriber_comes environment s given s' refusal =
      create_subscriber_by_steps PortsCome come environment s given s' refusal (new_subscriber_comes s given)
      (update_subscriber_comes environment) warned_comes

  -- ---- loans

  granted_comes : (default_header : U) (s : State T U) (p : ℕ) (x : Publisher) → s.publishers p ≡ Some x
      → (len segments : ℕ) → PortsCome s (loan_granted default_header s p x len segments)
  granted_comes default_header s p x present len segments = record {
    next_port = le_refl s.next_port;
    publishers = put_publisher s.publishers s.next_port p
        (record x {
          loans = x.loans ++ s.next_message ∷ [];
          longest_granted = max x.longest_granted len;
          segments = segments;
        }) (λ _. (x, present, λ free. free));
    subscribers = λ q y low e o. (y, e, o, refl);
  }

  pub loan_set_comes : (s : State T U) (n : ℕ) (l : Option (Loan T U)) → PortsCome s (with_loan s n l)
  loan_set_comes s n l = same_ports s (with_loan s n l) refl refl refl

  -- a publisher that may be there is changed
  publisher_changed_comes : (s : State T U) (i : ℕ) (f : Publisher → Publisher)
      → ((x : Publisher) → x.blocked ≡ None → (f x).blocked ≡ None)
      → PortsCome s (publisher_changed s i f)
  publisher_changed_comes s i f stays = record {
    next_port = le_refl s.next_port;
    publishers = λ p x low e.
        at_each s.publishers i (option_map f (s.publishers i)) (λ k o. o ≡ Some x → CamePublisher s.publishers k x) p
        (λ _ e. mapped_publisher s.publishers f stays i x e) (λ _ e. (x, e, λ free. free)) e;
    subscribers = λ q y low e o. (y, e, o, refl);
  }

  -- ---- sends

  published_comes : (s : State T U) (p n : ℕ) → PortsCome s (published s p n)
  published_comes s p n =
      ports_come_trans s (with_loan s n None) (published s p n) (loan_set_comes s n None)
      (publisher_changed_comes (with_loan s n None) p
      (λ x. record x { history = last_n (s.config).history_size (x.history ++ n ∷ []) }) (λ x free. free))

  pub loan_discarded_comes : (s : State T U) (n : ℕ) (l : Loan T U) → PortsCome s (loan_discarded s n l)
  loan_discarded_comes s n l =
      ports_come_trans s (with_loan s n None) (loan_discarded s n l) (loan_set_comes s n None)
      (publisher_changed_comes (with_loan s n None) l.publisher (λ x. record x { loans = without n x.loans })
      (λ x free. free))

  pub send_comes : (environment : Environment) (s : State T U) (n : ℕ) (l : Loan T U) (s' : State T U)
      (result : SendResult) → Send environment s n l s' result → (result ≡ Blocked_send → ⊥) → PortsCome s s'
  send_comes environment s n l s' result h free =
      send_by_steps PortsCome PortsCome ports_come_trans environment s n l s' result (record {
        delivery = record {
          delivers = λ a boxes _. same_ports a (with_mailboxes a l.publisher boxes) refl refl refl;
          ended = λ a _. publisher_changed_comes a l.publisher
              (λ x. record x { loans = without n x.loans; blocked = None }) (λ x _. refl);
          blocked = λ a b is. absurd (free is);
        };
        updates = λ a. update_publisher_comes environment a l.publisher;
        publishes = λ a. published_comes a l.publisher n;
        lost = λ a _ e _. loan_set_comes a n None;
        discards = λ a k _ e _. loan_discarded_comes a n k;
      }) h

  -- ---- a loan is asked for

  pub grant_loan_comes : (environment : Environment) (default_header : U) (checks_length : Bool) (len : ℕ)
      (s : State T U) (p : ℕ) (s' : State T U) (refusal : Option LoanError)
      → GrantLoan environment default_header checks_length len s p s' refusal → PortsCome s s'
  grant_loan_comes environment default_header checks_length len s p s' refusal =
      grant_by_steps PortsCome come environment default_header checks_length len s p s' refusal
      (λ x present segments. granted_comes default_header s p x present len segments)

  -- ---- receives and releases

  pub receive_comes : (environment : Environment) (s : State T U) (q : ℕ) (s' : State T U) (result : ReceiveResult)
      → Receive environment s q s' result → PortsCome s s'
  receive_comes environment s q s' result =
      receive_by_steps PortsCome come environment s q s' result (update_subscriber_comes environment s q)
      (λ t p box. same_ports t (with_mailbox t p q box) refl refl refl)

  -- a subscriber that may be there is changed, and isn't opened, nor gets another handler
  subscriber_changed_comes : (s : State T U) (i : ℕ) (f : Subscriber → Subscriber)
      → ((y : Subscriber) → (f y).is_open ≡ true → y.is_open ≡ true)
      → ((y : Subscriber) → (f y).degradation_handler ≡ y.degradation_handler) → PortsCome s (subscriber_changed s i f)
  subscriber_changed_comes s i f stays keeps = record {
    next_port = le_refl s.next_port;
    publishers = λ p x low e. (x, e, λ free. free);
    subscribers = λ q y low e o. at_each s.subscribers i (option_map f (s.subscribers i))
        (λ k v. v ≡ Some y → CameSubscriber s.subscribers k y) q
        (λ _ e. mapped_subscriber s.subscribers f stays keeps i y e o) (λ _ e. (y, e, o, refl)) e;
  }

  -- a subscriber that forgets publishers is gone where it is unused
  forgotten_comes : (s : State T U) (q : ℕ)
      → PortsCome s (receiver_channels_reset (freed_if_unused (subscriber_pruned s q) q) q)
  forgotten_comes s q =
      forgotten_by_steps PortsCome come s q (λ t. subscriber_changed_comes t q (pruned t q) (λ y o. o) (λ y. refl))
      (λ t. record {
        next_port = le_refl t.next_port;
        publishers =
            λ p x low e. mapped_publisher t.publishers (λ z. record z { is_due = true }) (λ z free. free) p x e;
        subscribers = λ i y low e o.
            found_removed t.subscribers q i y (CameSubscriber t.subscribers i y) e (λ _ old. (y, old, o, refl));
      })
      (λ t. same_ports t (receiver_channels_reset t q) refl refl refl)

  pub released_comes : (s : State T U) (p q n : ℕ) → PortsCome s (released s p q n)
  released_comes s p q n =
      let mid : State T U = unborrowed s p q n in
      ports_come_trans s mid (released s p q n) (same_ports s mid refl refl refl) (forgotten_comes mid q)

  -- ---- closes

  pub publisher_closed_comes : (s : State T U) (p : ℕ) (x : Publisher) → PortsCome s (publisher_closed s p x)
  publisher_closed_comes s p x = record {
    next_port = le_refl s.next_port;
    publishers = λ i z low e.
        found_removed s.publishers p i z (CamePublisher s.publishers i z) e (λ _ old. (z, old, λ free. free));
    subscribers = λ q y low e o. came q y e o;
  } where
    came : (q : ℕ) (y : Subscriber) → (publisher_closed s p x).subscribers q ≡ Some y → y.is_open ≡ true
        → CameSubscriber s.subscribers q y
    came q y e o =
        found_mapped {A = Subscriber} (λ z. record z { is_due = true })
        (option_map {T = Subscriber} {U = Subscriber} (pruned (publisher_gone s p x) q) (s.subscribers q)) y
        (CameSubscriber s.subscribers q y) e (λ w old same.
        found_mapped {A = Subscriber} (pruned (publisher_gone s p x) q) (s.subscribers q) w
        (CameSubscriber s.subscribers q y) old (λ z at same'. (
          z,
          at,
          ap (λ (v : Subscriber). v.is_open) (sym same') ∙ ap (λ (v : Subscriber). v.is_open) (sym same) ∙ o,
          ap (λ (v : Subscriber). v.degradation_handler) same ∙ ap (λ (v : Subscriber). v.degradation_handler) same',
        )))

  pub subscriber_closed_comes : (s : State T U) (q : ℕ) (y : Subscriber) → PortsCome s (subscriber_closed s q y)
  subscriber_closed_comes s q y =
      let mid : State T U = subscriber_shut s q y in
      ports_come_trans s mid (subscriber_closed s q y) (record {
        next_port = le_refl s.next_port;
        publishers =
            λ p x low e. mapped_publisher s.publishers (λ z. record z { is_due = true }) (λ z free. free) p x e;
        subscribers = put_subscriber s.subscribers s.next_port q (record y { is_open = false })
            (λ _ o. let clash : false ≡ true = o in absurd cc);
      })
      (forgotten_comes mid q)
