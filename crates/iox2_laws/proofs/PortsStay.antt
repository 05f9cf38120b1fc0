-- Each operation but a close leaves ports there, and each but a receive and a release leaves borrowed what is, and
-- nothing else.
use Rattle.std.proofs.Common.{◌≡◌, ℕ, Bool, true, false, [], ◌∷◌, ◌++◌, refl, sym, ap, ◌∙◌, Option, None, Some}
use Rattle.std.specs.Prelude.{max}
use Rattle.std.specs.Option.{option_map}
use Rattle.std.proofs.lemmas.Option.{same_Some}
use Rattle.iox2_machine.specs.machine.Limits.{expired_limit}
use Rattle.iox2_machine.specs.machine.Numbers.{put_at, without, last_n}
use Rattle.iox2_machine.specs.machine.Mailbox.{Mailbox}
use Rattle.iox2_machine.specs.machine.Records.{Loan, Publisher, Subscriber, Environment, PublisherSettings}
use Rattle.iox2_machine.specs.machine.Records.{SubscriberSettings}
use Rattle.iox2_machine.specs.machine.State.{State, receiving_buffer, channel_buffer, has_receiver_end, has_sender_end}
use Rattle.iox2_machine.specs.machine.State.{with_loan, with_warning, publisher_changed}
use Rattle.iox2_machine.specs.machine.PublisherUpdate.{sender_side, history_for, UpdatePublisher}
use Rattle.iox2_machine.specs.machine.SubscriberUpdate.{receiver_side, UpdateSubscriber}
use Rattle.iox2_machine.specs.machine.Loans.{GrantLoan, loan_granted, loan_discarded}
use Rattle.iox2_machine.specs.machine.Sends.{Send, SendResult, Blocked_send, with_mailboxes, published}
use Rattle.iox2_machine.specs.machine.Ports.{CreatePublisher, CreateSubscriber, with_new_publisher, with_new_subscriber}
use Rattle.iox2_machine.specs.machine.Ports.{new_publisher, new_subscriber, with_failure_warning}
use Rattle.iox2_machine.specs.declared.errors.ConnectionFailure.{ConnectionFailure}
use Rattle.iox2_machine.specs.declared.errors.LoanError.{LoanError}
use Rattle.iox2_machine.specs.declared.errors.PublisherCreateError.{PublisherCreateError}
use Rattle.iox2_machine.specs.declared.errors.SubscriberCreateError.{SubscriberCreateError}
use Rattle.iox2_machine.specs.declared.warning.Warning.{Warning}
use Rattle.iox2_laws.proofs.OperationWalks.{IsPreorder, DeliveryPoint, Delivers, DeliverySteps}
use Rattle.iox2_laws.proofs.OperationWalks.{publisher_update_by_steps, subscriber_update_by_steps, warning_by_steps}
use Rattle.iox2_laws.proofs.OperationWalks.{create_publisher_by_steps, create_subscriber_by_steps, grant_by_steps}
use Rattle.iox2_laws.proofs.OperationWalks.{send_by_steps}
use Rattle.iox2_laws.proofs.Puts.{at_each}
use Rattle.iox2_laws.proofs.MailboxWalks.{sender_side_keeps, receiver_side_keeps, deliver_keeps}
use Rattle.iox2_laws.proofs.MailboxLemmas.{borrowed-appended}

-- Publishers stay, and no send of theirs is blocked where none was; open subscribers stay open.
pub record Remain {T U : Type 0} (s s' : State T U) : Type 0 where
  pub config : s'.config ≡ s.config
  pub publishers : (p : ℕ) (x : Publisher) → s.publishers p ≡ Some x
      → (x' : Publisher) × (s'.publishers p ≡ Some x') × (x.blocked ≡ None → x'.blocked ≡ None)
  pub subscribers : (q : ℕ) (y : Subscriber) → s.subscribers q ≡ Some y → y.is_open ≡ true
      → (y' : Subscriber) × (s'.subscribers q ≡ Some y') × (y'.is_open ≡ true)

-- The ports remain so, and what is borrowed is what was.
pub record PortsStay {T U : Type 0} (s s' : State T U) : Type 0 where
  pub remain : Remain s s'
  pub borrowed : (p q : ℕ) → (s'.mailboxes p q).borrowed ≡ (s.mailboxes p q).borrowed

-- the mailbox has what was borrowed there
abbrev SameBorrowed : (old : ℕ → Mailbox) → (i : ℕ) → Mailbox → Type 0
SameBorrowed old i box = box.borrowed ≡ (old i).borrowed

-- a publisher is set
put_publisher : (publishers : ℕ → Option Publisher) (i : ℕ) (z : Publisher)
    → ((x : Publisher) → publishers i ≡ Some x → x.blocked ≡ None → z.blocked ≡ None)
    → (p : ℕ) (x : Publisher) → publishers p ≡ Some x
    → (x' : Publisher) × (put_at publishers i (Some z) p ≡ Some x') × (x.blocked ≡ None → x'.blocked ≡ None)
put_publisher publishers i z stays p x e =
    at_each publishers i (Some z)
    (λ k v. publishers k ≡ Some x → (x' : Publisher) × (v ≡ Some x') × (x.blocked ≡ None → x'.blocked ≡ None)) p
    (λ here old. (z, refl, stays x old)) (λ apart old. (x, old, λ free. free)) e

-- the record that was there is this one
same_publisher : (publishers : ℕ → Option Publisher) (i : ℕ) (x z : Publisher) → publishers i ≡ Some x
    → publishers i ≡ Some z → z.blocked ≡ None → x.blocked ≡ None
same_publisher publishers i x z e f free = ap (λ (v : Publisher). v.blocked) (same_Some x z (sym e ∙ f)) ∙ free

-- a subscriber that is as open as it was is set
put_subscriber : (subscribers : ℕ → Option Subscriber) (i : ℕ) (z : Subscriber)
    → ((y : Subscriber) → subscribers i ≡ Some y → y.is_open ≡ true → z.is_open ≡ true)
    → (q : ℕ) (y : Subscriber) → subscribers q ≡ Some y → y.is_open ≡ true
    → (y' : Subscriber) × (put_at subscribers i (Some z) q ≡ Some y') × (y'.is_open ≡ true)
put_subscriber subscribers i z stays q y e o =
    at_each subscribers i (Some z)
    (λ k v. subscribers k ≡ Some y → (y' : Subscriber) × (v ≡ Some y') × (y'.is_open ≡ true)) q
    (λ here old. (z, refl, stays y old o)) (λ apart old. (y, old, o)) e

module _ {T U : Type 0} where
  pub ports_stay_themselves : (s : State T U) → PortsStay s s
  ports_stay_themselves s =
      record {
        remain = record {
          config = refl;
          publishers = λ p x e. (x, e, λ free. free);
          subscribers = λ q y e o. (y, e, o);
        };
        borrowed = λ p q. refl;
      }

  pub ports_stay_trans : (s s' s'' : State T U) → PortsStay s s' → PortsStay s' s'' → PortsStay s s''
  ports_stay_trans s s' s'' a b = record {
    remain = record {
      config = (b.remain).config ∙ (a.remain).config;
      publishers = λ p x e. let v = (a.remain).publishers p x e in let u = (b.remain).publishers p v.0 v.1 in
          (u.0, u.1, λ free. u.2 (v.2 free));
      subscribers = λ q y e o. let v = (a.remain).subscribers q y e o in (b.remain).subscribers q v.0 v.1 v.2;
    };
    borrowed = λ p q. b.borrowed p q ∙ a.borrowed p q;
  }

  stay : IsPreorder {T = T} {U = U} PortsStay
  stay = record { itself = ports_stay_themselves; trans = ports_stay_trans }

  -- the ports are the same, and so is what is borrowed
  same_ports : (s s' : State T U) → s'.config ≡ s.config → s'.publishers ≡ s.publishers → s'.subscribers ≡ s.subscribers
      → ((p q : ℕ) → (s'.mailboxes p q).borrowed ≡ (s.mailboxes p q).borrowed) → PortsStay s s'
  same_ports s s' config publishers subscribers borrowed = record {
    remain = record {
      config = config;
      publishers = λ p x e. (x, ap (λ (f : ℕ → Option Publisher). f p) publishers ∙ e, λ free. free);
      subscribers = λ q y e o. (y, ap (λ (f : ℕ → Option Subscriber). f q) subscribers ∙ e, o);
    };
    borrowed = borrowed;
  }

  -- ---- updates

  pub update_publisher_stays : (environment : Environment) (s : State T U) (p : ℕ) (s' : State T U)
      (failure : Option ConnectionFailure)
      → UpdatePublisher environment s p s' failure → PortsStay s s'
  update_publisher_stays environment s p s' failure =
      publisher_update_by_steps PortsStay stay environment s p s' failure (λ x present side walk.
      let are : (q : ℕ) → SameBorrowed (s.mailboxes p) q (side.mailboxes q) =
      sender_side_keeps (SameBorrowed (s.mailboxes p)) (λ i box same. same) environment
      (s.config).service_id p x.degradation_handler (history_for s p x)
      (receiving_buffer s) (has_receiver_end s p) (λ i buffer box same. same) s.subscriber_places
      (sender_side s p x) side failure (λ i. refl) walk in
      record {
        remain = record {
          config = refl;
          publishers = put_publisher s.publishers p (record x { ends = side.ends; is_due = false })
              (λ z e. same_publisher s.publishers p x z present e);
          subscribers = λ q y e o. (y, e, o);
        };
        borrowed = λ i q. at_each s.mailboxes p side.mailboxes
            (λ i row. (row q).borrowed ≡ (s.mailboxes i q).borrowed) i (λ _. are q) (λ _. refl);
      })

  pub update_subscriber_stays : (environment : Environment) (s : State T U) (q : ℕ) (s' : State T U)
      (failure : Option ConnectionFailure)
      → UpdateSubscriber environment s q s' failure → PortsStay s s'
  update_subscriber_stays environment s q s' failure =
      subscriber_update_by_steps PortsStay stay environment s q s' failure (λ y present side walk.
      let are : (p : ℕ) → SameBorrowed (λ p. s.mailboxes p q) p (side.mailboxes p) =
      receiver_side_keeps (SameBorrowed (λ p. s.mailboxes p q)) (λ i box same. same) environment
      (s.config).service_id q y.degradation_handler (expired_limit s.config)
      (λ p. has_sender_end s p q) s.publisher_places (receiver_side s q y) side failure (λ i. refl) walk in
      record {
        remain = record {
          config = refl;
          publishers = λ p x e. (x, e, λ free. free);
          subscribers = put_subscriber s.subscribers q
              (record y { ends = side.ends; expired = side.expired; is_due = side.is_due })
              (λ z e o. ap (λ (v : Subscriber). v.is_open) (same_Some y z (sym present ∙ e)) ∙ o);
        };
        borrowed = λ p i. at_each (s.mailboxes p) q (side.mailboxes p)
            (λ i box. box.borrowed ≡ (s.mailboxes p i).borrowed) i (λ _. are p) (λ _. refl);
      })

  -- ---- ports are made

  warned_stays : (s : State T U) (w : Warning) → PortsStay s (with_warning s w)
  warned_stays s w = same_ports s (with_warning s w) refl refl refl (λ p q. refl)

  pub warning_stays : (s : State T U) (warning : ConnectionFailure → Warning) (failure : Option ConnectionFailure)
      → PortsStay s (with_failure_warning s warning failure)
  warning_stays = warning_by_steps PortsStay stay warned_stays

  new_publisher_stays : (s : State T U) (given : PublisherSettings) (place : ℕ)
      → PortsStay s (with_new_publisher s given place)
  new_publisher_stays s given place = record {
    remain = record {
      config = refl;
      publishers = put_publisher s.publishers s.next_port (new_publisher s given place) (λ x e free. refl);
      subscribers = λ q y e o.
          (record y { is_due = true }, ap (option_map {T = Subscriber} (λ z. record z { is_due = true })) e, o);
    };
    borrowed = λ p q. refl;
  }

  new_subscriber_stays : (s : State T U) (given : SubscriberSettings) (place : ℕ)
      → PortsStay s (with_new_subscriber s given place)
  new_subscriber_stays s given place = record {
    remain = record {
      config = refl;
      publishers = λ p x e. (
        record x { is_due = true },
        ap (option_map {T = Publisher} (λ z. record z { is_due = true })) e,
        λ free. free,
      );
      subscribers = put_subscriber s.subscribers s.next_port (new_subscriber given place) (λ y e o. refl);
    };
    borrowed = λ p q. refl;
  }

  pub create_publisher_stays : (environment : Environment) (s : State T U) (given : PublisherSettings) (s' : State T U)
      (refusal : Option PublisherCreateError)
      → CreatePublisher environment s given s' refusal → PortsStay s s'
  create_publisher_stays environment s given s' refusal =
      create_publisher_by_steps PortsStay stay environment s given s' refusal (new_publisher_stays s given)
      (update_publisher_stays environment) warned_stays

  pub create_subscriber_stays : (environment : Environment) (s : State T U) (given : SubscriberSettings)
      (s' : State T U) (refusal : Option SubscriberCreateError)
      → CreateSubscriber environment s given s' refusal → PortsStay s s'
  create_subscriber_stays environment s given s' refusal =
      create_subscriber_by_steps PortsStay stay environment s given s' refusal (new_subscriber_stays s given)
      (update_subscriber_stays environment) warned_stays

  -- ---- loans

  granted_stays : (default_header : U) (s : State T U) (p : ℕ) (x : Publisher) → s.publishers p ≡ Some x
      → (len segments : ℕ) → PortsStay s (loan_granted default_header s p x len segments)
  granted_stays default_header s p x present len segments = record {
    remain = record {
      config = refl;
      publishers = put_publisher s.publishers p
          (record x {
            loans = x.loans ++ s.next_message ∷ [];
            longest_granted = max x.longest_granted len;
            segments = segments;
          }) (λ z e. same_publisher s.publishers p x z present e);
      subscribers = λ q y e o. (y, e, o);
    };
    borrowed = λ p q. refl;
  }

  pub loan_set_stays : (s : State T U) (n : ℕ) (l : Option (Loan T U)) → PortsStay s (with_loan s n l)
  loan_set_stays s n l = same_ports s (with_loan s n l) refl refl refl (λ p q. refl)

  -- a publisher that may be there is changed
  pub publisher_changed_stays : (s : State T U) (i : ℕ) (f : Publisher → Publisher)
      → ((x : Publisher) → x.blocked ≡ None → (f x).blocked ≡ None) → PortsStay s (publisher_changed s i f)
  publisher_changed_stays s i f stays = record {
    remain = record {
      config = refl;
      publishers = λ p x e. at_each s.publishers i (option_map f (s.publishers i))
          (λ k o. s.publishers k ≡ Some x → (x' : Publisher) × (o ≡ Some x') × (x.blocked ≡ None → x'.blocked ≡ None)) p
          (λ here old. (f x, ap (option_map f) old, stays x)) (λ apart old. (x, old, λ free. free)) e;
      subscribers = λ q y e o. (y, e, o);
    };
    borrowed = λ p q. refl;
  }

  -- ---- sends

  -- a delivery borrows nothing
  pub delivered_borrowed : (environment : Environment) (s : State T U) (p n : ℕ) (boxes : ℕ → Mailbox)
      → Delivers environment p n s boxes
      → (i q : ℕ) → ((with_mailboxes s p boxes).mailboxes i q).borrowed ≡ (s.mailboxes i q).borrowed
  delivered_borrowed environment s p n boxes d i q =
      let x : Publisher = d.0 in
      let at : DeliveryPoint = d.1 in
      let are : (q : ℕ) → SameBorrowed (s.mailboxes p) q (boxes q) =
      (deliver_keeps (SameBorrowed (s.mailboxes p)) (λ i box same. same) environment s.config p x.backpressure_strategy
      x.backpressure_handler (channel_buffer s p at.channel) n at.channel
      (λ i buffer box same. borrowed-appended at.channel buffer n box ∙ same) at.retries at.elapsed at.place at.ends
      at.count at.has_failed (s.mailboxes p) d.2 boxes (λ q. refl) d.3).0 in
      at_each s.mailboxes p boxes (λ i row. (row q).borrowed ≡ (s.mailboxes i q).borrowed) i (λ _. are q) (λ _. refl)

  -- a delivery in which the send ends
  pub deliveries_stay : (environment : Environment) (p n : ℕ) (result : SendResult) → (result ≡ Blocked_send → ⊥)
      → DeliverySteps {T = T} {U = U} environment p n PortsStay PortsStay result
  deliveries_stay environment p n result free = record {
    delivers = λ s boxes d.
        same_ports s (with_mailboxes s p boxes) refl refl refl (delivered_borrowed environment s p n boxes d);
    ended =
        λ s _. publisher_changed_stays s p (λ x. record x { loans = without n x.loans; blocked = None }) (λ x _. refl);
    blocked = λ s b is. absurd (free is);
  }

  published_stays : (s : State T U) (p n : ℕ) → PortsStay s (published s p n)
  published_stays s p n =
      ports_stay_trans s (with_loan s n None) (published s p n) (loan_set_stays s n None)
      (publisher_changed_stays (with_loan s n None) p
      (λ x. record x { history = last_n (s.config).history_size (x.history ++ n ∷ []) }) (λ x free. free))

  pub loan_discarded_stays : (s : State T U) (n : ℕ) (l : Loan T U) → PortsStay s (loan_discarded s n l)
  loan_discarded_stays s n l =
      ports_stay_trans s (with_loan s n None) (loan_discarded s n l) (loan_set_stays s n None)
      (publisher_changed_stays (with_loan s n None) l.publisher (λ x. record x { loans = without n x.loans })
      (λ x free. free))

  pub send_stays : (environment : Environment) (s : State T U) (n : ℕ) (l : Loan T U) (s' : State T U)
      (result : SendResult) → Send environment s n l s' result → (result ≡ Blocked_send → ⊥) → PortsStay s s'
  send_stays environment s n l s' result h free =
      send_by_steps PortsStay PortsStay ports_stay_trans environment s n l s' result (record {
        delivery = deliveries_stay environment l.publisher n result free;
        updates = λ a. update_publisher_stays environment a l.publisher;
        publishes = λ a. published_stays a l.publisher n;
        lost = λ a _ e _. loan_set_stays a n None;
        discards = λ a k _ e _. loan_discarded_stays a n k;
      }) h

  -- ---- a loan is asked for

  pub grant_loan_stays : (environment : Environment) (default_header : U) (checks_length : Bool) (len : ℕ)
      (s : State T U) (p : ℕ) (s' : State T U) (refusal : Option LoanError)
      → GrantLoan environment default_header checks_length len s p s' refusal → PortsStay s s'
  grant_loan_stays environment default_header checks_length len s p s' refusal =
      grant_by_steps PortsStay stay environment default_header checks_length len s p s' refusal
      (λ x present segments. granted_stays default_header s p x present len segments)
