-- An independent state stays independent.
use Rattle.std.proofs.Common.{◌≡◌, ⊎_elim, ℕ, Bool, true, false, cond, List, [], ◌∷◌, ◌++◌, refl, sym, ap, subst, ◌∙◌}
use Rattle.std.proofs.Common.{Option, None, Some, take, drop}
use Rattle.std.specs.Prelude.{◌≢◌}
use Rattle.std.specs.Option.{option_map}
use Rattle.std.proofs.lemmas.Bool.{cases_eq}
use Rattle.iox2_machine.specs.machine.Limits.{worst_case}
use Rattle.iox2_machine.specs.machine.Numbers.{put_at, without, last_n}
use Rattle.iox2_machine.specs.machine.Records.{Loan, Publisher, Subscriber, Environment, PublisherSettings}
use Rattle.iox2_machine.specs.machine.Records.{SubscriberSettings}
use Rattle.iox2_machine.specs.machine.State.{State, with_loan, receiver_channels_reset}
use Rattle.iox2_machine.specs.machine.PublisherUpdate.{UpdatePublisher}
use Rattle.iox2_machine.specs.machine.SubscriberUpdate.{UpdateSubscriber}
use Rattle.iox2_machine.specs.machine.Loans.{GrantLoan, is_static, loan_discarded}
use Rattle.iox2_machine.specs.machine.SingleCalls.{GrantWrittenLoan}
use Rattle.iox2_machine.specs.machine.Sends.{Send, SendResult, Publish, SendToConnection}
use Rattle.iox2_machine.specs.machine.Receives.{Receive, ReceiveResult}
use Rattle.iox2_machine.specs.machine.Releases.{released, pruned, unborrowed, subscriber_pruned, is_unused, place_freed}
use Rattle.iox2_machine.specs.machine.Releases.{freed_if_unused}
use Rattle.iox2_machine.specs.machine.Ports.{FirstPublisherUpdate, FirstSubscriberUpdate, new_publisher, new_subscriber}
use Rattle.iox2_machine.specs.machine.Ports.{with_new_publisher, with_new_subscriber, with_failure_warning}
use Rattle.iox2_machine.specs.machine.Ports.{CreatePublisher, CreateSubscriber, slots_for, publisher_gone}
use Rattle.iox2_machine.specs.machine.Ports.{publisher_closed, subscribers_pruned, subscriber_shut, subscriber_closed}
use Rattle.iox2_machine.specs.declared.service_config.ServiceConfig.{ServiceConfig}
use Rattle.iox2_machine.specs.declared.warning.Warning.{Warning}
use Rattle.iox2_machine.specs.declared.errors.ConnectionFailure.{ConnectionFailure}
use Rattle.iox2_machine.specs.declared.errors.LoanError.{LoanError}
use Rattle.iox2_machine.specs.declared.errors.PublisherCreateError.{PublisherCreateError}
use Rattle.iox2_machine.specs.declared.errors.SubscriberCreateError.{SubscriberCreateError}
use Rattle.iox2_laws.proofs.Cases.{by_option}
use Rattle.iox2_laws.proofs.OperationWalks.{publisher_update_by_steps, subscriber_update_by_steps, receive_by_steps}
use Rattle.iox2_laws.proofs.CallCases.{grant_cases, publisher_cases, subscriber_cases}
use Rattle.iox2_laws.proofs.PublisherUpdates.{update_publisher_changes}
use Rattle.iox2_laws.proofs.Puts.{found_put, found_removed, found_mapped, at_each, put_at-other}
use Rattle.iox2_machine.specs.machine.Environments.{ample_memory}
use Rattle.iox2_commands.specs.Isolation.{IsIndependentPublisher, HasBorrowedNothing, never_waits}
use Rattle.iox2_commands.proofs.AlikeViews.{View, view_of}
use Rattle.iox2_commands.proofs.AlikeCloses.{before_going, closed_at_once}
use Rattle.iox2_commands.proofs.AlikeSends.{delivered_view, published_view, publish_is, delivered, sent_there_view}
use Rattle.iox2_commands.proofs.ApartSteps.{AllOpen, changed_open}
use Rattle.iox2_commands.proofs.Keeping.{keeping}
use Rattle.iox2_commands.proofs.ChannelOutcomes.{OnChannels}
use Rattle.iox2_machine.specs.machine.Delivery.{no_time}
use Rattle.iox2_commands.specs.Outcomes.{Outcome}

-- a change of what independence doesn't look at leaves a publisher independent
independent_changed : (c : ServiceConfig) (x x' : Publisher) → x'.allocation_strategy ≡ x.allocation_strategy
    → x'.slots ≡ x.slots
    → x'.max_loaned_samples ≡ x.max_loaned_samples → x'.blocked ≡ x.blocked
    → x'.backpressure_strategy ≡ x.backpressure_strategy → x'.backpressure_handler ≡ x.backpressure_handler
    → IsIndependentPublisher c x → IsIndependentPublisher c x'
independent_changed c x x' e1 e2 e3 e4 e5 e6 k = record {
  static = ap is_static e1 ∙ k.static;
  slots = e2 ∙ k.slots ∙ ap (worst_case c) (sym e3);
  unblocked = e4 ∙ k.unblocked;
  never_waits = (λ i. never_waits c (e5 i) (e6 i)) ∙ k.never_waits;
}

-- of publishers by id
abbrev pub AllIndependent : ServiceConfig → (ℕ → Option Publisher) → Type 0
AllIndependent c publishers = (p : ℕ) (x : Publisher) → publishers p ≡ Some x → IsIndependentPublisher c x

-- one independent publisher is written
put_independent : (c : ServiceConfig) (publishers : ℕ → Option Publisher) (p : ℕ) (x : Publisher)
    → AllIndependent c publishers → IsIndependentPublisher c x
    → AllIndependent c (put_at publishers p (Some x))
put_independent c publishers p x all new i z e =
    found_put publishers p x (λ _ v. IsIndependentPublisher c v) i z e (λ _. new) (λ _ f. all i z f)

-- one publisher is changed, where it is present
map_independent : (c : ServiceConfig) (publishers : ℕ → Option Publisher) (p : ℕ) (change : Publisher → Publisher)
    → AllIndependent c publishers
    → ((x : Publisher) → IsIndependentPublisher c x → IsIndependentPublisher c (change x))
    → AllIndependent c (put_at publishers p (option_map change (publishers p)))
map_independent c publishers p change all go i z e =
    at_each publishers p (option_map change (publishers p)) (λ _ v. v ≡ Some z → IsIndependentPublisher c z) i
    (λ _ e. found_mapped change (publishers p) z (IsIndependentPublisher c z) e
    (λ x f same. subst (IsIndependentPublisher c) (sym same) (go x (all p x f))))
    (λ _ e. all i z e) e

-- each publisher is changed
each_independent : (c : ServiceConfig) (publishers : ℕ → Option Publisher) (change : Publisher → Publisher)
    → AllIndependent c publishers
    → ((x : Publisher) → IsIndependentPublisher c x → IsIndependentPublisher c (change x))
    → AllIndependent c (λ p. option_map change (publishers p))
each_independent c publishers change all go i z e = found_mapped change (publishers i) z (IsIndependentPublisher c z) e
    (λ x f same. subst (IsIndependentPublisher c) (sym same) (go x (all i x f)))

-- What is told a publisher's factory makes it independent.
pub record AreIndependentSettings (c : ServiceConfig) (given : PublisherSettings) : Type 0 where
  pub static : is_static given.allocation_strategy ≡ true
  pub slots : slots_for c given ≡ worst_case c given.max_loaned_samples
  pub never_waits : never_waits c given.backpressure_strategy given.backpressure_handler ≡ true

module _ {T U : Type 0} (q : ℕ) where
  -- Publishers are independent, and subscribers but q open.
  pub record StaysOpen (s : State T U) : Type 0 where
    pub publishers : AllIndependent s.config s.publishers
    pub all_open : AllOpen q s

  -- each subscriber is changed and stays open
  each_open : (s : State T U) (g : ℕ → Subscriber → Subscriber)
      → ((r : ℕ) (y : Subscriber) → (g r y).is_open ≡ y.is_open) → AllOpen q s
      → AllOpen q (record s { subscribers = λ r. option_map {T = Subscriber} (g r) (s.subscribers r) })
  each_open s g same all r z apart e = found_mapped (g r) (s.subscribers r) z (z.is_open ≡ true) e
      (λ y f h. ap (λ (v : Subscriber). v.is_open) h ∙ same r y ∙ all r y apart f)

  put_open : (s : State T U) (r : ℕ) (y : Subscriber) → (r ≢ q → y.is_open ≡ true) → AllOpen q s
      → AllOpen q (record s { subscribers = put_at s.subscribers r (Some y) })
  put_open s r y new all i z apart e = found_put s.subscribers r y (λ k v. k ≢ q → v.is_open ≡ true) i z e (λ _. new)
      (λ _ f apart. all i z apart f) apart

  -- ---- updates

  -- a publisher's update
  pub update_publisher_open : (s s' : State T U) (p : ℕ) (failure : Option ConnectionFailure)
      → UpdatePublisher ample_memory s p s' failure → StaysOpen s → StaysOpen s'
  update_publisher_open s s' p failure =
      publisher_update_by_steps _ (keeping StaysOpen) ample_memory s p s' failure (λ x e side _ k. record {
        publishers = put_independent s.config s.publishers p (record x { ends = side.ends; is_due = false })
            k.publishers (independent_changed s.config x _ refl refl refl refl refl refl (k.publishers p x e));
        all_open = k.all_open;
      })

  -- a subscriber's update
  pub update_subscriber_open : (environment : Environment) (s s' : State T U) (r : ℕ)
      (failure : Option ConnectionFailure)
      → UpdateSubscriber environment s r s' failure → StaysOpen s → StaysOpen s'
  update_subscriber_open environment s s' r failure =
      subscriber_update_by_steps _ (keeping StaysOpen) environment s r s' failure (λ y e side _ k. record {
        publishers = k.publishers;
        all_open = put_open s r (record y { ends = side.ends; expired = side.expired; is_due = side.is_due })
            (λ apart. k.all_open r y apart e) k.all_open;
      })

  -- a receive
  pub receive_open : (environment : Environment) (s s' : State T U) (r : ℕ) (result : ReceiveResult)
      → Receive environment s r s' result → StaysOpen s → StaysOpen s'
  receive_open environment s s' r result =
      receive_by_steps _ (keeping StaysOpen) environment s r s' result
      (λ t failure. update_subscriber_open environment s t r failure)
      (λ t p box k. record { publishers = k.publishers; all_open = k.all_open })

  -- what is left where a closed subscriber goes, if it has to
  freed_open : (s : State T U) (r : ℕ) → StaysOpen s → StaysOpen (receiver_channels_reset (freed_if_unused s r) r)
  freed_open s r k =
      elim (is_unused s r) as (λ b. StaysOpen (receiver_channels_reset (cond b (place_freed s r) s) r)) [
        | true ↦ record {
          publishers = each_independent s.config s.publishers (λ x. record x { is_due = true }) k.publishers
              (λ x. independent_changed s.config x _ refl refl refl refl refl refl);
          all_open =
              λ i z apart e. found_removed s.subscribers r i z (z.is_open ≡ true) e (λ _ f. k.all_open i z apart f);
        }
        | false ↦ record { publishers = k.publishers; all_open = k.all_open }
      ]

  pruned_open : (s : State T U) (r : ℕ) → StaysOpen s → StaysOpen (subscriber_pruned s r)
  pruned_open s r k =
      record { publishers = k.publishers; all_open = changed_open q s r (pruned s r) (λ y. refl) k.all_open }

  -- a release
  pub released_open : (s : State T U) (p r n : ℕ) → StaysOpen s → StaysOpen (released s p r n)
  released_open s p r n k = freed_open (subscriber_pruned (unborrowed s p r n) r) r
      (pruned_open (unborrowed s p r n) r (record { publishers = k.publishers; all_open = k.all_open }))

  -- ---- loans

  -- a change of a loan
  pub with_loan_open : (s : State T U) (n : ℕ) (l : Option (Loan T U)) → StaysOpen s → StaysOpen (with_loan s n l)
  with_loan_open s n l k = record { publishers = k.publishers; all_open = k.all_open }

  -- a loan that is granted or refused
  pub grant_loan_open : (default_header : U) (checks_length : Bool) (len : ℕ) (s s' : State T U) (p : ℕ)
      (refusal : Option LoanError)
      → GrantLoan ample_memory default_header checks_length len s p s' refusal → StaysOpen s → StaysOpen s'
  grant_loan_open default_header checks_length len s s' p refusal h k =
      grant_cases ample_memory default_header checks_length len s p s' (StaysOpen s') refusal h
      (λ e same _. subst StaysOpen (sym same) k)
      (λ x e grants. subst StaysOpen (sym grants.4) (record {
        publishers = put_independent s.config s.publishers p _ k.publishers
            (independent_changed s.config x _ refl refl refl refl refl refl (k.publishers p x e));
        all_open = k.all_open;
      }))

  -- the same for one that is written at once
  pub grant_written_loan_open : (value : T) (default_header : U) (checks_length : Bool) (len : ℕ) (s s' : State T U)
      (p : ℕ) (refusal : Option LoanError)
      → GrantWrittenLoan ample_memory value default_header checks_length len s p s' refusal → StaysOpen s → StaysOpen s'
  grant_written_loan_open value default_header checks_length len s s' p refusal h k =
      let mid : StaysOpen h.0 = grant_loan_open default_header checks_length len s h.0 p refusal h.1 k in
      by_option (StaysOpen s') refusal _ _ h.2
      (λ _ j. by_option (StaysOpen s') ((h.0).loans s.next_message) _ _ j (λ _ v. absurd v)
      (λ l _ j. subst StaysOpen (sym j) (with_loan_open h.0 s.next_message _ mid)))
      (λ e _ j. subst StaysOpen (sym j) mid)

  -- a loan that is given back
  pub loan_discarded_open : (s : State T U) (n : ℕ) (l : Loan T U) → StaysOpen s → StaysOpen (loan_discarded s n l)
  loan_discarded_open s n l k = record {
    publishers = map_independent s.config s.publishers l.publisher (λ x. record x { loans = without n x.loans })
        k.publishers (λ x. independent_changed s.config x _ refl refl refl refl refl refl);
    all_open = k.all_open;
  }

  -- ---- sends

  -- What a publication leaves of the publishers, which are in every view; the subscribers it leaves alone.
  publish_open : (s s' : State T U) (p n : ℕ) (x : Publisher) (result : SendResult) → s.publishers p ≡ Some x
      → Publish ample_memory s p n s' result → StaysOpen s
      → StaysOpen s'
  publish_open s s' p n x result e h k =
      let seen : (r : ℕ) → view_of r s' ≡ delivered_view r p n 0 x.ends (published_view r p n (view_of r s)) =
      λ r. (publish_is r s s' p n x result e (k.publishers p x e).never_waits h).2 in
      let independent : AllIndependent s.config
      (delivered_view 0 p n 0 x.ends (published_view 0 p n (view_of 0 s))).publishers =
      map_independent s.config (published_view 0 p n (view_of 0 s)).publishers p
      (λ x. record x { loans = without n x.loans; blocked = None })
      (map_independent s.config s.publishers p
      (λ x. record x { history = last_n (s.config).history_size (x.history ++ n ∷ []) }) k.publishers
      (λ x. independent_changed s.config x _ refl refl refl refl refl refl))
      (λ x c. independent_changed s.config x _ refl refl refl (sym c.unblocked) refl refl c) in
      record {
        publishers = subst (λ (v : View T U). AllIndependent v.config v.publishers) (sym (seen 0)) independent;
        all_open = λ r y apart f. k.all_open r y apart (sym (ap (λ (v : View T U). v.own) (seen r)) ∙ f);
      }

  -- a send
  pub send_open : (s s' : State T U) (n : ℕ) (l : Loan T U) (result : SendResult) → Send ample_memory s n l s' result
      → StaysOpen s → StaysOpen s'
  send_open s s' n l result h k =
      by_option (StaysOpen s') (s.publishers l.publisher) _ _ h
      (λ _ h. subst StaysOpen (sym h.0) (with_loan_open s n None k)) (λ x e h.
      let mid : StaysOpen h.0 = update_publisher_open s h.0 l.publisher h.1 h.2 k in
      let changed : (ends : List (Option ℕ)) × (due : Bool)
      × ((h.0).publishers l.publisher ≡ Some (record x { ends = ends; is_due = due })) =
      update_publisher_changes ample_memory s l.publisher h.0 h.1 x e h.2 in
      by_option (StaysOpen s') h.1 _ _ h.3
      (λ _ j.
      publish_open h.0 s' l.publisher n (record x { ends = changed.0; is_due = changed.1 }) result changed.2 j mid)
      (λ f _ j. subst StaysOpen (sym j.0) (loan_discarded_open h.0 n l mid)))

  -- a send to one connection
  pub connection_open : (s s' : State T U) (n : ℕ) (l : Loan T U) (channel place : ℕ) (result : SendResult)
      → SendToConnection ample_memory s n l channel place s' result
      → StaysOpen s → StaysOpen s'
  connection_open s s' n l channel place result h k =
      by_option (StaysOpen s') (s.publishers l.publisher) _ _ h
      (λ _ h. subst StaysOpen (sym h.0) (with_loan_open s n None k)) (λ x e h.
      let p : ℕ = l.publisher in
      let seen : (r : ℕ) → view_of r s' ≡ sent_there_view r p n channel place x (view_of r s) = λ r.
      (delivered r (with_loan s n None) s' p n channel 0 no_time place (take 1 (drop place x.ends)) 0 x result e
      (k.publishers p x e).never_waits h).2 in
      let independent : AllIndependent s.config (sent_there_view 0 p n channel place x (view_of 0 s)).publishers =
      map_independent s.config s.publishers p (λ x. record x { loans = without n x.loans; blocked = None }) k.publishers
      (λ x c. independent_changed s.config x _ refl refl refl (sym c.unblocked) refl refl c) in
      record {
        publishers = subst (λ (v : View T U). AllIndependent v.config v.publishers) (sym (seen 0)) independent;
        all_open = λ r y apart f. k.all_open r y apart (sym (ap (λ (v : View T U). v.own) (seen r)) ∙ f);
      })

  -- channels alone change
  pub channels_open : (s : State T U) (o : Outcome T U) → OnChannels s o → StaysOpen s → StaysOpen o.state
  channels_open s o k kept = subst (λ (v : Outcome T U). StaysOpen v.state) (sym k.is)
      (record { publishers = kept.publishers; all_open = kept.all_open })

  -- ---- ports

  warning_open : (s : State T U) (warning : ConnectionFailure → Warning) (failure : Option ConnectionFailure)
      → StaysOpen s → StaysOpen (with_failure_warning s warning failure)
  warning_open s warning None k = k
  warning_open s warning (Some e) k = record { publishers = k.publishers; all_open = k.all_open }

  -- an independent publisher that is made or refused
  pub create_publisher_open : (s s' : State T U) (given : PublisherSettings) (refusal : Option PublisherCreateError)
      → (refusal ≡ None → AreIndependentSettings s.config given)
      → CreatePublisher ample_memory s given s' refusal → StaysOpen s → StaysOpen s'
  create_publisher_open s s' given refusal settings h k =
      publisher_cases ample_memory s given s' (StaysOpen s') refusal h (λ e same _. subst StaysOpen (sym same) k)
      (λ place makes.
      let first : FirstPublisherUpdate ample_memory (with_new_publisher s given place) s.next_port s' = makes.2 in
      subst StaysOpen (sym first.3) (warning_open first.0 _ first.1
      (update_publisher_open (with_new_publisher s given place) first.0 s.next_port first.1 first.2
      (new place (settings makes.1)))))
    where
      new : (place : ℕ) → AreIndependentSettings s.config given → StaysOpen (with_new_publisher s given place)
      new place settings = record {
        publishers =
            put_independent s.config s.publishers s.next_port (new_publisher s given place) k.publishers (record {
              static = settings.static;
              slots = settings.slots;
              unblocked = refl;
              never_waits = settings.never_waits;
            });
        all_open = each_open s (λ r y. record y { is_due = true }) (λ r y. refl) k.all_open;
      }

  -- a subscriber that is made or refused
  pub create_subscriber_open : (s s' : State T U) (given : SubscriberSettings) (refusal : Option SubscriberCreateError)
      → CreateSubscriber ample_memory s given s' refusal → StaysOpen s → StaysOpen s'
  create_subscriber_open s s' given refusal h k =
      subscriber_cases ample_memory s given s' (StaysOpen s') refusal h (λ e same _. subst StaysOpen (sym same) k)
      (λ place makes.
      let first : FirstSubscriberUpdate ample_memory (with_new_subscriber s given place) s.next_port s' = makes.3 in
      subst StaysOpen (sym first.3) (warning_open first.0 _ first.1
      (update_subscriber_open ample_memory (with_new_subscriber s given place) first.0 s.next_port first.1 first.2
      (new place))))
    where
      new : (place : ℕ) → StaysOpen (with_new_subscriber s given place)
      new place = record {
        publishers = each_independent s.config s.publishers (λ x. record x { is_due = true }) k.publishers
            (λ x. independent_changed s.config x _ refl refl refl refl refl refl);
        all_open = put_open s s.next_port (new_subscriber given place) (λ _. refl) k.all_open;
      }

  -- a publisher that is closed
  pub publisher_closed_open : (s : State T U) (p : ℕ) (x : Publisher) → StaysOpen s → StaysOpen (publisher_closed s p x)
  publisher_closed_open s p x k = record {
    publishers =
        λ i z e. found_removed s.publishers p i z (IsIndependentPublisher s.config z) e (λ _ f. k.publishers i z f);
    all_open = each_open (subscribers_pruned (publisher_gone s p x)) (λ r y. record y { is_due = true }) (λ r y. refl)
        (each_open (publisher_gone s p x) (pruned (publisher_gone s p x)) (λ r y. refl) k.all_open);
  }

  -- q is closed
  own_closed_open : (s : State T U) (y : Subscriber) → StaysOpen s → StaysOpen (subscriber_closed s q y)
  own_closed_open s y k =
      freed_open (subscriber_pruned (subscriber_shut s q y) q) q (pruned_open (subscriber_shut s q y) q (record {
        publishers = each_independent s.config s.publishers (λ x. record x { is_due = true }) k.publishers
            (λ x. independent_changed s.config x _ refl refl refl refl refl refl);
        all_open = put_open s q (record y { is_open = false }) (λ apart. absurd (apart refl)) k.all_open;
      }))

  -- a subscriber that is closed, and has borrowed nothing where it isn't q
  pub subscriber_closed_open : (s : State T U) (r : ℕ) (y : Subscriber) → (r ≢ q → HasBorrowedNothing s r) → StaysOpen s
      → StaysOpen (subscriber_closed s r y)
  subscriber_closed_open s r y nothing k =
      ⊎_elim
      (λ same. subst (λ i. StaysOpen (subscriber_closed s i y)) (sym same) (own_closed_open s y k))
      (λ apart. at_once (nothing apart))
      (cases_eq r q)
    where
      due : Publisher → Publisher
      due x = record x { is_due = true }

      at_once : HasBorrowedNothing s r → StaysOpen (subscriber_closed s r y)
      at_once nothing = subst StaysOpen (sym (closed_at_once s r y nothing)) (record {
        publishers = each_independent s.config (λ p. option_map due (s.publishers p)) due
            (each_independent s.config s.publishers due k.publishers
            (λ x. independent_changed s.config x _ refl refl refl refl refl refl))
            (λ x. independent_changed s.config x _ refl refl refl refl refl refl);
        all_open = λ i z other e. found_removed (before_going s r y).subscribers r i z (z.is_open ≡ true) e
            (λ apart f. k.all_open i z other
            (sym (put_at-other (subscriber_shut s r y).subscribers r _ i apart
            ∙ put_at-other s.subscribers r (Some (record y { is_open = false })) i apart) ∙ f));
      })
