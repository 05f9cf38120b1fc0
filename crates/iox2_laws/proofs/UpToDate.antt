-- Subscribers that aren't due for an update, and which operations leave them so.
use Rattle.std.proofs.Common.{◌≡◌, ℕ, List, Bool, true, false, cond, not, ◌&&◌, refl, sym, ap, ◌∙◌, arith, ◌<◌, Option}
use Rattle.std.proofs.Common.{None, Some, inl, inr}
use Rattle.std.specs.List.{list_all}
use Rattle.std.specs.declared.time.Duration.{Duration}
use Rattle.std.specs.Option.{option_map, option_map_or}
use Rattle.std.proofs.lemmas.Bool.{true≢false, cases_eq, ne_eqb}
use Rattle.std.proofs.lemmas.Option.{same_Some}
use Rattle.iox2_machine.specs.machine.Mailbox.{has_borrows}
use Rattle.iox2_machine.specs.machine.Records.{Loan, Subscriber, BlockedSend, Environment, SubscriberSettings}
use Rattle.iox2_machine.specs.machine.State.{State, connected_publishers}
use Rattle.iox2_machine.specs.machine.PublisherUpdate.{UpdatePublisher}
use Rattle.iox2_machine.specs.machine.SubscriberUpdate.{UpdateSubscriber}
use Rattle.iox2_machine.specs.machine.Loans.{GrantLoan}
use Rattle.iox2_machine.specs.machine.Ports.{CreateSubscriber, FirstSubscriberUpdate, with_new_subscriber}
use Rattle.iox2_machine.specs.machine.Ports.{new_subscriber, with_failure_warning}
use Rattle.iox2_machine.specs.machine.Receives.{ReceiveResult, Got_sample, No_sample, Receive_error, TakeSample}
use Rattle.iox2_machine.specs.machine.Receives.{Receive}
use Rattle.iox2_machine.specs.machine.Releases.{pruned, is_unused, place_freed, unborrowed, subscriber_pruned, released}
use Rattle.iox2_machine.specs.machine.Sends.{Send, Retry, GiveUp, DeliverAndConclude, SendResult}
use Rattle.iox2_machine.specs.machine.WellFormed.{IsWellFormed}
use Rattle.iox2_machine.specs.declared.errors.ConnectionFailure.{ConnectionFailure}
use Rattle.iox2_machine.specs.declared.errors.LoanError.{LoanError}
use Rattle.iox2_machine.specs.declared.errors.ReceiveError.{ReceiveError}
use Rattle.iox2_machine.specs.declared.errors.SubscriberCreateError.{SubscriberCreateError}
use Rattle.iox2_machine.specs.declared.warning.Warning.TheVariants.{SubscriberPartlyConnected}
use Rattle.iox2_laws.specs.Sendings.{sending}
use Rattle.iox2_laws.proofs.OperationWalks.{IsPreorder, unchanged, DeliverySteps, grant_by_steps}
use Rattle.iox2_laws.proofs.OperationWalks.{publisher_update_by_steps, receive_by_steps, delivery_by_steps}
use Rattle.iox2_laws.proofs.OperationWalks.{retry_by_steps, give_up_by_steps, send_by_steps}
use Rattle.iox2_laws.proofs.Cases.{by_option, by_bool}
use Rattle.iox2_laws.proofs.CallCases.{subscriber_cases}
use Rattle.iox2_laws.proofs.Puts.{put_at-other, at_each}
use Rattle.iox2_laws.proofs.PortsStay.{update_subscriber_stays}
use Rattle.iox2_laws.proofs.WaitingReceives.{update_subscriber_updates}

module _ {T U : Type 0} where
  -- The subscriber is open, and not due for an update.
  abbrev pub IsUpdated : State T U → (q : ℕ) → Type 0
  IsUpdated s q = (y : Subscriber) × (s.subscribers q ≡ Some y) × (y.is_open ≡ true) × (y.is_due ≡ false)

  -- Each such subscriber stays so.
  abbrev pub UpdatedStay : (s s' : State T U) → Type 0
  UpdatedStay s s' = (q : ℕ) → IsUpdated s q → IsUpdated s' q

  pub same_subscribers : (s s' : State T U) → s'.subscribers ≡ s.subscribers → UpdatedStay s s'
  same_subscribers s s' same q is = (is.0, ap (λ f. f q) same ∙ is.1, is.2, is.3)

  -- The subscribers are the same.
  abbrev pub SameSubscribers : State T U → State T U → Type 0
  SameSubscribers s s' = s'.subscribers ≡ s.subscribers

  subscribers_stay : IsPreorder SameSubscribers
  subscribers_stay = record { itself = λ s. refl; trans = λ a b c h k. k ∙ h }

  stay : IsPreorder UpdatedStay
  stay = record { itself = λ s q is. is; trans = λ a b c f g q is. g q (f q is) }

  -- ---- loans

  pub grant_loan_subscribers : (environment : Environment) (default_header : U) (checks_length : Bool) (len : ℕ)
      (s : State T U) (p : ℕ) (s' : State T U) (refusal : Option LoanError)
      → GrantLoan environment default_header checks_length len s p s' refusal → s'.subscribers ≡ s.subscribers
  grant_loan_subscribers environment default_header checks_length len s p s' refusal =
      grant_by_steps SameSubscribers subscribers_stay environment default_header checks_length len s p s' refusal
      (λ x present segments. refl)

  -- ---- sends

  pub update_publisher_subscribers : (environment : Environment) (s : State T U) (p : ℕ) (s' : State T U)
      (failure : Option ConnectionFailure)
      → UpdatePublisher environment s p s' failure → s'.subscribers ≡ s.subscribers
  update_publisher_subscribers environment s p s' failure =
      publisher_update_by_steps SameSubscribers subscribers_stay environment s p s' failure (λ x present side _. refl)

  pub deliveries_stay_subscribed : (environment : Environment) (p n : ℕ) (result : SendResult)
      → DeliverySteps {T = T} {U = U} environment p n SameSubscribers SameSubscribers result
  deliveries_stay_subscribed environment p n result =
      record { delivers = λ a boxes _. refl; ended = λ a _. refl; blocked = λ a b _. refl }

  pub send_subscribers : (environment : Environment) (s : State T U) (n : ℕ) (l : Loan T U) (s' : State T U)
      (result : SendResult) → Send environment s n l s' result → s'.subscribers ≡ s.subscribers
  send_subscribers environment s n l s' result =
      send_by_steps SameSubscribers SameSubscribers (subscribers_stay.trans) environment s n l s' result (record {
        delivery = deliveries_stay_subscribed environment l.publisher n result;
        updates = λ a. update_publisher_subscribers environment a l.publisher;
        publishes = λ a. refl;
        lost = λ a _ e _. refl;
        discards = λ a k _ e _. refl;
      })

  pub goes_on_subscribers : (environment : Environment) (s : State T U) (p n channel retries : ℕ) (elapsed : Duration)
      (place : ℕ) (ends : List (Option ℕ)) (count : ℕ) (has_failed : Bool) (s' : State T U)
      (result : SendResult) → DeliverAndConclude environment s p
      (sending n channel retries place ends count has_failed) elapsed s' result → s'.subscribers ≡ s.subscribers
  goes_on_subscribers environment s p n channel retries elapsed place ends count has_failed s' result =
      delivery_by_steps SameSubscribers SameSubscribers (subscribers_stay.trans) environment s p n channel retries
      elapsed place ends count has_failed s' result (deliveries_stay_subscribed environment p n result)

  pub retry_subscribers : (environment : Environment) (s : State T U) (p : ℕ) (b : BlockedSend) (elapsed : Duration)
      (s' : State T U) (result : SendResult)
      → Retry environment s p b elapsed s' result → s'.subscribers ≡ s.subscribers
  retry_subscribers environment s p b elapsed s' result =
      retry_by_steps SameSubscribers SameSubscribers (subscribers_stay.trans) environment s p b elapsed s' result
      (deliveries_stay_subscribed environment p b.message result)

  pub give_up_subscribers : (environment : Environment) (s : State T U) (p : ℕ) (b : BlockedSend) (s' : State T U)
      (result : SendResult)
      → GiveUp environment s p b s' result → s'.subscribers ≡ s.subscribers
  give_up_subscribers environment s p b s' result =
      give_up_by_steps SameSubscribers SameSubscribers (subscribers_stay.trans) environment s p b s' result
      (deliveries_stay_subscribed environment p b.message result)

  -- ---- a subscriber's update, and a receive

  pub update_subscriber_updated : (environment : Environment) (s : State T U) (q : ℕ) (s' : State T U)
      (failure : Option ConnectionFailure)
      → UpdateSubscriber environment s q s' failure → UpdatedStay s s'
  update_subscriber_updated environment s q s' failure h i is =
      by_option (IsUpdated s' i) (s.subscribers q) _ _ h (λ _ v. absurd v) (λ y present h.
      by_bool (IsUpdated s' i) y.is_due _ _ h
      (λ due h. elim (cases_eq i q) [
        | inl here ↦
            absurd (true≢false (sym due ∙ ap (λ (z : Subscriber). z.is_due)
            (same_Some y is.0 (sym present ∙ ap s.subscribers (sym here) ∙ is.1)) ∙ is.3))
        | inr away ↦ (
          is.0,
          ap (λ (t : State T U). t.subscribers i) h.2
              ∙ put_at-other s.subscribers q _ i (ne_eqb i q away) ∙ is.1,
          is.2,
          is.3,
        )
      ])
      (λ _ h. unchanged UpdatedStay stay s s' h.0 i is))

  taken_subscribers : (s : State T U) (q : ℕ) (y : Subscriber) (s' : State T U) (result : ReceiveResult)
      → TakeSample s q y s' result → s'.subscribers ≡ s.subscribers
  taken_subscribers s q y s' (Got_sample p n) h = ap (λ (t : State T U). t.subscribers) h.3
  taken_subscribers s q y s' No_sample h = ap (λ (t : State T U). t.subscribers) h.1
  taken_subscribers s q y s' (Receive_error e) h = ap (λ (t : State T U). t.subscribers) h.3

  pub receive_updated : (environment : Environment) (s : State T U) (q : ℕ) (s' : State T U) (result : ReceiveResult)
      → Receive environment s q s' result → UpdatedStay s s'
  receive_updated environment s q s' result =
      receive_by_steps UpdatedStay stay environment s q s' result (update_subscriber_updated environment s q)
      (λ t p box i is. is)

  -- an update that didn't fail leaves its subscriber so
  pub update_leaves_updated : (environment : Environment) (s : State T U) (q : ℕ) (s' : State T U)
      (failure : Option ConnectionFailure) → failure ≡ None
      → (y : Subscriber) → s.subscribers q ≡ Some y → y.is_open ≡ true → UpdateSubscriber environment s q s' failure
      → IsUpdated s' q
  update_leaves_updated environment s q s' failure none y here is_open h =
      let there = ((update_subscriber_stays environment s q s' failure h).remain).subscribers q y here is_open in
      (there.0, there.1, there.2, update_subscriber_updates environment s q s' failure none h there.0 there.1)

  -- and so does a receive that didn't
  pub receive_leaves_updated : (environment : Environment) (s : State T U) (q : ℕ) (s' : State T U)
      (result : ReceiveResult) → ((e : ReceiveError) → result ≡ Receive_error e → ⊥)
      → (y : Subscriber) → s.subscribers q ≡ Some y → y.is_open ≡ true → Receive environment s q s' result
      → IsUpdated s' q
  receive_leaves_updated environment s q s' result fine y here is_open h =
      by_option (IsUpdated s' q) h.1 _ _ h.3
      (λ none k. by_option (IsUpdated s' q) ((h.0).subscribers q) _ _ k (λ _ v. absurd v) (λ z _ k.
      same_subscribers h.0 s' (taken_subscribers h.0 q z s' result k) q
      (update_leaves_updated environment s q h.0 h.1 none y here is_open h.2)))
      (λ e _ k. absurd (fine _ k.1))

  -- ---- a release

  pub released_updated : (s : State T U) (p q n : ℕ) → UpdatedStay s (released s p q n)
  released_updated s p q n i is = freed (is_unused t q) refl where
    t : State T U
    t = subscriber_pruned (unborrowed s p q n) q

    left : IsUpdated t i
    left = at_each s.subscribers q (option_map (pruned (unborrowed s p q n) q) (s.subscribers q))
        (λ k v. s.subscribers k ≡ Some is.0 → (y : Subscriber) × (v ≡ Some y) × (y.is_open ≡ true) × (y.is_due ≡ false))
        i
        (λ here old. (
          pruned (unborrowed s p q n) q is.0,
          ap (option_map (pruned (unborrowed s p q n) q)) old,
          is.2,
          is.3,
        )) (λ apart old. (is.0, old, is.2, is.3)) is.1

    freed : (b : Bool) → is_unused t q ≡ b → IsUpdated (cond b (place_freed t q) t) i
    freed false e = left
    freed true e = at_each t.subscribers q None
        (λ k v. t.subscribers k ≡ Some left.0
        → (y : Subscriber) × (v ≡ Some y) × (y.is_open ≡ true) × (y.is_due ≡ false)) i
        (λ here there. absurd (shut there)) (λ apart there. (left.0, there, left.2, left.3)) left.1
      where
        shut : t.subscribers q ≡ Some left.0 → ⊥
        shut there =
            let un : is_unused t q ≡ (not (left.0).is_open && list_all (λ p. not (has_borrows (t.mailboxes p q)))
            (connected_publishers left.0)) =
            ap (λ (v : Option Subscriber).
            option_map_or (λ (y : Subscriber). not y.is_open && list_all (λ p. not (has_borrows (t.mailboxes p q)))
            (connected_publishers y)) v false) there in
            true≢false (sym e ∙ un ∙ ap (λ (b : Bool).
            not b && list_all (λ p. not (has_borrows (t.mailboxes p q))) (connected_publishers left.0)) left.2)

  -- ---- a subscriber is made

  pub create_subscriber_updated : (environment : Environment) (s : State T U) → IsWellFormed s
      → (given : SubscriberSettings) (s' : State T U) (refusal : Option SubscriberCreateError)
      → CreateSubscriber environment s given s' refusal → UpdatedStay s s'
  create_subscriber_updated environment s w given s' refusal h i is =
      subscriber_cases environment s given s' (IsUpdated s' i) refusal h
      (λ e same _. unchanged UpdatedStay stay s s' same i is) (λ place makes.
      let new : State T U = with_new_subscriber s given place in
      let first : FirstSubscriberUpdate environment new s.next_port s' = makes.3 in
      let low : i < s.next_port = (w.subscribers i is.0 is.1).is_known in
      let there : IsUpdated new i = (
        is.0,
        put_at-other s.subscribers s.next_port (Some (new_subscriber given place)) i
            (ne_eqb i s.next_port (λ here. omega arith)) ∙ is.1,
        is.2,
        is.3,
      ) in
      same_subscribers first.0 s' (ap (λ (t : State T U). t.subscribers) first.3 ∙ warned_subscribers first.0 first.1) i
      (update_subscriber_updated environment new s.next_port first.0 first.1 first.2 i there))
    where
      warned_subscribers : (t : State T U) (failure : Option ConnectionFailure)
          → (with_failure_warning t (SubscriberPartlyConnected s.next_port) failure).subscribers ≡ t.subscribers
      warned_subscribers t None = refl
      warned_subscribers t (Some failure) = refl
