-- No operation but a publisher's close adds to a subscriber's connections with closed publishers, and that adds at most
-- one.
use Rattle.std.proofs.Common.{◌≡◌, ℕ, suc, ◌+◌, ◌≤◌, ◌<◌, Bool, true, false, cond, not, length, refl, sym, ap, subst}
use Rattle.std.proofs.Common.{◌∙◌, arith, Option, None, Some, ◌⊎◌, inl, inr}
use Rattle.std.specs.List.{filter}
use Rattle.std.specs.Option.{is_some, option_map, option_map_or}
use Rattle.std.specs.declared.time.Duration.{Duration}
use Rattle.std.proofs.lemmas.Bool.{true≢false, cond_both, cases_eq}
use Rattle.iox2_machine.specs.machine.Limits.{expired_limit}
use Rattle.iox2_machine.specs.machine.Places.{occupants, places_kept}
use Rattle.iox2_machine.specs.machine.Loans.{GrantLoan, loan_discarded}
use Rattle.iox2_machine.specs.machine.Ports.{FirstPublisherUpdate, CreatePublisher, CreateSubscriber}
use Rattle.iox2_machine.specs.machine.Ports.{with_new_publisher, with_new_subscriber, new_subscriber}
use Rattle.iox2_machine.specs.machine.Ports.{with_failure_warning, publisher_gone, publisher_closed, subscriber_shut}
use Rattle.iox2_machine.specs.machine.Ports.{subscriber_closed}
use Rattle.iox2_machine.specs.machine.PublisherUpdate.{UpdatePublisher}
use Rattle.iox2_machine.specs.machine.Receives.{ReceiveResult, Receive}
use Rattle.iox2_machine.specs.machine.Records.{Publisher, Subscriber, Loan, Environment, BlockedSend, PublisherSettings}
use Rattle.iox2_machine.specs.machine.Records.{SubscriberSettings}
use Rattle.iox2_machine.specs.machine.Releases.{is_connected, pruned, is_unused, place_freed, unborrowed}
use Rattle.iox2_machine.specs.machine.Releases.{subscriber_pruned, released}
use Rattle.iox2_machine.specs.machine.Sends.{SendResult, Send, Retry, GiveUp}
use Rattle.iox2_machine.specs.machine.State.{State, with_loan}
use Rattle.iox2_machine.specs.machine.SubscriberUpdate.{UpdateSubscriber}
use Rattle.iox2_machine.specs.machine.WellFormed.{IsWellFormed}
use Rattle.iox2_machine.specs.declared.errors.ConnectionFailure.{ConnectionFailure}
use Rattle.iox2_machine.specs.declared.errors.LoanError.{LoanError}
use Rattle.iox2_machine.specs.declared.errors.PublisherCreateError.{PublisherCreateError}
use Rattle.iox2_machine.specs.declared.errors.SubscriberCreateError.{SubscriberCreateError}
use Rattle.iox2_machine.specs.declared.warning.Warning.TheVariants.{PublisherPartlyConnected}
use Rattle.iox2_laws.proofs.OperationWalks.{IsPreorder, receive_by_steps}
use Rattle.iox2_laws.proofs.CallCases.{publisher_cases}
use Rattle.iox2_laws.proofs.FilterLemmas.{length-filter_le}
use Rattle.iox2_laws.proofs.PlaceLemmas.{IsOnce-occupants}
use Rattle.iox2_laws.proofs.PortsClose.{publisher_closed_others}
use Rattle.iox2_laws.proofs.PortsStay.{PortsStay, grant_loan_stays, loan_discarded_stays, update_publisher_stays}
use Rattle.iox2_laws.proofs.PortsStay.{update_subscriber_stays, create_publisher_stays}
use Rattle.iox2_laws.proofs.Puts.{at_each}
use Rattle.iox2_laws.proofs.SendsRemain.{send_remains, retry_remains, give_up_remains}
use Rattle.iox2_laws.proofs.UpToDate.{grant_loan_subscribers, update_publisher_subscribers, send_subscribers}
use Rattle.iox2_laws.proofs.UpToDate.{retry_subscribers, give_up_subscribers}
use Rattle.iox2_pubsub.specs.DepartedPorts.{is_gone, departed_of, departed_at, HasDepartedRoom}
use Rattle.iox2_pubsub.proofs.DepartedCounts.{passing, passing-kept, passing-less, passing-one-more}
use Rattle.iox2_pubsub.proofs.DepartedUpdates.{update-subscriber-departed}
use Rattle.iox2_pubsub.proofs.SubscriberSteps.{create-subscriber-by-steps}

module _ {T U : Type 0} where
  -- Each subscriber has room for as many closed publishers as it had.
  abbrev pub RoomStays : (s s' : State T U) → Type 0
  RoomStays s s' = (q closes : ℕ) → HasDepartedRoom s q closes → HasDepartedRoom s' q closes

  -- the settings stay, and no subscriber has more connections with closed publishers
  room-stays : (s s' : State T U) → s'.config ≡ s.config → ((q : ℕ) → departed_at s' q ≤ departed_at s q)
      → RoomStays s s'
  room-stays s s' same fewer q closes has =
      let limit : expired_limit s'.config ≡ expired_limit s.config = ap expired_limit same in
      let less : departed_at s' q ≤ departed_at s q = fewer q in
      let room : departed_at s q + closes ≤ expired_limit s.config = has in
      omega arith

  -- each publisher that is there stays
  abbrev PublishersStay : (s s' : State T U) → Type 0
  PublishersStay s s' =
      (p : ℕ) (x : Publisher) → s.publishers p ≡ Some x → (x' : Publisher) × (s'.publishers p ≡ Some x')

  gone-before : (s s' : State T U) → PublishersStay s s' → (p : ℕ) → is_gone s' p ≡ true → is_gone s p ≡ true
  gone-before s s' stay p gone = by (s.publishers p) refl where
    by : (o : Option Publisher) → s.publishers p ≡ o → is_gone s p ≡ true
    by None e = ap (λ (o : Option Publisher). not (is_some o)) e
    by (Some x) e = let there = stay p x e in
        absurd (true≢false (sym gone ∙ ap (λ (o : Option Publisher). not (is_some o)) there.1))

  -- a record of a subscriber, in a state where no publisher more is gone
  record-less : (s s' : State T U) → PublishersStay s s' → (o : Option Subscriber)
      → option_map_or (departed_of s') o 0 ≤ option_map_or (departed_of s) o 0
  record-less s s' stay None = omega arith
  record-less s s' stay (Some y) =
      let ends : passing (is_gone s') y.ends ≤ passing (is_gone s) y.ends =
      passing-less (is_gone s) (is_gone s') (occupants y.ends) (λ p _ gone. gone-before s s' stay p gone) in
      omega arith

  departed-less : (s s' : State T U) → PublishersStay s s' → s'.subscribers ≡ s.subscribers → (q : ℕ)
      → departed_at s' q ≤ departed_at s q
  departed-less s s' stay same q =
      subst (λ (f : ℕ → Option Subscriber). option_map_or (departed_of s') (f q) 0 ≤ departed_at s q) (sym same)
      (record-less s s' stay (s.subscribers q))

  pub ports-room : (s s' : State T U) → s'.config ≡ s.config → PublishersStay s s' → s'.subscribers ≡ s.subscribers
      → RoomStays s s'
  ports-room s s' config stay same = room-stays s s' config (departed-less s s' stay same)

  publishers-stay : (s s' : State T U) → PortsStay s s' → PublishersStay s s'
  publishers-stay s s' stay p x at = let there = (stay.remain).publishers p x at in (there.0, there.1)

  room-on : IsPreorder RoomStays
  room-on = record {
    itself = λ t q closes has. has;
    trans = λ t u v first then q closes has. then q closes (first q closes has);
  }

  pub room-itself : (s s' : State T U) → s' ≡ s → RoomStays s s'
  room-itself s s' same q closes has = subst (λ (t : State T U). HasDepartedRoom t q closes) (sym same) has

  -- ---- loans and sends

  pub set-room : (s : State T U) (n : ℕ) (l : Option (Loan T U)) → RoomStays s (with_loan s n l)
  set-room s n l = λ q closes has. has

  pub discard-room : (s : State T U) (n : ℕ) (l : Loan T U) → RoomStays s (loan_discarded s n l)
  discard-room s n l = ports-room s (loan_discarded s n l) refl
      (publishers-stay s (loan_discarded s n l) (loan_discarded_stays s n l)) refl

  pub grant-room : (environment : Environment) (default_header : U) (checks_length : Bool) (len : ℕ) (s : State T U)
      (p : ℕ) (s' : State T U) (refusal : Option LoanError)
      → GrantLoan environment default_header checks_length len s p s' refusal → RoomStays s s'
  grant-room environment default_header checks_length len s p s' refusal h =
      let stay : PortsStay s s' = grant_loan_stays environment default_header checks_length len s p s' refusal h in
      ports-room s s' (stay.remain).config (publishers-stay s s' stay)
      (grant_loan_subscribers environment default_header checks_length len s p s' refusal h)

  pub update-publisher-room : (environment : Environment) (s : State T U) (p : ℕ) (s' : State T U)
      (failure : Option ConnectionFailure) → UpdatePublisher environment s p s' failure → RoomStays s s'
  update-publisher-room environment s p s' failure h =
      let stay : PortsStay s s' = update_publisher_stays environment s p s' failure h in
      ports-room s s' (stay.remain).config (publishers-stay s s' stay)
      (update_publisher_subscribers environment s p s' failure h)

  pub send-room : (environment : Environment) (s : State T U) (n : ℕ) (l : Loan T U) (s' : State T U)
      (result : SendResult) → Send environment s n l s' result → RoomStays s s'
  send-room environment s n l s' result h =
      let remain = send_remains environment s n l s' result h in
      ports-room s s' remain.config remain.publishers (send_subscribers environment s n l s' result h)

  pub retry-room : (environment : Environment) (s : State T U) (p : ℕ) (b : BlockedSend) (elapsed : Duration)
      (s' : State T U) (result : SendResult) → Retry environment s p b elapsed s' result → RoomStays s s'
  retry-room environment s p b elapsed s' result h =
      let remain = retry_remains environment s p b elapsed s' result h in
      ports-room s s' remain.config remain.publishers (retry_subscribers environment s p b elapsed s' result h)

  pub give-up-room : (environment : Environment) (s : State T U) (p : ℕ) (b : BlockedSend) (s' : State T U)
      (result : SendResult) → GiveUp environment s p b s' result → RoomStays s s'
  give-up-room environment s p b s' result h =
      let remain = give_up_remains environment s p b s' result h in
      ports-room s s' remain.config remain.publishers (give_up_subscribers environment s p b s' result h)

  -- ---- a subscriber's update, and a receive

  pub update-subscriber-room : (environment : Environment) (s : State T U) (i : ℕ) (s' : State T U)
      (failure : Option ConnectionFailure) → IsWellFormed s → UpdateSubscriber environment s i s' failure
      → RoomStays s s'
  update-subscriber-room environment s i s' failure w h =
      room-stays s s' ((update_subscriber_stays environment s i s' failure h).remain).config
      (update-subscriber-departed environment s w i s' failure h)

  pub receive-room : (environment : Environment) (s : State T U) (i : ℕ) (s' : State T U) (result : ReceiveResult)
      → IsWellFormed s → Receive environment s i s' result → RoomStays s s'
  receive-room environment s i s' result w =
      receive_by_steps RoomStays room-on environment s i s' result
      (λ t failure. update-subscriber-room environment s i t failure w)
      (λ t p box q closes has. has)

  -- ---- a release

  pruned-less : (s t : State T U) (i : ℕ) (y : Subscriber) → departed_of s (pruned t i y) ≤ departed_of s y
  pruned-less s t i y =
      let expired : length (filter (is_connected t i) y.expired) ≤ length y.expired =
      length-filter_le (is_connected t i) y.expired in
      let ends : passing (is_gone s) (places_kept (is_connected t i) y.ends) ≤ passing (is_gone s) y.ends =
      passing-kept (is_gone s) (is_connected t i) y.ends in
      omega arith

  pruned-departed : (t : State T U) (i q : ℕ) → departed_at (subscriber_pruned t i) q ≤ departed_at t q
  pruned-departed t i q =
      at_each t.subscribers i (option_map (pruned t i) (t.subscribers i))
      (λ k o. option_map_or (departed_of t) o 0 ≤ departed_at t k) q
      (λ _. by (t.subscribers i)) (λ _. omega arith)
    where
      by : (o : Option Subscriber)
          → option_map_or (departed_of t) (option_map (pruned t i) o) 0 ≤ option_map_or (departed_of t) o 0
      by None = omega arith
      by (Some y) = pruned-less t t i y

  due-stay : (s s' : State T U)
      → ((p : ℕ) → s'.publishers p ≡ option_map {T = Publisher} {U = Publisher} (λ x. record x { is_due = true })
      (s.publishers p)) → PublishersStay s s'
  due-stay s s' each p x at = (
    record x { is_due = true },
    each p ∙ ap (option_map {T = Publisher} {U = Publisher} (λ x. record x { is_due = true })) at,
  )

  freed-departed : (t : State T U) (i q : ℕ) → departed_at (place_freed t i) q ≤ departed_at t q
  freed-departed t i q =
      at_each t.subscribers i None (λ k o. option_map_or (departed_of (place_freed t i)) o 0 ≤ departed_at t k) q
      (λ _. omega arith)
      (λ _. record-less t (place_freed t i) (due-stay t (place_freed t i) (λ p. refl)) (t.subscribers q))

  maybe-freed-room : (s t : State T U) (i : ℕ) → t.config ≡ s.config → ((q : ℕ) → departed_at t q ≤ departed_at s q)
      → RoomStays s (cond (is_unused t i) (place_freed t i) t)
  maybe-freed-room s t i config less =
      cond_both (is_unused t i) (place_freed t i) t (RoomStays s)
      (λ _. room-stays s (place_freed t i) config (λ q.
      let first : departed_at (place_freed t i) q ≤ departed_at t q = freed-departed t i q in
      let second : departed_at t q ≤ departed_at s q = less q in
      omega arith))
      (λ _. room-stays s t config less)

  pub released-room : (s : State T U) (p q n : ℕ) → RoomStays s (released s p q n)
  released-room s p q n = maybe-freed-room s (subscriber_pruned (unborrowed s p q n) q) q refl
      (λ i. pruned-departed (unborrowed s p q n) q i)

  -- ---- ports are made

  pub create-subscriber-room : (environment : Environment) (s : State T U) → IsWellFormed s
      → (given : SubscriberSettings) (s' : State T U) (refusal : Option SubscriberCreateError)
      → CreateSubscriber environment s given s' refusal → RoomStays s s'
  create-subscriber-room environment s w given s' refusal =
      create-subscriber-by-steps RoomStays room-on environment s w given s' refusal entered
      (λ new t failure. update-subscriber-room environment new s.next_port t failure) (λ t warning q closes has. has)
    where
      entered : (place : ℕ) → RoomStays s (with_new_subscriber s given place)
      entered place =
          let new : State T U = with_new_subscriber s given place in
          room-stays s new refl (λ i.
          at_each s.subscribers s.next_port (Some (new_subscriber given place))
          (λ k o. option_map_or (departed_of new) o 0 ≤ departed_at s k) i
          (λ _. omega arith) (λ _. record-less s new (due-stay s new (λ p. refl)) (s.subscribers i)))

  -- an id that no port has yet
  unknown-departed : (s : State T U) → IsWellFormed s → departed_at s s.next_port ≡ 0
  unknown-departed s w = by (s.subscribers s.next_port) refl where
    by : (o : Option Subscriber) → s.subscribers s.next_port ≡ o → departed_at s s.next_port ≡ 0
    by None e = ap (λ (o : Option Subscriber). option_map_or (departed_of s) o 0) e
    by (Some y) e = let low : s.next_port < s.next_port = (w.subscribers s.next_port y e).is_known in
        absurd (omega arith)

  -- a new subscriber has room for as many as it may keep
  pub created-room : (environment : Environment) (s : State T U) → IsWellFormed s
      → (given : SubscriberSettings) (s' : State T U) (refusal : Option SubscriberCreateError)
      → CreateSubscriber environment s given s' refusal → (closes : ℕ) → closes ≤ expired_limit s.config
      → HasDepartedRoom s' s.next_port closes
  created-room environment s w given s' refusal h closes low =
      let none : departed_at s s.next_port ≡ 0 = unknown-departed s w in
      create-subscriber-room environment s w given s' refusal h s.next_port closes (omega arith)

  pub create-publisher-room : (environment : Environment) (s : State T U) (given : PublisherSettings) (s' : State T U)
      (refusal : Option PublisherCreateError)
      → CreatePublisher environment s given s' refusal → RoomStays s s'
  create-publisher-room environment s given s' refusal h =
      let stay : PortsStay s s' = create_publisher_stays environment s given s' refusal h in
      publisher_cases environment s given s' (RoomStays s s') refusal h (λ e same _. room-itself s s' same)
      (λ place makes. made stay place makes.2)
    where
      warned : (t : State T U) (failure : Option ConnectionFailure)
          → (with_failure_warning t (PublisherPartlyConnected s.next_port) failure).subscribers ≡ t.subscribers
      warned t None = refl
      warned t (Some failure) = refl

      made : PortsStay s s' → (place : ℕ)
          → FirstPublisherUpdate environment (with_new_publisher s given place) s.next_port s' → RoomStays s s'
      made stay place h =
          let new : State T U = with_new_publisher s given place in
          let same : s'.subscribers ≡ new.subscribers =
          ap (λ (t : State T U). t.subscribers) h.3 ∙ warned h.0 h.1
          ∙ update_publisher_subscribers environment new s.next_port h.0 h.1 h.2 in
          room-stays s s' (stay.remain).config (λ q.
          subst (λ (f : ℕ → Option Subscriber). option_map_or (departed_of s') (f q) 0 ≤ departed_at s q) (sym same)
          (due (s.subscribers q)))
        where
          due : (o : Option Subscriber) → option_map_or (departed_of s')
              (option_map {T = Subscriber} (λ y. record y { is_due = true }) o) 0 ≤ option_map_or (departed_of s) o 0
          due None = omega arith
          due (Some y) = record-less s s' (publishers-stay s s' stay) (Some y)

  -- ---- closes

  -- a publisher's close adds one at most
  pub publisher-closed-room : (s : State T U) (p : ℕ) (x : Publisher) → IsWellFormed s → (q closes : ℕ)
      → HasDepartedRoom s q (suc closes) → HasDepartedRoom (publisher_closed s p x) q closes
  publisher-closed-room s p x w q closes has =
      let most : departed_at (publisher_closed s p x) q ≤ suc (departed_at s q) = by (s.subscribers q) refl in
      let room : departed_at s q + suc closes ≤ expired_limit s.config = has in
      omega arith
    where
      gone-now : (n : ℕ) → is_gone (publisher_closed s p x) n ≡ true → (n ≡ p) ⊎ (is_gone s n ≡ true)
      gone-now n gone = elim (cases_eq n p) [
        | inl its ↦ inl its
        | inr away ↦
            inr (ap (λ (o : Option Publisher). not (is_some o)) (sym (publisher_closed_others s p x n away)) ∙ gone)
      ]

      by : (o : Option Subscriber) → s.subscribers q ≡ o
          → option_map_or (departed_of (publisher_closed s p x))
          (option_map {T = Subscriber} {U = Subscriber} (λ z. record z { is_due = true })
          (option_map {T = Subscriber} (pruned (publisher_gone s p x) q) o)) 0
          ≤ suc (option_map_or (departed_of s) o 0)
      by None e = omega arith
      by (Some y) e =
          let less : departed_of (publisher_closed s p x) (pruned (publisher_gone s p x) q y) ≤ departed_of
          (publisher_closed s p x) y = pruned-less (publisher_closed s p x) (publisher_gone s p x) q y in
          let more : passing (is_gone (publisher_closed s p x)) y.ends ≤ suc (passing (is_gone s) y.ends) =
          passing-one-more (is_gone s) (is_gone (publisher_closed s p x)) p (occupants y.ends)
          (IsOnce-occupants y.ends (w.subscribers q y e).ends_apart) gone-now in
          omega arith

  -- a subscriber's close adds none
  pub subscriber-closed-room : (s : State T U) (i : ℕ) (y : Subscriber) → s.subscribers i ≡ Some y
      → RoomStays s (subscriber_closed s i y)
  subscriber-closed-room s i y here =
      maybe-freed-room s (subscriber_pruned (subscriber_shut s i y) i) i refl (λ q.
      let first : departed_at (subscriber_pruned (subscriber_shut s i y) i) q ≤ departed_at (subscriber_shut s i y) q =
      pruned-departed (subscriber_shut s i y) i q in
      let second : departed_at (subscriber_shut s i y) q ≤ departed_at s q = shut q in
      omega arith)
    where
      stay : PublishersStay s (subscriber_shut s i y)
      stay = due-stay s (subscriber_shut s i y) (λ p. refl)

      shut : (q : ℕ) → departed_at (subscriber_shut s i y) q ≤ departed_at s q
      shut q =
          at_each s.subscribers i (Some (record y { is_open = false }))
          (λ k o. option_map_or (departed_of (subscriber_shut s i y)) o 0 ≤ departed_at s k) q
          (λ _.
          let same : departed_at s i ≡ departed_of s y =
          ap (λ (o : Option Subscriber). option_map_or (departed_of s) o 0) here in
          let less : departed_of (subscriber_shut s i y) y ≤ departed_of s y =
          record-less s (subscriber_shut s i y) stay (Some y) in
          omega arith)
          (λ _. record-less s (subscriber_shut s i y) stay (s.subscribers q))
