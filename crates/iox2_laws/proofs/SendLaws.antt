-- A send, and a blocked send that is tried again or given up, keep a state well-formed.
use Rattle.std.proofs.Common.{zero, suc, ◌≡◌, ◌<◌, length, ℕ, le_refl, ◌+◌, ◌≤◌, Bool, true, false, List, [], ◌∷◌, ◌++◌}
use Rattle.std.proofs.Common.{drop, refl, sym, ap, subst, ◌∙◌, arith, ⊎_elim, ◌⊎◌, inl, inr, Option, None, Some, take}
use Rattle.std.proofs.Common.{take_all}
use Rattle.std.specs.Option.{option_map}
use Rattle.std.specs.declared.time.Duration.{Duration}
use Rattle.std.proofs.lemmas.Bool.{eqb-false}
use Rattle.std.proofs.lemmas.Option.{none-some, same_Some}
use Rattle.iox2_machine.specs.machine.Numbers.{put_at, contains, without, last_n}
use Rattle.iox2_machine.specs.machine.Places.{occupant}
use Rattle.iox2_machine.specs.machine.Mailbox.{Mailbox, numbers_in}
use Rattle.iox2_machine.specs.machine.Records.{Loan, Publisher, BlockedSend, Environment}
use Rattle.iox2_machine.specs.machine.State.{State, is_blocked, channel_buffer, publisher_changed}
use Rattle.iox2_machine.specs.machine.Delivery.{DeliveryEnd, Complete, Suspended, no_time}
use Rattle.iox2_machine.specs.machine.Sends.{SendResult, more_retries, published, send_ended, send_blocked}
use Rattle.iox2_machine.specs.machine.Sends.{ConcludeSend, with_mailboxes, DeliverAndConclude, Publish, Send, Retry}
use Rattle.iox2_machine.specs.machine.Sends.{GiveUp}
use Rattle.iox2_machine.specs.machine.WellFormed.{LeadsTo, IsInjective, BlockedIsWellFormed, PublisherIsWellFormed}
use Rattle.iox2_machine.specs.machine.WellFormed.{IsWellFormed}
use Rattle.iox2_laws.specs.Laws.{Advances}
use Rattle.iox2_laws.proofs.Cases.{by_option}
use Rattle.iox2_laws.proofs.OperationWalks.{advance, DeliverySteps, delivery_by_steps, send_by_steps}
use Rattle.iox2_laws.proofs.Puts.{put_at-same, put_at-other, at_each}
use Rattle.iox2_laws.proofs.NumberLemmas.{contains_in_append, contains_one, contains_in_last_n, length-last_n}
use Rattle.iox2_laws.proofs.NumberLemmas.{IsOnce-last_n, IsOnce-push}
use Rattle.iox2_laws.proofs.PlaceLemmas.{occupant-drop}
use Rattle.iox2_laws.proofs.PublisherUpdates.{update_publisher_keeps, update_publisher_advances}
use Rattle.iox2_laws.proofs.PublisherUpdates.{update_publisher_leaves, no_blocked_send}
use Rattle.iox2_laws.proofs.Altered.{same_state, altered}
use Rattle.iox2_laws.proofs.LoanLaws.{loan_lost_keeps, loan_discarded_keeps}
use Rattle.iox2_laws.proofs.DeliveryLaws.{Delivered, deliver_is, IsUnderway, ended_keeps, blocked_keeps, AreFrom}
use Rattle.iox2_laws.proofs.DeliveryLaws.{rest_of}
use Rattle.iox2_machine.specs.machine.Limits.{channel_count}
use Rattle.iox2_laws.specs.Sendings.{sending}

-- all ends but the first lead where the ends do
later_ends : (ends : List (Option ℕ)) (q : ℕ) → LeadsTo (drop 1 ends) q → LeadsTo ends q
later_ends ends q h = (1 + h.0, sym (occupant-drop 1 ends h.0) ∙ h.1)

-- ends of a list are apart where the list's are
pub injective_drop : (k : ℕ) (xs : List (Option ℕ)) → IsInjective xs → IsInjective (drop k xs)
injective_drop k xs apart i j id h e =
    let same : k + i ≡ k + j = apart (k + i) (k + j) id (sym (occupant-drop k xs i) ∙ h)
    (sym (occupant-drop k xs j) ∙ e) in omega (arith, same)

-- what stands in the first of a list stands there in the list
pub occupant-take : (count : ℕ) (xs : List (Option ℕ)) (i q : ℕ) → occupant (take count xs) i ≡ Some q
    → occupant xs i ≡ Some q
occupant-take zero xs i q h = absurd (none-some q h)
occupant-take (suc count) [] i q h = h
occupant-take (suc count) (x ∷ xs) zero q h = h
occupant-take (suc count) (x ∷ xs) (suc i) q h = occupant-take count xs i q h

pub injective_take : (count : ℕ) (xs : List (Option ℕ)) → IsInjective xs → IsInjective (take count xs)
injective_take count xs apart i j id h e = apart i j id (occupant-take count xs i id h) (occupant-take count xs j id e)

-- without the first they are some from the next place on
behind_first : (ends whole : List (Option ℕ)) (place : ℕ) → AreFrom whole ends place
    → AreFrom whole (drop 1 ends) (place + 1)
behind_first [] whole place h = (0, refl)
behind_first (end ∷ rest) whole place h = rest_of end rest whole place h

module _ {T U : Type 0} where
  -- ---- a blocked send goes on

  -- a blocked send's message may be delivered at the ends that remain
  underway_of_blocked : (s : State T U) (p : ℕ) (x : Publisher) (b : BlockedSend) (ends : List (Option ℕ))
      → PublisherIsWellFormed s p x → x.blocked ≡ Some b
      → ((q : ℕ) → LeadsTo ends q → LeadsTo b.ends q) → IsUnderway s p x b.message s.loans x.history ends
  underway_of_blocked s p x b ends w waits inside = let v : BlockedIsWellFormed s p x b = w.blocked b waits in record {
    is_out = v.is_out;
    unheld = v.unheld;
    own = λ l e. absurd (none-some l (sym v.unheld ∙ e));
    others = λ m _. refl;
    held = λ m apart h. ⊎_elim (λ held. held)
        (λ (other : (b' : BlockedSend) × (x.blocked ≡ Some b') × (b'.message ≡ m)). absurd (eqb-false m b.message apart
        (sym other.2 ∙ ap (λ (k : BlockedSend). k.message) (same_Some other.0 b (sym other.1 ∙ waits)))))
        (w.loans_held m h);
    history_bound = w.history_bound;
    history_once = w.history_once;
    history_has = λ m h. inl h;
    leads = λ q h. let at : LeadsTo b.ends q = inside q h in (
      b.place + at.0,
      sym (occupant-drop b.place x.ends at.0)
          ∙ occupant-take (v.ends).0 (drop b.place x.ends) at.0 q
          (ap (λ (l : List (Option ℕ)). occupant l at.0) (sym (v.ends).1) ∙ at.1),
    );
    unserved = λ q h. v.unserved q (inside q h);
  }

  -- a blocked send's delivery goes on from its place, or from a later one
  pub delivery_goes_on_keeps : (environment : Environment) (s : State T U) (p : ℕ) (x : Publisher) (b : BlockedSend)
      (retries : ℕ) (elapsed : Duration)
      (place : ℕ) (ends : List (Option ℕ))
      (count : ℕ) (has_failed : Bool) (s' : State T U) (result : SendResult)
      → IsWellFormed s → s.publishers p ≡ Some x → x.blocked ≡ Some b → AreFrom x.ends ends place → count ≤ place
      → ((q : ℕ) → LeadsTo ends q → LeadsTo b.ends q)
      → DeliverAndConclude environment s p
      (sending b.message b.channel retries place ends count has_failed) elapsed s' result → IsWellFormed s'
  delivery_goes_on_keeps environment s p x b retries elapsed place ends count has_failed s' result w here waits tail few
      inside h =
      by_option (IsWellFormed s') (s.publishers p) _ _ h (λ _ v. absurd v) (λ x2 _ h.
      let d : Delivered (channel_buffer s p b.channel) b.message b.channel x.ends ends (s.mailboxes p) h.0 h.1 =
      deliver_is environment s.config p x2.backpressure_strategy x2.backpressure_handler
      (channel_buffer s p b.channel) b.message b.channel retries elapsed place ends count
      has_failed x.ends (s.mailboxes p) h.0 h.1
      (subst IsInjective (sym tail.1) (injective_take tail.0 (drop place x.ends)
      (injective_drop place x.ends ((w.publishers p x here).ends_apart)))) tail few h.2 in
      conclude h.0 h.1 d h.3)
    where
      known : b.channel < channel_count s.config
      known = ((w.publishers p x here).blocked b waits).channel

      conclude : (how : DeliveryEnd) (boxes : ℕ → Mailbox)
          → Delivered (channel_buffer s p b.channel) b.message b.channel x.ends ends (s.mailboxes p) how boxes
          → ConcludeSend (with_mailboxes s p boxes) p b.message how s' result → IsWellFormed s'
      conclude (Complete count has_failed) boxes d h = subst IsWellFormed
          (ap (λ o. record s {
            publishers = put_at s.publishers p
                (option_map (λ (v : Publisher). record v { loans = without b.message v.loans; blocked = None }) o);
            mailboxes = put_at s.mailboxes p boxes;
          })
          (sym here) ∙ sym h.0)
          (ended_keeps s w p x here b.message b.channel known s.loans x.history ends (Complete count has_failed) boxes
          (underway_of_blocked s p x b ends (w.publishers p x here) waits inside) d)
      conclude (Suspended b') boxes d h = subst IsWellFormed
          (ap (λ o. record s {
            publishers = put_at s.publishers p (option_map (λ (v : Publisher). record v { blocked = Some b' }) o);
            mailboxes = put_at s.mailboxes p boxes;
          }) (sym here) ∙ sym h.0)
          (blocked_keeps s w p x here b.message b.channel known s.loans x.history ends (Suspended b') boxes
          (underway_of_blocked s p x b ends (w.publishers p x here) waits inside) d b' refl)

  -- a blocked send's delivery goes on from its place, however often and long it was tried
  pub deliver_and_conclude_keeps : (environment : Environment) (s : State T U) (p : ℕ) (x : Publisher) (b : BlockedSend)
      (retries : ℕ) (elapsed : Duration)
      (s' : State T U) (result : SendResult)
      → IsWellFormed s → s.publishers p ≡ Some x → x.blocked ≡ Some b
      → DeliverAndConclude environment s p
      (sending b.message b.channel retries b.place b.ends b.count b.has_failed) elapsed s' result → IsWellFormed s'
  deliver_and_conclude_keeps environment s p x b retries elapsed s' result w here waits h =
      delivery_goes_on_keeps environment s p x b retries elapsed b.place b.ends b.count b.has_failed s' result w here
      waits
      (((w.publishers p x here).blocked b waits).ends) (((w.publishers p x here).blocked b waits).count_bound)
      (λ q h. h) h

  -- a blocked send that is tried again
  pub retry_keeps : (environment : Environment) (s : State T U) (p : ℕ) (x : Publisher) (b : BlockedSend)
      (elapsed : Duration) (s' : State T U)
      (result : SendResult)
      → IsWellFormed s → s.publishers p ≡ Some x → x.blocked ≡ Some b → Retry environment s p b elapsed s' result
      → IsWellFormed s'
  retry_keeps environment s p x b elapsed s' result w here waits h =
      deliver_and_conclude_keeps environment s p x b (more_retries b.retries) elapsed s' result w
      here waits h

  -- a blocked send that is given up
  pub give_up_keeps : (environment : Environment) (s : State T U) (p : ℕ) (x : Publisher) (b : BlockedSend)
      (s' : State T U) (result : SendResult)
      → IsWellFormed s → s.publishers p ≡ Some x → x.blocked ≡ Some b → GiveUp environment s p b s' result
      → IsWellFormed s'
  give_up_keeps environment s p x b s' result w here waits h =
      let tail : AreFrom x.ends b.ends b.place = ((w.publishers p x here).blocked b waits).ends in
      let few : b.count ≤ b.place = ((w.publishers p x here).blocked b waits).count_bound in
      delivery_goes_on_keeps environment s p x b 0 no_time (b.place + 1)
      (drop 1 b.ends) b.count b.has_failed s' result w here waits
      (behind_first b.ends x.ends b.place tail) (omega arith) (later_ends b.ends) h

  -- ---- a message is published

  module _ (s : State T U) (w : IsWellFormed s) (p n : ℕ) (l : Loan T U) (found : s.loans n ≡ Some l)
      (own : l.publisher ≡ p) (x : Publisher)
      (here : s.publishers p ≡ Some x) (free : x.blocked ≡ None) where
    first_channel : 0 < channel_count s.config
    first_channel = omega arith

    -- The history with the message.
    abbrev longer : List ℕ
    longer = last_n (s.config).history_size (x.history ++ n ∷ [])

    in_history : (m : ℕ) → contains longer m ≡ true → (contains x.history m ≡ true) ⊎ (m ≡ n)
    in_history m h = ⊎_elim (λ old. inl old) (λ new. inr (sym (contains_one n m new)))
        (contains_in_append x.history (n ∷ []) m (contains_in_last_n (s.config).history_size (x.history ++ n ∷ []) m h))

    -- a loan may be delivered at all ends
    underway_of_loan : IsUnderway s p x n (put_at s.loans n None) longer x.ends
    underway_of_loan =
        let v : PublisherIsWellFormed s p x = w.publishers p x here in
        let out : (contains x.loans n ≡ true) × (contains x.history n ≡ false) =
        (w.loans n l found).is_out x (ap s.publishers own ∙ here) in
        record {
          is_out = out.0;
          unheld = put_at-same s.loans n None;
          own = λ u e. ap (λ (k : Loan T U). k.publisher) (same_Some u l (sym e ∙ found)) ∙ own;
          others = put_at-other s.loans n None;
          held = λ m _ h. ⊎_elim (λ held. held)
              (λ (waits : (b : BlockedSend) × (x.blocked ≡ Some b) × (b.message ≡ m)).
              absurd (none-some waits.0 (sym free ∙ waits.1))) (v.loans_held m h);
          history_bound = length-last_n (s.config).history_size (x.history ++ n ∷ []);
          history_once = IsOnce-last_n (s.config).history_size (x.history ++ n ∷ [])
              (IsOnce-push x.history n v.history_once out.1);
          history_has = in_history;
          leads = λ q h. h;
          unserved =
              λ q _. ap (λ i. contains (numbers_in (s.mailboxes i q)) n) (sym own) ∙ (w.loans n l found).unsent q;
        }

    -- what is written for the publisher of a published message
    written_alike : (f : Publisher → Publisher) (x' : Publisher) → f (record x { history = longer }) ≡ x' → (i : ℕ)
        → put_at s.publishers p (Some x') i ≡ (publisher_changed (published s p n) p f).publishers i
    written_alike f x' is i =
        let g : Publisher → Publisher =
        λ v. record v { history = last_n (s.config).history_size (v.history ++ n ∷ []) } in
        at_each s.publishers p (Some x') (λ j o. o ≡ (publisher_changed (published s p n) p f).publishers j) i
        (λ _. sym (put_at-same (published s p n).publishers p (option_map f ((published s p n).publishers p))
        ∙ ap (option_map f) (put_at-same s.publishers p (option_map g (s.publishers p)) ∙ ap (option_map g) here)
        ∙ ap Some is))
        (λ apart.
        sym (put_at-other (published s p n).publishers p (option_map f ((published s p n).publishers p)) i apart
        ∙ put_at-other s.publishers p (option_map g (s.publishers p)) i apart))

    conclude_published : (how : DeliveryEnd) (boxes : ℕ → Mailbox) (s' : State T U) (result : SendResult)
        → Delivered (channel_buffer s p 0) n 0 x.ends x.ends
        (s.mailboxes p) how boxes
        → ConcludeSend (with_mailboxes (published s p n) p boxes) p n how s' result → IsWellFormed s'
    conclude_published (Complete count has_failed) boxes s' result d h = subst IsWellFormed
        (same_state (altered s p (record x { loans = without n x.loans; history = longer; blocked = None }) boxes
        (put_at s.loans n None) s.next_message)
        (send_ended (with_mailboxes (published s p n) p boxes) p n) refl refl refl (λ _. refl)
        (written_alike (λ v. record v { loans = without n v.loans; blocked = None })
        (record x { loans = without n x.loans; history = longer; blocked = None }) refl)
        (λ _. refl) (λ _ _. refl) (λ _ _. refl) refl refl refl ∙ sym h.0)
        (ended_keeps s w p x here n 0 first_channel (put_at s.loans n None) longer x.ends
        (Complete count has_failed) boxes underway_of_loan d)
    conclude_published (Suspended b) boxes s' result d h = subst IsWellFormed
        (same_state
        (altered s p (record x { history = longer; blocked = Some b }) boxes (put_at s.loans n None) s.next_message)
        (send_blocked (with_mailboxes (published s p n) p boxes) p b) refl refl refl (λ _. refl)
        (written_alike (λ v. record v { blocked = Some b }) (record x { history = longer; blocked = Some b }) refl)
        (λ _. refl) (λ _ _. refl) (λ _ _. refl) refl refl refl ∙ sym h.0)
        (blocked_keeps s w p x here n 0 first_channel (put_at s.loans n None) longer x.ends
        (Suspended b) boxes underway_of_loan d b refl)

    -- a loan of a publisher that isn't blocked is published
    pub publish_keeps : (environment : Environment) (s' : State T U) (result : SendResult)
        → Publish environment s p n s' result → IsWellFormed s'
    publish_keeps environment s' result h =
        by_option (IsWellFormed s') (s.publishers p) _ _ h (λ _ v. absurd v) (λ x1 here1 h.
        by_option (IsWellFormed s') ((published s p n).publishers p) _ _ h (λ _ v. absurd v) (λ x2 _ h.
        let same : x1 ≡ x = same_Some x1 x (sym here1 ∙ here) in
        let apart : IsInjective x1.ends = (w.publishers p x1 here1).ends_apart in
        let d : Delivered (channel_buffer s p 0) n 0 x1.ends x1.ends (s.mailboxes p) h.0 h.1 =
        deliver_is environment s.config p x2.backpressure_strategy x2.backpressure_handler
        (channel_buffer s p 0) n 0 0 no_time 0 x1.ends 0 false x1.ends
        (s.mailboxes p) h.0 h.1 apart
        (length x1.ends, sym (take_all (length x1.ends) x1.ends (le_refl (length x1.ends)))) (le_refl 0) h.2 in
        conclude_published h.0 h.1 s' result
        (subst (λ (v : Publisher). Delivered (channel_buffer s p 0) n 0 v.ends v.ends (s.mailboxes p) h.0 h.1) same d)
        h.3))

  -- ---- a loan is sent

  -- a send keeps a state well-formed
  pub send_keeps : (environment : Environment) (s : State T U) (n : ℕ) (l : Loan T U) (s' : State T U)
      (result : SendResult)
      → IsWellFormed s → s.loans n ≡ Some l → is_blocked s l.publisher ≡ false → Send environment s n l s' result
      → IsWellFormed s'
  send_keeps environment s n l s' result w found free h =
      by_option (IsWellFormed s') (s.publishers l.publisher) _ _ h
      (λ gone h. subst IsWellFormed (sym h.0) (loan_lost_keeps s w n l found gone))
      (λ x here h.
      let v : IsWellFormed h.0 = update_publisher_keeps environment s l.publisher h.0 h.1 w free h.2 in
      let left : (x' : Publisher) × ((h.0).publishers l.publisher ≡ Some x') × (x'.loans ≡ x.loans)
      × (x'.history ≡ x.history) × (x'.blocked ≡ x.blocked)
      × ((h.0).loans ≡ s.loans) =
      update_publisher_leaves environment s l.publisher h.0 h.1 x here h.2 in
      let still : (h.0).loans n ≡ Some l = ap (λ (f : ℕ → Option (Loan T U)). f n) left.5 ∙ found in
      by_option (IsWellFormed s') h.1 _ _ h.3
      (λ _ k. publish_keeps h.0 v l.publisher n l still refl left.0 left.1
      (left.4 ∙ no_blocked_send s l.publisher x here free) environment s' result k)
      (λ e _ k. subst IsWellFormed (sym k.0) (loan_discarded_keeps h.0 v n l still)))

  -- ---- counters

  -- a delivery leaves the configuration and the counters
  deliveries_advance : (environment : Environment) (p n : ℕ) (result : SendResult)
      → DeliverySteps {T = T} {U = U} environment p n Advances Advances result
  deliveries_advance environment p n result = record {
    delivers =
        λ s boxes _. record { config = refl; next_port = le_refl s.next_port; next_message = le_refl s.next_message };
    ended = λ s _. record { config = refl; next_port = le_refl s.next_port; next_message = le_refl s.next_message };
    blocked = λ s b _. record { config = refl; next_port = le_refl s.next_port; next_message = le_refl s.next_message };
  }

  pub deliver_and_conclude_advances : (environment : Environment) (s : State T U) (p n channel retries : ℕ)
      (elapsed : Duration) (place : ℕ) (ends : List (Option ℕ))
      (count : ℕ) (has_failed : Bool)
      (s' : State T U) (result : SendResult)
      → DeliverAndConclude environment s p (sending n channel retries place ends count has_failed) elapsed s' result
      → Advances s s'
  deliver_and_conclude_advances environment s p n channel retries elapsed place ends count has_failed s' result =
      delivery_by_steps Advances Advances (advance.trans) environment s p n channel retries elapsed place ends count
      has_failed s' result (deliveries_advance environment p n result)

  -- a blocked send that is tried again advances the state
  pub retry_advances : (environment : Environment) (s : State T U) (p : ℕ) (b : BlockedSend) (elapsed : Duration)
      (s' : State T U) (result : SendResult)
      → Retry environment s p b elapsed s' result → Advances s s'
  retry_advances environment s p b elapsed s' result h =
      deliver_and_conclude_advances environment s p b.message b.channel
      (more_retries b.retries) elapsed b.place b.ends b.count b.has_failed s' result h

  -- a blocked send that is given up advances the state
  pub give_up_advances : (environment : Environment) (s : State T U) (p : ℕ) (b : BlockedSend) (s' : State T U)
      (result : SendResult)
      → GiveUp environment s p b s' result → Advances s s'
  give_up_advances environment s p b s' result h =
      deliver_and_conclude_advances environment s p b.message b.channel 0 no_time (b.place + 1)
      (drop 1 b.ends) b.count b.has_failed s' result h

  -- a send advances the state
  pub send_advances : (environment : Environment) (s : State T U) (n : ℕ) (l : Loan T U) (s' : State T U)
      (result : SendResult)
      → Send environment s n l s' result → Advances s s'
  send_advances environment s n l s' result =
      send_by_steps Advances Advances (advance.trans) environment s n l s' result (record {
        delivery = deliveries_advance environment l.publisher n result;
        updates = λ a. update_publisher_advances environment a l.publisher;
        publishes =
            λ a. record { config = refl; next_port = le_refl a.next_port; next_message = le_refl a.next_message };
        lost =
            λ a _ e _. record { config = refl; next_port = le_refl a.next_port; next_message = le_refl a.next_message };
        discards = λ a k _ e _.
            record { config = refl; next_port = le_refl a.next_port; next_message = le_refl a.next_message };
      })
