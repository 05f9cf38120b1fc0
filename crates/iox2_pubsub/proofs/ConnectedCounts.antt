-- What waits for a subscriber after a send of a publisher that is connected with it, and after a publisher's close.
use Rattle.std.proofs.Common.{◌≡◌, ℕ, suc, ◌<◌, Bool, true, false, cond, ◌&&◌, ◌||◌, List, [], length, refl, sym, ap}
use Rattle.std.proofs.Common.{subst, ◌∙◌, Option, Some, inl, inr}
use Rattle.std.specs.Prelude.{◌≢◌, MatchOption}
use Rattle.std.specs.Option.{option_map, option_map_or}
use Rattle.std.specs.declared.time.Duration.{Duration}
use Rattle.std.proofs.lemmas.Bool.{true≢false, ne_eqb, eq-eqb, cases_eq}
use Rattle.std.proofs.lemmas.Option.{none-some, same_Some}
use Rattle.iox2_machine.specs.machine.Mailbox.{Mailbox, waiting_dropped, has_numbers}
use Rattle.iox2_machine.specs.machine.Numbers.{contains, put_at}
use Rattle.iox2_machine.specs.machine.Places.{occupant, occupants, is_port}
use Rattle.iox2_machine.specs.machine.Ports.{publisher_closed, publisher_gone, subscribers_pruned}
use Rattle.iox2_machine.specs.machine.Ports.{mailbox_after_publisher}
use Rattle.iox2_machine.specs.machine.Releases.{pruned}
use Rattle.iox2_machine.specs.machine.Delivery.{DeliveryEnd, Complete, Suspended}
use Rattle.iox2_machine.specs.machine.PublisherUpdate.{UpdatePublisher}
use Rattle.iox2_machine.specs.machine.Records.{Publisher, Subscriber, Loan, Environment}
use Rattle.iox2_machine.specs.machine.Sends.{DeliverAndConclude, SendResult, Send, ConcludeSend, published}
use Rattle.iox2_machine.specs.machine.Sends.{with_mailboxes}
use Rattle.iox2_machine.specs.machine.State.{State, connected_publishers}
use Rattle.iox2_machine.specs.machine.Waiting.{receives_from, waiting_from}
use Rattle.iox2_machine.specs.machine.WellFormed.{IsWellFormed}
use Rattle.iox2_machine.specs.declared.errors.ConnectionFailure.{ConnectionFailure}
use Rattle.iox2_laws.specs.Sendings.{sending}
use Rattle.iox2_laws.proofs.Cases.{by_option, by_bool}
use Rattle.iox2_laws.proofs.NumberLemmas.{contains_in_append}
use Rattle.iox2_laws.proofs.PlaceLemmas.{leads_to}
use Rattle.iox2_laws.proofs.Puts.{put_at-same, put_at-other}
use Rattle.iox2_laws.proofs.UpToDate.{goes_on_subscribers, send_subscribers}
use Rattle.iox2_laws.proofs.WaitingCounts.{by_record, same_from, sum_same, sum_one_less, sum_below, waiting_for}
use Rattle.iox2_pubsub.specs.ConnectedPorts.{Connects}
use Rattle.iox2_pubsub.proofs.SendsServe.{connected-waits}
use Rattle.iox2_pubsub.proofs.ConnectionsStay.{opened-of}

module _ {T U : Type 0} where
  -- ---- a send leaves what waits from other publishers

  -- The mailboxes of all publishers but one are as they were, and the next id.
  pub record OthersLie (s s' : State T U) (p : ℕ) : Type 0 where
    pub ports : s'.next_port ≡ s.next_port
    pub lie : (i : ℕ) → i ≢ p → s'.mailboxes i ≡ s.mailboxes i

  lie-themselves : (s s' : State T U) (p : ℕ) → s' ≡ s → OthersLie s s' p
  lie-themselves s s' p same = record {
    ports = ap (λ (t : State T U). t.next_port) same;
    lie = λ i _. ap (λ (t : State T U). t.mailboxes i) same;
  }

  update-lies : (environment : Environment) (s : State T U) (p : ℕ) (s' : State T U)
      (failure : Option ConnectionFailure) → UpdatePublisher environment s p s' failure → OthersLie s s' p
  update-lies environment s p s' failure h =
      by_option (OthersLie s s' p) (s.publishers p) _ _ h (λ _ v. absurd v) (λ x _ h.
      by_bool (OthersLie s s' p) x.is_due _ _ h
      (λ _ h. record {
        ports = ap (λ (t : State T U). t.next_port) h.2;
        lie = λ i away.
            ap (λ (t : State T U). t.mailboxes i) h.2 ∙ put_at-other s.mailboxes p (h.0).mailboxes i (ne_eqb i p away);
      })
      (λ _ h. lie-themselves s s' p h.0))

  concluded-lies : (s : State T U) (p n : ℕ) (boxes : ℕ → Mailbox) (how : DeliveryEnd) (s' : State T U)
      (result : SendResult)
      → ConcludeSend (with_mailboxes (published s p n) p boxes) p n how s' result → OthersLie s s' p
  concluded-lies s p n boxes (Complete count has_failed) s' result h = record {
    ports = ap (λ (t : State T U). t.next_port) h.0;
    lie = λ i away. ap (λ (t : State T U). t.mailboxes i) h.0 ∙ put_at-other s.mailboxes p boxes i (ne_eqb i p away);
  }
  concluded-lies s p n boxes (Suspended b) s' result h = record {
    ports = ap (λ (t : State T U). t.next_port) h.0;
    lie = λ i away. ap (λ (t : State T U). t.mailboxes i) h.0 ∙ put_at-other s.mailboxes p boxes i (ne_eqb i p away);
  }

  send-lies : (environment : Environment) (s : State T U) (n : ℕ) (l : Loan T U) (s' : State T U) (result : SendResult)
      → Send environment s n l s' result → OthersLie s s' l.publisher
  send-lies environment s n l s' result h =
      by_option (OthersLie s s' l.publisher) (s.publishers l.publisher) _ _ h
      (λ _ k. record {
        ports = ap (λ (t : State T U). t.next_port) k.0;
        lie = λ i _. ap (λ (t : State T U). t.mailboxes i) k.0;
      })
      (λ x _ k.
      let first : OthersLie s k.0 l.publisher = update-lies environment s l.publisher k.0 k.1 k.2 in
      by_option (OthersLie s s' l.publisher) k.1 _ _ k.3
      (λ _ j. by_option (OthersLie s s' l.publisher) ((k.0).publishers l.publisher) _ _ j (λ _ v. absurd v) (λ y _ j.
      by_option (OthersLie s s' l.publisher) ((published k.0 l.publisher n).publishers l.publisher) _ _ j
      (λ _ v. absurd v) (λ z _ j.
      let last : OthersLie k.0 s' l.publisher = concluded-lies k.0 l.publisher n j.1 j.0 s' result j.3 in
      record { ports = last.ports ∙ first.ports; lie = λ i away. last.lie i away ∙ first.lie i away })))
      (λ e _ j. record {
        ports = ap (λ (t : State T U). t.next_port) j.0 ∙ first.ports;
        lie = λ i away. ap (λ (t : State T U). t.mailboxes i) j.0 ∙ first.lie i away;
      }))

  -- The mailboxes of all publishers but one are as they were, and the subscribers are the same.
  pub record TouchesOnly (s s' : State T U) (p : ℕ) : Type 0 where
    pub others : OthersLie s s' p
    pub subscribers : s'.subscribers ≡ s.subscribers

  pub send-touches : (environment : Environment) (s : State T U) (n : ℕ) (l : Loan T U) (s' : State T U)
      (result : SendResult) → Send environment s n l s' result → TouchesOnly s s' l.publisher
  send-touches environment s n l s' result h =
      record {
        others = send-lies environment s n l s' result h;
        subscribers = send_subscribers environment s n l s' result h;
      }

  goes-on-lies : (s : State T U) (p n : ℕ) (boxes : ℕ → Mailbox) (how : DeliveryEnd) (s' : State T U)
      (result : SendResult) → ConcludeSend (with_mailboxes s p boxes) p n how s' result → OthersLie s s' p
  goes-on-lies s p n boxes (Complete count has_failed) s' result h = record {
    ports = ap (λ (t : State T U). t.next_port) h.0;
    lie = λ i away. ap (λ (t : State T U). t.mailboxes i) h.0 ∙ put_at-other s.mailboxes p boxes i (ne_eqb i p away);
  }
  goes-on-lies s p n boxes (Suspended b) s' result h = record {
    ports = ap (λ (t : State T U). t.next_port) h.0;
    lie = λ i away. ap (λ (t : State T U). t.mailboxes i) h.0 ∙ put_at-other s.mailboxes p boxes i (ne_eqb i p away);
  }

  pub goes-on-touches : (environment : Environment) (s : State T U) (p n channel retries : ℕ) (elapsed : Duration)
      (place : ℕ) (ends : List (Option ℕ)) (count : ℕ) (has_failed : Bool) (s' : State T U)
      (result : SendResult) → DeliverAndConclude environment s p
      (sending n channel retries place ends count has_failed) elapsed s' result → TouchesOnly s s' p
  goes-on-touches environment s p n channel retries elapsed place ends count has_failed s' result h = record {
    others = by_option (OthersLie s s' p) (s.publishers p) _ _ h (λ _ v. absurd v)
        (λ x _ k. goes-on-lies s p n k.1 k.0 s' result k.3);
    subscribers = goes_on_subscribers environment s p n channel retries elapsed place ends count has_failed s' result h;
  }

  module _ (s s' : State T U) (p : ℕ) (touches : TouchesOnly s s' p) (q : ℕ) where
    -- what waits from another publisher waits as before
    pub others-wait : (i : ℕ) → i ≢ p → waiting_from s' i q ≡ waiting_from s i q
    others-wait i away = same_from s s' i q (ap (λ (f : ℕ → Option Subscriber). f q) touches.subscribers)
        (ap (λ (row : ℕ → Mailbox). (row q).waiting) (touches.others.lie i away))

    -- one more waits where one more waits from the publisher
    pub one-more-waits : p < s.next_port → suc (length (waiting_from s p q)) ≡ length (waiting_from s' p q)
        → suc (waiting_for s q) ≡ waiting_for s' q
    one-more-waits low more =
        sum_one_less (λ i. length (waiting_from s i q)) (λ i. length (waiting_from s' i q)) p s.next_port low more
        (λ i away. ap length (sym (others-wait i away)))
        ∙ ap (sum_below (λ i. length (waiting_from s' i q))) (sym touches.others.ports)

    -- and as many where as many do
    pub as-many-wait : length (waiting_from s p q) ≡ length (waiting_from s' p q) → waiting_for s q ≡ waiting_for s' q
    as-many-wait same =
        sum_same (λ i. length (waiting_from s i q)) (λ i. length (waiting_from s' i q)) s.next_port (λ i _. each i)
        ∙ ap (sum_below (λ i. length (waiting_from s' i q))) (sym touches.others.ports)
      where
        each : (i : ℕ) → length (waiting_from s i q) ≡ length (waiting_from s' i q)
        each i = elim (cases_eq i p) [
          | inl here ↦ subst (λ k. length (waiting_from s k q) ≡ length (waiting_from s' k q)) (sym here) same
          | inr away ↦ ap length (sym (others-wait i away))
        ]

  pub send-others : (environment : Environment) (s : State T U) (n : ℕ) (l : Loan T U) (s' : State T U)
      (result : SendResult) → Send environment s n l s' result
      → (i q : ℕ) → i ≢ l.publisher → waiting_from s' i q ≡ waiting_from s i q
  send-others environment s n l s' result h i q =
      others-wait s s' l.publisher (send-touches environment s n l s' result h) q i

  pub send-as-many : (environment : Environment) (s : State T U) (n : ℕ) (l : Loan T U) (s' : State T U)
      (result : SendResult) → Send environment s n l s' result
      → (q : ℕ) → length (waiting_from s l.publisher q) ≡ length (waiting_from s' l.publisher q)
      → waiting_for s q ≡ waiting_for s' q
  send-as-many environment s n l s' result h q =
      as-many-wait s s' l.publisher (send-touches environment s n l s' result h) q

-- ---- a publisher's close

undue-known : (is_open due known : Bool) → due ≡ false → (is_open && (due || known)) ≡ true → known ≡ true
undue-known true false true d e = refl
undue-known true false false d e = absurd (true≢false (sym e))
undue-known true true known d e = absurd (true≢false d)
undue-known false due known d e = absurd (true≢false (sym e))

module _ {T U : Type 0} (s : State T U) (i : ℕ) (x : Publisher) (w : IsWellFormed s) (at : s.publishers i ≡ Some x)
    (p q : ℕ) (c : Connects s p q) (undue : (c.subscriber).is_due ≡ false) where
  -- the subscriber is due afterwards, and receives all
  closed-waits : waiting_from (publisher_closed s i x) p q ≡ ((publisher_closed s i x).mailboxes p q).waiting
  closed-waits =
      by_record (publisher_closed s i x) p q (option_map {T = Subscriber} (λ z. record z { is_due = true })
      ((subscribers_pruned (publisher_gone s i x)).subscribers q)) refl
      ∙ ap (λ (o : Option Subscriber). cond (option_map_or (λ (y : Subscriber). receives_from y p)
      (option_map {T = Subscriber} {U = Subscriber} (λ z. record z { is_due = true })
      (option_map {T = Subscriber} (pruned (publisher_gone s i x) q) o)) false)
      ((publisher_closed s i x).mailboxes p q).waiting []) c.there
      ∙ ap (λ (b : Bool). cond (b && true) ((publisher_closed s i x).mailboxes p q).waiting [])
      (opened-of c.subscriber p c.receives)

  known : contains (connected_publishers c.subscriber) p ≡ true
  known = undue-known (c.subscriber).is_open (c.subscriber).is_due
      (contains (connected_publishers c.subscriber) p) undue c.receives

  -- its end to the publisher stands at the publisher's place
  end-here : p ≡ i → is_port (occupant (c.subscriber).ends x.place) i ≡ true
  end-here here = elim (contains_in_append (c.subscriber).expired (occupants (c.subscriber).ends) p known) [
    | inl expired ↦
        absurd (none-some c.publisher (sym ((w.subscribers q c.subscriber c.there).expired_gone p expired) ∙ c.stands))
    | inr stands ↦
        let end = leads_to (c.subscriber).ends p stands in
        let place : (c.publisher).place ≡ end.0 =
        subst (λ (o : Option Publisher). MatchOption o (has_numbers (s.mailboxes p q) ≡ true) (λ z. z.place ≡ end.0))
        c.stands ((w.subscribers q c.subscriber c.there).ends_stand end.0 p end.1) in
        let same : c.publisher ≡ x = same_Some c.publisher x (sym c.stands ∙ ap s.publishers here ∙ at) in
        ap (λ (o : Option ℕ). is_port o i) (ap (occupant (c.subscriber).ends)
        (ap (λ (z : Publisher). z.place) (sym same) ∙ place) ∙ end.1 ∙ ap (λ k. Some k) here) ∙ eq-eqb i i refl
  ]

  lies : (publisher_closed s i x).mailboxes p q ≡ s.mailboxes p q
  lies = elim (cases_eq p i) [
    | inl here ↦
        ap (λ k. put_at s.mailboxes i (mailbox_after_publisher s i x) k q) here
        ∙ ap (λ (row : ℕ → Mailbox). row q) (put_at-same s.mailboxes i (mailbox_after_publisher s i x))
        ∙ ap (λ (o : Option Subscriber).
        cond (option_map_or (λ (y : Subscriber). y.is_open && is_port (occupant y.ends x.place) i) o false)
        (s.mailboxes i q) (waiting_dropped (s.mailboxes i q))) c.there
        ∙ ap (λ (b : Bool). cond (b && is_port (occupant (c.subscriber).ends x.place) i) (s.mailboxes i q)
        (waiting_dropped (s.mailboxes i q))) (opened-of c.subscriber p c.receives)
        ∙ ap (λ (b : Bool). cond b (s.mailboxes i q) (waiting_dropped (s.mailboxes i q))) (end-here here)
        ∙ ap (λ k. s.mailboxes k q) (sym here)
    | inr away ↦ ap (λ (row : ℕ → Mailbox). row q)
        (put_at-other s.mailboxes i (mailbox_after_publisher s i x) p (ne_eqb p i away))
  ]

  -- the close of a publisher keeps what waits for a connected subscriber that isn't due, also its own
  pub publisher-closed-keeps : waiting_from (publisher_closed s i x) p q ≡ waiting_from s p q
  publisher-closed-keeps = closed-waits ∙ ap (λ (box : Mailbox). box.waiting) lies ∙ sym (connected-waits s p q c)
