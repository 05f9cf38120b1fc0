-- What a publisher's update and a send do to the number of messages that wait.
use Rattle.std.proofs.Common.{zero, suc, ◌≡◌, ℕ, ◌+◌, ◌≤◌, Bool, true, false, cond, ◌||◌, List, [], ◌∷◌, ◌++◌, length}
use Rattle.std.proofs.Common.{drop, refl, sym, ap, subst, ◌∙◌, arith, eqb, ◌⊎◌, inl, inr, ⊎_elim, nat_lt, Option, None}
use Rattle.std.proofs.Common.{Some, take}
use Rattle.std.proofs.lemmas.Bool.{ne_eqb, eq-eqb, eqb-true, cond_both, true≢false}
use Rattle.std.proofs.lemmas.List.{length-append, length-drop}
use Rattle.std.specs.declared.time.Duration.{Duration}
use Rattle.std.specs.Option.{option_map, option_map_or}
use Rattle.iox2_machine.specs.machine.Numbers.{put_at, contains, without, last_n, IsOnce}
use Rattle.iox2_machine.specs.machine.Places.{occupants}
use Rattle.iox2_machine.specs.machine.Mailbox.{Mailbox, waiting_count, with_appended, has_room}
use Rattle.iox2_machine.specs.machine.Records.{Loan, Publisher, Subscriber, BlockedSend, Handler, Environment}
use Rattle.iox2_machine.specs.machine.State.{State, receiving_buffer, channel_buffer, has_receiver_end, with_loan}
use Rattle.iox2_machine.specs.machine.Delivery.{PutResult, DeliveryEnd, Complete, Suspended, no_time, is_blocking}
use Rattle.iox2_machine.specs.machine.Delivery.{accepted_count, is_failed, Put, Deliver}
use Rattle.iox2_machine.specs.machine.Connections.{ForEachPlace}
use Rattle.iox2_machine.specs.machine.PublisherUpdate.{SenderSide, sender_side, history_for, UpdateSenderPlace}
use Rattle.iox2_machine.specs.machine.PublisherUpdate.{UpdatePublisher}
use Rattle.iox2_machine.specs.machine.Sends.{Send, SendToConnection, Retry, GiveUp, Publish, DeliverAndConclude}
use Rattle.iox2_machine.specs.machine.Sends.{ConcludeSend, SendResult, more_retries, with_mailboxes, published}
use Rattle.iox2_machine.specs.machine.Waiting.{receives_from, waiting_from}
use Rattle.iox2_machine.specs.machine.WellFormed.{IsWellFormed}
use Rattle.iox2_machine.specs.declared.service_config.ServiceConfig.{ServiceConfig}
use Rattle.iox2_machine.specs.declared.backpressure.BackpressureStrategy.{BackpressureStrategy}
use Rattle.iox2_machine.specs.declared.backpressure.BackpressureAction.{BackpressureAction}
use Rattle.iox2_machine.specs.declared.errors.ConnectionFailure.{ConnectionFailure}
use Rattle.iox2_laws.specs.Sendings.{sending}
use Rattle.iox2_laws.proofs.Cases.{by_option, by_bool}
use Rattle.iox2_laws.proofs.SenderSides.{in_history_for, length-history_for_le}
use Rattle.iox2_laws.proofs.Puts.{put_at-same, put_at-other, at_each}
use Rattle.iox2_laws.proofs.MailboxWalks.{sender_side_keeps, deliver_keeps}
use Rattle.iox2_laws.proofs.NumberLemmas.{length-last_n_le, contains_in_append, contains_one, contains_in_drop}
use Rattle.iox2_laws.proofs.NumberLemmas.{contains_in_last_n}
use Rattle.iox2_laws.proofs.PlaceLemmas.{IsOnce-occupants, once-behind}
use Rattle.iox2_laws.proofs.WaitingCounts.{sum_more, cond_more, cond_both_among, waiting_for}
use Rattle.iox2_laws.proofs.SendLaws.{injective_take, injective_drop}

-- ---- one publisher's mailboxes change

module _ {T U : Type 0} where
  -- where so many more wait at most in one publisher's mailbox, and the others are the same, so many more wait at most
  row_more : (s : State T U) (p : ℕ) (boxes : ℕ → Mailbox) (q more : ℕ)
      → waiting_count (boxes q) ≤ waiting_count (s.mailboxes p q) + more
      → waiting_for (with_mailboxes s p boxes) q ≤ waiting_for s q + more
  row_more s p boxes q more most =
      sum_more (λ i. length (waiting_from s' i q)) (λ i. length (waiting_from s i q)) p more s.next_port this
      (λ i away.
      let same : length (waiting_from s' i q) ≡ length (waiting_from s i q) =
      ap (λ (row : ℕ → Mailbox). length
      (cond (option_map_or (λ (y : Subscriber). receives_from y i) (s.subscribers q) false) (row q).waiting []))
      (put_at-other s.mailboxes p boxes i (ne_eqb i p away)) in
      omega arith)
    where
      s' : State T U
      s' = with_mailboxes s p boxes

      this : length (waiting_from s' p q) ≤ length (waiting_from s p q) + more
      this =
          subst (λ (row : ℕ → Mailbox).
          length (cond (option_map_or (λ (y : Subscriber). receives_from y p) (s.subscribers q) false)
          (row q).waiting []) ≤ length (waiting_from s p q) + more)
          (sym (put_at-same s.mailboxes p boxes))
          (cond_more (option_map_or (λ (y : Subscriber). receives_from y p) (s.subscribers q) false)
          (s.mailboxes p q).waiting (boxes q).waiting more most)

  -- ---- a publisher's update

  -- at most the history more
  pub update_publisher_waits : (environment : Environment) (s : State T U) (p : ℕ) (s' : State T U)
      (failure : Option ConnectionFailure) → IsWellFormed s
      → UpdatePublisher environment s p s' failure → (q : ℕ)
      → waiting_for s' q ≤ waiting_for s q + (s.config).history_size
  update_publisher_waits environment s p s' failure w h q =
      by_option (waiting_for s' q ≤ waiting_for s q + (s.config).history_size) (s.publishers p) _ _ h (λ _ v. absurd v)
      (λ x present h.
      by_bool (waiting_for s' q ≤ waiting_for s q + (s.config).history_size) x.is_due _ _ h
      (λ _ h. subst (λ (t : State T U). waiting_for t q ≤ waiting_for s q + (s.config).history_size) (sym h.2)
      (row_more s p (h.0).mailboxes q (s.config).history_size (boxes x present h.0 failure h.1)))
      (λ _ h. subst (λ (t : State T U). waiting_for t q ≤ waiting_for s q + (s.config).history_size) (sym h.0)
      (omega arith)))
    where
      boxes : (x : Publisher) → s.publishers p ≡ Some x → (side : SenderSide) (failure : Option ConnectionFailure)
          → ForEachPlace (UpdateSenderPlace environment (s.config).service_id p x.degradation_handler
          (history_for s p x) (receiving_buffer s) (has_receiver_end s p)) 0 s.subscriber_places
          (sender_side s p x) side failure
          → waiting_count (side.mailboxes q) ≤ waiting_count (s.mailboxes p q) + (s.config).history_size
      boxes x present side failure walk =
          let most : length x.history ≤ (s.config).history_size = (w.publishers p x present).history_bound in
          sender_side_keeps (λ i box. waiting_count box ≤ waiting_count (s.mailboxes p i) + (s.config).history_size)
          (λ i box less. omega arith) environment (s.config).service_id p x.degradation_handler (history_for s p x)
          (receiving_buffer s) (has_receiver_end s p) (λ i buffer box less.
          let few : length (last_n buffer (history_for s p x i)) ≤ length (history_for s p x i) =
          length-last_n_le buffer (history_for s p x i) in
          let all : length (history_for s p x i) ≤ length x.history = length-history_for_le s p x i in
          omega arith)
          s.subscriber_places (sender_side s p x) side failure (λ i. omega arith) walk q

-- ---- a delivery

-- a message that is put makes one more, or takes the oldest one's place
appended_more : (channel buffer n : ℕ) (box : Mailbox)
    → waiting_count (with_appended channel buffer n box) ≤ waiting_count box + 1
appended_more (suc k) buffer n box = omega arith
appended_more zero buffer n box =
    cond_both (has_room 0 buffer box) box.waiting (drop 1 box.waiting)
    (λ ns. length (ns ++ n ∷ []) ≤ length box.waiting + 1)
    (λ _. omega (arith, length-append box.waiting (n ∷ [])))
    (λ _. omega (arith, length-append (drop 1 box.waiting) (n ∷ []), length-drop 1 box.waiting))

-- one more at a place, and one more at those after it, but not at both
once_more : (here later : Bool) (a b c : ℕ) → (here ≡ true → later ≡ false) → b ≤ a + cond here 1 0
    → c ≤ b + cond later 1 0 → c ≤ a + cond (here || later) 1 0
once_more true true a b c apart one other = absurd (true≢false (apart refl))
once_more true false a b c apart one other = omega arith
once_more false true a b c apart one other = omega arith
once_more false false a b c apart one other = omega arith

module _ (environment : Environment) (c : ServiceConfig) (p : ℕ) (strategy : BackpressureStrategy)
    (handler : Option (Handler BackpressureAction))
    (buffers : ℕ → Option ℕ) (n channel : ℕ) where
  put_more : (q retries : ℕ) (elapsed : Duration) (buffer : Option ℕ) (box : Mailbox) (result : PutResult)
      (box' : Mailbox)
      → Put environment c p strategy handler buffers n channel q retries elapsed buffer box result box'
      → waiting_count box' ≤ waiting_count box + 1
  put_more q retries elapsed None box result box' h =
      subst (λ (b : Mailbox). waiting_count b ≤ waiting_count box + 1) (sym h.1) (omega arith)
  put_more q retries elapsed (Some buffer) box result box' h =
      by_bool (waiting_count box' ≤ waiting_count box + 1) (has_room channel buffer box || c.enable_safe_overflow) _ _ h
      (λ _ k. subst (λ (b : Mailbox). waiting_count b ≤ waiting_count box + 1) (sym k.1)
      (appended_more channel buffer n box))
      (λ _ k. subst (λ (b : Mailbox). waiting_count b ≤ waiting_count box + 1) (sym k.1) (omega arith))

  deliver_more : (retries : ℕ) (elapsed : Duration) (place : ℕ) (ends : List (Option ℕ)) (count : ℕ) (has_failed : Bool)
      (boxes : ℕ → Mailbox)
      (how : DeliveryEnd) (boxes' : ℕ → Mailbox) → IsOnce (occupants ends)
      → Deliver environment c p strategy handler buffers n channel retries elapsed place ends count has_failed boxes how
      boxes'
      → (q : ℕ) → waiting_count (boxes' q) ≤ waiting_count (boxes q) + cond (contains (occupants ends) q) 1 0
  deliver_more retries elapsed place [] count has_failed boxes how boxes' once h q =
      subst (λ (bs : ℕ → Mailbox). waiting_count (bs q) ≤ waiting_count (boxes q) + 0) (sym h.1) (omega arith)
  deliver_more retries elapsed place (None ∷ rest) count has_failed boxes how boxes' once h q =
      let here : h.1 ≡ boxes = (h.2).1 in
      by_bool (waiting_count (boxes' q) ≤ waiting_count (boxes q) + cond (contains (occupants rest) q) 1 0)
      (is_blocking h.0) _ _ h.3
      (λ _ k. subst (λ (bs : ℕ → Mailbox). waiting_count (bs q) ≤ waiting_count (boxes q) + cond
      (contains (occupants rest) q) 1 0) (sym (k.1 ∙ here)) (omega arith))
      (λ _ k. subst (λ (bs : ℕ → Mailbox).
      waiting_count (boxes' q) ≤ waiting_count (bs q) + cond (contains (occupants rest) q) 1 0) here
      (deliver_more 0 no_time (place + 1) rest (count + accepted_count h.0)
      (has_failed || is_failed h.0) h.1 how boxes' once k q))
  deliver_more retries elapsed place (Some r ∷ rest) count has_failed boxes how boxes' once h q =
      let box : Mailbox = (h.2).0 in
      let mid : h.1 ≡ put_at boxes r box = (h.2).2 in
      let one : waiting_count box ≤ waiting_count (boxes r) + 1 =
      put_more r retries elapsed (buffers r) (boxes r) h.0 box (h.2).1 in
      let put : waiting_count (put_at boxes r box q) ≤ waiting_count (boxes q) + cond (eqb r q) 1 0 =
      at_each boxes r box (λ i b. waiting_count b ≤ waiting_count (boxes i) + cond (eqb r i) 1 0) q
      (λ _. subst (λ (t : Bool). waiting_count box ≤ waiting_count (boxes r) + cond t 1 0) (sym (eq-eqb r r refl)) one)
      (λ _. omega arith) in
      let here : waiting_count (h.1 q) ≤ waiting_count (boxes q) + cond (eqb r q) 1 0 =
      subst (λ (bs : ℕ → Mailbox). waiting_count (bs q) ≤ waiting_count (boxes q) + cond (eqb r q) 1 0) (sym mid) put in
      once_more (eqb r q) (contains (occupants rest) q) (waiting_count (boxes q)) (waiting_count (h.1 q))
      (waiting_count (boxes' q))
      (λ same. ap (contains (occupants rest)) (sym (eqb-true r q same)) ∙ once.0)
      here
      (by_bool (waiting_count (boxes' q) ≤ waiting_count (h.1 q) + cond (contains (occupants rest) q) 1 0)
      (is_blocking h.0) _ _ h.3
      (λ _ k. subst (λ (bs : ℕ → Mailbox). waiting_count (bs q) ≤ waiting_count (h.1 q) + cond
      (contains (occupants rest) q) 1 0) (sym k.1) (omega arith))
      (λ _ k. deliver_more 0 no_time (place + 1) rest (count + accepted_count h.0)
      (has_failed || is_failed h.0) h.1 how boxes' once.1 k q))

-- ---- a send

at_most_one : (b : Bool) → cond b 1 0 ≤ 1
at_most_one true = omega arith
at_most_one false = omega arith

module _ {T U : Type 0} where
  concluded_waits : (s : State T U) (p n : ℕ) (how : DeliveryEnd) (s' : State T U) (result : SendResult)
      → ConcludeSend s p n how s' result → (q : ℕ) → waiting_for s' q ≡ waiting_for s q
  concluded_waits s p n (Complete count has_failed) s' result h q = ap (λ (t : State T U). waiting_for t q) h.0
  concluded_waits s p n (Suspended b) s' result h q = ap (λ (t : State T U). waiting_for t q) h.0

  -- the publisher has the same ends afterwards
  concluded_ends : (s : State T U) (p n : ℕ) (boxes : ℕ → Mailbox) (how : DeliveryEnd) (s' : State T U)
      (result : SendResult) (x : Publisher)
      → s.publishers p ≡ Some x → ConcludeSend (with_mailboxes (published s p n) p boxes) p n how s' result
      → (x' : Publisher) × (s'.publishers p ≡ Some x') × (x'.ends ≡ x.ends)
  concluded_ends s p n boxes how s' result x present h = at how h where
    kept : (published s p n).publishers p ≡ Some
        (record x { history = last_n (s.config).history_size (x.history ++ n ∷ []) })
    kept =
        put_at-same s.publishers p _
        ∙ ap (option_map {T = Publisher} {U = Publisher}
        (λ x. record x { history = last_n (s.config).history_size (x.history ++ n ∷ []) })) present

    at : (how : DeliveryEnd) → ConcludeSend (with_mailboxes (published s p n) p boxes) p n how s' result
        → (x' : Publisher) × (s'.publishers p ≡ Some x') × (x'.ends ≡ x.ends)
    at (Complete count has_failed) h = (
      _,
      ap (λ (t : State T U). t.publishers p) h.0 ∙ put_at-same (published s p n).publishers p _
          ∙ ap (option_map {T = Publisher} {U = Publisher}
          (λ x. record x { loans = without n x.loans; blocked = None })) kept,
      refl,
    )
    at (Suspended b) h = (
      _,
      ap (λ (t : State T U). t.publishers p) h.0 ∙ put_at-same (published s p n).publishers p _
          ∙ ap (option_map {T = Publisher} {U = Publisher} (λ x. record x { blocked = Some b })) kept,
      refl,
    )

  -- at most one more
  publish_waits : (environment : Environment) (s : State T U) (p n : ℕ) (s' : State T U) (result : SendResult)
      → IsWellFormed s' → Publish environment s p n s' result
      → (q : ℕ) → waiting_for s' q ≤ waiting_for s q + 1
  publish_waits environment s p n s' result w h q =
      by_option (waiting_for s' q ≤ waiting_for s q + 1) (s.publishers p) _ _ h (λ _ v. absurd v) (λ x present h.
      by_option (waiting_for s' q ≤ waiting_for s q + 1) ((published s p n).publishers p) _ _ h (λ _ v. absurd v)
      (λ z _ h.
      let mid : State T U = published s p n in
      let after = concluded_ends s p n h.1 h.0 s' result x present h.3 in
      let few : waiting_count (h.1 q) ≤ waiting_count (s.mailboxes p q) + cond (contains (occupants x.ends) q) 1 0 =
      deliver_more environment s.config p z.backpressure_strategy z.backpressure_handler
      (channel_buffer mid p 0) n 0 0 no_time 0 x.ends 0 false (s.mailboxes p) h.0 h.1
      (subst (λ ends. IsOnce (occupants ends)) after.2
      (IsOnce-occupants (after.0).ends (w.publishers p after.0 after.1).ends_apart)) h.2 q in
      let one : cond (contains (occupants x.ends) q) 1 0 ≤ 1 = at_most_one (contains (occupants x.ends) q) in
      let rows : waiting_for (with_mailboxes mid p h.1) q ≤ waiting_for mid q + 1 =
      row_more mid p h.1 q 1 (omega arith) in
      let same : waiting_for s' q ≡ waiting_for (with_mailboxes mid p h.1) q =
      concluded_waits (with_mailboxes mid p h.1) p n h.0 s' result h.3 q in
      omega arith))

  -- at most the history, and one
  pub send_waits : (environment : Environment) (s : State T U) (n : ℕ) (l : Loan T U) (s' : State T U)
      (result : SendResult) → IsWellFormed s → IsWellFormed s' → Send environment s n l s' result
      → (q : ℕ) → waiting_for s' q ≤ waiting_for s q + ((s.config).history_size + 1)
  send_waits environment s n l s' result w w' h q =
      by_option (waiting_for s' q ≤ waiting_for s q + ((s.config).history_size + 1)) (s.publishers l.publisher) _ _ h
      (λ _ k. let same : waiting_for s' q ≡ waiting_for s q = ap (λ (t : State T U). waiting_for t q) k.0 in
      omega arith)
      (λ x _ k.
      let first : waiting_for k.0 q ≤ waiting_for s q + (s.config).history_size =
      update_publisher_waits environment s l.publisher k.0 k.1 w k.2 q in
      by_option (waiting_for s' q ≤ waiting_for s q + ((s.config).history_size + 1)) k.1 _ _ k.3
      (λ _ j. let last : waiting_for s' q ≤ waiting_for k.0 q
      + 1 = publish_waits environment k.0 l.publisher n s' result w' j q in omega arith)
      (λ e _ j. let same : waiting_for s' q ≡ waiting_for k.0 q = ap (λ (t : State T U). waiting_for t q) j.0 in
      omega arith))

-- ---- a blocked send that goes on

module _ {T U : Type 0} where
  goes_on_waits : (environment : Environment) (s : State T U) (p n channel retries : ℕ) (elapsed : Duration) (place : ℕ)
      (ends : List (Option ℕ)) (count : ℕ) (has_failed : Bool) (s' : State T U)
      (result : SendResult) → IsOnce (occupants ends)
      → DeliverAndConclude environment s p (sending n channel retries place ends count has_failed) elapsed s' result
      → (q : ℕ) → waiting_for s' q ≤ waiting_for s q + 1
  goes_on_waits environment s p n channel retries elapsed place ends count has_failed s' result once h q =
      by_option (waiting_for s' q ≤ waiting_for s q + 1) (s.publishers p) _ _ h (λ _ v. absurd v) (λ x _ k.
      let few : waiting_count (k.1 q) ≤ waiting_count (s.mailboxes p q) + cond (contains (occupants ends) q) 1 0 =
      deliver_more environment s.config p x.backpressure_strategy x.backpressure_handler
      (channel_buffer s p channel) n channel retries elapsed place ends count has_failed
      (s.mailboxes p) k.0 k.1 once k.2 q in
      let one : cond (contains (occupants ends) q) 1 0 ≤ 1 = at_most_one (contains (occupants ends) q) in
      let rows : waiting_for (with_mailboxes s p k.1) q ≤ waiting_for s q + 1 = row_more s p k.1 q 1 (omega arith) in
      let same : waiting_for s' q ≡ waiting_for (with_mailboxes s p k.1) q =
      concluded_waits (with_mailboxes s p k.1) p n k.0 s' result k.3 q in
      omega arith)

  -- each receiver that remains stands once
  remain_once : (s : State T U) (p : ℕ) (x : Publisher) (b : BlockedSend) → IsWellFormed s → s.publishers p ≡ Some x
      → x.blocked ≡ Some b → IsOnce (occupants b.ends)
  remain_once s p x b w stands waits =
      let port = w.publishers p x stands in
      let from = (port.blocked b waits).ends in
      subst (λ (ends : List (Option ℕ)). IsOnce (occupants ends)) (sym from.1)
      (IsOnce-occupants (take from.0 (drop b.place x.ends))
      (injective_take from.0 (drop b.place x.ends) (injective_drop b.place x.ends port.ends_apart)))

  -- at most one more, since those that took the message aren't served again
  pub retry_adds : (environment : Environment) (s : State T U) (p : ℕ) (x : Publisher) (b : BlockedSend)
      (elapsed : Duration) (s' : State T U) (result : SendResult) → IsWellFormed s
      → s.publishers p ≡ Some x → x.blocked ≡ Some b → Retry environment s p b elapsed s' result → (q : ℕ)
      → waiting_for s' q ≤ waiting_for s q + 1
  retry_adds environment s p x b elapsed s' result w stands waits =
      goes_on_waits environment s p b.message b.channel (more_retries b.retries) elapsed b.place b.ends b.count
      b.has_failed s' result (remain_once s p x b w stands waits)

  pub give_up_adds : (environment : Environment) (s : State T U) (p : ℕ) (x : Publisher) (b : BlockedSend)
      (s' : State T U) (result : SendResult) → IsWellFormed s
      → s.publishers p ≡ Some x → x.blocked ≡ Some b → GiveUp environment s p b s' result → (q : ℕ)
      → waiting_for s' q ≤ waiting_for s q + 1
  give_up_adds environment s p x b s' result w stands waits =
      goes_on_waits environment s p b.message b.channel 0 no_time (b.place + 1)
      (drop 1 b.ends) b.count b.has_failed s' result (once-behind 1 b.ends (remain_once s p x b w stands waits))

  -- a send to one connection adds no more, and nothing at any other
  pub send_to_connection_adds : (environment : Environment) (s : State T U) (n : ℕ) (l : Loan T U) (channel place : ℕ)
      (s' : State T U) (result : SendResult) → IsWellFormed s
      → SendToConnection environment s n l channel place s' result → (q : ℕ) → waiting_for s' q ≤ waiting_for s q + 1
  send_to_connection_adds environment s n l channel place s' result w h q =
      by_option (waiting_for s' q ≤ waiting_for s q + 1) (s.publishers l.publisher) _ _ h
      (λ _ k. let same : waiting_for s' q ≡ waiting_for s q = ap (λ (t : State T U). waiting_for t q) k.0 in
      omega arith)
      (λ x here k.
      goes_on_waits environment (with_loan s n None) l.publisher n channel 0 no_time place
      (take 1 (drop place x.ends)) 0 false s' result
      (IsOnce-occupants (take 1 (drop place x.ends))
      (injective_take 1 (drop place x.ends) (injective_drop place x.ends (w.publishers l.publisher x here).ends_apart)))
      k q)

-- ---- which messages a send adds, where no history is kept

none_in : (ns : List ℕ) (k : ℕ) → length ns ≤ 0 → contains ns k ≡ true → ⊥
none_in [] k none at = true≢false (sym at)
none_in (n ∷ ns) k none at = omega arith

-- what waits after a message was put is that one, or waited
appended_among : (buffer n : ℕ) (ns : List ℕ) (k : ℕ)
    → contains (cond (nat_lt (length ns) buffer) ns (drop 1 ns) ++ n ∷ []) k ≡ true → (k ≡ n) ⊎ (contains ns k ≡ true)
appended_among buffer n ns k at =
    cond_both (nat_lt (length ns) buffer) ns (drop 1 ns)
    (λ ms. contains (ms ++ n ∷ []) k ≡ true → (k ≡ n) ⊎ (contains ns k ≡ true))
    (λ _ at.
    ⊎_elim (λ there. inr there) (λ here. inl (sym (contains_one n k here))) (contains_in_append ns (n ∷ []) k at))
    (λ _ at. ⊎_elim (λ there. inr (contains_in_drop 1 ns k there)) (λ here. inl (sym (contains_one n k here)))
    (contains_in_append (drop 1 ns) (n ∷ []) k at)) at

module _ {T U : Type 0} where
  -- in one publisher's mailboxes
  row_among : (s : State T U) (p : ℕ) (boxes : ℕ → Mailbox) (R : ℕ → Type 0) (i q k : ℕ)
      → (contains (boxes q).waiting k ≡ true → R k ⊎ (contains (s.mailboxes p q).waiting k ≡ true))
      → contains (waiting_from (with_mailboxes s p boxes) i q) k ≡ true → R k ⊎ (contains (waiting_from s i q) k ≡ true)
  row_among s p boxes R i q k each =
      at_each s.mailboxes p boxes
      (λ j row. contains (cond (option_map_or (λ (y : Subscriber). receives_from y j) (s.subscribers q) false)
      (row q).waiting []) k ≡ true → R k ⊎ (contains (waiting_from s j q) k ≡ true)) i
      (λ _. cond_both_among (option_map_or (λ (y : Subscriber). receives_from y p) (s.subscribers q) false)
      (s.mailboxes p q).waiting (boxes q).waiting (R k) k each)
      (λ _ at. inr at)

  update_publisher_among : (environment : Environment) (s : State T U) (p : ℕ) (s' : State T U)
      (failure : Option ConnectionFailure) → IsWellFormed s → (s.config).history_size ≡ 0
      → UpdatePublisher environment s p s' failure → (i q k : ℕ) → contains (waiting_from s' i q) k ≡ true
      → contains (waiting_from s i q) k ≡ true
  update_publisher_among environment s p s' failure w no_history h i q k at =
      by_option Before (s.publishers p) _ _ h (λ _ v. absurd v) (λ x present h.
      by_bool Before x.is_due _ _ h
      (λ _ h. ⊎_elim (λ no. absurd no) (λ yes. yes)
      (row_among s p (h.0).mailboxes (λ _. ⊥) i q k (λ old. inr (boxes x present h.0 failure h.1 old))
      (ap (λ (t : State T U). contains (waiting_from t i q) k) (sym h.2) ∙ at)))
      (λ _ h. ap (λ (t : State T U). contains (waiting_from t i q) k) (sym h.0) ∙ at))
    where
      Before : Type 0
      Before = contains (waiting_from s i q) k ≡ true

      boxes : (x : Publisher) → s.publishers p ≡ Some x → (side : SenderSide) (failure : Option ConnectionFailure)
          → ForEachPlace (UpdateSenderPlace environment (s.config).service_id p x.degradation_handler
          (history_for s p x) (receiving_buffer s) (has_receiver_end s p)) 0 s.subscriber_places
          (sender_side s p x) side failure
          → contains (side.mailboxes q).waiting k ≡ true → contains (s.mailboxes p q).waiting k ≡ true
      boxes x present side failure walk =
          let most : length x.history ≤ (s.config).history_size = (w.publishers p x present).history_bound in
          let none : length x.history ≤ 0 = omega arith in
          sender_side_keeps (λ j box. contains box.waiting k ≡ true → contains (s.mailboxes p j).waiting k ≡ true)
          (λ j box old at. absurd (true≢false (sym at))) environment (s.config).service_id p x.degradation_handler
          (history_for s p x)
          (receiving_buffer s) (has_receiver_end s p)
          (λ j buffer box old at. absurd (none_in x.history k none
          (in_history_for s p x j k (contains_in_last_n buffer (history_for s p x j) k at))))
          s.subscriber_places (sender_side s p x) side failure (λ j at. at) walk q

  publish_among : (environment : Environment) (s : State T U) (p n : ℕ) (s' : State T U) (result : SendResult)
      → Publish environment s p n s' result
      → (i q k : ℕ) → contains (waiting_from s' i q) k ≡ true → (k ≡ n) ⊎ (contains (waiting_from s i q) k ≡ true)
  publish_among environment s p n s' result h i q k at =
      by_option After (s.publishers p) _ _ h (λ _ v. absurd v) (λ x present h.
      by_option After ((published s p n).publishers p) _ _ h (λ _ v. absurd v) (λ z _ h.
      let mid : State T U = published s p n in
      let rows : (j : ℕ) → contains (h.1 j).waiting k ≡ true → (k ≡ n) ⊎ (contains (s.mailboxes p j).waiting k ≡ true) =
      (deliver_keeps (λ j box. contains box.waiting k ≡ true → (k ≡ n) ⊎ (contains (s.mailboxes p j).waiting k ≡ true))
      (λ j box old at. absurd (true≢false (sym at)))
      environment s.config p z.backpressure_strategy z.backpressure_handler (channel_buffer mid p 0) n 0
      (λ j buffer box old at. ⊎_elim (λ new. inl new) old (appended_among buffer n box.waiting k at)) 0 no_time 0 x.ends
      0 false (s.mailboxes p) h.0 h.1 (λ j at. inr at) h.2).0 in
      row_among mid p h.1 (λ m. m ≡ n) i q k (rows q)
      (sym (concluded_from (with_mailboxes mid p h.1) p n h.0 s' result h.3 i q k) ∙ at)))
    where
      After : Type 0
      After = (k ≡ n) ⊎ (contains (waiting_from s i q) k ≡ true)

      concluded_from : (t : State T U) (p n : ℕ) (how : DeliveryEnd) (s' : State T U) (result : SendResult)
          → ConcludeSend t p n how s' result
          → (i q k : ℕ) → contains (waiting_from s' i q) k ≡ contains (waiting_from t i q) k
      concluded_from t p n (Complete count has_failed) s' result h i q k =
          ap (λ (u : State T U). contains (waiting_from u i q) k) h.0
      concluded_from t p n (Suspended b) s' result h i q k = ap (λ (u : State T U). contains (waiting_from u i q) k) h.0

  -- what waits after a send is the message, or waited
  pub send_among : (environment : Environment) (s : State T U) (n : ℕ) (l : Loan T U) (s' : State T U)
      (result : SendResult) → IsWellFormed s → (s.config).history_size ≡ 0
      → Send environment s n l s' result → (i q k : ℕ) → contains (waiting_from s' i q) k ≡ true
      → (k ≡ n) ⊎ (contains (waiting_from s i q) k ≡ true)
  send_among environment s n l s' result w no_history h i q k at =
      by_option After (s.publishers l.publisher) _ _ h
      (λ _ j. inr (ap (λ (t : State T U). contains (waiting_from t i q) k) (sym j.0) ∙ at))
      (λ x _ j.
      let first : contains (waiting_from j.0 i q) k ≡ true → contains (waiting_from s i q) k ≡ true =
      update_publisher_among environment s l.publisher j.0 j.1 w no_history j.2 i q k in
      by_option After j.1 _ _ j.3
      (λ _ m. ⊎_elim (λ new. inl new) (λ old. inr (first old))
      (publish_among environment j.0 l.publisher n s' result m i q k at))
      (λ e _ m. inr (first (ap (λ (t : State T U). contains (waiting_from t i q) k) (sym m.0) ∙ at))))
    where
      After : Type 0
      After = (k ≡ n) ⊎ (contains (waiting_from s i q) k ≡ true)
