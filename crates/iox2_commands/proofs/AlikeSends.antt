-- Deliveries that never wait, and sends from two states that look alike to a subscriber.
use Rattle.std.proofs.Common.{◌≡◌, ℕ, ◌+◌, Bool, true, false, cond, ◌||◌, List, [], ◌∷◌, ◌++◌, refl, sym, ap, subst}
use Rattle.std.proofs.Common.{◌∙◌, Option, None, Some, eqb, take, drop}
use Rattle.std.specs.Option.{option_map}
use Rattle.std.specs.declared.time.Duration.{Duration}
use Rattle.std.proofs.lemmas.Bool.{eqb-true, true≢false}
use Rattle.std.proofs.lemmas.Option.{same_Some}
use Rattle.iox2_machine.specs.machine.Numbers.{put_at, without, last_n}
use Rattle.iox2_machine.specs.machine.Mailbox.{Mailbox, has_room, with_appended}
use Rattle.iox2_machine.specs.machine.Records.{Loan, Publisher, Handler, Fixed, Custom, Environment}
use Rattle.iox2_machine.specs.machine.State.{State, channel_buffer, with_loan}
use Rattle.iox2_machine.specs.machine.Delivery.{PutResult, Accepted, Skipped, Failed, Would_block, by_action}
use Rattle.iox2_machine.specs.machine.Delivery.{by_strategy, accepted_count, is_failed, is_blocking, DeliveryEnd}
use Rattle.iox2_machine.specs.machine.Delivery.{Complete, Decides, Put, Deliver, no_time}
use Rattle.iox2_machine.specs.machine.Loans.{loan_discarded, entry_of}
use Rattle.iox2_machine.specs.machine.Sends.{SendResult, Delivered_to, Send_error, published, send_ended, ConcludeSend}
use Rattle.iox2_machine.specs.machine.Sends.{with_mailboxes, DeliverAndConclude, Publish, Send, SendToConnection}
use Rattle.iox2_machine.specs.declared.service_config.ServiceConfig.{ServiceConfig}
use Rattle.iox2_machine.specs.declared.backpressure.BackpressureStrategy.{BackpressureStrategy}
use Rattle.iox2_machine.specs.declared.backpressure.BackpressureAction.{BackpressureAction}
use Rattle.iox2_machine.specs.declared.backpressure.BackpressureInfo.{BackpressureInfo}
use Rattle.iox2_machine.specs.declared.errors.SendError.TheVariants.{ConnectionBrokenSinceSenderNoLongerExists}
use Rattle.iox2_machine.specs.declared.errors.SendError.TheVariants.{ConnectionError}
use Rattle.iox2_laws.specs.Laws.{Advances}
use Rattle.iox2_laws.proofs.Cases.{by_option, by_bool, by_options}
use Rattle.iox2_laws.proofs.Puts.{put_at-same}
use Rattle.iox2_laws.proofs.PublisherUpdates.{update_publisher_changes, update_publisher_advances}
use Rattle.iox2_machine.specs.machine.Environments.{ample_memory}
use Rattle.iox2_laws.specs.Sendings.{sending}
use Rattle.iox2_commands.specs.Isolation.{is_skipped, is_discarding, never_waits, IsIndependentPublisher}
use Rattle.iox2_commands.specs.Step.{after_send}
use Rattle.iox2_commands.proofs.AlikeViews.{View, view_of, row_put, own_buffer, own_buffer_seen}
use Rattle.iox2_commands.proofs.AlikeUpdates.{update_publisher_alike}
use Rattle.iox2_commands.proofs.AlikeReceives.{IsAlike, alike_equal}

-- ---- one receiver

-- A receiver's mailbox after a message was put there.
abbrev put_box : ServiceConfig → (n channel : ℕ) → (buffer : Option ℕ) → Mailbox → Mailbox
put_box c n channel None box = box
put_box c n channel (Some buffer) box =
    cond (has_room channel buffer box || c.enable_safe_overflow) (with_appended channel buffer n box) box

-- without room and overflow, the message is discarded
discards : (room overflow discarding : Bool) → (room || overflow) ≡ false → (overflow || discarding) ≡ true
    → discarding ≡ true
discards true overflow discarding e f = absurd (true≢false e)
discards false true discarding e f = absurd (true≢false e)
discards false false discarding e f = f

-- a result that says skipped
skipped : (result : PutResult) → is_skipped result ≡ true → result ≡ Skipped
skipped Accepted e = absurd (true≢false (sym e))
skipped Skipped e = refl
skipped Failed e = absurd (true≢false (sym e))
skipped Would_block e = absurd (true≢false (sym e))

-- it is decided that the message is skipped
decided : (environment : Environment) (p : ℕ) (handler : Option (Handler BackpressureAction))
    (strategy : BackpressureStrategy) (info : BackpressureInfo) (result : PutResult)
    → is_discarding strategy handler ≡ true → Decides environment p handler strategy info result → result ≡ Skipped
decided environment p None strategy info result d h = h ∙ skipped (by_strategy strategy) d
decided environment p (Some (Fixed action)) strategy info result d h = h ∙ skipped (by_action strategy action) d
decided environment p (Some Custom) strategy info result d h = absurd (true≢false (sym d))

-- The mailbox of q after a delivery at these ends: it depends on that mailbox, its buffer and the message alone.
abbrev pub deliver_box : ServiceConfig → (n channel : ℕ) → (buffer : Option ℕ) → (q : ℕ) → List (Option ℕ) → Mailbox
    → Mailbox
deliver_box c n channel buffer q [] box = box
deliver_box c n channel buffer q (None ∷ rest) box = deliver_box c n channel buffer q rest box
deliver_box c n channel buffer q (Some r ∷ rest) box =
    deliver_box c n channel buffer q rest (cond (eqb q r) (put_box c n channel buffer box) box)

-- the mailbox of q where the message is put into that of r
put_seen : (c : ServiceConfig) (n channel : ℕ) (buffers : ℕ → Option ℕ) (q r : ℕ) (boxes : ℕ → Mailbox)
    → put_at boxes r (put_box c n channel (buffers r) (boxes r)) q ≡ cond (eqb q r)
    (put_box c n channel (buffers q) (boxes q)) (boxes q)
put_seen c n channel buffers q r boxes =
    elim (eqb q r) as (λ b. eqb q r ≡ b → cond b (put_box c n channel (buffers r) (boxes r)) (boxes q) ≡ cond b
    (put_box c n channel (buffers q) (boxes q)) (boxes q)) [
      | true ↦ λ t. ap (λ k. put_box c n channel (buffers k) (boxes k)) (sym (eqb-true q r t))
      | false ↦ λ _. refl
    ] refl

module _ (environment : Environment) (c : ServiceConfig) (p : ℕ) (strategy : BackpressureStrategy)
    (handler : Option (Handler BackpressureAction)) (buffers : ℕ → Option ℕ) (n channel : ℕ)
    (independent : never_waits c strategy handler ≡ true) where
  -- the message went in or past, and what became of the mailbox
  abbrev Went : PutResult → Mailbox → Mailbox → Type 0
  Went result box box' = (is_blocking result ≡ false) × (is_failed result ≡ false) × (box' ≡ box)

  put_is : (q retries : ℕ) (elapsed : Duration) (buffer : Option ℕ) (box : Mailbox) (result : PutResult)
      (box' : Mailbox)
      → Put environment c p strategy handler buffers n channel q retries elapsed buffer box result box'
      → Went result (put_box c n channel buffer box) box'
  put_is q retries elapsed None box result box' h = (ap is_blocking h.0, ap is_failed h.0, h.1)
  put_is q retries elapsed (Some buffer) box result box' h =
      by_bool (Went result (put_box c n channel (Some buffer) box) box')
      (has_room channel buffer box || c.enable_safe_overflow) _ _ h
      (λ t h. (
        ap is_blocking h.0,
        ap is_failed h.0,
        h.1 ∙ ap (λ (b : Bool). cond b (with_appended channel buffer n box) box) (sym t),
      ))
      (λ f h.
      let off : is_discarding strategy handler ≡ true = discards (has_room channel buffer box) c.enable_safe_overflow
      (is_discarding strategy handler) f independent in
      let past : result ≡ Skipped = decided environment p handler strategy _ result off h.0 in (
        ap is_blocking past,
        ap is_failed past,
        h.1 ∙ ap (λ (b : Bool). cond b (with_appended channel buffer n box) box) (sym f),
      ))

  -- A delivery that never waits reaches all receivers.
  pub deliver_is : (q retries : ℕ) (elapsed : Duration) (place : ℕ) (ends : List (Option ℕ)) (count : ℕ) (failed : Bool)
      (boxes : ℕ → Mailbox) (how : DeliveryEnd) (boxes' : ℕ → Mailbox) → failed ≡ false
      → Deliver environment c p strategy handler buffers n channel retries elapsed place ends count failed boxes how
      boxes'
      → (total : ℕ) × (how ≡ Complete total false) × (boxes' q ≡ deliver_box c n channel (buffers q) q ends (boxes q))
  deliver_is q retries elapsed place [] count failed boxes how boxes' f h =
      (count, h.0 ∙ ap (λ (b : Bool). Complete count b) f, ap (λ (g : ℕ → Mailbox). g q) h.1)
  deliver_is q retries elapsed place (None ∷ rest) count failed boxes how boxes' f h =
      by_bool ((total : ℕ) × (how ≡ Complete total false)
      × (boxes' q ≡ deliver_box c n channel (buffers q) q rest (boxes q))) (is_blocking h.0) _ _ h.3
      (λ t _. absurd (true≢false (sym t ∙ ap is_blocking (h.2).0)))
      (λ _ k.
      let failed' : (failed || is_failed h.0) ≡ false = (λ i. f i || is_failed ((h.2).0 i)) in
      let there : (total : ℕ) × (how ≡ Complete total false)
      × (boxes' q ≡ deliver_box c n channel (buffers q) q rest (h.1 q)) =
      deliver_is q 0 no_time (place + 1) rest (count + accepted_count h.0)
      (failed || is_failed h.0) h.1 how boxes' failed' k in
      (there.0, there.1, there.2 ∙ ap (λ (g : ℕ → Mailbox). deliver_box c n channel (buffers q) q rest (g q)) (h.2).1))
  deliver_is q retries elapsed place (Some r ∷ rest) count failed boxes how boxes' f h =
      let put : Went h.0 (put_box c n channel (buffers r) (boxes r)) (h.2).0 =
      put_is r retries elapsed (buffers r) (boxes r) h.0 (h.2).0 (h.2).1 in
      by_bool ((total : ℕ) × (how ≡ Complete total false)
      × (boxes' q ≡ deliver_box c n channel (buffers q) q (Some r ∷ rest) (boxes q))) (is_blocking h.0) _ _ h.3
      (λ t _. absurd (true≢false (sym t ∙ put.0)))
      (λ _ k.
      let failed' : (failed || is_failed h.0) ≡ false = (λ i. f i || put.1 i) in
      let there : (total : ℕ) × (how ≡ Complete total false)
      × (boxes' q ≡ deliver_box c n channel (buffers q) q rest (h.1 q)) =
      deliver_is q 0 no_time (place + 1) rest (count + accepted_count h.0)
      (failed || is_failed h.0) h.1 how boxes' failed' k in
      let mid : h.1 q ≡ cond (eqb q r) (put_box c n channel (buffers q) (boxes q)) (boxes q) =
      ap (λ (g : ℕ → Mailbox). g q) (h.2).2 ∙ ap (λ (box : Mailbox). put_at boxes r box q) put.2
      ∙ put_seen c n channel buffers q r boxes in
      (there.0, there.1, there.2 ∙ ap (deliver_box c n channel (buffers q) q rest) mid))

module _ {T U : Type 0} (q : ℕ) where
  -- ---- whole sends

  -- The view after a delivery at these ends.
  abbrev pub delivered_view : (p n channel : ℕ) → List (Option ℕ) → View T U → View T U
  delivered_view p n channel ends v = record v {
    publishers = put_at v.publishers p
        (option_map (λ (x : Publisher). record x { loans = without n x.loans; blocked = None }) (v.publishers p));
    mailboxes = put_at v.mailboxes p (deliver_box v.config n channel (own_buffer q p channel v) q ends (v.mailboxes p));
  }

  -- The view after a message was published.
  abbrev pub published_view : (p n : ℕ) → View T U → View T U
  published_view p n v = record v {
    loans = put_at v.loans n None;
    publishers =
        put_at v.publishers p (option_map (λ (x : Publisher).
        record x { history = last_n (v.config).history_size (x.history ++ n ∷ []) }) (v.publishers p));
  }

  mailboxes_seen : (s : State T U) (p n : ℕ) (boxes : ℕ → Mailbox) (box : Mailbox) → boxes q ≡ box
      → view_of q (send_ended (with_mailboxes s p boxes) p n) ≡ record (view_of q s) {
        publishers = put_at s.publishers p
            (option_map (λ (x : Publisher). record x { loans = without n x.loans; blocked = None }) (s.publishers p));
        mailboxes = put_at (λ k. s.mailboxes k q) p box;
      }
  mailboxes_seen s p n boxes box e =
      (λ i. record (view_of q s) {
        publishers = put_at s.publishers p
            (option_map (λ (x : Publisher). record x { loans = without n x.loans; blocked = None }) (s.publishers p));
        mailboxes = λ k. row_put q s.mailboxes p boxes k i;
      })
      ∙ (λ i. record (view_of q s) {
        publishers = put_at s.publishers p
            (option_map (λ (x : Publisher). record x { loans = without n x.loans; blocked = None }) (s.publishers p));
        mailboxes = put_at (λ k. s.mailboxes k q) p (e i);
      })

  -- What a delivery comes to.
  pub delivered : (s s' : State T U) (p n channel retries : ℕ) (elapsed : Duration) (place : ℕ) (ends : List (Option ℕ))
      (count : ℕ) (x : Publisher) (result : SendResult)
      → s.publishers p ≡ Some x → never_waits s.config x.backpressure_strategy x.backpressure_handler ≡ true
      → DeliverAndConclude ample_memory s p (sending n channel retries place ends count false) elapsed s' result
      → (total : ℕ) × (result ≡ Delivered_to total) × (view_of q s' ≡ delivered_view p n channel ends (view_of q s))
  delivered s s' p n channel retries elapsed place ends count x result e independent h =
      by_option ((total : ℕ) × (result ≡ Delivered_to total)
      × (view_of q s' ≡ delivered_view p n channel ends (view_of q s))) (s.publishers p) _ _ h (λ _ v. absurd v)
      (λ z f h.
      let same : z ≡ x = same_Some z x (sym f ∙ e) in
      let end : (total : ℕ) × (h.0 ≡ Complete total false)
      × (h.1 q ≡ deliver_box s.config n channel (channel_buffer s p channel q) q ends (s.mailboxes p q)) =
      deliver_is ample_memory s.config p z.backpressure_strategy z.backpressure_handler
      (channel_buffer s p channel) n channel
      (subst (λ (y : Publisher). never_waits s.config y.backpressure_strategy y.backpressure_handler ≡ true)
      (sym same) independent)
      q retries elapsed place ends count false (s.mailboxes p) h.0 h.1 refl h.2 in
      let concluded : (s' ≡ send_ended (with_mailboxes s p h.1) p n) × (result ≡ Delivered_to end.0) =
      subst (λ (how : DeliveryEnd). ConcludeSend (with_mailboxes s p h.1) p n how s' result) end.1 h.3 in
      let buffer : channel_buffer s p channel q ≡ own_buffer q p channel (view_of q s) =
      own_buffer_seen s p channel q in (
        end.0,
        concluded.1,
        ap (view_of q) concluded.0
            ∙ mailboxes_seen s p n h.1 _
            (end.2 ∙ ap (λ (b : Option ℕ). deliver_box s.config n channel b q ends (s.mailboxes p q)) buffer),
      ))

  -- what a publication comes to
  pub publish_is : (s s' : State T U) (p n : ℕ) (x : Publisher) (result : SendResult)
      → s.publishers p ≡ Some x → never_waits s.config x.backpressure_strategy x.backpressure_handler ≡ true
      → Publish ample_memory s p n s' result
      → (total : ℕ) × (result ≡ Delivered_to total)
      × (view_of q s' ≡ delivered_view p n 0 x.ends (published_view p n (view_of q s)))
  publish_is s s' p n x result e independent h =
      by_option ((total : ℕ) × (result ≡ Delivered_to total)
      × (view_of q s' ≡ delivered_view p n 0 x.ends (published_view p n (view_of q s)))) (s.publishers p) _ _ h
      (λ _ v. absurd v) (λ z f h.
      let same : z ≡ x = same_Some z x (sym f ∙ e) in
      let x' : Publisher = record x { history = last_n (s.config).history_size (x.history ++ n ∷ []) } in
      let there : (published s p n).publishers p ≡ Some x' =
      put_at-same s.publishers p _ ∙ ap (option_map {T = Publisher} {U = Publisher}
      (λ x. record x { history = last_n (s.config).history_size (x.history ++ n ∷ []) })) e in
      delivered (published s p n) s' p n 0 0 no_time 0 x.ends 0 x' result there independent
      (subst (λ (y : Publisher). DeliverAndConclude ample_memory (published s p n) p
      (sending n 0 0 0 y.ends 0 false) no_time s' result) same h))

  -- a loan is given back in both
  pub loan_discarded_alike : (a b : State T U) (n : ℕ) (l : Loan T U) → view_of q a ≡ view_of q b
      → view_of q (loan_discarded a n l) ≡ view_of q (loan_discarded b n l)
  loan_discarded_alike a b n l e = λ i. record (e i) {
    loans = put_at (e i).loans n None;
    publishers = put_at (e i).publishers l.publisher
        (option_map (λ (x : Publisher). record x { loans = without n x.loans }) ((e i).publishers l.publisher));
  }

  -- two sends of the same loan
  pub send_alike : (a b a' b' : State T U) (n : ℕ) (l : Loan T U) (result result' : SendResult)
      → view_of q a ≡ view_of q b
      → ((x : Publisher) → a.publishers l.publisher ≡ Some x → IsIndependentPublisher a.config x)
      → Send ample_memory a n l a' result → Send ample_memory b n l b' result'
      → IsAlike q (after_send a' l.publisher n (entry_of l) result) (after_send b' l.publisher n (entry_of l) result')
  send_alike a b a' b' n l result result' e independent h k =
      let p : ℕ = l.publisher in
      let Goal : Type 0 = IsAlike q (after_send a' p n (entry_of l) result) (after_send b' p n (entry_of l) result') in
      by_options Goal (a.publishers p) (b.publishers p) _ _ _ _ (ap (λ (v : View T U). v.publishers p) e) h k
      (λ _ h k. alike_equal q _ (after_send (with_loan a n None) p n (entry_of l)
      (Send_error ConnectionBrokenSinceSenderNoLongerExists)) _
      (after_send (with_loan b n None) p n (entry_of l) (Send_error ConnectionBrokenSinceSenderNoLongerExists))
      (λ i. after_send (h.0 i) p n (entry_of l) (h.1 i)) (λ i. after_send (k.0 i) p n (entry_of l) (k.1 i))
      (record { state = λ i. record (e i) { loans = put_at (e i).loans n None }; event = refl; handle = refl }))
      (λ x found h k.
      let updated : (view_of q h.0 ≡ view_of q k.0) × (h.1 ≡ k.1) =
      update_publisher_alike q a b h.0 k.0 p h.1 k.1 e h.2 k.2 in
      by_options Goal h.1 k.1 _ _ _ _ updated.1 h.3 k.3
      (λ _ j m.
      let changed : (ends : List (Option ℕ)) × (due : Bool)
      × ((h.0).publishers p ≡ Some (record x { ends = ends; is_due = due })) =
      update_publisher_changes ample_memory a p h.0 h.1 x found h.2 in
      let stays : Advances a h.0 = update_publisher_advances ample_memory a p h.0 h.1 h.2 in
      let x' : Publisher = record x { ends = changed.0; is_due = changed.1 } in
      let independent_a : never_waits (h.0).config x'.backpressure_strategy x'.backpressure_handler ≡ true =
      subst (λ (c : ServiceConfig). never_waits c x.backpressure_strategy x.backpressure_handler ≡ true)
      (sym stays.config) (independent x found).never_waits in
      let independent_b : never_waits (k.0).config x'.backpressure_strategy x'.backpressure_handler ≡ true =
      subst (λ (v : View T U). never_waits v.config x.backpressure_strategy x.backpressure_handler ≡ true) updated.0
      independent_a in
      let found_b : (k.0).publishers p ≡ Some x' = ap (λ (v : View T U). v.publishers p) (sym updated.0) ∙ changed.2 in
      let one : (total : ℕ) × (result ≡ Delivered_to total)
      × (view_of q a' ≡ delivered_view p n 0 x'.ends (published_view p n (view_of q h.0))) =
      publish_is h.0 a' p n x' result changed.2 independent_a j in
      let two : (total : ℕ) × (result' ≡ Delivered_to total)
      × (view_of q b' ≡ delivered_view p n 0 x'.ends (published_view p n (view_of q k.0))) =
      publish_is k.0 b' p n x' result' found_b independent_b m in
      alike_equal q _ (after_send a' p n (entry_of l) (Delivered_to one.0)) _
      (after_send b' p n (entry_of l) (Delivered_to two.0))
      (ap (after_send a' p n (entry_of l)) one.1) (ap (after_send b' p n (entry_of l)) two.1)
      (record {
        state = one.2 ∙ ap (λ v. delivered_view p n 0 x'.ends (published_view p n v)) updated.0 ∙ sym two.2;
        event = refl;
        handle = refl;
      }))
      (λ failure _ j m. alike_equal q _ (after_send (loan_discarded h.0 n l) p n (entry_of l)
      (Send_error (ConnectionError failure))) _
      (after_send (loan_discarded k.0 n l) p n (entry_of l) (Send_error (ConnectionError failure)))
      (λ i. after_send (j.0 i) p n (entry_of l) (j.1 i)) (λ i. after_send (m.0 i) p n (entry_of l) (m.1 i))
      (record { state = loan_discarded_alike h.0 k.0 n l updated.0; event = refl; handle = refl })))

  -- The view after a loan left its user's hands and went to the connection at that place of x.
  abbrev pub sent_there_view : (p n channel place : ℕ) → Publisher → View T U → View T U
  sent_there_view p n channel place x v =
      delivered_view p n channel (take 1 (drop place x.ends)) (record v { loans = put_at v.loans n None })

  -- two sends of the same loan to one connection
  pub connection_alike : (a b a' b' : State T U) (n : ℕ) (l : Loan T U) (channel place : ℕ)
      (result result' : SendResult) → view_of q a ≡ view_of q b
      → ((x : Publisher) → a.publishers l.publisher ≡ Some x → IsIndependentPublisher a.config x)
      → SendToConnection ample_memory a n l channel place a' result
      → SendToConnection ample_memory b n l channel place b' result'
      → IsAlike q (after_send a' l.publisher n (entry_of l) result) (after_send b' l.publisher n (entry_of l) result')
  connection_alike a b a' b' n l channel place result result' e independent h k =
      let p : ℕ = l.publisher in
      let Goal : Type 0 = IsAlike q (after_send a' p n (entry_of l) result) (after_send b' p n (entry_of l) result') in
      by_options Goal (a.publishers p) (b.publishers p) _ _ _ _ (ap (λ (v : View T U). v.publishers p) e) h k
      (λ _ h k. alike_equal q _ (after_send (with_loan a n None) p n (entry_of l)
      (Send_error ConnectionBrokenSinceSenderNoLongerExists)) _
      (after_send (with_loan b n None) p n (entry_of l) (Send_error ConnectionBrokenSinceSenderNoLongerExists))
      (λ i. after_send (h.0 i) p n (entry_of l) (h.1 i)) (λ i. after_send (k.0 i) p n (entry_of l) (k.1 i))
      (record { state = λ i. record (e i) { loans = put_at (e i).loans n None }; event = refl; handle = refl }))
      (λ x found h k.
      let waits_not : never_waits a.config x.backpressure_strategy x.backpressure_handler ≡ true =
      (independent x found).never_waits in
      let waits_not' : never_waits b.config x.backpressure_strategy x.backpressure_handler ≡ true =
      subst
      (λ (v : View T U). never_waits v.config x.backpressure_strategy x.backpressure_handler ≡ true) e waits_not in
      let found' : b.publishers p ≡ Some x = ap (λ (v : View T U). v.publishers p) (sym e) ∙ found in
      let one : (total : ℕ) × (result ≡ Delivered_to total)
      × (view_of q a' ≡ sent_there_view p n channel place x (view_of q a)) =
      delivered (with_loan a n None) a' p n channel 0 no_time place
      (take 1 (drop place x.ends)) 0 x result found waits_not h in
      let two : (total : ℕ) × (result' ≡ Delivered_to total)
      × (view_of q b' ≡ sent_there_view p n channel place x (view_of q b)) =
      delivered (with_loan b n None) b' p n channel 0 no_time place
      (take 1 (drop place x.ends)) 0 x result' found' waits_not' k in
      alike_equal q _ (after_send a' p n (entry_of l) (Delivered_to one.0)) _
      (after_send b' p n (entry_of l) (Delivered_to two.0))
      (ap (after_send a' p n (entry_of l)) one.1) (ap (after_send b' p n (entry_of l)) two.1)
      (record { state = one.2 ∙ ap (sent_there_view p n channel place x) e ∙ sym two.2; event = refl; handle = refl }))
