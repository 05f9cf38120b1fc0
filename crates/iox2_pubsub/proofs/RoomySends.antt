-- Where each subscriber has room, no send waits and no handler is asked of full buffers.
use Rattle.std.proofs.Common.{◌≡◌, ℕ, ◌+◌, ◌≤◌, ◌<◌, ◌||◌, Bool, true, false, cond, List, [], ◌∷◌, length, refl, sym}
use Rattle.std.proofs.Common.{ap, subst, ◌∙◌, arith, ⊎_elim, Option, None, Some, Result, Ok, Err}
use Rattle.std.specs.Prelude.{◌≢◌, IfErr, IfOk}
use Rattle.std.specs.Option.{option_and_then}
use Rattle.std.specs.declared.time.Duration.{Duration}
use Rattle.std.proofs.lemmas.Bool.{true≢false, cond_both, lt-ltb, ne_eqb}
use Rattle.std.proofs.lemmas.List.{length-map}
use Rattle.std.proofs.lemmas.Option.{none-some, same_Some}
use Rattle.iox2_machine.specs.machine.Channel.{is_closed}
use Rattle.iox2_machine.specs.machine.Delivery.{Deliver, DeliveryEnd, Complete, PutResult, Put, accepted_count}
use Rattle.iox2_machine.specs.machine.Delivery.{is_blocking, is_failed, no_time}
use Rattle.iox2_machine.specs.machine.Mailbox.{Mailbox, has_room}
use Rattle.iox2_machine.specs.machine.Numbers.{contains, last_n}
use Rattle.iox2_machine.specs.machine.Places.{occupants}
use Rattle.iox2_machine.specs.machine.PublisherUpdate.{UpdatePublisher, history_for, sender_side}
use Rattle.iox2_machine.specs.machine.Records.{Environment, Handler, Loan, Subscriber}
use Rattle.iox2_machine.specs.machine.Sends.{Send, SendResult, Blocked_send, Send_error, published, with_mailboxes}
use Rattle.iox2_machine.specs.machine.State.{State, Messages, channel_buffer, has_receiver_end, is_blocked}
use Rattle.iox2_machine.specs.machine.State.{receiving_buffer}
use Rattle.iox2_machine.specs.machine.Waiting.{waiting_from}
use Rattle.iox2_machine.specs.machine.WellFormed.{IsWellFormed}
use Rattle.iox2_machine.specs.declared.backpressure.BackpressureAction.{BackpressureAction}
use Rattle.iox2_machine.specs.declared.backpressure.BackpressureStrategy.{BackpressureStrategy}
use Rattle.iox2_machine.specs.declared.errors.ConnectionFailure.{ConnectionFailure}
use Rattle.iox2_machine.specs.declared.errors.SendError.{SendError}
use Rattle.iox2_machine.specs.declared.errors.SendError.TheVariants.{ConnectionBrokenSinceSenderNoLongerExists}
use Rattle.iox2_machine.specs.declared.errors.SendError.TheVariants.{ConnectionError, UnableToDeliver}
use Rattle.iox2_machine.specs.declared.service_config.ServiceConfig.{ServiceConfig}
use Rattle.iox2_laws.proofs.Cases.{by_option, by_bool}
use Rattle.iox2_laws.proofs.MailboxWalks.{sender_side_keeps}
use Rattle.iox2_laws.proofs.NumberLemmas.{contains_in_cons, contains_first, contains_later, length-last_n_le}
use Rattle.iox2_laws.proofs.PlaceLemmas.{IsOnce-occupants}
use Rattle.iox2_laws.proofs.PublisherUpdates.{update_publisher_keeps}
use Rattle.iox2_laws.proofs.Puts.{put_at-same, put_at-other}
use Rattle.iox2_laws.proofs.UpToDate.{update_publisher_subscribers}
use Rattle.iox2_machine.specs.machine.Numbers.{IsOnce}
use Rattle.iox2_domain.specs.Kept.{Kept, entries_of, state_of}
use Rattle.iox2_domain.specs.Shows.{Shows}
use Rattle.iox2_pubsub.specs.ConnectedPorts.{Connects}
use Rattle.iox2_pubsub.specs.Live.{HasItsBuffer, IsConnected, WaitingStays, payloads_from}
use Rattle.iox2_pubsub.specs.Payloads.{payload_of}
use Rattle.iox2_pubsub.specs.RoomyPublishers.{HasRoomAlone, HasRoomAt, HasRoomAtAll, HasRoomAtEach, HasRoomForAll}
use Rattle.iox2_pubsub.specs.RoomyPublishers.{IsRoomy}
use Rattle.iox2_pubsub.specs.SendCalls.{IsDelivered, result_of_send}
use Rattle.iox2_pubsub.specs.declared.send_outcome.SendOutcome.{SendOutcome}
use Rattle.iox2_pubsub.specs.declared.send_outcome.SendOutcome.TheVariants.{Delivered, Blocked}
use Rattle.iox2_pubsub.specs.declared.subscriber.Subscriber.{Subscriber as Handle}
use Rattle.iox2_pubsub.proofs.ConnectedSends.{update-publisher-connected}
use Rattle.iox2_pubsub.proofs.FullDomains.{ids_of, no-other}
use Rattle.iox2_pubsub.proofs.LiveParts.{buffer-parts}
use Rattle.iox2_pubsub.proofs.SendsServe.{connected-waits}
use Rattle.iox2_pubsub.proofs.UpToDateShown.{connected-in}
use Rattle.iox2_pubsub.proofs.WaitingShown.{payloads-from-are}
use Rattle.iox2_pubsub.proofs.OverflowSends.{IsUnhindered, concludes-unhindered}

-- The message went past no receiver that could have failed or blocked its send.
abbrev HasPassed : PutResult → Type 0
HasPassed result = (is_blocking result ≡ false) × (is_failed result ≡ false)

module _ (environment : Environment) (c : ServiceConfig) (p : ℕ) (strategy : BackpressureStrategy)
    (handler : Option (Handler BackpressureAction)) (buffers : ℕ → Option ℕ) (n : ℕ) where
  -- Each receiver at these ends that takes messages has room.
  abbrev HaveRoom : List (Option ℕ) → (ℕ → Mailbox) → Type 0
  HaveRoom ends boxes =
      (q buffer : ℕ) → contains (occupants ends) q ≡ true → buffers q ≡ Some buffer → has_room 0 buffer (boxes q) ≡ true

  put-roomy : (q retries : ℕ) (elapsed : Duration) (buffer : Option ℕ) (box : Mailbox) (result : PutResult)
      (box' : Mailbox) → ((b : ℕ) → buffer ≡ Some b → has_room 0 b box ≡ true)
      → Put environment c p strategy handler buffers n 0 q retries elapsed buffer box result box' → HasPassed result
  put-roomy q retries elapsed None box result box' room h = (ap is_blocking h.0, ap is_failed h.0)
  put-roomy q retries elapsed (Some buffer) box result box' room h =
      by_bool (HasPassed result) (has_room 0 buffer box || c.enable_safe_overflow) _ _ h
      (λ _ k. (ap is_blocking k.0, ap is_failed k.0))
      (λ full _. absurd (true≢false (sym (ap (λ b. b || c.enable_safe_overflow) (room buffer refl)) ∙ full)))

  -- a delivery that had not failed reaches all receivers, and fails at none
  pub delivery-roomy : (retries : ℕ) (elapsed : Duration) (place : ℕ) (ends : List (Option ℕ)) (count : ℕ)
      (has_failed : Bool) (boxes : ℕ → Mailbox) (how : DeliveryEnd) (boxes' : ℕ → Mailbox)
      → has_failed ≡ false → IsOnce (occupants ends) → HaveRoom ends boxes
      → Deliver environment c p strategy handler buffers n 0 retries elapsed place ends count has_failed boxes how
      boxes' → (took : ℕ) × (how ≡ Complete took false)
  delivery-roomy retries elapsed place [] count has_failed boxes how boxes' so_far once room h =
      (count, h.0 ∙ ap (Complete count) so_far)
  delivery-roomy retries elapsed place (None ∷ rest) count has_failed boxes how boxes' so_far once room h =
      by_bool ((took : ℕ) × (how ≡ Complete took false)) (is_blocking h.0) _ _ h.3
      (λ blocks _. absurd (true≢false (sym blocks ∙ ap is_blocking (h.2).0)))
      (λ _ k. delivery-roomy 0 no_time (place + 1) rest (count + accepted_count h.0)
      (has_failed || is_failed h.0) h.1 how boxes'
      (neither has_failed (is_failed h.0) so_far (ap is_failed (h.2).0)) once
      (subst (HaveRoom rest) (sym (h.2).1) room) k)
    where
      neither : (a b : Bool) → a ≡ false → b ≡ false → (a || b) ≡ false
      neither true b e e' = absurd cc
      neither false b e e' = e'
  delivery-roomy retries elapsed place (Some r ∷ rest) count has_failed boxes how boxes' so_far once room h =
      let passed = put-roomy r retries elapsed (buffers r) (boxes r) h.0 (h.2).0
      (λ buffer opened. room r buffer (contains_first r (occupants rest)) opened) (h.2).1 in
      by_bool ((took : ℕ) × (how ≡ Complete took false)) (is_blocking h.0) _ _ h.3
      (λ blocks _. absurd (true≢false (sym blocks ∙ passed.0)))
      (λ _ k. delivery-roomy 0 no_time (place + 1) rest (count + accepted_count h.0)
      (has_failed || is_failed h.0) h.1 how boxes' (neither has_failed (is_failed h.0) so_far passed.1) once.1
      (subst (HaveRoom rest) (sym (h.2).2) (λ q buffer at opened.
      let apart : (q ≡ r → ⊥) = λ same. true≢false (sym at ∙ ap (contains (occupants rest)) same ∙ once.0) in
      ap (λ (box : Mailbox). has_room 0 buffer box) (put_at-other boxes r (h.2).0 q (ne_eqb q r apart))
      ∙ room q buffer (contains_later r q (occupants rest) at) opened)) k)
    where
      neither : (a b : Bool) → a ≡ false → b ≡ false → (a || b) ≡ false
      neither true b e e' = absurd cc
      neither false b e e' = e'

module _ {T U : Type 0} (environment : Environment) (s : State T U) (w : IsWellFormed s) (p : ℕ)
    (roomy : HasRoomForAll s p) where
  -- Each subscriber has room in that state.
  abbrev RoomIn : State T U → Type 0
  RoomIn t = (q : ℕ) (y : Subscriber) → s.subscribers q ≡ Some y → y.is_open ≡ true
      → length (t.mailboxes p q).waiting < y.buffer

  -- an update hands out at most the history
  updated-roomy : (mid : State T U) (failure : Option ConnectionFailure) → UpdatePublisher environment s p mid failure
      → RoomIn mid
  updated-roomy mid failure h =
      by_option (RoomIn mid) (s.publishers p) _ _ h (λ _ v. absurd v) (λ x present h.
      by_bool (RoomIn mid) x.is_due _ _ h
      (λ _ h. subst RoomIn (sym h.2) (λ q y here is.
      let Good : ℕ → Mailbox → Type 0 =
      λ i box. (z : Subscriber) → s.subscribers i ≡ Some z → z.is_open ≡ true → length box.waiting < z.buffer in
      let good = sender_side_keeps
      (λ i box. (z : Subscriber) → s.subscribers i ≡ Some z → z.is_open ≡ true → length box.waiting < z.buffer)
      (λ i box before z at opened. let some : length box.waiting < z.buffer = before z at opened in omega (arith, some))
      environment (s.config).service_id p x.degradation_handler (history_for s p x) (receiving_buffer s)
      (has_receiver_end s p)
      (λ i buffer box before z at opened.
      let part : length (last_n buffer (history_for s p x i)) ≤ length (history_for s p x i) =
      length-last_n_le buffer (history_for s p x i) in
      let all : length (history_for s p x i) ≤ (s.config).history_size =
      cond_both (is_closed (s.channels p i 0)) [] x.history (λ (ns : List ℕ). length ns ≤ (s.config).history_size)
      (λ _. omega arith) (λ _. (w.publishers p x present).history_bound) in
      let fits : (s.config).history_size < z.buffer = (roomy i z at opened).0 in
      omega (arith, part, all, fits))
      s.subscriber_places (sender_side s p x) h.0 failure (λ i z at opened. (roomy i z at opened).1) h.1 q y here is in
      subst (λ (row : ℕ → Mailbox). length (row q).waiting < y.buffer)
      (sym (put_at-same s.mailboxes p (h.0).mailboxes)) good))
      (λ _ h. subst RoomIn (sym h.0) (λ q y here is. (roomy q y here is).1)))

-- who takes messages is open, and has this buffer
pub opened-is : {T U : Type 0} (s : State T U) (p q buffer : ℕ) → channel_buffer s p 0 q ≡ Some buffer
    → (y : Subscriber) × (s.subscribers q ≡ Some y) × (y.is_open ≡ true) × (y.buffer ≡ buffer)
opened-is s p q buffer opened = channel (is_closed (s.channels p q 0)) opened where
  receiver : (o : Option Subscriber) → s.subscribers q ≡ o
      → option_and_then (λ (y : Subscriber). cond y.is_open (Some y.buffer) None) o ≡ Some buffer
      → (y : Subscriber) × (s.subscribers q ≡ Some y) × (y.is_open ≡ true) × (y.buffer ≡ buffer)
  receiver None at is = absurd (none-some buffer is)
  receiver (Some y) at is = by y.is_open refl is where
    by : (b : Bool) → y.is_open ≡ b → cond b (Some y.buffer) None ≡ Some buffer
        → (z : Subscriber) × (s.subscribers q ≡ Some z) × (z.is_open ≡ true) × (z.buffer ≡ buffer)
    by true e is = (y, at, e, same_Some y.buffer buffer is)
    by false e is = absurd (none-some buffer is)

  channel : (closed : Bool) → cond closed None (receiving_buffer s q) ≡ Some buffer
      → (y : Subscriber) × (s.subscribers q ≡ Some y) × (y.is_open ≡ true) × (y.buffer ≡ buffer)
  channel true is = absurd (none-some buffer is)
  channel false is = receiver (s.subscribers q) refl is

-- Each subscriber has room once the publisher p has updated.
abbrev RoomyUpdates : {T U : Type 0} → Environment → State T U → (p : ℕ) → Type 0
RoomyUpdates {T} {U} environment s p = (mid : State T U) (failure : Option ConnectionFailure)
    → UpdatePublisher environment s p mid failure → (q : ℕ) (y : Subscriber) → s.subscribers q ≡ Some y
    → y.is_open ≡ true
    → length (mid.mailboxes p q).waiting < y.buffer

-- a send where each subscriber has room
roomy-send : {T U : Type 0} (environment : Environment) (s : State T U) → IsWellFormed s
    → (n : ℕ) (l : Loan T U) (s' : State T U) (result : SendResult) → is_blocked s l.publisher ≡ false
    → RoomyUpdates environment s l.publisher → Send environment s n l s' result → IsUnhindered result
roomy-send {T} {U} environment s w n l s' result free roomy h =
    by_option (IsUnhindered result) (s.publishers l.publisher) _ _ h
    (λ _ k. (
      λ no.
          absurd (let clash : Send_error ConnectionBrokenSinceSenderNoLongerExists ≡ Blocked_send = sym k.1 ∙ no in cc),
      λ no. absurd (let clash : Send_error ConnectionBrokenSinceSenderNoLongerExists
          ≡ Send_error UnableToDeliver = sym k.1 ∙ no in cc),
    ))
    (λ x _ k.
    by_option (IsUnhindered result) k.1 _ _ k.3
    (λ _ j. by_option (IsUnhindered result) ((k.0).publishers l.publisher) _ _ j (λ _ v. absurd v) (λ x1 at i.
    by_option (IsUnhindered result) ((published k.0 l.publisher n).publishers l.publisher) _ _ i (λ _ v. absurd v)
    (λ x2 _ d.
    let mid : State T U = published k.0 l.publisher n in
    let after : IsWellFormed k.0 = update_publisher_keeps environment s l.publisher k.0 k.1 w free k.2 in
    let ended = delivery-roomy environment mid.config l.publisher x2.backpressure_strategy x2.backpressure_handler
    (channel_buffer mid l.publisher 0) n 0 no_time 0 x1.ends 0 false (mid.mailboxes l.publisher) d.0 d.1 refl
    (IsOnce-occupants x1.ends (after.publishers l.publisher x1 at).ends_apart)
    (λ q buffer _ opened.
    let it = opened-is k.0 l.publisher q buffer opened in
    let here : s.subscribers q ≡ Some it.0 = ap (λ (f : ℕ → Option Subscriber). f q)
    (sym (update_publisher_subscribers environment s l.publisher k.0 k.1 k.2)) ∙ it.1 in
    let room : length ((k.0).mailboxes l.publisher q).waiting < (it.0).buffer = roomy k.0 k.1 k.2 q it.0 here it.2 in
    lt-ltb _ _ (subst (λ (b : ℕ). length ((k.0).mailboxes l.publisher q).waiting < b) it.3 room)) d.2 in
    concludes-unhindered environment
    (with_mailboxes mid l.publisher d.1) l.publisher n d.0 s' result ended.0 ended.1 d.3)))
    (λ e _ j. (
      λ no. absurd (let clash : Send_error (ConnectionError e) ≡ Blocked_send = sym j.1 ∙ no in cc),
      λ no. absurd (let clash : Send_error (ConnectionError e) ≡ Send_error UnableToDeliver = sym j.1 ∙ no in cc),
    )))

module _ {T U F G : Type 0} (kept : Kept T U F G) (m : Messages T U) (s : State T U) (shown : Shows kept m s) where
  roomy-in : (publisher : ℕ) → IsRoomy kept publisher → HasRoomForAll s publisher
  unfolding IsRoomy
  roomy-in publisher is = subst (λ (t : State T U). HasRoomForAll t publisher) (sym shown.state) is

  pub roomy-free : (environment : Environment) (n : ℕ) (l : Loan T U) (publisher : ℕ) → l.publisher ≡ publisher
      → is_blocked (state_of kept) publisher ≡ false → IsRoomy kept publisher → (s' : State T U) (result : SendResult)
      → Send environment s n l s' result
      → IsUnhindered result
  roomy-free environment n l publisher its free is s' result h =
      let unblocked : is_blocked s l.publisher ≡ false =
      ap (λ (t : State T U). is_blocked t l.publisher) shown.state ∙ ap (is_blocked (state_of kept)) its ∙ free in
      let everywhere : HasRoomForAll s l.publisher = subst (HasRoomForAll s) (sym its) (roomy-in publisher is) in
      roomy-send environment s shown.well_formed n l s' result unblocked
      (updated-roomy environment s shown.well_formed l.publisher everywhere) h

-- ---- a domain that has all subscribers that it allows

module _ {T U F G : Type 0} (kept : Kept T U F G) (m : Messages T U) (s : State T U) (shown : Shows kept m s)
    (publisher : ℕ) where
  -- one that is connected is there
  connected-there : (subscribers : List Handle) → HasRoomAtEach kept publisher subscribers → (q : ℕ)
      → contains (ids_of subscribers) q ≡ true → (y : Subscriber) × (s.subscribers q ≡ Some y)
  connected-there [] each q at = absurd (true≢false (sym at))
  connected-there (subscriber ∷ others) each q at =
      ⊎_elim
      (λ same. let c = connected-in kept m s shown publisher subscriber (each.0).connected in
      (c.subscriber, ap s.subscribers (sym same) ∙ c.there))
      (λ later. connected-there others each.1 q later)
      (contains_in_cons subscriber.id q (ids_of others) at)

  room-at : (subscriber : Handle) → HasRoomAt kept publisher subscriber → (y : Subscriber)
      → s.subscribers subscriber.id ≡ Some y → length (s.mailboxes publisher subscriber.id).waiting < y.buffer
  room-at subscriber has y here =
      let c : Connects s publisher subscriber.id = connected-in kept m s shown publisher subscriber has.connected in
      let there : (state_of kept).subscribers subscriber.id ≡ Some y =
      ap (λ (t : State T U). t.subscribers subscriber.id) (sym shown.state) ∙ here in
      let size : y.buffer ≡ subscriber.buffer_size = (buffer-parts kept subscriber has.buffer).1 y there in
      let some : length (payloads_from kept publisher subscriber) < subscriber.buffer_size = has.room in
      let wait : length (payloads_from kept publisher subscriber) ≡ length
      (s.mailboxes publisher subscriber.id).waiting =
      ap length (payloads-from-are kept publisher subscriber)
      ∙ length-map (waiting_from (state_of kept) publisher subscriber.id) (payload_of (entries_of kept))
      ∙ ap (λ (t : State T U). length (waiting_from t publisher subscriber.id)) (sym shown.state)
      ∙ ap length (connected-waits s publisher subscriber.id c) in
      omega (arith, wait, some, size)

  module _ (environment : Environment) (mid : State T U) (failure : Option ConnectionFailure)
      (updates : UpdatePublisher environment s publisher mid failure) where
    -- an update hands nothing to one that is connected
    updated-at : (subscriber : Handle) → HasRoomAt kept publisher subscriber → (q : ℕ) → subscriber.id ≡ q
        → (y : Subscriber) → s.subscribers q ≡ Some y → length (mid.mailboxes publisher q).waiting < y.buffer
    updated-at subscriber has q its y here =
        let c : Connects s publisher subscriber.id = connected-in kept m s shown publisher subscriber has.connected in
        let same : mid.mailboxes publisher subscriber.id ≡ s.mailboxes publisher subscriber.id =
        (update-publisher-connected environment s shown.well_formed publisher subscriber.id c publisher mid failure
        updates).1 in
        subst (λ (i : ℕ). length (mid.mailboxes publisher i).waiting < y.buffer) its
        (subst (λ (box : Mailbox). length box.waiting < y.buffer) (sym same)
        (room-at subscriber has y (ap s.subscribers its ∙ here)))

    updated-at-each : (subscribers : List Handle) → HasRoomAtEach kept publisher subscribers → (q : ℕ)
        → contains (ids_of subscribers) q ≡ true → (y : Subscriber) → s.subscribers q ≡ Some y
        → length (mid.mailboxes publisher q).waiting < y.buffer
    updated-at-each [] each q at y here = absurd (true≢false (sym at))
    updated-at-each (subscriber ∷ others) each q at y here =
        ⊎_elim (λ same. updated-at subscriber each.0 q same y here)
        (λ later. updated-at-each others each.1 q later y here) (contains_in_cons subscriber.id q (ids_of others) at)

  -- where there is room at all, no send is hindered
  pub all-free : (environment : Environment) (n : ℕ) (l : Loan T U) → l.publisher ≡ publisher
      → is_blocked (state_of kept) publisher ≡ false → (subscribers : List Handle)
      → HasRoomAtAll kept publisher subscribers
      → (s' : State T U) (result : SendResult) → Send environment s n l s' result → IsUnhindered result
  all-free environment n l its free subscribers has s' result h =
      let unblocked : is_blocked s l.publisher ≡ false =
      ap (λ (t : State T U). is_blocked t l.publisher) shown.state ∙ ap (is_blocked (state_of kept)) its ∙ free in
      let full : (s.config).max_subscribers ≤ length subscribers =
      subst (λ (t : State T U). (t.config).max_subscribers ≤ length subscribers) (sym shown.state) has.full in
      let roomy : RoomyUpdates environment s publisher = λ mid failure updates q y here is.
      updated-at-each environment mid failure updates subscribers has.each q
      (no-other s shown.well_formed subscribers has.different full (connected-there subscribers has.each) q y here) y
      here in
      roomy-send environment s shown.well_formed n l s' result unblocked
      (subst (RoomyUpdates environment s) (sym its) roomy) h

  -- nor where the one that there may be has
  pub alone-free : (environment : Environment) (n : ℕ) (l : Loan T U) → l.publisher ≡ publisher
      → is_blocked (state_of kept) publisher ≡ false → (subscriber : Handle) → HasRoomAlone kept publisher subscriber
      → (s' : State T U) (result : SendResult) → Send environment s n l s' result → IsUnhindered result
  alone-free environment n l its free subscriber has = all-free environment n l its free (subscriber ∷ []) (record {
    different = (tt, tt);
    full = let one : (kept.config).max_subscribers ≡ 1 = has.alone in omega (arith, one);
    each = (record { connected = has.connected; buffer = has.buffer; room = has.room }, tt);
  })

-- it is so after a call that leaves this
pub alone-since : {T U F G : Type 0} {old mid : Kept T U F G} → WaitingStays old mid → mid.config ≡ old.config
    → ((it : Handle) → HasItsBuffer old it → HasItsBuffer mid it)
    → (p lender : ℕ) → lender ≡ p → (subscriber : Handle) → IsConnected mid lender subscriber
    → HasRoomAlone old p subscriber → HasRoomAlone mid lender subscriber
alone-since {T} {U} {F} {G} {old} {mid} waits settings buffers p lender its subscriber connected has = record {
  alone = ap (λ (c : ServiceConfig). c.max_subscribers) settings ∙ has.alone;
  connected = connected;
  buffer = buffers subscriber has.buffer;
  room = subst (λ (ps : List (List T)). length ps < subscriber.buffer_size)
      (sym (ap (λ i. payloads_from mid i subscriber) its
      ∙ ap (λ (f : ℕ → Handle → List (List T)). f p subscriber) waits.from)) has.room;
}

-- and so is room at all
module _ {T U F G : Type 0} {old mid : Kept T U F G} (waits : WaitingStays old mid) (settings : mid.config ≡ old.config)
    (buffers : (it : Handle) → HasItsBuffer old it → HasItsBuffer mid it)
    (p lender : ℕ) (its : lender ≡ p)
    (connections : (it : Handle) → IsConnected old p it → IsConnected mid lender it) where
  each-since : (subscribers : List Handle) → HasRoomAtEach old p subscribers → HasRoomAtEach mid lender subscribers
  each-since [] each = tt
  each-since (subscriber ∷ others) each = (
    record {
      connected = connections subscriber (each.0).connected;
      buffer = buffers subscriber (each.0).buffer;
      room = subst (λ (ps : List (List T)). length ps < subscriber.buffer_size)
          (sym (ap (λ i. payloads_from mid i subscriber) its
          ∙ ap (λ (f : ℕ → Handle → List (List T)). f p subscriber) waits.from)) (each.0).room;
    },
    each-since others each.1,
  )

  pub all-room-since : (subscribers : List Handle) → HasRoomAtAll old p subscribers
      → HasRoomAtAll mid lender subscribers
  all-room-since subscribers has = record {
    different = has.different;
    full = subst (λ (c : ServiceConfig). c.max_subscribers ≤ length subscribers) (sym settings) has.full;
    each = each-since subscribers has.each;
  }

-- such a send is delivered, and fails at no receiver
pub unhindered-is : (result : Result SendOutcome SendError) → IsUnhindered (result_of_send result)
    → IfOk result IsDelivered × IfErr result (λ error. error ≢ UnableToDeliver)
unhindered-is (Ok (Delivered count)) free = (tt, tt)
unhindered-is (Ok (Blocked blocked)) free = absurd (free.0 refl)
unhindered-is (Err error) free = (tt, λ is. free.1 (ap Send_error is))
