-- What updates and deliveries keep of one port's mailboxes.
use Rattle.std.proofs.Common.{◌≡◌, ℕ, ◌+◌, Bool, List, [], ◌∷◌, sym, ap, subst, ◌∙◌, eqb, Option, None, Some, ⊎_elim}
use Rattle.std.specs.Prelude.{◌||◌}
use Rattle.std.specs.declared.time.Duration.{Duration}
use Rattle.iox2_machine.specs.machine.Numbers.{put_at, last_n}
use Rattle.iox2_machine.specs.machine.Places.{occupant}
use Rattle.iox2_machine.specs.machine.Mailbox.{Mailbox, with_waiting, waiting_dropped, with_appended, has_room}
use Rattle.iox2_machine.specs.machine.Records.{Handler, Environment, BlockedSend}
use Rattle.iox2_machine.specs.machine.Delivery.{PutResult, DeliveryEnd, Complete, Suspended, no_time, is_blocking}
use Rattle.iox2_machine.specs.machine.Delivery.{accepted_count, is_failed, Put, PutAtEnd, Deliver}
use Rattle.iox2_machine.specs.machine.Connections.{ForEachPlace}
use Rattle.iox2_machine.specs.machine.PublisherUpdate.{SenderSide, SenderAction, Keep_end, Drop_waiting, Disconnect}
use Rattle.iox2_machine.specs.machine.PublisherUpdate.{Connect, sender_action, disconnected, Performs}
use Rattle.iox2_machine.specs.machine.PublisherUpdate.{UpdateSenderPlace}
use Rattle.iox2_machine.specs.machine.SubscriberUpdate.{ReceiverSide, Retirement, Keep_expired, Evict, Discard_data}
use Rattle.iox2_machine.specs.machine.SubscriberUpdate.{Refuse, retirement_of, is_refused, after_retirement, with_end}
use Rattle.iox2_machine.specs.machine.SubscriberUpdate.{ConnectReceiver, Retire, ConnectAtPlace, DisconnectAtPlace}
use Rattle.iox2_machine.specs.machine.SubscriberUpdate.{UpdateReceiverSide}
use Rattle.iox2_machine.specs.declared.service_config.ServiceConfig.{ServiceConfig}
use Rattle.iox2_machine.specs.declared.backpressure.BackpressureStrategy.{BackpressureStrategy}
use Rattle.iox2_machine.specs.declared.backpressure.BackpressureAction.{BackpressureAction}
use Rattle.iox2_machine.specs.declared.degradation.DegradationAction.{DegradationAction}
use Rattle.iox2_machine.specs.declared.errors.ConnectionFailure.{ConnectionFailure}
use Rattle.iox2_laws.proofs.Cases.{by_option, by_bool}
use Rattle.iox2_laws.proofs.Puts.{at_each}
use Rattle.iox2_laws.proofs.Walks.{for_each_place_keeps}

-- `Good` is told of a mailbox and the other port's id, and stays where what waits is lost.
module _ (Good : ℕ → Mailbox → Type 0)
    (dropped : (i : ℕ) (box : Mailbox) → Good i box → Good i (waiting_dropped box)) where
  -- each of the mailboxes is good
  abbrev pub AreGood : (ℕ → Mailbox) → Type 0
  AreGood boxes = (i : ℕ) → Good i (boxes i)

  -- one of them is changed
  put_good : (boxes : ℕ → Mailbox) (i : ℕ) (box : Mailbox) → AreGood boxes → Good i box → AreGood (put_at boxes i box)
  put_good boxes i box are is j = at_each boxes i box Good j (λ _. is) (λ _. are j)

  -- what waits in one of them is lost
  drop_good : (boxes : ℕ → Mailbox) (i : ℕ) → AreGood boxes → AreGood (put_at boxes i (waiting_dropped (boxes i)))
  drop_good boxes i are = put_good boxes i (waiting_dropped (boxes i)) are (dropped i (boxes i) (are i))

  -- ---- a publisher's update

  disconnected_good : (side : SenderSide) (place : ℕ) (end : Option ℕ) → AreGood side.mailboxes
      → AreGood (disconnected side place end).mailboxes
  disconnected_good side place None are = are
  disconnected_good side place (Some q) are = drop_good side.mailboxes q are

  module _ (environment : Environment) (service_id p : ℕ) (handler : Handler DegradationAction) (histories : ℕ → List ℕ)
      (buffers : ℕ → Option ℕ) (has_end : ℕ → Bool)
      (delivered : (i buffer : ℕ) (box : Mailbox) → Good i box
      → Good i (with_waiting (last_n buffer (histories i)) box)) where
    performed_good : (action : SenderAction) (place : ℕ) (side side' : SenderSide) (failure : Option ConnectionFailure)
        → AreGood side.mailboxes
        → Performs environment service_id p handler histories buffers has_end action place side side' failure
        → AreGood side'.mailboxes
    performed_good Keep_end place side side' failure are h =
        subst (λ (sd : SenderSide). AreGood sd.mailboxes) (sym h.0) are
    performed_good (Drop_waiting q) place side side' failure are h =
        subst (λ (sd : SenderSide). AreGood sd.mailboxes) (sym h.0) (drop_good side.mailboxes q are)
    performed_good Disconnect place side side' failure are h =
        subst (λ (sd : SenderSide). AreGood sd.mailboxes) (sym h.0)
        (disconnected_good side place (occupant side.ends place) are)
    performed_good (Connect q buffer) place side side' failure are h =
        let mid : SenderSide = disconnected side place (occupant side.ends place) in
        let mid_good : AreGood mid.mailboxes = disconnected_good side place (occupant side.ends place) are in
        ⊎_elim
        (λ made. subst (λ (sd : SenderSide). AreGood sd.mailboxes) (sym made.0)
        (put_good mid.mailboxes q (with_waiting (last_n buffer (histories q)) (mid.mailboxes q)) mid_good
        (delivered q buffer (mid.mailboxes q) (mid_good q))))
        (λ refused. subst (λ (sd : SenderSide). AreGood sd.mailboxes) (sym refused.3) mid_good) h

    -- A publisher's update keeps good what its history leaves so.
    pub sender_side_keeps : (places : List (Option ℕ)) (side side' : SenderSide) (failure : Option ConnectionFailure)
        → AreGood side.mailboxes
        → ForEachPlace (UpdateSenderPlace environment service_id p handler histories buffers has_end) 0 places side
        side' failure → AreGood side'.mailboxes
    sender_side_keeps places side side' failure are h =
        for_each_place_keeps (UpdateSenderPlace environment service_id p handler histories buffers has_end)
        (λ (sd : SenderSide). AreGood sd.mailboxes) places
        (λ i side side' failure _ are h. performed_good
        (sender_action buffers (occupant places i) (occupant side.ends i)) i side side' failure are h)
        side side' failure are h

  -- ---- a subscriber's update

  retired_good : (q : ℕ) (side : ReceiverSide) (p : ℕ) (how : Retirement) → AreGood side.mailboxes
      → AreGood (after_retirement q side p how).mailboxes
  retired_good q side p Keep_expired are = are
  retired_good q side p (Evict first) are = drop_good side.mailboxes first are
  retired_good q side p Discard_data are = drop_good side.mailboxes p are
  retired_good q side p Refuse are = are

  module _ (environment : Environment) (service_id q : ℕ) (handler : Handler DegradationAction) (limit : ℕ)
      (has_end : ℕ → Bool) where
    abbrev SideIsGood : ReceiverSide → Type 0
    SideIsGood side = AreGood side.mailboxes

    connect_good : (side : ReceiverSide) (place p : ℕ) (side' : ReceiverSide) (failure : Option ConnectionFailure)
        → SideIsGood side
        → ConnectReceiver environment service_id q handler limit has_end side place p side' failure → SideIsGood side'
    connect_good side place p side' failure are h =
        ⊎_elim (λ made. subst SideIsGood (sym made.0) are) (λ refused. subst SideIsGood (sym refused.3) are) h

    retire_good : (side : ReceiverSide) (place p : ℕ) (side' : ReceiverSide) (failure : Option ConnectionFailure)
        (Then : ReceiverSide → Type 0) → SideIsGood side
        → ((mid : ReceiverSide) → SideIsGood mid → Then mid → SideIsGood side')
        → Retire environment service_id q handler limit has_end side place p side' failure Then → SideIsGood side'
    retire_good side place p side' failure Then are go h =
        let how : Retirement = retirement_of limit side.mailboxes side.expired p in
        by_bool (SideIsGood side') (is_refused how) _ _ h
        (λ _ k. subst SideIsGood (sym k.0) (retired_good q side p how are))
        (λ _ k. go (with_end (after_retirement q side p how) place None) (retired_good q side p how are) k)

    at_place_good : (place : ℕ) (at : Option ℕ) (side side' : ReceiverSide) (failure : Option ConnectionFailure)
        → SideIsGood side
        → ConnectAtPlace environment service_id q handler limit has_end place at side side' failure → SideIsGood side'
    at_place_good place at side side' failure are h =
        by_option (SideIsGood side') at _ _ h (λ _ k. subst SideIsGood (sym k.0) are) (λ p _ k.
        by_option (SideIsGood side') (occupant side.ends place) _ _ k
        (λ _ j. connect_good side place p side' failure are j) (λ before _ j.
        by_bool (SideIsGood side') (eqb before p) _ _ j (λ _ i. subst SideIsGood (sym i.0) are) (λ _ i.
        retire_good side place before side' failure _ are
        (λ mid mid_good f. connect_good mid place p side' failure mid_good f) i)))

    at_empty_good : (place : ℕ) (at : Option ℕ) (side side' : ReceiverSide) (failure : Option ConnectionFailure)
        → SideIsGood side
        → DisconnectAtPlace environment service_id q handler limit has_end place at side side' failure
        → SideIsGood side'
    at_empty_good place at side side' failure are h =
        by_option (SideIsGood side') at _ _ h
        (λ _ k. by_option (SideIsGood side') (occupant side.ends place) _ _ k (λ _ j. subst SideIsGood (sym j.0) are)
        (λ before _ j.
        retire_good side place before side' failure (λ (mid : ReceiverSide). (side' ≡ mid) × (failure ≡ None)) are
        (λ mid mid_good f. subst SideIsGood (sym f.0) mid_good) j))
        (λ p _ k. subst SideIsGood (sym k.0) are)

    -- A subscriber's update keeps good what is.
    pub receiver_side_keeps : (places : List (Option ℕ)) (side side' : ReceiverSide)
        (failure : Option ConnectionFailure) → SideIsGood side
        → UpdateReceiverSide environment service_id q handler limit has_end places side side' failure → SideIsGood side'
    receiver_side_keeps places side side' failure are h =
        for_each_place_keeps (DisconnectAtPlace environment service_id q handler limit has_end) SideIsGood places
        (λ i side side' failure _ are h. at_empty_good i (occupant places i) side side' failure are h) h.0 side' h.2
        (for_each_place_keeps (ConnectAtPlace environment service_id q handler limit has_end) SideIsGood places
        (λ i side side' failure _ are h. at_place_good i (occupant places i) side side' failure are h) side h.0 h.1 are
        h.3)
        h.4

  -- ---- a delivery

  module _ (environment : Environment) (c : ServiceConfig) (p : ℕ) (strategy : BackpressureStrategy)
      (handler : Option (Handler BackpressureAction))
      (buffers : ℕ → Option ℕ) (n channel : ℕ)
      (appended : (i buffer : ℕ) (box : Mailbox) → Good i box → Good i (with_appended channel buffer n box)) where
    put_is_good : (q retries : ℕ) (elapsed : Duration) (buffer : Option ℕ) (box : Mailbox) (result : PutResult)
        (box' : Mailbox) → Good q box
        → Put environment c p strategy handler buffers n channel q retries elapsed buffer box result box' → Good q box'
    put_is_good q retries elapsed None box result box' is h = subst (Good q) (sym h.1) is
    put_is_good q retries elapsed (Some buffer) box result box' is h =
        by_bool (Good q box') (has_room channel buffer box || c.enable_safe_overflow) _ _ h
        (λ _ k. subst (Good q) (sym k.1) (appended q buffer box is))
        (λ _ k. subst (Good q) (sym k.1) is)

    end_good : (retries : ℕ) (elapsed : Duration) (end : Option ℕ) (boxes : ℕ → Mailbox) (result : PutResult)
        (boxes' : ℕ → Mailbox) → AreGood boxes
        → PutAtEnd environment c p strategy handler buffers n channel retries elapsed end boxes result boxes'
        → AreGood boxes'
    end_good retries elapsed None boxes result boxes' are h = subst AreGood (sym h.1) are
    end_good retries elapsed (Some q) boxes result boxes' are h =
        subst AreGood (sym h.2)
        (put_good boxes q h.0 are (put_is_good q retries elapsed (buffers q) (boxes q) result h.0 (are q) h.1))

    -- A delivery keeps good what its message leaves so; where it is suspended, it is with that message.
    pub deliver_keeps : (retries : ℕ) (elapsed : Duration) (place : ℕ) (ends : List (Option ℕ)) (count : ℕ)
        (has_failed : Bool) (boxes : ℕ → Mailbox)
        (how : DeliveryEnd) (boxes' : ℕ → Mailbox)
        → AreGood boxes → Deliver environment c p strategy handler buffers n channel retries elapsed place ends count
        has_failed boxes how boxes'
        → AreGood boxes' × ((b : BlockedSend) → how ≡ Suspended b → b.message ≡ n)
    deliver_keeps retries elapsed place [] count has_failed boxes how boxes' are h = (
      subst AreGood (sym h.1) are,
      λ b e. let clash : Complete count has_failed ≡ Suspended b = sym h.0 ∙ e in
          absurd (cc),
    )
    deliver_keeps retries elapsed place (end ∷ rest) count has_failed boxes how boxes' are h =
        let mid_good : AreGood h.1 = end_good retries elapsed end boxes h.0 h.1 are h.2 in
        by_bool (AreGood boxes' × ((b : BlockedSend) → how ≡ Suspended b → b.message ≡ n)) (is_blocking h.0) _ _ h.3
        (λ _ k. (
          subst AreGood (sym k.1) mid_good,
          λ b e.
              let same : Suspended (record {
                message = n;
                channel = channel;
                place = place;
                ends = end ∷ rest;
                retries = retries;
                count = count;
                has_failed = has_failed;
              }) ≡ Suspended b = sym k.0 ∙ e in
              let inner : record {
                message = n;
                channel = channel;
                place = place;
                ends = end ∷ rest;
                retries = retries;
                count = count;
                has_failed = has_failed;
              } ≡ b = cc in
              ap (λ (b : BlockedSend). b.message) (sym inner),
        ))
        (λ _ k. deliver_keeps 0 no_time (place + 1) rest (count + accepted_count h.0)
        (has_failed || is_failed h.0) h.1 how boxes' mid_good k)
