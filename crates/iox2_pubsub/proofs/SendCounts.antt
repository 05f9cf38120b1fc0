-- How many receivers a send counts.
use Rattle.std.proofs.Common.{◌≡◌, ℕ, ◌+◌, ◌≤◌, Bool, true, false, cond, ◌||◌, List, length, refl, sym, ap, subst, ◌∙◌}
use Rattle.std.proofs.Common.{arith, Option, None, Some}
use Rattle.std.specs.List.{filter}
use Rattle.std.specs.Option.{option_map_or}
use Rattle.std.proofs.lemmas.Bool.{true≢false}
use Rattle.std.proofs.lemmas.Option.{same_Some}
use Rattle.iox2_machine.specs.machine.Delivery.{Complete, Deliver, DeliveryEnd, Suspended, no_time}
use Rattle.iox2_machine.specs.machine.Mailbox.{Mailbox, has_room}
use Rattle.iox2_machine.specs.machine.Numbers.{contains, IsOnce}
use Rattle.iox2_machine.specs.machine.Places.{occupants}
use Rattle.iox2_machine.specs.machine.PublisherUpdate.{UpdatePublisher}
use Rattle.iox2_machine.specs.machine.Records.{Environment, Loan, Publisher, Subscriber}
use Rattle.iox2_machine.specs.machine.Sends.{Blocked_send, ConcludeSend, DeliverAndConclude, Delivered_to, Publish}
use Rattle.iox2_machine.specs.machine.Sends.{Send, Send_error, published, with_mailboxes}
use Rattle.iox2_machine.specs.machine.State.{State, channel_buffer, is_blocked}
use Rattle.iox2_machine.specs.machine.WellFormed.{IsWellFormed, LeadsTo}
use Rattle.iox2_machine.specs.declared.errors.ConnectionFailure.{ConnectionFailure}
use Rattle.iox2_machine.specs.declared.errors.SendError.{SendError}
use Rattle.iox2_machine.specs.declared.errors.SendError.TheVariants.{UnableToDeliver}
use Rattle.iox2_laws.proofs.Cases.{by_option}
use Rattle.iox2_laws.proofs.PlaceLemmas.{IsOnce-occupants, contains-occupants}
use Rattle.iox2_laws.proofs.PortsStay.{update_publisher_stays}
use Rattle.iox2_laws.proofs.PublisherUpdates.{update_publisher_keeps}
use Rattle.iox2_laws.proofs.UpToDate.{update_publisher_subscribers}
use Rattle.iox2_machine.specs.declared.service_config.ServiceConfig.{ServiceConfig}
use Rattle.iox2_laws.specs.Sendings.{sending}
use Rattle.iox2_pubsub.specs.ConnectedPorts.{Connects}
use Rattle.iox2_pubsub.proofs.ConnectedSends.{update-publisher-connected}
use Rattle.iox2_pubsub.proofs.DeliveryCounts.{deliver-counts, takers-le, takes_in}
use Rattle.iox2_pubsub.proofs.PendingSteps.{takes-buffer}
use Rattle.iox2_pubsub.proofs.RoomySends.{opened-is}

reached : (failed : Bool) (e : SendError) (count all : ℕ)
    → Delivered_to count ≡ cond failed (Send_error e) (Delivered_to all) → count ≡ all
reached true e count all h = absurd (let clash : Delivered_to count ≡ Send_error e = h in cc)
reached false e count all h = let same : Delivered_to count ≡ Delivered_to all = h in cc

-- who takes it is open, and has a buffer
opened-of : (room : ℕ → Bool) (o : Option ℕ) → option_map_or room o false ≡ true → (buffer : ℕ) × (o ≡ Some buffer)
opened-of room None takes = absurd (true≢false (sym takes))
opened-of room (Some buffer) takes = (buffer, refl)

module _ {T U : Type 0} where
  -- The subscriber q takes the next message of p: there is room, or the service overflows.
  abbrev pub takes_next : (s : State T U) (p q : ℕ) → Bool
  takes_next s p q = option_map_or (λ (y : Subscriber).
      has_room 0 y.buffer (s.mailboxes p q) || (s.config).enable_safe_overflow) (s.subscribers q) false

  -- These are all subscribers.
  abbrev pub CoversAll : State T U → List ℕ → Type 0
  CoversAll s ids = (q : ℕ) (y : Subscriber) → s.subscribers q ≡ Some y → contains ids q ≡ true

  -- So many subscribers were counted: those of these that take p's next message, and if they are all, no other.
  pub record CountsOf (s : State T U) (p : ℕ) (ids : List ℕ) (count : ℕ) : Type 0 where
    pub at_least : length (filter (takes_next s p) ids) ≤ count
    pub exactly : CoversAll s ids → count ≡ length (filter (takes_next s p) ids)

  -- how many a delivery into channel 0 counts that begins with none
  pub goes-on-counts : (environment : Environment) (s : State T U) (p n place : ℕ) (ends : List (Option ℕ)) (count : ℕ)
      (s' : State T U) → IsOnce (occupants ends)
      → DeliverAndConclude environment s p (sending n 0 0 place ends 0 false) no_time s' (Delivered_to count)
      → count ≡ length
      (filter (takes_in (s.config).enable_safe_overflow (channel_buffer s p 0) (s.mailboxes p)) (occupants ends))
  goes-on-counts environment s p n place ends count s' once h =
      by_option
      (count ≡ length (filter (takes_in (s.config).enable_safe_overflow (channel_buffer s p 0) (s.mailboxes p))
      (occupants ends))) (s.publishers p) _ _ h (λ _ v. absurd v)
      (λ z _ k. concluded z k.0 k.1 k.2 k.3)
    where
      concluded : (z : Publisher) (how : DeliveryEnd) (boxes : ℕ → Mailbox)
          → Deliver environment s.config p z.backpressure_strategy z.backpressure_handler
          (channel_buffer s p 0) n 0 0 no_time place ends 0 false (s.mailboxes p) how boxes
          → ConcludeSend (with_mailboxes s p boxes) p n how s' (Delivered_to count)
          → count ≡ length (filter (takes_in (s.config).enable_safe_overflow (channel_buffer s p 0) (s.mailboxes p))
          (occupants ends))
      concluded z (Complete all failed) boxes delivers k =
          let same : count ≡ all = reached failed UnableToDeliver count all k.1 in
          let counted : all ≡ 0 + length (filter
          (takes_in (s.config).enable_safe_overflow (channel_buffer s p 0) (s.mailboxes p)) (occupants ends)) =
          deliver-counts environment s.config p z.backpressure_strategy z.backpressure_handler
          (channel_buffer s p 0) n 0 no_time place ends 0 false (s.mailboxes p) all failed boxes once delivers in
          omega (arith, same, counted)
      concluded z (Suspended b) boxes delivers k = let clash : Delivered_to count ≡ Blocked_send = k.1 in absurd cc

  module _ (environment : Environment) (s : State T U) (w : IsWellFormed s) (p : ℕ) where
    -- who is connected takes what its record says
    pub connected-takes : (q : ℕ) (c : Connects s p q)
        → takes_in (s.config).enable_safe_overflow (channel_buffer s p 0) (s.mailboxes p) q ≡ takes_next s p q
    connected-takes q c =
        ap (λ (o : Option ℕ). option_map_or (λ (buffer : ℕ). has_room 0 buffer
        (s.mailboxes p q) || (s.config).enable_safe_overflow) o false) (takes-buffer environment s w p q c)
        ∙ sym
        (ap (λ (o : Option Subscriber). option_map_or (λ (y : Subscriber).
        has_room 0 y.buffer (s.mailboxes p q) || (s.config).enable_safe_overflow) o false) c.there)

    -- who takes is there
    taker-there : (q : ℕ) → takes_in (s.config).enable_safe_overflow (channel_buffer s p 0) (s.mailboxes p) q ≡ true
        → (y : Subscriber) × (s.subscribers q ≡ Some y)
    taker-there q takes =
        let opened = opened-of (λ (buffer : ℕ). has_room 0 buffer (s.mailboxes p q) || (s.config).enable_safe_overflow)
        (channel_buffer s p 0 q) takes in
        let it = opened-is s p q opened.0 opened.1 in
        (it.0, it.1)

    publish-counts : (n count : ℕ) (s' : State T U) → Publish environment s p n s' (Delivered_to count) → (ids : List ℕ)
        → IsOnce ids
        → ((q : ℕ) → contains ids q ≡ true → Connects s p q) → CountsOf s p ids count
    publish-counts n count s' h ids once each =
        by_option (CountsOf s p ids count) (s.publishers p) _ _ h (λ _ v. absurd v) (λ x present k. counted x present k)
      where
        leads : (x : Publisher) → s.publishers p ≡ Some x → (q : ℕ) → contains ids q ≡ true
            → contains (occupants x.ends) q ≡ true
        leads x present q at =
            let c = each q at in
            contains-occupants x.ends q
            (subst (λ (z : Publisher). LeadsTo z.ends q) (same_Some c.publisher x (sym c.stands ∙ present)) c.sends)

        counted : (x : Publisher) → s.publishers p ≡ Some x → DeliverAndConclude environment (published s p n) p
            (sending n 0 0 0 x.ends 0 false) no_time s' (Delivered_to count) → CountsOf s p ids count
        counted x present k =
            let apart : IsOnce (occupants x.ends) = IsOnce-occupants x.ends (w.publishers p x present).ends_apart in
            let here : ℕ → Bool = takes_in (s.config).enable_safe_overflow (channel_buffer s p 0) (s.mailboxes p) in
            let all : count ≡ length (filter
            (takes_in (s.config).enable_safe_overflow (channel_buffer s p 0) (s.mailboxes p)) (occupants x.ends)) =
            goes-on-counts environment (published s p n) p n 0 x.ends count s' apart k in
            let few : length (filter (takes_next s p) ids) ≤ length
            (filter (takes_in (s.config).enable_safe_overflow (channel_buffer s p 0) (s.mailboxes p))
            (occupants x.ends)) =
            takers-le (takes_next s p) (takes_in (s.config).enable_safe_overflow (channel_buffer s p 0) (s.mailboxes p))
            ids (occupants x.ends) once apart (λ q at takes.
            (leads x present q at, connected-takes q (each q at) ∙ takes)) in
            record {
              at_least = omega (arith, all, few);
              exactly = λ covers.
                  let many : length
                  (filter (takes_in (s.config).enable_safe_overflow (channel_buffer s p 0) (s.mailboxes p))
                  (occupants x.ends)) ≤ length (filter (takes_next s p) ids) =
                  takers-le (takes_in (s.config).enable_safe_overflow (channel_buffer s p 0) (s.mailboxes p))
                  (takes_next s p) (occupants x.ends) ids apart once (λ q at takes.
                  let there = taker-there q takes in
                  let among = covers q there.0 there.1 in
                  (among, sym (connected-takes q (each q among)) ∙ takes)) in
                  omega (arith, all, few, many);
            }

  -- the same are taken before an update and after it
  counts-since : (s mid : State T U) (p : ℕ) (ids : List ℕ) (count : ℕ)
      → ((q : ℕ) → contains ids q ≡ true → takes_next mid p q ≡ takes_next s p q)
      → mid.subscribers ≡ s.subscribers → IsOnce ids → CountsOf mid p ids count → CountsOf s p ids count
  counts-since s mid p ids count alike subscribers once counts =
      let few : length (filter (takes_next s p) ids) ≤ length (filter (takes_next mid p) ids) =
      takers-le (takes_next s p) (takes_next mid p) ids ids once once (λ q at takes. (at, alike q at ∙ takes)) in
      let many : length (filter (takes_next mid p) ids) ≤ length (filter (takes_next s p) ids) =
      takers-le (takes_next mid p) (takes_next s p) ids ids once once (λ q at takes. (at, sym (alike q at) ∙ takes)) in
      let least : length (filter (takes_next mid p) ids) ≤ count = counts.at_least in
      record {
        at_least = omega (arith, few, least);
        exactly = λ covers.
            let all : count ≡ length (filter (takes_next mid p) ids) =
            counts.exactly
            (λ q y here. covers q y (ap (λ (f : ℕ → Option Subscriber). f q) (sym subscribers) ∙ here)) in
            omega (arith, few, many, all);
      }

  pub send-counts : (environment : Environment) (s : State T U) (n : ℕ) (l : Loan T U) (s' : State T U) (count : ℕ)
      → IsWellFormed s → is_blocked s l.publisher ≡ false
      → Send environment s n l s' (Delivered_to count) → (ids : List ℕ) → IsOnce ids
      → ((q : ℕ) → contains ids q ≡ true → Connects s l.publisher q) → CountsOf s l.publisher ids count
  send-counts environment s n l s' count w free h ids once each =
      by_option (CountsOf s l.publisher ids count) (s.publishers l.publisher) _ _ h
      (λ _ k. let clash : Delivered_to count ≡ Send_error _ = k.1 in absurd cc)
      (λ x _ k. by_option (CountsOf s l.publisher ids count) k.1 _ _ k.3
      (λ _ j. after k.0 k.1 k.2 j)
      (λ e _ j. let clash : Delivered_to count ≡ Send_error _ = j.1 in absurd cc))
    where
      after : (mid : State T U) (failure : Option ConnectionFailure)
          → UpdatePublisher environment s l.publisher mid failure
          → Publish environment mid l.publisher n s' (Delivered_to count) → CountsOf s l.publisher ids count
      after mid failure updates publishes =
          let v : IsWellFormed mid = update_publisher_keeps environment s l.publisher mid failure w free updates in
          let subscribers : mid.subscribers ≡ s.subscribers =
          update_publisher_subscribers environment s l.publisher mid failure updates in
          let settings : mid.config ≡ s.config =
          (update_publisher_stays environment s l.publisher mid failure updates).remain.config in
          let kept = λ (q : ℕ) (at : contains ids q ≡ true).
          update-publisher-connected environment s w l.publisher q (each q at) l.publisher mid failure updates in
          counts-since s mid l.publisher ids count (λ q at.
          ap (λ (o : Option Subscriber).
          option_map_or (λ (y : Subscriber). has_room 0 y.buffer (mid.mailboxes l.publisher q)
          || (mid.config).enable_safe_overflow) o false) (ap (λ (f : ℕ → Option Subscriber). f q) subscribers)
          ∙ ap (λ (box : Mailbox). option_map_or (λ (y : Subscriber).
          has_room 0 y.buffer box || (mid.config).enable_safe_overflow) (s.subscribers q) false) (kept q at).1
          ∙ ap (λ (c : ServiceConfig). option_map_or
          (λ (y : Subscriber). has_room 0 y.buffer (s.mailboxes l.publisher q) || c.enable_safe_overflow)
          (s.subscribers q) false) settings)
          subscribers once
          (publish-counts environment mid v l.publisher n count s' publishes ids once (λ q at. (kept q at).0))
