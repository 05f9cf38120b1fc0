-- What a subscriber's update does to its connections with closed publishers, and that it loses nothing where there is
-- room for them.
use Rattle.std.proofs.Common.{◌≡◌, ℕ, suc, ◌+◌, ◌≤◌, ◌<◌, Bool, true, false, cond, not, ◌&&◌, ◌||◌, List, [], ◌∷◌, ◌++◌}
use Rattle.std.proofs.Common.{length, refl, sym, ap, subst, ◌∙◌, arith, eqb, Option, None, Some, ◌⊎◌, inl, inr, ⊎_elim}
use Rattle.std.specs.Prelude.{nat_lt, MatchOption}
use Rattle.std.specs.Bool.{MatchBool}
use Rattle.std.specs.Option.{is_some, option_map, option_map_or}
use Rattle.std.proofs.lemmas.Bool.{true≢false, cond_both, ltb-true, ltb-false, eqb-false, eq-eqb, ne_eqb, cases_eq}
use Rattle.std.proofs.lemmas.List.{length-append}
use Rattle.std.proofs.lemmas.Option.{none-some, same_Some}
use Rattle.iox2_machine.specs.machine.Limits.{expired_limit}
use Rattle.iox2_machine.specs.machine.Numbers.{put_at, contains, without, is_nil, IsOnce}
use Rattle.iox2_machine.specs.machine.Places.{occupant, occupants, is_port, set_place}
use Rattle.iox2_machine.specs.machine.Mailbox.{Mailbox, has_borrows, has_data, has_numbers, has_waiting}
use Rattle.iox2_machine.specs.machine.Records.{Publisher, Subscriber, Handler, Environment}
use Rattle.iox2_machine.specs.machine.State.{State, connected_publishers, has_sender_end}
use Rattle.iox2_machine.specs.machine.Connections.{expired_buffer_full}
use Rattle.iox2_machine.specs.machine.SubscriberUpdate.{ReceiverSide, Retirement, Keep_expired, Evict, Discard_data}
use Rattle.iox2_machine.specs.machine.SubscriberUpdate.{Refuse, first_without_borrows, evict_or_refuse, retirement_of}
use Rattle.iox2_machine.specs.machine.SubscriberUpdate.{is_refused, after_retirement, with_end, ConnectReceiver, Retire}
use Rattle.iox2_machine.specs.machine.SubscriberUpdate.{ConnectAtPlace, DisconnectAtPlace, UpdateReceiverSide}
use Rattle.iox2_machine.specs.machine.SubscriberUpdate.{receiver_side, with_receiver_side, UpdateSubscriber}
use Rattle.iox2_machine.specs.machine.Waiting.{receives_from, waiting_from}
use Rattle.iox2_machine.specs.machine.WellFormed.{LeadsTo, IsWellFormed}
use Rattle.iox2_machine.specs.declared.degradation.DegradationAction.{DegradationAction}
use Rattle.iox2_machine.specs.declared.errors.ConnectionFailure.{ConnectionFailure}
use Rattle.iox2_laws.proofs.Cases.{by_option, by_bool}
use Rattle.iox2_laws.proofs.MailboxLemmas.{has_numbers-data, has_waiting-data}
use Rattle.iox2_laws.proofs.NumberLemmas.{contains_left, contains_right, length-without}
use Rattle.iox2_laws.proofs.PlaceLemmas.{contains-occupants, occupied_within}
use Rattle.iox2_laws.proofs.Puts.{put_at-same, put_at-other}
use Rattle.iox2_laws.proofs.ReceiverSides.{ReceiverSideIsWellFormed, receiver_side_begins, first_is}
use Rattle.iox2_laws.proofs.ReceiverSides.{connect_at_place_keeps, disconnect_at_place_keeps}
use Rattle.iox2_laws.proofs.WaitingCounts.{SameWaits, by_record, cond_same}
use Rattle.iox2_laws.proofs.WaitingReceives.{UpdateWaits, update_subscriber_waits}
use Rattle.iox2_pubsub.specs.DepartedPorts.{is_gone, departed_of, departed_at, HasDepartedRoom}
use Rattle.iox2_pubsub.proofs.ConnectionsStay.{walk-stays, receives-by, update-knows}
use Rattle.iox2_pubsub.proofs.DepartedCounts.{passing, passing-put, passing-removed}

-- what holds of each retirement that may be chosen, where there is room or where there is none, holds of the chosen one
by-room : (limit : ℕ) (boxes : ℕ → Mailbox) (expired : List ℕ) (old : ℕ) (R : Retirement → Type 0)
    → (length expired < limit → R Keep_expired)
    → (limit ≤ length expired → (first : ℕ) → contains expired first ≡ true → R (Evict first))
    → (limit ≤ length expired → R Discard_data)
    → (limit ≤ length expired → R Refuse)
    → R (retirement_of limit boxes expired old)
by-room limit boxes expired old R keep evict discard refuse =
    cond_both (nat_lt (length expired) limit) Keep_expired
    (cond (has_borrows (boxes old)) (evict_or_refuse (first_without_borrows boxes expired)) Discard_data) R
    (λ room. keep (ltb-true (length expired) limit room))
    (λ full. cond_both (has_borrows (boxes old)) (evict_or_refuse (first_without_borrows boxes expired)) Discard_data R
    (λ _. elim (first_without_borrows boxes expired) as (λ o. first_without_borrows boxes expired ≡ o
    → R (evict_or_refuse o)) [
      | None ↦ λ _. refuse (ltb-false (length expired) limit full)
      | Some first ↦ λ e. evict (ltb-false (length expired) limit full) first (first_is boxes expired first e).0
    ] refl)
    (λ _. discard (ltb-false (length expired) limit full)))

module _ {T U : Type 0} (environment : Environment) (s : State T U) (w : IsWellFormed s) (q : ℕ)
    (handler : Handler DegradationAction) (has_end : ℕ → Bool) where
  abbrev limit : ℕ
  limit = expired_limit s.config

  -- with how many closed publishers the subscriber has a connection, on its way through the update
  abbrev count : ReceiverSide → ℕ
  count side = length side.expired + passing (is_gone s) side.ends

  -- There are no more connections with closed publishers than before; and where there was room for all of them, nothing
  -- was lost.
  record Steps (side side' : ReceiverSide) : Type 0 where
    fewer : count side' ≤ count side
    kept : count side ≤ limit → (side'.mailboxes ≡ side.mailboxes) × (side'.is_due ≡ side.is_due)

  steps-none : (side : ReceiverSide) → Steps side side
  steps-none side = record { fewer = omega arith; kept = λ room. (refl, refl) }

  steps-then : (side mid side' : ReceiverSide) → Steps side mid → Steps mid side' → Steps side side'
  steps-then side mid side' a b =
      let first : count mid ≤ count side = a.fewer in
      let second : count side' ≤ count mid = b.fewer in
      record {
        fewer = omega arith;
        kept = λ room. let one = a.kept room in let two = b.kept (omega arith) in (two.0 ∙ one.0, two.1 ∙ one.1);
      }

  gone-none : (p : ℕ) → s.publishers p ≡ None → is_gone s p ≡ true
  gone-none p none = ap (λ (o : Option Publisher). not (is_some o)) none

  gone-some : (p : ℕ) (x : Publisher) → s.publishers p ≡ Some x → is_gone s p ≡ false
  gone-some p x there = ap (λ (o : Option Publisher). not (is_some o)) there

  steps-connected : (side : ReceiverSide) (place p : ℕ) (side' : ReceiverSide) (failure : Option ConnectionFailure)
      → is_gone s p ≡ false
      → ConnectReceiver environment (s.config).service_id q handler limit has_end side place p side' failure
      → Steps side side'
  steps-connected side place p side' failure present h =
      ⊎_elim
      (λ made. subst (Steps side) (sym made.0)
      (let ends : passing (is_gone s) (set_place side.ends place (Some p)) ≤ passing (is_gone s) side.ends = passing-put
      (is_gone s) side.ends place p present in
      record { fewer = omega arith; kept = λ room. (refl, refl) }))
      (λ refused. subst (Steps side) (sym refused.3) (record { fewer = omega arith; kept = λ room. (refl, refl) })) h

  steps-retire : (side : ReceiverSide) (place old : ℕ) (side' : ReceiverSide) (failure : Option ConnectionFailure)
      (Then : ReceiverSide → Type 0)
      → occupant side.ends place ≡ Some old → is_gone s old ≡ true → IsOnce side.expired
      → ((mid : ReceiverSide) → Then mid → Steps mid side')
      → Retire environment (s.config).service_id q handler limit has_end side place old side' failure Then
      → Steps side side'
  steps-retire side place old side' failure Then here gone once go =
      let one : suc (passing (is_gone s) (set_place side.ends place None)) ≡ passing (is_gone s) side.ends =
      passing-removed (is_gone s) side.ends place old here gone in
      by-room limit side.mailboxes side.expired old
      (λ how.
      MatchBool (is_refused how) ((side' ≡ after_retirement q side old how) × (failure ≡ Some expired_buffer_full))
      (Then (with_end (after_retirement q side old how) place None))
      → Steps side side')
      (λ room h.
      let mid : ReceiverSide = with_end (after_retirement q side old Keep_expired) place None in
      let long : length (side.expired ++ old ∷ []) ≡ length side.expired + 1 = length-append side.expired (old ∷ []) in
      steps-then side mid side' (record { fewer = omega arith; kept = λ all. (refl, refl) }) (go mid h))
      (λ full first member h.
      let mid : ReceiverSide = with_end (after_retirement q side old (Evict first)) place None in
      let less : suc (length (without first side.expired)) ≡ length side.expired =
      length-without first side.expired once member in
      let long : length (without first side.expired ++ old ∷ []) ≡ length (without first side.expired) + 1 =
      length-append (without first side.expired) (old ∷ []) in
      steps-then side mid side' (record { fewer = omega arith; kept = λ all. absurd (omega arith) }) (go mid h))
      (λ full h.
      let mid : ReceiverSide = with_end (after_retirement q side old Discard_data) place None in
      steps-then side mid side' (record { fewer = omega arith; kept = λ all. absurd (omega arith) }) (go mid h))
      (λ full h. subst (Steps side) (sym h.0) (record { fewer = omega arith; kept = λ all. absurd (omega arith) }))

  -- the publisher that stands at a place is there
  stands-there : (place p : ℕ) → occupant s.publisher_places place ≡ Some p → is_gone s p ≡ false
  stands-there place p stands = by (s.publishers p) refl where
    by : (o : Option Publisher) → s.publishers p ≡ o → is_gone s p ≡ false
    by None e = absurd (none-some place
        (sym (ap (option_map {T = Publisher} {U = ℕ} (λ x. x.place)) e) ∙ (w.publisher_places).known p place stands))
    by (Some x) e = gone-some p x e

  -- who stands at an end of a place that another has, or nobody, is gone
  ends-gone : (side : ReceiverSide) (place old : ℕ) → ReceiverSideIsWellFormed s q side
      → occupant side.ends place ≡ Some old → (occupant s.publisher_places place ≡ Some old → ⊥) → is_gone s old ≡ true
  ends-gone side place old b here another = by (s.publishers old) refl where
    by : (o : Option Publisher) → s.publishers old ≡ o → is_gone s old ≡ true
    by None e = gone-none old e
    by (Some x) e =
        let at : x.place ≡ place =
        subst (λ (o : Option Publisher). MatchOption o (has_numbers (side.mailboxes old) ≡ true) (λ v. v.place ≡ place))
        e (b.ends_stand place old here) in
        absurd (another ((w.publisher_places).stands old place
        (ap (option_map {T = Publisher} {U = ℕ} (λ v. v.place)) e ∙ ap (λ k. Some k) at)))

  connect-steps : (place : ℕ) (side side' : ReceiverSide) (failure : Option ConnectionFailure)
      → ReceiverSideIsWellFormed s q side
      → ConnectAtPlace environment (s.config).service_id q handler limit has_end place
      (occupant s.publisher_places place) side side' failure → Steps side side'
  connect-steps place side side' failure b h =
      by_option (Steps side side') (occupant s.publisher_places place) _ _ h
      (λ _ k. subst (Steps side) (sym k.0) (steps-none side))
      (λ p stands k. by_option (Steps side side') (occupant side.ends place) _ _ k
      (λ _ j. steps-connected side place p side' failure (stands-there place p stands) j)
      (λ old here j. by_bool (Steps side side') (eqb old p) _ _ j
      (λ _ i. subst (Steps side) (sym i.0) (steps-none side))
      (λ apart i. steps-retire side place old side' failure _ here
      (ends-gone side place old b here (λ other. eqb-false old p apart (same_Some old p (sym other ∙ stands))))
      b.expired_once
      (λ mid f. steps-connected mid place p side' failure (stands-there place p stands) f) i)))

  disconnect-steps : (place : ℕ) (side side' : ReceiverSide) (failure : Option ConnectionFailure)
      → ReceiverSideIsWellFormed s q side
      → DisconnectAtPlace environment (s.config).service_id q handler limit has_end place
      (occupant s.publisher_places place) side side' failure → Steps side side'
  disconnect-steps place side side' failure b h =
      by_option (Steps side side') (occupant s.publisher_places place) _ _ h
      (λ empty k. by_option (Steps side side') (occupant side.ends place) _ _ k
      (λ _ j. subst (Steps side) (sym j.0) (steps-none side))
      (λ old here j. steps-retire side place old side' failure (λ mid. (side' ≡ mid) × (failure ≡ None)) here
      (ends-gone side place old b here (λ other. none-some old (sym empty ∙ other))) b.expired_once
      (λ mid f. subst (Steps mid) (sym f.0) (steps-none mid)) j))
      (λ p _ k. subst (Steps side) (sym k.0) (steps-none side))

  -- The side is well-formed, and so many steps from where the update began.
  abbrev Reached : ReceiverSide → ReceiverSide → Type 0
  Reached start side = ReceiverSideIsWellFormed s q side × Steps start side

  walks-step : (start side' : ReceiverSide) (failure : Option ConnectionFailure) → ReceiverSideIsWellFormed s q start
      → UpdateReceiverSide environment
      (s.config).service_id q handler limit has_end s.publisher_places start side' failure → Reached start side'
  walks-step start side' failure b h =
      walk-stays (DisconnectAtPlace environment (s.config).service_id q handler limit has_end)
      (Reached start) 0 s.publisher_places
      (λ i j e low a c f is k.
      let here : j ≡ i = omega arith in
      let at = subst (λ n. DisconnectAtPlace environment (s.config).service_id q handler limit has_end n
      (occupant s.publisher_places i) a c f) here k in (
        disconnect_at_place_keeps environment s w q handler has_end i a c f is.0 at,
        steps-then start a c is.1 (disconnect-steps i a c f is.0 at),
      ))
      h.0 side' h.2
      (walk-stays (ConnectAtPlace environment (s.config).service_id q handler limit has_end)
      (Reached start) 0 s.publisher_places
      (λ i j e low a c f is k.
      let here : j ≡ i = omega arith in
      let at = subst (λ n. ConnectAtPlace environment (s.config).service_id q handler limit has_end n
      (occupant s.publisher_places i) a c f) here k in (
        connect_at_place_keeps environment s w q handler has_end i a c f is.0 at,
        steps-then start a c is.1 (connect-steps i a c f is.0 at),
      ))
      start h.0 h.1 (b, steps-none start) h.3)
      h.4

module _ {T U : Type 0} (environment : Environment) (s : State T U) (w : IsWellFormed s) (q : ℕ) where
  -- No more closed publishers are connected with a subscriber after its update, or with any other.
  pub update-subscriber-departed : (s' : State T U) (failure : Option ConnectionFailure)
      → UpdateSubscriber environment s q s' failure → (i : ℕ) → departed_at s' i ≤ departed_at s i
  update-subscriber-departed s' failure h i =
      by_option (departed_at s' i ≤ departed_at s i) (s.subscribers q) _ _ h (λ _ v. absurd v) (λ y present h.
      by_bool (departed_at s' i ≤ departed_at s i) y.is_due _ _ h
      (λ _ h. subst (λ (t : State T U). departed_at t i ≤ departed_at s i) (sym h.2) (updated y present h.0 h.1))
      (λ _ h. subst (λ (t : State T U). departed_at t i ≤ departed_at s i) (sym h.0) (omega arith)))
    where
      updated : (y : Subscriber) → s.subscribers q ≡ Some y → (side : ReceiverSide)
          → UpdateReceiverSide environment (s.config).service_id q y.degradation_handler (expired_limit s.config)
          (λ j. has_sender_end s j q) s.publisher_places (receiver_side s q y) side failure
          → departed_at (with_receiver_side s q y side) i ≤ departed_at s i
      updated y present side walk = elim (cases_eq i q) [
        | inl here ↦
            let after : Subscriber = record y { ends = side.ends; expired = side.expired; is_due = side.is_due } in
            let reached = walks-step environment s w q y.degradation_handler (λ j. has_sender_end s j q)
            (receiver_side s q y) side failure (receiver_side_begins s w q y present) walk in
            let less : departed_of s after ≤ departed_of s y = reached.1.fewer in
            let now : departed_at (with_receiver_side s q y side) i ≡ departed_of s after =
            ap (λ (o : Option Subscriber). option_map_or (departed_of s) o 0)
            (ap (put_at s.subscribers q (Some after)) here ∙ put_at-same s.subscribers q (Some after)) in
            let before : departed_at s i ≡ departed_of s y =
            ap (λ (o : Option Subscriber). option_map_or (departed_of s) o 0) (ap s.subscribers here ∙ present) in
            omega arith
        | inr away ↦
            let same : departed_at (with_receiver_side s q y side) i ≡ departed_at s i =
            ap (λ (o : Option Subscriber). option_map_or (departed_of s) o 0)
            (put_at-other s.subscribers q _ i (ne_eqb i q away)) in
            omega arith
      ]

  -- ---- what waits

  -- the publisher's end, which the mailbox's messages ask for
  sender-end : (p : ℕ) (x : Publisher) (y : Subscriber) → s.publishers p ≡ Some x → s.subscribers q ≡ Some y
      → has_numbers (s.mailboxes p q) ≡ true → has_sender_end s p q ≡ true
  sender-end p x y stands there some =
      let end = (w.mailboxes p q).sender_end x stands some in
      ap (λ (o : Option Publisher). option_map_or
      (λ (v : Publisher). option_map_or (λ (z : Subscriber). is_port (occupant v.ends z.place) q)
      (s.subscribers q) false) o false) stands
      ∙ ap (λ (o : Option Subscriber). option_map_or (λ (z : Subscriber). is_port (occupant x.ends z.place) q) o false)
      there
      ∙ ap (λ (o : Option ℕ). is_port o q)
      (ap (occupant x.ends) ((w.publishers p x stands).ends_stand end.0 q y end.1 there) ∙ end.1)
      ∙ eq-eqb q q refl

  some-data : (box : Mailbox) → (box.waiting ≡ [] → ⊥) → has_data box ≡ true
  some-data box some = at box.waiting some where
    at : (ns : List ℕ) → (ns ≡ [] → ⊥) → not (is_nil ns) ≡ true
    at [] some = absurd (some refl)
    at (n ∷ ns) some = refl

  due-opens : (is_open due known due' known' : Bool) (ns : List ℕ) → due ≡ true
      → ((ns ≡ [] → ⊥) → (due' ≡ true) ⊎ (known' ≡ true))
      → cond (is_open && (due' || known')) ns [] ≡ cond (is_open && (due || known)) ns []
  due-opens false due known due' known' ns is knows = refl
  due-opens true true known due' known' ns is knows =
      cond_same (due' || known') true ns (λ some. receives-by true due' known' refl (knows some))
  due-opens true false known due' known' ns is knows = absurd (true≢false (sym is))

  module _ (y : Subscriber) (present : s.subscribers q ≡ Some y) (due : y.is_due ≡ true)
      (room : departed_of s y ≤ expired_limit s.config) (side : ReceiverSide) (failure : Option ConnectionFailure)
      (walk : UpdateReceiverSide environment (s.config).service_id q y.degradation_handler (expired_limit s.config)
      (λ j. has_sender_end s j q) s.publisher_places (receiver_side s q y) side failure) where
    abbrev after : Subscriber
    after = record y { ends = side.ends; expired = side.expired; is_due = side.is_due }

    abbrev new : State T U
    new = with_receiver_side s q y side

    reached : ReceiverSideIsWellFormed s q side
        × Steps environment s w q y.degradation_handler (λ j. has_sender_end s j q) (receiver_side s q y) side
    reached = walks-step environment s w q y.degradation_handler (λ j. has_sender_end s j q)
        (receiver_side s q y) side failure (receiver_side_begins s w q y present) walk

    same-boxes : side.mailboxes ≡ (λ p. s.mailboxes p q)
    same-boxes = (reached.1.kept room).0

    same-box : (p : ℕ) → side.mailboxes p ≡ s.mailboxes p q
    same-box p = ap (λ (f : ℕ → Mailbox). f p) same-boxes

    -- who has sent anything is connected
    connected : (p : ℕ) → ((s.mailboxes p q).waiting ≡ [] → ⊥)
        → (side.is_due ≡ true) ⊎ (contains (connected_publishers after) p ≡ true)
    connected p some = by (s.publishers p) refl where
      waits-there : has_data (s.mailboxes p q) ≡ true
      waits-there = some-data (s.mailboxes p q) some

      end-known : LeadsTo side.ends p → contains (connected_publishers after) p ≡ true
      end-known end = contains_right side.expired (occupants side.ends) p (contains-occupants side.ends p end)

      by : (o : Option Publisher) → s.publishers p ≡ o
          → (side.is_due ≡ true) ⊎ (contains (connected_publishers after) p ≡ true)
      by None gone = inr (⊎_elim
          (λ expired. contains_left side.expired (occupants side.ends) p expired) end-known
          (reached.0.knows p
          (inr (gone, ap has_waiting (same-box p) ∙ has_waiting-data (s.mailboxes p q) waits-there))))
      by (Some x) stands =
          let at : occupant s.publisher_places x.place ≡ Some p =
          (w.publisher_places).stands p x.place (ap (option_map {T = Publisher} {U = ℕ} (λ v. v.place)) stands) in
          ⊎_elim (λ is. inl is) (λ end. inr (end-known (x.place, end)))
          (update-knows environment (s.config).service_id q y.degradation_handler (expired_limit s.config)
          (λ j. has_sender_end s j q) p x.place s.publisher_places (receiver_side s q y) side failure
          (sender-end p x y stands present (has_numbers-data (s.mailboxes p q) waits-there))
          (occupied_within s.publisher_places x.place p at) at walk)

    same-waits : (p : ℕ) → waiting_from new p q ≡ waiting_from s p q
    same-waits p =
        by_record new p q (Some after) (put_at-same s.subscribers q (Some after))
        ∙ ap (λ (box : Mailbox). cond (receives_from after p) box.waiting [])
        (put_at-same (s.mailboxes p) q (side.mailboxes p) ∙ same-box p)
        ∙ due-opens y.is_open y.is_due (contains (connected_publishers y) p) side.is_due
        (contains (connected_publishers after) p) (s.mailboxes p q).waiting due (connected p)
        ∙ sym (by_record s p q (Some y) present)

  -- An update loses nothing where there is room for all closed publishers, whether it fails or not.
  pub update-keeps-all : (s' : State T U) (failure : Option ConnectionFailure) → HasDepartedRoom s q 0
      → UpdateSubscriber environment s q s' failure → SameWaits s s'
  update-keeps-all s' failure room h =
      let waits : UpdateWaits environment s q s' = update_subscriber_waits environment s q s' failure h in
      record {
        ports = waits.ports;
        from = λ p i. elim (cases_eq i q) [
          | inl here ↦ ap (waiting_from s' p) here ∙ own p ∙ ap (waiting_from s p) (sym here)
          | inr away ↦ waits.others p i away
        ];
      }
    where
      own : (p : ℕ) → waiting_from s' p q ≡ waiting_from s p q
      own p =
          by_option (waiting_from s' p q ≡ waiting_from s p q) (s.subscribers q) _ _ h (λ _ v. absurd v) (λ y present h.
          by_bool (waiting_from s' p q ≡ waiting_from s p q) y.is_due _ _ h
          (λ due h.
          let at : departed_at s q ≡ departed_of s y =
          ap (λ (o : Option Subscriber). option_map_or (departed_of s) o 0) present in
          let all : departed_at s q + 0 ≤ expired_limit s.config = room in
          ap (λ (t : State T U). waiting_from t p q) h.2 ∙ same-waits y present due (omega arith) h.0 failure h.1 p)
          (λ _ h. ap (λ (t : State T U). waiting_from t p q) h.0))
