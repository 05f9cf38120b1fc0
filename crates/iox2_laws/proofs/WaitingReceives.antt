-- What a subscriber's update, a receive and a release do to the number of messages that wait.
use Rattle.std.proofs.Common.{◌≡◌, ℕ, suc, ◌+◌, ◌≤◌, ◌<◌, Bool, true, false, cond, not, ◌&&◌, ◌||◌, List, [], ◌∷◌, ◌++◌}
use Rattle.std.proofs.Common.{length, refl, sym, ap, subst, ◌∙◌, arith, eqb, Option, None, Some, ⊎_elim}
use Rattle.std.specs.Prelude.{◌≢◌, ◌↔◌}
use Rattle.std.specs.List.{list_any, list_all, filter}
use Rattle.std.specs.Option.{option_map, option_map_or}
use Rattle.std.proofs.lemmas.Bool.{true≢false, ne_eqb, or_parts, and_parts}
use Rattle.std.proofs.lemmas.Option.{none-some, same_Some}
use Rattle.iox2_machine.specs.machine.Limits.{expired_limit}
use Rattle.iox2_machine.specs.machine.Numbers.{put_at, contains, is_nil}
use Rattle.iox2_machine.specs.machine.Places.{occupant, occupants, places_kept}
use Rattle.iox2_machine.specs.machine.Mailbox.{Mailbox, has_data, has_numbers, has_borrows, waiting_count}
use Rattle.iox2_machine.specs.machine.Mailbox.{with_released}
use Rattle.iox2_machine.specs.machine.Records.{Subscriber, Handler, Environment}
use Rattle.iox2_machine.specs.machine.State.{State, connected_publishers, has_sender_end, with_mailbox}
use Rattle.iox2_machine.specs.machine.State.{receiver_channels_reset}
use Rattle.iox2_machine.specs.machine.Connections.{ForEachPlace, first_failure, expired_buffer_full}
use Rattle.iox2_machine.specs.machine.SubscriberUpdate.{ReceiverSide, Retirement, Keep_expired, Evict, Discard_data}
use Rattle.iox2_machine.specs.machine.SubscriberUpdate.{Refuse, retirement_of, is_refused, after_retirement, with_end}
use Rattle.iox2_machine.specs.machine.SubscriberUpdate.{ConnectReceiver, Retire, ConnectAtPlace, DisconnectAtPlace}
use Rattle.iox2_machine.specs.machine.SubscriberUpdate.{UpdateReceiverSide, receiver_side, UpdateSubscriber}
use Rattle.iox2_machine.specs.machine.SubscriberUpdate.{with_receiver_side}
use Rattle.iox2_machine.specs.machine.Receives.{ReceiveResult, Got_sample, No_sample, Receive_error, has_any_data}
use Rattle.iox2_machine.specs.machine.Receives.{can_receive_of, MayReceiveFrom, TakeSample, Receive, HasSamples}
use Rattle.iox2_machine.specs.machine.Releases.{is_connected, pruned, is_unused, place_freed, freed_if_unused}
use Rattle.iox2_machine.specs.machine.Releases.{unborrowed, subscriber_pruned, released}
use Rattle.iox2_machine.specs.machine.Waiting.{receives_from, waiting_from}
use Rattle.iox2_machine.specs.machine.WellFormed.{IsWellFormed}
use Rattle.iox2_machine.specs.declared.degradation.DegradationAction.{DegradationAction}
use Rattle.iox2_machine.specs.declared.errors.ConnectionFailure.{ConnectionFailure}
use Rattle.iox2_laws.proofs.Cases.{by_option, by_bool}
use Rattle.iox2_laws.proofs.Puts.{put_at-same, put_at-other, at_each}
use Rattle.iox2_laws.proofs.FilterLemmas.{contains_in_filter, contains-filter}
use Rattle.iox2_laws.proofs.MailboxLemmas.{has_numbers-data}
use Rattle.iox2_laws.proofs.MailboxWalks.{receiver_side_keeps}
use Rattle.iox2_laws.proofs.NumberLemmas.{contains_in_append, contains_in_cons, contains_first, contains_later}
use Rattle.iox2_laws.proofs.NumberLemmas.{contains_left, contains_right}
use Rattle.iox2_laws.proofs.PlaceLemmas.{contains-occupants, leads_to, occupant-places_kept, places_kept_keeps}
use Rattle.iox2_laws.proofs.PortsStay.{PortsStay, update_subscriber_stays}
use Rattle.iox2_laws.proofs.ReleaseLaws.{at_each_mailbox}
use Rattle.iox2_laws.proofs.SubscriberUpdates.{update_subscriber_keeps}
use Rattle.iox2_laws.proofs.WaitingCounts.{SameWaits, sum_le, sum_zero, sum_one_less, sum_some, due_le, due_among}
use Rattle.iox2_laws.proofs.WaitingCounts.{cond_same, by_record, same_from, same_count, sum_below, waiting_for}

-- ---- walks that don't fail

no_failures : (first later : Option ConnectionFailure) → first_failure first later ≡ None
    → (first ≡ None) × (later ≡ None)
no_failures None later e = (refl, e)
no_failures (Some failure) later e = absurd (none-some failure (sym e))

-- what each step without failure keeps, a walk without failure keeps
quiet_walk : {Side : Type 0} (AtPlace : ℕ → Option ℕ → Side → Side → Option ConnectionFailure → Type 0)
    (Keeps : Side → Type 0)
    → ((place : ℕ) (at : Option ℕ) (side side' : Side) → Keeps side → AtPlace place at side side' None → Keeps side')
    → (place : ℕ) (rest : List (Option ℕ)) (side side' : Side) (failure : Option ConnectionFailure) → failure ≡ None
    → Keeps side
    → ForEachPlace AtPlace place rest side side' failure → Keeps side'
quiet_walk AtPlace Keeps each place [] side side' failure none keeps h = subst Keeps (sym h.0) keeps
quiet_walk AtPlace Keeps each place (at ∷ rest) side side' failure none keeps h =
    let both = no_failures h.1 h.2 (sym h.5 ∙ none) in
    quiet_walk AtPlace Keeps each (place + 1) rest h.0 side' h.2 both.1
    (each place at side h.0 keeps (subst (AtPlace place at side h.0) both.0 h.3)) h.4

-- ---- a subscriber's update leaves it due only where it fails

-- The subscriber is due no more.
abbrev IsUpdated : ReceiverSide → Type 0
IsUpdated side = side.is_due ≡ false

module _ (environment : Environment) (service_id q : ℕ) (handler : Handler DegradationAction) (limit : ℕ)
    (has_end : ℕ → Bool) where
  connected_updated : (side : ReceiverSide) (place p : ℕ) (side' : ReceiverSide) (failure : Option ConnectionFailure)
      → IsUpdated side
      → ConnectReceiver environment service_id q handler limit has_end side place p side' failure → IsUpdated side'
  connected_updated side place p side' failure is h =
      ⊎_elim (λ made. subst IsUpdated (sym made.0) is) (λ refused. subst IsUpdated (sym refused.3) is) h

  retired_updated : (side : ReceiverSide) (p : ℕ) (how : Retirement) → is_refused how ≡ false → IsUpdated side
      → IsUpdated (after_retirement q side p how)
  retired_updated side p Keep_expired kept is = is
  retired_updated side p (Evict first) kept is = is
  retired_updated side p Discard_data kept is = is
  retired_updated side p Refuse kept is = absurd (true≢false kept)

  retire_updated : (side : ReceiverSide) (place p : ℕ) (side' : ReceiverSide) (Then : ReceiverSide → Type 0)
      → IsUpdated side
      → ((mid : ReceiverSide) → IsUpdated mid → Then mid → IsUpdated side')
      → Retire environment service_id q handler limit has_end side place p side' None Then → IsUpdated side'
  retire_updated side place p side' Then is go h =
      let how : Retirement = retirement_of limit side.mailboxes side.expired p in
      by_bool (IsUpdated side') (is_refused how) _ _ h
      (λ _ k. absurd (none-some expired_buffer_full k.1))
      (λ kept k. go (with_end (after_retirement q side p how) place None) (retired_updated side p how kept is) k)

  at_place_updated : (place : ℕ) (at : Option ℕ) (side side' : ReceiverSide) → IsUpdated side
      → ConnectAtPlace environment service_id q handler limit has_end place at side side' None → IsUpdated side'
  at_place_updated place at side side' is h =
      by_option (IsUpdated side') at _ _ h (λ _ k. subst IsUpdated (sym k.0) is) (λ p _ k.
      by_option (IsUpdated side') (occupant side.ends place) _ _ k
      (λ _ j. connected_updated side place p side' None is j) (λ before _ j.
      by_bool (IsUpdated side') (eqb before p) _ _ j (λ _ i. subst IsUpdated (sym i.0) is) (λ _ i.
      retire_updated side place before side' _ is
      (λ mid mid_is f. connected_updated mid place p side' None mid_is f) i)))

  at_empty_updated : (place : ℕ) (at : Option ℕ) (side side' : ReceiverSide) → IsUpdated side
      → DisconnectAtPlace environment service_id q handler limit has_end place at side side' None → IsUpdated side'
  at_empty_updated place at side side' is h =
      by_option (IsUpdated side') at _ _ h
      (λ _ k. by_option (IsUpdated side') (occupant side.ends place) _ _ k (λ _ j. subst IsUpdated (sym j.0) is)
      (λ before _ j.
      let none : Option ConnectionFailure = None in
      retire_updated side place before side' (λ (mid : ReceiverSide). (side' ≡ mid) × (none ≡ None)) is
      (λ mid mid_is f. subst IsUpdated (sym f.0) mid_is) j))
      (λ p _ k. subst IsUpdated (sym k.0) is)

  side_updated : (places : List (Option ℕ)) (side side' : ReceiverSide) (failure : Option ConnectionFailure)
      → failure ≡ None → IsUpdated side
      → UpdateReceiverSide environment service_id q handler limit has_end places side side' failure → IsUpdated side'
  side_updated places side side' failure none is h =
      let both = no_failures h.1 h.2 (sym h.5 ∙ none) in
      quiet_walk (DisconnectAtPlace environment service_id q handler limit has_end) IsUpdated at_empty_updated 0 places
      h.0 side' h.2 both.1
      (quiet_walk (ConnectAtPlace environment service_id q handler limit has_end) IsUpdated at_place_updated 0 places
      side h.0 h.1 both.0 is h.3) h.4

-- a test that fails at each of the list fails at this one
fails_at : (test : ℕ → Bool) (ns : List ℕ) (n : ℕ) → list_any test ns ≡ false → contains ns n ≡ true → test n ≡ false
fails_at test [] n none at = absurd (true≢false (sym at))
fails_at test (m ∷ ns) n none at =
    ⊎_elim
    (λ same. ap test (sym same) ∙ (or_parts (test m) (list_any test ns) none).0)
    (λ later. fails_at test ns n (or_parts (test m) (list_any test ns) none).1 later)
    (contains_in_cons m n ns at)

no_data : (ns : List ℕ) → not (is_nil ns) ≡ false → length ns ≡ 0
no_data [] none = refl
no_data (n ∷ ns) none = absurd (true≢false none)

module _ {T U : Type 0} (environment : Environment) (s : State T U) (q : ℕ) where
  -- A subscriber's update: no more messages of anyone wait for it, and for the others what did.
  pub record UpdateWaits (s' : State T U) : Type 0 where
    pub ports : s'.next_port ≡ s.next_port
    pub fewer : (p : ℕ) → length (waiting_from s' p q) ≤ length (waiting_from s p q)
    pub among : (p k : ℕ) → contains (waiting_from s' p q) k ≡ true → contains (waiting_from s p q) k ≡ true
    pub others : (p i : ℕ) → i ≢ q → waiting_from s' p i ≡ waiting_from s p i

  pub update_subscriber_waits : (s' : State T U) (failure : Option ConnectionFailure)
      → UpdateSubscriber environment s q s' failure → UpdateWaits s'
  update_subscriber_waits s' failure h =
      by_option (UpdateWaits s') (s.subscribers q) _ _ h (λ _ v. absurd v) (λ y present h.
      by_bool (UpdateWaits s') y.is_due _ _ h
      (λ due h. subst UpdateWaits (sym h.2) (updated y present due h.0
      (receiver_side_keeps (λ p box. waiting_count box ≤ waiting_count (s.mailboxes p q))
      (λ i box less. omega arith) environment (s.config).service_id q y.degradation_handler (expired_limit s.config)
      (λ p. has_sender_end s p q) s.publisher_places (receiver_side s q y) h.0 failure (λ i. omega arith) h.1)
      (receiver_side_keeps (λ p box. (k : ℕ) → contains box.waiting k ≡ true
      → contains (s.mailboxes p q).waiting k ≡ true) (λ i box less k at. absurd (true≢false (sym at)))
      environment (s.config).service_id q y.degradation_handler (expired_limit s.config)
      (λ p. has_sender_end s p q) s.publisher_places (receiver_side s q y) h.0 failure (λ i k at. at) h.1)))
      (λ _ h. subst UpdateWaits (sym h.0)
      (record { ports = refl; fewer = λ p. omega arith; among = λ p k at. at; others = λ p i away. refl })))
    where
      updated : (y : Subscriber) → s.subscribers q ≡ Some y → y.is_due ≡ true → (side : ReceiverSide)
          → ((p : ℕ) → waiting_count (side.mailboxes p) ≤ waiting_count (s.mailboxes p q))
          → ((p k : ℕ) → contains (side.mailboxes p).waiting k ≡ true → contains (s.mailboxes p q).waiting k ≡ true)
          → UpdateWaits (receiver_channels_reset (with_receiver_side s q y side) q)
      updated y present due side less old = record { ports = refl; fewer = fewer; among = among; others = others } where
        after : Subscriber
        after = record y { ends = side.ends; expired = side.expired; is_due = side.is_due }

        s'' : State T U
        s'' = receiver_channels_reset (with_receiver_side s q y side) q

        now : (p : ℕ) → waiting_from s'' p q ≡ cond (receives_from after p) (side.mailboxes p).waiting []
        now p =
            by_record s'' p q (Some after) (put_at-same s.subscribers q (Some after))
            ∙ ap (λ (box : Mailbox). cond (receives_from after p) box.waiting [])
            (put_at-same (s.mailboxes p) q (side.mailboxes p))

        fewer : (p : ℕ) → length (waiting_from s'' p q) ≤ length (waiting_from s p q)
        fewer p =
            let here : length (waiting_from s'' p q) ≡ length
            (cond (receives_from after p) (side.mailboxes p).waiting []) = ap length (now p) in
            let there : length (waiting_from s p q) ≡ length (cond (receives_from y p) (s.mailboxes p q).waiting []) =
            ap length (by_record s p q (Some y) present) in
            let fewer : length (cond (receives_from after p) (side.mailboxes p).waiting []) ≤ length
            (cond (receives_from y p) (s.mailboxes p q).waiting []) =
            due_le y.is_open y.is_due (contains (connected_publishers y) p) side.is_due
            (contains (connected_publishers after) p) (s.mailboxes p q).waiting (side.mailboxes p).waiting due
            (less p) in
            omega arith

        among : (p k : ℕ) → contains (waiting_from s'' p q) k ≡ true → contains (waiting_from s p q) k ≡ true
        among p k at =
            ap (λ ns. contains ns k) (by_record s p q (Some y) present)
            ∙ due_among y.is_open y.is_due (contains (connected_publishers y) p) side.is_due
            (contains (connected_publishers after) p) (s.mailboxes p q).waiting (side.mailboxes p).waiting k due
            (old p k)
            (ap (λ ns. contains ns k) (sym (now p)) ∙ at)

        others : (p i : ℕ) → i ≢ q → waiting_from s'' p i ≡ waiting_from s p i
        others p i away =
            same_from s s'' p i (put_at-other s.subscribers q (Some after) i (ne_eqb i q away))
            (ap (λ (box : Mailbox). box.waiting)
            (put_at-other (s.mailboxes p) q (side.mailboxes p) i (ne_eqb i q away)))

  -- where its update didn't fail, it is due no more
  pub update_subscriber_updates : (s' : State T U) (failure : Option ConnectionFailure) → failure ≡ None
      → UpdateSubscriber environment s q s' failure
      → (y : Subscriber) → s'.subscribers q ≡ Some y → y.is_due ≡ false
  update_subscriber_updates s' failure none h y there =
      by_option (y.is_due ≡ false) (s.subscribers q) _ _ h (λ _ v. absurd v) (λ x present h.
      by_bool (y.is_due ≡ false) x.is_due _ _ h
      (λ _ h.
      let after : Subscriber = record x { ends = (h.0).ends; expired = (h.0).expired; is_due = (h.0).is_due } in
      let at : s'.subscribers q ≡ Some after =
      ap (λ (t : State T U). t.subscribers q) h.2 ∙ put_at-same s.subscribers q (Some after) in
      ap (λ (z : Subscriber). z.is_due) (same_Some y after (sym there ∙ at))
      ∙ side_updated environment (s.config).service_id q x.degradation_handler (expired_limit s.config)
      (λ p. has_sender_end s p q) s.publisher_places (receiver_side s q x) h.0 failure none refl h.1)
      (λ undue h. ap (λ (z : Subscriber). z.is_due)
      (same_Some y x (sym there ∙ ap (λ (t : State T U). t.subscribers q) h.0 ∙ present)) ∙ undue))

-- ---- receive

-- whom a message may be received from is connected
pub received_from : (borrow_limit : ℕ) (y : Subscriber) (boxes : ℕ → Mailbox) (p : ℕ)
    → MayReceiveFrom borrow_limit y boxes p → contains (connected_publishers y) p ≡ true
received_from borrow_limit y boxes p may =
    by_bool (contains (connected_publishers y) p ≡ true) (can_receive_of borrow_limit y boxes y.expired) _ _ may.1
    (λ _ h. contains_left y.expired (occupants y.ends) p h) (λ _ h. contains_right y.expired (occupants y.ends) p h)

pub open_receives : (is_open is_due known : Bool) (ns : List ℕ) → is_open ≡ true → known ≡ true
    → cond (is_open && (is_due || known)) ns [] ≡ ns
open_receives true true true ns o k = refl
open_receives true false true ns o k = refl
open_receives false is_due known ns o k = absurd (true≢false (sym o))
open_receives true is_due false ns o k = absurd (true≢false (sym k))

nothing_from : (is_open is_due known : Bool) (ns : List ℕ) → is_due ≡ false → (known ≡ true → length ns ≡ 0)
    → length (cond (is_open && (is_due || known)) ns []) ≡ 0
nothing_from false is_due known ns d none = refl
nothing_from true true known ns d none = absurd (true≢false d)
nothing_from true false true ns d none = none refl
nothing_from true false false ns d none = refl

module _ {T U : Type 0} where
  -- one fewer waits after one was taken
  pub take_waits : (s : State T U) (q : ℕ) (y : Subscriber) (s' : State T U) (p n : ℕ) → IsWellFormed s
      → s.subscribers q ≡ Some y → y.is_open ≡ true
      → TakeSample s q y s' (Got_sample p n) → suc (waiting_for s' q) ≡ waiting_for s q
  take_waits s q y s' p n w here is_open h =
      subst (λ (t : State T U). suc (waiting_for t q) ≡ waiting_for s q) (sym h.3)
      (sum_one_less (λ i. length (waiting_from after i q))
      (λ i. length (waiting_from s i q)) p s.next_port known one others)
    where
      box : Mailbox
      box = h.1

      after : State T U
      after = with_mailbox s p q box

      this : after.mailboxes p q ≡ box
      this = ap (λ (row : ℕ → Mailbox). row q) (put_at-same s.mailboxes p (put_at (s.mailboxes p) q box))
          ∙ put_at-same (s.mailboxes p) q box

      waits : (s.mailboxes p q).waiting ≡ n ∷ (h.2).0
      waits = (h.2).1

      known : p < s.next_port
      known = ((w.mailboxes p q).known (has_numbers-data (s.mailboxes p q) (ap (λ ns. not (is_nil ns)) waits))).0

      all : (t : State T U) → t.subscribers q ≡ Some y → waiting_from t p q ≡ (t.mailboxes p q).waiting
      all t at = by_record t p q (Some y) at
          ∙ open_receives y.is_open y.is_due (contains (connected_publishers y) p) (t.mailboxes p q).waiting is_open
          (received_from (s.config).subscriber_max_borrowed_samples y (λ i. s.mailboxes i q) p h.0)

      one : suc (length (waiting_from after p q)) ≡ length (waiting_from s p q)
      one =
          let now : length (waiting_from after p q) ≡ length (h.2).0 =
          ap length (all after here ∙ ap (λ (b : Mailbox). b.waiting) (this ∙ (h.2).2)) in
          let before : length (waiting_from s p q) ≡ suc (length (h.2).0) = ap length (all s here ∙ waits) in
          omega arith

      others : (i : ℕ) → (i ≡ p → ⊥) → length (waiting_from after i q) ≡ length (waiting_from s i q)
      others i away =
          ap length
          (same_from s after i q refl (ap (λ (row : ℕ → Mailbox). (row q).waiting)
          (put_at-other s.mailboxes p (put_at (s.mailboxes p) q box) i (ne_eqb i p away))))

  -- and it was the first that waited
  taken_waited : (s : State T U) (q : ℕ) (y : Subscriber) (s' : State T U) (p n : ℕ) → s.subscribers q ≡ Some y
      → y.is_open ≡ true
      → TakeSample s q y s' (Got_sample p n) → contains (waiting_from s p q) n ≡ true
  taken_waited s q y s' p n here is_open h =
      ap (λ ns. contains ns n) (by_record s p q (Some y) here
      ∙ open_receives y.is_open y.is_due (contains (connected_publishers y) p) (s.mailboxes p q).waiting is_open
      (received_from (s.config).subscriber_max_borrowed_samples y (λ i. s.mailboxes i q) p h.0)
      ∙ (h.2).1)
      ∙ contains_first n (h.2).0

  -- nothing waits where no connection has anything, and the subscriber isn't due
  none_wait : (limit : ℕ) (s : State T U) (q : ℕ) (y : Subscriber) → s.subscribers q ≡ Some y → y.is_due ≡ false
      → has_any_data y (λ p. s.mailboxes p q) ≡ false → waiting_for s q ≡ 0
  none_wait limit s q y here undue none = sum_zero (λ p. length (waiting_from s p q)) s.next_port (λ p.
      ap length (by_record s p q (Some y) here)
      ∙ nothing_from y.is_open y.is_due (contains (connected_publishers y) p) (s.mailboxes p q).waiting undue
      (λ known. no_data (s.mailboxes p q).waiting
      (fails_at (λ i. has_data (s.mailboxes i q)) (connected_publishers y) p none known)))

module _ {T U : Type 0} (environment : Environment) (s : State T U) (q : ℕ) where
  -- no more wait after the subscriber's update, and for the others as many as did
  pub update_subscriber_counts : (s' : State T U) → UpdateWaits environment s q s' → waiting_for s' q ≤ waiting_for s q
  update_subscriber_counts s' waits =
      let same : waiting_for s' q ≡ sum_below (λ p. length (waiting_from s' p q)) s.next_port =
      ap (sum_below (λ p. length (waiting_from s' p q))) waits.ports in
      let less : sum_below (λ p. length (waiting_from s' p q)) s.next_port ≤ waiting_for s q =
      sum_le (λ p. length (waiting_from s' p q)) (λ p. length (waiting_from s p q)) s.next_port waits.fewer in
      omega arith

  pub update_subscriber_others : (s' : State T U) → UpdateWaits environment s q s' → (i : ℕ) → i ≢ q
      → waiting_for s' i ≡ waiting_for s i
  update_subscriber_others s' waits i away = same_count s s' i waits.ports (λ p. ap length (waits.others p i away))

  -- Nobody else gets or loses a message.
  pub record OthersSame (s' : State T U) : Type 0 where
    pub ports : s'.next_port ≡ s.next_port
    pub from : (p i : ℕ) → i ≢ q → waiting_from s' p i ≡ waiting_from s p i

  -- fewer wait after a message was received
  pub receive_fewer : (p n : ℕ) (s' : State T U) (y : Subscriber) → IsWellFormed s → s.subscribers q ≡ Some y
      → y.is_open ≡ true → Receive environment s q s' (Got_sample p n) → waiting_for s' q < waiting_for s q
  receive_fewer p n s' y w here is_open h =
      let waits : UpdateWaits environment s q h.0 = update_subscriber_waits environment s q h.0 h.1 h.2 in
      let stays : PortsStay s h.0 = update_subscriber_stays environment s q h.0 h.1 h.2 in
      let there = (stays.remain).subscribers q y here is_open in
      by_option (waiting_for s' q < waiting_for s q) h.1 _ _ h.3
      (λ _ k. by_option (waiting_for s' q < waiting_for s q) ((h.0).subscribers q) _ _ k (λ _ v. absurd v) (λ z at k.
      let open_now : z.is_open ≡ true =
      ap (λ (v : Subscriber). v.is_open) (same_Some z there.0 (sym at ∙ there.1)) ∙ there.2 in
      let one : suc (waiting_for s' q) ≡ waiting_for h.0 q =
      take_waits h.0 q z s' p n (update_subscriber_keeps environment s q h.0 h.1 w h.2) at open_now k in
      let less : waiting_for h.0 q ≤ waiting_for s q = update_subscriber_counts h.0 waits in
      omega arith))
      (λ e _ k. let clash : Got_sample p n ≡ Receive_error _ = k.1 in absurd cc)

  -- what was received waited
  pub receive_waited : (p n : ℕ) (s' : State T U) (y : Subscriber) → s.subscribers q ≡ Some y → y.is_open ≡ true
      → Receive environment s q s' (Got_sample p n) → contains (waiting_from s p q) n ≡ true
  receive_waited p n s' y here is_open h =
      let waits : UpdateWaits environment s q h.0 = update_subscriber_waits environment s q h.0 h.1 h.2 in
      let stays : PortsStay s h.0 = update_subscriber_stays environment s q h.0 h.1 h.2 in
      let there = (stays.remain).subscribers q y here is_open in
      by_option (contains (waiting_from s p q) n ≡ true) h.1 _ _ h.3
      (λ _ k.
      by_option (contains (waiting_from s p q) n ≡ true) ((h.0).subscribers q) _ _ k (λ _ v. absurd v) (λ z at k.
      waits.among p n (taken_waited h.0 q z s' p n at
      (ap (λ (v : Subscriber). v.is_open) (same_Some z there.0 (sym at ∙ there.1)) ∙ there.2) k)))
      (λ e _ k. let clash : Got_sample p n ≡ Receive_error _ = k.1 in absurd cc)

  -- nothing waits where none was received
  pub receive_none : (s' : State T U) → Receive environment s q s' No_sample → waiting_for s' q ≡ 0
  receive_none s' h =
      by_option (waiting_for s' q ≡ 0) h.1 _ _ h.3
      (λ none k. by_option (waiting_for s' q ≡ 0) ((h.0).subscribers q) _ _ k (λ _ v. absurd v) (λ z at k.
      subst (λ (t : State T U). waiting_for t q ≡ 0) (sym k.1)
      (none_wait ((h.0).config).subscriber_max_borrowed_samples h.0 q z at
      (update_subscriber_updates environment s q h.0 h.1 none h.2 z at) k.0)))
      (λ e _ k. let clash : No_sample ≡ Receive_error _ = k.1 in absurd cc)

  -- what waits for another subscriber stays
  pub receive_others : (s' : State T U) (result : ReceiveResult) → Receive environment s q s' result → OthersSame s'
  receive_others s' result h =
      let waits : UpdateWaits environment s q h.0 = update_subscriber_waits environment s q h.0 h.1 h.2 in
      let first : OthersSame h.0 = record { ports = waits.ports; from = waits.others } in
      by_option (OthersSame s') h.1 _ _ h.3
      (λ _ k. by_option (OthersSame s') ((h.0).subscribers q) _ _ k (λ _ v. absurd v) (λ z _ k. taken first z result k))
      (λ e _ k. subst OthersSame (sym k.0) first)
    where
      taken : OthersSame h.0 → (z : Subscriber) (r : ReceiveResult) → TakeSample h.0 q z s' r → OthersSame s'
      taken first z (Got_sample p n) k = subst OthersSame (sym k.3) (record {
        ports = first.ports;
        from = λ j i away. same_from h.0 (with_mailbox h.0 p q k.1) j i refl
            (at_each (h.0).mailboxes p (put_at ((h.0).mailboxes p) q k.1)
            (λ v row. (row i).waiting ≡ ((h.0).mailboxes v i).waiting) j
            (λ _. ap (λ (box : Mailbox). box.waiting) (put_at-other ((h.0).mailboxes p) q k.1 i (ne_eqb i q away)))
            (λ _. refl))
            ∙ first.from j i away;
      })
      taken first z No_sample k = subst OthersSame (sym k.1) first
      taken first z (Receive_error e) k = subst OthersSame (sym k.3) first

  -- no more wait than before, whatever was received
  pub receive_no_more : (s' : State T U) (result : ReceiveResult) (y : Subscriber) → IsWellFormed s
      → s.subscribers q ≡ Some y → y.is_open ≡ true → Receive environment s q s' result
      → waiting_for s' q ≤ waiting_for s q
  receive_no_more s' (Got_sample p n) y w here is_open h =
      let fewer : waiting_for s' q < waiting_for s q = receive_fewer p n s' y w here is_open h in omega arith
  receive_no_more s' No_sample y w here is_open h = let none : waiting_for s' q ≡ 0 = receive_none s' h in omega arith
  receive_no_more s' (Receive_error e) y w here is_open h =
      let less : waiting_for h.0 q ≤ waiting_for s q =
      update_subscriber_counts h.0 (update_subscriber_waits environment s q h.0 h.1 h.2) in
      by_option (waiting_for s' q ≤ waiting_for s q) h.1 _ _ h.3
      (λ _ k. by_option (waiting_for s' q ≤ waiting_for s q) ((h.0).subscribers q) _ _ k (λ _ v. absurd v) (λ z _ k.
      let same : waiting_for s' q ≡ waiting_for h.0 q = ap (λ (t : State T U). waiting_for t q) k.3 in omega arith))
      (λ _ _ k. let same : waiting_for s' q ≡ waiting_for h.0 q = ap (λ (t : State T U). waiting_for t q) k.0 in
      omega arith)

-- ---- the question whether anything waits

-- a test that some of the list passes is passed by one of it
pub passes_at : (test : ℕ → Bool) (ns : List ℕ) → list_any test ns ≡ true
    → (n : ℕ) × (test n ≡ true) × (contains ns n ≡ true)
passes_at test [] some = absurd (true≢false (sym some))
passes_at test (m ∷ ns) some =
    at (λ later. passes_at test ns later) (test m) refl
  where
    at : (list_any test ns ≡ true → (k : ℕ) × (test k ≡ true) × (contains ns k ≡ true)) → (b : Bool) → test m ≡ b
        → (k : ℕ) × (test k ≡ true) × (contains (m ∷ ns) k ≡ true)
    at rest true e = (m, e, contains_first m ns)
    at rest false e =
        let later : (k : ℕ) × (test k ≡ true) × (contains ns k ≡ true) =
        rest (subst (λ b. (b || list_any test ns) ≡ true) e some) in
        (later.0, later.1, contains_later m later.0 ns later.2)

some_length : (ns : List ℕ) → not (is_nil ns) ≡ true → 0 < length ns
some_length [] some = absurd (true≢false (sym some))
some_length (n ∷ ns) some = omega arith

module _ {T U : Type 0} (environment : Environment) (s : State T U) (q : ℕ) where
  -- something waits exactly where the answer is that it does
  pub has_samples_says : (s' : State T U) (result : Bool) (y : Subscriber) → IsWellFormed s → s.subscribers q ≡ Some y
      → y.is_open ≡ true → HasSamples environment s q s' None result
      → (result ≡ true) ↔ (0 < waiting_for s' q)
  has_samples_says s' result y w here is_open h =
      let stays : PortsStay s s' = update_subscriber_stays environment s q s' None h.0 in
      let there = (stays.remain).subscribers q y here is_open in
      let after : IsWellFormed s' = update_subscriber_keeps environment s q s' None w h.0 in
      by_option ((result ≡ true) ↔ (0 < waiting_for s' q)) (s'.subscribers q) _ _ h.1 (λ _ v. absurd v) (λ z at says.
      let open_now : z.is_open ≡ true =
      ap (λ (v : Subscriber). v.is_open) (same_Some z there.0 (sym at ∙ there.1)) ∙ there.2 in
      let undue : z.is_due ≡ false = update_subscriber_updates environment s q s' None refl h.0 z at in
      (yes z at open_now after says, no z at undue says))
    where
      yes : (z : Subscriber) → s'.subscribers q ≡ Some z → z.is_open ≡ true → IsWellFormed s'
          → result ≡ has_any_data z (λ p. s'.mailboxes p q)
          → result ≡ true → 0 < waiting_for s' q
      yes z at open_now after says is =
          let one = passes_at (λ p. has_data (s'.mailboxes p q)) (connected_publishers z) (sym says ∙ is) in
          let known : one.0 < s'.next_port =
          ((after.mailboxes one.0 q).known (has_numbers-data (s'.mailboxes one.0 q) one.1)).0 in
          let all : waiting_from s' one.0 q ≡ (s'.mailboxes one.0 q).waiting =
          by_record s' one.0 q (Some z) at ∙ open_receives z.is_open z.is_due (contains (connected_publishers z) one.0)
          (s'.mailboxes one.0 q).waiting open_now one.2 in
          let some : 0 < length (waiting_from s' one.0 q) =
          subst (λ (ns : List ℕ). 0 < length ns) (sym all) (some_length (s'.mailboxes one.0 q).waiting one.1) in
          sum_some (λ p. length (waiting_from s' p q)) one.0 s'.next_port known some

      no : (z : Subscriber) → s'.subscribers q ≡ Some z → z.is_due ≡ false
          → result ≡ has_any_data z (λ p. s'.mailboxes p q)
          → 0 < waiting_for s' q → result ≡ true
      no z at undue says some = by result refl where
        by : (b : Bool) → result ≡ b → b ≡ true
        by true e = refl
        by false e = let none : waiting_for s' q ≡ 0 = none_wait
            (s.config).subscriber_max_borrowed_samples s' q z at undue (sym says ∙ e) in absurd (omega arith)

-- ---- release

both_ways : (a b : Bool) → (a ≡ true → b ≡ true) → (b ≡ true → a ≡ true) → a ≡ b
both_ways true true there back = refl
both_ways true false there back = sym (there refl)
both_ways false true there back = back refl
both_ways false false there back = refl

-- a publisher that passes the test stands where it stood
kept_same : (test : ℕ → Bool) (expired : List ℕ) (ends : List (Option ℕ)) (p : ℕ) → test p ≡ true
    → contains (filter test expired ++ occupants (places_kept test ends)) p ≡ contains (expired ++ occupants ends) p
kept_same test expired ends p passes = both_ways _ _ there back where
  there : contains (filter test expired ++ occupants (places_kept test ends)) p ≡ true
      → contains (expired ++ occupants ends) p ≡ true
  there h = ⊎_elim
      (λ left. contains_left expired (occupants ends) p (contains_in_filter test expired p left).0)
      (λ right. let at = leads_to (places_kept test ends) p right in
      contains_right expired (occupants ends) p
      (contains-occupants ends p (at.0, (occupant-places_kept test ends at.0 p at.1).0)))
      (contains_in_append (filter test expired) (occupants (places_kept test ends)) p h)

  back : contains (expired ++ occupants ends) p ≡ true
      → contains (filter test expired ++ occupants (places_kept test ends)) p ≡ true
  back h = ⊎_elim
      (λ left. contains_left (filter test expired) (occupants (places_kept test ends)) p
      (contains-filter test expired p left passes))
      (λ right. let at = leads_to ends p right in
      contains_right (filter test expired) (occupants (places_kept test ends)) p
      (contains-occupants (places_kept test ends) p (at.0, places_kept_keeps test ends at.0 p at.1 passes)))
      (contains_in_append expired (occupants ends) p h)

-- a mailbox in which something waits has numbers
some_waits : (box : Mailbox) → (box.waiting ≡ [] → ⊥) → has_numbers box ≡ true
some_waits box some = has_numbers-data box (at box.waiting some) where
  at : (ns : List ℕ) → (ns ≡ [] → ⊥) → not (is_nil ns) ≡ true
  at [] some = absurd (some refl)
  at (n ∷ ns) some = refl

or_true : (a b : Bool) → b ≡ true → (a || b) ≡ true
or_true true b e = refl
or_true false b e = e

module _ {T U : Type 0} (s : State T U) (q : ℕ) where
  -- departed publishers of which there is no message are forgotten
  pub pruned_waits : (i j : ℕ) → waiting_from (subscriber_pruned s q) i j ≡ waiting_from s i j
  pruned_waits i j =
      at_each s.subscribers q (option_map (pruned s q) (s.subscribers q))
      (λ k o. cond (option_map_or (λ (y : Subscriber). receives_from y i) o false)
      (s.mailboxes i k).waiting [] ≡ waiting_from s i k) j
      (λ _. own (s.subscribers q)) (λ _. refl)
    where
      own : (o : Option Subscriber)
          → cond (option_map_or (λ (y : Subscriber). receives_from y i) (option_map (pruned s q) o) false)
          (s.mailboxes i q).waiting []
          ≡ cond (option_map_or (λ (y : Subscriber). receives_from y i) o false) (s.mailboxes i q).waiting []
      own None = refl
      own (Some y) = cond_same (receives_from (pruned s q y) i) (receives_from y i) (s.mailboxes i q).waiting (λ some.
          ap (λ known. y.is_open && (y.is_due || known))
          (kept_same (is_connected s q) y.expired y.ends i
          (or_true _ (has_numbers (s.mailboxes i q)) (some_waits (s.mailboxes i q) some))))

  -- a closed subscriber goes
  pub freed_waits : (i j : ℕ) → waiting_from (freed_if_unused s q) i j ≡ waiting_from s i j
  freed_waits i j = by (is_unused s q) refl where
    by : (b : Bool) → is_unused s q ≡ b → waiting_from (cond b (place_freed s q) s) i j ≡ waiting_from s i j
    by false e = refl
    by true e = at_each s.subscribers q None
        (λ k o. cond (option_map_or (λ (y : Subscriber). receives_from y i) o false)
        (s.mailboxes i k).waiting [] ≡ waiting_from s i k) j
        (λ _. sym (shut (s.subscribers q) e)) (λ _. refl)
      where
        shut : (o : Option Subscriber)
            → option_map_or (λ (y : Subscriber). not y.is_open && list_all (λ p. not (has_borrows (s.mailboxes p q)))
            (connected_publishers y)) o false ≡ true
            → cond (option_map_or (λ (y : Subscriber). receives_from y i) o false) (s.mailboxes i q).waiting [] ≡ []
        shut None e = refl
        shut (Some y) e = closed y.is_open (and_parts (not y.is_open) _ e).0 where
          closed : (b : Bool) → not b ≡ true
              → cond (b && (y.is_due || contains (connected_publishers y) i)) (s.mailboxes i q).waiting [] ≡ []
          closed true e = absurd (true≢false (sym e))
          closed false e = refl

-- the same messages wait after a release as before
pub released_waits : {T U : Type 0} (s : State T U) (p q n : ℕ) → SameWaits s (released s p q n)
released_waits {T} {U} s p q n = record {
  ports = ports (is_unused t q);
  from = λ j i. reset_waits j i ∙ freed_waits t q j i ∙ pruned_waits u q j i ∙ unborrowed_first j i;
}
  where
    u : State T U
    u = unborrowed s p q n

    t : State T U
    t = subscriber_pruned u q

    reset_waits : (j i : ℕ) → waiting_from (released s p q n) j i ≡ waiting_from (freed_if_unused t q) j i
    reset_waits j i = refl

    ports : (b : Bool) → (cond b (place_freed t q) t).next_port ≡ s.next_port
    ports true = refl
    ports false = refl

    unborrowed_first : (j i : ℕ) → waiting_from u j i ≡ waiting_from s j i
    unborrowed_first j i =
        same_from s u j i refl (at_each_mailbox s.mailboxes p q (with_released n (s.mailboxes p q))
        (λ a b box. box.waiting ≡ (s.mailboxes a b).waiting) j i refl refl)
