-- Steps in which nothing is sent or received: updates, and ports that are made.
use Rattle.std.proofs.Common.{◌≡◌, ℕ, ◌≤◌, Bool, true, false, cond, List, refl, sym, ap, subst, ◌∙◌, arith, eqb, ◌⊎◌}
use Rattle.std.proofs.Common.{inl, inr, ⊎_elim, Option, None, Some, is_some, []}
use Rattle.std.specs.Option.{option_and_then}
use Rattle.std.proofs.lemmas.Bool.{true≢false, cond_both}
use Rattle.std.proofs.lemmas.Option.{none-some, same_Some, option_and_then_some}
use Rattle.iox2_machine.specs.machine.Limits.{expired_limit}
use Rattle.iox2_machine.specs.machine.Numbers.{last_n}
use Rattle.iox2_machine.specs.machine.Places.{occupant, is_port}
use Rattle.iox2_machine.specs.machine.Mailbox.{Mailbox, waiting_dropped, with_waiting}
use Rattle.iox2_machine.specs.machine.Records.{Publisher, Subscriber, Handler, Environment, PublisherSettings}
use Rattle.iox2_machine.specs.machine.Records.{SubscriberSettings}
use Rattle.iox2_machine.specs.machine.State.{State, receiving_buffer, has_receiver_end, has_sender_end, with_warning}
use Rattle.iox2_machine.specs.machine.State.{sender_channels_reset, receiver_channels_reset}
use Rattle.iox2_machine.specs.machine.Connections.{ForEachPlace}
use Rattle.iox2_machine.specs.machine.PublisherUpdate.{SenderSide, SenderAction, Keep_end, Drop_waiting, Disconnect}
use Rattle.iox2_machine.specs.machine.PublisherUpdate.{Connect, sender_action, dropped, disconnected, connected}
use Rattle.iox2_machine.specs.machine.PublisherUpdate.{Performs, UpdateSenderPlace, sender_side, with_sender_side}
use Rattle.iox2_machine.specs.machine.PublisherUpdate.{history_for, UpdatePublisher}
use Rattle.iox2_machine.specs.machine.SubscriberUpdate.{ReceiverSide, Retirement, Keep_expired, Evict, Discard_data}
use Rattle.iox2_machine.specs.machine.SubscriberUpdate.{Refuse, data_discarded, after_retirement, is_refused}
use Rattle.iox2_machine.specs.machine.SubscriberUpdate.{retirement_of, with_end, ConnectReceiver, Retire}
use Rattle.iox2_machine.specs.machine.SubscriberUpdate.{ConnectAtPlace, DisconnectAtPlace, UpdateReceiverSide}
use Rattle.iox2_machine.specs.machine.SubscriberUpdate.{receiver_side, with_receiver_side, UpdateSubscriber}
use Rattle.iox2_machine.specs.machine.Ports.{FirstPublisherUpdate, FirstSubscriberUpdate, with_new_publisher}
use Rattle.iox2_machine.specs.machine.Ports.{new_publisher, with_new_subscriber, new_subscriber, with_failure_warning}
use Rattle.iox2_machine.specs.machine.Ports.{CreatePublisher, CreateSubscriber}
use Rattle.iox2_machine.specs.machine.WellFormed.{LeadsTo, IsInjective, IsWellFormed}
use Rattle.iox2_machine.specs.declared.degradation.DegradationAction.{DegradationAction}
use Rattle.iox2_machine.specs.declared.errors.ConnectionFailure.{ConnectionFailure}
use Rattle.iox2_machine.specs.declared.errors.PublisherCreateError.{PublisherCreateError}
use Rattle.iox2_machine.specs.declared.errors.SubscriberCreateError.{SubscriberCreateError}
use Rattle.iox2_machine.specs.declared.warning.Warning.{Warning}
use Rattle.iox2_laws.proofs.Cases.{by_option, by_bool}
use Rattle.iox2_laws.proofs.CallCases.{publisher_cases, subscriber_cases}
use Rattle.iox2_laws.proofs.Puts.{at_each, found_put, put_at-same}
use Rattle.iox2_laws.proofs.PlaceLemmas.{is_port-false, found_set}
use Rattle.iox2_laws.proofs.Walks.{for_each_place_keeps}
use Rattle.iox2_commands.specs.Runs.{IsSubsequence}
use Rattle.iox2_commands.proofs.Subsequences.{IsSubsequence-nil, IsSubsequence-refl, IsSubsequence-last_n}
use Rattle.iox2_commands.proofs.Subsequences.{IsSubsequence-trans}
use Rattle.iox2_commands.proofs.Ordered.{Ordered, quiet_keeps, Quiet, WasPublisher, WasOpen, Waited, same_publisher}
use Rattle.iox2_commands.proofs.Ordered.{same_loan, same_waiting}
use Rattle.iox2_commands.proofs.OrderSteps.{quiet_refl, due_publisher, opened_mapped}
use Rattle.iox2_laws.proofs.SenderSides.{end_stays, nothing_after}
use Rattle.iox2_machine.specs.machine.Channel.{is_closed}

-- something is there
there : {A : Type 0} (o : Option A) → is_some o ≡ true → (a : A) × (o ≡ Some a)
there None h = absurd (true≢false (sym h))
there (Some a) h = (a, refl)

-- ---- a publisher's update

module _ (places : List (Option ℕ)) (buffers : ℕ → Option ℕ) (boxes : ℕ → Mailbox) (old_ends : List (Option ℕ))
    (history : List ℕ) where
  -- less waits than at the start, or a part of the history where the receiver is open and there was no end to it
  abbrev Comes : (q : ℕ) → Mailbox → Type 0
  Comes q box = IsSubsequence box.waiting (boxes q).waiting
      ⊎ ((is_some (buffers q) ≡ true) × (LeadsTo old_ends q → ⊥) × IsSubsequence box.waiting history)

  -- Ends to open receivers stand where these do, and those of the start are there still; and so much waits.
  pub record SideInOrder (side : SenderSide) : Type 0 where
    pub stands : (i q buffer : ℕ) → occupant side.ends i ≡ Some q → buffers q ≡ Some buffer → occupant places i ≡ Some q
    pub kept : (q buffer : ℕ) → buffers q ≡ Some buffer → LeadsTo old_ends q → LeadsTo side.ends q
    pub waits : (q : ℕ) → Comes q (side.mailboxes q)

  dropped_in_order : (side : SenderSide) (q : ℕ) → SideInOrder side → SideInOrder (dropped side q)
  dropped_in_order side q k = record {
    stands = k.stands;
    kept = k.kept;
    waits = λ r. at_each side.mailboxes q (waiting_dropped (side.mailboxes q)) Comes r
        (λ _. inl (IsSubsequence-nil (boxes q).waiting)) (λ _. k.waits r);
  }

  disconnected_in_order : (side : SenderSide) (place : ℕ) (end : Option ℕ) → occupant side.ends place ≡ end
      → ((r buffer : ℕ) → end ≡ Some r → buffers r ≡ Some buffer → ⊥)
      → SideInOrder side → SideInOrder (disconnected side place end)
  disconnected_in_order side place None e apart k = k
  disconnected_in_order side place (Some q) e apart k = record {
    stands = λ i r buffer h b. ⊎_elim (λ new. absurd (none-some r new.1)) (λ old. k.stands i r buffer old.1 b)
        (found_set side.ends place None i r h);
    kept = λ r buffer b l. let l' : LeadsTo side.ends r = k.kept r buffer b l in (
      l'.0,
      end_stays side.ends place l'.0 r None
          (λ same. apart r buffer (sym e ∙ ap (occupant side.ends) (sym same) ∙ l'.1) b) l'.1,
    );
    waits = (dropped_in_order side q k).waits;
  }

  connected_in_order : (ns : List ℕ) → IsSubsequence ns history → (side : SenderSide) (place q buffer : ℕ)
      → IsInjective places → occupant places place ≡ Some q
      → buffers q ≡ Some buffer → occupant side.ends place ≡ None
      → SideInOrder side → SideInOrder (connected ns side place q buffer)
  connected_in_order ns part side place q buffer apart at opened free k =
      let nowhere : LeadsTo side.ends q → ⊥ = λ l.
      let same : l.0 ≡ place = apart l.0 place q (k.stands l.0 q buffer l.1 opened) at in
      none-some q (sym free ∙ ap (occupant side.ends) (sym same) ∙ l.1) in
      record {
        stands = λ i r b h o. ⊎_elim (λ new. ap (occupant places) new.0 ∙ at ∙ new.1) (λ old. k.stands i r b old.1 o)
            (found_set side.ends place (Some q) i r h);
        kept = λ r b o l. let l' : LeadsTo side.ends r = k.kept r b o l in (
          l'.0,
          end_stays side.ends place l'.0 r (Some q)
              (λ same. none-some r (sym free ∙ ap (occupant side.ends) (sym same) ∙ l'.1)) l'.1,
        );
        waits = λ r. at_each side.mailboxes q (with_waiting (last_n buffer ns) (side.mailboxes q)) Comes r
            (λ _. inr (
              ap is_some opened,
              (λ l. nowhere (k.kept q buffer opened l)),
              IsSubsequence-trans (IsSubsequence-last_n buffer ns) part,
            )) (λ _. k.waits r);
      }

  module _ (environment : Environment) (service_id p : ℕ) (handler : Handler DegradationAction) (histories : ℕ → List ℕ)
      (part : (q : ℕ) → IsSubsequence (histories q) history)
      (has_end : ℕ → Bool) (apart : IsInjective places) where
    abbrev Does : SenderAction → (place : ℕ) → SenderSide → SenderSide → Option ConnectionFailure → Type 0
    Does = Performs environment service_id p handler histories buffers has_end

    performed_in_order : (place : ℕ) (at end : Option ℕ) (side side' : SenderSide) (failure : Option ConnectionFailure)
        → occupant places place ≡ at → occupant side.ends place ≡ end → SideInOrder side
        → Does (sender_action buffers at end) place side side' failure
        → SideInOrder side'
    performed_in_order place None end side side' failure a e k h =
        subst SideInOrder (sym h.0)
        (disconnected_in_order side place (occupant side.ends place) refl
        (λ r buffer f b. none-some r (sym a ∙ k.stands place r buffer f b)) k)
    performed_in_order place (Some q) end side side' failure a e k h =
        let here : (r buffer : ℕ) → occupant side.ends place ≡ Some r → buffers r ≡ Some buffer → q ≡ r =
        λ r buffer f b.
        same_Some q r (sym a ∙ k.stands place r buffer f b) in
        let gone : is_port end q ≡ false → (r buffer : ℕ) → occupant side.ends place ≡ Some r → buffers r ≡ Some buffer
        → ⊥ = λ other r buffer f b.
        is_port-false end q other (sym e ∙ f ∙ ap Some (sym (here r buffer f b))) in
        elim (buffers q) as (λ o. buffers q ≡ o
        → Does (elim o [
          | None ↦ cond (is_port end q) (Drop_waiting q) Disconnect
          | Some buffer ↦
              cond (is_port end q) Keep_end (Connect q buffer)
        ]) place side side' failure
        → SideInOrder side') [
          | None ↦ λ closed. elim (is_port end q) as (λ b. is_port end q ≡ b
              → Does (cond b (Drop_waiting q) Disconnect) place side side' failure → SideInOrder side') [
                | true ↦ λ _ h. subst SideInOrder (sym h.0) (dropped_in_order side q k)
                | false ↦ λ other h. subst SideInOrder (sym h.0)
                    (disconnected_in_order side place (occupant side.ends place) refl (gone other) k)
              ] refl
          | Some buffer ↦ λ opened. elim (is_port end q) as (λ b. is_port end q ≡ b
              → Does (cond b Keep_end (Connect q buffer)) place side side' failure → SideInOrder side') [
                | true ↦ λ _ h. subst SideInOrder (sym h.0) k
                | false ↦ λ other h.
                    let mid : SenderSide = disconnected side place (occupant side.ends place) in
                    let k' : SideInOrder mid =
                    disconnected_in_order side place (occupant side.ends place) refl (gone other) k in
                    ⊎_elim
                    (λ made. subst SideInOrder (sym made.0)
                    (connected_in_order (histories q) (part q) mid place q buffer apart a opened
                    (nothing_after side place (occupant side.ends place) refl) k'))
                    (λ refused. subst SideInOrder (sym refused.3)
                    (record { stands = k'.stands; kept = k'.kept; waits = k'.waits })) h
              ] refl
        ] refl h

    side_in_order : (side side' : SenderSide) (failure : Option ConnectionFailure) → SideInOrder side
        → ForEachPlace (UpdateSenderPlace environment service_id p handler histories buffers has_end) 0 places side
        side' failure → SideInOrder side'
    side_in_order side side' failure k h =
        for_each_place_keeps
        (UpdateSenderPlace environment service_id p handler histories buffers has_end) SideInOrder places
        (λ i side side' failure _ k h.
        performed_in_order i (occupant places i) (occupant side.ends i) side side' failure refl refl k h)
        side side' failure k h

-- ---- a subscriber's update

-- in no mailbox more waits than at the start
abbrev FewerWait : (ℕ → Mailbox) → ReceiverSide → Type 0
FewerWait boxes side = (p : ℕ) → IsSubsequence (side.mailboxes p).waiting (boxes p).waiting

discarded_fewer : (boxes : ℕ → Mailbox) (q : ℕ) (side : ReceiverSide) (p : ℕ) → FewerWait boxes side
    → FewerWait boxes (data_discarded q side p)
discarded_fewer boxes q side p k i =
    at_each side.mailboxes p (waiting_dropped (side.mailboxes p))
    (λ j box. IsSubsequence box.waiting (boxes j).waiting) i (λ _. IsSubsequence-nil (boxes p).waiting) (λ _. k i)

retired_fewer : (boxes : ℕ → Mailbox) (q : ℕ) (side : ReceiverSide) (p : ℕ) (how : Retirement) → FewerWait boxes side
    → FewerWait boxes (after_retirement q side p how)
retired_fewer boxes q side p Keep_expired k = k
retired_fewer boxes q side p (Evict first) k = discarded_fewer boxes q side first k
retired_fewer boxes q side p Discard_data k = discarded_fewer boxes q side p k
retired_fewer boxes q side p Refuse k = k

module _ (environment : Environment) (service_id q : ℕ) (handler : Handler DegradationAction) (limit : ℕ)
    (has_end : ℕ → Bool) (boxes : ℕ → Mailbox) where
  made_fewer : (side : ReceiverSide) (place p : ℕ) (side' : ReceiverSide) (failure : Option ConnectionFailure)
      → FewerWait boxes side
      → ConnectReceiver environment service_id q handler limit has_end side place p side' failure
      → FewerWait boxes side'
  made_fewer side place p side' failure k h =
      ⊎_elim (λ made. subst (FewerWait boxes) (sym made.0) k) (λ refused. subst (FewerWait boxes) (sym refused.3) k) h

  retire_fewer : (side : ReceiverSide) (place old : ℕ) (side' : ReceiverSide) (failure : Option ConnectionFailure)
      (Then : ReceiverSide → Type 0)
      → FewerWait boxes side
      → ((mid : ReceiverSide) → FewerWait boxes mid → Then mid → FewerWait boxes side')
      → Retire environment service_id q handler limit has_end side place old side' failure Then → FewerWait boxes side'
  retire_fewer side place old side' failure Then k go h =
      let how : Retirement = retirement_of limit side.mailboxes side.expired old in
      let k' : FewerWait boxes (after_retirement q side old how) = retired_fewer boxes q side old how k in
      by_bool (FewerWait boxes side') (is_refused how) _ _ h
      (λ _ h. subst (FewerWait boxes) (sym h.0) k')
      (λ _ h. go (with_end (after_retirement q side old how) place None) k' h)

  connect_fewer : (place : ℕ) (at : Option ℕ) (side side' : ReceiverSide) (failure : Option ConnectionFailure)
      → FewerWait boxes side
      → ConnectAtPlace environment service_id q handler limit has_end place at side side' failure
      → FewerWait boxes side'
  connect_fewer place at side side' failure k h =
      by_option (FewerWait boxes side') at _ _ h (λ _ h. subst (FewerWait boxes) (sym h.0) k) (λ p _ h.
      by_option (FewerWait boxes side') (occupant side.ends place) _ _ h
      (λ _ h. made_fewer side place p side' failure k h) (λ old _ h.
      by_bool (FewerWait boxes side') (eqb old p) _ _ h (λ _ h. subst (FewerWait boxes) (sym h.0) k)
      (λ _ h. retire_fewer side place old side' failure _ k (λ mid k' j. made_fewer mid place p side' failure k' j) h)))

  disconnect_fewer : (place : ℕ) (at : Option ℕ) (side side' : ReceiverSide) (failure : Option ConnectionFailure)
      → FewerWait boxes side
      → DisconnectAtPlace environment service_id q handler limit has_end place at side side' failure
      → FewerWait boxes side'
  disconnect_fewer place at side side' failure k h =
      by_option (FewerWait boxes side') at _ _ h
      (λ _ h. by_option (FewerWait boxes side') (occupant side.ends place) _ _ h
      (λ _ h. subst (FewerWait boxes) (sym h.0) k)
      (λ old _ h. retire_fewer side place old side' failure (λ mid. (side' ≡ mid) × (failure ≡ None)) k
      (λ mid k' j. subst (FewerWait boxes) (sym j.0) k') h))
      (λ p _ h. subst (FewerWait boxes) (sym h.0) k)

  update_fewer : (places : List (Option ℕ)) (side side' : ReceiverSide) (failure : Option ConnectionFailure)
      → FewerWait boxes side
      → UpdateReceiverSide environment service_id q handler limit has_end places side side' failure
      → FewerWait boxes side'
  update_fewer places side side' failure k h =
      for_each_place_keeps (DisconnectAtPlace environment service_id q handler limit has_end) (FewerWait boxes) places
      (λ i side side' failure _ k j. disconnect_fewer i (occupant places i) side side' failure k j) h.0 side' h.2
      (for_each_place_keeps (ConnectAtPlace environment service_id q handler limit has_end) (FewerWait boxes) places
      (λ i side side' failure _ k j. connect_fewer i (occupant places i) side side' failure k j) side h.0 h.1 k h.3)
      h.4

module _ {T U : Type 0} (p0 : ℕ) where
  -- Subscribers' places name each open subscriber once, at its place.
  places_apart : (s : State T U) → IsWellFormed s → IsInjective s.subscriber_places
  places_apart s w i j q e f =
      same_Some i j (sym ((w.subscriber_places).known q i e) ∙ (w.subscriber_places).known q j f)

  -- an end to an open subscriber stands at its place
  ends_stand : (s : State T U) → IsWellFormed s → (p : ℕ) (x : Publisher) → s.publishers p ≡ Some x → (i q buffer : ℕ)
      → occupant x.ends i ≡ Some q
      → receiving_buffer s q ≡ Some buffer
      → occupant s.subscriber_places i ≡ Some q
  ends_stand s w p x present i q buffer h opened =
      option_and_then_some (λ (y : Subscriber). cond y.is_open (Some y.buffer) None) (s.subscribers q) buffer opened
      (λ y e _. (w.subscriber_places).stands q i (rw e (ap Some ((w.publishers p x present).ends_stand i q y h e))))

  -- what is handed out to a new receiver is the history, or nothing
  part_of_history : (s : State T U) (p : ℕ) (x : Publisher) (q : ℕ) → IsSubsequence (history_for s p x q) x.history
  part_of_history s p x q =
      cond_both (is_closed (s.channels p q 0)) [] x.history (λ ns. IsSubsequence ns x.history)
      (λ _. IsSubsequence-nil x.history) (λ _. IsSubsequence-refl x.history)

  -- A publisher's update, where its ends to open subscribers stand at their places.
  update_quiet_from : (environment : Environment) (s : State T U) (p : ℕ) (x : Publisher) (s' : State T U)
      (failure : Option ConnectionFailure) → p0 ≤ p
      → s.publishers p ≡ Some x → x.blocked ≡ None → IsInjective s.subscriber_places
      → ((i q buffer : ℕ) → occupant x.ends i ≡ Some q → receiving_buffer s q ≡ Some buffer
      → occupant s.subscriber_places i ≡ Some q)
      → UpdatePublisher environment s p s' failure → Quiet p0 s s'
  update_quiet_from environment s p x s' failure new present unblocked apart stands h =
      by_option (Quiet p0 s s') (s.publishers p) _ _ h (λ _ v. absurd v) (λ z found h.
      let same : z ≡ x = same_Some z x (sym found ∙ present) in
      by_bool (Quiet p0 s s') z.is_due _ _ h
      (λ _ h.
      let start : SideInOrder s.subscriber_places (receiving_buffer s) (s.mailboxes p) z.ends z.history
      (sender_side s p z) = record {
        stands = subst (λ (v : Publisher). (i q buffer : ℕ) → occupant v.ends i ≡ Some q
            → receiving_buffer s q ≡ Some buffer → occupant s.subscriber_places i ≡ Some q) (sym same) stands;
        kept = λ q buffer _ l. l;
        waits = λ q. inl (IsSubsequence-refl (s.mailboxes p q).waiting);
      } in
      subst (Quiet p0 s) (sym h.2) (changed z found (ap (λ (v : Publisher). v.blocked) same ∙ unblocked) h.0
      (side_in_order s.subscriber_places (receiving_buffer s) (s.mailboxes p) z.ends z.history environment
      (s.config).service_id p z.degradation_handler (history_for s p z) (part_of_history s p z)
      (has_receiver_end s p) apart
      (sender_side s p z) h.0 failure start h.1)))
      (λ _ h. subst (Quiet p0 s) (sym h.0) (quiet_refl p0 s)))
    where
      changed : (z : Publisher) → s.publishers p ≡ Some z → z.blocked ≡ None → (side : SenderSide)
          → SideInOrder s.subscriber_places (receiving_buffer s) (s.mailboxes p) z.ends z.history side
          → Quiet p0 s (sender_channels_reset (with_sender_side s p z side) p)
      changed z found unblocked side k = let s' : State T U = sender_channels_reset (with_sender_side s p z side) p in
          record {
            next_port = omega arith;
            next_message = omega arith;
            loans = same_loan p0 s;
            publishers =
                λ i v e.
                found_put s.publishers p (record z { ends = side.ends; is_due = false }) (WasPublisher s s') i v e
                (λ _. inl (
                  z,
                  found,
                  record {
                    history = refl;
                    blocked = λ b f. f;
                    ends = λ q opened l. let o : (buffer : ℕ)
                        × (receiving_buffer s q ≡ Some buffer) = there (receiving_buffer s q) opened in
                        k.kept q o.0 o.1 l;
                  },
                ))
                (λ _ old. same_publisher s s' i v old);
            subscribers = λ q e. inl e;
            mailboxes = λ i q _. at_each s.mailboxes p side.mailboxes (λ i row. Waited p0 s i q (row q)) i
                (λ _. ⊎_elim (λ fewer. inl fewer)
                (λ (from : (is_some (receiving_buffer s q) ≡ true) × (LeadsTo z.ends q → ⊥) × IsSubsequence (side.mailboxes q).waiting z.history). inr (record {
                  publisher = z;
                  present = found;
                  unblocked = unblocked;
                  is_new = new;
                  opened = from.0;
                  no_end = from.1;
                  tail = from.2;
                })) (k.waits q))
                (λ _. same_waiting p0 s i q (s.mailboxes i q) refl);
          }

  -- A publisher that isn't blocked is updated.
  pub update_publisher_quiet : (environment : Environment) (s : State T U) (p : ℕ) (x : Publisher) (s' : State T U)
      (failure : Option ConnectionFailure) → p0 ≤ p
      → IsWellFormed s → s.publishers p ≡ Some x → x.blocked ≡ None → UpdatePublisher environment s p s' failure
      → Quiet p0 s s'
  update_publisher_quiet environment s p x s' failure new w present unblocked h =
      update_quiet_from environment s p x s' failure new present unblocked (places_apart s w)
      (ends_stand s w p x present) h

  with_receiver_side_quiet : (s : State T U) (q : ℕ) (y : Subscriber) (side : ReceiverSide) → s.subscribers q ≡ Some y
      → FewerWait (λ p. s.mailboxes p q) side
      → Quiet p0 s (receiver_channels_reset (with_receiver_side s q y side) q)
  with_receiver_side_quiet s q y side found k = record {
    next_port = omega arith;
    next_message = omega arith;
    loans = same_loan p0 s;
    publishers = same_publisher s (receiver_channels_reset (with_receiver_side s q y side) q);
    subscribers = λ r.
        at_each s.subscribers q (Some (record y { ends = side.ends; expired = side.expired; is_due = side.is_due }))
        (λ j o. is_some (option_and_then (λ (v : Subscriber). cond v.is_open (Some v.buffer) None) o) ≡ true
        → WasOpen s j) r
        (λ _ e. inl (ap (λ o. is_some (option_and_then (λ (v : Subscriber). cond v.is_open (Some v.buffer) None) o))
        found ∙ e)) (λ _ e. inl e);
    mailboxes = λ i j _. at_each (s.mailboxes i) q (side.mailboxes i) (λ j box. Waited p0 s i j box) j (λ _. inl (k i))
        (λ _. same_waiting p0 s i j (s.mailboxes i j) refl);
  }

  -- A subscriber is updated.
  pub update_subscriber_quiet : (environment : Environment) (s : State T U) (q : ℕ) (s' : State T U)
      (failure : Option ConnectionFailure)
      → UpdateSubscriber environment s q s' failure → Quiet p0 s s'
  update_subscriber_quiet environment s q s' failure h =
      by_option (Quiet p0 s s') (s.subscribers q) _ _ h (λ _ v. absurd v) (λ y found h.
      by_bool (Quiet p0 s s') y.is_due _ _ h
      (λ _ h. subst (Quiet p0 s) (sym h.2) (with_receiver_side_quiet s q y h.0 found
      (update_fewer environment (s.config).service_id q y.degradation_handler (expired_limit s.config)
      (λ p. has_sender_end s p q) (λ p. s.mailboxes p q)
      s.publisher_places (receiver_side s q y) h.0 failure (λ p. IsSubsequence-refl (s.mailboxes p q).waiting) h.1)))
      (λ _ h. subst (Quiet p0 s) (sym h.0) (quiet_refl p0 s)))

  -- ---- ports are made

  warning_quiet : (s : State T U) (warning : ConnectionFailure → Warning) (failure : Option ConnectionFailure)
      → Quiet p0 s (with_failure_warning s warning failure)
  warning_quiet s warning None = quiet_refl p0 s
  warning_quiet s warning (Some failure) = record {
    next_port = omega arith;
    next_message = omega arith;
    loans = same_loan p0 s;
    publishers = same_publisher s (with_warning s (warning failure));
    subscribers = λ q e. inl e;
    mailboxes = λ p q _. same_waiting p0 s p q (s.mailboxes p q) refl;
  }

  new_publisher_quiet : (s : State T U) (given : PublisherSettings) (place : ℕ)
      → Quiet p0 s (with_new_publisher s given place)
  new_publisher_quiet s given place = let s' : State T U = with_new_publisher s given place in record {
    next_port = omega arith;
    next_message = omega arith;
    loans = same_loan p0 s;
    publishers = λ i v e. found_put s.publishers s.next_port (new_publisher s given place) (WasPublisher s s') i v e
        (λ _. inr (record { above = omega arith; history = refl; blocked = refl }))
        (λ _ old. same_publisher s s' i v old);
    subscribers = λ q e. inl (opened_mapped (λ y. record y { is_due = true }) (λ y. refl) (s.subscribers q) e);
    mailboxes = λ p q _. same_waiting p0 s p q (s.mailboxes p q) refl;
  }

  new_subscriber_quiet : (s : State T U) (given : SubscriberSettings) (place : ℕ)
      → Quiet p0 s (with_new_subscriber s given place)
  new_subscriber_quiet s given place = let s' : State T U = with_new_subscriber s given place in record {
    next_port = omega arith;
    next_message = omega arith;
    loans = same_loan p0 s;
    publishers = due_publisher p0 s s';
    subscribers = λ q. at_each s.subscribers s.next_port (Some (new_subscriber given place))
        (λ j o. is_some (option_and_then (λ (v : Subscriber). cond v.is_open (Some v.buffer) None) o) ≡ true
        → WasOpen s j) q (λ _ _. inr (omega arith)) (λ _ e. inl e);
    mailboxes = λ p q _. same_waiting p0 s p q (s.mailboxes p q) refl;
  }

module _ {T U : Type 0} (p0 n0 : ℕ) (out : ℕ → List ℕ) (got : ℕ → ℕ → List ℕ) (environment : Environment)
    (s : State T U) (w : Ordered p0 n0 out got s) where
  same_state : (s' : State T U) → s' ≡ s → Ordered p0 n0 out got s'
  same_state s' e = subst (Ordered p0 n0 out got) (sym e) w

  -- A publisher is made or refused.
  pub create_publisher_ordered : (given : PublisherSettings) (s' : State T U) (refusal : Option PublisherCreateError)
      → IsWellFormed s
      → CreatePublisher environment s given s' refusal → Ordered p0 n0 out got s'
  create_publisher_ordered given s' refusal v h =
      publisher_cases environment s given s' (Ordered p0 n0 out got s') refusal h (λ e same _. same_state s' same)
      (λ place makes.
      let t : State T U = with_new_publisher s given place in
      let first : FirstPublisherUpdate environment t s.next_port s' = makes.2 in
      let w1 : Ordered p0 n0 out got t = quiet_keeps p0 n0 out got s t w (new_publisher_quiet p0 s given place) in
      let w2 : Ordered p0 n0 out got first.0 = quiet_keeps p0 n0 out got t first.0 w1
      (update_quiet_from p0 environment t s.next_port (new_publisher s given place) first.0 first.1 w.ports
      (put_at-same s.publishers s.next_port (Some (new_publisher s given place))) refl
      (places_apart p0 s v) (λ i q buffer e _. absurd (none-some q e)) first.2) in
      subst (Ordered p0 n0 out got) (sym first.3)
      (quiet_keeps p0 n0 out got first.0 _ w2 (warning_quiet p0 first.0 _ first.1)))

  -- A subscriber is made or refused.
  pub create_subscriber_ordered : (given : SubscriberSettings) (s' : State T U) (refusal : Option SubscriberCreateError)
      → CreateSubscriber environment s given s' refusal → Ordered p0 n0 out got s'
  create_subscriber_ordered given s' refusal h =
      subscriber_cases environment s given s' (Ordered p0 n0 out got s') refusal h (λ e same _. same_state s' same)
      (λ place makes.
      let t : State T U = with_new_subscriber s given place in
      let first : FirstSubscriberUpdate environment t s.next_port s' = makes.3 in
      let w1 : Ordered p0 n0 out got t = quiet_keeps p0 n0 out got s t w (new_subscriber_quiet p0 s given place) in
      let w2 : Ordered p0 n0 out got first.0 = quiet_keeps p0 n0 out got t first.0 w1
      (update_subscriber_quiet p0 environment t s.next_port first.0 first.1 first.2) in
      subst (Ordered p0 n0 out got) (sym first.3)
      (quiet_keeps p0 n0 out got first.0 _ w2 (warning_quiet p0 first.0 _ first.1)))
