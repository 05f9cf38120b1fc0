-- A subscriber's update keeps a state well-formed.
use Rattle.std.proofs.Common.{◌≡◌, ℕ, Bool, true, refl, sym, ap, subst, ◌∙◌, arith, Option, Some, ◌⊎◌, inl, inr, ⊎_elim}
use Rattle.std.proofs.Common.{MatchOption}
use Rattle.std.proofs.lemmas.Bool.{true≢false}
use Rattle.std.proofs.lemmas.Option.{same_Some}
use Rattle.std.specs.Option.{option_map}
use Rattle.iox2_laws.proofs.Cases.{by_option, by_bool}
use Rattle.iox2_laws.proofs.OperationWalks.{advance, subscriber_update_by_steps}
use Rattle.iox2_laws.proofs.Puts.{put_at-same, put_at-other, at_each, found_put}
use Rattle.iox2_laws.proofs.MailboxLemmas.{IsWithin-dropped, contains_in_dropped, has_numbers_dropped}
use Rattle.iox2_laws.proofs.MailboxLemmas.{has_numbers-borrows, OthersWithin-dropped}
use Rattle.iox2_laws.proofs.ReleaseLaws.{Shrinks, shrinks_same, ReceiversAgree, receivers_keep, subscriber_keeps}
use Rattle.iox2_laws.proofs.ReceiverSides.{ReceiverSideIsWellFormed, receiver_side_begins, connect_at_place_keeps}
use Rattle.iox2_laws.proofs.ReceiverSides.{disconnect_at_place_keeps}
use Rattle.iox2_laws.proofs.Walks.{for_each_place_keeps}
use Rattle.iox2_laws.specs.Laws.{Advances}
use Rattle.iox2_machine.specs.machine.Limits.{buffer_limit, expired_limit}
use Rattle.iox2_machine.specs.machine.Numbers.{put_at, contains}
use Rattle.iox2_machine.specs.machine.Mailbox.{Mailbox, has_numbers, has_borrows, has_waiting, waiting_dropped}
use Rattle.iox2_machine.specs.machine.Mailbox.{IsWithin}
use Rattle.iox2_machine.specs.machine.Records.{Subscriber, Handler, Environment}
use Rattle.iox2_machine.specs.machine.State.{State, has_sender_end}
use Rattle.iox2_machine.specs.machine.SubscriberUpdate.{ReceiverSide, ConnectAtPlace, DisconnectAtPlace}
use Rattle.iox2_machine.specs.machine.SubscriberUpdate.{UpdateReceiverSide, receiver_side, with_receiver_side}
use Rattle.iox2_machine.specs.machine.SubscriberUpdate.{UpdateSubscriber}
use Rattle.iox2_machine.specs.machine.WellFormed.{LeadsTo, subscriber_place, SubscriberIsWellFormed, IsWellFormed}
use Rattle.iox2_machine.specs.declared.degradation.DegradationAction.{DegradationAction}
use Rattle.iox2_machine.specs.declared.errors.ConnectionFailure.{ConnectionFailure}
use Rattle.iox2_laws.proofs.PortChanges.{receiver_reset_keeps}

-- A mailbox whose waiting messages are lost has nothing new.
pub shrinks_dropped : (limit borrow_limit : ℕ) (box : Mailbox) → IsWithin limit borrow_limit box
    → Shrinks limit borrow_limit box (waiting_dropped box)
shrinks_dropped limit borrow_limit box w = record {
  within = IsWithin-dropped limit borrow_limit box w;
  waiting = omega arith;
  others = λ channels buffer _. OthersWithin-dropped channels buffer box;
  numbers = contains_in_dropped box;
  some = λ h. has_numbers-borrows box (sym (has_numbers_dropped box) ∙ h);
}

-- The subscriber with this side.
abbrev subscriber_with : Subscriber → ReceiverSide → Subscriber
subscriber_with y side = record y { ends = side.ends; expired = side.expired; is_due = side.is_due }

module _ {T U : Type 0} where
  -- Both walks keep a subscriber's side well-formed.
  pub update_receiver_side_keeps : (environment : Environment) (s : State T U) → IsWellFormed s
      → (q : ℕ) (handler : Handler DegradationAction) (has_end : ℕ → Bool)
      (side side' : ReceiverSide) (failure : Option ConnectionFailure) → ReceiverSideIsWellFormed s q side
      → UpdateReceiverSide environment (s.config).service_id q handler
      (expired_limit s.config) has_end s.publisher_places side side' failure
      → ReceiverSideIsWellFormed s q side'
  update_receiver_side_keeps environment s w q handler has_end side side' failure b h =
      for_each_place_keeps (DisconnectAtPlace environment (s.config).service_id q handler
      (expired_limit s.config) has_end) (ReceiverSideIsWellFormed s q)
      s.publisher_places
      (λ place from to failed _ b k.
      disconnect_at_place_keeps environment s w q handler has_end place from to failed b k)
      h.0 side' h.2
      (for_each_place_keeps (ConnectAtPlace environment (s.config).service_id q handler
      (expired_limit s.config) has_end) (ReceiverSideIsWellFormed s q)
      s.publisher_places
      (λ place from to failed _ b k. connect_at_place_keeps environment s w q handler has_end place from to failed b k)
      side h.0 h.1 b h.3)
      h.4

  -- The mailboxes with this side.
  abbrev mailboxes_with : State T U → (q : ℕ) → ReceiverSide → ℕ → ℕ → Mailbox
  mailboxes_with s q side = λ p. put_at (s.mailboxes p) q (side.mailboxes p)

  side_shrinks : (s : State T U) → IsWellFormed s → (q : ℕ) (side : ReceiverSide) → ReceiverSideIsWellFormed s q side
      → (i j : ℕ)
      → Shrinks (buffer_limit s.config) (s.config).subscriber_max_borrowed_samples (s.mailboxes i j)
      (mailboxes_with s q side i j)
  side_shrinks s w q side b i j =
      at_each (s.mailboxes i) q (side.mailboxes i)
      (λ k m. Shrinks (buffer_limit s.config) (s.config).subscriber_max_borrowed_samples (s.mailboxes i k) m) j
      (λ _. ⊎_elim
      (λ same. subst (Shrinks (buffer_limit s.config) (s.config).subscriber_max_borrowed_samples (s.mailboxes i q))
      (sym same)
      (shrinks_same _ _ (s.mailboxes i q) (w.mailboxes i q).within))
      (λ dropped. subst (Shrinks (buffer_limit s.config) (s.config).subscriber_max_borrowed_samples (s.mailboxes i q))
      (sym dropped.0)
      (shrinks_dropped _ _ (s.mailboxes i q) (w.mailboxes i q).within))
      (b.boxes i))
      (λ _. shrinks_same _ _ (s.mailboxes i j) (w.mailboxes i j).within)

  own_side : (s : State T U) (q : ℕ) (side : ReceiverSide) (i : ℕ) → mailboxes_with s q side i q ≡ side.mailboxes i
  own_side s q side i = put_at-same (s.mailboxes i) q (side.mailboxes i)

  updated_subscriber : (s : State T U) (q : ℕ) (y : Subscriber) (side : ReceiverSide)
      → ReceiverSideIsWellFormed s q side → SubscriberIsWellFormed s q y
      → SubscriberIsWellFormed (with_receiver_side s q y side) q (subscriber_with y side)
  updated_subscriber s q y side b old = record {
    is_known = old.is_known;
    some_room = old.some_room;
    buffer_bound = old.buffer_bound;
    ends_bound = b.ends_bound;
    ends_apart = b.ends_apart;
    ends_known = b.ends_known;
    ends_stand = λ place p h. subst (λ m. MatchOption (s.publishers p) (has_numbers m ≡ true) (λ x. x.place ≡ place))
        (sym (own_side s q side p))
        (b.ends_stand place p h);
    expired_bound = b.expired_bound;
    expired_once = b.expired_once;
    expired_apart = b.expired_apart;
    expired_known = b.expired_known;
    expired_gone = b.expired_gone;
    expired_kept = λ p h. ap has_numbers (own_side s q side p) ∙ b.expired_kept p h;
    is_used = λ closed. let used : (p : ℕ) × (has_borrows (s.mailboxes p q) ≡ true) = old.is_used closed in (
      used.0,
      ap has_borrows (own_side s q side used.0)
          ∙ ⊎_elim (λ same. ap has_borrows same) (λ dropped. ap has_borrows dropped.0) (b.boxes used.0) ∙ used.1,
    );
  }

  -- What waits in a mailbox of the side waited before.
  waited_before : (s : State T U) (q : ℕ) (side : ReceiverSide) → ReceiverSideIsWellFormed s q side → (p : ℕ)
      → has_waiting (side.mailboxes p) ≡ true
      → has_waiting (s.mailboxes p q) ≡ true
  waited_before s q side b p h =
      ⊎_elim (λ same. ap has_waiting (sym same) ∙ h) (λ dropped. absurd (true≢false (sym h ∙ ap has_waiting dropped.0)))
      (b.boxes p)

  updated_agrees : (s : State T U) → IsWellFormed s → (q : ℕ) (y : Subscriber) (side : ReceiverSide)
      → s.subscribers q ≡ Some y → ReceiverSideIsWellFormed s q side
      → ReceiversAgree s (put_at s.subscribers q (Some (subscriber_with y side)))
      (mailboxes_with s q side) side.warnings
  updated_agrees s w q y side here b = record {
    places = λ r. at_each s.subscribers q (Some (subscriber_with y side))
        (λ i o. option_map {T = Subscriber} {U = ℕ} (λ z. z.place) o ≡ subscriber_place s i) r
        (λ _. ap (option_map {T = Subscriber} {U = ℕ} (λ z. z.place)) (sym here)) (λ _. refl);
    stays = λ r z e. found_put s.subscribers q (subscriber_with y side)
        (λ i z. (v : Subscriber) × (s.subscribers i ≡ Some v) × (z.place ≡ v.place) × (z.buffer ≡ v.buffer)) r z e
        (λ _. (y, here, refl, refl)) (λ _ f. (z, f, refl, refl));
    shrinks = side_shrinks s w q side b;
    borrowed = λ i j.
        at_each (s.mailboxes i) q (side.mailboxes i)
        (λ k m. has_borrows m ≡ true
        → (z : Subscriber) × (put_at s.subscribers q (Some (subscriber_with y side)) k ≡ Some z) ×
        ((contains z.expired i ≡ true) ⊎ LeadsTo z.ends i)) j
        (λ _ h.
        (subscriber_with y side, put_at-same s.subscribers q (Some (subscriber_with y side)), b.knows i (inl h)))
        (λ apart h.
        let old : (z : Subscriber) × (s.subscribers j ≡ Some z) × ((contains z.expired i ≡ true) ⊎ LeadsTo z.ends i) =
        (w.mailboxes i j).receiver_end h in
        (old.0, put_at-other s.subscribers q (Some (subscriber_with y side)) j apart ∙ old.1, old.2));
    departed = λ i j gone.
        at_each (s.mailboxes i) q (side.mailboxes i)
        (λ k m. has_waiting m ≡ true → (z : Subscriber)
        × (put_at s.subscribers q (Some (subscriber_with y side)) k ≡ Some z) × (z.is_open ≡ true) ×
        ((contains z.expired i ≡ true) ⊎ LeadsTo z.ends i)) j
        (λ _ h.
        let old : (z : Subscriber) × (s.subscribers q ≡ Some z) × (z.is_open ≡ true)
        × ((contains z.expired i ≡ true) ⊎ LeadsTo z.ends i) =
        (w.mailboxes i q).departed gone (waited_before s q side b i h) in (
          subscriber_with y side,
          put_at-same s.subscribers q (Some (subscriber_with y side)),
          ap (λ (z : Subscriber). z.is_open) (same_Some y old.0 (sym here ∙ old.1)) ∙ old.2,
          b.knows i (inr (gone, h)),
        ))
        (λ apart h.
        let old : (z : Subscriber) × (s.subscribers j ≡ Some z) × (z.is_open ≡ true)
        × ((contains z.expired i ≡ true) ⊎ LeadsTo z.ends i) =
        (w.mailboxes i j).departed gone h in
        (old.0, put_at-other s.subscribers q (Some (subscriber_with y side)) j apart ∙ old.1, old.2, old.3));
  }

  updated_receivers : (s : State T U) → IsWellFormed s → (q : ℕ) (y : Subscriber) (side : ReceiverSide)
      → s.subscribers q ≡ Some y → ReceiverSideIsWellFormed s q side
      → (r : ℕ) (z : Subscriber) → put_at s.subscribers q (Some (subscriber_with y side)) r ≡ Some z
      → SubscriberIsWellFormed (with_receiver_side s q y side) r z
  updated_receivers s w q y side here b r z e =
      found_put s.subscribers q (subscriber_with y side) (SubscriberIsWellFormed (with_receiver_side s q y side)) r z e
      (λ _. updated_subscriber s q y side b (w.subscribers q y here))
      (λ apart f. subscriber_keeps s (put_at s.subscribers q (Some (subscriber_with y side)))
      (mailboxes_with s q side) side.warnings r z (w.subscribers r z f)
      (λ p h. ap has_numbers (put_at-other (s.mailboxes p) q (side.mailboxes p) r apart) ∙ h)
      (λ p h. ap has_borrows (put_at-other (s.mailboxes p) q (side.mailboxes p) r apart) ∙ h))

  -- A state in which one subscriber has another well-formed side is well-formed.
  pub with_receiver_side_keeps : (s : State T U) → IsWellFormed s → (q : ℕ) (y : Subscriber) (side : ReceiverSide)
      → s.subscribers q ≡ Some y → ReceiverSideIsWellFormed s q side
      → IsWellFormed (with_receiver_side s q y side)
  with_receiver_side_keeps s w q y side here b =
      receivers_keep s (put_at s.subscribers q (Some (subscriber_with y side)))
      (mailboxes_with s q side) side.warnings w
      (updated_agrees s w q y side here b) (updated_receivers s w q y side here b)

  -- A subscriber's update keeps a state well-formed.
  pub update_subscriber_keeps : (environment : Environment) (s : State T U) (q : ℕ) (s' : State T U)
      (failure : Option ConnectionFailure)
      → IsWellFormed s → UpdateSubscriber environment s q s' failure → IsWellFormed s'
  update_subscriber_keeps environment s q s' failure w h =
      by_option (IsWellFormed s') (s.subscribers q) _ _ h (λ _ v. absurd v) (λ y here h.
      by_bool (IsWellFormed s') y.is_due _ _ h
      (λ _ h.
      let b : ReceiverSideIsWellFormed s q h.0 =
      update_receiver_side_keeps environment s w q y.degradation_handler (λ p. has_sender_end s p q)
      (receiver_side s q y) h.0 failure
      (receiver_side_begins s w q y here) h.1 in
      subst IsWellFormed (sym h.2)
      (receiver_reset_keeps (with_receiver_side s q y h.0) q (with_receiver_side_keeps s w q y h.0 here b)))
      (λ _ h. subst IsWellFormed (sym h.0) w))

  -- No counter falls at a subscriber's update.
  pub update_subscriber_advances : (environment : Environment) (s : State T U) (q : ℕ) (s' : State T U)
      (failure : Option ConnectionFailure)
      → UpdateSubscriber environment s q s' failure → Advances s s'
  update_subscriber_advances environment s q s' failure =
      subscriber_update_by_steps Advances advance environment s q s' failure
      (λ y here side _. record { config = refl; next_port = omega arith; next_message = omega arith })
