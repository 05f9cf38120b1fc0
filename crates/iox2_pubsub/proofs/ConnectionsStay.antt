-- A publisher that is connected with a subscriber stays so in every operation but a close of the two.
use Rattle.std.proofs.Common.{◌≡◌, ℕ, zero, suc, ◌+◌, ◌<◌, Bool, true, false, cond, not, ◌&&◌, ◌||◌, List, [], ◌∷◌}
use Rattle.std.proofs.Common.{◌++◌, drop, length, refl, sym, ap, subst, ◌∙◌, arith, eqb, Option, None, Some, ◌⊎◌, inl}
use Rattle.std.proofs.Common.{inr, ⊎_elim}
use Rattle.std.specs.Prelude.{◌≢◌}
use Rattle.std.specs.List.{filter, list_all}
use Rattle.std.specs.Option.{is_some, option_map, option_map_or}
use Rattle.std.specs.declared.time.Duration.{Duration}
use Rattle.std.proofs.lemmas.Bool.{true≢false, ne_eqb, eqb-true, eq-eqb, cases_eq}
use Rattle.std.proofs.lemmas.Option.{none-some, same_Some}
use Rattle.iox2_machine.specs.machine.Channel.{Channel, is_closed}
use Rattle.iox2_machine.specs.machine.Limits.{expired_limit}
use Rattle.iox2_machine.specs.machine.Numbers.{put_at, contains, without}
use Rattle.iox2_machine.specs.machine.Places.{occupant, occupants, is_port, places_kept}
use Rattle.iox2_machine.specs.machine.Mailbox.{has_borrows, has_numbers}
use Rattle.iox2_machine.specs.machine.Records.{Publisher, Subscriber, Loan, Handler, Environment, BlockedSend}
use Rattle.iox2_machine.specs.machine.Records.{SubscriberSettings}
use Rattle.iox2_machine.specs.machine.State.{State, has_sender_end, connected_publishers, subscribers_due, with_loan}
use Rattle.iox2_machine.specs.machine.State.{with_mailbox, with_warning}
use Rattle.iox2_machine.specs.machine.Connections.{ForEachPlace}
use Rattle.iox2_machine.specs.machine.Loans.{GrantLoan, loan_granted, loan_discarded}
use Rattle.iox2_machine.specs.machine.Ports.{CreateSubscriber, with_new_subscriber, new_subscriber, publisher_closed}
use Rattle.iox2_machine.specs.machine.Ports.{publisher_gone, subscribers_pruned, subscriber_shut, subscriber_closed}
use Rattle.iox2_machine.specs.machine.Receives.{ReceiveResult, Receive}
use Rattle.iox2_machine.specs.machine.Releases.{is_connected, pruned, is_unused, place_freed, freed_if_unused}
use Rattle.iox2_machine.specs.machine.Releases.{unborrowed, subscriber_pruned, released}
use Rattle.iox2_machine.specs.machine.Sends.{SendResult, Retry, GiveUp, DeliverAndConclude, more_retries}
use Rattle.iox2_machine.specs.machine.Delivery.{no_time}
use Rattle.iox2_machine.specs.machine.SubscriberUpdate.{ReceiverSide, Retirement, Keep_expired, Evict, Discard_data}
use Rattle.iox2_machine.specs.machine.SubscriberUpdate.{Refuse, retirement_of, is_refused, after_retirement, with_end}
use Rattle.iox2_machine.specs.machine.SubscriberUpdate.{ConnectReceiver, Retire, ConnectAtPlace, DisconnectAtPlace}
use Rattle.iox2_machine.specs.machine.SubscriberUpdate.{UpdateReceiverSide, receiver_side, with_receiver_side}
use Rattle.iox2_machine.specs.machine.SubscriberUpdate.{UpdateSubscriber}
use Rattle.iox2_machine.specs.machine.Waiting.{receives_from}
use Rattle.iox2_machine.specs.machine.WellFormed.{LeadsTo, IsWellFormed, publisher_place}
use Rattle.iox2_machine.specs.declared.degradation.DegradationAction.{DegradationAction}
use Rattle.iox2_machine.specs.declared.errors.ConnectionFailure.{ConnectionFailure}
use Rattle.iox2_machine.specs.declared.errors.LoanError.{LoanError}
use Rattle.iox2_machine.specs.declared.errors.SubscriberCreateError.{SubscriberCreateError}
use Rattle.iox2_laws.specs.Sendings.{sending}
use Rattle.iox2_laws.proofs.Cases.{by_option, by_bool}
use Rattle.iox2_laws.proofs.OperationWalks.{IsPreorder, receive_by_steps}
use Rattle.iox2_laws.proofs.CallCases.{grant_cases}
use Rattle.iox2_laws.proofs.FilterLemmas.{contains-filter}
use Rattle.iox2_laws.proofs.NumberLemmas.{contains_in_append, contains_left, contains_right}
use Rattle.iox2_laws.proofs.PlaceLemmas.{occupant-set_place, occupied_within, contains-occupants, leads_to}
use Rattle.iox2_laws.proofs.PlaceLemmas.{places_kept_keeps}
use Rattle.iox2_laws.proofs.PortsClose.{publisher_closed_others}
use Rattle.iox2_laws.proofs.Puts.{put_at-same, put_at-other, at_each}
use Rattle.iox2_laws.proofs.UpToDate.{grant_loan_subscribers, retry_subscribers, give_up_subscribers}
use Rattle.iox2_pubsub.specs.ConnectedPorts.{Connects}
use Rattle.iox2_pubsub.proofs.OpenChannels.{receiver-reset-connects, sender-reset-takes}
use Rattle.iox2_pubsub.proofs.SendsServe.{EndsStay, ends-themselves, changed-ends, same-connections, concluded-channels}
use Rattle.iox2_pubsub.proofs.SendsServe.{concluded-ends}
use Rattle.iox2_pubsub.proofs.SubscriberSteps.{create-subscriber-by-steps}

-- ---- a walk over places, of which one place is looked at

module _ {Side : Type 0} (AtPlace : ℕ → Option ℕ → Side → Side → Option ConnectionFailure → Type 0)
    (After : Side → Type 0) where
  -- what each step keeps, the rest of the walk keeps
  walk-keeps : (k : ℕ) (rest : List (Option ℕ)) (place : ℕ) → place < k
      → ((j : ℕ) (at : Option ℕ) (a b : Side) (f : Option ConnectionFailure) → j ≢ place → After a → AtPlace j at a b f
      → After b)
      → (side side' : Side) (failure : Option ConnectionFailure) → After side
      → ForEachPlace AtPlace k rest side side' failure → After side'
  walk-keeps k [] place past each side side' failure is h = subst After (sym h.0) is
  walk-keeps k (at ∷ rest) place past each side side' failure is h =
      walk-keeps (k + 1) rest place (omega arith) each h.0 side' h.2
      (each k at side h.0 h.1 (λ same. omega arith) is h.3) h.4

  -- what the step at the place leaves, and each other keeps, the walk leaves
  pub walk-reaches : (Before : Side → Type 0) (k : ℕ) (rest : List (Option ℕ)) (i place : ℕ) → place ≡ k + i
      → i < length rest
      → ((j : ℕ) (at : Option ℕ) (a b : Side) (f : Option ConnectionFailure) → j ≢ place → Before a → AtPlace j at a b f
      → Before b)
      → ((j : ℕ) (at : Option ℕ) (a b : Side) (f : Option ConnectionFailure) → j ≢ place → After a → AtPlace j at a b f
      → After b)
      → ((a b : Side) (f : Option ConnectionFailure) → Before a → AtPlace place (occupant rest i) a b f → After b)
      → (side side' : Side) (failure : Option ConnectionFailure) → Before side
      → ForEachPlace AtPlace k rest side side' failure → After side'
  walk-reaches Before k [] i place here low before after at side side' failure is h = absurd (omega arith)
  walk-reaches Before k (o ∷ rest) zero place here low before after at side side' failure is h =
      let same : k ≡ place = omega arith in
      walk-keeps (k + 1) rest place (omega arith) after h.0 side' h.2
      (at side h.0 h.1 is (subst (λ j. AtPlace j o side h.0 h.1) same h.3)) h.4
  walk-reaches Before k (o ∷ rest) (suc i) place here low before after at side side' failure is h =
      walk-reaches Before (k + 1) rest i place (omega arith) (omega arith) before after at h.0 side' h.2
      (before k o side h.0 h.1 (λ same. omega arith) is h.3) h.4

  -- and what holds from the start, where the place's step keeps it too
  pub walk-stays : (k : ℕ) (rest : List (Option ℕ))
      → ((i j : ℕ) → j ≡ k + i → i < length rest → (a b : Side) (f : Option ConnectionFailure) → After a
      → AtPlace j (occupant rest i) a b f → After b)
      → (side side' : Side) (failure : Option ConnectionFailure) → After side
      → ForEachPlace AtPlace k rest side side' failure → After side'
  walk-stays k [] each side side' failure is h = subst After (sym h.0) is
  walk-stays k (o ∷ rest) each side side' failure is h =
      walk-stays (k + 1) rest (λ i j e low. each (suc i) j (omega arith) (omega arith)) h.0 side' h.2
      (each 0 k (omega arith) (omega arith) side h.0 h.1 is h.3) h.4

-- ---- a subscriber's update

module _ (environment : Environment) (service_id q : ℕ) (handler : Handler DegradationAction) (limit : ℕ)
    (has_end : ℕ → Bool) (p place : ℕ) where
  -- The subscriber is due, or its end to p stands at the place.
  abbrev pub Knows : ReceiverSide → Type 0
  Knows side = (side.is_due ≡ true) ⊎ (occupant side.ends place ≡ Some p)

  knows-retired : (side : ReceiverSide) (old : ℕ) (how : Retirement) → Knows side
      → Knows (after_retirement q side old how)
  knows-retired side old Keep_expired is = is
  knows-retired side old (Evict first) is = is
  knows-retired side old Discard_data is = is
  knows-retired side old Refuse is = inl refl

  pub refused-due : (side : ReceiverSide) (old : ℕ) (how : Retirement) → is_refused how ≡ true
      → Knows (after_retirement q side old how)
  refused-due side old Keep_expired is = absurd (true≢false (sym is))
  refused-due side old (Evict first) is = absurd (true≢false (sym is))
  refused-due side old Discard_data is = absurd (true≢false (sym is))
  refused-due side old Refuse is = inl refl

  knows-end : (side : ReceiverSide) (j : ℕ) (end : Option ℕ) → j ≢ place → Knows side → Knows (with_end side j end)
  knows-end side j end away is =
      ⊎_elim (λ due. inl due)
      (λ there. inr (occupant-set_place side.ends j end place
      ∙ ap (λ b. cond b end (occupant side.ends place)) (ne_eqb place j (λ same. away (sym same))) ∙ there)) is

  knows-connected : (side : ReceiverSide) (j r : ℕ) (side' : ReceiverSide) (failure : Option ConnectionFailure)
      → j ≢ place → Knows side
      → ConnectReceiver environment service_id q handler limit has_end side j r side' failure → Knows side'
  knows-connected side j r side' failure away is h =
      ⊎_elim (λ made. subst Knows (sym made.0) (knows-end side j (Some r) away is))
      (λ refused. subst Knows (sym refused.3) is) h

  knows-retire : (side : ReceiverSide) (j old : ℕ) (side' : ReceiverSide) (failure : Option ConnectionFailure)
      (Then : ReceiverSide → Type 0) → j ≢ place → Knows side
      → ((mid : ReceiverSide) → Knows mid → Then mid → Knows side')
      → Retire environment service_id q handler limit has_end side j old side' failure Then → Knows side'
  knows-retire side j old side' failure Then away is go h =
      let how : Retirement = retirement_of limit side.mailboxes side.expired old in
      by_bool (Knows side') (is_refused how) _ _ h
      (λ refused k. subst Knows (sym k.0) (refused-due side old how refused))
      (λ _ k. go (with_end (after_retirement q side old how) j None)
      (knows-end (after_retirement q side old how) j None away (knows-retired side old how is)) k)

  pub connect-keeps : (j : ℕ) (at : Option ℕ) (side side' : ReceiverSide) (failure : Option ConnectionFailure)
      → j ≢ place → Knows side
      → ConnectAtPlace environment service_id q handler limit has_end j at side side' failure → Knows side'
  connect-keeps j at side side' failure away is h =
      by_option (Knows side') at _ _ h (λ _ k. subst Knows (sym k.0) is) (λ r _ k.
      by_option (Knows side') (occupant side.ends j) _ _ k (λ _ m. knows-connected side j r side' failure away is m)
      (λ old _ m.
      by_bool (Knows side') (eqb old r) _ _ m (λ _ l. subst Knows (sym l.0) is) (λ _ l.
      knows-retire side j old side' failure _ away is
      (λ mid mid_is f. knows-connected mid j r side' failure away mid_is f) l)))

  connected-at : has_end p ≡ true → (side side' : ReceiverSide) (failure : Option ConnectionFailure)
      → ConnectReceiver environment service_id q handler limit has_end side place p side' failure → Knows side'
  connected-at has side side' failure h =
      ⊎_elim
      (λ made. subst Knows (sym made.0)
      (inr (occupant-set_place side.ends place (Some p) place
      ∙ ap (λ b. cond b (Some p) (occupant side.ends place)) (eq-eqb place place refl))))
      (λ refused. absurd (true≢false (sym has ∙ refused.0))) h

  connect-reaches : has_end p ≡ true → (side side' : ReceiverSide) (failure : Option ConnectionFailure)
      → ConnectAtPlace environment service_id q handler limit has_end place (Some p) side side' failure → Knows side'
  connect-reaches has side side' failure h =
      by_option (Knows side') (occupant side.ends place) _ _ h (λ _ m. connected-at has side side' failure m)
      (λ old is m.
      by_bool (Knows side') (eqb old p) _ _ m
      (λ same l. subst Knows (sym l.0) (inr (is ∙ ap (λ k. Some k) (eqb-true old p same))))
      (λ _ l.
      let how : Retirement = retirement_of limit side.mailboxes side.expired old in
      by_bool (Knows side') (is_refused how) _ _ l
      (λ refused k. subst Knows (sym k.0) (refused-due side old how refused))
      (λ _ k. connected-at has _ side' failure k)))

  pub disconnect-keeps : (j : ℕ) (at : Option ℕ) (side side' : ReceiverSide) (failure : Option ConnectionFailure)
      → (j ≡ place → at ≡ Some p) → Knows side
      → DisconnectAtPlace environment service_id q handler limit has_end j at side side' failure → Knows side'
  disconnect-keeps j at side side' failure here is h =
      by_option (Knows side') at _ _ h
      (λ none k. by_option (Knows side') (occupant side.ends j) _ _ k (λ _ m. subst Knows (sym m.0) is) (λ old _ m.
      knows-retire side j old side' failure (λ (mid : ReceiverSide). (side' ≡ mid) × (failure ≡ None))
      (λ same. none-some p (sym none ∙ here same)) is (λ mid mid_is f. subst Knows (sym f.0) mid_is) m))
      (λ r _ k. subst Knows (sym k.0) is)

  -- after the whole update
  pub update-knows : (places : List (Option ℕ)) (side side' : ReceiverSide) (failure : Option ConnectionFailure)
      → has_end p ≡ true → place < length places → occupant places place ≡ Some p
      → UpdateReceiverSide environment service_id q handler limit has_end places side side' failure → Knows side'
  update-knows places side side' failure has low stands h =
      walk-stays (DisconnectAtPlace environment service_id q handler limit has_end) Knows 0 places
      (λ i j e _ a b f is k. let same : j ≡ i = omega arith in
      disconnect-keeps j (occupant places i) a b f (λ here. ap (occupant places) (sym same ∙ here) ∙ stands) is k)
      h.0 side' h.2
      (walk-reaches (ConnectAtPlace environment service_id q handler limit has_end) Knows
      (λ _. Unit {0}) 0 places place place (omega arith) low
      (λ j at a b f _ _ _. tt) connect-keeps
      (λ a b f _ k. connect-reaches has a b f
      (subst (λ o. ConnectAtPlace environment service_id q handler limit has_end place o a b f) stands k)) side h.0 h.1
      tt h.3)
      h.4

-- who receives, by cases
pub receives-by : (is_open due known : Bool) → is_open ≡ true → (due ≡ true) ⊎ (known ≡ true)
    → (is_open && (due || known)) ≡ true
receives-by true true known o by = refl
receives-by true false true o by = refl
receives-by true false false o by = ⊎_elim (λ e. e) (λ e. e) by
receives-by false due known o by = absurd (true≢false (sym o))

receives-parts : (is_open due known : Bool) → (is_open && (due || known)) ≡ true
    → (is_open ≡ true) × ((due ≡ true) ⊎ (known ≡ true))
receives-parts true true known e = (refl, inl refl)
receives-parts true false true e = (refl, inr refl)
receives-parts true false false e = absurd (true≢false (sym e))
receives-parts false due known e = absurd (true≢false (sym e))

pub opened-of : (y : Subscriber) (p : ℕ) → receives_from y p ≡ true → y.is_open ≡ true
opened-of y p e = (receives-parts y.is_open y.is_due (contains (connected_publishers y) p) e).0

module _ {T U : Type 0} where
  -- Each publisher that is connected with a subscriber stays so.
  abbrev pub ConnectsStay : (s s' : State T U) → Type 0
  ConnectsStay s s' = (p q : ℕ) → Connects s p q → Connects s' p q

  pub connect-on : IsPreorder ConnectsStay
  connect-on = record { itself = λ t p q c. c; trans = λ t u v first then p q c. then p q (first p q c) }

  -- the same ports
  pub ports-same : (s s' : State T U) → s'.publishers ≡ s.publishers → s'.subscribers ≡ s.subscribers
      → s'.channels ≡ s.channels → ConnectsStay s s'
  ports-same s s' publishers subscribers channels =
      same-connections s s' (ends-themselves s s' publishers) subscribers channels

  pub stays-itself : (s s' : State T U) → s' ≡ s → ConnectsStay s s'
  stays-itself s s' same p q c = subst (λ (t : State T U). Connects t p q) (sym same) c

  -- another record of the subscriber, which receives as well
  pub with-record : (s s' : State T U) (p q : ℕ) (c : Connects s p q) (y : Subscriber) → EndsStay s s'
      → s'.subscribers q ≡ Some y → receives_from y p ≡ true → s'.channels ≡ s.channels → Connects s' p q
  with-record s s' p q c y ends there receives channels =
      let at = ends p c.publisher c.stands in
      record {
        publisher = at.0;
        stands = at.1;
        sends = subst (λ es. LeadsTo es q) (sym at.2) c.sends;
        subscriber = y;
        there = there;
        receives = receives;
        takes = ap (λ (f : ℕ → ℕ → ℕ → Channel). is_closed (f p q 0)) channels ∙ c.takes;
      }

  -- ---- loans

  granted-ends : (default_header : U) (s : State T U) (p : ℕ) (x : Publisher) (len segments : ℕ)
      → s.publishers p ≡ Some x → EndsStay s (loan_granted default_header s p x len segments)
  granted-ends default_header s p x len segments present i z at =
      at_each s.publishers p _
      (λ k v. s.publishers k ≡ Some z → (z' : Publisher) × (v ≡ Some z') × (z'.ends ≡ z.ends)) i
      (λ here old. (_, refl, ap (λ (v : Publisher). v.ends) (same_Some x z (sym present ∙ old))))
      (λ apart old. (z, old, refl)) at

  unchanged : (s s' : State T U) → s' ≡ s → EndsStay s s'
  unchanged s s' same = ends-themselves s s' (ap (λ (t : State T U). t.publishers) same)

  grant-ends : (environment : Environment) (default_header : U) (checks_length : Bool) (len : ℕ) (s : State T U) (p : ℕ)
      (s' : State T U) (refusal : Option LoanError)
      → GrantLoan environment default_header checks_length len s p s' refusal → EndsStay s s'
  grant-ends environment default_header checks_length len s p s' refusal h =
      grant_cases environment default_header checks_length len s p s' (EndsStay s s') refusal h
      (λ e same _. unchanged s s' same)
      (λ x present grants. subst (EndsStay s) (sym grants.4) (granted-ends default_header s p x len grants.0 present))

  pub grant-connections : (environment : Environment) (default_header : U) (checks_length : Bool) (len : ℕ)
      (s : State T U) (p : ℕ) (s' : State T U) (refusal : Option LoanError)
      → GrantLoan environment default_header checks_length len s p s' refusal → ConnectsStay s s'
  grant-connections environment default_header checks_length len s p s' refusal h =
      same-connections s s' (grant-ends environment default_header checks_length len s p s' refusal h)
      (grant_loan_subscribers environment default_header checks_length len s p s' refusal h)
      (grant_cases environment default_header checks_length len s p s' (s'.channels ≡ s.channels) refusal h
      (λ e same _. ap (λ (t : State T U). t.channels) same)
      (λ x present grants. ap (λ (t : State T U). t.channels) grants.4))

  pub set-connections : (s : State T U) (n : ℕ) (l : Option (Loan T U)) → ConnectsStay s (with_loan s n l)
  set-connections s n l = ports-same s (with_loan s n l) refl refl refl

  pub discard-connections : (s : State T U) (n : ℕ) (l : Loan T U) → ConnectsStay s (loan_discarded s n l)
  discard-connections s n l =
      same-connections s (loan_discarded s n l) (changed-ends (with_loan s n None) l.publisher
      (λ x. record x { loans = without n x.loans }) (λ x. refl)) refl refl

  -- ---- blocked sends

  pub goes-on-ends : (environment : Environment) (s : State T U) (p n channel retries : ℕ) (elapsed : Duration)
      (place : ℕ) (ends : List (Option ℕ)) (count : ℕ) (has_failed : Bool) (s' : State T U)
      (result : SendResult) → DeliverAndConclude environment s p
      (sending n channel retries place ends count has_failed) elapsed s' result → EndsStay s s'
  goes-on-ends environment s p n channel retries elapsed place ends count has_failed s' result h =
      by_option (EndsStay s s') (s.publishers p) _ _ h (λ _ v. absurd v)
      (λ x _ k. concluded-ends s p n k.1 k.0 s' result k.3)

  pub goes-on-channels : (environment : Environment) (s : State T U) (p n channel retries : ℕ) (elapsed : Duration)
      (place : ℕ) (ends : List (Option ℕ)) (count : ℕ) (has_failed : Bool) (s' : State T U)
      (result : SendResult) → DeliverAndConclude environment s p
      (sending n channel retries place ends count has_failed) elapsed s' result → s'.channels ≡ s.channels
  goes-on-channels environment s p n channel retries elapsed place ends count has_failed s' result h =
      by_option (s'.channels ≡ s.channels) (s.publishers p) _ _ h (λ _ v. absurd v)
      (λ x _ k. concluded-channels s p n k.1 k.0 s' result k.3)

  pub retry-connections : (environment : Environment) (s : State T U) (p : ℕ) (b : BlockedSend) (elapsed : Duration)
      (s' : State T U) (result : SendResult)
      → Retry environment s p b elapsed s' result → ConnectsStay s s'
  retry-connections environment s p b elapsed s' result h =
      same-connections s s' (goes-on-ends environment s p b.message b.channel
      (more_retries b.retries) elapsed b.place b.ends b.count b.has_failed s' result h)
      (retry_subscribers environment s p b elapsed s' result h)
      (goes-on-channels environment s p b.message b.channel
      (more_retries b.retries) elapsed b.place b.ends b.count b.has_failed s' result h)

  pub give-up-connections : (environment : Environment) (s : State T U) (p : ℕ) (b : BlockedSend) (s' : State T U)
      (result : SendResult)
      → GiveUp environment s p b s' result → ConnectsStay s s'
  give-up-connections environment s p b s' result h =
      same-connections s s' (goes-on-ends environment s p b.message b.channel 0 no_time (b.place + 1)
      (drop 1 b.ends) b.count b.has_failed s' result h) (give_up_subscribers environment s p b s' result h)
      (goes-on-channels environment s p b.message b.channel 0 no_time (b.place + 1)
      (drop 1 b.ends) b.count b.has_failed s' result h)

  -- ---- a subscriber's update, and a receive

  pub update-subscriber-connections : (environment : Environment) (s : State T U) (i : ℕ) (s' : State T U)
      (failure : Option ConnectionFailure) → IsWellFormed s
      → UpdateSubscriber environment s i s' failure → ConnectsStay s s'
  update-subscriber-connections environment s i s' failure w h p q c =
      by_option (Connects s' p q) (s.subscribers i) _ _ h (λ _ v. absurd v) (λ y present h.
      by_bool (Connects s' p q) y.is_due _ _ h
      (λ _ h. subst (λ (t : State T U). Connects t p q) (sym h.2)
      (receiver-reset-connects (with_receiver_side s i y h.0) i p q (updated y present h.0 h.1)))
      (λ _ h. stays-itself s s' h.0 p q c))
    where
      sends-end : has_sender_end s p q ≡ true
      sends-end =
          ap (λ (o : Option Publisher). option_map_or
          (λ (x : Publisher). option_map_or (λ (y : Subscriber). is_port (occupant x.ends y.place) q)
          (s.subscribers q) false) o false) c.stands
          ∙ ap (λ (o : Option Subscriber).
          option_map_or (λ (y : Subscriber). is_port (occupant (c.publisher).ends y.place) q) o false) c.there
          ∙ ap (λ (o : Option ℕ). is_port o q)
          (ap (occupant (c.publisher).ends)
          ((w.publishers p c.publisher c.stands).ends_stand c.sends.0 q c.subscriber c.sends.1 c.there) ∙ c.sends.1)
          ∙ eq-eqb q q refl

      placed : publisher_place s p ≡ Some (c.publisher).place
      placed = ap (option_map {T = Publisher} {U = ℕ} (λ x. x.place)) c.stands

      stands : occupant s.publisher_places (c.publisher).place ≡ Some p
      stands = (w.publisher_places).stands p (c.publisher).place placed

      updated : (y : Subscriber) → s.subscribers i ≡ Some y → (side : ReceiverSide)
          → UpdateReceiverSide environment (s.config).service_id i y.degradation_handler (expired_limit s.config)
          (λ j. has_sender_end s j i) s.publisher_places (receiver_side s i y) side failure
          → Connects (with_receiver_side s i y side) p q
      updated y present side walk = elim (cases_eq q i) [
        | inl here ↦
            let same : c.subscriber ≡ y = same_Some c.subscriber y (sym c.there ∙ ap s.subscribers here ∙ present) in
            let opened : y.is_open ≡ true =
            ap (λ (z : Subscriber). z.is_open) (sym same) ∙ opened-of c.subscriber p c.receives in
            let knows = update-knows environment (s.config).service_id i y.degradation_handler (expired_limit s.config)
            (λ j. has_sender_end s j i) p (c.publisher).place s.publisher_places (receiver_side s i y) side failure
            (ap (has_sender_end s p) (sym here) ∙ sends-end)
            (occupied_within s.publisher_places (c.publisher).place p stands) stands walk in
            with-record s (with_receiver_side s i y side) p q c
            (record y { ends = side.ends; expired = side.expired; is_due = side.is_due })
            (ends-themselves s (with_receiver_side s i y side) refl)
            (ap (put_at s.subscribers i _) here ∙ put_at-same s.subscribers i _)
            (receives-by y.is_open side.is_due (contains (side.expired ++ occupants side.ends) p) opened
            (⊎_elim (λ due. inl due)
            (λ end. inr (contains_right side.expired (occupants side.ends) p
            (contains-occupants side.ends p ((c.publisher).place, end)))) knows)) refl
        | inr away ↦
            with-record s (with_receiver_side s i y side) p q c c.subscriber
            (ends-themselves s (with_receiver_side s i y side) refl)
            (put_at-other s.subscribers i _ q (ne_eqb q i away) ∙ c.there) c.receives refl
      ]

  pub receive-connections : (environment : Environment) (s : State T U) (i : ℕ) (s' : State T U)
      (result : ReceiveResult) → IsWellFormed s → Receive environment s i s' result → ConnectsStay s s'
  receive-connections environment s i s' result w =
      receive_by_steps ConnectsStay connect-on environment s i s' result
      (λ t failure. update-subscriber-connections environment s i t failure w)
      (λ t p box. ports-same t (with_mailbox t p i box) refl refl refl)

  -- ---- a release

  -- a subscriber that forgets departed publishers receives from those that are there
  pruned-receives : (t : State T U) (i p : ℕ) (y : Subscriber) (x : Publisher) → t.publishers p ≡ Some x
      → receives_from y p ≡ true → receives_from (pruned t i y) p ≡ true
  pruned-receives t i p y x present receives =
      let parts = receives-parts y.is_open y.is_due (contains (connected_publishers y) p) receives in
      let passes : is_connected t i p ≡ true =
      ap (λ (o : Option Publisher). is_some o || has_numbers (t.mailboxes p i)) present in
      receives-by y.is_open y.is_due (contains (connected_publishers (pruned t i y)) p) parts.0
      (⊎_elim (λ due. inl due) (λ known. inr (⊎_elim
      (λ left. contains_left (filter (is_connected t i) y.expired) (occupants (places_kept (is_connected t i) y.ends)) p
      (contains-filter (is_connected t i) y.expired p left passes))
      (λ right. let at = leads_to y.ends p right in
      contains_right (filter (is_connected t i) y.expired) (occupants (places_kept (is_connected t i) y.ends)) p
      (contains-occupants (places_kept (is_connected t i) y.ends) p
      (at.0, places_kept_keeps (is_connected t i) y.ends at.0 p at.1 passes)))
      (contains_in_append y.expired (occupants y.ends) p known))) parts.1)

  pruned-connections : (t : State T U) (i : ℕ) → ConnectsStay t (subscriber_pruned t i)
  pruned-connections t i p q c = elim (cases_eq q i) [
    | inl here ↦
        with-record t (subscriber_pruned t i) p q c (pruned t i c.subscriber)
        (ends-themselves t (subscriber_pruned t i) refl)
        (ap (put_at t.subscribers i _) here ∙ put_at-same t.subscribers i _
        ∙ ap (option_map {T = Subscriber} (pruned t i)) (ap t.subscribers (sym here) ∙ c.there))
        (pruned-receives t i p c.subscriber c.publisher c.stands c.receives) refl
    | inr away ↦
        with-record t (subscriber_pruned t i) p q c c.subscriber (ends-themselves t (subscriber_pruned t i) refl)
        (put_at-other t.subscribers i _ q (ne_eqb q i away) ∙ c.there) c.receives refl
  ]

  pub due-ends : (s s' : State T U)
      → ((p : ℕ) → s'.publishers p ≡ option_map {T = Publisher} {U = Publisher} (λ x. record x { is_due = true })
      (s.publishers p)) → EndsStay s s'
  due-ends s s' each p x at = (
    record x { is_due = true },
    each p ∙ ap (option_map {T = Publisher} {U = Publisher} (λ x. record x { is_due = true })) at,
    refl,
  )

  -- a subscriber that isn't there, or is closed, goes
  freed-connections : (t : State T U) (i : ℕ) → is_unused t i ≡ true → ConnectsStay t (place_freed t i)
  freed-connections t i unused p q c = elim (cases_eq q i) [
    | inl here ↦
        let un : is_unused t i ≡ (not (c.subscriber).is_open && list_all (λ j. not (has_borrows (t.mailboxes j i)))
        (connected_publishers c.subscriber)) =
        ap (λ (v : Option Subscriber). option_map_or
        (λ (y : Subscriber). not y.is_open && list_all (λ j. not (has_borrows (t.mailboxes j i)))
        (connected_publishers y)) v false) (ap t.subscribers (sym here) ∙ c.there) in
        let opened : (c.subscriber).is_open ≡ true = opened-of c.subscriber p c.receives in
        absurd
        (true≢false (sym unused ∙ un ∙ ap (λ (b : Bool).
        not b && list_all (λ j. not (has_borrows (t.mailboxes j i))) (connected_publishers c.subscriber)) opened))
    | inr away ↦
        with-record t (place_freed t i) p q c c.subscriber (due-ends t (place_freed t i) (λ j. refl))
        (put_at-other t.subscribers i None q (ne_eqb q i away) ∙ c.there) c.receives refl
  ]

  maybe-freed : (t : State T U) (i : ℕ) → ConnectsStay t (cond (is_unused t i) (place_freed t i) t)
  maybe-freed t i = by (is_unused t i) refl where
    by : (b : Bool) → is_unused t i ≡ b → ConnectsStay t (cond b (place_freed t i) t)
    by true e = freed-connections t i e
    by false e = λ p q c. c

  pub released-connections : (s : State T U) (p q n : ℕ) → ConnectsStay s (released s p q n)
  released-connections s p q n i j c =
      receiver-reset-connects (freed_if_unused (subscriber_pruned (unborrowed s p q n) q) q) q i j
      (maybe-freed (subscriber_pruned (unborrowed s p q n) q) q i j
      (pruned-connections (unborrowed s p q n) q i j (ports-same s (unborrowed s p q n) refl refl refl i j c)))

  -- ---- a subscriber is made

  pub create-subscriber-connections : (environment : Environment) (s : State T U) → IsWellFormed s
      → (given : SubscriberSettings) (s' : State T U) (refusal : Option SubscriberCreateError)
      → CreateSubscriber environment s given s' refusal → ConnectsStay s s'
  create-subscriber-connections environment s w given s' refusal =
      create-subscriber-by-steps ConnectsStay connect-on environment s w given s' refusal entered
      (λ new t failure. update-subscriber-connections environment new s.next_port t failure)
      (λ t warning. ports-same t (with_warning t warning) refl refl refl)
    where
      entered : (place : ℕ) → ConnectsStay s (with_new_subscriber s given place)
      entered place p q c =
          let new : State T U = with_new_subscriber s given place in
          let low : q < s.next_port = (w.subscribers q c.subscriber c.there).is_known in
          with-record s new p q c c.subscriber (due-ends s new (λ j. refl))
          (put_at-other s.subscribers s.next_port (Some (new_subscriber given place)) q
          (ne_eqb q s.next_port (λ here. omega arith)) ∙ c.there) c.receives refl

  -- ---- closes

  pub publisher-closed-connections : (s : State T U) (i : ℕ) (x : Publisher) (p q : ℕ) → p ≢ i → Connects s p q
      → Connects (publisher_closed s i x) p q
  publisher-closed-connections s i x p q away c =
      let gone : State T U = publisher_gone s i x in
      let stands : (publisher_closed s i x).publishers p ≡ Some c.publisher =
      publisher_closed_others s i x p away ∙ c.stands in
      let opened : (c.subscriber).is_open ≡ true = opened-of c.subscriber p c.receives in
      record {
        publisher = c.publisher;
        stands = stands;
        sends = c.sends;
        subscriber = record (pruned gone q c.subscriber) { is_due = true };
        there = ap (λ (o : Option Subscriber). option_map {T = Subscriber} {U = Subscriber}
            (λ z. record z { is_due = true }) (option_map {T = Subscriber} (pruned gone q) o)) c.there;
        receives = receives-by (c.subscriber).is_open true
            (contains (connected_publishers (record (pruned gone q c.subscriber) { is_due = true })) p) opened
            (inl refl);
        takes = sender-reset-takes (subscribers_due (subscribers_pruned gone)) i p q c.takes;
      }

  pub subscriber-closed-connections : (s : State T U) (i : ℕ) (y : Subscriber) (p q : ℕ) → q ≢ i → Connects s p q
      → Connects (subscriber_closed s i y) p q
  subscriber-closed-connections s i y p q away c =
      receiver-reset-connects (freed_if_unused (subscriber_pruned (subscriber_shut s i y) i) i) i p q
      (maybe-freed (subscriber_pruned (subscriber_shut s i y) i) i p q (pruned-connections (subscriber_shut s i y) i p q
      (with-record s (subscriber_shut s i y) p q c c.subscriber (due-ends s (subscriber_shut s i y) (λ j. refl))
      (put_at-other s.subscribers i _ q (ne_eqb q i away) ∙ c.there) c.receives refl)))
