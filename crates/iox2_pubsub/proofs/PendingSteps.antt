-- What a send that is blocked, and one that goes on, does for a subscriber with which its publisher is connected.
use Rattle.std.proofs.Common.{◌≡◌, ℕ, zero, suc, ◌+◌, ◌<◌, ◌≤◌, inl, inr, ⊎_elim, Bool, true, false, cond, List, []}
use Rattle.std.proofs.Common.{◌∷◌, drop, take, length, refl, sym, ap, subst, ◌∙◌, arith, Option, None, Some}
use Rattle.std.specs.Option.{option_and_then}
use Rattle.std.specs.declared.time.Duration.{Duration}
use Rattle.std.proofs.lemmas.Bool.{true≢false}
use Rattle.std.proofs.lemmas.Option.{none-some, same_Some}
use Rattle.iox2_machine.specs.machine.Delivery.{no_time}
use Rattle.iox2_machine.specs.machine.Mailbox.{Mailbox}
use Rattle.iox2_machine.specs.machine.Numbers.{contains, IsOnce}
use Rattle.iox2_machine.specs.machine.Places.{occupant, occupants}
use Rattle.iox2_machine.specs.machine.PublisherUpdate.{UpdatePublisher}
use Rattle.iox2_machine.specs.machine.Records.{BlockedSend, Environment, Loan, Publisher, Subscriber}
use Rattle.iox2_machine.specs.machine.Sends.{Send, Publish, Retry, GiveUp, DeliverAndConclude, SendResult, Blocked_send}
use Rattle.iox2_machine.specs.machine.Sends.{Send_error, published, more_retries}
use Rattle.iox2_machine.specs.machine.State.{State, channel_buffer, is_blocked, receiving_buffer}
use Rattle.iox2_machine.specs.machine.WellFormed.{LeadsTo, IsWellFormed, PublisherIsWellFormed}
use Rattle.iox2_machine.specs.declared.errors.ConnectionFailure.{ConnectionFailure}
use Rattle.iox2_laws.specs.Sendings.{sending}
use Rattle.iox2_laws.proofs.Cases.{by_option, by_bool}
use Rattle.iox2_laws.proofs.NumberLemmas.{contains_in_cons, contains_later, length_le}
use Rattle.iox2_laws.proofs.PlaceLemmas.{IsOnce-occupants, contains-occupants, leads_to, length-occupants_le}
use Rattle.iox2_laws.proofs.PlaceLemmas.{occupant-drop, once-behind}
use Rattle.iox2_laws.proofs.PublisherUpdates.{update_publisher_keeps}
use Rattle.iox2_laws.proofs.SendLaws.{injective_drop, injective_take, occupant-take}
use Rattle.iox2_laws.proofs.UpToDate.{update_publisher_subscribers}
use Rattle.iox2_pubsub.specs.BlockedSends.{waits_for}
use Rattle.iox2_pubsub.specs.ConnectedPorts.{Connects}
use Rattle.iox2_pubsub.specs.PendingSends.{GoesTo, PassesBy}
use Rattle.iox2_pubsub.proofs.ConnectedSends.{is-open, opened-buffer, update-publisher-connected}
use Rattle.iox2_pubsub.proofs.PendingDeliveries.{Comes, IsSplit, Leaves, served_box, goes-on-comes, goes-on-leaves}

module _ {T U : Type 0} (environment : Environment) where
  -- a connected subscriber takes messages
  pub takes-buffer : (s : State T U) (w : IsWellFormed s) (p q : ℕ) (c : Connects s p q)
      → channel_buffer s p 0 q ≡ Some (c.subscriber).buffer
  takes-buffer s w p q c = ap (λ (b : Bool). cond b None (receiving_buffer s q)) c.takes
      ∙ opened-buffer s q c.subscriber c.there (is-open environment s w p q c)

  -- ---- a send that is blocked

  publish-splits : (s : State T U) (w : IsWellFormed s) (p q : ℕ) (c : Connects s p q) (n : ℕ) (s' : State T U)
      → Publish environment s p n s' Blocked_send → IsSplit s s' p n q (c.subscriber).buffer
  publish-splits s w p q c n s' h =
      by_option (IsSplit s s' p n q (c.subscriber).buffer) (s.publishers p) _ _ h (λ _ v. absurd v) (λ x present k.
      let same : c.publisher ≡ x = same_Some c.publisher x (sym c.stands ∙ present) in
      let comes : Comes (published s p n) s' p n q (c.subscriber).buffer Blocked_send =
      goes-on-comes environment (published s p n) p n 0 no_time 0 x.ends 0 false s' Blocked_send k q
      (c.subscriber).buffer (takes-buffer s w p q c)
      (contains-occupants x.ends q (subst (λ (z : Publisher). LeadsTo z.ends q) same c.sends))
      (IsOnce-occupants x.ends (w.publishers p x present).ends_apart) in
      ⊎_elim (λ ended. absurd (ended.0 refl)) (λ waits. waits.1) comes)

  pub send-splits : (s : State T U) (n : ℕ) (l : Loan T U) (s' : State T U) (w : IsWellFormed s)
      → is_blocked s l.publisher ≡ false → (q : ℕ) (c : Connects s l.publisher q)
      → Send environment s n l s' Blocked_send → IsSplit s s' l.publisher n q (c.subscriber).buffer
  send-splits s n l s' w free q c h =
      by_option (IsSplit s s' l.publisher n q (c.subscriber).buffer) (s.publishers l.publisher) _ _ h
      (λ _ k. let clash : Blocked_send ≡ Send_error _ = k.1 in absurd cc)
      (λ x _ k. by_option (IsSplit s s' l.publisher n q (c.subscriber).buffer) k.1 _ _ k.3
      (λ _ j. after k.0 k.1 k.2 j)
      (λ e _ j. let clash : Blocked_send ≡ Send_error _ = j.1 in absurd cc))
    where
      overflow : (mid : State T U) (failure : Option ConnectionFailure)
          → UpdatePublisher environment s l.publisher mid failure
          → (mid.config).enable_safe_overflow ≡ (s.config).enable_safe_overflow
      overflow mid failure updates =
          by_option ((mid.config).enable_safe_overflow ≡ (s.config).enable_safe_overflow)
          (s.publishers l.publisher) _ _ updates (λ _ v. absurd v) (λ x _ k.
          by_bool ((mid.config).enable_safe_overflow ≡ (s.config).enable_safe_overflow) x.is_due _ _ k
          (λ _ j. ap (λ (t : State T U). (t.config).enable_safe_overflow) j.2)
          (λ _ j. ap (λ (t : State T U). (t.config).enable_safe_overflow) j.0))

      after : (mid : State T U) (failure : Option ConnectionFailure)
          → UpdatePublisher environment s l.publisher mid failure
          → Publish environment mid l.publisher n s' Blocked_send
          → IsSplit s s' l.publisher n q (c.subscriber).buffer
      after mid failure updates publishes =
          let kept = update-publisher-connected environment s w l.publisher q c l.publisher mid failure updates in
          let v : IsWellFormed mid = update_publisher_keeps environment s l.publisher mid failure w free updates in
          let there : mid.subscribers q ≡ Some c.subscriber =
          ap (λ (f : ℕ → Option Subscriber). f q)
          (update_publisher_subscribers environment s l.publisher mid failure updates) ∙ c.there in
          let same : (kept.0).subscriber ≡ c.subscriber =
          same_Some (kept.0).subscriber c.subscriber (sym (kept.0).there ∙ there) in
          let box : served_box (mid.config).enable_safe_overflow ((kept.0).subscriber).buffer n
          (mid.mailboxes l.publisher q) ≡ served_box (s.config).enable_safe_overflow (c.subscriber).buffer n
          (s.mailboxes l.publisher q) =
          ap (λ (y : Subscriber). served_box (mid.config).enable_safe_overflow y.buffer n (mid.mailboxes l.publisher q))
          same
          ∙ ap (λ (b : Mailbox). served_box (mid.config).enable_safe_overflow (c.subscriber).buffer n b) kept.1
          ∙ ap (λ (b : Bool). served_box b (c.subscriber).buffer n (s.mailboxes l.publisher q))
          (overflow mid failure updates) in
          ⊎_elim (λ it. inl (it.0 ∙ box, it.1)) (λ it. inr (it.0 ∙ kept.1, it.1))
          (publish-splits mid v l.publisher q kept.0 n s' publishes)

  -- ---- a send that goes on

  -- each receiver that remains stands once
  pub remain-once : (s : State T U) (w : IsWellFormed s) (p : ℕ) (x : Publisher) (b : BlockedSend)
      → s.publishers p ≡ Some x → x.blocked ≡ Some b → IsOnce (occupants b.ends)
  remain-once s w p x b stands waits =
      let port = w.publishers p x stands in
      let from = (port.blocked b waits).ends in
      subst (λ (ends : List (Option ℕ)). IsOnce (occupants ends)) (sym from.1)
      (IsOnce-occupants (take from.0 (drop b.place x.ends))
      (injective_take from.0 (drop b.place x.ends) (injective_drop b.place x.ends port.ends_apart)))

  module _ (s : State T U) (p n q : ℕ) (elapsed : Duration) (s' : State T U) (result : SendResult) where
    -- in channel 0, by the message's number
    pub retried : (b : BlockedSend) → b.message ≡ n → b.channel ≡ 0 → Retry environment s p b elapsed s' result
        → DeliverAndConclude environment s p
        (sending n 0 (more_retries b.retries) b.place b.ends b.count b.has_failed) elapsed s' result
    retried b message channel h =
        subst (λ (i : ℕ). DeliverAndConclude environment s p
        (sending n i (more_retries b.retries) b.place b.ends b.count b.has_failed) elapsed s' result) channel
        (subst (λ (k : ℕ). DeliverAndConclude environment s p
        (sending k b.channel (more_retries b.retries) b.place b.ends b.count b.has_failed) elapsed s' result) message h)

    pub retry-comes : (w : IsWellFormed s) (goes : GoesTo s p n q) (c : Connects s p q)
        → Retry environment s p goes.blocked elapsed s' result → Comes s s' p n q (c.subscriber).buffer result
    retry-comes w goes c h =
        let b = goes.blocked in
        goes-on-comes environment s p n (more_retries b.retries) elapsed b.place b.ends b.count b.has_failed s' result
        (retried b goes.message goes.channel h) q (c.subscriber).buffer (takes-buffer s w p q c)
        goes.ahead (remain-once s w p goes.publisher b goes.stands goes.waits)

    pub retry-leaves-past : (passes : PassesBy s p n q) → Retry environment s p passes.blocked elapsed s' result
        → Leaves s s' p n q result
    retry-leaves-past passes h =
        let b = passes.blocked in
        goes-on-leaves environment s p n (more_retries b.retries) elapsed b.place b.ends b.count b.has_failed s' result
        (retried b passes.message passes.channel h) q passes.past

-- ---- one that is given up

-- a receiver that isn't the first stands behind it
behind-first : (ends : List (Option ℕ)) (q : ℕ) → contains (occupants ends) q ≡ true → (occupant ends 0 ≡ Some q → ⊥)
    → contains (occupants (drop 1 ends)) q ≡ true
behind-first [] q at away = absurd (true≢false (sym at))
behind-first (None ∷ rest) q at away = at
behind-first (Some r ∷ rest) q at away = ⊎_elim (λ same. absurd (away (ap (λ (i : ℕ). Some i) same))) (λ later. later)
    (contains_in_cons r q (occupants rest) at)

-- the first doesn't
pub first-alone : (ends : List (Option ℕ)) (q : ℕ) → IsOnce (occupants ends) → occupant ends 0 ≡ Some q
    → contains (occupants (drop 1 ends)) q ≡ false
first-alone [] q once at = absurd (none-some q at)
first-alone (None ∷ rest) q once at = absurd (none-some q at)
first-alone (Some r ∷ rest) q once at = subst (λ (i : ℕ). contains (occupants rest) i ≡ false) (same_Some r q at) once.0

-- nor does one that isn't there
none-behind : (ends : List (Option ℕ)) (q : ℕ) → contains (occupants ends) q ≡ false
    → contains (occupants (drop 1 ends)) q ≡ false
none-behind [] q none = none
none-behind (None ∷ rest) q none = none
none-behind (Some r ∷ rest) q none = by (contains (occupants rest) q) refl where
  by : (b : Bool) → contains (occupants rest) q ≡ b → b ≡ false
  by true at = absurd (true≢false (sym (contains_later r q (occupants rest) at) ∙ none))
  by false at = refl

module _ {T U : Type 0} (s : State T U) (w : IsWellFormed s) (p n q : ℕ) (goes : GoesTo s p n q) where
  -- whom the send waits for
  waits-is : waits_for s p ≡ occupant (goes.publisher).ends (goes.blocked).place
  waits-is =
      ap (option_and_then (λ (x : Publisher). option_and_then (λ (b : BlockedSend). occupant x.ends b.place) x.blocked))
      goes.stands
      ∙ ap (option_and_then (λ (b : BlockedSend). occupant (goes.publisher).ends b.place)) goes.waits

  -- what stands among the ends that remain stands at the publisher's ends
  stands-there : (i : ℕ) → occupant (goes.blocked).ends i ≡ Some q
      → occupant (goes.publisher).ends ((goes.blocked).place + i) ≡ Some q
  stands-there i at =
      let from = ((w.publishers p goes.publisher goes.stands).blocked goes.blocked goes.waits).ends in
      sym (occupant-drop (goes.blocked).place (goes.publisher).ends i)
      ∙ occupant-take from.0 (drop (goes.blocked).place (goes.publisher).ends) i q
      (ap (λ (ends : List (Option ℕ)). occupant ends i) (sym from.1) ∙ at)

  -- the send waits for the first
  pub first-waits : occupant (goes.blocked).ends 0 ≡ Some q → waits_for s p ≡ Some q
  first-waits at =
      let place = (goes.blocked).place in
      let here : place + 0 ≡ place = omega arith in
      waits-is ∙ ap (occupant (goes.publisher).ends) (sym here) ∙ stands-there 0 at

  waits-first : waits_for s p ≡ Some q → occupant (goes.blocked).ends 0 ≡ Some q
  waits-first next =
      let there = leads_to (goes.blocked).ends q goes.ahead in
      let place = (goes.blocked).place in
      let same : place ≡ place + there.0 = (w.publishers p goes.publisher goes.stands).ends_apart place
      (place + there.0) q (sym waits-is ∙ next) (stands-there there.0 there.1) in
      let first : there.0 ≡ 0 = omega (arith, same) in
      subst (λ (i : ℕ). occupant (goes.blocked).ends i ≡ Some q) first there.1

-- the first of what is taken is the first
pub first-taken : (count : ℕ) (ends : List (Option ℕ)) → 0 < length (take count ends)
    → occupant (take count ends) 0 ≡ occupant ends 0
first-taken zero ends some = absurd (omega (arith, some))
first-taken (suc count) [] some = refl
first-taken (suc count) (e ∷ rest) some = refl

-- a send hasn't passed the one that it waits for
pub next-not-passed : {T U : Type 0} (s : State T U) → IsWellFormed s → (p n q : ℕ) → waits_for s p ≡ Some q
    → PassesBy s p n q → ⊥
next-not-passed {T} {U} s w p n q next passes =
    let x = passes.publisher in
    let b = passes.blocked in
    let from = ((w.publishers p x passes.stands).blocked b passes.waits).ends in
    let place : b.place + 0 ≡ b.place = omega arith in
    let some : 0 < length (take from.0 (drop b.place x.ends)) =
    subst (λ (ends : List (Option ℕ)). 0 < length ends) from.1 passes.some in
    let waits : waits_for s p ≡ occupant x.ends b.place =
    ap (option_and_then (λ (y : Publisher). option_and_then (λ (v : BlockedSend). occupant y.ends v.place) y.blocked))
    passes.stands
    ∙ ap (option_and_then (λ (v : BlockedSend). occupant x.ends v.place)) passes.waits in
    let first : occupant b.ends 0 ≡ Some q =
    ap (λ (ends : List (Option ℕ)). occupant ends 0) from.1 ∙ first-taken from.0 (drop b.place x.ends) some
    ∙ occupant-drop b.place x.ends 0 ∙ ap (occupant x.ends) place ∙ sym waits ∙ next in
    true≢false (sym (contains-occupants b.ends q (0, first)) ∙ passes.past)

module _ {T U : Type 0} (environment : Environment) (s : State T U) (p n q : ℕ) (s' : State T U)
    (result : SendResult) where
  pub given-up : (b : BlockedSend) → b.message ≡ n → b.channel ≡ 0 → GiveUp environment s p b s' result
      → DeliverAndConclude environment s p
      (sending n 0 0 (b.place + 1) (drop 1 b.ends) b.count b.has_failed) no_time s' result
  given-up b message channel h =
      subst (λ (i : ℕ). DeliverAndConclude environment s p
      (sending n i 0 (b.place + 1) (drop 1 b.ends) b.count b.has_failed) no_time s' result) channel
      (subst (λ (k : ℕ). DeliverAndConclude environment s p
      (sending k b.channel 0 (b.place + 1) (drop 1 b.ends) b.count b.has_failed) no_time s' result) message h)

  pub give-up-comes : (w : IsWellFormed s) (goes : GoesTo s p n q) (c : Connects s p q) → (waits_for s p ≡ Some q → ⊥)
      → GiveUp environment s p goes.blocked s' result → Comes s s' p n q (c.subscriber).buffer result
  give-up-comes w goes c away h =
      let b = goes.blocked in
      goes-on-comes environment s p n 0 no_time (b.place + 1) (drop 1 b.ends) b.count b.has_failed s' result
      (given-up b goes.message goes.channel h) q (c.subscriber).buffer
      (takes-buffer environment s w p q c)
      (behind-first b.ends q goes.ahead (λ at. away (first-waits s w p n q goes at)))
      (once-behind 1 b.ends (remain-once environment s w p goes.publisher b goes.stands goes.waits))

  pub give-up-skips : (w : IsWellFormed s) (goes : GoesTo s p n q) → waits_for s p ≡ Some q
      → GiveUp environment s p goes.blocked s' result → Leaves s s' p n q result
  give-up-skips w goes next h =
      let b = goes.blocked in
      goes-on-leaves environment s p n 0 no_time (b.place + 1) (drop 1 b.ends) b.count b.has_failed s' result
      (given-up b goes.message goes.channel h) q
      (first-alone b.ends q (remain-once environment s w p goes.publisher b goes.stands goes.waits)
      (waits-first s w p n q goes next))

  pub give-up-leaves-past : (passes : PassesBy s p n q) → GiveUp environment s p passes.blocked s' result
      → Leaves s s' p n q result
  give-up-leaves-past passes h =
      let b = passes.blocked in
      goes-on-leaves environment s p n 0 no_time (b.place + 1) (drop 1 b.ends) b.count b.has_failed s' result
      (given-up b passes.message passes.channel h) q (none-behind b.ends q passes.past)

-- ---- where as many are connected as there may be

-- who stands at the place that a blocked send waits at is before it
place-ahead : {T U : Type 0} (s : State T U) → IsWellFormed s → (p n q : ℕ) (passes : PassesBy s p n q) (r : ℕ)
    → occupant ((passes.publisher).ends) ((passes.blocked).place) ≡ Some r
    → contains (occupants (passes.blocked).ends) r ≡ true
place-ahead {T} {U} s w p n q passes r at =
    let x = passes.publisher in
    let b = passes.blocked in
    let from = ((w.publishers p x passes.stands).blocked b passes.waits).ends in
    let place : b.place + 0 ≡ b.place = omega arith in
    let some : 0 < length (take from.0 (drop b.place x.ends)) =
    subst (λ (ends : List (Option ℕ)). 0 < length ends) from.1 passes.some in
    contains-occupants b.ends r (
      0,
      ap (λ (ends : List (Option ℕ)). occupant ends 0) from.1 ∙ first-taken from.0 (drop b.place x.ends) some
          ∙ occupant-drop b.place x.ends 0 ∙ ap (occupant x.ends) place ∙ at,
    )

-- no send waits behind all of them
pub none-behind-all : {T U : Type 0} (s : State T U) → IsWellFormed s → (p n : ℕ) (ids : List ℕ) → IsOnce ids
    → (s.config).max_subscribers ≤ length ids → ((q : ℕ) → contains ids q ≡ true → Connects s p q)
    → ((q : ℕ) → contains ids q ≡ true → PassesBy s p n q) → (q : ℕ) → PassesBy s p n q → ⊥
none-behind-all {T} {U} s w p n ids once full connects passed q passes =
    let x = passes.publisher in
    let port = w.publishers p x passes.stands in
    let waits = (port.blocked passes.blocked passes.waits).waits in
    let leads : (i : ℕ) → contains ids i ≡ true → contains (occupants x.ends) i ≡ true =
    λ i at. let c = connects i at in
    contains-occupants x.ends i
    (subst (λ (z : Publisher). LeadsTo z.ends i) (same_Some c.publisher x (sym c.stands ∙ passes.stands)) c.sends) in
    by port waits leads (contains ids waits.0) refl
  where
    x : Publisher
    x = passes.publisher

    by : (port : PublisherIsWellFormed s p x) (waits : (r : ℕ) × (occupant x.ends (passes.blocked).place ≡ Some r))
        → ((i : ℕ) → contains ids i ≡ true → contains (occupants x.ends) i ≡ true)
        → (b : Bool) → contains ids waits.0 ≡ b → ⊥
    by port waits leads true at =
        let other = passed waits.0 at in
        let same : passes.publisher ≡ other.publisher =
        same_Some passes.publisher other.publisher (sym passes.stands ∙ other.stands) in
        let one : passes.blocked ≡ other.blocked = same_Some passes.blocked other.blocked
        (sym passes.waits ∙ ap (λ (z : Publisher). z.blocked) same ∙ other.waits) in
        true≢false (sym (place-ahead s w p n q passes waits.0 waits.1)
        ∙ ap (λ (v : BlockedSend). contains (occupants v.ends) waits.0) one ∙ other.past)
    by port waits leads false none =
        let more : length (waits.0 ∷ ids) ≤ length (occupants x.ends) =
        length_le (waits.0 ∷ ids) (occupants x.ends) (none, once) (IsOnce-occupants x.ends port.ends_apart) (λ i at.
        ⊎_elim (λ same. contains-occupants x.ends i ((passes.blocked).place, waits.1 ∙ ap (λ (k : ℕ). Some k) same))
        (λ later. leads i later) (contains_in_cons waits.0 i ids at)) in
        let few : length (occupants x.ends) ≤ length x.ends = length-occupants_le x.ends in
        let bound : length x.ends ≤ (s.config).max_subscribers = port.ends_bound in
        omega (arith, more, few, bound, full)
