-- Who blocks a send is full, seen from outside; so a send that goes on isn't blocked where each that it comes to has
-- room.
use Rattle.std.proofs.Common.{◌≡◌, ℕ, ◌+◌, ◌<◌, ◌≤◌, ⊎_elim, true, false, List, [], ◌∷◌, drop, take, length, refl, sym}
use Rattle.std.proofs.Common.{ap, subst, ◌∙◌, arith, Option, None, Some, Result, Ok, Err}
use Rattle.std.specs.Prelude.{IfOk, ◌⊎◌}
use Rattle.std.specs.Option.{option_and_then}
use Rattle.std.specs.declared.time.Duration.{Duration}
use Rattle.std.proofs.lemmas.Bool.{ltb-false, true≢false}
use Rattle.std.proofs.lemmas.Option.{same_Some}
use Rattle.iox2_machine.specs.machine.Delivery.{no_time}
use Rattle.iox2_machine.specs.machine.Numbers.{contains}
use Rattle.iox2_machine.specs.machine.Places.{occupant, occupants}
use Rattle.iox2_machine.specs.machine.Records.{BlockedSend as MachineBlocked, Environment, Loan, Publisher, Subscriber}
use Rattle.iox2_machine.specs.machine.Sends.{Blocked_send, GiveUp, Retry, more_retries}
use Rattle.iox2_machine.specs.machine.State.{State, Messages, channel_buffer, is_blocked}
use Rattle.iox2_machine.specs.declared.errors.SendError.{SendError}
use Rattle.iox2_machine.specs.declared.key.Key.{Key}
use Rattle.iox2_laws.proofs.NumberLemmas.{contains_in_cons, contains_later}
use Rattle.iox2_laws.proofs.PlaceLemmas.{occupant-drop, once-behind}
use Rattle.iox2_domain.specs.Kept.{Kept, state_of}
use Rattle.iox2_domain.specs.Shows.{Shows}
use Rattle.iox2_pubsub.specs.AllSubscribers.{AreAllSubscribers, AreLiveKeys}
use Rattle.iox2_pubsub.specs.BlockedSends.{AreEach, IsNext, IsPastOrRoomy, waits_for}
use Rattle.iox2_pubsub.specs.ConnectedPorts.{Connects}
use Rattle.iox2_pubsub.specs.Live.{HasItsBuffer, IsBlockedSend, IsConnected, IsFull, IsPending, Overflows, WaitingStays}
use Rattle.iox2_pubsub.specs.Live.{blocked_key, payloads_from, subscriber_key}
use Rattle.iox2_pubsub.specs.PendingSends.{GoesTo, PassesBy}
use Rattle.iox2_pubsub.specs.SendCalls.{IfBlocked, IsDelivered, Sends, messages_after_send, result_of_send}
use Rattle.iox2_pubsub.specs.declared.blocked_send.BlockedSend.{BlockedSend}
use Rattle.iox2_pubsub.specs.declared.send_outcome.SendOutcome.{SendOutcome}
use Rattle.iox2_pubsub.specs.declared.send_outcome.SendOutcome.TheVariants.{Blocked, Delivered}
use Rattle.iox2_pubsub.specs.declared.subscriber.Subscriber.{Subscriber as Handle}
use Rattle.iox2_pubsub.proofs.CountsShown.{lies}
use Rattle.iox2_pubsub.proofs.FullDomains.{ids_of, no-other}
use Rattle.iox2_pubsub.proofs.FullEnds.{IsFullAt, Stops, StopsFull, full-connected, goes-on-stops, send-stops}
use Rattle.iox2_pubsub.proofs.LiveParts.{buffer-parts, subscriber-parts}
use Rattle.iox2_pubsub.proofs.RoomySends.{opened-is}
use Rattle.iox2_pubsub.proofs.PendingShown.{goes-is, next-parts, passes-is}
use Rattle.iox2_pubsub.proofs.PendingSteps.{first-alone, first-taken, first-waits, given-up, remain-once, retried}
use Rattle.iox2_pubsub.proofs.PendingSteps.{takes-buffer}
use Rattle.iox2_pubsub.proofs.ReceiversAhead.{where-blocked}
use Rattle.iox2_pubsub.proofs.StaysBut.{passed-parts, pending-parts}
use Rattle.iox2_pubsub.proofs.UpToDateShown.{connected-in}

-- ---- whom a send waits for

module _ {T U F G : Type 0} (old new : Kept T U F G) (m m' : Messages T U) (s s' : State T U) (shown : Shows old m s)
    (shown' : Shows new m' s') (p n : ℕ) where
  -- it was full
  pub next-is-full : StopsFull s s' p n → (subscriber : Handle) → IsConnected old p subscriber
      → waits_for (state_of new) p ≡ Some subscriber.id → IsFull old p subscriber × (Overflows old → ⊥)
  next-is-full stops subscriber is next =
      let waits : waits_for s' p ≡ Some stops.receiver =
      first-waits s' shown'.well_formed p n stops.receiver stops.goes stops.first in
      let same : stops.receiver ≡ subscriber.id = same_Some stops.receiver subscriber.id
      (sym waits ∙ ap (λ (t : State T U). waits_for t p) shown'.state ∙ next) in
      let c : Connects s p subscriber.id = connected-in old m s shown p subscriber is in
      let full : IsFullAt (s.config).enable_safe_overflow (Some (c.subscriber).buffer) (s.mailboxes p subscriber.id) =
      subst (λ (q : ℕ). (c : Connects s p q) → IsFullAt (s.config).enable_safe_overflow (Some (c.subscriber).buffer)
      (s.mailboxes p q)) same stops.full c in
      let size : (c.subscriber).buffer ≡ full.size = same_Some (c.subscriber).buffer full.size full.opened in
      let many : full.size ≤ length (s.mailboxes p subscriber.id).waiting = ltb-false _ _ full.full in
      let wait : length (payloads_from old p subscriber) ≡ length (s.mailboxes p subscriber.id).waiting =
      lies old m s shown p subscriber c in
      let some : 0 < (c.subscriber).buffer =
      (shown.well_formed.subscribers subscriber.id c.subscriber c.there).some_room in (
        record {
          some = omega (arith, some, size, many, wait);
          full = λ its.
              let own : (c.subscriber).buffer ≡ subscriber.buffer_size =
              (buffer-parts old subscriber its).1 c.subscriber
              (ap (λ (t : State T U). t.subscribers subscriber.id) (sym shown.state) ∙ c.there) in
              omega (arith, own, size, many, wait);
        },
        λ over. true≢false
            (sym (ap (λ (t : State T U). (t.config).enable_safe_overflow) shown.state ∙ over) ∙ full.no_overflow),
      )

-- ---- a send that goes on

module _ {T U F G : Type 0} (old : Kept T U F G) (m : Messages T U) (s : State T U) (shown : Shows old m s)
    (waited : BlockedSend) (x : Publisher) (b : MachineBlocked)
    (at : s.publishers waited.loan.publisher ≡ Some x) (waits : x.blocked ≡ Some b) (target : Handle) (values : List T)
    (pending : IsPending old waited target values) where
  abbrev p : ℕ
  p = waited.loan.publisher

  abbrev n : ℕ
  n = waited.loan.number

  goes : GoesTo s p n target.id
  goes = subst (λ (t : State T U). GoesTo t p n target.id) (sym shown.state)
      (pending-parts old waited target values pending).1

  held : b ≡ goes.blocked
  held = goes-is s p n target.id x b at waits goes

  message : b.message ≡ n
  message = ap (λ (v : MachineBlocked). v.message) held ∙ goes.message

  channel : b.channel ≡ 0
  channel = ap (λ (v : MachineBlocked). v.channel) held ∙ goes.channel

  module _ (environment : Environment) (s' : State T U) where
    pub retry-stops : (elapsed : Duration) → Retry environment s p b elapsed s' Blocked_send → Stops s s' p n b.ends
    retry-stops elapsed h =
        goes-on-stops environment s p n (more_retries b.retries) elapsed b.place b.ends b.count b.has_failed s'
        (remain-once environment s shown.well_formed p x b at waits)
        (retried environment s p n target.id elapsed s' Blocked_send b message channel h)

    pub give-up-stops : GiveUp environment s p b s' Blocked_send → Stops s s' p n (drop 1 b.ends)
    give-up-stops h =
        goes-on-stops environment s p n 0 no_time (b.place + 1) (drop 1 b.ends) b.count b.has_failed s'
        (once-behind 1 b.ends (remain-once environment s shown.well_formed p x b at waits))
        (given-up environment s p n target.id s' Blocked_send b message channel h)

  -- no receiver stops it that is behind it, or has room
  past-or-roomy : (environment : Environment) (subscriber : Handle) → IsPastOrRoomy old waited subscriber
      → contains (occupants b.ends) subscriber.id ≡ true
      → IsFullAt (s.config).enable_safe_overflow (channel_buffer s p 0 subscriber.id) (s.mailboxes p subscriber.id) → ⊥
  past-or-roomy environment subscriber is among full =
      ⊎_elim
      (λ passed.
      let passes : PassesBy s p n subscriber.id = subst (λ (t : State T U). PassesBy t p n subscriber.id)
      (sym shown.state) (passed-parts old waited subscriber passed).1 in
      true≢false (sym among ∙ ap (λ (v : MachineBlocked). contains (occupants v.ends) subscriber.id)
      (passes-is s p n subscriber.id x b at waits passes) ∙ passes.past))
      (λ room.
      let c : Connects s p subscriber.id = connected-in old m s shown p subscriber room.connected in
      let size : (c.subscriber).buffer ≡ full.size = same_Some (c.subscriber).buffer full.size
      (sym (takes-buffer environment s shown.well_formed p subscriber.id c) ∙ full.opened) in
      let own : (c.subscriber).buffer ≡ subscriber.buffer_size =
      (buffer-parts old subscriber room.buffer).1 c.subscriber
      (ap (λ (t : State T U). t.subscribers subscriber.id) (sym shown.state) ∙ c.there) in
      let many : full.size ≤ length (s.mailboxes p subscriber.id).waiting = ltb-false _ _ full.full in
      let wait : length (payloads_from old p subscriber) ≡ length (s.mailboxes p subscriber.id).waiting =
      lies old m s shown p subscriber c in
      let few : length (payloads_from old p subscriber) < subscriber.buffer_size = room.room in
      omega (arith, size, own, many, wait, few))
      is

  there : (subscribers : List Handle) → AreLiveKeys old subscribers → (q : ℕ) → contains (ids_of subscribers) q ≡ true
      → (y : Subscriber) × (s.subscribers q ≡ Some y)
  there [] live q has = absurd (true≢false (sym has))
  there (subscriber ∷ others) live q has =
      ⊎_elim
      (λ same.
      let stands = (subscriber-parts old (subscriber_key subscriber) live.0).2 in (
        stands.0,
        ap (λ (t : State T U). t.subscribers q) shown.state ∙ ap (state_of old).subscribers (sym same) ∙ stands.1,
      ))
      (λ later. there others live.1 q later)
      (contains_in_cons subscriber.id q (ids_of others) has)

  module _ (environment : Environment) (s' : State T U) (ends : List (Option ℕ)) (IsGood : Handle → Type 0)
      (clash : (subscriber : Handle) → IsGood subscriber → contains (occupants ends) subscriber.id ≡ true
      → IsFullAt (s.config).enable_safe_overflow (channel_buffer s p 0 subscriber.id) (s.mailboxes p subscriber.id)
      → ⊥) where
    stops-at-none : (subscribers : List Handle) → AreEach IsGood subscribers → (stops : Stops s s' p n ends)
        → contains (ids_of subscribers) stops.receiver ≡ true → ⊥
    stops-at-none [] each stops has = true≢false (sym has)
    stops-at-none (subscriber ∷ others) each stops has =
        ⊎_elim
        (λ same. clash subscriber each.0 (ap (contains (occupants ends)) same ∙ stops.among)
        (subst (λ (q : ℕ). IsFullAt (s.config).enable_safe_overflow (channel_buffer s p 0 q) (s.mailboxes p q))
        (sym same) stops.full))
        (λ later. stops-at-none others each.1 stops later)
        (contains_in_cons subscriber.id stops.receiver (ids_of others) has)

    never-stops : (subscribers : List Handle) → AreAllSubscribers old subscribers → AreEach IsGood subscribers
        → Stops s s' p n ends → ⊥
    never-stops subscribers all each stops =
        let full : (s.config).max_subscribers ≤ length subscribers =
        subst (λ (t : State T U). (t.config).max_subscribers ≤ length subscribers) (sym shown.state) all.full in
        let y = opened-is s p stops.receiver (stops.full).size (stops.full).opened in
        stops-at-none subscribers each stops (no-other s shown.well_formed subscribers all.different full
        (there subscribers all.live) stops.receiver y.0 y.1)

  -- so a retry isn't blocked where all are behind it, or have room
  pub retry-unstopped : (environment : Environment) (s' : State T U) (elapsed : Duration) (subscribers : List Handle)
      → AreAllSubscribers old subscribers → AreEach (IsPastOrRoomy old waited) subscribers
      → Retry environment s p b elapsed s' Blocked_send → ⊥
  retry-unstopped environment s' elapsed subscribers all each h =
      never-stops environment s' b.ends (IsPastOrRoomy old waited) (past-or-roomy environment) subscribers all each
      (retry-stops environment s' elapsed h)

  -- ---- one that is given up

  waits-at : (q : ℕ) → waits_for s p ≡ Some q → occupant b.ends 0 ≡ Some q
  waits-at q here =
      let from = ((shown.well_formed.publishers p x at).blocked b waits).ends in
      let place : b.place + 0 ≡ b.place = omega arith in
      let long : 0 < length b.ends = subst (λ (v : MachineBlocked). 0 < length v.ends) (sym held) goes.some in
      let some : 0 < length (take from.0 (drop b.place x.ends)) =
      subst (λ (ends : List (Option ℕ)). 0 < length ends) from.1 long in
      let is : waits_for s p ≡ occupant x.ends b.place =
      ap (option_and_then (λ (y : Publisher). option_and_then (λ (v : MachineBlocked). occupant y.ends v.place)
      y.blocked)) at ∙ ap (option_and_then (λ (v : MachineBlocked). occupant x.ends v.place)) waits in
      ap (λ (ends : List (Option ℕ)). occupant ends 0) from.1 ∙ first-taken from.0 (drop b.place x.ends) some
      ∙ occupant-drop b.place x.ends 0 ∙ ap (occupant x.ends) place ∙ sym is ∙ here

  among-all : (ends : List (Option ℕ)) (q : ℕ) → contains (occupants (drop 1 ends)) q ≡ true
      → contains (occupants ends) q ≡ true
  among-all [] q at = at
  among-all (None ∷ rest) q at = at
  among-all (Some r ∷ rest) q at = contains_later r q (occupants rest) at

  -- neither is a giving up
  next-or-roomy : (environment : Environment) (subscriber : Handle) → IsNext old waited subscriber
      ⊎ IsPastOrRoomy old waited subscriber → contains (occupants (drop 1 b.ends)) subscriber.id ≡ true
      → IsFullAt (s.config).enable_safe_overflow (channel_buffer s p 0 subscriber.id) (s.mailboxes p subscriber.id) → ⊥
  next-or-roomy environment subscriber is among full =
      ⊎_elim
      (λ next.
      let here : waits_for s p ≡ Some subscriber.id =
      ap (λ (t : State T U). waits_for t p) shown.state ∙ next-parts old waited subscriber next in
      let first : occupant b.ends 0 ≡ Some subscriber.id = waits-at subscriber.id here in
      true≢false (sym among
      ∙ first-alone b.ends subscriber.id (remain-once environment s shown.well_formed p x b at waits) first))
      (λ other. past-or-roomy environment subscriber other (among-all b.ends subscriber.id among) full)
      is

  pub give-up-unstopped : (environment : Environment) (s' : State T U) (subscribers : List Handle)
      → AreAllSubscribers old subscribers
      → AreEach (λ it. IsNext old waited it ⊎ IsPastOrRoomy old waited it) subscribers
      → GiveUp environment s p b s' Blocked_send → ⊥
  give-up-unstopped environment s' subscribers all each h =
      never-stops environment s' (drop 1 b.ends) (λ it. IsNext old waited it ⊎ IsPastOrRoomy old waited it)
      (next-or-roomy environment) subscribers all each (give-up-stops environment s' h)

-- ---- for the calls

-- a send that isn't blocked, and ends, is delivered
unless-blocked : (result : Result SendOutcome SendError) → (result_of_send result ≡ Blocked_send → ⊥)
    → IfOk result IsDelivered
unless-blocked (Ok (Delivered count)) never = tt
unless-blocked (Ok (Blocked blocked)) never = absurd (never refl)
unless-blocked (Err error) never = tt

-- a send
pub sends-full : {T U F G : Type 0} (old new : Kept T U F G) (m : Messages T U) (s : State T U)
    (environment : Environment) → Shows old m s
    → (n : ℕ) (l : Loan T U) (p : ℕ) (result : Result SendOutcome SendError) (s' : State T U)
    → Shows new (messages_after_send m n l result) s' → Sends environment s n l result s' → l.publisher ≡ p
    → is_blocked (state_of old) p ≡ false → (key : Key) → key.port ≡ p
    → IfOk result (λ outcome. IfBlocked outcome (λ blocked. IsBlockedSend new blocked × (blocked_key blocked ≡ key)))
    → (subscriber : Handle) → IsConnected old p subscriber
    → IfOk result (λ outcome. IfBlocked outcome (λ blocked. IsNext new blocked subscriber → IsFull old p subscriber))
sends-full old new m s environment shown n l p
    (Ok (Delivered count)) s' shown' h its free key port blocked subscriber is = tt
sends-full old new m s environment shown n l p (Err error) s' shown' h its free key port blocked subscriber is = tt
sends-full {T} {U} old new m s environment shown n l p
    (Ok (Blocked again)) s' shown' h its free key port blocked subscriber is = λ next.
    let open_now : is_blocked s l.publisher ≡ false =
    ap (λ (t : State T U). is_blocked t l.publisher) shown.state ∙ ap (is_blocked (state_of old)) its ∙ free in
    let stops : StopsFull s s' p n =
    subst (λ (i : ℕ). StopsFull s s' i n) its (send-stops environment s n l s' shown.well_formed open_now h) in
    let sender : again.loan.publisher ≡ p = ap (λ (k : Key). k.port) blocked.1 ∙ port in
    (next-is-full old new m (messages_after_send m n l (Ok (Blocked again))) s s' shown shown' p n stops subscriber is
    (ap (waits_for (state_of new)) (sym sender) ∙ next-parts new again subscriber next)).0

-- a copy's, seen from before
full-since : {T U F G : Type 0} {old mid : Kept T U F G} → WaitingStays old mid
    → ((it : Handle) → HasItsBuffer old it → HasItsBuffer mid it) → (p lender : ℕ) → lender ≡ p → (subscriber : Handle)
    → IsFull mid lender subscriber → IsFull old p subscriber
full-since {T} {U} {F} {G} {old} {mid} waits buffers p lender its subscriber full =
    let lists : payloads_from mid lender subscriber ≡ payloads_from old p subscriber =
    ap (λ (i : ℕ). payloads_from mid i subscriber) its
    ∙ ap (λ (f : ℕ → Handle → List (List T)). f p subscriber) waits.from in
    record {
      some = subst (λ (ps : List (List T)). 0 < length ps) lists full.some;
      full = λ it.
          subst (λ (ps : List (List T)). subscriber.buffer_size ≤ length ps) lists (full.full (buffers subscriber it));
    }

pub copy-full : {T U F G : Type 0} {old mid : Kept T U F G} (new : Kept T U F G) → WaitingStays old mid
    → ((it : Handle) → HasItsBuffer old it → HasItsBuffer mid it) → (p lender : ℕ) → lender ≡ p → (subscriber : Handle)
    → (result : Result SendOutcome SendError) → IfOk result
    (λ outcome. IfBlocked outcome (λ blocked. IsNext new blocked subscriber → IsFull mid lender subscriber))
    → IfOk result (λ outcome. IfBlocked outcome (λ blocked. IsNext new blocked subscriber → IsFull old p subscriber))
copy-full new waits buffers p lender its subscriber (Ok (Delivered count)) full = tt
copy-full new waits buffers p lender its subscriber (Err error) full = tt
copy-full {T} {U} {F} {G} {old} {mid} new waits buffers p lender its subscriber (Ok (Blocked blocked)) full =
    λ next. full-since {old = old} {mid = mid} waits buffers p lender its subscriber (full next)

-- a retry, and a giving up
module _ {T U F G : Type 0} (old new : Kept T U F G) (m : Messages T U) (s s' : State T U) (shown : Shows old m s)
    (shown' : Shows new m s') (waited : BlockedSend) (outcome : Result SendOutcome SendError)
    (its : IfOk outcome (λ came. IfBlocked came (λ it. it ≡ waited))) (environment : Environment) (x : Publisher)
    (b : MachineBlocked)
    (at : s.publishers waited.loan.publisher ≡ Some x) (waits : x.blocked ≡ Some b) (target : Handle) (values : List T)
    (pending : IsPending old waited target values) where
  stops-full : (ends : List (Option ℕ))
      → (result_of_send outcome ≡ Blocked_send → Stops s s' waited.loan.publisher waited.loan.number ends)
      → (subscriber : Handle) → IsConnected old waited.loan.publisher subscriber
      → IfOk outcome
      (λ came. IfBlocked came (λ again. IsNext new again subscriber → IsFull old waited.loan.publisher subscriber))
  stops-full ends stops subscriber is =
      where-blocked (λ again. IsNext new again subscriber → IsFull old waited.loan.publisher subscriber) waited outcome
      its (λ blocks next.
      (next-is-full old new m m s s' shown shown' waited.loan.publisher waited.loan.number
      (full-connected environment s shown.well_formed s' waited.loan.publisher waited.loan.number ends (stops blocks))
      subscriber is
      (next-parts new waited subscriber next)).0)

  module _ (elapsed : Duration)
      (h : Retry environment s waited.loan.publisher b elapsed s' (result_of_send outcome)) where
    blocked-retry : result_of_send outcome ≡ Blocked_send
        → Retry environment s waited.loan.publisher b elapsed s' Blocked_send
    blocked-retry blocks = subst (Retry environment s waited.loan.publisher b elapsed s') blocks h

    pub retry-full : (subscriber : Handle) → IsConnected old waited.loan.publisher subscriber
        → IfOk outcome (λ came.
        IfBlocked came (λ again. IsNext new again subscriber → IsFull old waited.loan.publisher subscriber))
    retry-full =
        stops-full b.ends (λ blocks. retry-stops old m s shown waited x b at waits target values pending environment s'
        elapsed (blocked-retry blocks))

    pub retry-roomy : (subscribers : List Handle) → AreAllSubscribers old subscribers
        → AreEach (IsPastOrRoomy old waited) subscribers → IfOk outcome IsDelivered
    retry-roomy subscribers all each =
        unless-blocked outcome (λ blocks. retry-unstopped old m s shown waited x b at waits target values pending
        environment s' elapsed subscribers all each (blocked-retry blocks))

  module _ (h : GiveUp environment s waited.loan.publisher b s' (result_of_send outcome)) where
    blocked-give-up : result_of_send outcome ≡ Blocked_send
        → GiveUp environment s waited.loan.publisher b s' Blocked_send
    blocked-give-up blocks = subst (GiveUp environment s waited.loan.publisher b s') blocks h

    pub give-up-full : (subscriber : Handle) → IsConnected old waited.loan.publisher subscriber
        → IfOk outcome (λ came.
        IfBlocked came (λ again. IsNext new again subscriber → IsFull old waited.loan.publisher subscriber))
    give-up-full = stops-full (drop 1 b.ends) (λ blocks.
        give-up-stops old m s shown waited x b at waits target values pending environment s' (blocked-give-up blocks))

    pub give-up-roomy : (subscribers : List Handle) → AreAllSubscribers old subscribers
        → AreEach (λ it. IsNext old waited it ⊎ IsPastOrRoomy old waited it) subscribers → IfOk outcome IsDelivered
    give-up-roomy subscribers all each =
        unless-blocked outcome (λ blocks. give-up-unstopped old m s shown waited x b at waits target values pending
        environment s' subscribers all each (blocked-give-up blocks))
