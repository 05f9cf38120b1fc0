-- What a blocked send leaves for each subscriber, and what one that goes on does, seen from outside.
use Rattle.std.proofs.Common.{◌≡◌, ℕ, ◌+◌, inl, inr, ⊎_elim, List, drop, refl, sym, ap, subst, ◌∙◌, Option, Some}
use Rattle.std.proofs.Common.{Result, Ok, Err}
use mathlib.Core.Path.{fun_ext}
use Rattle.std.specs.Prelude.{IfErr, IfOk, ⊤}
use Rattle.std.specs.declared.time.Duration.{Duration}
use Rattle.std.proofs.lemmas.Bool.{cases_eq}
use Rattle.std.proofs.lemmas.Option.{same_Some}
use Rattle.iox2_machine.specs.Stored.{In_blocked_send}
use Rattle.iox2_machine.specs.machine.Delivery.{no_time}
use Rattle.iox2_machine.specs.machine.Mailbox.{Mailbox}
use Rattle.iox2_machine.specs.machine.Records.{Entry, Environment, BlockedSend as MachineBlocked, Publisher}
use Rattle.iox2_machine.specs.machine.Records.{Subscriber as MachineSubscriber}
use Rattle.iox2_machine.specs.machine.Sends.{Blocked_send, Delivered_to, GiveUp, Retry, Send_error, more_retries}
use Rattle.iox2_machine.specs.machine.State.{State, Messages}
use Rattle.iox2_machine.specs.machine.Waiting.{waiting_from}
use Rattle.iox2_machine.specs.declared.errors.SendError.{SendError}
use Rattle.iox2_machine.specs.declared.key.Key.{Key}
use Rattle.iox2_laws.proofs.WaitingCounts.{same_from}
use Rattle.iox2_domain.specs.Kept.{Kept, state_of, entries_of}
use Rattle.iox2_domain.specs.Shows.{Shows}
use Rattle.iox2_pubsub.specs.BlockedSends.{IsLeftBehind, IsNext, IsNotNext, Resumes, waits_for}
use Rattle.iox2_pubsub.specs.ConnectedPorts.{Connects}
use Rattle.iox2_pubsub.specs.Live.{HasPassed, IsBlockedSend, IsConnected, IsPending, IsServed, IsServedOrPending}
use Rattle.iox2_pubsub.specs.Live.{OthersSend, WaitsAsBefore, blocked_key}
use Rattle.iox2_pubsub.specs.PendingSends.{GoesTo, PassesBy}
use Rattle.iox2_pubsub.specs.SendCalls.{IfBlocked, IsDelivered, result_of_send}
use Rattle.iox2_pubsub.specs.Slices.{SampleHasValues}
use Rattle.iox2_pubsub.specs.declared.blocked_send.BlockedSend.{BlockedSend}
use Rattle.iox2_pubsub.specs.declared.send_outcome.SendOutcome.{SendOutcome}
use Rattle.iox2_pubsub.specs.declared.send_outcome.SendOutcome.TheVariants.{Blocked, Delivered}
use Rattle.iox2_pubsub.specs.declared.subscriber.Subscriber.{Subscriber}
use Rattle.iox2_pubsub.proofs.ConnectedCounts.{TouchesOnly, goes-on-touches, others-wait}
use Rattle.iox2_pubsub.proofs.ConnectionsShown.{served}
use Rattle.iox2_pubsub.proofs.ConnectionsStay.{ConnectsStay, give-up-connections, retry-connections}
use Rattle.iox2_pubsub.proofs.PendingDeliveries.{Comes, IsSplit, Leaves, served_box}
use Rattle.iox2_pubsub.proofs.PendingSteps.{give-up-comes, give-up-leaves-past, give-up-skips, retry-comes}
use Rattle.iox2_pubsub.proofs.PendingSteps.{retry-leaves-past}
use Rattle.iox2_pubsub.proofs.PublisherWaits.{send-joins}
use Rattle.iox2_pubsub.proofs.ReceiversAhead.{where-blocked}
use Rattle.iox2_pubsub.proofs.SendsServe.{connected-waits}
use Rattle.iox2_pubsub.proofs.StaysBut.{passed-from, passed-parts, pending-from, pending-parts}
use Rattle.iox2_pubsub.proofs.ServedLists.{ServedLists, served-lists}
use Rattle.iox2_pubsub.proofs.UpToDateShown.{connected-in}
use Rattle.iox2_pubsub.proofs.WaitingShown.{payloads-stay-for, payloads-stay-from}

-- a message reads as its entry
message-parts : {T U F G : Type 0} (kept : Kept T U F G) (key : Key) (values : List T) → SampleHasValues kept key values
    → (entry : Entry T U) × (entries_of kept key.message ≡ Some entry) × (entry.values ≡ values)
unfolding SampleHasValues
message-parts kept key values has = has

message-has : {T U F G : Type 0} (kept : Kept T U F G) (key : Key) (values : List T)
    → (entry : Entry T U) × (entries_of kept key.message ≡ Some entry) × (entry.values ≡ values)
    → SampleHasValues kept key values
unfolding SampleHasValues
message-has kept key values has = has

-- for whom a send waits
pub next-parts : {T U F G : Type 0} (kept : Kept T U F G) (blocked : BlockedSend) (subscriber : Subscriber)
    → IsNext kept blocked subscriber → waits_for (state_of kept) blocked.loan.publisher ≡ Some subscriber.id
unfolding IsNext
next-parts kept blocked subscriber next = next

pub next-is : {T U F G : Type 0} (kept : Kept T U F G) (blocked : BlockedSend) (subscriber : Subscriber)
    → waits_for (state_of kept) blocked.loan.publisher ≡ Some subscriber.id → IsNext kept blocked subscriber
unfolding IsNext
next-is kept blocked subscriber next = next

-- where a send is delivered it isn't blocked
pub when-delivered : (outcome : Result SendOutcome SendError) (P : Type 0)
    → ((result_of_send outcome ≡ Blocked_send → ⊥) → P) → IfOk outcome (λ came. IsDelivered came → P)
when-delivered (Ok (Delivered count)) P holds =
    λ _. holds (λ is. let clash : Delivered_to count ≡ Blocked_send = is in cc)
when-delivered (Ok (Blocked blocked)) P holds = λ no. absurd no
when-delivered (Err error) P holds = tt

-- nor is it where it fails
when-failed : (outcome : Result SendOutcome SendError) (P : Type 0) → ((result_of_send outcome ≡ Blocked_send → ⊥) → P)
    → IfErr outcome (λ error. P)
when-failed (Ok came) P holds = tt
when-failed (Err error) P holds = holds (λ is. let clash : Send_error error ≡ Blocked_send = is in cc)

module _ {T U F G : Type 0} (old new : Kept T U F G) (m m' : Messages T U) (s s' : State T U) (shown : Shows old m s)
    (shown' : Shows new m' s')
    (sent : (k : ℕ) (entry : Entry T U) → m k ≡ Some entry → m' k ≡ Some entry) (p : ℕ)
    (touches : TouchesOnly s s' p) where
  module _ (subscriber : Subscriber) where
    -- nothing moved for the subscriber
    pub as-waits : (s'.mailboxes p subscriber.id).waiting ≡ (s.mailboxes p subscriber.id).waiting
        → WaitsAsBefore old new subscriber
    as-waits same = record {
      all = payloads-stay-for old new m m' s s' shown shown' sent subscriber touches.others.ports each;
      from = λ i. payloads-stay-from old new m m' s s' shown shown' sent i subscriber (each i);
    }
      where
        each : (i : ℕ) → waiting_from s' i subscriber.id ≡ waiting_from s i subscriber.id
        each i = elim (cases_eq i p) [
          | inl here ↦
              same_from s s' i subscriber.id
              (ap (λ (f : ℕ → Option MachineSubscriber). f subscriber.id) touches.subscribers)
              (ap (λ (k : ℕ). (s'.mailboxes k subscriber.id).waiting) here ∙ same
              ∙ ap (λ (k : ℕ). (s.mailboxes k subscriber.id).waiting) (sym here))
          | inr away ↦ others-wait s s' p touches subscriber.id i away
        ]

    pub as-before : s'.mailboxes p subscriber.id ≡ s.mailboxes p subscriber.id → WaitsAsBefore old new subscriber
    as-before same = as-waits (ap (λ (box : Mailbox). box.waiting) same)

  -- what waits of other publishers waits as before
  pub others-send : OthersSend p old new
  others-send other away =
      fun_ext (λ (subscriber : Subscriber). payloads-stay-from old new m m' s s' shown shown' sent other subscriber
      (others-wait s s' p touches subscriber.id other away))

  module _ (n : ℕ) (entry : Entry T U) (is_sent : m' n ≡ Some entry) (connects : ConnectsStay s s')
      (subscriber : Subscriber) (is : IsConnected old p subscriber) (c : Connects s p subscriber.id) where
    -- it was served
    pub box-served : s'.mailboxes p subscriber.id ≡ served_box (s.config).enable_safe_overflow (c.subscriber).buffer n
        (s.mailboxes p subscriber.id) → IsServed old new p subscriber entry.values
    box-served box =
        served old new m m' s s' shown shown' p n entry sent is_sent subscriber is touches (λ y there.
        let same : c.subscriber ≡ y = same_Some c.subscriber y (sym c.there ∙ there) in
        let now : List ℕ = waiting_from s' p subscriber.id in
        let lies : now ≡ (served_box (s.config).enable_safe_overflow y.buffer n (s.mailboxes p subscriber.id)).waiting =
        connected-waits s' p subscriber.id (connects p subscriber.id c)
        ∙ ap (λ (b : Mailbox). b.waiting)
        (box ∙ ap (λ (z : MachineSubscriber).
        served_box (s.config).enable_safe_overflow z.buffer n (s.mailboxes p subscriber.id)) same) in
        subst (λ (before : List ℕ). ServedLists before now n y.buffer (s.config).enable_safe_overflow)
        (sym (connected-waits s p subscriber.id c))
        (served-lists (s.mailboxes p subscriber.id) n y.buffer (s.config).enable_safe_overflow now
        (shown.well_formed.subscribers subscriber.id y there).some_room lies))

    -- a send that is blocked has served it, or has it before it
    pub split-shown : (blocked : BlockedSend) → p ≡ blocked.loan.publisher → n ≡ blocked.loan.number
        → IsBlockedSend new blocked → (values : List T) → entry.values ≡ values
        → IsSplit s s' p n subscriber.id (c.subscriber).buffer → IsServedOrPending old new blocked subscriber values
    split-shown blocked sender number live values same split =
        ⊎_elim
        (λ it. inl (
          subst (λ (i : ℕ). IsServed old new i subscriber values) sender
              (subst (IsServed old new p subscriber) same (box-served it.0)),
          passed-from new blocked subscriber (
            live,
            subst (λ (i : ℕ). PassesBy (state_of new) i blocked.loan.number subscriber.id) sender
                (subst (λ (k : ℕ). PassesBy (state_of new) p k subscriber.id) number
                (subst (λ (t : State T U). PassesBy t p n subscriber.id) shown'.state it.1)),
          ),
        ))
        (λ it.
        let goes : GoesTo (state_of new) p n subscriber.id =
        subst (λ (t : State T U). GoesTo t p n subscriber.id) shown'.state it.1 in
        let kept =
        shown'.complete p n (In_blocked_send goes.publisher goes.blocked goes.stands goes.waits goes.message) in
        let its : kept.0 ≡ entry = same_Some kept.0 entry (sym (shown'.entries n kept.0 kept.1) ∙ is_sent) in
        inr (
          as-before subscriber it.0,
          pending-from new blocked subscriber values (
            live,
            subst (λ (i : ℕ). GoesTo (state_of new) i blocked.loan.number subscriber.id) sender
                (subst (λ (k : ℕ). GoesTo (state_of new) p k subscriber.id) number goes),
            message-has new (blocked_key blocked) values
                (kept.0, ap (entries_of new) (sym number) ∙ kept.1, ap (λ (e : Entry T U). e.values) its ∙ same),
          ),
        ))
        split

-- ---- a send that goes on

module _ {T U F G : Type 0} (old new : Kept T U F G) (m : Messages T U) (s s' : State T U) (shown : Shows old m s)
    (shown' : Shows new m s') (waited : BlockedSend) (outcome : Result SendOutcome SendError)
    (its : IfOk outcome (λ came. IfBlocked came (λ it. it ≡ waited)))
    (live : IfOk outcome (λ came. IfBlocked came (IsBlockedSend new)))
    (touches : TouchesOnly s s' waited.loan.publisher) (connects : ConnectsStay s s') where
  abbrev p : ℕ
  p = waited.loan.publisher

  abbrev n : ℕ
  n = waited.loan.number

  still-live : result_of_send outcome ≡ Blocked_send → IsBlockedSend new waited
  still-live = by outcome its live where
    by : (came : Result SendOutcome SendError) → IfOk came (λ it. IfBlocked it (λ again. again ≡ waited))
        → IfOk came (λ it. IfBlocked it (IsBlockedSend new)) → result_of_send came ≡ Blocked_send
        → IsBlockedSend new waited
    by (Ok (Blocked again)) same lives is = subst (IsBlockedSend new) same lives
    by (Ok (Delivered count)) same lives is = absurd (let clash : Delivered_to count ≡ Blocked_send = is in cc)
    by (Err error) same lives is = absurd (let clash : result_of_send (Err error) ≡ Blocked_send = is in cc)

  -- a subscriber that the send left behind it
  pub left-behind : (subscriber : Subscriber) → Leaves s s' p n subscriber.id (result_of_send outcome)
      → WaitsAsBefore old new subscriber
      × IfOk outcome (λ came. IfBlocked came (λ again. HasPassed new again subscriber))
  left-behind subscriber left = (
    as-before old new m m s s' shown shown' (λ k entry at. at) p touches subscriber left.0,
    where-blocked (λ again. HasPassed new again subscriber) waited outcome its
        (λ is. passed-from new waited subscriber
        (still-live is, subst (λ (t : State T U). PassesBy t p n subscriber.id) shown'.state (left.1 is))),
  )

  goes-in : (subscriber : Subscriber) → GoesTo (state_of old) p n subscriber.id → GoesTo s p n subscriber.id
  goes-in subscriber goes = subst (λ (t : State T U). GoesTo t p n subscriber.id) (sym shown.state) goes

  module _ (IsTried : Subscriber → Type 0)
      (comes : (subscriber : Subscriber) → IsTried subscriber → GoesTo s p n subscriber.id
      → (c : Connects s p subscriber.id) → Comes s s' p n subscriber.id (c.subscriber).buffer (result_of_send outcome))
      (past : (subscriber : Subscriber) → PassesBy s p n subscriber.id
      → Leaves s s' p n subscriber.id (result_of_send outcome)) where
    was-served : (subscriber : Subscriber) (values : List T) → IsTried subscriber
        → IsPending old waited subscriber values → IsConnected old p subscriber
        → (result_of_send outcome ≡ Blocked_send → ⊥)
        → IsServed old new p subscriber values
    was-served subscriber values tried pending is ended =
        let c = connected-in old m s shown p subscriber is in
        let reads =
        message-parts old (blocked_key waited) values (pending-parts old waited subscriber values pending).2 in
        ⊎_elim
        (λ it. subst (IsServed old new p subscriber) reads.2
        (box-served old new m m s s' shown shown' (λ k entry at. at) p touches n reads.0
        (shown.entries n reads.0 reads.1) connects subscriber is c it.1))
        (λ it. absurd (ended it.0))
        (comes subscriber tried (goes-in subscriber (pending-parts old waited subscriber values pending).1) c)

    serves : (subscriber : Subscriber) (values : List T) → IsTried subscriber → IsPending old waited subscriber values
        → IsConnected old p subscriber
        → IfOk outcome (λ came. IsDelivered came → IsServed old new p subscriber values)
    serves subscriber values tried pending is =
        when-delivered outcome (IsServed old new p subscriber values) (was-served subscriber values tried pending is)

    stays-pending : (subscriber : Subscriber) (values : List T) → IsTried subscriber
        → IsPending old waited subscriber values → IsConnected old p subscriber
        → IfOk outcome (λ came. IfBlocked came (λ again. IsServedOrPending old new again subscriber values))
    stays-pending subscriber values tried pending is =
        let c = connected-in old m s shown p subscriber is in
        let reads =
        message-parts old (blocked_key waited) values (pending-parts old waited subscriber values pending).2 in
        where-blocked (λ again. IsServedOrPending old new again subscriber values) waited outcome its (λ waits.
        ⊎_elim
        (λ it. absurd (it.0 waits))
        (λ it. split-shown old new m m s s' shown shown' (λ k entry at. at) p touches n reads.0
        (shown.entries n reads.0 reads.1) connects subscriber is c waited refl refl
        (still-live waits) values reads.2 it.1)
        (comes subscriber tried (goes-in subscriber (pending-parts old waited subscriber values pending).1) c))

    pub resumed : Resumes IsTried waited outcome old new
    resumed = record {
      serves = serves;
      fails = λ subscriber values tried pending is.
          when-failed outcome (IsServed old new p subscriber values) (was-served subscriber values tried pending is);
      joins = λ subscriber values earlier tried pending is all its room.
          send-joins old new m m s s' shown shown' subscriber p values earlier all its room outcome
          (serves subscriber values tried pending is);
      pending = stays-pending;
      passed = λ subscriber has. left-behind subscriber
          (past subscriber (subst (λ (t : State T U). PassesBy t p n subscriber.id) (sym shown.state)
          (passed-parts old waited subscriber has).1));
      others = others-send old new m m s s' shown shown' (λ k entry at. at) p touches;
    }

-- the send that goes to the subscriber is the one that is held
pub goes-is : {T U : Type 0} (s : State T U) (p n q : ℕ) (x : Publisher) (b : MachineBlocked) → s.publishers p ≡ Some x
    → x.blocked ≡ Some b → (goes : GoesTo s p n q) → b ≡ goes.blocked
goes-is s p n q x b at waits goes =
    let one : x ≡ goes.publisher = same_Some x goes.publisher (sym at ∙ goes.stands) in
    same_Some b goes.blocked (sym waits ∙ ap (λ (z : Publisher). z.blocked) one ∙ goes.waits)

pub passes-is : {T U : Type 0} (s : State T U) (p n q : ℕ) (x : Publisher) (b : MachineBlocked)
    → s.publishers p ≡ Some x → x.blocked ≡ Some b → (passes : PassesBy s p n q) → b ≡ passes.blocked
passes-is s p n q x b at waits passes =
    let one : x ≡ passes.publisher = same_Some x passes.publisher (sym at ∙ passes.stands) in
    same_Some b passes.blocked (sym waits ∙ ap (λ (z : Publisher). z.blocked) one ∙ passes.waits)

module _ {T U F G : Type 0} (old new : Kept T U F G) (m : Messages T U) (s s' : State T U) (shown : Shows old m s)
    (shown' : Shows new m s') (waited : BlockedSend) (outcome : Result SendOutcome SendError)
    (its : IfOk outcome (λ came. IfBlocked came (λ it. it ≡ waited)))
    (live : IfOk outcome (λ came. IfBlocked came (λ it. IsBlockedSend new it × (blocked_key it ≡ blocked_key waited))))
    (environment : Environment) (x : Publisher) (b : MachineBlocked) (at : s.publishers waited.loan.publisher ≡ Some x)
    (waits : x.blocked ≡ Some b) where
  lives : IfOk outcome (λ came. IfBlocked came (IsBlockedSend new))
  lives = by outcome live where
    by : (came : Result SendOutcome SendError)
        → IfOk came (λ it. IfBlocked it (λ again. IsBlockedSend new again × (blocked_key again ≡ blocked_key waited)))
        → IfOk came (λ it. IfBlocked it (IsBlockedSend new))
    by (Ok (Blocked again)) has = has.0
    by (Ok (Delivered count)) has = tt
    by (Err error) has = tt

  pub retry-resumes : (elapsed : Duration) → Retry environment s waited.loan.publisher b elapsed s'
      (result_of_send outcome) → Resumes (λ subscriber. ⊤) waited outcome old new
  retry-resumes elapsed h =
      resumed old new m s s' shown shown' waited outcome its lives
      (goes-on-touches environment s waited.loan.publisher b.message b.channel
      (more_retries b.retries) elapsed b.place b.ends b.count b.has_failed s' (result_of_send outcome) h)
      (retry-connections environment s waited.loan.publisher b elapsed s' (result_of_send outcome) h)
      (λ subscriber. ⊤)
      (λ subscriber tried goes c.
      retry-comes environment s waited.loan.publisher waited.loan.number subscriber.id elapsed s'
      (result_of_send outcome) shown.well_formed goes c
      (subst (λ (v : MachineBlocked). Retry environment s waited.loan.publisher v elapsed s' (result_of_send outcome))
      (goes-is s waited.loan.publisher waited.loan.number subscriber.id x b at waits goes) h))
      (λ subscriber passes.
      retry-leaves-past environment s waited.loan.publisher waited.loan.number subscriber.id elapsed s'
      (result_of_send outcome) passes
      (subst (λ (v : MachineBlocked). Retry environment s waited.loan.publisher v elapsed s' (result_of_send outcome))
      (passes-is s waited.loan.publisher waited.loan.number subscriber.id x b at waits passes) h))

  module _ (h : GiveUp environment s waited.loan.publisher b s' (result_of_send outcome)) where
    next-in : (subscriber : Subscriber) → IsNext old waited subscriber
        → waits_for s waited.loan.publisher ≡ Some subscriber.id
    next-in subscriber next =
        ap (λ (t : State T U). waits_for t waited.loan.publisher) shown.state ∙ next-parts old waited subscriber next

    next-from : (subscriber : Subscriber) → waits_for s waited.loan.publisher ≡ Some subscriber.id
        → IsNext old waited subscriber
    next-from subscriber next = next-is old waited subscriber
        (ap (λ (t : State T U). waits_for t waited.loan.publisher) (sym shown.state) ∙ next)

    touches : TouchesOnly s s' waited.loan.publisher
    touches = goes-on-touches environment s waited.loan.publisher b.message b.channel 0 no_time (b.place + 1)
        (drop 1 b.ends) b.count b.has_failed s' (result_of_send outcome) h

    connections : ConnectsStay s s'
    connections = give-up-connections environment s waited.loan.publisher b s' (result_of_send outcome) h

    given-up : (v : MachineBlocked) → b ≡ v → GiveUp environment s waited.loan.publisher v s' (result_of_send outcome)
    given-up v same =
        subst (λ (w : MachineBlocked). GiveUp environment s waited.loan.publisher w s' (result_of_send outcome)) same h

    pub give-up-resumes : Resumes (IsNotNext old waited) waited outcome old new
    give-up-resumes =
        resumed old new m s s' shown shown' waited outcome its lives touches connections (IsNotNext old waited)
        (λ subscriber tried goes c.
        give-up-comes environment s waited.loan.publisher waited.loan.number subscriber.id s'
        (result_of_send outcome) shown.well_formed goes c (λ next. tried (next-from subscriber next))
        (given-up goes.blocked (goes-is s waited.loan.publisher waited.loan.number subscriber.id x b at waits goes)))
        (λ subscriber passes.
        give-up-leaves-past environment s waited.loan.publisher waited.loan.number subscriber.id s'
        (result_of_send outcome) passes
        (given-up passes.blocked
        (passes-is s waited.loan.publisher waited.loan.number subscriber.id x b at waits passes)))

    pub give-up-leaves-next : (subscriber : Subscriber) (values : List T) → IsNext old waited subscriber
        → IsPending old waited subscriber values → IsLeftBehind subscriber outcome old new
    give-up-leaves-next subscriber values next pending =
        let goes : GoesTo s waited.loan.publisher waited.loan.number subscriber.id =
        subst (λ (t : State T U). GoesTo t waited.loan.publisher waited.loan.number subscriber.id) (sym shown.state)
        (pending-parts old waited subscriber values pending).1 in
        left-behind old new m s s' shown shown' waited outcome its lives touches connections subscriber
        (give-up-skips environment s waited.loan.publisher waited.loan.number subscriber.id s'
        (result_of_send outcome) shown.well_formed goes (next-in subscriber next)
        (given-up goes.blocked (goes-is s waited.loan.publisher waited.loan.number subscriber.id x b at waits goes)))
