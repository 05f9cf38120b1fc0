-- A send to one connection, seen from outside.
use Rattle.std.proofs.Common.{◌≡◌, ◌≢◌, ◌⊎◌, ℕ, List, [], Bool, true, false, drop, take, refl, ap, sym, subst, ◌∙◌, inl}
use Rattle.std.proofs.Common.{inr, Option, None, Some, Result, Ok, Err}
use Rattle.std.specs.Prelude.{IsOk, IfErr}
use Rattle.std.proofs.lemmas.Bool.{cases_eq, ne_eqb}
use Rattle.iox2_machine.specs.machine.Delivery.{Deliver, DeliveryEnd, Complete, Suspended, no_time}
use Rattle.iox2_machine.specs.machine.Mailbox.{Mailbox, is_borrowed}
use Rattle.iox2_machine.specs.machine.Numbers.{put_at}
use Rattle.iox2_machine.specs.machine.Records.{Entry, Environment, Loan, Publisher, Subscriber as MachineSubscriber}
use Rattle.iox2_machine.specs.machine.Sends.{SendResult, Send_error, Blocked_send, Delivered_to, SendToConnection}
use Rattle.iox2_machine.specs.machine.Sends.{ConcludeSend, with_mailboxes}
use Rattle.iox2_machine.specs.machine.State.{State, Messages, channel_buffer, with_loan}
use Rattle.iox2_machine.specs.machine.Waiting.{waiting_from}
use Rattle.iox2_machine.specs.declared.errors.SendError.{SendError}
use Rattle.iox2_machine.specs.declared.errors.SendError.TheVariants.{ConnectionBrokenSinceSenderNoLongerExists}
use Rattle.iox2_machine.specs.declared.errors.SendError.TheVariants.{UnableToDeliver}
use Rattle.iox2_machine.specs.declared.key.Key.{Key}
use Rattle.iox2_laws.proofs.Cases.{by_option}
use Rattle.iox2_laws.proofs.ConnectionSends.{send_to_connection_advances}
use Rattle.iox2_laws.proofs.ConnectionSendsLeave.{send_to_connection_loans, send_to_connection_remains}
use Rattle.iox2_laws.proofs.ConnectionSendsLeave.{send_to_connection_stays, send_to_connection_subscribers}
use Rattle.iox2_laws.proofs.ConnectionSendsLeave.{send_to_connection_waits}
use Rattle.iox2_laws.proofs.Puts.{put_at-other, put_at-same}
use Rattle.iox2_laws.proofs.SendsRemain.{PortsRemain}
use Rattle.iox2_laws.proofs.UpToDate.{goes_on_subscribers, same_subscribers}
use Rattle.iox2_laws.proofs.WaitingCounts.{same_from}
use Rattle.iox2_laws.proofs.Waits.{Waits}
use Rattle.iox2_domain.specs.ConnectionSends.{SendsKeptLoanTo}
use Rattle.iox2_domain.specs.Fields.{Fields, kept_of}
use Rattle.iox2_domain.specs.Kept.{Kept, state_of}
use Rattle.iox2_domain.specs.Shows.{Shows}
use Rattle.iox2_pubsub.specs.Handlers.{may_wait}
use Rattle.iox2_pubsub.specs.Live.{A_sent_loan, HasLender, IsLoanKey, NeverFails, NeverWaits, OthersSend, StaysBut}
use Rattle.iox2_pubsub.specs.Live.{UpToDateStay}
use Rattle.iox2_pubsub.specs.SendCalls.{FailsDelivery, SendsToConnection, messages_after_send, result_of_send}
use Rattle.iox2_pubsub.specs.SendCalls.{spent_by_send}
use Rattle.iox2_pubsub.specs.declared.sample_mut.SampleMut.{SampleMut}
use Rattle.iox2_pubsub.specs.declared.send_outcome.SendOutcome.{SendOutcome}
use Rattle.iox2_pubsub.specs.declared.send_outcome.SendOutcome.TheVariants.{Delivered, Blocked}
use Rattle.iox2_pubsub.proofs.ConnectionsStay.{ConnectsStay, goes-on-channels, goes-on-ends, set-connections}
use Rattle.iox2_pubsub.proofs.DepartedStays.{RoomStays as MachineRoomStays, ports-room}
use Rattle.iox2_pubsub.proofs.LiveParts.{loan-parts, passes-parts, publisher-parts, unfailed-parts}
use Rattle.iox2_pubsub.proofs.OverflowSends.{IsUnhindered, concludes-unhindered, delivery-ends}
use Rattle.iox2_pubsub.proofs.PassingSends.{never-suspended}
use Rattle.iox2_pubsub.proofs.SendShown.{LeavesSent, loan-is}
use Rattle.iox2_pubsub.proofs.SendsServe.{same-connections}
use Rattle.iox2_pubsub.proofs.SentMessages.{sent-before-stays}
use Rattle.iox2_pubsub.proofs.CallsStay.{free-waits}
use Rattle.iox2_pubsub.proofs.StaysBut.{BoxesStayBut, IsSpared, SparedPublishers, none-spared, stays-between}
use Rattle.iox2_pubsub.proofs.UnfailedSends.{HasNotFailed, IsMild, IsUnfailed, delivered-unfailed}
use Rattle.iox2_pubsub.proofs.UpToDateShown.{stay}
use Rattle.iox2_pubsub.proofs.WaitingShown.{payloads-stay-from}
use mathlib.Core.Path.{fun_ext}

-- ---- on the machine

module _ {T U : Type 0} (environment : Environment) (s : State T U) (n : ℕ) (l : Loan T U) (channel place : ℕ)
    (s' : State T U) (result : SendResult)
    (h : SendToConnection environment s n l channel place s' result) where
  -- the state in which the message is delivered, and the end to which it goes
  abbrev before : State T U
  before = with_loan s n None

  abbrev end_of : Publisher → List (Option ℕ)
  end_of x = take 1 (drop place x.ends)

  -- it fails since its publisher is gone, or a handler fails it
  pub to-error : (error : SendError) → result ≡ Send_error error
      → ((error ≡ ConnectionBrokenSinceSenderNoLongerExists) × (s.publishers l.publisher ≡ None))
      ⊎ (error ≡ UnableToDeliver)
  to-error error is =
      by_option (((error ≡ ConnectionBrokenSinceSenderNoLongerExists) × (s.publishers l.publisher ≡ None))
      ⊎ (error ≡ UnableToDeliver)) (s.publishers l.publisher) _ _ h
      (λ gone k. inl (
        let same : Send_error error ≡ Send_error ConnectionBrokenSinceSenderNoLongerExists = sym is
            ∙ k.1 in cc,
        gone,
      ))
      (λ x _ k. by_option (((error ≡ ConnectionBrokenSinceSenderNoLongerExists) × (s.publishers l.publisher ≡ None))
      ⊎ (error ≡ UnableToDeliver)) (before.publishers l.publisher) _ _ k
      (λ _ v. absurd v) (λ y _ d. inr (ends d.0 d.1 d.3)))
    where
      ends : (how : DeliveryEnd) (boxes : ℕ → Mailbox)
          → ConcludeSend (with_mailboxes before l.publisher boxes) l.publisher n how s' result → error ≡ UnableToDeliver
      ends (Complete count true) boxes c = let same : Send_error error ≡ Send_error UnableToDeliver = sym is ∙ c.1 in cc
      ends (Complete count false) boxes c =
          absurd (let clash : Send_error error ≡ Delivered_to count = sym is ∙ c.1 in cc)
      ends (Suspended b) boxes c = absurd (let clash : Send_error error ≡ Blocked_send = sym is ∙ c.1 in cc)

  -- where no handler fails sends, none has failed this one
  pub to-unfailed : IsMild s l.publisher → IsUnfailed s' l.publisher result
  to-unfailed mild =
      by_option (IsUnfailed s' l.publisher result) (s.publishers l.publisher) _ _ h
      (λ gone k. (
        λ x b at waits. absurd (let clash : None ≡ Some x = sym gone
            ∙ sym (ap (λ (t : State T U). t.publishers l.publisher) k.0) ∙ at in cc),
        λ failed. absurd (let clash : Send_error ConnectionBrokenSinceSenderNoLongerExists
            ≡ Send_error UnableToDeliver = sym k.1 ∙ failed in cc),
      ))
      (λ x _ k. delivered-unfailed environment before l.publisher n channel 0 no_time place
      (end_of x) 0 false s' result mild refl k)

  -- with safe overflow it neither waits nor is failed
  pub to-unhindered : (s.config).enable_safe_overflow ≡ true → IsUnhindered result
  to-unhindered over =
      by_option (IsUnhindered result) (s.publishers l.publisher) _ _ h
      (λ _ k. (
        λ waits. absurd
            (let clash : Send_error ConnectionBrokenSinceSenderNoLongerExists ≡ Blocked_send = sym k.1 ∙ waits in cc),
        λ failed. absurd (let clash : Send_error ConnectionBrokenSinceSenderNoLongerExists
            ≡ Send_error UnableToDeliver = sym k.1 ∙ failed in cc),
      ))
      (λ x _ k. by_option (IsUnhindered result) (before.publishers l.publisher) _ _ k (λ _ v. absurd v) (λ y _ d.
      let ended = delivery-ends environment s.config l.publisher y.backpressure_strategy y.backpressure_handler
      (channel_buffer before l.publisher channel) n channel over 0 no_time place (end_of x) 0 false
      (s.mailboxes l.publisher) d.0 d.1 refl d.2 in
      concludes-unhindered environment
      (with_mailboxes before l.publisher d.1) l.publisher n d.0 s' result ended.0 ended.1 d.3))

  -- nor does that of a publisher which waits for no full receiver
  pub to-unsuspended : ((x : Publisher) → s.publishers l.publisher ≡ Some x
      → may_wait x.backpressure_strategy x.backpressure_handler ≡ false) → result ≡ Blocked_send → ⊥
  to-unsuspended past is =
      by_option ⊥ (s.publishers l.publisher) _ _ h
      (λ _ k.
      absurd (let clash : Send_error ConnectionBrokenSinceSenderNoLongerExists ≡ Blocked_send = sym k.1 ∙ is in cc))
      (λ x _ k. by_option ⊥ (before.publishers l.publisher) _ _ k (λ _ v. v)
      (λ y here d. ends y (past y here) (end_of x) d.0 d.1 d.3 d.2))
    where
      ends : (y : Publisher) → may_wait y.backpressure_strategy y.backpressure_handler ≡ false
          → (whole : List (Option ℕ)) (how : DeliveryEnd) (boxes : ℕ → Mailbox)
          → ConcludeSend (with_mailboxes before l.publisher boxes) l.publisher n how s' result
          → Deliver environment s.config l.publisher y.backpressure_strategy y.backpressure_handler
          (channel_buffer before l.publisher channel) n channel 0 no_time place whole 0 false
          (s.mailboxes l.publisher) how boxes → ⊥
      ends y none whole (Complete count true) boxes c delivers =
          absurd (let clash : Send_error UnableToDeliver ≡ Blocked_send = sym c.1 ∙ is in cc)
      ends y none whole (Complete count false) boxes c delivers =
          absurd (let clash : Delivered_to count ≡ Blocked_send = sym c.1 ∙ is in cc)
      ends y none whole (Suspended b) boxes c delivers =
          never-suspended environment s.config l.publisher y.backpressure_strategy y.backpressure_handler
          (channel_buffer before l.publisher channel) n channel none 0 no_time place whole 0 false
          (s.mailboxes l.publisher) (Suspended b) boxes delivers b refl

  -- connections and rooms stay
  pub to-connections : ConnectsStay s s'
  to-connections =
      by_option (ConnectsStay s s') (s.publishers l.publisher) _ _ h
      (λ _ k. subst (ConnectsStay s) (sym k.0) (set-connections s n None))
      (λ x _ k.
      same-connections s s'
      (goes-on-ends environment before l.publisher n channel 0 no_time place (end_of x) 0 false s' result k)
      (goes_on_subscribers environment before l.publisher n channel 0 no_time place (end_of x) 0 false s' result k)
      (goes-on-channels environment before l.publisher n channel 0 no_time place (end_of x) 0 false s' result k))

  abbrev subscribers : s'.subscribers ≡ s.subscribers
  subscribers = send_to_connection_subscribers environment s n l channel place s' result h

  pub to-room : MachineRoomStays s s'
  to-room =
      let remain = send_to_connection_remains environment s n l channel place s' result h in
      ports-room s s' remain.config remain.publishers subscribers

  -- what lies in others' mailboxes lies there
  others-lie : (i : ℕ) → i ≢ l.publisher → s'.mailboxes i ≡ s.mailboxes i
  others-lie i away =
      by_option (s'.mailboxes i ≡ s.mailboxes i) (s.publishers l.publisher) _ _ h
      (λ _ k. ap (λ (t : State T U). t.mailboxes i) k.0)
      (λ x _ k. by_option (s'.mailboxes i ≡ s.mailboxes i) (before.publishers l.publisher) _ _ k (λ _ v. absurd v)
      (λ y _ d. ends d.0 d.1 d.3))
    where
      ends : (how : DeliveryEnd) (boxes : ℕ → Mailbox) → ConcludeSend
          (with_mailboxes before l.publisher boxes) l.publisher n how s' result → s'.mailboxes i ≡ s.mailboxes i
      ends (Complete count has_failed) boxes c = ap (λ (t : State T U). t.mailboxes i) c.0
          ∙ put_at-other s.mailboxes l.publisher boxes i (ne_eqb i l.publisher away)
      ends (Suspended b) boxes c = ap (λ (t : State T U). t.mailboxes i) c.0
          ∙ put_at-other s.mailboxes l.publisher boxes i (ne_eqb i l.publisher away)

  pub to-others : (i q : ℕ) → i ≢ l.publisher → waiting_from s' i q ≡ waiting_from s i q
  to-others i q away = same_from s s' i q (ap (λ (f : ℕ → Option MachineSubscriber). f q) subscribers)
      (ap (λ (row : ℕ → Mailbox). (row q).waiting) (others-lie i away))

-- ---- what the domain shows

module _ {T U : Type 0} (environment : Environment) (f g : Fields T U) (n channel connection : ℕ) (result : SendResult)
    (sends : SendsKeptLoanTo environment f g n channel connection result) where
  -- what a send to one connection leaves
  abbrev pub leaves-sent-to : LeavesSent f g n result
  leaves-sent-to = record {
    loan = sends.loan;
    out = sends.out;
    agrees = sends.agrees;
    advances = send_to_connection_advances environment (state_of (kept_of f)) n sends.loan channel connection
        (state_of (kept_of g)) result sends.sends;
    loans = send_to_connection_loans environment (state_of (kept_of f)) n sends.loan channel connection
        (state_of (kept_of g)) result sends.sends;
    entries = sends.entries;
    lost = sends.lost;
  }

  -- the machine's step
  pub machine-sends-to : (m : Messages T U) (s : State T U) (l : Loan T U) → Shows (kept_of f) m s → s.loans n ≡ Some l
      → SendToConnection environment s n l channel connection (state_of (kept_of g)) result
  machine-sends-to m s l shown out =
      subst (λ (t : State T U). SendToConnection environment t n l channel connection (state_of (kept_of g)) result)
      (sym shown.state)
      (subst (λ (k : Loan T U). SendToConnection environment (state_of (kept_of f)) n k channel connection
      (state_of (kept_of g)) result) (loan-is f g n result leaves-sent-to m s l shown out) sends.sends)

-- ---- what stays

module _ {T U F G : Type 0} (old new : Kept T U F G) (m : Messages T U) (s : State T U) (shown : Shows old m s)
    (environment : Environment) (n : ℕ) (l : Loan T U) (out : s.loans n ≡ Some l)
    (channel place : ℕ) (result : SendResult) (s' : State T U)
    (h : SendToConnection environment s n l channel place s' result) where
  abbrev remain : PortsRemain s s'
  remain = send_to_connection_remains environment s n l channel place s' result h

  loans : s'.loans ≡ put_at s.loans n None
  loans = send_to_connection_loans environment s n l channel place s' result h

  -- a publisher none of whose sends may be blocked has none
  pub to-never-waits : (key : Key) → NeverWaits old key → key.port ≡ l.publisher → result ≡ Blocked_send → ⊥
  to-never-waits key never its is = elim (passes-parts old key never.passes).1 [
    | inl over ↦ (to-unhindered environment s n l channel place s' result h
        (ap (λ (t : State T U). (t.config).enable_safe_overflow) shown.state ∙ over)).0 is
    | inr past ↦ to-unsuspended environment s n l channel place s' result h
        (λ x at. past x (sym (ap (λ (t : State T U). t.publishers key.port) shown.state) ∙ ap s.publishers its ∙ at)) is
  ]

  -- one whose handler fails none fails none
  pub to-never-fails : (p : ℕ) → NeverFails old p → p ≡ l.publisher → result ≡ Send_error UnableToDeliver → ⊥
  to-never-fails p never its is =
      let mild : IsMild s p = subst (λ (t : State T U). IsMild t p) (sym shown.state) (unfailed-parts old p never).1 in
      (to-unfailed environment s n l channel place s' result h (subst (IsMild s) its mild)).1 is

  -- the loan is out no more
  pub to-spends : (key : Key) → key.message ≡ n → (m' : Messages T U) → Shows new m' s' → IsLoanKey new key → ⊥
  to-spends key its m' shown' live =
      let has = (loan-parts new key live).1 in
      let clash : None ≡ Some has.0 =
      sym (ap (λ (f : ℕ → Option (Loan T U)). f n) loans ∙ put_at-same s.loans n None)
      ∙ ap (λ (t : State T U). t.loans n) shown'.state ∙ ap (state_of new).loans (sym its) ∙ has.1 in
      absurd cc

  -- all but the loan stays, and its publisher where it is blocked
  keeps : (is_blocked : Bool) → BoxesStayBut (A_sent_loan n l.publisher is_blocked) old new
      → Waits (IsSpared (A_sent_loan n l.publisher is_blocked)) s s'
      → SparedPublishers (A_sent_loan n l.publisher is_blocked) old s s'
      → (m' : Messages T U) → Shows new m' s' → ((k : ℕ) (entry : Entry T U) → m k ≡ Some entry → m' k ≡ Some entry)
      → StaysBut (A_sent_loan n l.publisher is_blocked) old new
  keeps is_blocked boxes waits goes-on m' shown' sent =
      stays-between (A_sent_loan n l.publisher is_blocked) old new m m' s s' shown shown' sent
      (record {
        config = remain.config;
        publishers = λ p x here _. remain.publishers p x here;
        subscribers = λ q y here is_open _. remain.subscribers q y here is_open;
      })
      (λ k loan at other.
      ap (λ (f : ℕ → Option (Loan T U)). f k) loans ∙ put_at-other s.loans n None k (ne_eqb k n other) ∙ at)
      (λ p q k at other. ap (λ (ns : List ℕ). is_borrowed k (record { waiting = []; borrowed = ns; others = [] }))
      (remain.borrowed p q) ∙ at)
      waits goes-on boxes

  pub keeps-unblocked : (result ≡ Blocked_send → ⊥)
      → ((x : Publisher) → s.publishers l.publisher ≡ Some x → x.blocked ≡ None)
      → BoxesStayBut (A_sent_loan n l.publisher false) old new
      → (m' : Messages T U) → Shows new m' s' → ((k : ℕ) (entry : Entry T U) → m k ≡ Some entry → m' k ≡ Some entry)
      → StaysBut (A_sent_loan n l.publisher false) old new
  keeps-unblocked ends free boxes =
      let waits = free-waits (IsSpared (A_sent_loan n l.publisher false)) l.publisher s s'
      (send_to_connection_waits environment s n l channel place s' result h (λ (q : ℕ). q ≡ l.publisher) refl)
      (send_to_connection_stays environment s n l channel place s' result h ends).remain free in
      keeps false boxes waits (none-spared _ old s s' (λ _. tt))

  pub keeps-blocked : result ≡ Blocked_send → BoxesStayBut (A_sent_loan n l.publisher true) old new
      → (m' : Messages T U) → Shows new m' s' → ((k : ℕ) (entry : Entry T U) → m k ≡ Some entry → m' k ≡ Some entry)
      → StaysBut (A_sent_loan n l.publisher true) old new
  keeps-blocked is boxes =
      keeps true boxes (send_to_connection_waits environment s n l channel place s' result h
      (IsSpared (A_sent_loan n l.publisher true)) (λ other. other refl)) (record {
        unfailed = λ p spared low mild none. elim (cases_eq p l.publisher) [
          | inr away ↦ absurd (spared away)
          | inl same ↦ subst (HasNotFailed s') (sym same)
              ((to-unfailed environment s n l channel place s' result h (subst (IsMild s) same mild)).0)
        ];
        waits = λ key spared never. elim (cases_eq key.port l.publisher) [
          | inr away ↦ absurd (spared away)
          | inl same ↦ to-never-waits key never same is
        ];
      })

module _ {T U F G : Type 0} (old new : Kept T U F G) (m : Messages T U) (s : State T U) (shown : Shows old m s)
    (environment : Environment) (loan : SampleMut) (l : Loan T U) (out : s.loans loan.loan.number ≡ Some l)
    (its : l.publisher ≡ loan.loan.publisher) (channel place : ℕ) (s' : State T U) where
  -- a send to one connection that may fail, or be blocked
  pub sent-to-stays : ((x : Publisher) → s.publishers l.publisher ≡ Some x → x.blocked ≡ None)
      → (result : Result SendOutcome SendError) → Shows new (messages_after_send m loan.loan.number l result) s'
      → SendsToConnection environment s loan.loan.number l channel place result s'
      → BoxesStayBut (spent_by_send loan result) old new → StaysBut (spent_by_send loan result) old new
  sent-to-stays free (Ok (Delivered count)) shown' h boxes =
      subst (λ (p : ℕ). StaysBut (A_sent_loan loan.loan.number p false) old new) its
      (keeps-unblocked old new m s shown environment loan.loan.number l out channel place (Delivered_to count) s' h
      (λ e. let clash : Delivered_to count ≡ Blocked_send = e in cc) free
      (subst (λ (p : ℕ). BoxesStayBut (A_sent_loan loan.loan.number p false) old new) (sym its) boxes) _ shown'
      (sent-before-stays m loan.loan.number l (Ok (Delivered count)) (shown.unsent loan.loan.number l out)))
  sent-to-stays free (Ok (Blocked blocked)) shown' h boxes =
      subst (λ (p : ℕ). StaysBut (A_sent_loan loan.loan.number p true) old new) its
      (keeps-blocked old new m s shown environment loan.loan.number l out channel place Blocked_send s' h refl
      (subst (λ (p : ℕ). BoxesStayBut (A_sent_loan loan.loan.number p true) old new) (sym its) boxes) _ shown'
      (sent-before-stays m loan.loan.number l (Ok (Blocked blocked)) (shown.unsent loan.loan.number l out)))
  sent-to-stays free (Err error) shown' h boxes =
      subst (λ (p : ℕ). StaysBut (A_sent_loan loan.loan.number p false) old new) its
      (keeps-unblocked old new m s shown environment loan.loan.number l out channel place (Send_error error) s' h
      (λ e. let clash : Send_error error ≡ Blocked_send = e in cc) free
      (subst (λ (p : ℕ). BoxesStayBut (A_sent_loan loan.loan.number p false) old new) (sym its) boxes) _ shown'
      (sent-before-stays m loan.loan.number l (Err error) (shown.unsent loan.loan.number l out)))

  -- what waits from others waits still
  pub sent-to-others : (result : Result SendOutcome SendError)
      → Shows new (messages_after_send m loan.loan.number l result) s'
      → SendsToConnection environment s loan.loan.number l channel place result s'
      → OthersSend loan.loan.publisher old new
  sent-to-others result shown' h = λ other away.
      fun_ext (λ subscriber. payloads-stay-from old new m (messages_after_send m loan.loan.number l result) s s' shown
      shown' (sent-before-stays m loan.loan.number l result (shown.unsent loan.loan.number l out)) other subscriber
      (to-others environment s loan.loan.number l channel place s' (result_of_send result) h other subscriber.id
      (λ same. away (same ∙ its))))

  pub sent-to-up_to_date : (result : SendResult) (m' : Messages T U) → Shows new m' s'
      → SendToConnection environment s loan.loan.number l channel place s' result → UpToDateStay old new
  sent-to-up_to_date result m' shown' h =
      stay old new m m' s s' shown shown' (same_subscribers s s'
      (send_to_connection_subscribers environment s loan.loan.number l channel place s' result h))
      (to-connections environment s loan.loan.number l channel place s' result h)
      (to-room environment s loan.loan.number l channel place s' result h)

  -- why it fails
  pub fails-delivery : (key : Key) → key.port ≡ l.publisher → (result : Result SendOutcome SendError)
      → SendsToConnection environment s loan.loan.number l channel place result s'
      → IfErr result (FailsDelivery old key)
  unfolding FailsDelivery
  fails-delivery key same (Ok came) h = tt
  fails-delivery key same (Err error) h =
      elim (to-error environment s loan.loan.number l channel place s' (Send_error error) h error refl) [
        | inl gone ↦ inl (
          gone.0,
          λ lent.
              let has = (publisher-parts old _ lent).2 in
              let clash : None ≡ Some has.0 = sym gone.1 ∙ ap s.publishers (sym same)
              ∙ ap (λ (t : State T U). t.publishers key.port) shown.state ∙ has.1 in
              absurd cc,
        )
        | inr failed ↦ inr (
          failed,
          λ never. to-never-fails old new m s shown environment loan.loan.number l out channel
              place (Send_error error) s' h key.port never same (ap Send_error failed),
        )
      ]

  pub sent-to-ok : (key : Key) → key.port ≡ l.publisher → HasLender old key → NeverFails old key.port
      → (result : Result SendOutcome SendError)
      → SendsToConnection environment s loan.loan.number l channel place result s' → IsOk result
  sent-to-ok key same lent never (Ok came) h = refl
  sent-to-ok key same lent never (Err error) h =
      elim (to-error environment s loan.loan.number l channel place s' (Send_error error) h error refl) [
        | inl gone ↦
            let has = (publisher-parts old _ lent).2 in
            let clash : None ≡ Some has.0 = sym gone.1 ∙ ap s.publishers (sym same)
            ∙ ap (λ (t : State T U). t.publishers key.port) shown.state ∙ has.1 in
            absurd cc
        | inr failed ↦ absurd (to-never-fails old new m s shown environment loan.loan.number l out channel place
            (Send_error error) s' h key.port never same (ap Send_error failed))
      ]
