-- A send of a loan, seen from outside.
use Rattle.std.proofs.Common.{◌≡◌, ◌≢◌, ◌⊎◌, ℕ, ◌<◌, eqb, refl, ap, sym, subst, ◌∙◌, inl, inr, arith, true, false, Bool}
use Rattle.std.proofs.lemmas.Bool.{eqb-true, cases_eq, ne_eqb}
use Rattle.std.specs.declared.option.Option.{Option}
use Rattle.std.specs.declared.option.Option.TheVariants.{None, Some}
use Rattle.iox2_machine.specs.machine.Loans.{entry_of}
use Rattle.iox2_machine.specs.machine.Numbers.{put_at}
use Rattle.iox2_machine.specs.machine.Records.{Entry, Loan, Publisher, Environment}
use Rattle.iox2_machine.specs.machine.Sends.{SendResult, Send, ConcludeSend, Send_error, Blocked_send, Delivered_to}
use Rattle.iox2_machine.specs.machine.Sends.{published, with_mailboxes}
use Rattle.iox2_machine.specs.machine.SingleCalls.{HoldsPublisher}
use Rattle.iox2_machine.specs.declared.errors.ConnectionFailure.{ConnectionFailure}
use Rattle.iox2_machine.specs.declared.errors.SendError.{SendError}
use Rattle.iox2_machine.specs.declared.errors.SendError.TheVariants.{ConnectionBrokenSinceSenderNoLongerExists}
use Rattle.iox2_machine.specs.declared.errors.SendError.TheVariants.{ConnectionError, UnableToDeliver}
use Rattle.iox2_laws.proofs.Cases.{by_option}
use Rattle.std.specs.Prelude.{IsOk, IfOk, IfErr, List}
use Rattle.iox2_machine.specs.machine.Delivery.{Deliver, DeliveryEnd, Complete, Suspended, no_time}
use Rattle.iox2_machine.specs.machine.Mailbox.{Mailbox}
use Rattle.iox2_machine.specs.declared.key.Key.{Key}
use Rattle.iox2_laws.proofs.Waits.{waits_trans, update_publisher_waits, published_waits}
use Rattle.iox2_domain.specs.Kept.{Kept}
use Rattle.iox2_pubsub.specs.Live.{A_blocked_send, HasLender, IsBlockedSend, NeverFails, NeverWaits, blocked_key}
use Rattle.iox2_pubsub.specs.Live.{blocked_item}
use Rattle.iox2_pubsub.proofs.LiveParts.{passes-parts, unfailed-parts}
use Rattle.iox2_pubsub.proofs.SteadyUpdates.{steady-send}
use Rattle.iox2_pubsub.proofs.OverflowSends.{overflowing-send}
use Rattle.iox2_pubsub.proofs.PassingSends.{never-suspended}
use Rattle.iox2_pubsub.specs.Handlers.{may_wait}
use Rattle.iox2_pubsub.proofs.SentMessages.{after-error}
use Rattle.iox2_pubsub.specs.declared.blocked_send.BlockedSend.{BlockedSend}
use Rattle.iox2_pubsub.specs.declared.publisher.Publisher.{Publisher as Handle}
use Rattle.iox2_pubsub.specs.declared.send_outcome.SendOutcome.TheVariants.{Delivered, Blocked}
use Rattle.iox2_machine.specs.machine.State.{State, Messages, channel_buffer}
use Rattle.iox2_laws.proofs.Puts.{put_at-same, put_at-other}
use Rattle.iox2_laws.specs.Laws.{Advances}
use Rattle.iox2_laws.proofs.SendLaws.{send_advances}
use Rattle.iox2_domain.specs.Boxes.{DomainBoxes}
use Rattle.iox2_domain.specs.Fields.{Fields, kept_of, keeping}
use Rattle.iox2_domain.specs.Invariant.{IsDomain}
use Rattle.iox2_domain.specs.Kept.{state_of, entries_of}
use Rattle.iox2_domain.specs.SentLoans.{SendsKeptLoan}
use Rattle.iox2_messages.specs.SendEnds.{IsKept, IsNotLost, end_result}
use Rattle.iox2_messages.specs.declared.send_end.SendEnd.{SendEnd}
use Rattle.iox2_domain.specs.Shows.{Shows}
use Rattle.std.specs.declared.result.Result.{Result}
use Rattle.std.specs.declared.result.Result.TheVariants.{Ok, Err}
use Rattle.iox2_pubsub.specs.SendCalls.{FailsCopy, FailsSend, IsDelivered, IsOfHandler, IfBlocked, messages_after_send}
use Rattle.iox2_pubsub.specs.SendCalls.{result_of_send}
use Rattle.iox2_pubsub.specs.declared.send_outcome.SendOutcome.{SendOutcome}

-- What a send of the loan n, in whichever way, leaves of the domain.
pub record LeavesSent {T U : Type 0} (f g : Fields T U) (n : ℕ) (result : SendResult) : Type 0 where
  pub loan : Loan T U
  pub out : (state_of (kept_of f)).loans n ≡ Some loan
  pub agrees : IsDomain g
  pub advances : Advances (state_of (kept_of f)) (state_of (kept_of g))
  pub loans : (state_of (kept_of g)).loans ≡ put_at (state_of (kept_of f)).loans n None
  pub entries : (m : ℕ) (entry : Entry T U) → entries_of (kept_of g) m ≡ Some entry
      → ((m ≡ n) × (entry ≡ entry_of loan)) ⊎ (entries_of (kept_of f) m ≡ Some entry)
  pub lost : (error : SendError) → error ≢ UnableToDeliver → result ≡ Send_error error → (m : ℕ) (entry : Entry T U)
      → entries_of (kept_of g) m ≡ Some entry → entries_of (kept_of f) m ≡ Some entry

module _ {T U : Type 0} (f g : Fields T U) (n : ℕ) (result : SendResult) (sends : LeavesSent f g n result)
    (m : Messages T U) (s : State T U) (l : Loan T U)
    (shown : Shows (kept_of f) m s) (out : s.loans n ≡ Some l) where
  was-out : (state_of (kept_of f)).loans n ≡ Some l
  was-out = ap (λ (t : State T U). t.loans n) (sym shown.state) ∙ out

  pub loan-is : sends.loan ≡ l
  loan-is = let both : Some sends.loan ≡ Some l = sym sends.out ∙ was-out in cc

  abbrev messages : Messages T U
  messages = put_at m n (Some (entry_of l))

  others : (k : ℕ) → (k ≡ n → ⊥) → messages k ≡ m k
  others k away = put_at-other m n (Some (entry_of l)) k (by (eqb k n) refl) where
    by : (t : Bool) → eqb k n ≡ t → t ≡ false
    by true e = absurd (away (eqb-true k n e))
    by false e = refl

  -- what the domain shows after an error, where no handler failed the send
  lost-shown : (error : SendError) → error ≢ UnableToDeliver → result ≡ Send_error error
      → Shows (kept_of g) m (state_of (kept_of g))
  lost-shown error other failed = record {
    state = refl;
    well_formed = sends.agrees.well_formed;
    entries = λ k entry e. shown.entries k entry (sends.lost error other failed k entry e);
    complete = sends.agrees.entries;
    below = λ k le.
        let rises = (subst (λ (t : State T U). Advances t (state_of (kept_of g)))
        (sym shown.state) sends.advances).next_message in
        shown.below k (omega arith);
    unsent = λ k loan e. still k loan e;
  } where
    still : (k : ℕ) (loan : Loan T U) → (state_of (kept_of g)).loans k ≡ Some loan → m k ≡ None
    still k loan e = elim (cases_eq k n) [
      | inl same ↦ ap m same ∙ shown.unsent n l out
      | inr away ↦ shown.unsent k loan (ap (λ (t : State T U). t.loans k) shown.state
          ∙ sym (ap (λ (loans : ℕ → Option (Loan T U)). loans k) sends.loans
          ∙ put_at-other (state_of (kept_of f)).loans n None k (ne_eqb k n away)) ∙ e)
    ]

  -- what the domain shows afterwards
  send-shown : Shows (kept_of g) messages (state_of (kept_of g))
  send-shown = record {
    state = refl;
    well_formed = sends.agrees.well_formed;
    entries = λ k entry e. elim (sends.entries k entry e) [
      | inl new ↦
          ap messages new.0 ∙ put_at-same m n (Some (entry_of l)) ∙ ap Some (ap entry_of (sym loan-is) ∙ sym new.1)
      | inr old ↦
          others k (λ same. clash entry (ap m (sym same) ∙ shown.entries k entry old)) ∙ shown.entries k entry old
    ];
    complete = sends.agrees.entries;
    below = λ k le.
        let rises = (subst (λ (t : State T U). Advances t (state_of (kept_of g)))
        (sym shown.state) sends.advances).next_message in
        let low : n < s.next_message = (shown.well_formed.loans n l out).below in
        others k (λ same. absurd (omega arith)) ∙ shown.below k (omega arith);
    unsent = λ k loan e. elim (cases_eq k n) [
      | inl same ↦
          absurd (let none : None ≡ Some loan = sym (ap (put_at (state_of (kept_of f)).loans n None) same
          ∙ put_at-same (state_of (kept_of f)).loans n None)
          ∙ sym (ap (λ (loans : ℕ → Option (Loan T U)). loans k) sends.loans) ∙ e in cc)
      | inr away ↦ others k away ∙ shown.unsent k loan (ap (λ (t : State T U). t.loans k) shown.state
          ∙ sym (ap (λ (loans : ℕ → Option (Loan T U)). loans k) sends.loans
          ∙ put_at-other (state_of (kept_of f)).loans n None k (apart k away)) ∙ e)
    ];
  }
    where
      clash : (entry : Entry T U) → m n ≡ Some entry → ⊥
      clash entry e = absurd (let no : None ≡ Some entry = sym (shown.unsent n l out) ∙ e in cc)

      apart : (k : ℕ) → (k ≡ n → ⊥) → eqb k n ≡ false
      apart k away = by (eqb k n) refl where
        by : (t : Bool) → eqb k n ≡ t → t ≡ false
        by true e = absurd (away (eqb-true k n e))
        by false e = refl

  -- either way
  pub leaves-shown : (outcome : Result SendOutcome SendError) → result ≡ result_of_send outcome
      → Shows (kept_of g) (messages_after_send m n l outcome) (state_of (kept_of g))
  leaves-shown (Ok delivered) is = send-shown
  leaves-shown (Err error) is = elim (after-error m n l error) [
    | inl sent ↦ subst (λ (k : Messages T U). Shows (kept_of g) k (state_of (kept_of g))) (sym sent.1) send-shown
    | inr lost ↦ subst (λ (k : Messages T U). Shows (kept_of g) k (state_of (kept_of g))) (sym lost.1)
        (lost-shown error lost.0 is)
  ]

module _ {T U : Type 0} (environment : Environment) (f g : Fields T U) (n : ℕ) (result : SendResult)
    (sends : SendsKeptLoan environment f g n result) where
  -- what a send leaves
  abbrev pub leaves-sent : LeavesSent f g n result
  leaves-sent = record {
    loan = sends.loan;
    out = sends.out;
    agrees = sends.agrees;
    advances = send_advances environment (state_of (kept_of f)) n sends.loan (state_of (kept_of g)) result sends.sends;
    loans = sends.loans;
    entries = sends.entries;
    lost = sends.lost;
  }

  -- the machine's step
  pub machine-sends : (m : Messages T U) (s : State T U) (l : Loan T U) → Shows (kept_of f) m s → s.loans n ≡ Some l
      → Send environment s n l (state_of (kept_of g)) result
  machine-sends m s l shown out =
      subst (λ (t : State T U). Send environment t n l (state_of (kept_of g)) result) (sym shown.state)
      (subst (λ (k : Loan T U). Send environment (state_of (kept_of f)) n k (state_of (kept_of g)) result)
      (loan-is f g n result leaves-sent m s l shown out) sends.sends)

-- a send that hadn't failed succeeds
pub only-ok : (end : SendEnd) → IsKept end → (end_result end ≡ Send_error UnableToDeliver → ⊥)
    → (outcome : Result SendOutcome SendError) → result_of_send outcome ≡ end_result end
    → IsOk outcome
only-ok end kept unfailed (Ok came) is = refl
only-ok (SendEnd.Delivered count) kept unfailed (Err error) is =
    let clash : Send_error error ≡ Delivered_to count = is in absurd cc
only-ok SendEnd.Undelivered kept unfailed (Err error) is = absurd (unfailed refl)
only-ok SendEnd.Blocked kept unfailed (Err error) is = let clash : Send_error error ≡ Blocked_send = is in absurd cc
only-ok SendEnd.Lost kept unfailed (Err error) is = absurd kept
only-ok (SendEnd.Unconnected failure) kept unfailed (Err error) is = absurd kept

-- so does one of a publisher that is there, whose update hadn't failed either
pub steady-ok : (end : SendEnd) → IsNotLost end → (end_result end ≡ Send_error UnableToDeliver → ⊥)
    → ((failure : ConnectionFailure) → end_result end ≡ Send_error (ConnectionError failure) → ⊥)
    → (outcome : Result SendOutcome SendError) → result_of_send outcome ≡ end_result end → IsOk outcome
steady-ok end there unfailed steady (Ok came) is = refl
steady-ok (SendEnd.Delivered count) there unfailed steady (Err error) is =
    let clash : Send_error error ≡ Delivered_to count = is in absurd cc
steady-ok SendEnd.Undelivered there unfailed steady (Err error) is = absurd (unfailed refl)
steady-ok SendEnd.Blocked there unfailed steady (Err error) is = let clash : Send_error error ≡ Blocked_send = is in
    absurd cc
steady-ok SendEnd.Lost there unfailed steady (Err error) is = absurd there
steady-ok (SendEnd.Unconnected failure) there unfailed steady (Err error) is = absurd (steady failure refl)

-- a send of a loan whose publisher's handler fails none
pub never-fails-here : {T U F G : Type 0} {boxes : DomainBoxes F G} (environment : Environment) (old : Kept T U F G)
    (f g : Fields T U) → keeping boxes f ≡ old → (n p : ℕ) → NeverFails old p
    → (result : SendResult) (sends : SendsKeptLoan environment f g n result)
    → (sends.loan).publisher ≡ p → result ≡ Send_error UnableToDeliver → ⊥
never-fails-here {T} {U} {F} {G} environment old f g same n p never result sends its =
    elim (unfailed-parts old p never).1 [
      | inl over ↦ (overflowing-send environment (state_of (kept_of f)) n sends.loan (state_of (kept_of g)) result
          (ap (λ (k : Kept T U F G). (k.config).enable_safe_overflow) same ∙ over) sends.sends).1
      | inr mild ↦
          sends.unfailed
          (λ x at. mild x (ap (λ (k : Kept T U F G). (state_of k).publishers p) (sym same)
          ∙ ap (state_of (kept_of f)).publishers (sym its) ∙ at))
    ]

-- nor does it fail one before it is sent
pub never-unconnected-here : {T U F G : Type 0} {boxes : DomainBoxes F G} (environment : Environment)
    (old : Kept T U F G) (f g : Fields T U) → keeping boxes f ≡ old → (n p : ℕ) → NeverFails old p
    → (result : SendResult) (sends : SendsKeptLoan environment f g n result)
    → (sends.loan).publisher ≡ p → (failure : ConnectionFailure) → result ≡ Send_error (ConnectionError failure) → ⊥
never-unconnected-here {T} {U} {F} {G} environment old f g same n p never result sends its failure =
    steady-send environment (state_of (kept_of f)) (state_of (kept_of g)) n sends.loan result
    (λ x at. (unfailed-parts old p never).3 x (ap (λ (k : Kept T U F G). (state_of k).publishers p) (sym same)
    ∙ ap (state_of (kept_of f)).publishers (sym its) ∙ at))
    sends.sends failure

-- where its publisher is there, only a handler fails a send
pub handler-error : (end : SendEnd) → IsNotLost end → (outcome : Result SendOutcome SendError)
    → result_of_send outcome ≡ end_result end → IfErr outcome IsOfHandler
handler-error end there (Ok came) is = tt
handler-error (SendEnd.Delivered count) there (Err error) is = let clash : Send_error error ≡ Delivered_to count = is in
    absurd cc
handler-error SendEnd.Undelivered there (Err error) is =
    inl (let same : Send_error error ≡ Send_error UnableToDeliver = is in cc)
handler-error SendEnd.Blocked there (Err error) is = let clash : Send_error error ≡ Blocked_send = is in absurd cc
handler-error SendEnd.Lost there (Err error) is = absurd there
handler-error (SendEnd.Unconnected failure) there (Err error) is =
    inr (failure, let same : Send_error error ≡ Send_error (ConnectionError failure) = is in cc)

-- and else that it is gone
pub either-error : {T U : Type 0} (environment : Environment) (f g : Fields T U) (n p : ℕ) (end : SendEnd)
    → (HoldsPublisher (state_of (kept_of f)) p → IsNotLost end)
    → (sends : SendsKeptLoan environment f g n (end_result end)) → sends.loan.publisher ≡ p
    → (outcome : Result SendOutcome SendError) → result_of_send outcome ≡ end_result end
    → IfErr outcome (λ error. (error ≡ ConnectionBrokenSinceSenderNoLongerExists) ⊎ IsOfHandler error)
either-error {T} {U} environment f g n p end there sends its (Ok delivered) is = tt
either-error {T} {U} environment f g n p end there sends its (Err error) is =
    by_option ((error ≡ ConnectionBrokenSinceSenderNoLongerExists) ⊎ IsOfHandler error)
    ((state_of (kept_of f)).publishers sends.loan.publisher) _ _ sends.sends
    (λ _ gone.
    inl (let same : Send_error error ≡ Send_error ConnectionBrokenSinceSenderNoLongerExists = is ∙ gone.1 in cc))
    (λ x at _. inr (handler-error end (there (x, ap (state_of (kept_of f)).publishers (sym its) ∙ at)) (Err error) is))

-- a send whose publisher is there, and whose handlers fail none, succeeds, and so each error is that it is gone
pub only-error : {T U : Type 0} (environment : Environment) (f g : Fields T U) (n p : ℕ) (end : SendEnd)
    → (HoldsPublisher (state_of (kept_of f)) p → IsNotLost end)
    → (sends : SendsKeptLoan environment f g n (end_result end)) → sends.loan.publisher ≡ p
    → (end_result end ≡ Send_error UnableToDeliver → ⊥)
    → ((failure : ConnectionFailure) → end_result end ≡ Send_error (ConnectionError failure) → ⊥)
    → (outcome : Result SendOutcome SendError) → result_of_send outcome ≡ end_result end
    → IfErr outcome (λ error. error ≡ ConnectionBrokenSinceSenderNoLongerExists)
only-error {T} {U} environment f g n p end there sends its never steady (Ok delivered) is = tt
only-error {T} {U} environment f g n p end there sends its never steady (Err error) is =
    by_option (error ≡ ConnectionBrokenSinceSenderNoLongerExists)
    ((state_of (kept_of f)).publishers sends.loan.publisher) _ _ sends.sends
    (λ _ gone. let same : Send_error error ≡ Send_error ConnectionBrokenSinceSenderNoLongerExists = is ∙ gone.1 in cc)
    (λ x at _. absurd (let no : false ≡ true = steady-ok end
    (there (x, ap (state_of (kept_of f)).publishers (sym its) ∙ at)) never steady (Err error) is in cc))

-- ---- a send that is blocked

-- a publisher that waits for no full receiver has no send that is blocked
pub never-blocked : {T U : Type 0} (environment : Environment) (s : State T U) (n : ℕ) (l : Loan T U) (s' : State T U)
    → l.publisher < s.next_port
    → ((x : Publisher) → s.publishers l.publisher ≡ Some x
    → may_wait x.backpressure_strategy x.backpressure_handler ≡ false)
    → Send environment s n l s' Blocked_send → ⊥
never-blocked {T} {U} environment s n l s' low past h =
    by_option ⊥ (s.publishers l.publisher) _ _ h
    (λ _ k. absurd (let no : Blocked_send ≡ Send_error ConnectionBrokenSinceSenderNoLongerExists = k.1 in cc))
    (λ x _ k. by_option ⊥ k.1 _ _ k.3
    (λ _ j. by_option ⊥ ((k.0).publishers l.publisher) _ _ j (λ _ v. v) (λ x1 _ i.
    by_option ⊥ ((published k.0 l.publisher n).publishers l.publisher) _ _ i (λ _ v. v) (λ x2 at d.
    let mid : State T U = published k.0 l.publisher n in
    let was = (waits_trans (λ _. ⊥) s k.0 mid (update_publisher_waits (λ _. ⊥) environment s l.publisher k.0 k.1 k.2)
    (published_waits (λ _. ⊥) k.0 l.publisher n)).publishers l.publisher x2 low at in
    ends mid x2 ((λ i. may_wait (was.2.strategy i) (was.2.handler i)) ∙ past was.0 was.1) x1.ends d.0 d.1 d.3 d.2)))
    (λ e _ j. absurd (let no : Blocked_send ≡ Send_error (ConnectionError e) = j.1 in cc)))
  where
    ends : (mid : State T U) (x : Publisher) → may_wait x.backpressure_strategy x.backpressure_handler ≡ false
        → (whole : List (Option ℕ)) (how : DeliveryEnd) (boxes : ℕ → Mailbox)
        → ConcludeSend (with_mailboxes mid l.publisher boxes) l.publisher n how s' Blocked_send
        → Deliver environment mid.config l.publisher x.backpressure_strategy x.backpressure_handler
        (channel_buffer mid l.publisher 0) n 0 0 no_time 0 whole 0 false (mid.mailboxes l.publisher) how boxes → ⊥
    ends mid x past whole (Complete count true) boxes concludes delivers =
        absurd (let no : Blocked_send ≡ Send_error UnableToDeliver = concludes.1 in cc)
    ends mid x past whole (Complete count false) boxes concludes delivers =
        absurd (let no : Blocked_send ≡ Delivered_to count = concludes.1 in cc)
    ends mid x past whole (Suspended b) boxes concludes delivers =
        never-suspended environment mid.config l.publisher x.backpressure_strategy x.backpressure_handler
        (channel_buffer mid l.publisher 0) n 0 past 0 no_time 0 whole 0 false (mid.mailboxes l.publisher)
        (Suspended b) boxes delivers b refl

-- so its message reaches all receivers
pub is-delivered : (outcome : Result SendOutcome SendError) → (result_of_send outcome ≡ Blocked_send → ⊥)
    → IfOk outcome IsDelivered
is-delivered (Ok (Delivered count)) never = tt
is-delivered (Ok (Blocked blocked)) never = never refl
is-delivered (Err error) never = tt

-- where a send is blocked, its handle names it
pub is-blocked : {T U F G : Type 0} (kept : Kept T U F G) (key : Key) (blocked : BlockedSend)
    → blocked_key blocked ≡ key → (outcome : Result SendOutcome SendError)
    → IfOk outcome (λ came. IfBlocked came (λ it. it ≡ blocked))
    → (result_of_send outcome ≡ Blocked_send → IsBlockedSend kept blocked)
    → IfOk outcome (λ came. IfBlocked came (λ it. IsBlockedSend kept it × (blocked_key it ≡ key)))
is-blocked kept key blocked is_key (Ok (Delivered count)) is waits = tt
is-blocked kept key blocked is_key (Ok (Blocked it)) is waits =
    (subst (λ (b : BlockedSend). IsBlockedSend kept b) (sym is) (waits refl), ap blocked_key is ∙ is_key)
is-blocked kept key blocked is_key (Err error) is waits = tt

-- what is sent under the loan's number is its entry
pub sent-entry : {T U : Type 0} (m : Messages T U) (n : ℕ) (l : Loan T U) (outcome : Result SendOutcome SendError)
    → m n ≡ None
    → (entry : Entry T U) → messages_after_send m n l outcome n ≡ Some entry → entry ≡ entry_of l
sent-entry m n l (Ok delivered) unsent entry at =
    let both : Some entry ≡ Some (entry_of l) = sym at ∙ put_at-same m n (Some (entry_of l)) in
    cc
sent-entry {T} {U} m n l (Err error) unsent entry at = elim (after-error m n l error) [
  | inl sent ↦
      let both : Some entry ≡ Some (entry_of l) =
      sym at ∙ ap (λ (k : Messages T U). k n) sent.1 ∙ put_at-same m n (Some (entry_of l)) in
      cc
  | inr lost ↦ absurd (let no : None ≡ Some entry = sym unsent ∙ sym (ap (λ (k : Messages T U). k n) lost.1) ∙ at in cc)
]

-- and whose it is
pub whose-blocked : {T U F G : Type 0} (kept : Kept T U F G) (key : Key) (id : ℕ) → key.port ≡ id
    → (outcome : Result SendOutcome SendError)
    → IfOk outcome (λ came. IfBlocked came (λ it. IsBlockedSend kept it × (blocked_key it ≡ key)))
    → IfOk outcome (λ came. IfBlocked came (λ it. blocked_item it ≡ A_blocked_send id))
whose-blocked kept key id its (Ok (Delivered count)) is = tt
whose-blocked kept key id its (Ok (Blocked it)) is =
    ap (λ (k : Key). A_blocked_send k.port) is.1 ∙ ap A_blocked_send its
whose-blocked kept key id its (Err error) is = tt

-- nor does one that never waits
pub never-waits-send : {T U F G : Type 0} (environment : Environment) (old : Kept T U F G) (key : Key)
    (m : Messages T U) (s : State T U) → Shows old m s → NeverWaits old key → (n : ℕ) (l : Loan T U)
    → s.loans n ≡ Some l
    → key.port ≡ l.publisher → (s' : State T U) → Send environment s n l s' Blocked_send → ⊥
never-waits-send {T} {U} environment old key m s shown never n l out its s' h =
    elim (passes-parts old key never.passes).1 [
      | inl over ↦
          (overflowing-send environment s n l s' Blocked_send
          (ap (λ (t : State T U). (t.config).enable_safe_overflow) shown.state ∙ over) h).0 refl
      | inr past ↦
          never-blocked environment s n l s' (shown.well_formed.loans n l out).known
          (λ x at. past x (sym (ap (λ (t : State T U). t.publishers key.port) shown.state) ∙ ap s.publishers its ∙ at))
          h
    ]

-- ---- why a send fails

-- an error isn't both
lost-or-failed : {A : Type 0} (error : SendError) → error ≡ ConnectionBrokenSinceSenderNoLongerExists
    → IsOfHandler error → A
lost-or-failed error lost (inl failed) =
    let clash : ConnectionBrokenSinceSenderNoLongerExists ≡ UnableToDeliver = sym lost ∙ failed in absurd cc
lost-or-failed error lost (inr failed) =
    let clash : ConnectionBrokenSinceSenderNoLongerExists ≡ ConnectionError failed.0 = sym lost ∙ failed.1 in absurd cc

-- a send fails since its publisher is gone, or a handler of it fails the send
pub fails-send : {T U F G : Type 0} (domain : Kept T U F G) (key : Key) (outcome : Result SendOutcome SendError)
    → IfErr outcome (λ error. (error ≡ ConnectionBrokenSinceSenderNoLongerExists) ⊎ IsOfHandler error)
    → (HasLender domain key → IfErr outcome IsOfHandler)
    → (NeverFails domain key.port → IfErr outcome (λ error. error ≡ ConnectionBrokenSinceSenderNoLongerExists))
    → IfErr outcome (FailsSend domain key)
unfolding FailsSend
fails-send domain key (Ok came) either there gone = tt
fails-send domain key (Err error) either there gone = elim either [
  | inl lost ↦ inl (lost, λ lent. lost-or-failed error lost (there lent))
  | inr failed ↦ inr (failed, λ never. lost-or-failed error (gone never) failed)
]

-- while the publisher is there, a handler fails it
pub fails-there : {T U F G : Type 0} (domain : Kept T U F G) (key : Key) → HasLender domain key
    → (outcome : Result SendOutcome SendError) → IfErr outcome (FailsSend domain key)
    → IfErr outcome IsOfHandler
unfolding FailsSend
fails-there domain key lent (Ok came) fails = tt
fails-there domain key lent (Err error) fails = elim fails [ inl lost ↦ absurd (lost.1 lent) | inr failed ↦ failed.0 ]

-- so it is of a copy that was lent
pub fails-copy : {T U F G : Type 0} (domain mid : Kept T U F G) (publisher : Handle) (key : Key)
    → key.port ≡ publisher.id → HasLender mid key
    → (NeverFails domain publisher.id → NeverFails mid publisher.id) → (outcome : Result SendOutcome SendError)
    → IfErr outcome (FailsSend mid key)
    → IfErr outcome (FailsCopy domain publisher)
unfolding FailsSend FailsCopy
fails-copy domain mid publisher key its lent stays (Ok came) fails = tt
fails-copy domain mid publisher key its lent stays (Err error) fails = elim fails [
  | inl lost ↦ absurd (lost.1 lent)
  | inr failed ↦ inr (failed.0, λ never. failed.1 (subst (NeverFails mid) (sym its) (stays never)))
]
