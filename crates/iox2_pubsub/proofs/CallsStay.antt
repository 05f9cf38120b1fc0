-- What each call leaves of a domain.
use Rattle.std.proofs.Common.{◌≡◌, Bool, ℕ, ◌<◌, List, [], ◌++◌, refl, true, false, sym, ap, subst, ◌∙◌, Option, None}
use Rattle.std.proofs.Common.{Some, Result, Ok, Err, inl, inr, arith}
use Rattle.std.specs.Prelude.{◌≢◌}
use Rattle.std.proofs.lemmas.Bool.{cases_eq, ne_eqb, true≢false}
use Rattle.iox2_machine.specs.machine.Loans.{entry_of}
use Rattle.iox2_machine.specs.machine.Mailbox.{is_borrowed, other_numbers}
use Rattle.iox2_machine.specs.machine.Numbers.{put_at, contains}
use Rattle.iox2_machine.specs.machine.Ports.{CreatePublisher, CreateSubscriber}
use Rattle.iox2_machine.specs.machine.Receives.{ReceiveResult, Got_sample, No_sample, Receive_error, Receive}
use Rattle.iox2_machine.specs.machine.Records.{Entry, Loan, Publisher, PublisherSettings, SubscriberSettings}
use Rattle.iox2_machine.specs.machine.Records.{Environment}
use Rattle.iox2_machine.specs.machine.Releases.{released}
use Rattle.iox2_machine.specs.machine.SingleCalls.{HoldsLoan, HoldsPublisher, HoldsSample, HoldsSubscriber}
use Rattle.iox2_machine.specs.machine.Sends.{SendResult, Delivered_to, Blocked_send, Send_error, Send}
use Rattle.iox2_machine.specs.declared.errors.SendError.{SendError}
use Rattle.iox2_pubsub.specs.SendCalls.{Sends, messages_after_send, spent_by_send}
use Rattle.iox2_pubsub.specs.declared.send_outcome.SendOutcome.{SendOutcome}
use Rattle.iox2_pubsub.specs.declared.send_outcome.SendOutcome.TheVariants.{Delivered, Blocked}
use Rattle.iox2_machine.specs.Stored.{In_mailbox}
use Rattle.iox2_machine.specs.machine.State.{State, Messages, with_loan}
use Rattle.iox2_machine.specs.declared.errors.LoanError.{LoanError}
use Rattle.iox2_machine.specs.declared.errors.PublisherCreateError.{PublisherCreateError}
use Rattle.iox2_machine.specs.declared.errors.SubscriberCreateError.{SubscriberCreateError}
use Rattle.iox2_machine.specs.declared.key.Key.{Key}
use Rattle.iox2_laws.proofs.Cases.{by_option}
use Rattle.iox2_laws.proofs.LoanKeeping.{create_publisher_loans, create_subscriber_loans, receive_loans, released_loans}
use Rattle.iox2_laws.proofs.LoanKeeping.{send_loans}
use Rattle.iox2_laws.proofs.NextLoan.{loan_next}
use Rattle.iox2_laws.proofs.NumberLemmas.{IsOnce-apart, IsOnce-right, contains_first}
use Rattle.iox2_laws.proofs.PortsStay.{PortsStay, Remain, ports_stay_themselves, create_publisher_stays}
use Rattle.iox2_laws.proofs.PortsStay.{create_subscriber_stays, grant_loan_stays, loan_set_stays, send_stays}
use Rattle.iox2_laws.proofs.PortsStay.{update_subscriber_stays}
use Rattle.iox2_laws.proofs.Puts.{put_at-other, put_at-same}
use Rattle.iox2_laws.proofs.SendsRemain.{send_remains}
use Rattle.iox2_laws.proofs.SamplesStay.{same_borrowed, IsReceived, received_one, nothing_received, released_remain}
use Rattle.iox2_laws.proofs.SamplesStay.{released_now, released_others}
use Rattle.iox2_laws.proofs.SubscriberUpdates.{update_subscriber_keeps}
use Rattle.iox2_laws.proofs.Waits.{Waits, waits_itself, create_publisher_waits, create_subscriber_waits}
use Rattle.iox2_laws.proofs.Waits.{grant_loan_waits, loan_set_waits, send_waits as send_spared, receive_waits}
use Rattle.iox2_laws.proofs.Waits.{released_waits}
use Rattle.iox2_domain.specs.Boxes.{DomainBoxes}
use Rattle.iox2_domain.specs.Fields.{Fields, kept_of, keeping}
use Rattle.iox2_domain.specs.Invariant.{IsDomain}
use Rattle.iox2_domain.specs.Kept.{Kept, state_of, entries_of}
use Rattle.iox2_domain.specs.Lending.{LoanCall, loan_memory}
use Rattle.iox2_domain.specs.Shows.{Shows}
use Rattle.iox2_pubsub.specs.Live.{Item, IsOtherLoan, IsPublisherKey, IsSubscriberKey, IsLoanKey, IsSampleKey}
use Rattle.iox2_pubsub.specs.Live.{IsUnblocked, No_item, A_publisher, A_subscriber, A_loan, A_sample, IsOtherSample}
use Rattle.iox2_pubsub.specs.Live.{IsBlockedKey, A_sent_loan, StaysBut, Stays, IsNewIn}
use Rattle.iox2_pubsub.specs.declared.sample_mut.SampleMut.{SampleMut}
use Rattle.iox2_pubsub.proofs.AlwaysShows.{shows_itself}
use Rattle.iox2_pubsub.proofs.SentMessages.{after-error}
use Rattle.iox2_pubsub.proofs.SendShown.{never-waits-send}
use Rattle.iox2_pubsub.proofs.LiveParts.{publisher-parts, subscriber-parts, loan-parts, sample-parts, blocked-parts}
use Rattle.iox2_pubsub.proofs.LiveParts.{unblocked-parts}
use Rattle.iox2_pubsub.proofs.StaysBut.{BoxesStayBut, IsSpared, PortsRemainBut, SamplesStayBut, ports-remain}
use Rattle.iox2_pubsub.proofs.StaysBut.{stays-between, new-in, none-spared, SparedPublishers}
use Rattle.iox2_pubsub.proofs.UnfailedSends.{IsMild, HasNotFailed, blocked-unfailed}
use Rattle.iox2_laws.proofs.MailboxLemmas.{contains_borrowed}

-- a domain shows some state
pub always-shown : {T U F G : Type 0} {boxes : DomainBoxes F G} (f : Fields T U) (kept : Kept T U F G) → IsDomain f
    → keeping boxes f ≡ kept → (m : Messages T U) × (s : State T U) × Shows kept m s
always-shown {T} {U} {F} {G} f kept sound view = (
  entries_of (kept_of f),
  state_of (kept_of f),
  subst
      (λ (k : Kept T U F G). Shows k (entries_of (kept_of f)) (state_of (kept_of f))) view (shows_itself f sound),
)

-- and in the state that it shows is what is live in it
module _ {T U F G : Type 0} {boxes : DomainBoxes F G} (f : Fields T U) (kept : Kept T U F G) (sound : IsDomain f)
    (view : keeping boxes f ≡ kept) where
  shown-with : (Is : State T U → Type 0) → Is (state_of kept)
      → (m : Messages T U) × (s : State T U) × Shows kept m s × Is s
  shown-with Is is = let it = always-shown f kept sound view in (it.0, it.1, it.2, subst Is (sym (it.2).state) is)

  module _ (key : Key) where
    pub publisher-shown : IsPublisherKey kept key
        → (m : Messages T U) × (s : State T U) × Shows kept m s × HoldsPublisher s key.port
    publisher-shown live = shown-with (λ (s : State T U). HoldsPublisher s key.port) (publisher-parts kept key live).2

    pub subscriber-shown : IsSubscriberKey kept key
        → (m : Messages T U) × (s : State T U) × Shows kept m s × HoldsSubscriber s key.port
    subscriber-shown live =
        shown-with (λ (s : State T U). HoldsSubscriber s key.port) (subscriber-parts kept key live).2

    pub loan-shown : IsLoanKey kept key
        → (m : Messages T U) × (s : State T U) × Shows kept m s × HoldsLoan s key.port key.message
    loan-shown live = shown-with (λ (s : State T U). HoldsLoan s key.port key.message) (loan-parts kept key live).1

    pub sample-shown : IsSampleKey kept key
        → (m : Messages T U) × (s : State T U) × Shows kept m s × HoldsSample s key.port key.message
    sample-shown live =
        shown-with (λ (s : State T U). HoldsSample s key.port key.message) (sample-parts kept key live).1

-- the next id is none that is known in the state that is shown
below-next : {T U F G : Type 0} {boxes : DomainBoxes F G} (f : Fields T U) (kept : Kept T U F G)
    → keeping boxes f ≡ kept → (m : Messages T U) (s : State T U) → Shows kept m s → (id : ℕ) → id < s.next_port
    → id ≢ f.next_port
below-next {T} {U} {F} {G} f kept view m s shown id known same =
    let next : s.next_port ≡ f.next_port =
    ap (λ (t : State T U). t.next_port) shown.state ∙ ap (λ (k : Kept T U F G). k.next_port) (sym view) in
    omega arith

-- so it is that of no publisher that is there
pub apart-from-next : {T U F G : Type 0} {boxes : DomainBoxes F G} (f : Fields T U) (kept : Kept T U F G) → IsDomain f
    → keeping boxes f ≡ kept → (key : Key) → IsPublisherKey kept key
    → key.port ≢ f.next_port
apart-from-next f kept sound view key live =
    let has = publisher-shown f kept sound view key live in
    below-next f kept view has.0 has.1 has.2 key.port
    ((has.2).well_formed.publishers key.port (has.3).0 (has.3).1).is_known

-- nor of a subscriber
pub subscriber-apart-from-next : {T U F G : Type 0} {boxes : DomainBoxes F G} (f : Fields T U) (kept : Kept T U F G)
    → IsDomain f → keeping boxes f ≡ kept → (key : Key) → IsSubscriberKey kept key
    → key.port ≢ f.next_port
subscriber-apart-from-next f kept sound view key live =
    let has = subscriber-shown f kept sound view key live in
    below-next f kept view has.0 has.1 has.2 key.port
    ((has.2).well_formed.subscribers key.port (has.3).0 (has.3).1).is_known

-- two publishers whose messages with one number are borrowed are one
one-origin : {T U F G : Type 0} (kept : Kept T U F G) (m : Messages T U) (s : State T U) → Shows kept m s
    → (p p' q q' n : ℕ)
    → is_borrowed n (s.mailboxes p q) ≡ true → is_borrowed n (s.mailboxes p' q') ≡ true → p ≡ p'
one-origin {T} {U} kept m s shown p p' q q' n here there =
    let a = entry p q (ap (λ (t : State T U). is_borrowed n (t.mailboxes p q)) (sym shown.state) ∙ here) in
    let b = entry p' q' (ap (λ (t : State T U). is_borrowed n (t.mailboxes p' q')) (sym shown.state) ∙ there) in
    let both : Some a.0 ≡ Some b.0 = sym a.1 ∙ b.1 in
    let same : a.0 ≡ b.0 = cc in
    sym a.2 ∙ ap (λ (e : Entry T U). (e.header).publisher_id) same ∙ b.2
  where
    entry : (i j : ℕ) → is_borrowed n ((state_of kept).mailboxes i j) ≡ true
        → (e : Entry T U) × (entries_of kept n ≡ Some e) × ((e.header).publisher_id ≡ i)
    entry i j borrowed =
        shown.complete i n (In_mailbox j (contains_borrowed ((state_of kept).mailboxes i j) n borrowed))

-- where all publishers but one wait as they did, and that one has no blocked send, as before, all do
pub free-waits : {T U : Type 0} (Spared : ℕ → Type 0) (publisher : ℕ) (s s' : State T U)
    → Waits (λ q. q ≡ publisher) s s' → Remain s s'
    → ((x : Publisher) → s.publishers publisher ≡ Some x → x.blocked ≡ None) → Waits Spared s s'
free-waits Spared publisher s s' mine remain free = record {
  next_port = mine.next_port;
  publishers = λ p x' low at.
      let was = mine.publishers p x' low at in (
        was.0,
        was.1,
        record {
          place = was.2.place;
          strategy = was.2.strategy;
          handler = was.2.handler;
          degradation = was.2.degradation;
          blocked = λ _. elim (cases_eq p publisher) [
            | inr away ↦ was.2.blocked away
            | inl same ↦
                let none : (was.0).blocked ≡ None = free was.0 (ap s.publishers (sym same) ∙ was.1) in
                let there = remain.publishers p was.0 was.1 in
                let both : Some x' ≡ Some there.0 = sym at ∙ there.1 in
                let is : x' ≡ there.0 = cc in
                ap (λ (x : Publisher). x.blocked) is ∙ there.2 none ∙ sym none
          ];
        },
      );
  subscribers = mine.subscribers;
}

module _ {T U F G : Type 0} (old new : Kept T U F G) (m : Messages T U) (s : State T U) (shown : Shows old m s) where
  -- ports, loans and samples stay
  quiet : BoxesStayBut No_item old new → (s' : State T U) → Shows new m s' → PortsStay s s' → s'.loans ≡ s.loans
      → Waits (IsSpared No_item) s s' → Stays old new
  quiet boxes s' shown' stay loans waits =
      stays-between No_item old new m m s s' shown shown' (λ n entry at. at) (ports-remain _ s s' stay.remain)
      (λ n l at _. ap (λ (f : ℕ → Option (Loan T U)). f n) loans ∙ at)
      (λ p q n at _. same_borrowed s s' stay p q n ∙ at) waits (none-spared _ old s s' (λ _. tt)) boxes

  -- a publisher is made, or refused
  pub publisher-creation-stays : (environment : Environment) (given : PublisherSettings)
      (refusal : Option PublisherCreateError) (s' : State T U) → Shows new m s'
      → CreatePublisher environment s given s' refusal → BoxesStayBut No_item old new → Stays old new
  publisher-creation-stays environment given refusal s' shown' h boxes =
      quiet boxes s' shown' (create_publisher_stays environment s given s' refusal h)
      (create_publisher_loans environment s given s' refusal h)
      (create_publisher_waits (IsSpared No_item) environment s given s' refusal h)

  -- a subscriber is made, or refused
  pub subscriber-creation-stays : (environment : Environment) (given : SubscriberSettings)
      (refusal : Option SubscriberCreateError) (s' : State T U) → Shows new m s'
      → CreateSubscriber environment s given s' refusal → BoxesStayBut No_item old new → Stays old new
  subscriber-creation-stays environment given refusal s' shown' h boxes =
      quiet boxes s' shown' (create_subscriber_stays environment s given s' refusal h)
      (create_subscriber_loans environment s given s' refusal h)
      (create_subscriber_waits (IsSpared No_item) environment s given s' refusal h)

  -- the new publisher is none that was there
  pub publisher-is-new : (id : ℕ) → id ≡ s.next_port → IsNewIn old (A_publisher id)
  publisher-is-new id is =
      new-in old (A_publisher id) apart (λ key live. tt) (λ n l out. tt) (λ p q n borrowed. tt)
      (λ key free. (known-apart key free, tt)) (λ key live. (waiting-apart key live, tt)) where
        apart : (key : Key) → IsPublisherKey old key → key.port ≢ id
        apart key live same =
            let has = (publisher-parts old key live).2 in
            let known : key.port < s.next_port =
            (shown.well_formed.publishers key.port has.0
            (ap (λ (t : State T U). t.publishers key.port) shown.state ∙ has.1)).is_known in
            omega arith

        known-apart : (key : Key) → IsUnblocked old key → key.port ≢ id
        known-apart key free same =
            let low : key.port < s.next_port =
            subst (λ (t : State T U). key.port < t.next_port) (sym shown.state) (unblocked-parts old key free).0 in
            omega arith

        waiting-apart : (key : Key) → IsBlockedKey old key → key.port ≢ id
        waiting-apart key live same =
            let has = (blocked-parts old key live).1 in
            let known : key.port < s.next_port =
            (shown.well_formed.publishers key.port has.0
            (ap (λ (t : State T U). t.publishers key.port) shown.state ∙ has.2)).is_known in
            omega arith

  -- the new subscriber is none that was there
  pub subscriber-is-new : (id : ℕ) → id ≡ s.next_port → IsNewIn old (A_subscriber id)
  subscriber-is-new id is = new-in old (A_subscriber id) (λ key live. tt) apart (λ n l out. tt) (λ p q n borrowed. tt)
      (λ key free. (tt, tt)) (λ key live. (tt, tt)) where
        apart : (key : Key) → IsSubscriberKey old key → key.port ≢ id
        apart key live same =
            let has = (subscriber-parts old key live).2 in
            let known : key.port < s.next_port =
            (shown.well_formed.subscribers key.port has.0
            (ap (λ (t : State T U). t.subscribers key.port) shown.state ∙ has.1)).is_known in
            omega arith

  -- a loan is granted, or refused
  pub loan-stays : {A : Type 0} (is_default : U → Type 0) (checks : Bool) (len p : ℕ) (answer : Result A LoanError)
      (s' : State T U) → Shows new m s' → LoanCall is_default checks len s p answer s' → BoxesStayBut No_item old new
      → Stays old new
  loan-stays is_default checks len p (Ok a) s' shown' h boxes =
      let stay : PortsStay s s' = grant_loan_stays (loan_memory s p) h.0 checks len s p s' None h.2 in
      let next = loan_next (loan_memory s p) s h.0 checks len p s' h.2 in
      stays-between No_item old new m m s s' shown shown' (λ n entry at. at) (ports-remain _ s s' stay.remain)
      (λ n l at _. next.others n (shown.well_formed.loans n l at).below ∙ at)
      (λ i j n at _. same_borrowed s s' stay i j n ∙ at)
      (grant_loan_waits (IsSpared No_item) (loan_memory s p) h.0 checks len s p s' None h.2)
      (none-spared _ old s s' (λ _. tt)) boxes
  loan-stays is_default checks len p (Err e) s' shown' h boxes =
      quiet boxes s' shown' (subst (PortsStay s) (sym h.0) (ports_stay_themselves s))
      (ap (λ (t : State T U). t.loans) h.0)
      (subst (Waits (IsSpared No_item) s) (sym h.0) (waits_itself (IsSpared No_item) s))

  -- the new loan is none that was there
  pub loan-is-new : (number : ℕ) → number ≡ old.next_message → IsNewIn old (A_loan number)
  loan-is-new number is = new-in old (A_loan number) (λ key live. tt) (λ key live. tt) out-apart (λ p q n borrowed. tt)
      (λ key free. (tt, tt)) (λ key live. (tt, tt))
    where
      out-apart : (n : ℕ) (l : Loan T U) → (state_of old).loans n ≡ Some l → n ≢ number
      out-apart n l out same =
          let at : s.loans n ≡ Some l = ap (λ (t : State T U). t.loans n) shown.state ∙ out in
          let low : n < s.next_message = (shown.well_formed.loans n l at).below in
          let next : s.next_message ≡ old.next_message = ap (λ (t : State T U). t.next_message) shown.state in
          omega arith

  -- a loan is changed
  pub change-stays : (n : ℕ) (l : Loan T U) → Shows new m (with_loan s n (Some l)) → BoxesStayBut (A_loan n) old new
      → StaysBut (A_loan n) old new
  change-stays n l shown' boxes =
      let s' : State T U = with_loan s n (Some l) in
      let stay : PortsStay s s' = loan_set_stays s n (Some l) in
      stays-between (A_loan n) old new m m s s' shown shown' (λ n entry at. at) (ports-remain _ s s' stay.remain)
      (λ k loan at other. put_at-other s.loans n (Some l) k (ne_eqb k n other) ∙ at)
      (λ i j k at _. same_borrowed s s' stay i j k ∙ at) (loan_set_waits (IsSpared (A_loan n)) s n (Some l))
      (none-spared _ old s s' (λ _. tt)) boxes

  -- a send leaves what is borrowed and the ports, and each publisher but its own waits as it did
  module _ (environment : Environment) (n : ℕ) (l : Loan T U) (out : s.loans n ≡ Some l) (result : SendResult)
      (s' : State T U) (h : Send environment s n l s' result) where
    sent-remain : (spent : Item) → PortsRemainBut spent s s'
    sent-remain spent =
        let remain = send_remains environment s n l s' result h in
        record {
          config = remain.config;
          publishers = λ p x here _. remain.publishers p x here;
          subscribers = λ q y here is_open _. remain.subscribers q y here is_open;
        }

    sent-borrowed : (spent : Item) → SamplesStayBut spent s s'
    sent-borrowed spent p q k at other =
        ap (λ (ns : List ℕ). is_borrowed k (record { waiting = []; borrowed = ns; others = [] }))
        ((send_remains environment s n l s' result h).borrowed p q) ∙ at

    -- where it isn't blocked, so does its own
    unblocked-waits : (Spared : ℕ → Type 0) → (result ≡ Blocked_send → ⊥)
        → ((x : Publisher) → s.publishers l.publisher ≡ Some x → x.blocked ≡ None) → Waits Spared s s'
    unblocked-waits Spared ends free =
        free-waits Spared l.publisher s s' (send_spared (λ (q : ℕ). q ≡ l.publisher) environment s n l refl s' result h)
        (send_stays environment s n l s' result h ends).remain free

    -- all but the loan stays, and its publisher where it is blocked
    sent-keeps : (spent : Item) → BoxesStayBut spent old new → ((k : ℕ) → IsOtherLoan spent k → k ≢ n)
        → Waits (IsSpared spent) s s' → SparedPublishers spent old s s' → (m' : Messages T U) → Shows new m' s'
        → ((k : ℕ) (entry : Entry T U) → m k ≡ Some entry → m' k ≡ Some entry)
        → StaysBut spent old new
    sent-keeps spent boxes others waits goes-on m' shown' sent =
        let loans : s'.loans ≡ put_at s.loans n None = send_loans environment s n l s' result h in
        stays-between spent old new m m' s s' shown shown' sent (sent-remain spent)
        (λ k loan at other. ap (λ (f : ℕ → Option (Loan T U)). f k) loans
        ∙ put_at-other s.loans n None k (ne_eqb k n (others k other)) ∙ at)
        (sent-borrowed spent) waits goes-on boxes

    -- a message that was sent before has another number
    sent-before : (k : ℕ) (entry other : Entry T U) → m k ≡ Some other → put_at m n (Some entry) k ≡ Some other
    sent-before k entry other at = put_at-other m n (Some entry) k (ne_eqb k n (λ e.
        let clash : None ≡ Some other = sym (shown.unsent n l out) ∙ ap m (sym e) ∙ at in absurd cc)) ∙ at

  -- a send that may fail, or be blocked
  pub sent-stays : (environment : Environment) (loan : SampleMut) (l : Loan T U) → s.loans loan.loan.number ≡ Some l
      → l.publisher ≡ loan.loan.publisher → ((x : Publisher) → s.publishers l.publisher ≡ Some x → x.blocked ≡ None)
      → (result : Result SendOutcome SendError) (s' : State T U)
      → Shows new (messages_after_send m loan.loan.number l result) s'
      → Sends environment s loan.loan.number l result s' → BoxesStayBut (spent_by_send loan result) old new
      → StaysBut (spent_by_send loan result) old new
  sent-stays environment loan l out its free (Ok (Delivered count)) s' shown' h boxes =
      sent-keeps environment loan.loan.number l out (Delivered_to count) s' h
      (A_sent_loan loan.loan.number loan.loan.publisher false) boxes (λ k other. other)
      (unblocked-waits environment loan.loan.number l out (Delivered_to count) s' h
      (IsSpared (A_sent_loan loan.loan.number loan.loan.publisher false))
      (λ e. let clash : Delivered_to count ≡ Blocked_send = e in cc) free) (none-spared _ old s s' (λ _. tt))
      _ shown' (λ k entry at.
      sent-before environment loan.loan.number l out (Delivered_to count) s' h k (entry_of l) entry at)
  sent-stays environment loan l out its free (Ok (Blocked blocked)) s' shown' h boxes =
      sent-keeps environment loan.loan.number l out Blocked_send s' h
      (A_sent_loan loan.loan.number loan.loan.publisher true) boxes (λ k other. other)
      (send_spared (IsSpared (A_sent_loan loan.loan.number loan.loan.publisher true)) environment s loan.loan.number l
      (λ other. other its) s' Blocked_send h)
      (record {
        unfailed = λ p spared low mild none. elim (cases_eq p loan.loan.publisher) [
          | inr away ↦ absurd (spared away)
          | inl same ↦
              let is : p ≡ l.publisher = same ∙ sym its in
              subst (HasNotFailed s') (sym is) (blocked-unfailed environment s loan.loan.number l s'
              (subst (λ (q : ℕ). q < s.next_port) is low) (subst (IsMild s) is mild) h)
        ];
        waits = λ key spared never. elim (cases_eq key.port loan.loan.publisher) [
          | inr away ↦ absurd (spared away)
          | inl same ↦ never-waits-send environment old key m s shown never loan.loan.number l out (same ∙ sym its) s' h
        ];
      })
      _ shown' (λ k entry at. sent-before environment loan.loan.number l out Blocked_send s' h k (entry_of l) entry at)
  sent-stays environment loan l out its free (Err error) s' shown' h boxes =
      sent-keeps environment loan.loan.number l out (Send_error error) s' h
      (A_sent_loan loan.loan.number loan.loan.publisher false) boxes (λ k other. other)
      (unblocked-waits environment loan.loan.number l out (Send_error error) s' h
      (IsSpared (A_sent_loan loan.loan.number loan.loan.publisher false))
      (λ e. let clash : Send_error error ≡ Blocked_send = e in cc) free) (none-spared _ old s s' (λ _. tt))
      _ shown' (λ k entry at. elim (after-error m loan.loan.number l error) [
        | inl sent ↦ ap (λ (f : Messages T U). f k) sent.1
            ∙ sent-before environment loan.loan.number l out (Send_error error) s' h k (entry_of l) entry at
        | inr lost ↦ ap (λ (f : Messages T U). f k) lost.1 ∙ at
      ])

  -- it is out no more
  pub send-spends : (environment : Environment) (key : Key) (l : Loan T U) (result : SendResult) (m' : Messages T U)
      (s' : State T U) → Shows new m' s'
      → Send environment s key.message l s' result → IsLoanKey new key → ⊥
  send-spends environment key l result m' s' shown' h live =
      let has = (loan-parts new key live).1 in
      let loans : s'.loans ≡ put_at s.loans key.message None = send_loans environment s key.message l s' result h in
      let clash : None ≡ Some has.0 =
      sym (ap (λ (f : ℕ → Option (Loan T U)). f key.message) loans ∙ put_at-same s.loans key.message None)
      ∙ ap (λ (t : State T U). t.loans key.message) shown'.state ∙ has.1 in
      absurd cc

  -- a subscriber receives, or doesn't
  pub receive-stays : (environment : Environment) (q : ℕ) (result : ReceiveResult) (s' : State T U) → Shows new m s'
      → Receive environment s q s' result → BoxesStayBut No_item old new → Stays old new
  receive-stays environment q (Got_sample p n) s' shown' h boxes =
      let got : IsReceived environment s q p n s' = received_one environment s q p n s' h in
      stays-between No_item old new m m s s' shown shown' (λ n entry at. at) (ports-remain _ s s' got.remain)
      (λ k l at _. ap (λ (f : ℕ → Option (Loan T U)). f k) got.loans ∙ at)
      (λ i j k at _. elim (cases_eq i p) [
        | inr away ↦ got.others i j k (λ e _ _. away e) ∙ at
        | inl e_p ↦ elim (cases_eq j q) [
          | inr away ↦ got.others i j k (λ _ e _. away e) ∙ at
          | inl e_q ↦ elim (cases_eq k n) [
            | inr away ↦ got.others i j k (λ _ _ e. away e) ∙ at
            | inl e_n ↦
                ap (λ (v : ℕ). is_borrowed k (s'.mailboxes v j)) e_p
                ∙ ap (λ (v : ℕ). is_borrowed k (s'.mailboxes p v)) e_q
                ∙ ap (λ (v : ℕ). is_borrowed v (s'.mailboxes p q)) e_n ∙ got.now
          ]
        ]
      ]) (receive_waits (IsSpared No_item) environment s q s' (Got_sample p n) h)
      (none-spared _ old s s' (λ _. tt)) boxes
  receive-stays environment q No_sample s' shown' h boxes =
      quiet boxes s' shown' (nothing_received environment s q s' No_sample
      (λ p n e. let clash : No_sample ≡ Got_sample p n = e in absurd cc) h)
      (receive_loans environment s q s' No_sample h) (receive_waits (IsSpared No_item) environment s q s' No_sample h)
  receive-stays environment q (Receive_error e) s' shown' h boxes =
      quiet boxes s' shown' (nothing_received environment s q s' (Receive_error e)
      (λ p n f. let clash : Receive_error e ≡ Got_sample p n = f in absurd cc) h)
      (receive_loans environment s q s' (Receive_error e) h)
      (receive_waits (IsSpared No_item) environment s q s' (Receive_error e) h)

  -- what is received wasn't borrowed
  not-borrowed : (environment : Environment) (p q n : ℕ) (s' : State T U) → Receive environment s q s' (Got_sample p n)
      → is_borrowed n (s.mailboxes p q) ≡ true → ⊥
  not-borrowed environment p q n s' h borrowed =
      let first : PortsStay s h.0 = update_subscriber_stays environment s q h.0 h.1 h.2 in
      by_option ⊥ h.1 _ _ h.3
      (λ _ k. by_option ⊥ ((h.0).subscribers q) _ _ k (λ _ v. absurd v) (λ y _ k.
      let box = (h.0).mailboxes p q in
      let once = IsOnce-right (other_numbers box) (box.waiting ++ box.borrowed)
      ((update_subscriber_keeps environment s q h.0 h.1 shown.well_formed h.2).mailboxes p q).within.once in
      let waits : contains box.waiting n ≡ true =
      ap (λ (ns : List ℕ). contains ns n) (k.2).1 ∙ contains_first n (k.2).0 in
      true≢false
      (sym (same_borrowed s h.0 first p q n ∙ borrowed) ∙ IsOnce-apart box.waiting box.borrowed once n waits)))
      (λ e _ k. let clash : Got_sample p n ≡ Receive_error _ = k.1 in absurd cc)

  pub received-is-new : (environment : Environment) (p q n : ℕ) (s' : State T U) → Shows new m s'
      → Receive environment s q s' (Got_sample p n) → IsNewIn old (A_sample q n)
  received-is-new environment p q n s' shown' h =
      new-in old (A_sample q n) (λ key live. tt) (λ key live. tt) (λ k l out. tt) away (λ key free. (tt, tt))
      (λ key live. (tt, tt)) where
        got : IsReceived environment s q p n s'
        got = received_one environment s q p n s' h

        same : (i : ℕ) → is_borrowed n (s.mailboxes i q) ≡ true → ⊥
        same i there = elim (cases_eq i p) [
          | inl e ↦
              not-borrowed environment p q n s' h (ap (λ (v : ℕ). is_borrowed n (s.mailboxes v q)) (sym e) ∙ there)
          | inr away ↦ away (one-origin new m s' shown' i p q q n (got.others i q n (λ e _ _. away e) ∙ there) got.now)
        ]

        away : (i j k : ℕ) → is_borrowed k ((state_of old).mailboxes i j) ≡ true → IsOtherSample (A_sample q n) j k
        away i j k borrowed = elim (cases_eq j q) [
          | inr other ↦ inl other
          | inl e_q ↦ elim (cases_eq k n) [
            | inr other ↦ inr other
            | inl e_n ↦ absurd (same i (
                ap (λ (v : ℕ). is_borrowed n (s.mailboxes i v)) (sym e_q)
                ∙ ap (λ (v : ℕ). is_borrowed v (s.mailboxes i j)) (sym e_n)
                ∙ ap (λ (t : State T U). is_borrowed k (t.mailboxes i j)) shown.state ∙ borrowed))
          ]
        ]

  -- a sample is released
  pub release-stays : (p q n : ℕ) (s' : State T U) → Shows new m s' → s' ≡ released s p q n
      → BoxesStayBut (A_sample q n) old new → StaysBut (A_sample q n) old new
  release-stays p q n s' shown' is boxes =
      stays-between (A_sample q n) old new m m s s' shown shown' (λ n entry at. at)
      (ports-remain _ s s' (subst (Remain s) (sym is) (released_remain s p q n)))
      (λ k l at _.
      ap (λ (t : State T U). t.loans k) is ∙ ap (λ (f : ℕ → Option (Loan T U)). f k) (released_loans s p q n) ∙ at)
      (λ i j k at other. ap (λ (t : State T U). is_borrowed k (t.mailboxes i j)) is
      ∙ released_others s p q n i j k (λ _ e_q e_n. apart other e_q e_n) ∙ at)
      (subst (Waits (IsSpared (A_sample q n)) s) (sym is) (released_waits (IsSpared (A_sample q n)) s p q n))
      (none-spared _ old s s' (λ _. tt)) boxes
    where
      apart : {j k : ℕ} → IsOtherSample (A_sample q n) j k → j ≡ q → k ≡ n → ⊥
      apart (inl away) e_q e_n = away e_q
      apart (inr away) e_q e_n = away e_n

  -- its message is borrowed no more
  pub release-spends : (p q n : ℕ) (s' : State T U) → Shows new m s' → is_borrowed n (s.mailboxes p q) ≡ true
      → s' ≡ released s p q n
      → (key : Key) → key.port ≡ q → key.message ≡ n → IsSampleKey new key → ⊥
  release-spends p q n s' shown' borrowed is key e_q e_n live =
      let has = (sample-parts new key live).1 in
      same has.0 (
      ap (λ (t : State T U). is_borrowed n (t.mailboxes has.0 q)) (sym is ∙ shown'.state)
      ∙ ap (λ (v : ℕ). is_borrowed n ((state_of new).mailboxes has.0 v)) (sym e_q)
      ∙ ap (λ (v : ℕ). is_borrowed v ((state_of new).mailboxes has.0 key.port)) (sym e_n) ∙ has.1)
    where
      same : (i : ℕ) → is_borrowed n ((released s p q n).mailboxes i q) ≡ true → ⊥
      same i there = elim (cases_eq i p) [
        | inl e ↦ true≢false
            (sym there ∙ ap (λ (v : ℕ). is_borrowed n ((released s p q n).mailboxes v q)) e ∙ released_now s p q n)
        | inr away ↦ away (one-origin old m s shown i p q q n
            (sym (released_others s p q n i q n (λ e _ _. away e)) ∙ there) borrowed)
      ]
