-- What of a domain stays from one state to the next.
use Rattle.std.proofs.Common.{◌⊎◌, inl, inr, ◌≡◌, ◌≢◌, refl, ℕ, ◌<◌, arith, Bool, true, false, List, sym, ap, subst}
use Rattle.std.proofs.Common.{◌∙◌, Option, None, Some}
use Rattle.std.proofs.lemmas.Bool.{cases_eq}
use Rattle.std.specs.Option.{option_and_then}
use Rattle.iox2_machine.specs.SingleValues.{is_single_valued}
use Rattle.iox2_machine.specs.machine.Mailbox.{is_borrowed}
use Rattle.iox2_machine.specs.machine.Records.{Entry, Loan, Publisher, Subscriber}
use Rattle.iox2_machine.specs.machine.State.{State, Messages}
use Rattle.iox2_machine.specs.machine.WellFormed.{IsWellFormed}
use Rattle.iox2_machine.specs.declared.header.Header.{Header}
use Rattle.iox2_machine.specs.declared.key.Key.{Key}
use Rattle.iox2_machine.specs.declared.service_config.ServiceConfig.{ServiceConfig}
use Rattle.iox2_laws.proofs.PortsStay.{Remain}
use Rattle.iox2_laws.proofs.Waits.{IsAsItWas, StandsAsItDid, Waits}
use Rattle.iox2_machine.specs.Stored.{In_blocked_send, In_mailbox, IsHeldMessage}
use Rattle.iox2_domain.specs.Boxes.{DomainBoxes, box_of, boxes_of, degradation_box_of}
use Rattle.iox2_domain.specs.declared.boxes.PortBox.{PortBox}
use Rattle.iox2_domain.specs.declared.boxes.PortBoxes.{PortBoxes}
use Rattle.iox2_domain.specs.Fields.{Fields, keeping}
use Rattle.iox2_domain.specs.Handlers.{may_fail, may_fail_update}
use Rattle.iox2_domain.specs.Invariant.{IsDomain}
use Rattle.iox2_domain.specs.KeptPlaces.{KeepsPlaces}
use Rattle.iox2_domain.specs.Kept.{Kept, state_of, entries_of}
use Rattle.iox2_domain.specs.Shows.{Shows}
use Rattle.iox2_pubsub.proofs.UnfailedSends.{IsMild, HasNotFailed}
use Rattle.iox2_pubsub.proofs.LiveParts.{loan-parts, origin-parts, sample-parts}
use Rattle.iox2_pubsub.proofs.PlacedLoans.{placed-after}
use Rattle.iox2_pubsub.proofs.SliceParts.{cells-parts, values-parts}
use Rattle.iox2_pubsub.specs.Handlers.{may_wait}
use Rattle.iox2_pubsub.specs.Live.{sample_key, IsPlaced, degradation_box, handler_box, subscriber_box, IsConsistent}
use Rattle.iox2_pubsub.specs.Live.{IsSingleValued, IsPlacedPublisher, IsPlacedSubscriber, HasItsBuffer, IsPublisherKey}
use Rattle.iox2_pubsub.specs.Live.{IsSubscriberKey, IsLoanKey, IsSampleKey, IsBlockedKey, IsPending, HasPassed, HasMark}
use Rattle.iox2_pubsub.specs.Live.{IsFromOrigin, LoanHasHeader, LoanHasUserHeader, SampleHasHeader, SampleHasUserHeader}
use Rattle.iox2_pubsub.specs.Live.{Item, No_item, A_publisher, A_subscriber, A_loan, A_sample, A_blocked_send}
use Rattle.iox2_pubsub.specs.Live.{A_sent_loan, A_sent_copy, Both, IsOtherPublisher, IsOtherSubscriber, IsOtherLoan}
use Rattle.iox2_pubsub.specs.Live.{IsOtherSample, IsUnblocked, PassesFull, NeverFails}
use Rattle.iox2_pubsub.specs.Live.{NeverWaits, IsOtherBlocked, StaysBut, Stays, IsNewIn, blocked_key, unwritten_key}
use Rattle.iox2_pubsub.specs.Live.{written_key}
use Rattle.iox2_pubsub.specs.PendingSends.{GoesTo, PassesBy}
use Rattle.iox2_pubsub.specs.Slices.{HoldsSlices, IsSliced, HasUnwrittenCells, HasValues, SampleHasValues}
use Rattle.iox2_pubsub.specs.declared.blocked_send.BlockedSend.{BlockedSend as BlockedHandle}
use Rattle.iox2_pubsub.specs.declared.publisher.Publisher.{Publisher as PublisherHandle}
use Rattle.iox2_pubsub.specs.Sample.{Sample}
use Rattle.iox2_pubsub.specs.declared.subscriber.Subscriber.{Subscriber as SubscriberHandle}
use Rattle.iox2_laws.proofs.MailboxLemmas.{contains_borrowed}

module _ {T U : Type 0} where
  -- the settings stay, and the ports, but for the item
  pub record PortsRemainBut (spent : Item) (s s' : State T U) : Type 0 where
    pub config : s'.config ≡ s.config
    pub publishers : (p : ℕ) (x : Publisher) → s.publishers p ≡ Some x → IsOtherPublisher spent p
        → (x' : Publisher) × (s'.publishers p ≡ Some x')
    pub subscribers : (q : ℕ) (y : Subscriber) → s.subscribers q ≡ Some y → y.is_open ≡ true → IsOtherSubscriber spent q
        → (y' : Subscriber) × (s'.subscribers q ≡ Some y') × (y'.is_open ≡ true)

  -- where all ports remain
  pub ports-remain : (spent : Item) (s s' : State T U) → Remain s s' → PortsRemainBut spent s s'
  ports-remain spent s s' remain = record {
    config = remain.config;
    publishers = λ p x here _. let there = remain.publishers p x here in (there.0, there.1);
    subscribers = λ q y here is_open _. remain.subscribers q y here is_open;
  }

  -- the loans stay, but for the item
  abbrev pub LoansStayBut : Item → (s s' : State T U) → Type 0
  LoansStayBut spent s s' = (n : ℕ) (l : Loan T U) → s.loans n ≡ Some l → IsOtherLoan spent n → s'.loans n ≡ Some l

  -- what is borrowed stays so, but for the item
  abbrev pub SamplesStayBut : Item → (s s' : State T U) → Type 0
  SamplesStayBut spent s s' = (p q n : ℕ) → is_borrowed n (s.mailboxes p q) ≡ true → IsOtherSample spent q n
      → is_borrowed n (s'.mailboxes p q) ≡ true

module _ {T U F G : Type 0} where
  -- each port keeps its boxes, but for the item, and each message its slot
  pub record BoxesStayBut (spent : Item) (old new : Kept T U F G) : Type 0 where
    pub at : (key : Key) → IsPublisherKey old key → IsOtherPublisher spent key.port
        → boxes_of key.port (new.boxes).publishers ≡ boxes_of key.port (old.boxes).publishers
    pub subscribers : (key : Key) → IsSubscriberKey old key → IsOtherSubscriber spent key.port
        → boxes_of key.port (new.boxes).subscribers ≡ boxes_of key.port (old.boxes).subscribers
    pub placed : (n key slot : ℕ) → IsPlaced old n key slot → IsPlaced new n key slot

  -- where the call changes no box
  pub same-boxes : {boxes : DomainBoxes F G} {spent : Item} (f g : Fields T U) (kept : Kept T U F G)
      → keeping boxes f ≡ kept → IsDomain f → KeepsPlaces f g → BoxesStayBut spent kept (keeping boxes g)
  same-boxes {boxes} f g kept view sound places = record {
    at = λ key live other. ap (λ (k : Kept T U F G). boxes_of key.port (k.boxes).publishers) view;
    subscribers = λ key live other. ap (λ (k : Kept T U F G). boxes_of key.port (k.boxes).subscribers) view;
    placed = placed-after boxes f g kept view sound places;
  }

  -- where it changes no box but those of the publisher that is the item
  pub other-boxes : {boxes : DomainBoxes F G} {publishers : List (PortBox F G)} {spent : Item} (f g : Fields T U)
      (kept : Kept T U F G) → keeping boxes f ≡ kept → IsDomain f → KeepsPlaces f g
      → ((p : ℕ) → IsOtherPublisher spent p → boxes_of p publishers ≡ boxes_of p boxes.publishers)
      → BoxesStayBut spent kept (keeping (record boxes { publishers = publishers }) g)
  other-boxes {boxes} {publishers} f g kept view sound places same = record {
    at = λ key live other. same key.port other ∙ ap (λ (k : Kept T U F G). boxes_of key.port (k.boxes).publishers) view;
    subscribers = λ key live other. ap (λ (k : Kept T U F G). boxes_of key.port (k.boxes).subscribers) view;
    placed = placed-after (record boxes { publishers = publishers }) f g kept view sound places;
  }

  -- where it changes no box but those of the subscriber that is the item
  pub other-subscriber-boxes : {boxes : DomainBoxes F G} {subscribers : List (PortBox F G)} {spent : Item}
      (f g : Fields T U) (kept : Kept T U F G) → keeping boxes f ≡ kept → IsDomain f → KeepsPlaces f g
      → ((q : ℕ) → IsOtherSubscriber spent q → boxes_of q subscribers ≡ boxes_of q boxes.subscribers)
      → BoxesStayBut spent kept (keeping (record boxes { subscribers = subscribers }) g)
  other-subscriber-boxes {boxes} {subscribers} f g kept view sound places same = record {
    at = λ key live other. ap (λ (k : Kept T U F G). boxes_of key.port (k.boxes).publishers) view;
    subscribers =
        λ key live other. same key.port other ∙ ap (λ (k : Kept T U F G). boxes_of key.port (k.boxes).subscribers) view;
    placed = placed-after (record boxes { subscribers = subscribers }) f g kept view sound places;
  }

  -- where it changes the boxes of no publisher that is there
  pub live-boxes : {boxes : DomainBoxes F G} {publishers : List (PortBox F G)} {spent : Item} (f g : Fields T U)
      (kept : Kept T U F G) → keeping boxes f ≡ kept → IsDomain f → KeepsPlaces f g
      → ((key : Key) → IsPublisherKey kept key → IsOtherPublisher spent key.port
      → boxes_of key.port publishers ≡ boxes_of key.port boxes.publishers)
      → BoxesStayBut spent kept (keeping (record boxes { publishers = publishers }) g)
  live-boxes {boxes} {publishers} f g kept view sound places same = record {
    at = λ key live other. same key live other ∙ ap (λ (k : Kept T U F G). boxes_of key.port (k.boxes).publishers) view;
    subscribers = λ key live other. ap (λ (k : Kept T U F G). boxes_of key.port (k.boxes).subscribers) view;
    placed = placed-after (record boxes { publishers = publishers }) f g kept view sound places;
  }

  -- where it changes the boxes of no subscriber that is there
  pub live-subscriber-boxes : {boxes : DomainBoxes F G} {subscribers : List (PortBox F G)} {spent : Item}
      (f g : Fields T U) (kept : Kept T U F G) → keeping boxes f ≡ kept → IsDomain f → KeepsPlaces f g
      → ((key : Key) → IsSubscriberKey kept key → IsOtherSubscriber spent key.port
      → boxes_of key.port subscribers ≡ boxes_of key.port boxes.subscribers)
      → BoxesStayBut spent kept (keeping (record boxes { subscribers = subscribers }) g)
  live-subscriber-boxes {boxes} {subscribers} f g kept view sound places same = record {
    at = λ key live other. ap (λ (k : Kept T U F G). boxes_of key.port (k.boxes).publishers) view;
    subscribers =
        λ key live other. same key live other ∙ ap (λ (k : Kept T U F G). boxes_of key.port (k.boxes).subscribers) view;
    placed = placed-after (record boxes { subscribers = subscribers }) f g kept view sound places;
  }

  -- a port with the same boxes has the same one of each kind
  pub handlers-stay : (spent : Item) (old new : Kept T U F G) → BoxesStayBut spent old new → (key : Key)
      → IsPublisherKey old key → IsOtherPublisher spent key.port → handler_box new key.port ≡ handler_box old key.port
  unfolding handler_box
  handlers-stay spent old new stay key live other =
      ap (option_and_then (λ (b : PortBoxes F G). b.backpressure)) (stay.at key live other)

  pub degradations-stay : (spent : Item) (old new : Kept T U F G) → BoxesStayBut spent old new → (key : Key)
      → IsPublisherKey old key → IsOtherPublisher spent key.port
      → degradation_box new key.port ≡ degradation_box old key.port
  unfolding degradation_box
  degradations-stay spent old new stay key live other =
      ap (option_and_then (λ (b : PortBoxes F G). b.degradation)) (stay.at key live other)

  pub subscribers-stay : (spent : Item) (old new : Kept T U F G) → BoxesStayBut spent old new → (key : Key)
      → IsSubscriberKey old key → IsOtherSubscriber spent key.port
      → subscriber_box new key.port ≡ subscriber_box old key.port
  unfolding subscriber_box
  subscribers-stay spent old new stay key live other =
      ap (option_and_then (λ (b : PortBoxes F G). b.degradation)) (stay.subscribers key live other)

  -- a publisher has the boxes that are kept under its id
  pub box-is : (boxes : DomainBoxes F G) (f : Fields T U) (p : ℕ) (box : Option F) → box_of p boxes.publishers ≡ box
      → handler_box (keeping boxes f) p ≡ box
  unfolding handler_box
  box-is boxes f p box is = is

  pub degradation-box-is : (boxes : DomainBoxes F G) (f : Fields T U) (p : ℕ) (box : Option G)
      → degradation_box_of p boxes.publishers ≡ box → degradation_box (keeping boxes f) p ≡ box
  unfolding degradation_box
  degradation-box-is boxes f p box is = is

  -- and a subscriber those under its
  pub subscriber-box-is : (boxes : DomainBoxes F G) (f : Fields T U) (q : ℕ) (box : Option G)
      → degradation_box_of q boxes.subscribers ≡ box → subscriber_box (keeping boxes f) q ≡ box
  unfolding subscriber_box
  subscriber-box-is boxes f q box is = is

-- the publisher's blocked send is the item
abbrev pub IsSpared : Item → (publisher : ℕ) → Type 0
IsSpared spent publisher = IsOtherBlocked spent publisher → ⊥

-- whether it is, where it is that of a publisher
other-or-same : (p q : ℕ) → (p ≢ q) ⊎ (p ≢ q → ⊥)
other-or-same p q = elim (cases_eq p q) [ inl same ↦ inr (λ away. away same) | inr away ↦ inl away ]

-- whether it is
other-or-spared : (spent : Item) (p : ℕ) → IsOtherBlocked spent p ⊎ IsSpared spent p
other-or-spared No_item p = inl tt
other-or-spared (A_publisher id) p = inl tt
other-or-spared (A_subscriber id) p = inl tt
other-or-spared (A_loan n) p = inl tt
other-or-spared (A_sample q n) p = inl tt
other-or-spared (A_blocked_send q) p = other-or-same p q
other-or-spared (A_sent_loan n q true) p = other-or-same p q
other-or-spared (A_sent_loan n q false) p = inl tt
other-or-spared (A_sent_copy q true) p = other-or-same p q
other-or-spared (A_sent_copy q false) p = inl tt
other-or-spared (Both first second) p = elim (other-or-spared first p) [
  | inr spared ↦ inr (λ both. spared both.0)
  | inl other ↦
      elim (other-or-spared second p) [ inr spared ↦ inr (λ both. spared both.1) | inl another ↦ inl (other, another) ]
]

module _ {T U : Type 0} where
  -- Of a publisher whose blocked send is the item: where no handler fails a send of it, none has failed that one then;
  -- and it isn't one that never waits.
  pub record SparedPublishers {F G : Type 0} (spent : Item) (old : Kept T U F G) (s s' : State T U) : Type 0 where
    pub unfailed : (p : ℕ) → IsSpared spent p → p < s.next_port → IsMild s p → HasNotFailed s p → HasNotFailed s' p
    pub waits : (key : Key) → IsSpared spent key.port → NeverWaits old key → ⊥

  -- where the item is no blocked send
  pub none-spared : {F G : Type 0} (spent : Item) (old : Kept T U F G) (s s' : State T U)
      → ((p : ℕ) → IsOtherBlocked spent p) → SparedPublishers spent old s s'
  none-spared spent old s s' other = record {
    unfailed = λ p spared low mild none. absurd (spared (other p));
    waits = λ key spared never. absurd (spared (other key.port));
  }

module _ {T U F G : Type 0} (kept : Kept T U F G) (it : BlockedHandle) (whose : SubscriberHandle) where
  -- the words of blocked sends, part by part
  pub pending-parts : (values : List T) → IsPending kept it whose values
      → IsBlockedKey kept (blocked_key it) × GoesTo (state_of kept) it.loan.publisher it.loan.number whose.id
      × SampleHasValues kept (blocked_key it) values
  unfolding IsPending
  pending-parts values has = has

  pub pending-from : (values : List T) → IsBlockedKey kept (blocked_key it)
      × GoesTo (state_of kept) it.loan.publisher it.loan.number whose.id × SampleHasValues kept (blocked_key it) values
      → IsPending kept it whose values
  unfolding IsPending
  pending-from values has = has

  pub passed-parts : HasPassed kept it whose
      → IsBlockedKey kept (blocked_key it) × PassesBy (state_of kept) it.loan.publisher it.loan.number whose.id
  unfolding HasPassed
  passed-parts has = has

  pub passed-from : IsBlockedKey kept (blocked_key it)
      × PassesBy (state_of kept) it.loan.publisher it.loan.number whose.id → HasPassed kept it whose
  unfolding HasPassed
  passed-from has = has

-- a domain that shows some state is consistent
pub consistent-shown : {T U F G : Type 0} (kept : Kept T U F G) (m : Messages T U) (s : State T U) → Shows kept m s
    → IsConsistent kept
unfolding IsConsistent
consistent-shown kept m s shown = (m, subst (Shows kept m) shown.state shown)

module _ {T U F G : Type 0} (spent : Item) (old new : Kept T U F G)
    (remain : PortsRemainBut spent (state_of old) (state_of new))
    (loans : LoansStayBut spent (state_of old) (state_of new))
    (samples : SamplesStayBut spent (state_of old) (state_of new))
    (waits : Waits (IsSpared spent) (state_of old) (state_of new))
    (goes-on : SparedPublishers spent old (state_of old) (state_of new))
    (known : (p : ℕ) (x : Publisher) → (state_of old).publishers p ≡ Some x → p < (state_of old).next_port)
    (entries : (n p : ℕ) (entry : Entry T U) → entries_of old n ≡ Some entry → IsHeldMessage (state_of new) p n
    → entries_of new n ≡ Some entry)
    (consistent-now : IsConsistent new) (boxes : BoxesStayBut spent old new) where
  service : (id : ℕ) → id ≡ (old.config).service_id → id ≡ (new.config).service_id
  service id ours = ours ∙ sym (ap (λ (c : ServiceConfig). c.service_id) remain.config)

  single : IsSingleValued old → IsSingleValued new
  unfolding IsSingleValued
  single was = (
    ap (λ (c : ServiceConfig). c.variant) remain.config ∙ was.0,
    ap (λ (c : ServiceConfig). c.units_per_element) remain.config ∙ was.1,
  )

  holds : HoldsSlices old → HoldsSlices new
  unfolding HoldsSlices
  holds was = ap is_single_valued remain.config ∙ was

  slices : IsSliced old → IsSliced new
  slices was = record {
    holds = holds was.holds;
    lists_cells = ap (λ (c : ServiceConfig). c.lists_cells) remain.config ∙ was.lists_cells;
  }

  publisher : (key : Key) → IsPublisherKey old key → IsOtherPublisher spent key.port → IsPublisherKey new key
  unfolding IsPublisherKey
  publisher key live other =
      (live.0, service key.service_id live.1, remain.publishers key.port (live.2).0 (live.2).1 other)

  subscriber : (key : Key) → IsSubscriberKey old key → IsOtherSubscriber spent key.port → IsSubscriberKey new key
  unfolding IsSubscriberKey
  subscriber key live other =
      (live.0, service key.service_id live.1, remain.subscribers key.port (live.2).0 (live.2).1 (live.2).2 other)

  loan : (key : Key) → IsLoanKey old key → IsOtherLoan spent key.message → IsLoanKey new key
  unfolding IsLoanKey
  loan key live other =
      (service key.service_id live.0, ((live.1).0, loans key.message (live.1).0 (live.1).1 other, (live.1).2))

  mark : (n : ℕ) (is_written : Bool) → HasMark old n is_written → IsOtherLoan spent n → HasMark new n is_written
  unfolding HasMark
  mark n is_written has other = (has.0, loans n has.0 has.1 other, has.2)

  sample : (key : Key) → IsSampleKey old key → IsOtherSample spent key.port key.message → IsSampleKey new key
  unfolding IsSampleKey
  sample key live other =
      (service key.service_id live.0, ((live.1).0, samples (live.1).0 key.port key.message (live.1).1 other))

  origin : (it : Sample) → IsFromOrigin old it → IsOtherSample spent it.sample.subscriber it.sample.number
      → IsFromOrigin new it
  unfolding IsFromOrigin
  origin it from other = samples it.origin it.sample.subscriber it.sample.number from other

  loan-values : (n : ℕ) (values : List T) → HasValues old n values → IsOtherLoan spent n → HasValues new n values
  unfolding HasValues
  loan-values n values has other = (has.0, loans n has.0 has.1 other, has.2)

  loan-cells : (n : ℕ) (cells : List (Option T)) → HasUnwrittenCells old n cells → IsOtherLoan spent n
      → HasUnwrittenCells new n cells
  unfolding HasUnwrittenCells
  loan-cells n cells has other = (has.0, loans n has.0 has.1 other, has.2)

  loan-header : (key : Key) (header : Header) → LoanHasHeader old key header → IsOtherLoan spent key.message
      → LoanHasHeader new key header
  unfolding LoanHasHeader
  loan-header key header has other = (has.0, loans key.message has.0 has.1 other, has.2)

  loan-user-header : (key : Key) (header : U) → LoanHasUserHeader old key header → IsOtherLoan spent key.message
      → LoanHasUserHeader new key header
  unfolding LoanHasUserHeader
  loan-user-header key header has other = (has.0, loans key.message has.0 has.1 other, has.2)

  -- the entry of a sample
  sample-entry : (key : Key) → IsSampleKey old key → IsOtherSample spent key.port key.message → (entry : Entry T U)
      → entries_of old key.message ≡ Some entry
      → entries_of new key.message ≡ Some entry
  unfolding IsSampleKey
  sample-entry key live other entry at = let has = sample key live other in
      entries key.message (has.1).0 entry at
      (In_mailbox key.port (contains_borrowed ((state_of new).mailboxes (has.1).0 key.port) key.message (has.1).1))

  sample-header : (key : Key) (header : Header) → IsSampleKey old key → SampleHasHeader old key header
      → IsOtherSample spent key.port key.message → SampleHasHeader new key header
  unfolding SampleHasHeader
  sample-header key header live has other = (has.0, sample-entry key live other has.0 has.1, has.2)

  sample-user-header : (key : Key) (header : U) → IsSampleKey old key → SampleHasUserHeader old key header
      → IsOtherSample spent key.port key.message
      → SampleHasUserHeader new key header
  unfolding SampleHasUserHeader
  sample-user-header key header live has other = (has.0, sample-entry key live other has.0 has.1, has.2)

  sample-values : (key : Key) (values : List T) → IsSampleKey old key → SampleHasValues old key values
      → IsOtherSample spent key.port key.message → SampleHasValues new key values
  unfolding SampleHasValues
  sample-values key values live has other = (has.0, sample-entry key live other has.0 has.1, has.2)

  -- ---- who waits

  more : (p : ℕ) → p < (state_of old).next_port → p < (state_of new).next_port
  more p low = let rises = waits.next_port in omega (arith, low, rises)

  -- what was so of a port, if it was there, is so of what it became
  still-so : {R : Type 0} (before after : ℕ → Option R) (Was : R → R → Type 0) (id : ℕ) (P : R → Type 0)
      → ((x' : R) → id < (state_of old).next_port → after id ≡ Some x' → (x : R) × (before id ≡ Some x) × Was x x')
      → ((x x' : R) → Was x x' → P x → P x')
      → (id < (state_of old).next_port) × ((x : R) → before id ≡ Some x → P x)
      → (id < (state_of new).next_port) × ((x' : R) → after id ≡ Some x' → P x')
  still-so before after Was id P came still was = (
    more id was.0,
    λ x' at.
        let it = came x' was.0 at in
        still it.0 x' it.2 (was.1 it.0 it.1),
  )

  placed : (it : PublisherHandle) → IsPlacedPublisher old it → IsPlacedPublisher new it
  unfolding IsPlacedPublisher
  placed it = still-so (state_of old).publishers (state_of new).publishers (IsAsItWas (IsSpared spent) it.id) it.id
      (λ x. x.place ≡ it.place) (waits.publishers it.id) (λ x x' kept stood. kept.place ∙ stood)

  placed-subscriber : (it : SubscriberHandle) → IsPlacedSubscriber old it → IsPlacedSubscriber new it
  unfolding IsPlacedSubscriber
  placed-subscriber it = still-so (state_of old).subscribers (state_of new).subscribers StandsAsItDid it.id
      (λ y. y.place ≡ it.place) (waits.subscribers it.id) (λ y y' kept stood. kept.place ∙ stood)

  buffered : (it : SubscriberHandle) → HasItsBuffer old it → HasItsBuffer new it
  unfolding HasItsBuffer
  buffered it = still-so (state_of old).subscribers (state_of new).subscribers StandsAsItDid it.id
      (λ y. y.buffer ≡ it.buffer_size) (waits.subscribers it.id) (λ y y' kept had. kept.buffer ∙ had)

  free : (key : Key) → IsUnblocked old key → IsOtherBlocked spent key.port → IsUnblocked new key
  unfolding IsUnblocked
  free key was other =
      still-so (state_of old).publishers (state_of new).publishers (IsAsItWas (IsSpared spent) key.port) key.port
      (λ x. x.blocked ≡ None) (waits.publishers key.port)
      (λ x x' kept none. kept.blocked (λ spared. spared other) ∙ none) was

  -- the settings don't change
  overflows : (old.config).enable_safe_overflow ≡ true → (new.config).enable_safe_overflow ≡ true
  overflows over = ap (λ (c : ServiceConfig). c.enable_safe_overflow) remain.config ∙ over

  passes : (key : Key) → PassesFull old key → PassesFull new key
  unfolding PassesFull
  passes key was = (
    more key.port was.0,
    elim was.1 [
      | inl over ↦ inl (overflows over)
      | inr discards ↦ inr (λ x' at.
          let before = waits.publishers key.port x' was.0 at in
          (λ i. may_wait (before.2.strategy i) (before.2.handler i)) ∙ discards before.0 before.1)
    ],
  )

  unfailed : (publisher : ℕ) → NeverFails old publisher → NeverFails new publisher
  unfolding NeverFails
  unfailed publisher was = (
    more publisher was.0,
    elim was.1 [
      | inl over ↦ inl (overflows over)
      | inr mild ↦ inr (λ x' at.
          let before = waits.publishers publisher x' was.0 at in
          ap may_fail before.2.handler ∙ mild before.0 before.1)
    ],
    elim (other-or-spared spent publisher) [
      | inr spared ↦ goes-on.unfailed publisher spared was.0 was.1 was.2
      | inl other ↦ λ x' b at has.
          let before = waits.publishers publisher x' was.0 at in
          was.2 before.0 b before.1 (sym (before.2.blocked (λ spared. spared other)) ∙ has)
    ],
    λ x' at.
        let before = waits.publishers publisher x' was.0 at in
        ap may_fail_update before.2.degradation ∙ was.3 before.0 before.1,
  )

  -- a publisher waits as it did
  waiting-still : (p : ℕ) (x : Publisher) → (state_of old).publishers p ≡ Some x → IsOtherPublisher spent p
      → IsOtherBlocked spent p
      → (x' : Publisher) × ((state_of new).publishers p ≡ Some x') × (x'.blocked ≡ x.blocked)
  waiting-still p x at other apart =
      let there = remain.publishers p x at other in
      let before = waits.publishers p there.0 (known p x at) there.1 in
      let both : Some before.0 ≡ Some x = sym before.1 ∙ at in
      let same : before.0 ≡ x = cc in
      (there.0, there.1, before.2.blocked (λ spared. spared apart) ∙ ap (λ (z : Publisher). z.blocked) same)

  blocked : (key : Key) → IsBlockedKey old key → IsOtherPublisher spent key.port → IsOtherBlocked spent key.port
      → IsBlockedKey new key
  unfolding IsBlockedKey
  blocked key live other apart =
      let has = live.1 in
      let now = waiting-still key.port has.0 has.2 other apart in
      (service key.service_id live.0, (now.0, has.1, now.1, now.2 ∙ has.3, has.4))

  goes-to : (p n q : ℕ) → GoesTo (state_of old) p n q → IsOtherPublisher spent p → IsOtherBlocked spent p
      → GoesTo (state_of new) p n q
  goes-to p n q has other apart =
      let now = waiting-still p has.publisher has.stands other apart in
      record {
        publisher = now.0;
        blocked = has.blocked;
        stands = now.1;
        waits = now.2 ∙ has.waits;
        message = has.message;
        channel = has.channel;
        some = has.some;
        ahead = has.ahead;
      }

  passes-by : (p n q : ℕ) → PassesBy (state_of old) p n q → IsOtherPublisher spent p → IsOtherBlocked spent p
      → PassesBy (state_of new) p n q
  passes-by p n q has other apart =
      let now = waiting-still p has.publisher has.stands other apart in
      record {
        publisher = now.0;
        blocked = has.blocked;
        stands = now.1;
        waits = now.2 ∙ has.waits;
        message = has.message;
        channel = has.channel;
        some = has.some;
        past = has.past;
      }

  -- the message of a blocked send reads as it did
  blocked-values : (it : BlockedHandle) (q : ℕ) (values : List T)
      → GoesTo (state_of new) it.loan.publisher it.loan.number q → SampleHasValues old (blocked_key it) values
      → SampleHasValues new (blocked_key it) values
  unfolding SampleHasValues
  blocked-values it q values goes has = (
    has.0,
    entries it.loan.number it.loan.publisher has.0 has.1
        (In_blocked_send goes.publisher goes.blocked goes.stands goes.waits goes.message),
    has.2,
  )

  stays-but : StaysBut spent old new
  stays-but = record {
    settings = remain.config;
    consistent = λ was. consistent-now;
    single_valued = single;
    holds_slices = holds;
    sliced = slices;
    publishers = publisher;
    boxes = handlers-stay spent old new boxes;
    degradation_boxes = degradations-stay spent old new boxes;
    subscriber_boxes = subscribers-stay spent old new boxes;
    subscribers = subscriber;
    placed_publishers = placed;
    placed_subscribers = placed-subscriber;
    buffers = buffered;
    loans = loan;
    unwritten_loans = λ it live other. record {
      live = loan (unwritten_key it) live.live other;
      unwritten = mark it.loan.number _ live.unwritten other;
      placed = boxes.placed it.loan.number it.loan.book it.loan.slot live.placed;
    };
    written_loans = λ it live other. record {
      live = loan (written_key it) live.live other;
      written = mark it.loan.number _ live.written other;
      placed = boxes.placed it.loan.number it.loan.book it.loan.slot live.placed;
    };
    samples = sample;
    live_samples = λ it live other. record {
      there = sample (sample_key it) live.there other;
      placed = boxes.placed it.sample.number it.sample.book it.sample.slot live.placed;
    };
    placed_messages = boxes.placed;
    origins = origin;
    unblocked = free;
    never_wait = λ key was. record {
      passes = passes key was.passes;
      unblocked = elim (other-or-spared spent key.port) [
        | inl other ↦ free key was.unblocked other
        | inr spared ↦ absurd (goes-on.waits key spared was)
      ];
      never_fails = unfailed key.port was.never_fails;
    };
    never_fail = unfailed;
    blocked_sends = blocked;
    pending = λ it whose values was other apart.
        let has = pending-parts old it whose values was in
        let goes = goes-to it.loan.publisher it.loan.number whose.id has.1 other apart in
        pending-from new it whose values
        (blocked (blocked_key it) has.0 other apart, goes, blocked-values it whose.id values goes has.2);
    passed = λ it whose was other apart.
        let has = passed-parts old it whose was in
        passed-from new it whose (
          blocked (blocked_key it) has.0 other apart,
          passes-by it.loan.publisher it.loan.number whose.id has.1 other apart,
        );
    loan_cells = loan-cells;
    loan_payloads = loan-values;
    loan_headers = λ key header live. loan-header key header;
    loan_user_headers = λ key header live. loan-user-header key header;
    sample_payloads = sample-values;
    sample_headers = sample-header;
    sample_user_headers = sample-user-header;
  }

-- seen from a state that is shown
pub stays-between : {T U F G : Type 0} (spent : Item) (old new : Kept T U F G) (m m' : Messages T U) (s s' : State T U)
    → Shows old m s → Shows new m' s'
    → ((n : ℕ) (entry : Entry T U) → m n ≡ Some entry → m' n ≡ Some entry) → PortsRemainBut spent s s'
    → LoansStayBut spent s s' → SamplesStayBut spent s s' → Waits (IsSpared spent) s s'
    → SparedPublishers spent old s s'
    → BoxesStayBut spent old new → StaysBut spent old new
stays-between {T} {U} spent old new m m' s s' shown shown' sent remain loans samples waits goes-on boxes =
    stays-but spent old new (between (PortsRemainBut spent) remain) (between (LoansStayBut spent) loans)
    (between (SamplesStayBut spent) samples)
    (between (Waits (IsSpared spent)) waits) (between (SparedPublishers spent old) goes-on)
    (λ p x at. ((subst IsWellFormed shown.state shown.well_formed).publishers p x at).is_known) entries
    (consistent-shown new m' s' shown') boxes
  where
    entries : (n p : ℕ) (entry : Entry T U) → entries_of old n ≡ Some entry → IsHeldMessage (state_of new) p n
        → entries_of new n ≡ Some entry
    entries n p entry at held =
        let kept = shown'.complete p n held in
        let both : Some kept.0 ≡ Some entry =
        sym (shown'.entries n kept.0 kept.1) ∙ sent n entry (shown.entries n entry at) in
        kept.1 ∙ both

    between : (P : State T U → State T U → Type 0) → P s s' → P (state_of old) (state_of new)
    between P h = subst (λ (t : State T U). P t (state_of new)) shown.state (subst (P s) shown'.state h)

-- what is made is new where it is another than each port, loan and sample that was there, and than each publisher that
-- had no blocked send, or one
pub new-in : {T U F G : Type 0} (start : Kept T U F G) (made : Item)
    → ((key : Key) → IsPublisherKey start key → IsOtherPublisher made key.port)
    → ((key : Key) → IsSubscriberKey start key → IsOtherSubscriber made key.port)
    → ((n : ℕ) (l : Loan T U) → (state_of start).loans n ≡ Some l → IsOtherLoan made n)
    → ((p q n : ℕ) → is_borrowed n ((state_of start).mailboxes p q) ≡ true → IsOtherSample made q n)
    → ((key : Key) → IsUnblocked start key → IsOtherPublisher made key.port × IsOtherBlocked made key.port)
    → ((key : Key) → IsBlockedKey start key → IsOtherPublisher made key.port × IsOtherBlocked made key.port)
    → IsNewIn start made
new-in {T} {U} start made publishers subscribers loans samples unblocked blocked = record {
  publishers = publishers;
  subscribers = subscribers;
  loans = out;
  unwritten_loans = λ it live. out (unwritten_key it) live.live;
  written_loans = λ it live. out (written_key it) live.live;
  samples = λ key live. let has = (sample-parts start key live).1 in samples has.0 key.port key.message has.1;
  live_samples = λ it live. let has = (sample-parts start (sample_key it) live.there).1 in
      samples has.0 it.sample.subscriber it.sample.number has.1;
  origins = λ it from. samples it.origin it.sample.subscriber it.sample.number (origin-parts start it from);
  cells = λ n cells has. let it = cells-parts start n cells has in loans n it.0 it.1;
  payloads = λ n values has. let it = values-parts start n values has in loans n it.0 it.1;
  unblocked = unblocked;
  blocked_sends = blocked;
  pending = λ it whose values has. blocked (blocked_key it) (pending-parts start it whose values has).0;
  passed = λ it whose has. blocked (blocked_key it) (passed-parts start it whose has).0;
}
  where
    out : (key : Key) → IsLoanKey start key → IsOtherLoan made key.message
    out key live = let has = (loan-parts start key live).1 in loans key.message has.0 has.1

-- nothing is always new
pub nothing-is-new : {T U F G : Type 0} (start : Kept T U F G) → IsNewIn start No_item
nothing-is-new start = new-in start No_item (λ key live. tt) (λ key live. tt) (λ n l out. tt) (λ p q n borrowed. tt)
    (λ key free. (tt, tt)) (λ key live. (tt, tt))

-- nothing changed
pub unchanged-stays : {T U F G : Type 0} (spent : Item) (kept : Kept T U F G) → StaysBut spent kept kept
unchanged-stays spent kept = record {
  settings = refl;
  consistent = λ was. was;
  single_valued = λ was. was;
  holds_slices = λ was. was;
  sliced = λ was. was;
  publishers = λ key live other. live;
  boxes = λ key live other. refl;
  degradation_boxes = λ key live other. refl;
  subscriber_boxes = λ key live other. refl;
  subscribers = λ key live other. live;
  placed_publishers = λ it was. was;
  placed_subscribers = λ it was. was;
  buffers = λ it was. was;
  loans = λ key live other. live;
  unwritten_loans = λ it live other. live;
  written_loans = λ it live other. live;
  samples = λ key live other. live;
  live_samples = λ it live other. live;
  placed_messages = λ number book slot was. was;
  origins = λ it from other. from;
  unblocked = λ key free other. free;
  never_wait = λ key was. was;
  never_fail = λ publisher was. was;
  blocked_sends = λ key live other alike. live;
  pending = λ it whose values has other alike. has;
  passed = λ it whose has other alike. has;
  loan_cells = λ n cells has other. has;
  loan_payloads = λ n values has other. has;
  loan_headers = λ key header live has other. has;
  loan_user_headers = λ key header live has other. has;
  sample_payloads = λ key values live has other. has;
  sample_headers = λ key header live has other. has;
  sample_user_headers = λ key header live has other. has;
}

pub stays-itself : {T U F G : Type 0} (kept : Kept T U F G) → Stays kept kept
stays-itself kept = unchanged-stays No_item kept
