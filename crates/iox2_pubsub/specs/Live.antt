-- What handles name in a domain, and what of it a call leaves.
use Rattle.std.specs.Prelude.{ℕ, Bool, [], ◌∷◌, ◌≡◌, ◌≢◌, ◌⊎◌, true, false, IsTrue, List, length, map, drop}
use Rattle.std.specs.Prelude.{slice_index_or, suc, ◌++◌, ◌≤◌, ◌<◌, ◌+◌}
use Rattle.std.specs.declared.option.Option.{Option}
use Rattle.std.specs.Bool.{MatchBool}
use Rattle.std.specs.List.{AllByRecursion}
use Rattle.std.specs.declared.option.Option.TheVariants.{None, Some}
use Rattle.iox2_machine.specs.machine.ChannelCalls.{connection_place}
use Rattle.iox2_machine.specs.machine.Limits.{refusal_limit}
use Rattle.iox2_machine.specs.machine.Mailbox.{is_borrowed}
use Rattle.iox2_machine.specs.machine.Records.{BlockedSend as MachineBlocked, Entry, Loan}
use Rattle.iox2_machine.specs.machine.Records.{Publisher as MachinePublisher, Subscriber as MachineSubscriber}
use Rattle.iox2_machine.specs.machine.State.{Messages}
use Rattle.iox2_machine.specs.machine.SingleCalls.{HoldsPublisher, HoldsSubscriber, HoldsLoan, HoldsSample}
use Rattle.iox2_machine.specs.machine.SingleCalls.{HoldsBlocked}
use Rattle.iox2_machine.specs.declared.header.Header.{Header}
use Rattle.iox2_machine.specs.declared.key.Key.{Key}
use Rattle.iox2_machine.specs.declared.service_config.TypeVariant.TheVariants.{FixedSize}
use Rattle.iox2_machine.specs.machine.Waiting.{waiting_from}
use Rattle.iox2_domain.specs.Boxes.{box_of, degradation_box_of}
use Rattle.iox2_domain.specs.Handlers.{may_fail, may_fail_update}
use Rattle.iox2_domain.specs.Kept.{Kept, KeptBook, KeptMessage, is_numbered, state_of, entries_of}
use Rattle.iox2_domain.specs.LoanCalls.{HasLoanHeader, HasLoanUserHeader}
use Rattle.iox2_domain.specs.Shows.{Shows}
use Rattle.iox2_pubsub.specs.ConnectedPorts.{Awaits, Connects}
use Rattle.iox2_pubsub.specs.DepartedPorts.{HasDepartedRoom}
use Rattle.iox2_pubsub.specs.Handlers.{may_wait}
use Rattle.iox2_pubsub.specs.Payloads.{payload_of, payloads_for}
use Rattle.iox2_pubsub.specs.PendingSends.{GoesTo, PassesBy}
use Rattle.iox2_pubsub.specs.Slices.{HoldsSlices, IsSliced, HasUnwrittenCells, HasValues, SampleHasValues}
use Rattle.iox2_pubsub.specs.declared.blocked_send.BlockedSend.{BlockedSend}
use Rattle.iox2_pubsub.specs.declared.publisher.Publisher.{Publisher}
use Rattle.iox2_pubsub.specs.declared.subscriber.Subscriber.{Subscriber}
use Rattle.iox2_pubsub.specs.declared.sample_mut_uninit.SampleMutUninit.{SampleMutUninit}
use Rattle.iox2_pubsub.specs.declared.sample_mut.SampleMut.{SampleMut}
use Rattle.iox2_pubsub.specs.Sample.{Sample}

-- ---- keys

-- The key of a publisher's handle.
abbrev pub publisher_key : Publisher → Key
publisher_key publisher = record { service_id = publisher.service_id; port = publisher.id; message = 0 }

-- The key of a subscriber's handle.
abbrev pub subscriber_key : Subscriber → Key
subscriber_key subscriber = record { service_id = subscriber.service_id; port = subscriber.id; message = 0 }

-- The key of a loan that isn't written.
abbrev pub unwritten_key : SampleMutUninit → Key
unwritten_key loan = record { service_id = loan.service_id; port = loan.loan.publisher; message = loan.loan.number }

-- The key of a written loan.
abbrev pub written_key : SampleMut → Key
written_key loan = record { service_id = loan.service_id; port = loan.loan.publisher; message = loan.loan.number }

-- The key of a blocked send.
abbrev pub blocked_key : BlockedSend → Key
blocked_key blocked =
    record { service_id = blocked.service_id; port = blocked.loan.publisher; message = blocked.loan.number }

-- The key of a sample.
abbrev pub sample_key : Sample → Key
sample_key sample =
    record { service_id = sample.service_id; port = sample.sample.subscriber; message = sample.sample.number }

-- The key of the publisher that lent the loan with this key.
abbrev pub lender_key : Key → Key
lender_key loan = record { service_id = loan.service_id; port = loan.port; message = 0 }

-- ---- what is live

module _ {T U F G : Type 0} (domain : Kept T U F G) where
  -- In the domain a message is a single value of one unit.
  unfoldable pub IsSingleValued : Type 0
  IsSingleValued = ((domain.config).variant ≡ FixedSize) × ((domain.config).units_per_element ≡ 1)

  -- The domain's parts agree, as those of each domain do that is changed by calls alone: it shows a state, with some
  -- messages. So what waits for a subscriber in all is what waits for it of each publisher.
  unfoldable pub IsConsistent : Type 0
  IsConsistent = (messages : Messages T U) × Shows domain messages (state_of domain)

  -- The service overflows: each open subscriber takes a message, even if its buffer is full.
  abbrev pub Overflows : Type 0
  Overflows = (domain.config).enable_safe_overflow ≡ true

  -- No handler of the publisher with this id fails a send, at a full buffer or if it can't make a connection, nor has
  -- it failed the one that is blocked: none is asked of full buffers in a service that overflows, and a publisher that
  -- was closed has none.
  unfoldable pub NeverFails : (publisher : ℕ) → Type 0
  NeverFails publisher =
      (publisher < (state_of domain).next_port)
      × (Overflows ⊎ ((x : MachinePublisher) → (state_of domain).publishers publisher ≡ Some x
      → may_fail x.backpressure_handler ≡ false))
      × ((x : MachinePublisher) (b : MachineBlocked) → (state_of domain).publishers publisher ≡ Some x
      → x.blocked ≡ Some b → b.has_failed ≡ false)
      × ((x : MachinePublisher) → (state_of domain).publishers publisher ≡ Some x
      → may_fail_update x.degradation_handler ≡ false)

  module _ (key : Key) where
    -- The key names a publisher of the domain that wasn't closed.
    unfoldable pub IsPublisherKey : Type 0
    IsPublisherKey =
        (key.message ≡ 0) × (key.service_id ≡ (domain.config).service_id) × HoldsPublisher (state_of domain) key.port

    -- The key names a subscriber of the domain that wasn't closed.
    unfoldable pub IsSubscriberKey : Type 0
    IsSubscriberKey =
        (key.message ≡ 0) × (key.service_id ≡ (domain.config).service_id) × HoldsSubscriber (state_of domain) key.port

    -- The key names a loan of the domain that is out.
    unfoldable pub IsLoanKey : Type 0
    IsLoanKey = (key.service_id ≡ (domain.config).service_id) × HoldsLoan (state_of domain) key.port key.message

    -- No send of the publisher with the key's port is blocked. One that was closed has none.
    unfoldable pub IsUnblocked : Type 0
    IsUnblocked = (key.port < (state_of domain).next_port)
        × ((x : MachinePublisher) → (state_of domain).publishers key.port ≡ Some x → x.blocked ≡ None)

    -- The publisher with the key's port goes past full receivers: the service overflows, or by its strategy and its
    -- handler the publisher, if it's there, waits for none.
    unfoldable pub PassesFull : Type 0
    PassesFull =
        (key.port < (state_of domain).next_port)
        × (Overflows ⊎ ((x : MachinePublisher) → (state_of domain).publishers key.port ≡ Some x
        → may_wait x.backpressure_strategy x.backpressure_handler ≡ false))

    -- No send of the publisher with the key's port is ever blocked, nor does a handler fail one.
    pub record NeverWaits : Type 0 where
      pub passes : PassesFull
      pub unblocked : IsUnblocked
      pub never_fails : NeverFails key.port

    -- The key names a send of the domain that is blocked.
    unfoldable pub IsBlockedKey : Type 0
    IsBlockedKey = (key.service_id ≡ (domain.config).service_id) × HoldsBlocked (state_of domain) key.port key.message

    -- The key names a message that a subscriber of the domain has borrowed.
    unfoldable pub IsSampleKey : Type 0
    IsSampleKey = (key.service_id ≡ (domain.config).service_id) × HoldsSample (state_of domain) key.port key.message

  -- The loan with this number is out, and it is written or not.
  unfoldable pub HasMark : (number : ℕ) → (is_written : Bool) → Type 0
  HasMark number is_written =
      (loan : Loan T U) × ((state_of domain).loans number ≡ Some loan) × (loan.is_written ≡ is_written)

  -- A message with this number lies in that slot of the book at that key.
  pub record MessageLiesAt (key slot number : ℕ) : Type 0 where
    pub book : KeptBook T U
    pub message : KeptMessage T U
    pub has_book : slice_index_or domain.books key None ≡ Some book
    pub has_message : slice_index_or book.slots slot None ≡ Some message
    pub numbered : is_numbered number message ≡ true

  -- The message with this number, if it is there still, lies in that slot of the book at that key.
  unfoldable pub IsPlaced : (number key slot : ℕ) → Type 0
  IsPlaced number key slot =
      (number < domain.next_message) × ((k s : ℕ) → MessageLiesAt k s number → (k ≡ key) × (s ≡ slot))

  -- The publisher, if it wasn't closed, stands at the place that its handle says.
  unfoldable pub IsPlacedPublisher : Publisher → Type 0
  IsPlacedPublisher publisher =
      (publisher.id < (state_of domain).next_port)
      × ((x : MachinePublisher) → (state_of domain).publishers publisher.id ≡ Some x → x.place ≡ publisher.place)

  -- The subscriber, if it is there still, stands at the place that its handle says.
  unfoldable pub IsPlacedSubscriber : Subscriber → Type 0
  IsPlacedSubscriber subscriber =
      (subscriber.id < (state_of domain).next_port)
      × ((y : MachineSubscriber) → (state_of domain).subscribers subscriber.id ≡ Some y → y.place ≡ subscriber.place)

  -- The subscriber, if it is there still, has the buffer that its handle says.
  unfoldable pub HasItsBuffer : Subscriber → Type 0
  HasItsBuffer subscriber =
      (subscriber.id < (state_of domain).next_port)
      × ((y : MachineSubscriber) → (state_of domain).subscribers subscriber.id ≡ Some y
      → y.buffer ≡ subscriber.buffer_size)

  -- The publisher is one of the domain's and stands where its handle says, wasn't closed, and no send of it is blocked.
  pub record IsReadyPublisher (publisher : Publisher) : Type 0 where
    pub there : IsPublisherKey (publisher_key publisher)
    pub placed : IsPlacedPublisher publisher
    pub unblocked : IsUnblocked (publisher_key publisher)

  -- The publisher is one of the domain's, wasn't closed, and no send of it is ever blocked, or failed by a handler.
  pub record IsLivePublisher (publisher : Publisher) : Type 0 where
    pub ready : IsReadyPublisher publisher
    pub never_waits : NeverWaits (publisher_key publisher)

  -- The subscriber is one of the domain's and stands where its handle says, and wasn't closed.
  pub record IsLiveSubscriber (subscriber : Subscriber) : Type 0 where
    pub there : IsSubscriberKey (subscriber_key subscriber)
    pub placed : IsPlacedSubscriber subscriber

  -- The loan is one of the domain's that is out, lies where its handle says, and isn't written.
  pub record IsUnwritten (loan : SampleMutUninit) : Type 0 where
    pub live : IsLoanKey (unwritten_key loan)
    pub unwritten : HasMark loan.loan.number false
    pub placed : IsPlaced loan.loan.number loan.loan.book loan.loan.slot

  -- The loan is one of the domain's that is out, lies where its handle says, and is written.
  pub record IsWritten (loan : SampleMut) : Type 0 where
    pub live : IsLoanKey (written_key loan)
    pub written : HasMark loan.loan.number true
    pub placed : IsPlaced loan.loan.number loan.loan.book loan.loan.slot

  -- The loan is one of the domain's that is out and isn't written, and no send of its publisher is ever blocked, or
  -- failed by a handler.
  pub record NeverWaitsUnwritten (loan : SampleMutUninit) : Type 0 where
    pub out : IsUnwritten loan
    pub never_waits : NeverWaits (unwritten_key loan)

  -- The loan is one of the domain's that is out and is written, and no send of its publisher is ever blocked, or failed
  -- by a handler.
  pub record IsWrittenLoan (loan : SampleMut) : Type 0 where
    pub out : IsWritten loan
    pub never_waits : NeverWaits (written_key loan)

  -- The send is one of the domain's that is blocked.
  abbrev pub IsBlockedSend : BlockedSend → Type 0
  IsBlockedSend blocked = IsBlockedKey (blocked_key blocked)

  -- The publisher that lent the loan with this key wasn't closed.
  abbrev pub HasLender : Key → Type 0
  HasLender loan = IsPublisherKey (lender_key loan)

  -- The sample's message is borrowed by its subscriber, and lies where the sample says.
  pub record IsLiveSample (sample : Sample) : Type 0 where
    pub there : IsSampleKey (sample_key sample)
    pub placed : IsPlaced sample.sample.number sample.sample.book sample.sample.slot

  -- The sample's message is borrowed from the publisher that the sample names as its origin.
  unfoldable pub IsFromOrigin : Sample → Type 0
  IsFromOrigin sample =
      IsTrue (is_borrowed sample.sample.number ((state_of domain).mailboxes sample.origin sample.sample.subscriber))

  -- The boxed handler that the publisher with this id has for full buffers, if it has one.
  unfoldable pub handler_box : (publisher : ℕ) → Option F
  handler_box publisher = box_of publisher (domain.boxes).publishers

  -- The boxed handler that the publisher with this id has for connections that are refused, if it has one.
  unfoldable pub degradation_box : (publisher : ℕ) → Option G
  degradation_box publisher = degradation_box_of publisher (domain.boxes).publishers

  -- That of the subscriber with this id.
  unfoldable pub subscriber_box : (subscriber : ℕ) → Option G
  subscriber_box subscriber = degradation_box_of subscriber (domain.boxes).subscribers

  -- ---- what is read: a single value is a slice of one

  -- The unwritten loan has this in its cell.
  abbrev pub UnwrittenReads : SampleMutUninit → Option T → Type 0
  UnwrittenReads loan cell = HasUnwrittenCells domain loan.loan.number (cell ∷ [])

  -- The written loan's payload is this value.
  abbrev pub LoanReads : SampleMut → T → Type 0
  LoanReads loan value = HasValues domain loan.loan.number (value ∷ [])

  -- The sample's payload is this value.
  abbrev pub SampleReads : Sample → T → Type 0
  SampleReads sample value = SampleHasValues domain (sample_key sample) (value ∷ [])

  module _ (key : Key) where
    -- The loan with this key has this header.
    unfoldable pub LoanHasHeader : Header → Type 0
    LoanHasHeader header = HasLoanHeader (state_of domain) key.message header

    -- The loan with this key has this user header.
    unfoldable pub LoanHasUserHeader : U → Type 0
    LoanHasUserHeader header = HasLoanUserHeader (state_of domain) key.message header

    -- The sample with this key has this header.
    unfoldable pub SampleHasHeader : Header → Type 0
    SampleHasHeader header =
        (entry : Entry T U) × (entries_of domain key.message ≡ Some entry) × (entry.header ≡ header)

    -- The sample with this key has this user header.
    unfoldable pub SampleHasUserHeader : U → Type 0
    SampleHasUserHeader header =
        (entry : Entry T U) × (entries_of domain key.message ≡ Some entry) × (entry.user_header ≡ header)

  -- ---- to whom a blocked send goes yet

  -- The blocked send has a message with these values, and has the subscriber before it: it waits for this one, or comes
  -- to it later.
  unfoldable pub IsPending : BlockedSend → Subscriber → List T → Type 0
  IsPending blocked subscriber values =
      IsBlockedSend blocked × GoesTo (state_of domain) blocked.loan.publisher blocked.loan.number subscriber.id
      × SampleHasValues domain (blocked_key blocked) values

  -- The blocked send comes to the subscriber no more: this took the message, or was passed over, or came later.
  unfoldable pub HasPassed : BlockedSend → Subscriber → Type 0
  HasPassed blocked subscriber =
      IsBlockedSend blocked × PassesBy (state_of domain) blocked.loan.publisher blocked.loan.number subscriber.id

  -- ---- what waits

  -- The payloads of the messages that wait for the subscriber, each the list of its values: by publisher, and of each
  -- the oldest first. They wait in the connections that it has, and if it is due for an update, in those too that this
  -- makes.
  unfoldable pub payloads : Subscriber → List (List T)
  payloads subscriber = payloads_for (state_of domain) (entries_of domain) subscriber.id

  -- The payloads of the messages of one publisher, which has this id, that wait for the subscriber, the oldest first.
  unfoldable pub payloads_from : (publisher : ℕ) → Subscriber → List (List T)
  payloads_from publisher subscriber =
      map (payload_of (entries_of domain)) (waiting_from (state_of domain) publisher subscriber.id)

  -- How many messages wait for the subscriber.
  abbrev pub waiting : Subscriber → ℕ
  waiting subscriber = length (payloads subscriber)

  -- The subscriber is live, and no publisher came or was closed since its last update.
  unfoldable pub IsUpToDate : Subscriber → Type 0
  IsUpToDate subscriber = (y : MachineSubscriber) × ((state_of domain).subscribers subscriber.id ≡ Some y)
      × (y.is_open ≡ true) × (y.is_due ≡ false)

  -- That many more publishers can be closed, and the subscriber still has room for the connections with all that were:
  -- as many as its domain keeps for a subscriber.
  unfoldable pub HasRoomFor : Subscriber → (closes : ℕ) → Type 0
  HasRoomFor subscriber closes = HasDepartedRoom (state_of domain) subscriber.id closes

  -- The subscriber's next update loses nothing that waits for it: it has nothing to update, or it has room for the
  -- connections with all publishers that were closed.
  abbrev pub KeepsAll : Subscriber → Type 0
  KeepsAll subscriber = IsUpToDate subscriber ⊎ HasRoomFor subscriber 0

  -- The publisher with this id has its connection with the subscriber, which is open, and has it too or makes its end
  -- in its next update. Their channel isn't closed. So what the publisher sends waits for the subscriber.
  unfoldable pub IsConnected : (publisher : ℕ) → Subscriber → Type 0
  IsConnected publisher subscriber = Connects (state_of domain) publisher subscriber.id

  -- The publisher with this id is due for an update, and connected with the subscriber by it, if memory isn't refused.
  unfoldable pub IsAwaited : (publisher : ℕ) → Subscriber → Type 0
  IsAwaited publisher subscriber = Awaits (state_of domain) publisher subscriber.id

  -- The connection of the publisher with this id to the subscriber stands at this place.
  unfoldable pub IsAtConnection : (publisher connection : ℕ) → Subscriber → Type 0
  IsAtConnection publisher connection subscriber =
      connection_place (state_of domain) publisher subscriber.id ≡ Some connection

-- Each subscriber has room for as many closed publishers as it had.
abbrev pub RoomStays : {T U F G : Type 0} → (old new : Kept T U F G) → Type 0
RoomStays old new =
    (subscriber : Subscriber) (closes : ℕ) → HasRoomFor old subscriber closes → HasRoomFor new subscriber closes

-- Each subscriber that was up to date is, each publisher that was connected with a subscriber is, and each subscriber
-- has room for as many closed publishers as it had.
pub record UpToDateStay {T U F G : Type 0} (old new : Kept T U F G) : Type 0 where
  pub subscribers : (subscriber : Subscriber) → IsUpToDate old subscriber → IsUpToDate new subscriber
  pub connections : (publisher : ℕ) (subscriber : Subscriber) → IsConnected old publisher subscriber
      → IsConnected new publisher subscriber
  pub room : (subscriber : Subscriber) (closes : ℕ) → HasRoomFor old subscriber closes
      → HasRoomFor new subscriber closes

-- For each subscriber the same messages wait as before, and so from each publisher.
pub record WaitingStays {T U F G : Type 0} (old new : Kept T U F G) : Type 0 where
  pub all : payloads new ≡ payloads old
  pub from : payloads_from new ≡ payloads_from old

-- All that waits for the subscriber is of the publisher with this id, and these are its payloads, the oldest first.
pub record AllFrom {T U F G : Type 0} (domain : Kept T U F G) (publisher : ℕ) (subscriber : Subscriber)
    (values : List (List T)) : Type 0 where
  pub all : payloads domain subscriber ≡ values
  pub from : payloads_from domain publisher subscriber ≡ values

-- From each other publisher the same messages wait as before, for each subscriber.
abbrev pub OthersSend : {T U F G : Type 0} → (publisher : ℕ) → (old new : Kept T U F G) → Type 0
OthersSend publisher old new = (other : ℕ) → other ≢ publisher → payloads_from new other ≡ payloads_from old other

-- Each publisher that was connected with a subscriber is.
abbrev pub ConnectionsStay : {T U F G : Type 0} → (old new : Kept T U F G) → Type 0
ConnectionsStay old new = (publisher : ℕ) (subscriber : Subscriber) → IsConnected old publisher subscriber
    → IsConnected new publisher subscriber

-- Each connection could be allocated meanwhile, as the domain's count says while it isn't at its end.
abbrev pub NoneRefused : {T U F G : Type 0} → (old new : Kept T U F G) → Type 0
NoneRefused old new = ((new.warnings).refused_connections ≡ (old.warnings).refused_connections)
    × ((old.warnings).refused_connections < refusal_limit)

-- An update of the publisher with this id connects it with each subscriber that awaits it, if each connection can be
-- allocated, and who awaits another publisher still does.
pub record Connected {T U F G : Type 0} (publisher : ℕ) (old new : Kept T U F G) : Type 0 where
  pub awaited : (subscriber : Subscriber) → IsAwaited old publisher subscriber → NoneRefused old new
      → IsConnected new publisher subscriber
  pub others : (other : ℕ) (subscriber : Subscriber) → other ≢ publisher → IsAwaited old other subscriber
      → IsAwaited new other subscriber

-- As many messages of the publisher wait for the subscriber as its buffer takes, which is at least one.
pub record IsFull {T U F G : Type 0} (domain : Kept T U F G) (publisher : ℕ) (subscriber : Subscriber) : Type 0 where
  pub some : 0 < length (payloads_from domain publisher subscriber)
  pub full : HasItsBuffer domain subscriber
      → subscriber.buffer_size ≤ length (payloads_from domain publisher subscriber)

-- The publisher's message with these values waits for the subscriber, behind all others of that publisher. If the
-- buffer was full, the oldest of them went in its place, with overflow; without overflow this message did, and they
-- wait still.
unfoldable pub IsServed : {T U F G : Type 0} → (old new : Kept T U F G) → (publisher : ℕ) → Subscriber → List T → Type 0
IsServed old new publisher subscriber values =
    ((payloads_from new publisher subscriber ≡ payloads_from old publisher subscriber ++ values ∷ [])
    × (waiting new subscriber ≡ suc (waiting old subscriber)))
    ⊎ (IsFull old publisher subscriber
    × MatchBool (old.config).enable_safe_overflow
    (payloads_from new publisher subscriber ≡ drop 1 (payloads_from old publisher subscriber) ++ values ∷ [])
    (payloads_from new publisher subscriber ≡ payloads_from old publisher subscriber)
    × (waiting new subscriber ≡ waiting old subscriber))

-- For the subscriber the same messages wait as before, in all and from each publisher.
pub record WaitsAsBefore {T U F G : Type 0} (old new : Kept T U F G) (subscriber : Subscriber) : Type 0 where
  pub all : payloads new subscriber ≡ payloads old subscriber
  pub from : (publisher : ℕ) → payloads_from new publisher subscriber ≡ payloads_from old publisher subscriber

-- The send that is blocked now has served the subscriber with these values and comes to it no more; or nothing moved
-- for the subscriber, and the send has it before it.
abbrev pub IsServedOrPending : {T U F G : Type 0} → (old new : Kept T U F G) → BlockedSend → Subscriber → List T
    → Type 0
IsServedOrPending old new blocked subscriber values =
    (IsServed old new blocked.loan.publisher subscriber values × HasPassed new blocked subscriber)
    ⊎ (WaitsAsBefore old new subscriber × IsPending new blocked subscriber values)

-- Each other subscriber that was up to date is.
abbrev pub OthersStayUpToDate : {T U F G : Type 0} → Subscriber → (old new : Kept T U F G) → Type 0
OthersStayUpToDate subscriber old new =
    (other : Subscriber) → other.id ≢ subscriber.id → IsUpToDate old other → IsUpToDate new other

-- For every other subscriber the same messages wait as before.
abbrev pub OthersWait : {T U F G : Type 0} → Subscriber → (old new : Kept T U F G) → Type 0
OthersWait subscriber old new =
    (other : Subscriber) → other.id ≢ subscriber.id → payloads new other ≡ payloads old other

-- The sample is the oldest that waited from its publisher, and the others of that publisher wait still.
abbrev pub TakesOldest : {T U F G : Type 0} → Subscriber → Sample → (old new : Kept T U F G) → Type 0
TakesOldest {T} subscriber sample old new =
    (values : List T) × (payloads_from old sample.origin subscriber ≡ values
    ∷ payloads_from new sample.origin subscriber) × SampleHasValues new (sample_key sample) values

-- If all that waits for the subscriber is of one publisher, the sample is the first of it.
abbrev pub TakesFirst : {T U F G : Type 0} → Subscriber → Sample → (old new : Kept T U F G) → Type 0
TakesFirst {T} subscriber sample old new =
    (publisher : ℕ) (payload : List T) (later : List (List T)) → AllFrom old publisher subscriber (payload ∷ later)
    → SampleHasValues new (sample_key sample) payload

-- And what waited behind the first waits still.
abbrev pub LeavesLater : {T U F G : Type 0} → Subscriber → (old new : Kept T U F G) → Type 0
LeavesLater {T} subscriber old new = (publisher : ℕ) (payload : List T) (later : List (List T))
    → AllFrom old publisher subscriber (payload ∷ later) → AllFrom new publisher subscriber later

-- From each other publisher than the sample's the same messages wait for the subscriber as before.
abbrev pub LeavesOthers : {T U F G : Type 0} → Subscriber → Sample → (old new : Kept T U F G) → Type 0
LeavesOthers subscriber sample old new = (publisher : ℕ) → publisher ≢ sample.origin
    → payloads_from new publisher subscriber ≡ payloads_from old publisher subscriber

-- At most that many messages are added to what waits for each subscriber.
abbrev pub AddAtMost : {T U F G : Type 0} → (more : ℕ) → (old new : Kept T U F G) → Type 0
AddAtMost more old new = (subscriber : Subscriber) → waiting new subscriber ≤ waiting old subscriber + more

-- Each of the payloads has these values.
unfoldable pub AreAllSlices : {T : Type 0} → List (List T) → List T → Type 0
AreAllSlices payloads values = AllByRecursion (λ payload. payload ≡ values) payloads

-- Each of the payloads is this one value.
abbrev pub AreAll : {T : Type 0} → List (List T) → T → Type 0
AreAll payloads value = AreAllSlices payloads (value ∷ [])

-- ---- what a call spends, and what stays

-- What a call spends or makes: nothing, a port, a loan, a sample or the blocked send of a publisher, or two of these.
-- What a send spends or makes is one item too. The blocked send belongs to it only if the send is blocked.
pub data Item : Type 0 where
  No_item : Item
  A_publisher : (id : ℕ) → Item
  A_subscriber : (id : ℕ) → Item
  A_loan : (number : ℕ) → Item
  A_sample : (subscriber number : ℕ) → Item
  A_blocked_send : (publisher : ℕ) → Item
  A_sent_loan : (number publisher : ℕ) → (is_blocked : Bool) → Item
  A_sent_copy : (publisher : ℕ) → (is_blocked : Bool) → Item
  Both : (first second : Item) → Item

-- The publisher of this handle.
abbrev pub publisher_port : Publisher → Item
publisher_port publisher = A_publisher publisher.id

-- The subscriber of this handle.
abbrev pub subscriber_port : Subscriber → Item
subscriber_port subscriber = A_subscriber subscriber.id

-- The publishers with these ids.
abbrev pub publisher_ports : List ℕ → Item
publisher_ports [] = No_item
publisher_ports (id ∷ ids) = Both (A_publisher id) (publisher_ports ids)

-- The subscribers with these ids.
abbrev pub subscriber_ports : List ℕ → Item
subscriber_ports [] = No_item
subscriber_ports (id ∷ ids) = Both (A_subscriber id) (subscriber_ports ids)

-- The loan of this handle.
abbrev pub unwritten_loan : SampleMutUninit → Item
unwritten_loan loan = A_loan loan.loan.number

-- The loan of this handle.
abbrev pub written_loan : SampleMut → Item
written_loan loan = A_loan loan.loan.number

-- The blocked send of this handle.
abbrev pub blocked_item : BlockedSend → Item
blocked_item blocked = A_blocked_send blocked.loan.publisher

-- The sample of this handle.
abbrev pub received_sample : Sample → Item
received_sample sample = A_sample sample.sample.subscriber sample.sample.number

-- The publisher with this id is another than the item.
abbrev pub IsOtherPublisher : Item → (id : ℕ) → Type 0
IsOtherPublisher (A_publisher spent) id = id ≢ spent
IsOtherPublisher (Both first second) id = IsOtherPublisher first id × IsOtherPublisher second id
IsOtherPublisher _ id = Unit {0}

-- The subscriber with this id is another than the item.
abbrev pub IsOtherSubscriber : Item → (id : ℕ) → Type 0
IsOtherSubscriber (A_subscriber spent) id = id ≢ spent
IsOtherSubscriber (Both first second) id = IsOtherSubscriber first id × IsOtherSubscriber second id
IsOtherSubscriber _ id = Unit {0}

-- The loan with this number is another than the item.
abbrev pub IsOtherLoan : Item → (number : ℕ) → Type 0
IsOtherLoan (A_loan spent) number = number ≢ spent
IsOtherLoan (A_sent_loan spent publisher is_blocked) number = number ≢ spent
IsOtherLoan (Both first second) number = IsOtherLoan first number × IsOtherLoan second number
IsOtherLoan _ number = Unit {0}

-- The subscriber's sample with this number is another than the item.
abbrev pub IsOtherSample : Item → (subscriber number : ℕ) → Type 0
IsOtherSample (A_sample whose spent) subscriber number = (subscriber ≢ whose) ⊎ (number ≢ spent)
IsOtherSample (Both first second) subscriber number =
    IsOtherSample first subscriber number × IsOtherSample second subscriber number
IsOtherSample _ subscriber number = Unit {0}

-- The publisher with this id is none whose blocked send is the item.
abbrev pub IsOtherBlocked : Item → (publisher : ℕ) → Type 0
IsOtherBlocked (A_blocked_send spent) publisher = publisher ≢ spent
IsOtherBlocked (A_sent_loan number spent true) publisher = publisher ≢ spent
IsOtherBlocked (A_sent_copy spent true) publisher = publisher ≢ spent
IsOtherBlocked (Both first second) publisher = IsOtherBlocked first publisher × IsOtherBlocked second publisher
IsOtherBlocked _ publisher = Unit {0}

-- The second item is another than the first, and has no part of it.
abbrev pub AreApart : (first second : Item) → Type 0
AreApart first No_item = Unit {0}
AreApart first (A_publisher id) = IsOtherPublisher first id
AreApart first (A_subscriber id) = IsOtherSubscriber first id
AreApart first (A_loan number) = IsOtherLoan first number
AreApart first (A_sample subscriber number) = IsOtherSample first subscriber number
AreApart first (A_blocked_send publisher) = IsOtherBlocked first publisher
AreApart first (A_sent_loan number publisher true) = IsOtherLoan first number × IsOtherBlocked first publisher
AreApart first (A_sent_loan number publisher false) = IsOtherLoan first number
AreApart first (A_sent_copy publisher true) = IsOtherBlocked first publisher
AreApart first (A_sent_copy publisher false) = Unit {0}
AreApart first (Both second third) = AreApart first second × AreApart first third

module _ {T U F G : Type 0} where
  -- The settings stay, and each port, loan, sample and blocked send that was live is live and reads as it did, except
  -- the item that was consumed. A publisher without a blocked send stays so, and so does one whose sends are never
  -- blocked, and one that no handler fails. A blocked send has the same subscribers before it. Each port keeps its
  -- boxes and its place, and each subscriber its buffer.
  pub record StaysBut (spent : Item) (old new : Kept T U F G) : Type 0 where
    pub settings : new.config ≡ old.config
    pub consistent : IsConsistent old → IsConsistent new
    pub single_valued : IsSingleValued old → IsSingleValued new
    pub holds_slices : HoldsSlices old → HoldsSlices new
    pub sliced : IsSliced old → IsSliced new
    pub publishers : (key : Key) → IsPublisherKey old key → IsOtherPublisher spent key.port → IsPublisherKey new key
    pub boxes : (key : Key) → IsPublisherKey old key → IsOtherPublisher spent key.port
        → handler_box new key.port ≡ handler_box old key.port
    pub degradation_boxes : (key : Key) → IsPublisherKey old key → IsOtherPublisher spent key.port
        → degradation_box new key.port ≡ degradation_box old key.port
    pub subscriber_boxes : (key : Key) → IsSubscriberKey old key → IsOtherSubscriber spent key.port
        → subscriber_box new key.port ≡ subscriber_box old key.port
    pub subscribers : (key : Key) → IsSubscriberKey old key → IsOtherSubscriber spent key.port → IsSubscriberKey new key
    pub placed_publishers : (publisher : Publisher) → IsPlacedPublisher old publisher → IsPlacedPublisher new publisher
    pub placed_subscribers : (subscriber : Subscriber) → IsPlacedSubscriber old subscriber
        → IsPlacedSubscriber new subscriber
    pub buffers : (subscriber : Subscriber) → HasItsBuffer old subscriber → HasItsBuffer new subscriber
    pub loans : (key : Key) → IsLoanKey old key → IsOtherLoan spent key.message → IsLoanKey new key
    pub unwritten_loans : (loan : SampleMutUninit) → IsUnwritten old loan → IsOtherLoan spent loan.loan.number
        → IsUnwritten new loan
    pub written_loans : (loan : SampleMut) → IsWritten old loan → IsOtherLoan spent loan.loan.number
        → IsWritten new loan
    pub samples : (key : Key) → IsSampleKey old key → IsOtherSample spent key.port key.message → IsSampleKey new key
    pub live_samples : (sample : Sample) → IsLiveSample old sample
        → IsOtherSample spent sample.sample.subscriber sample.sample.number → IsLiveSample new sample
    pub placed_messages : (number book slot : ℕ) → IsPlaced old number book slot → IsPlaced new number book slot
    pub origins : (sample : Sample) → IsFromOrigin old sample
        → IsOtherSample spent sample.sample.subscriber sample.sample.number → IsFromOrigin new sample
    pub unblocked : (key : Key) → IsUnblocked old key → IsOtherBlocked spent key.port → IsUnblocked new key
    pub never_wait : (key : Key) → NeverWaits old key → NeverWaits new key
    pub never_fail : (publisher : ℕ) → NeverFails old publisher → NeverFails new publisher
    pub blocked_sends : (key : Key) → IsBlockedKey old key → IsOtherPublisher spent key.port
        → IsOtherBlocked spent key.port → IsBlockedKey new key
    pub pending : (blocked : BlockedSend) (subscriber : Subscriber) (values : List T)
        → IsPending old blocked subscriber values
        → IsOtherPublisher spent blocked.loan.publisher → IsOtherBlocked spent blocked.loan.publisher
        → IsPending new blocked subscriber values
    pub passed : (blocked : BlockedSend) (subscriber : Subscriber) → HasPassed old blocked subscriber
        → IsOtherPublisher spent blocked.loan.publisher → IsOtherBlocked spent blocked.loan.publisher
        → HasPassed new blocked subscriber
    pub loan_cells : (number : ℕ) (cells : List (Option T)) → HasUnwrittenCells old number cells
        → IsOtherLoan spent number → HasUnwrittenCells new number cells
    pub loan_payloads : (number : ℕ) (values : List T) → HasValues old number values → IsOtherLoan spent number
        → HasValues new number values
    pub loan_headers : (key : Key) (header : Header) → IsLoanKey old key → LoanHasHeader old key header
        → IsOtherLoan spent key.message → LoanHasHeader new key header
    pub loan_user_headers : (key : Key) (header : U) → IsLoanKey old key → LoanHasUserHeader old key header
        → IsOtherLoan spent key.message → LoanHasUserHeader new key header
    pub sample_payloads : (key : Key) (values : List T) → IsSampleKey old key → SampleHasValues old key values
        → IsOtherSample spent key.port key.message → SampleHasValues new key values
    pub sample_headers : (key : Key) (header : Header) → IsSampleKey old key → SampleHasHeader old key header
        → IsOtherSample spent key.port key.message → SampleHasHeader new key header
    pub sample_user_headers : (key : Key) (header : U) → IsSampleKey old key → SampleHasUserHeader old key header
        → IsOtherSample spent key.port key.message → SampleHasUserHeader new key header

  -- The settings stay, and each port, loan, sample and blocked send that was live is live and reads as it did.
  abbrev pub Stays : (old new : Kept T U F G) → Type 0
  Stays old new = StaysBut No_item old new

  -- The item is none of the ports, loans, samples and blocked sends that were live, nor a publisher that waited for
  -- nobody, nor a send of one.
  pub record IsNewIn (old : Kept T U F G) (made : Item) : Type 0 where
    pub publishers : (key : Key) → IsPublisherKey old key → IsOtherPublisher made key.port
    pub subscribers : (key : Key) → IsSubscriberKey old key → IsOtherSubscriber made key.port
    pub loans : (key : Key) → IsLoanKey old key → IsOtherLoan made key.message
    pub unwritten_loans : (loan : SampleMutUninit) → IsUnwritten old loan → IsOtherLoan made loan.loan.number
    pub written_loans : (loan : SampleMut) → IsWritten old loan → IsOtherLoan made loan.loan.number
    pub samples : (key : Key) → IsSampleKey old key → IsOtherSample made key.port key.message
    pub live_samples : (sample : Sample) → IsLiveSample old sample
        → IsOtherSample made sample.sample.subscriber sample.sample.number
    pub origins : (sample : Sample) → IsFromOrigin old sample
        → IsOtherSample made sample.sample.subscriber sample.sample.number
    pub cells : (number : ℕ) (cells : List (Option T)) → HasUnwrittenCells old number cells → IsOtherLoan made number
    pub payloads : (number : ℕ) (values : List T) → HasValues old number values → IsOtherLoan made number
    pub unblocked : (key : Key) → IsUnblocked old key → IsOtherPublisher made key.port × IsOtherBlocked made key.port
    pub blocked_sends : (key : Key) → IsBlockedKey old key
        → IsOtherPublisher made key.port × IsOtherBlocked made key.port
    pub pending : (blocked : BlockedSend) (subscriber : Subscriber) (values : List T)
        → IsPending old blocked subscriber values
        → IsOtherPublisher made blocked.loan.publisher × IsOtherBlocked made blocked.loan.publisher
    pub passed : (blocked : BlockedSend) (subscriber : Subscriber) → HasPassed old blocked subscriber
        → IsOtherPublisher made blocked.loan.publisher × IsOtherBlocked made blocked.loan.publisher
