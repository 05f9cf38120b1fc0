-- What it takes for a handle to be live, part by part.
use Rattle.std.proofs.Common.{List, [], ◌∷◌, Option, ◌≡◌, ◌⊎◌, inl, inr, ℕ, ◌<◌, Bool, true, false, is_some, refl, ap}
use Rattle.std.proofs.Common.{sym, subst, ◌∙◌, None, Some}
use Rattle.std.specs.Option.{option_map_or}
use Rattle.std.specs.Prelude.{◌↔◌}
use Rattle.iox2_machine.specs.machine.Mailbox.{is_borrowed}
use Rattle.iox2_machine.specs.machine.Records.{Entry, Loan, Publisher, Subscriber, BlockedSend}
use Rattle.iox2_machine.specs.machine.SingleCalls.{HoldsPublisher, HoldsSubscriber, HoldsLoan, HoldsSample}
use Rattle.iox2_machine.specs.machine.SingleCalls.{HoldsBlocked}
use Rattle.iox2_machine.specs.machine.State.{is_blocked}
use Rattle.iox2_machine.specs.declared.header.Header.{Header}
use Rattle.iox2_machine.specs.declared.key.Key.{Key}
use Rattle.iox2_machine.specs.declared.service_config.TypeVariant.TheVariants.{FixedSize}
use Rattle.iox2_domain.specs.Handlers.{may_fail, may_fail_update}
use Rattle.iox2_domain.specs.Kept.{Kept, state_of, entries_of}
use Rattle.iox2_domain.specs.LoanCalls.{HasCell, HasLoanHeader, HasLoanUserHeader, HoldsUnwritten, HoldsWritten}
use Rattle.iox2_pubsub.proofs.UnfailedSends.{HasNotFailed}
use Rattle.iox2_pubsub.specs.Handlers.{may_wait}
use Rattle.iox2_pubsub.specs.Live.{IsPlaced, IsSingleValued, HasItsBuffer, IsPlacedPublisher, IsPlacedSubscriber}
use Rattle.iox2_pubsub.specs.Live.{IsPublisherKey, IsSubscriberKey, IsLoanKey, IsSampleKey, IsBlockedKey, IsUnblocked}
use Rattle.iox2_pubsub.specs.Live.{Overflows, PassesFull, NeverFails, NeverWaits, HasMark, IsFromOrigin, UnwrittenReads}
use Rattle.iox2_pubsub.specs.Live.{LoanReads, SampleReads, LoanHasHeader, LoanHasUserHeader, SampleHasHeader}
use Rattle.iox2_pubsub.specs.Live.{SampleHasUserHeader, IsUnwritten, IsWritten}
use Rattle.iox2_pubsub.specs.Slices.{HasUnwrittenCells, HasValues, SampleHasValues}
use Rattle.iox2_pubsub.specs.declared.publisher.Publisher.{Publisher as PublisherHandle}
use Rattle.iox2_pubsub.specs.declared.subscriber.Subscriber.{Subscriber as SubscriberHandle}
use Rattle.iox2_pubsub.specs.Sample.{Sample}
use Rattle.iox2_pubsub.specs.declared.sample_mut.SampleMut.{SampleMut}
use Rattle.iox2_pubsub.specs.declared.sample_mut_uninit.SampleMutUninit.{SampleMutUninit}

module _ {T U F G : Type 0} (kept : Kept T U F G) where
  -- the key has this service's number
  abbrev IsOfService : Key → Type 0
  IsOfService key = key.service_id ≡ (kept.config).service_id

  pub single-parts : IsSingleValued kept → ((kept.config).variant ≡ FixedSize) × ((kept.config).units_per_element ≡ 1)
  unfolding IsSingleValued
  single-parts single = single

  pub single-valued : (kept.config).variant ≡ FixedSize → (kept.config).units_per_element ≡ 1 → IsSingleValued kept
  unfolding IsSingleValued
  single-valued variant units = (variant, units)

  module _ (key : Key) where
    pub publisher-parts : IsPublisherKey kept key
        → (key.message ≡ 0) × IsOfService key × HoldsPublisher (state_of kept) key.port
    unfolding IsPublisherKey
    publisher-parts live = live

    pub publisher-live : (key.message ≡ 0) × IsOfService key × HoldsPublisher (state_of kept) key.port
        → IsPublisherKey kept key
    unfolding IsPublisherKey
    publisher-live parts = parts

    pub subscriber-parts : IsSubscriberKey kept key
        → (key.message ≡ 0) × IsOfService key × HoldsSubscriber (state_of kept) key.port
    unfolding IsSubscriberKey
    subscriber-parts live = live

    pub subscriber-live : (key.message ≡ 0) × IsOfService key × HoldsSubscriber (state_of kept) key.port
        → IsSubscriberKey kept key
    unfolding IsSubscriberKey
    subscriber-live parts = parts

    pub loan-parts : IsLoanKey kept key → IsOfService key × HoldsLoan (state_of kept) key.port key.message
    unfolding IsLoanKey
    loan-parts live = live

    pub loan-live : IsOfService key × HoldsLoan (state_of kept) key.port key.message → IsLoanKey kept key
    unfolding IsLoanKey
    loan-live parts = parts

    pub blocked-parts : IsBlockedKey kept key → IsOfService key × HoldsBlocked (state_of kept) key.port key.message
    unfolding IsBlockedKey
    blocked-parts live = live

    pub blocked-live : IsOfService key × HoldsBlocked (state_of kept) key.port key.message → IsBlockedKey kept key
    unfolding IsBlockedKey
    blocked-live parts = parts

    pub unblocked-parts : IsUnblocked kept key → (key.port < (state_of kept).next_port)
        × ((x : Publisher) → (state_of kept).publishers key.port ≡ Some x → x.blocked ≡ None)
    unfolding IsUnblocked
    unblocked-parts free = free

    pub unblocked-free : (key.port < (state_of kept).next_port)
        × ((x : Publisher) → (state_of kept).publishers key.port ≡ Some x → x.blocked ≡ None) → IsUnblocked kept key
    unfolding IsUnblocked
    unblocked-free parts = parts

    -- the publisher, if it's there, waits for no full receiver
    abbrev pub WaitsForNone : Type 0
    WaitsForNone = (x : Publisher) → (state_of kept).publishers key.port ≡ Some x
        → may_wait x.backpressure_strategy x.backpressure_handler ≡ false

    pub passes-parts : PassesFull kept key → (key.port < (state_of kept).next_port) × (Overflows kept ⊎ WaitsForNone)
    unfolding PassesFull
    passes-parts has = has

    pub passes-from : (key.port < (state_of kept).next_port) × (Overflows kept ⊎ WaitsForNone) → PassesFull kept key
    unfolding PassesFull
    passes-from parts = parts

    -- as the machine tests it
    pub unblocked-test : IsUnblocked kept key → is_blocked (state_of kept) key.port ≡ false
    unblocked-test free = by ((state_of kept).publishers key.port) refl where
      by : (o : Option Publisher) → (state_of kept).publishers key.port ≡ o
          → option_map_or (λ (x : Publisher). is_some x.blocked) o false ≡ false
      by None e = refl
      by (Some x) e = ap is_some ((unblocked-parts free).1 x e)

    -- and the other way round
    pub unblocked-tests : key.port < (state_of kept).next_port → (answer : Bool)
        → answer ≡ is_blocked (state_of kept) key.port → (answer ≡ false) ↔ IsUnblocked kept key
    unblocked-tests low answer is = (
      λ no. unblocked-free (
        low,
        λ x at. none x.blocked
            (sym (ap (λ o. option_map_or (λ (z : Publisher). is_some z.blocked) o false) at) ∙ sym is ∙ no),
      ),
      λ free. is ∙ unblocked-test free,
    ) where
      none : (o : Option BlockedSend) → is_some o ≡ false → o ≡ None
      none None e = refl
      none (Some b) e = absurd cc

    pub sample-parts : IsSampleKey kept key → IsOfService key × HoldsSample (state_of kept) key.port key.message
    unfolding IsSampleKey
    sample-parts live = live

    pub sample-live : IsOfService key × HoldsSample (state_of kept) key.port key.message → IsSampleKey kept key
    unfolding IsSampleKey
    sample-live parts = parts

  pub unblocked-alike : (key key' : Key) → key'.port ≡ key.port → IsUnblocked kept key → IsUnblocked kept key'
  unblocked-alike key key' same free =
      unblocked-free key' (let has = unblocked-parts key free in (
        subst (λ (p : ℕ). p < (state_of kept).next_port) (sym same) has.0,
        λ x at. has.1 x (ap (state_of kept).publishers (sym same) ∙ at),
      ))

  -- no handler of the publisher, if it's there, fails a send
  abbrev pub HasMildHandler : (p : ℕ) → Type 0
  HasMildHandler p = (x : Publisher) → (state_of kept).publishers p ≡ Some x → may_fail x.backpressure_handler ≡ false

  -- nor does it fail one where the publisher can't make a connection
  abbrev pub GoesOnUnconnected : (p : ℕ) → Type 0
  GoesOnUnconnected p =
      (x : Publisher) → (state_of kept).publishers p ≡ Some x → may_fail_update x.degradation_handler ≡ false

  pub unfailed-parts : (p : ℕ) → NeverFails kept p → (p < (state_of kept).next_port)
      × (Overflows kept ⊎ HasMildHandler p) × HasNotFailed (state_of kept) p × GoesOnUnconnected p
  unfolding NeverFails
  unfailed-parts p has = has

  pub unfailed-from : (p : ℕ) → (p < (state_of kept).next_port) × (Overflows kept ⊎ HasMildHandler p)
      × HasNotFailed (state_of kept) p × GoesOnUnconnected p → NeverFails kept p
  unfolding NeverFails
  unfailed-from p parts = parts

  -- ---- where ports stand

  pub placed-parts : (it : PublisherHandle) → IsPlacedPublisher kept it
      → (it.id < (state_of kept).next_port)
      × ((x : Publisher) → (state_of kept).publishers it.id ≡ Some x → x.place ≡ it.place)
  unfolding IsPlacedPublisher
  placed-parts it placed = placed

  pub placed-from : (it : PublisherHandle) → (it.id < (state_of kept).next_port)
      × ((x : Publisher) → (state_of kept).publishers it.id ≡ Some x → x.place ≡ it.place)
      → IsPlacedPublisher kept it
  unfolding IsPlacedPublisher
  placed-from it parts = parts

  pub placed-subscriber-parts : (it : SubscriberHandle) → IsPlacedSubscriber kept it
      → (it.id < (state_of kept).next_port)
      × ((y : Subscriber) → (state_of kept).subscribers it.id ≡ Some y → y.place ≡ it.place)
  unfolding IsPlacedSubscriber
  placed-subscriber-parts it placed = placed

  pub placed-subscriber-from : (it : SubscriberHandle) → (it.id < (state_of kept).next_port)
      × ((y : Subscriber) → (state_of kept).subscribers it.id ≡ Some y → y.place ≡ it.place)
      → IsPlacedSubscriber kept it
  unfolding IsPlacedSubscriber
  placed-subscriber-from it parts = parts

  pub buffer-parts : (it : SubscriberHandle) → HasItsBuffer kept it
      → (it.id < (state_of kept).next_port)
      × ((y : Subscriber) → (state_of kept).subscribers it.id ≡ Some y → y.buffer ≡ it.buffer_size)
  unfolding HasItsBuffer
  buffer-parts it its = its

  pub buffer-from : (it : SubscriberHandle) → (it.id < (state_of kept).next_port)
      × ((y : Subscriber) → (state_of kept).subscribers it.id ≡ Some y → y.buffer ≡ it.buffer_size)
      → HasItsBuffer kept it
  unfolding HasItsBuffer
  buffer-from it parts = parts

  -- who never waits doesn't, whatever the rest of the key
  pub never-waits-alike : (key key' : Key) → key'.port ≡ key.port → NeverWaits kept key → NeverWaits kept key'
  never-waits-alike key key' same never = record {
    passes = passes-from key' (
        let has = passes-parts key never.passes in (
          subst (λ (p : ℕ). p < (state_of kept).next_port) (sym same) has.0,
          elim has.1 [
            | inl over ↦ inl over
            | inr discards ↦
                inr (λ x at. discards x (ap (state_of kept).publishers (sym same) ∙ at))
          ],
        )
        );
    unblocked = unblocked-alike key key' same never.unblocked;
    never_fails = subst (NeverFails kept) (sym same) never.never_fails;
  }

  -- ---- loans and their marks

  module _ (publisher number : ℕ) (l : Loan T U) (at : (state_of kept).loans number ≡ Some l)
      (its : l.publisher ≡ publisher) where
    -- a loan with its mark
    pub marked : (is_written : Bool) → HasMark kept number is_written → l.is_written ≡ is_written
    unfolding HasMark
    marked is_written has =
        let both : Some l ≡ Some has.0 = sym at ∙ has.1 in
        let same : l ≡ has.0 = cc in
        ap (λ (k : Loan T U). k.is_written) same ∙ has.2

  pub has-mark : (number : ℕ) (is_written : Bool) (l : Loan T U) → (state_of kept).loans number ≡ Some l
      → l.is_written ≡ is_written → HasMark kept number is_written
  unfolding HasMark
  has-mark number is_written l at mark = (l, at, mark)

  pub unwritten-parts : (loan : SampleMutUninit) → IsUnwritten kept loan → (loan.service_id ≡ (kept.config).service_id)
      × HoldsUnwritten (state_of kept) loan.loan.publisher loan.loan.number
  unwritten-parts loan live =
      let parts = loan-parts _ live.live in (
        parts.0,
        (
          (parts.1).0,
          (parts.1).1,
          (parts.1).2,
          marked loan.loan.publisher loan.loan.number (parts.1).0 (parts.1).1 (parts.1).2 _ live.unwritten,
        ),
      )

  pub unwritten-live : (loan : SampleMutUninit) → loan.service_id ≡ (kept.config).service_id
      → HoldsUnwritten (state_of kept) loan.loan.publisher loan.loan.number
      → IsPlaced kept loan.loan.number loan.loan.book loan.loan.slot → IsUnwritten kept loan
  unwritten-live loan service has placed =
      record {
        live = loan-live _ (service, (has.0, has.1, has.2));
        unwritten = has-mark loan.loan.number _ has.0 has.1 has.3;
        placed = placed;
      }

  pub written-parts : (loan : SampleMut) → IsWritten kept loan
      → (loan.service_id ≡ (kept.config).service_id) × HoldsWritten (state_of kept) loan.loan.publisher loan.loan.number
  written-parts loan live =
      let parts = loan-parts _ live.live in (
        parts.0,
        (
          (parts.1).0,
          (parts.1).1,
          (parts.1).2,
          marked loan.loan.publisher loan.loan.number (parts.1).0 (parts.1).1 (parts.1).2 _ live.written,
        ),
      )

  pub written-live : (loan : SampleMut) → loan.service_id ≡ (kept.config).service_id
      → HoldsWritten (state_of kept) loan.loan.publisher loan.loan.number
      → IsPlaced kept loan.loan.number loan.loan.book loan.loan.slot → IsWritten kept loan
  written-live loan service has placed =
      record {
        live = loan-live _ (service, (has.0, has.1, has.2));
        written = has-mark loan.loan.number _ has.0 has.1 has.3;
        placed = placed;
      }

  -- ---- what is read

  pub unwritten-reads : (loan : SampleMutUninit) (cell : Option T) → HasCell (state_of kept) loan.loan.number cell
      → UnwrittenReads kept loan cell
  unfolding HasUnwrittenCells
  unwritten-reads loan cell has = has

  pub unwritten-cell : (loan : SampleMutUninit) (cell : Option T) → UnwrittenReads kept loan cell
      → HasCell (state_of kept) loan.loan.number cell
  unfolding HasUnwrittenCells
  unwritten-cell loan cell reads = reads

  -- an unwritten loan has one cell
  pub unwritten-reads-one : (loan : SampleMutUninit) (cell cell' : Option T) → UnwrittenReads kept loan cell
      → UnwrittenReads kept loan cell' → cell ≡ cell'
  unfolding HasUnwrittenCells
  unwritten-reads-one loan cell cell' a b =
      let both : Some a.0 ≡ Some b.0 = sym a.1 ∙ b.1 in
      let same : a.0 ≡ b.0 = cc in
      let cells : ◌≡◌ {A = List (Option T)} (cell ∷ []) (cell' ∷ []) =
      sym a.2 ∙ ap (λ (l : Loan T U). l.cells) same ∙ b.2 in
      cc

  pub loan-reads : (loan : SampleMut) (value : T) → HasCell (state_of kept) loan.loan.number (Some value)
      → LoanReads kept loan value
  unfolding HasValues
  loan-reads loan value has = has

  -- a loan reads as one value
  pub loan-reads-one : (loan : SampleMut) (value value' : T) → LoanReads kept loan value → LoanReads kept loan value'
      → value ≡ value'
  unfolding HasValues
  loan-reads-one loan value value' a b =
      let both : Some a.0 ≡ Some b.0 = sym a.1 ∙ b.1 in
      let same : a.0 ≡ b.0 = cc in
      let cells : ◌≡◌ {A = List (Option T)} (Some value ∷ []) (Some value' ∷ []) =
      sym a.2 ∙ ap (λ (l : Loan T U). l.cells) same ∙ b.2 in
      cc

  pub sample-reads : (sample : Sample) (value : T) (entry : Entry T U)
      → entries_of kept sample.sample.number ≡ Some entry → entry.values ≡ value ∷ []
      → SampleReads kept sample value
  unfolding SampleHasValues
  sample-reads sample value entry at values = (entry, at, values)

  -- a sample reads as one value
  pub sample-reads-one : (sample : Sample) (value value' : T) → SampleReads kept sample value
      → SampleReads kept sample value' → value ≡ value'
  unfolding SampleHasValues
  sample-reads-one sample value value' a b =
      let both : Some a.0 ≡ Some b.0 = sym a.1 ∙ b.1 in
      let same : a.0 ≡ b.0 = cc in
      let values : value ∷ [] ≡ value' ∷ [] = sym a.2 ∙ ap (λ (e : Entry T U). e.values) same ∙ b.2 in
      cc

  -- ---- headers

  module _ (key : Key) (header : Header) where
    pub loan-header : HasLoanHeader (state_of kept) key.message header → LoanHasHeader kept key header
    unfolding LoanHasHeader
    loan-header has = has

    pub loan-header-parts : LoanHasHeader kept key header → HasLoanHeader (state_of kept) key.message header
    unfolding LoanHasHeader
    loan-header-parts has = has

    pub sample-header : (entry : Entry T U) × (entries_of kept key.message ≡ Some entry) × (entry.header ≡ header)
        → SampleHasHeader kept key header
    unfolding SampleHasHeader
    sample-header has = has

    -- a loan has one header
    pub loan-header-one : (header' : Header) → LoanHasHeader kept key header → LoanHasHeader kept key header'
        → header ≡ header'
    unfolding LoanHasHeader
    loan-header-one header' a b =
        let both : Some a.0 ≡ Some b.0 = sym a.1 ∙ b.1 in
        let same : a.0 ≡ b.0 = cc in
        sym a.2 ∙ ap (λ (l : Loan T U). l.header) same ∙ b.2

    -- a sample has one header
    pub sample-header-one : (header' : Header) → SampleHasHeader kept key header → SampleHasHeader kept key header'
        → header ≡ header'
    unfolding SampleHasHeader
    sample-header-one header' a b =
        let both : Some a.0 ≡ Some b.0 = sym a.1 ∙ b.1 in
        let same : a.0 ≡ b.0 = cc in
        sym a.2 ∙ ap (λ (e : Entry T U). e.header) same ∙ b.2

  module _ (key : Key) (header : U) where
    pub loan-user-header : HasLoanUserHeader (state_of kept) key.message header → LoanHasUserHeader kept key header
    unfolding LoanHasUserHeader
    loan-user-header has = has

    pub loan-user-header-parts : LoanHasUserHeader kept key header
        → HasLoanUserHeader (state_of kept) key.message header
    unfolding LoanHasUserHeader
    loan-user-header-parts has = has

    -- a loan has one user header
    pub loan-user-header-one : (header' : U) → LoanHasUserHeader kept key header → LoanHasUserHeader kept key header'
        → header ≡ header'
    unfolding LoanHasUserHeader
    loan-user-header-one header' a b =
        let both : Some a.0 ≡ Some b.0 = sym a.1 ∙ b.1 in
        let same : a.0 ≡ b.0 = cc in
        sym a.2 ∙ ap (λ (l : Loan T U). l.user_header) same ∙ b.2

    pub sample-user-header : (entry : Entry T U) × (entries_of kept key.message ≡ Some entry)
        × (entry.user_header ≡ header) → SampleHasUserHeader kept key header
    unfolding SampleHasUserHeader
    sample-user-header has = has

    -- a sample has one user header
    pub sample-user-header-one : (header' : U) → SampleHasUserHeader kept key header
        → SampleHasUserHeader kept key header' → header ≡ header'
    unfolding SampleHasUserHeader
    sample-user-header-one header' a b =
        let both : Some a.0 ≡ Some b.0 = sym a.1 ∙ b.1 in
        let same : a.0 ≡ b.0 = cc in
        sym a.2 ∙ ap (λ (e : Entry T U). e.user_header) same ∙ b.2

  -- ---- origins

  pub origin-parts : (sample : Sample) → IsFromOrigin kept sample
      → is_borrowed sample.sample.number ((state_of kept).mailboxes sample.origin sample.sample.subscriber) ≡ true
  unfolding IsFromOrigin
  origin-parts sample from = from

  pub origin-live : (sample : Sample) → is_borrowed sample.sample.number
      ((state_of kept).mailboxes sample.origin sample.sample.subscriber) ≡ true → IsFromOrigin kept sample
  unfolding IsFromOrigin
  origin-live sample borrowed = borrowed
