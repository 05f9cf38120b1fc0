-- A publisher that can't be refused a loan is granted it.
use Rattle.std.proofs.Common.{◌≡◌, Bool, ℕ, ◌+◌, ◌*◌, ◌<◌, ◌≤◌, List, [], ◌∷◌, length, true, get_or, refl, ap, sym}
use Rattle.std.proofs.Common.{subst, ◌∙◌, arith, Result, Err}
use Rattle.std.proofs.lemmas.Option.{none-some, same_Some}
use Rattle.std.specs.declared.option.Option.{Option}
use Rattle.std.specs.declared.option.Option.TheVariants.{None, Some}
use Rattle.std.specs.Prelude.{IsSomeAnd, false}
use Rattle.iox2_contents.specs.SlotContents.{ContentState}
use Rattle.iox2_machine.specs.machine.Limits.{buffer_limit, channel_count, worst_case, last_number}
use Rattle.iox2_machine.specs.machine.Loans.{GrantLoan, is_static}
use Rattle.iox2_machine.specs.machine.LoansLeft.{CanLend, LendsWithoutGrowth}
use Rattle.iox2_machine.specs.machine.Records.{Publisher}
use Rattle.iox2_machine.specs.machine.State.{State}
use Rattle.iox2_machine.specs.declared.errors.LoanError.{LoanError}
use Rattle.iox2_machine.specs.declared.service_config.TypeVariant.TheVariants.{FixedSize}
use Rattle.iox2_laws.proofs.EnoughSlots.{worst_case_of_slots_refuses_none}
use Rattle.iox2_domain.specs.Boxes.{DomainBoxes}
use Rattle.iox2_domain.specs.Fields.{Fields, kept_of, publisher_of, keeping}
use Rattle.iox2_domain.specs.Invariant.{IsDomain, HasBook}
use Rattle.iox2_domain.specs.Kept.{Kept, state_of}
use Rattle.iox2_domain.specs.Lending.{LoanReaches, memory_for}
use Rattle.iox2_domain.specs.Ports.{PublisherFields}
use Rattle.iox2_domain.specs.declared.loan_slots.LoanAt.{LoanAt}
use Rattle.iox2_domain.proofs.lemmas.fields.ConnectionEnds.{publisher-stands}
use Rattle.iox2_pubsub.proofs.LoansLeftShown.{lends-in, number-left}
use Rattle.iox2_pubsub.specs.LoansLeft.{HasLoansLeft, HasNumbersLeft}
use Rattle.iox2_pubsub.specs.declared.publisher.Publisher.{Publisher as PublisherHandle}

-- The publisher has at least as many slots as the worst case for its limit of loans, lends slices as long as its handle
-- says, and single values where messages are such, and has fewer loans out than that limit; and the domain has a
-- message number left.
pub record IsSureOfLoan {T U F G : Type 0} (domain : Kept T U F G) (publisher : PublisherHandle) : Type 0 where
  pub port : Publisher
  pub stands : (state_of domain).publishers publisher.id ≡ Some port
  pub values : LendsWithoutGrowth (state_of domain) port
  pub slots : worst_case domain.config port.max_loaned_samples ≤ port.slots
  pub few : length port.loans < port.max_loaned_samples
  pub longest : port.initial_max_slice_len ≡ publisher.initial_max_slice_len
  pub more : domain.next_message < last_number

fewer_than : (loans more most : ℕ) → loans + (more + 1) ≤ most → loans < most
fewer_than loans more most h = omega arith

-- it has a loan left, and the domain a number
pub sure-of-loan : {T U F G : Type 0} (domain : Kept T U F G) (publisher : PublisherHandle) (loans numbers : ℕ)
    → HasLoansLeft domain publisher (loans + 1) → HasNumbersLeft domain (numbers + 1)
    → IsSureOfLoan domain publisher
sure-of-loan {T} {U} domain publisher loans numbers left numbered =
    let has = lends-in domain publisher (loans + 1) left in
    let can : CanLend (state_of domain) publisher.id (loans + 1) = has.0 in record {
      port = can.port;
      stands = can.stands;
      values = can.values;
      slots = can.slots;
      few = fewer_than (length (can.port).loans) loans (can.port).max_loaned_samples can.few;
      longest = ap (λ (x : Publisher). x.initial_max_slice_len)
          (same_Some can.port (has.1).0 (sym can.stands ∙ (has.1).1)) ∙ (has.1).2;
      more = number-left domain numbers numbered;
    }

-- where a loan may be out there is a slot
some_slot : (others loans most slots : ℕ) → others + most ≤ slots → loans < most → 0 < slots
some_slot others loans most slots enough few = omega arith

module _ {T U : Type 0} where
  -- the user header in the first of these contents
  first_header : (o : Option (List (ContentState T U))) (n : ℕ) → 0 < n → IsSomeAnd o (λ contents. length contents ≡ n)
      → U
  first_header None n some shaped = absurd shaped
  first_header (Some []) n some shaped = absurd (omega (arith, some, shaped))
  first_header (Some (content ∷ contents)) n some shaped = content.user_header

  module _ (f : Fields T U) (sound : IsDomain f) (i : ℕ) (x : PublisherFields)
      (at : get_or f.publishers i None ≡ Some x) where
    abbrev state : State T U
    state = state_of (kept_of f)

    -- a publisher that has slots has contents, and a user header in each
    some_header : 0 < x.slots → U
    some_header some =
        let has : HasBook f x = (sound.parts.books).publishers i x at in
        first_header (get_or f.contents x.book None) (length (has.book).holders) (omega (arith, some, has.slots))
        ((sound.parts.books).books x.book has.book has.stands).shaped

    -- a loan of that length is one that the publisher's first segment is long enough for
    short_enough : (checks : Bool) (len : ℕ) (port : Publisher) → LendsWithoutGrowth state port
        → (checks ≡ true → len ≤ port.initial_max_slice_len) → (checks ≡ false → (f.config).variant ≡ FixedSize)
        → ((f.config).variant ≡ FixedSize → len ≡ 1) → is_static port.allocation_strategy ≡ false
        → len ≤ port.initial_max_slice_len
    short_enough true len port values short unchecked single grows = short refl
    short_enough false len port values short unchecked single grows =
        let fixed = unchecked refl in
        subst (λ (n : ℕ). n ≤ port.initial_max_slice_len) (sym (single fixed)) (values grows fixed)

    -- what stands here is no refusal of a loan of that length
    unrefused : {F G : Type 0} {boxes : DomainBoxes F G} (checks : Bool) (len : ℕ) (publisher : PublisherHandle)
        → (checks ≡ true → len ≤ publisher.initial_max_slice_len)
        → (checks ≡ false → (f.config).variant ≡ FixedSize) → ((f.config).variant ≡ FixedSize → len ≡ 1)
        → x.id ≡ publisher.id
        → IsSureOfLoan (keeping boxes f) publisher → (e : LoanError)
        → ((user_header : U) → GrantLoan (memory_for x.allocation) user_header checks len state x.id state (Some e)) → ⊥
    unrefused checks len publisher short unchecked single its sure e refuses =
        let stands : state.publishers x.id ≡ Some sure.port = ap state.publishers its ∙ sure.stands in
        let same : (publisher_of f.books f.connections x).port ≡ sure.port =
        same_Some _ _ (sym (publisher-stands f sound.parts i x at) ∙ stands) in
        let slots : x.slots ≡ (sure.port).slots = ap (λ (y : Publisher). y.slots) same in
        let some : 0 < (sure.port).slots =
        some_slot ((f.config).max_subscribers * channel_count f.config
        * (buffer_limit f.config + (f.config).subscriber_max_borrowed_samples) + (f.config).history_size)
        (length (sure.port).loans) (sure.port).max_loaned_samples (sure.port).slots sure.slots sure.few in
        let user_header : U = some_header (omega (arith, some, slots)) in
        let fits : checks ≡ true → len ≤ (sure.port).initial_max_slice_len =
        λ is. subst (λ (longest : ℕ). len ≤ longest) (sym sure.longest) (short is) in
        none-some e
        (sym (worst_case_of_slots_refuses_none (memory_for x.allocation) user_header state x.id sure.port checks len
        sound.well_formed stands sure.slots sure.few sure.more
        fits (short_enough checks len sure.port sure.values fits unchecked single) state (Some e)
        (refuses user_header)))

  -- no loan that isn't too long is refused to a publisher that can't be refused one
  pub sure-granted : {F G : Type 0} {boxes : DomainBoxes F G} (is_default : U → Type 0) (checks : Bool) (len : ℕ)
      (f new : Fields T U) → IsDomain f → (i : ℕ) (publisher : PublisherHandle)
      → (checks ≡ true → len ≤ publisher.initial_max_slice_len) → (checks ≡ false → (f.config).variant ≡ FixedSize)
      → ((f.config).variant ≡ FixedSize → len ≡ 1)
      → ((x : PublisherFields) × (get_or f.publishers i None ≡ Some x) × (x.id ≡ publisher.id))
      → (answer : Result LoanAt LoanError)
      → IsSomeAnd (get_or f.publishers i None) (λ z. LoanReaches is_default checks len f z answer new) → (e : LoanError)
      → answer ≡ Err e
      → (kept : Kept T U F G) → keeping boxes f ≡ kept → IsSureOfLoan kept publisher → ⊥
  sure-granted {F} {G} is_default checks len f new sound i publisher short unchecked single stands answer reaches e is
      kept view sure =
      let here : LoanReaches is_default checks len f stands.0 answer new =
      subst (λ (o : Option PublisherFields). IsSomeAnd o (λ z. LoanReaches is_default checks len f z answer new))
      stands.1 reaches in
      let refused : LoanReaches {A = LoanAt} is_default checks len f stands.0 (Err e) new =
      subst (λ (r : Result LoanAt LoanError). LoanReaches is_default checks len f stands.0 r new) is here in
      unrefused f sound i stands.0 stands.1 checks len publisher short unchecked single stands.2
      (subst (λ (k : Kept T U F G). IsSureOfLoan k publisher) (sym view) sure) e refused.0
