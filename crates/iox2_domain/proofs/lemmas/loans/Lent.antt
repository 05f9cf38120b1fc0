-- A loan of a single value, as the machine says it.
use Rattle.std.proofs.Common.{◌≡◌, ℕ, ◌+◌, ◌*◌, ◌<◌, ◌≤◌, zero, suc, Bool, true, false, ◌&&◌, nat_lt, List, [], ◌∷◌}
use Rattle.std.proofs.Common.{length, get_or, slice_set, refl, ap, sym, subst, ◌∙◌, arith, slice_index_or}
use Rattle.std.specs.declared.option.Option.{Option}
use Rattle.std.specs.declared.option.Option.TheVariants.{None, Some}
use Rattle.std.specs.Option.{MatchOption}
use Rattle.std.specs.Prelude.{IsSomeAnd}
use Rattle.std.specs.List.{All}
use Rattle.std.proofs.lemmas.List.{get_or-set_same}
use Rattle.slab.specs.Slab.{get, with_value}
use Rattle.iox2_machine.specs.machine.Limits.{last_number}
use Rattle.iox2_machine.specs.machine.Loans.{is_static, loan_granted, GrantLoan}
use Rattle.iox2_machine.specs.machine.Numbers.{size}
use Rattle.iox2_machine.specs.machine.Records.{Environment}
use Rattle.iox2_slots.specs.SlotBook.{Book}
use Rattle.iox2_contents.specs.SlotContents.{ContentState, with_changed, unwritten_content}
use Rattle.iox2_machine.specs.machine.State.{held}
use Rattle.iox2_machine.specs.declared.service_config.TypeVariant.TheVariants.{FixedSize}
use Rattle.iox2_machine.specs.declared.errors.LoanError.{LoanError}
use Rattle.iox2_machine.specs.declared.errors.LoanError.TheVariants.{OutOfMemory, ExceedsMaxLoans, ExceedsMaxLoanSize}
use Rattle.iox2_machine.specs.declared.errors.LoanError.TheVariants.{InternalFailure}
use Rattle.iox2_connections.specs.Receivers.{HasReclaimed}
use Rattle.iox2_connections.proofs.MailboxChanges.{within_if_some}
use Rattle.iox2_domain.specs.Ports.{PublisherFields}
use Rattle.iox2_domain.specs.Kept.{Lent_message, state_of}
use Rattle.iox2_domain.specs.Fields.{Fields, contents_at, kept_of}
use Rattle.iox2_domain.specs.Invariant.{IsDomain}
use Rattle.iox2_domain.specs.Lending.{header_for, lending, memory_for}
use Rattle.iox2_domain.specs.LoanSlots.{IsLoanSlot, LiesInSlot}
use Rattle.iox2_domain.specs.Reaches.{Reaches}
use Rattle.iox2_domain.proofs.lemmas.fields.ConnectionEnds.{publisher-stands}
use Rattle.iox2_domain.proofs.lemmas.loans.LoanSlots.{lies-in-slot, loan-lent as lent-slot}
use Rattle.iox2_domain.proofs.lemmas.slots.Messages.{message_in-parts, message_at-slot}
use Rattle.iox2_domain.proofs.lemmas.slots.SlotsInUse.{its_book, size-full, size-free}
use Rattle.iox2_domain.proofs.lemmas.loans.LendingSteps.{contents-of, with_taken_slot, Lends}
use Rattle.iox2_domain.proofs.lemmas.slots.PublisherBooks.{book-own}
use Rattle.iox2_domain.proofs.lemmas.loans.Taken.{CanTakeSlot, taken_book, taken_books, begun_contents, lent}
use Rattle.iox2_domain.proofs.lemmas.loans.Taken.{taken-stands, lent-lies}
use Rattle.iox2_domain.proofs.lemmas.loans.Granted.{lender, with_granted, lends-long, lends-limited, lends-full}
use Rattle.iox2_domain.proofs.lemmas.loans.Granted.{lends-failed, lends-granted}
use Rattle.iox2_domain.proofs.lemmas.loans.GrantedAgrees.{granted-reaches}
use Rattle.iox2_domain.proofs.lemmas.fields.NamedPorts.{seen, seen_publisher, as-many, few-numbers}

-- The static publisher at the place has fewer loans out than it may have, some slot of its book is free, and a number
-- is left.
pub record CanGrant {T U : Type 0} (f : Fields T U) (checks : Bool) (len place : ℕ) : Type 0 where
  pub publisher : PublisherFields
  pub book : Book
  pub stands : slice_index_or f.publishers place None ≡ Some publisher
  pub its : get f.books publisher.book ≡ Some book
  pub few : length publisher.loans < publisher.max_loaned_samples
  pub some_free : All (λ n. 0 < n) book.holders → ⊥
  pub more : f.next_message < last_number
  pub short : (checks && is_static publisher.allocation && nat_lt publisher.initial_max_slice_len len) ≡ false
  pub static : is_static publisher.allocation ≡ true

-- A loan by the static publisher at the place is refused for this reason, or a slot may be lent.
abbrev pub LoanDecided : {T U : Type 0} → Fields T U → (checks : Bool) → (len place : ℕ) → Option LoanError → Type 0
LoanDecided {T} {U} f checks len place decision =
    IsSomeAnd (slice_index_or f.publishers place None) (λ x. MatchOption decision (CanGrant f checks len place)
    (λ e. (user_header : U) → GrantLoan (memory_for x.allocation) user_header checks len (state_of (kept_of f)) x.id
    (state_of (kept_of f)) (Some e)))

-- where not each slot has a holder some slot is free
some_slot : (hs : List ℕ) → (All (λ n. 0 < n) hs → ⊥) → (slot : ℕ) × (slot < length hs) × (get_or hs slot 0 ≡ 0)
some_slot [] not_all = absurd (not_all (λ k d lt. absurd (omega arith)))
some_slot (h ∷ hs) not_all = by h refl (λ held. some_slot hs (λ all. not_all (more held all))) where
  more : 0 < h → All (λ n. 0 < n) hs → All (λ n. 0 < n) (h ∷ hs)
  more held all zero d lt = held
  more held all (suc k) d lt = all k d (omega arith)

  by : (n : ℕ) → h ≡ n → (0 < h → (slot : ℕ) × (slot < length hs) × (get_or hs slot 0 ≡ 0))
      → (slot : ℕ) × (slot < length (h ∷ hs)) × (get_or (h ∷ hs) slot 0 ≡ 0)
  by zero e later = (zero, omega arith, e)
  by (suc n) e later = let rest = later (omega arith) in (suc rest.0, omega (arith, rest.1), rest.2)

-- The length is one that the publisher doesn't lend.
abbrev pub is_too_long : (checks : Bool) (len : ℕ) → PublisherFields → Bool
is_too_long checks len x = checks && is_static x.allocation && nat_lt x.initial_max_slice_len len

module _ {T U : Type 0} (f : Fields T U) (sound : IsDomain f) (i : ℕ) (x : PublisherFields)
    (at : get_or f.publishers i None ≡ Some x) (checks : Bool) (len : ℕ) where
  pub long : is_too_long checks len x ≡ true → (user_header : U)
      → GrantLoan (memory_for x.allocation) user_header checks len (seen f) x.id (seen f) (Some ExceedsMaxLoanSize)
  long e user_header = lends-long (memory_for x.allocation) user_header (seen f) x.id (seen_publisher f x)
      (publisher-stands f sound.parts i x at) checks len e

  -- too many loans are out
  pub limited : is_too_long checks len x ≡ false → (user_header : U) → x.max_loaned_samples ≤ length x.loans
      → GrantLoan (memory_for x.allocation) user_header checks len (seen f) x.id (seen f) (Some ExceedsMaxLoans)
  limited short user_header many = lends-limited (memory_for x.allocation) user_header (seen f) x.id
      (seen_publisher f x) (publisher-stands f sound.parts i x at) checks len short (let e = as-many f x in omega arith)

  its-book : (b : Book) → get f.books x.book ≡ Some b → (its_book f sound i x at).book ≡ b
  its-book b stands =
      let same : Some (its_book f sound i x at).book ≡ Some b = sym (its_book f sound i x at).stands ∙ stands in cc

  -- the book of a static publisher has as many slots as that
  slots-are : is_static x.allocation ≡ true → (b : Book) → get f.books x.book ≡ Some b → length b.holders ≡ x.slots
  slots-are static b stands =
      let same : length b.holders ≡ length (its_book f sound i x at).book.holders =
      ap (λ (c : Book). length c.holders) (sym (its-book b stands)) in
      omega (arith, same, (its_book f sound i x at).slots, ((sound.parts.plain i x at).segment.static static).0)

  module _ (short : is_too_long checks len x ≡ false) (few : length x.loans < x.max_loaned_samples)
      (static : is_static x.allocation ≡ true) (b : Book) (stands : get f.books x.book ≡ Some b) where
    -- each slot has a holder
    pub full : HasReclaimed f.connections x.keys → (user_header : U) → All (λ n. 0 < n) b.holders
        → GrantLoan (memory_for x.allocation) user_header checks len (seen f) x.id (seen f) (Some OutOfMemory)
    full reclaimed user_header all =
        lends-full (memory_for x.allocation) user_header (seen f) x.id (seen_publisher f x)
        (publisher-stands f sound.parts i x at) checks len short (few-numbers f x few) static
        (size-full f sound i x at reclaimed
        (subst (λ (c : Book). All (λ n. 0 < n) c.holders) (sym (its-book b stands)) all)
        ∙ ap (λ (c : Book). length c.holders) (its-book b stands) ∙ slots-are static b stands)

    -- a slot that is free leaves room
    some_room : (slot : ℕ) → slot < length b.holders → get_or b.holders slot 0 ≡ 0
        → size (held (seen f) x.id (seen_publisher f x)) < x.slots
    some_room slot low free =
        let its = its-book b stands in
        let fewer = size-free f sound i x at slot (subst (λ (c : Book). slot < length c.holders) (sym its) low)
        (ap (λ (c : Book). get_or c.holders slot 0) its ∙ free) in
        let same : length (its_book f sound i x at).book.holders ≡ length b.holders =
        ap (λ (c : Book). length c.holders) its in
        let long = slots-are static b stands in
        omega arith

    -- no number is left
    pub failed : (user_header : U) → (All (λ n. 0 < n) b.holders → ⊥) → f.next_message ≡ last_number
        → GrantLoan (memory_for x.allocation) user_header checks len (seen f) x.id (seen f) (Some InternalFailure)
    failed user_header not_all last =
        let free = some_slot b.holders not_all in
        lends-failed (memory_for x.allocation) user_header (seen f) x.id (seen_publisher f x)
        (publisher-stands f sound.parts i x at) checks len short (few-numbers f x few) static
        (some_room free.0 free.1 free.2) last

  -- ---- what is decided

  -- what is decided of this publisher
  abbrev Decided : Option LoanError → PublisherFields → Type 0
  Decided decision y = MatchOption decision (CanGrant f checks len i) (λ e. (user_header : U)
      → GrantLoan (memory_for x.allocation) user_header checks len (seen f) y.id (seen f) (Some e))

  decided : (decision : Option LoanError) → Decided decision x → LoanDecided f checks len i decision
  decided decision h =
      subst (λ (o : Option PublisherFields). IsSomeAnd o (λ y. MatchOption decision (CanGrant f checks len i)
      (λ e. (user_header : U)
      → GrantLoan (memory_for y.allocation) user_header checks len (seen f) y.id (seen f) (Some e)))) (sym at) h

  pub decided-long : is_too_long checks len x ≡ true → LoanDecided f checks len i (Some ExceedsMaxLoanSize)
  decided-long e = decided (Some ExceedsMaxLoanSize) (λ user_header. long e user_header)

  pub decided-limited : is_too_long checks len x ≡ false → x.max_loaned_samples ≤ length x.loans
      → LoanDecided f checks len i (Some ExceedsMaxLoans)
  decided-limited short many = decided (Some ExceedsMaxLoans) (λ user_header. limited short user_header many)

  module _ (short : is_too_long checks len x ≡ false) (few : length x.loans < x.max_loaned_samples)
      (static : is_static x.allocation ≡ true) (b : Book) (stands : get f.books x.book ≡ Some b) where
    pub decided-full : HasReclaimed f.connections x.keys → All (λ n. 0 < n) b.holders
        → LoanDecided f checks len i (Some OutOfMemory)
    decided-full reclaimed all =
        decided (Some OutOfMemory) (λ user_header. full short few static b stands reclaimed user_header all)

    pub decided-failed : (All (λ n. 0 < n) b.holders → ⊥) → f.next_message ≡ last_number
        → LoanDecided f checks len i (Some InternalFailure)
    decided-failed not_all last =
        decided (Some InternalFailure) (λ user_header. failed short few static b stands user_header not_all last)

    pub decided-free : (All (λ n. 0 < n) b.holders → ⊥) → f.next_message < last_number → LoanDecided f checks len i None
    decided-free not_all more =
        decided None (record {
          publisher = x;
          book = b;
          stands = at;
          its = stands;
          few = few;
          some_free = not_all;
          more = more;
          short = short;
          static = static;
        })

    -- a static publisher that has a free slot grants the loan
    pub lent-grants : (slot : ℕ) → slot < length b.holders → get_or b.holders slot 0 ≡ 0 → f.next_message < last_number
        → (user_header : U)
        → GrantLoan (memory_for x.allocation) user_header checks len (seen f) x.id
        (loan_granted user_header (seen f) x.id (seen_publisher f x) len x.segments) None
    lent-grants slot within free more user_header =
        lends-granted (memory_for x.allocation) user_header (seen f) x.id (seen_publisher f x)
        (publisher-stands f sound.parts i x at) checks len short (few-numbers f x few) static
        (some_room short few static b stands slot within free) more

  -- a slot is lent
  module _ (one : (f.config).variant ≡ FixedSize → len ≡ 1)
      (fits : is_static x.allocation ≡ false → len ≤ x.segment_length)
      (is_default : U → Type 0) (slot segments : ℕ) (new : Fields T U)
      (lends : Lends is_default f i x slot len segments new) (environment : Environment)
      (grants : GrantLoan environment lends.starts.user_header checks len (seen f) x.id
      (loan_granted lends.starts.user_header (seen f) x.id (seen_publisher f x) len segments) None) where
    abbrev user_header : U
    user_header = lends.starts.user_header

    abbrev can : CanTakeSlot f x slot
    can = let found = contents-of f sound i x at lends.book lends.stood in record {
      book = lends.book;
      contents = lends.starts.contents;
      stands = lends.stood;
      its = book-own f sound.parts i x at lends.book lends.stood;
      has = lends.starts.had;
      aligned = (sound.parts.books.books x.book lends.book lends.stood).aligned;
      shaped = let same : Some found.0 ≡ Some lends.starts.contents = sym found.1 ∙ lends.starts.had in
          let is : found.0 ≡ lends.starts.contents = cc in
          ap (length {A = ContentState T U}) (sym is) ∙ found.2;
      within = lends.within;
      free = lends.free;
    }

    new-is : new ≡ with_granted f sound i x at slot can user_header len segments
    new-is = lends.lent ∙ (λ t. record f {
      next_message = f.next_message + 1;
      books = with_value f.books x.book (with_taken_slot lends.book slot f.next_message (header_for f.config x.id len));
      contents = slice_set f.contents x.book (started t);
      publishers = slice_set f.publishers i (Some (lending len slot segments x));
    })
      where
        started : lends.started ≡ Some (with_changed lends.starts.contents slot
            (unwritten_content user_header (len * (f.config).units_per_element)))
        started = lends.starts.started

    pub lent-reaches : Reaches f new (loan_granted user_header (seen f) x.id (seen_publisher f x) len segments)
    lent-reaches = subst (λ (g : Fields T U).
        Reaches f g (loan_granted user_header (seen f) x.id (seen_publisher f x) len segments)) (sym new-is)
        (granted-reaches f sound i x at slot can user_header len segments one fits environment checks grants)

    -- the loan lies in the slot
    pub lent-in_slot : LiesInSlot new x.id f.next_message x.book slot
    lent-in_slot = subst (λ (g : Fields T U). LiesInSlot g x.id f.next_message x.book slot) (sym new-is)
        (lies-in-slot (with_granted f sound i x at slot can user_header len segments)
        (granted-reaches f sound i x at slot can user_header len segments one fits environment checks grants).agrees
        i (lender f sound i x at slot can user_header len segments)
        (taken_book f sound x slot can user_header len) slot f.next_message
        (get_or-set_same f.publishers i (Some (lender f sound i x at slot can user_header len segments)) None
        (within_if_some f.publishers i x at))
        (taken-stands f sound x slot can user_header len) is-loan)
      where
        lies : List (ContentState T U)
        lies = contents_at (begun_contents f sound x slot can user_header len) x.book

        is-loan : IsLoanSlot (taken_book f sound x slot can user_header len) slot f.next_message
        is-loan =
            (lent-slot (taken_book f sound x slot can user_header len) lies slot f.next_message
            (lent f sound x slot can user_header len)
            (message_in-parts (taken_book f sound x slot can user_header len) lies slot
            (Lent_message f.next_message (lent f sound x slot can user_header len))
            (sym (message_at-slot (begun_contents f sound x slot can user_header len)
            (taken_books f sound x slot can user_header len) x.book slot
            (taken_book f sound x slot can user_header len) (taken-stands f sound x slot can user_header len))
            ∙ lent-lies f sound x slot can user_header len))).0
