-- A loan by a static publisher that first reclaimed slots where none of its book was free.
use Rattle.std.proofs.Common.{◌≡◌, ◌<◌, ◌≤◌, ℕ, ◌+◌, ◌*◌, ◌&&◌, nat_lt, Bool, true, false, All, List, None, Some, Ok}
use Rattle.std.proofs.Common.{Err, length, get_or, set-set, slice_set, refl, ap, sym, subst, ◌∙◌, arith}
use Rattle.std.proofs.lemmas.List.{set-get_or}
use Rattle.std.specs.declared.option.Option.{Option}
use Rattle.std.specs.Option.{option_map}
use Rattle.std.specs.Prelude.{IsSomeAnd}
use Rattle.slab.specs.Slab.{Slab, get, with_value}
use Rattle.iox2_machine.specs.declared.errors.LoanError.{LoanError}
use Rattle.iox2_machine.specs.declared.errors.LoanError.TheVariants.{OutOfMemory, ExceedsMaxLoans, ExceedsMaxLoanSize}
use Rattle.iox2_machine.specs.declared.errors.LoanError.TheVariants.{InternalFailure}
use Rattle.iox2_machine.specs.declared.service_config.TypeVariant.TheVariants.{FixedSize}
use Rattle.iox2_machine.specs.machine.Limits.{last_number}
use Rattle.iox2_machine.specs.machine.Loans.{is_static}
use Rattle.iox2_contents.specs.SlotContents.{ContentState}
use Rattle.iox2_connections.specs.Link.{Link}
use Rattle.iox2_slots.specs.SlotBook.{Book, TakesFreeSlot, header_in}
use Rattle.iox2_connections.specs.Counters.{with_counters}
use Rattle.iox2_connections.specs.Receivers.{HasReclaimed}
use Rattle.iox2_connections.specs.Reclaims.{Reclaims}
use Rattle.iox2_connections.proofs.Recounts.{Recounts-same}
use Rattle.iox2_domain.specs.Fields.{Fields, kept_of}
use Rattle.iox2_domain.specs.Invariant.{IsDomain}
use Rattle.iox2_domain.specs.Kept.{state_of}
use Rattle.iox2_domain.specs.Lending.{IsNamed, LoanReaches, Starts, lending}
use Rattle.iox2_domain.specs.LoanSlots.{LiesInSlot}
use Rattle.iox2_domain.specs.Ports.{PublisherFields}
use Rattle.iox2_domain.specs.Reaches.{Reaches}
use Rattle.iox2_domain.specs.declared.loan_slots.LoanAt.{LoanAt}
use Rattle.iox2_domain.proofs.lemmas.containers.SetRecords.{set-here}
use Rattle.iox2_domain.proofs.lemmas.slots.PublisherBooks.{read-there}
use Rattle.iox2_domain.proofs.lemmas.loans.LendingSteps.{lends-from, Lends}
use Rattle.iox2_domain.proofs.lemmas.loans.Lent.{is_too_long, decided-long, decided-limited, decided-full}
use Rattle.iox2_domain.proofs.lemmas.loans.Lent.{decided-failed, decided-free, LoanDecided}
use Rattle.iox2_domain.proofs.lemmas.loans.Loaned.{loan-refused, loan-lent, loan-lies}
use Rattle.iox2_domain.proofs.lemmas.slots.ReclaimSteps.{publisher-reclaims}

-- where nothing is reclaimed
pub reclaims-nothing : (p : ℕ) (hs : List ℕ) (slab : Slab Link) → Reclaims p hs slab hs slab
reclaims-nothing p hs slab = record {
  mailboxes = λ number. refl;
  recounts = Recounts-same p hs slab;
  shrinks = λ slot. omega arith;
}

module _ {T U : Type 0} (before f : Fields T U) (same : f ≡ before) (agrees : IsDomain before) (i : ℕ)
    (x : PublisherFields) (at : get_or f.publishers i None ≡ Some x)
    (b book : Book) (its : get f.books x.book ≡ Some b) (links : Slab Link) (is : book ≡ with_counters b book.holders)
    (z : PublisherFields) (view : x ≡ z) (r : Reclaims z.id b.holders f.connections book.holders links) (checks : Bool)
    (len : ℕ) (static : is_static x.allocation ≡ true) where
  -- the fields after it reclaimed
  abbrev pub reclaimed : Fields T U
  reclaimed = record f { connections = links; books = with_value f.books x.book book }

  reached : Reaches before reclaimed (state_of (kept_of before))
  reached = publisher-reclaims before f same (subst IsDomain (sym same) agrees) i x at b book its links is
      (subst (λ (y : PublisherFields). Reclaims y.id b.holders f.connections book.holders links) (sym view) r)

  -- the publisher's book is the one that was written
  its-book : get reclaimed.books x.book ≡ Some book
  its-book = set-here f.books.slots x.book b book its

  stands : (y : PublisherFields) × (get_or before.publishers i None ≡ Some y)
  stands = (x, ap (λ (h : Fields T U). get_or h.publishers i None) (sym same) ∙ at)

  -- a loan is longer than this publisher lends
  abbrev pub is_long : PublisherFields → Bool
  is_long y = checks && nat_lt y.segment_length len

  -- which is the length that it was made for
  long-is : is_too_long checks len x ≡ is_long x
  long-is =
      let made : x.segment_length ≡ x.initial_max_slice_len =
      (((subst IsDomain (sym same) agrees).parts.plain i x at).segment.static static).1 in
      by checks ∙ ap (λ (n : ℕ). checks && nat_lt n len) (sym made)
    where
      by : (b : Bool) → (b && is_static x.allocation && nat_lt x.initial_max_slice_len len)
          ≡ (b && nat_lt x.initial_max_slice_len len)
      by true = ap (λ (c : Bool). c && nat_lt x.initial_max_slice_len len) static
      by false = refl

  -- ---- refusals

  abbrev Refused : LoanError → List (Option PublisherFields) → (is_default : U → Type 0) → Type 0
  Refused e xs is_default = IsSomeAnd (get_or before.publishers i None)
      (λ y. LoanReaches {A = LoanAt} is_default checks len before y (Err e) (record reclaimed { publishers = xs }))

  -- the publisher is written back as it was
  refused : (is_default : U → Type 0) (e : LoanError) → LoanDecided reclaimed checks len i (Some e)
      → Refused e (slice_set f.publishers i (Some z)) is_default
  refused is_default e decided =
      subst (λ (xs : List (Option PublisherFields)). Refused e xs is_default)
      (sym (ap (slice_set f.publishers i) (ap Some (sym view) ∙ sym at) ∙ set-get_or f.publishers i None))
      (loan-refused is_default before reclaimed agrees i stands reached
      (ap (λ (h : Fields T U). h.publishers) same) checks len e decided)

  pub refused-long : (is_default : U → Type 0) → is_long z ≡ true
      → Refused ExceedsMaxLoanSize (slice_set f.publishers i (Some z)) is_default
  refused-long is_default long = refused is_default ExceedsMaxLoanSize
      (decided-long reclaimed reached.agrees i x at checks len (long-is ∙ ap is_long view ∙ long))

  module _ (short : is_long z ≡ false) where
    its-short : is_too_long checks len x ≡ false
    its-short = long-is ∙ ap is_long view ∙ short

    pub refused-limited : (is_default : U → Type 0) → x.max_loaned_samples ≤ length x.loans
        → Refused ExceedsMaxLoans (slice_set f.publishers i (Some z)) is_default
    refused-limited is_default many =
        refused is_default ExceedsMaxLoans (decided-limited reclaimed reached.agrees i x at checks len its-short many)

    module _ (few : length x.loans < x.max_loaned_samples) where
      pub refused-full : (is_default : U → Type 0) → (All (λ n. 0 < n) book.holders → HasReclaimed links z.keys)
          → All (λ n. 0 < n) book.holders
          → Refused OutOfMemory (slice_set f.publishers i (Some z)) is_default
      refused-full is_default empties all =
          refused is_default OutOfMemory
          (decided-full reclaimed reached.agrees i x at checks len its-short few static book its-book
          (subst (λ (y : PublisherFields). HasReclaimed links y.keys) (sym view) (empties all)) all)

      module _ (some_free : All (λ n. 0 < n) book.holders → ⊥) where
        pub refused-last : (is_default : U → Type 0) → f.next_message ≡ last_number
            → Refused InternalFailure (slice_set f.publishers i (Some z)) is_default
        refused-last is_default last = refused is_default InternalFailure
            (decided-failed reclaimed reached.agrees i x at checks len its-short few static book its-book some_free
            last)

        -- ---- a slot is lent

        module _ (more : f.next_message < last_number) (one : (f.config).variant ≡ FixedSize → len ≡ 1) where
          module _ (is_default : U → Type 0) (taken : Book) (slot : ℕ)
              (takes : TakesFreeSlot book taken slot f.next_message (header_in book len))
              (o started : Option (List (ContentState T U))) (read : o ≡ get_or f.contents x.book o)
              (starts : Starts is_default o started slot (len * (f.config).units_per_element))
              (y y' : Option PublisherFields) (read_y : y ≡ get_or f.publishers i y)
              (lent : y' ≡ option_map (λ (p : PublisherFields). lending len slot p.segments p) y) where
            -- the fields after the loan
            abbrev new : Fields T U
            new = record reclaimed {
              next_message = f.next_message + 1;
              books = with_value f.books x.book taken;
              contents = slice_set f.contents x.book started;
              publishers = slice_set f.publishers i y';
            }

            abbrev loan : LoanAt
            loan = record { publisher = x.id; number = f.next_message; place = i; book = x.book; slot = slot }

            -- it has the segments that it had
            lent-segments : y' ≡ option_map (lending len slot x.segments) y
            lent-segments =
                let is : y ≡ Some x = sym (read-there f.publishers i x y at read_y) ∙ at in
                lent ∙ ap (option_map (λ (p : PublisherFields). lending len slot p.segments p)) is
                ∙ sym (ap (option_map (lending len slot x.segments)) is)

            lends : IsSomeAnd (get_or reclaimed.publishers i None)
                (λ p. Lends is_default reclaimed i p slot len p.segments new)
            lends =
                subst (λ (p : Option PublisherFields).
                IsSomeAnd p (λ p. Lends is_default reclaimed i p slot len p.segments new)) (sym at)
                (subst (λ (slots : List (Option Book)). Lends is_default reclaimed i x slot len x.segments
                (record new { books = record f.books { slots = slots } }))
                (set-set f.books.slots x.book (Some book) (Some taken))
                (lends-from reclaimed reached.agrees i x at len x.segments is_default book taken slot its-book takes o
                started read starts y y' read_y lent-segments))

            named : IsSomeAnd (get_or reclaimed.publishers i None) (λ p. IsNamed reclaimed p loan)
            named = subst (λ (p : Option PublisherFields). IsSomeAnd p (λ p. IsNamed reclaimed p loan)) (sym at)
                (record { publisher = refl; number = refl; book = refl })

            free : LoanDecided reclaimed checks len i None
            free = decided-free reclaimed reached.agrees i x at checks len its-short few static book its-book some_free
                more

            pub granted : IsSomeAnd (get_or before.publishers i None)
                (λ p. LoanReaches is_default checks len before p (Ok loan) new)
            granted = loan-lent is_default before reclaimed agrees i stands reached
                (ap (λ (h : Fields T U). h.publishers) same) checks len one free slot new lends loan

            pub granted-lies : LiesInSlot new x.id f.next_message x.book slot
            granted-lies = loan-lies is_default before reclaimed agrees i stands reached
                (ap (λ (h : Fields T U). h.publishers) same) checks len one free loan new named lends
