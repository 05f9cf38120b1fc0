-- A loan once a slot is ready, by a static publisher or by one whose memory grows.
use Rattle.std.proofs.Common.{◌≡◌, ◌<◌, ◌≤◌, ℕ, ◌+◌, ◌*◌, ◌^◌, ◌&&◌, nat_lt, Bool, true, false, All, List, None, Some}
use Rattle.std.proofs.Common.{Ok, Err, length, drop, get_or, set-set, slice_set, refl, ap, sym, subst, ◌∙◌, inl, inr}
use Rattle.std.proofs.Common.{◌⊎◌, arith}
use Rattle.std.proofs.lemmas.Bool.{ltb-true, ltb-false}
use Rattle.std.proofs.lemmas.List.Elements.{All-drop}
use Rattle.std.proofs.Math.Nat.{le-max_left, le-max_right}
use Rattle.std.specs.declared.option.Option.{Option}
use Rattle.std.specs.Option.{option_map}
use Rattle.std.specs.Prelude.{IsSomeAnd}
use Rattle.slab.specs.Slab.{Slab, ContainsKey, get, with_value}
use Rattle.iox2_machine.specs.declared.errors.LoanError.{LoanError}
use Rattle.iox2_machine.specs.declared.errors.LoanError.TheVariants.{OutOfMemory, ExceedsMaxLoans, ExceedsMaxLoanSize}
use Rattle.iox2_machine.specs.declared.errors.LoanError.TheVariants.{InternalFailure}
use Rattle.iox2_machine.specs.declared.service_config.TypeVariant.TheVariants.{FixedSize}
use Rattle.iox2_machine.specs.machine.Limits.{last_number}
use Rattle.iox2_machine.specs.machine.Loans.{is_static}
use Rattle.iox2_machine.specs.machine.State.{State}
use Rattle.iox2_contents.specs.SlotContents.{ContentState}
use Rattle.iox2_connections.specs.Link.{Link}
use Rattle.iox2_slots.specs.SlotBook.{Book, TakesFreeSlot, header_in, holders_at}
use Rattle.iox2_connections.specs.Counters.{with_counters}
use Rattle.iox2_connections.specs.Homes.{IsApart, IsSenderLinked}
use Rattle.iox2_connections.specs.Receivers.{HasReclaimed}
use Rattle.iox2_connections.specs.Reclaims.{Reclaims}
use Rattle.iox2_connections.proofs.MailboxChanges.{within_if_some}
use Rattle.iox2_domain.specs.Fields.{Fields}
use Rattle.iox2_domain.specs.Invariant.{IsDomain}
use Rattle.iox2_domain.specs.Lending.{IsNamed, LoanReaches, MayStart, Starts, lending}
use Rattle.iox2_domain.specs.LoanSlots.{LiesInSlot}
use Rattle.iox2_domain.specs.Ports.{PublisherFields, slot_length}
use Rattle.iox2_domain.specs.declared.loan_slots.LoanAt.{LoanAt}
use Rattle.iox2_domain.proofs.lemmas.containers.SetRecords.{set-here}
use Rattle.iox2_domain.proofs.lemmas.fields.ReachesShows.{reaches-same}
use Rattle.iox2_domain.proofs.lemmas.slots.PublisherBooks.{BookCovers, read-there}
use Rattle.iox2_domain.proofs.lemmas.loans.LendingSteps.{Lends}
use Rattle.iox2_messages.specs.ReadySlots.{IsReady, RefusesLoan}
use Rattle.iox2_messages.proofs.CountedPass.{Counted, segments-same, counted-there, counted-is, seen, counted-book}
use Rattle.iox2_messages.proofs.CountedPass.{counted-linked, counted-apart, counted-covers, counted-within}
use Rattle.iox2_messages.proofs.CountedPass.{counted-room, counted-units, counted-start, counted-lends}
use Rattle.iox2_messages.proofs.CountedPass.{counted-reclaims}
use Rattle.iox2_messages.proofs.ReadyPass.{ready-lent, ready-lies}
use Rattle.iox2_messages.proofs.StaticPass.{refused-long, refused-limited, refused-full, refused-last, granted}
use Rattle.iox2_messages.proofs.StaticPass.{granted-lies}

-- A static publisher is ready, and nothing changed, or one whose memory grows was readied.
abbrev pub Ready : {T U : Type 0} → Fields T U → (i : ℕ) → PublisherFields → (len : ℕ) → Fields T U → Type 0
Ready before i x len after = ((is_static x.allocation ≡ true) × (after ≡ before)) ⊎ IsReady before i x len after

-- the loan is refused before that
pub refused-before : {T U : Type 0} (is_default : U → Type 0) (checks : Bool) (before : Fields T U) (i : ℕ)
    (given : (x : PublisherFields) × (get_or before.publishers i None ≡ Some x)) (len : ℕ) (e : LoanError)
    (after : Fields T U) → RefusesLoan before given.0 len e after
    → IsSomeAnd (get_or before.publishers i None)
    (λ x. LoanReaches {A = LoanAt} is_default checks len before x (Err e) after)
refused-before is_default checks before i given len e after refuses =
    subst (λ o. IsSomeAnd o (λ x. LoanReaches {A = LoanAt} is_default checks len before x (Err e) after)) (sym given.1)
    (refuses.0 checks, refuses.1)

module _ {T U : Type 0} (before : Fields T U) (agrees : IsDomain before) (i : ℕ)
    (given : (x : PublisherFields) × (get_or before.publishers i None ≡ Some x)) (len : ℕ)
    (after : Fields T U) (ready : Ready before i given.0 len after) (f : Fields T U) (same : f ≡ after) where
  abbrev lender_of : Ready before i given.0 len after → PublisherFields
  lender_of (inl still) = given.0
  lender_of (inr grown) = grown.lender

  abbrev segments_of : Ready before i given.0 len after → ℕ
  segments_of (inl still) = (given.0).segments
  segments_of (inr grown) = grown.segments

  abbrev grown-counts : (grown : IsReady before i given.0 len after) → Counted before f i grown.lender grown.segments
  grown-counts grown = record {
    fields = grown.uncounted;
    reached = grown.reached;
    stands = grown.stands;
    counted = same ∙ grown.counted;
  }

  counts : (r : Ready before i given.0 len after) → Counted before f i (lender_of r) (segments_of r)
  counts (inl still) = record {
    fields = before;
    reached = reaches-same before agrees;
    stands = given.1;
    counted = same ∙ still.1 ∙ sym (segments-same before i given.0 given.1);
  }
  counts (inr grown) = grown-counts grown

  -- the publisher has its id and its book still
  id-kept : (r : Ready before i given.0 len after) → (lender_of r).id ≡ (given.0).id
  id-kept (inl still) = refl
  id-kept (inr grown) = grown.id

  book-kept : (r : Ready before i given.0 len after) → (lender_of r).book ≡ (given.0).book
  book-kept (inl still) = refl
  book-kept (inr grown) = grown.book

  c : Counted before f i (lender_of ready) (segments_of ready)
  c = counts ready

  there : get_or f.publishers i None ≡ Some (record (lender_of ready) { segments = segments_of ready })
  there = counted-there before f i (lender_of ready) (segments_of ready) c

  pub place-within : i < length f.publishers
  place-within = within_if_some f.publishers i _ there

  module _ (o : Option PublisherFields) (read : o ≡ get_or f.publishers i o) where
    pub place-taken : o ≡ None → ⊥
    place-taken none =
        let clash : Some (record (lender_of ready) { segments = segments_of ready }) ≡ None =
        sym there ∙ read-there f.publishers i _ o there read ∙ none in
        absurd cc

    module _ (x : PublisherFields) (found : o ≡ Some x) where
      at : get_or f.publishers i None ≡ Some x
      at = read-there f.publishers i _ o there read ∙ found

      pub loan-book : ContainsKey f.books x.book
      loan-book = counted-book before f i (lender_of ready) (segments_of ready) c x at

      pub loan-linked : IsSenderLinked x.id f.connections x.keys
      loan-linked = counted-linked before f i (lender_of ready) (segments_of ready) c x at

      pub loan-apart : IsApart f.connections
      loan-apart = counted-apart before f i (lender_of ready) (segments_of ready) c x at

      pub loan-covers : BookCovers f x
      loan-covers = counted-covers before f i (lender_of ready) (segments_of ready) c x at

      pub loan-within : x.book < length f.contents
      loan-within = counted-within before f i (lender_of ready) (segments_of ready) c x at

      -- the loan is the publisher's
      pub loan-named : (slot : ℕ) → IsSomeAnd (get_or before.publishers i None)
          (λ p. IsNamed before p
          (record { publisher = x.id; number = f.next_message; place = i; book = x.book; slot = slot }))
      loan-named slot =
          subst
          (λ o. IsSomeAnd o
          (λ p. IsNamed before p (record {
            publisher = x.id;
            number = f.next_message;
            place = i;
            book = x.book;
            slot = slot;
          }))) (sym given.1)
          (record {
            publisher = ap (λ (z : PublisherFields). z.id) (sym is) ∙ id-kept ready;
            number = ap (λ (h : Fields T U). h.next_message) c.counted
                ∙ ap (λ (s : State T U). s.next_message) (c.reached).state;
            book = ap (λ (z : PublisherFields). z.book) (sym is) ∙ book-kept ready;
          })
        where
          is : record (lender_of ready) { segments = segments_of ready } ≡ x
          is = counted-is before f i (lender_of ready) (segments_of ready) c x at

      -- the one that stands there is static where nothing changed
      stays-static : (still : (is_static (given.0).allocation ≡ true) × (after ≡ before))
          → is_static x.allocation ≡ true
      stays-static still =
          let was : Some given.0 ≡ Some x =
          sym given.1 ∙ ap (λ (h : Fields T U). get_or h.publishers i None) (sym (same ∙ still.1)) ∙ at in
          let is : given.0 ≡ x = cc in
          subst (λ (z : PublisherFields). is_static z.allocation ≡ true) is still.0

      -- what holds of one that was readied
      as-ready : (grown : IsReady before i given.0 len after) (P : Fields T U → PublisherFields → Type 0)
          → P (record grown.uncounted {
            publishers = slice_set (grown.uncounted).publishers i
                (Some (record grown.lender { segments = grown.segments }));
          }) (record grown.lender { segments = grown.segments }) → P f x
      as-ready grown = seen before f i grown.lender grown.segments (grown-counts grown) x at

      is-long-enough : (grown : IsReady before i given.0 len after) → len ≤ x.segment_length
      is-long-enough grown = as-ready grown (λ h z. len ≤ z.segment_length) (grown.slot).long

      module _ (b book : Book) (its : get f.books x.book ≡ Some b) (links : Slab Link)
          (is : book ≡ with_counters b book.holders) (z : PublisherFields) (view : x ≡ z)
          (r : Reclaims z.id b.holders f.connections book.holders links) (checks : Bool) (is_default : U → Type 0) where
        abbrev is_long : PublisherFields → Bool
        is_long p = checks && nat_lt p.segment_length len

        abbrev Refused : LoanError → Type 0
        Refused e = IsSomeAnd (get_or before.publishers i None)
            (λ p. LoanReaches {A = LoanAt} is_default checks len before p (Err e)
            (record f {
              connections = links;
              books = with_value f.books x.book book;
              publishers = slice_set f.publishers i (Some z);
            }))

        -- ---- refusals: only of a static publisher

        pub loan-long : is_long z ≡ true → Refused ExceedsMaxLoanSize
        loan-long long = by ready where
          too-long : (t : Bool) (n : ℕ) → (t && nat_lt n len) ≡ true → n < len
          too-long true n e = ltb-true n len e
          too-long false n e = absurd cc

          by : Ready before i given.0 len after → Refused ExceedsMaxLoanSize
          by (inl still) = refused-long before f (same ∙ still.1) agrees i x at b book its links is z view r checks len
              (stays-static still) is_default long
          by (inr grown) =
              let low = is-long-enough grown in
              let high = too-long checks x.segment_length (ap is_long view ∙ long) in
              absurd (omega (arith, low, high))

        module _ (short : is_long z ≡ false) where
          pub loan-limited : x.max_loaned_samples ≤ length x.loans → Refused ExceedsMaxLoans
          loan-limited many = by ready where
            by : Ready before i given.0 len after → Refused ExceedsMaxLoans
            by (inl still) = refused-limited before f (same ∙ still.1) agrees i x at b book its links is z view r checks
                len (stays-static still) short is_default many
            by (inr grown) =
                let few : length x.loans < x.max_loaned_samples =
                as-ready grown (λ h w. length w.loans < w.max_loaned_samples) grown.few in
                absurd (omega (arith, few, many))

          module _ (few : length x.loans < x.max_loaned_samples)
              (kept : (All (λ n. 0 < n) b.holders → ⊥) → book ≡ b) where
            -- some slot of a segment that was readied is free
            ready-free : IsReady before i given.0 len after → All (λ n. 0 < n) (drop x.segment_start book.holders) → ⊥
            ready-free grown all =
                some (subst (λ (d : Book). All (λ n. 0 < n) (drop x.segment_start d.holders))
                (kept (λ held. some (All-drop (λ n. 0 < n) x.segment_start b.holders held))) all)
              where
                some : All (λ n. 0 < n) (drop x.segment_start b.holders) → ⊥
                some = as-ready grown
                    (λ h w. get h.books w.book ≡ Some b → All (λ n. 0 < n) (drop w.segment_start b.holders) → ⊥)
                    (λ stands held.
                    let found : Some (grown.slot).book ≡ Some b = sym (grown.slot).stands ∙ stands in
                    let same_book : (grown.slot).book ≡ b = cc in
                    (grown.slot).some_free
                    (subst (λ (d : Book). All (λ n. 0 < n) (drop (grown.lender).segment_start d.holders))
                    (sym same_book) held)) its

            pub loan-full : (All (λ n. 0 < n) book.holders → HasReclaimed links z.keys) → All (λ n. 0 < n) book.holders
                → Refused OutOfMemory
            loan-full empties all = by ready where
              by : Ready before i given.0 len after → Refused OutOfMemory
              by (inl still) = refused-full before f (same ∙ still.1) agrees i x at b book its links is z view r checks
                  len (stays-static still) short few is_default empties all
              by (inr grown) = absurd (ready-free grown (All-drop (λ n. 0 < n) x.segment_start book.holders all))

            module _ (some_free : All (λ n. 0 < n) book.holders → ⊥) where
              -- a slot of its segment is free
              pub loan-free : All (λ n. 0 < n) (drop x.segment_start book.holders) → ⊥
              loan-free all = by ready where
                by : Ready before i given.0 len after → ⊥
                by (inl still) =
                    let sound : IsDomain f = subst IsDomain (sym (same ∙ still.1)) agrees in
                    let first : x.segment_start ≡ 0 =
                    ((sound.parts.plain i x at).segment.static (stays-static still)).0 in
                    some_free (subst (λ (n : ℕ). All (λ n. 0 < n) (drop n book.holders)) first all)
                by (inr grown) = ready-free grown all

              pub loan-last : f.next_message ≡ last_number → Refused InternalFailure
              loan-last last = by ready where
                by : Ready before i given.0 len after → Refused InternalFailure
                by (inl still) = refused-last before f (same ∙ still.1) agrees i x at b book its links is z view r
                    checks len (stays-static still) short few some_free is_default last
                by (inr grown) =
                    let more : f.next_message < last_number =
                    as-ready grown (λ h w. h.next_message < last_number) grown.more in
                    absurd (omega (arith, more, last))

              -- ---- a slot is lent

              module _ (more : f.next_message < last_number) (unchecked : checks ≡ false
                  → (before.config).variant ≡ FixedSize) (one : (before.config).variant ≡ FixedSize → len ≡ 1) where
                -- the length is one that the slots were made for
                low : len ≤ slot_length x.segment_length
                low = by checks refl where
                  by : (t : Bool) → checks ≡ t → len ≤ slot_length x.segment_length
                  by true e =
                      let no : nat_lt x.segment_length len ≡ false =
                      sym (ap (λ (t : Bool). t && nat_lt x.segment_length len) e) ∙ ap is_long view ∙ short in
                      let fits : len ≤ x.segment_length = ltb-false x.segment_length len no in
                      let longest : x.segment_length ≤ slot_length x.segment_length = le-max_right 1 x.segment_length in
                      omega (arith, fits, longest)
                  by false e =
                      let its : len ≡ 1 = one (unchecked e) in
                      let some : 1 ≤ slot_length x.segment_length = le-max_left 1 x.segment_length in
                      omega (arith, its, some)

                -- the fields after it reclaimed
                abbrev reclaimed : Fields T U
                reclaimed = record f { connections = links; books = with_value f.books x.book book }

                d : Counted before reclaimed i (lender_of ready) (segments_of ready)
                d = counted-reclaims before f i (lender_of ready) (segments_of ready) c x at b book its links is
                    (subst (λ (p : PublisherFields). Reclaims p.id b.holders f.connections book.holders links)
                    (sym view) r)

                its-book : get reclaimed.books x.book ≡ Some book
                its-book = set-here f.books.slots x.book b book its

                pub loan-units : 1 < len → len * (f.config).units_per_element < 2 ^ 64
                loan-units = counted-units before f i (lender_of ready) (segments_of ready) c x at len few low

                pub loan-room : length z.loans < z.loan_room
                loan-room = subst (λ (p : PublisherFields). length p.loans < p.loan_room) view
                    (counted-room before f i (lender_of ready) (segments_of ready) c x at few)

                pub loan-start : (slot : ℕ) → slot < length book.holders → x.segment_start ≤ slot
                    → holders_at book slot ≡ 0 → (o : Option (List (ContentState T U))) → o ≡ get_or f.contents x.book o
                    → IsSomeAnd o (λ cs. MayStart cs slot (len * (f.config).units_per_element))
                loan-start slot below from free cs read_cs =
                    counted-start before reclaimed i (lender_of ready)
                    (segments_of ready) d x at len low few book its-book slot below from free cs read_cs

                module _ (taken : Book) (slot : ℕ)
                    (takes : TakesFreeSlot book taken slot f.next_message (header_in book len))
                    (cs started : Option (List (ContentState T U))) (read_cs : cs ≡ get_or f.contents x.book cs)
                    (starts : Starts is_default cs started slot (len * (f.config).units_per_element))
                    (y y' : Option PublisherFields) (read_y : y ≡ get_or f.publishers i y)
                    (lent : y' ≡ option_map (λ (p : PublisherFields). lending len slot p.segments p) y) where
                  -- the fields after the loan
                  abbrev new : Fields T U
                  new = record reclaimed {
                    next_message = f.next_message + 1;
                    books = with_value f.books x.book taken;
                    contents = slice_set f.contents x.book started;
                    publishers = slice_set f.publishers i y';
                  }

                  abbrev loan : LoanAt
                  loan = record { publisher = x.id; number = f.next_message; place = i; book = x.book; slot = slot }

                  lends : Lends is_default d.fields i (lender_of ready) slot len (segments_of ready) new
                  lends =
                      subst (λ (slots : List (Option Book)). Lends is_default d.fields i (lender_of ready) slot len
                      (segments_of ready) (record new { books = record f.books { slots = slots } }))
                      (set-set f.books.slots x.book (Some book) (Some taken))
                      (counted-lends before reclaimed i (lender_of ready) (segments_of ready) d x at len is_default book
                      taken slot its-book takes cs started read_cs starts y y' read_y lent)

                  one_static : (still : (is_static (given.0).allocation ≡ true) × (after ≡ before))
                      → (f.config).variant ≡ FixedSize → len ≡ 1
                  one_static still fixed =
                      one (sym (ap (λ (h : Fields T U). (h.config).variant) (same ∙ still.1)) ∙ fixed)

                  pub loan-granted : IsSomeAnd (get_or before.publishers i None)
                      (λ p. LoanReaches is_default checks len before p (Ok loan) new)
                  loan-granted = by ready d lends where
                    by : (k : Ready before i given.0 len after)
                        (e : Counted before reclaimed i (lender_of k) (segments_of k))
                        → Lends is_default e.fields i (lender_of k) slot len (segments_of k) new
                        → IsSomeAnd (get_or before.publishers i None)
                        (λ p. LoanReaches is_default checks len before p (Ok loan) new)
                    by (inl still) e _ =
                        granted before f (same ∙ still.1) agrees i x at b book its links is z view r checks len
                        (stays-static still) short few some_free more (one_static still)
                        is_default taken slot takes cs started read_cs starts y y' read_y lent
                    by (inr grown) e its_lends =
                        subst (λ o. IsSomeAnd o (λ p. LoanReaches is_default checks len before p (Ok loan) new))
                        (sym given.1)
                        (ready-lent before e.fields agrees i given.0 given.1 e.reached grown.lender e.stands grown.id
                        is_default checks len one grown.segments slot new its_lends (λ _. (grown.slot).long)
                        (grown.grants checks) loan)

                  pub loan-lies : LiesInSlot new x.id f.next_message x.book slot
                  loan-lies = by ready d lends where
                    by : (k : Ready before i given.0 len after)
                        (e : Counted before reclaimed i (lender_of k) (segments_of k))
                        → Lends is_default e.fields i (lender_of k) slot len (segments_of k) new
                        → LiesInSlot new x.id f.next_message x.book slot
                    by (inl still) e _ =
                        granted-lies before f (same ∙ still.1) agrees i x at b book its links is z view r checks len
                        (stays-static still) short few some_free more (one_static still)
                        is_default taken slot takes cs started read_cs starts y y' read_y lent
                    by (inr grown) e its_lends =
                        let is_lender : record grown.lender { segments = grown.segments } ≡ x =
                        counted-is before reclaimed i grown.lender grown.segments e x at in
                        let number : f.next_message ≡ (e.fields).next_message =
                        ap (λ (h : Fields T U). h.next_message) e.counted in
                        subst (λ (p : PublisherFields). LiesInSlot new p.id f.next_message p.book slot) is_lender
                        (subst (λ (n : ℕ). LiesInSlot new (grown.lender).id n (grown.lender).book slot) (sym number)
                        (ready-lies before e.fields agrees i given.0 given.1 e.reached grown.lender e.stands grown.id
                        is_default checks len one grown.segments slot new its_lends (λ _. (grown.slot).long)
                        (grown.grants checks)))
