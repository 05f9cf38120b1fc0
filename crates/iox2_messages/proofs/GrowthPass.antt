-- A publisher makes a further segment.
use Rattle.std.proofs.Common.{◌≡◌, Bool, true, ◌<◌, ◌≤◌, ℕ, ◌+◌, ◌*◌, ◌^◌, List, None, Some, length, get_or, slice_set}
use Rattle.std.proofs.Common.{ap, sym, subst, ◌∙◌, arith}
use Rattle.std.proofs.lemmas.List.{set-get_or}
use Rattle.std.specs.declared.option.Option.{Option}
use Rattle.std.specs.Prelude.{max, not}
use Rattle.std.specs.List.{All}
use Rattle.slab.specs.Slab.{get, with_value}
use Rattle.iox2_contents.specs.SlotContents.{ContentState, lists_for}
use Rattle.iox2_slots.specs.SlotBook.{Book, holders_at, with_more_slots}
use Rattle.iox2_messages.specs.OlderSlots.{ClearsOlder, LetsGoOfOlder}
use Rattle.iox2_machine.specs.SingleValues.{is_single_valued}
use Rattle.iox2_machine.specs.machine.Limits.{segment_fits, segment_limit}
use Rattle.iox2_domain.specs.Fields.{Fields, publisher_of}
use Rattle.iox2_domain.specs.Growth.{ClearsUnused, Grows, GrowsContents, IsNextLength, with_segment}
use Rattle.iox2_domain.specs.Invariant.{IsDomain, lists_wanted}
use Rattle.iox2_domain.specs.Ports.{PublisherFields, slot_length}
use Rattle.iox2_domain.proofs.lemmas.fields.ConnectionEnds.{publisher-stands}
use Rattle.iox2_domain.proofs.lemmas.loans.LendingSteps.{contents-of, contents-within}
use Rattle.iox2_domain.proofs.lemmas.slots.PublisherBooks.{read-there}
use Rattle.iox2_domain.proofs.lemmas.slots.SlotRoom.{several-fit}

module _ {T U : Type 0} (before f : Fields T U) (same : f ≡ before) (agrees : IsDomain before) (i : ℕ)
    (x : PublisherFields) (at : get_or f.publishers i None ≡ Some x)
    (z : PublisherFields) (view : x ≡ z) where
  sound : IsDomain f
  sound = subst IsDomain (sym same) agrees

  -- no more segments than the limit were made
  pub segments-bound : z.segments ≤ segment_limit
  segments-bound = subst (λ (y : PublisherFields). y.segments ≤ segment_limit) view
      (sound.well_formed.publishers x.id ((publisher_of f.books f.connections x).port)
      (publisher-stands f sound.parts i x at)).segments_bound

  -- its contents stand
  pub growth-within : x.book < length f.contents
  growth-within = contents-within f sound i x at

  is-given : (x0 : PublisherFields) → get_or before.publishers i None ≡ Some x0 → x ≡ x0
  is-given x0 at0 =
      let found : Some x ≡ Some x0 = sym at ∙ ap (λ (h : Fields T U). get_or h.publishers i None) same ∙ at0 in cc

  -- all segments were made, or some are left
  pub all-made : (x0 : PublisherFields) → get_or before.publishers i None ≡ Some x0 → segment_limit ≤ z.segments
      → x0.segments ≡ segment_limit
  all-made x0 at0 many =
      subst (λ (y : PublisherFields). y.segments ≡ segment_limit) (sym view ∙ is-given x0 at0)
      (let most = segments-bound in omega (arith, most, many))

  pub some-left : (x0 : PublisherFields) → get_or before.publishers i None ≡ Some x0 → z.segments < segment_limit
      → x0.segments < segment_limit
  some-left x0 at0 fewer =
      subst (λ (y : PublisherFields). y.segments < segment_limit) (sym view ∙ is-given x0 at0) fewer

  -- it has contents
  pub growth-some : (o : Option (List (ContentState T U))) → o ≡ get_or f.contents x.book o → o ≡ None → ⊥
  growth-some o read none =
      let has = sound.parts.books.publishers i x at in
      let found = contents-of f sound i x at has.book has.stands in
      let clash : Some found.0 ≡ None = sym found.1 ∙ read-there f.contents x.book found.0 o found.1 read ∙ none in
      absurd cc

  module _ (book : Book) (its : get f.books x.book ≡ Some book) where
    -- there are contents for each slot
    pub growth-shaped : (o : Option (List (ContentState T U))) → o ≡ get_or f.contents x.book o
        → (cs : List (ContentState T U)) → o ≡ Some cs → length cs ≡ length book.holders
    growth-shaped o read cs there =
        let found = contents-of f sound i x at book its in
        let same : Some found.0 ≡ Some cs = sym found.1 ∙ read-there f.contents x.book found.0 o found.1 read ∙ there in
        let is : found.0 ≡ cs = cc in
        ap (length {A = ContentState T U}) (sym is) ∙ found.2

    -- of which there are some, with as many lists of cells as the publisher's loans need
    module _ (o : Option (List (ContentState T U))) (read : o ≡ get_or f.contents x.book o)
        (cs : List (ContentState T U)) (there : o ≡ Some cs) where
      pub growth-any : ((y : PublisherFields) × (get_or before.publishers i None ≡ Some y) × (0 < y.slots))
          → 0 < length cs
      growth-any given =
          let its_is : given.0 ≡ x = sym (is-given given.0 given.1) in
          let some : 0 < x.slots = subst (λ (y : PublisherFields). 0 < y.slots) its_is given.2 in
          let has = sound.parts.books.publishers i x at in
          let found : Some has.book ≡ Some book = sym has.stands ∙ its in
          let is : has.book ≡ book = cc in
          let count : length book.holders ≡ x.segment_start + x.slots =
          ap (λ (b : Book). length b.holders) (sym is) ∙ has.slots in
          omega (arith, some, count, growth-shaped o read cs there)

      pub growth-lists : (in_lists : Bool) (lists : ℕ) → in_lists ≡ not (is_single_valued f.config)
          → lists ≡ lists_wanted f.config z.max_loaned_samples
          → All (λ content. content.lists ≡ lists_for in_lists lists) cs
      growth-lists in_lists lists listed wanted =
          let found = contents-of f sound i x at book its in
          let same_cs : Some found.0 ≡ Some cs =
          sym found.1 ∙ read-there f.contents x.book found.0 o found.1 read ∙ there in
          let stood : get_or f.contents x.book None ≡ Some cs = found.1 ∙ same_cs in
          let wants : lists ≡ lists_wanted f.config x.max_loaned_samples =
          wanted ∙ ap (λ (y : PublisherFields). lists_wanted f.config y.max_loaned_samples) (sym view) in
          subst (λ (n : ℕ). All (λ content. content.lists ≡ n) cs)
          (ap (λ (b : Bool). lists_for b (lists_wanted f.config x.max_loaned_samples)) (sym listed)
          ∙ ap (lists_for in_lists) (sym wants))
          (sound.parts.open_loans.lists i x cs at stood)

  -- so many elements fit a machine word
  pub growth-fits : (longest most : ℕ) → segment_fits f.config z.slots longest ≡ true
      → ((y : PublisherFields) × (get_or before.publishers i None ≡ Some y) × (0 < y.slots)) → most ≡ max 1 longest
      → 1 < most → most * (f.config).units_per_element < 2 ^ 64
  growth-fits longest most fits given is several =
      let found : Some given.0 ≡ Some x =
      sym given.1 ∙ ap (λ (h : Fields T U). get_or h.publishers i None) (sym same) ∙ at in
      let its : given.0 ≡ z = (let e : given.0 ≡ x = cc in e) ∙ view in
      let some : 0 < z.slots = subst (λ (y : PublisherFields). 0 < y.slots) its given.2 in
      several-fit f.config z.slots longest most fits some (omega (arith, is)) several

  -- ---- nothing changes

  set-same : {A : Type 0} (xs : List (Option A)) (k : ℕ) (o : Option A) → get_or xs k None ≡ o → slice_set xs k o ≡ xs
  set-same xs k o e = ap (slice_set xs k) (sym e) ∙ set-get_or xs k None

  -- the publisher is written back as it was
  pub unchanged : record f { publishers = slice_set f.publishers i (Some z) } ≡ before
  unchanged = ap (λ (xs : List (Option PublisherFields)). record f { publishers = xs })
      (set-same f.publishers i (Some z) (at ∙ ap Some view)) ∙ same

  -- ---- the publisher has a further segment

  pub grew : (x0 : PublisherFields) → get_or before.publishers i None ≡ Some x0
      → (start asked longest : ℕ) (book book' : Book) (cs cs' : List (ContentState T U)) (units : ℕ) (in_lists : Bool)
      (lists : ℕ)
      → get f.books x.book ≡ Some book → book' ≡ with_more_slots x.slots book → (o : Option (List (ContentState T U)))
      → o ≡ get_or f.contents x.book o → o ≡ Some cs
      → GrowsContents book x.slots units in_lists lists cs cs' → units ≡ max 1 longest * (f.config).units_per_element
      → in_lists ≡ not (is_single_valued f.config) → lists ≡ lists_wanted f.config z.max_loaned_samples
      → start ≡ length book.holders → segment_fits f.config z.slots longest ≡ true → z.segment_length ≤ longest
      → IsNextLength z.allocation z.segment_length asked longest
      → Grows before i x0 asked longest
      (record f {
        books = with_value f.books x.book book';
        contents = slice_set f.contents x.book (Some cs');
        publishers = slice_set f.publishers i (Some (with_segment start longest x));
      })
  grew x0 at0 start asked longest book book' cs cs' units in_lists lists its is o read there grows units-are listed
      wanted first fits longer next =
      subst (λ (y : PublisherFields). Grows before i y asked longest new) (is-given x0 at0)
      (subst (λ (h : Fields T U). Grows h i x asked longest new) same here)
    where
      new : Fields T U
      new = record f {
        books = with_value f.books x.book book';
        contents = slice_set f.contents x.book (Some cs');
        publishers = slice_set f.publishers i (Some (with_segment start longest x));
      }

      stood : get_or f.contents x.book None ≡ Some cs
      stood =
          let found = contents-of f sound i x at book its in
          read-there f.contents x.book found.0 o found.1 read ∙ there

      here : Grows f i x asked longest new
      here = record {
        book = book;
        stood = its;
        contents = cs;
        had = stood;
        grown = cs';
        grows = subst (λ (b : Bool). GrowsContents book x.slots (slot_length longest * (f.config).units_per_element) b
            (lists_wanted f.config x.max_loaned_samples) cs cs') listed
            (subst (λ (n : ℕ).
            GrowsContents book x.slots (slot_length longest * (f.config).units_per_element) in_lists n cs cs')
            (wanted ∙ ap (λ (y : PublisherFields). lists_wanted f.config y.max_loaned_samples) (sym view))
            (subst (λ (n : ℕ). GrowsContents book x.slots n in_lists lists cs cs') units-are grows));
        fits = subst (λ (y : PublisherFields). segment_fits f.config y.slots longest ≡ true) (sym view) fits;
        longer = subst (λ (y : PublisherFields). y.segment_length ≤ longest) (sym view) longer;
        next =
            subst (λ (y : PublisherFields). IsNextLength y.allocation y.segment_length asked longest) (sym view) next;
        is = λ t. record f {
          books = with_value f.books x.book (is t);
          contents = slice_set f.contents x.book (Some cs');
          publishers = slice_set f.publishers i (Some (with_segment (first t) longest x));
        };
      }

  -- ---- what lay in older slots is given up

  pub gave-up : (x0 : PublisherFields) → get_or before.publishers i None ≡ Some x0
      → (book : Book) (cs left : List (ContentState T U)) (slots : List ℕ)
      → get f.books x.book ≡ Some book → (o : Option (List (ContentState T U))) → o ≡ get_or f.contents x.book o
      → o ≡ Some cs
      → All (λ slot. (slot < length book.holders) × (holders_at book slot ≡ 0)) slots
      → ((b : Book) → All (λ slot. holders_at b slot ≡ 0) slots → ClearsUnused b x.segment_start cs left)
      → LetsGoOfOlder slots x.segment_start left
      → ClearsOlder before x0 (record f
      { contents = slice_set f.contents x.book (Some left); publishers = slice_set f.publishers i (Some x) })
  gave-up x0 at0 book cs left slots its o read there free clears given_up =
      subst (λ (y : PublisherFields). ClearsOlder before y new) (is-given x0 at0)
      (subst (λ (h : Fields T U). ClearsOlder h x new) same here)
    where
      new : Fields T U
      new = record f
          { contents = slice_set f.contents x.book (Some left); publishers = slice_set f.publishers i (Some x) }

      stood : get_or f.contents x.book None ≡ Some cs
      stood =
          let found = contents-of f sound i x at book its in
          read-there f.contents x.book found.0 o found.1 read ∙ there

      unused : All (λ slot. holders_at book slot ≡ 0) slots
      unused k d lt = (free k d lt).1

      here : ClearsOlder f x new
      here = record {
        book = book;
        stood = its;
        contents = cs;
        had = stood;
        slots = slots;
        unused = unused;
        left = left;
        clears = clears book unused;
        given_up = given_up;
        is = λ t. record f
            { contents = slice_set f.contents x.book (Some left); publishers = set-same f.publishers i (Some x) at t };
      }
