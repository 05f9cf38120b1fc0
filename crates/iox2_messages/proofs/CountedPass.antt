-- The fields while a publisher lends, seen but for the number of its segments.
use Rattle.std.proofs.Common.{◌≡◌, ◌<◌, ◌≤◌, ℕ, ◌+◌, ◌*◌, ◌^◌, List, None, Some, length, get_or, set-set, slice_set}
use Rattle.std.proofs.Common.{refl, ap, sym, subst, ◌∙◌, arith}
use Rattle.std.proofs.lemmas.List.{get_or-set_same, get_or_default, set-get_or}
use Rattle.std.specs.declared.option.Option.{Option}
use Rattle.std.specs.Option.{option_map}
use Rattle.std.specs.Prelude.{IsSomeAnd}
use Rattle.slab.specs.Slab.{Slab, ContainsKey, get, with_value}
use Rattle.iox2_contents.specs.SlotContents.{ContentState}
use Rattle.iox2_connections.specs.Link.{Link}
use Rattle.iox2_slots.specs.SlotBook.{Book, TakesFreeSlot, header_in, holders_at}
use Rattle.iox2_connections.specs.Counters.{with_counters}
use Rattle.iox2_connections.specs.Homes.{IsApart, IsSenderLinked}
use Rattle.iox2_connections.specs.Reclaims.{Reclaims}
use Rattle.iox2_connections.proofs.MailboxChanges.{within_if_some}
use Rattle.iox2_domain.specs.Fields.{Fields, kept_of}
use Rattle.iox2_domain.specs.Invariant.{IsDomain}
use Rattle.iox2_domain.specs.Kept.{state_of}
use Rattle.iox2_domain.specs.Lending.{MayStart, Starts, lending}
use Rattle.iox2_domain.specs.Ports.{PublisherFields, slot_length}
use Rattle.iox2_domain.specs.Reaches.{Reaches}
use Rattle.iox2_domain.proofs.lemmas.fields.ReachesShows.{reaches-then}
use Rattle.iox2_domain.proofs.lemmas.loans.LendingSteps.{contents-within, lends-from, lent-fits, may-start, Lends}
use Rattle.iox2_domain.proofs.lemmas.slots.PublisherBooks.{BookCovers, read-there, book-there, sender-linked}
use Rattle.iox2_domain.proofs.lemmas.slots.PublisherBooks.{book-covers}
use Rattle.iox2_domain.proofs.lemmas.slots.ReclaimSteps.{publisher-reclaims}
use Rattle.iox2_messages.specs.ReadySlots.{with_segments}

-- with the segments that it has nothing changes
pub segments-same : {T U : Type 0} (f : Fields T U) (i : ℕ) (x : PublisherFields) → get_or f.publishers i None ≡ Some x
    → with_segments f i x x.segments ≡ f
segments-same f i x at =
    ap (λ (ps : List (Option PublisherFields)). record f { publishers = ps })
    (ap (slice_set f.publishers i) (sym at) ∙ set-get_or f.publishers i None)

-- The fields are these but for the number of segments of the publisher at the place, and these agree and keep what was
-- kept.
pub record Counted {T U : Type 0} (before f : Fields T U) (i : ℕ) (lender : PublisherFields)
    (segments : ℕ) : Type 0 where
  pub fields : Fields T U
  pub reached : Reaches before fields (state_of (kept_of before))
  pub stands : get_or fields.publishers i None ≡ Some lender
  pub counted : f ≡ with_segments fields i lender segments

module _ {T U : Type 0} (before f : Fields T U) (i : ℕ) (y : PublisherFields) (segments : ℕ)
    (c : Counted before f i y segments) where
  abbrev g : Fields T U
  g = c.fields

  abbrev counted_lender : PublisherFields
  counted_lender = record y { segments = segments }

  abbrev whole : Fields T U
  whole = with_segments g i y segments

  sound : IsDomain g
  sound = (c.reached).agrees

  there_whole : get_or whole.publishers i None ≡ Some counted_lender
  there_whole = get_or-set_same g.publishers i (Some counted_lender) None (within_if_some g.publishers i y c.stands)

  -- it stands at its place
  pub counted-there : get_or f.publishers i None ≡ Some counted_lender
  counted-there = ap (λ (h : Fields T U). get_or h.publishers i None) c.counted ∙ there_whole

  module _ (x : PublisherFields) (at : get_or f.publishers i None ≡ Some x) where
    pub counted-is : counted_lender ≡ x
    counted-is = let found : Some counted_lender ≡ Some x = sym counted-there ∙ at in cc

    pub seen : (P : Fields T U → PublisherFields → Type 0) → P whole counted_lender → P f x
    seen P p = subst (λ (h : Fields T U). P h x) (sym c.counted) (subst (P whole) counted-is p)

    -- ---- what holds of its book, its connections and its contents

    pub counted-book : ContainsKey f.books x.book
    counted-book = seen (λ h z. ContainsKey h.books z.book) (book-there g sound.parts i y c.stands)

    pub counted-linked : IsSenderLinked x.id f.connections x.keys
    counted-linked = seen (λ h z. IsSenderLinked z.id h.connections z.keys) (sender-linked g sound.parts i y c.stands)

    pub counted-apart : IsApart f.connections
    counted-apart = seen (λ h z. IsApart h.connections) sound.parts.apart

    pub counted-covers : BookCovers f x
    counted-covers = seen BookCovers (book-covers g sound.parts i y c.stands)

    pub counted-within : x.book < length f.contents
    counted-within = seen (λ h z. z.book < length h.contents) (contents-within g sound i y c.stands)

    pub counted-room : length x.loans < x.max_loaned_samples → length x.loans < x.loan_room
    counted-room = seen (λ h z. length z.loans < z.max_loaned_samples → length z.loans < z.loan_room)
        (λ few. let room = (sound.parts.publisher_room i y c.stands).loans in omega (arith, few, room))

    module _ (len : ℕ) where
      pub counted-units : length x.loans < x.max_loaned_samples → len ≤ slot_length x.segment_length → 1 < len
          → len * (f.config).units_per_element < 2 ^ 64
      counted-units = seen (λ h z. length z.loans < z.max_loaned_samples → len ≤ slot_length z.segment_length → 1 < len
          → len * (h.config).units_per_element < 2 ^ 64)
          (lent-fits g sound i y c.stands len)

      pub counted-start : len ≤ slot_length x.segment_length → length x.loans < x.max_loaned_samples → (b : Book)
          → get f.books x.book ≡ Some b → (slot : ℕ) → slot < length b.holders → x.segment_start ≤ slot
          → holders_at b slot ≡ 0 → (o : Option (List (ContentState T U))) → o ≡ get_or f.contents x.book o
          → IsSomeAnd o (λ cs. MayStart cs slot (len * (f.config).units_per_element))
      counted-start = seen (λ h z. len ≤ slot_length z.segment_length → length z.loans < z.max_loaned_samples
          → (b : Book) → get h.books z.book ≡ Some b → (slot : ℕ) → slot < length b.holders → z.segment_start ≤ slot
          → holders_at b slot ≡ 0 → (o : Option (List (ContentState T U))) → o ≡ get_or h.contents z.book o
          → IsSomeAnd o (λ cs. MayStart cs slot (len * (h.config).units_per_element)))
          (may-start g sound i y c.stands len)

      -- ---- the steps together are a loan, of the segments that are counted

      pub counted-lends : (is_default : U → Type 0) (b b' : Book) (slot : ℕ) → get f.books x.book ≡ Some b
          → TakesFreeSlot b b' slot f.next_message (header_in b len)
          → (o started : Option (List (ContentState T U))) → o ≡ get_or f.contents x.book o
          → Starts is_default o started slot (len * (f.config).units_per_element)
          → (z z' : Option PublisherFields) → z ≡ get_or f.publishers i z
          → z' ≡ option_map (λ (p : PublisherFields). lending len slot p.segments p) z
          → Lends is_default g i y slot len segments (record f {
            next_message = f.next_message + 1;
            books = with_value f.books x.book b';
            contents = slice_set f.contents x.book started;
            publishers = slice_set f.publishers i z';
          })
      counted-lends is_default = seen (λ h w. (b b' : Book) (slot : ℕ) → get h.books w.book ≡ Some b
          → TakesFreeSlot b b' slot h.next_message (header_in b len)
          → (o started : Option (List (ContentState T U))) → o ≡ get_or h.contents w.book o
          → Starts is_default o started slot (len * (h.config).units_per_element)
          → (z z' : Option PublisherFields) → z ≡ get_or h.publishers i z
          → z' ≡ option_map (λ (p : PublisherFields). lending len slot p.segments p) z
          → Lends is_default g i y slot len segments (record h {
            next_message = h.next_message + 1;
            books = with_value h.books w.book b';
            contents = slice_set h.contents w.book started;
            publishers = slice_set h.publishers i z';
          })) here
        where
          here : (b b' : Book) (slot : ℕ) → get g.books y.book ≡ Some b
              → TakesFreeSlot b b' slot g.next_message (header_in b len)
              → (o started : Option (List (ContentState T U))) → o ≡ get_or g.contents y.book o
              → Starts is_default o started slot (len * (g.config).units_per_element)
              → (z z' : Option PublisherFields) → z ≡ get_or whole.publishers i z
              → z' ≡ option_map (λ (p : PublisherFields). lending len slot p.segments p) z
              → Lends is_default g i y slot len segments (record g {
                next_message = g.next_message + 1;
                books = with_value g.books y.book b';
                contents = slice_set g.contents y.book started;
                publishers = slice_set whole.publishers i z';
              })
          here b b' slot its takes o started read starts z z' read_z lent =
              let stood : z ≡ Some counted_lender =
              sym (read-there whole.publishers i counted_lender z there_whole read_z) ∙ there_whole in
              let lends' : z' ≡ option_map (lending len slot segments) (Some y) =
              lent ∙ ap (option_map (λ (p : PublisherFields). lending len slot p.segments p)) stood in
              let read_y : Some y ≡ get_or g.publishers i (Some y) =
              sym c.stands ∙ get_or_default g.publishers i None (Some y) (within_if_some g.publishers i y c.stands) in
              subst (λ (ps : List (Option PublisherFields)). Lends is_default g i y slot len segments (record g {
                next_message = g.next_message + 1;
                books = with_value g.books y.book b';
                contents = slice_set g.contents y.book started;
                publishers = ps;
              })) (sym (set-set g.publishers i (Some counted_lender) z'))
              (lends-from g sound i y c.stands len segments is_default b b' slot its takes o started read starts
              (Some y) z' read_y lends')

    -- ---- after it reclaimed slots

    module _ (b book : Book) (its : get f.books x.book ≡ Some b) (links : Slab Link)
        (is : book ≡ with_counters b book.holders)
        (r : Reclaims x.id b.holders f.connections book.holders links) where
      pub counted-reclaims : Counted before
          (record f { connections = links; books = with_value f.books x.book book }) i y segments
      counted-reclaims =
          seen (λ h z. get h.books z.book ≡ Some b → Reclaims z.id b.holders h.connections book.holders links
          → Counted before (record h { connections = links; books = with_value h.books z.book book }) i y segments) here
          its r
        where
          here : get g.books y.book ≡ Some b → Reclaims y.id b.holders g.connections book.holders links
              → Counted before
              (record whole { connections = links; books = with_value g.books y.book book }) i y segments
          here stands reclaims = record {
            fields = record g { connections = links; books = with_value g.books y.book book };
            reached = reaches-then before g
                (record g { connections = links; books = with_value g.books y.book book }) _ _ c.reached
                (subst (Reaches g (record g { connections = links; books = with_value g.books y.book book }))
                (c.reached).state
                (publisher-reclaims g g refl sound i y c.stands b book stands links is reclaims));
            stands = c.stands;
            counted = refl;
          }
