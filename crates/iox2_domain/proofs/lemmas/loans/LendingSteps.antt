-- What the steps of a loan need and come to.
use Rattle.std.proofs.Common.{◌≡◌, ℕ, ◌+◌, ◌*◌, ◌^◌, ◌<◌, ◌≤◌, List, [], length, get_or, slice_set, refl, ap, sym}
use Rattle.std.proofs.Common.{subst, ◌∙◌, arith, slice_index_or}
use Rattle.std.proofs.Math.Nat.{mul-le-mul_right}
use Rattle.std.proofs.lemmas.Option.{get_or_from_slice_get}
use Rattle.std.specs.declared.option.Option.{Option}
use Rattle.std.specs.declared.option.Option.TheVariants.{None, Some}
use Rattle.std.specs.Option.{option_map}
use Rattle.std.specs.Prelude.{IsSomeAnd}
use Rattle.iox2_machine.specs.declared.header.Header.{Header}
use Rattle.circular_buffer.proofs.Places.{slice_get-some}
use Rattle.slab.specs.Slab.{get, with_value}
use Rattle.iox2_slots.specs.SlotBook.{Book, TakesFreeSlot, header_in, holders_at}
use Rattle.iox2_slots.specs.declared.slots.mark.SlotMark.TheVariants.{Unwritten}
use Rattle.iox2_contents.specs.SlotContents.{ContentState, open_count}
use Rattle.iox2_connections.proofs.MailboxChanges.{within_if_some}
use Rattle.iox2_domain.specs.Ports.{PublisherFields, slot_length}
use Rattle.iox2_domain.specs.Fields.{Fields}
use Rattle.iox2_domain.specs.Invariant.{IsDomain, IsBook, HasBook, HasRoomFrom, cell_lists}
use Rattle.iox2_domain.specs.Lending.{header_for, lending, MayStart, Starts}
use Rattle.iox2_domain.proofs.lemmas.slots.OpenCounts.{free-closed, open-few}
use Rattle.iox2_domain.proofs.lemmas.slots.OpenLoans.{lists-enough}
use Rattle.iox2_domain.proofs.lemmas.slots.PublisherBooks.{read-there}
use Rattle.iox2_domain.proofs.lemmas.slots.SlotRoom.{several-fit}

-- The book with the slot taken for the message with this number and header.
abbrev pub with_taken_slot : Book → (slot number : ℕ) → Header → Book
with_taken_slot book slot number header = record book {
  numbers = slice_set book.numbers slot number;
  headers = slice_set book.headers slot header;
  marks = slice_set book.marks slot Unwritten;
  holders = slice_set book.holders slot 1;
}

-- The publisher at the place lends a slot that was free, for the message with the next number. It has so many segments
-- then.
pub record Lends {T U : Type 0} (is_default : U → Type 0) (old : Fields T U) (place : ℕ) (x : PublisherFields)
    (slot len segments : ℕ) (new : Fields T U) : Type 0 where
  pub book : Book
  pub stood : get old.books x.book ≡ Some book
  pub within : slot < length book.holders
  pub free : holders_at book slot ≡ 0
  pub started : Option (List (ContentState T U))
  pub starts : Starts is_default (slice_index_or old.contents x.book None) started slot
      (len * (old.config).units_per_element)
  pub lent : new ≡ record old {
    next_message = old.next_message + 1;
    books = with_value old.books x.book (with_taken_slot book slot old.next_message (header_for old.config x.id len));
    contents = slice_set old.contents x.book started;
    publishers = slice_set old.publishers place (Some (lending len slot segments x));
  }

module _ {T U : Type 0} (f : Fields T U) (sound : IsDomain f) (i : ℕ) (x : PublisherFields)
    (at : get_or f.publishers i None ≡ Some x) where
  -- its book has contents
  pub contents-of : (b : Book) → get f.books x.book ≡ Some b
      → (cs : List (ContentState T U)) × (get_or f.contents x.book None ≡ Some cs) × (length cs ≡ length b.holders)
  contents-of b stands = by (get_or f.contents x.book None) refl (sound.parts.books.books x.book b stands) where
    by : (o : Option (List (ContentState T U))) → get_or f.contents x.book None ≡ o → IsBook b o
        → (cs : List (ContentState T U)) × (get_or f.contents x.book None ≡ Some cs) × (length cs ≡ length b.holders)
    by None e is = absurd is.shaped
    by (Some cs) e is = (cs, e, is.shaped)

  pub contents-within : x.book < length f.contents
  contents-within =
      let has : HasBook f x = sound.parts.books.publishers i x at in
      let found = contents-of has.book has.stands in
      within_if_some f.contents x.book found.0 found.1

  -- a loan that is no longer than the current segment may start in each slot of it that nobody holds
  pub may-start : (len : ℕ) → len ≤ slot_length x.segment_length → length x.loans < x.max_loaned_samples → (b : Book)
      → get f.books x.book ≡ Some b → (slot : ℕ) → slot < length b.holders → x.segment_start ≤ slot
      → holders_at b slot ≡ 0 → (o : Option (List (ContentState T U))) → o ≡ get_or f.contents x.book o
      → IsSomeAnd o (λ cs. MayStart cs slot (len * (f.config).units_per_element))
  may-start len short few b stands slot low from free o read =
      let found = contents-of b stands in
      let is : get_or f.contents x.book None ≡ o = read-there f.contents x.book found.0 o found.1 read in
      let has : HasBook f x = sound.parts.books.publishers i x at in
      let some = slice_get-some found.0 slot (let e = found.2 in omega arith) in
      let room : HasRoomFrom x.segment_start (slot_length x.segment_length * (f.config).units_per_element) found.0 =
      subst (λ (o : Option (List (ContentState T U))).
      IsSomeAnd o (HasRoomFrom x.segment_start (slot_length x.segment_length * (f.config).units_per_element))) found.1
      has.room in
      let enough : slot_length x.segment_length * (f.config).units_per_element ≤ (some.0).room =
      room.at slot some.0 from some.1 in
      let less : len * (f.config).units_per_element ≤ slot_length x.segment_length * (f.config).units_per_element =
      mul-le-mul_right (f.config).units_per_element short in
      let fits : len * (f.config).units_per_element ≤ (some.0).room = omega (arith, enough, less) in
      let closed : (some.0).cells ≡ [] =
      free-closed f sound.parts i x at found.0 found.1 b stands slot some.0 free some.1 in
      let listed : (some.0).lists ≡ cell_lists f.config x.max_loaned_samples =
      subst (λ (content : ContentState T U). content.lists ≡ cell_lists f.config x.max_loaned_samples)
      (get_or_from_slice_get found.0 slot some.0 some.0 some.1)
      (sound.parts.open_loans.lists i x found.0 at found.1 slot some.0 (let e = found.2 in omega (arith, low, e))) in
      let opened : open_count found.0 ≤ length x.loans = open-few f sound.parts i x at found.0 found.1 in
      subst (λ (o : Option (List (ContentState T U))).
      IsSomeAnd o (λ cs. MayStart cs slot (len * (f.config).units_per_element))) (sym found.1 ∙ is)
      (record {
        fit = subst (λ (o : Option (ContentState T U)).
            IsSomeAnd o (λ content. len * (f.config).units_per_element ≤ content.room)) (sym some.1) fits;
        ended = subst (λ (o : Option (ContentState T U)).
            IsSomeAnd o (λ content. 0 < content.lists → content.cells ≡ [])) (sym some.1) (λ _. closed);
        few = subst (λ (o : Option (ContentState T U)).
            IsSomeAnd o (λ content. 0 < content.lists → open_count found.0 < content.lists)) (sym some.1)
            (λ lists. let enough = lists-enough f.config x.max_loaned_samples (subst (λ n. 0 < n) listed lists) in
            omega (arith, opened, few, enough, listed));
      })

  -- several elements that fit a slot fit a machine word
  pub lent-fits : (len : ℕ) → length x.loans < x.max_loaned_samples → len ≤ slot_length x.segment_length → 1 < len
      → len * (f.config).units_per_element < 2 ^ 64
  lent-fits len few short several =
      let some : 0 < x.slots = (sound.parts.plain i x at).segment.some (omega (arith, few)) in
      several-fit f.config x.slots x.segment_length len (sound.parts.publisher_room i x at).size some short several

  -- the steps together are a loan
  pub lends-from : (len segments : ℕ) (is_default : U → Type 0) (b b' : Book) (slot : ℕ) → get f.books x.book ≡ Some b
      → TakesFreeSlot b b' slot f.next_message (header_in b len)
      → (o started : Option (List (ContentState T U))) → o ≡ get_or f.contents x.book o
      → Starts is_default o started slot (len * (f.config).units_per_element)
      → (y y' : Option PublisherFields) → y ≡ get_or f.publishers i y → y' ≡ option_map (lending len slot segments) y
      → Lends is_default f i x slot len segments (record f {
        next_message = f.next_message + 1;
        books = with_value f.books x.book b';
        contents = slice_set f.contents x.book started;
        publishers = slice_set f.publishers i y';
      })
  lends-from len segments is_default b b' slot stands takes o started read starts y y' read_y lent =
      let found = contents-of b stands in
      record {
        book = b;
        stood = stands;
        within = takes.in_bounds;
        free = takes.was_unused;
        started = started;
        starts = subst (λ (p : Option (List (ContentState T U))).
            Starts is_default p started slot (len * (f.config).units_per_element))
            (sym (read-there f.contents x.book found.0 o found.1 read)) starts;
        lent = λ t. record f {
          next_message = f.next_message + 1;
          books = with_value f.books x.book (book t);
          contents = slice_set f.contents x.book started;
          publishers = slice_set f.publishers i (lender t);
        };
      }
    where
      its : header_in b len ≡ header_for f.config x.id len
      its =
          let has : HasBook f x = sound.parts.books.publishers i x at in
          let found : Some has.book ≡ Some b = sym has.stands ∙ stands in
          let same : has.book ≡ b = cc in
          let node : b.node ≡ (f.config).node_id = sym (ap (λ (c : Book). c.node) same) ∙ has.node in
          let publisher : b.publisher ≡ x.id = sym (ap (λ (c : Book). c.publisher) same) ∙ has.is_its in
          λ j. record { node_id = node j; publisher_id = publisher j; number_of_elements = len }

      book : b' ≡ with_taken_slot b slot f.next_message (header_for f.config x.id len)
      book = takes.taken ∙ ap (with_taken_slot b slot f.next_message) its

      lender : y' ≡ Some (lending len slot segments x)
      lender = lent ∙ ap (option_map (lending len slot segments)) (sym (read-there f.publishers i x y at read_y) ∙ at)
