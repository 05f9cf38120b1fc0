-- What is read of a borrowed message is its entry's.
use Rattle.std.proofs.Common.{◌≡◌, ℕ, ◌<◌, List, [], ◌∷◌, false, length, get_or, refl, ap, sym, subst, ◌∙◌, arith}
use Rattle.std.proofs.Common.{Option, Some, None, IsSomeAnd}
use Rattle.std.proofs.lemmas.List.{get_or_read}
use Rattle.std.proofs.lemmas.Option.{slice_get_within, get_or_from_slice_get}
use Rattle.std.specs.Prelude.{slice_get}
use Rattle.std.specs.Option.{option_map, option_and_then}
use Rattle.slab.specs.Slab.{get}
use Rattle.iox2_machine.specs.machine.Records.{Entry}
use Rattle.iox2_machine.specs.SingleValues.{is_single_valued}
use Rattle.iox2_slots.specs.SlotBook.{Book}
use Rattle.iox2_contents.specs.SlotContents.{ContentState, SomeAt, first_value_at, values_at, user_header_at}
use Rattle.iox2_machine.specs.declared.header.Header.{Header}
use Rattle.iox2_machine.specs.declared.service_config.TypeVariant.TheVariants.{FixedSize}
use Rattle.iox2_connections.proofs.MailboxChanges.{within_if_some}
use Rattle.iox2_domain.specs.Kept.{entries_of}
use Rattle.iox2_domain.specs.Fields.{Fields, kept_of}
use Rattle.iox2_domain.specs.Invariant.{IsDomain}
use Rattle.iox2_domain.specs.SampleSlots.{LiesBorrowed}
use Rattle.iox2_domain.specs.declared.sample_slots.SampleSlot.{SampleSlot}
use Rattle.iox2_domain.proofs.lemmas.samples.SampleEntries.{SampleEntry, sample-entry}
use Rattle.iox2_domain.proofs.lemmas.loans.LoanCalls.{one-element}

-- a subscriber has borrowed the message that lies there
pub record IsBorrowedThere {T U : Type 0} (f now : Fields T U) (q n : ℕ) (at : SampleSlot) : Type 0 where
  pub same : f ≡ now
  pub sound : IsDomain now
  pub lies : LiesBorrowed now q n at

module _ {T U : Type 0} (f now : Fields T U) (q n : ℕ) (at : SampleSlot) (there : IsBorrowedThere f now q n at) where
  its-entry : SampleEntry now ((there.lies).connection).home.publisher n at (there.lies).book
  its-entry = sample-entry now there.sound q n at there.lies

  -- ---- the header

  module _ (b : Book) (at_b : get f.books at.book ≡ Some b) where
    its-book : (there.lies).book ≡ b
    its-book =
        let one : Some (there.lies).book ≡ Some b =
        sym (there.lies).has_book ∙ ap (λ (h : Fields T U). get h.books at.book) (sym there.same) ∙ at_b in
        let is : (there.lies).book ≡ b = cc in
        is

    pub slot-within : at.slot < length b.holders
    slot-within = subst (λ (x : Book). at.slot < length x.holders) its-book its-entry.within

    pub header-read : (header : Header) → slice_get b.headers at.slot ≡ Some header
        → (entry : Entry T U) × (entries_of (kept_of now) n ≡ Some entry) × (entry.header ≡ header)
    header-read header read =
        let one : Some (its-entry.entry).header ≡ Some header =
        sym its-entry.headers ∙ ap (λ (x : Book). slice_get x.headers at.slot) its-book ∙ read in
        let is : (its-entry.entry).header ≡ header = cc in
        (its-entry.entry, its-entry.is_kept, is)

  -- ---- the payload

  -- the book has contents
  has-contents : (cs : List (ContentState T U)) × (get_or now.contents at.book None ≡ Some cs)
  has-contents = by (get_or now.contents at.book None) refl
      (((there.sound).parts.books.books at.book (there.lies).book (there.lies).has_book).shaped) where
        by : (o : Option (List (ContentState T U))) → get_or now.contents at.book None ≡ o
            → IsSomeAnd o (λ cs. length cs ≡ length ((there.lies).book).holders)
            → (cs : List (ContentState T U)) × (get_or now.contents at.book None ≡ Some cs)
        by None e h = absurd h
        by (Some cs) e h = (cs, e)

  pub book-within : at.book < length f.contents
  book-within = subst (λ (h : Fields T U). at.book < length h.contents) (sym there.same)
      (within_if_some now.contents at.book has-contents.0 has-contents.1)

  module _ (o : Option (List (ContentState T U))) (read : o ≡ get_or f.contents at.book o) where
    read-contents : o ≡ Some has-contents.0
    read-contents =
        get_or_read f.contents at.book o book-within read None
        ∙ ap (λ (h : Fields T U). get_or h.contents at.book None) there.same ∙ has-contents.1

    pub no-contents : o ≡ None → ⊥
    no-contents none = let no : None ≡ Some has-contents.0 = sym none ∙ read-contents in cc

    module _ (cs : List (ContentState T U)) (is : o ≡ Some cs) where
      its-contents : slice_get cs at.slot ≡ Some its-entry.content
      its-contents =
          let one : Some has-contents.0 ≡ Some cs = sym read-contents ∙ is in
          let same : has-contents.0 ≡ cs = cc in
          ap (λ (xs : List (ContentState T U)). slice_get xs at.slot) (sym same)
          ∙ ap (λ (x : Option (List (ContentState T U))). slice_get (elim x [ None ↦ [] | Some ys ↦ ys ]) at.slot)
          (sym has-contents.1)
          ∙ its-entry.contains

      pub value-there : (now.config).variant ≡ FixedSize → (now.config).units_per_element ≡ 1
          → SomeAt cs at.slot (λ content. 0 < length content.values)
      value-there fixed one =
          let single : length (its-entry.entry).values ≡ 1 = its-entry.one_value fixed one in
          let some : 0 < length (its-entry.content).values =
          subst (λ (xs : List T). 0 < length xs) its-entry.values_are (omega (arith, single)) in
          rw its-contents some

      -- where messages aren't single values they lie in lists
      pub values-there : is_single_valued now.config ≡ false
          → SomeAt cs at.slot (λ content. content.is_in_place ≡ false)
      values-there several =
          let one : Some has-contents.0 ≡ Some cs = sym read-contents ∙ is in
          let same : has-contents.0 ≡ cs = cc in
          let listed : (its-entry.content).is_in_place ≡ false =
          subst (λ (c : ContentState T U). c.is_in_place ≡ false)
          (get_or_from_slice_get cs at.slot its-entry.content its-entry.content its-contents)
          (((there.sound).parts.forms.at several at.book cs (has-contents.1 ∙ ap Some same)) at.slot its-entry.content
          (slice_get_within cs at.slot its-entry.content its-contents)) in
          rw its-contents listed

      pub values-read : (xs : List T) → values_at cs at.slot ≡ Some xs
          → (entry : Entry T U) × (entries_of (kept_of now) n ≡ Some entry) × (entry.values ≡ xs)
      values-read xs read-at =
          let got : Some (its-entry.content).values ≡ Some xs =
          sym (ap (option_map (λ (content : ContentState T U). content.values)) its-contents) ∙ read-at in
          let values : (its-entry.content).values ≡ xs = cc in
          (its-entry.entry, its-entry.is_kept, its-entry.values_are ∙ values)

      pub value-read : (now.config).variant ≡ FixedSize → (now.config).units_per_element ≡ 1 → (x : T)
          → first_value_at cs at.slot ≡ Some x
          → (entry : Entry T U) × (entries_of (kept_of now) n ≡ Some entry) × (entry.values ≡ x ∷ [])
      value-read fixed one x first =
          let got : slice_get (its-entry.content).values 0 ≡ Some x =
          ap (option_and_then (λ (content : ContentState T U). slice_get content.values 0)) (sym its-contents)
          ∙ first in
          let single : length (its-entry.entry).values ≡ 1 = its-entry.one_value fixed one in (
            its-entry.entry,
            its-entry.is_kept,
            one-element (its-entry.entry).values x single
                (ap (λ (xs : List T). slice_get xs 0) its-entry.values_are ∙ got),
          )

      -- ---- the user header

      pub user_header-there : at.slot < length cs
      user_header-there = slice_get_within cs at.slot its-entry.content its-contents

      pub user_header-read : (user_header : U) → user_header_at cs at.slot ≡ Some user_header
          → (entry : Entry T U) × (entries_of (kept_of now) n ≡ Some entry) × (entry.user_header ≡ user_header)
      user_header-read user_header read-at =
          let got : Some (its-entry.content).user_header ≡ Some user_header =
          sym (ap (option_map (λ (content : ContentState T U). content.user_header)) its-contents) ∙ read-at in
          let same : (its-entry.content).user_header ≡ user_header = cc in
          (its-entry.entry, its-entry.is_kept, its-entry.user_header_is ∙ same)
