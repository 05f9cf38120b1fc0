-- The content of one slot is written over: the books agree with what lies in their slots, still.
use Rattle.std.proofs.Common.{◌≡◌, ◌≢◌, ℕ, ◌*◌, List, length, get_or, slice_set, ap, sym, subst, ◌∙◌, inl, inr}
use Rattle.std.proofs.lemmas.Bool.{cases_eq}
use Rattle.std.specs.Prelude.{IsSomeAnd}
use Rattle.std.specs.declared.option.Option.{Option}
use Rattle.std.specs.declared.option.Option.TheVariants.{None, Some}
use Rattle.slab.specs.Slab.{get}
use Rattle.iox2_slots.specs.SlotBook.{Book}
use Rattle.iox2_contents.specs.SlotContents.{ContentState, with_changed}
use Rattle.iox2_domain.specs.Ports.{slot_length}
use Rattle.iox2_domain.specs.Fields.{Fields}
use Rattle.iox2_domain.specs.Invariant.{HasBooks, HasRoomFrom}
use Rattle.iox2_domain.proofs.lemmas.containers.SetRecords.{set-here, set-others}
use Rattle.iox2_domain.proofs.lemmas.loans.Taken.{room-with_changed, length-with_changed}

module _ {T U : Type 0} (f : Fields T U) (key : ℕ) (cs : List (ContentState T U))
    (at_c : get_or f.contents key None ≡ Some cs) (slot : ℕ) (g : ContentState T U → ContentState T U) where
  -- the contents with the slot's changed
  abbrev pub rewritten : List (Option (List (ContentState T U)))
  rewritten = slice_set f.contents key (Some (with_changed cs slot g))

  pub rewritten-here : get_or rewritten key None ≡ Some (with_changed cs slot g)
  rewritten-here = set-here f.contents key cs (with_changed cs slot g) at_c

  pub rewritten-others : (k : ℕ) → k ≢ key → get_or rewritten k None ≡ get_or f.contents k None
  rewritten-others k away = set-others f.contents key cs (with_changed cs slot g) at_c k away

  -- what holds of the contents holds still
  still : (P : List (ContentState T U) → Type 0) → (P cs → P (with_changed cs slot g)) → (k : ℕ)
      → IsSomeAnd (get_or f.contents k None) P → IsSomeAnd (get_or rewritten k None) P
  still P keeps k has = elim (cases_eq k key) [
    | inl here ↦
        let old : P cs = subst (λ o. IsSomeAnd o P) (ap (λ (j : ℕ). get_or f.contents j None) here ∙ at_c) has in
        subst (λ o. IsSomeAnd o P) (sym (ap (λ (j : ℕ). get_or rewritten j None) here ∙ rewritten-here)) (keeps old)
    | inr away ↦ subst (λ o. IsSomeAnd o P) (sym (rewritten-others k away)) has
  ]

  -- each publisher has its book, where no slot loses room
  pub rewritten-books : (b : Book) → get f.books key ≡ Some b → ((c : ContentState T U) → (g c).room ≡ c.room)
      → HasBooks f → HasBooks (record f { contents = rewritten })
  rewritten-books b at_b roomy books = record {
    one_each = books.one_each;
    books = λ k e there. let is = books.books k e there in record {
      aligned = is.aligned;
      shaped = still (λ zs. length zs ≡ length e.holders) (λ long. length-with_changed cs slot g ∙ long) k is.shaped;
    };
    publishers = λ i x here. let has = books.publishers i x here in record {
      book = has.book;
      stands = has.stands;
      is_its = has.is_its;
      node = has.node;
      slots = has.slots;
      room = still (HasRoomFrom x.segment_start (slot_length x.segment_length * (f.config).units_per_element))
          (room-with_changed g roomy cs slot x.segment_start
          (slot_length x.segment_length * (f.config).units_per_element)) x.book has.room;
    };
    no_others = λ k none. elim (cases_eq k key) [
      | inl here ↦ absurd (let no : None ≡ Some b = sym none ∙ ap (get f.books) here ∙ at_b in cc)
      | inr away ↦ rewritten-others k away ∙ books.no_others k none
    ];
  }
