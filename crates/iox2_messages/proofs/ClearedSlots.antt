-- The slots of a book that nobody holds are cleared, and more slots stand behind them.
use Rattle.std.proofs.Common.{◌≡◌, ℕ, ◌+◌, ◌-◌, ◌<◌, List, [], ◌++◌, length, Bool, false, get_or, ap, sym, subst, ◌∙◌}
use Rattle.std.proofs.Common.{inl, inr, arith}
use Rattle.std.proofs.lemmas.Bool.{cases_eq, cases_lt}
use Rattle.std.proofs.lemmas.List.{length-append, length-set}
use Rattle.std.proofs.lemmas.List.Elements.{All-append, All-set}
use Rattle.std.proofs.lemmas.Option.{get_or_from_slice_get, slice_get_within}
use Rattle.std.specs.Prelude.{slice_get}
use Rattle.std.specs.declared.option.Option.{Option}
use Rattle.std.specs.declared.option.Option.TheVariants.{Some}
use Rattle.std.specs.List.{All}
use Rattle.circular_buffer.proofs.Places.{slice_get-append_left, slice_get-append_right, slice_get-set_same}
use Rattle.circular_buffer.proofs.Places.{slice_get-set_other}
use Rattle.iox2_slots.specs.SlotBook.{Book, holders_at}
use Rattle.iox2_contents.specs.SlotContents.{ContentState, AddsSlots, ClearsSlot, lists_for}
use Rattle.iox2_domain.specs.Growth.{ClearsUnused, GrowsContents}
use Rattle.iox2_domain.proofs.lemmas.slots.Messages.{in_use_within}

module _ {T U : Type 0} (b : Book) (end : ℕ) where
  -- one slot more is cleared
  pub clears-next : (old mid new : List (ContentState T U)) (slot : ℕ) → ClearsUnused b end old mid
      → holders_at b slot ≡ 0 → slot < end → ClearsSlot mid new slot → ClearsUnused b end old new
  clears-next old mid new slot before unused low clears = record {
    count = ap length clears.cleared ∙ length-set mid slot clears.content ∙ before.count;
    kept = λ k either. elim (cases_eq k slot) [
      | inl here ↦ absurd (elim either [
        | inl held ↦ let none : holders_at b k ≡ 0 = ap (holders_at b) here ∙ unused in omega (arith, held, none)
        | inr late ↦ omega (arith, late, here, low)
      ])
      | inr away ↦ ap (λ (cs : List (ContentState T U)). slice_get cs k) clears.cleared
          ∙ slice_get-set_other mid slot k clears.content away ∙ before.kept k either
    ];
    forms = λ all.
        let mids : All (λ content. content.is_in_place ≡ false) mid = before.forms all in
        let within : slot < length mid = slice_get_within mid slot clears.had clears.there in
        let was : (get_or mid slot clears.had).is_in_place ≡ false = mids slot clears.had within in
        let had : (clears.had).is_in_place ≡ false = ap (λ (c : ContentState T U). c.is_in_place)
        (sym (get_or_from_slice_get mid slot clears.had clears.had clears.there)) ∙ was in
        subst (All (λ content. content.is_in_place ≡ false)) (sym clears.cleared)
        (All-set (λ (content : ContentState T U). content.is_in_place ≡ false) mid slot clears.content
        (clears.form ∙ had) mids);
    lists = λ n all.
        let mids : All (λ content. content.lists ≡ n) mid = before.lists n all in
        let within : slot < length mid = slice_get_within mid slot clears.had clears.there in
        let was : (get_or mid slot clears.had).lists ≡ n = mids slot clears.had within in
        let had : (clears.had).lists ≡ n = ap (λ (c : ContentState T U). c.lists)
        (sym (get_or_from_slice_get mid slot clears.had clears.had clears.there)) ∙ was in
        subst (All (λ content. content.lists ≡ n)) (sym clears.cleared)
        (All-set (λ (content : ContentState T U). content.lists ≡ n) mid slot clears.content (clears.lists ∙ had) mids);
    cells = record {
      at = λ k content there some. elim (cases_eq k slot) [
        | inl here ↦
            let now : slice_get new k ≡ Some clears.content =
            ap (slice_get new) here ∙ ap (λ (cs : List (ContentState T U)). slice_get cs slot) clears.cleared
            ∙ slice_get-set_same mid slot clears.content (slice_get_within mid slot clears.had clears.there) in
            let both : Some clears.content ≡ Some content = sym now ∙ there in
            let is : clears.content ≡ content = cc in
            absurd (let none : length content.cells ≡ 0 = ap (λ (c : ContentState T U). length c.cells) (sym is)
            ∙ ap (length {A = Option T}) clears.cells in omega arith)
        | inr away ↦
            before.cells.at k content
            (sym (ap (λ (cs : List (ContentState T U)). slice_get cs k) clears.cleared
            ∙ slice_get-set_other mid slot k clears.content away) ∙ there) some
      ];
    };
  }

module _ {T U : Type 0} (b : Book) (old mid new : List (ContentState T U)) (more units : ℕ) (in_lists : Bool)
    (lists : ℕ) (shaped : length old ≡ length b.holders)
    (listed : All (λ content. content.lists ≡ lists_for in_lists lists) old)
    (adds : AddsSlots old mid more units in_lists lists) (clears : ClearsUnused b (length b.holders) mid new) where
  long : length mid ≡ length old + more
  long = ap length adds.grown ∙ length-append old adds.added ∙ ap (λ n. length old + n) adds.count

  -- the contents have more slots
  pub grows-contents : GrowsContents b more units in_lists lists old new
  grows-contents = record {
    count = clears.count ∙ long;
    kept = λ slot held.
        let low : slot < length old = let within = in_use_within b old slot held in omega (arith, within, shaped) in
        clears.kept slot (inl held) ∙ ap (λ (cs : List (ContentState T U)). slice_get cs slot) adds.grown
        ∙ slice_get-append_left old adds.added slot low;
    room = record {
      at = λ slot content from there.
          let k : ℕ = slot - length old in
          let at_k : slot ≡ length old + k = omega (arith, from) in
          let found : slice_get adds.added k ≡ Some content =
          sym (slice_get-append_right old adds.added slot k at_k)
          ∙ sym (ap (λ (cs : List (ContentState T U)). slice_get cs slot) adds.grown)
          ∙ sym (clears.kept slot (inr (omega (arith, from, shaped)))) ∙ there in
          let rooms = adds.rooms k content (slice_get_within adds.added k content found) in
          let room : content.room ≡ units = ap (λ (c : ContentState T U). c.room)
          (sym (get_or_from_slice_get adds.added k content content found)) ∙ rooms in
          omega (arith, room);
    };
    forms = λ lists all. clears.forms
        (subst (All (λ content. content.is_in_place ≡ false)) (sym adds.grown)
        (All-append (λ (content : ContentState T U). content.is_in_place ≡ false) old adds.added all
        (adds.forms lists)));
    lists_are = clears.lists (lists_for in_lists lists)
        (subst (All (λ content. content.lists ≡ lists_for in_lists lists)) (sym adds.grown)
        (All-append (λ (content : ContentState T U). content.lists ≡ lists_for in_lists lists) old adds.added listed
        adds.lists_are));
    cells = record {
      at = λ slot content there some.
          let had : slice_get (old ++ adds.added) slot ≡ Some content =
          sym (ap (λ (cs : List (ContentState T U)). slice_get cs slot) adds.grown)
          ∙ clears.cells.at slot content there some in
          elim (cases_lt slot (length old)) [
            | inl low ↦ sym (slice_get-append_left old adds.added slot low) ∙ had
            | inr late ↦
                let k : ℕ = slot - length old in
                let at_k : slot ≡ length old + k = omega (arith, late) in
                let found : slice_get adds.added k ≡ Some content =
                sym (slice_get-append_right old adds.added slot k at_k) ∙ had in
                let none : (get_or adds.added k content).cells ≡ [] =
                adds.cells k content (slice_get_within adds.added k content found) in
                absurd (let count : length content.cells ≡ 0 = ap (λ (c : ContentState T U). length c.cells)
                (sym (get_or_from_slice_get adds.added k content content found)) ∙ ap (length {A = Option T}) none in
                omega arith)
          ];
    };
  }
