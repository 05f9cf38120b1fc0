-- What lies in a slot whose loan was written.
use Rattle.std.proofs.Common.{◌≡◌, ℕ, List, Some, false, ap, subst, sym, ◌∙◌}
use Rattle.std.proofs.lemmas.Option.{same_Some}
use Rattle.std.specs.Option.{option_map}
use Rattle.std.specs.Prelude.{IsSomeAnd, slice_get}
use Rattle.std.specs.declared.option.Option.{Option}
use Rattle.iox2_contents.specs.SlotContents.{ContentState, SomeAt, WritesValues, values_at, written_content}
use Rattle.iox2_contents.proofs.SlotReads.{some_within}
use Rattle.iox2_domain.proofs.lemmas.loans.Taken.{with_changed-here}

module _ {T U : Type 0} (there left : List (ContentState T U)) (slot : ℕ) (values : List T)
    (writes : WritesValues there left slot values)
    (lists : SomeAt there slot (λ content. content.is_in_place ≡ false)) where
  -- the content of the slot
  left-there : slice_get left slot ≡ Some (written_content values writes.content)
  left-there =
      ap (λ (cs : List (ContentState T U)). slice_get cs slot) writes.written
      ∙ with_changed-here there slot (written_content values) writes.content writes.had
      (some_within there slot (λ content. content.is_in_place ≡ false) lists)

  -- values in a list stay there when they are written
  pub filled-readable : SomeAt left slot (λ content. content.is_in_place ≡ false)
  filled-readable =
      let P : ContentState T U → Type 0 = λ content. content.is_in_place ≡ false in
      let had : writes.content.is_in_place ≡ false =
      subst (λ (o : Option (ContentState T U)). IsSomeAnd o P) writes.had lists in
      subst (λ (o : Option (ContentState T U)). IsSomeAnd o P) (sym left-there) had

  -- and they are those that are read there
  pub filled-read : (read : List T) → values_at left slot ≡ Some read → read ≡ values
  filled-read read is =
      same_Some read values (sym is ∙ ap (option_map (λ (content : ContentState T U). content.values)) left-there)
