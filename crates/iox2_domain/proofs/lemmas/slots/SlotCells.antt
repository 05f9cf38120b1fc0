-- How many cells the slots have where the content of one changes.
use Rattle.std.proofs.Common.{◌≡◌, ℕ, ◌<◌, List, length, get_or, slice_set, refl, ap, sym, subst, ◌∙◌, inl, inr, arith}
use Rattle.std.proofs.lemmas.Bool.{cases_eq}
use Rattle.std.proofs.lemmas.Option.{slice_get_within}
use Rattle.std.specs.Prelude.{slice_get}
use Rattle.std.specs.declared.option.Option.{Option}
use Rattle.std.specs.declared.option.Option.TheVariants.{None, Some}
use Rattle.std.specs.Option.{option_map_or}
use Rattle.iox2_contents.specs.SlotContents.{ContentState, with_changed}
use Rattle.iox2_domain.specs.Fields.{contents_in}
use Rattle.iox2_domain.specs.Invariant.{cell_count}
use Rattle.iox2_domain.proofs.lemmas.containers.SetRecords.{set-here, set-others}
use Rattle.iox2_domain.proofs.lemmas.loans.Taken.{with_changed-here, with_changed-others}

module _ {T U : Type 0} where
  -- how many cells are there
  abbrev pub cells_if : Option (ContentState T U) → ℕ
  cells_if o = option_map_or (λ (content : ContentState T U). length content.cells) o 0

  -- the same of the slot of these contents, if there are any
  abbrev pub cells_in : Option (List (ContentState T U)) → (slot : ℕ) → ℕ
  cells_in o slot = cells_if (slice_get (contents_in o) slot)

  -- where there are some, so is a content
  pub cells-some : (o : Option (ContentState T U)) → 0 < cells_if o
      → (content : ContentState T U) × (o ≡ Some content) × (0 < length content.cells)
  cells-some None some = absurd (omega arith)
  cells-some (Some content) some = (content, refl, some)

  -- what is read at the key
  pub cells-read : (contents : List (Option (List (ContentState T U)))) (key slot : ℕ)
      (o : Option (List (ContentState T U))) → get_or contents key None ≡ o
      → cell_count contents key slot ≡ cells_in o slot
  cells-read contents key slot o at = ap (λ e. cells_in e slot) at

module _ {T U : Type 0} (contents : List (Option (List (ContentState T U)))) (key : ℕ) (cs : List (ContentState T U))
    (at : get_or contents key None ≡ Some cs)
    (slot : ℕ) (g : ContentState T U → ContentState T U) where
  abbrev changed : List (Option (List (ContentState T U)))
  changed = slice_set contents key (Some (with_changed cs slot g))

  changed-here : get_or changed key None ≡ Some (with_changed cs slot g)
  changed-here = set-here contents key cs (with_changed cs slot g) at

  -- the other slots have as many as before
  pub cells-elsewhere : (k s : ℕ) → ((k ≡ key) × (s ≡ slot) → ⊥) → cell_count changed k s ≡ cell_count contents k s
  cells-elsewhere k s away = elim (cases_eq k key) [
    | inl here ↦
        ap (λ (j : ℕ). cell_count changed j s) here
        ∙ cells-read changed key s (Some (with_changed cs slot g)) changed-here
        ∙ ap cells_if (with_changed-others cs slot g s (λ same. away (here, same)))
        ∙ sym (cells-read contents key s (Some cs) at)
        ∙ sym (ap (λ (j : ℕ). cell_count contents j s) here)
    | inr other ↦ ap (λ o. cells_in o s) (set-others contents key cs (with_changed cs slot g) at k other)
  ]

  -- where the slot has some, what lay in it is changed to a content with cells
  pub cells-here : 0 < cell_count changed key slot
      → (content : ContentState T U) × (slice_get cs slot ≡ Some content) × (0 < length (g content).cells)
  cells-here some = by (slice_get cs slot) refl where
    read : 0 < cells_if (slice_get (with_changed cs slot g) slot)
    read = subst (λ (n : ℕ). 0 < n) (cells-read changed key slot (Some (with_changed cs slot g)) changed-here) some

    by : (o : Option (ContentState T U)) → slice_get cs slot ≡ o
        → (content : ContentState T U) × (slice_get cs slot ≡ Some content) × (0 < length (g content).cells)
    by None none =
        let same : with_changed cs slot g ≡ cs = ap (λ o. option_map_or (λ c. slice_set cs slot (g c)) o cs) none in
        absurd (omega (arith, read, ap (λ zs. cells_if (slice_get zs slot)) same, ap cells_if none))
    by (Some content) there =
        let is : slice_get (with_changed cs slot g) slot ≡ Some (g content) =
        with_changed-here cs slot g content there (slice_get_within cs slot content there) in
        (content, there, subst (λ (o : Option (ContentState T U)). 0 < cells_if o) is read)
