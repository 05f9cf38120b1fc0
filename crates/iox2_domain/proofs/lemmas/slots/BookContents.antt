-- A book has contents.
use Rattle.std.proofs.Common.{◌≡◌, ℕ, List, length, get_or, refl}
use Rattle.std.specs.Prelude.{IsSomeAnd}
use Rattle.std.specs.declared.option.Option.{Option}
use Rattle.std.specs.declared.option.Option.TheVariants.{None, Some}
use Rattle.slab.specs.Slab.{get}
use Rattle.iox2_slots.specs.SlotBook.{Book}
use Rattle.iox2_contents.specs.SlotContents.{ContentState}
use Rattle.iox2_domain.specs.Fields.{Fields}
use Rattle.iox2_domain.specs.Invariant.{HasParts}

pub contents-there : {T U : Type 0} (f : Fields T U) (parts : HasParts f) (key : ℕ) (b : Book)
    → get f.books key ≡ Some b → (cs : List (ContentState T U)) × (get_or f.contents key None ≡ Some cs)
contents-there {T} {U} f parts key b at = by (get_or f.contents key None) refl (parts.books.books key b at).shaped where
  by : (o : Option (List (ContentState T U))) → get_or f.contents key None ≡ o
      → IsSomeAnd o (λ cs. length cs ≡ length b.holders)
      → (cs : List (ContentState T U)) × (get_or f.contents key None ≡ Some cs)
  by None e has = absurd has
  by (Some cs) e has = (cs, e)
