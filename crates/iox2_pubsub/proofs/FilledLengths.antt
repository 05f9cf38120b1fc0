-- A slice that is written has as many values as it had cells.
use Rattle.std.proofs.Common.{◌≡◌, ℕ, List, map, length, true, ap, sym, ◌∙◌, Option, Some}
use Rattle.std.proofs.lemmas.List.{length-map}
use Rattle.std.proofs.lemmas.Option.{same_Some}
use Rattle.iox2_machine.specs.machine.Records.{Loan}
use Rattle.iox2_domain.specs.Kept.{Kept, state_of}
use Rattle.iox2_domain.specs.Boxes.{DomainBoxes}
use Rattle.iox2_domain.specs.Fields.{Fields, kept_of, keeping}
use Rattle.iox2_domain.specs.LoanCalls.{WritesLoan}
use Rattle.iox2_pubsub.specs.Slices.{HasUnwrittenCells, HasValues}
use Rattle.iox2_pubsub.proofs.LoanHandles.{changed-out}
use Rattle.iox2_pubsub.proofs.SliceParts.{cells-parts, values-parts}

module _ {T U F G : Type 0} {boxes : DomainBoxes F G} (f g : Fields T U) (kept : Kept T U F G)
    (view : keeping boxes f ≡ kept) (n : ℕ) (answers : List T) (writes : WritesLoan f g n answers) where
  abbrev filled : Loan T U
  filled = record (writes.0) { cells = map Some answers; is_written = true }

  pub filled-lengths : (cells : List (Option T)) → HasUnwrittenCells kept n cells → (k : ℕ) → k ≡ n → (values : List T)
      → HasValues (keeping boxes g) k values → length values ≡ length cells
  filled-lengths cells has k its values reads =
      let was = cells-parts kept n cells has in
      let now = values-parts (keeping boxes g) k values reads in
      let old : writes.0 ≡ was.0 =
      same_Some writes.0 was.0 (sym writes.1 ∙ ap (λ (e : Kept T U F G). (state_of e).loans n) view ∙ was.1) in
      let new : now.0 ≡ filled =
      same_Some now.0 filled (sym now.1 ∙ ap (state_of (kept_of g)).loans its
      ∙ changed-out f g kept view n writes.0 filled writes.1 writes.3) in
      sym (length-map values (λ (value : T). Some value))
      ∙ ap (λ (cs : List (Option T)). length cs) (sym now.2 ∙ ap (λ (l : Loan T U). l.cells) new)
      ∙ length-map answers (λ (value : T). Some value)
      ∙ writes.2
      ∙ ap (λ (l : Loan T U). length l.cells) old
      ∙ ap (λ (cs : List (Option T)). length cs) was.2
