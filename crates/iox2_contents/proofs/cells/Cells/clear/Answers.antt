use Rattle.std.proofs.Common.{refl, arith}
use Rattle.std.proofs.lemmas.List.{length-append, length-replicate}
use Rattle.iox2_contents.proofs.cells.Cells.clear.Goals as goal

pub invariant_of-self : goal.invariant_of-self
invariant_of-self g c = (rw c.clear.ensures.items (omega arith), λ wide. refl)

pub returns-clause-count : goal.returns-clause-count
returns-clause-count g c =
    rw (← c.self.view_is, length-append, length-replicate, c.len.ensures, c.self.inside.listed.ok.0) refl

pub returns-clause-cleared : goal.returns-clause-cleared
returns-clause-cleared g c = rw (← c.self.view_is, c.clear.ensures.items, c.clear.ensures.capacity) refl
