use Rattle.iox2_contents.proofs.Payloads.{has-cell}
use Rattle.iox2_contents.proofs.content.Content.placed_cell_mut.Goals as goal

pub unreachable-requires : goal.unreachable-requires
unreachable-requires g c = has-cell _ (rw (← c.self.view_is) at c.requires.first)
    (rw (← c.self.view_is) at c.requires.in_place) c.in_default.not-Unwritten

pub invariant_of-self : goal.invariant_of-self
invariant_of-self g c = absurd c.unreachable.result
