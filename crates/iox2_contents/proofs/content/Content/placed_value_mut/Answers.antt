use Rattle.iox2_contents.proofs.Payloads.{has-value}
use Rattle.iox2_contents.proofs.content.Content.placed_value_mut.Goals as goal

pub unreachable-requires : goal.unreachable-requires
unreachable-requires g c = has-value _ (rw (← c.self.view_is) at c.requires.first)
    (rw (← c.self.view_is) at c.requires.in_place) c.in_default.not-Written

pub invariant_of-self : goal.invariant_of-self
invariant_of-self g c = absurd c.unreachable.result
