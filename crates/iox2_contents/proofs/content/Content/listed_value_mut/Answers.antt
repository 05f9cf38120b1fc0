use Rattle.iox2_contents.proofs.Payloads.{has-elements}
use Rattle.iox2_contents.proofs.content.Content.listed_value_mut.Goals as goal

pub unreachable-requires : goal.unreachable-requires
unreachable-requires g c = has-elements _ (rw (← c.self.view_is) at c.requires.in_lists) c.in_default.not-Elements

pub invariant_of-self : goal.invariant_of-self
invariant_of-self g c = absurd c.unreachable.result
