use Rattle.iox2_contents.proofs.Payloads.{has-elements}
use Rattle.iox2_contents.proofs.content.Content.values.Goals as goal

pub unreachable-requires : goal.unreachable-requires
unreachable-requires g c = has-elements _ (rw (← c.self.view_is) at c.requires) c.in_default.not-Elements

pub unreachable-unreachable : goal.unreachable-unreachable
unreachable-unreachable g c = c.unreachable.result
