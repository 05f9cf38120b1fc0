use Rattle.iox2_contents.proofs.Payloads.{has-elements}
use Rattle.iox2_contents.proofs.content.Content.write_from_slice.Goals as goal

pub unreachable-requires : goal.unreachable-requires
unreachable-requires g c = has-elements _ (rw (← c.self.view_is) at c.requires.in_lists) c.in_default.not-Elements

pub unreachable-unreachable : goal.unreachable-unreachable
unreachable-unreachable g c = c.unreachable.result
