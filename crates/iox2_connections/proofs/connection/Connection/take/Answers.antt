use Rattle.std.proofs.Common.{refl, sym, ◌∙◌}
use Rattle.iox2_connections.proofs.LinkLemmas.{taken_first}
use Rattle.iox2_connections.proofs.connection.Connection.take.Goals as goal

pub returns-clause-takes : goal.returns-clause-takes
returns-clause-takes c =
    rw (← c.self.view_is)
    (taken_first _ _ _ c.in_ok-slot.slot refl (sym c.in_ok-slot.was ∙ c.pop_front.ensures.value)
    (rw (c.pop_front.ensures.items, c.push_reserved.ensures.items, c.push_reserved.ensures.capacity) refl))
