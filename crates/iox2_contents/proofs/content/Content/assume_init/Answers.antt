use Rattle.std.proofs.Common.{refl}
use Rattle.iox2_contents.proofs.content.Content.assume_init.Goals as goal

pub returns-in-Elements-clause-refused : goal.returns-in-Elements-clause-refused
returns-in-Elements-clause-refused g c = λ refused.
    rw (c.assume_init.ensures.refused refused, c.deref_mut.ensures.value, ← c.self.view_is, c.in-Elements.is) refl
