use Rattle.iox2_domain.proofs.state.DomainState.config.Goals as goal
use Rattle.std.proofs.Common.{refl}

pub returns : goal.returns
returns g c = rw (← c.self.view_is) refl
