use Rattle.std.proofs.Common.{refl}
use Rattle.iox2_domain.proofs.state.DomainState.new.Goals as goal

pub returns : goal.returns
returns g c = record {
  settings = refl;
  next_port = refl;
  next_message = refl;
  warnings = c.in_ok-warnings.ensures;
  publishers = c.new-2.ensures.items;
  subscribers = c.new-3.ensures.items;
  connections = c.new-4.ensures.empty;
  books = c.new-5.ensures.empty;
  contents = c.new-6.ensures.items;
}
