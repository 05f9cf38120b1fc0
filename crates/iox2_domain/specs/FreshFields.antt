-- The fields of a new domain.
use Rattle.std.specs.Prelude.{◌≡◌, []}
use Rattle.iox2_machine.specs.machine.Limits.{warning_limit}
use Rattle.iox2_machine.specs.machine.State.{no_warnings}
use Rattle.iox2_machine.specs.declared.service_config.ServiceConfig.{ServiceConfig}
use Rattle.iox2_domain.specs.WarningRing.{warning_ring}
use Rattle.iox2_domain.specs.Fields.{Fields}

-- There are no ports, connections, messages or warnings, and both counters are at 1.
pub record IsFresh {T U : Type 0} (config : ServiceConfig) (f : Fields T U) : Type 0 where
  pub settings : f.config ≡ config
  pub next_port : f.next_port ≡ 1
  pub next_message : f.next_message ≡ 1
  pub warnings : f.warnings ≡ warning_ring no_warnings warning_limit
  pub publishers : f.publishers ≡ []
  pub subscribers : f.subscribers ≡ []
  pub connections : (f.connections).slots ≡ []
  pub books : (f.books).slots ≡ []
  pub contents : f.contents ≡ []
