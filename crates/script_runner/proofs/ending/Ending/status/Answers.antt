use Rattle.script_runner.proofs.Endings.{printed_status}
use Rattle.script_runner.proofs.ending.Ending.status.Goals as goal

pub returns-in-Printed-clause-value : goal.returns-in-Printed-clause-value
returns-in-Printed-clause-value c = printed_status _ c.in-Printed.is
