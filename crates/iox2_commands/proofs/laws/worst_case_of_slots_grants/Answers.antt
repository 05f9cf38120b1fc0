use Rattle.iox2_laws.proofs.EnoughSlots.{worst_case_of_slots_grants}
use Rattle.iox2_commands.specs.Laws.{tested_environment}
use Rattle.iox2_commands.proofs.laws.worst_case_of_slots_grants.Goals as goal

pub returns : goal.returns
returns g c = λ may_refuse_memory backpressure degradation.
    worst_case_of_slots_grants (tested_environment may_refuse_memory backpressure degradation)
