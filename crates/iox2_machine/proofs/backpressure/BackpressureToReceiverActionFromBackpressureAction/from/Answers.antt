use Rattle.std.proofs.Common.{refl}
use Rattle.iox2_machine.proofs.backpressure.BackpressureToReceiverActionFromBackpressureAction.from.Goals as goal

pub returns-in-DiscardData : goal.returns-in-DiscardData
returns-in-DiscardData c = rw c.in-DiscardData.is refl
