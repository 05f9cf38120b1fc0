-- What holds after a step where it held before.
use Rattle.iox2_machine.specs.machine.State.{State}
use Rattle.iox2_laws.proofs.OperationWalks.{IsPreorder}

pub keeping : {T U : Type 0} (P : State T U → Type 0) → IsPreorder (λ s s'. P s → P s')
keeping P = record { itself = λ s k. k; trans = λ a b c f g k. g (f k) }
