-- That a call is a step of the machine.
use Rattle.iox2_machine.specs.machine.State.{State, Messages}
use Rattle.iox2_domain.specs.Kept.{Kept}
use Rattle.iox2_domain.specs.Shows.{Shows}

-- The call makes this step of the machine: whatever state the domain showed, it shows afterwards one that the step
-- leads to, with the same messages.
abbrev pub TakesStep : {T U F G : Type 0} → (old new : Kept T U F G) → (Step : (s s' : State T U) → Type 0) → Type 0
TakesStep {T} {U} old new Step =
    (m : Messages T U) (s : State T U) → Shows old m s → (s' : State T U) × Shows new m s' × Step s s'
