-- What an update leaves of a domain.
use Rattle.std.proofs.Common.{◌≡◌, ℕ, Option, ap, ◌∙◌}
use Rattle.iox2_machine.specs.machine.Records.{Loan}
use Rattle.iox2_machine.specs.machine.State.{State, Messages}
use Rattle.iox2_laws.proofs.PortsStay.{PortsStay}
use Rattle.iox2_laws.proofs.SamplesStay.{same_borrowed}
use Rattle.iox2_laws.proofs.Waits.{Waits}
use Rattle.iox2_domain.specs.Kept.{Kept}
use Rattle.iox2_domain.specs.Shows.{Shows}
use Rattle.iox2_pubsub.specs.Live.{No_item, Stays}
use Rattle.iox2_pubsub.proofs.StaysBut.{BoxesStayBut, IsSpared, ports-remain, stays-between, none-spared}

-- ports, loans and samples stay
pub updates-stay : {T U F G : Type 0} (old new : Kept T U F G) (m : Messages T U) (s s' : State T U) → Shows old m s
    → Shows new m s' → PortsStay s s' → s'.loans ≡ s.loans → Waits (IsSpared No_item) s s'
    → BoxesStayBut No_item old new → Stays old new
updates-stay {T} {U} old new m s s' shown shown' stay loans waits boxes =
    stays-between No_item old new m m s s' shown shown' (λ n entry at. at) (ports-remain _ s s' stay.remain)
    (λ n l at _. ap (λ (f : ℕ → Option (Loan T U)). f n) loans ∙ at)
    (λ p q n at _. same_borrowed s s' stay p q n ∙ at) waits (none-spared _ old s s' (λ _. tt)) boxes
