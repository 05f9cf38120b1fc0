use Rattle.std.proofs.Common.{refl}
use Rattle.iox2_machine.proofs.errors.LoanError.name.Goals as goal

pub returns-in-ExceedsMaxLoans : goal.returns-in-ExceedsMaxLoans
returns-in-ExceedsMaxLoans c = rw c.in-ExceedsMaxLoans.is refl
