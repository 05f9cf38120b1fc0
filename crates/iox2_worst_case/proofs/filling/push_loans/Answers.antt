use Rattle.std.proofs.Common.{◌∙◌, arith}
use Rattle.iox2_worst_case.specs.FillingCommands.{loan_command}
use Rattle.iox2_worst_case.proofs.FillingLists.{replicate_more}
use Rattle.iox2_worst_case.proofs.filling.push_loans.Goals as goal

pub loop-loan-preserved : goal.loop-loan-preserved
loop-loan-preserved g c = record {
  items = rw (c.push_reserved.ensures.items, c.loan_command.ensures) (
      replicate_more {T = g.row.T.Denot} {U = g.row.U.Denot} c.loop-loan.commands.items
      (loan_command c.args.variant) c.loop-loan._loan c.args.count (omega (arith, c.loop-loan-test.true))
      ∙ c.loop-loan.invariant.items
      );
  len = omega (arith, c.push_reserved.ensures.len, c.loop-loan.invariant.len);
  capacity = c.push_reserved.ensures.capacity ∙ c.loop-loan.invariant.capacity;
}
