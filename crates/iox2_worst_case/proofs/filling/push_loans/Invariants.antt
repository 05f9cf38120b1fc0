use Rattle.std.proofs.Common.{◌≡◌, ◌+◌, ◌-◌, ◌++◌, vec_len, replicate}
use Rattle.std.specs.Prelude.{vec_capacity}
use Rattle.iox2_worst_case.specs.FillingCommands.{loan_command}
use Rattle.iox2_worst_case.proofs.filling.push_loans.Given as goal

-- what is there with what is still to come is what there was with all of it
abbrev pub invariant-loop-loan : goal.invariant-loop-loan
invariant-loop-loan g l = record {
  items : l.commands.items ++ replicate (l.count - l._loan)
      (loan_command l.variant) ≡ l.fn.commands.items ++ replicate l.count (loan_command l.variant);
  len : vec_len l.commands ≡ vec_len l.fn.commands + l._loan;
  capacity : vec_capacity l.commands ≡ vec_capacity l.fn.commands;
}
