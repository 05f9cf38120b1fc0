use Rattle.std.proofs.Common.{◌≡◌, rules, sym, subst, ◌∙◌, Some}
use Rattle.iox2_machine.specs.machine.Loans.{written}
use Rattle.iox2_machine.specs.machine.Records.{Loan}
use Rattle.iox2_machine.specs.machine.State.{State, Messages, with_loan}
use Rattle.iox2_domain.specs.Shows.{Shows}
use Rattle.iox2_pubsub.specs.declared.sample_mut_uninit.SampleMutUninit.{SampleMutUninit}
use Rattle.iox2_runs.proofs.CellViews.{answers-alike, all-written}
use Rattle.iox2_runs.proofs.Services.{single-here, holds-here}
use Rattle.iox2_runs.proofs.runs.cells.write_cells.Goals as goal

pub write_payload-requires-clause-single_valued : goal.write_payload-requires-clause-single_valued
write_payload-requires-clause-single_valued g c = single-here {T = g.row.T.Denot} {U = g.row.U.Denot} c.args.domain.now
    (sym c.is_single_valued.ensures ∙ c.if-is_single_valued.true)

pub write_from_fn-requires-clause-sliced : goal.write_from_fn-requires-clause-sliced
write_from_fn-requires-clause-sliced g c = holds-here {T = g.row.T.Denot} {U = g.row.U.Denot} c.args.domain.now
    (sym c.is_single_valued.ensures ∙ c.if-is_single_valued.false)

pub returns-clause-written : goal.returns-clause-written
returns-clause-written g c =
    let it = c.write_from_fn.ensures.written in
    subst (λ (loan : SampleMutUninit).
    (m : Messages g.row.T.Denot g.row.U.Denot) (s : State g.row.T.Denot g.row.U.Denot) → Shows c.args.domain.now m s
    → (l : Loan g.row.T.Denot g.row.U.Denot) × (s.loans loan.loan.number ≡ Some l)
    × Shows c.write_from_fn.new.domain m (with_loan s loan.loan.number (Some (written l c.args.value)))) c.new.ensures
    (all-written {T = g.row.T.Denot} {U = g.row.U.Denot} c.args.domain.now c.write_from_fn.new.domain
    c.new.result.sample.loan.number c.args.value it.0
    (answers-alike _ _ c.args.value (λ i answer after call. search rules) it.0 0 (it.1).0 (it.1).1) it.3)
