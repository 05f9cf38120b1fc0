use Rattle.iox2_runs.proofs.CarriedSamples.{read_unwritten, read_written, read_sampled, read_passed}
use Rattle.iox2_runs.proofs.LiveEntries.{live_unwritten, listed, live_written, live_sample}
use Rattle.iox2_runs.proofs.TableEntries.{not_sample, not_loan}
use Rattle.iox2_runs.proofs.TableLooks.{is_sample_entry, is_loan_entry}
use Rattle.iox2_runs.proofs.Turned.{looks}
use Rattle.iox2_runs.specs.Carries.{entry_for}
use Rattle.iox2_runs.specs.declared.runs.made.Made.{Made}
use Rattle.iox2_machine.specs.machine.Environments.{fixed_handlers}
use Rattle.std.proofs.Common.{ap, ◌∙◌}
use Rattle.iox2_runs.proofs.runs.reads.read.Goals as goal

pub unwritten_cell-cell-requires-clause-live : goal.unwritten_cell-cell-requires-clause-live
unwritten_cell-cell-requires-clause-live g c = live_unwritten {T = g.row.T.Denot}
    {U = g.row.U.Denot} c.args.domain.now c.args.held c.requires c.in-Unwritten.loan c.in-Unwritten.is

pub unwritten_cell-cell-requires-clause-lists_cells : goal.unwritten_cell-cell-requires-clause-lists_cells
unwritten_cell-cell-requires-clause-lists_cells g c = listed {T = g.row.T.Denot}
    {U = g.row.U.Denot} c.args.domain.now c.args.held c.requires c.in-Unwritten.loan c.in-Unwritten.is

pub returns-in-Unwritten : goal.returns-in-Unwritten
returns-in-Unwritten g c =
    rw (c.in-Unwritten.is, c.unwritten_cell-cell.ensures.same)
    (looks {T = g.row.T.Denot} {U = g.row.U.Denot} _ _ c.args.domain.now _ _ _ (λ table of at.
    read_unwritten {T = g.row.T.Denot} {U = g.row.U.Denot} fixed_handlers _ c.args.domain.now c.args.domain.now table
    table of c.args.at c.in-Unwritten.loan c.unwritten_cell-cell.result.0 c.cell_reply.result at
    c.unwritten_cell-cell.ensures.reads c.cell_reply.ensures))

pub written_value-value-requires : goal.written_value-value-requires
written_value-value-requires g c = live_written {T = g.row.T.Denot}
    {U = g.row.U.Denot} c.args.domain.now c.args.held c.requires c.in-Written.loan c.in-Written.is

pub returns-in-Written : goal.returns-in-Written
returns-in-Written g c =
    rw (c.in-Written.is, c.written_value-value.ensures.same)
    (looks {T = g.row.T.Denot} {U = g.row.U.Denot} _ _ c.args.domain.now _ _ _ (λ table of at.
    read_written {T = g.row.T.Denot} {U = g.row.U.Denot} fixed_handlers _ c.args.domain.now c.args.domain.now table
    table of c.args.at c.in-Written.loan c.written_value-value.result.0 c.value_reply.result at
    c.written_value-value.ensures.reads c.value_reply.ensures))

pub received_value-value-requires : goal.received_value-value-requires
received_value-value-requires g c = live_sample {T = g.row.T.Denot}
    {U = g.row.U.Denot} c.args.domain.now c.args.held c.requires c.in-Sample.sample c.in-Sample.is

pub returns-in-Sample : goal.returns-in-Sample
returns-in-Sample g c =
    rw (c.in-Sample.is, c.received_value-value.ensures.same)
    (looks {T = g.row.T.Denot} {U = g.row.U.Denot} _ _ c.args.domain.now _ _ _ (λ table of at.
    read_sampled {T = g.row.T.Denot} {U = g.row.U.Denot} fixed_handlers _ c.args.domain.now c.args.domain.now table
    table of c.args.at c.in-Sample.sample c.received_value-value.result.0 c.value_reply-in-Sample.result at
    c.received_value-value.ensures.reads c.value_reply-in-Sample.ensures))

pub returns-in_default : goal.returns-in_default
returns-in_default g c =
    looks {T = g.row.T.Denot} {U = g.row.U.Denot} _ _ c.args.domain.now c.args.held _ _ (λ table of at.
    read_passed {T = g.row.T.Denot} {U = g.row.U.Denot} fixed_handlers _ c.args.domain.now c.args.domain.now table table
    of c.args.at (ap (λ (h : Made). is_sample_entry (entry_for h)) at ∙ not_sample c.args.held c.in_default.not-Sample)
    (ap (λ (h : Made). is_loan_entry (entry_for h)) at
    ∙ not_loan c.args.held c.in_default.not-Unwritten c.in_default.not-Written))
