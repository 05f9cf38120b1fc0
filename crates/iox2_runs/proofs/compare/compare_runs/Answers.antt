use Rattle.iox2_runs.proofs.ComparedRuns.{compared}
use Rattle.iox2_runs.proofs.compare.compare_runs.Goals as goal

pub returns-clause-ran : goal.returns-clause-ran
returns-clause-ran g c = (c.in_ok-first.ensures.ran, c.in_ok-second.ensures.ran)

pub returns-clause-compared : goal.returns-clause-compared
returns-clause-compared g c = λ one_default default_value default_header is_value is_header.
    compared {T = g.row.T.Denot}
    {U = g.row.U.Denot} default_value default_header c.args.config.now c.args.commands.items c.args.reduced.items
    c.in_ok-first.first.0 c.in_ok-first.first.1.items c.in_ok-second.second.0 c.in_ok-second.second.1.items
    (c.in_ok-first.ensures.one_default one_default default_value default_header is_value is_header)
    (c.in_ok-second.ensures.one_default one_default default_value default_header is_value is_header)
