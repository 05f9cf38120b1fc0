use Rattle.iox2_machine.specs.machine.State.{fresh, no_messages}
use Rattle.iox2_runs.proofs.compare.run_afresh.Goals as goal

pub returns-clause-ran : goal.returns-clause-ran
returns-clause-ran g c =
    let run = c.in-Ok-run.ensures.ran (no_messages {T = g.row.T.Denot} {U = g.row.U.Denot})
    (fresh {T = g.row.T.Denot} {U = g.row.U.Denot} c.args.config.now) c.in-Ok.ensures.fresh in
    record {
      events = run.0;
      messages = run.1;
      state = run.2;
      shown = run.3;
      run = run.4;
      faithful = run.5;
      grants = run.6;
    }

pub returns-clause-one_default : goal.returns-clause-one_default
returns-clause-one_default g c = λ one_default default_value default_header is_value is_header.
    c.in-Ok-run.ensures.one_default one_default default_value default_header is_value is_header
    (no_messages {T = g.row.T.Denot} {U = g.row.U.Denot})
    (fresh {T = g.row.T.Denot} {U = g.row.U.Denot} c.args.config.now) c.in-Ok.ensures.fresh
