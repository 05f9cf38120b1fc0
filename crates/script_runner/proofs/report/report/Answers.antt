use Rattle.std.proofs.Common.{rules, ◌≡◌}
use Rattle.script_runner.specs.Endings.{error_line}
use Rattle.script_runner.proofs.report.report.Goals as goal

pub returns-clause-ok : goal.returns-clause-ok
returns-clause-ok g c =
    let line : c.as_bytes.result.now ≡ error_line c.args.error.now = search rules in
    rw (← line) c.write_all.ensures.ok

pub returns-clause-err : goal.returns-clause-err
returns-clause-err g c =
    let line : c.as_bytes.result.now ≡ error_line c.args.error.now = search rules in
    rw (← line) c.write_all.ensures.err
