use Rattle.std.proofs.Common.{rules, ◌≡◌}
use Rattle.script_runner.proofs.Endings.{Reported-injective, Unreported-injective}
use Rattle.script_runner.proofs.runner.script.Goals as goal

pub returns-in-Err-write_all-clause-unwarned : goal.returns-in-Err-write_all-clause-unwarned
returns-in-Err-write_all-clause-unwarned g c = λ unwarned.
    let lines : c.as_bytes.result.now ≡ c.in-Ok.warnings.bytes = search rules in
    (c.in-Ok.warnings.bytes, c.in-Ok.ensures.ok, rw (← lines) c.in-Err-write_all.ensures.err)

pub returns-in-Ok-report-clause-reported : goal.returns-in-Ok-report-clause-reported
returns-in-Ok-report-clause-reported g c =
    λ error same. rw (← Reported-injective _ error same) c.in-Ok-report.ensures.ok

pub returns-in-Err-report-clause-unreported : goal.returns-in-Err-report-clause-unreported
returns-in-Err-report-clause-unreported g c =
    λ error same. rw (← Unreported-injective _ error same) c.in-Err-report.ensures.err
