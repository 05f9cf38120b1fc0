use Rattle.std.proofs.Common.{ap, sym, ◌∙◌}
use Rattle.iox2_pubsub.specs.Handles.{as_publisher, as_unwritten, publisher_id, unwritten_number}
use Rattle.iox2_pubsub.proofs.WrittenLoanCalls.{default-grants, default-refused}
use Rattle.iox2_c.specs.Steps.{BytesState}
use Rattle.iox2_c.proofs.LoanSteps.{any-bytes}
use Rattle.iox2_c.proofs.calls.lending.UnspecifiedFill.lend.Goals as goal

pub returns-in-Ok-clause-lends : goal.returns-in-Ok-clause-lends
returns-in-Ok-clause-lends c = λ m s shown.
    let written = c.write_unspecified.ensures.written in
    let lends = c.in-Ok.ensures.lends m s shown in
    let wrote = written.2 m lends.0 lends.1 in
    let next = c.in-Ok.ensures.loan.lent.number ∙ sym (ap (λ (t : BytesState). t.next_message) shown.state) in (
      wrote.2,
      wrote.4,
      (
        written.0,
        (lends.2).0,
        (lends.2).1,
        default-grants s lends.0 wrote.2 (publisher_id (as_publisher c.args.publisher.now))
            (unwritten_number (as_unwritten c.in-Ok.loan)) next wrote.0 wrote.1 (λ byte. Unit {0}) written.0
            (any-bytes written.0) (lends.2).0 c.args.len (lends.2).2 wrote.3,
      ),
    )

pub returns-in-Err-clause-lends : goal.returns-in-Err-clause-lends
returns-in-Err-clause-lends c = λ m s shown.
    let lends = c.in-Err.ensures.lends m s shown in (
      lends.0,
      lends.1,
      (
        (lends.2).0,
        default-refused s lends.0
            (publisher_id (as_publisher c.args.publisher.now)) c.in-Err.error (λ byte. Unit {0}) c.args.len (lends.2).1,
      ),
    )
