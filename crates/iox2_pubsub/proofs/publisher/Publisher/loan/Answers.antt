use Rattle.std.proofs.Common.{ap, sym, ◌∙◌}
use Rattle.std.proofs.lemmas.Result.{err_from_is_err_and}
use Rattle.iox2_machine.specs.machine.State.{State}
use Rattle.iox2_pubsub.proofs.WrittenLoanCalls.{with_value, written-grants, written-refused}
use Rattle.iox2_pubsub.proofs.publisher.Publisher.loan.Goals as goal

pub returns-in_err-loan-clause-lends : goal.returns-in_err-loan-clause-lends
returns-in_err-loan-clause-lends g c = λ m s shown.
    let refused = err_from_is_err_and c.from_residual.result c.from_residual.ensures.1 in
    let lends = c.in_err-loan.ensures.lends m s shown in
    rw (refused.1, refused.2) (
      lends.0,
      lends.1,
      ((lends.2).0, written-refused s lends.0 c.args.self.now.id c.in_err-loan.field-0.0 (lends.2).1),
    )

pub returns-clause-lends : goal.returns-clause-lends
returns-clause-lends g c = λ m s shown.
    let lends = c.in_ok-loan.ensures.lends m s shown in
    let wrote = c.write_payload.ensures.written m lends.0 lends.1 in
    let next = c.in_ok-loan.ensures.loan.lent.number
    ∙ sym (ap (λ (t : State g.row.T.Denot g.row.U.Denot). t.next_message) shown.state) in (
      with_value s lends.0 c.args.self.now.id c.in_ok-loan.loan.loan.number next wrote.0 wrote.1 c.default.result
          (lends.2).0 (lends.2).2,
      wrote.2,
      (
        c.default.result,
        c.default.ensures,
        (lends.2).0,
        (lends.2).1,
        written-grants s lends.0 c.args.self.now.id c.in_ok-loan.loan.loan.number next wrote.0 wrote.1 c.default.result
            (lends.2).0 (lends.2).2,
      ),
    )
