use Rattle.std.proofs.Common.{rules, ℕ, ap}
use Rattle.iox2_pubsub.specs.Handles.{as_publisher, publisher_id}
use Rattle.iox2_pubsub.specs.declared.slice.publisher.loan_located.LocatedLoan.{LocatedLoan}
use Rattle.iox2_c.specs.Serving.{Serving}
use Rattle.iox2_c.proofs.LoanSteps.{loan-asked, loan-refused}
use Rattle.iox2_c.proofs.calls.lending.loan_named.Goals as goal

pub returns-in-Err : goal.returns-in-Err
returns-in-Err g c = loan-refused g.B.Fill.lends _ c.args.len c.args.service.now _ _ _ _ (search rules) (search rules)
    (search rules) (search rules)

pub returns : goal.returns
returns g c =
    loan-asked (λ (it : LocatedLoan ℕ). it.loan) g.B.Fill.lends c.args.numbers.now c.args.len c.args.service.now _ _ _ _
    c.service.inside.domain (publisher_id (as_publisher c.in-Ok.publisher)) c.lend_located-lent.result
    (ap (λ (s : Serving). s.domain) c.service.view_is) c.in-Ok.ensures.id c.lend_located-lent.ensures.lends
    c.lend_located-lent.ensures.out c.lend_located-lent.ensures.new c.tell_located.ensures.code
    c.tell_located.ensures.named c.tell_located.ensures.same (search rules)
