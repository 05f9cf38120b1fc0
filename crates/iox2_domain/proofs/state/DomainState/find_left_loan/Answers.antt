use Rattle.std.proofs.Common.{◌≡◌, below_more, length, ap, arith}
use Rattle.iox2_domain.specs.Fields.{Fields}
use Rattle.iox2_domain.proofs.lemmas.loans.LoanSlots.{lent-nowhere, not-lent-there}
use Rattle.iox2_domain.proofs.state.DomainState.find_left_loan.Goals as goal

pub loop-key-preserved : goal.loop-key-preserved
loop-key-preserved g c =
    below_more _ _ c.loop-key.invariant (not-lent-there c.args.self.now c.loop-key.key c.args.publisher c.args.number
    c.find_loan_in-found.result c.find_loan_in-found.ensures c.is_some.result c.is_some.ensures c.if-is_some.false)

pub returns : goal.returns
returns g c =
    lent-nowhere c.args.self.now c.requires c.args.publisher c.args.number (λ k below.
    let long : length c.self.inside.books.slots ≡ length c.args.self.now.books.slots =
    ap (λ (f : Fields g.row.T.Denot g.row.U.Denot). length f.books.slots) c.self.view_is in
    c.loop-key.invariant k (omega (arith, below, long, c.capacity-key-end.ensures.slots, c.loop-key-test.false)))
