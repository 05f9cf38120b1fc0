use Rattle.std.proofs.Common.{◌∙◌, ap, sym}
use Rattle.slab.specs.Slab.{get}
use Rattle.iox2_domain.specs.Fields.{Fields}
use Rattle.iox2_domain.proofs.lemmas.loans.LoanCalls.{header-read}
use Rattle.iox2_messages.proofs.loan_calls.loan_header.Goals as goal

pub returns : goal.returns
returns g c =
    header-read {T = g.row.T.Denot} {U = g.row.U.Denot} c.args.state.now c.requires.agrees c.args.loan.now.publisher
    c.args.loan.now.number c.find_live_loan-at.result.book c.find_live_loan-at.result.slot c.find_live_loan-at.ensures
    c.index.result.now
    (sym (ap (λ (v : Fields g.row.T.Denot g.row.U.Denot). get v.books c.find_live_loan-at.result.book) c.state.view_is)
    ∙ c.index.ensures) c.header.result.now c.header.ensures
