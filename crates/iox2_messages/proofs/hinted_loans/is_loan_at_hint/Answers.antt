use Rattle.std.proofs.Common.{ap, sym, ◌∙◌}
use Rattle.slab.specs.Slab.{get}
use Rattle.iox2_domain.specs.Fields.{Fields}
use Rattle.iox2_domain.proofs.lemmas.loans.LoanSlots.{live-lies}
use Rattle.iox2_messages.proofs.hinted_loans.is_loan_at_hint.Goals as goal

pub returns-in-Some : goal.returns-in-Some
returns-in-Some g c = λ yes.
    live-lies {T = g.row.T.Denot} {U = g.row.U.Denot} c.args.state.now c.requires.domain c.args.loan.now.publisher
    c.args.loan.now.number c.requires.live c.args.loan.now.book c.args.loan.now.slot
    c.in-Some.book.now
    (sym (ap (λ (f : Fields g.row.T.Denot g.row.U.Denot). get f.books c.args.loan.now.book) c.state.view_is)
    ∙ sym c.in-Some.ensures) (c.has.ensures.0 yes)
