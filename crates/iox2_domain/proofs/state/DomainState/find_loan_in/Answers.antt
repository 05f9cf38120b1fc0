use Rattle.std.proofs.Common.{ap, sym, subst, ◌∙◌, ℕ}
use Rattle.slab.specs.Slab.{get}
use Rattle.iox2_domain.specs.Fields.{Fields}
use Rattle.iox2_domain.specs.LoanSlots.{LiesInSlot}
use Rattle.iox2_domain.proofs.lemmas.loans.LoanSlots.{equal-unless, lies-in-book, none-lent-there, no-book-lends}
use Rattle.iox2_domain.proofs.state.DomainState.find_loan_in.Goals as goal

pub returns-in_err-book : goal.returns-in_err-book
returns-in_err-book g c =
    rw c.from_residual.ensures
    (no-book-lends {T = g.row.T.Denot} {U = g.row.U.Denot} c.args.self.now c.args.key c.args.publisher c.args.number
    (ap (λ (f : Fields g.row.T.Denot g.row.U.Denot). get f.books c.args.key) (sym c.self.view_is)
    ∙ sym c.in_err-book.ensures))

pub returns-in_err-slot : goal.returns-in_err-slot
returns-in_err-slot g c =
    rw c.from_residual-in_err-slot.ensures (none-lent-there {T = g.row.T.Denot}
    {U = g.row.U.Denot} c.args.self.now c.args.key c.args.publisher c.args.number c.in_ok-book.book.now
    (ap (λ (f : Fields g.row.T.Denot g.row.U.Denot). get f.books c.args.key) (sym c.self.view_is)
    ∙ sym c.in_ok-book.ensures) (λ _. c.in_err-slot.ensures))

pub returns : goal.returns
returns g c =
    subst (λ (q : ℕ). LiesInSlot {T = g.row.T.Denot} {U = g.row.U.Denot} c.args.self.now q c.args.number c.args.key
    c.in_ok-slot.slot) (sym c.publisher.ensures
    ∙ equal-unless c.publisher.result c.args.publisher c.ne.result c.ne.ensures c.if-ne.false)
    (lies-in-book {T = g.row.T.Denot}
    {U = g.row.U.Denot} c.args.self.now c.requires c.args.key c.in_ok-slot.slot c.args.number c.in_ok-book.book.now
    (ap (λ (f : Fields g.row.T.Denot g.row.U.Denot). get f.books c.args.key) (sym c.self.view_is)
    ∙ sym c.in_ok-book.ensures) c.in_ok-slot.ensures)
