use Rattle.std.proofs.Common.{◌≡◌, ℕ, ap, sym, subst, ◌∙◌}
use Rattle.std.specs.declared.option.Option.TheVariants.{Some}
use Rattle.slab.specs.Slab.{get}
use Rattle.iox2_domain.specs.Fields.{Fields}
use Rattle.iox2_domain.specs.LoanSlots.{LiesInSlot}
use Rattle.iox2_domain.proofs.lemmas.loans.LoanSlots.{book-its, lies-in-book}
use Rattle.iox2_pubsub.proofs.parts.hints.is_lent_at_hint.Goals as goal

pub returns-in-Some-clause-lies : goal.returns-in-Some-clause-lies
returns-in-Some-clause-lies g c = λ yes.
    let stands = c.has_book.ensures c.if-not-has_book.false in
    let here : get c.args.state.now.books c.args.loan.now.book ≡ Some c.in-Some.book.now =
    sym (ap (λ (f : Fields g.row.T.Denot g.row.U.Denot). get f.books c.args.loan.now.book) c.state.view_is)
    ∙ sym c.in-Some.ensures in
    let its : c.in-Some.book.now.publisher ≡ c.args.loan.now.publisher =
    book-its {T = g.row.T.Denot} {U = g.row.U.Denot} c.args.state.now c.requires c.args.loan.now.place stands.0
    c.in-Some.book.now stands.1 (ap (get c.args.state.now.books) stands.3 ∙ here) ∙ stands.2 in
    subst (λ (q : ℕ). LiesInSlot {T = g.row.T.Denot}
    {U = g.row.U.Denot} c.args.state.now q c.args.loan.now.number c.args.loan.now.book c.args.loan.now.slot) its
    (lies-in-book {T = g.row.T.Denot} {U = g.row.U.Denot} c.args.state.now c.requires c.args.loan.now.book
    c.args.loan.now.slot c.args.loan.now.number c.in-Some.book.now here (c.is_loan_slot.ensures.0 yes))
