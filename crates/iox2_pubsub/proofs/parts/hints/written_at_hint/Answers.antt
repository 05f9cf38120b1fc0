use Rattle.std.proofs.Common.{◌≡◌, ℕ, is_some, true, ap, sym, subst, ◌∙◌}
use Rattle.std.specs.declared.option.Option.TheVariants.{Some}
use Rattle.slab.specs.Slab.{get}
use Rattle.iox2_domain.specs.Fields.{Fields, kept_of}
use Rattle.iox2_domain.specs.Kept.{state_of}
use Rattle.iox2_domain.specs.LoanSlots.{LiesInSlot}
use Rattle.iox2_domain.proofs.lemmas.loans.LoanSlots.{book-its, lies-in-book}
use Rattle.iox2_pubsub.proofs.MarkedLoans.{marked-so, marks-loan}
use Rattle.iox2_pubsub.proofs.parts.hints.written_at_hint.Goals as goal

pub index-requires : goal.index-requires
index-requires g c =
    let stands = c.in-Some.ensures in
    let its = c.requires.parts.books.publishers c.args.loan.now.place stands.0 stands.1 in
    ap is_some (ap (λ (f : Fields g.row.T.Denot g.row.U.Denot). get f.books c.in-Some.key) c.state.view_is
    ∙ ap (get c.args.state.now.books) (sym stands.3) ∙ its.stands)

pub returns-then-is_written_slot-clause-written : goal.returns-then-is_written_slot-clause-written
returns-then-is_written_slot-clause-written g c =
    let stands = c.in-Some.ensures in
    let here : get c.args.state.now.books c.in-Some.key ≡ Some c.index.result.now =
    sym (ap (λ (f : Fields g.row.T.Denot g.row.U.Denot). get f.books c.in-Some.key) c.state.view_is)
    ∙ c.index.ensures in
    let its : c.index.result.now.publisher ≡ c.args.loan.now.publisher =
    book-its {T = g.row.T.Denot} {U = g.row.U.Denot} c.args.state.now c.requires c.args.loan.now.place stands.0
    c.index.result.now stands.1 (ap (get c.args.state.now.books) stands.3 ∙ here) ∙ stands.2 in
    let lies = subst (λ (q : ℕ). LiesInSlot {T = g.row.T.Denot}
    {U = g.row.U.Denot} c.args.state.now q c.args.loan.now.number c.in-Some.key c.args.loan.now.slot) its
    (lies-in-book {T = g.row.T.Denot} {U = g.row.U.Denot} c.args.state.now c.requires c.in-Some.key c.args.loan.now.slot
    c.args.loan.now.number c.index.result.now here (c.is_written_slot.ensures.loan c.if-is_written_slot.true)) in
    let marked = c.is_written_slot.ensures.written c.if-is_written_slot.true in
    (marked-so (state_of (kept_of c.args.state.now)) c.args.loan.now.publisher c.args.loan.now.number _ true
    (marks-loan {T = g.row.T.Denot} {U = g.row.U.Denot} c.args.state.now c.args.loan.now.publisher
    c.args.loan.now.number c.in-Some.key c.args.loan.now.slot lies c.index.result.now here marked.0 marked.1)).0
    marked.2
