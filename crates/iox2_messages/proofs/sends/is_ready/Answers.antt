use Rattle.iox2_machine.specs.machine.Environments.{fixed_handlers}
use Rattle.std.proofs.Common.{◌≡◌, List, Option, None, Some, slice_index_or, le_refl, sym, ◌∙◌, ap}
use Rattle.iox2_domain.specs.Ports.{PublisherFields}
use Rattle.iox2_domain.specs.Fields.{Fields}
use Rattle.iox2_steps.proofs.sends.SendSteps.{ready-in-book}
use Rattle.iox2_messages.proofs.sends.is_ready.Goals as goal

pub returns : goal.returns
returns g c = λ has.
    let stands : slice_index_or c.state.inside.publishers.items c.args.loan.now.place None
    ≡ Some c.in-Some-Some.publisher =
    sym (sym c.in-Some-Some.field-0-is ∙ c.in-Some-Some.ensures.lookup.4 (le_refl c.args.loan.now.place) None
    ∙ ap
    (λ (xs : List (Option PublisherFields)). slice_index_or xs c.args.loan.now.place None) c.deref.ensures.value) in
    let there =
    sym (ap (λ (f : Fields g.row.T.Denot g.row.U.Denot). slice_index_or f.publishers c.args.loan.now.place None)
    c.state.view_is) ∙ stands ∙ ap Some (sym c.publisher.view_is) in
    ready-in-book {T = g.row.T.Denot} {U = g.row.U.Denot} fixed_handlers c.args.state.now c.requires.agrees
    c.args.loan.now.publisher c.args.loan.now.number c.args.loan.now.place
    c.args.loan.now.book c.args.loan.now.slot _ there
    (c.is_nothing.ensures.connected c.if-not-is_nothing.false) c.if-publisher-loan.false c.requires.lies
