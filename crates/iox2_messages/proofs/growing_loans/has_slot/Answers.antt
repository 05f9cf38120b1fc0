use Rattle.std.proofs.Common.{slice_index_or, None, Some, sym, subst, ap, ◌∙◌}
use Rattle.iox2_domain.specs.Fields.{Fields}
use Rattle.iox2_domain.specs.Invariant.{IsDomain}
use Rattle.iox2_domain.proofs.lemmas.slots.PublisherBooks.{read-there, book-there}
use Rattle.iox2_messages.proofs.GrowingPass.{slot-seen}
use Rattle.iox2_messages.proofs.StandingPlaces.{not-none, publisher-within}
use Rattle.iox2_messages.proofs.growing_loans.has_slot.Goals as goal

pub index-requires : goal.index-requires
index-requires g c = rw c.state.inside.publishers.ok.0
    (publisher-within {T = g.row.T.Denot} {U = g.row.U.Denot} _ _ c.state.view_is c.args.place _ c.requires.stands.1)

pub unreachable-requires : goal.unreachable-requires
unreachable-requires g c = not-none {T = g.row.T.Denot}
    {U = g.row.U.Denot} _ _ c.state.view_is c.args.place _ c.requires.stands.1 _ c.index.ensures c.in_default.is

pub index-book-requires : goal.index-book-requires
index-book-requires g c =
    book-there _ (subst (IsDomain {T = g.row.T.Denot} {U = g.row.U.Denot})
    (sym c.state.view_is) c.requires.agrees).parts c.args.place _
    (read-there _ c.args.place _ _
    (ap (λ (f : Fields g.row.T.Denot g.row.U.Denot). slice_index_or f.publishers c.args.place None) c.state.view_is
    ∙ c.requires.stands.1) c.index.ensures ∙ c.in-Some.is ∙ ap Some (sym c.publisher.view_is))

pub returns-then-len-publisher : goal.returns-then-len-publisher
returns-then-len-publisher g c = λ x at.
    slot-seen {T = g.row.T.Denot} {U = g.row.U.Denot} _ _ c.state.view_is c.args.place _ x
    (read-there _ c.args.place _ _
    (ap (λ (f : Fields g.row.T.Denot g.row.U.Denot). slice_index_or f.publishers c.args.place None) c.state.view_is
    ∙ c.requires.stands.1) c.index.ensures ∙ c.in-Some.is ∙ ap Some (sym c.publisher.view_is)) at
    _ c.index-book.ensures c.args.len c.if-len-publisher.true c.is_full_from.result c.is_full_from.ensures
