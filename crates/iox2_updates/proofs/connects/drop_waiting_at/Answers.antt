use Rattle.std.proofs.Common.{None, slice_index_or, sym, ◌∙◌, ap, subst, Some, arith}
use Rattle.iox2_domain.specs.Fields.{Fields}
use Rattle.iox2_domain.specs.Invariant.{IsDomain}
use Rattle.iox2_domain.proofs.lemmas.slots.PublisherBooks.{read-there, book-there, book-covers}
use Rattle.iox2_steps.proofs.updates.DropCalls.{end-its, waiting-lost}
use Rattle.slab.specs.Slab.{Slab, with_value}
use Rattle.iox2_slots.specs.SlotBook.{Book}
use Rattle.iox2_updates.specs.Holders.{GainsHolders}
use Rattle.iox2_updates.proofs.GainedHolders.{gains-written}
use Rattle.iox2_updates.proofs.connects.drop_waiting_at.Goals as goal

pub index_mut-book-requires : goal.index_mut-book-requires
index_mut-book-requires g c =
    book-there _ (subst (IsDomain {T = g.row.T.Denot} {U = g.row.U.Denot})
    (sym c.state.view_is) c.requires.agrees).parts c.args.publisher_place _
    (read-there _ c.args.publisher_place _ _
    (ap (λ (f : Fields g.row.T.Denot g.row.U.Denot). slice_index_or f.publishers c.args.publisher_place None)
    c.state.view_is ∙ c.requires.end.1.stands) c.index.ensures ∙ c.in-Some.is ∙ ap Some (sym c.publisher.view_is))

pub drop_all-requires-clause-own : goal.drop_all-requires-clause-own
drop_all-requires-clause-own g c =
    rw c.value.ensures
    (end-its c.args.state.now _ c.state.view_is c.requires.agrees c.args.publisher_place c.requires.end.0 c.args.key
    c.requires.end.1 _
    (read-there _ c.args.publisher_place _ _
    (ap (λ (f : Fields g.row.T.Denot g.row.U.Denot). slice_index_or f.publishers c.args.publisher_place None)
    c.state.view_is ∙ c.requires.end.1.stands) c.index.ensures ∙ c.in-Some.is ∙ ap Some (sym c.publisher.view_is)))

pub drop_all-requires-clause-covered : goal.drop_all-requires-clause-covered
drop_all-requires-clause-covered g c =
    rw c.value.ensures
    (book-covers _ (subst (IsDomain {T = g.row.T.Denot} {U = g.row.U.Denot})
    (sym c.state.view_is) c.requires.agrees).parts c.args.publisher_place _
    (read-there _ c.args.publisher_place _ _
    (ap (λ (f : Fields g.row.T.Denot g.row.U.Denot). slice_index_or f.publishers c.args.publisher_place None)
    c.state.view_is ∙ c.requires.end.1.stands) c.index.ensures ∙ c.in-Some.is ∙ ap Some (sym c.publisher.view_is))
    _ c.index_mut-book.ensures.value)

pub returns-clause-loses : goal.returns-clause-loses
returns-clause-loses g c = λ x at d at_d.
    waiting-lost c.args.state.now _ c.state.view_is c.requires.agrees c.args.publisher_place c.requires.end.0 c.args.key
    c.requires.end.1 _
    (read-there _ c.args.publisher_place _ _
    (ap (λ (f : Fields g.row.T.Denot g.row.U.Denot). slice_index_or f.publishers c.args.publisher_place None)
    c.state.view_is ∙ c.requires.end.1.stands) c.index.ensures ∙ c.in-Some.is ∙ ap Some (sym c.publisher.view_is))
    _ c.index_mut-book.ensures.value c.drop_all.new.book c.drop_all.ensures.book c.drop_all.new.connections
    (rw c.value.ensures at c.drop_all.ensures.drops) x at d at_d

pub returns-clause-gains : goal.returns-clause-gains
returns-clause-gains g c =
    subst (λ (books : Slab Book). GainsHolders 0 books
    (with_value c.state.inside.books c.publisher.inside.book c.drop_all.new.book))
    (ap (λ (f : Fields g.row.T.Denot g.row.U.Denot). f.books) c.state.view_is)
    (gains-written 0 c.state.inside.books c.publisher.inside.book _ c.drop_all.new.book c.index_mut-book.ensures.value
    (λ slot. omega (arith, c.drop_all.ensures.drops.shrinks slot)))
