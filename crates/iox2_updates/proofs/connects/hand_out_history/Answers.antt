use Rattle.std.proofs.Common.{None, Some, slice_index_or, sym, ◌∙◌, ap, subst}
use Rattle.slab.specs.Slab.{Slab, with_value}
use Rattle.iox2_slots.specs.SlotBook.{Book}
use Rattle.iox2_domain.specs.Fields.{Fields}
use Rattle.iox2_domain.specs.Invariant.{IsDomain}
use Rattle.iox2_domain.proofs.lemmas.slots.PublisherBooks.{read-there, book-there}
use Rattle.iox2_steps.proofs.updates.HistoryConnects.{end-there, end-empty, end-in_use, end-fits, end-gains, end-handed}
use Rattle.iox2_updates.specs.Holders.{GainsHolders}
use Rattle.iox2_updates.proofs.GainedHolders.{gains-written}
use Rattle.iox2_updates.proofs.connects.hand_out_history.Goals as goal

pub index_mut-requires : goal.index_mut-requires
index_mut-requires g c =
    end-there c.args.state.now _ c.state.view_is c.requires.agrees c.args.publisher_place c.args.key c.requires.new_end
    _
    (read-there _ c.args.publisher_place _ _
    (ap (λ (f : Fields g.row.T.Denot g.row.U.Denot). slice_index_or f.publishers c.args.publisher_place None)
    c.state.view_is ∙ c.requires.new_end.stands) c.index.ensures ∙ c.in-Some.is ∙ ap Some (sym c.publisher.view_is))

pub index_mut-requires-2 : goal.index_mut-requires-2
index_mut-requires-2 g c =
    book-there _ (subst (IsDomain {T = g.row.T.Denot} {U = g.row.U.Denot})
    (sym c.state.view_is) c.requires.agrees).parts c.args.publisher_place _
    (read-there _ c.args.publisher_place _ _
    (ap (λ (f : Fields g.row.T.Denot g.row.U.Denot). slice_index_or f.publishers c.args.publisher_place None)
    c.state.view_is ∙ c.requires.new_end.stands) c.index.ensures ∙ c.in-Some.is ∙ ap Some (sym c.publisher.view_is))

pub deliver_history-requires-clause-empty : goal.deliver_history-requires-clause-empty
deliver_history-requires-clause-empty g c =
    end-empty c.args.state.now _ c.state.view_is c.requires.agrees c.args.publisher_place c.args.key c.requires.new_end
    _
    (read-there _ c.args.publisher_place _ _
    (ap (λ (f : Fields g.row.T.Denot g.row.U.Denot). slice_index_or f.publishers c.args.publisher_place None)
    c.state.view_is ∙ c.requires.new_end.stands) c.index.ensures ∙ c.in-Some.is ∙ ap Some (sym c.publisher.view_is))
    c.index_mut.result.now c.index_mut.ensures.value

pub deliver_history-requires-clause-in_use : goal.deliver_history-requires-clause-in_use
deliver_history-requires-clause-in_use g c =
    end-in_use c.args.state.now _ c.state.view_is c.requires.agrees c.args.publisher_place c.args.key c.requires.new_end
    _
    (read-there _ c.args.publisher_place _ _
    (ap (λ (f : Fields g.row.T.Denot g.row.U.Denot). slice_index_or f.publishers c.args.publisher_place None)
    c.state.view_is ∙ c.requires.new_end.stands) c.index.ensures ∙ c.in-Some.is ∙ ap Some (sym c.publisher.view_is))
    _ c.index_mut-2.ensures.value

pub deliver_history-requires-clause-fits : goal.deliver_history-requires-clause-fits
deliver_history-requires-clause-fits g c =
    end-fits c.args.state.now _ c.state.view_is c.requires.agrees c.args.publisher_place c.args.key c.requires.new_end _
    (read-there _ c.args.publisher_place _ _
    (ap (λ (f : Fields g.row.T.Denot g.row.U.Denot). slice_index_or f.publishers c.args.publisher_place None)
    c.state.view_is ∙ c.requires.new_end.stands) c.index.ensures ∙ c.in-Some.is ∙ ap Some (sym c.publisher.view_is))
    _ c.index_mut-2.ensures.value (c.requires.few c.requires.new_end).at

pub returns-clause-out : goal.returns-clause-out
returns-clause-out g c =
    end-handed c.args.state.now _ c.state.view_is c.requires.agrees c.args.publisher_place c.args.key c.requires.new_end
    _
    (read-there _ c.args.publisher_place _ _
    (ap (λ (f : Fields g.row.T.Denot g.row.U.Denot). slice_index_or f.publishers c.args.publisher_place None)
    c.state.view_is ∙ c.requires.new_end.stands) c.index.ensures ∙ c.in-Some.is ∙ ap Some (sym c.publisher.view_is))
    _ c.index_mut-2.ensures.value
    c.index_mut.result.now c.index_mut.ensures.value c.deliver_history.new.connection
    c.deliver_history.ensures.connection c.deliver_history.new.book c.deliver_history.ensures.book
    c.deliver_history.ensures.slots c.deliver_history.ensures.counters

pub returns-clause-gains : goal.returns-clause-gains
returns-clause-gains g c =
    subst (λ (books : Slab Book). GainsHolders 1 books
    (with_value c.state.inside.books c.publisher.inside.book c.deliver_history.new.book))
    (ap (λ (f : Fields g.row.T.Denot g.row.U.Denot). f.books) c.state.view_is)
    (gains-written 1 c.state.inside.books c.publisher.inside.book _ c.deliver_history.new.book
    c.index_mut-2.ensures.value
    (end-gains c.args.state.now _ c.state.view_is c.requires.agrees c.args.publisher_place c.args.key c.requires.new_end
    _
    (read-there _ c.args.publisher_place _ _
    (ap (λ (f : Fields g.row.T.Denot g.row.U.Denot). slice_index_or f.publishers c.args.publisher_place None)
    c.state.view_is ∙ c.requires.new_end.stands) c.index.ensures ∙ c.in-Some.is ∙ ap Some (sym c.publisher.view_is))
    _ c.index_mut-2.ensures.value _ c.deliver_history.new.book c.deliver_history.ensures.counters))
