use Rattle.std.proofs.Common.{None, Some, map, slice_index_or, sym, subst, ap, ◌∙◌}
use Rattle.std.proofs.lemmas.List.{with_items_is}
use Rattle.std.specs.Option.{option_map}
use Rattle.iox2_domain.specs.Closes.{left_subscriber}
use Rattle.iox2_domain.specs.Fields.{Fields}
use Rattle.iox2_domain.specs.OpenMarks.{IsUnmarkedSender}
use Rattle.iox2_domain.proofs.lemmas.slots.PublisherBooks.{read-there}
use Rattle.iox2_steps.proofs.closes.CloseSteps.{closes-book, closes-covered, closes-finds, closes-history, closes-done}
use Rattle.iox2_ports.proofs.publisher_closes.leave_domain.Goals as goal

pub index_mut-book-requires : goal.index_mut-book-requires
index_mut-book-requires g c =
    closes-book c.args.state.now _ c.state.view_is c.requires.agrees c.args.place _
    (read-there _ c.args.place _ _
    (ap (λ (f : Fields g.row.T.Denot g.row.U.Denot). slice_index_or f.publishers c.args.place None) c.state.view_is
    ∙ c.requires.stands.1) c.index_mut.ensures.value ∙ sym c.take.ensures.value ∙ c.in-Some.is
    ∙ ap Some (sym c.publisher.view_is))

pub leave_connections-requires : goal.leave_connections-requires
leave_connections-requires g c =
    let here = read-there _ c.args.place _ _
    (ap (λ (f : Fields g.row.T.Denot g.row.U.Denot). slice_index_or f.publishers c.args.place None) c.state.view_is
    ∙ c.requires.stands.1) c.index_mut.ensures.value ∙ sym c.take.ensures.value ∙ c.in-Some.is
    ∙ ap Some (sym c.publisher.view_is) in
    rw (sym c.publisher.view_is) (record {
      covered = closes-covered c.args.state.now _ c.state.view_is c.requires.agrees c.args.place _ here _
          c.index_mut-book.ensures.value;
      found = rw c.deref.ensures.value
          (closes-finds c.args.state.now _ c.state.view_is c.requires.agrees c.args.place _ here);
    })

pub let_go_of_history-requires : goal.let_go_of_history-requires
let_go_of_history-requires g c =
    closes-history c.args.state.now _ c.state.view_is c.requires.agrees c.args.place _
    (read-there _ c.args.place _ _
    (ap (λ (f : Fields g.row.T.Denot g.row.U.Denot). slice_index_or f.publishers c.args.place None) c.state.view_is
    ∙ c.requires.stands.1) c.index_mut.ensures.value ∙ sym c.take.ensures.value ∙ c.in-Some.is
    ∙ ap Some (sym c.publisher.view_is))
    _ c.index_mut-book.ensures.value c.leave_connections.new.book c.leave_connections.ensures.book
    c.leave_connections.new.connections (rw (sym c.publisher.view_is) at c.leave_connections.ensures.counters)

pub returns : goal.returns
returns g c =
    closes-done c.args.state.now _ c.state.view_is c.requires.agrees c.args.place _
    (read-there _ c.args.place _ _
    (ap (λ (f : Fields g.row.T.Denot g.row.U.Denot). slice_index_or f.publishers c.args.place None) c.state.view_is
    ∙ c.requires.stands.1) c.index_mut.ensures.value ∙ sym c.take.ensures.value ∙ c.in-Some.is
    ∙ ap Some (sym c.publisher.view_is))
    (subst (λ (f : Fields g.row.T.Denot g.row.U.Denot). IsUnmarkedSender f.connections c.args.place)
    (sym c.state.view_is) c.requires.unmarked)
    (c.requires.unblocked _ (sym
    (ap (λ (f : Fields g.row.T.Denot g.row.U.Denot). slice_index_or f.publishers c.args.place None) c.state.view_is)
    ∙ read-there _ c.args.place _ _
    (ap (λ (f : Fields g.row.T.Denot g.row.U.Denot). slice_index_or f.publishers c.args.place None) c.state.view_is
    ∙ c.requires.stands.1) c.index_mut.ensures.value ∙ sym c.take.ensures.value ∙ c.in-Some.is
    ∙ ap Some (sym c.publisher.view_is)))
    _ c.index_mut-book.ensures.value c.leave_connections.new.book c.leave_connections.ensures.book
    c.leave_connections.new.connections (rw (sym c.publisher.view_is) at c.leave_connections.ensures.counters)
    c.leave_connections.ensures.slots
    (rw (sym c.publisher.view_is, c.deref.ensures.value) at c.leave_connections.ensures.connections)
    c.let_go_of_history.new.book c.let_go_of_history.ensures.book c.let_go_of_history.ensures.releases
    _ (with_items_is c.state.inside.subscribers c.forget_everywhere.new.subscribers
    (c.forget_everywhere.auto.subscribers ∙ c.deref_mut.ensures.len)
    ∙ c.forget_everywhere.ensures
    ∙ ap (map (option_map (left_subscriber c.leave_connections.new.connections c.args.place)))
    c.deref_mut.ensures.value) c.take.new.self c.take.ensures.after
