use Rattle.std.proofs.Common.{◌≡◌, [], None, slice_index_or, sym, ◌∙◌, ap, subst, Some, arith}
use Rattle.std.proofs.lemmas.List.{with_items_is}
use Rattle.slab.specs.Slab.{Slab, get, with_value}
use Rattle.iox2_slots.specs.SlotBook.{Book}
use Rattle.std.specs.Prelude.{IsSomeAnd}
use Rattle.iox2_connections.specs.Link.{Link}
use Rattle.iox2_domain.specs.Fields.{Fields}
use Rattle.iox2_domain.specs.Drops.{LosesSenderEnd}
use Rattle.iox2_domain.specs.Updates.{changed_at, without_sender_key}
use Rattle.iox2_domain.specs.contracts.state.DomainState.{the_view}
use denote.Param.{param}
use Rattle.iox2_domain.specs.Invariant.{IsDomain}
use Rattle.iox2_domain.proofs.lemmas.slots.PublisherBooks.{read-there, book-there, book-covers}
use Rattle.iox2_steps.proofs.updates.DropCalls.{end-its, end-lost}
use Rattle.iox2_updates.specs.Holders.{GainsHolders}
use Rattle.iox2_updates.proofs.GainedHolders.{gains-written}
use Rattle.iox2_updates.proofs.connects.disconnect_sender.Goals as goal

pub index_mut-book-requires : goal.index_mut-book-requires
index_mut-book-requires g c =
    book-there _ (subst (IsDomain {T = g.row.T.Denot} {U = g.row.U.Denot})
    (sym c.state.view_is) c.requires.agrees).parts c.args.at.publisher _
    (read-there _ c.args.at.publisher _ _
    (ap (λ (f : Fields g.row.T.Denot g.row.U.Denot). slice_index_or f.publishers c.args.at.publisher None)
    c.state.view_is ∙ c.requires.end.stands) c.index.ensures ∙ c.in-Some.is ∙ ap Some (sym c.publisher.view_is))

pub remove_connection-requires-clause-own : goal.remove_connection-requires-clause-own
remove_connection-requires-clause-own g c =
    rw c.value.ensures
    (end-its c.args.state.now _ c.state.view_is c.requires.agrees c.args.at.publisher c.args.at.subscriber c.args.key
    c.requires.end _
    (read-there _ c.args.at.publisher _ _
    (ap (λ (f : Fields g.row.T.Denot g.row.U.Denot). slice_index_or f.publishers c.args.at.publisher None)
    c.state.view_is ∙ c.requires.end.stands) c.index.ensures ∙ c.in-Some.is ∙ ap Some (sym c.publisher.view_is)))

pub remove_connection-requires-clause-covered : goal.remove_connection-requires-clause-covered
remove_connection-requires-clause-covered g c =
    rw c.value.ensures
    (book-covers _ (subst (IsDomain {T = g.row.T.Denot} {U = g.row.U.Denot})
    (sym c.state.view_is) c.requires.agrees).parts c.args.at.publisher _
    (read-there _ c.args.at.publisher _ _
    (ap (λ (f : Fields g.row.T.Denot g.row.U.Denot). slice_index_or f.publishers c.args.at.publisher None)
    c.state.view_is ∙ c.requires.end.stands) c.index.ensures ∙ c.in-Some.is ∙ ap Some (sym c.publisher.view_is))
    _ c.index_mut-book.ensures.value)

pub remove_connection-requires-clause-unused : goal.remove_connection-requires-clause-unused
remove_connection-requires-clause-unused g c =
    subst (λ (f : Fields g.row.T.Denot g.row.U.Denot). IsSomeAnd (get f.connections c.args.key)
    (λ (d : Link). d.borrowed ≡ [])) (sym c.state.view_is) c.requires.unused

pub returns-clause-loses : goal.returns-clause-loses
returns-clause-loses g c = λ x at.
    let written : _ ≡ changed_at
    (without_sender_key c.args.at.subscriber) c.state.inside.publishers.items c.args.at.publisher =
    with_items_is c.state.inside.publishers c.clear_key_at.new.ports
    (c.clear_key_at.auto.ports ∙ c.deref_mut.ensures.len)
    ∙ c.clear_key_at.ensures ∙ ap
    (λ xs. changed_at (without_sender_key c.args.at.subscriber) xs c.args.at.publisher) c.deref_mut.ensures.value in
    subst (λ (f : Fields g.row.T.Denot g.row.U.Denot).
    LosesSenderEnd c.args.state.now c.args.at.publisher c.args.at.subscriber x f)
    (λ k. record (the_view (param 0 g.row.T) (param 1 g.row.U) c.state.inside) {
      publishers = sym written k;
      connections = c.remove_connection.new.connections;
      books = with_value c.state.inside.books c.publisher.inside.book c.remove_connection.new.book;
    })
    (end-lost c.args.state.now _ c.state.view_is c.requires.agrees c.args.at.publisher c.args.at.subscriber c.args.key
    c.requires.end _
    (read-there _ c.args.at.publisher _ _
    (ap (λ (f : Fields g.row.T.Denot g.row.U.Denot). slice_index_or f.publishers c.args.at.publisher None)
    c.state.view_is ∙ c.requires.end.stands) c.index.ensures ∙ c.in-Some.is ∙ ap Some (sym c.publisher.view_is))
    _ c.index_mut-book.ensures.value c.remove_connection.new.book c.remove_connection.ensures.book c.requires.subscriber
    c.requires.alone c.requires.elsewhere
    c.remove_connection.new.connections (rw c.value.ensures at c.remove_connection.ensures.removes) x at)

pub returns-clause-gains : goal.returns-clause-gains
returns-clause-gains g c =
    subst (λ (books : Slab Book). GainsHolders 0 books
    (with_value c.state.inside.books c.publisher.inside.book c.remove_connection.new.book))
    (ap (λ (f : Fields g.row.T.Denot g.row.U.Denot). f.books) c.state.view_is)
    (gains-written 0 c.state.inside.books c.publisher.inside.book _ c.remove_connection.new.book
    c.index_mut-book.ensures.value (λ slot. omega (arith, c.remove_connection.ensures.removes.drops.shrinks slot)))
