use Rattle.std.proofs.Common.{◌≡◌, ◌∙◌, refl, ap, get_or}
use Rattle.std.proofs.lemmas.List.{with_items_is}
use Rattle.std.specs.declared.option.Option.TheVariants.{None}
use Rattle.iox2_connections.proofs.MailboxChanges.{within_if_some}
use Rattle.iox2_domain.specs.Fields.{Fields}
use Rattle.iox2_domain.specs.Updates.{changed_at, without_receiver_key}
use Rattle.iox2_steps.proofs.receivers.RetiredFields.{discarded-changes, frees-book, frees-changes, spares-same}
use Rattle.iox2_domain.proofs.lemmas.slots.PublisherBooks.{its-book}
use Rattle.iox2_updates.proofs.retirements.drop_end.Goals as goal

pub drop_connection-book-requires-clause-stands : goal.drop_connection-book-requires-clause-stands
drop_connection-book-requires-clause-stands g c = let end = c.requires.departed.end in rw end.link refl

pub clear_key_at-requires : goal.clear_key_at-requires
clear_key_at-requires g c =
    let end = c.requires.departed.end in
    let book =
    its-book c.args.state.now c.requires.departed.agrees.parts c.args.key c.requires.departed.link end.link in
    let lost = (c.drop_connection-book.ensures c.requires.departed.link book.book end.link book.stands).1 in
    within_if_some c.deref_mut.result.now c.args.at.subscriber c.requires.departed.subscriber
    (ap (λ xs. get_or xs c.args.at.subscriber None) (c.deref_mut.ensures.value
    ∙ ap (λ (f : Fields g.row.T.Denot g.row.U.Denot). f.subscribers) (c.state.view_is ∙ lost.fields)) ∙ end.stands)

pub settle_book_if_left-requires : goal.settle_book_if_left-requires
settle_book_if_left-requires g c =
    let old = c.args.state.now in
    let end = c.requires.departed.end in
    let book = its-book old c.requires.departed.agrees.parts c.args.key c.requires.departed.link end.link in
    let lost = c.drop_connection-book.ensures c.requires.departed.link book.book end.link book.stands in
    let written : _ ≡ changed_at (without_receiver_key c.args.at.publisher)
    (c.drop_connection-book.new.state).subscribers c.args.at.subscriber =
    with_items_is c.state.inside.subscribers c.clear_key_at.new.ports
    (c.clear_key_at.auto.ports ∙ c.deref_mut.ensures.len)
    ∙ c.clear_key_at.ensures ∙ ap (λ xs. changed_at (without_receiver_key c.args.at.publisher) xs c.args.at.subscriber)
    (c.deref_mut.ensures.value ∙ ap (λ (f : Fields g.row.T.Denot g.row.U.Denot). f.subscribers) c.state.view_is) in
    (spares-same _ _ c.requires.departed.link.home.book lost.0
    (discarded-changes old c.requires.departed.agrees c.args.at.subscriber c.args.at.publisher
    c.requires.departed.subscriber c.args.key c.requires.departed.link end c.requires.unborrowed book.book book.stands
    c.drop_connection-book.new.state lost.1
    _ (λ k. record (c.state.view_is k) { subscribers = written k })).agrees).parts

pub returns : goal.returns
returns g c = λ departed.
    let y = departed.subscriber in
    let d = departed.link in
    let end = departed.end in
    let old = c.args.state.now in
    let book = its-book old c.requires.departed.agrees.parts c.args.key d end.link in
    let lost = c.drop_connection-book.ensures d book.book end.link book.stands in
    let written : _ ≡ changed_at (without_receiver_key c.args.at.publisher)
    (c.drop_connection-book.new.state).subscribers c.args.at.subscriber =
    with_items_is c.state.inside.subscribers c.clear_key_at.new.ports
    (c.clear_key_at.auto.ports ∙ c.deref_mut.ensures.len)
    ∙ c.clear_key_at.ensures ∙ ap (λ xs. changed_at (without_receiver_key c.args.at.publisher) xs c.args.at.subscriber)
    (c.deref_mut.ensures.value ∙ ap (λ (f : Fields g.row.T.Denot g.row.U.Denot). f.subscribers) c.state.view_is) in
    let changes = discarded-changes old c.requires.departed.agrees c.args.at.subscriber c.args.at.publisher y c.args.key
    d end c.requires.unborrowed book.book book.stands c.drop_connection-book.new.state lost.1
    _ (λ k. record (c.state.view_is k) { subscribers = written k }) in
    frees-changes old _ _ c.args.at.subscriber y _ d.home.book changes
    (frees-book _ _ _ (spares-same _ _ d.home.book lost.0 changes.agrees) c.settle_book_if_left.ensures.kept
    c.settle_book_if_left.ensures.books)
