use Rattle.std.proofs.Common.{◌≡◌, ◌<◌, ◌∙◌, length, refl, ap, sym, subst, get_or}
use Rattle.std.proofs.lemmas.List.{with_items_is}
use Rattle.std.specs.declared.option.Option.TheVariants.{None, Some}
use Rattle.iox2_connections.proofs.MailboxChanges.{within_if_some}
use Rattle.slab.specs.Slab.{get}
use Rattle.iox2_connections.specs.Link.{Link}
use Rattle.iox2_slots.specs.SlotBook.{Book}
use Rattle.iox2_domain.specs.Ports.{SubscriberFields}
use Rattle.iox2_domain.specs.Fields.{Fields}
use Rattle.iox2_domain.specs.ReceiverSteps.{LosesConnection, replacing_expired}
use Rattle.iox2_domain.specs.Updates.{changed_at}
use Rattle.iox2_steps.proofs.receivers.ExpiredKeys.{expired-link, room-to-expire}
use Rattle.iox2_steps.proofs.receivers.RetiredFields.{evicted-changes, frees-book, frees-changes, spares-same}
use Rattle.iox2_domain.proofs.lemmas.slots.PublisherBooks.{its-book}
use Rattle.iox2_updates.proofs.retirements.replace_expired.Goals.{After-deref_mut, After-drop_connection-book}
use Rattle.iox2_updates.proofs.retirements.replace_expired.Goals as goal

pub drop_connection-book-requires-clause-stands : goal.drop_connection-book-requires-clause-stands
drop_connection-book-requires-clause-stands g c =
    let old = c.args.state.now in
    let y = c.requires.departed.subscriber in
    let end = c.requires.departed.end in
    let d = expired-link old c.requires.departed.agrees c.args.at.subscriber c.args.at.publisher y c.args.key
    c.requires.departed.link end c.args.first (c.requires.first c.requires.departed) in
    rw d.1 refl

-- what went with the other key
gone : (g : _) (c : After-drop_connection-book g)
    → (d : Link) × (get c.args.state.now.connections c.args.first ≡ Some d) × (b : Book)
    × (get c.args.state.now.books d.home.book ≡ Some b)
    × (c.drop_connection-book.result ≡ d.home.book)
    × LosesConnection c.args.state.now c.args.first d b c.drop_connection-book.new.state
gone g c =
    let end = c.requires.departed.end in
    let d = expired-link c.args.state.now c.requires.departed.agrees c.args.at.subscriber c.args.at.publisher
    c.requires.departed.subscriber c.args.key c.requires.departed.link end c.args.first
    (c.requires.first c.requires.departed) in
    let book = its-book c.args.state.now c.requires.departed.agrees.parts c.args.first d.0 d.1 in
    let lost = c.drop_connection-book.ensures d.0 book.book d.1 book.stands in
    (d.0, d.1, book.book, book.stands, lost.0, lost.1)

-- the subscribers are as before
same : (g : _) (c : After-deref_mut g) (d : Link) (b : Book)
    → LosesConnection c.args.state.now c.args.first d b c.drop_connection-book.new.state
    → c.deref_mut.result.now ≡ c.args.state.now.subscribers
same g c d b lost = c.deref_mut.ensures.value
    ∙ ap (λ (f : Fields g.row.T.Denot g.row.U.Denot). f.subscribers) (c.state.view_is ∙ lost.fields)

-- so the one at the place is still the one that has the end
its : (g : _) (c : After-deref_mut g) (d : Link) (b : Book)
    → LosesConnection c.args.state.now c.args.first d b c.drop_connection-book.new.state
    → (z : SubscriberFields) → get_or c.deref_mut.result.now c.args.at.subscriber None ≡ Some z
    → c.requires.departed.subscriber ≡ z
its g c d b lost z at =
    let both : Some c.requires.departed.subscriber ≡ Some z = sym c.requires.departed.end.stands
    ∙ ap (λ xs. get_or xs c.args.at.subscriber None) (sym (same g c d b lost)) ∙ at in
    cc

pub replace_expired_at-requires-clause-stands : goal.replace_expired_at-requires-clause-stands
replace_expired_at-requires-clause-stands g c =
    let lost = gone g (goal.at.replace_expired_at-requires-clause-stands g c).After-drop_connection-book in
    within_if_some c.deref_mut.result.now c.args.at.subscriber c.requires.departed.subscriber
    (ap (λ xs. get_or xs c.args.at.subscriber None)
    (same g (goal.at.replace_expired_at-requires-clause-stands g c).After-deref_mut lost.0 lost.2 lost.5)
    ∙ c.requires.departed.end.stands)

pub replace_expired_at-requires-clause-within : goal.replace_expired_at-requires-clause-within
replace_expired_at-requires-clause-within g c = λ z at.
    let lost = gone g (goal.at.replace_expired_at-requires-clause-within g c).After-drop_connection-book in
    subst (λ (w : SubscriberFields). c.args.at.publisher < length w.keys)
    (its g (goal.at.replace_expired_at-requires-clause-within g c).After-deref_mut lost.0 lost.2 lost.5 z at)
    (within_if_some c.requires.departed.subscriber.keys c.args.at.publisher c.args.key c.requires.departed.end.has)

pub replace_expired_at-requires-clause-room : goal.replace_expired_at-requires-clause-room
replace_expired_at-requires-clause-room g c = λ z at.
    let lost = gone g (goal.at.replace_expired_at-requires-clause-room g c).After-drop_connection-book in
    subst (λ (w : SubscriberFields). length w.expired < w.expired_room)
    (its g (goal.at.replace_expired_at-requires-clause-room g c).After-deref_mut lost.0 lost.2 lost.5 z at)
    (room-to-expire c.args.state.now c.requires.departed.agrees c.args.at.subscriber c.args.at.publisher
    c.requires.departed.subscriber c.args.key c.requires.departed.link c.requires.departed.end)

pub settle_book_if_left-requires : goal.settle_book_if_left-requires
settle_book_if_left-requires g c =
    let old = c.args.state.now in
    let y = c.requires.departed.subscriber in
    let end = c.requires.departed.end in
    let lost = gone g (goal.at.settle_book_if_left-requires g c).After-drop_connection-book in
    let written : _ ≡ changed_at (replacing_expired c.args.at.publisher c.args.key c.args.first)
    (c.drop_connection-book.new.state).subscribers c.args.at.subscriber =
    with_items_is c.state.inside.subscribers c.replace_expired_at.new.subscribers
    (c.replace_expired_at.auto.subscribers ∙ c.deref_mut.ensures.len)
    ∙ c.replace_expired_at.ensures
    ∙ ap (λ xs. changed_at (replacing_expired c.args.at.publisher c.args.key c.args.first) xs c.args.at.subscriber)
    (c.deref_mut.ensures.value ∙ ap (λ (f : Fields g.row.T.Denot g.row.U.Denot). f.subscribers) c.state.view_is) in
    (spares-same _ _ lost.0.home.book lost.4
    (evicted-changes old c.requires.departed.agrees c.args.at.subscriber c.args.at.publisher y c.args.key
    c.requires.departed.link end c.args.first lost.0 (c.requires.first c.requires.departed) lost.1 c.requires.unborrowed
    lost.2 lost.3 c.drop_connection-book.new.state lost.5
    _ (λ k. record (c.state.view_is k) { subscribers = written k })).agrees).parts

pub returns : goal.returns
returns g c = λ departed d at_d.
    let y = departed.subscriber in
    let end = departed.end in
    let old = c.args.state.now in
    let book = its-book old c.requires.departed.agrees.parts c.args.first d at_d in
    let lost = c.drop_connection-book.ensures d book.book at_d book.stands in
    let written : _ ≡ changed_at (replacing_expired c.args.at.publisher c.args.key c.args.first)
    (c.drop_connection-book.new.state).subscribers c.args.at.subscriber =
    with_items_is c.state.inside.subscribers c.replace_expired_at.new.subscribers
    (c.replace_expired_at.auto.subscribers ∙ c.deref_mut.ensures.len)
    ∙ c.replace_expired_at.ensures
    ∙ ap (λ xs. changed_at (replacing_expired c.args.at.publisher c.args.key c.args.first) xs c.args.at.subscriber)
    (c.deref_mut.ensures.value ∙ ap (λ (f : Fields g.row.T.Denot g.row.U.Denot). f.subscribers) c.state.view_is) in
    let changes = evicted-changes old c.requires.departed.agrees c.args.at.subscriber c.args.at.publisher y c.args.key
    departed.link end c.args.first d (c.requires.first departed) at_d c.requires.unborrowed book.book book.stands
    c.drop_connection-book.new.state lost.1
    _ (λ k. record (c.state.view_is k) { subscribers = written k }) in
    frees-changes old _ _ c.args.at.subscriber y _ d.home.book changes
    (frees-book _ _ _ (spares-same _ _ d.home.book lost.0 changes.agrees) c.settle_book_if_left.ensures.kept
    c.settle_book_if_left.ensures.books)
