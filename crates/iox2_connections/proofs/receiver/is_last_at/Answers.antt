use Rattle.std.proofs.Common.{◌≡◌, ℕ, Some, sym, subst}
use Rattle.slab.specs.Slab.{get, ContainsKey}
use Rattle.iox2_connections.proofs.ReturnedMessages.{its-book, its-slots, same-with_value}
use Rattle.iox2_connections.proofs.receiver.is_last_at.Goals as goal

pub index_mut-requires : goal.index_mut-requires
index_mut-requires c =
    subst (ContainsKey c.args.books.now) (c.is_last_borrowed.ensures.book c.if-is_last_borrowed.true)
    (its-book c.args.books.now c.in-Some.connection.now
    (c.requires.slots c.in-Some.connection.now (sym c.in-Some.ensures)))

pub has_number-requires : goal.has_number-requires
has_number-requires c =
    let there : get c.args.books.now (c.in-Some.connection.now).home.book ≡ Some c.index_mut.result.now =
    subst (λ (book : ℕ). get c.args.books.now book ≡ Some c.index_mut.result.now)
    (sym (c.is_last_borrowed.ensures.book c.if-is_last_borrowed.true)) c.index_mut.ensures.value in
    its-slots c.args.books.now c.in-Some.connection.now
    (c.requires.slots c.in-Some.connection.now (sym c.in-Some.ensures)) c.index_mut.result.now there
    c.args.message.slot (c.is_last_borrowed.ensures.borrowed c.if-is_last_borrowed.true)

pub returns-then-is_last_borrowed-clause-last : goal.returns-then-is_last_borrowed-clause-last
returns-then-is_last_borrowed-clause-last c = λ yes.
    let its = c.is_last_borrowed.ensures in
    let last = c.if-is_last_borrowed.true in
    record {
      link = c.in-Some.connection.now;
      stands = sym c.in-Some.ensures;
      subscriber_is = its.subscriber last;
      book_is = its.book last;
      borrowed = its.borrowed last;
      marked = its.open last;
      number_is = rw c.index_mut.ensures.value (c.has_number.ensures yes);
    }

pub returns-then-is_last_borrowed-clause-same_books : goal.returns-then-is_last_borrowed-clause-same_books
returns-then-is_last_borrowed-clause-same_books c =
    same-with_value c.args.books.now c.args.message.book c.index_mut.result.now c.index_mut.ensures.value
