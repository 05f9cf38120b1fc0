use Rattle.std.proofs.Common.{List, None, ap, sym, slice_set, ◌∙◌}
use Rattle.std.proofs.lemmas.List.{set-get_or}
use Rattle.std.specs.declared.option.Option.{Option}
use Rattle.slab.specs.Slab.{Slab}
use Rattle.iox2_connections.specs.Link.{Link}
use Rattle.iox2_slots.specs.SlotBook.{Book}
use Rattle.iox2_messages.proofs.receipts.receipt_of.Goals as goal

pub returns-clause-same_connections : goal.returns-clause-same_connections
returns-clause-same_connections c =
    ap (λ (slots : List (Option Link)). let s : Slab Link = record c.args.connections.now { slots = slots } in s)
    (ap (slice_set c.args.connections.now.slots c.args.taken.connection) (sym c.index_mut-connection.ensures.value)
    ∙ set-get_or c.args.connections.now.slots c.args.taken.connection None)

pub returns-clause-same_books : goal.returns-clause-same_books
returns-clause-same_books c =
    ap (λ (slots : List (Option Book)). let s : Slab Book = record c.args.books.now { slots = slots } in s)
    (ap (slice_set c.args.books.now.slots c.home-home.result.book) (sym c.index_mut-book.ensures.value)
    ∙ set-get_or c.args.books.now.slots c.home-home.result.book None)
