use Rattle.std.proofs.Common.{ap}
use Rattle.iox2_connections.specs.declared.connection.Home.{Home}
use Rattle.iox2_steps.proofs.subscriber_closes.CloseSteps.{book-stands, book-holds, loses-in}
use Rattle.iox2_ports.proofs.subscriber_closes.drop_waiting.Goals as goal

pub index_mut-requires : goal.index_mut-requires
index_mut-requires g c =
    book-stands _ _ c.state.view_is c.requires.parts c.args.key c.requires.departed c.index.result.now c.index.ensures
    c.home-book.result.book
    (ap (λ (h : Home). h.book) c.home-book.ensures.value)

pub drop_waiting_at-requires : goal.drop_waiting_at-requires
drop_waiting_at-requires g c =
    book-holds _ _ c.state.view_is c.requires.parts c.args.key c.requires.departed c.index.result.now c.index.ensures
    c.home-book.result.book
    (ap (λ (h : Home). h.book) c.home-book.ensures.value) c.index_mut.result.now c.index_mut.ensures.value

pub returns : goal.returns
returns g c = λ l at.
    loses-in _ _ c.state.view_is c.requires.parts c.args.key c.requires.departed c.index.result.now c.index.ensures
    c.home-book.result.book
    (ap (λ (h : Home). h.book) c.home-book.ensures.value) c.index_mut.result.now c.drop_waiting_at.new.book
    c.index_mut.ensures.value c.drop_waiting_at.ensures.book
    c.drop_waiting_at.new.connections c.drop_waiting_at.ensures.drops l at
