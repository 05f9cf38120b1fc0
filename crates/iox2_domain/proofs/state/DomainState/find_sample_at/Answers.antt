use Rattle.std.proofs.Common.{ap, sym, ◌∙◌}
use Rattle.iox2_connections.specs.declared.connection.Home.{Home}
use Rattle.iox2_domain.proofs.lemmas.samples.BorrowedNumbers.{its-slots-within, none-borrows, lies-there}
use Rattle.iox2_domain.proofs.lemmas.receives.ReceiptSteps.{names-book, has-its-book}
use Rattle.iox2_domain.proofs.state.DomainState.find_sample_at.Goals as goal

pub index-requires : goal.index-requires
index-requires g c =
    names-book _ c.args.self.now c.args.key c.home-home.result c.in_ok-connection.connection.now c.self.view_is
    c.requires (sym c.in_ok-connection.ensures) c.home-home.ensures.value

pub find_borrowed-requires : goal.find_borrowed-requires
find_borrowed-requires g c =
    its-slots-within c.args.self.now c.requires c.args.key c.home-home.result.book c.in_ok-connection.connection.now
    c.index.result.now
    (has-its-book _ c.args.self.now c.args.key c.home-home.result c.in_ok-connection.connection.now c.self.view_is
    c.requires (sym c.in_ok-connection.ensures) c.home-home.ensures.value c.index.result.now c.index.ensures)

pub returns-in_err-slot : goal.returns-in_err-slot
returns-in_err-slot g c =
    rw c.from_residual-in_err-slot.ensures (
    none-borrows c.args.self.now c.requires c.args.key c.home-home.result.book c.in_ok-connection.connection.now
    c.index.result.now
    (has-its-book _ c.args.self.now c.args.key c.home-home.result c.in_ok-connection.connection.now c.self.view_is
    c.requires (sym c.in_ok-connection.ensures) c.home-home.ensures.value c.index.result.now c.index.ensures)
    c.args.subscriber c.args.number c.in_err-slot.ensures
    )

pub returns : goal.returns
returns g c =
    lies-there c.args.self.now c.requires c.args.key c.home-home.result.book c.in_ok-connection.connection.now
    c.index.result.now
    (has-its-book _ c.args.self.now c.args.key c.home-home.result c.in_ok-connection.connection.now c.self.view_is
    c.requires (sym c.in_ok-connection.ensures) c.home-home.ensures.value c.index.result.now c.index.ensures)
    c.args.subscriber c.args.number c.in_ok-slot.slot
    (ap (λ (h : Home). h.subscriber) (sym c.home-home.ensures.value) ∙ c.if-home-value.false ∙ c.value.ensures)
    c.in_ok-slot.ensures
