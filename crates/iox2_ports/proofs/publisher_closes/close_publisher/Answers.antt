use Rattle.iox2_steps.proofs.closes.CloseSteps.{closes-freed}
use Rattle.iox2_ports.proofs.publisher_closes.close_publisher.Goals as goal

pub settle_book_if_left-requires : goal.settle_book_if_left-requires
settle_book_if_left-requires g c =
    let left = c.leave_domain-key.ensures c.requires.stands.0 c.requires.stands.1 in
    left.1.agrees.parts

pub returns : goal.returns
returns g c = λ x at.
    let left = c.leave_domain-key.ensures x at in
    closes-freed x.book c.args.state.now c.leave_domain-key.new.state _ left.1 c.leave_domain-key.result left.0
    c.settle_book_if_left.new.state c.settle_book_if_left.ensures.kept
