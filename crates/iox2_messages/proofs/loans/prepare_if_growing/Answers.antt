use Rattle.iox2_messages.proofs.GrowingPass.{may-prepare}
use Rattle.iox2_messages.proofs.loans.prepare_if_growing.Goals as goal

pub returns : goal.returns
returns g c = λ x at. may-prepare {T = g.row.T.Denot} {U = g.row.U.Denot} c.args.state.now c.args.place x c.args.len
    c.prepare.result c.prepare.new.state (c.prepare.ensures x at)
