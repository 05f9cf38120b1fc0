use Rattle.std.proofs.Common.{ℕ}
use Rattle.iox2_machine.specs.machine.ChannelCalls.{connection_place}
use Rattle.iox2_machine.specs.machine.State.{State}
use Rattle.iox2_pubsub.proofs.CallsStay.{always-shown}
use Rattle.iox2_pubsub.proofs.ConnectionServes.{at-connection}
use Rattle.iox2_pubsub.proofs.ChannelsShown.{publisher-answer}
use Rattle.iox2_pubsub.proofs.PlacedHandles.{publisher-there}
use Rattle.iox2_pubsub.proofs.publisher.Publisher.get_connection_id_of.Goals as goal

pub place_of_receiver-requires-clause-stands : goal.place_of_receiver-requires-clause-stands
place_of_receiver-requires-clause-stands g c =
    let at = publisher-there {T = g.row.T.Denot} {U = g.row.U.Denot} c.domain.inside.state c.domain.invariant
    c.args.domain.now c.domain.view_is c.args.self.now c.requires.there c.requires.placed in
    (at.0, at.1)

pub returns-clause-place : goal.returns-clause-place
returns-clause-place g c =
    publisher-answer {T = g.row.T.Denot} {U = g.row.U.Denot} c.domain.inside.state c.args.domain.now c.domain.view_is
    c.domain.invariant c.args.self.now c.requires.there c.requires.placed
    (λ (s : State g.row.T.Denot g.row.U.Denot) (p : ℕ). connection_place s p c.args.receiver_port_id)
    c.place_of_receiver.result c.place_of_receiver.ensures

pub returns-clause-at : goal.returns-clause-at
returns-clause-at g c =
    let it = always-shown {T = g.row.T.Denot}
    {U = g.row.U.Denot} c.domain.inside.state c.args.domain.now c.domain.invariant c.domain.view_is in
    at-connection {T = g.row.T.Denot} {U = g.row.U.Denot} c.args.domain.now it.0 it.1 it.2 c.args.self.now.id
    c.args.receiver_port_id c.place_of_receiver.result (returns-clause-place g c it.0 it.1 it.2)
