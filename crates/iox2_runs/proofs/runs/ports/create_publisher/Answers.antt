use Rattle.iox2_machine.specs.machine.Environments.{fixed_handlers}
use Rattle.iox2_pubsub.proofs.LiveParts.{publisher-parts}
use Rattle.iox2_pubsub.proofs.StaysBut.{nothing-is-new}
use Rattle.iox2_runs.proofs.CarriedPorts.{publisher_carried, publisher_denied}
use Rattle.iox2_runs.proofs.LeavingSteps.{leaves-making}
use Rattle.iox2_runs.specs.declared.runs.made.Made.TheVariants.{Nothing, Publisher as MadePublisher}
use Rattle.iox2_runs.proofs.runs.ports.create_publisher.Goals as goal

pub returns-in-Ok : goal.returns-in-Ok
returns-in-Ok g c = record {
  carries = λ table. publisher_carried {T = g.row.T.Denot} {U = g.row.U.Denot} fixed_handlers _ c.args.domain.now
      c.make_publisher.new.domain table c.args.asked c.in-Ok.publisher c.id.result
      c.in-Ok.ensures.creates (publisher-parts {T = g.row.T.Denot}
      {U = g.row.U.Denot} c.make_publisher.new.domain _ c.in-Ok.ensures.ready.there).1 c.id.ensures;
  leaves = λ table. leaves-making {T = g.row.T.Denot} {U = g.row.U.Denot} c.args.domain.now c.make_publisher.new.domain
      table c.make_publisher.ensures.stays
      (MadePublisher c.in-Ok.publisher) c.in-Ok.ensures.new c.in-Ok.ensures.ready.placed;
}

pub returns-in-Err : goal.returns-in-Err
returns-in-Err g c = record {
  carries = λ table. publisher_denied {T = g.row.T.Denot} {U = g.row.U.Denot} fixed_handlers _ c.args.domain.now
      c.make_publisher.new.domain table c.args.asked c.in-Err.error c.in-Err.ensures.creates;
  leaves = λ table. leaves-making {T = g.row.T.Denot} {U = g.row.U.Denot} c.args.domain.now c.make_publisher.new.domain
      table c.make_publisher.ensures.stays Nothing
      (nothing-is-new {T = g.row.T.Denot} {U = g.row.U.Denot} c.args.domain.now) tt;
}
