use Rattle.std.proofs.Common.{◌∙◌, sym}
use Rattle.iox2_domain.specs.Boxes.{answers_of}
use Rattle.iox2_pubsub.specs.Handles.{publisher_id}
use Rattle.iox2_runs.proofs.CarriedPorts.{created-with}
use Rattle.iox2_runs.proofs.runs.publishers.create.Goals as goal

pub returns-in-Some-clause-creates : goal.returns-in-Some-clause-creates
returns-in-Some-clause-creates g c m s shown =
    let made = c.create_asked.ensures.creates m s shown in (
      made.0,
      made.1,
      created-with (answers_of g.F.BackpressureFn.allows g.G.DegradationFn.allows
          c.create_asked.new.domain.boxes.publishers) s made.0 c.args.factory.settings
          (λ (publisher : g.row.H.Denot). publisher_id (g.H.PortHandle.as_port publisher)) c.create_asked.result _ _
          (sym c.in-Some.is) made.2,
    )

pub returns-in-None-clause-creates : goal.returns-in-None-clause-creates
returns-in-None-clause-creates g c m s shown =
    let made = c.create.ensures.creates m s shown in (
      made.0,
      made.1,
      created-with (answers_of g.F.BackpressureFn.allows g.G.DegradationFn.allows c.create.new.domain.boxes.publishers)
          s made.0 c.args.factory.settings (λ (publisher : g.row.H.Denot). publisher_id
          (g.H.PortHandle.as_port publisher)) c.create.result _ _ (c.requires ∙ sym c.in-None.is) made.2,
    )
