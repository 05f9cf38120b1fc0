use Rattle.std.proofs.Common.{refl, ap}
use Rattle.std.proofs.lemmas.Result.{err_from_is_err_and}
use Rattle.std.specs.declared.option.Option.TheVariants.{None, Some}
use Rattle.iox2_domain.specs.Boxes.{answers_of}
use Rattle.iox2_machine.specs.machine.State.{State}
use Rattle.iox2_machine.specs.declared.service_config.ServiceConfig.{ServiceConfig}
use Rattle.iox2_domain.specs.Kept.{state_of}
use Rattle.iox2_domain.specs.Fields.{kept_of}
use Rattle.iox2_ports.specs.Settings.{settings_with}
use Rattle.iox2_domain.specs.Handlers.{may_fail}
use Rattle.iox2_connections.specs.Handlers.{marks_of}
use Rattle.iox2_pubsub.specs.Handlers.{may_wait}
use Rattle.iox2_pubsub.proofs.PublishersMade.{creation-leaves, creation-refused, was-made}
use Rattle.iox2_pubsub.proofs.PublishersShown.{created-shows}
use Rattle.iox2_pubsub.proofs.StaysBut.{box-is, degradation-box-is}
use Rattle.iox2_pubsub.proofs.port_factory.publisher.create_plain.Goals as goal

pub returns-in_err-port-clause-creates : goal.returns-in_err-port-clause-creates
returns-in_err-port-clause-creates g c m s shows =
    let refused = err_from_is_err_and c.from_residual.result c.from_residual.ensures.1 in
    let why = c.in_err-port.field-0.0 in
    let made = c.in_err-port.ensures.step in
    let before : State g.row.T.Denot g.row.U.Denot = state_of (kept_of c.domain.inside.state) in
    let next = created-shows {T = g.row.T.Denot} {U = g.row.U.Denot} c.domain.inside.state c.create_publisher.new.state
    (settings_with c.args.given.now (marks_of c.args.handler) c.args.segments)
    (answers_of g.F.BackpressureFn.allows g.G.DegradationFn.allows (c.create_publisher.new.boxes).boxes)
    c.args.domain.now c.domain.view_is m s before (Some why) shows made.0 made.1 in
    rw (refused.1, refused.2) (before, next.0, next.1)

pub returns-in_err-port-clause-refused : goal.returns-in_err-port-clause-refused
returns-in_err-port-clause-refused g c =
    let refused = err_from_is_err_and c.from_residual.result c.from_residual.ensures.1 in
    rw refused.1 (creation-refused {T = g.row.T.Denot} {U = g.row.U.Denot} c.domain.inside.state
    c.create_publisher.new.state c.domain.invariant c.args.domain.now c.domain.view_is c.create_publisher.ensures.others
    (answers_of g.F.BackpressureFn.allows g.G.DegradationFn.allows (c.create_publisher.new.boxes).boxes)
    (settings_with c.args.given.now (marks_of c.args.handler) c.args.segments) (Some c.in_err-port.field-0.0)
    (state_of (kept_of c.domain.inside.state)) c.in_err-port.ensures.step.0 c.in_err-port.ensures.step.1
    c.in_err-port.field-0.0 refl)

pub returns-in_err-port-clause-leaves : goal.returns-in_err-port-clause-leaves
returns-in_err-port-clause-leaves g c = creation-leaves {T = g.row.T.Denot}
    {U = g.row.U.Denot} c.domain.inside.state c.create_publisher.new.state c.domain.invariant c.args.domain.now
    c.domain.view_is c.create_publisher.ensures.others
    (answers_of g.F.BackpressureFn.allows g.G.DegradationFn.allows (c.create_publisher.new.boxes).boxes)
    (settings_with c.args.given.now (marks_of c.args.handler) c.args.segments) (Some c.in_err-port.field-0.0)
    (state_of (kept_of c.domain.inside.state)) c.in_err-port.ensures.step.0 c.in_err-port.ensures.step.1

pub returns : goal.returns
returns g c =
    let made = was-made {T = g.row.T.Denot} {U = g.row.U.Denot} c.domain.inside.state c.create_publisher.new.state
    c.domain.invariant c.args.domain.now c.domain.view_is
    (answers_of g.F.BackpressureFn.allows g.G.DegradationFn.allows (c.create_publisher.new.boxes).boxes)
    (settings_with c.args.given.now (marks_of c.args.handler) c.args.segments) c.in_ok-port.ensures.step.0
    c.in_ok-port.ensures.step.1 c.in_ok-port.ensures.step.2
    (record {
      service_id = c.config.result.now.service_id;
      id = c.in_ok-port.port.id;
      place = c.in_ok-port.port.place;
      strategy = c.args.given.now.strategy;
      initial_max_slice_len = c.args.given.now.initial_max_slice_len;
    }) (ap (λ (config : ServiceConfig). config.service_id) c.config.ensures) c.in_ok-port.ensures.id
    c.in_ok-port.ensures.stands in
    let left = creation-leaves {T = g.row.T.Denot} {U = g.row.U.Denot} c.domain.inside.state
    c.create_publisher.new.state c.domain.invariant c.args.domain.now c.domain.view_is c.create_publisher.ensures.others
    (answers_of g.F.BackpressureFn.allows g.G.DegradationFn.allows (c.create_publisher.new.boxes).boxes)
    (settings_with c.args.given.now (marks_of c.args.handler) c.args.segments) None c.in_ok-port.ensures.step.0
    c.in_ok-port.ensures.step.1 c.in_ok-port.ensures.step.2 in
    record {
      creates = made.creates;
      made = record {
        grows = made.grows;
        ready = made.ready;
        discards = λ discards none calm. made.passes ((λ i. may_wait (discards i) (none i))) (ap may_fail none) calm;
        passes = made.passes;
        overflows = made.overflows;
        never_fails = made.never_fails;
        boxed = box-is _ c.create_publisher.new.state c.in_ok-port.port.id _ c.in_ok-port.ensures.boxed;
        degrades =
            degradation-box-is _ c.create_publisher.new.state c.in_ok-port.port.id _ c.in_ok-port.ensures.degrades;
        strategy = refl;
        longest = refl;
        is_new = made.new_in;
        borrows = made.borrows;
        connects = made.connects;
      };
      left = λ enough first. made.left enough first refl;
      refused = tt;
      leaves = left;
    }
