use Rattle.std.proofs.Common.{subst, sym, ◌≡◌, ap, max, arith, ◌∙◌}
use Rattle.std.proofs.lemmas.Result.{err_from_is_err_and}
use Rattle.std.specs.declared.option.Option.TheVariants.{None, Some}
use Rattle.iox2_domain.specs.Boxes.{answers_of}
use Rattle.iox2_domain.specs.SubscriberEntry.{asked_for}
use Rattle.iox2_domain.specs.Fields.{Fields}
use Rattle.iox2_domain.specs.KeptPlaces.{KeepsPlaces}
use Rattle.iox2_domain.proofs.lemmas.fields.PlacesKept.{places-still}
use Rattle.iox2_machine.specs.declared.service_config.ServiceConfig.{ServiceConfig}
use Rattle.iox2_pubsub.proofs.DepartedShown.{subscriber-made-room}
use Rattle.iox2_pubsub.proofs.SubscribersShown.{made-buffer, made-shown, made-live, refused-shown}
use Rattle.iox2_pubsub.proofs.CallsStay.{always-shown, subscriber-apart-from-next, subscriber-creation-stays}
use Rattle.iox2_pubsub.proofs.CallsStay.{subscriber-is-new}
use Rattle.iox2_pubsub.proofs.WaitingShown.{created-none, creation-waits}
use Rattle.iox2_pubsub.proofs.UpToDateShown.{creation-leaves}
use Rattle.iox2_pubsub.proofs.AwaitedShown.{made-awaits}
use Rattle.iox2_pubsub.proofs.NextPorts.{next-receiver-takes}
use Rattle.iox2_pubsub.proofs.BorrowsLeftShown.{created-borrows, subscriber-creation-borrows}
use Rattle.iox2_pubsub.proofs.LoansLeftShown.{subscriber-creation-left}
use Rattle.iox2_pubsub.proofs.StaysBut.{live-subscriber-boxes, subscriber-box-is}
use Rattle.iox2_pubsub.specs.Factories.{SubscriberFactory}
use Rattle.iox2_pubsub.proofs.port_factory.subscriber.PortFactorySubscriber.create.Goals as goal

pub returns-in_err-port-clause-creates : goal.returns-in_err-port-clause-creates
returns-in_err-port-clause-creates g c =
    let refused = err_from_is_err_and c.from_residual.result c.from_residual.ensures.1 in
    rw (refused.1, refused.2) (
    refused-shown {T = g.row.T.Denot} {U = g.row.U.Denot}
    (answers_of g.F.BackpressureFn.allows g.G.DegradationFn.allows (c.create_subscriber.new.boxes).boxes)
    c.domain.inside.state c.create_subscriber.new.state c.args.domain.now c.domain.view_is
    (asked_for c.self.inside.options) c.args.self.settings
    (ap (λ (f : SubscriberFactory g.row.G.Denot). f.settings) c.self.view_is) c.in_err-port.field-0.0
    c.in_err-port.ensures.step
    )

pub returns-clause-creates : goal.returns-clause-creates
returns-clause-creates g c =
    let size : c.max.result ≡ max 1 c.self.inside.options.buffer_size = grind (arith, c.max.ensures) in
    rw c.of_port.ensures (made-shown {T = g.row.T.Denot} {U = g.row.U.Denot}
    (answers_of g.F.BackpressureFn.allows g.G.DegradationFn.allows (c.create_subscriber.new.boxes).boxes)
    c.domain.inside.state c.create_subscriber.new.state c.args.domain.now c.domain.view_is
    (asked_for c.self.inside.options) c.args.self.settings
    (ap (λ (f : SubscriberFactory g.row.G.Denot). f.settings) c.self.view_is) c.in_ok-port.ensures.step
    c.in_ok-port.port.id c.max.result
    (c.in_ok-port.ensures.id) size)

pub returns-clause-live : goal.returns-clause-live
returns-clause-live g c =
    rw c.of_port.ensures (made-live {T = g.row.T.Denot} {U = g.row.U.Denot}
    (answers_of g.F.BackpressureFn.allows g.G.DegradationFn.allows (c.create_subscriber.new.boxes).boxes)
    c.domain.inside.state c.create_subscriber.new.state (asked_for c.self.inside.options)
    (record { publishers = (c.domain.inside.boxes).boxes; subscribers = (c.create_subscriber.new.boxes).boxes })
    c.in_ok-port.ensures.step
    (record {
      service_id = c.config.result.now.service_id;
      id = c.in_ok-port.port.id;
      place = c.in_ok-port.port.place;
      buffer_size = c.max.result;
    })
    (ap (λ (config : ServiceConfig). config.service_id) c.config.ensures)
    c.in_ok-port.ensures.id c.in_ok-port.ensures.stands)

pub returns-clause-buffer : goal.returns-clause-buffer
returns-clause-buffer g c =
    let size : c.max.result ≡ max 1 c.self.inside.options.buffer_size = grind (arith, c.max.ensures) in
    rw c.of_port.ensures (made-buffer {T = g.row.T.Denot} {U = g.row.U.Denot}
    (answers_of g.F.BackpressureFn.allows g.G.DegradationFn.allows (c.create_subscriber.new.boxes).boxes)
    c.domain.inside.state c.create_subscriber.new.state (asked_for c.self.inside.options)
    (record { publishers = (c.domain.inside.boxes).boxes; subscribers = (c.create_subscriber.new.boxes).boxes })
    c.in_ok-port.ensures.step
    (record {
      service_id = c.config.result.now.service_id;
      id = c.in_ok-port.port.id;
      place = c.in_ok-port.port.place;
      buffer_size = c.max.result;
    })
    c.in_ok-port.ensures.id size (made-live {T = g.row.T.Denot} {U = g.row.U.Denot}
    (answers_of g.F.BackpressureFn.allows g.G.DegradationFn.allows (c.create_subscriber.new.boxes).boxes)
    c.domain.inside.state c.create_subscriber.new.state (asked_for c.self.inside.options)
    (record { publishers = (c.domain.inside.boxes).boxes; subscribers = (c.create_subscriber.new.boxes).boxes })
    c.in_ok-port.ensures.step
    (record {
      service_id = c.config.result.now.service_id;
      id = c.in_ok-port.port.id;
      place = c.in_ok-port.port.place;
      buffer_size = c.max.result;
    })
    (ap (λ (config : ServiceConfig). config.service_id) c.config.ensures)
    c.in_ok-port.ensures.id c.in_ok-port.ensures.stands))

pub returns-in_err-port-clause-leaves : goal.returns-in_err-port-clause-leaves
returns-in_err-port-clause-leaves g c =
    let it = always-shown {T = g.row.T.Denot}
    {U = g.row.U.Denot} c.domain.inside.state c.args.domain.now c.domain.invariant c.domain.view_is in
    let step = refused-shown {T = g.row.T.Denot} {U = g.row.U.Denot}
    (answers_of g.F.BackpressureFn.allows g.G.DegradationFn.allows (c.create_subscriber.new.boxes).boxes)
    c.domain.inside.state c.create_subscriber.new.state c.args.domain.now c.domain.view_is
    (asked_for c.self.inside.options) c.args.self.settings
    (ap (λ (f : SubscriberFactory g.row.G.Denot). f.settings) c.self.view_is) c.in_err-port.field-0.0
    c.in_err-port.ensures.step it.0 it.1 it.2 in
    record {
      stays = subscriber-creation-stays {T = g.row.T.Denot} {U = g.row.U.Denot} c.args.domain.now _ it.0 it.1 it.2
          (answers_of g.F.BackpressureFn.allows g.G.DegradationFn.allows (c.create_subscriber.new.boxes).boxes)
          c.args.self.settings (Some c.in_err-port.field-0.0) step.0 step.1 step.2
          (live-subscriber-boxes c.domain.inside.state c.create_subscriber.new.state c.args.domain.now c.domain.view_is
          c.domain.invariant (subst (λ (h : Fields g.row.T.Denot g.row.U.Denot). KeepsPlaces c.domain.inside.state h)
          (sym c.in_err-port.ensures.step.1) places-still)
          (λ key live other. c.create_subscriber.ensures.others key.port
          (subscriber-apart-from-next c.domain.inside.state c.args.domain.now c.domain.invariant c.domain.view_is key
          live)));
      waits = creation-waits {T = g.row.T.Denot} {U = g.row.U.Denot} c.args.domain.now _ it.0 it.0 it.1 step.0 it.2
          step.1 (λ n entry at. at) (answers_of g.F.BackpressureFn.allows g.G.DegradationFn.allows
          (c.create_subscriber.new.boxes).boxes) c.args.self.settings (Some c.in_err-port.field-0.0) step.2;
      up_to_date = creation-leaves {T = g.row.T.Denot} {U = g.row.U.Denot} c.args.domain.now _ it.0 it.0 it.1 step.0
          it.2 step.1 (answers_of g.F.BackpressureFn.allows g.G.DegradationFn.allows
          (c.create_subscriber.new.boxes).boxes) c.args.self.settings (Some c.in_err-port.field-0.0) step.2;
      loans_left = subscriber-creation-left {T = g.row.T.Denot} {U = g.row.U.Denot} c.args.domain.now _ it.0 it.0 it.1
          step.0 it.2 step.1 (answers_of g.F.BackpressureFn.allows g.G.DegradationFn.allows
          (c.create_subscriber.new.boxes).boxes) c.args.self.settings (Some c.in_err-port.field-0.0) step.2;
      borrows_left = subscriber-creation-borrows {T = g.row.T.Denot} {U = g.row.U.Denot} c.args.domain.now _ it.0 it.0
          it.1 step.0 it.2 step.1 (answers_of g.F.BackpressureFn.allows g.G.DegradationFn.allows
          (c.create_subscriber.new.boxes).boxes) c.args.self.settings (Some c.in_err-port.field-0.0) step.2;
    }

pub returns-clause-leaves : goal.returns-clause-leaves
returns-clause-leaves g c =
    let it = always-shown {T = g.row.T.Denot}
    {U = g.row.U.Denot} c.domain.inside.state c.args.domain.now c.domain.invariant c.domain.view_is in
    let step = returns-clause-creates g c it.0 it.1 it.2 in
    record {
      stays = subscriber-creation-stays {T = g.row.T.Denot} {U = g.row.U.Denot} c.args.domain.now _ it.0 it.1 it.2
          (answers_of g.F.BackpressureFn.allows g.G.DegradationFn.allows (c.create_subscriber.new.boxes).boxes)
          c.args.self.settings None step.0 step.1 (step.2).0
          (live-subscriber-boxes c.domain.inside.state c.create_subscriber.new.state c.args.domain.now c.domain.view_is
          c.domain.invariant c.in_ok-port.ensures.step.2.places
          (λ key live other. c.create_subscriber.ensures.others key.port
          (subscriber-apart-from-next c.domain.inside.state c.args.domain.now c.domain.invariant c.domain.view_is key
          live)));
      waits = creation-waits {T = g.row.T.Denot} {U = g.row.U.Denot} c.args.domain.now _ it.0 it.0 it.1 step.0 it.2
          step.1 (λ n entry at. at) (answers_of g.F.BackpressureFn.allows g.G.DegradationFn.allows
          (c.create_subscriber.new.boxes).boxes) c.args.self.settings None (step.2).0;
      up_to_date = creation-leaves {T = g.row.T.Denot} {U = g.row.U.Denot} c.args.domain.now _ it.0 it.0 it.1 step.0
          it.2 step.1 (answers_of g.F.BackpressureFn.allows g.G.DegradationFn.allows
          (c.create_subscriber.new.boxes).boxes) c.args.self.settings None (step.2).0;
      loans_left = subscriber-creation-left {T = g.row.T.Denot} {U = g.row.U.Denot} c.args.domain.now _ it.0 it.0 it.1
          step.0 it.2 step.1 (answers_of g.F.BackpressureFn.allows g.G.DegradationFn.allows
          (c.create_subscriber.new.boxes).boxes) c.args.self.settings None (step.2).0;
      borrows_left = subscriber-creation-borrows {T = g.row.T.Denot} {U = g.row.U.Denot} c.args.domain.now _ it.0 it.0
          it.1 step.0 it.2 step.1 (answers_of g.F.BackpressureFn.allows g.G.DegradationFn.allows
          (c.create_subscriber.new.boxes).boxes) c.args.self.settings None (step.2).0;
    }

pub returns-clause-new : goal.returns-clause-new
returns-clause-new g c =
    let it = always-shown {T = g.row.T.Denot}
    {U = g.row.U.Denot} c.domain.inside.state c.args.domain.now c.domain.invariant c.domain.view_is in
    let step = returns-clause-creates g c it.0 it.1 it.2 in
    subscriber-is-new {T = g.row.T.Denot} {U = g.row.U.Denot} c.args.domain.now c.args.domain.now it.0 it.1 it.2
    (g.H.PortHandle.as_port c.of_port.result).id (step.2).1

pub returns-clause-none : goal.returns-clause-none
returns-clause-none g c =
    let it = always-shown {T = g.row.T.Denot}
    {U = g.row.U.Denot} c.domain.inside.state c.args.domain.now c.domain.invariant c.domain.view_is in
    let step = returns-clause-creates g c it.0 it.1 it.2 in
    created-none {T = g.row.T.Denot} {U = g.row.U.Denot} c.args.domain.now _ it.0 it.0 it.1 step.0 it.2 step.1
    (λ n entry at. at) (answers_of g.F.BackpressureFn.allows g.G.DegradationFn.allows
    (c.create_subscriber.new.boxes).boxes) c.args.self.settings (step.2).0
    (g.H.PortHandle.as_port c.of_port.result) (step.2).1

pub returns-clause-borrows : goal.returns-clause-borrows
returns-clause-borrows g c =
    let it = always-shown {T = g.row.T.Denot}
    {U = g.row.U.Denot} c.domain.inside.state c.args.domain.now c.domain.invariant c.domain.view_is in
    let step = returns-clause-creates g c it.0 it.1 it.2 in
    created-borrows {T = g.row.T.Denot} {U = g.row.U.Denot} c.args.domain.now _ it.0 it.0 it.1 step.0 it.2 step.1
    (answers_of g.F.BackpressureFn.allows g.G.DegradationFn.allows (c.create_subscriber.new.boxes).boxes)
    c.args.self.settings (step.2).0
    (g.H.PortHandle.as_port c.of_port.result) (step.2).1

pub returns-clause-boxed : goal.returns-clause-boxed
returns-clause-boxed g c =
    rw c.of_port.ensures
    (subscriber-box-is (record {
      publishers = (c.domain.inside.boxes).boxes;
      subscribers = (c.create_subscriber.new.boxes).boxes;
    }) c.create_subscriber.new.state c.in_ok-port.port.id c.args.self.box
    (c.in_ok-port.ensures.degrades ∙ ap (λ (f : SubscriberFactory g.row.G.Denot). f.box) c.self.view_is))

pub returns-clause-awaits : goal.returns-clause-awaits
returns-clause-awaits g c = λ none publisher there.
    let it = always-shown {T = g.row.T.Denot}
    {U = g.row.U.Denot} c.domain.inside.state c.args.domain.now c.domain.invariant c.domain.view_is in
    let step = returns-clause-creates g c it.0 it.1 it.2 in
    made-awaits {T = g.row.T.Denot} {U = g.row.U.Denot} c.args.domain.now _ it.0 it.0 it.1 step.0 it.2 step.1
    (answers_of g.F.BackpressureFn.allows g.G.DegradationFn.allows (c.create_subscriber.new.boxes).boxes)
    c.args.self.settings (step.2).0
    (g.H.PortHandle.as_port c.of_port.result) (step.2).1
    (next-receiver-takes {T = g.row.T.Denot} {U = g.row.U.Denot} c.domain.inside.state c.args.domain.now
    c.domain.invariant c.domain.view_is) none publisher there

pub returns-clause-room : goal.returns-clause-room
returns-clause-room g c =
    let it = always-shown {T = g.row.T.Denot}
    {U = g.row.U.Denot} c.domain.inside.state c.args.domain.now c.domain.invariant c.domain.view_is in
    let step = returns-clause-creates g c it.0 it.1 it.2 in
    subscriber-made-room {T = g.row.T.Denot} {U = g.row.U.Denot} c.args.domain.now _ it.0 it.0 it.1 step.0 it.2 step.1
    (answers_of g.F.BackpressureFn.allows g.G.DegradationFn.allows (c.create_subscriber.new.boxes).boxes)
    c.args.self.settings (step.2).0
    (g.H.PortHandle.as_port c.of_port.result) (step.2).1
