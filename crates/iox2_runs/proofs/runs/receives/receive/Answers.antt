use Rattle.iox2_domain.specs.Boxes.{answers_of}
use Rattle.iox2_pubsub.proofs.LiveParts.{sample-parts}
use Rattle.iox2_pubsub.proofs.StaysBut.{nothing-is-new}
use Rattle.iox2_pubsub.specs.ReceivedSamples.{IsReceived, received_result}
use Rattle.iox2_pubsub.specs.Sample.{Sample}
use Rattle.iox2_runs.proofs.CarriedSamples.{receive_passed, receive_of_other, receive_carried, receive_none}
use Rattle.iox2_runs.proofs.CarriedSamples.{receive_denied}
use Rattle.iox2_runs.proofs.FixedCalls.{received}
use Rattle.iox2_runs.proofs.LiveEntries.{live_subscriber, unboxed_subscriber}
use Rattle.iox2_runs.proofs.TableEntries.{not_subscriber}
use Rattle.iox2_runs.proofs.TableLooks.{is_subscriber_entry}
use Rattle.iox2_runs.proofs.Turned.{looks, makes}
use Rattle.iox2_runs.specs.Carries.{entry_for}
use Rattle.iox2_runs.specs.declared.runs.made.Made.TheVariants.{Nothing, Sample as MadeSample}
use Rattle.iox2_runs.specs.declared.runs.made.Made.{Made}
use Rattle.iox2_machine.specs.declared.errors.ReceiveError.{ReceiveError}
use Rattle.iox2_machine.specs.declared.service_config.ServiceConfig.{ServiceConfig}
use Rattle.iox2_machine.specs.machine.Environments.{fixed_handlers}
use Rattle.iox2_machine.specs.machine.Receives.{Receive}
use Rattle.std.proofs.Common.{◌≡◌, sym, ap, subst, ◌∙◌, Option, None, Some}
use Rattle.std.specs.Prelude.{Result, IfOk, IfSome}
use Rattle.std.specs.declared.result.Result.TheVariants.{Ok, Err}
use Rattle.iox2_runs.proofs.runs.receives.receive.Goals as goal

pub returns-then-config-ne1 : goal.returns-then-config-ne1
returns-then-config-ne1 g c =
    looks {T = g.row.T.Denot} {U = g.row.U.Denot} _ _ c.args.domain.now c.args.held _ _ (λ table of at.
    receive_of_other {T = g.row.T.Denot} {U = g.row.U.Denot} fixed_handlers _ c.args.domain.now c.args.domain.now table
    table of (λ units.
    c.if-config-ne1.true (ap (λ (k : ServiceConfig). k.units_per_element) c.config.ensures.value ∙ units)))

pub receive-requires : goal.receive-requires
receive-requires g c = record {
  live = live_subscriber {T = g.row.T.Denot}
      {U = g.row.U.Denot} c.args.domain.now c.args.held c.requires c.in-Subscriber.subscriber c.in-Subscriber.is;
}

pub returns-in-Ok-Some : goal.returns-in-Ok-Some
returns-in-Ok-Some g c =
    let result : c.receive.result ≡ Ok (Some c.in-Ok-Some.sample) =
    c.in-Ok-Some.is ∙ ap (λ (o : Option Sample). Ok o) c.in-Ok-Some.field-0-is in
    let got : IsReceived c.in-Subscriber.subscriber c.in-Ok-Some.sample c.args.domain.now c.receive.new.domain =
    subst (λ (r : Result (Option Sample) ReceiveError).
    IfOk r (λ o. IfSome o (λ it. IsReceived c.in-Subscriber.subscriber it c.args.domain.now c.receive.new.domain)))
    result c.receive.ensures.received in
    rw c.in-Subscriber.is (makes {T = g.row.T.Denot} {U = g.row.U.Denot} _ _ c.args.domain.now c.receive.new.domain _ _
    _ (MadeSample c.in-Ok-Some.sample) (λ table of at.
    receive_carried {T = g.row.T.Denot} {U = g.row.U.Denot} fixed_handlers _ c.args.domain.now c.receive.new.domain
    table table of c.in-Subscriber.subscriber c.in-Ok-Some.sample c.origin.result at
    (ap (λ (k : ServiceConfig). k.units_per_element) (sym c.config.ensures.value) ∙ c.if-config-ne1.false)
    (received {T = g.row.T.Denot} {U = g.row.U.Denot}
    (answers_of g.F.BackpressureFn.allows g.G.DegradationFn.allows c.args.domain.now.boxes.subscribers)
    c.args.domain.now c.receive.new.domain c.in-Subscriber.subscriber.id
    (unboxed_subscriber {T = g.row.T.Denot} {U = g.row.U.Denot} c.args.domain.now c.args.held c.requires
    c.in-Subscriber.subscriber c.in-Subscriber.is) (received_result (Ok (Some c.in-Ok-Some.sample)))
    (λ m s shown. let got = c.receive.ensures.receives m s shown in (
      got.0,
      got.1,
      subst
          (λ r. Receive (answers_of g.F.BackpressureFn.allows g.G.DegradationFn.allows
          c.args.domain.now.boxes.subscribers) s c.in-Subscriber.subscriber.id got.0 (received_result r)) result got.2,
    )))
    (sample-parts {T = g.row.T.Denot} {U = g.row.U.Denot} c.receive.new.domain _ got.live.there).0 got.subscriber
    c.origin.ensures) c.receive.ensures.leaves.stays got.is_new got.live.placed)

pub returns-in-Ok-None : goal.returns-in-Ok-None
returns-in-Ok-None g c =
    rw c.in-Subscriber.is (makes {T = g.row.T.Denot}
    {U = g.row.U.Denot} _ _ c.args.domain.now c.receive.new.domain _ _ _ Nothing (λ table of at.
    receive_none {T = g.row.T.Denot} {U = g.row.U.Denot} fixed_handlers _ c.args.domain.now c.receive.new.domain table
    table of c.in-Subscriber.subscriber at
    (ap (λ (k : ServiceConfig). k.units_per_element) (sym c.config.ensures.value) ∙ c.if-config-ne1.false)
    (received {T = g.row.T.Denot} {U = g.row.U.Denot}
    (answers_of g.F.BackpressureFn.allows g.G.DegradationFn.allows c.args.domain.now.boxes.subscribers)
    c.args.domain.now c.receive.new.domain c.in-Subscriber.subscriber.id
    (unboxed_subscriber {T = g.row.T.Denot} {U = g.row.U.Denot} c.args.domain.now c.args.held c.requires
    c.in-Subscriber.subscriber c.in-Subscriber.is) (received_result (Ok None))
    (λ m s shown. let got = c.receive.ensures.receives m s shown in (
      got.0,
      got.1,
      subst
          (λ r. Receive (answers_of g.F.BackpressureFn.allows g.G.DegradationFn.allows
          c.args.domain.now.boxes.subscribers) s c.in-Subscriber.subscriber.id got.0 (received_result r))
          (c.in-Ok-None.is ∙ ap (λ (o : Option Sample). Ok o) c.in-Ok-None.field-0-is) got.2,
    ))))
    c.receive.ensures.leaves.stays (nothing-is-new {T = g.row.T.Denot} {U = g.row.U.Denot} c.args.domain.now) tt)

pub returns-in-Err : goal.returns-in-Err
returns-in-Err g c =
    rw c.in-Subscriber.is (makes {T = g.row.T.Denot}
    {U = g.row.U.Denot} _ _ c.args.domain.now c.receive.new.domain _ _ _ Nothing (λ table of at.
    receive_denied {T = g.row.T.Denot} {U = g.row.U.Denot} fixed_handlers _ c.args.domain.now c.receive.new.domain table
    table of c.in-Subscriber.subscriber c.in-Err.error at
    (ap (λ (k : ServiceConfig). k.units_per_element) (sym c.config.ensures.value) ∙ c.if-config-ne1.false)
    (received {T = g.row.T.Denot} {U = g.row.U.Denot}
    (answers_of g.F.BackpressureFn.allows g.G.DegradationFn.allows c.args.domain.now.boxes.subscribers)
    c.args.domain.now c.receive.new.domain c.in-Subscriber.subscriber.id
    (unboxed_subscriber {T = g.row.T.Denot} {U = g.row.U.Denot} c.args.domain.now c.args.held c.requires
    c.in-Subscriber.subscriber c.in-Subscriber.is) (received_result (Err c.in-Err.error))
    (λ m s shown. let got = c.receive.ensures.receives m s shown in (
      got.0,
      got.1,
      subst
          (λ r. Receive (answers_of g.F.BackpressureFn.allows g.G.DegradationFn.allows
          c.args.domain.now.boxes.subscribers) s c.in-Subscriber.subscriber.id got.0 (received_result r)) c.in-Err.is
          got.2,
    ))))
    c.receive.ensures.leaves.stays (nothing-is-new {T = g.row.T.Denot} {U = g.row.U.Denot} c.args.domain.now) tt)

pub returns-in_default : goal.returns-in_default
returns-in_default g c =
    looks {T = g.row.T.Denot} {U = g.row.U.Denot} _ _ c.args.domain.now c.args.held _ _ (λ table of at.
    receive_passed {T = g.row.T.Denot} {U = g.row.U.Denot} fixed_handlers _ c.args.domain.now c.args.domain.now table
    table of (ap (λ (h : Made). is_subscriber_entry (entry_for h)) at
    ∙ not_subscriber c.args.held c.in_default.not-Subscriber))
