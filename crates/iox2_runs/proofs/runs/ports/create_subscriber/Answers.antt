use Rattle.std.proofs.Common.{◌≡◌, ℕ, Option, sym, ap, ◌∙◌, Some, None}
use Rattle.iox2_machine.specs.machine.Environments.{fixed_handlers}
use Rattle.iox2_machine.specs.machine.Limits.{buffer_limit}
use Rattle.iox2_machine.specs.machine.Records.{Custom, SubscriberSettings}
use Rattle.iox2_machine.specs.declared.degradation.DegradationAction.{DegradationAction}
use Rattle.iox2_domain.specs.Boxes.{answers_of}
use Rattle.iox2_pubsub.proofs.LiveParts.{subscriber-parts}
use Rattle.iox2_pubsub.proofs.StaysBut.{nothing-is-new}
use Rattle.iox2_runs.specs.Services.{given_for}
use Rattle.iox2_runs.specs.declared.runs.made.Made.TheVariants.{Nothing, Subscriber as MadeSubscriber}
use Rattle.iox2_runs.proofs.CarriedPorts.{subscriber_carried, subscriber_denied}
use Rattle.iox2_runs.proofs.FixedCalls.{subscriber_created}
use Rattle.iox2_runs.proofs.FixedSends.{always_unboxed}
use Rattle.iox2_runs.proofs.LeavingSteps.{leaves-making}
use Rattle.iox2_runs.proofs.runs.ports.create_subscriber.Goals as goal

-- no box answers for a subscriber that is made so
none-answers : (settings : SubscriberSettings) (limit : ℕ) (buffer : Option ℕ) (degradation : DegradationAction)
    → settings ≡ given_for limit buffer degradation → settings.degradation_handler ≡ Custom → ⊥
none-answers settings limit buffer degradation told boxed =
    always_unboxed degradation (sym (ap (λ (given : SubscriberSettings). given.degradation_handler) told) ∙ boxed)

pub returns-in-Ok : goal.returns-in-Ok
returns-in-Ok g c =
    let told = c.subscriber_factory.ensures in record {
      carries = λ table. subscriber_carried {T = g.row.T.Denot} {U = g.row.U.Denot} fixed_handlers _ c.args.domain.now
          c.create.new.domain table c.args.buffer c.args.degradation c.subscriber_factory.result.settings told
          c.in-Ok.subscriber c.id.result
          (λ m s shown. let made = c.in-Ok.ensures.creates m s shown in (
            made.0,
            made.1,
            (
              subscriber_created (answers_of g.F.BackpressureFn.allows g.G.DegradationFn.allows
                  c.create.new.domain.boxes.subscribers) s c.subscriber_factory.result.settings
                  (none-answers c.subscriber_factory.result.settings (buffer_limit c.args.domain.now.config)
                  c.args.buffer c.args.degradation told) made.0 None (made.2).0,
              (made.2).1,
            ),
          ))
          (subscriber-parts {T = g.row.T.Denot} {U = g.row.U.Denot} c.create.new.domain _ c.in-Ok.ensures.live.there).1
          c.id.ensures;
      leaves = λ table. leaves-making {T = g.row.T.Denot} {U = g.row.U.Denot} c.args.domain.now c.create.new.domain
          table c.create.ensures.leaves.stays
          (MadeSubscriber c.in-Ok.subscriber) c.in-Ok.ensures.new c.in-Ok.ensures.live.placed;
    }

pub returns-in-Err : goal.returns-in-Err
returns-in-Err g c =
    let told = c.subscriber_factory.ensures in record {
      carries = λ table. subscriber_denied {T = g.row.T.Denot} {U = g.row.U.Denot} fixed_handlers _ c.args.domain.now
          c.create.new.domain table c.args.buffer c.args.degradation c.subscriber_factory.result.settings told
          c.in-Err.error
          (λ m s shown. let refused = c.in-Err.ensures.creates m s shown in (
            refused.0,
            refused.1,
            subscriber_created (answers_of g.F.BackpressureFn.allows g.G.DegradationFn.allows
                c.create.new.domain.boxes.subscribers) s c.subscriber_factory.result.settings
                (none-answers c.subscriber_factory.result.settings (buffer_limit c.args.domain.now.config) c.args.buffer
                c.args.degradation told) refused.0 (Some c.in-Err.error) refused.2,
          ));
      leaves = λ table. leaves-making {T = g.row.T.Denot} {U = g.row.U.Denot} c.args.domain.now c.create.new.domain
          table c.create.ensures.leaves.stays Nothing
          (nothing-is-new {T = g.row.T.Denot} {U = g.row.U.Denot} c.args.domain.now) tt;
    }
