use Rattle.std.proofs.Common.{subst}
use Rattle.iox2_connections.specs.Handlers.{asked}
use Rattle.iox2_connections.proofs.AnyEnvironment.{AllowsAsMuch}
use Rattle.iox2_domain.specs.Boxes.{answers_of}
use Rattle.iox2_steps.proofs.sends.DeliverySteps.{Asked, asks-boxes, sends-alike}
use Rattle.iox2_messages.proofs.deliveries.send_ready.Goals as goal

pub returns-clause-sends : goal.returns-clause-sends
returns-clause-sends g c = (
  c.send_slot.ensures.sends.0,
  c.send_slot.ensures.sends.1,
  λ x at.
      sends-alike (asked (Asked g.F.BackpressureFn.allows) c.handler_at-handler.result)
      (answers_of g.F.BackpressureFn.allows g.G.DegradationFn.allows c.args.boxes.now.boxes) c.args.state.now
      c.args.place x c.send_slot.ensures.sends.0 c.send_slot.new.state
      (subst (λ h. AllowsAsMuch (asked (Asked g.F.BackpressureFn.allows) c.handler_at-handler.result)
      (answers_of g.F.BackpressureFn.allows g.G.DegradationFn.allows c.args.boxes.now.boxes) x.id h)
      (c.handler_at-handler.ensures.marks x at)
      (asks-boxes g.F.BackpressureFn.allows g.G.DegradationFn.allows x.id c.args.boxes.now.boxes
      c.handler_at-handler.result (c.handler_at-handler.ensures.asks x at)))
      c.args.slot (c.send_slot.ensures.sends.2 x at),
)
