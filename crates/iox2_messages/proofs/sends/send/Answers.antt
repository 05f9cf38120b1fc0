use Rattle.std.proofs.Common.{sym, ◌∙◌}
use Rattle.iox2_machine.specs.machine.Environments.{fixed_handlers}
use Rattle.iox2_domain.specs.Boxes.{answers_of}
use Rattle.iox2_steps.proofs.sends.AskedBoxes.{ready-boxes, unasked, unhandled}
use Rattle.iox2_steps.proofs.sends.DeliverySteps.{sends-alike}
use Rattle.iox2_steps.proofs.sends.SendSteps.{sender-stands, can-send, sends-loan}
use Rattle.iox2_domain.proofs.lemmas.fields.ConnectionEnds.{free-of}
use Rattle.iox2_messages.proofs.SentEnds.{not-lost}
use Rattle.iox2_messages.proofs.sends.send.Goals as goal

pub send_unasked-requires-clause-can : goal.send_unasked-requires-clause-can
send_unasked-requires-clause-can g c =
    let r = c.is_ready.ensures c.if-is_ready.true in (
      _,
      sender-stands fixed_handlers c.args.state.now c.requires.agrees c.args.loan.publisher c.args.loan.number
          c.args.loan.place c.requires.live (r.publisher, r.stands, r.is_its)
          (free-of c.args.state.now c.requires.agrees.parts c.args.loan.publisher c.args.loan.place r.publisher r.stands
          r.is_its c.requires.unblocked) c.args.state.now r.updated,
      can-send fixed_handlers c.args.state.now c.requires.agrees c.args.loan.publisher c.args.loan.number
          c.args.loan.place c.requires.live (r.publisher, r.stands, r.is_its)
          (free-of c.args.state.now c.requires.agrees.parts c.args.loan.publisher c.args.loan.place r.publisher r.stands
          r.is_its c.requires.unblocked) c.args.state.now r.updated
          r.key c.args.loan.slot r.lies,
    )

pub send_unasked-requires-clause-unasked : goal.send_unasked-requires-clause-unasked
send_unasked-requires-clause-unasked g c =
    λ x at. unhandled x.backpressure_handler (sym (c.has_handler_at.ensures x at) ∙ c.if-not-has_handler_at.true)

pub returns-then-not-has_handler_at : goal.returns-then-not-has_handler_at
returns-then-not-has_handler_at g c =
    let r = ready-boxes g.F.BackpressureFn.allows g.G.DegradationFn.allows c.args.boxes.now.boxes c.args.state.now
    c.args.state.now c.args.loan.publisher c.args.loan.number c.args.loan.place c.args.loan.slot
    (c.is_ready.ensures c.if-is_ready.true) in (
      c.send_unasked.result,
      rw c.send_unasked.ensures.sends.1
          (sends-loan (answers_of g.F.BackpressureFn.allows g.G.DegradationFn.allows c.args.boxes.now.boxes)
          c.args.state.now c.requires.agrees c.args.loan.publisher c.args.loan.number c.args.loan.place c.requires.live
          (r.publisher, r.stands, r.is_its)
          (free-of c.args.state.now c.requires.agrees.parts c.args.loan.publisher c.args.loan.place r.publisher r.stands
          r.is_its c.requires.unblocked) c.args.state.now r.updated
          r.key c.args.loan.slot r.lies c.send_unasked.ensures.sends.0 c.send_unasked.new.state (λ x at.
          sends-alike fixed_handlers
          (answers_of g.F.BackpressureFn.allows g.G.DegradationFn.allows c.args.boxes.now.boxes) c.args.state.now
          c.args.loan.place x c.send_unasked.ensures.sends.0 c.send_unasked.new.state
          (unasked fixed_handlers (answers_of g.F.BackpressureFn.allows g.G.DegradationFn.allows c.args.boxes.now.boxes)
          x.id x.backpressure_handler (sym (c.has_handler_at.ensures x at) ∙ c.if-not-has_handler_at.true))
          c.args.loan.slot (c.send_unasked.ensures.sends.2 x at))),
      λ holds. not-lost c.send_unasked.result c.send_unasked.ensures.kept,
      c.outcome.ensures,
    )
