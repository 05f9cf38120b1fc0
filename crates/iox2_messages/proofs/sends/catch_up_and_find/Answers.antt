use Rattle.std.proofs.Common.{◌≡◌, Some, refl, sym, ◌∙◌, ap}
use Rattle.iox2_domain.specs.Boxes.{answers_of}
use Rattle.iox2_domain.specs.Ports.{PublisherFields}
use Rattle.iox2_domain.proofs.lemmas.fields.ConnectionEnds.{free-of}
use Rattle.iox2_messages.proofs.ClearedSends.{caught-agrees, caught-failed, caught-holds, caught-ready}
use Rattle.iox2_messages.proofs.sends.catch_up_and_find.Goals as goal

pub returns-in_default : goal.returns-in_default
returns-in_default g c = record { is_gone = c.in_default.ensures; same = refl }

pub returns-in-Some-catch_up : goal.returns-in-Some-catch_up
returns-in-Some-catch_up g c = (
  c.in-Some.place,
  caught-failed (answers_of g.F.BackpressureFn.allows g.G.DegradationFn.allows c.args.boxes.now.boxes) c.args.state.now
      c.args.publisher c.args.number c.requires.live c.requires.unblocked c.requires.agrees c.in-Some.place
      c.in-Some.ensures c.catch_up.new.state c.catch_up.result
      (c.catch_up.ensures c.in-Some.ensures.0 c.in-Some.ensures.1)
      c.in-Some-catch_up.failure c.in-Some-catch_up.is,
)

pub find_loan-requires : goal.find_loan-requires
find_loan-requires g c =
    caught-agrees (answers_of g.F.BackpressureFn.allows g.G.DegradationFn.allows c.args.boxes.now.boxes)
    c.args.state.now c.args.publisher c.args.number c.requires.live c.requires.unblocked c.requires.agrees
    c.in-Some.place c.in-Some.ensures c.catch_up.new.state c.catch_up.result
    (c.catch_up.ensures c.in-Some.ensures.0 c.in-Some.ensures.1)
    c.in_default-catch_up.is

pub unreachable-requires : goal.unreachable-requires
unreachable-requires g c =
    c.in_default-find_loan.ensures
    (caught-holds (answers_of g.F.BackpressureFn.allows g.G.DegradationFn.allows c.args.boxes.now.boxes)
    c.args.state.now c.args.publisher c.args.number c.requires.live c.requires.unblocked c.requires.agrees
    c.in-Some.place c.in-Some.ensures c.catch_up.new.state c.catch_up.result
    (c.catch_up.ensures c.in-Some.ensures.0 c.in-Some.ensures.1)
    c.in_default-catch_up.is)

pub returns : goal.returns
returns g c =
    caught-ready (answers_of g.F.BackpressureFn.allows g.G.DegradationFn.allows c.args.boxes.now.boxes) c.args.state.now
    c.args.publisher c.args.number c.requires.live c.requires.unblocked c.requires.agrees c.in-Some.place
    c.in-Some.ensures c.catch_up.new.state c.catch_up.result
    (c.catch_up.ensures c.in-Some.ensures.0 c.in-Some.ensures.1)
    c.in_default-catch_up.is c.in-Some-find_loan.at.book c.in-Some-find_loan.at.slot c.in-Some-find_loan.ensures

pub catch_up-requires-clause-stands : goal.catch_up-requires-clause-stands
catch_up-requires-clause-stands g c = (c.in-Some.ensures.0, c.in-Some.ensures.1)

pub catch_up-requires-clause-unblocked : goal.catch_up-requires-clause-unblocked
catch_up-requires-clause-unblocked g c = λ z at_z.
    let both : Some z ≡ Some c.in-Some.ensures.0 = sym at_z ∙ c.in-Some.ensures.1 in
    let is : z ≡ c.in-Some.ensures.0 = cc in
    ap (λ (w : PublisherFields). w.blocked) is
    ∙ free-of c.args.state.now c.requires.agrees.parts c.args.publisher c.in-Some.place c.in-Some.ensures.0
    c.in-Some.ensures.1 c.in-Some.ensures.2 c.requires.unblocked
