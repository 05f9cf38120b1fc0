use Rattle.iox2_domain.specs.Boxes.{answers_of}
use Rattle.iox2_pubsub.proofs.KeptAnswers.{asked}
use Rattle.iox2_domain.specs.Fields.{keeping}
use Rattle.iox2_pubsub.proofs.PlacedHandles.{subscriber-at-place, subscriber-there}
use Rattle.iox2_pubsub.proofs.CallsStay.{always-shown}
use Rattle.iox2_pubsub.proofs.QuestionShown.{answer-at, answer-shows, answered}
use Rattle.iox2_pubsub.proofs.StaysBut.{consistent-shown, same-boxes}
use Rattle.iox2_pubsub.proofs.UpdatesLeave.{question-borrows, question-left, question-updated}
use Rattle.iox2_pubsub.proofs.WaitingShown.{answers-say}
use Rattle.iox2_pubsub.proofs.KeptReceives.{question-waits}
use Rattle.iox2_pubsub.proofs.subscriber.Subscriber.has_samples.Goals as goal

pub returns-clause-answers : goal.returns-clause-answers
returns-clause-answers g c =
    answer-shows {T = g.row.T.Denot} {U = g.row.U.Denot}
    (answers_of g.F.BackpressureFn.allows g.G.DegradationFn.allows c.args.domain.now.boxes.subscribers)
    c.args.domain.now c.domain.inside.state c.has_samples_at.new.state c.domain.view_is c.args.self.now.id
    c.has_samples_at.result
    (answer-at {T = g.row.T.Denot} {U = g.row.U.Denot}
    (answers_of g.F.BackpressureFn.allows g.G.DegradationFn.allows c.args.domain.now.boxes.subscribers)
    c.domain.inside.state c.has_samples_at.new.state c.args.self.now.place c.args.self.now.id c.has_samples_at.result
    (subscriber-at-place {T = g.row.T.Denot} {U = g.row.U.Denot} c.domain.inside.state c.domain.invariant
    c.args.domain.now c.domain.view_is c.args.self.now c.requires.live)
    (asked g.F.BackpressureFn.allows g.G.DegradationFn.allows c.domain.inside.state c.has_samples_at.new.state
    c.args.domain.now c.domain.view_is c.args.self.now.place c.has_samples_at.result c.has_samples_at.ensures))

pub returns-clause-leaves : goal.returns-clause-leaves
returns-clause-leaves g c =
    question-left {T = g.row.T.Denot} {U = g.row.U.Denot} c.domain.inside.state c.args.domain.now
    (keeping _ c.has_samples_at.new.state) c.domain.invariant c.domain.view_is
    (same-boxes c.domain.inside.state c.has_samples_at.new.state c.args.domain.now c.domain.view_is c.domain.invariant
    (let at = (subscriber-there {T = g.row.T.Denot} {U = g.row.U.Denot} c.domain.inside.state c.domain.invariant
    c.args.domain.now c.domain.view_is c.args.self.now c.requires.live) in
    (c.has_samples_at.ensures at.0 at.1).1.places))
    (answers_of g.F.BackpressureFn.allows g.G.DegradationFn.allows c.args.domain.now.boxes.subscribers) c.args.self.now
    c.has_samples_at.result (returns-clause-answers g c)

pub returns-clause-borrows_left : goal.returns-clause-borrows_left
returns-clause-borrows_left g c =
    question-borrows {T = g.row.T.Denot} {U = g.row.U.Denot} c.domain.inside.state c.args.domain.now
    (keeping _ c.has_samples_at.new.state) c.domain.invariant c.domain.view_is
    (same-boxes c.domain.inside.state c.has_samples_at.new.state c.args.domain.now c.domain.view_is c.domain.invariant
    (let at = (subscriber-there {T = g.row.T.Denot} {U = g.row.U.Denot} c.domain.inside.state c.domain.invariant
    c.args.domain.now c.domain.view_is c.args.self.now c.requires.live) in
    (c.has_samples_at.ensures at.0 at.1).1.places))
    (answers_of g.F.BackpressureFn.allows g.G.DegradationFn.allows c.args.domain.now.boxes.subscribers) c.args.self.now
    c.has_samples_at.result (returns-clause-answers g c)

pub returns-clause-waits : goal.returns-clause-waits
returns-clause-waits g c =
    let it = always-shown {T = g.row.T.Denot}
    {U = g.row.U.Denot} c.domain.inside.state c.args.domain.now c.domain.invariant c.domain.view_is in
    let step = returns-clause-answers g c it.0 it.1 it.2 in
    answers-say {T = g.row.T.Denot} {U = g.row.U.Denot} c.args.domain.now (keeping _ c.has_samples_at.new.state) it.0
    it.0 it.1 step.0 it.2 step.1 (answers_of g.F.BackpressureFn.allows g.G.DegradationFn.allows
    c.args.domain.now.boxes.subscribers) c.args.self.now c.requires.live c.has_samples_at.result step.2

pub returns-clause-updated : goal.returns-clause-updated
returns-clause-updated g c =
    question-updated {T = g.row.T.Denot} {U = g.row.U.Denot} c.domain.inside.state c.args.domain.now
    (keeping _ c.has_samples_at.new.state) c.domain.invariant c.domain.view_is
    (same-boxes c.domain.inside.state c.has_samples_at.new.state c.args.domain.now c.domain.view_is c.domain.invariant
    (let at = (subscriber-there {T = g.row.T.Denot} {U = g.row.U.Denot} c.domain.inside.state c.domain.invariant
    c.args.domain.now c.domain.view_is c.args.self.now c.requires.live) in
    (c.has_samples_at.ensures at.0 at.1).1.places))
    (answers_of g.F.BackpressureFn.allows g.G.DegradationFn.allows c.args.domain.now.boxes.subscribers) c.args.self.now
    c.requires.live c.has_samples_at.result (returns-clause-answers g c)

pub returns-clause-undisturbed : goal.returns-clause-undisturbed
returns-clause-undisturbed g c = λ keeps.
    let it = always-shown {T = g.row.T.Denot}
    {U = g.row.U.Denot} c.domain.inside.state c.args.domain.now c.domain.invariant c.domain.view_is in
    let step = returns-clause-answers g c it.0 it.1 it.2 in
    let has = answered {T = g.row.T.Denot} {U = g.row.U.Denot}
    (answers_of g.F.BackpressureFn.allows g.G.DegradationFn.allows c.args.domain.now.boxes.subscribers) it.1
    c.args.self.now.id c.has_samples_at.result step.0 step.2 in
    question-waits {T = g.row.T.Denot} {U = g.row.U.Denot} c.args.domain.now
    (keeping _ c.has_samples_at.new.state) it.0 it.0 it.1 step.0 it.2 step.1
    (answers_of g.F.BackpressureFn.allows g.G.DegradationFn.allows c.args.domain.now.boxes.subscribers) c.args.self.now
    keeps (λ n entry at. at) has.0 (has.2).0

pub has_samples_at-requires-clause-stands : goal.has_samples_at-requires-clause-stands
has_samples_at-requires-clause-stands g c = subscriber-there {T = g.row.T.Denot}
    {U = g.row.U.Denot} c.domain.inside.state c.domain.invariant c.args.domain.now c.domain.view_is c.args.self.now
    c.requires.live

pub invariant_of-domain : goal.invariant_of-domain
invariant_of-domain g c =
    let at = subscriber-there {T = g.row.T.Denot} {U = g.row.U.Denot} c.domain.inside.state c.domain.invariant
    c.args.domain.now c.domain.view_is c.args.self.now c.requires.live in
    (c.has_samples_at.ensures at.0 at.1).1.agrees

pub returns-clause-consistent : goal.returns-clause-consistent
returns-clause-consistent g c =
    let it = always-shown {T = g.row.T.Denot}
    {U = g.row.U.Denot} c.domain.inside.state c.args.domain.now c.domain.invariant c.domain.view_is in
    consistent-shown c.args.domain.now it.0 it.1 it.2
