use Rattle.iox2_domain.specs.Boxes.{answers_of}
use Rattle.iox2_steps.proofs.receivers.Walks.{WalksFirst, WalksBoth}
use Rattle.iox2_updates.proofs.receiver_updates.walk_places.Given as goal

-- the places so far are walked over
abbrev pub invariant-loop-other : goal.invariant-loop-other
invariant-loop-other g l = WalksFirst (answers_of g.F.BackpressureFn.allows g.G.DegradationFn.allows l.boxes.boxes)
    l.fn.state l.place l.other l.state l.first

-- all of them, and the empty ones so far
abbrev pub invariant-loop-empty : goal.invariant-loop-empty
invariant-loop-empty g l = WalksBoth (answers_of g.F.BackpressureFn.allows g.G.DegradationFn.allows l.boxes.boxes)
    l.fn.state l.place l.empty l.state l.first l.later
