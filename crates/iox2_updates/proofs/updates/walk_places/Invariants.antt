use Rattle.std.proofs.Common.{◌+◌, ◌^◌}
use Rattle.iox2_domain.specs.Boxes.{answers_of}
use Rattle.iox2_steps.proofs.updates.SenderUpdates.{WalksSender}
use Rattle.iox2_updates.specs.Ends.{IsSenderDue}
use Rattle.iox2_updates.specs.Holders.{HasFewHolders}
use Rattle.iox2_updates.proofs.updates.walk_places.Given as goal

abbrev pub invariant-loop-other : goal.invariant-loop-other
invariant-loop-other g l = (due : IsSenderDue l.fn.state l.place)
    → WalksSender {T = g.row.T.Denot} {U = g.row.U.Denot}
    (answers_of g.F.BackpressureFn.allows g.G.DegradationFn.allows l.boxes.boxes) l.fn.state l.place due.publisher
    l.other l.state l.first
    × HasFewHolders l.state.books due.publisher.book (2 ^ 62 + l.other)
