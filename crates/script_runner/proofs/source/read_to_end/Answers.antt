use Rattle.std.proofs.Common.{[]}
use Rattle.std.proofs.KnownBytes.{Consumes-nil, Consumes-trans, Consumes-all}
use Rattle.script_runner.proofs.source.read_to_end.Goals as goal

pub loop-init : goal.loop-init
loop-init g c = rw c.new-text.ensures.items (Consumes-nil _)

pub loop-preserved : goal.loop-preserved
loop-preserved g c =
    let (bytes, moved, longer, end) = c.in_ok-read_more.ensures.ok in
    rw longer (Consumes-trans _ _ _ _ _ c.loop.invariant moved)

pub returns-then-branch-clause-ok : goal.returns-then-branch-clause-ok
returns-then-branch-clause-ok g c =
    let (bytes, moved, longer, end) = c.in_ok-read_more.ensures.ok in
    Consumes-all _ _ _ [] _ (Consumes-trans _ _ _ _ _ c.loop.invariant moved) (end c.if-branch.true) longer
