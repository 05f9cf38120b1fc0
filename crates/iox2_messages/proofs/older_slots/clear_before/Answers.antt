use Rattle.std.proofs.Common.{arith}
use Rattle.iox2_messages.proofs.OlderSlots.{cleared-next, cleared-passed, given_up-all}
use Rattle.iox2_messages.proofs.older_slots.clear_before.Goals as goal
use Rattle.iox2_messages.proofs.older_slots.clear_before.Goals.{then-slot-start, else-slot-start}

pub clear-requires : goal.clear-requires
clear-requires g c =
    let low = c.requires c.loop-at.at 0 c.loop-at-test.true in
    let long = (c.loop-at.invariant.0).count in
    omega (arith, low, long)

pub loop-at-preserved : goal.loop-at-preserved
loop-at-preserved g c =
    let few = c.loop-at.invariant.1 in
    elim c.if-slot-start.branch [
      | then-slot-start w ↦
          rw (w.contents-is, w.cleared-is) (
            cleared-next {T = g.row.T.Denot} {U = g.row.U.Denot} c.args.slots.now c.args.start c.args.contents.now
                c.loop-at.at c.loop-at.contents w.clear.new.self c.loop-at-test.true
                c.loop-at.invariant.0 w.if-slot-start.true w.clear.ensures,
            omega (arith, few),
          )
      | else-slot-start w ↦
          rw (w.contents-is, w.cleared-is) (
            cleared-passed {T = g.row.T.Denot} {U = g.row.U.Denot} c.args.slots.now c.args.start c.args.contents.now
                c.loop-at.at c.loop-at.contents c.loop-at.invariant.0 w.if-slot-start.false,
            omega (arith, few),
          )
    ]

pub returns-clause-given_up : goal.returns-clause-given_up
returns-clause-given_up g c =
    given_up-all {T = g.row.T.Denot} {U = g.row.U.Denot} c.args.slots.now c.args.start c.loop-at.contents
    (λ k lt older. (c.loop-at.invariant.0).given_up k (let end = c.loop-at-test.false in omega (arith, lt, end)) older)
