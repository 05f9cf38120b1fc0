use Rattle.std.proofs.Common.{◌≡◌, length, ap, arith}
use Rattle.iox2_domain.specs.Fields.{Fields}
use Rattle.iox2_steps.proofs.updates.MarkedEnds.{sender-begins, sender-more, sender-cleared}
use Rattle.iox2_updates.proofs.marks.unmark_publisher.Goals as goal

pub loop-subscriber_place-init : goal.loop-subscriber_place-init
loop-subscriber_place-init g c = sender-begins c.args.state.now c.requires c.args.place

pub unmark_end-requires : goal.unmark_end-requires
unmark_end-requires g c = c.loop-subscriber_place.invariant.clears.changes.agrees

pub loop-subscriber_place-preserved : goal.loop-subscriber_place-preserved
loop-subscriber_place-preserved g c =
    sender-more c.args.state.now c.args.place c.loop-subscriber_place.subscriber_place c.loop-subscriber_place.state
    c.unmark_end.new.state c.loop-subscriber_place.invariant c.unmark_end.ensures

pub returns : goal.returns
returns g c =
    let long : length c.state.inside.subscribers.items ≡ length c.args.state.now.subscribers =
    ap (λ (f : Fields g.row.T.Denot g.row.U.Denot). length f.subscribers) c.state.view_is in
    record {
      clears = c.loop-subscriber_place.invariant.clears;
      unmarked = sender-cleared c.args.state.now c.args.place c.loop-subscriber_place.subscriber_place
          c.loop-subscriber_place.state c.loop-subscriber_place.invariant
          (omega (arith, long, c.loop-subscriber_place-test.false, c.len-subscriber_place-end.ensures));
    }
