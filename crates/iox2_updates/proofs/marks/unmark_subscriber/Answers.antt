use Rattle.std.proofs.Common.{◌≡◌, length, ap, arith}
use Rattle.iox2_domain.specs.Fields.{Fields}
use Rattle.iox2_steps.proofs.updates.MarkedEnds.{receiver-begins, receiver-more, receiver-cleared}
use Rattle.iox2_updates.proofs.marks.unmark_subscriber.Goals as goal

pub loop-publisher_place-init : goal.loop-publisher_place-init
loop-publisher_place-init g c = receiver-begins c.args.state.now c.requires c.args.place

pub unmark_end-requires : goal.unmark_end-requires
unmark_end-requires g c = c.loop-publisher_place.invariant.clears.changes.agrees

pub loop-publisher_place-preserved : goal.loop-publisher_place-preserved
loop-publisher_place-preserved g c =
    receiver-more c.args.state.now c.args.place c.loop-publisher_place.publisher_place c.loop-publisher_place.state
    c.unmark_end.new.state c.loop-publisher_place.invariant c.unmark_end.ensures

pub returns : goal.returns
returns g c =
    let long : length c.state.inside.publishers.items ≡ length c.args.state.now.publishers =
    ap (λ (f : Fields g.row.T.Denot g.row.U.Denot). length f.publishers) c.state.view_is in
    record {
      clears = c.loop-publisher_place.invariant.clears;
      unmarked = receiver-cleared c.args.state.now c.args.place c.loop-publisher_place.publisher_place
          c.loop-publisher_place.state c.loop-publisher_place.invariant
          (omega (arith, long, c.loop-publisher_place-test.false, c.len-publisher_place-end.ensures));
    }
