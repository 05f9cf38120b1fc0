use Rattle.iox2_steps.proofs.updates.MarkedEnds.{changes-none, changes-trans}
use Rattle.iox2_messages.proofs.changed_channels.mark_received.Goals as goal

pub loop-publisher_place-init : goal.loop-publisher_place-init
loop-publisher_place-init g c = changes-none c.args.state.now c.requires

pub mark_end-requires : goal.mark_end-requires
mark_end-requires g c = c.loop-publisher_place.invariant.agrees

pub loop-publisher_place-preserved : goal.loop-publisher_place-preserved
loop-publisher_place-preserved g c = changes-trans c.args.state.now c.loop-publisher_place.state c.mark_end.new.state
    c.loop-publisher_place.invariant c.mark_end.ensures

pub returns : goal.returns
returns g c = c.loop-publisher_place.invariant
