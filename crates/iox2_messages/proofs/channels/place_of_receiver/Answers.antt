use Rattle.std.proofs.Common.{◌∙◌}
use Rattle.iox2_messages.proofs.AskedChannels.{asked-place}
use Rattle.iox2_messages.proofs.channels.place_of_receiver.Goals as goal

pub returns : goal.returns
returns g c = λ x at.
    c.place_in.ensures
    ∙ asked-place _ c.args.state.now c.state.view_is c.requires.agrees c.args.place c.index.result.now
    c.in-Some.publisher _ c.deref.result.now c.requires.stands
    c.index.ensures c.in-Some.is c.publisher.view_is c.deref.ensures.value c.args.subscriber x at
