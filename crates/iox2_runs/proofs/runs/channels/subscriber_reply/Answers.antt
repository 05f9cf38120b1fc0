use Rattle.iox2_domain.specs.Shows.{Shows}
use Rattle.iox2_machine.specs.machine.State.{State}
use Rattle.iox2_commands.specs.declared.reply.Reply.TheVariants.{Has, WereClosed}
use Rattle.std.proofs.Common.{Bool, refl, sym, ap, subst}
use Rattle.iox2_runs.proofs.runs.channels.subscriber_reply.Goals as goal

pub returns-in-SetState-clause-replies : goal.returns-in-SetState-clause-replies
returns-in-SetState-clause-replies g c = rw c.in-SetState.is (λ m s shown.
    let set = c.set_channel_state.ensures.sets m s shown in (
      subst (λ (t : State g.row.T.Denot g.row.U.Denot). Shows c.set_channel_state.new.domain m t) (set.2).0 set.1,
      ap (λ (b : Bool). WereClosed b) (sym (set.2).1),
    ))

pub returns-in-SomeHasState-clause-replies : goal.returns-in-SomeHasState-clause-replies
returns-in-SomeHasState-clause-replies g c = rw c.in-SomeHasState.is
    (λ m s shown. (shown, ap (λ (b : Bool). Has b) (sym (c.at_least_one_channel_has_state.ensures m s shown))))

pub returns-in-Close-clause-replies : goal.returns-in-Close-clause-replies
returns-in-Close-clause-replies g c = rw c.in-Close.is (λ m s shown. (c.close_channel.ensures.closed m s shown, refl))

pub returns-in-SetDisconnectHint-clause-replies : goal.returns-in-SetDisconnectHint-clause-replies
returns-in-SetDisconnectHint-clause-replies g c =
    rw c.in-SetDisconnectHint.is (λ m s shown. (c.set_disconnect_hint.ensures.hinted m s shown, refl))
