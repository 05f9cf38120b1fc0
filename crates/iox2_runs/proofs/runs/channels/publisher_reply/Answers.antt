use Rattle.iox2_commands.specs.declared.reply.Reply.TheVariants.{Has}
use Rattle.std.proofs.Common.{Bool, refl, sym, ap}
use Rattle.iox2_runs.proofs.runs.channels.publisher_reply.Goals as goal

pub returns-in-HasState-clause-replies : goal.returns-in-HasState-clause-replies
returns-in-HasState-clause-replies g c =
    rw c.in-HasState.is (λ m s shown. (shown, ap (λ (b : Bool). Has b) (sym (c.has_channel_state.ensures m s shown))))

pub returns-in-HasDisconnectHint-clause-replies : goal.returns-in-HasDisconnectHint-clause-replies
returns-in-HasDisconnectHint-clause-replies g c = rw c.in-HasDisconnectHint.is
    (λ m s shown. (shown, ap (λ (b : Bool). Has b) (sym (c.has_disconnect_hint.ensures m s shown))))

pub returns-in-Close-clause-replies : goal.returns-in-Close-clause-replies
returns-in-Close-clause-replies g c = rw c.in-Close.is (λ m s shown. (c.close_channel.ensures.closed m s shown, refl))
