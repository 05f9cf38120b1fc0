use Rattle.std.proofs.Common.{◌∙◌, Some, sym, ap}
use Rattle.std.proofs.lemmas.Option.{none-some}
use Rattle.iox2_connections.specs.declared.sender.Progress.{Progress}
use Rattle.iox2_machine.specs.machine.ChannelCalls.{receiver_at}
use Rattle.iox2_domain.specs.Fields.{kept_of}
use Rattle.iox2_domain.specs.Kept.{state_of}
use Rattle.iox2_messages.proofs.BlockingReceivers.{waits-for-some}
use Rattle.iox2_messages.proofs.blocked_sends.blocking_subscriber.Goals as goal

pub unreachable-requires : goal.unreachable-requires
unreachable-requires g c =
    let it = c.requires.waits in
    let some =
    waits-for-some c.args.state.now c.requires.agrees c.args.place it.publisher it.stands it.blocked it.waits in
    none-some some.0
    (sym c.in_default.is
    ∙ c.receiver_at.ensures it.publisher it.stands
    ∙ ap (λ (v : Progress). receiver_at (state_of (kept_of c.args.state.now)) (it.publisher).id v.place)
    (c.progress_at-progress.ensures it.publisher it.blocked it.stands it.waits)
    ∙ some.1)

pub returns : goal.returns
returns g c = λ x b at waits.
    ap (λ (v : Progress). receiver_at (state_of (kept_of c.args.state.now)) x.id v.place)
    (sym (c.progress_at-progress.ensures x b at waits))
    ∙ sym (c.receiver_at.ensures x at)
    ∙ c.in-Some.is
    ∙ ap Some (sym c.new.ensures)
