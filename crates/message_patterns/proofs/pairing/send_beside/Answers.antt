use Rattle.std.proofs.Common.{[], ◌∷◌}
use Rattle.iox2_pubsub.specs.Handles.{publisher_id}
use Rattle.iox2_pubsub.proofs.ForCallers.{share_begins}
use Rattle.message_patterns.proofs.pairing.send_beside.Goals as goal

pub returns-in-Ok-clause-begins : goal.returns-in-Ok-clause-begins
returns-in-Ok-clause-begins c = λ subscriber shares wait apart connected.
    share_begins c.args.domain.now c.send_copy.new.domain subscriber c.in-Ok.ensures.consistent
    (publisher_id c.args.publisher.now) (c.args.reading ∷ []) shares wait apart
    (c.in-Ok.ensures.serves subscriber connected (c.in-Ok.ensures.delivered c.requires.publisher.never_waits))
    c.in-Ok.ensures.others
