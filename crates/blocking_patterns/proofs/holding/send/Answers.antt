use Rattle.std.proofs.Common.{[], ◌∷◌}
use Rattle.iox2_pubsub.specs.Handles.{publisher_id}
use Rattle.iox2_pubsub.proofs.SinceThen.{served_waits}
use Rattle.blocking_patterns.proofs.holding.send.Goals as goal

pub returns-in-Ok-Delivered-clause-waits : goal.returns-in-Ok-Delivered-clause-waits
returns-in-Ok-Delivered-clause-waits c = λ subscriber joined.
    let sent = rw c.in-Ok-Delivered.field-0-is at c.in-Ok-Delivered.ensures in
    served_waits c.args.domain.now c.send_copy.new.domain (publisher_id c.args.publisher.now) subscriber
    (c.args.number ∷ []) (sent.serves subscriber joined tt)
