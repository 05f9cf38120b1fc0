use Rattle.std.proofs.Common.{sym, ap, ◌∙◌, length}
use Rattle.message_patterns.specs.Queues.{QueueView}
use Rattle.message_patterns.proofs.QueueItems.{queue-count}
use Rattle.message_patterns.proofs.queues.Queue.len.Goals as goal

pub returns-clause-count : goal.returns-clause-count
returns-clause-count c =
    let is = c.self.invariant in
    sym (queue-count c.self.inside.domain c.self.inside.publisher c.self.inside.subscriber c.self.inside.count is)
    ∙ ap (λ (v : QueueView). length v.items) c.self.view_is
