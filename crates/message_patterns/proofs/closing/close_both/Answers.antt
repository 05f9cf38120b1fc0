use Rattle.std.proofs.Common.{[], ◌∷◌}
use Rattle.iox2_pubsub.specs.Handles.{subscriber_id}
use Rattle.iox2_pubsub.proofs.PortLists.{none_closed, subscriber_closed_too}
use Rattle.message_patterns.proofs.closing.close_both.Goals as goal

pub returns : goal.returns
returns c =
    let first = subscriber_id c.args.first in
    let second = subscriber_id c.args.second in
    let start = c.args.domain.now in
    record {
      stays = subscriber_closed_too first (second ∷ []) start c.close.new.domain c.close-2.new.domain
          (subscriber_closed_too second [] start start c.close.new.domain (none_closed start)
          c.close.ensures.leaves.stays) c.close-2.ensures.leaves.stays;
    }
