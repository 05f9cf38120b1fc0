use Rattle.iox2_pubsub.specs.Handles.{publisher_id}
use Rattle.message_patterns.proofs.pairing.read_beside.Goals as goal

pub returns-clause-granted : goal.returns-clause-granted
returns-clause-granted c = c.read_one.ensures.granted_of (publisher_id c.args.publisher.now) c.requires.up_to_date
    c.requires.borrows c.requires.waits
