use Rattle.iox2_pubsub.specs.Handles.{publisher_id}
use Rattle.three_patterns.proofs.queueing.expect_idle.Goals as goal

pub returns-clause-drained : goal.returns-clause-drained
returns-clause-drained c = c.in_ok-is_idle.ensures.none c.if-not-branch.false (publisher_id c.args.publisher.now)
