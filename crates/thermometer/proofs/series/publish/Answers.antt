use Rattle.iox2_pubsub.specs.Handles.{as_publisher}
use Rattle.iox2_pubsub.specs.Live.{publisher_port}
use Rattle.iox2_pubsub.proofs.ForCallers.{stays_on, stays_twice}
use Rattle.thermometer.proofs.series.publish.Goals as goal

pub returns : goal.returns
returns g c =
    let sent = stays_twice c.args.domain.now c.create.new.domain c.send_both-outcome.new.domain
    c.in_ok-publisher.ensures.leaves.stays c.send_both-outcome.ensures in
    stays_on c.args.domain.now c.send_both-outcome.new.domain c.close.new.domain sent
    (publisher_port (as_publisher c.in_ok-publisher.publisher)) c.in_ok-publisher.ensures.made.is_new
    c.close.ensures.stays
