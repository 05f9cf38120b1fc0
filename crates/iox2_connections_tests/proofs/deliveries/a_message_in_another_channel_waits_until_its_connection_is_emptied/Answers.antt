use Rattle.iox2_connections_tests.proofs.FirstConnections.{own-linked}
use Rattle.iox2_connections_tests.proofs.deliveries.a_message_in_another_channel_waits_until_its_connection_is_emptied.Goals as goal

pub drop_all-requires-clause-own : goal.drop_all-requires-clause-own
drop_all-requires-clause-own g c =
    own-linked c.in_ok-outcome.field-0.connections c.in_ok-outcome.field-0.key 1 c.in_ok-outcome.ensures.linked
