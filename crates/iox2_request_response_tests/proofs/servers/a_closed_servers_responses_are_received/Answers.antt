use Rattle.iox2_request_response.proofs.Calling.{client_stays, service_then}
use Rattle.iox2_request_response_tests.proofs.servers.a_closed_servers_responses_are_received.Goals as goal

pub close-requires-clause-client : goal.close-requires-clause-client
close-requires-clause-client g c =
    client_stays _ _ (service_then _ _ _ c.next_response.ensures.stays c.next_response-2.ensures.stays) _
    c.serve_and_leave-pending.ensures.client
