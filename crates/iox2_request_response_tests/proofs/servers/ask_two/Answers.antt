use Rattle.iox2_request_response.proofs.Calling.{client_but_server, client_stays, server_ends, service_then}
use Rattle.iox2_request_response_tests.proofs.servers.ask_two.Goals as goal

pub close-requires-clause-client : goal.close-requires-clause-client
close-requires-clause-client g c = client_stays _ _
    (service_then _ _ _ c.second_serves.ensures.stays c.read_both.ensures.stays) _ c.sent-pending.ensures.client

pub returns-clause-client : goal.returns-clause-client
returns-clause-client g c =
    client_but_server _ _ c.server_of-two.result c.close-2.ensures.stays _ c.close.ensures.client

pub returns-clause-stays : goal.returns-clause-stays
returns-clause-stays g c = server_ends _ _ _ c.server_of-two.result
    (service_then _ _ _ c.server_of-two.ensures.stays
    (service_then _ _ _ c.sent-pending.ensures.stays
    (service_then _ _ _ c.second_serves.ensures.stays
    (service_then _ _ _ c.read_both.ensures.stays c.close.ensures.stays)))) c.server_of-two.ensures.is_new
    c.close-2.ensures.stays
