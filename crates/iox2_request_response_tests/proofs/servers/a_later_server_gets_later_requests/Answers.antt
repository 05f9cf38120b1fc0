use Rattle.iox2_request_response.proofs.Calling.{client_stays}
use Rattle.iox2_request_response_tests.proofs.servers.a_later_server_gets_later_requests.Goals as goal

pub ask_later-requires-clause-client : goal.ask_later-requires-clause-client
ask_later-requires-clause-client g c = client_stays _ _ c.server_of-server.ensures.stays _ c.sent-early.ensures.client
