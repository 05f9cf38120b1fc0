use Rattle.iox2_request_response.proofs.Calling.{client_stays}
use Rattle.iox2_request_response_tests.proofs.letting_go.ask_again.Goals as goal

pub returns-clause-client : goal.returns-clause-client
returns-clause-client g c = client_stays _ _ c.respond-2.ensures.stays _ c.sent-next.ensures.client
