use Rattle.iox2_request_response.proofs.Calling.{client_stays, service_then}
use Rattle.iox2_request_response_tests.proofs.servers.ask_later.Goals as goal

pub close-requires-clause-client : goal.close-requires-clause-client
close-requires-clause-client g c =
    client_stays _ _ (service_then _ _ _ c.serve.ensures.stays
    (service_then _ _ _ c.next_response.ensures.stays c.next_response-2.ensures.stays)) _ c.sent-late.ensures.client

pub returns-clause-stays : goal.returns-clause-stays
returns-clause-stays g c = service_then _ _ _ c.next_request.ensures.stays
    (service_then _ _ _ c.sent-late.ensures.stays
    (service_then _ _ _ c.serve.ensures.stays
    (service_then _ _ _ c.next_response.ensures.stays
    (service_then _ _ _ c.next_response-2.ensures.stays
    (service_then _ _ _ c.close.ensures.stays c.close-2.ensures.stays)))))
