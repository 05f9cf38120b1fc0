use Rattle.iox2_request_response.proofs.Calling.{client_stays, service_then}
use Rattle.iox2_request_response_tests.proofs.waiting.ask.Goals as goal

pub close-requires-clause-client : goal.close-requires-clause-client
close-requires-clause-client g c =
    client_stays _ _ (service_then _ _ _ c.respond_to_what_waits.ensures.stays c.receive_what_waits.ensures.stays) _
    c.sent-pending.ensures.client

pub returns-clause-stays : goal.returns-clause-stays
returns-clause-stays g c = service_then _ _ _ c.has_requests.ensures.stays
    (service_then _ _ _ c.sent-pending.ensures.stays
    (service_then _ _ _ c.respond_to_what_waits.ensures.stays
    (service_then _ _ _ c.receive_what_waits.ensures.stays c.close.ensures.stays)))
