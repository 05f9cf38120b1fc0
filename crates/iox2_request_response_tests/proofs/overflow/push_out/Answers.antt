use Rattle.iox2_request_response.proofs.Calling.{client_stays, service_then}
use Rattle.iox2_request_response_tests.proofs.overflow.push_out.Goals as goal

pub close-requires-clause-client : goal.close-requires-clause-client
close-requires-clause-client g c = client_stays _ _ c.next_three-asked.ensures.stays _ c.sent-third.ensures.client

pub returns-clause-stays : goal.returns-clause-stays
returns-clause-stays g c = service_then _ _ _ c.sent-first.ensures.stays
    (service_then _ _ _ c.send_in_vain.ensures.stays
    (service_then _ _ _ c.sent-third.ensures.stays
    (service_then _ _ _ c.next_three-asked.ensures.stays
    (service_then _ _ _ c.close.ensures.stays c.close-2.ensures.stays))))
