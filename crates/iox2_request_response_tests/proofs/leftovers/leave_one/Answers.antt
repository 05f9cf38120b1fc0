use Rattle.iox2_request_response.proofs.Calling.{client_stays, response_stays, service_then}
use Rattle.iox2_request_response.proofs.Ending.{response_is_new}
use Rattle.iox2_request_response_tests.proofs.leftovers.leave_one.Goals as goal

pub close-requires-clause-client : goal.close-requires-clause-client
close-requires-clause-client g c =
    client_stays _ _ (service_then _ _ _ c.serve.ensures.stays
    (service_then _ _ _ c.response_of-held.ensures.stays c.response_is_refused.ensures.stays)) _
    c.sent-pending.ensures.client

pub returns-clause-response : goal.returns-clause-response
returns-clause-response g c = response_stays _ _
    (service_then _ _ _ c.response_is_refused.ensures.stays c.close.ensures.stays) _ c.response_of-held.ensures.response

pub returns-clause-is_new : goal.returns-clause-is_new
returns-clause-is_new g c = response_is_new _ _ c.response_of-held.result
    (service_then _ _ _ c.sent-pending.ensures.stays c.serve.ensures.stays) c.response_of-held.ensures.is_new

pub returns-clause-stays : goal.returns-clause-stays
returns-clause-stays g c = service_then _ _ _ c.sent-pending.ensures.stays
    (service_then _ _ _ c.serve.ensures.stays
    (service_then _ _ _ c.response_of-held.ensures.stays
    (service_then _ _ _ c.response_is_refused.ensures.stays c.close.ensures.stays)))
