use Rattle.iox2_request_response.proofs.Calling.{client_but_response, client_stays, service_then}
use Rattle.iox2_request_response.proofs.Ending.{response_ends}
use Rattle.iox2_request_response_tests.proofs.leftovers.pass_over.Goals as goal

pub close-requires-clause-client : goal.close-requires-clause-client
close-requires-clause-client g c = client_stays _ _ c.receive_each.ensures.stays _
    (client_but_response _ _ c.leave_one-held.result c.release.ensures.stays _
    (client_stays _ _ c.serve.ensures.stays _ c.sent-pending.ensures.client))

pub returns-clause-stays : goal.returns-clause-stays
returns-clause-stays g c =
    let before = service_then _ _ _ c.leave_one-held.ensures.stays
    (service_then _ _ _ c.sent-pending.ensures.stays c.serve.ensures.stays) in
    let ended =
    response_ends _ _ _ c.leave_one-held.result before c.leave_one-held.ensures.is_new c.release.ensures.stays in
    service_then _ _ _ ended (service_then _ _ _ c.receive_each.ensures.stays c.close.ensures.stays)
