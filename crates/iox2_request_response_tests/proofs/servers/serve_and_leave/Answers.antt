use Rattle.iox2_request_response.proofs.Calling.{client_but_active, client_but_server, client_stays, server_ends}
use Rattle.iox2_request_response.proofs.Calling.{service_then}
use Rattle.iox2_request_response.proofs.Ending.{active_ends, active_is_new}
use Rattle.iox2_request_response_tests.proofs.servers.serve_and_leave.Goals as goal

pub returns-clause-client : goal.returns-clause-client
returns-clause-client g c = client_but_active _ _ c.active_of-active.result c.abandon.ensures.stays _
    (client_but_server _ _ c.server_of-server.result c.close.ensures.stays _
    (client_stays _ _
    (service_then _ _ _ c.active_of-active.ensures.stays c.respond.ensures.stays) _ c.sent-pending.ensures.client))

pub returns-clause-stays : goal.returns-clause-stays
returns-clause-stays g c =
    let early = service_then _ _ _ c.server_of-server.ensures.stays c.sent-pending.ensures.stays in
    let before =
    service_then _ _ _ early (service_then _ _ _ c.active_of-active.ensures.stays c.respond.ensures.stays) in
    let closed =
    server_ends _ _ _ c.server_of-server.result before c.server_of-server.ensures.is_new c.close.ensures.stays in
    active_ends _ _ _ c.active_of-active.result closed
    (active_is_new _ _ c.active_of-active.result early c.active_of-active.ensures.is_new) c.abandon.ensures.stays
