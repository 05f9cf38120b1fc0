use Rattle.iox2_request_response.proofs.Calling.{client_but_active, client_stays, service_then}
use Rattle.iox2_request_response.proofs.Ending.{active_ends}
use Rattle.iox2_request_response_tests.proofs.letting_go.let_go.Goals as goal

pub close-requires-2-clause-client : goal.close-requires-2-clause-client
close-requires-2-clause-client g c =
    client_stays _ _ (service_then _ _ _ c.serve.ensures.stays c.next_response.ensures.stays) _
    (client_but_active _ _ c.active_of-active.result c.finish.ensures.stays _ c.ask_again-next.ensures.client)

pub returns-clause-stays : goal.returns-clause-stays
returns-clause-stays g c =
    let before = service_then _ _ _ c.active_of-active.ensures.stays
    (service_then _ _ _ c.hint_and_respond.ensures.stays
    (service_then _ _ _ c.close.ensures.stays c.ask_again-next.ensures.stays)) in
    let ended =
    active_ends _ _ _ c.active_of-active.result before c.active_of-active.ensures.is_new c.finish.ensures.stays in
    service_then _ _ _ ended (service_then _ _ _ c.serve.ensures.stays
    (service_then _ _ _ c.next_response.ensures.stays c.close-2.ensures.stays))
