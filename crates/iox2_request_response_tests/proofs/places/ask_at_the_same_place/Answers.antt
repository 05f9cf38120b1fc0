use Rattle.iox2_request_response.proofs.Calling.{client_but_active, client_stays, service_then}
use Rattle.iox2_request_response_tests.proofs.places.ask_at_the_same_place.Goals as goal

pub close-requires-clause-client : goal.close-requires-clause-client
close-requires-clause-client g c =
    client_stays _ _ (service_then _ _ _ c.serve.ensures.stays c.next_response-2.ensures.stays) _
    (client_but_active _ _ c.args.active c.finish.ensures.stays _
    (client_stays _ _
    (service_then _ _ _ c.respond.ensures.stays c.next_response.ensures.stays) _ c.sent-new.ensures.client))
