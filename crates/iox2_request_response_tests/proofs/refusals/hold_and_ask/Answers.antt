use Rattle.iox2_request_response.proofs.Calling.{active_stays, client_but_active, client_stays, pending_stays}
use Rattle.iox2_request_response.proofs.Calling.{server_stays, service_stays, service_then}
use Rattle.iox2_request_response.proofs.Ending.{active_ends, active_is_new, pending_but_active}
use Rattle.iox2_request_response_tests.proofs.refusals.hold_and_ask.Goals as goal

pub close-requires-clause-client : goal.close-requires-clause-client
close-requires-clause-client g c = client_stays _ _ c.active_of-held.ensures.stays _ c.sent-first.ensures.client

pub request_is_refused-requires : goal.request_is_refused-requires
request_is_refused-requires g c = record {
  server =
      server_stays _ _
      (service_then _ _ _ (service_then _ _ _ c.sent-first.ensures.stays c.active_of-held.ensures.stays)
      (service_then _ _ _ c.close.ensures.stays c.sent-second.ensures.stays)) _ c.requires.server;
}

pub finish-requires : goal.finish-requires
finish-requires g c =
    let early = service_then _ _ _ c.sent-first.ensures.stays c.active_of-held.ensures.stays in
    let asked = service_then _ _ _ c.close.ensures.stays
    (service_then _ _ _ c.sent-second.ensures.stays c.request_is_refused.ensures.stays) in record {
      live = active_stays _ _ asked c.active_of-held.result c.active_of-held.ensures.active;
      server = server_stays _ _ (service_then _ _ _ early asked) _ c.requires.server;
    }

pub next_request-requires : goal.next_request-requires
next_request-requires g c =
    let early = service_then _ _ _ c.sent-first.ensures.stays c.active_of-held.ensures.stays in
    let asked = service_then _ _ _ c.close.ensures.stays
    (service_then _ _ _ c.sent-second.ensures.stays c.request_is_refused.ensures.stays) in
    let is_new = active_is_new _ _ c.active_of-held.result c.sent-first.ensures.stays c.active_of-held.ensures.is_new in
    let ended =
    active_ends _ _ _ c.active_of-held.result (service_then _ _ _ early asked) is_new c.finish.ensures.stays in
    record {
      service = service_stays _ _ ended c.requires.service;
      server = server_stays _ _ ended _ c.requires.server;
    }

pub close-requires-2 : goal.close-requires-2
close-requires-2 g c = record {
  live = pending_stays _ _ c.next_request.ensures.stays c.sent-second.result
      (pending_but_active _ _ c.active_of-held.result c.finish.ensures.stays c.sent-second.result
      (pending_stays _ _ c.request_is_refused.ensures.stays c.sent-second.result c.sent-second.ensures.pending));
  client = client_stays _ _ c.next_request.ensures.stays _
      (client_but_active _ _ c.active_of-held.result c.finish.ensures.stays _
      (client_stays _ _ c.request_is_refused.ensures.stays _ c.sent-second.ensures.client));
  its = c.sent-second.ensures.its;
}

pub returns-clause-stays : goal.returns-clause-stays
returns-clause-stays g c =
    let early = service_then _ _ _ c.sent-first.ensures.stays c.active_of-held.ensures.stays in
    let asked = service_then _ _ _ c.close.ensures.stays
    (service_then _ _ _ c.sent-second.ensures.stays c.request_is_refused.ensures.stays) in
    let is_new = active_is_new _ _ c.active_of-held.result c.sent-first.ensures.stays c.active_of-held.ensures.is_new in
    let ended =
    active_ends _ _ _ c.active_of-held.result (service_then _ _ _ early asked) is_new c.finish.ensures.stays in
    service_then _ _ _ ended (service_then _ _ _ c.next_request.ensures.stays c.close-2.ensures.stays)
