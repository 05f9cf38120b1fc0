use Rattle.iox2_request_response.proofs.Calling.{client_ends, client_is_new, client_new_still, server_but_client}
use Rattle.iox2_request_response.proofs.Calling.{server_ends, server_stays, service_then}
use Rattle.asking.proofs.calls.serve_once.Goals as goal

pub close-requires-3 : goal.close-requires-3
close-requires-3 g c = record {
  live = server_but_client c.ask-outcome.new.service c.close-2.new.service c.ask-outcome.new.client
      c.close-2.ensures.stays c.in_ok-server.server
      (server_stays c.create_server.new.self c.ask-outcome.new.service
      (service_then c.create_server.new.self c.create_client.new.self c.ask-outcome.new.service
      c.create_client.ensures.stays c.ask-outcome.ensures.stays) c.in_ok-server.server c.in_ok-server.ensures.server);
}

pub returns : goal.returns
returns g c =
    let start = c.args.service.now in
    let made = c.create_server.new.self in
    let both = c.create_client.new.self in
    let asked = c.ask-outcome.new.service in
    let closed = c.close-2.new.service in
    let before = service_then start both asked
    (service_then start made both c.create_server.ensures.stays c.create_client.ensures.stays)
    c.ask-outcome.ensures.stays in
    let is_new = client_new_still start c.in-Ok.client c.ask-outcome.new.client
    (client_is_new start made c.in-Ok.client c.create_server.ensures.stays c.in-Ok.ensures.is_new)
    c.ask-outcome.ensures.ports in
    record {
      stays = server_ends start closed c.close-3.new.service c.in_ok-server.server
          (client_ends start asked closed c.ask-outcome.new.client before is_new c.close-2.ensures.stays)
          c.in_ok-server.ensures.is_new c.close-3.ensures.stays;
    }
