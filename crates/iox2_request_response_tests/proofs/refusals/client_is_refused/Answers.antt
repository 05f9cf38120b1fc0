use Rattle.iox2_request_response.proofs.Calling.{client_ends}
use Rattle.iox2_request_response_tests.proofs.refusals.client_is_refused.Goals as goal

pub returns-in-Ok : goal.returns-in-Ok
returns-in-Ok g c = record {
  stays = client_ends _ _ _ c.in-Ok.client c.create_client.ensures.stays c.in-Ok.ensures.is_new c.close.ensures.stays;
}
