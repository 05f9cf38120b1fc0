use Rattle.iox2_request_response.proofs.Calling.{service_then}
use Rattle.iox2_request_response.proofs.Ending.{active_ends}
use Rattle.iox2_request_response_tests.proofs.streams.serve_third.Goals as goal

pub returns : goal.returns
returns g c =
    let asked = service_then _ _ _ c.active_of-for_b.ensures.stays c.next_request.ensures.stays in
    let before =
    service_then _ _ _ asked (service_then _ _ _ c.respond_to_all.ensures.stays c.read_all.ensures.stays) in
    record {
      stays = active_ends _ _ _ c.active_of-for_b.result before c.active_of-for_b.ensures.is_new
          c.finish.ensures.stays;
    }
