use Rattle.iox2_request_response.specs.Handles.{IsLiveClient, IsLiveServer}
use Rattle.iox2_request_response.specs.Service.{IsService}
use Rattle.iox2_request_response_tests.proofs.letting_go.a_request_that_is_let_go_is_seen_and_its_place_is_used_again.Given as goal

abbrev pub invariant-loop-round : goal.invariant-loop-round
invariant-loop-round g l = IsService l.service × IsLiveClient l.service l.client × IsLiveServer l.service l.server
