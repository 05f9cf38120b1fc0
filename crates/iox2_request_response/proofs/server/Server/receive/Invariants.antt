use Rattle.iox2_pubsub.specs.Live.{waiting}
use Rattle.iox2_request_response.specs.Service.{StaysService}
use Rattle.iox2_request_response.proofs.server.Server.receive.Given as goal

abbrev pub invariant-loop-sample : goal.invariant-loop-sample
invariant-loop-sample g l = StaysService l.fn.service l.service

abbrev pub decreases-loop-sample : goal.decreases-loop-sample
decreases-loop-sample g l = waiting (l.service).requests (l.self).requests
