use Rattle.std.proofs.Common.{length}
use Rattle.iox2_request_response.proofs.Closing.{IsClosing}
use Rattle.iox2_request_response.proofs.client.Client.close.Given as goal

abbrev pub invariant-loop-slot : goal.invariant-loop-slot
invariant-loop-slot g l = IsClosing ((l.fn.self).slots).items l.fn.service (l.slots).items l.service

abbrev pub decreases-loop-slot : goal.decreases-loop-slot
decreases-loop-slot g l = length (l.slots).items
