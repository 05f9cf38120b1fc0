use Rattle.std.proofs.Common.{◌≡◌, ◌≤◌, length}
use Rattle.std.specs.Prelude.{vec_capacity}
use Rattle.iox2_request_response.proofs.Closing.{IsFilling}
use Rattle.iox2_request_response.proofs.service.RequestResponse.with_slots.Given as goal

abbrev pub invariant-loop : goal.invariant-loop
invariant-loop g l =
    IsFilling (l.fn.client).requests l.fn.self l.client l.self × (length ((l.client).slots).items ≡ l.counter)
    × ((l.fn.self).max_active_requests ≤ vec_capacity (l.client).slots)
