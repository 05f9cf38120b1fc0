use Rattle.std.proofs.Common.{◌+◌, ◌*◌}
use Rattle.iox2_request_response_tests.proofs.limits.+holding.Given as goal

-- each of a request's four steps, for the requests that are left
abbrev pub decreases-ask_and_hold : goal.decreases-ask_and_hold
decreases-ask_and_hold g l = 4 * l.requests

abbrev pub decreases-serve_and_hold : goal.decreases-serve_and_hold
decreases-serve_and_hold g l = 4 * l.requests + 3

abbrev pub decreases-hold_one : goal.decreases-hold_one
decreases-hold_one g l = 4 * l.requests + 2

abbrev pub decreases-hold_both : goal.decreases-hold_both
decreases-hold_both g l = 4 * l.requests + 1
