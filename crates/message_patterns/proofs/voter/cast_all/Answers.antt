use Rattle.std.proofs.Common.{[], ◌∷◌}
use Rattle.iox2_pubsub.specs.Handles.{publisher_id}
use Rattle.iox2_pubsub.proofs.ForCallers.{no_shares}
use Rattle.message_patterns.specs.Votes.{shares_of, vote_of}
use Rattle.message_patterns.proofs.voter.cast_all.Goals as goal

pub returns-clause-cast : goal.returns-clause-cast
returns-clause-cast c = λ q drained with-first with-second with-third.
    let apart = c.requires.apart in
    let first = vote_of (publisher_id c.args.first.now) c.args.readings.0 in
    let second = vote_of (publisher_id c.args.second.now) c.args.readings.1 in
    let one = c.in_ok-send_beside.ensures.begins q [] (no_shares c.args.domain.now q drained) tt with-first in
    let two = c.in_ok-send_beside-2.ensures.begins q (shares_of (first ∷ [])) one apart.1.0
    (c.in_ok-send_beside.ensures.up_to_date.connections _ q with-second) in
    c.send_beside-3.ensures.begins q (shares_of (second ∷ first ∷ [])) two apart.0
    (c.in_ok-send_beside-2.ensures.up_to_date.connections _ q
    (c.in_ok-send_beside.ensures.up_to_date.connections _ q with-third))
