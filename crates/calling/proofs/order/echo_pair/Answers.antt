use Rattle.std.proofs.Common.{ap, arith, length, [], ◌∷◌}
use Rattle.calling.proofs.order.echo_pair.Goals as goal

pub receive_one-requires-clause-some : goal.receive_one-requires-clause-some
receive_one-requires-clause-some g c = let two = ap length c.in_ok-send_pair.ensures.both.all in omega (arith, two)

pub receive_one-requires-2-clause-some : goal.receive_one-requires-2-clause-some
receive_one-requires-2-clause-some g c =
    let left = c.in_ok-first.ensures.first c.args.publisher.now.id c.args.earlier
    ((c.args.later ∷ []) ∷ []) c.in_ok-send_pair.ensures.both in
    let one = ap length left.1.all in
    omega (arith, one)

pub returns-clause-earlier : goal.returns-clause-earlier
returns-clause-earlier g c =
    (c.in_ok-first.ensures.first c.args.publisher.now.id c.args.earlier
    ((c.args.later ∷ []) ∷ []) c.in_ok-send_pair.ensures.both).0

pub returns-clause-later : goal.returns-clause-later
returns-clause-later g c =
    let left = c.in_ok-first.ensures.first c.args.publisher.now.id c.args.earlier
    ((c.args.later ∷ []) ∷ []) c.in_ok-send_pair.ensures.both in
    (c.in_ok-second.ensures.first c.args.publisher.now.id c.args.later [] left.1).0

pub returns-clause-drained : goal.returns-clause-drained
returns-clause-drained g c =
    let left = c.in_ok-first.ensures.first c.args.publisher.now.id c.args.earlier
    ((c.args.later ∷ []) ∷ []) c.in_ok-send_pair.ensures.both in
    ap length (c.in_ok-second.ensures.first c.args.publisher.now.id c.args.later [] left.1).1.all
