use Rattle.std.proofs.Common.{◌≡◌, [], ◌∷◌, arith}
use Rattle.message_patterns.proofs.spreading.spread.Goals as goal

pub returns-in-Ok-Delivered-clause-served : goal.returns-in-Ok-Delivered-clause-served
returns-in-Ok-Delivered-clause-served g c =
    let sent = rw c.in-Ok-Delivered.field-0-is at c.in-Ok-Delivered.ensures in
    (sent.serves c.args.first.now c.requires.first tt, sent.serves c.args.second.now c.requires.second tt)

pub returns-in-Ok-Blocked-clause-waits : goal.returns-in-Ok-Blocked-clause-waits
returns-in-Ok-Blocked-clause-waits g c =
    let sent = rw c.in-Ok-Blocked.field-0-is at c.in-Ok-Blocked.ensures in
    (sent.blocked.0, sent.pending c.args.first.now c.requires.first, sent.pending c.args.second.now c.requires.second)

pub returns-in-Ok-Blocked-clause-roomy : goal.returns-in-Ok-Blocked-clause-roomy
returns-in-Ok-Blocked-clause-roomy g c = λ first second.
    let sent = rw c.in-Ok-Blocked.field-0-is at c.in-Ok-Blocked.ensures in
    (sent.roomy_at_all (c.args.first.now ∷ c.args.second.now ∷ []) (record {
      different = ((c.requires.apart, tt), (tt, tt));
      full = let two : c.args.domain.now.config.max_subscribers ≡ 2 = c.requires.two in omega (arith, two);
      each = (first, (second, tt));
    })).0
