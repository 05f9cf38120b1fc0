use Rattle.std.proofs.Common.{ℕ, ap, subst, ◌+◌, ◌++◌, ◌∙◌, [], ◌∷◌}
use Rattle.iox2_pubsub.specs.Domains.{Key}
use Rattle.iox2_pubsub.specs.Handles.{written_lender}
use Rattle.iox2_pubsub.specs.Payloads.{singles}
use Rattle.message_patterns.specs.Values.{TakesMore}
use Rattle.message_patterns.proofs.Waits.{room-for-one, takes-next, takes-stay}
use Rattle.message_patterns.proofs.passing.send_loan.Goals as goal

pub returns-clause-sent : goal.returns-clause-sent
returns-clause-sent c = λ publisher reader earlier more lent.
    let old = c.args.domain.now in
    let mid = c.write_payload.new.domain in
    let new = c.send.new.domain in
    let wrote = c.write_payload.ensures.becomes in
    let lender = written_lender c.write_payload.result in
    subst (λ (p : ℕ). TakesMore old p reader earlier (more + 1)
    → TakesMore new p reader (earlier ++ c.args.value ∷ []) more) (ap (λ (k : Key). k.port) wrote.key ∙ lent)
    (λ takes.
    let before = takes-stay old mid wrote.leaves.waits wrote.leaves.up_to_date wrote.leaves.stays.buffers lender reader
    earlier (more + 1) takes in
    let delivered = c.in-Ok.ensures.spends.delivered (wrote.live c.requires.loan.never_waits).never_waits in
    let joined = c.in-Ok.ensures.joins reader (c.args.value ∷ []) (singles earlier) before.wait before.buffer
    (room-for-one mid lender reader earlier more before) before.connected c.write_payload.ensures.reads delivered in
    takes-next mid new lender reader earlier c.args.value more before joined c.in-Ok.ensures.spends.up_to_date
    c.in-Ok.ensures.spends.stays.buffers)
