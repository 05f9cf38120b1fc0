use Rattle.std.proofs.Common.{refl, sym, ◌+◌}
use Rattle.std.proofs.lemmas.Bool.{true≢false}
use Rattle.iox2_pubsub.specs.Handles.{publisher_id}
use Rattle.message_patterns.proofs.Waits.{takes-stay}
use Rattle.message_patterns.proofs.relaying.relay_one.Goals as goal

pub returns-in-Err-clause-granted : goal.returns-in-Err-clause-granted
returns-in-Err-clause-granted c =
    λ updated borrows left can. absurd (true≢false (sym (c.in-Err.ensures.granted 0 left can.loans can.numbers)))

pub returns-in-Ok-Some-clause-sent : goal.returns-in-Ok-Some-clause-sent
returns-in-Ok-Some-clause-sent c = λ reader earlier more takes.
    let leaves = c.in-Ok.ensures.leaves in
    let publisher = publisher_id c.args.publisher.now in
    c.send_loan.ensures.sent publisher reader earlier more c.in-Ok.ensures.loan.lent.publisher
    (takes-stay c.args.to.now c.loan_uninit.new.domain leaves.waits leaves.up_to_date leaves.stays.buffers publisher
    reader earlier (more + 1) takes)

pub returns-in-Ok-Some-clause-granted : goal.returns-in-Ok-Some-clause-granted
returns-in-Ok-Some-clause-granted c = λ updated borrows left can. (
  refl,
  record {
    loans = c.send_loan.ensures.given_back c.args.publisher.now 0 (sym c.in-Ok.ensures.loan.lent.publisher)
        (c.in-Ok.ensures.leaves.loans_left.loans 0 can.loans);
    numbers = c.send_loan.ensures.loans.numbers left (c.in-Ok.ensures.leaves.loans_left.numbers left can.numbers);
  },
)

pub returns-in-Ok-None-clause-granted : goal.returns-in-Ok-None-clause-granted
returns-in-Ok-None-clause-granted c = λ updated borrows left can. (
  refl,
  record {
    loans = c.discard.ensures.given_back c.args.publisher.now 0 (sym c.in-Ok.ensures.loan.lent.publisher)
        (c.in-Ok.ensures.leaves.loans_left.loans 0 can.loans);
    numbers =
        c.discard.ensures.leaves.loans_left.numbers left (c.in-Ok.ensures.leaves.loans_left.numbers left can.numbers);
  },
)

pub returns-in-Err-read_one-clause-granted : goal.returns-in-Err-read_one-clause-granted
returns-in-Err-read_one-clause-granted c =
    λ updated borrows left can. absurd (true≢false (sym (c.in-Err-read_one.ensures.granted updated borrows)))
