use Rattle.std.proofs.Common.{refl, sym}
use Rattle.std.proofs.lemmas.Bool.{true≢false}
use Rattle.iox2_pubsub.specs.Handles.{publisher_id}
use Rattle.iox2_pubsub.specs.Payloads.{singles}
use Rattle.message_patterns.proofs.Waits.{room-for-one, takes-next}
use Rattle.message_patterns.proofs.passing.send_one.Goals as goal

pub returns-in-Ok-clause-sent : goal.returns-in-Ok-clause-sent
returns-in-Ok-clause-sent c = λ subscriber earlier more takes.
    let publisher = publisher_id c.args.publisher.now in
    let room = room-for-one c.args.domain.now publisher subscriber earlier more takes in
    let joined = c.in-Ok.ensures.joins subscriber (singles earlier) takes.wait takes.buffer room takes.connected
    (c.in-Ok.ensures.delivered c.requires.publisher.never_waits) in
    takes-next c.args.domain.now c.send_copy.new.domain publisher subscriber earlier c.args.value more takes joined
    c.in-Ok.ensures.up_to_date c.in-Ok.ensures.stays.buffers

pub returns-in-Ok-clause-granted : goal.returns-in-Ok-clause-granted
returns-in-Ok-clause-granted c = λ n can. (
  refl,
  record {
    loans = c.in-Ok.ensures.given_back (c.in-Ok.ensures.delivered c.requires.publisher.never_waits) 0 can.loans;
    numbers = c.in-Ok.ensures.loans_left.numbers n can.numbers;
  },
)

pub returns-in-Err-clause-granted : goal.returns-in-Err-clause-granted
returns-in-Err-clause-granted c = λ n can. absurd
    (true≢false (sym (c.in-Err.ensures.granted 0 n can.loans can.numbers c.requires.publisher.never_waits.never_fails)))
