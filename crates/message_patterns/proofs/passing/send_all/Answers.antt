use Rattle.std.proofs.Common.{◌+◌, ◌-◌, ◌<◌, ◌≤◌, ◌++◌, ℕ, length, take, arith, rules, sym}
use Rattle.std.proofs.lemmas.Bool.{true≢false}
use Rattle.iox2_pubsub.specs.Handles.{publisher_id}
use Rattle.message_patterns.proofs.Moved.{can-send-fewer}
use Rattle.message_patterns.proofs.Waits.{takes-all, takes-fewer, takes-taken}
use Rattle.message_patterns.proofs.passing.send_all.Goals as goal

pub loop-value-preserved : goal.loop-value-preserved
loop-value-preserved c = record {
  stays = search rules;
  up_to_date = search rules;
  sent = λ subscriber earlier more takes.
      let publisher = publisher_id c.args.publisher.now in
      let i = c.loop-value.value-index in
      let was = c.loop-value.invariant.sent subscriber earlier (more + 1)
      (takes-fewer c.args.domain.now publisher subscriber earlier (i + 1 + more) (i + (more + 1))
      (omega arith) takes) in
      let low : i < length c.args.values.now = omega arith in
      takes-taken c.send_one.new.domain publisher subscriber earlier c.args.values.now i more low
      (c.in_ok-send_one.ensures.sent subscriber (earlier ++ take i c.args.values.now) more was);
  granted = λ n can. (c.in_ok-send_one.ensures.granted n (c.loop-value.invariant.granted (n + 1)
      (can-send-fewer c.args.domain.now c.args.publisher.now (c.loop-value.value-index + 1 + n)
      (c.loop-value.value-index + (n + 1)) (omega arith) can))).1;
}

pub returns-clause-sent : goal.returns-clause-sent
returns-clause-sent c = λ subscriber earlier more takes.
    let publisher = publisher_id c.args.publisher.now in
    let i = c.loop-value.value-index in
    let within : i ≤ length c.args.values.now = omega arith in
    let all : length c.args.values.now ≤ i = omega arith in
    takes-all c.loop-value.domain publisher subscriber earlier c.args.values.now i more all
    (c.loop-value.invariant.sent subscriber earlier more
    (takes-fewer c.args.domain.now publisher subscriber earlier (length c.args.values.now + more) (i + more)
    (omega arith) takes))

pub returns-in_err-send_one-clause-granted : goal.returns-in_err-send_one-clause-granted
returns-in_err-send_one-clause-granted c = λ n can.
    let i = c.loop-value.value-index in
    let low : i < length c.args.values.now = omega arith in
    let left : ℕ = length c.args.values.now - i - 1 in
    let enough : i + (left + 1) ≤ length c.args.values.now + n = omega arith in
    absurd
    (true≢false
    (sym (c.in_err-send_one.ensures.granted left
    (c.loop-value.invariant.granted (left + 1) (can-send-fewer c.args.domain.now c.args.publisher.now
    (length c.args.values.now + n) (i + (left + 1)) enough can))).0))
