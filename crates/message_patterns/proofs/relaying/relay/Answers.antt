use Rattle.std.proofs.Common.{refl, sym, arith, rules, ◌+◌, ◌-◌, ◌<◌, ◌≤◌, ◌≡◌, ℕ}
use Rattle.std.proofs.lemmas.Bool.{true≢false}
use Rattle.iox2_pubsub.specs.Handles.{publisher_id}
use Rattle.iox2_pubsub.proofs.ForCallers.{keeps_all_stays}
use Rattle.message_patterns.proofs.Moved.{can-send-fewer, moved-more, moved-stays}
use Rattle.message_patterns.proofs.Waits.{takes-fewer}
use Rattle.message_patterns.proofs.relaying.relay.Goals as goal

pub loop-moved-preserved : goal.loop-moved-preserved
loop-moved-preserved c = record {
  stays = search rules;
  up_to_date = search rules;
  moves = λ origin reader values earlier more keeps wait takes.
      let publisher = publisher_id c.args.publisher.now in
      let moved = c.loop-moved.moved in
      let has = c.loop-moved.invariant.moves origin reader values earlier (more + 1) keeps wait
      (takes-fewer c.args.to.now publisher reader earlier (moved + 1 + more) (moved + (more + 1))
      (omega arith) takes) in
      moved-more c.loop-moved.from c.loop-moved.to c.relay_one.new.from c.relay_one.new.to origin c.args.subscriber.now
      publisher reader values earlier moved more c.in-Some._value has
      (rw c.in-Some.is at c.in_ok-_value.ensures.first) (rw c.in-Some.is at c.in_ok-_value.ensures.sent);
  borrows = λ left. c.in_ok-_value.ensures.borrows (c.loop-moved.invariant.borrows left);
  granted = λ updated borrows left can.
      let now = c.loop-moved.invariant.up_to_date.0.subscribers c.args.subscriber.now updated in
      let sends = can-send-fewer c.args.to.now c.args.publisher.now (c.loop-moved.moved + 1 + left)
      (c.loop-moved.moved + (left + 1)) (omega arith) can in
      (c.in_ok-_value.ensures.granted now (c.loop-moved.invariant.borrows borrows) left
      (c.loop-moved.invariant.granted updated borrows (left + 1) sends)).1;
}

pub returns-clause-moves : goal.returns-clause-moves
returns-clause-moves c = λ origin reader values earlier more keeps wait takes.
    let publisher = publisher_id c.args.publisher.now in
    let moved = c.loop-moved.moved in
    let within : moved ≤ c.args.n = omega arith in
    let all : c.args.n ≡ moved = omega arith in (
      moved,
      within,
      c.loop-moved.invariant.moves origin reader values earlier more keeps wait
          (takes-fewer c.args.to.now publisher reader earlier (c.args.n + more) (moved + more) (omega arith) takes),
      all,
    )

pub returns-in_default-clause-moves : goal.returns-in_default-clause-moves
returns-in_default-clause-moves c = λ origin reader values earlier more keeps wait takes.
    let publisher = publisher_id c.args.publisher.now in
    let moved = c.loop-moved.moved in
    let within : moved ≤ c.args.n = omega arith in
    let has = c.loop-moved.invariant.moves origin reader values earlier more keeps wait
    (takes-fewer c.args.to.now publisher reader earlier (c.args.n + more) (moved + more) (omega arith) takes) in
    let kept = (rw c.in_default.is at c.in_ok-_value.ensures.kept)
    (keeps_all_stays c.args.from.now c.loop-moved.from c.args.subscriber.now c.loop-moved.invariant.up_to_date.0
    keeps) in
    let unsent = rw c.in_default.is at c.in_ok-_value.ensures.unsent in (
      moved,
      within,
      moved-stays c.loop-moved.from c.loop-moved.to c.relay_one.new.from c.relay_one.new.to origin c.args.subscriber.now
          publisher reader values earlier moved more has kept unsent
          c.in_ok-_value.ensures.up_to_date.1 c.in_ok-_value.ensures.stays.1.buffers,
      refl,
    )

pub returns-in_err-_value-clause-moves : goal.returns-in_err-_value-clause-moves
returns-in_err-_value-clause-moves c = λ origin reader values earlier more keeps wait takes.
    let publisher = publisher_id c.args.publisher.now in
    let moved = c.loop-moved.moved in
    let within : moved ≤ c.args.n = omega arith in
    let has = c.loop-moved.invariant.moves origin reader values earlier more keeps wait
    (takes-fewer c.args.to.now publisher reader earlier (c.args.n + more) (moved + more) (omega arith) takes) in
    let kept = c.in_err-_value.ensures.kept
    (keeps_all_stays c.args.from.now c.loop-moved.from c.args.subscriber.now c.loop-moved.invariant.up_to_date.0
    keeps) in (
      moved,
      within,
      moved-stays c.loop-moved.from c.loop-moved.to c.relay_one.new.from c.relay_one.new.to origin c.args.subscriber.now
          publisher reader values earlier moved more has kept c.in_err-_value.ensures.unsent
          c.in_err-_value.ensures.up_to_date.1 c.in_err-_value.ensures.stays.1.buffers,
      search rules,
    )

pub returns-in_err-_value-clause-granted : goal.returns-in_err-_value-clause-granted
returns-in_err-_value-clause-granted c = λ updated borrows can.
    let now = c.loop-moved.invariant.up_to_date.0.subscribers c.args.subscriber.now updated in
    let left : ℕ = c.args.n - c.loop-moved.moved - 1 in
    let more : c.loop-moved.moved < c.args.n = c.loop-moved-test.true in
    let enough : c.loop-moved.moved + (left + 1) ≤ c.args.n = omega arith in
    let sends =
    can-send-fewer c.args.to.now c.args.publisher.now c.args.n (c.loop-moved.moved + (left + 1)) enough can in
    absurd
    (true≢false (sym (c.in_err-_value.ensures.granted now (c.loop-moved.invariant.borrows borrows) left
    (c.loop-moved.invariant.granted updated borrows (left + 1) sends)).0))
