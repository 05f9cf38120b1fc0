use Rattle.std.proofs.Common.{◌≡◌, ◌+◌, ◌∙◌, [], arith, sym, ⊎_elim, length, ℕ, List, ◌++◌, ap}
use Rattle.iox2_pubsub.specs.Handles.{publisher_id}
use Rattle.iox2_pubsub.proofs.ForCallers.{keeps_all_stays}
use Rattle.message_patterns.proofs.Moved.{moved-all, moved-as-many}
use Rattle.message_patterns.proofs.Waits.{takes-fewer}
use Rattle.message_patterns.proofs.relaying.relay_all.Goals as goal

pub returns-clause-same : goal.returns-clause-same
returns-clause-same c =
    let values = c.args.values.now in
    let sender = publisher_id c.args.sender.now in
    let publisher = publisher_id c.args.publisher.now in
    let subscriber = c.args.subscriber.now in
    let reader = c.args.reader.now in
    let n = length values in
    let sent = c.in_ok-send_all.ensures.sent subscriber [] 0
    (takes-fewer c.args.from.now sender subscriber [] (length values) (length values + 0)
    (omega arith) c.requires.takes) in
    let moves = c.in_ok-relay.ensures.moves sender reader values [] 0
    (keeps_all_stays c.args.from.now c.send_all.new.domain subscriber c.in_ok-send_all.ensures.up_to_date
    c.requires.keeps) sent.wait
    (takes-fewer c.args.to.now publisher reader [] (length values) (n + 0) (omega arith) c.requires.reads) in
    let has = moves.2 in
    let all : values ≡ has.moved = ⊎_elim
    (λ whole. moved-as-many c.relay.new.from c.relay.new.to c.args.from.now c.args.to.now sender subscriber publisher
    reader values [] moves.0 0 has (sym moves.3 ∙ whole))
    (λ none. moved-all c.relay.new.from c.relay.new.to c.args.from.now c.args.to.now sender subscriber publisher reader
    values [] moves.0 0 has none)
    c.in_ok-relay.ensures.all in
    let read = c.in_ok-read_all.ensures.all
    (keeps_all_stays c.args.to.now c.relay.new.to reader c.in_ok-relay.ensures.up_to_date.1 c.requires.keeps_read)
    publisher has.moved has.sent.wait in
    read ∙ ap (λ (l : List ℕ). l ++ has.moved) c.new-read.ensures.items ∙ sym all
