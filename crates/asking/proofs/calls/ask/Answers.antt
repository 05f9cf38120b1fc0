use Rattle.iox2_request_response.proofs.Calling.{client_stays, service_then}
use Rattle.asking.proofs.calls.ask.Goals as goal

pub close-requires-clause-client : goal.close-requires-clause-client
close-requires-clause-client g c =
    let answered = c.answer_one-answered.new.service in
    client_stays answered c.next_answer-outcome.new.service c.next_answer-outcome.ensures.stays c.send_copy.new.self
    (client_stays c.send_copy.new.service answered c.answer_one-answered.ensures.stays c.send_copy.new.self
    c.send_copy.ensures.client)

pub returns-in_err-answered-clause-stays : goal.returns-in_err-answered-clause-stays
returns-in_err-answered-clause-stays g c =
    let start = c.args.service.now in
    let answered = c.answer_one-answered.new.service in
    let outcome = c.next_answer-outcome.new.service in
    service_then start outcome c.close.new.service
    (service_then start answered outcome
    (service_then start c.send_copy.new.service answered c.send_copy.ensures.stays c.answer_one-answered.ensures.stays)
    c.next_answer-outcome.ensures.stays) c.close.ensures.stays

pub returns-clause-stays : goal.returns-clause-stays
returns-clause-stays g c =
    let start = c.args.service.now in
    let answered = c.answer_one-answered.new.service in
    let outcome = c.next_answer-outcome.new.service in
    service_then start outcome c.close.new.service
    (service_then start answered outcome
    (service_then start c.send_copy.new.service answered c.send_copy.ensures.stays c.answer_one-answered.ensures.stays)
    c.next_answer-outcome.ensures.stays) c.close.ensures.stays
