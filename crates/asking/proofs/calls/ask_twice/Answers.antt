use Rattle.std.proofs.Common.{rules}
use Rattle.iox2_request_response.proofs.Calling.{client_stays, pending_stays, service_then}
use Rattle.asking.proofs.calls.ask_twice.Goals as goal

pub close-requires-2-clause-client : goal.close-requires-2-clause-client
close-requires-2-clause-client g c = search (rules, client_stays)

pub close-requires-3-clause-live : goal.close-requires-3-clause-live
close-requires-3-clause-live g c =
    let pending = c.in-Ok.second in
    let one = c.answer_one-one.new.service in
    let two = c.answer_one-two.new.service in
    let earlier = c.next_answer-earlier.new.service in
    let later = c.next_answer-later.new.service in
    pending_stays later c.close-2.new.service c.close-2.ensures.stays pending
    (pending_stays earlier later c.next_answer-later.ensures.stays pending
    (pending_stays two earlier c.next_answer-earlier.ensures.stays pending
    (pending_stays one two c.answer_one-two.ensures.stays pending
    (pending_stays c.send_copy-2.new.service one c.answer_one-one.ensures.stays pending c.in-Ok.ensures.pending))))

pub returns-in-Err-clause-stays : goal.returns-in-Err-clause-stays
returns-in-Err-clause-stays g c =
    let start = c.args.service.now in
    let second = c.send_copy-2.new.service in
    service_then start second c.close.new.service
    (service_then start c.send_copy.new.service second c.send_copy.ensures.stays c.send_copy-2.ensures.stays)
    c.close.ensures.stays

pub returns-in_err-one-clause-stays : goal.returns-in_err-one-clause-stays
returns-in_err-one-clause-stays g c =
    let start = c.args.service.now in
    let second = c.send_copy-2.new.service in
    let one = c.answer_one-one.new.service in
    let two = c.answer_one-two.new.service in
    let earlier = c.next_answer-earlier.new.service in
    let later = c.next_answer-later.new.service in
    let asked =
    service_then start c.send_copy.new.service second c.send_copy.ensures.stays c.send_copy-2.ensures.stays in
    let answered = service_then start one two
    (service_then start second one asked c.answer_one-one.ensures.stays) c.answer_one-two.ensures.stays in
    let received = service_then start earlier later
    (service_then start two earlier answered c.next_answer-earlier.ensures.stays) c.next_answer-later.ensures.stays in
    service_then start c.close-2.new.service c.close-3.new.service
    (service_then start later c.close-2.new.service received c.close-2.ensures.stays) c.close-3.ensures.stays

pub returns-in_err-two-clause-stays : goal.returns-in_err-two-clause-stays
returns-in_err-two-clause-stays g c =
    let start = c.args.service.now in
    let second = c.send_copy-2.new.service in
    let one = c.answer_one-one.new.service in
    let two = c.answer_one-two.new.service in
    let earlier = c.next_answer-earlier.new.service in
    let later = c.next_answer-later.new.service in
    let asked =
    service_then start c.send_copy.new.service second c.send_copy.ensures.stays c.send_copy-2.ensures.stays in
    let answered = service_then start one two
    (service_then start second one asked c.answer_one-one.ensures.stays) c.answer_one-two.ensures.stays in
    let received = service_then start earlier later
    (service_then start two earlier answered c.next_answer-earlier.ensures.stays) c.next_answer-later.ensures.stays in
    service_then start c.close-2.new.service c.close-3.new.service
    (service_then start later c.close-2.new.service received c.close-2.ensures.stays) c.close-3.ensures.stays

pub returns-in_err-earlier-clause-stays : goal.returns-in_err-earlier-clause-stays
returns-in_err-earlier-clause-stays g c =
    let start = c.args.service.now in
    let second = c.send_copy-2.new.service in
    let one = c.answer_one-one.new.service in
    let two = c.answer_one-two.new.service in
    let earlier = c.next_answer-earlier.new.service in
    let later = c.next_answer-later.new.service in
    let asked =
    service_then start c.send_copy.new.service second c.send_copy.ensures.stays c.send_copy-2.ensures.stays in
    let answered = service_then start one two
    (service_then start second one asked c.answer_one-one.ensures.stays) c.answer_one-two.ensures.stays in
    let received = service_then start earlier later
    (service_then start two earlier answered c.next_answer-earlier.ensures.stays) c.next_answer-later.ensures.stays in
    service_then start c.close-2.new.service c.close-3.new.service
    (service_then start later c.close-2.new.service received c.close-2.ensures.stays) c.close-3.ensures.stays

pub returns-in_err-later-clause-stays : goal.returns-in_err-later-clause-stays
returns-in_err-later-clause-stays g c =
    let start = c.args.service.now in
    let second = c.send_copy-2.new.service in
    let one = c.answer_one-one.new.service in
    let two = c.answer_one-two.new.service in
    let earlier = c.next_answer-earlier.new.service in
    let later = c.next_answer-later.new.service in
    let asked =
    service_then start c.send_copy.new.service second c.send_copy.ensures.stays c.send_copy-2.ensures.stays in
    let answered = service_then start one two
    (service_then start second one asked c.answer_one-one.ensures.stays) c.answer_one-two.ensures.stays in
    let received = service_then start earlier later
    (service_then start two earlier answered c.next_answer-earlier.ensures.stays) c.next_answer-later.ensures.stays in
    service_then start c.close-2.new.service c.close-3.new.service
    (service_then start later c.close-2.new.service received c.close-2.ensures.stays) c.close-3.ensures.stays

pub returns-clause-stays : goal.returns-clause-stays
returns-clause-stays g c =
    let start = c.args.service.now in
    let second = c.send_copy-2.new.service in
    let one = c.answer_one-one.new.service in
    let two = c.answer_one-two.new.service in
    let earlier = c.next_answer-earlier.new.service in
    let later = c.next_answer-later.new.service in
    let asked =
    service_then start c.send_copy.new.service second c.send_copy.ensures.stays c.send_copy-2.ensures.stays in
    let answered = service_then start one two
    (service_then start second one asked c.answer_one-one.ensures.stays) c.answer_one-two.ensures.stays in
    let received = service_then start earlier later
    (service_then start two earlier answered c.next_answer-earlier.ensures.stays) c.next_answer-later.ensures.stays in
    service_then start c.close-2.new.service c.close-3.new.service
    (service_then start later c.close-2.new.service received c.close-2.ensures.stays) c.close-3.ensures.stays
