use Rattle.std.proofs.Common.{◌≡◌, rules}
use Rattle.iox2_messages.specs.SendEnds.{end_result}
use Rattle.iox2_pubsub.specs.SendCalls.{result_of_send}
use Rattle.iox2_pubsub.proofs.sample_mut.send.send_loan.Goals as goal

pub returns-clause-ends : goal.returns-clause-ends
returns-clause-ends g c =
    let same : result_of_send c.send.result ≡ end_result c.send.ensures.0 = search rules in
    (c.send.ensures.0, c.send.ensures.1, c.send.ensures.2, same)
