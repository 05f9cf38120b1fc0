use Rattle.std.proofs.Common.{rules, ap, subst, ◌∙◌}
use Rattle.std.specs.declared.result.Result.{Result}
use Rattle.iox2_machine.specs.declared.errors.SendError.{SendError}
use Rattle.iox2_pubsub.specs.declared.send_outcome.SendOutcome.{SendOutcome}
use Rattle.iox2_c.specs.ConnectionSends.{SendsNumberedTo}
use Rattle.iox2_c.specs.Numbers.{wide}
use Rattle.iox2_c.specs.Serving.{KeptBytes, Serving}
use Rattle.iox2_c.proofs.calls.connection_sends.send_to.Goals as goal

pub returns : goal.returns
returns c =
    let sent : Result SendOutcome SendError = c.deliver_offset_to_connection-sent.result in record {
      never = search rules;
      sent = λ unrefused. (
        sent,
        c.tell_of-code.ensures.code_is,
        c.tell_of-code.ensures.receivers,
        subst (λ (old : KeptBytes). SendsNumberedTo old c.deliver_offset_to_connection-sent.new.domain
            (wide c.args.numbers.now.number) c.args.channel c.args.connection sent)
            (ap (λ (s : Serving). s.domain) (c.service.view_is ∙ c.record_bytes_into.ensures))
            (subst (λ n. SendsNumberedTo c.service.inside.domain c.deliver_offset_to_connection-sent.new.domain n
            c.args.channel c.args.connection sent) c.in-Some.ensures.number
            c.deliver_offset_to_connection-sent.ensures.sent),
      );
      why = search rules;
      waits = search rules;
      spent = search rules;
      same = c.tell_of-code.ensures.same;
      same_count = search rules;
      stays = search rules;
    }
