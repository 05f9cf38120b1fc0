use Rattle.std.proofs.Common.{rules, ap, subst}
use Rattle.std.specs.declared.result.Result.{Result}
use Rattle.iox2_machine.specs.declared.errors.SendError.{SendError}
use Rattle.iox2_pubsub.specs.declared.send_outcome.SendOutcome.{SendOutcome}
use Rattle.iox2_c.specs.Numbers.{wide}
use Rattle.iox2_c.specs.Serving.{KeptBytes, Serving}
use Rattle.iox2_c.specs.Steps.{SendsNumbered}
use Rattle.iox2_c.proofs.calls.sends.send_with_bytes.Goals as goal

pub returns : goal.returns
returns c =
    let sent : Result SendOutcome SendError = c.send-sent.result in record {
      never = search rules;
      sent = λ two seven. (
        sent,
        c.tell_of.ensures.code_is,
        c.tell_of.ensures.receivers,
        subst (λ (old : KeptBytes). SendsNumbered old c.send-sent.new.domain (wide c.args.numbers.now.number) sent)
            (ap (λ (s : Serving). s.domain) c.service.view_is)
            (subst (λ n. SendsNumbered c.service.inside.domain c.send-sent.new.domain n sent) c.in-Some.ensures.number
            c.send-sent.ensures.sent),
      );
      why = search rules;
      waits = search rules;
      spent = search rules;
      same = c.tell_of.ensures.same;
      same_count = search rules;
      stays = search rules;
    }
