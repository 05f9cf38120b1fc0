use Rattle.std.proofs.Common.{rules, ℕ, ap, subst}
use Rattle.std.specs.declared.result.Result.{Result}
use Rattle.iox2_machine.specs.declared.errors.SendError.{SendError}
use Rattle.iox2_pubsub.specs.declared.send_outcome.SendOutcome.{SendOutcome}
use Rattle.iox2_c.specs.Numbers.{wide}
use Rattle.iox2_c.specs.Serving.{KeptBytes, Serving}
use Rattle.iox2_c.specs.Steps.{SendsBytes}
use Rattle.iox2_c.proofs.calls.sends.send_copy.Goals as goal

pub returns : goal.returns
returns c = record {
  never = search rules;
  sent = λ two seven.
      let sent : Result SendOutcome SendError = c.send_bytes-sent.result in (
        sent,
        c.tell-code.ensures.code_is,
        c.tell-code.ensures.receivers,
        subst (λ (old : KeptBytes). SendsBytes old c.send_bytes-sent.new.domain
            (wide c.args.numbers.now.id) c.args.bytes.now sent) (ap (λ (s : Serving). s.domain) c.service.view_is)
            (subst (λ (p : ℕ). SendsBytes c.service.inside.domain c.send_bytes-sent.new.domain p c.args.bytes.now sent)
            c.in-Ok.ensures.id c.send_bytes-sent.ensures.sends),
      );
  why = search rules;
  waits = search rules;
  same = search rules;
  same_count = search rules;
  stays = search rules;
}
