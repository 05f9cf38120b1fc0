use Rattle.std.proofs.Common.{rules, ◌≡◌, ℕ, ap, subst, ◌∙◌}
use Rattle.std.specs.declared.result.Result.{Result}
use Rattle.iox2_machine.specs.declared.errors.SendError.{SendError}
use Rattle.iox2_machine.specs.declared.key.Key.{Key}
use Rattle.iox2_pubsub.specs.Handles.{blocked_sender}
use Rattle.iox2_pubsub.specs.declared.parts.LoanParts.{LoanParts}
use Rattle.iox2_pubsub.specs.declared.send_outcome.SendOutcome.{SendOutcome}
use Rattle.iox2_c.specs.Numbers.{wide}
use Rattle.iox2_c.specs.Serving.{KeptBytes, Serving}
use Rattle.iox2_c.specs.Steps.{BlockedSendRetries}
use Rattle.iox2_c.proofs.calls.sends.retry.Goals as goal

pub returns : goal.returns
returns c = record {
  never = search rules;
  ends = λ live.
      let sent : Result SendOutcome SendError = c.retry-end.result in
      let id : blocked_sender c.in-Some.waiting ≡ wide c.args.numbers.now.publisher =
      ap (λ (p : LoanParts). p.publisher) c.in-Some.ensures.named ∙ ap (λ (k : Key). k.port) c.parts.ensures in
      let step : BlockedSendRetries c.service.inside.domain c.retry-end.new.domain
      (blocked_sender c.in-Some.waiting) c.args.elapsed sent =
      record { elapsed = c.from_nanos.result; time = c.from_nanos.ensures; step = c.retry-end.ensures.retries } in (
        sent,
        c.tell-code.ensures.code_is,
        c.tell-code.ensures.receivers,
        subst (λ (old : KeptBytes). BlockedSendRetries old c.retry-end.new.domain
            (wide c.args.numbers.now.publisher) c.args.elapsed sent) (ap (λ (s : Serving). s.domain) c.service.view_is)
            (subst
            (λ (p : ℕ). BlockedSendRetries c.service.inside.domain c.retry-end.new.domain p c.args.elapsed sent) id
            step),
      );
  not_live = search rules;
  same_count = search rules;
  stays = search rules;
}
