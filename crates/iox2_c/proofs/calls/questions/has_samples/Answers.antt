use Rattle.std.proofs.Common.{ap, ◌∙◌}
use Rattle.iox2_pubsub.specs.declared.subscriber.Subscriber.{Subscriber}
use Rattle.iox2_c.specs.Numbers.{wide}
use Rattle.iox2_c.specs.Serving.{Serving}
use Rattle.iox2_c.specs.Steps.{Asks}
use Rattle.iox2_c.proofs.BecomesSteps.{moved}
use Rattle.iox2_c.proofs.calls.questions.has_samples.Goals as goal

pub returns-clause-answers : goal.returns-clause-answers
returns-clause-answers c = λ live. (
  c.has_samples-answer.result,
  c.tell_answer-code.ensures.code,
  c.tell_answer-code.ensures.tells,
  moved (λ k p. Asks k c.has_samples-answer.new.domain p c.has_samples-answer.result) c.service.inside.domain
      c.args.service.now.domain _ (wide c.args.numbers.now.id)
      (ap (λ (s : Serving). s.domain) c.service.view_is)
      (ap (λ (it : Subscriber). it.id) c.deref.ensures ∙ c.in-Some.ensures.id) c.has_samples-answer.ensures.answers,
)
