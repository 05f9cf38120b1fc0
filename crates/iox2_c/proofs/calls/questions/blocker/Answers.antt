use Rattle.std.proofs.Common.{ap, sym, Some, ◌∙◌}
use Rattle.iox2_machine.specs.declared.key.Key.{Key}
use Rattle.iox2_pubsub.specs.declared.parts.LoanParts.{LoanParts}
use Rattle.iox2_c.specs.Channels.{TellsBlocker}
use Rattle.iox2_c.specs.Numbers.{wide}
use Rattle.iox2_c.specs.Serving.{Serving}
use Rattle.iox2_c.proofs.BecomesSteps.{moved}
use Rattle.iox2_c.proofs.calls.questions.blocker.Goals as goal

pub returns-clause-tells : goal.returns-clause-tells
returns-clause-tells c = λ ok.
    moved (λ k p. TellsBlocker k p (wide c.of.result)) c.service.inside.domain c.args.service.now.domain _
    (wide c.args.numbers.now.publisher) (ap (λ (s : Serving). s.domain) c.service.view_is)
    (ap (λ (p : LoanParts). p.publisher) c.in-Some.ensures.named ∙ ap (λ (k : Key). k.port) c.parts.ensures)
    (λ m s shown. c.subscriber.ensures.whom m s shown ∙ ap Some (sym (c.of.ensures ∙ c.value.ensures)))
