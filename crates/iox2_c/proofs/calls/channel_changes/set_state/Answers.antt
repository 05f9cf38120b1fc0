use Rattle.std.proofs.Common.{rules, ap, ◌∙◌}
use Rattle.iox2_machine.specs.machine.ChannelCalls.{SetChannelState}
use Rattle.iox2_pubsub.specs.declared.subscriber.Subscriber.{Subscriber}
use Rattle.iox2_c.specs.Numbers.{wide}
use Rattle.iox2_c.specs.Serving.{Serving}
use Rattle.iox2_c.specs.Steps.{StepsTo}
use Rattle.iox2_c.proofs.BecomesSteps.{moved}
use Rattle.iox2_c.proofs.calls.channel_changes.set_state.Goals as goal

pub returns : goal.returns
returns c = record {
  answered = search rules;
  sets = λ ok. (
    c.set_channel_state-answer.result,
    c.number_of.ensures,
    moved (λ k p. StepsTo k c.set_channel_state-answer.new.domain (λ s s'.
        SetChannelState s p c.args.channel c.args.state s' c.set_channel_state-answer.result)) c.service.inside.domain
        c.args.service.now.domain _ (wide c.args.numbers.now.id) (ap (λ (s : Serving). s.domain) c.service.view_is)
        (ap (λ (it : Subscriber). it.id) c.deref.ensures ∙ c.in-Ok.ensures.id) c.set_channel_state-answer.ensures.sets,
  );
  refused = search rules;
  same = search rules;
  stays = search rules;
}
