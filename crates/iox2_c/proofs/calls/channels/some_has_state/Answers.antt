use Rattle.std.proofs.Common.{rules, ap, ◌∙◌}
use Rattle.iox2_machine.specs.machine.ChannelCalls.{some_channel_has_state}
use Rattle.iox2_pubsub.specs.declared.subscriber.Subscriber.{Subscriber}
use Rattle.iox2_c.specs.Numbers.{wide}
use Rattle.iox2_c.specs.Serving.{Serving}
use Rattle.iox2_c.proofs.ChannelSteps.{told-number}
use Rattle.iox2_c.proofs.calls.channels.some_has_state.Goals as goal

pub returns : goal.returns
returns c = record {
  answered = search rules;
  tells = λ ok.
      told-number (λ s p. some_channel_has_state s p c.args.channel c.args.state)
      c.at_least_one_channel_has_state-is_so.result c.number_of.result c.service.inside.domain c.args.service.now.domain
      _
      (wide c.args.numbers.now.id) (ap (λ (s : Serving). s.domain) c.service.view_is)
      (ap (λ (it : Subscriber). it.id) c.deref.ensures ∙ c.in-Ok.ensures.id) c.number_of.ensures
      c.at_least_one_channel_has_state-is_so.ensures;
  same = search rules;
  unchanged = search rules;
}
