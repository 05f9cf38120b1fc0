use Rattle.std.proofs.Common.{rules, ap}
use Rattle.iox2_machine.specs.machine.ChannelCalls.{has_disconnect_hint}
use Rattle.iox2_c.specs.Numbers.{wide}
use Rattle.iox2_c.specs.Serving.{Serving}
use Rattle.iox2_c.proofs.ChannelSteps.{told-number}
use Rattle.iox2_c.proofs.calls.channels.has_hint_unrecorded.Goals as goal

pub returns : goal.returns
returns c = record {
  answered = search rules;
  tells = λ ok.
      told-number (λ s p. has_disconnect_hint s p c.args.channel c.args.connection c.args.state)
      c.has_disconnect_hint-is_so.result c.number_of.result c.service.inside.domain c.args.service.now.domain _
      (wide c.args.numbers.now.id) (ap (λ (s : Serving). s.domain) c.service.view_is) c.in-Ok.ensures.id
      c.number_of.ensures c.has_disconnect_hint-is_so.ensures;
  same = search rules;
  unchanged = search rules;
}
