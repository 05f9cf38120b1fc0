use Rattle.std.proofs.Common.{rules, ap}
use Rattle.iox2_machine.specs.machine.ChannelCalls.{sent_closed}
use Rattle.iox2_c.specs.Channels.{ChangesTo}
use Rattle.iox2_c.specs.Numbers.{wide}
use Rattle.iox2_c.specs.Serving.{Serving}
use Rattle.iox2_c.proofs.BecomesSteps.{moved}
use Rattle.iox2_c.proofs.calls.channel_changes.close_sent_unrecorded.Goals as goal

pub returns : goal.returns
returns c = record {
  answered = search rules;
  closes = λ ok.
      moved (λ k p. ChangesTo k c.close_channel.new.domain
      (λ s. sent_closed s p c.args.channel c.args.connection c.args.expected)) c.service.inside.domain
      c.args.service.now.domain _
      (wide c.args.numbers.now.id)
      (ap (λ (s : Serving). s.domain) c.service.view_is) c.in-Ok.ensures.id c.close_channel.ensures.closed;
  refused = search rules;
  stays = search rules;
}
