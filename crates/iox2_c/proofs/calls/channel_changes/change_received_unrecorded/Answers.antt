use Rattle.std.proofs.Common.{rules, ap, subst, sym, ◌∙◌}
use Rattle.iox2_machine.specs.machine.ChannelCalls.{received_closed, received_hinted}
use Rattle.iox2_pubsub.specs.declared.subscriber.Subscriber.{Subscriber}
use Rattle.iox2_c.specs.Channels.{ChangesReceived, ClosesReceived, ChangesTo, HintsReceived}
use Rattle.iox2_c.specs.Numbers.{wide}
use Rattle.iox2_c.specs.Serving.{KeptBytes, Serving}
use Rattle.iox2_c.specs.declared.calls.channel_changes.ReceivedChange.{ReceivedChange}
use Rattle.iox2_c.specs.declared.service.Service.TheInside.{Inside}
use Rattle.iox2_c.proofs.BecomesSteps.{moved}
use Rattle.iox2_c.proofs.calls.channel_changes.change_received_unrecorded.Goals as goal
use Rattle.iox2_c.proofs.calls.channel_changes.change_received_unrecorded.Goals.{in-Close, in-Hint}

pub returns : goal.returns
returns c = record {
  answered = search rules;
  changes = λ ok.
      elim c.match-change.branch [
        | in-Close w ↦
            subst (λ (change : ReceivedChange). ChangesReceived c.args.service.now.domain
            c.match-change.service-inside.domain change (wide c.args.numbers.now.id) c.args.channel c.args.expected)
            (sym w.in-Close.is)
            (subst (λ (k : KeptBytes). ClosesReceived c.args.service.now.domain k
            (wide c.args.numbers.now.id) c.args.channel c.args.expected)
            (sym (ap (λ (s : Inside). s.domain) w.service-inside-is))
            (moved (λ k p. ChangesTo k w.close_channel.new.domain (λ s.
            received_closed s p c.args.channel c.args.expected)) c.service.inside.domain c.args.service.now.domain _
            (wide c.args.numbers.now.id) (ap (λ (s : Serving). s.domain) c.service.view_is)
            (ap (λ (it : Subscriber). it.id) w.deref.ensures ∙ c.in-Ok.ensures.id) w.close_channel.ensures.closed))
        | in-Hint w ↦
            subst (λ (change : ReceivedChange). ChangesReceived c.args.service.now.domain
            c.match-change.service-inside.domain change (wide c.args.numbers.now.id) c.args.channel c.args.expected)
            (sym w.in-Hint.is)
            (subst (λ (k : KeptBytes). HintsReceived c.args.service.now.domain k
            (wide c.args.numbers.now.id) c.args.channel c.args.expected)
            (sym (ap (λ (s : Inside). s.domain) w.service-inside-is))
            (moved (λ k p. ChangesTo k w.set_disconnect_hint.new.domain
            (λ s. received_hinted s p c.args.channel c.args.expected)) c.service.inside.domain c.args.service.now.domain
            _
            (wide c.args.numbers.now.id) (ap (λ (s : Serving). s.domain) c.service.view_is)
            (ap (λ (it : Subscriber). it.id) w.deref-in-Hint.ensures ∙ c.in-Ok.ensures.id)
            w.set_disconnect_hint.ensures.hinted))
      ];
  refused = search rules;
  stays = search rules;
}
