use Rattle.std.proofs.Common.{rules, ap, ◌∙◌, sym}
use Rattle.iox2_machine.specs.machine.ChannelCalls.{connection_place}
use Rattle.iox2_c.specs.Numbers.{wide}
use Rattle.iox2_c.specs.Serving.{Serving}
use Rattle.iox2_c.proofs.ChannelSteps.{told}
use Rattle.iox2_c.proofs.calls.channels.connection_of_unrecorded.Goals as goal

pub returns : goal.returns
returns c = record {
  answered = search rules;
  live = search rules;
  tells = λ ok m s shows.
      sym (told (λ s p. connection_place s p c.get.result) c.get_connection_id_of-place.result
      c.service.inside.domain c.args.service.now.domain _ (wide c.args.numbers.now.id)
      (ap (λ (s : Serving). s.domain) c.service.view_is) c.in-Some.ensures.id
      c.get_connection_id_of-place.ensures.place m s shows
      ∙ ap (connection_place s (wide c.args.numbers.now.id)) c.get.ensures)
      ∙ c.in-Some-place.is;
  none = search rules;
  same = search rules;
  unchanged = search rules;
}

pub returns-in_default-place : goal.returns-in_default-place
returns-in_default-place c = record {
  answered = search rules;
  live = search rules;
  tells = search rules;
  none = λ absent m s shows.
      sym (told (λ s p. connection_place s p c.get.result) c.get_connection_id_of-place.result
      c.service.inside.domain c.args.service.now.domain _ (wide c.args.numbers.now.id)
      (ap (λ (s : Serving). s.domain) c.service.view_is) c.in-Some.ensures.id
      c.get_connection_id_of-place.ensures.place m s shows
      ∙ ap (connection_place s (wide c.args.numbers.now.id)) c.get.ensures)
      ∙ search rules;
  same = search rules;
  unchanged = search rules;
}
