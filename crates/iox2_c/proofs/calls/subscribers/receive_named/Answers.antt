use Rattle.std.proofs.Common.{rules, ℕ, ◌≤◌, refl, ap, sym, subst, ◌∙◌, arith}
use Rattle.std.specs.declared.option.Option.{Option}
use Rattle.std.specs.declared.result.Result.TheVariants.{Ok}
use Rattle.iox2_machine.specs.declared.key.Key.{Key}
use Rattle.iox2_machine.specs.machine.Receives.{Got_sample, No_sample, Receive_error}
use Rattle.iox2_machine.specs.declared.service_config.ServiceConfig.{ServiceConfig}
use Rattle.iox2_pubsub.specs.Live.{IsLiveSample}
use Rattle.iox2_pubsub.proofs.LiveParts.{sample-parts, subscriber-parts}
use Rattle.iox2_pubsub.specs.ReceivedSamples.{received_result}
use Rattle.iox2_pubsub.specs.Sample.{Sample}
use Rattle.iox2_c.specs.Numbers.{wide}
use Rattle.iox2_c.specs.Serving.{Serving}
use Rattle.iox2_c.proofs.BecomesSteps.{receive-code-high, receives-moved}
use Rattle.iox2_c.proofs.calls.subscribers.receive_named.Goals as goal

pub tell_received-requires-clause-service : goal.tell_received-requires-clause-service
tell_received-requires-clause-service c =
    let live : IsLiveSample c.receive-received.new.domain c.in-Ok-Some.sample = search rules in
    (sample-parts c.receive-received.new.domain _ live.there).0
    ∙ ap (λ (config : ServiceConfig). config.service_id) c.in-Ok-Some.ensures.leaves.stays.settings
    ∙ sym (subscriber-parts c.service.inside.domain _ c.in-Some.ensures.live.there).1
    ∙ ap (λ (k : Key). k.service_id) c.in-Some.ensures.named

pub returns-in-Ok-Some : goal.returns-in-Ok-Some
returns-in-Ok-Some c =
    let origin = c.tell_received.ensures.origin in
    let number = ap (λ (k : Key). k.message) c.tell_received.ensures.named in
    let ok = c.tell_received.ensures.code in record {
      never = λ one. absurd (omega (arith, ok, one));
      received = λ _.
          receives-moved c.service.inside.domain c.args.service.now.domain c.receive-received.new.domain _
          (wide c.args.numbers.now.id) _ _
          (ap (λ (s : Serving). s.domain) c.service.view_is) c.in-Some.ensures.id
          (ap (λ (o : Option Sample). received_result (Ok o)) c.in-Ok-Some.field-0-is
          ∙ ap (λ (o : ℕ). Got_sample o c.in-Ok-Some.sample.sample.number) (sym origin)
          ∙ ap (Got_sample (wide (c.tell_received.new.out).origin)) (sym number))
          c.in-Ok-Some.ensures.receives;
      nothing = λ none. absurd (omega (arith, ok, none));
      errors = λ high. absurd (omega (arith, ok, high));
      not_live = λ two. absurd (omega (arith, ok, two));
      live = search rules;
      fresh = search rules;
      length_is = search rules;
      same = λ high. absurd (omega (arith, ok, high));
      same_length = λ high. absurd (omega (arith, ok, high));
      stays = search rules;
    }

pub returns-in-Ok-None : goal.returns-in-Ok-None
returns-in-Ok-None c = record {
  never = λ one. absurd (omega (arith, one));
  received = λ ok. absurd (omega (arith, ok));
  nothing = λ _.
      receives-moved c.service.inside.domain c.args.service.now.domain c.receive-received.new.domain _
      (wide c.args.numbers.now.id) _ No_sample
      (ap (λ (s : Serving). s.domain) c.service.view_is) c.in-Some.ensures.id
      (ap (λ (o : Option Sample). received_result (Ok o)) c.in-Ok-None.field-0-is)
      c.in-Ok-None.ensures.receives;
  errors = λ high. absurd (omega (arith, high));
  not_live = λ two. absurd (omega (arith, two));
  live = λ ok. absurd (omega (arith, ok));
  fresh = λ ok. absurd (omega (arith, ok));
  length_is = λ ok. absurd (omega (arith, ok));
  same = λ _. refl;
  same_length = λ _. refl;
  stays = search rules;
}

pub returns-in-Err : goal.returns-in-Err
returns-in-Err c =
    let high : 30 ≤ c.receive_status.result =
    subst (λ (n : ℕ). 30 ≤ n) (sym c.receive_status.ensures) (receive-code-high c.in-Err.error) in record {
      never = λ one. absurd (omega (arith, high, one));
      received = λ ok. absurd (omega (arith, high, ok));
      nothing = λ none. absurd (omega (arith, high, none));
      errors = λ _. (
        c.in-Err.error,
        c.receive_status.ensures,
        receives-moved c.service.inside.domain c.args.service.now.domain c.receive-received.new.domain _
            (wide c.args.numbers.now.id) _ (Receive_error c.in-Err.error)
            (ap (λ (s : Serving). s.domain) c.service.view_is) c.in-Some.ensures.id refl c.in-Err.ensures.receives,
      );
      not_live = λ two. absurd (omega (arith, high, two));
      live = λ ok. absurd (omega (arith, high, ok));
      fresh = λ ok. absurd (omega (arith, high, ok));
      length_is = λ ok. absurd (omega (arith, high, ok));
      same = λ _. refl;
      same_length = λ _. refl;
      stays = search rules;
    }
