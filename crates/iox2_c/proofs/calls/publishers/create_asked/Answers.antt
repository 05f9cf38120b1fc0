use Rattle.std.proofs.Common.{rules, ◌≡◌, ℕ, ap, subst, sym, Option, None, Some}
use Rattle.std.specs.Prelude.{MatchResult}
use Rattle.iox2_machine.specs.machine.Limits.{fits, worst_case}
use Rattle.iox2_machine.specs.machine.Ports.{CreatePublisher}
use Rattle.iox2_machine.specs.machine.State.{Messages}
use Rattle.iox2_machine.specs.declared.service_config.ServiceConfig.{ServiceConfig}
use Rattle.iox2_domain.specs.Shows.{Shows}
use Rattle.iox2_pubsub.specs.Factories.{AsksForSlots, PublisherFactory, callback_of, with_slots}
use Rattle.iox2_pubsub.specs.Handles.{as_publisher, publisher_id}
use Rattle.iox2_pubsub.specs.declared.slice.publisher.Publisher.{Publisher}
use Rattle.iox2_pubsub.specs.declared.port_factory.preallocation.PreallocatedSamplesOverride.{PreallocatedSamplesOverride}
use Rattle.iox2_c.specs.Steps.{BytesState, publishers_answer}
use Rattle.iox2_pubsub.specs.declared.no_handler.NoHandler.{NoHandler}
use Rattle.iox2_pubsub.proofs.AskedSlots.{asked-result, asks-alike}
use Rattle.iox2_c.proofs.CreationSteps.{by-id}
use Rattle.iox2_c.proofs.calls.publishers.create_asked.Goals as goal

pub returns : goal.returns
returns g c =
    let given = c.args.factory.settings in
    let told = subst
    (λ (f : PublisherFactory NoHandler NoHandler (PreallocatedSamplesOverride g.row.P.Denot)). (asked : Option ℕ)
    × AsksForSlots (goal.P-post g (callback_of f))
    (worst_case (c.args.domain.now.config) f.settings.max_loaned_samples) asked
    × ((m : Messages ℕ (Unit {0})) (s : BytesState) → Shows c.args.domain.now m s
    → (s' : BytesState) × Shows c.create.new.domain m s'
    × MatchResult c.create.result (λ (publisher : Publisher). (publisher_id (as_publisher publisher) ≡ s.next_port)
    × CreatePublisher (publishers_answer c.create.new.domain) s (with_slots f.settings asked) s' None)
    (λ e. CreatePublisher (publishers_answer c.create.new.domain) s (with_slots f.settings asked) s' (Some e))))
    c.override_sample_preallocation-asking.ensures c.create.ensures.creates in
    let step =
    by-id c.args.domain.now c.create.new.domain (with_slots given (Some c.args.slots)) c.create.result (λ m s shown.
    let asks = subst (λ (config : ServiceConfig). AsksForSlots (λ worst n. n ≡ c.args.slots)
    (worst_case config given.max_loaned_samples) told.0) (sym (ap (λ (t : BytesState). t.config) shown.state))
    (asks-alike (fits (worst_case (c.args.domain.now.config) given.max_loaned_samples)) told.0 c.args.slots
    (λ n p. c.requires.asks _ n p) told.1) in
    let made = told.2 m s shown in (
      made.0,
      made.1,
      asked-result {T = ℕ} {U = Unit {0}} (publishers_answer c.create.new.domain) s given made.0
          (λ (publisher : Publisher). publisher_id (as_publisher publisher)) c.create.result c.args.slots told.0 asks
          made.2,
    )) in
    record {
      creates = step;
      ready = search rules;
      fresh = search rules;
      longest = search rules;
      strategy = search rules;
      stays = search rules;
    }
