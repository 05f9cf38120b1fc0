use Rattle.std.proofs.Common.{◌≡◌, ℕ, ap, subst, sym, Option, None, Some}
use Rattle.std.specs.Prelude.{MatchResult}
use Rattle.iox2_domain.specs.Boxes.{answers_of}
use Rattle.iox2_machine.specs.machine.Limits.{fits, worst_case}
use Rattle.iox2_machine.specs.machine.Ports.{CreatePublisher}
use Rattle.iox2_machine.specs.machine.State.{Messages, State}
use Rattle.iox2_machine.specs.declared.service_config.ServiceConfig.{ServiceConfig}
use Rattle.iox2_domain.specs.Shows.{Shows}
use Rattle.iox2_pubsub.specs.Factories.{AsksForSlots, PublisherFactory, callback_of, with_slots}
use Rattle.iox2_pubsub.specs.Handles.{publisher_id}
use Rattle.iox2_pubsub.specs.declared.port_factory.preallocation.PreallocatedSamplesOverride.{PreallocatedSamplesOverride}
use Rattle.iox2_pubsub.proofs.AskedSlots.{asked-result, asks-alike}
use Rattle.iox2_runs.proofs.runs.publishers.create_asked.Goals as goal

pub returns-clause-creates : goal.returns-clause-creates
returns-clause-creates g c m s shown =
    let given = c.args.factory.settings in
    let worst : ℕ = worst_case (c.args.domain.now.config) given.max_loaned_samples in
    let told = subst (λ (f : PublisherFactory g.row.F.Denot g.row.G.Denot (PreallocatedSamplesOverride g.row.P.Denot)).
    (asked : Option ℕ)
    × AsksForSlots (goal.P-post g (callback_of f))
    (worst_case (c.args.domain.now.config) f.settings.max_loaned_samples) asked
    × ((m : Messages g.row.T.Denot g.row.U.Denot) (s : State g.row.T.Denot g.row.U.Denot) → Shows c.args.domain.now m s
    → (s' : State g.row.T.Denot g.row.U.Denot) × Shows c.create.new.domain m s'
    × MatchResult c.create.result (λ (publisher : g.row.H.Denot).
    (publisher_id (g.H.PortHandle.as_port publisher) ≡ s.next_port)
    × CreatePublisher (answers_of g.F.BackpressureFn.allows g.G.DegradationFn.allows
    c.create.new.domain.boxes.publishers) s (with_slots f.settings asked) s' None)
    (λ e. CreatePublisher (answers_of g.F.BackpressureFn.allows g.G.DegradationFn.allows
    c.create.new.domain.boxes.publishers) s (with_slots f.settings asked) s' (Some e))))
    c.override_sample_preallocation-factory.ensures c.create.ensures.creates in
    let asks = subst (λ (config : ServiceConfig). AsksForSlots (λ worst n. n ≡ c.args.slots)
    (worst_case config given.max_loaned_samples) told.0)
    (sym (ap (λ (t : State g.row.T.Denot g.row.U.Denot). t.config) shown.state))
    (asks-alike (fits worst) told.0 c.args.slots (λ n p. c.requires.asks worst n p) told.1) in
    let made = told.2 m s shown in (
      made.0,
      made.1,
      asked-result {T = g.row.T.Denot} {U = g.row.U.Denot}
          (answers_of g.F.BackpressureFn.allows g.G.DegradationFn.allows c.create.new.domain.boxes.publishers) s given
          made.0 (λ (publisher : g.row.H.Denot). publisher_id (g.H.PortHandle.as_port publisher)) c.create.result
          c.args.slots told.0 asks made.2,
    )
