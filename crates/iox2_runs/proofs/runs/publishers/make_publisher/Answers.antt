use Rattle.std.proofs.Common.{◌≡◌, sym, ap, subst, ◌∙◌, None, Some}
use Rattle.std.specs.Prelude.{MatchResult}
use Rattle.std.proofs.lemmas.Result.{err_from_is_err_and}
use Rattle.iox2_domain.specs.Boxes.{answers_of}
use Rattle.iox2_machine.specs.machine.Ports.{CreatePublisher}
use Rattle.iox2_machine.specs.machine.Records.{PublisherSettings}
use Rattle.iox2_pubsub.specs.declared.publisher.Publisher.{Publisher}
use Rattle.iox2_machine.specs.declared.service_config.TypeVariant.TheVariants.{FixedSize, Dynamic}
use Rattle.iox2_pubsub.specs.Factories.{PublisherFactory}
use Rattle.iox2_pubsub.specs.declared.port_factory.preallocation.NoOverride.{NoOverride}
use Rattle.iox2_runs.proofs.CarriedPorts.{settings_of, told-settings}
use Rattle.iox2_runs.proofs.FixedCalls.{creation_told, publisher_created}
use Rattle.iox2_runs.proofs.FixedSends.{always_unboxed}
use Rattle.iox2_runs.proofs.runs.publishers.make_publisher.Goals as goal

pub returns-in-FixedSize-clause-creates : goal.returns-in-FixedSize-clause-creates
returns-in-FixedSize-clause-creates g c = λ m s shown.
    let made = c.create.ensures.creates m s shown in (
      made.0,
      made.1,
      creation_told (answers_of g.F.BackpressureFn.allows g.G.DegradationFn.allows c.create.new.domain.boxes.publishers)
          s (settings_of c.args.asked s) (always_unboxed c.args.asked.degradation)
          (λ (publisher : Publisher). publisher.id ≡ s.next_port) made.0 c.create.result
          (subst (λ (given : PublisherSettings). MatchResult c.create.result
          (λ publisher. (publisher.id ≡ s.next_port) × CreatePublisher
          (answers_of g.F.BackpressureFn.allows g.G.DegradationFn.allows c.create.new.domain.boxes.publishers) s given
          made.0 None)
          (λ e. CreatePublisher (answers_of g.F.BackpressureFn.allows g.G.DegradationFn.allows
          c.create.new.domain.boxes.publishers) s given made.0 (Some e)))
          (told-settings {T = g.row.T.Denot} {U = g.row.U.Denot} c.args.domain.now c.args.asked FixedSize
          c.publisher_builder.result.settings c.told-factory.result.settings c.told-factory.ensures
          (ap (λ (it : PublisherFactory g.row.F.Denot g.row.G.Denot NoOverride). it.settings.initial_max_slice_len)
          c.publisher_builder.ensures)
          (sym c.variant.ensures ∙ c.in-FixedSize.is) m s shown) made.2),
    )

pub returns-in_ok-publisher-in-Dynamic-clause-creates : goal.returns-in_ok-publisher-in-Dynamic-clause-creates
returns-in_ok-publisher-in-Dynamic-clause-creates g c = λ m s shown.
    let is = told-settings {T = g.row.T.Denot} {U = g.row.U.Denot} c.args.domain.now c.args.asked Dynamic
    c.initial_max_slice_len-unasked.result.settings c.told-factory-in-Dynamic.result.settings
    c.told-factory-in-Dynamic.ensures
    (ap (λ (it : PublisherFactory g.row.F.Denot g.row.G.Denot NoOverride). it.settings.initial_max_slice_len)
    c.initial_max_slice_len-unasked.ensures)
    (sym c.variant.ensures ∙ c.in-Dynamic.is) m s shown in
    let made = c.in_ok-publisher-in-Dynamic.ensures.creates m s shown in (
      made.0,
      made.1,
      (
        ap (λ (publisher : Publisher). publisher.id) c.into_inner.ensures ∙ (made.2).0,
        publisher_created (answers_of g.F.BackpressureFn.allows g.G.DegradationFn.allows
            c.create-in-Dynamic.new.domain.boxes.publishers) s (settings_of c.args.asked s)
            (always_unboxed c.args.asked.degradation) made.0 None
            (subst (λ (given : PublisherSettings).
            CreatePublisher (answers_of g.F.BackpressureFn.allows g.G.DegradationFn.allows
            c.create-in-Dynamic.new.domain.boxes.publishers) s given made.0 None) is (made.2).1),
      ),
    )

pub returns-in_err-publisher-in-Dynamic-clause-creates : goal.returns-in_err-publisher-in-Dynamic-clause-creates
returns-in_err-publisher-in-Dynamic-clause-creates g c = λ m s shown.
    let is = told-settings {T = g.row.T.Denot} {U = g.row.U.Denot} c.args.domain.now c.args.asked Dynamic
    c.initial_max_slice_len-unasked.result.settings c.told-factory-in-Dynamic.result.settings
    c.told-factory-in-Dynamic.ensures
    (ap (λ (it : PublisherFactory g.row.F.Denot g.row.G.Denot NoOverride). it.settings.initial_max_slice_len)
    c.initial_max_slice_len-unasked.ensures)
    (sym c.variant.ensures ∙ c.in-Dynamic.is) m s shown in
    let refused = err_from_is_err_and c.from_residual.result c.from_residual.ensures.1 in
    let made = c.in_err-publisher-in-Dynamic.ensures.creates m s shown in
    rw (refused.1, refused.2) (
      made.0,
      made.1,
      publisher_created (answers_of g.F.BackpressureFn.allows g.G.DegradationFn.allows
          c.create-in-Dynamic.new.domain.boxes.publishers) s (settings_of c.args.asked s)
          (always_unboxed c.args.asked.degradation) made.0 (Some c.in_err-publisher-in-Dynamic.field-0.0)
          (subst (λ (given : PublisherSettings).
          CreatePublisher (answers_of g.F.BackpressureFn.allows g.G.DegradationFn.allows
          c.create-in-Dynamic.new.domain.boxes.publishers) s given made.0
          (Some c.in_err-publisher-in-Dynamic.field-0.0)) is made.2),
    )
