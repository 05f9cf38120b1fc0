use Rattle.std.proofs.Common.{rules, ap, sym, ◌∙◌, replicate, Option, None}
use Rattle.std.proofs.lemmas.List.{length-replicate}
use Rattle.iox2_machine.specs.machine.State.{State}
use Rattle.iox2_machine.specs.declared.service_config.ServiceConfig.{ServiceConfig}
use Rattle.iox2_pubsub.proofs.DefaultSlices.{all-answers}
use Rattle.iox2_pubsub.proofs.SliceParts.{dynamic-holds}
use Rattle.iox2_pubsub.proofs.WrittenLoanCalls.{default-grants, default-refused}
use Rattle.iox2_pubsub.proofs.slice.publisher.Publisher.loan_slice.Goals as goal

pub write_from_fn-requires-clause-sliced : goal.write_from_fn-requires-clause-sliced
write_from_fn-requires-clause-sliced g c =
    dynamic-holds {T = g.row.T.Denot} {U = g.row.U.Denot} c.loan_slice_uninit.new.domain
    (ap (λ (config : ServiceConfig). config.variant) c.loan_slice_uninit.ensures.leaves.stays.settings
    ∙ c.requires.ready.dynamic)

pub returns-in-Ok-clause-lends : goal.returns-in-Ok-clause-lends
returns-in-Ok-clause-lends g c = λ m s shown.
    let written = c.write_from_fn.ensures.written in
    let lends = c.in-Ok.ensures.lends m s shown in
    let wrote = written.3 m lends.0 lends.1 in
    let next = c.in-Ok.ensures.loan.lent.number
    ∙ sym (ap (λ (t : State g.row.T.Denot g.row.U.Denot). t.next_message) shown.state) in (
      wrote.2,
      wrote.4,
      (
        written.0,
        (lends.2).0,
        (lends.2).1,
        default-grants s lends.0 wrote.2 c.args.self.now.publisher.id c.in-Ok.loan.sample.loan.number next wrote.0
            wrote.1 g.T.Default.is_default written.0
            (all-answers _ g.T.Default.is_default (λ f i value h stepped. search rules) _ written.0 written.1)
            (lends.2).0 c.args.slice_len (lends.2).2 wrote.3,
      ),
    )

pub returns-in-Ok-clause-reads : goal.returns-in-Ok-clause-reads
returns-in-Ok-clause-reads g c =
    let written = c.write_from_fn.ensures.written in (
      written.0,
      all-answers _ g.T.Default.is_default (λ f i value h stepped. search rules) _ written.0 written.1,
      c.write_from_fn.ensures.becomes.lengths (replicate c.args.slice_len None) written.0 c.in-Ok.ensures.unfilled.cells
          written.2 ∙ length-replicate {A = Option g.row.T.Denot} c.args.slice_len None,
      written.2,
    )

pub returns-in-Err-clause-lends : goal.returns-in-Err-clause-lends
returns-in-Err-clause-lends g c = λ m s shown.
    let lends = c.in-Err.ensures.lends m s shown in (
      lends.0,
      lends.1,
      (
        (lends.2).0,
        default-refused s lends.0 c.args.self.now.publisher.id c.in-Err.error g.T.Default.is_default
            c.args.slice_len (lends.2).1,
      ),
    )
