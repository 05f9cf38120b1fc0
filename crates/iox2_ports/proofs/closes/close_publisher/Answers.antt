use Rattle.std.proofs.Common.{None, slice_index_or, ap, sym, ◌∙◌}
use Rattle.iox2_domain.specs.Fields.{Fields}
use Rattle.iox2_steps.proofs.updates.MarkedEnds.{marks-publisher, closed-publisher}
use Rattle.iox2_ports.proofs.closes.close_publisher.Goals as goal

pub close_publisher-requires-clause-agrees : goal.close_publisher-requires-clause-agrees
close_publisher-requires-clause-agrees g c = c.unmark_publisher.ensures.clears.changes.agrees

pub close_publisher-requires-clause-stands : goal.close_publisher-requires-clause-stands
close_publisher-requires-clause-stands g c =
    let there = c.requires.stands in (
      there.0,
      (marks-publisher c.args.state.now c.unmark_publisher.new.state c.unmark_publisher.ensures.clears.changes
          c.args.place there.0 there.1).0,
    )

pub close_publisher-requires-clause-unblocked : goal.close_publisher-requires-clause-unblocked
close_publisher-requires-clause-unblocked g c = λ x at.
    c.requires.unblocked x
    (sym (ap (λ (f : Fields g.row.T.Denot g.row.U.Denot). slice_index_or f.publishers c.args.place None)
    c.unmark_publisher.ensures.clears.changes.fields) ∙ at)

pub returns : goal.returns
returns g c = λ x at.
    closed-publisher c.args.state.now c.unmark_publisher.new.state c.unmark_publisher.ensures.clears.changes
    c.args.place x at c.close_publisher.new.state c.close_publisher.ensures
