use Rattle.std.proofs.Common.{None, slice_index_or, sym, subst}
use Rattle.std.specs.Option.{IsSome}
use Rattle.iox2_domain.specs.Fields.{Fields}
use Rattle.iox2_steps.proofs.updates.MarkedEnds.{closed-subscriber}
use Rattle.iox2_ports.proofs.closes.close_subscriber.Goals as goal

pub close_subscriber-requires-clause-agrees : goal.close_subscriber-requires-clause-agrees
close_subscriber-requires-clause-agrees g c = c.unmark_subscriber.ensures.clears.changes.agrees

pub close_subscriber-requires-clause-stands : goal.close_subscriber-requires-clause-stands
close_subscriber-requires-clause-stands g c =
    subst (λ (f : Fields g.row.T.Denot g.row.U.Denot). IsSome (slice_index_or f.subscribers c.args.place None))
    (sym c.unmark_subscriber.ensures.clears.changes.fields) c.requires.stands

pub returns : goal.returns
returns g c = λ y at.
    closed-subscriber c.args.state.now c.unmark_subscriber.new.state c.unmark_subscriber.ensures.clears.changes
    c.args.place y at c.close_subscriber.new.state c.close_subscriber.ensures
