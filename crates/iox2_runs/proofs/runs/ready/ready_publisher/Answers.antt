use Rattle.std.proofs.Common.{◌≡◌, sym, subst, ◌∙◌}
use Rattle.iox2_pubsub.specs.Live.{publisher_key}
use Rattle.iox2_pubsub.specs.declared.publisher.Publisher.{Publisher}
use Rattle.iox2_runs.specs.Tables.{IsUnblockedPort}
use Rattle.iox2_runs.specs.declared.runs.made.Made.TheVariants.{Publisher as MadePublisher}
use Rattle.iox2_runs.proofs.LiveEntries.{live_publisher, known_publisher, ready_publisher, shown_waits}
use Rattle.iox2_runs.proofs.runs.ready.ready_publisher.Goals as goal

pub is_blocked-requires : goal.is_blocked-requires
is_blocked-requires g c =
    record {
      live = live_publisher {T = g.row.T.Denot}
          {U = g.row.U.Denot} c.args.domain.now c.args.held c.requires c.in-Publisher.publisher c.in-Publisher.is;
    }

same_publisher : (p q : Publisher) → MadePublisher p ≡ MadePublisher q → p ≡ q
same_publisher p q e = cc

pub returns-then-is_blocked : goal.returns-then-is_blocked
returns-then-is_blocked g c = (
  sym c.in-Publisher.is,
  λ publisher is m s shown free.
      shown_waits {T = g.row.T.Denot} {U = g.row.U.Denot} c.args.domain.now (publisher_key c.in-Publisher.publisher)
      (known_publisher {T = g.row.T.Denot} {U = g.row.U.Denot} c.args.domain.now c.args.held c.requires
      c.in-Publisher.publisher c.in-Publisher.is) c.is_blocked.result c.is_blocked.ensures c.if-is_blocked.true m s
      shown
      (subst (λ (h : Publisher). IsUnblockedPort s h.id)
      (same_publisher publisher c.in-Publisher.publisher (sym is ∙ c.in-Publisher.is)) free),
)

pub returns-else-is_blocked : goal.returns-else-is_blocked
returns-else-is_blocked g c = (
  c.in-Publisher.is,
  ready_publisher {T = g.row.T.Denot} {U = g.row.U.Denot} c.args.domain.now c.args.held c.requires
      c.in-Publisher.publisher c.in-Publisher.is (c.is_blocked.ensures.0 c.if-is_blocked.false),
)
