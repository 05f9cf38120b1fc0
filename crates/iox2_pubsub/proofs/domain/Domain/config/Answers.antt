use Rattle.std.proofs.Common.{ap, sym, ◌∙◌}
use Rattle.iox2_pubsub.proofs.SliceParts.{carries-as}
use Rattle.iox2_domain.specs.Fields.{kept_of}
use Rattle.iox2_domain.specs.Kept.{Kept, entries_of}
use Rattle.iox2_domain.specs.Kept.{state_of}
use Rattle.iox2_pubsub.proofs.AlwaysShows.{shows_itself}
use Rattle.iox2_pubsub.proofs.ForCallers.{consistent_shown}
use Rattle.iox2_pubsub.proofs.domain.Domain.config.Goals as goal

pub returns-clause-value : goal.returns-clause-value
returns-clause-value g c = c.config.ensures
    ∙ ap (λ (k : Kept g.row.T.Denot g.row.U.Denot g.row.F.Denot g.row.G.Denot). k.config) c.self.view_is

pub returns-clause-shown : goal.returns-clause-shown
returns-clause-shown g c =
    rw (← c.self.view_is) (
      entries_of (kept_of c.self.inside.state),
      shows_itself {T = g.row.T.Denot} {U = g.row.U.Denot} c.self.inside.state c.self.invariant,
    )

pub returns-clause-carries : goal.returns-clause-carries
returns-clause-carries g c = carries-as c.args.self.now c.config.result.now (sym (returns-clause-value g c))

pub returns-clause-consistent : goal.returns-clause-consistent
returns-clause-consistent g c =
    let it = shows_itself {T = g.row.T.Denot} {U = g.row.U.Denot} c.self.inside.state c.self.invariant in
    rw (← c.self.view_is)
    (consistent_shown _ (entries_of (kept_of c.self.inside.state)) (state_of (kept_of c.self.inside.state)) it)
