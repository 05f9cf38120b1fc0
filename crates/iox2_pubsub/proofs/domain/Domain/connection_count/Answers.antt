use Rattle.std.proofs.Common.{ap, ◌∙◌}
use Rattle.std.specs.List.{count_by}
use Rattle.std.specs.Option.{is_some}
use Rattle.slab.specs.Slab.{slab_len}
use Rattle.iox2_domain.specs.Fields.{between_of}
use Rattle.iox2_domain.specs.Kept.{Kept}
use Rattle.iox2_pubsub.specs.declared.domain.Domain.TheInside.{Inside}
use Rattle.iox2_pubsub.proofs.KeptCounts.{count-mapped}
use Rattle.iox2_pubsub.proofs.domain.Domain.connection_count.Goals as goal

pub returns : goal.returns
returns g c =
    let state = c.self.inside.state in
    c.len.ensures
    ∙ ap (λ (d : Inside g.row.T.Denot g.row.U.Denot g.row.F.Denot g.row.G.Denot). slab_len d.state.connections)
    c.self-inside.view_is
    ∙ count-mapped (between_of state.books state.connections) state.connections.slots
    ∙ ap (λ (k : Kept g.row.T.Denot g.row.U.Denot g.row.F.Denot g.row.G.Denot). count_by is_some k.connections)
    c.self.view_is
