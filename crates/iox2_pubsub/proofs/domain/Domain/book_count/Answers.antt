use Rattle.std.proofs.Common.{ap, ◌∙◌}
use Rattle.std.specs.List.{count_by}
use Rattle.std.specs.Option.{is_some}
use Rattle.slab.specs.Slab.{slab_len}
use Rattle.iox2_domain.specs.Kept.{Kept}
use Rattle.iox2_pubsub.specs.declared.domain.Domain.TheInside.{Inside}
use Rattle.iox2_pubsub.proofs.KeptCounts.{count-kept_books}
use Rattle.iox2_pubsub.proofs.domain.Domain.book_count.Goals as goal

pub returns : goal.returns
returns g c =
    let state = c.self.inside.state in
    c.len.ensures
    ∙ ap (λ (d : Inside g.row.T.Denot g.row.U.Denot g.row.F.Denot g.row.G.Denot). slab_len d.state.books)
    c.self-inside.view_is
    ∙ count-kept_books state.contents 0 state.books.slots
    ∙ ap (λ (k : Kept g.row.T.Denot g.row.U.Denot g.row.F.Denot g.row.G.Denot). count_by is_some k.books) c.self.view_is
