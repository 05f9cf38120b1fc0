use Rattle.std.proofs.Common.{◌∙◌, ap, sym, subst}
use Rattle.slab.specs.Slab.{get, ContainsKey}
use Rattle.iox2_connections.specs.declared.connection.Home.{Home}
use Rattle.iox2_domain.specs.Fields.{Fields}
use Rattle.iox2_domain.proofs.lemmas.slots.PublisherBooks.{book-stands, link-held}
use Rattle.iox2_updates.proofs.retirements.drop_connection.Goals as goal

pub index_mut-requires : goal.index_mut-requires
index_mut-requires g c =
    let at = ap (λ (f : Fields g.row.T.Denot g.row.U.Denot). get f.connections c.args.key) (sym c.state.view_is)
    ∙ c.index.ensures in
    subst (λ (f : Fields g.row.T.Denot g.row.U.Denot). ContainsKey f.books c.home-home.result.book)
    (sym c.state.view_is)
    (subst (λ (h : Home). ContainsKey (c.args.state.now).books h.book) (sym c.home-home.ensures.value)
    (book-stands c.args.state.now c.requires.agrees.parts c.args.key c.index.result.now at))

pub drop_waiting_at-requires : goal.drop_waiting_at-requires
drop_waiting_at-requires g c =
    let at = ap (λ (f : Fields g.row.T.Denot g.row.U.Denot). get f.connections c.args.key) (sym c.state.view_is)
    ∙ c.index.ensures in
    rw c.index.ensures
    (link-held c.args.state.now c.requires.agrees.parts c.args.key c.index.result.now at c.index_mut.result.now
    (ap (λ (h : Home). get (c.args.state.now).books h.book) (sym c.home-home.ensures.value)
    ∙ ap (λ (f : Fields g.row.T.Denot g.row.U.Denot). get f.books c.home-home.result.book) (sym c.state.view_is)
    ∙ c.index_mut.ensures.value))
