use Rattle.std.proofs.Common.{slice_index_or, None, ap, subst, ◌∙◌}
use Rattle.iox2_machine.specs.machine.State.{State}
use Rattle.iox2_domain.specs.Fields.{Fields}
use Rattle.iox2_domain.specs.Reaches.{Reaches}
use Rattle.iox2_domain.proofs.lemmas.fields.ReachesShows.{reaches-then}
use Rattle.iox2_messages.proofs.OlderSlots.{older-reaches}
use Rattle.iox2_messages.proofs.older_slots.let_go_of_older.Goals as goal

pub returns-clause-reaches : goal.returns-clause-reaches
returns-clause-reaches g c =
    let at = (ap (λ (f : Fields g.row.T.Denot g.row.U.Denot). slice_index_or f.publishers c.args.place None)
    c.reclaim.ensures.only ∙ c.requires.stands.1) in
    reaches-then {T = g.row.T.Denot}
    {U = g.row.U.Denot} c.args.state.now c.reclaim.new.state c.clear_older.new.state _ _ c.reclaim.ensures.reaches
    (subst (λ (s : State g.row.T.Denot g.row.U.Denot). Reaches c.reclaim.new.state c.clear_older.new.state s)
    c.reclaim.ensures.reaches.state
    (older-reaches {T = g.row.T.Denot} {U = g.row.U.Denot} c.reclaim.new.state c.reclaim.ensures.reaches.agrees
    c.args.place c.requires.stands.0 at c.clear_older.new.state (c.clear_older.ensures c.requires.stands.0 at)))

pub returns-clause-same : goal.returns-clause-same
returns-clause-same g c =
    let at = (ap (λ (f : Fields g.row.T.Denot g.row.U.Denot). slice_index_or f.publishers c.args.place None)
    c.reclaim.ensures.only ∙ c.requires.stands.1) in
    ap (λ (f : Fields g.row.T.Denot g.row.U.Denot). f.publishers) (c.clear_older.ensures c.requires.stands.0 at).is
    ∙ ap (λ (f : Fields g.row.T.Denot g.row.U.Denot). f.publishers) c.reclaim.ensures.only
