use Rattle.std.proofs.Common.{◌≡◌, ◌∙◌, ap, slice_index_or, None, Some, sym}
use Rattle.iox2_domain.specs.Fields.{Fields}
use Rattle.iox2_domain.proofs.lemmas.slots.PublisherBooks.{read-there}
use Rattle.iox2_updates.proofs.connects.ports_at.Goals.{in_default-via-in-Some+in_default, in_default-via-in_default}
use Rattle.iox2_updates.proofs.connects.ports_at.Goals as goal

pub unreachable-requires : goal.unreachable-requires
unreachable-requires g c =
    let x = c.requires.publisher in
    let y = c.requires.subscriber in
    let at_x : slice_index_or c.state.inside.publishers.items c.args.at.publisher None ≡ Some x.0 =
    ap (λ (f : Fields g.row.T.Denot g.row.U.Denot). slice_index_or f.publishers c.args.at.publisher None)
    c.state.view_is ∙ x.1 in
    let at_y : slice_index_or c.state.inside.subscribers.items c.args.at.subscriber None ≡ Some y.0 =
    ap (λ (f : Fields g.row.T.Denot g.row.U.Denot). slice_index_or f.subscribers c.args.at.subscriber None)
    c.state.view_is ∙ y.1 in
    elim c.in_default.branch [
      | in_default-via-in-Some+in_default w ↦ let no : None ≡ Some y.0 =
          sym (read-there _ c.args.at.subscriber _ _ at_y c.index-2.ensures ∙ w.in_default.is-1) ∙ at_y in cc
      | in_default-via-in_default w ↦ let no : None ≡ Some x.0 =
          sym (read-there _ c.args.at.publisher _ _ at_x c.index.ensures ∙ w.in_default.is-0) ∙ at_x in cc
    ]
