use Rattle.std.proofs.Common.{rules, ◌∙◌}
use Rattle.std.proofs.lemmas.Fn.{filter_same}
use Rattle.std.specs.List.{filter}
use Rattle.iox2_domain.proofs.lemmas.boxes.KeptBoxes.{is_other, boxes_of-without, boxes_of-others, boxes_of-last}
use Rattle.iox2_domain.proofs.lemmas.boxes.KeptBoxes.{boxes_of-before}
use Rattle.iox2_domain.proofs.boxes.Boxes.add.Goals as goal

pub returns-clause-its : goal.returns-clause-its
returns-clause-its g c =
    let kept = filter_same _ (is_other c.args.id) _ (λ x b f' k. search rules) _ _ c.retain.ensures.filtered in
    rw (c.push_reserved.ensures.items, kept)
    (boxes_of-last c.args.id c.args.boxes (filter (is_other c.args.id) c.self.inside.kept.items)
    (boxes_of-without c.args.id c.self.inside.kept.items))

pub returns-clause-others : goal.returns-clause-others
returns-clause-others g c = λ port other.
    let kept = filter_same _ (is_other c.args.id) _ (λ x b f' k. search rules) _ _ c.retain.ensures.filtered in
    rw (c.push_reserved.ensures.items, kept, ← c.self.view_is)
    (boxes_of-before c.args.id port c.args.boxes other (filter (is_other c.args.id) c.self.inside.kept.items)
    ∙ boxes_of-others c.args.id port other c.self.inside.kept.items)
