use Rattle.std.proofs.Common.{◌≡◌, ◌∙◌, [], arith}
use Rattle.std.proofs.lemmas.List.{length-map}
use Rattle.iox2_contents.proofs.NewSlots.{new-contents, new-forms, new-lists, new-lists-are, without}
use Rattle.iox2_contents.proofs.contents.Contents.new.Goals as goal

pub shown_cells-longest-requires : goal.shown_cells-longest-requires
shown_cells-longest-requires g c = without c.args.in_lists c.args.lists _ c.lists_for-lists.ensures

pub new_slots-requires : goal.new_slots-requires
new_slots-requires g c = without c.args.in_lists c.args.lists _ c.lists_for-lists.ensures

pub invariant_of-result : goal.invariant_of-result
invariant_of-result g c =
    rw (c.in_ok-lists.ensures.most, c.in_ok-lists.ensures.spare, c.in_ok-lists.ensures.room)
    (new-lists g.U.Default.is_default c.args.room c.args.in_lists c.lists_for-lists.result
    (without c.args.in_lists c.args.lists _ c.lists_for-lists.ensures) _ c.shown_cells-longest.ensures.all
    c.shown_cells-longest.ensures.first
    _ _ c.in_ok-slots.ensures.new (omega arith))

pub returns-clause-len : goal.returns-clause-len
returns-clause-len g c = length-map c.in_ok-slots.slots.items _ ∙ c.in_ok-slots.ensures.count

pub returns-clause-default : goal.returns-clause-default
returns-clause-default g c = new-contents _ _ _ _ _ c.in_ok-slots.ensures.new _
    (λ content. g.U.Default.is_default content.user_header) (λ s is. is.default)

pub returns-clause-empty : goal.returns-clause-empty
returns-clause-empty g c = new-contents _ _ _ _ _ c.in_ok-slots.ensures.new _
    (λ content. (content.cells ≡ []) × (content.values ≡ [])) (λ s is. (is.cells, is.values))

pub returns-clause-room : goal.returns-clause-room
returns-clause-room g c =
    new-contents _ _ _ _ _ c.in_ok-slots.ensures.new _ (λ content. content.room ≡ c.args.room) (λ s is. is.rooms)

pub returns-clause-in_lists : goal.returns-clause-in_lists
returns-clause-in_lists g c = new-forms _ _ _ _ _ c.in_ok-slots.ensures.new _

pub returns-clause-lists : goal.returns-clause-lists
returns-clause-lists g c =
    rw c.in_ok-lists.ensures.room (new-lists-are _ _ _ _ _ c.in_ok-slots.ensures.new _ c.lists_for-lists.ensures)
