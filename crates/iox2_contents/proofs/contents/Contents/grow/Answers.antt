use Rattle.std.proofs.Common.{◌≡◌, ◌≤◌, ◌∙◌, refl, arith}
use Rattle.iox2_contents.proofs.NewSlots.{adds, first-alike, grown-lists, of-contents, relisted, same-shown, some-slots}
use Rattle.iox2_contents.proofs.NewSlots.{without}
use Rattle.iox2_contents.proofs.contents.Contents.grow.Goals as goal

pub shown_cells-longest-requires : goal.shown_cells-longest-requires
shown_cells-longest-requires g c = without c.args.in_lists c.args.lists _ c.lists_for-lists.ensures

pub new_slots-requires : goal.new_slots-requires
new_slots-requires g c = without c.args.in_lists c.args.lists _ c.lists_for-lists.ensures

pub invariant_of-self-then-longest : goal.invariant_of-self-then-longest
invariant_of-self-then-longest g c =
    let are = of-contents _ (λ content. content.lists ≡ c.lists_for-lists.result) c.self.inside.slots.items _
    c.self.view_is (rw c.lists_for-lists.ensures c.requires.lists) in
    let some = some-slots _ c.self.inside.slots.items _ c.self.view_is c.requires.some in
    let most : c.longest.result ≡ c.self.inside.lists.most = c.longest.ensures in
    let long : c.shown_cells-longest.result ≤ c.self.inside.lists.most = omega (arith, most) in
    rw c.in_ok-append.ensures.items (grown-lists g.U.Default.is_default c.args.room c.args.in_lists
    c.lists_for-lists.result (without c.args.in_lists c.args.lists _ c.lists_for-lists.ensures)
    _ (λ listed. omega (arith, c.shown_cells-longest.ensures.all listed, long))
    (λ away. omega (arith, c.shown_cells-longest.ensures.first away, long))
    _ _ _ c.self.inside.slots.items c.in_ok-added.added.items c.self.invariant some are c.in_ok-added.ensures.new
    (omega arith) refl)

pub returns-then-longest-clause-grown : goal.returns-then-longest-clause-grown
returns-then-longest-clause-grown g c =
    let are = of-contents _ (λ content. content.lists ≡ c.lists_for-lists.result) c.self.inside.slots.items _
    c.self.view_is (rw c.lists_for-lists.ensures c.requires.lists) in
    let some = some-slots _ c.self.inside.slots.items _ c.self.view_is c.requires.some in
    adds g.U.Default.is_default c.args.room c.args.in_lists c.lists_for-lists.result c.in_ok-added.added.items
    c.in_ok-added.ensures.new _ _ c.self.inside.slots.items _ _ _ c.self.view_is
    (first-alike _ _ c.self.inside.slots.items some are) c.lists_for-lists.ensures c.in_ok-added.ensures.count
    c.in_ok-append.ensures.items

pub invariant_of-self-in_err-append-2 : goal.invariant_of-self-in_err-append-2
invariant_of-self-in_err-append-2 g c = rw c.in_err-append-2.ensures.items c.self.invariant

pub invariant_of-self-2 : goal.invariant_of-self-2
invariant_of-self-2 g c =
    let are = of-contents _ (λ content. content.lists ≡ c.lists_for-lists.result) c.self.inside.slots.items _
    c.self.view_is (rw c.lists_for-lists.ensures c.requires.lists) in
    let some = some-slots _ c.self.inside.slots.items _ c.self.view_is c.requires.some in
    let most : c.longest.result ≡ c.self.inside.lists.most = c.longest.ensures in
    let less : c.self.inside.lists.most ≤ c.shown_cells-longest.result = omega (arith, most) in
    rw (
      c.in_ok-longer.ensures.most,
      c.in_ok-longer.ensures.spare,
      c.in_ok-longer.ensures.room,
      c.in_ok-append-2.ensures.items,
    )
    (relisted g.U.Default.is_default c.args.room c.args.in_lists c.lists_for-lists.result
    (without c.args.in_lists c.args.lists _ c.lists_for-lists.ensures)
    c.shown_cells-longest.result c.shown_cells-longest.ensures.all c.shown_cells-longest.ensures.first
    _ _ _ c.self.inside.slots.items c.in_ok-added.added.items c.self.invariant some are c.in_ok-added.ensures.new less _
    (omega arith))

pub returns-clause-grown : goal.returns-clause-grown
returns-clause-grown g c =
    let are = of-contents _ (λ content. content.lists ≡ c.lists_for-lists.result) c.self.inside.slots.items _
    c.self.view_is (rw c.lists_for-lists.ensures c.requires.lists) in
    rw c.in_ok-longer.ensures.room
    (adds g.U.Default.is_default c.args.room c.args.in_lists c.lists_for-lists.result c.in_ok-added.added.items
    c.in_ok-added.ensures.new _ _ c.self.inside.slots.items _ _ _
    (same-shown _ _ c.self.inside.slots.items are ∙ c.self.view_is)
    (λ more. refl) c.lists_for-lists.ensures c.in_ok-added.ensures.count c.in_ok-append-2.ensures.items)
