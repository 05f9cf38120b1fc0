use Rattle.std.proofs.Common.{◌≡◌, ◌∙◌, length, max, vec_capacity, refl, arith}
use Rattle.std.proofs.lemmas.Grind.{common_steps}
use Rattle.std.proofs.lemmas.List.{length_push}
use Rattle.std.proofs.lemmas.List.Elements.{All-nil}
use Rattle.iox2_contents.proofs.ListsBehind.{FirstAnd-push, IsSpare, of_first-push}
use Rattle.iox2_contents.proofs.SlotSums.{replicated}
use Rattle.iox2_contents.proofs.cell_lists.CellLists.new.Goals as goal

pub loop-init : goal.loop-init
loop-init g c =
    let shown = replicated _ _ _ c.in_ok-unwritten_cells.ensures.unwritten in
    record {
      kept = rw (c.push_reserved.ensures.items, c.in_ok-lists.ensures.items) (shown.1, All-nil _);
      most = rw (c.push_reserved.ensures.items, c.in_ok-lists.ensures.items) shown.0;
      count = rw (c.push_reserved.ensures.items, c.in_ok-lists.ensures.items) refl;
      len = rw (c.push_reserved.ensures.len, c.in_ok-lists.ensures.len) refl;
      capacity = grind (arith, common_steps);
    }

pub loop-preserved : goal.loop-preserved
loop-preserved g c =
    let exact : vec_capacity c.in_ok-with_capacity.field-0 ≡ c.max.result = c.in_ok-with_capacity.ensures.exact in
    let long : c.max.result ≡ max c.args.longest 2 = c.max.ensures in
    record {
      kept = rw c.push_reserved-in-loop.ensures.items
          (FirstAnd-push _ (IsSpare {T = g.row.T.Denot}) c.loop.lists.items _ c.loop.invariant.kept (λ x is. (
            c.in_ok-with_capacity.ensures.items,
            omega (
              arith,
              exact,
              long,
              is (λ list. length list.items),
              c.loop.invariant.most,
            ),
            omega (arith, exact, long),
          )));
      most = rw c.push_reserved-in-loop.ensures.items
          (of_first-push _ c.loop.lists.items _ (omega (arith, c.loop.invariant.count)) ∙ c.loop.invariant.most);
      count = rw (c.push_reserved-in-loop.ensures.items, length_push) (omega (arith, c.loop.invariant.count));
      len = rw (c.push_reserved-in-loop.ensures.len, c.loop.invariant.len) refl;
      capacity = c.push_reserved-in-loop.ensures.capacity ∙ c.loop.invariant.capacity;
    }
