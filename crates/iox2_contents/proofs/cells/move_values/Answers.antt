use Rattle.std.proofs.Common.{◌∙◌, ◌∷◌, [], ◌++◌, None, take, refl, ap, sym, arith}
use Rattle.std.proofs.lemmas.List.{get_or-set_other, map-append, replicate_more, take_more, take_more_set}
use Rattle.iox2_contents.proofs.cells.move_values.Goals as goal

pub unwrap-requires : goal.unwrap-requires
unwrap-requires g c =
    rw (c.take.ensures.value, c.loop-cell.invariant.rest c.loop-cell.cell-index c.cell-item.result (omega arith))
    (c.requires.written c.loop-cell.cell-index c.cell-item.result c.loop-cell-test.true)

pub loop-cell-preserved : goal.loop-cell-preserved
loop-cell-preserved g c =
    let written = sym c.unwrap.ensures ∙ c.take.ensures.value
    ∙ c.loop-cell.invariant.rest c.loop-cell.cell-index c.cell-item.result (omega arith) in
    record {
      values = rw (
        c.push_reserved.ensures.items,
        map-append,
        c.loop-cell.invariant.values,
        take_more c.args.cells.now c.loop-cell.cell-index c.cell-item.result c.loop-cell-test.true,
      )
          (ap (λ x. take c.loop-cell.cell-index c.args.cells.now ++ x ∷ []) written);
      emptied = take_more_set c.loop-cell.cells c.loop-cell.cell-index _
          (omega (arith, c.loop-cell.auto.cells, c.loop-cell-test.true))
          ∙ rw (c.loop-cell.invariant.emptied, c.take.ensures.after) (replicate_more c.loop-cell.cell-index None);
      rest = λ k d high. get_or-set_other c.loop-cell.cells c.loop-cell.cell-index k _ d
          (λ same. omega (arith, same, high)) ∙ c.loop-cell.invariant.rest k d (omega (arith, high));
      len = rw (c.push_reserved.ensures.len, c.loop-cell.invariant.len) refl;
      capacity = c.push_reserved.ensures.capacity ∙ c.loop-cell.invariant.capacity;
    }
