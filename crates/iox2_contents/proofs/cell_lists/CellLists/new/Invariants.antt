use Rattle.std.proofs.Common.{◌≡◌, ◌<◌, ◌≤◌, ◌+◌, [], None, length, replicate, vec_capacity}
use Rattle.iox2_contents.specs.SpareLists.{FirstAnd, of_first}
use Rattle.iox2_contents.proofs.cell_lists.CellLists.new.Given as goal

abbrev pub invariant-loop : goal.invariant-loop
invariant-loop g l = record {
  kept : FirstAnd (λ shown. shown.items ≡ replicate (length shown.items) None)
      (λ shown list. (list.items ≡ []) × (length shown.items ≤ vec_capacity list) × (1 < vec_capacity list))
      l.lists.items;
  most : of_first (λ list. length list.items) l.lists.items ≡ l.longest;
  count : length l.lists.items ≡ l.counter + 1;
  len : l.lists.len ≡ l.counter + 1;
  capacity : l.lists.cap ≡ l.count + 1;
}
