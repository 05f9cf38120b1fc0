use Rattle.std.proofs.Common.{◌≡◌, ◌<◌, ◌+◌, ◌-◌, ◌∙◌, ◌∷◌, [], ◌++◌, length, refl, ap, sym, arith}
use Rattle.std.proofs.lemmas.List.{length_push}
use Rattle.iox2_contents.proofs.ListsBehind.{FirstAnd-pop, IsSpare}
use Rattle.iox2_contents.proofs.cell_lists.CellLists.take.Goals as goal

pub invariant_of-self : goal.invariant_of-self
invariant_of-self g c =
    let is : c.self.inside.lists.items ≡ c.pop.new.self.items ++ c.in-Some.list ∷ [] =
    rw c.in-Some.is at c.pop.ensures.items in
    let count : length c.self.inside.lists.items ≡ length c.pop.new.self.items + 1 =
    ap length is ∙ length_push c.pop.new.self.items c.in-Some.list in
    let spare : 0 < length c.self.inside.lists.items - 1 = rw (← c.self.view_is) at c.requires in
    (FirstAnd-pop _ (IsSpare {T = g.row.T.Denot}) _ c.pop.new.self.items c.in-Some.list is
    (omega (arith, count, spare)) c.self.invariant).0

pub returns : goal.returns
returns g c =
    let is : c.self.inside.lists.items ≡ c.pop.new.self.items ++ c.in-Some.list ∷ [] =
    rw c.in-Some.is at c.pop.ensures.items in
    let count : length c.self.inside.lists.items ≡ length c.pop.new.self.items + 1 =
    ap length is ∙ length_push c.pop.new.self.items c.in-Some.list in
    let spare : 0 < length c.self.inside.lists.items - 1 = rw (← c.self.view_is) at c.requires in
    let popped = FirstAnd-pop _ (IsSpare {T = g.row.T.Denot}) _ c.pop.new.self.items c.in-Some.list is
    (omega (arith, count, spare)) c.self.invariant in
    let first = popped.1.2 (λ list. length list.items) in
    record {
      empty = popped.1.1.0;
      long = rw (← c.self.view_is, first.0) popped.1.1.1;
      wide = popped.1.1.2;
      most = rw (← c.self.view_is) (first.1 ∙ sym first.0);
      room = rw (← c.self.view_is, c.pop.ensures.capacity) refl;
      less = rw (← c.self.view_is) (omega (arith, count, spare));
    }
