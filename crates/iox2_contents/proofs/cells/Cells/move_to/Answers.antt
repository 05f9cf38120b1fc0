use Rattle.std.proofs.Common.{◌≡◌, ◌++◌, ◌∙◌, None, true, replicate, refl, sym}
use Rattle.std.proofs.lemmas.List.{append-nil}
use Rattle.std.specs.List.{list_all}
use Rattle.std.specs.Option.{is_some}
use Rattle.iox2_contents.proofs.LeftLists.{all-written}
use Rattle.iox2_contents.proofs.cells.Cells.move_to.Goals as goal

pub move_values-values-requires-clause-written : goal.move_values-values-requires-clause-written
move_values-values-requires-clause-written g c =
    let written : list_all is_some (c.self.inside.listed.items ++ replicate c.self.inside.unlisted None) ≡ true =
    rw (← c.self.view_is) at c.requires.written in
    rw c.as_mut_slice.ensures.value (all-written c.self.inside.listed.items c.self.inside.unlisted written).0

pub returns : goal.returns
returns g c =
    let written : list_all is_some (c.self.inside.listed.items ++ replicate c.self.inside.unlisted None) ≡ true =
    rw (← c.self.view_is) at c.requires.written in
    let none : c.self.inside.unlisted ≡ 0 = (all-written c.self.inside.listed.items c.self.inside.unlisted written).1 in
    record {
      values = c.move_values-values.ensures.values ∙ c.as_mut_slice.ensures.value
          ∙ rw (← c.self.view_is, none) (sym (append-nil c.self.inside.listed.items));
      capacity = c.move_values-values.ensures.capacity;
      cleared = rw (← c.self.view_is, none, c.clear.ensures.items, c.clear.ensures.capacity) refl;
    }
