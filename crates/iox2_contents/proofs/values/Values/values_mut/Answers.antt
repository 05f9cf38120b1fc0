use Rattle.std.proofs.Common.{◌≡◌, ◌≤◌, ◌-◌, ◌∙◌, refl, ap, arith, take, vec_capacity, vec_len}
use Rattle.iox2_contents.proofs.LeftLists.{shown-each}
use Rattle.iox2_contents.proofs.values.Values.values_mut.Goals as goal

pub returns : goal.returns
returns g c =
    let kept : take c.self.inside.written c.self.inside.kept.items ≡ c.args.self.now.items =
    rw (← c.self.view_is) refl in
    let room : vec_capacity c.self.inside.kept ≡ c.args.self.now.room = rw (← c.self.view_is) refl in
    let within : c.self.inside.written ≤ vec_len c.self.inside.kept = rw c.self.inside.kept.ok.0 c.self.invariant in
    let count : c.self.inside.written - 0 ≡ c.self.inside.written = omega arith in (
      (
        refl,
        λ w. shown-each c.self.inside.written _ _ c.self.inside.kept.items w c.args.self.now within
            c.self.inside.kept.ok.0 kept room _ refl,
      ),
      record {
        writes_back = tt;
        value = c.slice_mut.ensures.value ∙ ap (λ k. take k c.self.inside.kept.items) count ∙ kept;
      },
    )
