use Rattle.std.proofs.Common.{◌≡◌, ◌<◌, ◌≤◌, ◌∙◌, ◌==◌, ℕ, [], None, cond, vec_capacity, length, replicate, take, refl}
use Rattle.std.proofs.Common.{ap, sym, arith}
use Rattle.std.proofs.lemmas.Bool.Decides.{nat_tests}
use Rattle.std.proofs.lemmas.List.{length-replicate, take-replicate}
use Rattle.iox2_contents.proofs.LeftLists.{no-items}
use Rattle.iox2_contents.proofs.cells.Cells.cells.Goals as goal

-- where some cells aren't listed, there is no room in a list
no-room : (cap unlisted : ℕ) → 0 < unlisted → 0 < cond {A = ℕ} (cap == 1) 0 1 → (1 < cap → unlisted ≡ 0) → cap ≡ 0
no-room cap unlisted some lists all = grind (arith, nat_tests)

pub returns : goal.returns
returns g c =
    let some : 0 < c.self.inside.unlisted = omega (arith, c.if-self-eq0.false) in
    let lists : 0 < cond {A = ℕ} (vec_capacity c.self.inside.listed == 1) 0 1 =
    rw (← c.self.view_is) at c.requires.lists in
    let cap : vec_capacity c.self.inside.listed ≡ 0 =
    no-room (vec_capacity c.self.inside.listed) c.self.inside.unlisted some lists c.self.invariant.1 in
    let none : c.self.inside.listed.items ≡ [] = no-items c.self.inside.listed.items
    (omega (arith, cap, c.self.inside.listed.ok.0, c.self.inside.listed.ok.1)) in
    let shown : c.args.self.now.items ≡ replicate c.self.inside.unlisted None = rw (← c.self.view_is, none) refl in
    let enough : c.self.inside.unlisted ≤ length c.args.unwritten.now =
    rw (shown, length-replicate) at c.requires.enough in
    ap (take c.self.inside.unlisted) c.requires.unwritten
    ∙ take-replicate c.self.inside.unlisted (length c.args.unwritten.now) None enough ∙ sym shown
