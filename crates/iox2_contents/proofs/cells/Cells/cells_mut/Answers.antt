use Rattle.std.proofs.Common.{◌≡◌, ◌<◌, ◌+◌, ◌&&◌, ◌==◌, ◌∙◌, ℕ, cond, false, length, nat_lt, vec_capacity, refl, arith}
use Rattle.std.proofs.lemmas.Bool.Decides.{nat_tests}
use Rattle.std.proofs.lemmas.List.{append-nil, length-append, length-replicate}
use Rattle.iox2_contents.proofs.LeftLists.{cells-each}
use Rattle.iox2_contents.proofs.cells.Cells.cells_mut.Goals as goal

-- cells that don't wait are all listed
all-listed : (lists room listed unlisted : ℕ) → 0 < lists → lists ≡ cond {A = ℕ} (room == 1) 0 1
    → (nat_lt 0 lists && (room == 0 && nat_lt 0 (listed + unlisted))) ≡ false → (1 < room → unlisted ≡ 0) → unlisted ≡ 0
all-listed lists room listed unlisted some are ready full = grind (arith, nat_tests)

pub returns : goal.returns
returns g c =
    let none : c.self.inside.unlisted ≡ 0 = all-listed _ (vec_capacity c.self.inside.listed)
    (length c.self.inside.listed.items) c.self.inside.unlisted (rw (← c.self.view_is) at c.requires.lists) refl
    (rw (← c.self.view_is, length-append, length-replicate) at c.requires.ready) c.self.invariant.1 in (
      (
        refl,
        λ w. rw (← c.self.view_is, none, append-nil)
            (cells-each _ (vec_capacity c.self.inside.listed) _ _ _ w c.self.inside.listed.ok.0
            (append-nil c.self.inside.listed.items)),
      ),
      record { writes_back = tt; value = c.as_mut_slice.ensures.value ∙ rw (← c.self.view_is, none, append-nil) refl },
    )
