-- One record of a list changes and keeps what it is known by, and a connection that was there is found among more.
use Rattle.std.proofs.Common.{◌≡◌, ℕ, List, get_or, slice_set, refl, ap, sym, subst, ◌∙◌, inl, inr}
use Rattle.std.proofs.lemmas.Option.{same_Some}
use Rattle.std.specs.declared.option.Option.{Option}
use Rattle.std.specs.declared.option.Option.TheVariants.{None, Some}
use Rattle.std.specs.Option.{IsSomeAnd}
use Rattle.slab.specs.Slab.{Slab, get}
use Rattle.iox2_connections.specs.Link.{Link}
use Rattle.iox2_domain.proofs.lemmas.containers.ChangedRecords.{changed-here, changed-stood, changed-still}
use Rattle.iox2_domain.proofs.lemmas.containers.Extensions.{Extends}

module _ {A : Type 0} (xs : List (Option A)) (i : ℕ) (x new : A) (at : get_or xs i None ≡ Some x)
    (Keeps : A → A → Type 0) (same : (z : A) → Keeps z z) (kept : Keeps x new) where
  -- who stands somewhere stood there before, and has kept that
  pub stood-before : (k : ℕ) (z : A) → get_or (slice_set xs i (Some new)) k None ≡ Some z
      → (w : A) × (get_or xs k None ≡ Some w) × Keeps w z
  stood-before k z at_z = elim (changed-stood xs i x new at k z at_z) [
    | inl here ↦ (x, ap (λ (n : ℕ). get_or xs n None) here.0 ∙ at, subst (Keeps x) (sym here.1) kept)
    | inr old ↦ (z, old, same z)
  ]

  -- who stood somewhere stands there, and keeps that
  pub stands-after : (k : ℕ) (z : A) → get_or xs k None ≡ Some z
      → (w : A) × (get_or (slice_set xs i (Some new)) k None ≡ Some w) × Keeps z w
  stands-after k z at_z = elim (changed-still xs i x new at k z at_z) [
    | inl here ↦ (
      new,
      ap (λ (n : ℕ). get_or (slice_set xs i (Some new)) n None) here.0 ∙ changed-here xs i x new at,
      subst (λ (v : A). Keeps v new) (sym here.1) kept,
    )
    | inr there ↦ (z, there, same z)
  ]

-- at one place stands one record
pub one-record : {A : Type 0} (xs : List (Option A)) (j k : ℕ) (y z : A) → get_or xs j None ≡ Some y
    → get_or xs k None ≡ Some z → j ≡ k → y ≡ z
one-record xs j k y z at_y at_z same = same_Some y z (sym at_y ∙ ap (λ (n : ℕ). get_or xs n None) same ∙ at_z)

-- a connection at a key where one was is that one
pub known-before : (old new : Slab Link) → Extends old new → (P : Link → Type 0) (key : ℕ) (c : Link)
    → get new key ≡ Some c → IsSomeAnd (get old key) P → get old key ≡ Some c
known-before old new more P key c at_c some = by (get old key) refl some where
  by : (o : Option Link) → get old key ≡ o → IsSomeAnd o P → get old key ≡ Some c
  by None e h = absurd h
  by (Some d) e h = e ∙ sym (more.grows key d e) ∙ at_c
