-- One record of a list of places is written over by another that passes the same tests.
use Rattle.std.proofs.Common.{◌≡◌, ◌≢◌, ℕ, List, Bool, true, cond, get_or, slice_set, ap, sym, ◌∙◌, inl, inr}
use Rattle.std.proofs.lemmas.Bool.{cases_eq}
use Rattle.std.proofs.lemmas.List.{get_or-set_same, get_or-set_other}
use Rattle.std.specs.declared.option.Option.{Option}
use Rattle.std.specs.declared.option.Option.TheVariants.{None, Some}
use Rattle.iox2_connections.specs.LookUp.{look_up, IsOnly}
use Rattle.iox2_connections.proofs.LookUps.{look_up-changed}
use Rattle.iox2_connections.proofs.MailboxChanges.{within_if_some}

module _ {A : Type 0} (xs : List (Option A)) (i : ℕ) (x y : A) (at : get_or xs i None ≡ Some x) where
  -- the new record stands at the place
  pub set-here : get_or (slice_set xs i (Some y)) i None ≡ Some y
  set-here = get_or-set_same xs i (Some y) None (within_if_some xs i x at)

  -- the others stand where they stood
  pub set-others : (k : ℕ) → k ≢ i → get_or (slice_set xs i (Some y)) k None ≡ get_or xs k None
  set-others k away = get_or-set_other xs i k (Some y) None away

  module _ (test : A → Bool) (same : test y ≡ test x) (only : IsOnly test xs) where
    -- the test holds of one record at most, still
    pub IsOnly-set : IsOnly test (slice_set xs i (Some y))
    IsOnly-set = record {
      one = λ j k v w at_j at_k is_v is_w.
          let a = before j v at_j is_v in
          let b = before k w at_k is_w in
          only.one j k a.0 b.0 a.1 b.1 a.2 b.2;
    } where
      before : (k : ℕ) (z : A) → get_or (slice_set xs i (Some y)) k None ≡ Some z → test z ≡ true
          → (w : A) × (get_or xs k None ≡ Some w) × (test w ≡ true)
      before k z here is = elim (cases_eq k i) [
        | inl at_place ↦
            let there : get_or (slice_set xs i (Some y)) i None ≡ Some z =
            sym (ap (λ (n : ℕ). get_or (slice_set xs i (Some y)) n None) at_place) ∙ here in
            let found : Some y ≡ Some z = sym set-here ∙ there in
            let is_y : test y ≡ true = cc in
            (x, rw at_place at, sym same ∙ is_y)
        | inr away ↦ (z, sym (set-others k away) ∙ here, is)
      ]

    -- what is found
    pub look_up-set : look_up test (slice_set xs i (Some y)) ≡ cond (test y) (Some y) (look_up test xs)
    look_up-set = look_up-changed test xs (slice_set xs i (Some y)) i x y only IsOnly-set at set-here set-others same
