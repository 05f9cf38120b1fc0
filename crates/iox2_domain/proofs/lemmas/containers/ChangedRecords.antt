-- A record changes at its place, and keeps its id.
use Rattle.std.proofs.Common.{◌≡◌, ◌≢◌, ℕ, zero, suc, List, [], ◌∷◌, map, get_or, slice_set, Bool, true, false, cond}
use Rattle.std.proofs.Common.{eqb, refl, ap, sym, ◌∙◌, inl, inr, ◌⊎◌, arith}
use Rattle.std.proofs.lemmas.Bool.{cases_eq}
use Rattle.std.proofs.lemmas.List.{get_or-set_same, get_or-set_other}
use Rattle.std.specs.declared.option.Option.{Option}
use Rattle.std.specs.declared.option.Option.TheVariants.{None, Some}
use Rattle.std.specs.Option.{option_map}
use Rattle.iox2_machine.specs.machine.Numbers.{put_at}
use Rattle.iox2_connections.specs.LookUp.{look_up, IsOnly}
use Rattle.iox2_connections.proofs.LookUps.{look_up-changed}
use Rattle.iox2_connections.proofs.MailboxChanges.{within_if_some}
use Rattle.iox2_domain.specs.Kept.{Named, port_named, ids, is_named}

module _ {A : Type 0} (xs : List (Option A)) (i : ℕ) (x x' : A) (at : get_or xs i None ≡ Some x) where
  -- the changed record stands there
  pub changed-here : get_or (slice_set xs i (Some x')) i None ≡ Some x'
  changed-here = get_or-set_same xs i (Some x') None (within_if_some xs i x at)

  -- the others stand where they stood
  pub changed-others : (k : ℕ) → k ≢ i → get_or (slice_set xs i (Some x')) k None ≡ get_or xs k None
  changed-others k away = get_or-set_other xs i k (Some x') None away

  -- who stands somewhere is the changed one, or stood there before
  pub changed-stood : (k : ℕ) (y : A) → get_or (slice_set xs i (Some x')) k None ≡ Some y
      → ((k ≡ i) × (y ≡ x')) ⊎ (get_or xs k None ≡ Some y)
  changed-stood k y at_y = elim (cases_eq k i) [
    | inl here ↦
        let there : get_or (slice_set xs i (Some x')) i None ≡ Some y =
        sym (ap (λ (n : ℕ). get_or (slice_set xs i (Some x')) n None) here) ∙ at_y in
        let same : Some x' ≡ Some y = sym changed-here ∙ there in
        let is : y ≡ x' = cc in
        inl (here, is)
    | inr away ↦ inr (sym (changed-others k away) ∙ at_y)
  ]

  -- who stood somewhere is the one that changed, or still stands there
  pub changed-still : (k : ℕ) (y : A) → get_or xs k None ≡ Some y
      → ((k ≡ i) × (y ≡ x)) ⊎ (get_or (slice_set xs i (Some x')) k None ≡ Some y)
  changed-still k y at_y = elim (cases_eq k i) [
    | inl here ↦
        let there : get_or xs i None ≡ Some y = sym (ap (λ (n : ℕ). get_or xs n None) here) ∙ at_y in
        let same : Some x ≡ Some y = sym at ∙ there in
        let is : y ≡ x = cc in
        inl (here, is)
    | inr away ↦ inr (changed-others k away ∙ at_y)
  ]

  -- at most one passes the test, still
  pub changed-only : (test : A → Bool) → test x' ≡ test x → IsOnly test xs → IsOnly test (slice_set xs i (Some x'))
  changed-only test same only = record {
    one = λ a b y z at_y at_z is_y is_z. elim (changed-stood a y at_y) [
      | inl here ↦
          let is_x : test x ≡ true = sym same ∙ sym (ap test here.1) ∙ is_y in
          elim (changed-stood b z at_z) [
            | inl there ↦ here.0 ∙ sym there.0
            | inr old ↦ here.0 ∙ only.one i b x z at old is_x is_z
          ]
      | inr old ↦ elim (changed-stood b z at_z) [
        | inl there ↦
            let is_x : test x ≡ true = sym same ∙ sym (ap test there.1) ∙ is_z in
            only.one a i y x old at is_y is_x ∙ sym there.0
        | inr older ↦ only.one a b y z old older is_y is_z
      ]
    ];
  }

module _ {A : Type 0} (ns : List (Option (Named A))) (i : ℕ) (n n' : Named A) (at : get_or ns i None ≡ Some n)
    (same : n'.id ≡ n.id) where
  -- ids stay where they are
  pub changed-ids : ids (slice_set ns i (Some n')) ≡ ids ns
  changed-ids = by ns i at where
    by : (ms : List (Option (Named A))) (k : ℕ) → get_or ms k None ≡ Some n → ids (slice_set ms k (Some n')) ≡ ids ms
    by [] k e = refl
    by (m ∷ ms) zero e = (λ j. Some (same j) ∷ ids ms)
        ∙ ap (λ (o : Option (Named A)). option_map (λ (y : Named A). y.id) o ∷ ids ms) (sym e)
    by (m ∷ ms) (suc k) e = ap (λ zs. option_map (λ (y : Named A). y.id) m ∷ zs) (by ms k e)

  -- the ports by id, with the changed one
  pub changed-ports : ((id : ℕ) → IsOnly (is_named id) ns) → (id : ℕ)
      → port_named id (slice_set ns i (Some n')) ≡ put_at (λ k. port_named k ns) n.id (Some n'.port) id
  changed-ports only id =
      ap port (look_up-changed (is_named id) ns (slice_set ns i (Some n')) i n n' (only id)
      (changed-only ns i n n' at (is_named id) (ap (λ k. eqb k id) same) (only id)) at
      (changed-here ns i n n' at) (changed-others ns i n n' at) (ap (λ k. eqb k id) same))
      ∙ by (eqb n'.id id) (eqb id n.id) (ap (λ k. eqb k id) same ∙ symmetric n.id id) (look_up (is_named id) ns)
    where
      port : Option (Named A) → Option A
      port o = option_map (λ (z : Named A). z.port) o

      symmetric : (a b : ℕ) → eqb a b ≡ eqb b a
      symmetric a b = grind arith

      by : (a b : Bool) → a ≡ b → (o : Option (Named A)) → port (cond a (Some n') o) ≡ cond b (Some n'.port) (port o)
      by true b e o = rw (sym e) refl
      by false b e o = rw (sym e) refl

-- views that agree wherever a record stands
pub map-agrees : {A B : Type 0} (f g : A → B) (xs : List (Option A))
    → ((i : ℕ) (x : A) → get_or xs i None ≡ Some x → f x ≡ g x)
    → map (option_map f) xs ≡ map (option_map g) xs
map-agrees f g [] same = refl
map-agrees f g (None ∷ xs) same = ap (λ ys. None ∷ ys) (map-agrees f g xs (λ i x at. same (suc i) x at))
map-agrees f g (Some y ∷ xs) same =
    λ i. Some (same zero y refl i) ∷ map-agrees f g xs (λ k x at. same (suc k) x at) i

-- keys that lead to the same
pub ends-agree : {B : Type 0} (f g : Option ℕ → B) → f None ≡ g None → (keys : List (Option ℕ))
    → ((i key : ℕ) → get_or keys i None ≡ Some key → f (Some key) ≡ g (Some key)) → map f keys ≡ map g keys
ends-agree f g none [] same = refl
ends-agree f g none (None ∷ keys) same = λ i. none i ∷ ends-agree f g none keys (λ k key at. same (suc k) key at) i
ends-agree f g none (Some key ∷ keys) same =
    λ i. same zero key refl i ∷ ends-agree f g none keys (λ k key at. same (suc k) key at) i
