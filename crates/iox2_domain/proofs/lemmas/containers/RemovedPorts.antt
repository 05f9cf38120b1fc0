-- A port goes from the list of places.
use Rattle.std.proofs.Common.{◌≡◌, ◌≢◌, ℕ, zero, suc, List, [], ◌∷◌, Bool, true, false, cond, eqb, get_or, slice_set}
use Rattle.std.proofs.Common.{refl, ap, sym, ◌∙◌, arith}
use Rattle.std.proofs.lemmas.Bool.{eq-eqb}
use Rattle.std.specs.declared.option.Option.{Option}
use Rattle.std.specs.declared.option.Option.TheVariants.{None, Some}
use Rattle.std.specs.Option.{option_map}
use Rattle.iox2_machine.specs.machine.Numbers.{put_at}
use Rattle.iox2_machine.specs.machine.Places.{vacated, is_port}
use Rattle.iox2_connections.specs.LookUp.{look_up, IsOnly}
use Rattle.iox2_domain.specs.Kept.{Named, port_named, ids, is_named}
use Rattle.iox2_domain.proofs.lemmas.containers.LookUps.{IsOnly-removed, look_up-removed}

-- its place is free
pub removed-ids : {A : Type 0} (ns : List (Option (Named A))) (i : ℕ) (n : Named A) → get_or ns i None ≡ Some n
    → IsOnly (is_named n.id) ns
    → ids (slice_set ns i None) ≡ vacated n.id (ids ns)
removed-ids {A} ns i n at only =
    by ns i at (λ k m at_m same. only.one k i m n at_m at same (eq-eqb n.id n.id refl)) where
      id_of : Option (Named A) → Option ℕ
      id_of o = option_map (λ (m : Named A). m.id) o

      free : Option ℕ → Option ℕ
      free x = cond (is_port x n.id) None x

      others : (ms : List (Option (Named A)))
          → ((k : ℕ) (m : Named A) → get_or ms k None ≡ Some m → eqb m.id n.id ≡ true → ⊥)
          → ids ms ≡ vacated n.id (ids ms)
      others [] none = refl
      others (None ∷ ms) none = ap (λ (xs : List (Option ℕ)). None ∷ xs) (others ms (λ k m at_m. none (suc k) m at_m))
      others (Some m ∷ ms) none = λ j. own (eqb m.id n.id) refl j ∷ others ms (λ k o at_o. none (suc k) o at_o) j where
        own : (b : Bool) → eqb m.id n.id ≡ b → Some m.id ≡ free (Some m.id)
        own true e = absurd (none zero m refl e)
        own false e = sym (ap (λ (t : Bool). cond t None (Some m.id)) e)

      by : (ms : List (Option (Named A))) (k : ℕ) → get_or ms k None ≡ Some n
          → ((j : ℕ) (m : Named A) → get_or ms j None ≡ Some m → eqb m.id n.id ≡ true → j ≡ k)
          → ids (slice_set ms k None) ≡ vacated n.id (ids ms)
      by [] zero e one = absurd cc
      by [] (suc k) e one = absurd cc
      by (o ∷ ms) zero e one =
          λ j.
          here j ∷ others ms (λ k m at_m same. let no : suc k ≡ zero = one (suc k) m at_m same in absurd cc) j where
            here : None ≡ free (id_of o)
            here = sym (ap free (ap id_of e) ∙ ap (λ (t : Bool). cond t None (Some n.id)) (eq-eqb n.id n.id refl))
      by (o ∷ ms) (suc k) e one =
          λ j. stay o refl j ∷ by ms k e
          (λ j m at_m same. let next : suc j ≡ suc k = one (suc j) m at_m same in cc) j where
            stay : (p : Option (Named A)) → o ≡ p → id_of o ≡ free (id_of o)
            stay None is = ap id_of is ∙ sym (ap free (ap id_of is))
            stay (Some m) is = own (eqb m.id n.id) refl where
              own : (b : Bool) → eqb m.id n.id ≡ b → id_of o ≡ free (id_of o)
              own true same = absurd (let no : zero ≡ suc k = one zero m is same in cc)
              own false away =
                  ap id_of is ∙ sym (ap free (ap id_of is) ∙ ap (λ (t : Bool). cond t None (Some m.id)) away)

-- and the ports by id
pub removed-ports : {A : Type 0} (ns : List (Option (Named A))) (i : ℕ) (n : Named A) → get_or ns i None ≡ Some n
    → ((id : ℕ) → IsOnly (is_named id) ns)
    → get_or (slice_set ns i None) i None ≡ None
    → ((k : ℕ) → k ≢ i → get_or (slice_set ns i None) k None ≡ get_or ns k None)
    → (id : ℕ) → port_named id (slice_set ns i None) ≡ put_at (λ k. port_named k ns) n.id None id
removed-ports {A} ns i n at only none others id =
    ap port (look_up-removed (is_named id) ns (slice_set ns i None) i n (only id)
    (IsOnly-removed (is_named id) ns (slice_set ns i None) i (only id) none others) at none others)
    ∙ by (eqb n.id id) (eqb id n.id) (symmetric n.id id) (look_up (is_named id) ns)
  where
    port : Option (Named A) → Option A
    port o = option_map (λ (z : Named A). z.port) o

    symmetric : (a b : ℕ) → eqb a b ≡ eqb b a
    symmetric a b = grind arith

    by : (a b : Bool) → a ≡ b → (o : Option (Named A)) → port (cond a None o) ≡ cond b None (port o)
    by true b e o = rw (sym e) refl
    by false b e o = rw (sym e) refl
