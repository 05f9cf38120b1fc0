-- In which service a command names anything.
use Rattle.std.proofs.Common.{◌≡◌, ℕ, Bool, true, false, cond, refl, ap, eqb, ◌&&◌, not, Option, None}
use Rattle.std.proofs.lemmas.Bool.{eqb-true}
use Rattle.iox2_machine.specs.SingleValues.{is_fixed_size, is_single_valued}
use Rattle.iox2_machine.specs.machine.State.{State}
use Rattle.iox2_machine.specs.declared.service_config.ServiceConfig.{ServiceConfig}
use Rattle.iox2_machine.specs.declared.service_config.TypeVariant.{TypeVariant}
use Rattle.iox2_machine.specs.declared.service_config.TypeVariant.TheVariants.{FixedSize, Dynamic}
use Rattle.iox2_domain.specs.Kept.{Kept as Domain}
use Rattle.iox2_domain.proofs.lemmas.fields.SingleSettings.{single-settings}
use Rattle.iox2_pubsub.specs.Live.{IsSingleValued}
use Rattle.iox2_pubsub.specs.Slices.{HoldsSlices, IsSliced}
use Rattle.iox2_pubsub.proofs.LiveParts.{single-valued}
use Rattle.iox2_commands.specs.Step.{if_single_units, if_fixed_size, if_dynamic}
use Rattle.iox2_runs.specs.Services.{has_slices, lacks_cells}

module _ {T U A : Type 0} (s : State T U) (o : Option A) where
  -- what a command for one kind of messages names, by the variant, and by whether an element takes one unit
  abbrev fixed_named : TypeVariant → Bool → Option A
  fixed_named v one = cond one (elim v [ FixedSize ↦ o | Dynamic ↦ None ]) None

  abbrev dynamic_named : TypeVariant → Bool → Option A
  dynamic_named v one = cond one (elim v [ FixedSize ↦ None | Dynamic ↦ o ]) None

  -- where messages are single values it is named, elsewhere it isn't
  pub single_named : is_single_valued s.config ≡ true → if_single_units s (if_fixed_size s o) ≡ o
  single_named single = by (s.config).variant (eqb (s.config).units_per_element 1) single where
    by : (v : TypeVariant) (one : Bool) → (is_fixed_size v && one) ≡ true → fixed_named v one ≡ o
    by FixedSize true e = refl
    by FixedSize false e = absurd cc
    by Dynamic one e = absurd cc

  pub single_elsewhere : is_single_valued s.config ≡ false → if_single_units s (if_fixed_size s o) ≡ None
  single_elsewhere other = by (s.config).variant (eqb (s.config).units_per_element 1) other where
    by : (v : TypeVariant) (one : Bool) → (is_fixed_size v && one) ≡ false → fixed_named v one ≡ None
    by FixedSize true e = absurd cc
    by FixedSize false e = refl
    by Dynamic true e = refl
    by Dynamic false e = refl

  pub single_nothing : o ≡ None → if_single_units s (if_fixed_size s o) ≡ None
  single_nothing none = by (s.config).variant (eqb (s.config).units_per_element 1) where
    by : (v : TypeVariant) (one : Bool) → fixed_named v one ≡ None
    by FixedSize true = none
    by FixedSize false = refl
    by Dynamic true = refl
    by Dynamic false = refl

  -- and so where they are slices
  pub slice_named : has_slices s.config ≡ true → if_single_units s (if_dynamic s o) ≡ o
  slice_named slices = by (s.config).variant (eqb (s.config).units_per_element 1) slices where
    by : (v : TypeVariant) (one : Bool) → (not (is_fixed_size v) && one) ≡ true → dynamic_named v one ≡ o
    by FixedSize one e = absurd cc
    by Dynamic true e = refl
    by Dynamic false e = absurd cc

  pub slice_elsewhere : has_slices s.config ≡ false → if_single_units s (if_dynamic s o) ≡ None
  slice_elsewhere other = by (s.config).variant (eqb (s.config).units_per_element 1) other where
    by : (v : TypeVariant) (one : Bool) → (not (is_fixed_size v) && one) ≡ false → dynamic_named v one ≡ None
    by FixedSize true e = refl
    by FixedSize false e = refl
    by Dynamic true e = absurd cc
    by Dynamic false e = refl

  pub slice_nothing : o ≡ None → if_single_units s (if_dynamic s o) ≡ None
  slice_nothing none = by (s.config).variant (eqb (s.config).units_per_element 1) where
    by : (v : TypeVariant) (one : Bool) → dynamic_named v one ≡ None
    by FixedSize true = refl
    by FixedSize false = refl
    by Dynamic true = none
    by Dynamic false = refl

-- a service of slices has elements of one unit
pub slices-parts : (c : ServiceConfig) → has_slices c ≡ true → (c.variant ≡ Dynamic) × (c.units_per_element ≡ 1)
slices-parts c slices =
    let both = by c.variant (eqb c.units_per_element 1) slices in (both.0, eqb-true c.units_per_element 1 both.1)
  where
    by : (v : TypeVariant) (one : Bool) → (not (is_fixed_size v) && one) ≡ true → (v ≡ Dynamic) × (one ≡ true)
    by FixedSize one e = absurd cc
    by Dynamic true e = (refl, refl)
    by Dynamic false e = absurd cc

-- where none of the cells that commands need is lacking, those of slices of one unit an element are handed out
pub cells-listed : (c : ServiceConfig) → c.units_per_element ≡ 1 → lacks_cells c ≡ false → is_single_valued c ≡ false
    → c.lists_cells ≡ true
cells-listed c one has several =
    by c.variant (eqb c.units_per_element 1) c.lists_cells (ap (λ (units : ℕ). eqb units 1) one) has several where
      by : (v : TypeVariant) (single lists : Bool) → single ≡ true
          → ((not (is_fixed_size v) && single) && not lists) ≡ false → (is_fixed_size v && single) ≡ false
          → lists ≡ true
      by FixedSize true lists e has several = absurd cc
      by FixedSize false lists e has several = absurd cc
      by Dynamic true true e has several = refl
      by Dynamic true false e has several = absurd cc
      by Dynamic false lists e has several = absurd cc

module _ {T U F G : Type 0} (domain : Domain T U F G) where
  -- in a domain messages are single values, or slices
  pub single-here : is_single_valued domain.config ≡ true → IsSingleValued domain
  single-here single = let parts = single-settings domain.config single in single-valued domain parts.0 parts.1

  pub holds-here : is_single_valued domain.config ≡ false → HoldsSlices domain
  unfolding HoldsSlices
  holds-here several = several

  -- and their cells are handed out where the settings say so
  pub sliced-here : is_single_valued domain.config ≡ false → (domain.config).lists_cells ≡ true → IsSliced domain
  sliced-here several lists = record { holds = holds-here several; lists_cells = lists }
