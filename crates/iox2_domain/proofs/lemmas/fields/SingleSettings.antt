-- The settings of a service whose messages are single values.
use Rattle.std.proofs.Common.{◌≡◌, true, false, ◌==◌, ◌&&◌, refl, ap}
use Rattle.std.proofs.lemmas.Bool.{eqb-true}
use Rattle.iox2_machine.specs.SingleValues.{is_fixed_size, is_single_valued}
use Rattle.iox2_machine.specs.declared.service_config.ServiceConfig.{ServiceConfig}
use Rattle.iox2_machine.specs.declared.service_config.TypeVariant.{TypeVariant}
use Rattle.iox2_machine.specs.declared.service_config.TypeVariant.TheVariants.{FixedSize, Dynamic}
use Rattle.iox2_connections.proofs.MailboxChanges.{both-true}

module _ (c : ServiceConfig) where
  -- it has both of these
  pub single-settings : is_single_valued c ≡ true → (c.variant ≡ FixedSize) × (c.units_per_element ≡ 1)
  single-settings e =
      let both = both-true (is_fixed_size c.variant) (c.units_per_element == 1) e in
      (by c.variant both.0, eqb-true c.units_per_element 1 both.1)
    where
      by : (v : TypeVariant) → is_fixed_size v ≡ true → v ≡ FixedSize
      by FixedSize e = refl
      by Dynamic e = absurd cc

  -- a service for slices is another one
  pub dynamic-several : c.variant ≡ Dynamic → is_single_valued c ≡ false
  dynamic-several dynamic = ap (λ (v : TypeVariant). is_fixed_size v && (c.units_per_element == 1)) dynamic
