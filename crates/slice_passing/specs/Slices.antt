-- What slices pass through.
use Rattle.std.specs.Prelude.{◌≡◌}
use Rattle.iox2_machine.specs.declared.service_config.TypeVariant.TheVariants.{Dynamic}
use Rattle.iox2_domain.specs.Kept.{Kept}
use Rattle.iox2_pubsub.specs.Slices.{IsSliced}

-- The domain has slices, each of whose elements is one unit.
pub record PassesSlices {T U F G : Type 0} (domain : Kept T U F G) : Type 0 where
  pub dynamic : (domain.config).variant ≡ Dynamic
  pub one_unit : (domain.config).units_per_element ≡ 1
  pub sliced : IsSliced domain
