-- What a new domain is.
use Rattle.std.specs.Prelude.{◌≡◌, ◌<◌, ℕ, true}
use Rattle.iox2_machine.specs.machine.Limits.{last_number}
use Rattle.iox2_machine.specs.machine.State.{fresh, no_messages}
use Rattle.iox2_machine.specs.declared.service_config.ServiceConfig.{ServiceConfig}
use Rattle.iox2_machine.specs.declared.service_config.TypeVariant.TheVariants.{Dynamic, FixedSize}
use Rattle.iox2_domain.specs.Kept.{Kept}
use Rattle.iox2_domain.specs.Shows.{Shows}
use Rattle.iox2_pubsub.specs.Live.{IsSingleValued}
use Rattle.iox2_pubsub.specs.LoansLeft.{HasNumbersLeft}
use Rattle.iox2_pubsub.specs.Slices.{HoldsSlices, IsSliced}

-- Messages are single values, or slices, as the settings say; and they say whether cells of slices are handed out.
pub record CarriesAs {T U F G : Type 0} (config : ServiceConfig) (domain : Kept T U F G) : Type 0 where
  pub single_valued : config.variant ≡ FixedSize → config.units_per_element ≡ 1 → IsSingleValued domain
  pub holds_slices : config.variant ≡ Dynamic → HoldsSlices domain
  pub sliced : config.variant ≡ Dynamic → config.lists_cells ≡ true → IsSliced domain

-- The domain has these settings, no port and no message, and all message numbers left.
pub record IsNewDomain {T U F G : Type 0} (config : ServiceConfig) (domain : Kept T U F G) : Type 0 where
  pub fresh : Shows domain no_messages (fresh config)
  pub settings : domain.config ≡ config
  pub numbers_left : (n : ℕ) → n < last_number → HasNumbersLeft domain n
  pub carries : CarriesAs config domain
