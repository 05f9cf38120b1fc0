-- What the services of this program are.
use Rattle.std.specs.Prelude.{ℕ, ◌≡◌}
use Rattle.iox2_pubsub.specs.Domains.{Kept}
use Rattle.iox2_pubsub.specs.Live.{IsSingleValued}

-- A message is a single value, a subscriber may hold one at a time, and there may be so many subscribers.
pub record IsMadeFor {T U F G : Type 0} (domain : Kept T U F G) (subscribers : ℕ) : Type 0 where
  pub single_valued : IsSingleValued domain
  pub borrows : (domain.config).subscriber_max_borrowed_samples ≡ 1
  pub most : (domain.config).max_subscribers ≡ subscribers
