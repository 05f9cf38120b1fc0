-- What a clause sees of a sample.
use Rattle.std.specs.Prelude.{ℕ}
use Rattle.iox2_domain.specs.declared.sample_slots.SampleAt.{SampleAt}

-- Its domain, the publisher that sent its message, and which of its subscriber's messages it is. The payload's kind is
-- none of it: what is said of a sample is said of one of a single value and of one of a slice.
pub record Sample : Type 0 where
  pub service_id : ℕ
  pub origin : ℕ
  pub sample : SampleAt
