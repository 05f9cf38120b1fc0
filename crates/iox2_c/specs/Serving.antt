-- A domain of bytes.
use Rattle.std.specs.Prelude.{ℕ, false, ◌≡◌}
use Rattle.iox2_machine.specs.declared.service_config.TypeVariant.TheVariants.{Dynamic}
use Rattle.iox2_domain.specs.Kept.{Kept}
use Rattle.iox2_pubsub.specs.Live.{Item, StaysBut}
use Rattle.iox2_pubsub.specs.Slices.{HoldsSlices}
use Rattle.iox2_pubsub.specs.declared.no_handler.NoHandler.{NoHandler}

-- What a domain of bytes keeps: no user headers, and no boxes of handlers.
abbrev pub KeptBytes : Type 0
KeptBytes = Kept ℕ (Unit {0}) NoHandler NoHandler

-- A domain of bytes, with how long a publisher's messages are where nothing else is said, and how they are aligned.
pub record Serving : Type 0 where
  pub domain : KeptBytes
  pub payload_size : ℕ
  pub payload_alignment : ℕ

-- Each message is a slice of bytes, whose cells aren't handed out.
pub record IsOfBytes (domain : KeptBytes) : Type 0 where
  pub dynamic : (domain.config).variant ≡ Dynamic
  pub one_unit : (domain.config).units_per_element ≡ 1
  pub lists_no_cells : (domain.config).lists_cells ≡ false
  pub sliced : HoldsSlices domain

-- All that was live stays, except the item, and the lengths and alignments stay.
pub record ServesBut (spent : Item) (old new : Serving) : Type 0 where
  pub domain : StaysBut spent old.domain new.domain
  pub size : new.payload_size ≡ old.payload_size
  pub alignment : new.payload_alignment ≡ old.payload_alignment
