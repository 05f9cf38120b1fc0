-- What became of a number that is to be recorded.
use Rattle.std.specs.Prelude.{ℕ, [], ◌∷◌, ◌≡◌}
use Rattle.std.specs.declared.option.Option.{Option}
use Rattle.std.specs.declared.option.Option.TheVariants.{None, Some}
use Rattle.iox2_pubsub.specs.Domains.{Kept}
use Rattle.iox2_pubsub.specs.Live.{HasItsBuffer, IsConnected, IsPending, IsServed, IsServedOrPending, WaitsAsBefore}
use Rattle.iox2_pubsub.specs.declared.blocked_send.BlockedSend.{BlockedSend}
use Rattle.iox2_pubsub.specs.declared.subscriber.Subscriber.{Subscriber}

module _ {U F G : Type 0} where
  -- The recorder was served with the number; or a send waits that has the recorder before it, for which nothing moved.
  abbrev pub RecorderIsServed : (old new : Kept ℕ U F G) → (publisher : ℕ) → (recorder : Subscriber) → (number : ℕ)
      → Option BlockedSend → Type 0
  RecorderIsServed old new publisher recorder number None = IsServed old new publisher recorder (number ∷ [])
  RecorderIsServed old new publisher recorder number (Some blocked) =
      WaitsAsBefore old new recorder × IsPending new blocked recorder (number ∷ [])

  -- A send of the number began in the domain as it was at the start, and is blocked now: the recorder was served, or
  -- the send has it before it.
  pub record IsUnderway (start now : Kept ℕ U F G) (blocked : BlockedSend) (recorder : Subscriber)
      (number : ℕ) : Type 0 where
    pub connected : IsConnected now blocked.loan.publisher recorder
    pub settings : now.config ≡ start.config
    pub buffer : HasItsBuffer start recorder → HasItsBuffer now recorder
    pub came : IsServedOrPending start now blocked recorder (number ∷ [])

  -- Each number that was underway with this send is recorded.
  abbrev pub CarriesOn : (old new : Kept ℕ U F G) → BlockedSend → (recorder : Subscriber) → Option BlockedSend → Type 0
  CarriesOn old new waiting recorder waits = (start : Kept ℕ U F G) (number : ℕ)
      → IsUnderway start old waiting recorder number
      → RecorderIsServed start new waiting.loan.publisher recorder number waits
