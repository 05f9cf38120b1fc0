-- What a relay has moved.
use Rattle.std.specs.Prelude.{ℕ, List, ◌++◌, ◌≡◌, length}
use Rattle.iox2_pubsub.specs.Domains.{Kept}
use Rattle.iox2_pubsub.specs.declared.subscriber.Subscriber.{Subscriber}
use Rattle.message_patterns.specs.Values.{TakesMore, Wait}

-- Of the values that waited for the receiver the first are gone to the reader, in their order, behind the earlier ones,
-- and the others wait still. Nothing is lost, and nothing comes twice.
pub record HasMoved {U F G : Type 0} (from to : Kept ℕ U F G) (origin : ℕ) (receiver : Subscriber) (sender : ℕ)
    (reader : Subscriber) (values earlier : List ℕ) (count more : ℕ) : Type 0 where
  pub moved : List ℕ
  pub left : List ℕ
  pub split : values ≡ moved ++ left
  pub counted : length moved ≡ count
  pub waits : Wait from origin receiver left
  pub sent : TakesMore to sender reader (earlier ++ moved) more
