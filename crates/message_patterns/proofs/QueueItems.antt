-- What is in a queue.
use Rattle.std.proofs.Common.{◌≡◌, ℕ, List, [], ◌∷◌, length, refl, ap, ◌∙◌}
use Rattle.std.specs.List.{concat}
use Rattle.iox2_pubsub.specs.Domains.{Kept}
use Rattle.iox2_pubsub.specs.Live.{payloads}
use Rattle.iox2_pubsub.specs.declared.publisher.Publisher.{Publisher}
use Rattle.iox2_pubsub.specs.declared.subscriber.Subscriber.{Subscriber}
use Rattle.message_patterns.specs.Queues.{IsQueue}
use Rattle.iox2_pubsub.specs.Payloads.{singles}
use Rattle.message_patterns.specs.Values.{Wait}

concat-singles : (values : List ℕ) → concat (singles values) ≡ values
concat-singles [] = refl
concat-singles (value ∷ values) = ap (λ (others : List ℕ). value ∷ others) (concat-singles values)

module _ {U F G : Type 0} (domain : Kept ℕ U F G) (publisher : Publisher) (subscriber : Subscriber) where
  -- what waits is what clauses see
  pub wait-items : (items : List ℕ) → Wait domain publisher.id subscriber items
      → concat (payloads domain subscriber) ≡ items
  wait-items items wait = ap concat wait.all ∙ concat-singles items

  pub queue-count : (count : ℕ) → IsQueue domain publisher subscriber count
      → length (concat (payloads domain subscriber)) ≡ count
  queue-count count is = ap length (wait-items is.items is.wait) ∙ is.counted
