use Rattle.std.proofs.Common.{ℕ, ◌+◌, List, ◌++◌, take}
use Rattle.iox2_pubsub.specs.Handles.{publisher_id}
use Rattle.iox2_pubsub.specs.Live.{Stays, UpToDateStay}
use Rattle.iox2_pubsub.specs.declared.subscriber.Subscriber.{Subscriber}
use Rattle.message_patterns.specs.Values.{CanSendValues, TakesMore}
use Rattle.message_patterns.proofs.passing.send_all.Given as goal

abbrev pub invariant-loop-value : goal.invariant-loop-value
invariant-loop-value l = record {
  stays : Stays l.fn.domain l.domain;
  up_to_date : UpToDateStay l.fn.domain l.domain;
  sent : (subscriber : Subscriber) (earlier : List ℕ) (more : ℕ)
      → TakesMore l.fn.domain (publisher_id l.publisher) subscriber earlier (l.value-index + more)
      → TakesMore l.domain (publisher_id l.publisher) subscriber (earlier ++ take l.value-index l.values) more;
  granted : (n : ℕ) → CanSendValues l.fn.domain l.publisher (l.value-index + n) → CanSendValues l.domain l.publisher n;
}
