use Rattle.std.proofs.Common.{ℕ, ◌+◌, List}
use Rattle.iox2_pubsub.specs.Handles.{publisher_id}
use Rattle.iox2_pubsub.specs.Live.{IsUpToDate, KeepsAll, Stays, UpToDateStay}
use Rattle.iox2_pubsub.specs.declared.subscriber.Subscriber.{Subscriber}
use Rattle.message_patterns.specs.Moves.{HasMoved}
use Rattle.iox2_pubsub.specs.BorrowsLeft.{HasBorrowsLeft}
use Rattle.message_patterns.specs.Values.{CanSendValues, TakesMore, Wait}
use Rattle.message_patterns.proofs.relaying.relay.Given as goal

abbrev pub invariant-loop-moved : goal.invariant-loop-moved
invariant-loop-moved l = record {
  stays : Stays l.fn.from l.from × Stays l.fn.to l.to;
  up_to_date : UpToDateStay l.fn.from l.from × UpToDateStay l.fn.to l.to;
  moves : (origin : ℕ) (reader : Subscriber) (values earlier : List ℕ) (more : ℕ) → KeepsAll l.fn.from l.subscriber
      → Wait l.fn.from origin l.subscriber values
      → TakesMore l.fn.to (publisher_id l.publisher) reader earlier (l.moved + more)
      → HasMoved l.from l.to origin l.subscriber (publisher_id l.publisher) reader values earlier l.moved more;
  borrows : HasBorrowsLeft l.fn.from l.subscriber 1 → HasBorrowsLeft l.from l.subscriber 1;
  granted : IsUpToDate l.fn.from l.subscriber → HasBorrowsLeft l.fn.from l.subscriber 1 → (left : ℕ)
      → CanSendValues l.fn.to l.publisher (l.moved + left) → CanSendValues l.to l.publisher left;
}
