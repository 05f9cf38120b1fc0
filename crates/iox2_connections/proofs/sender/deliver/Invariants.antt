use Rattle.std.proofs.Common.{◌≡◌, ℕ, ◌+◌, ◌≤◌, drop, slice_index}
use Rattle.iox2_machine.specs.machine.Mailbox.{Mailbox}
use Rattle.iox2_machine.specs.machine.Delivery.{DeliveryEnd, Deliver}
use Rattle.iox2_connections.specs.Handlers.{asked, marks_of}
use Rattle.iox2_connections.specs.Mailboxes.{mailboxes_of, sender_ends}
use Rattle.iox2_connections.specs.Receivers.{HaveChannel, IsReadyToDeliver, taking_buffers}
use Rattle.iox2_connections.specs.Counters.{GrowsAlone, with_counters}
use Rattle.iox2_connections.specs.Recounts.{Recounts}
use Rattle.iox2_connections.proofs.DeliverySteps.{DeliversMessage}
use Rattle.std.specs.Prelude.{map}
use Rattle.std.specs.Option.{option_map}
use Rattle.iox2_connections.proofs.sender.deliver.Given as goal

-- whatever the rest of the walk comes to from here, the whole walk comes to
abbrev pub invariant-loop-place : goal.invariant-loop-place
invariant-loop-place g l = record {
  ready : IsReadyToDeliver l.delivery.publisher l.connections l.keys
      (map (option_map g.R.Receiver.details_of) l.receivers.items);
  known : HaveChannel l.delivery.channel l.connections;
  recounts : Recounts l.delivery.publisher l.fn.book.holders l.fn.connections l.book.holders l.connections;
  count : ℕ;
  counts : count + l.missed ≡ l.place;
  walk : (number : ℕ → ℕ → ℕ) (how : DeliveryEnd) (boxes' : ℕ → Mailbox)
      → DeliversMessage (asked g.F.BackpressureFn.allows l.handler) l.config l.delivery l.handler
      (taking_buffers l.fn.connections l.delivery.publisher l.delivery.channel
      (map (option_map g.R.Receiver.details_of) l.receivers.items)) (number l.delivery.publisher l.delivery.slot)
      l.place (drop l.place (sender_ends l.fn.connections l.keys)) count l.has_failed
      (mailboxes_of number l.connections l.delivery.publisher) how boxes'
      → Deliver (asked g.F.BackpressureFn.allows l.handler) l.config l.delivery.publisher l.delivery.strategy
      (marks_of l.handler) (taking_buffers l.fn.connections l.delivery.publisher l.delivery.channel
      (map (option_map g.R.Receiver.details_of) l.receivers.items)) (number l.delivery.publisher l.delivery.slot)
      l.delivery.channel (l.delivery.start).retries l.delivery.elapsed (l.delivery.start).place
      (drop (l.delivery.start).place (sender_ends l.fn.connections l.keys)) (l.delivery.start).count
      (l.delivery.start).has_failed (mailboxes_of number l.fn.connections l.delivery.publisher) how boxes';
  book : l.book ≡ with_counters l.fn.book l.book.holders;
  alone : GrowsAlone l.delivery.slot l.fn.book.holders l.book.holders;
  grows : slice_index l.book.holders l.delivery.slot + (l.delivery.start).place
      ≤ slice_index l.fn.book.holders l.delivery.slot + l.place;
}
