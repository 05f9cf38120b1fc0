use Rattle.std.proofs.Common.{◌≡◌, ℕ, Option, ◌+◌, subst, arith}
use Rattle.std.specs.declared.option.Option.TheVariants.{Some}
use Rattle.iox2_domain.specs.Closes.{SomeHasKey}
use Rattle.iox2_domain.specs.Updates.{receiver_key}
use Rattle.iox2_steps.proofs.closes.LeaveSteps.{SomeHasKeyBelow, next-subscriber, all-subscribers}
use Rattle.iox2_ports.specs.Leaves.{LeavesCounted}
use Rattle.iox2_ports.proofs.LeaveWalks.{none-left, more-left, among-left, still-covered}
use Rattle.iox2_ports.proofs.publisher_closes.leave_subscribers.Goals as goal

pub loop-index-init : goal.loop-index-init
loop-index-init c = none-left c.args.publisher c.args.subscribers.now
    (SomeHasKeyBelow c.args.subscribers.now c.args.place 0) c.args.connections.now c.args.book.now
    (λ k has. omega (arith, has.1))

pub leave_at-requires : goal.leave_at-requires
leave_at-requires c = record {
  covered = still-covered c.args.publisher c.args.subscribers.now
      (SomeHasKeyBelow c.args.subscribers.now c.args.place c.loop-index.index) c.args.connections.now c.args.book.now
      c.loop-index.connections c.loop-index.book c.requires.covered c.loop-index.invariant;
}

pub loop-index-preserved : goal.loop-index-preserved
loop-index-preserved c =
    more-left c.args.publisher c.args.subscribers.now
    (SomeHasKeyBelow c.args.subscribers.now c.args.place c.loop-index.index)
    (λ k. receiver_key c.args.subscribers.now c.loop-index.index c.args.place ≡ Some k)
    (SomeHasKeyBelow c.args.subscribers.now c.args.place (c.loop-index.index + 1))
    c.args.connections.now c.args.book.now c.loop-index.connections c.loop-index.book c.leave_at.new.connections
    c.leave_at.new.book c.loop-index.invariant
    (subst (λ (o : Option ℕ). LeavesCounted c.args.publisher c.args.subscribers.now
    (λ k. o ≡ Some k) c.loop-index.connections c.loop-index.book c.leave_at.new.connections c.leave_at.new.book)
    c.key_at-key.ensures c.leave_at.ensures)
    (next-subscriber c.args.subscribers.now c.args.place c.loop-index.index)

pub returns : goal.returns
returns c =
    among-left c.args.publisher c.args.subscribers.now
    (SomeHasKeyBelow c.args.subscribers.now c.args.place c.loop-index.index)
    (SomeHasKey c.args.subscribers.now c.args.place) c.args.connections.now c.args.book.now c.loop-index.connections
    c.loop-index.book c.loop-index.invariant
    (λ k has. all-subscribers c.args.subscribers.now c.args.place c.loop-index.index k c.loop-index-test.false has)
