use Rattle.std.proofs.Common.{◌≡◌, ◌+◌, arith}
use Rattle.std.specs.Prelude.{slice_index_or}
use Rattle.std.specs.declared.option.Option.TheVariants.{None, Some}
use Rattle.iox2_domain.specs.Departures.{HasKey}
use Rattle.iox2_domain.proofs.lemmas.containers.KeyWalks.{HasKeyBelow, next-key, all-keys}
use Rattle.iox2_ports.proofs.LeaveWalks.{none-left, more-left, among-left, still-covered}
use Rattle.iox2_ports.proofs.publisher_closes.leave_keys.Goals as goal

pub loop-index-init : goal.loop-index-init
loop-index-init c = none-left c.args.publisher c.args.subscribers.now
    (HasKeyBelow c.args.keys.now 0) c.args.connections.now c.args.book.now (λ k has. omega (arith, has.1))

pub leave_at-requires : goal.leave_at-requires
leave_at-requires c = record {
  covered = still-covered c.args.publisher c.args.subscribers.now (HasKeyBelow c.args.keys.now c.loop-index.index)
      c.args.connections.now c.args.book.now c.loop-index.connections c.loop-index.book c.requires.covered
      c.loop-index.invariant;
}

pub loop-index-preserved : goal.loop-index-preserved
loop-index-preserved c =
    more-left c.args.publisher c.args.subscribers.now (HasKeyBelow c.args.keys.now c.loop-index.index)
    (λ k. slice_index_or c.args.keys.now c.loop-index.index None ≡ Some k)
    (HasKeyBelow c.args.keys.now (c.loop-index.index + 1))
    c.args.connections.now c.args.book.now c.loop-index.connections c.loop-index.book c.leave_at.new.connections
    c.leave_at.new.book c.loop-index.invariant c.leave_at.ensures
    (next-key c.args.keys.now c.loop-index.index)

pub returns : goal.returns
returns c =
    among-left c.args.publisher c.args.subscribers.now (HasKeyBelow c.args.keys.now c.loop-index.index)
    (HasKey c.args.keys.now) c.args.connections.now c.args.book.now c.loop-index.connections c.loop-index.book
    c.loop-index.invariant
    (λ k has. all-keys c.args.keys.now c.loop-index.index k c.loop-index-test.false has)
