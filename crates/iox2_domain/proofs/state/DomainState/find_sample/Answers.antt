use Rattle.std.proofs.Common.{◌≡◌, below_more, length, ap, arith}
use Rattle.iox2_domain.specs.Fields.{Fields}
use Rattle.iox2_domain.proofs.lemmas.samples.BorrowedNumbers.{live-nowhere, not-there}
use Rattle.iox2_domain.proofs.state.DomainState.find_sample.Goals as goal

pub loop-key-preserved : goal.loop-key-preserved
loop-key-preserved g c =
    below_more _ _ c.loop-key.invariant (not-there c.args.self.now c.loop-key.key c.args.subscriber c.args.number
    c.find_sample_at-found.result c.find_sample_at-found.ensures c.is_some.result c.is_some.ensures c.if-is_some.false)

pub returns : goal.returns
returns g c =
    live-nowhere c.args.self.now c.requires c.args.subscriber c.args.number (λ k below.
    let long : length c.self.inside.connections.slots ≡ length c.args.self.now.connections.slots =
    ap (λ (f : Fields g.row.T.Denot g.row.U.Denot). length f.connections.slots) c.self.view_is in
    c.loop-key.invariant k (omega (arith, below, c.capacity-key-end.ensures.slots, c.loop-key-test.false)))
