use Rattle.std.proofs.Common.{◌≡◌, ap, subst}
use Rattle.iox2_machine.specs.machine.SingleCalls.{HoldsSample}
use Rattle.iox2_domain.specs.Kept.{Kept, state_of}
use Rattle.iox2_domain.proofs.lemmas.samples.BorrowedNumbers.{lies-live}
use Rattle.iox2_pubsub.specs.Parts.{sample_named}
use Rattle.iox2_pubsub.proofs.LiveParts.{sample-live}
use Rattle.iox2_domain.proofs.lemmas.samples.SampleEntries.{its-slot}
use Rattle.iox2_pubsub.specs.Live.{IsPlaced}
use Rattle.iox2_pubsub.proofs.PlacedLoans.{numbered-placed}
use Rattle.iox2_pubsub.proofs.domain.Domain.is_sample_at_hint.Goals as goal

pub returns-clause-live : goal.returns-clause-live
returns-clause-live g c = λ yes.
    let lies = ((rw c.sample.ensures at c.is_last_at_hint.ensures.returnable) yes).lies in
    let held = lies-live {T = g.row.T.Denot} {U = g.row.U.Denot} c.self.inside.state c.self.invariant
    c.args.parts.now.subscriber c.args.parts.now.number _ lies in
    let its : c.args.parts.now.service_id ≡ (c.args.self.now.config).service_id =
    cc (ap
    (λ (k : Kept g.row.T.Denot g.row.U.Denot g.row.F.Denot g.row.G.Denot). (k.config).service_id) c.self.view_is) in
    sample-live c.args.self.now (sample_named c.args.parts.now) (
      its,
      subst (λ (k : Kept g.row.T.Denot g.row.U.Denot g.row.F.Denot g.row.G.Denot).
          HoldsSample (state_of k) c.args.parts.now.subscriber c.args.parts.now.number) c.self.view_is held,
    )

pub returns-clause-placed : goal.returns-clause-placed
returns-clause-placed g c = λ yes.
    let lies = ((rw c.sample.ensures at c.is_last_at_hint.ensures.returnable) yes).lies in
    let has = its-slot {T = g.row.T.Denot} {U = g.row.U.Denot} c.self.inside.state c.self.invariant
    c.args.parts.now.subscriber c.args.parts.now.number _ lies in
    subst (λ (k : Kept g.row.T.Denot g.row.U.Denot g.row.F.Denot g.row.G.Denot).
    IsPlaced k c.args.parts.now.number c.args.parts.now.book c.args.parts.now.slot) c.self.view_is
    (numbered-placed {T = g.row.T.Denot} {U = g.row.U.Denot} _ c.self.inside.state c.self.invariant
    c.args.parts.now.book c.args.parts.now.slot c.args.parts.now.number has)
