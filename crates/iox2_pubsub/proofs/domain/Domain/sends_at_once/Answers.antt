use Rattle.std.proofs.Common.{◌≡◌, ap, refl, subst}
use Rattle.iox2_domain.specs.Kept.{Kept, state_of}
use Rattle.iox2_domain.specs.LoanCalls.{HoldsWritten}
use Rattle.iox2_pubsub.specs.Live.{HasMark}
use Rattle.iox2_pubsub.specs.Parts.{LenderIsPlaced, loan_named}
use Rattle.iox2_pubsub.proofs.AtOnce.{unblocked-there}
use Rattle.iox2_pubsub.proofs.LiveParts.{loan-live}
use Rattle.iox2_pubsub.proofs.PlacedHandles.{publisher-at}
use Rattle.iox2_pubsub.proofs.domain.Domain.sends_at_once.Goals as goal

pub returns-clause-live : goal.returns-clause-live
returns-clause-live g c =
    let held = subst (λ (k : Kept g.row.T.Denot g.row.U.Denot g.row.F.Denot g.row.G.Denot).
    HoldsWritten (state_of k) c.args.parts.now.publisher c.args.parts.now.number) c.self.view_is
    (rw c.loan.ensures at c.in-Some.ensures.written) in
    let its : c.args.parts.now.service_id ≡ (c.args.self.now.config).service_id =
    cc (ap
    (λ (k : Kept g.row.T.Denot g.row.U.Denot g.row.F.Denot g.row.G.Denot). (k.config).service_id) c.self.view_is) in
    loan-live c.args.self.now (loan_named c.args.parts.now) (its, (held.0, held.1, held.2))

pub returns-clause-written : goal.returns-clause-written
unfolding HasMark
returns-clause-written g c =
    let held = subst (λ (k : Kept g.row.T.Denot g.row.U.Denot g.row.F.Denot g.row.G.Denot).
    HoldsWritten (state_of k) c.args.parts.now.publisher c.args.parts.now.number) c.self.view_is
    (rw c.loan.ensures at c.in-Some.ensures.written) in
    (held.0, held.1, held.3)

pub returns-clause-placed : goal.returns-clause-placed
unfolding LenderIsPlaced
returns-clause-placed g c =
    subst (λ (k : Kept g.row.T.Denot g.row.U.Denot g.row.F.Denot g.row.G.Denot). LenderIsPlaced k c.args.parts.now)
    c.self.view_is
    (publisher-at {T = g.row.T.Denot}
    {U = g.row.U.Denot} c.self.inside.state c.self.invariant c.args.parts.now.publisher c.args.parts.now.place
    (rw c.loan.ensures at c.in-Some.ensures.placed))

pub returns-clause-unblocked : goal.returns-clause-unblocked
returns-clause-unblocked g c =
    let found = rw c.loan.ensures at c.in-Some.ensures.placed in
    unblocked-there {T = g.row.T.Denot} {U = g.row.U.Denot} c.self.inside.state c.self.invariant c.args.self.now
    c.self.view_is c.args.parts.now.publisher c.args.parts.now.place found.0 found.1 found.2
    (c.sends_at_once.ensures c.if-not-sends_at_once.false found.0 found.1).0 (loan_named c.args.parts.now) refl
