use Rattle.std.proofs.Common.{◌≡◌, ap, sym, subst}
use Rattle.iox2_domain.specs.Kept.{Kept, state_of}
use Rattle.iox2_pubsub.specs.Live.{IsPlaced}
use Rattle.iox2_pubsub.specs.Parts.{HoldsMarked, loan_named}
use Rattle.iox2_pubsub.proofs.MarkedLoans.{marked-key}
use Rattle.iox2_pubsub.proofs.PlacedLoans.{loan-placed}
use Rattle.iox2_pubsub.proofs.domain.Domain.marked_of.Goals as goal

pub returns-in_default-clause-none : goal.returns-in_default-clause-none
returns-in_default-clause-none g c = λ live mark.
    let none = rw c.loan.ensures at c.in_default.ensures in
    let its : c.args.parts.now.service_id ≡ (c.args.self.now.config).service_id =
    cc (ap
    (λ (k : Kept g.row.T.Denot g.row.U.Denot g.row.F.Denot g.row.G.Denot). (k.config).service_id) c.self.view_is) in
    let named = marked-key {T = g.row.T.Denot} {U = g.row.U.Denot} c.args.self.now
    (loan_named c.args.parts.now) c.args.wants_written its in
    none (subst (λ (k : Kept g.row.T.Denot g.row.U.Denot g.row.F.Denot g.row.G.Denot).
    HoldsMarked (state_of k) c.args.parts.now.publisher c.args.parts.now.number c.args.wants_written)
    (sym c.self.view_is) (named.1 (live, mark)))

pub returns-clause-out : goal.returns-clause-out
returns-clause-out g c =
    let has = rw c.loan.ensures at c.in-Some.ensures in
    let its : c.args.parts.now.service_id ≡ (c.args.self.now.config).service_id =
    cc (ap
    (λ (k : Kept g.row.T.Denot g.row.U.Denot g.row.F.Denot g.row.G.Denot). (k.config).service_id) c.self.view_is) in
    let named = marked-key {T = g.row.T.Denot} {U = g.row.U.Denot} c.args.self.now
    (loan_named c.args.parts.now) c.args.wants_written its in
    named.0 (subst (λ (k : Kept g.row.T.Denot g.row.U.Denot g.row.F.Denot g.row.G.Denot).
    HoldsMarked (state_of k) c.args.parts.now.publisher c.args.parts.now.number c.args.wants_written) c.self.view_is
    has.0)

pub returns-clause-placed : goal.returns-clause-placed
returns-clause-placed g c =
    let has = rw c.loan.ensures at c.in-Some.ensures in
    subst (λ (k : Kept g.row.T.Denot g.row.U.Denot g.row.F.Denot g.row.G.Denot).
    IsPlaced k c.args.parts.now.number c.in-Some.at.book c.in-Some.at.slot) c.self.view_is
    (loan-placed {T = g.row.T.Denot} {U = g.row.U.Denot} _ c.self.inside.state c.self.invariant
    c.args.parts.now.publisher c.in-Some.at.book c.in-Some.at.slot c.args.parts.now.number has.1)
