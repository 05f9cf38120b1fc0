use Rattle.std.proofs.Common.{◌<◌, ℕ, ap, subst, ◌∙◌}
use Rattle.iox2_machine.specs.machine.State.{is_blocked}
use Rattle.iox2_domain.specs.Fields.{kept_of}
use Rattle.iox2_domain.specs.Kept.{Kept, state_of}
use Rattle.iox2_pubsub.specs.Live.{written_key}
use Rattle.iox2_pubsub.proofs.LiveParts.{loan-parts, unblocked-tests}
use Rattle.iox2_pubsub.proofs.sample_mut.SampleMut.is_blocked.Goals as goal

pub returns : goal.returns
returns g c =
    unblocked-tests c.args.domain.now (written_key c.args.self.now)
    (subst (λ (k : Kept g.row.T.Denot g.row.U.Denot g.row.F.Denot g.row.G.Denot).
    c.args.self.now.loan.publisher < (state_of k).next_port) c.domain.view_is
    (let has = (loan-parts c.args.domain.now (written_key c.args.self.now) c.requires.live).1 in
    subst (λ (p : ℕ). p < (state_of (kept_of c.domain.inside.state)).next_port) has.2
    (c.domain.invariant.well_formed.loans c.args.self.now.loan.number has.0
    (ap (λ (k : Kept g.row.T.Denot g.row.U.Denot g.row.F.Denot g.row.G.Denot).
    (state_of k).loans c.args.self.now.loan.number) c.domain.view_is ∙ has.1)).known))
    c.is_waiting.result
    (c.is_waiting.ensures ∙ ap (λ (k : Kept g.row.T.Denot g.row.U.Denot g.row.F.Denot g.row.G.Denot).
    is_blocked (state_of k) c.args.self.now.loan.publisher) c.domain.view_is)
