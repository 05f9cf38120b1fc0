use Rattle.std.proofs.Common.{◌<◌, ap, subst, ◌∙◌}
use Rattle.iox2_machine.specs.machine.State.{is_blocked}
use Rattle.iox2_domain.specs.Kept.{Kept, state_of}
use Rattle.iox2_pubsub.specs.Live.{publisher_key}
use Rattle.iox2_pubsub.proofs.LiveParts.{publisher-parts, unblocked-tests}
use Rattle.iox2_pubsub.proofs.publisher.Publisher.is_blocked.Goals as goal

pub returns : goal.returns
returns g c =
    unblocked-tests c.args.domain.now (publisher_key c.args.self.now)
    (subst (λ (k : Kept g.row.T.Denot g.row.U.Denot g.row.F.Denot g.row.G.Denot).
    c.args.self.now.id < (state_of k).next_port) c.domain.view_is
    (let has = (publisher-parts c.args.domain.now (publisher_key c.args.self.now) c.requires.live).2 in
    (c.domain.invariant.well_formed.publishers c.args.self.now.id has.0
    (ap (λ (k : Kept g.row.T.Denot g.row.U.Denot g.row.F.Denot g.row.G.Denot).
    (state_of k).publishers c.args.self.now.id) c.domain.view_is ∙ has.1)).is_known))
    c.is_waiting.result
    (c.is_waiting.ensures ∙ ap (λ (k : Kept g.row.T.Denot g.row.U.Denot g.row.F.Denot g.row.G.Denot).
    is_blocked (state_of k) c.args.self.now.id) c.domain.view_is)
