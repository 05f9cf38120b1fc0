use Rattle.std.proofs.Common.{ℕ, ap, subst, sym, ◌∙◌, Some}
use Rattle.std.proofs.lemmas.Option.{same_Some}
use Rattle.iox2_machine.specs.machine.State.{State}
use Rattle.iox2_pubsub.specs.BlockedSends.{waits_for}
use Rattle.iox2_pubsub.proofs.CallsStay.{always-shown}
use Rattle.iox2_pubsub.specs.PendingSends.{PassesBy}
use Rattle.iox2_pubsub.proofs.PendingShown.{next-is, next-parts}
use Rattle.iox2_pubsub.proofs.PendingSteps.{next-not-passed}
use Rattle.iox2_pubsub.proofs.StaysBut.{passed-parts}
use Rattle.iox2_pubsub.proofs.WaitingSends.{blocked-stands, waits-there}
use Rattle.iox2_pubsub.proofs.WaitedFor.{waits-for-it}
use Rattle.iox2_pubsub.proofs.blocked_send.BlockedSend.subscriber.Goals as goal

pub find_live_publisher-place-requires : goal.find_live_publisher-place-requires
find_live_publisher-place-requires g c = blocked-stands {T = g.row.T.Denot}
    {U = g.row.U.Denot} c.domain.inside.state c.domain.invariant c.args.domain.now c.domain.view_is c.args.self.now
    c.requires.live

pub blocking_subscriber-requires-clause-waits : goal.blocking_subscriber-requires-clause-waits
blocking_subscriber-requires-clause-waits g c =
    waits-there {T = g.row.T.Denot} {U = g.row.U.Denot} c.domain.inside.state c.domain.invariant c.args.domain.now
    c.domain.view_is c.args.self.now c.requires.live c.find_live_publisher-place.result
    c.find_live_publisher-place.ensures

pub returns-clause-whom : goal.returns-clause-whom
returns-clause-whom g c = λ m s shown.
    waits-for-it {T = g.row.T.Denot} {U = g.row.U.Denot} c.domain.inside.state c.domain.invariant c.args.domain.now
    c.domain.view_is c.args.self.now c.requires.live c.find_live_publisher-place.result
    c.find_live_publisher-place.ensures c.blocking_subscriber.result c.blocking_subscriber.ensures m s shown

pub returns-clause-next : goal.returns-clause-next
returns-clause-next g c = λ subscriber same.
    let it = always-shown {T = g.row.T.Denot}
    {U = g.row.U.Denot} c.domain.inside.state c.args.domain.now c.domain.invariant c.domain.view_is in
    next-is c.args.domain.now c.args.self.now subscriber
    (ap (λ (t : State g.row.T.Denot g.row.U.Denot). waits_for t c.args.self.now.loan.publisher) (sym it.2.state)
    ∙ returns-clause-whom g c it.0 it.1 it.2 ∙ ap (λ (i : ℕ). Some i) (sym same))

pub returns-clause-others : goal.returns-clause-others
returns-clause-others g c = λ subscriber away next.
    let it = always-shown {T = g.row.T.Denot}
    {U = g.row.U.Denot} c.domain.inside.state c.args.domain.now c.domain.invariant c.domain.view_is in
    away (same_Some _ _ (sym (next-parts c.args.domain.now c.args.self.now subscriber next)
    ∙ ap (λ (t : State g.row.T.Denot g.row.U.Denot). waits_for t c.args.self.now.loan.publisher) (sym it.2.state)
    ∙ returns-clause-whom g c it.0 it.1 it.2))

pub returns-clause-unpassed : goal.returns-clause-unpassed
returns-clause-unpassed g c = λ subscriber same passed.
    let it = always-shown {T = g.row.T.Denot}
    {U = g.row.U.Denot} c.domain.inside.state c.args.domain.now c.domain.invariant c.domain.view_is in
    next-not-passed it.1 it.2.well_formed c.args.self.now.loan.publisher c.args.self.now.loan.number subscriber.id
    (returns-clause-whom g c it.0 it.1 it.2 ∙ ap (λ (i : ℕ). Some i) (sym same))
    (subst (λ (t : State g.row.T.Denot g.row.U.Denot).
    PassesBy t c.args.self.now.loan.publisher c.args.self.now.loan.number subscriber.id) (sym it.2.state)
    (passed-parts c.args.domain.now c.args.self.now subscriber passed).1)
