use Rattle.std.proofs.Common.{◌≡◌, None, Some, get_or, ap}
use Rattle.iox2_connections.specs.declared.sender.Progress.{Progress}
use Rattle.iox2_domain.specs.Boxes.{answers_of}
use Rattle.iox2_domain.specs.Ports.{PublisherFields}
use Rattle.iox2_domain.specs.declared.publisher_state.BlockedDelivery.{BlockedDelivery}
use Rattle.iox2_steps.proofs.sends.BlockedSteps.{can-give_up, gives-up-as}
use Rattle.iox2_messages.specs.BlockedPublishers.{CanTakeUp}
use Rattle.iox2_messages.proofs.TakenUp.{may-take-up}
use Rattle.iox2_messages.proofs.blocked_sends.give_up_send.Goals.{After-progress_behind-start}
use Rattle.iox2_messages.proofs.blocked_sends.give_up_send.Goals as goal

-- the delivery is taken up behind the receiver that it waits for
abbrev behind_it : (g : _) (c : After-progress_behind-start g) (x : PublisherFields)
    → get_or c.args.state.now.publishers c.args.place None ≡ Some x → (b : BlockedDelivery) → x.blocked ≡ Some b
    → CanTakeUp c.reclaim.new.state c.args.place c.progress_behind-start.result
behind_it g c x at b waits =
    may-take-up c.args.state.now c.reclaim.new.state c.reclaim.ensures.reaches c.reclaim.ensures.only c.args.place x at
    b waits _
    (λ now. can-give_up c.reclaim.new.state c.reclaim.ensures.reaches.agrees c.args.place x now b waits _
    (ap (λ (v : Progress). v.place) (c.progress_behind-start.ensures x b now waits))
    (ap (λ (v : Progress). v.count) (c.progress_behind-start.ensures x b now waits))) (c.reclaim.ensures.reclaimed x at)

pub go_on-requires : goal.go_on-requires
go_on-requires g c =
    let it = c.requires.waits in
    behind_it g (goal.at.go_on-requires g c).After-progress_behind-start it.publisher it.stands it.blocked it.waits

pub returns-clause-goes : goal.returns-clause-goes
returns-clause-goes g c = λ x b at waits.
    let may = behind_it g (goal.at.returns-clause-goes g c).After-progress_behind-start x at b waits in
    rw c.of.ensures.same
    (gives-up-as (answers_of g.F.BackpressureFn.allows g.G.DegradationFn.allows c.args.boxes.now.boxes) c.args.state.now
    c.reclaim.new.state c.go_on.new.state c.requires.agrees c.reclaim.ensures.reaches c.args.place x at may.stands b
    waits c.go_on.result _
    (c.progress_behind-start.ensures x b may.stands waits) (c.go_on.ensures may))
