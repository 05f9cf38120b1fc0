use Rattle.std.proofs.Common.{◌≡◌, ℕ, None, Some, get_or, ◌∙◌, ap}
use Rattle.iox2_machine.specs.machine.Sends.{more_retries}
use Rattle.iox2_connections.specs.declared.sender.Progress.{Progress}
use Rattle.iox2_domain.specs.Boxes.{answers_of}
use Rattle.iox2_domain.specs.Ports.{PublisherFields}
use Rattle.iox2_domain.specs.declared.publisher_state.BlockedDelivery.{BlockedDelivery}
use Rattle.iox2_steps.proofs.sends.BlockedSteps.{can-retry, retries-as}
use Rattle.iox2_messages.specs.BlockedPublishers.{CanTakeUp}
use Rattle.iox2_messages.proofs.TakenUp.{may-take-up}
use Rattle.iox2_messages.proofs.blocked_sends.retry_send.Goals.{After-progress_at-progress}
use Rattle.iox2_messages.proofs.blocked_sends.retry_send.Goals as goal

-- the delivery is taken up at the receiver that it waits for
abbrev at_it : (g : _) (c : After-progress_at-progress g) (x : PublisherFields)
    → get_or c.args.state.now.publishers c.args.place None ≡ Some x → (b : BlockedDelivery) → x.blocked ≡ Some b
    → (retries : ℕ)
    → CanTakeUp c.reclaim.new.state c.args.place (record (c.progress_at-progress.result) { retries = retries })
at_it g c x at b waits retries =
    may-take-up c.args.state.now c.reclaim.new.state c.reclaim.ensures.reaches c.reclaim.ensures.only c.args.place x at
    b waits _
    (λ now. can-retry c.reclaim.new.state c.reclaim.ensures.reaches.agrees c.args.place x now b waits _
    (ap (λ (v : Progress). v.place) (c.progress_at-progress.ensures x b now waits))
    (ap (λ (v : Progress). v.count) (c.progress_at-progress.ensures x b now waits))) (c.reclaim.ensures.reclaimed x at)

pub go_on-requires : goal.go_on-requires
go_on-requires g c =
    let it = c.requires.waits in
    at_it g (goal.at.go_on-requires g c).After-progress_at-progress it.publisher it.stands it.blocked it.waits
    c.more_retries.result

pub returns-clause-goes : goal.returns-clause-goes
returns-clause-goes g c = λ x b at waits.
    let may = at_it g (goal.at.returns-clause-goes g c).After-progress_at-progress x at b waits c.more_retries.result in
    let is = c.progress_at-progress.ensures x b may.stands waits in
    rw c.of.ensures.same
    (retries-as (answers_of g.F.BackpressureFn.allows g.G.DegradationFn.allows c.args.boxes.now.boxes) c.args.state.now
    c.reclaim.new.state c.go_on.new.state c.requires.agrees c.reclaim.ensures.reaches c.args.place x at may.stands b
    waits c.go_on.result c.args.elapsed _
    ((λ t. record c.progress_at-progress.result { retries = c.more_retries.ensures t })
    ∙ ap (λ (v : Progress). let w : Progress = record v { retries = more_retries v.retries } in w) is)
    (c.go_on.ensures may))
