use Rattle.std.proofs.Common.{◌<◌, sym, subst, ◌∙◌}
use Rattle.iox2_domain.specs.Boxes.{answers_of}
use Rattle.iox2_machine.specs.machine.Sends.{GiveUp}
use Rattle.iox2_machine.specs.machine.State.{State}
use Rattle.iox2_laws.proofs.SendsRemain.{give_up_waits_with}
use Rattle.iox2_messages.specs.SendEnds.{end_result}
use Rattle.iox2_domain.specs.Fields.{kept_of, keeping}
use Rattle.iox2_domain.specs.Kept.{state_of}
use Rattle.iox2_pubsub.specs.SendCalls.{result_of_send}
use Rattle.iox2_pubsub.proofs.BlockedShown.{give-up-shown, give-up-stays, give-up-frees-key, only-undelivered}
use Rattle.iox2_pubsub.proofs.GoneOn.{went-on}
use Rattle.iox2_pubsub.proofs.LiveParts.{unfailed-parts}
use Rattle.iox2_pubsub.proofs.UnfailedSends.{IsMild, give-up-unfailed}
use Rattle.iox2_pubsub.proofs.BorrowsLeftShown.{give-up-borrows}
use Rattle.iox2_pubsub.proofs.LoansLeftShown.{give-up-left, give-up-gives, sent-free}
use Rattle.iox2_pubsub.proofs.PendingShown.{give-up-leaves-next, give-up-resumes}
use Rattle.iox2_pubsub.proofs.ReceiversAhead.{give-up-fewer, where-blocked}
use Rattle.iox2_pubsub.specs.BlockedSends.{receivers_ahead}
use Rattle.iox2_pubsub.specs.declared.blocked_send.BlockedSend.{BlockedSend as Handle}
use Rattle.iox2_pubsub.proofs.SendShown.{only-ok}
use Rattle.iox2_pubsub.proofs.WaitingSends.{blocked-again, blocked-stands, does-there, from-blocked, goes-there}
use Rattle.iox2_pubsub.proofs.WaitingSends.{waits-there}
use Rattle.iox2_pubsub.proofs.UpToDateShown.{give-up-leaves}
use Rattle.iox2_pubsub.proofs.WaitingShown.{give-up-adds}
use Rattle.iox2_pubsub.proofs.CallsStay.{always-shown}
use Rattle.iox2_pubsub.proofs.FullReceivers.{give-up-full, give-up-roomy}
use Rattle.iox2_pubsub.proofs.StaysBut.{consistent-shown}
use Rattle.iox2_pubsub.proofs.blocked_send.BlockedSend.give_up.Goals as goal

pub give_up_send-end-requires-clause-waits : goal.give_up_send-end-requires-clause-waits
give_up_send-end-requires-clause-waits g c =
    waits-there {T = g.row.T.Denot} {U = g.row.U.Denot} c.domain.inside.state c.domain.invariant c.args.domain.now
    c.domain.view_is c.args.self c.requires.live c.find_live_publisher-place.result c.find_live_publisher-place.ensures

pub returns-clause-gives_up : goal.returns-clause-gives_up
returns-clause-gives_up g c = λ m s x b shown at waits.
    let step = goes-there {T = g.row.T.Denot} {U = g.row.U.Denot} c.domain.inside.state c.domain.invariant
    c.args.domain.now c.domain.view_is c.args.self c.requires.live c.find_live_publisher-place.result
    c.find_live_publisher-place.ensures c.give_up_send-end.ensures.goes in
    let machine = does-there {T = g.row.T.Denot} {U = g.row.U.Denot} c.domain.inside.state c.domain.invariant
    c.args.domain.now c.domain.view_is c.args.self c.requires.live c.find_live_publisher-place.result
    c.find_live_publisher-place.ensures
    (λ all t q w r. GiveUp (answers_of g.F.BackpressureFn.allows g.G.DegradationFn.allows all) t q w
    (state_of (kept_of c.give_up_send-end.new.state)) r) (end_result c.give_up_send-end.result) step.gives_up
    (result_of_send c.outcome_of.result) c.outcome_of.ensures.same m s x b shown at waits in (
      (state_of (kept_of c.give_up_send-end.new.state)),
      give-up-shown {T = g.row.T.Denot} {U = g.row.U.Denot} c.domain.inside.state c.give_up_send-end.new.state
          c.args.domain.now c.domain.view_is m s shown c.args.self.loan.publisher (result_of_send c.outcome_of.result)
          (answers_of g.F.BackpressureFn.allows g.G.DegradationFn.allows c.args.domain.now.boxes.publishers) x b at
          waits step.agrees machine step.entries,
      machine,
    )

pub returns-clause-fewer : goal.returns-clause-fewer
returns-clause-fewer g c =
    let it = from-blocked {T = g.row.T.Denot} {U = g.row.U.Denot} c.domain.inside.state c.domain.invariant
    c.args.domain.now c.domain.view_is c.args.self c.requires.live (returns-clause-gives_up g c) in
    where-blocked (λ (again : Handle). receivers_ahead (keeping _ c.give_up_send-end.new.state) again
    < receivers_ahead c.args.domain.now c.args.self) c.args.self c.outcome_of.result c.outcome_of.ensures.blocked
    (λ waits.
    give-up-fewer {T = g.row.T.Denot} {U = g.row.U.Denot} c.args.domain.now
    (keeping _ c.give_up_send-end.new.state) c.args.self it.held it.s it.step.0 it.shown.state (it.step.1).state
    (answers_of g.F.BackpressureFn.allows g.G.DegradationFn.allows c.args.domain.now.boxes.publishers)
    (result_of_send c.outcome_of.result) waits it.step.2)

pub returns-clause-goes_on : goal.returns-clause-goes_on
returns-clause-goes_on g c =
    let it = from-blocked {T = g.row.T.Denot} {U = g.row.U.Denot} c.domain.inside.state c.domain.invariant
    c.args.domain.now c.domain.view_is c.args.self c.requires.live (returns-clause-gives_up g c) in
    let step = goes-there {T = g.row.T.Denot} {U = g.row.U.Denot} c.domain.inside.state c.domain.invariant
    c.args.domain.now c.domain.view_is c.args.self c.requires.live c.find_live_publisher-place.result
    c.find_live_publisher-place.ensures c.give_up_send-end.ensures.goes in
    let stays = give-up-stays {T = g.row.T.Denot} {U = g.row.U.Denot} c.domain.inside.state c.give_up_send-end.new.state
    c.args.domain.now c.domain.view_is it.m it.s it.shown c.args.self.loan.publisher
    (result_of_send c.outcome_of.result)
    (answers_of g.F.BackpressureFn.allows g.G.DegradationFn.allows c.args.domain.now.boxes.publishers) it.held.0
    it.held.1 it.at it.held.3 step.agrees
    (subst (λ (t : State g.row.T.Denot g.row.U.Denot).
    GiveUp (answers_of g.F.BackpressureFn.allows g.G.DegradationFn.allows c.args.domain.now.boxes.publishers) it.s
    c.args.self.loan.publisher it.held.1 t (result_of_send c.outcome_of.result)) (it.step.1).state it.step.2)
    step.entries c.domain.invariant step.places in
    went-on c.args.domain.now _ c.args.self c.outcome_of.result c.outcome_of.ensures.blocked (record {
      stays = stays;
      again = blocked-again {T = g.row.T.Denot} {U = g.row.U.Denot} c.domain.inside.state c.domain.invariant
          c.args.domain.now c.domain.view_is c.args.self c.requires.live (keeping _ c.give_up_send-end.new.state)
          stays.settings c.outcome_of.result c.outcome_of.ensures.blocked it.held it.step.0 (it.step.1).state
          (give_up_waits_with (answers_of g.F.BackpressureFn.allows g.G.DegradationFn.allows
          c.args.domain.now.boxes.publishers) it.s c.args.self.loan.publisher it.held.1 it.step.0 _ it.step.2);
      unfailed = λ never.
          let has = unfailed-parts c.args.domain.now c.args.self.loan.publisher never in
          let mild : IsMild it.s c.args.self.loan.publisher =
          subst (λ (t : State g.row.T.Denot g.row.U.Denot). IsMild t c.args.self.loan.publisher)
          (sym it.shown.state) has.1 in
          only-ok c.give_up_send-end.result c.give_up_send-end.ensures.kept
          (λ failed. (give-up-unfailed {T = g.row.T.Denot} {U = g.row.U.Denot}
          (answers_of g.F.BackpressureFn.allows g.G.DegradationFn.allows c.args.domain.now.boxes.publishers) it.s
          c.args.self.loan.publisher it.held.1 it.step.0 (result_of_send c.outcome_of.result) mild
          (has.2 it.held.0 it.held.1 it.held.2 it.held.3) it.step.2).1 (c.outcome_of.ensures.same ∙ failed))
          c.outcome_of.result c.outcome_of.ensures.same;
      failed = only-undelivered c.give_up_send-end.result c.give_up_send-end.ensures.kept c.outcome_of.result
          c.outcome_of.ensures.same;
      frees = λ ends key its. give-up-frees-key {T = g.row.T.Denot} {U = g.row.U.Denot}
          (keeping _ c.give_up_send-end.new.state) it.m it.s it.step.0 it.step.1 c.args.self.loan.publisher it.held.0
          it.held.1 it.at (result_of_send c.outcome_of.result) (sent-free c.outcome_of.result ends)
          (answers_of g.F.BackpressureFn.allows g.G.DegradationFn.allows c.args.domain.now.boxes.publishers) it.step.2
          key its;
      adds = give-up-adds {T = g.row.T.Denot} {U = g.row.U.Denot} c.args.domain.now
          (keeping _ c.give_up_send-end.new.state) it.m it.m it.s it.step.0 it.shown it.step.1
          (answers_of g.F.BackpressureFn.allows g.G.DegradationFn.allows c.args.domain.now.boxes.publishers)
          c.args.self.loan.publisher it.held.0 it.held.1 (result_of_send c.outcome_of.result) it.at it.held.3 it.step.2;
      up_to_date = give-up-leaves {T = g.row.T.Denot} {U = g.row.U.Denot} c.args.domain.now
          (keeping _ c.give_up_send-end.new.state) it.m it.m it.s it.step.0 it.shown it.step.1
          (answers_of g.F.BackpressureFn.allows g.G.DegradationFn.allows c.args.domain.now.boxes.publishers)
          c.args.self.loan.publisher it.held.1 (result_of_send c.outcome_of.result) it.step.2;
      loans_left = give-up-left {T = g.row.T.Denot} {U = g.row.U.Denot} c.args.domain.now
          (keeping _ c.give_up_send-end.new.state) it.m it.m it.s it.step.0 it.shown it.step.1
          c.args.self.loan.publisher it.held.0 it.held.1 it.at it.held.3
          (answers_of g.F.BackpressureFn.allows g.G.DegradationFn.allows c.args.domain.now.boxes.publishers)
          (result_of_send c.outcome_of.result) it.step.2;
      borrows_left = give-up-borrows {T = g.row.T.Denot} {U = g.row.U.Denot} c.args.domain.now
          (keeping _ c.give_up_send-end.new.state) it.m it.m it.s it.step.0 it.shown it.step.1
          (answers_of g.F.BackpressureFn.allows g.G.DegradationFn.allows c.args.domain.now.boxes.publishers)
          c.args.self.loan.publisher it.held.1 (result_of_send c.outcome_of.result) it.step.2;
      given_back = λ ends. give-up-gives {T = g.row.T.Denot} {U = g.row.U.Denot} c.args.domain.now
          (keeping _ c.give_up_send-end.new.state) it.m it.m it.s it.step.0 it.shown it.step.1
          c.args.self.loan.publisher it.held.0 it.held.1 it.at it.held.3
          (answers_of g.F.BackpressureFn.allows g.G.DegradationFn.allows c.args.domain.now.boxes.publishers)
          (result_of_send c.outcome_of.result) (sent-free c.outcome_of.result ends) it.step.2;
    })

pub returns-clause-resumes : goal.returns-clause-resumes
returns-clause-resumes g c =
    let it = from-blocked {T = g.row.T.Denot} {U = g.row.U.Denot} c.domain.inside.state c.domain.invariant
    c.args.domain.now c.domain.view_is c.args.self c.requires.live (returns-clause-gives_up g c) in
    give-up-resumes {T = g.row.T.Denot} {U = g.row.U.Denot} c.args.domain.now
    (keeping _ c.give_up_send-end.new.state) it.m it.s it.step.0 it.shown it.step.1 c.args.self c.outcome_of.result
    c.outcome_of.ensures.blocked (returns-clause-goes_on g c).blocked
    (answers_of g.F.BackpressureFn.allows g.G.DegradationFn.allows c.args.domain.now.boxes.publishers) it.held.0
    it.held.1 it.at it.held.3 it.step.2

pub returns-clause-skips : goal.returns-clause-skips
returns-clause-skips g c =
    let it = from-blocked {T = g.row.T.Denot} {U = g.row.U.Denot} c.domain.inside.state c.domain.invariant
    c.args.domain.now c.domain.view_is c.args.self c.requires.live (returns-clause-gives_up g c) in
    give-up-leaves-next {T = g.row.T.Denot} {U = g.row.U.Denot} c.args.domain.now
    (keeping _ c.give_up_send-end.new.state) it.m it.s it.step.0 it.shown it.step.1 c.args.self c.outcome_of.result
    c.outcome_of.ensures.blocked (returns-clause-goes_on g c).blocked
    (answers_of g.F.BackpressureFn.allows g.G.DegradationFn.allows c.args.domain.now.boxes.publishers) it.held.0
    it.held.1 it.at it.held.3 it.step.2

pub invariant_of-domain : goal.invariant_of-domain
invariant_of-domain g c =
    (goes-there {T = g.row.T.Denot} {U = g.row.U.Denot} c.domain.inside.state c.domain.invariant c.args.domain.now
    c.domain.view_is c.args.self c.requires.live c.find_live_publisher-place.result c.find_live_publisher-place.ensures
    c.give_up_send-end.ensures.goes).agrees

pub find_live_publisher-place-requires : goal.find_live_publisher-place-requires
find_live_publisher-place-requires g c = blocked-stands {T = g.row.T.Denot}
    {U = g.row.U.Denot} c.domain.inside.state c.domain.invariant c.args.domain.now c.domain.view_is c.args.self
    c.requires.live

pub returns-clause-consistent : goal.returns-clause-consistent
returns-clause-consistent g c =
    let it = always-shown {T = g.row.T.Denot}
    {U = g.row.U.Denot} c.domain.inside.state c.args.domain.now c.domain.invariant c.domain.view_is in
    consistent-shown c.args.domain.now it.0 it.1 it.2

pub returns-clause-full : goal.returns-clause-full
returns-clause-full g c = λ target subscriber values pending connected.
    let it = from-blocked {T = g.row.T.Denot} {U = g.row.U.Denot} c.domain.inside.state c.domain.invariant
    c.args.domain.now c.domain.view_is c.args.self c.requires.live (returns-clause-gives_up g c) in
    give-up-full {T = g.row.T.Denot} {U = g.row.U.Denot} c.args.domain.now (keeping _ c.give_up_send-end.new.state) it.m
    it.s it.step.0 it.shown it.step.1 c.args.self c.outcome_of.result c.outcome_of.ensures.blocked
    (answers_of g.F.BackpressureFn.allows g.G.DegradationFn.allows c.args.domain.now.boxes.publishers) it.held.0
    it.held.1 it.at it.held.3 target values pending it.step.2 subscriber connected

pub returns-clause-roomy : goal.returns-clause-roomy
returns-clause-roomy g c = λ target values subscribers pending all each.
    let it = from-blocked {T = g.row.T.Denot} {U = g.row.U.Denot} c.domain.inside.state c.domain.invariant
    c.args.domain.now c.domain.view_is c.args.self c.requires.live (returns-clause-gives_up g c) in
    give-up-roomy {T = g.row.T.Denot} {U = g.row.U.Denot} c.args.domain.now
    (keeping (record {
      publishers = (c.domain.inside.boxes).boxes;
      subscribers = (c.domain.inside.subscriber_boxes).boxes;
    }) c.give_up_send-end.new.state) it.m it.s it.step.0 it.shown it.step.1 c.args.self c.outcome_of.result
    c.outcome_of.ensures.blocked
    (answers_of g.F.BackpressureFn.allows g.G.DegradationFn.allows c.args.domain.now.boxes.publishers) it.held.0
    it.held.1 it.at it.held.3 target values pending it.step.2 subscribers all each
