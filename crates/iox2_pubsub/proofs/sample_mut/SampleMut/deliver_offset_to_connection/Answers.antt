use Rattle.std.proofs.Common.{◌≡◌, ◌<◌, ℕ, List, false, ap, sym, subst, ◌∙◌, refl}
use Rattle.iox2_machine.specs.machine.Limits.{channel_count}
use Rattle.iox2_machine.specs.machine.Sends.{SendToConnection}
use Rattle.iox2_machine.specs.machine.SingleCalls.{HoldsBlocked}
use Rattle.iox2_machine.specs.machine.State.{State, is_blocked}
use Rattle.iox2_machine.specs.declared.service_config.ServiceConfig.{ServiceConfig}
use Rattle.iox2_laws.proofs.ConnectionSendsLeave.{send_to_connection_waits_with}
use Rattle.iox2_domain.specs.Boxes.{answers_of}
use Rattle.iox2_domain.specs.declared.boxes.PortBox.{PortBox}
use Rattle.iox2_domain.specs.Fields.{kept_of, keeping}
use Rattle.iox2_domain.specs.Kept.{Kept, state_of}
use Rattle.iox2_domain.specs.LoanCalls.{HoldsWritten}
use Rattle.iox2_domain.specs.Shows.{Shows}
use Rattle.iox2_messages.specs.SendEnds.{end_result}
use Rattle.iox2_pubsub.specs.Live.{IsBlockedKey, blocked_key, written_key}
use Rattle.iox2_pubsub.specs.SendCalls.{result_of_send}
use Rattle.iox2_pubsub.proofs.SentLoans.{from-shown}
use Rattle.iox2_pubsub.proofs.ConnectionEnds.{sends-to-fail, sends-to-full}
use Rattle.iox2_pubsub.proofs.ConnectionServes.{sends-to-counts, sends-to-pends, sends-to-roomy, sends-to-serves}
use Rattle.iox2_pubsub.proofs.OtherConnections.{sends-to-alone}
use Rattle.iox2_pubsub.proofs.ConnectionSendShown.{leaves-sent-to, machine-sends-to, sent-to-stays, sent-to-others}
use Rattle.iox2_pubsub.proofs.ConnectionSendShown.{sent-to-up_to_date, sent-to-ok, fails-delivery, to-never-waits}
use Rattle.iox2_pubsub.proofs.ConnectionSendShown.{to-spends}
use Rattle.iox2_pubsub.proofs.LiveParts.{written-parts, unblocked-parts, unblocked-test, blocked-live}
use Rattle.iox2_pubsub.proofs.BorrowsLeftShown.{send-to-borrows}
use Rattle.iox2_pubsub.proofs.LoansLeftShown.{send-to-left, send-to-gives, sent-free}
use Rattle.iox2_pubsub.proofs.PublisherWaits.{send-arrives, send-joins}
use Rattle.iox2_pubsub.proofs.RoomySends.{unhindered-is}
use Rattle.iox2_pubsub.proofs.SendShown.{is-blocked, is-delivered, leaves-shown}
use Rattle.iox2_pubsub.proofs.StaysBut.{same-boxes}
use Rattle.iox2_pubsub.proofs.WaitingShown.{send-to-adds}
use Rattle.iox2_pubsub.proofs.sample_mut.SampleMut.deliver_offset_to_connection.Goals as goal

pub send_to_connection-end-requires-clause-live : goal.send_to_connection-end-requires-clause-live
send_to_connection-end-requires-clause-live g c =
    subst (λ (k : Kept g.row.T.Denot g.row.U.Denot g.row.F.Denot g.row.G.Denot).
    HoldsWritten (state_of k) c.args.self.loan.publisher c.args.self.loan.number) (sym c.domain.view_is)
    (written-parts c.args.domain.now c.args.self c.requires.live).1

pub send_to_connection-end-requires-clause-unblocked : goal.send_to_connection-end-requires-clause-unblocked
send_to_connection-end-requires-clause-unblocked g c =
    subst (λ (k : Kept g.row.T.Denot g.row.U.Denot g.row.F.Denot g.row.G.Denot).
    is_blocked (state_of k) c.args.self.loan.publisher ≡ false) (sym c.domain.view_is)
    (unblocked-test c.args.domain.now (written_key c.args.self) c.requires.unblocked)

pub send_to_connection-end-requires-clause-channel : goal.send_to_connection-end-requires-clause-channel
send_to_connection-end-requires-clause-channel g c =
    subst (λ (k : Kept g.row.T.Denot g.row.U.Denot g.row.F.Denot g.row.G.Denot).
    c.args.channel < channel_count k.config) (sym c.domain.view_is) c.requires.channel

pub returns-clause-sent : goal.returns-clause-sent
returns-clause-sent g c = λ m s l shown out.
    let before = subst (λ (k : Kept g.row.T.Denot g.row.U.Denot g.row.F.Denot g.row.G.Denot). Shows k m s)
    (sym c.domain.view_is) shown in
    let after : State g.row.T.Denot g.row.U.Denot = state_of (kept_of c.send_to_connection-end.new.state) in
    let sends : SendToConnection
    (answers_of g.F.BackpressureFn.allows g.G.DegradationFn.allows c.domain.inside.boxes.boxes) s
    c.args.self.loan.number l c.args.channel c.args.connection after (end_result c.send_to_connection-end.result) =
    machine-sends-to (answers_of g.F.BackpressureFn.allows g.G.DegradationFn.allows c.domain.inside.boxes.boxes)
    c.domain.inside.state c.send_to_connection-end.new.state c.args.self.loan.number c.args.channel c.args.connection
    (end_result c.send_to_connection-end.result) c.send_to_connection-end.ensures m s l before out in (
      after,
      leaves-shown _ _ _ _
          (leaves-sent-to (answers_of g.F.BackpressureFn.allows g.G.DegradationFn.allows c.domain.inside.boxes.boxes)
          c.domain.inside.state c.send_to_connection-end.new.state c.args.self.loan.number c.args.channel
          c.args.connection (end_result c.send_to_connection-end.result) c.send_to_connection-end.ensures) m s l before
          out
          c.outcome_of.result (sym c.outcome_of.ensures.same),
      subst
          (SendToConnection (answers_of g.F.BackpressureFn.allows g.G.DegradationFn.allows
          c.args.domain.now.boxes.publishers) s c.args.self.loan.number l c.args.channel c.args.connection after)
          (sym c.outcome_of.ensures.same)
          (subst (λ (boxes : List (PortBox g.row.F.Denot g.row.G.Denot)).
          SendToConnection (answers_of g.F.BackpressureFn.allows g.G.DegradationFn.allows boxes) s
          c.args.self.loan.number l c.args.channel c.args.connection after (end_result c.send_to_connection-end.result))
          (ap (λ (k : Kept g.row.T.Denot g.row.U.Denot g.row.F.Denot g.row.G.Denot). k.boxes.publishers)
          c.domain.view_is) sends),
    )

pub returns-clause-errors : goal.returns-clause-errors
returns-clause-errors g c =
    let it = from-shown {T = g.row.T.Denot} {U = g.row.U.Denot} c.domain.inside.state c.domain.invariant
    c.args.domain.now c.domain.view_is c.args.self c.requires.live (returns-clause-sent g c) in
    fails-delivery {T = g.row.T.Denot} {U = g.row.U.Denot} c.args.domain.now
    (keeping c.args.domain.now.boxes c.send_to_connection-end.new.state) it.m it.s it.shown
    (answers_of g.F.BackpressureFn.allows g.G.DegradationFn.allows c.args.domain.now.boxes.publishers) c.args.self it.l
    it.out it.its c.args.channel c.args.connection it.step.0 (written_key c.args.self)
    (sym it.its) c.outcome_of.result it.step.2

pub returns-clause-adds : goal.returns-clause-adds
returns-clause-adds g c =
    let it = from-shown {T = g.row.T.Denot} {U = g.row.U.Denot} c.domain.inside.state c.domain.invariant
    c.args.domain.now c.domain.view_is c.args.self c.requires.live (returns-clause-sent g c) in
    send-to-adds {T = g.row.T.Denot} {U = g.row.U.Denot} c.args.domain.now _ it.m _ it.s it.step.0 it.shown it.step.1
    (answers_of g.F.BackpressureFn.allows g.G.DegradationFn.allows c.args.domain.now.boxes.publishers)
    c.args.self.loan.number it.l c.args.channel c.args.connection (result_of_send c.outcome_of.result) it.step.2

pub returns-clause-spends : goal.returns-clause-spends
returns-clause-spends g c =
    let it = from-shown {T = g.row.T.Denot} {U = g.row.U.Denot} c.domain.inside.state c.domain.invariant
    c.args.domain.now c.domain.view_is c.args.self c.requires.live (returns-clause-sent g c) in
    let stays = sent-to-stays {T = g.row.T.Denot} {U = g.row.U.Denot} c.args.domain.now _ it.m it.s it.shown
    (answers_of g.F.BackpressureFn.allows g.G.DegradationFn.allows c.args.domain.now.boxes.publishers) c.args.self it.l
    it.out it.its c.args.channel c.args.connection it.step.0
    (λ x at. (unblocked-parts c.args.domain.now (written_key c.args.self) c.requires.unblocked).1 x
    (sym (ap (λ (t : State g.row.T.Denot g.row.U.Denot). t.publishers c.args.self.loan.publisher) it.shown.state)
    ∙ ap it.s.publishers (sym it.its) ∙ at))
    c.outcome_of.result it.step.1 it.step.2
    (same-boxes c.domain.inside.state c.send_to_connection-end.new.state c.args.domain.now c.domain.view_is
    c.domain.invariant c.send_to_connection-end.ensures.places) in
    record {
      ok = λ lent never. sent-to-ok {T = g.row.T.Denot} {U = g.row.U.Denot} c.args.domain.now
          (keeping c.args.domain.now.boxes c.send_to_connection-end.new.state) it.m it.s it.shown
          (answers_of g.F.BackpressureFn.allows g.G.DegradationFn.allows c.args.domain.now.boxes.publishers) c.args.self
          it.l it.out it.its c.args.channel c.args.connection it.step.0 (written_key c.args.self)
          (sym it.its) lent never c.outcome_of.result it.step.2;
      delivered = λ never.
          is-delivered c.outcome_of.result (λ blocked.
          to-never-waits {T = g.row.T.Denot} {U = g.row.U.Denot} c.args.domain.now
          (keeping c.args.domain.now.boxes c.send_to_connection-end.new.state) it.m it.s it.shown
          (answers_of g.F.BackpressureFn.allows g.G.DegradationFn.allows c.args.domain.now.boxes.publishers)
          c.args.self.loan.number it.l it.out c.args.channel c.args.connection
          (result_of_send c.outcome_of.result) it.step.0 it.step.2 (written_key c.args.self) never
          (sym it.its) blocked);
      blocked =
          let parts = written-parts c.args.domain.now c.args.self c.requires.live in
          is-blocked {T = g.row.T.Denot} {U = g.row.U.Denot} (keeping _ c.send_to_connection-end.new.state)
          (written_key c.args.self) _
          (ap blocked_key c.of-blocked.ensures) c.outcome_of.result c.outcome_of.ensures.blocked (λ blocked.
          subst (IsBlockedKey (keeping _ c.send_to_connection-end.new.state))
          (sym (ap blocked_key c.of-blocked.ensures))
          (blocked-live (keeping _ c.send_to_connection-end.new.state) (written_key c.args.self) (
            parts.0 ∙ sym (ap (λ (k : ServiceConfig). k.service_id) stays.settings),
            subst (λ (p : ℕ).
                HoldsBlocked (state_of (kept_of c.send_to_connection-end.new.state)) p c.args.self.loan.number) it.its
                (subst (λ (t : State g.row.T.Denot g.row.U.Denot).
                HoldsBlocked t it.l.publisher c.args.self.loan.number) (it.step.1).state
                (send_to_connection_waits_with
                (answers_of g.F.BackpressureFn.allows g.G.DegradationFn.allows c.args.domain.now.boxes.publishers) it.s
                c.args.self.loan.number it.l c.args.channel c.args.connection it.step.0 _ it.step.2 blocked)),
          )));
      spent = λ live. to-spends {T = g.row.T.Denot} {U = g.row.U.Denot} c.args.domain.now _ it.m it.s it.shown
          (answers_of g.F.BackpressureFn.allows g.G.DegradationFn.allows c.args.domain.now.boxes.publishers)
          c.args.self.loan.number it.l it.out c.args.channel c.args.connection
          (result_of_send c.outcome_of.result) it.step.0 it.step.2 (written_key c.args.self) refl _ it.step.1 live;
      others = sent-to-others {T = g.row.T.Denot} {U = g.row.U.Denot} c.args.domain.now _ it.m it.s it.shown
          (answers_of g.F.BackpressureFn.allows g.G.DegradationFn.allows c.args.domain.now.boxes.publishers) c.args.self
          it.l it.out it.its c.args.channel c.args.connection it.step.0 c.outcome_of.result it.step.1 it.step.2;
      up_to_date = sent-to-up_to_date {T = g.row.T.Denot} {U = g.row.U.Denot} c.args.domain.now _ it.m it.s it.shown
          (answers_of g.F.BackpressureFn.allows g.G.DegradationFn.allows c.args.domain.now.boxes.publishers) c.args.self
          it.l it.out it.its c.args.channel c.args.connection it.step.0
          (result_of_send c.outcome_of.result) _ it.step.1 it.step.2;
      loans_left = send-to-left {T = g.row.T.Denot} {U = g.row.U.Denot} c.args.domain.now _ it.m _ it.s it.step.0
          it.shown it.step.1 (answers_of g.F.BackpressureFn.allows g.G.DegradationFn.allows
          c.args.domain.now.boxes.publishers) c.args.self.loan.number it.l it.out c.args.self.loan.publisher it.its
          c.args.channel c.args.connection (result_of_send c.outcome_of.result) it.step.2;
      borrows_left = send-to-borrows {T = g.row.T.Denot} {U = g.row.U.Denot} c.args.domain.now _ it.m _ it.s it.step.0
          it.shown it.step.1 (answers_of g.F.BackpressureFn.allows g.G.DegradationFn.allows
          c.args.domain.now.boxes.publishers) c.args.self.loan.number it.l c.args.channel c.args.connection
          (result_of_send c.outcome_of.result) it.step.2;
      given_back = λ ends. send-to-gives {T = g.row.T.Denot} {U = g.row.U.Denot} c.args.domain.now _ it.m _ it.s
          it.step.0 it.shown it.step.1
          (answers_of g.F.BackpressureFn.allows g.G.DegradationFn.allows c.args.domain.now.boxes.publishers)
          c.args.self.loan.number it.l it.out c.args.self.loan.publisher it.its c.args.channel c.args.connection
          (result_of_send c.outcome_of.result) (sent-free c.outcome_of.result ends) it.step.2;
      stays = stays;
    }

pub returns-clause-serves : goal.returns-clause-serves
returns-clause-serves g c = λ subscriber values first at connected reads.
    let it = from-shown {T = g.row.T.Denot} {U = g.row.U.Denot} c.domain.inside.state c.domain.invariant
    c.args.domain.now c.domain.view_is c.args.self c.requires.live (returns-clause-sent g c) in
    sends-to-serves {T = g.row.T.Denot} {U = g.row.U.Denot} c.args.domain.now _ it.m it.s it.shown
    (answers_of g.F.BackpressureFn.allows g.G.DegradationFn.allows c.args.domain.now.boxes.publishers)
    c.args.self.loan.number it.l it.out c.args.self.loan.publisher it.its c.args.channel c.args.connection first
    c.outcome_of.result it.step.0 it.step.1 it.step.2
    subscriber values at connected reads

pub returns-clause-pending : goal.returns-clause-pending
returns-clause-pending g c = λ subscriber values first at connected reads.
    let it = from-shown {T = g.row.T.Denot} {U = g.row.U.Denot} c.domain.inside.state c.domain.invariant
    c.args.domain.now c.domain.view_is c.args.self c.requires.live (returns-clause-sent g c) in
    sends-to-pends {T = g.row.T.Denot} {U = g.row.U.Denot} c.args.domain.now _ it.m it.s it.shown
    (answers_of g.F.BackpressureFn.allows g.G.DegradationFn.allows c.args.domain.now.boxes.publishers)
    c.args.self.loan.number it.l it.out c.args.self.loan.publisher it.its c.args.channel c.args.connection first
    c.outcome_of.result it.step.0 it.step.1 it.step.2
    (written_key c.args.self) refl refl (returns-clause-spends g c).blocked subscriber values at connected reads

pub returns-clause-counts : goal.returns-clause-counts
returns-clause-counts g c = λ subscriber values first at connected reads.
    let it = from-shown {T = g.row.T.Denot} {U = g.row.U.Denot} c.domain.inside.state c.domain.invariant
    c.args.domain.now c.domain.view_is c.args.self c.requires.live (returns-clause-sent g c) in
    sends-to-counts {T = g.row.T.Denot} {U = g.row.U.Denot} c.args.domain.now _ it.m it.s it.shown
    (answers_of g.F.BackpressureFn.allows g.G.DegradationFn.allows c.args.domain.now.boxes.publishers)
    c.args.self.loan.number it.l it.out c.args.self.loan.publisher it.its c.args.channel c.args.connection first
    c.outcome_of.result it.step.0 it.step.1 it.step.2
    subscriber values at connected reads

pub returns-clause-roomy : goal.returns-clause-roomy
returns-clause-roomy g c = λ subscriber first at connected its few.
    let it = from-shown {T = g.row.T.Denot} {U = g.row.U.Denot} c.domain.inside.state c.domain.invariant
    c.args.domain.now c.domain.view_is c.args.self c.requires.live (returns-clause-sent g c) in
    unhindered-is c.outcome_of.result
    (sends-to-roomy {T = g.row.T.Denot} {U = g.row.U.Denot} c.args.domain.now
    (keeping (record { publishers = c.domain.inside.boxes.boxes; subscribers = c.domain.inside.subscriber_boxes.boxes })
    c.send_to_connection-end.new.state) it.m it.s it.shown
    (answers_of g.F.BackpressureFn.allows g.G.DegradationFn.allows c.args.domain.now.boxes.publishers)
    c.args.self.loan.number it.l it.out c.args.self.loan.publisher it.its c.args.channel c.args.connection first
    c.outcome_of.result it.step.0 it.step.1 it.step.2 subscriber at connected its few)

pub returns-clause-arrives : goal.returns-clause-arrives
returns-clause-arrives g c = λ subscriber values first at none connected reads.
    let it = from-shown {T = g.row.T.Denot} {U = g.row.U.Denot} c.domain.inside.state c.domain.invariant
    c.args.domain.now c.domain.view_is c.args.self c.requires.live (returns-clause-sent g c) in
    send-arrives {T = g.row.T.Denot} {U = g.row.U.Denot} c.args.domain.now _ it.m _ it.s it.step.0 it.shown it.step.1
    subscriber c.args.self.loan.publisher values none c.outcome_of.result
    (returns-clause-serves g c subscriber values first at connected reads)

pub returns-clause-joins : goal.returns-clause-joins
returns-clause-joins g c = λ subscriber values earlier first at all its room connected reads.
    let it = from-shown {T = g.row.T.Denot} {U = g.row.U.Denot} c.domain.inside.state c.domain.invariant
    c.args.domain.now c.domain.view_is c.args.self c.requires.live (returns-clause-sent g c) in
    send-joins {T = g.row.T.Denot} {U = g.row.U.Denot} c.args.domain.now _ it.m _ it.s it.step.0 it.shown it.step.1
    subscriber c.args.self.loan.publisher values earlier all its room c.outcome_of.result
    (returns-clause-serves g c subscriber values first at connected reads)

pub returns-clause-alone : goal.returns-clause-alone
returns-clause-alone g c = λ other away.
    let it = from-shown {T = g.row.T.Denot} {U = g.row.U.Denot} c.domain.inside.state c.domain.invariant
    c.args.domain.now c.domain.view_is c.args.self c.requires.live (returns-clause-sent g c) in
    sends-to-alone {T = g.row.T.Denot} {U = g.row.U.Denot} c.args.domain.now _ it.m it.s it.shown
    (answers_of g.F.BackpressureFn.allows g.G.DegradationFn.allows c.args.domain.now.boxes.publishers)
    c.args.self.loan.number it.l it.out c.args.self.loan.publisher it.its c.args.channel c.args.connection
    c.outcome_of.result it.step.0 it.step.1 it.step.2 other away

pub returns-clause-failed : goal.returns-clause-failed
returns-clause-failed g c = λ subscriber values first at connected reads.
    let it = from-shown {T = g.row.T.Denot} {U = g.row.U.Denot} c.domain.inside.state c.domain.invariant
    c.args.domain.now c.domain.view_is c.args.self c.requires.live (returns-clause-sent g c) in
    sends-to-fail {T = g.row.T.Denot} {U = g.row.U.Denot} c.args.domain.now _ it.m it.s it.shown
    (answers_of g.F.BackpressureFn.allows g.G.DegradationFn.allows c.args.domain.now.boxes.publishers)
    c.args.self.loan.number it.l it.out c.args.self.loan.publisher it.its c.args.channel c.args.connection first
    c.outcome_of.result it.step.0 it.step.1 it.step.2 subscriber values at connected reads

pub returns-clause-full : goal.returns-clause-full
returns-clause-full g c = λ subscriber first at connected.
    let it = from-shown {T = g.row.T.Denot} {U = g.row.U.Denot} c.domain.inside.state c.domain.invariant
    c.args.domain.now c.domain.view_is c.args.self c.requires.live (returns-clause-sent g c) in
    sends-to-full {T = g.row.T.Denot} {U = g.row.U.Denot} c.args.domain.now _ it.m it.s it.shown
    (answers_of g.F.BackpressureFn.allows g.G.DegradationFn.allows c.args.domain.now.boxes.publishers)
    c.args.self.loan.number it.l it.out c.args.self.loan.publisher it.its c.args.channel c.args.connection first
    c.outcome_of.result it.step.0 it.step.1 it.step.2 (written_key c.args.self) refl
    (returns-clause-spends g c).blocked subscriber at connected
