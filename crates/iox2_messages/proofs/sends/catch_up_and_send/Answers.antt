use Rattle.std.proofs.Common.{◌≡◌, None, Some, ap, sym, subst, ◌∙◌}
use Rattle.iox2_machine.specs.machine.Sends.{Send_error}
use Rattle.iox2_machine.specs.machine.SingleCalls.{HoldsLoan}
use Rattle.iox2_machine.specs.declared.errors.SendError.TheVariants.{ConnectionBrokenSinceSenderNoLongerExists}
use Rattle.iox2_connections.specs.LookUp.{look_up}
use Rattle.iox2_domain.specs.Fields.{Fields, kept_of}
use Rattle.iox2_domain.specs.Invariant.{IsDomain, is_publisher}
use Rattle.iox2_domain.specs.Kept.{state_of}
use Rattle.iox2_domain.specs.SentLoans.{SendsKeptLoan}
use Rattle.iox2_steps.proofs.discards.LeftLoan.{can-let-go, left-sent}
use Rattle.iox2_domain.proofs.lemmas.slots.LeftConnections.{unknown, stands-nowhere}
use Rattle.iox2_domain.specs.Boxes.{answers_of}
use Rattle.iox2_messages.proofs.ClearedSends.{ready-agrees, ready-can, ready-sends, unmet-agrees, unmet-holds}
use Rattle.iox2_messages.proofs.ClearedSends.{unmet-sends}
use Rattle.iox2_messages.proofs.SentEnds.{not-lost}
use Rattle.iox2_messages.proofs.sends.catch_up_and_send.Goals as goal

pub send_ready-requires-clause-agrees : goal.send_ready-requires-clause-agrees
send_ready-requires-clause-agrees g c =
    ready-agrees (answers_of g.F.BackpressureFn.allows g.G.DegradationFn.allows c.args.boxes.now.boxes) c.args.state.now
    c.args.publisher c.args.number c.requires.live c.requires.unblocked c.catch_up_and_find.new.state
    c.in-Some.ready.place c.in-Some.ready.slot (rw c.in-Some.is at c.in-Ok.ensures)

pub send_ready-requires-clause-can : goal.send_ready-requires-clause-can
send_ready-requires-clause-can g c =
    ready-can (answers_of g.F.BackpressureFn.allows g.G.DegradationFn.allows c.args.boxes.now.boxes) c.args.state.now
    c.args.publisher c.args.number c.requires.live c.requires.unblocked c.catch_up_and_find.new.state
    c.in-Some.ready.place c.in-Some.ready.slot (rw c.in-Some.is at c.in-Ok.ensures)

pub returns-in-Some-clause-sends : goal.returns-in-Some-clause-sends
returns-in-Some-clause-sends g c =
    rw c.send_ready.ensures.sends.1
    (ready-sends (answers_of g.F.BackpressureFn.allows g.G.DegradationFn.allows c.args.boxes.now.boxes) c.args.state.now
    c.args.publisher c.args.number c.requires.live c.requires.unblocked c.catch_up_and_find.new.state
    c.in-Some.ready.place c.in-Some.ready.slot (rw c.in-Some.is at c.in-Ok.ensures)
    c.send_ready.ensures.sends.0 c.send_ready.new.state c.send_ready.ensures.sends.2)

pub returns-in-Some-clause-kept : goal.returns-in-Some-clause-kept
returns-in-Some-clause-kept g c = λ holds. not-lost c.send_ready.result c.send_ready.ensures.kept

-- ---- of a publisher that is gone

-- nothing was changed so far
pub search_loan-at-requires-clause-live : goal.search_loan-at-requires-clause-live
search_loan-at-requires-clause-live g c =
    subst (λ (f : Fields g.row.T.Denot g.row.U.Denot). HoldsLoan (state_of (kept_of f)) c.args.publisher c.args.number)
    (sym (rw c.in-None.is at c.in-Ok.ensures).same)
    (c.requires.live.0, c.requires.live.1, c.requires.live.2)

pub let_go-requires : goal.let_go-requires
let_go-requires g c =
    can-let-go c.catch_up_and_find.new.state (subst (IsDomain {T = g.row.T.Denot} {U = g.row.U.Denot})
    (sym (rw c.in-None.is at c.in-Ok.ensures).same) c.requires.agrees) c.args.publisher c.args.number
    c.search_loan-at.result.book c.search_loan-at.result.slot c.search_loan-at.ensures
    (ap (λ (f : Fields g.row.T.Denot g.row.U.Denot). look_up (is_publisher c.args.publisher) f.publishers)
    (rw c.in-None.is at c.in-Ok.ensures).same ∙ (rw c.in-None.is at c.in-Ok.ensures).is_gone)

pub returns-in-None-clause-sends : goal.returns-in-None-clause-sends
returns-in-None-clause-sends g c =
    subst (λ (f : Fields g.row.T.Denot g.row.U.Denot).
    SendsKeptLoan (answers_of g.F.BackpressureFn.allows g.G.DegradationFn.allows c.args.boxes.now.boxes) f
    c.let_go.new.self c.args.number (Send_error ConnectionBrokenSinceSenderNoLongerExists))
    (rw c.in-None.is at c.in-Ok.ensures).same
    (left-sent c.catch_up_and_find.new.state (subst (IsDomain {T = g.row.T.Denot} {U = g.row.U.Denot})
    (sym (rw c.in-None.is at c.in-Ok.ensures).same) c.requires.agrees) c.args.publisher c.args.number
    c.search_loan-at.result.book c.search_loan-at.result.slot c.search_loan-at.ensures
    (ap (λ (f : Fields g.row.T.Denot g.row.U.Denot). look_up (is_publisher c.args.publisher) f.publishers)
    (rw c.in-None.is at c.in-Ok.ensures).same ∙ (rw c.in-None.is at c.in-Ok.ensures).is_gone)
    (answers_of g.F.BackpressureFn.allows g.G.DegradationFn.allows c.args.boxes.now.boxes) c.let_go.new.self
    c.let_go.ensures)

pub returns-in-None-clause-kept : goal.returns-in-None-clause-kept
returns-in-None-clause-kept g c = λ holds.
    let no : None ≡ Some holds.0 =
    sym (unknown c.args.state.now c.args.publisher
    (stands-nowhere c.args.state.now.publishers c.args.publisher (rw c.in-None.is at c.in-Ok.ensures).is_gone))
    ∙ holds.1 in absurd cc

-- ---- where the update fails

pub discard_loan-requires-clause-agrees : goal.discard_loan-requires-clause-agrees
discard_loan-requires-clause-agrees g c =
    unmet-agrees (answers_of g.F.BackpressureFn.allows g.G.DegradationFn.allows c.args.boxes.now.boxes) c.args.state.now
    c.args.publisher c.args.number c.requires.live c.requires.unblocked c.catch_up_and_find.new.state c.in-Err.ensures.0
    c.in-Err.failure c.in-Err.ensures.1

pub discard_loan-requires-clause-live : goal.discard_loan-requires-clause-live
discard_loan-requires-clause-live g c =
    rw (c.loan_sought.ensures.publisher, c.loan_sought.ensures.number)
    (unmet-holds (answers_of g.F.BackpressureFn.allows g.G.DegradationFn.allows c.args.boxes.now.boxes) c.args.state.now
    c.args.publisher c.args.number c.requires.live c.requires.unblocked c.catch_up_and_find.new.state c.in-Err.ensures.0
    c.in-Err.failure c.in-Err.ensures.1)

pub returns-in-Err-clause-sends : goal.returns-in-Err-clause-sends
returns-in-Err-clause-sends g c =
    unmet-sends (answers_of g.F.BackpressureFn.allows g.G.DegradationFn.allows c.args.boxes.now.boxes) c.args.state.now
    c.args.publisher c.args.number c.requires.live c.requires.unblocked c.catch_up_and_find.new.state c.in-Err.ensures.0
    c.in-Err.failure c.in-Err.ensures.1
    c.discard_loan.new.state (rw c.loan_sought.ensures.number at c.discard_loan.ensures)
