use Rattle.iox2_steps.proofs.discards.DiscardSteps.{can-return, once-lent, has-content, discards-loan}
use Rattle.iox2_steps.proofs.discards.LeftLoan.{can-let-go, left-discarded}
use Rattle.iox2_messages.proofs.discards.discard_loan.Goals as goal

pub discard_loan_at-requires : goal.discard_loan_at-requires
discard_loan_at-requires g c = record {
  stands = can-return c.args.state.now c.requires.agrees c.args.loan.publisher c.args.loan.number c.in-Some.place
      c.requires.live c.in-Some.ensures
      c.find_live_loan-at.result.book c.find_live_loan-at.result.slot c.find_live_loan-at.ensures;
  once = once-lent c.args.state.now c.requires.agrees c.args.loan.publisher c.args.loan.number c.in-Some.place
      c.requires.live c.in-Some.ensures
      c.find_live_loan-at.result.book c.find_live_loan-at.result.slot c.find_live_loan-at.ensures;
  contents = has-content c.args.state.now c.requires.agrees c.args.loan.publisher c.args.loan.number c.in-Some.place
      c.requires.live c.in-Some.ensures
      c.find_live_loan-at.result.book c.find_live_loan-at.result.slot c.find_live_loan-at.ensures;
}

pub let_go-requires : goal.let_go-requires
let_go-requires g c = can-let-go c.args.state.now c.requires.agrees c.args.loan.publisher c.args.loan.number
    c.find_live_loan-at.result.book c.find_live_loan-at.result.slot c.find_live_loan-at.ensures c.in-None.ensures

pub returns-in-Some : goal.returns-in-Some
returns-in-Some g c =
    discards-loan c.args.state.now c.requires.agrees c.args.loan.publisher c.args.loan.number c.in-Some.place
    c.requires.live c.in-Some.ensures
    c.find_live_loan-at.result.book c.find_live_loan-at.result.slot c.find_live_loan-at.ensures
    c.discard_loan_at.new.state c.discard_loan_at.ensures

pub returns-in-None : goal.returns-in-None
returns-in-None g c =
    left-discarded c.args.state.now c.requires.agrees c.args.loan.publisher c.args.loan.number
    c.find_live_loan-at.result.book c.find_live_loan-at.result.slot c.find_live_loan-at.ensures
    c.in-None.ensures c.let_go.new.self c.let_go.ensures
