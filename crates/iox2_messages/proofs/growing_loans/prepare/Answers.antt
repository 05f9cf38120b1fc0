use Rattle.std.proofs.Common.{slice_index_or, None, Ok, Err, ap, sym, ◌∙◌}
use Rattle.std.proofs.lemmas.Result.{err_from_is_err_and}
use Rattle.iox2_domain.specs.Fields.{Fields}
use Rattle.iox2_messages.proofs.GrowingPass.{grows-then, stands-ready, prepares-then}
use Rattle.iox2_messages.proofs.growing_loans.prepare.Goals as goal

pub let_go_of_older-requires-clause-stands : goal.let_go_of_older-requires-clause-stands
let_go_of_older-requires-clause-stands g c = (c.requires.grows.0, c.requires.grows.1)

pub find_slot-requires-clause-agrees : goal.find_slot-requires-clause-agrees
find_slot-requires-clause-agrees g c = c.let_go_of_older.ensures.reaches.agrees

pub find_slot-requires-clause-grows : goal.find_slot-requires-clause-grows
find_slot-requires-clause-grows g c =
    grows-then {T = g.row.T.Denot} {U = g.row.U.Denot} c.args.state.now c.let_go_of_older.new.state c.requires.agrees
    c.args.place c.let_go_of_older.ensures.reaches c.let_go_of_older.ensures.same c.args.len c.requires.grows

pub expect_loan-requires : goal.expect_loan-requires
expect_loan-requires g c =
    stands-ready {T = g.row.T.Denot} {U = g.row.U.Denot} c.args.state.now c.let_go_of_older.new.state c.requires.agrees
    c.args.place c.let_go_of_older.ensures.reaches c.let_go_of_older.ensures.same c.args.len c.find_slot.new.state
    c.requires.grows c.in_ok-find_slot.ensures

pub returns-in_err-find_slot : goal.returns-in_err-find_slot
returns-in_err-find_slot g c =
    let refused = err_from_is_err_and c.from_residual.result c.from_residual.ensures.1 in
    rw (refused.1, refused.2)
    (prepares-then {T = g.row.T.Denot} {U = g.row.U.Denot} c.args.state.now c.let_go_of_older.new.state
    c.requires.agrees c.args.place c.let_go_of_older.ensures.reaches c.let_go_of_older.ensures.same c.args.len
    {A = Unit {0}}
    (Err c.in_err-find_slot.field-0.0) c.find_slot.new.state c.in_err-find_slot.ensures)

pub returns : goal.returns
returns g c = λ x at.
    rw c.expect_loan.ensures
    (prepares-then {T = g.row.T.Denot} {U = g.row.U.Denot} c.args.state.now c.let_go_of_older.new.state
    c.requires.agrees c.args.place c.let_go_of_older.ensures.reaches c.let_go_of_older.ensures.same c.args.len
    {A = Unit {0}}
    (Ok (tt {0})) c.find_slot.new.state c.in_ok-find_slot.ensures x at)
