use Rattle.std.proofs.Common.{◌≡◌, true, false, Option, None, Some, sym, ◌∙◌, refl, ℕ}
use Rattle.std.specs.Option.{is_some}
use Rattle.iox2_domain.specs.Boxes.{answers_of}
use Rattle.iox2_domain.proofs.lemmas.fields.ConnectionEnds.{free-of}
use Rattle.iox2_steps.proofs.sends.NobodyThere.{discard-sends-none, discard-sends-lost}
use Rattle.iox2_messages.proofs.ToConnection.{may-begin, begun-is-domain, begun-stands, may-go-on, sends-there}
use Rattle.iox2_messages.proofs.connection_sends.send_to_connection.Goals as goal

-- what isn't there is none
none-if : (o : Option ℕ) → is_some o ≡ false → o ≡ None
none-if None e = refl
none-if (Some key) e = absurd cc

some-if : (o : Option ℕ) → is_some o ≡ true → (key : ℕ) × (o ≡ Some key)
some-if None e = absurd cc
some-if (Some key) e = (key, refl)

pub returns-in_default : goal.returns-in_default
returns-in_default g c =
    discard-sends-lost (answers_of g.F.BackpressureFn.allows g.G.DegradationFn.allows c.args.boxes.now.boxes)
    c.args.state.now c.discard_loan.new.state c.requires.agrees c.args.loan.publisher c.args.loan.number c.args.channel
    c.args.connection
    c.requires.live c.discard_loan.ensures c.in_default.ensures

pub returns-then-not-has_connection : goal.returns-then-not-has_connection
returns-then-not-has_connection g c =
    discard-sends-none (answers_of g.F.BackpressureFn.allows g.G.DegradationFn.allows c.args.boxes.now.boxes)
    c.args.state.now c.discard_loan-then-not-has_connection.new.state c.requires.agrees c.args.loan.publisher
    c.args.loan.number c.args.channel c.args.connection
    c.requires.live c.discard_loan-then-not-has_connection.ensures c.in-Some.place c.in-Some.ensures.0
    c.in-Some.ensures.1 c.in-Some.ensures.2
    (free-of c.args.state.now c.requires.agrees.parts c.args.loan.publisher c.in-Some.place c.in-Some.ensures.0
    c.in-Some.ensures.1 c.in-Some.ensures.2 c.requires.unblocked)
    (none-if _ (sym (c.has_connection.ensures c.in-Some.ensures.0 c.in-Some.ensures.1) ∙ c.if-not-has_connection.true))

pub begin-requires : goal.begin-requires
begin-requires g c =
    let link = some-if _
    (sym (c.has_connection.ensures c.in-Some.ensures.0 c.in-Some.ensures.1) ∙ c.if-not-has_connection.false) in
    may-begin c.args.state.now c.requires.agrees c.args.loan.publisher c.args.loan.number c.in-Some.place
    c.requires.live c.requires.unblocked c.in-Some.ensures c.args.channel c.args.connection c.requires.channel link.0
    link.1
    c.find_live_loan-at.result.book c.find_live_loan-at.result.slot c.find_live_loan-at.ensures

pub reclaim-requires-clause-agrees : goal.reclaim-requires-clause-agrees
reclaim-requires-clause-agrees g c =
    let link = some-if _
    (sym (c.has_connection.ensures c.in-Some.ensures.0 c.in-Some.ensures.1) ∙ c.if-not-has_connection.false) in
    begun-is-domain c.args.state.now c.requires.agrees c.args.loan.publisher c.args.loan.number c.in-Some.place
    c.requires.live c.requires.unblocked c.in-Some.ensures c.args.channel c.args.connection c.requires.channel link.0
    link.1
    c.find_live_loan-at.result.book c.find_live_loan-at.result.slot c.find_live_loan-at.ensures c.begin.new.state
    c.begin.ensures

pub reclaim-requires-clause-stands : goal.reclaim-requires-clause-stands
reclaim-requires-clause-stands g c =
    let link = some-if _
    (sym (c.has_connection.ensures c.in-Some.ensures.0 c.in-Some.ensures.1) ∙ c.if-not-has_connection.false) in
    begun-stands c.args.state.now c.requires.agrees c.args.loan.publisher c.args.loan.number c.in-Some.place
    c.requires.live c.requires.unblocked c.in-Some.ensures c.args.channel c.args.connection c.requires.channel link.0
    link.1
    c.find_live_loan-at.result.book c.find_live_loan-at.result.slot c.find_live_loan-at.ensures c.begin.new.state
    c.begin.ensures

pub go_on-requires : goal.go_on-requires
go_on-requires g c =
    let link = some-if _
    (sym (c.has_connection.ensures c.in-Some.ensures.0 c.in-Some.ensures.1) ∙ c.if-not-has_connection.false) in
    may-go-on c.args.state.now c.requires.agrees c.args.loan.publisher c.args.loan.number c.in-Some.place
    c.requires.live c.requires.unblocked c.in-Some.ensures c.args.channel c.args.connection c.requires.channel link.0
    link.1
    c.find_live_loan-at.result.book c.find_live_loan-at.result.slot c.find_live_loan-at.ensures c.begin.new.state
    c.begin.ensures c.reclaim.new.state c.reclaim.ensures.reaches c.reclaim.ensures.only c.reclaim.ensures.reclaimed
    c.begun_at.result c.begun_at.ensures

pub returns : goal.returns
returns g c =
    let link = some-if _
    (sym (c.has_connection.ensures c.in-Some.ensures.0 c.in-Some.ensures.1) ∙ c.if-not-has_connection.false) in
    rw c.of.ensures.same
    (sends-there c.args.state.now c.requires.agrees c.args.loan.publisher c.args.loan.number c.in-Some.place
    c.requires.live c.requires.unblocked c.in-Some.ensures c.args.channel c.args.connection c.requires.channel link.0
    link.1
    c.find_live_loan-at.result.book c.find_live_loan-at.result.slot c.find_live_loan-at.ensures c.begin.new.state
    c.begin.ensures c.reclaim.new.state c.reclaim.ensures.reaches c.reclaim.ensures.only c.reclaim.ensures.reclaimed
    (answers_of g.F.BackpressureFn.allows g.G.DegradationFn.allows c.args.boxes.now.boxes) c.begun_at.result
    c.begun_at.ensures c.go_on.result c.go_on.new.state c.go_on.ensures)
