use Rattle.std.proofs.Common.{ap, sym, ◌∙◌, refl}
use Rattle.iox2_domain.specs.Kept.{Kept}
use Rattle.iox2_pubsub.proofs.CallsStay.{always-shown}
use Rattle.iox2_pubsub.proofs.StaysBut.{consistent-shown}
use Rattle.iox2_pubsub.proofs.GrantedLoans.{call-leaves, call-refused, granted-leaves, lent-unfilled, lent-unwritten}
use Rattle.iox2_pubsub.proofs.PlacedHandles.{publisher-at-place}
use Rattle.iox2_pubsub.proofs.SureLoans.{sure-granted, sure-of-loan}
use Rattle.iox2_pubsub.proofs.UninitLoans.{loan-places, err-shown, ok-domain, ok-shown}
use Rattle.iox2_pubsub.proofs.publisher.Publisher.lend.Goals as goal

pub invariant_of-domain-2 : goal.invariant_of-domain-2
invariant_of-domain-2 g c =
    ok-domain {T = g.row.T.Denot} {U = g.row.U.Denot} g.U.Default.is_default c.args.checks_length c.args.len
    c.domain.inside.state c.loan.new.state c.domain.invariant c.args.self.now.place c.args.self.now.id c.loan.result
    (publisher-at-place {T = g.row.T.Denot} {U = g.row.U.Denot} c.domain.inside.state c.domain.invariant
    c.args.domain.now c.domain.view_is c.args.self.now c.requires.ready) c.loan.ensures.reaches c.in_ok-loan.loan
    c.in_ok-loan.was

pub loan-requires-clause-unchecked : goal.loan-requires-clause-unchecked
loan-requires-clause-unchecked g c =
    λ unchecked. ap (λ (k : Kept g.row.T.Denot g.row.U.Denot g.row.F.Denot g.row.G.Denot). (k.config).variant)
    c.domain.view_is ∙ c.requires.unchecked unchecked

pub loan-requires-clause-single : goal.loan-requires-clause-single
loan-requires-clause-single g c =
    λ fixed. c.requires.single
    (sym (ap (λ (k : Kept g.row.T.Denot g.row.U.Denot g.row.F.Denot g.row.G.Denot). (k.config).variant)
    c.domain.view_is) ∙ fixed)

pub returns-in_err-loan-clause-lends : goal.returns-in_err-loan-clause-lends
returns-in_err-loan-clause-lends g c = λ m s shown.
    err-shown {T = g.row.T.Denot} {U = g.row.U.Denot} g.U.Default.is_default c.args.checks_length c.args.len
    c.domain.inside.state c.loan.new.state c.domain.invariant c.args.self.now.place c.args.self.now.id c.loan.result
    (publisher-at-place {T = g.row.T.Denot} {U = g.row.U.Denot} c.domain.inside.state c.domain.invariant
    c.args.domain.now c.domain.view_is c.args.self.now c.requires.ready) c.loan.ensures.reaches _
    c.in_err-loan.field-0.0 c.in_err-loan.was c.from_residual.result c.from_residual.ensures.1 c.args.domain.now
    c.domain.view_is m s shown

pub returns-clause-lends : goal.returns-clause-lends
returns-clause-lends g c = λ m s shown.
    ok-shown {T = g.row.T.Denot} {U = g.row.U.Denot} g.U.Default.is_default c.args.checks_length c.args.len
    c.domain.inside.state c.loan.new.state c.domain.invariant c.args.self.now.place c.args.self.now.id c.loan.result
    (publisher-at-place {T = g.row.T.Denot} {U = g.row.U.Denot} c.domain.inside.state c.domain.invariant
    c.args.domain.now c.domain.view_is c.args.self.now c.requires.ready) c.loan.ensures.reaches _ c.in_ok-loan.loan
    c.in_ok-loan.loan c.in_ok-loan.was c.args.domain.now c.domain.view_is m s shown

pub returns-in_err-loan-clause-granted : goal.returns-in_err-loan-clause-granted
returns-in_err-loan-clause-granted g c = λ loans numbers left numbered short.
    let variant = ap
    (λ (k : Kept g.row.T.Denot g.row.U.Denot g.row.F.Denot g.row.G.Denot). (k.config).variant) c.domain.view_is in
    absurd (sure-granted {T = g.row.T.Denot} {U = g.row.U.Denot} g.U.Default.is_default c.args.checks_length c.args.len
    c.domain.inside.state c.loan.new.state c.domain.invariant c.args.self.now.place c.args.self.now
    short (λ unchecked. variant ∙ c.requires.unchecked unchecked) (λ fixed. c.requires.single (sym variant ∙ fixed))
    (publisher-at-place {T = g.row.T.Denot} {U = g.row.U.Denot} c.domain.inside.state c.domain.invariant
    c.args.domain.now c.domain.view_is c.args.self.now c.requires.ready) c.loan.result c.loan.ensures.reaches
    c.in_err-loan.field-0.0 c.in_err-loan.was c.args.domain.now c.domain.view_is
    (sure-of-loan {T = g.row.T.Denot}
    {U = g.row.U.Denot} c.args.domain.now c.args.self.now loans numbers left numbered))

pub loan-requires-clause-stands : goal.loan-requires-clause-stands
loan-requires-clause-stands g c =
    let at = publisher-at-place {T = g.row.T.Denot} {U = g.row.U.Denot} c.domain.inside.state c.domain.invariant
    c.args.domain.now c.domain.view_is c.args.self.now c.requires.ready in
    (at.0, at.1)

pub returns-in_err-loan-clause-refused : goal.returns-in_err-loan-clause-refused
returns-in_err-loan-clause-refused g c = call-refused {T = g.row.T.Denot} {U = g.row.U.Denot} g.U.Default.is_default
    c.args.checks_length c.args.len c.domain.inside.state c.loan.new.state c.domain.invariant c.args.domain.now
    c.domain.view_is c.args.self.now c.requires.ready c.from_residual.result (returns-in_err-loan-clause-lends g c)

pub returns-in_err-loan-clause-leaves : goal.returns-in_err-loan-clause-leaves
returns-in_err-loan-clause-leaves g c = call-leaves {T = g.row.T.Denot} {U = g.row.U.Denot} g.U.Default.is_default
    c.args.checks_length c.args.len c.domain.inside.state c.loan.new.state c.domain.invariant c.args.domain.now
    c.domain.view_is c.args.self.now c.requires.ready c.from_residual.result (returns-in_err-loan-clause-lends g c)
    (loan-places {T = g.row.T.Denot} {U = g.row.U.Denot} g.U.Default.is_default c.args.checks_length c.args.len
    c.domain.inside.state c.loan.new.state c.domain.invariant c.args.self.now.place c.args.self.now.id c.loan.result
    (publisher-at-place {T = g.row.T.Denot} {U = g.row.U.Denot} c.domain.inside.state c.domain.invariant
    c.args.domain.now c.domain.view_is c.args.self.now c.requires.ready) c.loan.ensures.reaches)

pub returns-clause-loan : goal.returns-clause-loan
returns-clause-loan g c = lent-unwritten {T = g.row.T.Denot} {U = g.row.U.Denot} g.U.Default.is_default
    c.args.checks_length c.args.len c.domain.inside.state c.loan.new.state c.domain.invariant c.args.domain.now
    c.domain.view_is c.args.self.now c.requires.ready c.loan.result c.loan.ensures.reaches c.in_ok-loan.loan
    c.in_ok-loan.was c.in_ok-loan.ensures.named c.in_ok-loan.ensures.lies

pub returns-clause-unfilled : goal.returns-clause-unfilled
returns-clause-unfilled g c = lent-unfilled {T = g.row.T.Denot} {U = g.row.U.Denot} g.U.Default.is_default
    c.args.checks_length c.args.len c.domain.inside.state c.loan.new.state c.domain.invariant c.args.domain.now
    c.domain.view_is c.args.self.now c.requires.ready c.loan.result c.loan.ensures.reaches c.in_ok-loan.loan
    c.in_ok-loan.was c.in_ok-loan.ensures.named _ refl

pub returns-clause-leaves : goal.returns-clause-leaves
returns-clause-leaves g c = granted-leaves {T = g.row.T.Denot} {U = g.row.U.Denot} g.U.Default.is_default
    c.args.checks_length c.args.len c.domain.inside.state c.loan.new.state c.domain.invariant c.args.domain.now
    c.domain.view_is c.args.self.now c.requires.ready c.loan.result c.loan.ensures.reaches c.in_ok-loan.loan
    c.in_ok-loan.was c.in_ok-loan.ensures.named

pub returns-in_err-loan-clause-consistent : goal.returns-in_err-loan-clause-consistent
returns-in_err-loan-clause-consistent g c =
    let it = always-shown {T = g.row.T.Denot}
    {U = g.row.U.Denot} c.domain.inside.state c.args.domain.now c.domain.invariant c.domain.view_is in
    consistent-shown c.args.domain.now it.0 it.1 it.2

pub returns-clause-consistent : goal.returns-clause-consistent
returns-clause-consistent g c =
    let it = always-shown {T = g.row.T.Denot}
    {U = g.row.U.Denot} c.domain.inside.state c.args.domain.now c.domain.invariant c.domain.view_is in
    consistent-shown c.args.domain.now it.0 it.1 it.2
