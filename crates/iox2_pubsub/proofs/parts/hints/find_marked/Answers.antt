use Rattle.std.proofs.Common.{◌≡◌, Bool, Some, true, false, not, refl, ap, sym, ◌∙◌}
use Rattle.std.specs.Cmp.{booleans_Decides}
use Rattle.slab.specs.Slab.{get}
use Rattle.iox2_domain.specs.Fields.{Fields, kept_of}
use Rattle.iox2_domain.specs.Kept.{state_of}
use Rattle.iox2_pubsub.specs.Parts.{written_mark}
use Rattle.iox2_pubsub.proofs.MarkedLoans.{marked-so, marks-loan}
use Rattle.iox2_pubsub.proofs.parts.hints.find_marked.Goals as goal

-- what isn't not so is so
not-not : (b : Bool) → not b ≡ false → b ≡ true
not-not true e = refl
not-not false e = absurd cc

pub returns-in_default : goal.returns-in_default
returns-in_default g c = λ held. c.in_default.ensures (held.0, held.1, held.2)

pub returns : goal.returns
returns g c =
    let here : get c.args.state.now.books c.in-Some.at.book ≡ Some c.index.result.now =
    sym (ap (λ (f : Fields g.row.T.Denot g.row.U.Denot). get f.books c.in-Some.at.book) c.state.view_is)
    ∙ c.index.ensures in
    let marked = marks-loan {T = g.row.T.Denot} {U = g.row.U.Denot} c.args.state.now c.args.loan.now.publisher
    c.args.loan.now.number c.in-Some.at.book c.in-Some.at.slot c.in-Some.ensures c.index.result.now here c.mark.result
    c.mark.ensures in
    let is = marked-so {T = g.row.T.Denot} {U = g.row.U.Denot} (state_of (kept_of c.args.state.now))
    c.args.loan.now.publisher c.args.loan.now.number (written_mark c.mark.result) c.args.wants_written marked in (
      is.0 (sym c.is_written.ensures ∙ (booleans_Decides c.is_written.result c.args.wants_written).0
          (not-not _ c.if-is_written-wants_written.false)),
      c.in-Some.ensures,
    )
