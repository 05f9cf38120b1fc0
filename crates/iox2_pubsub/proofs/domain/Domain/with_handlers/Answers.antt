use Rattle.iox2_domain.specs.Fields.{keeping}
use Rattle.iox2_pubsub.proofs.SliceParts.{carries-as}
use Rattle.iox2_pubsub.proofs.Fresh.{new_is_domain, new_is_shown}
use Rattle.iox2_pubsub.proofs.LoansLeftShown.{fresh-numbers}
use Rattle.iox2_pubsub.proofs.domain.Domain.with_handlers.Goals as goal

pub invariant_of-result : goal.invariant_of-result
invariant_of-result g c =
    new_is_domain {T = g.row.T.Denot} {U = g.row.U.Denot} c.args.config c.in-Ok.state c.in-Ok.ensures

pub returns : goal.returns
returns g c =
    let fresh = new_is_shown {T = g.row.T.Denot} {U = g.row.U.Denot} c.args.config c.in-Ok.state c.in-Ok.ensures in
    record {
      fresh = fresh;
      settings = c.in-Ok.ensures.settings;
      numbers_left = λ n low.
          fresh-numbers {T = g.row.T.Denot} {U = g.row.U.Denot} (keeping _ c.in-Ok.state) c.args.config fresh n low;
      carries = carries-as {T = g.row.T.Denot} {U = g.row.U.Denot}
          (keeping _ c.in-Ok.state) c.args.config c.in-Ok.ensures.settings;
    }
