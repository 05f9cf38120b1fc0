use Rattle.iox2_domain.specs.Boxes.{answers_of}
use Rattle.iox2_runs.proofs.CarriedBlocked.{each_blocked, goes_on_carried, goes_on_passed, retry_goes}
use Rattle.iox2_runs.proofs.LeavingSteps.{leaves-going-on}
use Rattle.iox2_runs.proofs.LiveEntries.{live_blocked}
use Rattle.iox2_runs.proofs.TableEntries.{not_blocked}
use Rattle.iox2_runs.proofs.TableLooks.{is_blocked_entry}
use Rattle.iox2_runs.proofs.Turned.{looks}
use Rattle.iox2_runs.specs.Carries.{entry_for}
use Rattle.iox2_runs.specs.declared.runs.made.Made.{Made}
use Rattle.iox2_machine.specs.declared.key.Key.{Key}
use Rattle.iox2_machine.specs.machine.Environments.{fixed_handlers}
use Rattle.std.proofs.Common.{refl, ap, ◌∙◌}
use Rattle.iox2_runs.proofs.runs.spends.retry.Goals as goal

pub retry-requires : goal.retry-requires
retry-requires g c = record {
  live = live_blocked {T = g.row.T.Denot}
      {U = g.row.U.Denot} c.args.domain.now c.args.held c.requires c.in-Blocked.blocked c.in-Blocked.is;
}

pub returns-in-Blocked : goal.returns-in-Blocked
returns-in-Blocked g c =
    rw (c.in-Blocked.is, c.send_reply-reply.ensures.reply, c.send_reply-reply.ensures.made) (record {
      carries = λ table of at.
          goes_on_carried {T = g.row.T.Denot} {U = g.row.U.Denot} _ c.args.domain.now c.retry.new.domain table _ of _
          (retry_goes (answers_of g.F.BackpressureFn.allows g.G.DegradationFn.allows c.args.domain.now.boxes.publishers)
          of c.args.elapsed) c.in-Blocked.blocked c.retry.result at
          c.retry.ensures.retries c.retry.ensures.goes_on.blocked refl;
      leaves = λ table of at.
          leaves-going-on {T = g.row.T.Denot} {U = g.row.U.Denot} c.args.domain.now c.retry.new.domain table _ of
          c.in-Blocked.blocked c.retry.result at c.retry.ensures.goes_on.stays
          (each_blocked _ _
          (λ blocked is. ap (λ (k : Key). k.port) is.1) c.retry.result c.retry.ensures.goes_on.blocked)
          refl;
    })

pub returns-in_default : goal.returns-in_default
returns-in_default g c =
    looks {T = g.row.T.Denot} {U = g.row.U.Denot} _ _ c.args.domain.now c.args.held _ _ (λ table of at.
    goes_on_passed {T = g.row.T.Denot} {U = g.row.U.Denot} _ c.args.domain.now c.args.domain.now table table of _
    (retry_goes fixed_handlers of c.args.elapsed)
    (ap (λ (h : Made). is_blocked_entry (entry_for h)) at ∙ not_blocked c.args.held c.in_default.not-Blocked))
