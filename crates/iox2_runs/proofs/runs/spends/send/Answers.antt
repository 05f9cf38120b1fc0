use Rattle.iox2_domain.specs.Boxes.{answers_of}
use Rattle.iox2_pubsub.specs.Live.{written_key}
use Rattle.iox2_runs.proofs.CarriedBlocked.{each_blocked}
use Rattle.iox2_runs.proofs.CarriedLoans.{either-failure, send_passed, send_held_up, send_carried}
use Rattle.iox2_runs.proofs.LeavingSteps.{leaves-sending}
use Rattle.iox2_runs.proofs.LiveEntries.{live_written, known_lender, shown_free, shown_waits}
use Rattle.iox2_runs.proofs.TableEntries.{not_written}
use Rattle.iox2_runs.proofs.TableLooks.{is_written_entry}
use Rattle.iox2_runs.proofs.Turned.{looks}
use Rattle.iox2_runs.specs.Carries.{entry_for}
use Rattle.iox2_runs.specs.declared.runs.made.Made.{Made}
use Rattle.iox2_machine.specs.declared.key.Key.{Key}
use Rattle.iox2_machine.specs.machine.Environments.{fixed_handlers}
use Rattle.std.proofs.Common.{refl, ap, ◌∙◌}
use Rattle.iox2_runs.proofs.runs.spends.send.Goals as goal

pub is_blocked-requires : goal.is_blocked-requires
is_blocked-requires g c =
    record {
      live = (live_written {T = g.row.T.Denot}
          {U = g.row.U.Denot} c.args.domain.now c.args.held c.requires c.in-Written.loan c.in-Written.is).live;
    }

pub send-requires-clause-live : goal.send-requires-clause-live
send-requires-clause-live g c = live_written {T = g.row.T.Denot}
    {U = g.row.U.Denot} c.args.domain.now c.args.held c.requires c.in-Written.loan c.in-Written.is

pub send-requires-clause-unblocked : goal.send-requires-clause-unblocked
send-requires-clause-unblocked g c = c.is_blocked.ensures.0 c.if-is_blocked.false

pub returns-then-is_blocked : goal.returns-then-is_blocked
returns-then-is_blocked g c =
    rw c.in-Written.is (looks {T = g.row.T.Denot} {U = g.row.U.Denot} _ _ c.args.domain.now _ _ _ (λ table of at.
    send_held_up {T = g.row.T.Denot}
    {U = g.row.U.Denot} fixed_handlers _ c.args.domain.now c.args.domain.now table table of c.in-Written.loan at
    (shown_waits {T = g.row.T.Denot} {U = g.row.U.Denot} c.args.domain.now (written_key c.in-Written.loan)
    (known_lender {T = g.row.T.Denot} {U = g.row.U.Denot} c.args.domain.now c.args.held c.requires c.in-Written.loan
    c.in-Written.is) c.is_blocked.result c.is_blocked.ensures c.if-is_blocked.true)))

pub returns-else-is_blocked : goal.returns-else-is_blocked
returns-else-is_blocked g c =
    rw (c.in-Written.is, c.send_reply-reply.ensures.reply, c.send_reply-reply.ensures.made) (record {
      carries = λ table of at.
          send_carried {T = g.row.T.Denot} {U = g.row.U.Denot}
          (answers_of g.F.BackpressureFn.allows g.G.DegradationFn.allows c.args.domain.now.boxes.publishers) _
          c.args.domain.now c.send.new.domain table _ of c.in-Written.loan c.send.result at
          (shown_free {T = g.row.T.Denot} {U = g.row.U.Denot} c.args.domain.now (written_key c.in-Written.loan)
          (c.is_blocked.ensures.0 c.if-is_blocked.false)) c.send.ensures.sent c.send.ensures.spends.blocked
          (either-failure c.args.domain.now (written_key c.in-Written.loan) c.send.result c.send.ensures.errors) refl;
      leaves = λ table of at.
          leaves-sending {T = g.row.T.Denot} {U = g.row.U.Denot} c.args.domain.now c.send.new.domain table _ of
          c.in-Written.loan c.send.result at c.send.ensures.spends.stays
          (each_blocked _ _ (λ blocked is. ap (λ (k : Key). k.port) is.1) c.send.result c.send.ensures.spends.blocked)
          refl;
    })

pub returns-in_default : goal.returns-in_default
returns-in_default g c =
    looks {T = g.row.T.Denot} {U = g.row.U.Denot} _ _ c.args.domain.now c.args.held _ _ (λ table of at.
    send_passed {T = g.row.T.Denot} {U = g.row.U.Denot} fixed_handlers _ c.args.domain.now c.args.domain.now table table
    of (ap (λ (h : Made). is_written_entry (entry_for h)) at ∙ not_written c.args.held c.in_default.not-Written))
