use Rattle.iox2_domain.specs.Boxes.{answers_of}
use Rattle.iox2_pubsub.specs.Live.{publisher_key}
use Rattle.iox2_runs.proofs.CarriedBlocked.{each_blocked}
use Rattle.iox2_runs.proofs.CarriedCopies.{copy_passed, copy_of_other, copy_held_up, copy_came}
use Rattle.iox2_runs.proofs.LeavingSteps.{leaves-copying}
use Rattle.iox2_runs.proofs.LiveEntries.{shown_free}
use Rattle.iox2_runs.proofs.Services.{single-here}
use Rattle.iox2_runs.proofs.Turned.{keeps, looks, unready}
use Rattle.iox2_machine.specs.declared.key.Key.{Key}
use Rattle.std.proofs.Common.{sym, ap, ◌∙◌}
use Rattle.iox2_runs.proofs.runs.lends.send_copy.Goals as goal

pub returns-then-not-is_single_valued : goal.returns-then-not-is_single_valued
returns-then-not-is_single_valued g c =
    looks {T = g.row.T.Denot} {U = g.row.U.Denot} _ _ c.args.domain.now c.args.held _ _
    (λ table of at. copy_of_other {T = g.row.T.Denot} {U = g.row.U.Denot} _ c.args.domain.now c.args.domain.now table of
    c.args.value (sym c.is_single_valued.ensures ∙ c.if-not-is_single_valued.true))

pub send_copy-requires : goal.send_copy-requires
send_copy-requires g c =
    record {
      ready = c.in-Ok.ensures.1;
      single_valued = single-here {T = g.row.T.Denot}
          {U = g.row.U.Denot} c.args.domain.now (sym c.is_single_valued.ensures ∙ c.if-not-is_single_valued.false);
    }

pub returns-in-Ok : goal.returns-in-Ok
returns-in-Ok g c =
    rw (c.in-Ok.ensures.0, c.send_reply-reply.ensures.reply, c.send_reply-reply.ensures.made)
    (keeps {T = g.row.T.Denot} {U = g.row.U.Denot} _ _ c.args.domain.now c.send_copy.new.domain _ _ _ _ (λ table of at.
    copy_came {T = g.row.T.Denot} {U = g.row.U.Denot}
    (answers_of g.F.BackpressureFn.allows g.G.DegradationFn.allows c.args.domain.now.boxes.publishers) _
    c.args.domain.now c.send_copy.new.domain table of c.in-Ok.publisher c.args.value c.send_copy.result at
    (shown_free {T = g.row.T.Denot} {U = g.row.U.Denot} c.args.domain.now (publisher_key c.in-Ok.publisher)
    (c.in-Ok.ensures.1).unblocked) (sym c.is_single_valued.ensures ∙ c.if-not-is_single_valued.false)
    c.send_copy.ensures.sends c.send_copy.ensures.blocked)
    (λ table of at. leaves-copying {T = g.row.T.Denot} {U = g.row.U.Denot} c.args.domain.now c.send_copy.new.domain
    table of c.in-Ok.publisher c.send_copy.result at c.send_copy.ensures.stays
    (each_blocked _ _ (λ blocked is. ap (λ (k : Key). k.port) is.1) c.send_copy.result c.send_copy.ensures.blocked)))

pub returns-in-Err : goal.returns-in-Err
returns-in-Err g c =
    rw c.in-Err.ensures.0
    (unready {T = g.row.T.Denot} {U = g.row.U.Denot} _ _ c.args.domain.now c.args.held _ c.in-Err.ensures.1
    (λ table of other at. copy_passed {T = g.row.T.Denot}
    {U = g.row.U.Denot} _ c.args.domain.now c.args.domain.now table of c.args.value other)
    (λ table of h at waits. copy_held_up {T = g.row.T.Denot}
    {U = g.row.U.Denot} _ c.args.domain.now c.args.domain.now table of c.args.value h at waits))
