use Rattle.std.proofs.Common.{◌≡◌, ◌<◌, ◌+◌, arith, length, List, [], ◌∷◌, ◌++◌, take, get_or, refl, sym, ap, ◌∙◌}
use Rattle.std.proofs.lemmas.List.{take_more, take_all}
use Rattle.iox2_machine.specs.machine.Environments.{fixed_handlers}
use Rattle.iox2_runs.specs.Carries.{defaults_of}
use Rattle.iox2_commands.specs.declared.command.Command.{Command}
use Rattle.iox2_runs.proofs.RunLoop.{has_run_none, has_run_more, still_keeps, is_run, runs_on_domain}
use Rattle.iox2_pubsub.proofs.StaysBut.{stays-itself}
use Rattle.iox2_runs.proofs.LeavingSteps.{none-new, none-placed, push-new, push-placed}
use Rattle.iox2_runs.proofs.runs.run.Goals as goal

pub loop-command-init : goal.loop-command-init
loop-command-init g c = record {
  ran = rw (c.in-Ok.ensures.items, c.in-Ok-with_capacity.ensures.items)
      (has_run_none {T = g.row.T.Denot} {U = g.row.U.Denot} fixed_handlers
      (defaults_of g.T.Default.is_default g.U.Default.is_default) c.args.domain.now);
  stays = stays-itself {T = g.row.T.Denot} {U = g.row.U.Denot} c.args.domain.now;
  new = rw c.in-Ok-with_capacity.ensures.items (none-new {T = g.row.T.Denot} {U = g.row.U.Denot} c.args.domain.now);
  placed = rw c.in-Ok-with_capacity.ensures.items
      (none-placed {T = g.row.T.Denot} {U = g.row.U.Denot} c.args.domain.now
      (rw (← c.config.ensures.value) (sym c.lacks_cells.ensures ∙ c.if-lacks_cells.false)));
  made = omega (arith, c.in-Ok-with_capacity.ensures.len);
  replied = omega (arith, c.in-Ok.ensures.len);
  room = omega (arith, c.in-Ok-with_capacity.ensures.capacity, c.len-2.ensures);
  reply_room = omega (arith, c.in-Ok.ensures.capacity, c.len.ensures);
}

pub carry_out-reply-requires : goal.carry_out-reply-requires
carry_out-reply-requires g c =
    still_keeps {T = g.row.T.Denot} {U = g.row.U.Denot} fixed_handlers
    (defaults_of g.T.Default.is_default g.U.Default.is_default) c.args.domain.now c.loop-command.domain _ _
    c.loop-command.table.items
    c.shows_a_state.ensures.0 c.shows_a_state.ensures.1 c.shows_a_state.ensures.2 c.loop-command.invariant.ran
    c.loop-command.invariant.placed

pub push_reserved-requires-in-loop-command : goal.push_reserved-requires-in-loop-command
push_reserved-requires-in-loop-command g c =
    omega (
      arith,
      c.carry_out-reply.ensures.room.len,
      c.carry_out-reply.ensures.room.capacity,
      c.loop-command.invariant.made,
      c.loop-command.invariant.room,
      ap length c.deref-command-items.ensures.value,
      c.loop-command-test.true,
    )

pub loop-command-preserved : goal.loop-command-preserved
loop-command-preserved g c =
    let xs = c.args.commands.items in
    let i = c.loop-command.command-index in
    let x = c.command-item.result in
    let inside : i < length xs =
    omega (arith, ap length c.deref-command-items.ensures.value, c.loop-command-test.true) in
    let here : x ≡ get_or xs i x = c.command-item.is
    ∙ ap (λ (ys : List (Command g.row.T.Denot g.row.U.Denot)). get_or ys i x) c.deref-command-items.ensures.value in
    let more : take (i + 1) xs ≡ take i xs ++ x ∷ [] =
    take_more xs i x inside ∙ ap (λ (y : Command g.row.T.Denot g.row.U.Denot). take i xs ++ y ∷ []) (sym here) in
    let left = c.carry_out-reply.ensures.leaves.live c.args.domain.now c.loop-command.invariant.stays
    c.loop-command.invariant.new in
    let placed = c.carry_out-reply.ensures.leaves.placed c.loop-command.invariant.placed in
    record {
      ran = rw (more, c.push_reserved.ensures.items, c.push_reserved-in-loop-command.ensures.items)
          (has_run_more {T = g.row.T.Denot} {U = g.row.U.Denot} fixed_handlers
          (defaults_of g.T.Default.is_default g.U.Default.is_default) c.args.domain.now c.loop-command.domain
          c.carry_out-reply.new.domain
          (take i xs) c.loop-command.replies.items c.loop-command.table.items c.carry_out-reply.new.table.items x
          c.carry_out-reply.result.0 c.carry_out-reply.result.1
          c.loop-command.invariant.ran c.carry_out-reply.ensures.carries c.has_default.ensures.0
          c.has_default-2.ensures.0 c.has_default.ensures.1 c.has_default-2.ensures.1);
      stays = left.0;
      new = rw c.push_reserved-in-loop-command.ensures.items
          (push-new {T = g.row.T.Denot} {U = g.row.U.Denot} c.args.domain.now c.carry_out-reply.new.table.items
          c.carry_out-reply.result.1 left.1 left.2);
      placed = rw c.push_reserved-in-loop-command.ensures.items
          (push-placed {T = g.row.T.Denot} {U = g.row.U.Denot} c.carry_out-reply.new.domain
          c.carry_out-reply.new.table.items c.carry_out-reply.result.1 placed.0 placed.1);
      made = omega (
        arith,
        c.push_reserved-in-loop-command.ensures.len,
        c.carry_out-reply.ensures.room.len,
        c.loop-command.invariant.made,
      );
      replied = omega (arith, c.push_reserved.ensures.len, c.loop-command.invariant.replied);
      room = omega (
        arith,
        c.push_reserved-in-loop-command.ensures.capacity,
        c.carry_out-reply.ensures.room.capacity,
        c.loop-command.invariant.room,
      );
      reply_room = omega (arith, c.push_reserved.ensures.capacity, c.loop-command.invariant.reply_room);
    }

pub returns-clause-ran : goal.returns-clause-ran
returns-clause-ran g c =
    let xs = c.args.commands.items in
    let i = c.loop-command.command-index in
    let all : take i xs ≡ xs =
    take_all i xs (omega (arith, ap length c.deref-command-items.ensures.value, c.loop-command-test.false)) in
    rw all at (is_run {T = g.row.T.Denot} {U = g.row.U.Denot} fixed_handlers
    (defaults_of g.T.Default.is_default g.U.Default.is_default) c.args.domain.now c.loop-command.domain
    (take i xs) c.loop-command.replies.items c.loop-command.table.items c.loop-command.invariant.ran)

pub returns-clause-one_default : goal.returns-clause-one_default
returns-clause-one_default g c =
    let xs = c.args.commands.items in
    let i = c.loop-command.command-index in
    let all : take i xs ≡ xs =
    take_all i xs (omega (arith, ap length c.deref-command-items.ensures.value, c.loop-command-test.false)) in
    rw all at (runs_on_domain {T = g.row.T.Denot} {U = g.row.U.Denot}
    (defaults_of g.T.Default.is_default g.U.Default.is_default) c.args.domain.now c.loop-command.domain
    (take i xs) c.loop-command.replies.items c.loop-command.table.items c.loop-command.invariant.ran)

pub returns-then-lacks_cells-clause-refused : goal.returns-then-lacks_cells-clause-refused
returns-then-lacks_cells-clause-refused g c = (refl, refl)

pub returns-then-lacks_cells-clause-stays : goal.returns-then-lacks_cells-clause-stays
returns-then-lacks_cells-clause-stays g c = stays-itself {T = g.row.T.Denot} {U = g.row.U.Denot} c.args.domain.now

pub returns-in_default-with_capacity-clause-refused : goal.returns-in_default-with_capacity-clause-refused
returns-in_default-with_capacity-clause-refused g c = (refl, refl)

pub returns-clause-stays : goal.returns-clause-stays
returns-clause-stays g c = c.loop-command.invariant.stays

pub returns-in_default-clause-stays : goal.returns-in_default-clause-stays
returns-in_default-clause-stays g c = stays-itself {T = g.row.T.Denot} {U = g.row.U.Denot} c.args.domain.now

pub returns-in_default-with_capacity-clause-stays : goal.returns-in_default-with_capacity-clause-stays
returns-in_default-with_capacity-clause-stays g c =
    stays-itself {T = g.row.T.Denot} {U = g.row.U.Denot} c.args.domain.now
