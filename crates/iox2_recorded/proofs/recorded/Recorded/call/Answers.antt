use Rattle.std.proofs.Common.{◌≡◌, true, false, refl, sym, arith, ◌∙◌, [], ◌∷◌, ◌++◌}
use Rattle.std.proofs.lemmas.Bool.{true≢false}
use Rattle.iox2_machine.specs.machine.Environments.{fixed_handlers}
use Rattle.iox2_machine.specs.machine.State.{fresh, no_messages}
use Rattle.iox2_runs.specs.Carries.{defaults_of}
use Rattle.iox2_runs.proofs.LeavingSteps.{push-placed}
use Rattle.iox2_runs.proofs.RunLoop.{still_keeps}
use Rattle.iox2_recorded.proofs.RecordedCalls.{ran-all, ran-kept, ran-missed, ran-whole, room-left, room-none, was-run}
use Rattle.iox2_recorded.specs.Recorded.{has_room_for_call}
use Rattle.iox2_recorded.proofs.recorded.Recorded.call.Goals as goal
use Rattle.iox2_recorded.proofs.recorded.Recorded.call.Goals.{then-has_room, else-has_room}

pub returns-in_err-reserve-clause-recorded : goal.returns-in_err-reserve-clause-recorded
returns-in_err-reserve-clause-recorded g c =
    let r = c.requires.recorded in
    record {
      start = r.start;
      new = r.new;
      missed_commands = r.missed_commands;
      missed_replies = r.missed_replies;
      ran = rw c.reserve.ensures.items r.ran;
      placed = rw c.reserve.ensures.items r.placed;
      kept = r.kept;
      whole = r.whole;
    }

pub returns-in_err-reserve-clause-names : goal.returns-in_err-reserve-clause-names
returns-in_err-reserve-clause-names g c = λ has. record {
  room = let grown = c.reserve.ensures.capacity in let had = has.room in omega (arith, grown, had);
  each = λ none. c.reserve.ensures.len ∙ has.each none;
}

pub returns-in_err-reserve-clause-granted : goal.returns-in_err-reserve-clause-granted
returns-in_err-reserve-clause-granted g c = λ has room.
    let full = c.in_err-reserve.ensures.full in
    let few = room-left {T = g.row.T.Denot} {U = g.row.U.Denot} {F = g.row.F.Denot}
    {G = g.row.G.Denot} c.args.self.now room in
    let named = has.each (room-none {T = g.row.T.Denot} {U = g.row.U.Denot} {F = g.row.F.Denot}
    {G = g.row.G.Denot} c.args.self.now room) in
    let fits = has.room in
    absurd (omega (arith, full, few, named, fits))

pub carry_out-made-requires : goal.carry_out-made-requires
carry_out-made-requires g c =
    let r = c.requires.recorded in
    rw c.reserve.ensures.items
    (still_keeps {T = g.row.T.Denot} {U = g.row.U.Denot} fixed_handlers
    (defaults_of g.T.Default.is_default g.U.Default.is_default) r.start c.args.self.now.domain
    (c.args.self.now.commands.items ++ r.missed_commands)
    (c.args.self.now.replies.items ++ r.missed_replies) c.args.self.now.table.items
    (no_messages {T = g.row.T.Denot} {U = g.row.U.Denot})
    (fresh {T = g.row.T.Denot} {U = g.row.U.Denot} c.args.self.now.config) r.new r.ran r.placed)

pub returns-clause-recorded : goal.returns-clause-recorded
returns-clause-recorded g c =
    let defaults = defaults_of g.T.Default.is_default g.U.Default.is_default in
    let r = c.requires.recorded in
    let old = c.args.self.now in
    let placed = c.carry_out-made.ensures.leaves.placed (rw c.reserve.ensures.items r.placed) in
    let pushed = push-placed {T = g.row.T.Denot} {U = g.row.U.Denot} c.carry_out-made.new.domain
    c.carry_out-made.new.table.items c.carry_out-made.result.1 placed.0 placed.1 in
    elim c.if-has_room.branch [
      | then-has_room w ↦
          let none = r.whole (room-none {T = g.row.T.Denot} {U = g.row.U.Denot} {F = g.row.F.Denot} {G = g.row.G.Denot}
          (record old { domain = c.carry_out-made.new.domain; table = c.push_reserved.new.self })
          (sym c.has_room.ensures ∙ w.if-has_room.true)) in
          let whole = ran-whole {T = g.row.T.Denot} {U = g.row.U.Denot} defaults r.start old.domain old.commands.items
          r.missed_commands old.replies.items r.missed_replies old.table.items r.ran none.0 none.1 in
          let more = ran-kept {T = g.row.T.Denot} {U = g.row.U.Denot} defaults r.start old.domain
          c.carry_out-made.new.domain old.commands.items old.replies.items c.reserve.new.self.items
          c.carry_out-made.new.table.items
          c.args.command c.carry_out-made.result.0 c.carry_out-made.result.1
          (rw c.reserve.ensures.items whole) c.carry_out-made.ensures.carries
          c.has_default.ensures.0 c.has_default-2.ensures.0 c.has_default.ensures.1 c.has_default-2.ensures.1 in
          rw w.self-is
          (record {
            start = r.start;
            new = r.new;
            missed_commands = [];
            missed_replies = [];
            ran = rw (
              w.push_reserved-then-has_room.ensures.items,
              w.push_reserved-then-has_room-2.ensures.items,
              c.push_reserved.ensures.items,
            )
                (ran-all {T = g.row.T.Denot}
                {U = g.row.U.Denot} defaults r.start c.carry_out-made.new.domain _ _ _ more);
            placed = rw c.push_reserved.ensures.items pushed;
            kept = rw (w.push_reserved-then-has_room.ensures.items, w.push_reserved-then-has_room-2.ensures.items)
                (was-run {T = g.row.T.Denot}
                {U = g.row.U.Denot} defaults old.config r.start c.carry_out-made.new.domain _ _ _ r.new more);
            whole = λ _. (refl, refl);
          })
      | else-has_room w ↦
          let more = ran-missed {T = g.row.T.Denot} {U = g.row.U.Denot} defaults r.start old.domain
          c.carry_out-made.new.domain old.commands.items r.missed_commands old.replies.items r.missed_replies
          c.reserve.new.self.items c.carry_out-made.new.table.items c.args.command c.carry_out-made.result.0
          c.carry_out-made.result.1 (rw c.reserve.ensures.items r.ran) c.carry_out-made.ensures.carries
          c.has_default.ensures.0 c.has_default-2.ensures.0 c.has_default.ensures.1 c.has_default-2.ensures.1 in
          rw w.self-is
          (record {
            start = r.start;
            new = r.new;
            missed_commands = r.missed_commands ++ c.args.command ∷ [];
            missed_replies = r.missed_replies ++ c.carry_out-made.result.0 ∷ [];
            ran = rw c.push_reserved.ensures.items more;
            placed = rw c.push_reserved.ensures.items pushed;
            kept = r.kept;
            whole = λ none. absurd (omega (arith, none, w.saturating_add-self.ensures));
          })
    ]

pub returns-clause-carries : goal.returns-clause-carries
returns-clause-carries g c =
    let carries = rw c.reserve.ensures.items at c.carry_out-made.ensures.carries in
    elim c.if-has_room.branch [
      | then-has_room w ↦ rw w.self-is
          (c.carry_out-made.new.table.items, c.carry_out-made.result.1, carries, c.push_reserved.ensures.items)
      | else-has_room w ↦ rw w.self-is
          (c.carry_out-made.new.table.items, c.carry_out-made.result.1, carries, c.push_reserved.ensures.items)
    ]

pub returns-clause-keeps : goal.returns-clause-keeps
returns-clause-keeps g c =
    let old = c.args.self.now in
    elim c.if-has_room.branch [
      | then-has_room w ↦
          let room : has_room_for_call old ≡ true = sym c.has_room.ensures ∙ w.if-has_room.true in
          rw w.self-is
          (record {
            kept = λ _. (
              room-none {T = g.row.T.Denot} {U = g.row.U.Denot} {F = g.row.F.Denot}
                  {G = g.row.G.Denot} old room,
              w.push_reserved-then-has_room.ensures.items,
              w.push_reserved-then-has_room-2.ensures.items,
            );
            missed = λ full. absurd (true≢false (sym room ∙ full));
            room = λ calls has. (
              w.push_reserved-then-has_room.ensures.capacity ∙ has.0,
              w.push_reserved-then-has_room-2.ensures.capacity ∙ has.1,
            );
          })
      | else-has_room w ↦
          let full : has_room_for_call old ≡ false = sym c.has_room.ensures ∙ w.if-has_room.false in
          rw w.self-is
          (record {
            kept = λ room. absurd (true≢false (sym room ∙ full));
            missed = λ _. (w.saturating_add-self.ensures, refl, refl);
            room = λ calls has. has;
          })
    ]

pub returns-clause-names : goal.returns-clause-names
returns-clause-names g c = λ has.
    let old = c.args.self.now in
    let had = has.room in
    let reserved = c.reserve.ensures.capacity in
    let carried = c.carry_out-made.ensures.room.capacity in
    let pushed = c.push_reserved.ensures.capacity in
    elim c.if-has_room.branch [
      | then-has_room w ↦
          let none = room-none {T = g.row.T.Denot} {U = g.row.U.Denot} {F = g.row.F.Denot} {G = g.row.G.Denot}
          (record old { domain = c.carry_out-made.new.domain; table = c.push_reserved.new.self })
          (sym c.has_room.ensures ∙ w.if-has_room.true) in
          let kept = w.push_reserved-then-has_room.ensures.capacity in
          let same = has.each none in
          let reserved_len = c.reserve.ensures.len in
          let carried_len = c.carry_out-made.ensures.room.len in
          let pushed_len = c.push_reserved.ensures.len in
          let kept_len = w.push_reserved-then-has_room.ensures.len in
          rw w.self-is
          (record {
            room = omega (arith, had, reserved, carried, pushed, kept);
            each = λ _. omega (arith, same, reserved_len, carried_len, pushed_len, kept_len);
          })
      | else-has_room w ↦
          rw w.self-is
          (record {
            room = omega (arith, had, reserved, carried, pushed);
            each = λ none. absurd (omega (arith, none, w.saturating_add-self.ensures));
          })
    ]
