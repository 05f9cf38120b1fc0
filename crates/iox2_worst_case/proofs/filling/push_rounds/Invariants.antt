use Rattle.std.proofs.Common.{◌≡◌, ◌+◌, ◌-◌, ◌*◌, ◌++◌, vec_len}
use Rattle.std.specs.Prelude.{vec_capacity}
use Rattle.iox2_worst_case.specs.FillingCommands.{rounds}
use Rattle.iox2_worst_case.proofs.filling.push_rounds.Given as goal

-- what is there with what is still to come is what there was with all of it
abbrev pub invariant-loop-round : goal.invariant-loop-round
invariant-loop-round g l = record {
  items : l.commands.items ++ rounds l.variant l.value l.subscriber (vec_len l.commands) (l.count - l._round)
      ≡ l.fn.commands.items ++ rounds l.variant l.value l.subscriber (vec_len l.fn.commands) l.count;
  len : vec_len l.commands ≡ vec_len l.fn.commands + 4 * l._round;
  capacity : vec_capacity l.commands ≡ vec_capacity l.fn.commands;
}
