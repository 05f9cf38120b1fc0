use Rattle.std.proofs.Common.{◌≡◌, ◌+◌, ◌-◌, ◌*◌, ◌++◌, vec_len}
use Rattle.std.specs.Prelude.{vec_capacity}
use Rattle.iox2_worst_case.specs.FillingCommands.{subscribers_filled, filling_length}
use Rattle.iox2_worst_case.proofs.filling.push_subscribers.Given as goal

-- what is there with what is still to come is what there was with all of it
abbrev pub invariant-loop-subscriber : goal.invariant-loop-subscriber
invariant-loop-subscriber g l = record {
  items : l.commands.items ++ subscribers_filled l.config l.value (vec_len l.commands)
      (l.config.max_subscribers - l._subscriber)
      ≡ l.fn.commands.items ++ subscribers_filled l.config l.value (vec_len l.fn.commands) l.config.max_subscribers;
  len : vec_len l.commands ≡ vec_len l.fn.commands + l._subscriber * filling_length l.config;
  capacity : vec_capacity l.commands ≡ vec_capacity l.fn.commands;
}
