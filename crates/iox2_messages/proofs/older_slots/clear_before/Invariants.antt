use Rattle.std.proofs.Common.{◌≤◌}
use Rattle.iox2_messages.proofs.OlderSlots.{ClearedFirst}
use Rattle.iox2_messages.proofs.older_slots.clear_before.Given as goal

-- some slots are looked at
abbrev pub invariant-loop-at : goal.invariant-loop-at
invariant-loop-at g l = ClearedFirst l.slots l.start l.at l.initial.contents l.contents × (l.cleared ≤ l.at)
