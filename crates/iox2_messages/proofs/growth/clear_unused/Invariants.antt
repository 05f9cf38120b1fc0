use Rattle.std.proofs.Common.{length}
use Rattle.iox2_domain.specs.Growth.{ClearsUnused}
use Rattle.iox2_messages.proofs.growth.clear_unused.Given as goal

-- some slots are cleared
abbrev pub invariant-loop-slot : goal.invariant-loop-slot
invariant-loop-slot g l = ClearsUnused l.book (length (l.book).holders) l.initial.contents l.contents
