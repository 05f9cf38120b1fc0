-- The text has what has left the reader.
use Rattle.std.specs.Io.KnownBytes.{Consumes}
use Rattle.script_runner.proofs.source.read_to_end.Given as goal

abbrev pub invariant-loop : goal.invariant-loop
invariant-loop g l = Consumes (g.R.Read.remaining l.initial.input) (g.R.Read.remaining l.input) l.text.items
