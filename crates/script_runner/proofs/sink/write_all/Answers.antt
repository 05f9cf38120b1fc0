use Rattle.std.proofs.Common.{rules, ◌++◌, take}
use Rattle.std.proofs.KnownBytes.{Appends-trans}
use Rattle.script_runner.proofs.Writing.{Appends-kept, AppendsPart-rest, moves_front, if_err}
use Rattle.script_runner.proofs.sink.write_all.Goals as goal

pub loop-preserved : goal.loop-preserved
loop-preserved g c =
    let (done, split, grew) = c.loop.invariant in
    let rest = c.loop.rest.now in
    let count = c.in_ok-count.count in (
      done ++ take count rest,
      moves_front _ done rest count split,
      Appends-trans _ _ _ _ _ grew c.in_ok-count.ensures.bytes,
    )

pub returns-in_err-count-clause-err : goal.returns-in_err-count-clause-err
returns-in_err-count-clause-err g c =
    let (done, split, grew) = c.loop.invariant in
    if_err c.from_residual.result (λ _.
    AppendsPart-rest _ _ _ done _ split (search rules) (Appends-kept _ _ _ _ grew c.in_err-count.ensures.bytes))

pub returns-else-is_empty-2-clause-err : goal.returns-else-is_empty-2-clause-err
returns-else-is_empty-2-clause-err g c =
    let (done, split, grew) = c.loop.invariant in
    AppendsPart-rest _ _ _ done _ split (search rules) grew
