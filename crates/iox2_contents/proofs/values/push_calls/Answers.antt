use Rattle.std.proofs.Common.{◌≡◌, ◌+◌, length, refl, arith}
use denote.Param.Always.{mut_next}
use Rattle.std.proofs.lemmas.Fn.{FoldsTo-push}
use Rattle.std.proofs.lemmas.Grind.{common_steps}
use Rattle.iox2_contents.proofs.CallLists.{enumerate_from-push}
use Rattle.iox2_contents.proofs.values.push_calls.Goals as goal

pub loop-index-preserved : goal.loop-index-preserved
loop-index-preserved g c = record {
  callable = mut_next _ _ _ _ _ _ c.f.ensures refl c.loop-index.invariant.callable;
  called =
      let at_index : 0 + length c.loop-index.values.items ≡ c.loop-index.index = omega arith in
      rw (c.push_reserved.ensures.items, enumerate_from-push, at_index)
      (FoldsTo-push _ _ _ _ _ _ c.loop-index.invariant.called c.f.ensures);
  len = grind (arith, common_steps);
  length = grind (arith, common_steps);
  capacity = grind (arith, common_steps);
}

pub returns-clause-answers : goal.returns-clause-answers
returns-clause-answers g c = (c.loop-index.f, c.loop-index.invariant.called)
