use Rattle.iox2_contents.proofs.values.Values.write_from_fn.Goals as goal

pub returns-clause-answers : goal.returns-clause-answers
returns-clause-answers g c = rw c.put.ensures.items c.push_calls-values.ensures.answers
