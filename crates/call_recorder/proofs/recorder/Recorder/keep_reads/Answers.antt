use Rattle.call_recorder.proofs.Parts.{begins-then, keeps-begins}
use Rattle.call_recorder.proofs.BytesMore.{cells-more, reads-more}
use Rattle.call_recorder.proofs.recorder.Recorder.keep_reads.Goals as goal

pub loop-at-preserved : goal.loop-at-preserved
loop-at-preserved c =
    rw (
      reads-more c.args.of c.loop-at.at c.first_bytes-read.result.now c.loop-at-test.true,
      cells-more c.loop-at.at c.first_bytes-read.result.now c.loop-at-test.true,
    )
    (begins-then _ _ _ _ _ _ _ c.loop-at.invariant (keeps-begins _ _ _ _ (rw c.from-value.ensures at c.keep.ensures)))
