use Rattle.call_recorder.proofs.BytesMore.{begins-writes}
use Rattle.call_recorder.proofs.Parts.{begins-then, call-ends, keeps-begins}
use Rattle.call_recorder.proofs.recorder.Recorder.keep_copy.Goals as goal

pub returns : goal.returns
returns c = (
  c.common_value-value.result,
  c.common_value-value.ensures,
  call-ends _ _ _ _ _ c.len-start.result
      (begins-then _ _ _ _ _ _ _
      (begins-then _ _ _ _ _ _ _
      (keeps-begins _ _ _ _ c.keep.ensures)
      (begins-writes _ _ _ _ _ _ _ c.args.bytes.now c.len-start.ensures.commands c.keep.ensures.bytes
      c.keep_writes.ensures))
      (keeps-begins _ _ _ _ (rw c.len-start.ensures.commands at c.keep_send.ensures)))
      c.len-start.ensures.commands c.len-start.ensures.replies c.end_call.ensures.whole c.end_call.ensures.cut,
)
