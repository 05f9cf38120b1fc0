use Rattle.call_recorder.proofs.BytesMore.{begins-reads}
use Rattle.call_recorder.proofs.Parts.{begins-then, call-ends, keeps-begins}
use Rattle.call_recorder.proofs.recorder.Recorder.keep_received.Goals as goal

pub returns : goal.returns
returns c =
    call-ends _ _ _ _ _ c.len-start.result
    (begins-then _ _ _ _ _ _ _
    (keeps-begins _ _ _ _ c.keep_maker.ensures)
    (begins-reads _ _ _ _ _ _ c.args.bytes.now c.len-start.ensures.commands c.keep_maker.ensures.bytes
    c.keep_reads.ensures))
    c.len-start.ensures.commands c.len-start.ensures.replies c.end_call.ensures.whole c.end_call.ensures.cut
