use Rattle.std.proofs.Common.{◌∙◌, sym}
use Rattle.call_recorder.proofs.Parts.{begins-then, keeps-begins}
use Rattle.call_recorder.proofs.BytesMore.{begins-changed, begins-same}
use Rattle.call_recorder.proofs.recorder.Recorder.keep_writes.Goals.{then-own-value, else-own-value}
use Rattle.call_recorder.proofs.recorder.Recorder.keep_writes.Goals as goal

pub loop-at-preserved : goal.loop-at-preserved
loop-at-preserved c = elim c.if-own-value.branch [
  | then-own-value w ↦
      rw w.self-is (begins-changed _ _ _ _ _ _ c.loop-at-test.true (λ e. w.if-own-value.true (c.from-own.ensures ∙ e))
      (begins-then _ _ _ _ _ _ _ c.loop-at.invariant
      (keeps-begins _ _ _ _ (rw c.from-own.ensures at w.keep-then-own-value.ensures))))
  | else-own-value w ↦ rw w.self-is
      (begins-same _ _ _ _ _ _ c.loop-at-test.true (sym c.from-own.ensures ∙ w.if-own-value.false) c.loop-at.invariant)
]
