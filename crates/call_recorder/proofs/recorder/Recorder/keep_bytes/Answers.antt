use Rattle.std.proofs.Common.{◌∙◌, arith, sym}
use Rattle.std.proofs.lemmas.Bool.{false≢true}
use Rattle.call_recorder.specs.Recorder.{HasCommandRoom}
use Rattle.call_recorder.proofs.Parts.{part-is-cut, part-is-kept}
use Rattle.call_recorder.proofs.recorder.Recorder.keep_bytes.Goals as goal

pub returns-then-not-has_room : goal.returns-then-not-has_room
returns-then-not-has_room c =
    let full : HasCommandRoom c.keep_writes.new.self 1 → ⊥ =
    λ r. false≢true (sym c.if-not-has_room.true ∙ c.has_room.ensures.1 r) in (
      c.common_value-value.result,
      c.common_value-value.ensures,
      part-is-cut _ _ _ _ _ c.len-start.result c.keep_writes.ensures c.len-start.ensures.commands
          c.len-start.ensures.replies full (omega arith) c.cut.ensures.missed c.cut.ensures.cut,
    )

pub returns-else-not-has_room : goal.returns-else-not-has_room
returns-else-not-has_room c = (
  c.common_value-value.result,
  c.common_value-value.ensures,
  part-is-kept _ _ _ _ c.keep_writes.ensures (c.has_room.ensures.0 c.if-not-has_room.false),
)
