use Rattle.std.proofs.Common.{◌≡◌, drop}
use Rattle.iox2_domain.specs.Boxes.{boxes_of}
use Rattle.iox2_domain.proofs.boxes.Boxes.find.Given as goal

abbrev pub invariant-loop-kept : goal.invariant-loop-kept
invariant-loop-kept g l = boxes_of l.id l.kept-items ≡ boxes_of l.id (drop l.kept-index l.kept-items)
