use Rattle.std.proofs.Common.{◌≡◌, ◌<◌, ◌≤◌, ◌∙◌, [], length, ap, arith}
use Rattle.iox2_contents.specs.SlotContents.{open_count}
use Rattle.iox2_contents.proofs.SlotSums.{changed-long}
use Rattle.iox2_machine_tests.proofs.Starts.{open-within, some-weaker}
use Rattle.iox2_machine_tests.proofs.tests.starts.start.Goals as goal

pub start-requires-clause-few : goal.start-requires-clause-few
start-requires-clause-few g c =
    some-weaker c.args.contents.now c.args.slot (λ content. (c.args.len ≤ content.room) × (content.cells ≡ [])
    × (0 < content.lists → length c.args.contents.now < content.lists))
    (λ content. 0 < content.lists → open_count c.args.contents.now < content.lists) c.requires
    (λ content has some. omega (arith, has.2 some, open-within c.args.contents.now))

pub returns-clause-len : goal.returns-clause-len
returns-clause-len g c = ap length c.start.ensures.started ∙ changed-long c.args.contents.now c.args.slot _
